-- Blocks with valid headers in lock, and runs of them. Assumes nothing.
use Prim.Native.Nat.{ℕ, ◌+◌, ◌*◌, ◌%◌, ◌≤◌, ◌<◌}
use mathlib.Core.Logic.{◌⊎◌, inl, inr}
use mathlib.Core.Path.{◌≡◌, refl, sym, ap, ap₂, ◌∙◌, subst}
use mathlib.Core.Bool.{Bool, true, false, cond, not, ◌&&◌}
use mathlib.Core.List.{List, ◌++◌}
use native.Mathlib.Omega.{arith}
use native.Mathlib.Nat.{add-zero}
use lib.Dec.{T, ltb, leb}
use lib.ListN.{length, take, drop}
use borrow.Author.Tests.{lt-ltb, le-ltb, lt-leb}
use Rattle.bits.specs.Bits.{bit, line_bits}
use Rattle.bits.proofs.Laws.{by_lt}
use Rattle.block.specs.Block.{two_words, decoded, class_of, kind_for, kind_in, is_error}
use Rattle.block.proofs.Classes.{class_no_header}
use Rattle.block.specs.declared.Edition.{Edition}
use Rattle.block.specs.declared.Edition.TheVariants.{Old, New}
use Rattle.block.specs.declared.Kind.{Kind}
use Rattle.block.specs.declared.Class.{Class}
use Rattle.scrambler.specs.Scrambler.{line_after}
use Rattle.carrying.specs.Carrying.{Takes}
use Rattle.carrying.specs.declared.Taken.{Taken}
use Rattle.vectors.specs.Vector.{vector_bytes}
use Rattle.vectors.specs.declared.Vector.{Vector}
use Rattle.lock.specs.Lock.{lock_of, slips_of}
use Rattle.lock.specs.Rate.{rate_of}
use Rattle.diagrams.specs.Diagram.{diagram_of, after_idle, after_data, follows}
use Rattle.lock.specs.declared.Rate.{Rate}
use Rattle.diagrams.specs.declared.State.{State}
use Rattle.diagrams.specs.declared.State.TheVariants.{Init, Control, Data}
use Rattle.lock.proofs.InLock.{lock_valid, lock_stays, no_slip, rate_valid}
use Rattle.receiving.specs.Machine.{link_of, tested_of, valid_of}
use Rattle.receiving.specs.Receive.{lets_end, state_of, answer_in, decodes, errs}
use Rattle.receiving.specs.Counted.{counted, hand_out, decoded_out}
use Rattle.receiving.specs.Loop.{tested_in, Turns, held_bytes}
use Rattle.receiving.specs.Ranges.{InRange}
use Rattle.lock_steps.specs.InLock.{InLock, GoesTo, Comes, Is, stretch_state, advanced_of, ran_of, Steps}
use Rattle.lock_steps.specs.declared.Run.{Run}
use Rattle.receiving.specs.declared.Link.{Link}
use Rattle.receiving.specs.declared.Held.{Held}
use Rattle.receiving.specs.declared.Handed.{Handed}
use Rattle.receiving.specs.declared.Progress.{Progress}
use Rattle.receiving.proofs.Counted.{free, counted_is, one_more, out_decoded}
use Rattle.receiving.proofs.Settle.{as_decoded, held_put, held_ten}
use Rattle.receiving.proofs.Turning.{turn_block, held_fits}
use Rattle.receiving.proofs.Stretching.{never, block_with, whole_block, whole_taken}

-- ---- where a block that is held goes

-- data goes on to data, idles to idles
pub data_data : (e : Bool) → diagram_of Data Kind.D e ≡ Data
unfolding diagram_of after_data
data_data e = refl

pub control_control : (e : Bool) → diagram_of Control Kind.C e ≡ Control
unfolding diagram_of after_idle
control_control e = refl

-- ---- one block with a valid header

module _ (line room : List ℕ) (p : Progress) (header payload : ℕ) (cm : Comes line room p header payload) where
  -- the link
  abbrev l : Link
  l = p.receiver.link

  -- it stays locked
  locked_still : (lock_of l.lock (valid_of header)).locked ≡ true
  locked_still =
      ap (λ (v : Bool). (lock_of l.lock v).locked) cm.valid
      ∙ lock_stays l.lock cm.under.range.tested cm.under.range.invalid cm.lock.locked

  -- .. and not high
  low_still : (rate_of l.rate true true true).high ≡ false
  low_still = ap (λ (r : Rate). r.high) (sym (rate_valid l.rate cm.more cm.lock.few cm.lock.high))

  -- the link after the block
  abbrev linked : Link
  linked =
      record { edition = l.edition; lock = lock_of l.lock true; rate = rate_of l.rate true true true; history = line_after payload l.history }

  link_is : linked ≡ link_of l header payload
  unfolding link_of
  link_is =
      λ i. record {
        edition = l.edition;
        lock = lock_of l.lock (sym cm.valid i);
        rate = rate_of l.rate (sym cm.lock.locked i) (sym locked_still i) (sym cm.valid i);
        history = line_after payload l.history;
      }

  module _ (k : Class) (v : Vector) (is : Is p header payload k v) where
    -- the block, held
    abbrev holds : Held
    holds = record { on = true; slipped = false; class = k; vector = v }

    held_is : tested_in holds ≡ tested_of l header payload
    unfolding tested_in tested_of
    held_is =
        λ i. record {
          on = on i;
          slipped = (sym (no_slip l.lock cm.under.range.invalid) ∙ ap (slips_of l.lock) (sym cm.valid)) i;
          class = is.class i;
          vector = is.vector i;
        }
      where
        on : true ≡ (link_of l header payload).lock.locked && not (link_of l header payload).rate.high
        on =
            ap₂ (λ (a b : Bool). a && not b) (sym (ap (λ (x : Link). x.lock.locked) (sym link_is) ∙ lock_stays l.lock cm.under.range.tested cm.under.range.invalid cm.lock.locked))
            (sym (ap (λ (x : Link). x.rate.high) (sym link_is) ∙ low_still))

    -- it is counted as tested, and for no reason
    counts_are : (advanced_of p (line_after payload l.history) p.receiver.state k v p.handed).counts ≡ counted p.counts (tested_in holds)
    unfolding tested_in
    counts_are =
        let c = p.counts in
        counted_is c (tested_in holds) 0 _ refl
        ((λ i. record { tested = c.tested + 1; slips = sym (add-zero c.slips) i; headers = c.headers; types = c.types; codes = c.codes; sets = c.sets })
        ∙ free (one_more c 0) k (subst (λ (b : Bool). T (not b)) (sym is.good) tt))

    -- what is taken from the line
    abbrev takes : Taken
    takes = whole_block p header payload

    taken_is : Takes (line_bits line) p.pos p.receiver.skip p.receiver.carried takes
    taken_is = whole_taken line p header payload cm.under.sound cm.lock.skip cm.lock.none (omega (arith, cm.here)) cm.header cm.payload

    -- the vector of the block held fits the room
    pub one_fits : p.at + 10 ≤ length room
    one_fits =
        let have : length (held_bytes p.receiver.have p.receiver.state p.receiver.held (lets_end (tested_in holds))) ≡ 10 =
        ap (λ (b : Bool). length (held_bytes b p.receiver.state p.receiver.held (lets_end (tested_in holds)))) cm.lock.have
        ∙ held_ten p.receiver.state p.receiver.held (lets_end (tested_in holds)) in
        omega (arith, have, held_fits line room p cm.under takes taken_is (block_with header payload) refl linked holds link_is held_is)

    -- one turn
    module _ (s : State) (w : Vector) (n : Handed) (room' : List ℕ)
        (es : s ≡ state_of p.receiver.state (tested_in p.receiver.held) (lets_end (tested_in holds)))
        (ew : vector_bytes w ≡ answer_in s (vector_bytes p.receiver.held.vector))
        (er : room' ≡ take p.at room ++ (vector_bytes w ++ drop (p.at + 10) room))
        (en : n ≡ hand_out p.handed (record { state = s; block = tested_in p.receiver.held })) where
      abbrev next : Progress
      next = advanced_of p (line_after payload l.history) s k v n

      turn_one : Turns line room room' p next
      turn_one =
          let r = p.receiver in
          let put = held_put r.have r.state r.held (lets_end (tested_in holds)) room room' p.at p.handed n s w cm.lock.have es ew er en in
          turn_block line room p cm.under takes taken_is (block_with header payload) refl linked holds link_is held_is s (p.at + 10) _ room' put.0 put.1 put.2 n put.3 counts_are

      pub step_one : Steps line room room' payload p next
      step_one =
          record {
            turns = turn_one;
            lock =
                record {
                  skip = refl;
                  none = cm.lock.none;
                  have = refl;
                  on = refl;
                  locked = lock_stays l.lock cm.under.range.tested cm.under.range.invalid cm.lock.locked;
                  high = low_still;
                  few = subst (λ (r : Rate). r.invalid < 16) (rate_valid l.rate cm.more cm.lock.few cm.lock.high) cm.lock.few;
                  stays = refl;
                };
            pos = refl;
            blocks = ap (λ (r : Rate). r.blocks) (sym (rate_valid l.rate cm.more cm.lock.few cm.lock.high));
            history = refl;
          }

-- ---- what the code's tests tell

-- a block that is not bad has a valid header
pub good_valid : (ed : Edition) (h x : ℕ) (k : Class) → h < 4 → k ≡ class_of ed h x → is_error (kind_in k) ≡ false → valid_of h ≡ true
unfolding valid_of bit
good_valid ed h x k small e g =
    by_lt h 1 (λ l. never (sym g ∙ bad (λ q. omega arith) (λ q. omega arith)))
    (λ l. by_lt h 2 (λ m. let z : h ≡ 1 = omega arith in ap valid_of z)
    (λ m. by_lt h 3 (λ n. let z : h ≡ 2 = omega arith in ap valid_of z) (λ n. never (sym g ∙ bad (λ q. omega arith) (λ q. omega arith)))))
  where
    bad : (h ≡ 2 → ⊥) → (h ≡ 1 → ⊥) → is_error (kind_in k) ≡ true
    bad n m = ap (λ (z : Class). is_error (kind_in z)) (e ∙ class_no_header ed h x n m)

-- a block of eight idles
idle_block : (ed : Edition) → (Class.C ≡ class_of ed 1 0x1e) × (two_words 15 0x07070707 15 0x07070707 ≡ decoded ed 1 0x1e)
unfolding class_of decoded kind_for
idle_block Old = (refl, refl)
idle_block New = (refl, refl)

pub idle_answer : (ed : Edition) (x : ℕ) → x ≡ 0x1e → (Class.C ≡ class_of ed 1 x) × (two_words 15 0x07070707 15 0x07070707 ≡ decoded ed 1 x)
idle_answer ed x e = subst (λ (x : ℕ). (Class.C ≡ class_of ed 1 x) × (two_words 15 0x07070707 15 0x07070707 ≡ decoded ed 1 x)) (sym e) (idle_block ed)

-- ---- a stretch of blocks, by their header

-- it stays in its state
pub stays_data : (h : ℕ) (s : State) (k : Class) → h ≡ 2 → s ≡ Data → k ≡ Class.D → GoesTo (stretch_state h) s k
unfolding GoesTo
stays_data h s k eh es ek = λ e. ap₂ (λ (s : State) (k : Class). diagram_of s (kind_in k) e) es ek ∙ data_data e ∙ sym (ap stretch_state eh)

pub stays_idle : (h : ℕ) (s : State) (k : Class) → h ≡ 1 → s ≡ Control → k ≡ Class.C → GoesTo (stretch_state h) s k
unfolding GoesTo
stays_idle h s k eh es ek = λ e. ap₂ (λ (s : State) (k : Class). diagram_of s (kind_in k) e) es ek ∙ control_control e ∙ sym (ap stretch_state eh)

-- where they are not data blocks
pub not_data : {A B : Type 0} → A ⊎ B → (A → ⊥) → B
not_data (inl a) n = absurd (n a)
not_data (inr b) n = b

-- ---- one block, by the code's values

module _ (line room : List ℕ) (p : Progress) (header payload : ℕ) (cm : Comes line room p header payload) (k : Class) (v : Vector) (is : Is p header payload k v)
    (history : ℕ) (eh : history ≡ line_after payload p.receiver.link.history) (room' : List ℕ) where
  -- the block held was tested in lock
  held_on : (e : Bool) → diagram_of p.receiver.state (kind_in p.receiver.held.class) e ≡ state_of p.receiver.state (tested_in p.receiver.held) e
  unfolding state_of tested_in
  held_on e = sym (ap (λ (b : Bool). cond b (diagram_of p.receiver.state (kind_in p.receiver.held.class) e) Init) cm.lock.on)

  -- it goes to a state that answers it as decoded, whatever follows
  step_steady : (s : State) (n : Handed) → GoesTo s p.receiver.state p.receiver.held.class → decodes s ≡ true → errs s ≡ false
      → n ≡ decoded_out p.handed p.receiver.held.class → room' ≡ take p.at room ++ (vector_bytes p.receiver.held.vector ++ drop (p.at + 10) room)
      → Steps line room room' payload p (advanced_of p history s k v n)
  unfolding GoesTo tested_in lets_end
  step_steady s n goes d e en er =
      subst (λ (h : ℕ). Steps line room room' payload p (advanced_of p h s k v n)) (sym eh)
      (step_one line room p header payload cm k v is s p.receiver.held.vector n room'
      (sym (goes (follows (kind_in k))) ∙ held_on (follows (kind_in k))) (sym (as_decoded s _ d)) er
      (en ∙ out_decoded p.handed s (tested_in p.receiver.held) d e))

  -- it goes to the state that the diagram says
  step_general : (s : State) (w : Vector) (n : Handed)
      → s ≡ diagram_of p.receiver.state (kind_in p.receiver.held.class) (follows (kind_in k))
      → vector_bytes w ≡ answer_in s (vector_bytes p.receiver.held.vector)
      → n ≡ hand_out p.handed (record { state = s; block = tested_in p.receiver.held })
      → room' ≡ take p.at room ++ (vector_bytes w ++ drop (p.at + 10) room)
      → Steps line room room' payload p (advanced_of p history s k v n)
  unfolding tested_in lets_end
  step_general s w n es ew en er =
      subst (λ (h : ℕ). Steps line room room' payload p (advanced_of p h s k v n)) (sym eh)
      (step_one line room p header payload cm k v is s w n room' (es ∙ held_on (follows (kind_in k))) ew er en)

-- ---- a run of blocks

-- a run with one block more
abbrev pub next_of : Run → (history : ℕ) → State → Class → Vector → Handed → Run
next_of s history t k v n = record { at = s.at + 10; count = s.count + 1; history = history; state = t; class = k; vector = v; handed = n }

-- the invalid headers that are counted on: of t tested ones the last 64 begin anew
kept_next : (t i : ℕ) → cond (leb 64 (t % 64 + 1)) 0 (cond (ltb t 64) i 0) ≡ cond (ltb (t + 1) 64) i 0
kept_next t i =
    by_lt (t + 1) 64
    (λ l.
    let e : t % 64 ≡ t = omega arith in
    rw (e, lt-leb 64 (t + 1) l, lt-ltb t 64 (omega arith), lt-ltb (t + 1) 64 l))
    (λ l. rw (le-ltb (t + 1) 64 l)
    (by_lt t 64
    (λ m.
    let e : t % 64 ≡ 63 = omega arith in
    rw e)
    (λ m. rw (le-ltb t 64 m) (both (leb 64 (t % 64 + 1))))))
  where
    both : (b : Bool) → ◌≡◌ {A = ℕ} (cond b 0 0) 0
    both true = refl
    both false = refl

-- the receiver that it has come to takes that block
pub run_next : (p : Progress) (s : Run) (history : ℕ) (t : State) (k : Class) (v : Vector) (n : Handed) → InRange (ran_of p s).receiver.link → InLock (ran_of p s)
    → (ran_of p s).receiver.link.rate.blocks + 1 < 19531 → advanced_of (ran_of p s) history t k v n ≡ ran_of p (next_of s history t k v n)
run_next p s history t k v n range il more =
    λ i. record {
      receiver =
          record {
            skip = false;
            carried = p.receiver.carried;
            link = record { edition = p.receiver.link.edition; lock = lock i; rate = rate i; history = history };
            state = t;
            have = true;
            held = record { on = true; slipped = false; class = k; vector = v };
          };
      pos = pos i;
      at = s.at + 10;
      counts =
          record {
            tested = one_more_lem p.counts.tested i;
            slips = p.counts.slips;
            headers = p.counts.headers;
            types = p.counts.types;
            codes = p.counts.codes;
            sets = p.counts.sets;
          };
      handed = n;
    }
  where
    one_more_lem : (x : ℕ) → x + s.count + 1 ≡ x + (s.count + 1)
    one_more_lem x = omega arith

    pos : p.pos + 66 * s.count + 66 ≡ p.pos + 66 * (s.count + 1)
    pos = omega arith

    tested : ((p.receiver.link.lock.tested + s.count) % 64 + 1) % 64 ≡ (p.receiver.link.lock.tested + (s.count + 1)) % 64
    tested = omega arith

    lock : lock_of (ran_of p s).receiver.link.lock true ≡ (ran_of p (next_of s history t k v n)).receiver.link.lock
    lock =
        sym (lock_valid (ran_of p s).receiver.link.lock range.tested range.invalid refl)
        ∙ (λ i. record {
          tested = tested i;
          invalid =
              (kept_next (p.receiver.link.lock.tested + s.count) p.receiver.link.lock.invalid
              ∙ ap (λ (x : ℕ). cond (ltb x 64) p.receiver.link.lock.invalid 0) (one_more_lem p.receiver.link.lock.tested)) i;
          locked = true;
        })

    rate : rate_of (ran_of p s).receiver.link.rate true true true ≡ (ran_of p (next_of s history t k v n)).receiver.link.rate
    rate =
        sym (rate_valid (ran_of p s).receiver.link.rate more il.few refl)
        ∙ (λ i. record { blocks = one_more_lem p.receiver.link.rate.blocks i; invalid = p.receiver.link.rate.invalid; high = false })

-- a run of no block
pub run_none : (p : Progress) (s : Run) → InLock p → p.receiver.link.lock.tested < 64
    → s ≡ record { at = p.at; count = 0; history = p.receiver.link.history; state = p.receiver.state; class = p.receiver.held.class; vector = p.receiver.held.vector; handed = p.handed }
    → ran_of p s ≡ p
run_none p s il small e =
    ap (ran_of p) e
    ∙ (λ i. record {
      receiver =
          record {
            skip = sym il.skip i;
            carried = p.receiver.carried;
            link =
                record {
                  edition = p.receiver.link.edition;
                  lock = record { tested = tested i; invalid = invalid i; locked = sym il.locked i };
                  rate = record { blocks = add-zero p.receiver.link.rate.blocks i; invalid = p.receiver.link.rate.invalid; high = sym il.high i };
                  history = p.receiver.link.history;
                };
            state = p.receiver.state;
            have = sym il.have i;
            held = record { on = sym il.on i; slipped = sym il.stays i; class = p.receiver.held.class; vector = p.receiver.held.vector };
          };
      pos = pos i;
      at = p.at;
      counts =
          record {
            tested = add-zero p.counts.tested i;
            slips = p.counts.slips;
            headers = p.counts.headers;
            types = p.counts.types;
            codes = p.counts.codes;
            sets = p.counts.sets;
          };
      handed = p.handed;
    })
  where
    tested : (p.receiver.link.lock.tested + 0) % 64 ≡ p.receiver.link.lock.tested
    tested = omega arith

    invalid : cond (ltb (p.receiver.link.lock.tested + 0) 64) p.receiver.link.lock.invalid 0 ≡ p.receiver.link.lock.invalid
    invalid = rw (lt-ltb (p.receiver.link.lock.tested + 0) 64 (omega arith))

    pos : p.pos + 66 * 0 ≡ p.pos
    pos = omega arith

-- one block of a run, by the code's values
module _ (line room : List ℕ) (p : Progress) (s : Run) (header payload : ℕ) (cm : Comes line room (ran_of p s) header payload) (k : Class) (v : Vector)
    (is : Is (ran_of p s) header payload k v) (history : ℕ) (eh : history ≡ line_after payload s.history) (room' : List ℕ) where
  onward : (t : State) (n : Handed) → Steps line room room' payload (ran_of p s) (advanced_of (ran_of p s) history t k v n)
      → Steps line room room' payload (ran_of p s) (ran_of p (next_of s history t k v n))
  onward t n = subst (Steps line room room' payload (ran_of p s)) (run_next p s history t k v n cm.under.range cm.lock cm.more)

  pub run_steady : (t : State) (n : Handed) → GoesTo t s.state s.class → decodes t ≡ true → errs t ≡ false → n ≡ decoded_out s.handed s.class
      → room' ≡ take s.at room ++ (vector_bytes s.vector ++ drop (s.at + 10) room) → Steps line room room' payload (ran_of p s) (ran_of p (next_of s history t k v n))
  run_steady t n goes d e en er = onward t n (step_steady line room (ran_of p s) header payload cm k v is history eh room' t n goes d e en er)

  pub run_general : (t : State) (w : Vector) (n : Handed) → t ≡ diagram_of s.state (kind_in s.class) (follows (kind_in k))
      → vector_bytes w ≡ answer_in t (vector_bytes s.vector)
      → n ≡ hand_out s.handed (record { state = t; block = tested_in (ran_of p s).receiver.held })
      → room' ≡ take s.at room ++ (vector_bytes w ++ drop (s.at + 10) room) → Steps line room room' payload (ran_of p s) (ran_of p (next_of s history t k v n))
  run_general t w n et ew en er = onward t n (step_general line room (ran_of p s) header payload cm k v is history eh room' t w n et ew en er)
