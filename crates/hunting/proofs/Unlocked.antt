-- Blocks while not locked. Assumes nothing.
use Prim.Native.Nat.{ℕ, ◌+◌, ◌-◌, ◌*◌, ◌/◌, ◌%◌, ◌≤◌, ◌<◌}
use mathlib.Core.Path.{◌≡◌, refl, sym, ap, ap₂, ◌∙◌, subst, subst₂}
use mathlib.Core.Bool.{Bool, true, false, cond, not, ◌&&◌}
use mathlib.Core.List.{List, [], ◌∷◌, ◌++◌}
use native.Mathlib.Omega.{arith}
use native.Mathlib.Nat.{add-zero, add_assoc, mul-zero, zero-mul}
use lib.Dec.{T, eqb}
use lib.ListN.{length, get_or, take, drop, length-drop}
use lib.Seq.{length-take-le}
use borrow.Author.Tests.{lt-leb, ne_eqb}
use Rattle.bits.specs.Bits.{bit, line_bit, line_bits}
use Rattle.bits.proofs.Laws.{by_lt, number_lt}
use Rattle.bits.proofs.Lists.{line_bit_lt, length_line_bits}
use Rattle.block.specs.Block.{local_fault_vector, decoded, class_of, kind_in, is_error}
use Rattle.block.specs.Rows.{row_of}
use Rattle.block.specs.declared.Edition.{Edition}
use Rattle.block.specs.declared.Class.{Class}
use Rattle.block.specs.declared.Reason.TheVariants.{Header, BlockType}
use Rattle.scrambler.specs.Scrambler.{descrambled, line_after}
use Rattle.std.specs.Prelude.{Option, Some, None}
use Rattle.std.specs.Option.{is_some}
use Rattle.quick_decoding.specs.AtOnce.{DecodedAtOnce}
use Rattle.quick_decoding.specs.declared.Decoded.{Decoded}
use Rattle.carrying.specs.Carrying.{Takes}
use Rattle.carrying.specs.declared.Taken.{Taken}
use Rattle.carrying.proofs.Laws.{bits_none, takes_skip}
use Rattle.block.specs.Types.{types}
use Rattle.vectors.specs.Vector.{vector_bytes}
use Rattle.vectors.specs.declared.Vector.{Vector}
use Rattle.decoding.proofs.Rows.{data_answer, no_type, no_header}
use Rattle.decoding.proofs.Looking.{no_row}
use Rattle.lock.specs.Lock.{lock_fresh, lock_of, slips_of, counted_of, invalid_of}
use Rattle.lock.specs.Rate.{rate_fresh, rate_of}
use Rattle.diagrams.specs.Diagram.{diagram_of}
use Rattle.lock.specs.declared.Lock.{Lock}
use Rattle.lock.specs.declared.Rate.{Rate}
use Rattle.diagrams.specs.declared.State.{State}
use Rattle.diagrams.specs.declared.State.TheVariants.{Init}
use Rattle.blocks.specs.Blocks.{header_at, payload_at}
use Rattle.receiving.specs.Machine.{Run, Tested, run, link_of, tested_of, valid_of, header_of, payload_of}
use Rattle.receiving.specs.Receive.{lets_end, state_of, answer_in, counts_of, handed_of}
use Rattle.receiving.specs.Parts.{plus, plus_handed, settle, bytes_of}
use Rattle.receiving.specs.Counted.{counted, hand_out}
use Rattle.receiving.specs.Loop.{tested_in, held_in, feed_in, Upshot, upshot_of, upshot, Under, Turns, held_state, held_bytes, held_handed}
use Rattle.hunting.specs.Unlocked.{Hunts, after_search, miss_of, control_of, untyped_of, Tests}
use Rattle.receiving.specs.declared.Link.{Link}
use Rattle.receiving.specs.declared.Held.{Held}
use Rattle.receiving.specs.declared.Counts.{Counts}
use Rattle.receiving.specs.declared.Handed.{Handed}
use Rattle.receiving.specs.declared.Progress.{Progress}
use Rattle.hunting.specs.declared.Search.{Search}
use Rattle.receiving.proofs.Runs.{run_behind}
use Rattle.receiving.proofs.Counted.{free, one_header_lem, one_type, counted_is, one_more, out_init}
use Rattle.receiving.proofs.Settle.{held_put, held_ten, settle_bytes, settle_handed, settle_state, settle_held}
use Rattle.receiving.proofs.Turning.{feed_of, fill_run, turn_wait, moved, turn_block, held_fits, upshot_same}
use Rattle.receiving.proofs.Stretching.{block_with, whole_block, whole_taken, carried_none, turns_more}

-- ---- a block held that was not tested in lock is answered as Local Fault, whichever it is

-- the receiver with another block held
abbrev holding : Progress → Held → Progress
holding p h =
    record {
      receiver =
          record {
            skip = p.receiver.skip;
            carried = p.receiver.carried;
            link = p.receiver.link;
            state = p.receiver.state;
            have = p.receiver.have;
            held = h;
          };
      pos = p.pos;
      at = p.at;
      counts = p.counts;
      handed = p.handed;
    }

module _ (w : List ℕ) (s : State) (c : Counts) (n : Handed) (t : Tested) (r : Run) (h : Held) (off : h.on ≡ false) where
  -- its state
  off_state : (e : Bool) → held_state true s h e ≡ Init
  unfolding state_of tested_in
  off_state e = rw off

  -- its bytes
  off_bytes : (e : Bool) → held_bytes true s h e ≡ local_fault_vector
  unfolding answer_in
  off_bytes e = ap (λ (z : State). answer_in z (vector_bytes h.vector)) (off_state e)

  -- it adds nothing to the counts
  off_handed : (e : Bool) → held_handed true n s h e ≡ n
  off_handed e = ap (λ (z : State). hand_out n (record { state = z; block = tested_in h })) (off_state e) ∙ sym (out_init n (tested_in h))

  -- what comes of it, where a block follows
  abbrev from_init : Upshot
  from_init =
      let ts = t ∷ r.tested in
      record {
        bytes = w ++ (local_fault_vector ++ bytes_of (settle Init ts).judged);
        state = (settle Init ts).state;
        held = (settle Init ts).held;
        counts = plus c (counts_of ts);
        handed = plus_handed n (handed_of (settle Init ts).judged);
        end = r.end;
      }

  off_upshot : upshot_of w s (tested_in h ∷ []) c n (run_behind (t ∷ []) r) ≡ from_init
  off_upshot =
      let ts = r.tested in
      let e = lets_end t in
      upshot_same _ _ _ _ _ _ _ _ _ _ r.end
      (ap (λ (l : List ℕ). w ++ l)
      (settle_bytes s h t ts true ∙ ap₂ (λ (l : List ℕ) (z : State). l ++ bytes_of (settle z (t ∷ ts)).judged) (off_bytes e) (off_state e)))
      (settle_state s h t ts true ∙ ap (λ (z : State). (settle z (t ∷ ts)).state) (off_state e))
      (settle_held s h t ts true ∙ ap (λ (z : State). (settle z (t ∷ ts)).held) (off_state e))
      refl
      (sym (settle_handed s h t ts n true) ∙ ap₂ (λ (m : Handed) (z : State). plus_handed m (handed_of (settle z (t ∷ ts)).judged)) (off_handed e) (off_state e))

-- the block that comes next
module _ (line : List ℕ) (p : Progress) (skip : p.receiver.skip ≡ false) (none : p.receiver.carried.count ≡ 0) (here : p.pos + 66 ≤ 8 * length line) where
  abbrev B : List ℕ
  B = line_bits line

  abbrev bits : List ℕ
  bits = [] ++ take (p.pos + 66 - p.pos) (drop p.pos B)

  abbrev next_tested : Tested
  next_tested = tested_of p.receiver.link (header_of bits) (payload_of bits)

  abbrev next_left : Run
  next_left = run (feed_of [] (slips_of p.receiver.link.lock (valid_of (header_of bits))) (link_of p.receiver.link (header_of bits) (payload_of bits))) (drop (p.pos + 66) B)

  run_one : run (feed_in p.receiver) (drop p.pos B) ≡ run_behind (next_tested ∷ []) next_left
  unfolding feed_in feed_of
  run_one =
      let r = p.receiver in
      let few : length (take (p.pos + 66 - p.pos) (drop p.pos B)) ≡ 66 =
      length-take-le (p.pos + 66 - p.pos) (drop p.pos B) (omega (arith, length-drop p.pos B, length_line_bits line)) ∙ omega arith in
      ap₂ (λ (l : List ℕ) (b : Bool). run (feed_of l b r.link) (drop p.pos B)) (bits_none r.carried none) skip
      ∙ fill_run B p.pos (p.pos + 66) [] r.link (header_of bits) (payload_of bits) (omega arith) (omega arith) few refl refl

-- so another may stand for it, where a block follows
module _ (line room : List ℕ) (p : Progress) (skip : p.receiver.skip ≡ false) (none : p.receiver.carried.count ≡ 0) (have : p.receiver.have ≡ true) (here : p.pos + 66 ≤ 8 * length line) where
  abbrev with_held : Held → Upshot
  with_held k =
      upshot_of (take p.at room) p.receiver.state (cond p.receiver.have (tested_in k ∷ []) []) p.counts p.handed
      (run (feed_in p.receiver) (drop p.pos (line_bits line)))

  with_off : (k : Held) (off : k.on ≡ false) → with_held k ≡ from_init (take p.at room) p.receiver.state p.counts p.handed (next_tested line p skip none here) (next_left line p skip none here) k off
  with_off k off =
      ap₂ (λ (b : Bool) (z : Run). upshot_of (take p.at room) p.receiver.state (cond b (tested_in k ∷ []) []) p.counts p.handed z) have (run_one line p skip none here)
      ∙ off_upshot (take p.at room) p.receiver.state p.counts p.handed (next_tested line p skip none here) (next_left line p skip none here) k off

  off_same : (h : Held) → p.receiver.held.on ≡ false → h.on ≡ false → upshot line room (holding p h) ≡ upshot line room p
  unfolding upshot held_in feed_in
  off_same h off off' = with_off h off' ∙ sym (with_off p.receiver.held off)

-- ---- one block

-- a valid header, or an invalid one
abbrev lock_after : ℕ → ℕ → Lock
lock_after tested header = record { tested = (tested + 1) * (1 - miss_of header); invalid = 0; locked = false }

-- what a header does to the lock, while not locked
lock_hunts : (tested header : ℕ) → header < 4 → tested < 63 → lock_after tested header ≡ lock_of (record { tested = tested; invalid = 0; locked = false }) (valid_of header)
unfolding lock_of slips_of counted_of invalid_of valid_of bit
lock_hunts tested header small few =
    by_lt header 1 (λ l. let z : header ≡ 0 = omega arith in rw z (none 0))
    (λ l. by_lt header 2 (λ m. let z : header ≡ 1 = omega arith in rw (z, lt-leb 64 (tested + 1) (omega arith)) one)
    (λ m. by_lt header 3 (λ n. let z : header ≡ 2 = omega arith in rw (z, lt-leb 64 (tested + 1) (omega arith)) one) (λ n. let z : header ≡ 3 = omega arith in rw z (none 0))))
  where
    none : (i : ℕ) → ◌≡◌ {A = Lock} (record { tested = (tested + 1) * 0; invalid = 0; locked = false }) lock_fresh
    none i = let e : (tested + 1) * 0 ≡ 0 = omega arith in ap (λ (n : ℕ). record { tested = n; invalid = 0; locked = false }) e

    one : ◌≡◌ {A = Lock} (record { tested = (tested + 1) * 1; invalid = 0; locked = false }) (record { tested = tested + 1; invalid = 0; locked = false })
    one = let e : (tested + 1) * 1 ≡ tested + 1 = omega arith in ap (λ (n : ℕ). record { tested = n; invalid = 0; locked = false }) e

-- whether it slips
slip_hunts : (tested header : ℕ) → header < 4 → eqb (miss_of header) 1 ≡ slips_of (record { tested = tested; invalid = 0; locked = false }) (valid_of header)
unfolding slips_of invalid_of valid_of bit
slip_hunts tested header small =
    by_lt header 1 (λ l. let z : header ≡ 0 = omega arith in rw z)
    (λ l. by_lt header 2 (λ m. let z : header ≡ 1 = omega arith in rw z)
    (λ m. by_lt header 3 (λ n. let z : header ≡ 2 = omega arith in rw z) (λ n. let z : header ≡ 3 = omega arith in rw z)))

-- there is no window
rate_hunts : (r : Rate) (after valid : Bool) → rate_fresh ≡ rate_of r false after valid
unfolding rate_of
rate_hunts r true valid = refl
rate_hunts r false valid = refl

-- a header that is not a control header counts for no type
untyped_not : (h row : ℕ) → control_of h ≡ 0 → untyped_of h row ≡ 0
untyped_not h row e = go (eqb row 0)
  where
    go : (b : Bool) → cond b (control_of h) 0 ≡ 0
    go true = e
    go false = refl

-- a control header with no type
no_row_there : (h row : ℕ) → control_of h * row ≡ 0 → h ≡ 1 → row ≡ 0
no_row_there h row e z = let q : control_of 1 * row ≡ 0 = ap (λ (n : ℕ). control_of n * row) (sym z) ∙ e in omega arith

errors : Vector
errors = record { c0 = 15; d0 = 0xfefefefe; c1 = 15; d1 = 0xfefefefe }

-- a block by its header, a control block of no type among them
pub tests_any : (ed : Edition) (header x : ℕ) → header < 4 → control_of header * get_or types (x % 256) 0 ≡ 0 → Tests ed header x
unfolding errors
tests_any ed header x small e =
    by_lt header 1 (λ l. let z : header ≡ 0 = omega arith in subst (λ (h : ℕ). Tests ed h x) (sym z) (bad 0 (λ q. omega arith) (λ q. omega arith) refl (untyped_not 0 (get_or types (x % 256) 0) refl)))
    (λ l. by_lt header 2 (λ m. let z : header ≡ 1 = omega arith in subst (λ (h : ℕ). Tests ed h x) (sym z) (type (no_row_there header (get_or types (x % 256) 0) e z)))
    (λ m. by_lt header 3 (λ n. let z : header ≡ 2 = omega arith in subst (λ (h : ℕ). Tests ed h x) (sym z) data_block_lem)
    (λ n. let z : header ≡ 3 = omega arith in subst (λ (h : ℕ). Tests ed h x) (sym z) (bad 3 (λ q. omega arith) (λ q. omega arith) refl (untyped_not 3 (get_or types (x % 256) 0) refl)))))
  where
    bad : (h : ℕ) → (h ≡ 2 → ⊥) → (h ≡ 1 → ⊥) → miss_of h ≡ 1 → untyped_of h (get_or types (x % 256) 0) ≡ 0 → Tests ed h x
    bad h n m em ec =
        record {
          class = Class.Bad Header;
          vector = errors;
          class_is = (no_header ed h x n m).0;
          vector_is = (no_header ed h x n m).1;
          counts =
              λ c.
              (λ i. record { tested = c.tested; slips = c.slips; headers = c.headers + em i; types = (ap (λ (k : ℕ). c.types + k) ec ∙ add-zero c.types) i; codes = c.codes; sets = c.sets })
              ∙ one_header_lem c;
        }

    type : get_or types (x % 256) 0 ≡ 0 → Tests ed 1 x
    type e =
        let t = no_type ed 1 x (row_of (x % 256)) refl refl (no_row x 0 (sym e) refl) in
        record {
          class = Class.Bad BlockType;
          vector = errors;
          class_is = t.0;
          vector_is = t.1;
          counts = λ c. (λ i. record { tested = c.tested; slips = c.slips; headers = add-zero c.headers i; types = c.types + untyped_of 1 (e i); codes = c.codes; sets = c.sets }) ∙ one_type c;
        }

    data_block_lem : Tests ed 2 x
    data_block_lem =
        record {
          class = Class.D;
          vector = record { c0 = 0; d0 = x % 4294967296; c1 = 0; d1 = x / 4294967296 };
          class_is = (data_answer ed 2 x refl).0;
          vector_is = (data_answer ed 2 x refl).1;
          counts =
              λ c. (λ i. record { tested = c.tested; slips = c.slips; headers = add-zero c.headers i; types = (ap (λ (k : ℕ). c.types + k) (untyped_not 2 (get_or types (x % 256) 0) refl) ∙ add-zero c.types) i; codes = c.codes; sets = c.sets }) ∙ free c Class.D tt;
        }

-- the receiver after the block
module _ (line room : List ℕ) (q : Progress) (u : Under line room q) (hq : Hunts q) (header payload : ℕ) (eh : header ≡ header_at line q.pos)
    (ep : payload ≡ payload_at line q.pos) (ahead : q.pos + 137 ≤ 8 * length line) (few : q.receiver.link.lock.tested < 63) (small : header < 4)
    (ts : Tests q.receiver.link.edition header (descrambled payload q.receiver.link.history)) where
  abbrev l : Link
  l = q.receiver.link

  lock_is : l.lock ≡ record { tested = l.lock.tested; invalid = 0; locked = false }
  lock_is = λ i. record { tested = l.lock.tested; invalid = hq.clean i; locked = hq.locked i }

  rate_is : l.rate ≡ rate_fresh
  rate_is = λ i. record { blocks = hq.blocks i; invalid = hq.misses i; high = hq.low i }

  abbrev linked : Link
  linked = record { edition = l.edition; lock = lock_after l.lock.tested header; rate = rate_fresh; history = line_after payload l.history }

  link_is : linked ≡ link_of l header payload
  unfolding link_of
  link_is =
      λ i. record {
        edition = l.edition;
        lock = (lock_hunts l.lock.tested header small few ∙ ap (λ (k : Lock). lock_of k (valid_of header)) (sym lock_is)) i;
        rate =
            (rate_hunts l.rate (lock_of l.lock (valid_of header)).locked (valid_of header)
            ∙ ap (λ (b : Bool). rate_of l.rate b (lock_of l.lock (valid_of header)).locked (valid_of header)) (sym hq.locked)) i;
        history = line_after payload l.history;
      }

  abbrev slipped : Bool
  slipped = eqb (miss_of header) 1

  abbrev holds : Held
  holds = record { on = false; slipped = slipped; class = ts.class; vector = ts.vector }

  held_is : tested_in holds ≡ tested_of l header payload
  unfolding tested_in tested_of
  held_is =
      λ i. record {
        on = ap (λ (b : Bool). b && not (link_of l header payload).rate.high) (ap (λ (x : Link). x.lock.locked) link_is) i;
        slipped = (slip_hunts l.lock.tested header small ∙ ap (λ (k : Lock). slips_of k (valid_of header)) (sym lock_is)) i;
        class = ts.class_is i;
        vector = ts.vector_is i;
      }

  abbrev counts : Counts
  counts =
      record {
        tested = q.counts.tested + 1;
        slips = q.counts.slips + miss_of header;
        headers = q.counts.headers + miss_of header;
        types = q.counts.types + untyped_of header (get_or types (descrambled payload q.receiver.link.history % 256) 0);
        codes = q.counts.codes;
        sets = q.counts.sets;
      }

  miss_one : miss_of header ≡ cond (eqb (miss_of header) 1) 1 0
  miss_one =
      by_lt header 1 (λ l. let z : header ≡ 0 = omega arith in rw z)
      (λ l. by_lt header 2 (λ m. let z : header ≡ 1 = omega arith in rw z)
      (λ m. by_lt header 3 (λ n. let z : header ≡ 2 = omega arith in rw z) (λ n. let z : header ≡ 3 = omega arith in rw z)))

  counts_are : counts ≡ counted q.counts (tested_in holds)
  unfolding tested_in
  counts_are = counted_is q.counts (tested_in holds) (miss_of header) counts miss_one (ts.counts (one_more q.counts (miss_of header)))

  taken_is : Takes (line_bits line) q.pos q.receiver.skip q.receiver.carried (whole_block q header payload)
  taken_is = whole_taken line q header payload u.sound hq.skip hq.none (omega (arith, ahead)) eh ep

  -- the vector of the block held fits the room
  pub hunt_fits : q.at + 10 ≤ length room
  hunt_fits =
      let have : length (held_bytes q.receiver.have q.receiver.state q.receiver.held (lets_end (tested_in holds))) ≡ 10 =
      ap (λ (b : Bool). length (held_bytes b q.receiver.state q.receiver.held (lets_end (tested_in holds)))) hq.have
      ∙ held_ten q.receiver.state q.receiver.held (lets_end (tested_in holds)) in
      omega (arith, have, held_fits line room q u (whole_block q header payload) taken_is (block_with header payload) refl linked holds link_is held_is)

  module _ (v : Vector) (ev : vector_bytes v ≡ local_fault_vector) (room' : List ℕ) (er : room' ≡ take q.at room ++ (vector_bytes v ++ drop (q.at + 10) room)) where
    -- it is tested
    abbrev first : Progress
    first = moved q (whole_block q header payload) linked holds Init (q.at + 10) counts q.handed

    turn_first : Turns line room room' q first
    unfolding state_of answer_in tested_in
    turn_first =
        let r = q.receiver in
        let put = held_put r.have r.state r.held (lets_end (tested_in holds)) room room' q.at q.handed q.handed Init v hq.have
        (sym (ap (λ (b : Bool). cond b (diagram_of r.state (kind_in r.held.class) (lets_end (tested_in holds))) Init) hq.off)) ev er (out_init q.handed (tested_in r.held)) in
        turn_block line room q u (whole_block q header payload) taken_is (block_with header payload) refl linked holds link_is held_is Init (q.at + 10) counts room' put.0 put.1 put.2 q.handed put.3 counts_are

    -- a bit is skipped, if it slipped
    abbrev after_slip : Progress
    after_slip =
        record {
          receiver = record { skip = false; carried = q.receiver.carried; link = linked; state = Init; have = true; held = holds };
          pos = q.pos + 66 + miss_of header;
          at = q.at + 10;
          counts = counts;
          handed = q.handed;
        }

    skips : Taken
    skips = record { block = None; carried = q.receiver.carried; next = q.pos + 66 + 1 }

    turn_slip : (b : Bool) → eqb (miss_of header) 1 ≡ b → Turns line room room' q after_slip
    unfolding skips
    turn_slip false e =
        let z : miss_of header ≡ 0 = miss_one ∙ ap (λ (b : Bool). cond b 1 0) e in
        subst (Turns line room room' q)
        (λ i. record {
          receiver = record { skip = e i; carried = q.receiver.carried; link = linked; state = Init; have = true; held = holds };
          pos = (sym (add-zero (q.pos + 66)) ∙ ap (λ (n : ℕ). q.pos + 66 + n) (sym z)) i;
          at = q.at + 10;
          counts = counts;
          handed = q.handed;
        })
        turn_first
    turn_slip true e =
        let z : miss_of header ≡ 1 = miss_one ∙ ap (λ (b : Bool). cond b 1 0) e in
        let k : Takes (line_bits line) (q.pos + 66) (eqb (miss_of header) 1) q.receiver.carried skips =
        subst (λ (b : Bool). Takes (line_bits line) (q.pos + 66) b q.receiver.carried skips) (sym e)
        (takes_skip line (q.pos + 66) q.receiver.carried (omega (arith, ahead)) skips refl (carried_none q.receiver.carried u.sound hq.none) refl) in
        subst (λ (n : ℕ). Turns line room room' q (record { receiver = record { skip = false; carried = q.receiver.carried; link = linked; state = Init; have = true; held = holds }; pos = q.pos + 66 + n; at = q.at + 10; counts = counts; handed = q.handed }))
        (sym z)
        (turns_more line room room' room' q first _ turn_first (turn_wait line room' first turn_first.under (omega (arith, ahead)) skips k refl))

    -- another block stands for it
    swapped : Turns line room room' q (holding after_slip q.receiver.held)
    swapped =
        let t = turn_slip (eqb (miss_of header) 1) refl in
        let few : miss_of header ≤ 1 = omega arith in
        let same = off_same line room' after_slip refl hq.none refl (omega (arith, ahead)) q.receiver.held refl hq.off in
        record {
          under =
              record {
                range = t.under.range;
                sound = t.under.sound;
                pos = t.under.pos;
                at = t.under.at;
                fits = subst (λ (o : Upshot). length o.bytes ≤ length room') (sym same) t.under.fits;
                counts = t.under.counts;
                handed = t.under.handed;
              };
          same = same ∙ t.same;
          past = t.past;
          grows = t.grows;
          rest = t.rest;
          len = t.len;
        }

    -- in the search's own words
    abbrev next : Progress
    next =
        record {
          receiver =
              record {
                skip = q.receiver.skip;
                carried = q.receiver.carried;
                link =
                    record {
                      edition = l.edition;
                      lock = record { tested = (l.lock.tested + 1) * (1 - miss_of header); invalid = l.lock.invalid; locked = l.lock.locked };
                      rate = l.rate;
                      history = line_after payload l.history;
                    };
                state = q.receiver.state;
                have = q.receiver.have;
                held = q.receiver.held;
              };
          pos = q.pos + 66 + miss_of header;
          at = q.at + 10;
          counts = counts;
          handed = q.handed;
        }

    pub hunt_one : Turns line room room' q next
    hunt_one =
        subst (Turns line room room' q)
        (λ i. record {
          receiver =
              record {
                skip = sym hq.skip i;
                carried = q.receiver.carried;
                link =
                    record {
                      edition = l.edition;
                      lock = record { tested = (l.lock.tested + 1) * (1 - miss_of header); invalid = sym hq.clean i; locked = sym hq.locked i };
                      rate = sym rate_is i;
                      history = line_after payload l.history;
                    };
                state = sym hq.state i;
                have = sym hq.have i;
                held = q.receiver.held;
              };
          pos = q.pos + 66 + miss_of header;
          at = q.at + 10;
          counts = counts;
          handed = q.handed;
        })
        swapped

-- ---- one block, by the code's values

-- numbers that are 0 or 1
pub times_le : (a b : ℕ) → a ≤ 1 → a * b ≤ b
times_le a b l = by_lt a 1 (λ m. let z : a ≡ 0 = omega arith in rw z (omega arith)) (λ m. let z : a ≡ 1 = omega arith in rw z (omega arith))

pub le_times : (a b : ℕ) → b ≤ 1 → a * b ≤ a
le_times a b l = by_lt b 1 (λ m. let z : b ≡ 0 = omega arith in rw z (omega arith)) (λ m. let z : b ≡ 1 = omega arith in rw z (omega arith))

-- a block that is decoded at once: it has a type, and is not bad
pub tests_quick : (ed : Edition) (header x : ℕ) → header < 4 → (control_of header * get_or types (x % 256) 0 ≡ 0 → ⊥) → (k : Class) (v : Vector)
    → (k ≡ class_of ed header x) × (vector_bytes v ≡ decoded ed header x) × (is_error (kind_in k) ≡ false) → Tests ed header x
tests_quick ed header x small some k v (ek, ev, g) =
    let one : header ≡ 1 = is_one header small (λ z. some (ap (λ (n : ℕ). n * get_or types (x % 256) 0) z ∙ zero-mul (get_or types (x % 256) 0))) in
    let row = get_or types (x % 256) 0 in
    let m : miss_of header ≡ 0 = ap (λ (n : ℕ). miss_of n) one in
    let t : untyped_of header row ≡ 0 = ap (λ (b : Bool). cond b (control_of header) 0) (ne_eqb row 0 (λ z. some (ap (λ (n : ℕ). control_of header * n) z ∙ mul-zero (control_of header)))) in
    record {
      class = k;
      vector = v;
      class_is = ek;
      vector_is = ev;
      counts =
          λ c.
          (λ i. record {
            tested = c.tested;
            slips = c.slips;
            headers = (ap (λ (n : ℕ). c.headers + n) m ∙ add-zero c.headers) i;
            types = (ap (λ (n : ℕ). c.types + n) t ∙ add-zero c.types) i;
            codes = c.codes;
            sets = c.sets;
          })
          ∙ free c k (subst (λ (b : Bool). T (not b)) (sym g) tt);
    }
  where
    is_one : (h : ℕ) → h < 4 → (control_of h ≡ 0 → ⊥) → h ≡ 1
    is_one h small n =
        by_lt h 1 (λ a. absurd (n (let z : h ≡ 0 = omega arith in ap (λ (n : ℕ). control_of n) z)))
        (λ a. by_lt h 2 (λ b. omega arith) (λ b. by_lt h 3 (λ c. absurd (n (let z : h ≡ 2 = omega arith in ap (λ (n : ℕ). control_of n) z))) (λ c. absurd (n (let z : h ≡ 3 = omega arith in ap (λ (n : ℕ). control_of n) z)))))

pub hunt_turn : (line room : List ℕ) (p : Progress) (s : Search) → Hunts p → (u : Under line room (after_search p s)) (header payload : ℕ)
    → header ≡ header_at line s.pos → payload ≡ payload_at line s.pos → s.pos / 8 + 18 ≤ length line → s.tested < 63
    → ((ed : Edition) → Tests ed (header_at line s.pos) (descrambled (payload_at line s.pos) s.history))
    → (v : Vector) → vector_bytes v ≡ local_fault_vector → (room' : List ℕ) → room' ≡ take s.at room ++ (vector_bytes v ++ drop (s.at + 10) room)
    → (m k h : ℕ) → m ≡ miss_of header → k ≡ untyped_of header (get_or types (descrambled payload s.history % 256) 0) → h ≡ line_after payload s.history
    → Turns line room room' (after_search p s)
    (after_search p (record { pos = s.pos + 66 + m; at = s.at + 10; history = h; tested = (s.tested + 1) * (1 - m); misses = s.misses + m; types = s.types + k; count = s.count + 1 }))
hunt_turn line room p s hp u header payload eh ep ahead few told v ev room' er m k h em ek eq =
    subst (Turns line room room' (after_search p s))
    (λ i. record {
      receiver =
          record {
            skip = p.receiver.skip;
            carried = p.receiver.carried;
            link =
                record {
                  edition = p.receiver.link.edition;
                  lock = record { tested = (s.tested + 1) * (1 - sym em i); invalid = p.receiver.link.lock.invalid; locked = p.receiver.link.lock.locked };
                  rate = p.receiver.link.rate;
                  history = sym eq i;
                };
            state = p.receiver.state;
            have = p.receiver.have;
            held = p.receiver.held;
          };
      pos = s.pos + 66 + sym em i;
      at = s.at + 10;
      counts =
          record {
            tested = add_assoc p.counts.tested s.count 1 i;
            slips = (add_assoc p.counts.slips s.misses (miss_of header) ∙ ap (λ (n : ℕ). p.counts.slips + (s.misses + n)) (sym em)) i;
            headers = (add_assoc p.counts.headers s.misses (miss_of header) ∙ ap (λ (n : ℕ). p.counts.headers + (s.misses + n)) (sym em)) i;
            types = (add_assoc p.counts.types s.types (untyped_of header (get_or types (descrambled payload s.history % 256) 0)) ∙ ap (λ (n : ℕ). p.counts.types + (s.types + n)) (sym ek)) i;
            codes = p.counts.codes;
            sets = p.counts.sets;
          };
      handed = p.handed;
    })
    (hunt_one line room (after_search p s) u
    (record {
      skip = hp.skip;
      none = hp.none;
      have = hp.have;
      off = hp.off;
      state = hp.state;
      locked = hp.locked;
      clean = hp.clean;
      blocks = hp.blocks;
      misses = hp.misses;
      low = hp.low;
    })
    header payload eh ep (omega (arith, ahead)) few small
    (subst₂ (λ (h x : ℕ). Tests p.receiver.link.edition h (descrambled x s.history)) (sym eh) (sym ep) (told p.receiver.link.edition))
    v ev room' er)
  where
    small : header < 4
    small = subst (λ (n : ℕ). n < 4) (sym eh) (number_lt 2 (λ i. line_bit line (s.pos + i)) (λ i q. line_bit_lt line (s.pos + i)))

-- a header of the line is below 4
pub header_small : (line : List ℕ) (pos h : ℕ) → h ≡ header_at line pos → h < 4
header_small line pos h e = subst (λ (n : ℕ). n < 4) (sym e) (number_lt 2 (λ i. line_bit line (pos + i)) (λ i q. line_bit_lt line (pos + i)))

-- a block that is decoded at once
pub tests_some : (ed : Edition) (h x : ℕ) (q : Option Decoded) → h < 4 → (control_of h * get_or types (x % 256) 0 ≡ 0 → ⊥) → DecodedAtOnce h x q → is_some q ≡ true → Tests ed h x
tests_some ed h x (Some r) small n at_once e = tests_quick ed h x small n r.class r.vector (at_once ed)
tests_some ed h x None small n at_once e = cc

-- what is known of a block that is read and descrambled is so of the block that the line has
pub tests_read : (line : List ℕ) (pos history h payload word : ℕ) → h ≡ header_at line pos → payload ≡ payload_at line pos → word ≡ descrambled payload history
    → (ed : Edition) → Tests ed h word → Tests ed (header_at line pos) (descrambled (payload_at line pos) history)
tests_read line pos history h payload word eh ep ew ed t =
    subst₂ (Tests ed) eh (ew ∙ ap (λ (x : ℕ). descrambled x history) ep) t

-- the vector of the block held fits the room
pub hunt_room : (line room : List ℕ) (p : Progress) (s : Search) → Hunts p → (u : Under line room (after_search p s)) → s.pos / 8 + 18 ≤ length line → s.tested < 63
    → ((ed : Edition) → Tests ed (header_at line s.pos) (descrambled (payload_at line s.pos) s.history)) → s.at + 10 ≤ length room
hunt_room line room p s hp u ahead few told =
    let small = number_lt 2 (λ i. line_bit line (s.pos + i)) (λ i q. line_bit_lt line (s.pos + i)) in
    hunt_fits line room (after_search p s) u
    (record {
      skip = hp.skip;
      none = hp.none;
      have = hp.have;
      off = hp.off;
      state = hp.state;
      locked = hp.locked;
      clean = hp.clean;
      blocks = hp.blocks;
      misses = hp.misses;
      low = hp.low;
    })
    (header_at line s.pos) (payload_at line s.pos) refl refl (omega (arith, ahead)) few small
    (told p.receiver.link.edition)
