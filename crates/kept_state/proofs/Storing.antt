-- What was put into a state is what the state means. Assumes nothing.
use Prim.Native.Nat.{ℕ, zero, suc, ◌+◌, ◌-◌, ◌*◌, ◌/◌, ◌%◌, ◌^◌, ◌≤◌, ◌<◌}
use mathlib.Core.Path.{◌≡◌, refl, sym, ap, ap₂, ◌∙◌, subst}
use mathlib.Core.Bool.{Bool, true, false, cond}
use mathlib.Core.List.{List, [], ◌∷◌}
use native.Mathlib.Omega.{arith}
use lib.Dec.{ltb, lit<}
use lib.ListN.{length, get_or, length-append, get_or-eq_default}
use borrow.Author.Tests.{lt-ltb, le-ltb, eqb-false}
use Rattle.bits.specs.Bits.{bit, listed, line_bits}
use Rattle.bits.proofs.Laws.{Words, none, more, by_lt, bit_lt, bit_number}
use Rattle.bits.proofs.Lists.{length_listed, listed_at, listed_same, length_line_bits, line_bits_at, line_bit_lt, words, words_lt, words_append}
use Rattle.scrambler.specs.Scrambler.{descrambled}
use Rattle.block.specs.Block.{class_of, kind_in, good}
use Rattle.block.specs.declared.Edition.{Edition}
use Rattle.block.specs.declared.Edition.TheVariants.{Old, New}
use Rattle.block.specs.declared.Kind.{Kind}
use Rattle.block.specs.declared.Kind.TheVariants.{D, C, S, T, E, LI}
use Rattle.block.proofs.Sending.{from, ten}
use Rattle.block.proofs.Sending as Sending
use Rattle.block.proofs.Reading.{Below, below_at, decoded_length, decoded_byte}
use Rattle.block.proofs.Classes.{kind_good}
use Rattle.block.proofs.OldKinds.{old_kind}
use Rattle.carrying.specs.declared.Carried.{Carried}
use Rattle.diagrams.specs.Diagram.{state_number, after_idle, after_data, after_error, diagram_of}
use Rattle.diagrams.specs.declared.State as Diagram
use Rattle.diagrams.specs.declared.State.TheVariants.{Init, Control, Data, Terminate, Error, LowPower}
use Rattle.receiving.specs.Machine.{Tested, Feed, run, feed, fills, link_of, tested_of}
use Rattle.receiving.specs.Receive.{lets_end, state_of}
use Rattle.receiving.specs.Parts.{settle}
use Rattle.receiving.specs.declared.Link.{Link}
use Rattle.receiving.proofs.Each.{EachTested, run_gives}
use Rattle.receiving.proofs.Each as Each
use Rattle.receiving.proofs.Count.{Ten}
use Rattle.kept_state.specs.declared.Kept.{Kept}
use Rattle.kept_state.specs.Meaning.{bits_in, carried_for, states, diagram_by, held_kind_number, held_kind_by, five_bytes, vector_in, held_by, kept_for, have_for}
use Rattle.kept_state.proofs.Stripped.{stripped_all}

-- ---- carried bits

-- a list by its elements
listed_all : (xs : List ℕ) → listed (length xs) (λ i. get_or xs i 0) ≡ xs
unfolding listed
listed_all [] = refl
listed_all (x ∷ xs) = ap (λ (l : List ℕ). x ∷ l) (listed_all xs)

-- fewer than 66 bits come back
pub bits_back : (bits : List ℕ) → Words 1 bits → length bits < 66 → bits_in (carried_for bits) ≡ bits
unfolding bits_in
bits_back bits w few =
    listed_same (length bits) _ (λ i. get_or bits i 0)
    (λ i l.
    by_lt i 2
    (λ m. rw (lt-ltb i 2 m) (bit_number 2 (λ j. get_or bits j 0) (λ j k. words_lt 1 w j) i m))
    (λ m.
    let e : 2 + (i - 2) ≡ i = omega arith in
    rw (le-ltb i 2 m) (bit_number 64 (λ j. get_or bits (2 + j) 0) (λ j k. words_lt 1 w (2 + j)) (i - 2) (omega arith) ∙ ap (λ (j : ℕ). get_or bits j 0) e)))
    ∙ listed_all bits

-- a state's bits are bits
pub bits_words : (c : Carried) → Words 1 (bits_in c)
unfolding bits_in
bits_words c =
    words 1 _
    (λ i.
    by_lt i c.count
    (λ m. rw (listed_at c.count (λ j. cond (ltb j 2) (bit c.header j) (bit c.payload (j - 2))) i m) (go (ltb i 2) i))
    (λ m.
    let e = get_or-eq_default (listed c.count (λ j. cond (ltb j 2) (bit c.header j) (bit c.payload (j - 2)))) 0 {n = i}
    (omega (arith, length_listed c.count (λ j. cond (ltb j 2) (bit c.header j) (bit c.payload (j - 2))))) in
    rw e (omega arith)))
  where
    go : (b : Bool) (i : ℕ) → cond b (bit c.header i) (bit c.payload (i - 2)) < 2 ^ 1
    go true i = bit_lt c.header i
    go false i = bit_lt c.payload (i - 2)

-- as many as are counted
pub bits_count : (c : Carried) → length (bits_in c) ≡ c.count
unfolding bits_in
bits_count c = length_listed c.count (λ i. cond (ltb i 2) (bit c.header i) (bit c.payload (i - 2)))

-- and so are the bits of a line
pub line_words_lem : (line : List ℕ) → Words 1 (line_bits line)
line_words_lem line =
    words 1 _
    (λ i.
    by_lt i (8 * length line)
    (λ m. rw (line_bits_at line i m) (line_bit_lt line i))
    (λ m.
    let e = get_or-eq_default (line_bits line) 0 {n = i} (omega (arith, length_line_bits line)) in
    rw e (omega arith)))

-- ---- the diagram's state

pub diagram_back : (s : Diagram.State) → diagram_by (state_number s) ≡ s
unfolding diagram_by
diagram_back Init = refl
diagram_back Control = refl
diagram_back Data = refl
diagram_back Terminate = refl
diagram_back Error = refl
diagram_back LowPower = refl

-- ---- the kinds and the states of an edition: in the old one, all but LI

-- a kind that comes back from its number in this edition
abbrev pub KindOf : Edition → Kind → Type 0
KindOf ed k = held_kind_by ed (held_kind_number k) ≡ k

new_kind : (k : Kind) → KindOf New k
unfolding held_kind_by
new_kind D = refl
new_kind C = refl
new_kind S = refl
new_kind T = refl
new_kind E = refl
new_kind LI = refl

other_kind : (k : Kind) → (k ≡ LI → ⊥) → KindOf Old k
unfolding held_kind_by
other_kind D n = refl
other_kind C n = refl
other_kind S n = refl
other_kind T n = refl
other_kind E n = refl
other_kind LI n = absurd (n refl)

-- a state of this edition
abbrev pub StateOf : Edition → Diagram.State → Type 0
StateOf ed s = state_number s < length (states ed)

new_state : (s : Diagram.State) → StateOf New s
new_state Init = lit< tt
new_state Control = lit< tt
new_state Data = lit< tt
new_state Terminate = lit< tt
new_state Error = lit< tt
new_state LowPower = lit< tt

-- kind LI does not come back in the old edition
no_low : KindOf Old LI → ⊥
unfolding held_kind_by
no_low e = let z : ◌≡◌ {A = ℕ} 4 5 = ap held_kind_number e in omega arith

-- a step of the diagram stays in the edition
old_step : (s : Diagram.State) (k : Kind) (b : Bool) → StateOf Old s → KindOf Old k → StateOf Old (diagram_of s k b)
unfolding diagram_of after_idle after_data after_error
old_step Init D b w n = lit< tt
old_step Init C b w n = lit< tt
old_step Init S b w n = lit< tt
old_step Init T b w n = lit< tt
old_step Init E b w n = lit< tt
old_step Init LI b w n = lit< tt
old_step Control D b w n = lit< tt
old_step Control C b w n = lit< tt
old_step Control S b w n = lit< tt
old_step Control T b w n = lit< tt
old_step Control E b w n = lit< tt
old_step Control LI b w n = absurd (no_low n)
old_step Terminate D b w n = lit< tt
old_step Terminate C b w n = lit< tt
old_step Terminate S b w n = lit< tt
old_step Terminate T b w n = lit< tt
old_step Terminate E b w n = lit< tt
old_step Terminate LI b w n = absurd (no_low n)
old_step Data D b w n = lit< tt
old_step Data C b w n = lit< tt
old_step Data S b w n = lit< tt
old_step Data T true w n = lit< tt
old_step Data T false w n = lit< tt
old_step Data E b w n = lit< tt
old_step Data LI b w n = lit< tt
old_step Error D b w n = lit< tt
old_step Error C b w n = lit< tt
old_step Error S b w n = lit< tt
old_step Error T true w n = lit< tt
old_step Error T false w n = lit< tt
old_step Error E b w n = lit< tt
old_step Error LI b w n = absurd (no_low n)
old_step LowPower k b w n = absurd (omega arith)

state_in_lem : (ed : Edition) (s : Diagram.State) (t : Tested) (b : Bool) → StateOf ed s → KindOf ed (kind_in t.class) → StateOf ed (state_of s t b)
unfolding state_of
state_in_lem New s t b w n = new_state (state_of s t b)
state_in_lem Old s t b w n = go t.on
  where
    go : (on : Bool) → StateOf Old (cond on (diagram_of s (kind_in t.class) b) Init)
    go true = old_step s (kind_in t.class) b w n
    go false = lit< tt

-- ---- the held block

-- a block that comes back from its numbers, but for its slip and its reason
pub record Storable (ed : Edition) (t : Tested) : Type 0 where
  pub ten : length t.vector ≡ 10
  pub octets : (n : ℕ) → get_or t.vector n 0 < 256
  pub kind : KindOf ed (kind_in t.class)

-- five bytes out of their number
five_back : (a b c d e : ℕ) → a < 256 → b < 256 → c < 256 → d < 256 → e < 256 → (n : ℕ)
    → n ≡ a + 2 ^ 8 * b + 2 ^ 16 * c + 2 ^ 24 * d + 2 ^ 32 * e
    → (n % 2 ^ 8 ≡ a) × (n / 2 ^ 8 % 2 ^ 8 ≡ b) × (n / 2 ^ 8 / 2 ^ 8 % 2 ^ 8 ≡ c) × (n / 2 ^ 8 / 2 ^ 16 % 2 ^ 8 ≡ d) × (n / 2 ^ 8 / 2 ^ 24 % 2 ^ 8 ≡ e)
five_back a b c d e p q r s t n h = (omega arith, omega arith, omega arith, omega arith, omega arith)

-- a vector comes back
vector_back : (ed : Edition) (t : Tested) → Storable ed t → vector_in (kept_for (t ∷ [])) ≡ t.vector
unfolding kept_for
vector_back ed t w =
    let v = t.vector in
    let o = w.octets in
    let f = five_back (get_or v 0 0) (get_or v 1 0) (get_or v 2 0) (get_or v 3 0) (get_or v 4 0) (o 0) (o 1) (o 2) (o 3) (o 4) (five_bytes v 0) refl in
    let g = five_back (get_or v 5 0) (get_or v 6 0) (get_or v 7 0) (get_or v 8 0) (get_or v 9 0) (o 5) (o 6) (o 7) (o 8) (o 9) (five_bytes v 5) refl in
    ten f.0 f.1 f.2 f.3 f.4 g.0 g.1 g.2 g.3 g.4
    ∙ sym (Sending.listed v ∙ ap (from v 0) w.ten)

-- a held block comes back
pub held_back : (ed : Edition) {h : List Tested} → EachTested (Storable ed) h → length h ≤ 1 → held_by ed (have_for h) (kept_for h) ≡ stripped_all h
unfolding held_by kept_for
held_back ed Each.none l = refl
held_back ed (Each.more {t} w Each.none) l =
    ap₂ (λ (k : Kind) (v : List ℕ). record { on = t.on; slipped = false; class = good k; vector = v } ∷ []) w.kind (vector_back ed t w)
held_back ed (Each.more w (Each.more x r)) l = absurd (omega arith)

-- what a state's numbers mean is of its edition
old_in : (n : ℕ) → KindOf Old (held_kind_by Old n)
unfolding held_kind_by
old_in zero = refl
old_in (suc zero) = refl
old_in (suc (suc zero)) = refl
old_in (suc (suc (suc zero))) = refl
old_in (suc (suc (suc (suc zero)))) = refl
old_in (suc (suc (suc (suc (suc n))))) = refl

kind_in_lem : (ed : Edition) (n : ℕ) → KindOf ed (held_kind_by ed n)
kind_in_lem New n = new_kind (held_kind_by New n)
kind_in_lem Old n = old_in n

-- a state's held block is storable
pub stored_in_lem : (ed : Edition) (have : Bool) (k : Kept) → EachTested (Storable ed) (held_by ed have k)
unfolding held_by
stored_in_lem ed false k = Each.none
stored_in_lem ed true k =
    Each.more
    (record {
      ten = refl;
      octets = below_at 256 (vector_in k) (lit< tt) bytes;
      kind = subst (KindOf ed) (sym (kind_good (held_kind_by ed k.kind))) (kind_in_lem ed k.kind);
    })
    Each.none
  where
    bytes : Below 256 (vector_in k)
    bytes = (omega arith, (omega arith, (omega arith, (omega arith, (omega arith, (omega arith, (omega arith, (omega arith, (omega arith, (omega arith, tt))))))))))

-- its vector is ten bytes
pub held_tens : (ed : Edition) (have : Bool) (k : Kept) → EachTested Ten (held_by ed have k)
unfolding held_by
held_tens ed false k = Each.none
held_tens ed true k = Each.more refl Each.none

-- at most one is held
pub few_in : (ed : Edition) (have : Bool) (k : Kept) → length (held_by ed have k) ≤ 1
unfolding held_by
few_in ed true k = omega arith
few_in ed false k = omega arith

-- a tested block is storable
kind_tested : (ed : Edition) (h x : ℕ) → KindOf ed (kind_in (class_of ed h x))
kind_tested New h x = new_kind (kind_in (class_of New h x))
kind_tested Old h x = other_kind (kind_in (class_of Old h x)) (old_kind h x)

tested_stored : (ed : Edition) (l : Link) (h p : ℕ) → l.edition ≡ ed → Storable ed (tested_of l h p)
unfolding tested_of
tested_stored ed l h p e =
    let x = descrambled p l.history in
    record {
      ten = decoded_length l.edition h x;
      octets = decoded_byte l.edition h x;
      kind = subst (λ (z : Edition). KindOf z (kind_in (class_of l.edition h x))) e (kind_tested l.edition h x);
    }

-- and so are those of a run
pub run_stored : (ed : Edition) (f : Feed) (bits : List ℕ) → f.link.edition ≡ ed → EachTested (Storable ed) (run f bits).tested
unfolding link_of
run_stored ed f bits e = run_gives (λ l. l.edition ≡ ed) (Storable ed) (λ l h p q. q) (tested_stored ed) f bits e

-- the state of what is settled is of the edition
pub settle_in : (ed : Edition) (s : Diagram.State) {ts : List Tested} → StateOf ed s → EachTested (Storable ed) ts → StateOf ed (settle s ts).state
unfolding settle
settle_in ed s w Each.none = w
settle_in ed s w (Each.more p Each.none) = w
settle_in ed s w (Each.more {t} {ts = u ∷ us} p (Each.more q r)) =
    settle_in ed (state_of s t (lets_end u)) (state_in_lem ed s t (lets_end u) w p.kind) (Each.more q r)

-- ---- a run keeps bits, fewer than 66 of them

-- where a receiver stands
pub record Stands (f : Feed) : Type 0 where
  pub bits : Words 1 f.bits
  pub few : length f.bits < 66

-- one bit
stands_bit : (f : Feed) (b : ℕ) (s g : Bool) → f.skip ≡ s → fills f ≡ g → b < 2 → Stands f → Stands (feed f b)
unfolding feed
stands_bit f b true g es eg l w = rw es (record { bits = none; few = omega arith })
stands_bit f b false true es eg l w = rw (es, eg) (record { bits = none; few = omega arith })
stands_bit f b false false es eg l w =
    rw (es, eg)
    (record {
      bits = words_append 1 w.bits (more l none);
      few = omega (arith, length-append f.bits (b ∷ []), eqb-false (length f.bits) 65 eg, w.few);
    })

-- all bits of a list
pub stands_run : (f : Feed) {bits : List ℕ} → Words 1 bits → Stands f → Stands (run f bits).end
unfolding run
stands_run f none w = w
stands_run f (more {x = b} l r) w = stands_run (feed f b) r (stands_bit f b f.skip (fills f) refl refl l w)
