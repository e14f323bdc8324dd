-- How many blocks are tested and how many vectors are answered. Assumes nothing.
use Prim.Native.Nat.{ℕ, suc, ◌+◌, ◌*◌, ◌/◌, ◌≤◌, ◌<◌}
use mathlib.Core.Path.{◌≡◌, refl, ap, ◌∙◌}
use mathlib.Core.Bool.{Bool, true, false, cond}
use mathlib.Core.List.{List, [], ◌∷◌, flatten}
use native.Mathlib.Omega.{arith}
use lib.ListN.{length, length-append}
use borrow.Author.Tests.{eqb-true, eqb-false}
use Rattle.bits.specs.Bits.{line_bits}
use Rattle.bits.proofs.Lists.{length_line_bits}
use Rattle.block.specs.declared.Edition.{Edition}
use Rattle.block.specs.Block.{decoded, format_of, valid, vector_of, error_vector}
use Rattle.diagrams.specs.declared.State.{State}
use Rattle.diagrams.specs.declared.State.TheVariants.{Init, Control, Data, Terminate, Error, LowPower}
use Rattle.receiving.specs.Machine.{Feed, Tested, at, fills, feed, filled, run, tested_of, link_fresh}
use Rattle.receiving.proofs.Each.{EachTested, none, more, run_gives}
use Rattle.receiving.specs.Receive.{state_of, ends, answer_in, judge, answers, run_of, vectors_of, received_vectors}

-- ---- a block takes 66 bits
bits_used : (f : Feed) (b : ℕ) (s g : Bool) → f.skip ≡ s → fills f ≡ g → length f.bits < 66
    → (66 * length (filled f b) + length (feed f b).bits ≤ length f.bits + 1) × (length (feed f b).bits < 66)
unfolding feed filled
bits_used f b true g es eg l = (rw es (omega arith), rw es (omega arith))
bits_used f b false true es eg l = (rw (es, eg) (omega (arith, eqb-true (length f.bits) 65 eg)), rw (es, eg) (omega arith))
bits_used f b false false es eg l =
    (rw (es, eg) (omega (arith, length-append f.bits (b ∷ []))), rw (es, eg) (omega (arith, length-append f.bits (b ∷ []), eqb-false (length f.bits) 65 eg)))

-- the bits of the blocks tested, and those left over, are no more than there were
pub tested_bits : (f : Feed) (bits : List ℕ) → length f.bits < 66
    → 66 * length (run f bits).tested + length (run f bits).end.bits ≤ length f.bits + length bits
unfolding run
tested_bits f [] l = omega arith
tested_bits f (b ∷ bits) l =
    let u = bits_used f b f.skip (fills f) refl refl l in
    omega (arith, u, tested_bits (feed f b) bits u.1, length-append (filled f b) (run (feed f b) bits).tested)

-- no more blocks than fit the line
pub tested_few : (ed : Edition) (line : List ℕ) → length (run_of ed line).tested ≤ 8 * length line / 66
unfolding run_of
tested_few ed line = omega (arith, tested_bits (at (link_fresh ed)) (line_bits line) (omega arith), length_line_bits line)

-- ---- "one for each tested block"
pub length_answers : (s : State) (ts : List Tested) → length (answers s ts) ≡ length ts
unfolding answers judge
length_answers s [] = refl
length_answers s (t ∷ ts) = ap suc (length_answers (state_of s t (ends ts)) ts)

-- ---- a vector is ten bytes
pub length_decoded : (ed : Edition) (h x : ℕ) → length (decoded ed h x) ≡ 10
unfolding decoded
length_decoded ed h x = go (valid ed (format_of h x) x)
  where
    go : (b : Bool) → length (cond b (vector_of ed (format_of h x) x) error_vector) ≡ 10
    go true = refl
    go false = refl

-- a block whose vector is ten bytes
abbrev pub Ten : Tested → Type 0
Ten t = length t.vector ≡ 10

-- and so are those of a run
pub tens_run : (f : Feed) (bits : List ℕ) → EachTested Ten (run f bits).tested
unfolding tested_of
tens_run f bits = run_gives (λ l. Unit) Ten (λ l h p q. tt) (λ l h p q. length_decoded l.edition h _) f bits tt

-- the answer of a block is ten bytes too
pub length_answer : (s : State) (v : List ℕ) → length v ≡ 10 → length (answer_in s v) ≡ 10
unfolding answer_in
length_answer Init v e = refl
length_answer Control v e = e
length_answer Data v e = e
length_answer Terminate v e = e
length_answer Error v e = refl
length_answer LowPower v e = e

-- ten bytes for each block
pub length_vectors : (s : State) {ts : List Tested} → EachTested Ten ts → length (flatten (answers s ts)) ≡ 10 * length ts
unfolding answers judge flatten
length_vectors s none = refl
length_vectors s (more {t = t} {ts = ts} e r) =
    let s' = state_of s t (ends ts) in
    length-append (answer_in s' t.vector) (flatten (answers s' ts)) ∙ omega (arith, length_answer s' t.vector e, length_vectors s' r)

-- the room of refusal 4 takes all vectors
pub vectors_fit : (ed : Edition) (line : List ℕ) → length (received_vectors ed line) ≤ 10 * (8 * length line / 66)
unfolding received_vectors vectors_of run_of
vectors_fit ed line = omega (arith, length_vectors Init (tens_run (at (link_fresh ed)) (line_bits line)), tested_few ed line)
