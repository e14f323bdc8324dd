-- The vectors that a receiver answers have ten bytes each. Assumes nothing.
use Prim.Native.Nat.{ℕ}
use mathlib.Core.Path.{◌≡◌, refl, sym, subst}
use mathlib.Core.List.{List, [], ◌∷◌, map}
use lib.ListN.{length}
use Rattle.block.specs.declared.Edition.{Edition}
use Rattle.block.proofs.Reading.{decoded_length}
use Rattle.block.proofs.Vectors.{Tens}
use Rattle.diagrams.specs.declared.State.{State}
use Rattle.diagrams.specs.declared.State.TheVariants.{Init, Control, Data, Terminate, Error, LowPower}
use Rattle.receiving.specs.Machine.{Tested, tested_of}
use Rattle.receiving.specs.Receive.{ends, state_of, answer_in, judge, answers, vectors_of}
use Rattle.receiving.specs.Reasons.{Taken, taken_blocks}
use Rattle.receiving.proofs.Reasons.{test, tested_of_lem}

-- the two fixed vectors have ten bytes too
ten_in : (s : State) (v : List ℕ) → length v ≡ 10 → length (answer_in s v) ≡ 10
unfolding answer_in
ten_in Init v e = refl
ten_in Control v e = e
ten_in Data v e = e
ten_in Terminate v e = e
ten_in Error v e = refl
ten_in LowPower v e = e

tens_from : (s : State) (ts : List Taken) → Tens (answers s (map test ts))
unfolding answers judge tested_of
tens_from s [] = tt
tens_from s (t ∷ ts) =
    (ten_in (state_of s (test t) (ends (map test ts))) _ (decoded_length t.link.edition t.header _), tens_from (state_of s (test t) (ends (map test ts))) ts)

pub vectors_tens : (ed : Edition) (line : List ℕ) → Tens (vectors_of ed line)
unfolding vectors_of
vectors_tens ed line = subst (λ (ts : List Tested). Tens (answers Init ts)) (sym (tested_of_lem ed line)) (tens_from Init (taken_blocks ed line))
