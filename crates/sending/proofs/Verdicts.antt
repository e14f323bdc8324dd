-- The verdict on a list that is to be sent, as callers use it. Assumes nothing.
use Prim.Native.Nat.{ℕ, ◌*◌, ◌/◌, ◌%◌, ◌^◌, ◌≤◌}
use mathlib.Core.Path.{◌≡◌, refl}
use mathlib.Core.Bool.{Bool, true, false, not}
use mathlib.Core.List.{List, [], ◌∷◌}
use mathlib.Core.Logic.{◌⊎◌, inl, inr, ⊎_elim}
use native.Mathlib.Omega.{arith}
use lib.ListN.{length}
use lib.Dec.{ltb, leb, eqb}
use borrow.Author.Tests.{ltb-true, ltb-false}
use Rattle.refusals.specs.First.{check, check_at, Verdict, accepted, refused, first, by_verdict}
use Rattle.block.specs.declared.Edition.{Edition}
use Rattle.block.specs.Block.{edition_of}
use Rattle.control_bytes.specs.Control.{high_control}
use Rattle.sending.specs.Answer.{SendAnswer, sent, send_checks, sent_for, send_answer}
use Rattle.sending.specs.Answer as Answer

-- an answer tells the verdict
abbrev pub verdict_of_send : SendAnswer → Verdict
verdict_of_send (sent state diagram replaced) = accepted
verdict_of_send (Answer.refused number place) = refused number place

told : (v : Verdict) (ed : Edition) (bytes : List ℕ) (start : ℕ) → verdict_of_send (by_verdict v (sent_for ed bytes start) Answer.refused) ≡ v
unfolding sent_for
told accepted ed bytes start = refl
told (refused n p) ed bytes start = refl

pub verdict_told : (edition : ℕ) (bytes : List ℕ) (start room : ℕ) → verdict_of_send (send_answer edition bytes start room) ≡ first (send_checks edition bytes start room)
unfolding send_answer
verdict_told edition bytes start room = told (first (send_checks edition bytes start room)) (edition_of edition) bytes start

-- a refusal's place is 0, or it is that of a control byte
refusal_place : (z a b c d e : Bool) (h n p : ℕ) → first (check 13 z ∷ check 1 a ∷ check 2 b ∷ check 3 c ∷ check 4 d ∷ check_at 5 h e ∷ []) ≡ refused n p
    → (p ≡ 0) ⊎ ((a ≡ false) × (e ≡ true) × (h ≡ p))
unfolding first
refusal_place true a b c d e h n p q = inl cc
refusal_place false true b c d e h n p q = inl cc
refusal_place false false true c d e h n p q = inl cc
refusal_place false false false true d e h n p q = inl cc
refusal_place false false false false true e h n p q = inl cc
refusal_place false false false false false true h n p q = inr (refl, refl, cc)
refusal_place false false false false false false h n p q = inl cc

pub place_small : (edition : ℕ) (bytes : List ℕ) (start room n p : ℕ) → first (send_checks edition bytes start room) ≡ refused n p → p ≤ 1000000
unfolding send_checks
place_small edition bytes start room n p q =
    ⊎_elim (λ z. omega arith) (λ t. omega (arith, ltb-false 1000000 (length bytes) t.0, ltb-true (high_control bytes) (length bytes) t.1))
    (refusal_place (ltb 1 edition) (ltb 1000000 (length bytes)) (not (eqb (length bytes % 40) 0)) (leb (2 ^ 58) start) (ltb room (33 * (length bytes / 40)))
    (ltb (high_control bytes) (length bytes)) (high_control bytes) n p q)
