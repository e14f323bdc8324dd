-- A check that applies, among the checks of a call: what stands behind it is not looked at. Assumes nothing.
use Prim.Native.Nat.{ℕ, ◌+◌, ◌*◌}
use mathlib.Core.Path.{◌≡◌, refl, sym, ap, ◌∙◌}
use mathlib.Core.Bool.{Bool, true, false, cond, true≢false}
use mathlib.Core.List.{List, [], ◌∷◌, ◌++◌}
use Rattle.refusals.specs.First.{Check, check, Verdict, accepted, refused, first}
use Rattle.refusals.proofs.Laws.{passed, skipped}
use Rattle.lent_words.specs.Words.{result_of}
use Rattle.lent_words.proofs.Laws.{head_first}

-- What sending or receiving with no room comes to, where the summary is too short: an answer is refusal 4.
abbrev pub short_of : Verdict → ℕ
short_of accepted = 4
short_of (refused n p) = n + 256 * p

-- ---- where the first of some applies

at_once : (c : Check) (cs : List Check) → c.applies ≡ true → first (c ∷ cs) ≡ refused c.number c.place
unfolding first
at_once c cs e = rw e

-- ---- .. and where others come before it

-- those behind it change nothing
pub cut_off : (before : List Check) (c : Check) (behind : List Check) → c.applies ≡ true → first (before ++ c ∷ behind) ≡ first (before ++ c ∷ [])
cut_off [] c behind e = at_once c behind e ∙ sym (at_once c [] e)
cut_off (d ∷ before) c behind e = head_first d (before ++ c ∷ behind) (before ++ c ∷ []) (cut_off before c behind e)

-- the call is refused
pub never : (before : List Check) (c : Check) (behind : List Check) → c.applies ≡ true → first (before ++ c ∷ behind) ≡ accepted → ⊥
never [] c behind e q = let z : ◌≡◌ {A = Bool} true false = sym e ∙ (passed c behind q).0 in true≢false z
never (d ∷ before) c behind e q = never before c behind e (passed d (before ++ c ∷ behind) q).1

-- a slice too short: the result is what the checks before it refuse for, or else 4
by_row : (b : Bool) (n p : ℕ) (u v : Verdict) → (b ≡ false → result_of u ≡ short_of v) → result_of (cond b (refused n p) u) ≡ short_of (cond b (refused n p) v)
by_row true n p u v e = refl
by_row false n p u v e = e refl

pub short_result : (before : List Check) (short : Bool) (behind instead : List Check) → short ≡ true → (first before ≡ accepted → short_of (first instead) ≡ 4)
    → result_of (first (before ++ check 4 short ∷ behind)) ≡ short_of (first (before ++ instead))
unfolding first
short_result [] short behind instead e f = ap result_of (at_once (check 4 short) behind e) ∙ sym (f refl)
short_result (d ∷ before) short behind instead e f =
    by_row d.applies d.number d.place (first (before ++ check 4 short ∷ behind)) (first (before ++ instead))
    (λ h. short_result before short behind instead e (λ q. f (skipped d before h ∙ q)))
