-- What an old reader finds, proved over the definitions. Assumes nothing.
use Prim.Native.Nat.{ℕ, zero, suc, ◌+◌, ◌-◌}
use mathlib.Core.Path.{◌≡◌, refl, ap, ◌∙◌}
use mathlib.Core.Bool.{Bool, true, false, cond}
use mathlib.Core.List.{List, [], ◌∷◌}
use native.Mathlib.Omega.{arith}
use lib.ListN.{length}
use lib.Dec.{ltb, leb}
use borrow.Author.Tests.{ltb-true, ltb-false, leb-true, leb-false, le-ltb, lt-leb, le-leb}
use Rattle.refusals.specs.First.{first}
use Rattle.records.specs.Record.{body_limit, old_body_limit, two_at, Answer, whole, end, refused, read_checks, read_at}
use Rattle.records.specs.OldReader.{longer_at, OldReaderAt, then_from, answers_from, answers_up_to_longer, OldReader}
use Rattle.refusals.proofs.Laws.{by_test}

-- by cases: no head left, a cut head, a longer body, and neither
pub old_reader_at : OldReaderAt
unfolding read_at read_checks first
old_reader_at file at =
    by_test (leb (length file) at)
    (λ past.
    let no_head = lt-leb (at + 4) (length file) (omega (arith, leb-true (length file) at past)) in
    simp (past, no_head))
    (λ left.
    by_test (ltb (length file - at) 4)
    (λ cut.
    let no_head = lt-leb (at + 4) (length file) (omega (arith, leb-false (length file) at left, ltb-true (length file - at) 4 cut)) in
    simp (left, cut, no_head))
    (λ uncut.
    let head = le-leb (at + 4) (length file) (omega (arith, leb-false (length file) at left, ltb-false (length file - at) 4 uncut)) in
    by_test (ltb old_body_limit (two_at file at))
    (λ longer. simp (left, uncut, head, longer))
    (λ short.
    let within = le-ltb body_limit (two_at file at) (omega (arith, ltb-false old_body_limit (two_at file at) short)) in
    simp (left, uncut, head, short, within))))

-- the same behind one more answer
then_same : (a : Answer) (f g : ℕ → List Answer) → ((at : ℕ) → f at ≡ g at) → then_from a f ≡ then_from a g
then_same (whole kind start len next) f g e = ap (λ (l : List Answer). whole kind start len next ∷ l) (e next)
then_same end f g e = refl
then_same (refused number place) f g e = refl

-- one answer of the old reader, by the test for a longer body
then_by : (b : Bool) (r a : Answer) (from : ℕ → List Answer) → then_from (cond b r a) from ≡ cond b (then_from r from) (then_from a from)
then_by true r a from = refl
then_by false r a from = refl

pub old_reader : OldReader
unfolding answers_from answers_up_to_longer
old_reader zero file at = refl
old_reader (suc n) file at =
    ap (λ (a : Answer). then_from a (answers_from old_body_limit n file)) (old_reader_at file at)
    ∙ then_by (longer_at file at) (refused 7 at) (read_at body_limit file at) (answers_from old_body_limit n file)
    ∙ ap (cond (longer_at file at) (refused 7 at ∷ [])) (then_same (read_at body_limit file at) _ _ (old_reader n file))
