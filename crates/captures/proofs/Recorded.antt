-- What a record comes to, case by case.
use Prim.Native.Nat.{ℕ, ◌+◌}
use mathlib.Core.Path.{◌≡◌, refl, sym, ap, subst, ◌∙◌}
use mathlib.Core.Bool.{Bool, true, false, cond, not, true≢false}
use mathlib.Core.List.{List, [], ◌∷◌}
use native.Mathlib.Omega.{arith}
use lib.Dec.{eqb, leb}
use lib.ListN.{length}
use borrow.Author.Tests.{eq-eqb, ne_eqb}
use Rattle.refusals.specs.First.{check_at, Verdict, accepted, first, by_verdict}
use Rattle.refusals.specs.First as First
use Rattle.refusals.proofs.Laws.{first_append, by_test}
use Rattle.records.specs.Record.{body_limit, kind_number, two_at, read_checks, read_at, body_of}
use Rattle.records.specs.Record as Record
use Rattle.records.proofs.Laws.{body_is}
use denote.Enum.Bare.{sameb}
use Rattle.records.specs.declared.RecordKind.{RecordKind}
use Rattle.records.specs.declared.RecordKind.TheVariants.{Vectors, Line}
use Rattle.records.specs.contracts.RecordKind.{the_type}
use Rattle.captures.specs.Captures.{Recorded, body, end, refused, record_checks, body_at, body_of_kind, answering, leaving}

-- kinds that the code tells apart, and those that it does not
pub differ : (a b : RecordKind) → not (sameb the_type a b) ≡ true → kind_number a ≡ kind_number b → ⊥
differ Vectors Vectors e n = absurd (true≢false (sym e))
differ Vectors Line e n = omega (arith, n)
differ Line Vectors e n = omega (arith, n)
differ Line Line e n = absurd (true≢false (sym e))

pub agree : (a b : RecordKind) → not (sameb the_type a b) ≡ false → kind_number a ≡ kind_number b
agree Vectors Vectors e = refl
agree Vectors Line e = absurd (true≢false e)
agree Line Vectors e = absurd (true≢false e)
agree Line Line e = refl

-- ---- by what the reader finds

module _ (kind : ℕ) (file : List ℕ) (at : ℕ) where
  -- the record that the reader found, if it is of this kind
  abbrev of_kind : Record.Answer → Recorded (List ℕ)
  of_kind (Record.whole k start len next) = cond (eqb k kind) (body (body_of file start len)) (refused 8 at)
  of_kind Record.end = end
  of_kind (Record.refused number place) = refused number place

  -- a whole record
  abbrev found : Record.Answer
  found = Record.whole (two_at file (at + 2)) (at + 4) (two_at file at) (at + 4 + two_at file at)

  -- by the tests of the reader, where its body is that part of the file
  by_tests_lem : (b : Bool) (v : Verdict) → (cond b Record.end (by_verdict v found Record.refused) ≡ found → body_of file (at + 4) (two_at file at) ≡ body_at file at)
      → of_kind (cond b Record.end (by_verdict v found Record.refused))
      ≡ cond b end (by_verdict (by_verdict v (cond (not (eqb (two_at file (at + 2)) kind)) (First.refused 8 at) accepted) First.refused) (body (body_at file at)) refused)
  by_tests_lem true v is = refl
  by_tests_lem false (First.refused n p) is = refl
  by_tests_lem false accepted is =
      by_test (eqb (two_at file (at + 2)) kind) (λ t. rw t (ap body (is refl))) (λ t. rw t refl)

  -- so this is what the definition says
  told : of_kind (read_at body_limit file at) ≡ body_of_kind kind file at
  unfolding read_at body_of_kind record_checks first
  told =
      by_tests_lem (leb (length file) at) (first (read_checks body_limit file at)) (body_is body_limit file at _ _ _ _)
      ∙ ap (λ (v : Verdict). cond (leb (length file) at) end (by_verdict v (body (body_at file at)) refused))
      (sym (first_append (read_checks body_limit file at) (check_at 8 at (not (eqb (two_at file (at + 2)) kind)) ∷ [])))

  -- no bytes left
  pub no_more : read_at body_limit file at ≡ Record.end → end ≡ body_of_kind kind file at
  no_more e = ap of_kind (sym e) ∙ told

  -- the reader refuses
  pub unread : (number place : ℕ) → read_at body_limit file at ≡ Record.refused number place → refused number place ≡ body_of_kind kind file at
  unread number place e = ap of_kind (sym e) ∙ told

  module _ (k start len next : ℕ) (e : read_at body_limit file at ≡ Record.whole k start len next) where
    -- a record of another kind
    pub other : (k ≡ kind → ⊥) → refused 8 at ≡ body_of_kind kind file at
    other d = sym (ap (λ (b : Bool). cond b (body (body_of file start len)) (refused 8 at)) (ne_eqb k kind d)) ∙ ap of_kind (sym e) ∙ told

    -- one of this kind
    pub own : k ≡ kind → body (body_of file start len) ≡ body_of_kind kind file at
    own d = sym (ap (λ (b : Bool). cond b (body (body_of file start len)) (refused 8 at)) (eq-eqb k kind d)) ∙ ap of_kind (sym e) ∙ told

-- ---- by what the record is

module _ {A : Type 0} (f : List ℕ → A) (g : List ℕ → List ℕ) (room : List ℕ) where
  -- what a call came to and left, by what the record is
  abbrev pub Comes : (came : Recorded A) (room' : List ℕ) → Recorded (List ℕ) → Type 0
  Comes came room' b = (came ≡ answering f b) × (room' ≡ leaving g room b)

  pub at_end : (b : Recorded (List ℕ)) → end ≡ b → Comes end room b
  at_end b e = subst (Comes end room) e (refl, refl)

  pub at_refusal : (b : Recorded (List ℕ)) (number place : ℕ) → refused number place ≡ b → Comes (refused number place) room b
  at_refusal b number place e = subst (Comes (refused number place) room) e (refl, refl)

  pub at_body : (b : Recorded (List ℕ)) (bytes room' : List ℕ) (came : A) → body bytes ≡ b → came ≡ f bytes → room' ≡ g bytes → Comes (body came) room' b
  at_body b bytes room' came e c r = subst (Comes (body came) room') e (ap body c, r)
