-- Laws of classes: how a class is found, and document 01's kind E is bad for some reason. Assumes nothing.
use mathlib.Core.Path.{◌≡◌, refl, ◌∙◌, ap, ap₂, subst, sym}
use mathlib.Core.Bool.{Bool, true, false, cond, ◌||◌, false≢true}
use mathlib.Core.Logic.{inl, inr}
use mathlib.Core.List.{List, [], ◌∷◌}
use Prim.Native.Nat.{ℕ, suc, ◌%◌, ◌^◌, ◌<◌, ◌≤◌}
use native.Mathlib.Omega.{arith}
use lib.Dec.{T, lit≤, eqb}
use lib.ListN.{length}
use borrow.Author.Tests.{eq-eqb, ne_eqb, eqb-true}
use Rattle.block.specs.declared.Edition.{Edition}
use Rattle.block.specs.declared.Kind.{Kind}
use Rattle.block.specs.declared.Kind.TheVariants.{D, C, S, T as T', E, LI}
use Rattle.block.specs.declared.Reason.TheVariants.{Header, BlockType, ControlCode, SetCode}
use Rattle.block.specs.declared.Class.{Class}
use Rattle.block.specs.Block.{Format, no_format, data_block, control_blocks, by_type, kind_for, vector_of, kind_by, kind_of, some, says, good, class_by, class_of, kind_in}
use Rattle.block.specs.Rows.{row, row_of, index_of}
use Rattle.refusals.proofs.Laws.{by_test}
use Rattle.bits.proofs.Tests.{all}
use Rattle.block.proofs.Formats.{sound, of_type, by_index}
use Rattle.block.proofs.Reading.{Below, when_valid, when_not, data_below}
use Rattle.block.proofs.Telling.{Tells, AllTell, vector_tells}

-- ---- no character says n

abbrev pub None : ℕ → List ℕ → Type 0
None n [] = Unit
None n (a ∷ l) = (eqb n a ≡ false) × None n l

pub none_some : (n : ℕ) (l : List ℕ) → None n l → some (eqb n) l ≡ false
none_some n [] w = refl
none_some n (a ∷ l) w = ap₂ ◌||◌ w.0 (none_some n l w.1)

neither : (a b : Bool) → a || b ≡ false → (a ≡ false) × (b ≡ false)
neither true b e = absurd (false≢true (sym e))
neither false b e = (refl, e)

pub some_none : (n : ℕ) (l : List ℕ) → some (eqb n) l ≡ false → None n l
some_none n [] e = tt
some_none n (a ∷ l) e = let w = neither (eqb n a) (some (eqb n) l) e in (w.0, some_none n l w.1)

-- of bytes none says so; and where none says so they are bytes
pub below_none : (n : ℕ) (l : List ℕ) → 256 ≤ n → Below 256 l → None n l
below_none n [] h w = tt
below_none n (a ∷ l) h w = (ne_eqb n a (λ e. omega (arith, w.0)), below_none n l h w.1)

byte_if : (a : ℕ) → Tells a → eqb 256 a ≡ false → eqb 512 a ≡ false → a < 256
byte_if a (inl l) p q = l
byte_if a (inr (inl e)) p q = absurd (false≢true (sym p ∙ eq-eqb 256 a (sym e)))
byte_if a (inr (inr e)) p q = absurd (false≢true (sym q ∙ eq-eqb 512 a (sym e)))

pub none_below : (l : List ℕ) → AllTell l → None 256 l → None 512 l → Below 256 l
none_below [] t p q = tt
none_below (a ∷ l) t p q = (byte_if a t.0 p.0 q.0, none_below l t.1 p.1 q.1)

pub kind_good : (k : Kind) → kind_in (good k) ≡ k
kind_good D = refl
kind_good C = refl
kind_good S = refl
kind_good T' = refl
kind_good E = refl
kind_good LI = refl

-- ---- types
-- a type of the table, and one that is none
type_some : (fs : List Format) (y : ℕ) → index_of fs y < length fs → some (λ f. eqb f.type y) fs ≡ true
type_some [] y l = absurd (omega arith)
type_some (f ∷ fs) y l = go (eqb f.type y) l (type_some fs y)
  where
    go : (b : Bool) → cond b 0 (suc (index_of fs y)) < suc (length fs) → (index_of fs y < length fs → some (λ f. eqb f.type y) fs ≡ true)
        → b || some (λ f. eqb f.type y) fs ≡ true
    go true l ih = refl
    go false l ih = ih (omega arith)

type_none : (fs : List Format) (y : ℕ) → length fs ≤ index_of fs y → some (λ f. eqb f.type y) fs ≡ false
type_none [] y l = refl
type_none (f ∷ fs) y l = go (eqb f.type y) l (type_none fs y)
  where
    go : (b : Bool) → suc (length fs) ≤ cond b 0 (suc (index_of fs y)) → (length fs ≤ index_of fs y → some (λ f. eqb f.type y) fs ≡ false)
        → b || some (λ f. eqb f.type y) fs ≡ false
    go true l ih = absurd (omega arith)
    go false l ih = ih (omega arith)

none_found : (fs : List Format) (y : ℕ) → some (λ f. eqb f.type y) fs ≡ false → by_type fs y ≡ no_format
none_found [] y e = refl
none_found (f ∷ fs) y e =
    let w = neither (eqb f.type y) (some (λ f. eqb f.type y) fs) e in
    ap (λ (b : Bool). cond b f (by_type fs y)) w.0 ∙ none_found fs y w.1

module _ (ed : Edition) where
  -- ---- the class of a block of one format

  module _ (f : Format) (x : ℕ) where
    -- its characters are bytes
    pub class_good : Below 256 (vector_of ed f x) → class_by ed f x ≡ good (kind_for f (vector_of ed f x))
    class_good w =
        ap₂ (λ (a b : Bool). cond a (Class.Bad ControlCode) (cond b (Class.Bad SetCode) (good (kind_for f (vector_of ed f x)))))
        (none_some 256 (vector_of ed f x) (below_none 256 (vector_of ed f x) (lit≤ tt) w))
        (none_some 512 (vector_of ed f x) (below_none 512 (vector_of ed f x) (lit≤ tt) w))

    -- one says 256; none does and one says 512
    pub class_control : (None 256 (vector_of ed f x) → ⊥) → class_by ed f x ≡ Class.Bad ControlCode
    class_control n = by_test (says ed 256 f x) (λ e. rw e) (λ e. absurd (n (some_none 256 (vector_of ed f x) e)))

    pub class_set : None 256 (vector_of ed f x) → (None 512 (vector_of ed f x) → ⊥) → class_by ed f x ≡ Class.Bad SetCode
    class_set w n =
        by_test (says ed 512 f x) (λ e. rw (none_some 256 (vector_of ed f x) w, e)) (λ e. absurd (n (some_none 512 (vector_of ed f x) e)))

  -- its kind is that of document 01
  kind_by_lem : (f : Format) (x : ℕ) → T (all (sound f)) → kind_in (class_by ed f x) ≡ kind_by ed f x
  kind_by_lem f x s =
      by_test (says ed 256 f x) (λ a. rw a (sym (when_not ed f x (λ w. clash a (none_some 256 v (below_none 256 v (lit≤ tt) w)))).0))
      (λ a. by_test (says ed 512 f x) (λ b. rw (a, b) (sym (when_not ed f x (λ w. clash b (none_some 512 v (below_none 512 v (lit≤ tt) w)))).0))
      (λ b. ap kind_in (class_good f x (bytes a b)) ∙ kind_good (kind_for f (vector_of ed f x)) ∙ sym (when_valid ed f x (bytes a b)).0))
    where
      v : List ℕ
      v = vector_of ed f x

      clash : {b : Bool} → b ≡ true → b ≡ false → ⊥
      clash p q = false≢true (sym q ∙ p)

      bytes : says ed 256 f x ≡ false → says ed 512 f x ≡ false → Below 256 (vector_of ed f x)
      bytes a b = none_below (vector_of ed f x) (vector_tells ed f s x) (some_none 256 (vector_of ed f x) a) (some_none 512 (vector_of ed f x) b)

  -- ---- the class of a block

  -- a data block
  pub class_data : (x : ℕ) → class_of ed 2 x ≡ Class.D
  unfolding class_of kind_for
  class_data x = class_good data_block x (data_below ed x)

  -- a control block by the row of its type
  pub class_row : (x : ℕ) → row_of (x % 2 ^ 8) < 16 → class_of ed 1 x ≡ class_by ed (row (row_of (x % 2 ^ 8))) x
  unfolding class_of
  class_row x l = rw (type_some control_blocks (x % 2 ^ 8) (omega arith)) (ap (λ (f : Format). class_by ed f x) (by_index control_blocks (x % 2 ^ 8)))

  pub class_no_type : (x : ℕ) → 16 ≤ row_of (x % 2 ^ 8) → class_of ed 1 x ≡ Class.Bad BlockType
  unfolding class_of
  class_no_type x l = rw (type_none control_blocks (x % 2 ^ 8) (omega arith))

  pub class_no_header : (h x : ℕ) → (h ≡ 2 → ⊥) → (h ≡ 1 → ⊥) → class_of ed h x ≡ Class.Bad Header
  unfolding class_of
  class_no_header h x n m = rw (ne_eqb h 1 m, ne_eqb h 2 n)

  -- ---- document 01's kind is that of the class, so kind E is bad for some reason, and what is bad is of kind E

  data_kinds : (x : ℕ) → kind_of ed 2 x ≡ kind_in (class_of ed 2 x)
  unfolding kind_of class_of
  data_kinds x = sym (kind_by_lem data_block x tt)

  control_kinds : (x : ℕ) → kind_of ed 1 x ≡ kind_in (class_of ed 1 x)
  unfolding kind_of class_of
  control_kinds x =
      by_test (some (λ f. eqb f.type (x % 2 ^ 8)) control_blocks)
      (λ e. rw e (sym (of_type (λ f. kind_in (class_by ed f x) ≡ kind_by ed f x) (λ f. all (sound f)) control_blocks tt (λ f t. kind_by_lem f x t) refl (x % 2 ^ 8))))
      (λ e. rw e (ap (λ (f : Format). kind_by ed f x) (none_found control_blocks (x % 2 ^ 8) e)))

  other_kinds : (h x : ℕ) → eqb h 2 ≡ false → eqb h 1 ≡ false → kind_of ed h x ≡ kind_in (class_of ed h x)
  unfolding kind_of class_of
  other_kinds h x n m = rw (m, n)

  pub kind_of_class : (h x : ℕ) → kind_of ed h x ≡ kind_in (class_of ed h x)
  kind_of_class h x =
      by_test (eqb h 2) (λ e. subst (λ (h : ℕ). kind_of ed h x ≡ kind_in (class_of ed h x)) (sym (eqb-true h 2 e)) (data_kinds x))
      (λ n. by_test (eqb h 1) (λ e. subst (λ (h : ℕ). kind_of ed h x ≡ kind_in (class_of ed h x)) (sym (eqb-true h 1 e)) (control_kinds x))
      (λ m. other_kinds h x n m))
