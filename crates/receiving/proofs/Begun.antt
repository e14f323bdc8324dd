-- Document 02, 3/13: begun and replaced are what counting over the received vectors gives. A vector of kind S among the answers is always a
-- begun one, and an error vector always a replaced one. Assumes nothing.
use Prim.Native.Nat.{ℕ, ◌+◌}
use mathlib.Core.Path.{◌≡◌, refl, sym, ap, ap₂, ◌∙◌}
use mathlib.Core.Bool.{Bool, true, false, cond, ◌&&◌, true≢false}
use mathlib.Core.List.{List, [], ◌∷◌, map}
use Rattle.scrambler.specs.Scrambler.{descrambled}
use Rattle.block.specs.declared.Edition.{Edition}
use Rattle.block.specs.declared.Edition.TheVariants.{Old, New}
use Rattle.block.specs.Block.{decoded, is_s, is_error, is_error_vector, error_vector, vector_kind, kind_in}
use Rattle.block.specs.declared.Kind.{Kind}
use Rattle.block.specs.declared.Kind.TheVariants.{D, C, S, T, E, LI}
use Rattle.refusals.proofs.Laws.{by_test}
use Rattle.bits.proofs.Tests.{is_true}
use Rattle.block.proofs.Reading.{same_is}
use Rattle.block.proofs.Carried.{kind_of_error, kind_of_fault, kind_of_decoded, kind_newer}
use Rattle.diagrams.specs.Diagram.{after_idle, after_data, after_error, after_low, diagram_of}
use Rattle.diagrams.specs.declared.State.{State}
use Rattle.diagrams.specs.declared.State.TheVariants.{Init, Control, Data, Terminate, Error, LowPower}
use Rattle.bits.specs.Lists.{how_many}
use Rattle.receiving.specs.Machine.{Tested, tested_of}
use Rattle.receiving.specs.Receive.{ends, state_of, answer_in, judge, answers, decodes, errs, begins, replaces, handed_of, vectors_of}
use Rattle.receiving.specs.Answer.{summary_of}
use Rattle.receiving.specs.Reasons.{Taken, taken_blocks}
use Rattle.receiving.proofs.Reasons.{test, tested_of_lem, AllOf, all_of, kind_tested}

both_true : (b : Bool) → b && true ≡ b
both_true true = refl
both_true false = refl

both_false : (b : Bool) → b && false ≡ false
both_false true = refl
both_false false = refl

-- a block of kind E leads to no state that answers it as decoded
no_error : (s : State) (e : Bool) → decodes (diagram_of s E e) ≡ false
unfolding diagram_of after_idle after_data after_error after_low
no_error Init e = refl
no_error Control e = refl
no_error Data e = refl
no_error Terminate e = refl
no_error Error e = refl
no_error LowPower e = refl

-- kind E by its test
error_is : (k : Kind) → is_error k ≡ true → k ≡ E
error_is D e = absurd (true≢false (sym e))
error_is C e = absurd (true≢false (sym e))
error_is S e = absurd (true≢false (sym e))
error_is T e = absurd (true≢false (sym e))
error_is E e = refl
error_is LI e = absurd (true≢false (sym e))

module _ (ed : Edition) where
  -- ---- of one block, from its kind and its vector

  -- the vector of a tested block has the kind of the block
  abbrev OwnKind : Tested → Type 0
  OwnKind t = vector_kind ed t.vector ≡ kind_in t.class

  own_kind : (t : Taken) → t.link.edition ≡ ed → OwnKind (test t)
  unfolding tested_of
  own_kind t e =
      ap (λ (d : Edition). vector_kind d (decoded t.link.edition t.header x)) (sym e)
      ∙ kind_of_decoded t.link.edition t.header x ∙ sym (kind_tested t.link t.header t.payload)
    where
      x : ℕ
      x = descrambled t.payload t.link.history

  -- begun: its vector is of kind S
  begins_is : (s : State) (t : Tested) → OwnKind t → is_s (kind_in t.class) && decodes s ≡ is_s (vector_kind ed (answer_in s t.vector))
  unfolding answer_in
  begins_is Init t p = both_false (is_s (kind_in t.class)) ∙ sym (ap is_s (kind_of_fault ed))
  begins_is Control t p = both_true (is_s (kind_in t.class)) ∙ sym (ap is_s p)
  begins_is Data t p = both_true (is_s (kind_in t.class)) ∙ sym (ap is_s p)
  begins_is Terminate t p = both_true (is_s (kind_in t.class)) ∙ sym (ap is_s p)
  begins_is LowPower t p = both_true (is_s (kind_in t.class)) ∙ sym (ap is_s p)
  begins_is Error t p = both_false (is_s (kind_in t.class)) ∙ sym (ap is_s (kind_of_error ed))

  -- replaced: its vector is the error vector
  replaces_is : (s : State) (t : Tested) (e : Bool) → OwnKind t → errs (state_of s t e) ≡ is_error_vector (answer_in (state_of s t e) t.vector)
  unfolding state_of answer_in
  replaces_is s t e p = on t.on
    where
      -- an answer as decoded is not the error vector
      never : (k : Kind) → vector_kind ed t.vector ≡ k → decodes (diagram_of s k e) ≡ true → false ≡ is_error_vector t.vector
      never k q d =
          by_test (is_error_vector t.vector)
          (λ w. absurd
          (let is : k ≡ E = sym q ∙ ap (vector_kind ed) (same_is t.vector error_vector (is_true w)) ∙ kind_of_error ed in
          true≢false (sym d ∙ ap (λ (z : Kind). decodes (diagram_of s z e)) is ∙ no_error s e)))
          (λ w. sym w)

      by : (σ : State) → (decodes σ ≡ true → false ≡ is_error_vector t.vector) → errs σ ≡ is_error_vector (answer_in σ t.vector)
      by Init n = refl
      by Control n = n refl
      by Data n = n refl
      by Terminate n = n refl
      by Error n = refl
      by LowPower n = n refl

      on : (b : Bool) → errs (cond b (diagram_of s (kind_in t.class) e) Init) ≡ is_error_vector (answer_in (cond b (diagram_of s (kind_in t.class) e) Init) t.vector)
      on true = by (diagram_of s (kind_in t.class) e) (never (kind_in t.class) p)
      on false = refl

  -- ---- of a list of blocks

  begun_from : (s : State) (ts : List Taken) → AllOf ed ts → how_many begins (judge s (map test ts)) ≡ how_many (λ v. is_s (vector_kind ed v)) (answers s (map test ts))
  unfolding judge answers how_many
  begun_from s [] w = refl
  begun_from s (t ∷ ts) w =
      let s' = state_of s (test t) (ends (map test ts)) in
      ap₂ (λ (b : Bool) (n : ℕ). cond b 1 0 + n) (begins_is s' (test t) (own_kind t w.0)) (begun_from s' ts w.1)

  replaced_from : (s : State) (ts : List Taken) → AllOf ed ts → how_many replaces (judge s (map test ts)) ≡ how_many is_error_vector (answers s (map test ts))
  unfolding judge answers how_many
  replaced_from s [] w = refl
  replaced_from s (t ∷ ts) w =
      let s' = state_of s (test t) (ends (map test ts)) in
      ap₂ (λ (b : Bool) (n : ℕ). cond b 1 0 + n) (replaces_is s (test t) (ends (map test ts)) (own_kind t w.0)) (replaced_from s' ts w.1)

  -- ---- of a whole line

  pub begun_are_starts : (line : List ℕ) → (summary_of ed line).handed.begun ≡ how_many (λ v. is_s (vector_kind ed v)) (vectors_of ed line)
  unfolding summary_of handed_of vectors_of
  begun_are_starts line =
      ap (λ (ts : List Tested). how_many begins (judge Init ts)) (tested_of_lem ed line) ∙ begun_from Init (taken_blocks ed line) (all_of ed line)
      ∙ sym (ap (λ (ts : List Tested). how_many (λ v. is_s (vector_kind ed v)) (answers Init ts)) (tested_of_lem ed line))

  pub replaced_are_errors : (line : List ℕ) → (summary_of ed line).handed.replaced ≡ how_many is_error_vector (vectors_of ed line)
  unfolding summary_of handed_of vectors_of
  replaced_are_errors line =
      ap (λ (ts : List Tested). how_many replaces (judge Init ts)) (tested_of_lem ed line) ∙ replaced_from Init (taken_blocks ed line) (all_of ed line)
      ∙ sym (ap (λ (ts : List Tested). how_many is_error_vector (answers Init ts)) (tested_of_lem ed line))

-- ---- a vector that was handed out is of kind S in its own edition exactly if it is in the newer

-- what a line of the older edition is answered with has the same kind in both
newer_answer : (s : State) (t : Tested) (e : Bool) → OwnKind Old t
    → is_s (vector_kind New (answer_in (state_of s t e) t.vector)) ≡ is_s (vector_kind Old (answer_in (state_of s t e) t.vector))
unfolding state_of answer_in
newer_answer s t e p = on t.on
  where
    -- an answer as decoded is of no kind E
    decoded_same : (k : Kind) → vector_kind Old t.vector ≡ k → decodes (diagram_of s k e) ≡ true → is_s (vector_kind New t.vector) ≡ is_s (vector_kind Old t.vector)
    decoded_same k q d =
        by_test (is_error (vector_kind Old t.vector))
        (λ w. absurd (true≢false (sym d ∙ ap (λ (z : Kind). decodes (diagram_of s z e)) (sym q ∙ error_is (vector_kind Old t.vector) w) ∙ no_error s e)))
        (λ w. ap is_s (kind_newer t.vector w))

    by : (σ : State) → (decodes σ ≡ true → is_s (vector_kind New t.vector) ≡ is_s (vector_kind Old t.vector))
        → is_s (vector_kind New (answer_in σ t.vector)) ≡ is_s (vector_kind Old (answer_in σ t.vector))
    by Init n = ap is_s (kind_of_fault New ∙ sym (kind_of_fault Old))
    by Control n = n refl
    by Data n = n refl
    by Terminate n = n refl
    by Error n = ap is_s (kind_of_error New ∙ sym (kind_of_error Old))
    by LowPower n = n refl

    on : (b : Bool) → is_s (vector_kind New (answer_in (cond b (diagram_of s (kind_in t.class) e) Init) t.vector))
        ≡ is_s (vector_kind Old (answer_in (cond b (diagram_of s (kind_in t.class) e) Init) t.vector))
    on true = by (diagram_of s (kind_in t.class) e) (decoded_same (kind_in t.class) p)
    on false = by Init (λ q. absurd (true≢false (sym q)))

newer_from : (s : State) (ts : List Taken) → AllOf Old ts
    → how_many (λ v. is_s (vector_kind New v)) (answers s (map test ts)) ≡ how_many (λ v. is_s (vector_kind Old v)) (answers s (map test ts))
unfolding judge answers how_many
newer_from s [] w = refl
newer_from s (t ∷ ts) w =
    let s' = state_of s (test t) (ends (map test ts)) in
    ap₂ (λ (b : Bool) (n : ℕ). cond b 1 0 + n) (newer_answer s (test t) (ends (map test ts)) (own_kind Old t w.0)) (newer_from s' ts w.1)

-- so in either edition begun is what counting vectors of kind S by the newer gives
pub begun_are_newer : (ed : Edition) (line : List ℕ) → (summary_of ed line).handed.begun ≡ how_many (λ v. is_s (vector_kind New v)) (vectors_of ed line)
unfolding vectors_of
begun_are_newer New line = begun_are_starts New line
begun_are_newer Old line =
    begun_are_starts Old line
    ∙ ap (λ (ts : List Tested). how_many (λ v. is_s (vector_kind Old v)) (answers Init ts)) (tested_of_lem Old line) ∙ sym (newer_from Init (taken_blocks Old line) (all_of Old line))
    ∙ sym (ap (λ (ts : List Tested). how_many (λ v. is_s (vector_kind New v)) (answers Init ts)) (tested_of_lem Old line))
