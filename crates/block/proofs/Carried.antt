-- Laws of the kind of a vector: no two formats carry one vector, so a decoded vector has the kind of its block. Assumes nothing.
use mathlib.Core.Path.{◌≡◌, refl, ◌∙◌, ap, subst, subst₂, sym}
use mathlib.Core.Bool.{Bool, true, false, cond, not, ◌&&◌, ◌||◌, false≢true}
use mathlib.Core.List.{List, [], ◌∷◌}
use Prim.Native.Nat.{ℕ, zero, suc, ◌/◌, ◌%◌, ◌^◌, ◌<◌, ◌≤◌}
use native.Mathlib.Nat.{le_of_suc-le-suc, not-le_of_lt, not-suc-le-zero}
use lib.Dec.{T, lit<, lit≤, eqb, ltb, leb, T_not, ltb→lt, lt→ltb, leb→le, eqb→eq}
use lib.ListN.{length, get_or}
use borrow.Author.Tests.{ltb-true, ltb-false, eq-eqb, ne_eqb, eqb-true}
use Rattle.block.specs.declared.Edition.{Edition}
use Rattle.block.specs.declared.Edition.TheVariants.{Old, New}
use Rattle.block.specs.declared.Kind.TheVariants.{C, E}
use Rattle.block.specs.Block.{Slot, Control, Calm, Data, Set, Start, Terminate, Field, Format, no_format, controls, controls_in, sets, without, code_in, octet_in, code_of, octet_of, control_bit, code_for}
use Rattle.block.specs.Block.{flag_of, lane_of, sent_code, carries, carrier_by, carrier, carrier_kind, vector_kind, octet_at, flag_at, format_of, vector_of, valid, error_vector, local_fault_vector, kind_for, kind_of, decoded, some, is_error}
use Rattle.block.specs.Rows.{formats, row, format_row}
use Rattle.refusals.proofs.Laws.{by_test}
use Rattle.bits.proofs.Tests.{both_left, both_right, or_right, all, holds, every, every_at, is_true}
use Rattle.block.proofs.Formats.{has, blind, row_none, row_format}
use Rattle.block.proofs.Reading.{all_below_lem, below_at, decided, vector_flag, vector_lane}
use Rattle.block.proofs.Sending.{own}

-- the error vector is carried by no block
pub kind_of_error : (ed : Edition) → vector_kind ed error_vector ≡ E
unfolding vector_kind carrier
kind_of_error Old = refl
kind_of_error New = refl

-- the Local Fault vector is carried by a block of kind C
pub kind_of_fault : (ed : Edition) → vector_kind ed local_fault_vector ≡ C
unfolding vector_kind carrier kind_for
kind_of_fault Old = refl
kind_of_fault New = refl

-- ---- tables, tests and fields

-- in a table, the octet of a code has a code
code_in_lem : (z : ℕ) (ps : List (ℕ × ℕ)) (c : ℕ) → 256 ≤ z → T (every (λ p. ltb p.1 256) ps) → octet_in z ps c < 256 → code_in z ps (octet_in z ps c) < 256
code_in_lem z [] c w t h = absurd (not-le_of_lt h w)
code_in_lem z (p ∷ ps) c w t h = go (eqb p.1 c) h (code_in_lem z ps c w (both_right (ltb p.1 256) (every (λ p. ltb p.1 256) ps) t))
  where
    small : p.1 < 256
    small = ltb→lt p.1 256 (both_left (ltb p.1 256) (every (λ p. ltb p.1 256) ps) t)

    among : (b : Bool) (n : ℕ) → n < 256 → cond b p.1 n < 256
    among true n l = small
    among false n l = l

    go : (b : Bool) → cond b p.0 (octet_in z ps c) < 256 → (octet_in z ps c < 256 → code_in z ps (octet_in z ps c) < 256)
        → code_in z (p ∷ ps) (cond b p.0 (octet_in z ps c)) < 256
    go true h ih = subst (λ (b : Bool). cond b p.1 (code_in z ps p.0) < 256) (sym (eq-eqb p.0 p.0 refl)) small
    go false h ih = among (eqb p.0 (octet_in z ps c)) (code_in z ps (octet_in z ps c)) (ih h)

controls_coded : (ed : Edition) → T (every (λ p. ltb p.1 256) (controls_in ed))
controls_coded Old = tt
controls_coded New = tt

calm_coded : (ed : Edition) → T (every (λ p. ltb p.1 256) (without 0x1e (controls_in ed)))
calm_coded Old = tt
calm_coded New = tt

-- each field has a character of its own, one of the eight
abbrev single : List Field → Bool
single [] = true
single (f ∷ fs) = all (ltb f.char 8 ∷ not (has fs f.char) ∷ single fs ∷ [])

-- and the fields of each have each a character of its own
all_single : T (every (λ f. single f.fields) formats)
all_single = tt

-- two tests pass where each does
join : (a b : Bool) → T a → T b → T (a && b)
join true b t u = u
join false b t u = absurd t

-- Start and Terminate take one octet
one_octet : (n o : ℕ) → cond (eqb o n) 0 256 < 256 → o ≡ n
one_octet n o h = by_test (eqb o n) (eqb-true o n) (λ e. absurd (not-le_of_lt (subst (λ (b : Bool). cond b 0 256 < 256) e h) (lit≤ tt)))

module _ (ed : Edition) where
  -- ---- a slot takes the octets that are read from its field

  -- so of each slot
  code_back : (s : Slot) (c : ℕ) → octet_of ed s c < 256 → code_of ed s (octet_of ed s c) < 256
  code_back Control c = code_in_lem 256 (controls_in ed) c (lit≤ tt) (controls_coded ed)
  code_back Calm c = code_in_lem 256 (without 0x1e (controls_in ed)) c (lit≤ tt) (calm_coded ed)
  code_back Data c = λ h. h
  code_back Set c = code_in_lem 512 sets c (lit≤ tt) tt
  code_back Start c = λ h. lit< tt
  code_back Terminate c = λ h. lit< tt

  -- with the slot's control bit it is taken
  takes : (s : Slot) (b o c : ℕ) → b ≡ control_bit s → o ≡ octet_of ed s c → o < 256 → code_for ed s b o < 256
  takes s b o c e q h =
      subst₂ (λ (t : Bool) (n : ℕ). cond t (code_of ed s n) 256 < 256) (sym (eq-eqb b (control_bit s) e)) (sym q)
      (code_back s c (subst (λ (n : ℕ). n < 256) q h))

  -- ---- a format carries the vector that is read by it

  -- the vector's characters are those of fields that begin at bit 0 of x
  abbrev Reads : List ℕ → List Field → ℕ → Type 0
  Reads v fs x = (p : ℕ) → p < 8 → T (has fs p) → (flag_of v p ≡ flag_at fs p) × (lane_of v p ≡ octet_at ed fs x p)

  -- fields carry the bytes that are read from them
  fields_carry : (v : List ℕ) → ((n : ℕ) → get_or v n 0 < 256) → (fs : List Field) (x : ℕ) → T (single fs) → Reads v fs x → T (carries ed v fs)
  fields_carry v byte [] x t r = tt
  fields_carry v byte (f ∷ fs) x t r =
      join (ltb (sent_code ed v f) 256) (carries ed v fs) (lt→ltb (sent_code ed v f) 256 mine) (fields_carry v byte fs (x / 2 ^ f.bits) (holds tests 2 t) others)
    where
      tests : List Bool
      tests = ltb f.char 8 ∷ not (has fs f.char) ∷ single fs ∷ []

      mine : sent_code ed v f < 256
      mine =
          let w = (rw (eq-eqb f.char f.char refl) at (r f.char (ltb→lt f.char 8 (holds tests 0 t)))) tt in
          takes f.slot (flag_of v f.char) (lane_of v f.char) (x % 2 ^ f.bits) w.0 w.1 (byte _)

      others : Reads v fs (x / 2 ^ f.bits)
      others p l h =
          let e = ne_eqb f.char p (λ q. T_not (has fs f.char) (holds tests 1 t) (subst (λ (n : ℕ). T (has fs n)) (sym q) h)) in
          (rw e at (r p l)) h

  -- ---- two slots that take no character in common

  -- the first has one octet, which the second does not take
  abbrev barred : Slot → Slot → Bool
  barred s s' = blind s && leb 256 (code_of ed s' (octet_of ed s 0))

  -- by their control bits, or by the octet of Start or Terminate
  abbrev disjoint : Slot → Slot → Bool
  disjoint s s' = not (eqb (control_bit s) (control_bit s')) || (barred s s' || barred s' s)

  -- which is the one that is read from their fields
  blind_octet : (s : Slot) (o : ℕ) → T (blind s) → code_of ed s o < 256 → o ≡ octet_of ed s 0
  blind_octet Control o t = absurd t
  blind_octet Calm o t = absurd t
  blind_octet Data o t = absurd t
  blind_octet Set o t = absurd t
  blind_octet Start o t = one_octet 0xfb o
  blind_octet Terminate o t = one_octet 0xfd o

  -- no octet is taken by a slot and by one that is barred from it
  barred_not : (s s' : Slot) (o : ℕ) → T (barred s s') → code_of ed s o < 256 → code_of ed s' o < 256 → ⊥
  barred_not s s' o t h k =
      not-le_of_lt (subst (λ (n : ℕ). code_of ed s' n < 256) (blind_octet s o (both_left (blind s) _ t) h) k)
      (leb→le 256 (code_of ed s' (octet_of ed s 0)) (both_right (blind s) _ t))

  -- a character that is taken has a code
  coded : (s : Slot) (b o : ℕ) → code_for ed s b o < 256 → code_of ed s o < 256
  coded s b o h = subst (λ (t : Bool). cond t (code_of ed s o) 256 < 256) (eq-eqb b (control_bit s) (own ed s b o h)) h

  -- no character is taken by two disjoint slots
  disjoint_not : (s s' : Slot) (b o : ℕ) → T (disjoint s s') → code_for ed s b o < 256 → code_for ed s' b o < 256 → ⊥
  disjoint_not s s' b o t h k =
      barred_not s' s o
      (or_right (barred s s') (barred s' s)
      (or_right (not (eqb (control_bit s) (control_bit s'))) _ t (λ u. T_not (eqb (control_bit s) (control_bit s')) u (is_true (eq-eqb (control_bit s) (control_bit s') (sym (own ed s b o h) ∙ own ed s' b o k)))))
      (λ u. barred_not s s' o u (coded s b o h) (coded s' b o k)))
      (coded s' b o k) (coded s b o h)

  -- ---- no two formats carry one vector

  -- two fields of one character whose slots are disjoint
  abbrev rival : Field → Field → Bool
  rival f g = eqb g.char f.char && disjoint f.slot g.slot

  -- two formats with such fields
  abbrev rivals : Format → Format → Bool
  rivals f g = some (λ a. some (rival a) g.fields) f.fields

  -- each two of a list
  abbrev apart : List Format → Bool
  apart [] = true
  apart (f ∷ fs) = every (rivals f) fs && apart fs

  module _ (v : List ℕ) where
    -- where no field that takes its character passes a test, and some field passes it, the fields do not carry the vector
    none_takes : (q : Field → Bool) → ((f : Field) → T (q f) → sent_code ed v f < 256 → ⊥) → (fs : List Field) → T (some q fs) → T (carries ed v fs) → ⊥
    none_takes q n [] t c = t
    none_takes q n (f ∷ fs) t c =
        none_takes q n fs
        (or_right (q f) (some q fs) t (λ u. n f u (ltb→lt (sent_code ed v f) 256 (both_left (ltb (sent_code ed v f) 256) (carries ed v fs) c))))
        (both_right (ltb (sent_code ed v f) 256) (carries ed v fs) c)

    -- two rival fields do not both take their character
    rival_not : (f g : Field) → T (rival f g) → sent_code ed v f < 256 → sent_code ed v g < 256 → ⊥
    rival_not f g t h k =
        disjoint_not f.slot g.slot (flag_of v f.char) (lane_of v f.char) (both_right (eqb g.char f.char) _ t) h
        (subst (λ (p : ℕ). code_for ed g.slot (flag_of v p) (lane_of v p) < 256) (eqb→eq g.char f.char (both_left (eqb g.char f.char) _ t)) k)

    -- two rival formats do not both carry the vector
    not_both : (f g : Format) → T (rivals f g) → T (carries ed v f.fields) → T (carries ed v g.fields) → ⊥
    not_both f g t c d = none_takes (λ a. some (rival a) g.fields) (λ a u h. none_takes (rival a) (λ b w. rival_not a b w h) g.fields u d) f.fields t c

    -- so a format that carries it gives it its kind
    first_kind : (fs : List Format) (r : ℕ) → T (apart fs) → r < length fs → T (carries ed v (get_or fs r no_format).fields) → carrier_kind (carrier_by ed fs v) ≡ kind_for (get_or fs r no_format) v
    first_kind [] r t l c = absurd (not-suc-le-zero l)
    first_kind (f ∷ fs) zero t l c = by_test (carries ed v f.fields) (λ e. rw e) (λ e. absurd (subst T e c))
    first_kind (f ∷ fs) (suc r) t l c =
        by_test (carries ed v f.fields)
        (λ e. absurd (not_both f (get_or fs r no_format) (every_at (rivals f) fs no_format r (both_left (every (rivals f) fs) (apart fs) t) (le_of_suc-le-suc l)) (is_true e) c))
        (λ e. rw e (first_kind fs r (both_right (every (rivals f) fs) (apart fs) t) (le_of_suc-le-suc l) c))

-- each two of the sixteen formats are rivals
all_apart : (ed : Edition) → T (apart ed formats)
all_apart Old = tt
all_apart New = tt

module _ (ed : Edition) where
  -- ---- the law

  -- a valid block of a row
  row_kind : (r x : ℕ) → valid ed (row r) x ≡ true → vector_kind ed (vector_of ed (row r) x) ≡ kind_for (row r) (vector_of ed (row r) x)
  unfolding vector_kind carrier
  row_kind r x e = by_test (ltb r 16) (λ t. inside (ltb-true r 16 t)) (λ t. absurd (outside (ltb-false r 16 t)))
    where
      v : List ℕ
      v = vector_of ed (row r) x

      inside : r < 16 → carrier_kind (carrier_by ed formats v) ≡ kind_for (row r) (vector_of ed (row r) x)
      inside h =
          first_kind ed v formats r (all_apart ed) h
          (fields_carry ed v (below_at 256 v (lit< tt) (all_below_lem 256 v (is_true e))) (row r).fields (x / 2 ^ (row r).lead)
          (every_at (λ f. single f.fields) formats no_format r all_single h)
          (λ p l t. (vector_flag ed (row r) x p l, vector_lane ed (row r) x p l)))

      outside : 16 ≤ r → ⊥
      outside h = false≢true (ap (λ (f : Format). valid ed f x) (sym (row_none r h)) ∙ e)

  -- "A vector to be sent has the kind of the block that would carry it": the vector of a block that was received has the block's kind.
  pub kind_of_decoded : (h x : ℕ) → vector_kind ed (decoded ed h x) ≡ kind_of ed h x
  unfolding decoded kind_of
  kind_of_decoded h x =
      decided ed (λ k v. vector_kind ed v ≡ k) (format_of h x) x
      (subst (λ (f : Format). valid ed f x ≡ true → vector_kind ed (vector_of ed f x) ≡ kind_for f (vector_of ed f x)) (row_format h x) (row_kind (format_row h x) x))
      (λ e. kind_of_error ed)

-- ---- from the older edition to the newer

-- a table with one row more takes what it took
newer_in : (ps : List (ℕ × ℕ)) (o : ℕ) → code_in 256 ps o < 256 → code_in 256 ((0x06, 0x06) ∷ ps) o < 256
newer_in ps o h = go (eqb 0x06 o)
  where
    go : (b : Bool) → cond b 0x06 (code_in 256 ps o) < 256
    go true = lit< tt
    go false = h

-- a character that a slot takes in the older edition it takes in the newer
newer_code : (s : Slot) (o : ℕ) → code_of Old s o < 256 → code_of New s o < 256
newer_code Control o h = newer_in controls o h
newer_code Calm o h = newer_in (without 0x1e controls) o h
newer_code Data o h = h
newer_code Set o h = h
newer_code Start o h = h
newer_code Terminate o h = h

module _ (v : List ℕ) where
  -- so the newer edition carries what the older does, by the same formats
  newer_carries : (fs : List Field) → T (carries Old v fs) → T (carries New v fs)
  newer_carries [] t = tt
  newer_carries (f ∷ fs) t =
      join (ltb (sent_code New v f) 256) (carries New v fs)
      (lt→ltb (sent_code New v f) 256 (taken f.slot (eqb (flag_of v f.char) (control_bit f.slot)) (ltb→lt (sent_code Old v f) 256 (both_left (ltb (sent_code Old v f) 256) (carries Old v fs) t))))
      (newer_carries fs (both_right (ltb (sent_code Old v f) 256) (carries Old v fs) t))
    where
      taken : (s : Slot) (b : Bool) → cond b (code_of Old s (lane_of v f.char)) 256 < 256 → cond b (code_of New s (lane_of v f.char)) 256 < 256
      taken s true h = newer_code s (lane_of v f.char) h
      taken s false h = h

  -- what a format carries in the newer edition, no rival of it carries in the older
  none_later : (f : Format) (gs : List Format) → T (every (rivals New f) gs) → T (carries New v f.fields) → carrier_kind (carrier_by Old gs v) ≡ E
  none_later f [] t c = refl
  none_later f (g ∷ gs) t c =
      by_test (carries Old v g.fields)
      (λ e. absurd (not_both New v f g (both_left (rivals New f g) (every (rivals New f) gs) t) c (newer_carries g.fields (is_true e))))
      (λ e. rw e (none_later f gs (both_right (rivals New f g) (every (rivals New f) gs) t) c))

  newer_first : (fs : List Format) → T (apart New fs) → is_error (carrier_kind (carrier_by Old fs v)) ≡ false → carrier_kind (carrier_by New fs v) ≡ carrier_kind (carrier_by Old fs v)
  newer_first [] t n = refl
  newer_first (f ∷ fs) t n =
      by_test (carries Old v f.fields)
      (λ e. rw (e, is_yes (carries New v f.fields) (newer_carries f.fields (is_true e))))
      (λ e.
      by_test (carries New v f.fields)
      (λ d.
      let z : carrier_kind (carrier_by Old fs v) ≡ E = none_later f fs (both_left (every (rivals New f) fs) (apart New fs) t) (is_true d) in
      absurd (false≢true (sym (rw e at n) ∙ ap is_error z)))
      (λ d. rw (e, d) (newer_first fs (both_right (every (rivals New f) fs) (apart New fs) t) (rw e at n))))
    where
      is_yes : (b : Bool) → T b → b ≡ true
      is_yes true t = refl
      is_yes false t = absurd t

  -- a vector that some block of the older edition carries has the same kind in both
  pub kind_newer : is_error (vector_kind Old v) ≡ false → vector_kind New v ≡ vector_kind Old v
  unfolding vector_kind carrier
  kind_newer n = newer_first formats (all_apart New) n
