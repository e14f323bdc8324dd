-- The laws of the counts. Assumes nothing.
use Prim.Native.Nat.{ℕ, suc, zero-le, ◌+◌, ◌≤◌, ◌<◌}
use mathlib.Core.Path.{◌≡◌, refl, sym, ap, ◌∙◌}
use mathlib.Core.Bool.{Bool, true, false, cond, not, ◌&&◌}
use mathlib.Core.List.{List, [], ◌∷◌, ◌++◌}
use native.Mathlib.Omega.{arith}
use native.Mathlib.Nat.{add-zero, zero-add, add_assoc}
use lib.Dec.{T}
use lib.ListN.{length}
use Rattle.bits.specs.Lists.{how_many}
use Rattle.bits.proofs.HowMany.{one_le, how_few}
use Rattle.block.specs.Block.{is_error, is_s, kind_in}
use Rattle.block.specs.declared.Class.{Class}
use Rattle.block.specs.declared.Class.TheVariants as Class
use Rattle.block.specs.declared.Reason.{Reason}
use Rattle.block.specs.declared.Reason.TheVariants.{Header, BlockType, ControlCode, SetCode}
use Rattle.diagrams.specs.declared.State.{State}
use Rattle.diagrams.specs.declared.State.TheVariants.{Init, Error}
use Rattle.receiving.specs.Machine.{Tested}
use Rattle.receiving.specs.Receive.{bad_for, counts_of, Judged, decodes, errs, begins, replaces, handed_of}
use Rattle.receiving.specs.Parts.{no_counts, plus, none_handed, plus_handed}
use Rattle.receiving.specs.Counted.{reasoned, counted, Within, hand_out, decoded_out, replaced_out, HandedWithin}
use Rattle.receiving.specs.declared.Counts.{Counts}
use Rattle.receiving.specs.declared.Handed.{Handed}

-- what one block adds, and then those after it
pub count_more : (c : Counts) (t : Tested) (ts : List Tested) → plus (counted c t) (counts_of ts) ≡ plus c (counts_of (t ∷ ts))
unfolding counted reasoned counts_of how_many
count_more c t ts =
    let tested : c.tested + 1 + length ts ≡ c.tested + suc (length ts) = omega arith in
    λ i. record {
      tested = tested i;
      slips = add_assoc c.slips (cond t.slipped 1 0) (how_many (λ t. t.slipped) ts) i;
      headers = bad Header c.headers i;
      types = bad BlockType c.types i;
      codes = bad ControlCode c.codes i;
      sets = bad SetCode c.sets i;
    }
  where
    bad : (r : Reason) (n : ℕ)
        → n + cond (bad_for r t.class) 1 0 + how_many (λ t. bad_for r t.class) ts ≡ n + (cond (bad_for r t.class) 1 0 + how_many (λ t. bad_for r t.class) ts)
    bad r n = add_assoc n (cond (bad_for r t.class) 1 0) (how_many (λ t. bad_for r t.class) ts)

-- no block adds nothing
pub count_end : (c : Counts) → plus c (counts_of []) ≡ c
unfolding counts_of how_many
count_end c =
    λ i. record {
      tested = add-zero c.tested i;
      slips = add-zero c.slips i;
      headers = add-zero c.headers i;
      types = add-zero c.types i;
      codes = add-zero c.codes i;
      sets = add-zero c.sets i;
    }

-- from nothing on
pub count_first : (c : Counts) → plus no_counts c ≡ c
count_first c =
    λ i. record {
      tested = zero-add c.tested i;
      slips = zero-add c.slips i;
      headers = zero-add c.headers i;
      types = zero-add c.types i;
      codes = zero-add c.codes i;
      sets = zero-add c.sets i;
    }

-- ---- by the class of a block

module _ (c : Counts) where
  -- the sums of a class are its counts
  summed : (k : Class) (h t o s : ℕ)
      → h ≡ c.headers + cond (bad_for Header k) 1 0 → t ≡ c.types + cond (bad_for BlockType k) 1 0
      → o ≡ c.codes + cond (bad_for ControlCode k) 1 0 → s ≡ c.sets + cond (bad_for SetCode k) 1 0
      → record { tested = c.tested; slips = c.slips; headers = h; types = t; codes = o; sets = s } ≡ reasoned c k
  unfolding reasoned
  summed k h t o s p q u v = λ i. record { tested = c.tested; slips = c.slips; headers = p i; types = q i; codes = u i; sets = v i }

  nought : (n : ℕ) → n ≡ n + 0
  nought n = sym (add-zero n)

  -- what is not bad counts for no reason
  pub free : (k : Class) → T (not (is_error (kind_in k))) → c ≡ reasoned c k
  free Class.D t = summed Class.D _ _ _ _ (nought c.headers) (nought c.types) (nought c.codes) (nought c.sets)
  free Class.C t = summed Class.C _ _ _ _ (nought c.headers) (nought c.types) (nought c.codes) (nought c.sets)
  free Class.S t = summed Class.S _ _ _ _ (nought c.headers) (nought c.types) (nought c.codes) (nought c.sets)
  free Class.T t = summed Class.T _ _ _ _ (nought c.headers) (nought c.types) (nought c.codes) (nought c.sets)
  free Class.LI t = summed Class.LI _ _ _ _ (nought c.headers) (nought c.types) (nought c.codes) (nought c.sets)
  free (Class.Bad r) t = absurd t

  -- what is bad counts for its reason alone
  pub one_header_lem : record { tested = c.tested; slips = c.slips; headers = c.headers + 1; types = c.types; codes = c.codes; sets = c.sets } ≡ reasoned c (Class.Bad Header)
  one_header_lem = summed (Class.Bad Header) _ _ _ _ refl (nought c.types) (nought c.codes) (nought c.sets)

  pub one_type : record { tested = c.tested; slips = c.slips; headers = c.headers; types = c.types + 1; codes = c.codes; sets = c.sets } ≡ reasoned c (Class.Bad BlockType)
  one_type = summed (Class.Bad BlockType) _ _ _ _ (nought c.headers) refl (nought c.codes) (nought c.sets)

  -- one more block, with n slips
  abbrev pub one_more : ℕ → Counts
  one_more n = record { tested = c.tested + 1; slips = c.slips + n; headers = c.headers; types = c.types; codes = c.codes; sets = c.sets }

  pub counted_is : (t : Tested) (n : ℕ) (r : Counts) → n ≡ cond t.slipped 1 0 → r ≡ reasoned (one_more n) t.class → r ≡ counted c t
  unfolding counted
  counted_is t n r e q = q ∙ ap (λ (m : ℕ). reasoned (one_more m) t.class) e

-- ---- bounds

-- nothing counted is within any bound
pub within_none : (n : ℕ) → Within n no_counts
within_none n =
    record { tested = zero-le; slips = zero-le; headers = zero-le; types = zero-le; codes = zero-le; sets = zero-le }

-- a block adds at most one to each
pub within_next : (c : Counts) (t : Tested) (n m : ℕ) → Within n c → n < m → Within m (counted c t)
unfolding counted reasoned
within_next c t n m w l =
    record {
      tested = omega (arith, w.tested);
      slips = omega (arith, w.slips, one_le t.slipped);
      headers = omega (arith, w.headers, one_le (bad_for Header t.class));
      types = omega (arith, w.types, one_le (bad_for BlockType t.class));
      codes = omega (arith, w.codes, one_le (bad_for ControlCode t.class));
      sets = omega (arith, w.sets, one_le (bad_for SetCode t.class));
    }

-- a wider bound
pub within_wide : (c : Counts) (n m : ℕ) → Within n c → n ≤ m → Within m c
within_wide c n m w l =
    record {
      tested = omega (arith, w.tested);
      slips = omega (arith, w.slips);
      headers = omega (arith, w.headers);
      types = omega (arith, w.types);
      codes = omega (arith, w.codes);
      sets = omega (arith, w.sets);
    }

-- ---- the counts of vectors handed out

-- what one vector adds, and then those after it
pub hand_more : (h : Handed) (j : Judged) (js : List Judged) → plus_handed (hand_out h j) (handed_of js) ≡ plus_handed h (handed_of (j ∷ js))
unfolding hand_out handed_of how_many
hand_more h j js = λ i. record { begun = more begins h.begun i; replaced = more replaces h.replaced i }
  where
    more : (test : Judged → Bool) (n : ℕ) → n + cond (test j) 1 0 + how_many test js ≡ n + (cond (test j) 1 0 + how_many test js)
    more test n = add_assoc n (cond (test j) 1 0) (how_many test js)

-- what one vector adds, by the class and the state of its block
module _ (h : Handed) where
  begun_by : (b c : Bool) → b ≡ c → h.begun + cond b 1 0 ≡ h.begun + cond c 1 0
  begun_by b c e = ap {B = ℕ} (λ (z : Bool). h.begun + cond z 1 0) e

  both : (b c : Bool) → c ≡ true → b ≡ b && c
  both true c e = sym e
  both false c e = refl

  neither : (b : Bool) → false ≡ b && false
  neither true = refl
  neither false = refl

  none_begun : (t : Tested) → h.begun ≡ h.begun + cond (is_s (kind_in t.class) && false) 1 0
  none_begun t = sym (add-zero h.begun) ∙ begun_by _ _ (neither (is_s (kind_in t.class)))

  pub out_decoded : (s : State) (t : Tested) → decodes s ≡ true → errs s ≡ false → decoded_out h t.class ≡ hand_out h (record { state = s; block = t })
  unfolding hand_out
  out_decoded s t d e =
      λ i. record {
        begun = begun_by _ _ (both (is_s (kind_in t.class)) (decodes s) d) i;
        replaced = (sym (add-zero h.replaced) ∙ ap {B = ℕ} (λ (z : Bool). h.replaced + cond z 1 0) (sym e)) i;
      }

  pub out_init : (t : Tested) → h ≡ hand_out h (record { state = Init; block = t })
  unfolding hand_out
  out_init t = λ i. record { begun = none_begun t i; replaced = sym (add-zero h.replaced) i }

-- no vector adds nothing
pub hand_end : (h : Handed) → plus_handed h (handed_of []) ≡ h
unfolding handed_of how_many
hand_end h = λ i. record { begun = add-zero h.begun i; replaced = add-zero h.replaced i }

-- from nothing on
pub hand_first : (h : Handed) → plus_handed none_handed h ≡ h
hand_first h = λ i. record { begun = zero-add h.begun i; replaced = zero-add h.replaced i }

-- joined lists of vectors
pub hand_append : (h : Handed) (a b : List Judged) → plus_handed h (handed_of (a ++ b)) ≡ plus_handed (plus_handed h (handed_of a)) (handed_of b)
hand_append h [] b = ap (λ (z : Handed). plus_handed z (handed_of b)) (sym (hand_end h))
hand_append h (j ∷ a) b =
    sym (hand_more h j (a ++ b)) ∙ hand_append (hand_out h j) a b ∙ ap (λ (z : Handed). plus_handed z (handed_of b)) (hand_more h j a)

-- bounds
pub handed_none : (n : ℕ) → HandedWithin n none_handed
handed_none n = record { begun = zero-le; replaced = zero-le }

pub handed_next : (h : Handed) (j : Judged) (n m : ℕ) → HandedWithin n h → n < m → HandedWithin m (hand_out h j)
unfolding hand_out
handed_next h j n m w l = record { begun = omega (arith, w.begun, one_le (begins j)); replaced = omega (arith, w.replaced, one_le (replaces j)) }

pub handed_wide : (h : Handed) (n m : ℕ) → HandedWithin n h → n ≤ m → HandedWithin m h
handed_wide h n m w l = record { begun = omega (arith, w.begun); replaced = omega (arith, w.replaced) }

-- ---- no count is above the number of those counted

pub counts_few : (ts : List Tested) (n : ℕ) → length ts ≤ n → Within n (counts_of ts)
unfolding counts_of
counts_few ts n l =
    record {
      tested = l;
      slips = omega (arith, how_few (λ t. t.slipped) ts);
      headers = omega (arith, how_few (λ t. bad_for Header t.class) ts);
      types = omega (arith, how_few (λ t. bad_for BlockType t.class) ts);
      codes = omega (arith, how_few (λ t. bad_for ControlCode t.class) ts);
      sets = omega (arith, how_few (λ t. bad_for SetCode t.class) ts);
    }

pub handed_few : (js : List Judged) (n : ℕ) → length js ≤ n → HandedWithin n (handed_of js)
unfolding handed_of
handed_few js n l = record { begun = omega (arith, how_few begins js); replaced = omega (arith, how_few replaces js) }

-- joined lists of blocks
pub count_append : (c : Counts) (a b : List Tested) → plus c (counts_of (a ++ b)) ≡ plus (plus c (counts_of a)) (counts_of b)
count_append c [] b = ap (λ (z : Counts). plus z (counts_of b)) (sym (count_end c))
count_append c (t ∷ a) b =
    sym (count_more c t (a ++ b)) ∙ count_append (counted c t) a b ∙ ap (λ (z : Counts). plus z (counts_of b)) (count_more c t a)
