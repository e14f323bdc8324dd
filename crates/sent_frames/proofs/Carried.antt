-- What the characters of a vector are, by the format that carries it. Assumes nothing.
use Prim.Native.Nat.{ℕ, zero, suc, ◌<◌}
use mathlib.Core.Path.{◌≡◌, refl, sym, ap, ap₂, ◌∙◌}
use mathlib.Core.Bool.{Bool, true, false, ◌&&◌, ◌||◌, true≢false}
use mathlib.Core.List.{List, [], ◌∷◌}
use native.Mathlib.Omega.{arith}
use lib.Dec.{eqb, ltb}
use borrow.Author.Tests.{eqb-true, ltb-true}
use Rattle.refusals.proofs.Laws.{by_test}
use Rattle.block.specs.declared.Edition.{Edition}
use Rattle.block.specs.declared.Kind.TheVariants.{E}
use Rattle.block.specs.Block.{Slot, Control, Calm, Data, Set, Start, Terminate, Field, Format, control_bit, code_for, flag_of, lane_of, sent_code, carries, kind_for, carrier_kind, carrier_by}
use Rattle.block.proofs.Sending.{own}
use Rattle.frames.specs.Frames.{Character, data_octet, control_character, by_flag, up_to_end, is_good}
use Rattle.frames.specs.Apart.{is_open}
use Rattle.frames.proofs.Quiet.{and_both}

-- ---- good, or still open

abbrev pub fine : List Character → Bool
fine cs = is_good (up_to_end cs) || is_open (up_to_end cs)

pub fine_none : fine [] ≡ true
unfolding up_to_end is_good
fine_none = refl

pub fine_data : (o : ℕ) (cs : List Character) → fine (data_octet o ∷ cs) ≡ fine cs
unfolding up_to_end is_good
fine_data o cs = refl

pub fine_terminate : (cs : List Character) → fine (control_character 0xfd ∷ cs) ≡ true
unfolding up_to_end is_good
fine_terminate cs = refl

-- ---- the characters of a vector from character p on

abbrev pub characters_from : List ℕ → (p n : ℕ) → List Character → List Character
characters_from v p zero rest = rest
characters_from v p (suc n) rest = by_flag (flag_of v p) (lane_of v p) ∷ characters_from v (suc p) n rest

abbrev is_data_slot : Slot → Bool
is_data_slot Control = false
is_data_slot Calm = false
is_data_slot Data = true
is_data_slot Set = false
is_data_slot Start = false
is_data_slot Terminate = false

abbrev is_terminate_slot : Slot → Bool
is_terminate_slot Control = false
is_terminate_slot Calm = false
is_terminate_slot Data = false
is_terminate_slot Set = false
is_terminate_slot Start = false
is_terminate_slot Terminate = true

-- some field takes character p as such a slot
abbrev takes : (Slot → Bool) → ℕ → List Field → Bool
takes slot p [] = false
takes slot p (f ∷ fs) = eqb f.char p && slot f.slot || takes slot p fs

-- n characters from p on are data; the characters from p on are data up to a Terminate
abbrev pub data_run : List Field → (p n : ℕ) → Bool
data_run fs p zero = true
data_run fs p (suc n) = takes is_data_slot p fs && data_run fs (suc p) n

abbrev pub terminated : List Field → (p n : ℕ) → Bool
terminated fs p zero = false
terminated fs p (suc n) = takes is_terminate_slot p fs || takes is_data_slot p fs && terminated fs (suc p) n

module _ (ed : Edition) (v : List ℕ) where
  -- a field that takes a character has a code for it
  taken : (slot : Slot → Bool) (p : ℕ) (fs : List Field) → takes slot p fs ≡ true → carries ed v fs ≡ true
      → {A : Type 0} → ((s : Slot) → slot s ≡ true → code_for ed s (flag_of v p) (lane_of v p) < 256 → A) → A
  taken slot p [] t c k = absurd (true≢false (sym t))
  taken slot p (f ∷ fs) t c {A} k =
      let q = and_both (ltb (sent_code ed v f) 256) (carries ed v fs) c in
      go (eqb f.char p && slot f.slot) refl t q.0 (λ u. taken slot p fs u q.1 k)
    where
      go : (b : Bool) → (eqb f.char p && slot f.slot) ≡ b → (b || takes slot p fs) ≡ true → ltb (sent_code ed v f) 256 ≡ true
          → (takes slot p fs ≡ true → A) → A
      go true e t l rest =
          let r = and_both (eqb f.char p) (slot f.slot) e in
          let c : f.char ≡ p = eqb-true f.char p r.0 in
          k f.slot r.1 (rw (← c) (ltb-true (sent_code ed v f) 256 l))
      go false e t l rest = rest t

  data_slot_lem : (s : Slot) → is_data_slot s ≡ true → control_bit s ≡ 0
  data_slot_lem Control h = absurd (true≢false (sym h))
  data_slot_lem Calm h = absurd (true≢false (sym h))
  data_slot_lem Data h = refl
  data_slot_lem Set h = absurd (true≢false (sym h))
  data_slot_lem Start h = absurd (true≢false (sym h))
  data_slot_lem Terminate h = absurd (true≢false (sym h))

  -- a data octet
  data_at : (p : ℕ) (fs : List Field) → takes is_data_slot p fs ≡ true → carries ed v fs ≡ true → by_flag (flag_of v p) (lane_of v p) ≡ data_octet (lane_of v p)
  data_at p fs t c =
      taken is_data_slot p fs t c
      (λ s d l. ap (λ (f : ℕ). by_flag f (lane_of v p)) (own ed s (flag_of v p) (lane_of v p) l ∙ data_slot_lem s d))

  -- Terminate
  terminate_at : (p : ℕ) (fs : List Field) → takes is_terminate_slot p fs ≡ true → carries ed v fs ≡ true → by_flag (flag_of v p) (lane_of v p) ≡ control_character 0xfd
  terminate_at p fs t c = taken is_terminate_slot p fs t c (λ s d l. by s d l)
    where
      lane : (f o : ℕ) → code_for ed Terminate f o < 256 → (f ≡ 1) × (o ≡ 0xfd)
      lane f o l =
          let e : f ≡ 1 = own ed Terminate f o l in
          by_test (eqb o 0xfd)
          (λ t. (e, eqb-true o 0xfd t))
          (λ t. let z : code_for ed Terminate f o ≡ 256 = rw (e, t) in absurd (omega arith))

      by : (s : Slot) → is_terminate_slot s ≡ true → code_for ed s (flag_of v p) (lane_of v p) < 256 → by_flag (flag_of v p) (lane_of v p) ≡ control_character 0xfd
      by Control h l = absurd (true≢false (sym h))
      by Calm h l = absurd (true≢false (sym h))
      by Data h l = absurd (true≢false (sym h))
      by Set h l = absurd (true≢false (sym h))
      by Start h l = absurd (true≢false (sym h))
      by Terminate h l = let q = lane (flag_of v p) (lane_of v p) l in ap₂ by_flag q.0 q.1

  -- ---- runs of them

  pub data_fine : (fs : List Field) (p n : ℕ) (rest : List Character) → data_run fs p n ≡ true → carries ed v fs ≡ true → fine (characters_from v p n rest) ≡ fine rest
  data_fine fs p zero rest t c = refl
  data_fine fs p (suc n) rest t c =
      let q = and_both (takes is_data_slot p fs) (data_run fs (suc p) n) t in
      ap (λ (x : Character). fine (x ∷ characters_from v (suc p) n rest)) (data_at p fs q.0 c)
      ∙ fine_data (lane_of v p) (characters_from v (suc p) n rest) ∙ data_fine fs (suc p) n rest q.1 c

  pub terminated_fine : (fs : List Field) (p n : ℕ) (rest : List Character) → terminated fs p n ≡ true → carries ed v fs ≡ true → fine (characters_from v p n rest) ≡ true
  terminated_fine fs p zero rest t c = absurd (true≢false (sym t))
  terminated_fine fs p (suc n) rest t c = go (takes is_terminate_slot p fs) refl t (terminated_fine fs (suc p) n rest)
    where
      go : (b : Bool) → takes is_terminate_slot p fs ≡ b → (b || takes is_data_slot p fs && terminated fs (suc p) n) ≡ true
          → (terminated fs (suc p) n ≡ true → carries ed v fs ≡ true → fine (characters_from v (suc p) n rest) ≡ true)
          → fine (by_flag (flag_of v p) (lane_of v p) ∷ characters_from v (suc p) n rest) ≡ true
      go true e t rec =
          ap (λ (x : Character). fine (x ∷ characters_from v (suc p) n rest)) (terminate_at p fs e c) ∙ fine_terminate (characters_from v (suc p) n rest)
      go false e t rec =
          let q = and_both (takes is_data_slot p fs) (terminated fs (suc p) n) t in
          ap (λ (x : Character). fine (x ∷ characters_from v (suc p) n rest)) (data_at p fs q.0 c)
          ∙ fine_data (lane_of v p) (characters_from v (suc p) n rest) ∙ rec q.1 c

  -- ---- the format that carries a vector

  abbrev pub every : (Format → Bool) → List Format → Bool
  every test [] = true
  every test (f ∷ fs) = test f && every test fs

  pub carried_by : (test : Format → Bool) (fs : List Format) → every test fs ≡ true → {A : Type 0}
      → ((f : Format) → test f ≡ true → carries ed v f.fields ≡ true → carrier_kind (carrier_by ed fs v) ≡ kind_for f v → A)
      → (carrier_kind (carrier_by ed fs v) ≡ E → A) → A
  carried_by test [] t k none = none refl
  carried_by test (f ∷ fs) t {A} k none =
      let q = and_both (test f) (every test fs) t in
      by_test (carries ed v f.fields)
      (λ c. k f q.0 c (rw c refl))
      (λ c. carried_by test fs q.1 (λ g u d e. k g u d (rw c e)) (λ e. none (rw c e)))
