-- In lock the receive diagram goes through a legal list as the transmit diagram does. Assumes nothing.
use mathlib.Core.Path.{◌≡◌, refl, sym, ap, ◌∙◌}
use mathlib.Core.Bool.{Bool, true, false, not, ◌&&◌, true≢false, false≢true}
use mathlib.Core.List.{List, [], ◌∷◌, ◌++◌}
use Prim.Native.Nat.{ℕ}
use lib.ListN.{length, replicate}
use borrow.Author.Tests.{not-true}
use Rattle.block.specs.declared.Edition.{Edition}
use Rattle.block.specs.Block.{vector_kind, local_fault_vector, kind_in}
use Rattle.block.specs.declared.Kind.{Kind}
use Rattle.block.specs.declared.Kind.TheVariants.{D, C, S, T, LI, E}
use Rattle.diagrams.specs.Diagram.{after_idle, after_data, after_error, after_low, diagram_of, transmit_of, follows}
use Rattle.diagrams.specs.declared.State.{State}
use Rattle.diagrams.specs.declared.State.TheVariants.{Init, Control, Data, Terminate, Error, LowPower}
use Rattle.receiving.specs.Machine.{Tested}
use Rattle.receiving.specs.Receive.{lets_end, ends, state_of, answer_in, judge, answers}
use Rattle.demands.specs.Words.{in_error, legal_from}
use Rattle.demands.proofs.Lock.{On}

-- ---- not locked: one Local Fault vector for each block, and the diagram starts anew

-- while the receiver is not locked or high it answers Local Fault vectors, and starts anew after them
pub not_locked : (xs ts : List Tested) → On false xs → answers Init (xs ++ ts) ≡ replicate (length xs) local_fault_vector ++ answers Init ts
unfolding answers judge state_of answer_in
not_locked [] ts o = refl
not_locked (t ∷ xs) ts o = rw o.0 (ap (λ (vs : List (List ℕ)). local_fault_vector ∷ vs) (not_locked xs ts o.1))

-- ---- one step in lock

-- after D, a Terminate that may end its frame goes where sending goes
data_step : (k : Kind) (e : Bool) → (k ≡ T → e ≡ true) → after_data k e ≡ after_data k true
unfolding after_data
data_step D e h = refl
data_step C e h = refl
data_step S e h = refl
data_step T e h = ap (after_data T) (h refl)
data_step E e h = refl
data_step LI e h = refl

-- after E, the same
error_step : (k : Kind) (e : Bool) → (k ≡ T → e ≡ true) → after_error k e ≡ after_error k true
unfolding after_error
error_step D e h = refl
error_step C e h = refl
error_step S e h = refl
error_step T e h = ap (after_error T) (h refl)
error_step E e h = refl
error_step LI e h = refl

-- where every frame that ends may end, the two diagrams take the same step
same_step : (s : State) (k : Kind) (e : Bool) → (k ≡ T → e ≡ true) → diagram_of s k e ≡ transmit_of s k
unfolding diagram_of
same_step Init k e h = refl
same_step Control k e h = refl
same_step Terminate k e h = refl
same_step Data k e h = data_step k e h
same_step Error k e h = error_step k e h
same_step LowPower k e h = refl

-- after INIT, C or T a step that does not lead to E answers the decoded vector
idle_own : (low : State) (k : Kind) (v : List ℕ) → (in_error low ≡ false → answer_in low v ≡ v) → in_error (after_idle low k) ≡ false → answer_in (after_idle low k) v ≡ v
unfolding after_idle answer_in
idle_own low D v g h = absurd (true≢false h)
idle_own low C v g h = refl
idle_own low S v g h = refl
idle_own low T v g h = absurd (true≢false h)
idle_own low E v g h = absurd (true≢false h)
idle_own low LI v g h = g h

-- after D, the same
data_own : (k : Kind) (v : List ℕ) → in_error (after_data k true) ≡ false → answer_in (after_data k true) v ≡ v
unfolding after_data answer_in
data_own D v h = refl
data_own C v h = absurd (true≢false h)
data_own S v h = absurd (true≢false h)
data_own T v h = refl
data_own E v h = absurd (true≢false h)
data_own LI v h = absurd (true≢false h)

-- after E, the same
error_own : (k : Kind) (v : List ℕ) → in_error (after_error k true) ≡ false → answer_in (after_error k true) v ≡ v
unfolding after_error answer_in
error_own D v h = refl
error_own C v h = refl
error_own S v h = absurd (true≢false h)
error_own T v h = refl
error_own E v h = absurd (true≢false h)
error_own LI v h = refl

-- after LI, the same
low_own : (k : Kind) (v : List ℕ) → in_error (after_low k) ≡ false → answer_in (after_low k) v ≡ v
unfolding after_low answer_in
low_own D v h = absurd (true≢false h)
low_own C v h = refl
low_own S v h = absurd (true≢false h)
low_own T v h = absurd (true≢false h)
low_own E v h = absurd (true≢false h)
low_own LI v h = refl

-- a step that does not lead to E answers the decoded vector
own : (s : State) (k : Kind) (v : List ℕ) → in_error (transmit_of s k) ≡ false → answer_in (transmit_of s k) v ≡ v
unfolding diagram_of answer_in
own Init k v h = idle_own Error k v (λ e. absurd (true≢false e)) h
own Control k v h = idle_own LowPower k v (λ e. refl) h
own Terminate k v h = idle_own LowPower k v (λ e. refl) h
own Data k v h = data_own k v h
own Error k v h = error_own k v h
own LowPower k v h = low_own k v h

-- a Terminate that does not lead to E leads to T
ended : (s : State) → in_error (transmit_of s T) ≡ false → transmit_of s T ≡ Terminate
unfolding diagram_of after_idle after_data after_error after_low
ended Init h = absurd (true≢false h)
ended Control h = absurd (true≢false h)
ended Terminate h = absurd (true≢false h)
ended Data h = refl
ended Error h = refl
ended LowPower h = absurd (true≢false h)

-- what may come after T is S, C or LI
may_follow : (k : Kind) → in_error (transmit_of Terminate k) ≡ false → follows k ≡ true
unfolding diagram_of after_idle follows
may_follow D h = absurd (true≢false h)
may_follow C h = refl
may_follow S h = refl
may_follow T h = absurd (true≢false h)
may_follow E h = absurd (true≢false h)
may_follow LI h = refl

-- ---- a legal list

-- the two halves of a test that passes
pub and_left : (a b : Bool) → a && b ≡ true → a ≡ true
and_left true b h = refl
and_left false b h = absurd (false≢true h)

pub and_right : (a b : Bool) → a && b ≡ true → b ≡ true
and_right true b h = h
and_right false b h = absurd (false≢true h)

module _ (ed : Edition) where
  -- each tested block has the kind of the vector at its place, and is decoded to it
  abbrev pub Carries : List (List ℕ) → List Tested → Type 0
  Carries [] [] = Unit
  Carries [] (t ∷ ts) = ⊥
  Carries (v ∷ vs) [] = ⊥
  Carries (v ∷ vs) (t ∷ ts) = (kind_in t.class ≡ vector_kind ed v) × (t.vector ≡ v) × Carries vs ts

  module _ (s : State) (v : List ℕ) (vs : List (List ℕ)) (l : legal_from ed s (v ∷ vs) ≡ true) where
    -- the first vector of a legal list does not lead to E
    pub legal_head : in_error (transmit_of s (vector_kind ed v)) ≡ false
    unfolding legal_from
    legal_head =
        not-true (in_error (transmit_of s (vector_kind ed v)))
        (and_left (not (in_error (transmit_of s (vector_kind ed v)))) (legal_from ed (transmit_of s (vector_kind ed v)) vs) l)

    -- the rest is legal from there
    pub legal_tail : legal_from ed (transmit_of s (vector_kind ed v)) vs ≡ true
    unfolding legal_from
    legal_tail = and_right (not (in_error (transmit_of s (vector_kind ed v)))) (legal_from ed (transmit_of s (vector_kind ed v)) vs) l

  -- the block after a Terminate lets its frame end, and so does the end of the input
  lets_end_lem : (s : State) (v : List ℕ) (vs : List (List ℕ)) (ts : List Tested) → legal_from ed s (v ∷ vs) ≡ true
      → On true ts → Carries vs ts → vector_kind ed v ≡ T → ends ts ≡ true
  unfolding ends lets_end
  lets_end_lem s v [] [] l o c t = refl
  lets_end_lem s v [] (u ∷ ts) l o c t = absurd c
  lets_end_lem s v (w ∷ vs) [] l o c t = absurd c
  lets_end_lem s v (w ∷ vs) (u ∷ ts) l o c t = rw (o.0, c.0) (may_follow (vector_kind ed w) (legal_head Terminate w vs after))
    where
      after : legal_from ed Terminate (w ∷ vs) ≡ true
      after =
          ap (λ (r : State). legal_from ed r (w ∷ vs)) (sym (ended s (ap (λ (k : Kind). in_error (transmit_of s k)) (sym t) ∙ legal_head s v (w ∷ vs) l)))
          ∙ ap (λ (k : Kind). legal_from ed (transmit_of s k) (w ∷ vs)) (sym t)
          ∙ legal_tail s v (w ∷ vs) l

  -- a legal list comes back as it is
  pub unchanged : (s : State) (vs : List (List ℕ)) (ts : List Tested) → legal_from ed s vs ≡ true → On true ts → Carries vs ts
      → answers s ts ≡ vs
  unfolding answers judge state_of
  unchanged s [] [] l o c = refl
  unchanged s [] (t ∷ ts) l o c = absurd c
  unchanged s (v ∷ vs) [] l o c = absurd c
  unchanged s (v ∷ vs) (t ∷ ts) l o c =
      rw (o.0, c.0, c.1, same_step s (vector_kind ed v) (ends ts) (lets_end_lem s v vs ts l o.1 c.2), own s (vector_kind ed v) v (legal_head s v vs l))
      (ap (λ (rest : List (List ℕ)). v ∷ rest) (unchanged (transmit_of s (vector_kind ed v)) vs ts (legal_tail s v vs l) o.1 c.2))
