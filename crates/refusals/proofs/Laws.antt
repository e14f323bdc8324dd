-- Laws of refusal numbers and of the first check that applies.
use Prim.Native.Nat.{ℕ, ◌<◌}
use mathlib.Core.Path.{◌≡◌, refl, ap, sym, ◌∙◌}
use mathlib.Core.Bool.{Bool, true, false, cond}
use mathlib.Core.List.{List, [], ◌∷◌, ◌++◌}
use native.Mathlib.Omega.{arith}
use lib.Dec.{eqb}
use Rattle.refusals.specs.Number.{number_of}
use Rattle.refusals.specs.First.{Check, Verdict, accepted, refused, first, by_verdict}
use Rattle.refusals.specs.declared.Refusal.{Refusal}
use Rattle.refusals.specs.declared.Refusal.TheVariants.{TooMuch, NotGroups, StartState, Room, ControlByte, Cut, LongBody, RecordKind, Closed, BadState, Range, NoSuchVector, UnknownEdition}

-- No two refusals have one number: the number tells the refusal.
refusal_of : ℕ → Refusal
refusal_of n =
    cond (eqb n 1) TooMuch
    (cond (eqb n 2) NotGroups
    (cond (eqb n 3) StartState
    (cond (eqb n 4) Room
    (cond (eqb n 5) ControlByte
    (cond (eqb n 6) Cut
    (cond (eqb n 7) LongBody
    (cond (eqb n 8) RecordKind
    (cond (eqb n 9) Closed
    (cond (eqb n 10) BadState
    (cond (eqb n 11) Range
    (cond (eqb n 12) NoSuchVector UnknownEdition)))))))))))

back : (r : Refusal) → refusal_of (number_of r) ≡ r
unfolding refusal_of
back TooMuch = refl
back NotGroups = refl
back StartState = refl
back Room = refl
back ControlByte = refl
back Cut = refl
back LongBody = refl
back RecordKind = refl
back Closed = refl
back BadState = refl
back Range = refl
back NoSuchVector = refl
back UnknownEdition = refl

pub number_injective : (a b : Refusal) → number_of a ≡ number_of b → a ≡ b
number_injective a b e = sym (back a) ∙ ap refusal_of e ∙ back b

-- A number fits one byte.
pub number_small : (r : Refusal) → number_of r < 256
number_small TooMuch = omega arith
number_small NotGroups = omega arith
number_small StartState = omega arith
number_small Room = omega arith
number_small ControlByte = omega arith
number_small Cut = omega arith
number_small LongBody = omega arith
number_small RecordKind = omega arith
number_small Closed = omega arith
number_small BadState = omega arith
number_small Range = omega arith
number_small NoSuchVector = omega arith
number_small UnknownEdition = omega arith

-- By the two cases of a test.
pub by_test {ℓ} : {P : Type ℓ} (b : Bool) → (b ≡ true → P) → (b ≡ false → P) → P
by_test true f g = f refl
by_test false f g = g refl

-- Of an accepted list no row applies.
pub passed : (c : Check) (cs : List Check) → first (c ∷ cs) ≡ accepted → (c.applies ≡ false) × (first cs ≡ accepted)
unfolding first
passed c cs e = go c.applies refl e
  where
    go : (b : Bool) → c.applies ≡ b → cond b (refused c.number c.place) (first cs) ≡ accepted → (c.applies ≡ false) × (first cs ≡ accepted)
    go true h q = absurd (let z : ◌≡◌ {A = ℕ} 0 1 = cc in omega arith)
    go false h q = (h, q)

-- A check that applies is given, one that does not is passed.
pub applied : (c : Check) (cs : List Check) → c.applies ≡ true → first (c ∷ cs) ≡ refused c.number c.place
unfolding first
applied c cs e = rw e

pub skipped : (c : Check) (cs : List Check) → c.applies ≡ false → first (c ∷ cs) ≡ first cs
unfolding first
skipped c cs e = rw e

-- none is left
pub accepts : first [] ≡ accepted
unfolding first
accepts = refl

-- Checks behind others are looked at where none of those applies.
behind_by : (b : Bool) (n p : ℕ) (u v last : Verdict) → u ≡ by_verdict v last refused → cond b (refused n p) u ≡ by_verdict (cond b (refused n p) v) last refused
behind_by true n p u v last e = refl
behind_by false n p u v last e = e

pub first_append : (cs ds : List Check) → first (cs ++ ds) ≡ by_verdict (first cs) (first ds) refused
unfolding first
first_append [] ds = refl
first_append (c ∷ cs) ds = behind_by c.applies c.number c.place _ (first cs) (first ds) (first_append cs ds)
