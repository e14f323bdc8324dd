-- What each tested block of a run has, and what a run keeps of the link. Assumes nothing.
use Prim.Native.Nat.{ℕ}
use mathlib.Core.Path.{◌≡◌, refl}
use mathlib.Core.Bool.{Bool, true, false}
use mathlib.Core.List.{List, [], ◌∷◌, ◌++◌}
use Rattle.diagrams.specs.declared.State.{State}
use Rattle.receiving.specs.Machine.{Tested, Feed, fills, feed, filled, run, link_of, tested_of}
use Rattle.receiving.specs.Receive.{lets_end, state_of}
use Rattle.receiving.specs.Parts.{settle}
use Rattle.receiving.specs.declared.Link.{Link}

-- each block of a list has a property
pub data EachTested (P : Tested → Type 0) : List Tested → Type 0 where
  none : EachTested P []
  more : {t : Tested} {ts : List Tested} → P t → EachTested P ts → EachTested P (t ∷ ts)

-- joined lists
pub each_append : {P : Tested → Type 0} {a b : List Tested} → EachTested P a → EachTested P b → EachTested P (a ++ b)
each_append none q = q
each_append (more p r) q = more p (each_append r q)

-- the block that is held is one of the list
pub each_held : {P : Tested → Type 0} (s : State) {ts : List Tested} → EachTested P ts → EachTested P (settle s ts).held
unfolding settle
each_held s none = none
each_held s (more p none) = more p none
each_held s (more {t} {ts = u ∷ us} p (more q r)) = each_held (state_of s t (lets_end u)) (more q r)

-- a property of the link that each tested block keeps, and one that such a link gives each block
module _ (Q : Link → Type 0) (P : Tested → Type 0) (keeps : (l : Link) (h p : ℕ) → Q l → Q (link_of l h p)) (gives : (l : Link) (h p : ℕ) → Q l → P (tested_of l h p)) where
  bit_keeps : (f : Feed) (b : ℕ) (s g : Bool) → f.skip ≡ s → fills f ≡ g → Q f.link → Q (feed f b).link
  unfolding feed
  bit_keeps f b true g es eg q = rw es q
  bit_keeps f b false true es eg q = rw (es, eg) (keeps f.link _ _ q)
  bit_keeps f b false false es eg q = rw (es, eg) q

  bit_gives : (f : Feed) (b : ℕ) (s g : Bool) → f.skip ≡ s → fills f ≡ g → Q f.link → {ts : List Tested} → EachTested P ts → EachTested P (filled f b ++ ts)
  unfolding filled
  bit_gives f b true g es eg q {ts} r = rw es r
  bit_gives f b false true es eg q {ts} r = rw (es, eg) (more (gives f.link _ _ q) r)
  bit_gives f b false false es eg q {ts} r = rw (es, eg) r

  -- a run keeps the one
  pub run_keeps : (f : Feed) (bits : List ℕ) → Q f.link → Q (run f bits).end.link
  unfolding run
  run_keeps f [] q = q
  run_keeps f (b ∷ bits) q = run_keeps (feed f b) bits (bit_keeps f b f.skip (fills f) refl refl q)

  -- and gives the other
  pub run_gives : (f : Feed) (bits : List ℕ) → Q f.link → EachTested P (run f bits).tested
  unfolding run
  run_gives f [] q = none
  run_gives f (b ∷ bits) q = bit_gives f b f.skip (fills f) refl refl q (run_gives (feed f b) bits (bit_keeps f b f.skip (fills f) refl refl q))
