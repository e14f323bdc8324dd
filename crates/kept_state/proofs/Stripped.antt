-- What a held block's answer does not depend on: its slip and its reason, which were counted when it was tested. Assumes nothing.
use Prim.Native.Nat.{ℕ, suc, ◌+◌}
use mathlib.Core.Path.{◌≡◌, refl, sym, ap, ap₂, ◌∙◌}
use mathlib.Core.Bool.{Bool, false, cond, ◌&&◌}
use mathlib.Core.List.{List, [], ◌∷◌, ◌++◌, map, flatten}
use lib.ListN.{length}
use Rattle.block.specs.Block.{kind_in, good, is_s}
use Rattle.block.specs.declared.Kind.{Kind}
use Rattle.block.proofs.Classes.{kind_good}
use Rattle.diagrams.specs.Diagram.{diagram_of, follows}
use Rattle.diagrams.specs.declared.State.{State}
use Rattle.diagrams.specs.declared.State.TheVariants.{Init}
use Rattle.bits.specs.Lists.{how_many}
use Rattle.receiving.specs.Machine.{Tested}
use Rattle.receiving.specs.Receive.{lets_end, ends, state_of, Judged, judge, answer, last_is, judged_alone, decodes, begins, replaces, handed_of}
use Rattle.receiving.specs.Parts.{Settled, settle, bytes_of}

-- a block without them
abbrev pub stripped : Tested → Tested
stripped t = record { on = t.on; slipped = false; class = good (kind_in t.class); vector = t.vector }

-- its kind is the block's
stripped_kind : (t : Tested) → kind_in (stripped t).class ≡ kind_in t.class
stripped_kind t = kind_good (kind_in t.class)

-- and so is the step that it takes, and what it lets end
stripped_state : (s : State) (t : Tested) (b : Bool) → state_of s (stripped t) b ≡ state_of s t b
unfolding state_of
stripped_state s t b = ap (λ (k : Kind). cond t.on (diagram_of s k b) Init) (stripped_kind t)

stripped_ends : (t : Tested) → lets_end (stripped t) ≡ lets_end t
unfolding lets_end
stripped_ends t = ap (λ (k : Kind). t.on && follows k) (stripped_kind t)

-- ---- lists of blocks, and of blocks in their states

abbrev pub stripped_all : List Tested → List Tested
stripped_all ts = map stripped ts

abbrev stripped_in : Judged → Judged
stripped_in j = record { state = j.state; block = stripped j.block }

abbrev stripped_all_in : List Judged → List Judged
stripped_all_in js = map stripped_in js

stripped_all_append : (a b : List Tested) → stripped_all (a ++ b) ≡ stripped_all a ++ stripped_all b
stripped_all_append [] b = refl
stripped_all_append (t ∷ a) b = ap (λ (l : List Tested). stripped t ∷ l) (stripped_all_append a b)

-- twice is once
stripped_twice : (t : Tested) → stripped (stripped t) ≡ stripped t
stripped_twice t = ap (λ (k : Kind). record { on = t.on; slipped = false; class = good k; vector = t.vector }) (stripped_kind t)

stripped_all_twice : (a : List Tested) → stripped_all (stripped_all a) ≡ stripped_all a
stripped_all_twice [] = refl
stripped_all_twice (t ∷ a) = ap₂ (λ (u : Tested) (l : List Tested). u ∷ l) (stripped_twice t) (stripped_all_twice a)

-- what comes of them is the same
pub stripped_bytes : (js : List Judged) → bytes_of (stripped_all_in js) ≡ bytes_of js
unfolding flatten
stripped_bytes [] = refl
stripped_bytes (j ∷ js) = ap (λ (l : List ℕ). answer j ++ l) (stripped_bytes js)

begun_stripped : (js : List Judged) → how_many begins (stripped_all_in js) ≡ how_many begins js
unfolding how_many
begun_stripped [] = refl
begun_stripped (j ∷ js) = ap₂ (λ (k : Kind) (n : ℕ). cond (is_s k && decodes j.state) 1 0 + n) (stripped_kind j.block) (begun_stripped js)

replaced_stripped : (js : List Judged) → how_many replaces (stripped_all_in js) ≡ how_many replaces js
unfolding how_many
replaced_stripped [] = refl
replaced_stripped (j ∷ js) = ap (λ (n : ℕ). cond (replaces j) 1 0 + n) (replaced_stripped js)

pub stripped_handed : (js : List Judged) → handed_of (stripped_all_in js) ≡ handed_of js
unfolding handed_of
stripped_handed js = λ i. record { begun = begun_stripped js i; replaced = replaced_stripped js i }

pub stripped_length : (js : List Judged) → length (stripped_all_in js) ≡ length js
stripped_length [] = refl
stripped_length (j ∷ js) = ap suc (stripped_length js)

stripped_alone : (js : List Judged) → judged_alone (stripped_all_in js) ≡ judged_alone js
unfolding last_is
stripped_alone [] = refl
stripped_alone (j ∷ []) = refl
stripped_alone (j ∷ k ∷ js) = stripped_alone (k ∷ js)

-- ---- settled and judged

abbrev stripped_settled : Settled → Settled
stripped_settled σ = record { judged = stripped_all_in σ.judged; state = σ.state; held = stripped_all σ.held }

-- one more block ahead of what is settled
abbrev block_ahead : State → Tested → Settled → Settled
block_ahead s t σ = record { judged = record { state = s; block = t } ∷ σ.judged; state = σ.state; held = σ.held }

settle_stripped : (s : State) (ts : List Tested) → settle s (stripped_all ts) ≡ stripped_settled (settle s ts)
unfolding settle
settle_stripped s [] = refl
settle_stripped s (t ∷ []) = refl
settle_stripped s (t ∷ u ∷ ts) =
    let e : state_of s (stripped t) (lets_end (stripped u)) ≡ state_of s t (lets_end u) = stripped_state s t (lets_end (stripped u)) ∙ ap (state_of s t) (stripped_ends u) in
    ap (λ (z : State). block_ahead z (stripped t) (settle z (stripped_all (u ∷ ts)))) e
    ∙ ap (block_ahead (state_of s t (lets_end u)) (stripped t)) (settle_stripped (state_of s t (lets_end u)) (u ∷ ts))

-- so a block may be held without them
pub settle_stripped_all : (s : State) (h ts : List Tested) → stripped_settled (settle s (stripped_all h ++ ts)) ≡ stripped_settled (settle s (h ++ ts))
settle_stripped_all s h ts =
    sym (settle_stripped s (stripped_all h ++ ts))
    ∙ ap (settle s) (stripped_all_append (stripped_all h) ts ∙ ap (λ (l : List Tested). l ++ stripped_all ts) (stripped_all_twice h) ∙ sym (stripped_all_append h ts))
    ∙ settle_stripped s (h ++ ts)

-- by its parts
module _ (s : State) (h ts : List Tested) where
  abbrev kept : Settled
  kept = settle s (stripped_all h ++ ts)

  abbrev own : Settled
  own = settle s (h ++ ts)

  pub stripped_all_bytes : bytes_of kept.judged ≡ bytes_of own.judged
  stripped_all_bytes = sym (stripped_bytes kept.judged) ∙ ap (λ (z : Settled). bytes_of z.judged) (settle_stripped_all s h ts) ∙ stripped_bytes own.judged

  pub stripped_all_handed : handed_of kept.judged ≡ handed_of own.judged
  stripped_all_handed = sym (stripped_handed kept.judged) ∙ ap (λ (z : Settled). handed_of z.judged) (settle_stripped_all s h ts) ∙ stripped_handed own.judged

  pub stripped_all_length : length kept.judged ≡ length own.judged
  stripped_all_length = sym (stripped_length kept.judged) ∙ ap (λ (z : Settled). length z.judged) (settle_stripped_all s h ts) ∙ stripped_length own.judged

  pub stripped_all_state : kept.state ≡ own.state
  stripped_all_state = ap (λ (z : Settled). z.state) (settle_stripped_all s h ts)

  pub stripped_all_held : stripped_all kept.held ≡ stripped_all own.held
  stripped_all_held = ap (λ (z : Settled). z.held) (settle_stripped_all s h ts)

-- and answered without them
judge_stripped : (s : State) (ts : List Tested) → judge s (stripped_all ts) ≡ stripped_all_in (judge s ts)
unfolding judge ends
judge_stripped s [] = refl
judge_stripped s (t ∷ []) = ap (λ (z : State). record { state = z; block = stripped t } ∷ []) (stripped_state s t _)
judge_stripped s (t ∷ u ∷ ts) =
    let e : state_of s (stripped t) (lets_end (stripped u)) ≡ state_of s t (lets_end u) = stripped_state s t (lets_end (stripped u)) ∙ ap (state_of s t) (stripped_ends u) in
    ap (λ (z : State). record { state = z; block = stripped t } ∷ judge z (stripped_all (u ∷ ts))) e
    ∙ ap (λ (l : List Judged). record { state = state_of s t (lets_end u); block = stripped t } ∷ l) (judge_stripped (state_of s t (lets_end u)) (u ∷ ts))

module _ (s : State) (ts : List Tested) where
  pub judged_bytes : bytes_of (judge s (stripped_all ts)) ≡ bytes_of (judge s ts)
  judged_bytes = ap bytes_of (judge_stripped s ts) ∙ stripped_bytes (judge s ts)

  pub judged_handed : handed_of (judge s (stripped_all ts)) ≡ handed_of (judge s ts)
  judged_handed = ap handed_of (judge_stripped s ts) ∙ stripped_handed (judge s ts)

  pub judged_length : length (judge s (stripped_all ts)) ≡ length (judge s ts)
  judged_length = ap length (judge_stripped s ts) ∙ stripped_length (judge s ts)

  pub judged_alone_lem : judged_alone (judge s (stripped_all ts)) ≡ judged_alone (judge s ts)
  judged_alone_lem = ap judged_alone (judge_stripped s ts) ∙ stripped_alone (judge s ts)
