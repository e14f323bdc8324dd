-- Document 02, 1/13: the four counts together are the tested blocks of document 01's kind E, and "the vectors handed out stay as they
-- are". Assumes nothing.
use Prim.Native.Nat.{ℕ, ◌+◌}
use mathlib.Core.Path.{◌≡◌, refl, sym, ap, ap₂, ◌∙◌}
use mathlib.Core.Bool.{Bool, true, false, cond, ◌&&◌}
use mathlib.Core.List.{List, [], ◌∷◌, ◌++◌, map}
use native.Mathlib.Omega.{arith}
use Rattle.bits.specs.Bits.{line_bits}
use Rattle.scrambler.specs.Scrambler.{descrambled}
use Rattle.block.specs.declared.Edition.{Edition}
use Rattle.block.specs.Block.{kind_of, is_error, kind_in}
use Rattle.block.specs.declared.Kind.{Kind}
use Rattle.block.specs.declared.Class.{Class}
use Rattle.block.specs.declared.Class.TheVariants as Class
use Rattle.block.specs.declared.Reason.TheVariants.{Header, BlockType, ControlCode, SetCode}
use Rattle.block.proofs.Classes.{kind_of_class}
use Rattle.diagrams.specs.Diagram.{diagram_of, follows}
use Rattle.diagrams.specs.declared.State.{State}
use Rattle.diagrams.specs.declared.State.TheVariants.{Init}
use Rattle.bits.specs.Lists.{how_many}
use Rattle.receiving.specs.Machine.{Tested, Feed, at, header_of, payload_of, fills, after_block, feed, filled, run, link_fresh, link_of, tested_of}
use Rattle.receiving.specs.Receive.{lets_end, ends, state_of, answer_in, judge, answers, bad_for, counts_of, run_of, vectors_of}
use Rattle.receiving.specs.Answer.{summary_of}
use Rattle.receiving.specs.declared.Link.{Link}
use Rattle.receiving.specs.Reasons.{Taken, taken_at, taken_from, taken_blocks, taken_kind, taken_vector, taken_on, bad_blocks, ends_by_kind, state_by_kind, answers_by_kind}

-- ---- the blocks that are tested are those that were taken

abbrev pub test : Taken → Tested
test t = tested_of t.link t.header t.payload

map_append : (a b : List Taken) → map test (a ++ b) ≡ map test a ++ map test b
map_append [] b = refl
map_append (t ∷ a) b = ap (λ (l : List Tested). test t ∷ l) (map_append a b)

tested_at : (f : Feed) (b : ℕ) → filled f b ≡ map test (taken_at f b)
unfolding filled
tested_at f b = go f.skip (fills f)
  where
    go : (s g : Bool)
        → cond s [] (cond g (tested_of f.link (header_of (f.bits ++ b ∷ [])) (payload_of (f.bits ++ b ∷ [])) ∷ []) [])
        ≡ map test (cond s [] (cond g (record { link = f.link; header = header_of (f.bits ++ b ∷ []); payload = payload_of (f.bits ++ b ∷ []) } ∷ []) []))
    go true g = refl
    go false true = refl
    go false false = refl

tested_from : (f : Feed) (bits : List ℕ) → (run f bits).tested ≡ map test (taken_from f bits)
unfolding run taken_from
tested_from f [] = refl
tested_from f (b ∷ bits) = ap₂ ◌++◌ (tested_at f b) (tested_from (feed f b) bits) ∙ sym (map_append (taken_at f b) (taken_from (feed f b) bits))

pub tested_of_lem : (ed : Edition) (line : List ℕ) → (run_of ed line).tested ≡ map test (taken_blocks ed line)
unfolding run_of taken_blocks
tested_of_lem ed line = tested_from (at (link_fresh ed)) (line_bits line)

-- a receiver keeps its edition
abbrev pub AllOf : Edition → List Taken → Type 0
AllOf ed [] = Unit
AllOf ed (t ∷ ts) = (t.link.edition ≡ ed) × AllOf ed ts

keeps : (f : Feed) (b : ℕ) → (feed f b).link.edition ≡ f.link.edition
unfolding feed link_of
keeps f b = go f.skip (fills f)
  where
    go : (s g : Bool) → (cond s (at f.link) (cond g (after_block f.link (f.bits ++ b ∷ [])) (record { bits = f.bits ++ b ∷ []; skip = false; link = f.link }))).link.edition ≡ f.link.edition
    go true g = refl
    go false true = refl
    go false false = refl

one_of : (ed : Edition) (f : Feed) (b : ℕ) (ts : List Taken) → f.link.edition ≡ ed → AllOf ed ts → AllOf ed (taken_at f b ++ ts)
one_of ed f b ts e w = go f.skip (fills f)
  where
    go : (s g : Bool) → AllOf ed (cond s [] (cond g (record { link = f.link; header = header_of (f.bits ++ b ∷ []); payload = payload_of (f.bits ++ b ∷ []) } ∷ []) []) ++ ts)
    go true g = w
    go false true = (e, w)
    go false false = w

all_from : (ed : Edition) (f : Feed) (bits : List ℕ) → f.link.edition ≡ ed → AllOf ed (taken_from f bits)
unfolding taken_from
all_from ed f [] e = tt
all_from ed f (b ∷ bits) e = one_of ed f b (taken_from (feed f b) bits) e (all_from ed (feed f b) bits (keeps f b ∙ e))

pub all_of : (ed : Edition) (line : List ℕ) → AllOf ed (taken_blocks ed line)
unfolding taken_blocks
all_of ed line = all_from ed (at (link_fresh ed)) (line_bits line) refl

-- the kind of a tested block's class is that of document 01
pub kind_tested : (l : Link) (header payload : ℕ) → kind_in (tested_of l header payload).class ≡ kind_of l.edition header (descrambled payload l.history)
unfolding tested_of
kind_tested l header payload = sym (kind_of_class l.edition header (descrambled payload l.history))

-- ---- the four counts together

-- a bad block counts for one reason, and another for none
one_reason : (k : Class) → cond (bad_for Header k) 1 0 + cond (bad_for BlockType k) 1 0 + cond (bad_for ControlCode k) 1 0 + cond (bad_for SetCode k) 1 0 ≡ cond (is_error (kind_in k)) 1 0
one_reason Class.D = refl
one_reason Class.C = refl
one_reason Class.S = refl
one_reason Class.T = refl
one_reason (Class.Bad Header) = refl
one_reason (Class.Bad BlockType) = refl
one_reason (Class.Bad ControlCode) = refl
one_reason (Class.Bad SetCode) = refl
one_reason Class.LI = refl

bad_are : (ts : List Taken) → bad_blocks (counts_of (map test ts)) ≡ how_many (λ t. is_error (taken_kind t)) ts
unfolding counts_of how_many
bad_are [] = refl
bad_are (t ∷ ts) =
    omega (arith, one_reason (test t).class ∙ ap (λ (k : Kind). cond (is_error k) 1 0) (kind_tested t.link t.header t.payload), bad_are ts)

-- of a whole line: they are its tested blocks of kind E
pub reasons_are_errors : (ed : Edition) (line : List ℕ) → bad_blocks (summary_of ed line).counts ≡ how_many (λ t. is_error (taken_kind t)) (taken_blocks ed line)
unfolding summary_of
reasons_are_errors ed line = ap (λ (ts : List Tested). bad_blocks (counts_of ts)) (tested_of_lem ed line) ∙ bad_are (taken_blocks ed line)

-- ---- the vectors by document 01's kinds alone

ends_same : (ts : List Taken) → ends (map test ts) ≡ ends_by_kind ts
unfolding ends lets_end tested_of
ends_same [] = refl
ends_same (t ∷ ts) = ap (λ (k : Kind). taken_on t && follows k) (kind_tested t.link t.header t.payload)

state_same : (s : State) (t : Taken) (ts : List Taken) → state_of s (test t) (ends (map test ts)) ≡ state_by_kind s t (ends_by_kind ts)
unfolding state_of tested_of
state_same s t ts =
    ap₂ (λ (k : Kind) (e : Bool). cond (taken_on t) (diagram_of s k e) Init)
    (kind_tested t.link t.header t.payload) (ends_same ts)

answers_same : (s : State) (ts : List Taken) → answers s (map test ts) ≡ answers_by_kind s ts
unfolding answers judge answers_by_kind tested_of
answers_same s [] = refl
answers_same s (t ∷ ts) =
    ap (λ (s' : State). answer_in s' (taken_vector t) ∷ answers s' (map test ts)) (state_same s t ts)
    ∙ ap (λ (vs : List (List ℕ)). answer_in (state_by_kind s t (ends_by_kind ts)) (taken_vector t) ∷ vs) (answers_same (state_by_kind s t (ends_by_kind ts)) ts)

-- of a whole line
pub vectors_stay : (ed : Edition) (line : List ℕ) → vectors_of ed line ≡ answers_by_kind Init (taken_blocks ed line)
unfolding vectors_of
vectors_stay ed line = ap (answers Init) (tested_of_lem ed line) ∙ answers_same Init (taken_blocks ed line)
