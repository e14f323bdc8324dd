-- Document 02, 6/13: the flag of the last vector is set "exactly when it is an accepted Terminate". Assumes nothing.
use mathlib.Core.Path.{◌≡◌, refl}
use mathlib.Core.Bool.{Bool, true, false, cond, ◌&&◌}
use mathlib.Core.List.{List, [], ◌∷◌}
use Rattle.block.specs.Block.{is_t, kind_in}
use Rattle.block.specs.declared.Kind.{Kind}
use Rattle.block.specs.declared.Kind.TheVariants.{D, C, S, T, E, LI}
use Rattle.diagrams.specs.Diagram.{after_idle, after_data, after_error, after_low, diagram_of}
use Rattle.diagrams.specs.declared.State.{State}
use Rattle.diagrams.specs.declared.State.TheVariants.{Init, Control, Data, Terminate, Error, LowPower}
use Rattle.receiving.specs.Machine.{Tested}
use Rattle.receiving.specs.Receive.{ends, state_of, judge, is_terminate, last_is, judged_alone, decodes}
use Rattle.receiving.specs.Last.{accepted_terminate}

-- a step to T is a step by kind T to a state that answers the decoded block
Fair : Kind → State → Type 0
Fair k s = is_terminate s ≡ is_t k && decodes s

idle : (low : State) → Fair LI low → (k : Kind) → Fair k (after_idle low k)
unfolding Fair after_idle
idle low f D = refl
idle low f C = refl
idle low f S = refl
idle low f T = refl
idle low f E = refl
idle low f LI = f

low : (k : Kind) → Fair k (after_low k)
unfolding Fair after_low
low D = refl
low C = refl
low S = refl
low T = refl
low E = refl
low LI = refl

ended : (e : Bool) → Fair T (cond e Terminate Error)
unfolding Fair
ended true = refl
ended false = refl

frame : (k : Kind) (e : Bool) → Fair k (after_data k e)
unfolding Fair after_data
frame D e = refl
frame C e = refl
frame S e = refl
frame T e = ended e
frame E e = refl
frame LI e = refl

error : (k : Kind) (e : Bool) → Fair k (after_error k e)
unfolding Fair after_error
error D e = refl
error C e = refl
error S e = refl
error T e = ended e
error E e = refl
error LI e = refl

step : (s : State) (k : Kind) (e : Bool) → Fair k (diagram_of s k e)
unfolding diagram_of Fair
step Init k e = idle Error refl k
step Control k e = idle LowPower refl k
step Terminate k e = idle LowPower refl k
step Data k e = frame k e
step Error k e = error k e
step LowPower k e = low k

not_on : (k : Kind) → Fair k Init
unfolding Fair
not_on D = refl
not_on C = refl
not_on S = refl
not_on T = refl
not_on E = refl
not_on LI = refl

-- of a tested block
fair : (s : State) (t : Tested) (e : Bool) → Fair (kind_in t.class) (state_of s t e)
unfolding state_of
fair s t e = go t.on
  where
    go : (on : Bool) → Fair (kind_in t.class) (cond on (diagram_of s (kind_in t.class) e) Init)
    go true = step s (kind_in t.class) e
    go false = not_on (kind_in t.class)

pub alone_exactly : (s : State) (ts : List Tested) → judged_alone (judge s ts) ≡ last_is accepted_terminate (judge s ts)
unfolding judge last_is Fair
alone_exactly s [] = refl
alone_exactly s (t ∷ []) = fair s t (ends [])
alone_exactly s (t ∷ u ∷ ts) = alone_exactly (state_of s t (ends (u ∷ ts))) (u ∷ ts)
