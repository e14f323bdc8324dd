-- The vectors of all blocks but the last, the block held, and its bytes in the room. Assumes nothing.
use Prim.Native.Nat.{ℕ, suc, ◌+◌, ◌*◌, ◌≤◌, ◌<◌}
use mathlib.Core.Path.{◌≡◌, refl, sym, ap, ap₂, ◌∙◌}
use mathlib.Core.Bool.{Bool, true, false, cond, true≢false}
use mathlib.Core.List.{List, [], ◌∷◌, ◌++◌, append_assoc, append-nil, flatten}
use native.Mathlib.Omega.{arith}
use lib.ListN.{length, take, drop, length-append, length-drop}
use lib.Seq.{take_at, drop_at, length-take-le}
use Rattle.vectors.specs.Vector.{vector_bytes}
use Rattle.vectors.specs.declared.Vector.{Vector}
use Rattle.diagrams.specs.declared.State.{State}
use Rattle.diagrams.specs.declared.State.TheVariants.{Init, Control, Data, Terminate, Error, LowPower}
use Rattle.receiving.specs.Machine.{Tested}
use Rattle.receiving.specs.Receive.{lets_end, ends, state_of, answer_in, Judged, judge, answer, is_terminate, last_is, judged_alone, handed_of, decodes}
use Rattle.receiving.specs.Parts.{Settled, settle, bytes_of, plus_handed}
use Rattle.receiving.specs.Loop.{tested_in, held_state, held_bytes, held_handed}
use Rattle.receiving.specs.Counted.{hand_out, HandedWithin}
use Rattle.receiving.specs.declared.Held.{Held}
use Rattle.receiving.specs.declared.Handed.{Handed}
use Rattle.receiving.proofs.Each.{EachTested, none, more}
use Rattle.receiving.proofs.Count.{Ten, length_answer}
use Rattle.receiving.proofs.Counted.{hand_more, hand_end, handed_next, handed_wide}

-- ---- bytes put into the room

module _ (room xs : List ℕ) (at : ℕ) (fits : at + length xs ≤ length room) where
  -- the room with the bytes in it
  abbrev pub put : List ℕ
  put = take at room ++ (xs ++ drop (at + length xs) room)

  -- what stands before them and they, then the rest
  joined : put ≡ (take at room ++ xs) ++ drop (at + length xs) room
  joined = sym (append_assoc (take at room) xs (drop (at + length xs) room))

  -- how much that is
  upto : length (take at room ++ xs) ≡ at + length xs
  upto = length-append (take at room) xs ∙ ap (λ (n : ℕ). n + length xs) (length-take-le at room (omega arith))

  -- the room up to their end
  pub put_take : take (at + length xs) put ≡ take at room ++ xs
  put_take = ap (take (at + length xs)) joined ∙ take_at (take at room ++ xs) (drop (at + length xs) room) (at + length xs) upto

  -- the room behind them is as it was
  pub put_drop : drop (at + length xs) put ≡ drop (at + length xs) room
  put_drop = ap (drop (at + length xs)) joined ∙ drop_at (take at room ++ xs) (drop (at + length xs) room) (at + length xs) upto

  -- the room is as long as it was
  pub put_length : length put ≡ length room
  put_length =
      ap length joined ∙ length-append (take at room ++ xs) (drop (at + length xs) room) ∙ omega (arith, upto, length-drop (at + length xs) room)

-- ---- the block held

-- the states that decode answer the block's own vector
pub as_decoded : (s : State) (v : List ℕ) → decodes s ≡ true → answer_in s v ≡ v
unfolding answer_in
as_decoded Init v d = absurd (true≢false (sym d))
as_decoded Control v d = refl
as_decoded Data v d = refl
as_decoded Terminate v d = refl
as_decoded LowPower v d = refl
as_decoded Error v d = absurd (true≢false (sym d))

-- the bytes of a block that is held are ten
pub held_ten : (s : State) (h : Held) (e : Bool) → length (held_bytes true s h e) ≡ 10
held_ten s h e = length_answer (state_of s (tested_in h) e) (vector_bytes h.vector) refl

-- so many whatever the next block is
pub held_same : (have : Bool) (s : State) (h : Held) (e e' : Bool) → length (held_bytes have s h e) ≡ length (held_bytes have s h e')
held_same true s h e e' = held_ten s h e ∙ sym (held_ten s h e')
held_same false s h e e' = refl

-- what answering it does to the room
pub held_put : (have : Bool) (s : State) (h : Held) (e : Bool) (room room' : List ℕ) (at : ℕ) (n n' : Handed) (s' : State) (v : Vector)
    → have ≡ true → s' ≡ state_of s (tested_in h) e → vector_bytes v ≡ answer_in s' (vector_bytes h.vector)
    → room' ≡ take at room ++ (vector_bytes v ++ drop (at + 10) room) → n' ≡ hand_out n (record { state = s'; block = tested_in h })
    → (s' ≡ held_state have s h e) × (at + 10 ≡ at + length (held_bytes have s h e))
    × (room' ≡ take at room ++ (held_bytes have s h e ++ drop (at + length (held_bytes have s h e)) room))
    × (n' ≡ held_handed have n s h e)
held_put have s h e room room' at n n' s' v eh es ev er en =
    let b : held_bytes have s h e ≡ vector_bytes v =
    ap (λ (z : Bool). held_bytes z s h e) eh ∙ sym (ev ∙ ap (λ (u : State). answer_in u (vector_bytes h.vector)) es) in
    let l : length (held_bytes have s h e) ≡ 10 = ap length b in (
      es ∙ sym (ap (λ (z : Bool). held_state z s h e) eh),
      ap (λ (k : ℕ). at + k) (sym l),
      er ∙ sym (ap₂ (λ (x : List ℕ) (k : ℕ). take at room ++ (x ++ drop (at + k) room)) b l),
      en ∙ ap (λ (z : State). hand_out n (record { state = z; block = tested_in h })) es ∙ sym (ap (λ (z : Bool). held_handed z n s h e) eh),
    )

-- it adds at most one to each count
pub held_within : (have : Bool) (n : Handed) (s : State) (h : Held) (e : Bool) (m k : ℕ) → HandedWithin m n → m < k → HandedWithin k (held_handed have n s h e)
held_within true n s h e m k w l = handed_next n (record { state = state_of s (tested_in h) e; block = tested_in h }) m k w l
held_within false n s h e m k w l = handed_wide n m k w (omega arith)

-- ---- one more block behind the one held

-- the block that is held, if there is one
abbrev holding : Bool → Held → List Tested
holding have h = cond have (tested_in h ∷ []) []

module _ (s : State) (h : Held) (t : Tested) (ts : List Tested) where
  -- the bytes: those of the block held, and then those of the rest
  pub settle_bytes : (have : Bool)
      → bytes_of (settle s (holding have h ++ t ∷ ts)).judged
      ≡ held_bytes have s h (lets_end t) ++ bytes_of (settle (held_state have s h (lets_end t)) (t ∷ ts)).judged
  unfolding settle flatten tested_in
  settle_bytes true = refl
  settle_bytes false = refl

  -- the counts: that of the block held, and then those of the rest
  pub settle_handed : (n : Handed) (have : Bool)
      → plus_handed (held_handed have n s h (lets_end t)) (handed_of (settle (held_state have s h (lets_end t)) (t ∷ ts)).judged)
      ≡ plus_handed n (handed_of (settle s (holding have h ++ t ∷ ts)).judged)
  unfolding settle tested_in
  settle_handed n true =
      hand_more n (record { state = state_of s (tested_in h) (lets_end t); block = tested_in h }) (settle (state_of s (tested_in h) (lets_end t)) (t ∷ ts)).judged
  settle_handed n false = refl

  -- the state at the end
  pub settle_state : (have : Bool) → (settle s (holding have h ++ t ∷ ts)).state ≡ (settle (held_state have s h (lets_end t)) (t ∷ ts)).state
  unfolding settle tested_in
  settle_state true = refl
  settle_state false = refl

  -- the block held at the end
  pub settle_held : (have : Bool) → (settle s (holding have h ++ t ∷ ts)).held ≡ (settle (held_state have s h (lets_end t)) (t ∷ ts)).held
  unfolding settle tested_in
  settle_held true = refl
  settle_held false = refl

-- ---- the end of the line

-- a block that is held stays held
pub settle_last : (have : Bool) (s : State) (h : Held) → settle s (holding have h ++ []) ≡ record { judged = []; state = s; held = holding have h }
unfolding settle
settle_last true s h = refl
settle_last false s h = refl

-- all blocks in their states: those settled, and then the block held, with no next block
pub settled : (s : State) (ts : List Tested) → judge s ts ≡ (settle s ts).judged ++ judge (settle s ts).state (settle s ts).held
unfolding judge settle ends
settled s [] = refl
settled s (t ∷ []) = refl
settled s (t ∷ u ∷ ts) = ap (λ (l : List Judged). record { state = state_of s t (lets_end u); block = t } ∷ l) (settled (state_of s t (lets_end u)) (u ∷ ts))

-- what is settled of joined lists: of the first, and then of the block held and the second
pub settle_append : (s : State) (a b : List Tested)
    → settle s (a ++ b)
    ≡ record {
      judged = (settle s a).judged ++ (settle (settle s a).state ((settle s a).held ++ b)).judged;
      state = (settle (settle s a).state ((settle s a).held ++ b)).state;
      held = (settle (settle s a).state ((settle s a).held ++ b)).held;
    }
unfolding settle
settle_append s [] b = refl
settle_append s (t ∷ []) b = refl
settle_append s (t ∷ u ∷ a) b =
    let s' = state_of s t (lets_end u) in
    ap (λ (z : Settled). record { judged = record { state = s'; block = t } ∷ z.judged; state = z.state; held = z.held }) (settle_append s' (u ∷ a) b)

-- each block is settled or held
pub settle_count : (s : State) (ts : List Tested) → length (settle s ts).judged + length (settle s ts).held ≡ length ts
unfolding settle
settle_count s [] = refl
settle_count s (t ∷ []) = refl
settle_count s (t ∷ u ∷ ts) = omega (arith, settle_count (state_of s t (lets_end u)) (u ∷ ts))

-- at most one is held
pub settle_few : (s : State) (ts : List Tested) → length (settle s ts).held ≤ 1
unfolding settle
settle_few s [] = omega arith
settle_few s (t ∷ []) = omega arith
settle_few s (t ∷ u ∷ ts) = settle_few (state_of s t (lets_end u)) (u ∷ ts)

-- the bytes of what is settled, ten for each block
pub settle_tens : (s : State) {ts : List Tested} → EachTested Ten ts → length (bytes_of (settle s ts).judged) ≡ 10 * length (settle s ts).judged
unfolding settle flatten
settle_tens s none = refl
settle_tens s (more e none) = refl
settle_tens s (more {t} {ts = u ∷ us} e (more f r)) =
    let s' = state_of s t (lets_end u) in
    length-append (answer_in s' t.vector) (bytes_of (settle s' (u ∷ us)).judged)
    ∙ omega (arith, length_answer s' t.vector e, settle_tens s' (more {t = u} f r))

-- as many blocks in their states as there are
pub judge_length : (s : State) (ts : List Tested) → length (judge s ts) ≡ length ts
unfolding judge
judge_length s [] = refl
judge_length s (t ∷ ts) = ap suc (judge_length (state_of s t (ends ts)) ts)

-- and their bytes, ten for each
pub judge_tens : (s : State) {ts : List Tested} → EachTested Ten ts → length (bytes_of (judge s ts)) ≡ 10 * length (judge s ts)
unfolding judge flatten
judge_tens s none = refl
judge_tens s (more {t} {ts} e r) =
    let s' = state_of s t (ends ts) in
    length-append (answer_in s' t.vector) (bytes_of (judge s' ts)) ∙ omega (arith, length_answer s' t.vector e, judge_tens s' r)

-- the vector of the block held at the end of the input
pub last_bytes : (have : Bool) (s : State) (h : Held) → bytes_of (judge s (holding have h)) ≡ held_bytes have s h true
unfolding judge ends flatten tested_in
last_bytes true s h = append-nil _
last_bytes false s h = refl

-- the bytes of joined lists of blocks
pub bytes_append : (a b : List Judged) → bytes_of (a ++ b) ≡ bytes_of a ++ bytes_of b
unfolding flatten
bytes_append [] b = refl
bytes_append (j ∷ a) b = ap (λ (l : List ℕ). answer j ++ l) (bytes_append a b) ∙ sym (append_assoc (answer j) (bytes_of a) (bytes_of b))

-- ---- the last block

-- whether it is judged alone is seen of the block held
pub alone_settled : (s : State) (ts : List Tested) → judged_alone (judge s ts) ≡ judged_alone (judge (settle s ts).state (settle s ts).held)
unfolding judge settle ends last_is
alone_settled s [] = refl
alone_settled s (t ∷ []) = refl
alone_settled s (t ∷ u ∷ ts) = alone_settled (state_of s t (lets_end u)) (u ∷ ts)

-- by its state
pub alone_held : (have : Bool) (s : State) (h : Held) → cond have (is_terminate (held_state have s h true)) false ≡ judged_alone (judge s (holding have h))
unfolding judge ends last_is
alone_held true s h = refl
alone_held false s h = refl

-- the counts with its vector
pub handed_held : (have : Bool) (n : Handed) (s : State) (h : Held) → held_handed have n s h true ≡ plus_handed n (handed_of (judge s (holding have h)))
unfolding judge ends
handed_held true n s h =
    let j : Judged = record { state = state_of s (tested_in h) true; block = tested_in h } in
    sym (hand_end (hand_out n j)) ∙ hand_more n j []
handed_held false n s h = sym (hand_end n)
