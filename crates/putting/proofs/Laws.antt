-- Laws of bytes put at a place.
use Prim.Native.Nat.{ℕ, ◌+◌, ◌-◌, ◌≤◌}
use mathlib.Core.Path.{◌≡◌, refl, sym, ap, ◌∙◌}
use mathlib.Core.List.{List, [], ◌∷◌, ◌++◌, append-nil, append_assoc}
use native.Mathlib.Omega.{arith}
use native.Mathlib.Nat.{add-zero, add_assoc}
use native.Mathlib.Numerals.{add-one}
use lib.ListN.{length, take, drop, set, length-append, length-drop, length-set, take-append-drop, drop_of_length-le}
use lib.Seq.{drop-drop, take_all, length-take-le, take_at, drop_at, drop-append-add, set_split, append_snoc}
use borrow.Rule.Slice.PartMut.{put_mid, mid_of}
use Rattle.putting.specs.Overlaid.{overlaid, PutsText}

-- No bytes change nothing.
pub overlaid_none : (at : ℕ) (room : List ℕ) → overlaid at [] room ≡ room
unfolding overlaid
overlaid_none at room = simp (append-nil, add-zero) (take-append-drop at room)

-- The room keeps its length.
pub overlaid_length : (at : ℕ) (part room : List ℕ) → at + length part ≤ length room → length (overlaid at part room) ≡ length room
unfolding overlaid
overlaid_length at part room h =
    let t = length-take-le at room (omega arith) in
    simp (length-append, length-drop, t) (omega arith)

-- One part after another is both together.
pub overlaid_on : (at k : ℕ) (a b room : List ℕ) → k ≡ at + length a → at + length a + length b ≤ length room → overlaid k b (overlaid at a room) ≡ overlaid at (a ++ b) room
unfolding overlaid
overlaid_on at k a b room e h =
    let t = length-take-le at room (omega arith) in
    let l : length (take at room ++ a) ≡ k = simp (length-append, t) (sym e) in
    let f = take_at (take at room ++ a) (drop (at + length a) room) k l in
    let g : drop (k + length b) (take at room ++ a ++ drop (at + length a) room) ≡ drop (at + length (a ++ b)) room =
    sym (drop-drop (length b) k (take at room ++ a ++ drop (at + length a) room))
    ∙ ap (drop (length b)) (drop_at (take at room ++ a) (drop (at + length a) room) k l)
    ∙ drop-drop (length b) (at + length a) room
    ∙ ap (λ (n : ℕ). drop n room) (add_assoc at (length a) (length b) ∙ ap (λ (n : ℕ). at + n) (sym (length-append a b))) in
    rw (f, g) (simp append_assoc)

-- One byte is a store.
pub overlaid_one : (at b : ℕ) (room : List ℕ) → at + 1 ≤ length room → set room at b ≡ overlaid at (b ∷ []) room
unfolding overlaid
overlaid_one at b room h = set_split room at b (omega arith) ∙ sym (append_snoc (take at room) b (drop (at + 1) room) ∙ ap (λ (n : ℕ). take at room ++ b ∷ drop n room) (add-one at))

-- A part of the room that starts at a place and was filled from its start, said of the whole room.
pub overlaid_part : (at : ℕ) (part room l : List ℕ) → at ≤ length room
    → l ≡ part ++ drop (length part) (mid_of at (length room - at) room)
    → put_mid at (length room - at) room l ≡ overlaid at part room
unfolding overlaid
overlaid_part at part room l h e =
    let all : take (length room - at) (drop at room) ≡ drop at room = take_all (length room - at) (drop at room) (simp length-drop (omega arith)) in
    let none : drop (length room - at) (drop at room) ≡ [] = drop_of_length-le (drop at room) {i = length room - at} (simp length-drop (omega arith)) in
    rw (e, all, none) (simp (append-nil, drop-drop, append_assoc))

-- A whole part copied over as many bytes of the room is the room with the part put over it.
pub overlaid_whole : (at n : ℕ) (part room l : List ℕ) → n ≡ length part → l ≡ part → put_mid at n room l ≡ overlaid at part room
unfolding overlaid
overlaid_whole at n part room l e f = rw (e, f) (simp (append_assoc, drop-drop))

-- One text after another is both together.
pub puts_on : (at k r : ℕ) (a b entry mid exit : List ℕ) → PutsText at a entry k mid → PutsText k b mid r exit → at + length a + length b ≤ length entry → PutsText at (a ++ b) entry r exit
puts_on at k r a b entry mid exit p q h =
    record {
      ends = omega (arith, p.ends, q.ends, length-append a b);
      room = q.room ∙ ap (overlaid k b) p.room ∙ overlaid_on at k a b entry p.ends h;
    }

-- A room keeps its length.
pub puts_length : (at r : ℕ) (a entry exit : List ℕ) → PutsText at a entry r exit → at + length a ≤ length entry → length exit ≡ length entry
puts_length at r a entry exit p h = ap length p.room ∙ overlaid_length at a entry h

-- No text.
pub puts_none : (at : ℕ) (entry : List ℕ) → PutsText at [] entry at entry
puts_none at entry = record { ends = omega arith; room = sym (overlaid_none at entry) }

-- One byte.
pub puts_one : (at b : ℕ) (entry : List ℕ) → at + 1 ≤ length entry → PutsText at (b ∷ []) entry (at + 1) (set entry at b)
puts_one at b entry h = record { ends = refl; room = overlaid_one at b entry h }

-- Two bytes.
pub puts_two : (at a b : ℕ) (entry : List ℕ) → at + 2 ≤ length entry → PutsText at (a ∷ b ∷ []) entry (at + 2) (set (set entry at a) (at + 1) b)
puts_two at a b entry h =
    let w =
    puts_on at (at + 1) (at + 1 + 1) (a ∷ []) (b ∷ []) entry (set entry at a) (set (set entry at a) (at + 1) b)
    (puts_one at a entry (omega arith))
    (puts_one (at + 1) b (set entry at a) (simp length-set (omega arith)))
    (omega arith) in
    record { ends = refl; room = w.room }

-- From the start on: more bytes over fewer, and what stands there.
pub overlaid_over : (a b room : List ℕ) → length a ≤ length b → length b ≤ length room → overlaid 0 b (overlaid 0 a room) ≡ overlaid 0 b room
unfolding overlaid
overlaid_over a b room h f =
    let n : length a + (length b - length a) ≡ length b = omega arith in
    let z : (k : ℕ) → 0 + k ≡ k = λ k. omega arith in
    let d : drop (length b) (a ++ drop (length a) room) ≡ drop (length b) room =
    ap (λ (k : ℕ). drop k (a ++ drop (length a) room)) (sym n)
    ∙ drop-append-add a (drop (length a) room) (length b - length a)
    ∙ drop-drop (length b - length a) (length a) room
    ∙ ap (λ (k : ℕ). drop k room) n in
    simp (z, d)

-- The bytes that were put at the start stand there.
pub overlaid_take : (a room : List ℕ) → take (length a) (overlaid 0 a room) ≡ a
unfolding overlaid
overlaid_take a room = take_at a (drop (0 + length a) room) (length a) refl
