-- The list of frames as bytes, entry by entry. Assumes nothing.
use Prim.Native.Nat.{ℕ, ◌+◌, ◌*◌, ◌-◌, ◌/◌, ◌≤◌, ◌<◌}
use mathlib.Core.Path.{◌≡◌, refl, sym, ap, ◌∙◌}
use mathlib.Core.Bool.{true, ◌&&◌}
use mathlib.Core.List.{List, [], ◌∷◌, ◌++◌, append_assoc, append-nil}
use native.Mathlib.Omega.{arith}
use lib.ListN.{length, take, drop, length-append, take-append-drop}
use lib.Seq.{length-take-le, take_at, drop_at, drop-drop}
use Rattle.bits.specs.Bits.{bit, cut}
use Rattle.line.proofs.Laws.{put_more}
use Rattle.lent_words.specs.Words.{word_bytes, flag_word}
use Rattle.lent_words.proofs.Laws.{length_words}
use Rattle.frames.specs.Frames.{Frame, starts}
use Rattle.frame_list.specs.Answer.{entry_words, entries, frames_in, frames_number}
use Rattle.frames.specs.Words.{nth_word, quiet_before, frames_left}
use Rattle.frame_starts.specs.Finds.{NextStart}
use Rattle.frame_reading.specs.Reading.{ReadsFrame}
use Rattle.frame_list.specs.Listing.{ListsOn}
use Rattle.frame_reading.specs.declared.Ended.{Ended}
use Rattle.frame_list.specs.declared.Reached.{Reached}
use Rattle.frames.proofs.Words.{frame_at, left_some, left_end, left_all}

-- Twelve bytes a frame.
pub entries_length : (fs : List Frame) → length (entries fs) ≡ 12 * length fs
unfolding entries
entries_length [] = refl
entries_length (f ∷ fs) = length-append (word_bytes 4 (entry_words f)) (entries fs) ∙ omega (arith, length_words 4 (entry_words f), entries_length fs)

-- ---- an entry

-- three words put one after the other
pub put_three : (l l₁ l₂ l₃ : List ℕ) (at a b c : ℕ) → at + 12 ≤ length l
    → l₁ ≡ take at l ++ cut 8 (bit a) 4 ++ drop (at + 4) l
    → l₂ ≡ take (at + 4) l₁ ++ cut 8 (bit b) 4 ++ drop (at + 4 + 4) l₁
    → l₃ ≡ take (at + 8) l₂ ++ cut 8 (bit c) 4 ++ drop (at + 8 + 4) l₂
    → l₃ ≡ take at l ++ word_bytes 4 (a ∷ b ∷ c ∷ []) ++ drop (at + 12) l
unfolding cut
put_three l l₁ l₂ l₃ at a b c h e₁ e₂ e₃ =
    let x = cut 8 (bit a) 4 in
    let y = cut 8 (bit b) 4 in
    let z = cut 8 (bit c) 4 in
    put_more at 8 4 (x ++ y) z l l₂ l₃ refl refl (omega arith) (put_more at 4 4 x y l l₁ l₂ refl refl (omega arith) e₁ e₂) e₃

-- ---- listing

-- Nothing is listed where no frame is left.
pub lists_stop : (bytes : List ℕ) (k n : ℕ) (l : List ℕ) → k ≤ length bytes / 5 → frames_left bytes k ≡ []
    → ListsOn bytes k n l (record { word = length bytes / 5; entries = n }) l
lists_stop bytes k n l h e =
    let none = e ∙ sym (left_end bytes (length bytes / 5) (omega arith)) in
    record {
      later = h;
      within = omega arith;
      more = omega arith;
      number = ap (λ (fs : List Frame). n + length fs) none;
      same = ap (λ (fs : List Frame). take (12 * n) l ++ entries fs) none;
      rest = refl;
    }

-- Words up to the next Start are passed.
pub lists_skip : (bytes : List ℕ) (k n s : ℕ) (l : List ℕ) (r : Reached) (m : List ℕ) → NextStart bytes k s → ListsOn bytes s n l r m → ListsOn bytes k n l r m
lists_skip bytes k n s l r m f p =
    record {
      later = omega (arith, f.later, p.later);
      within = p.within;
      more = p.more;
      number = ap (λ (fs : List Frame). n + length fs) f.rest ∙ p.number;
      same = ap (λ (fs : List Frame). take (12 * n) l ++ entries fs) f.rest ∙ p.same;
      rest = p.rest;
    }

-- The frames from a Start on: its own, and those after its end.
left_after : (bytes : List ℕ) (k : ℕ) (e : Ended) → k < length bytes / 5 → (quiet_before bytes k && starts (nth_word bytes k)) ≡ true → ReadsFrame bytes k e
    → frames_left bytes k ≡ frame_at bytes k ∷ frames_left bytes e.next
left_after bytes k e h b d = left_some bytes k h b ∙ ap (λ (fs : List Frame). frame_at bytes k ∷ fs) d.rest

pub left_number : (bytes : List ℕ) (k : ℕ) (e : Ended) → k < length bytes / 5 → (quiet_before bytes k && starts (nth_word bytes k)) ≡ true → ReadsFrame bytes k e
    → length (frames_left bytes k) ≡ 1 + length (frames_left bytes e.next)
left_number bytes k e h b d = let u = ap (λ (fs : List Frame). length fs) (left_after bytes k e h b d) in omega arith

-- Its own entry has room.
pub left_room : (bytes : List ℕ) (k n room : ℕ) → k < length bytes / 5 → (quiet_before bytes k && starts (nth_word bytes k)) ≡ true
    → 12 * (n + length (frames_left bytes k)) ≤ room → 12 * n + 12 ≤ room
left_room bytes k n room h b l = let u = ap (λ (fs : List Frame). length fs) (left_some bytes k h b) in omega arith

-- A frame is listed.
pub lists_put : (bytes : List ℕ) (k n : ℕ) (l m : List ℕ) (e : Ended) → k < length bytes / 5 → (quiet_before bytes k && starts (nth_word bytes k)) ≡ true → ReadsFrame bytes k e
    → 12 * n + 12 ≤ length l
    → m ≡ take (12 * n) l ++ word_bytes 4 (k ∷ e.octets ∷ flag_word e.good ∷ []) ++ drop (12 * n + 12) l
    → ListsOn bytes k n l (record { word = e.next; entries = n + 1 }) m
unfolding entries
lists_put bytes k n l m e h b d room w =
    let v = word_bytes 4 (k ∷ e.octets ∷ flag_word e.good ∷ []) in
    let u = left_after bytes k e h b d in
    let c : 12 * n + 12 ≡ 12 * (n + 1) = omega arith in
    let a : length (take (12 * n) l) ≡ 12 * n = length-take-le (12 * n) l (omega arith) in
    let p : length (take (12 * n) l ++ v) ≡ 12 * (n + 1) = length-append (take (12 * n) l) v ∙ omega (arith, length_words 4 (k ∷ e.octets ∷ flag_word e.good ∷ [])) in
    let t : take (12 * (n + 1)) m ≡ take (12 * n) l ++ v = ap (take (12 * (n + 1))) w ∙ take_at (take (12 * n) l ++ v) (drop (12 * n + 12) l) (12 * (n + 1)) p in
    let o : word_bytes 4 (entry_words (frame_at bytes k)) ≡ v = rw (sym d.octets, sym d.good) in
    record {
      later = omega (arith, d.later);
      within = d.within;
      more = omega arith;
      number = (let x = ap (λ (fs : List Frame). length fs) u in omega arith);
      same = ap (λ (fs : List Frame). take (12 * n) l ++ entries fs) u
          ∙ ap (λ (x : List ℕ). take (12 * n) l ++ (x ++ entries (frames_left bytes e.next))) o
          ∙ sym (append_assoc (take (12 * n) l) v (entries (frames_left bytes e.next)))
          ∙ ap (λ (x : List ℕ). x ++ entries (frames_left bytes e.next)) (sym t);
      rest = ap (λ (i : ℕ). drop i l) (sym c) ∙ sym (ap (drop (12 * (n + 1))) w ∙ drop_at (take (12 * n) l ++ v) (drop (12 * n + 12) l) (12 * (n + 1)) p);
    }

-- And so on.
pub lists_on : (bytes : List ℕ) (k n : ℕ) (l : List ℕ) (r : Reached) (m : List ℕ) (s : Reached) (o : List ℕ)
    → ListsOn bytes k n l r m → ListsOn bytes r.word r.entries m s o → ListsOn bytes k n l s o
lists_on bytes k n l r m s o p q =
    let d : 12 * r.entries + 12 * (s.entries - r.entries) ≡ 12 * s.entries = omega (arith, q.more) in
    let far : (x : List ℕ) → drop (12 * (s.entries - r.entries)) (drop (12 * r.entries) x) ≡ drop (12 * s.entries) x =
    (λ x. drop-drop (12 * (s.entries - r.entries)) (12 * r.entries) x ∙ ap (λ (i : ℕ). drop i x) d) in
    record {
      later = omega (arith, p.later, q.later);
      within = q.within;
      more = omega (arith, p.more, q.more);
      number = p.number ∙ q.number;
      same = p.same ∙ q.same;
      rest = sym (far l) ∙ ap (drop (12 * (s.entries - r.entries))) p.rest ∙ far m ∙ q.rest;
    }

-- Before the first word.
pub lists_none : (bytes l : List ℕ) → ListsOn bytes 0 0 l (record { word = 0; entries = 0 }) l
lists_none bytes l = record { later = omega arith; within = omega arith; more = omega arith; number = refl; same = refl; rest = refl }

-- After the last word all frames are in the list.
pub lists_all : (bytes l m : List ℕ) (r : Reached) → ListsOn bytes 0 0 l r m → length bytes / 5 ≤ r.word
    → (r.entries ≡ frames_number bytes) × (m ≡ entries (frames_in bytes) ++ drop (length (entries (frames_in bytes))) l)
unfolding entries
lists_all bytes l m r p h =
    let e = left_end bytes r.word h in
    let a = left_all bytes in
    let z = ap (λ (fs : List Frame). length fs) e in
    let n : r.entries ≡ frames_number bytes = sym (omega (arith, p.number)) ∙ ap (λ (fs : List Frame). length fs) a in
    let t : take (12 * r.entries) m ≡ entries (frames_in bytes) =
    sym (append-nil (take (12 * r.entries) m)) ∙ ap (λ (fs : List Frame). take (12 * r.entries) m ++ entries fs) (sym e) ∙ sym p.same ∙ ap (λ (fs : List Frame). entries fs) a in
    let o : 12 * r.entries ≡ length (entries (frames_in bytes)) = ap (λ (i : ℕ). 12 * i) n ∙ sym (entries_length (frames_in bytes)) in
    (n, sym (take-append-drop (12 * r.entries) m) ∙ rw (t, sym p.rest, o))
