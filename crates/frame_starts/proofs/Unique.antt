-- Any two answers that meet a promise are equal.
use Rattle.std.proofs.Common.{ℕ, ◌/◌, ◌≤◌, ◌≡◌, sym, ap, ◌∙◌, List, [], ◌∷◌, length, Option, None, Some}
use Rattle.frames.specs.Frames.{word_list, Frame, frames_of}
use Rattle.frames.specs.Words.{frames_left}
use Rattle.frames.proofs.Words.{left_some}
use Rattle.frame_starts.specs.Finds.{FindsStart}

pub count_unique : (bytes : List ℕ) (r s : ℕ) → (r ≡ length (frames_of (word_list bytes))) × (r ≤ length bytes / 5)
    → (s ≡ length (frames_of (word_list bytes))) × (s ≤ length bytes / 5) → r ≡ s
count_unique bytes r s p q = p.0 ∙ sym q.0

-- the word of the first frame
first_word : List Frame → Option ℕ
first_word [] = None
first_word (f ∷ fs) = Some f.word

found : (bytes : List ℕ) (k : ℕ) (r : Option ℕ) → FindsStart bytes k r → r ≡ first_word (frames_left bytes k)
unfolding first_word
found bytes k None f = sym (ap first_word f)
found bytes k (Some r) f = sym (ap first_word (f.rest ∙ left_some bytes r f.within f.begins))

pub next_start_unique : (bytes : List ℕ) (k : ℕ) (r s : Option ℕ) → FindsStart bytes k r → FindsStart bytes k s → r ≡ s
next_start_unique bytes k r s p q = found bytes k r p ∙ sym (found bytes k s q)
