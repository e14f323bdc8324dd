-- The definitions compute: worked examples, each by `refl`. A reviewer can skip this file.
use Rattle.std.specs.Prelude.{ℕ, ◌≡◌, refl, List, [], ◌∷◌, ◌++◌}
use Rattle.bits.specs.Bits.{bit, number, cut}
use Rattle.refusals.specs.First.{first}
use Rattle.control_bytes.specs.Control.{high_from, high_control}
use Rattle.frames.specs.Frames.{words_in, characters_of, quiet, starts, up_to_end, data_octets, is_good, frames_from}
use Rattle.frame_list.specs.Answer.{entries, refused, list_checks, list_answer, list_after}

abbrev idles : List ℕ
idles = 0x0f ∷ 0x07 ∷ 0x07 ∷ 0x07 ∷ 0x07 ∷ []

-- eight words with one frame of eight octets
abbrev capture : List ℕ
capture =
    idles ++ (0x01 ∷ 0xfb ∷ 0x55 ∷ 0x55 ∷ 0x55 ∷ []) ++ (0x00 ∷ 1 ∷ 2 ∷ 3 ∷ 4 ∷ []) ++ (0x0e ∷ 9 ∷ 0xfd ∷ 0x07 ∷ 0x07 ∷ []) ++ idles ++ idles ++ idles ++ idles

-- its entry, and a byte of the list after it
list_one : list_after capture (9 ∷ 9 ∷ 9 ∷ 9 ∷ 9 ∷ 9 ∷ 9 ∷ 9 ∷ 9 ∷ 9 ∷ 9 ∷ 9 ∷ 9 ∷ []) ≡ 1 ∷ 0 ∷ 0 ∷ 0 ∷ 8 ∷ 0 ∷ 0 ∷ 0 ∷ 1 ∷ 0 ∷ 0 ∷ 0 ∷ 9 ∷ []
unfolding list_after list_checks first high_control high_from entries words_in frames_from quiet starts characters_of up_to_end data_octets is_good cut number bit
list_one = refl

-- a list too small is refused with the number of frames
list_small : list_answer capture 11 ≡ refused 4 1
unfolding list_answer list_checks first high_control high_from words_in frames_from quiet starts characters_of up_to_end data_octets is_good
list_small = refl
