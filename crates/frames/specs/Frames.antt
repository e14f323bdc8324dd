-- Document 02, 5/13: "A second library above the first reads vectors by Clause 46 as source document 004 drafts it". Frames of any number of words.
-- A word is a list of five bytes: "a control byte (bit i set when lane i carries a control character ..), then lanes 0 to 3".
use Rattle.std.specs.Prelude.{ℕ, zero, suc, ◌+◌, ◌/◌, ◌%◌, ◌^◌, List, [], ◌∷◌, ◌++◌, Bool, true, false, cond, not, ◌&&◌, ◌||◌, eqb, length, get_or, take, drop}

-- the first k words of a list of bytes, and all of them
unfoldable pub words_in : ℕ → List ℕ → List (List ℕ)
words_in zero bytes = []
words_in (suc k) bytes = take 5 bytes ∷ words_in k (drop 5 bytes)

abbrev pub word_list : List ℕ → List (List ℕ)
word_list bytes = words_in (length bytes / 5) bytes

-- ---- characters

pub data Character : Type 0 where
  data_octet control_character : ℕ → Character

-- by its bit of the control byte; and the character in lane i of a word
abbrev pub by_flag : (flag octet : ℕ) → Character
by_flag flag octet = cond (eqb flag 0) (data_octet octet) (control_character octet)

abbrev pub lane_character : List ℕ → ℕ → Character
lane_character w i = by_flag (get_or w 0 0 / 2 ^ i % 2) (get_or w (i + 1) 0)

-- the characters of words, in their order
unfoldable pub characters_of : List (List ℕ) → List Character
characters_of [] = []
characters_of (w ∷ ws) = lane_character w 0 ∷ lane_character w 1 ∷ lane_character w 2 ∷ lane_character w 3 ∷ characters_of ws

abbrev pub is_data_octet : Character → Bool
is_data_octet (data_octet o) = true
is_data_octet (control_character c) = false

-- a control character is this one: 07 idle, 9c sequence ordered set, fb Start, fd Terminate, fe error
abbrev pub is : ℕ → Character → Bool
is x (data_octet o) = false
is x (control_character c) = eqb c x

-- ---- where a frame begins

-- "four idles"
abbrev pub four_idles : List ℕ → Bool
four_idles w = is 0x07 (lane_character w 0) && is 0x07 (lane_character w 1) && is 0x07 (lane_character w 2) && is 0x07 (lane_character w 3)

-- "a sequence ordered set": 9c in lane 0, and data in the others
abbrev pub sequence_set : List ℕ → Bool
sequence_set w = is 0x9c (lane_character w 0) && is_data_octet (lane_character w 1) && is_data_octet (lane_character w 2) && is_data_octet (lane_character w 3)

-- a frame may begin after it: "the word before was four idles or a sequence ordered set"
unfoldable pub quiet : List ℕ → Bool
quiet w = four_idles w || sequence_set w

-- "Start in lane 0 of a word"
unfoldable pub starts : List ℕ → Bool
starts w = is 0xfb (lane_character w 0)

-- ---- a frame, by the characters after its Start

-- "the first later control character that is not an error character"
abbrev pub ends_frame : Character → Bool
ends_frame (data_octet o) = false
ends_frame (control_character c) = not (eqb c 0xfe)

-- "It ends at" that one: the characters up to and with it; all of them where a frame is "still open at the end"
unfoldable pub up_to_end : List Character → List Character
up_to_end [] = []
up_to_end (c ∷ cs) = c ∷ cond (ends_frame c) [] (up_to_end cs)

-- "word number from 0", and the frame's characters after Start
pub record Frame : Type 0 where
  pub word : ℕ
  pub characters : List Character

-- "data octets after Start"
unfoldable pub data_octets : List Character → List ℕ
data_octets [] = []
data_octets (data_octet o ∷ cs) = o ∷ data_octets cs
data_octets (control_character c ∷ cs) = data_octets cs

-- "is good only if that is Terminate and no error character came"; "A frame still open at the end is listed as bad"
unfoldable pub is_good : List Character → Bool
is_good [] = false
is_good (c ∷ cs) = is 0xfd c || not (is 0xfe c) && is_good cs

-- ---- the frames of words

-- the characters after a Start in lane 0 of the first word
abbrev pub after_start : List ℕ → List (List ℕ) → List Character
after_start w ws = lane_character w 1 ∷ lane_character w 2 ∷ lane_character w 3 ∷ characters_of ws

-- The frames that begin in these words, the first of which is word k; `before` says whether a frame may begin in it: "a frame begins with Start
-- in lane 0 of a word if the word before was .."; "Each frame is listed once, in order".
unfoldable pub frames_from : (before : Bool) (k : ℕ) → List (List ℕ) → List Frame
frames_from before k [] = []
frames_from before k (w ∷ ws) =
    cond (before && starts w) (record { word = k; characters = up_to_end (after_start w ws) } ∷ []) [] ++ frames_from (quiet w) (k + 1) ws

-- "a Start in the very first word begins none"
abbrev pub frames_of : List (List ℕ) → List Frame
frames_of ws = frames_from false 0 ws
