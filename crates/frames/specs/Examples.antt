-- The definitions compute: worked examples, each by `refl`. A reviewer can skip this file.
use Rattle.std.specs.Prelude.{ℕ, ◌≡◌, refl, Bool, true, false, List, [], ◌∷◌}
use Rattle.frames.specs.Frames.{characters_of, quiet, starts, up_to_end, data_octets, is_good, Frame, frames_from, frames_of}

-- words
abbrev idles : List ℕ
idles = 0x0f ∷ 0x07 ∷ 0x07 ∷ 0x07 ∷ 0x07 ∷ []

abbrev start : List ℕ
start = 0x01 ∷ 0xfb ∷ 0x55 ∷ 0x55 ∷ 0x55 ∷ []

abbrev four : List ℕ
four = 0x00 ∷ 1 ∷ 2 ∷ 3 ∷ 4 ∷ []

abbrev fault : List ℕ
fault = 0x01 ∷ 0x9c ∷ 0x00 ∷ 0x00 ∷ 0x01 ∷ []

abbrev signal : List ℕ
signal = 0x01 ∷ 0x5c ∷ 0x00 ∷ 0x00 ∷ 0x01 ∷ []

abbrev error : List ℕ
error = 0x04 ∷ 5 ∷ 6 ∷ 0xfe ∷ 7 ∷ []

abbrev end : List ℕ
end = 0x0e ∷ 9 ∷ 0xfd ∷ 0x07 ∷ 0x07 ∷ []

abbrev end_at_once : List ℕ
end_at_once = 0x03 ∷ 0xfb ∷ 0xfd ∷ 0x00 ∷ 0x00 ∷ []

-- word number, octets, good or bad
abbrev told : List Frame → List (ℕ × List ℕ × Bool)
told [] = []
told (f ∷ fs) = (f.word, data_octets f.characters, is_good f.characters) ∷ told fs

abbrev told_of : List (List ℕ) → List (ℕ × List ℕ × Bool)
told_of ws = told (frames_of ws)

-- a good frame of eight octets
good_one : told_of (idles ∷ start ∷ four ∷ end ∷ idles ∷ []) ≡ (1, 0x55 ∷ 0x55 ∷ 0x55 ∷ 1 ∷ 2 ∷ 3 ∷ 4 ∷ 9 ∷ [], true) ∷ []
unfolding frames_from quiet starts characters_of up_to_end data_octets is_good
good_one = refl

-- "a Start in the very first word begins none", nor does one after a word that is neither four idles nor a sequence ordered set
none : told_of (start ∷ four ∷ end ∷ start ∷ end ∷ signal ∷ start ∷ end ∷ []) ≡ []
unfolding frames_from quiet starts characters_of up_to_end data_octets is_good
none = refl

-- after a sequence ordered set; an error character is no octet, and makes it bad
after_fault : told_of (fault ∷ start ∷ error ∷ end ∷ []) ≡ (1, 0x55 ∷ 0x55 ∷ 0x55 ∷ 5 ∷ 6 ∷ 7 ∷ 9 ∷ [], false) ∷ []
unfolding frames_from quiet starts characters_of up_to_end data_octets is_good
after_fault = refl

-- a Start inside a frame ends it and begins none; idles end one too, and a frame may begin right after them
twice : told_of (idles ∷ start ∷ start ∷ idles ∷ start ∷ idles ∷ start ∷ end ∷ [])
    ≡ (1, 0x55 ∷ 0x55 ∷ 0x55 ∷ [], false) ∷ (4, 0x55 ∷ 0x55 ∷ 0x55 ∷ [], false) ∷ (6, 0x55 ∷ 0x55 ∷ 0x55 ∷ 9 ∷ [], true) ∷ []
unfolding frames_from quiet starts characters_of up_to_end data_octets is_good
twice = refl

-- one that ends in its own word, and one still open at the end
at_once : told_of (idles ∷ end_at_once ∷ idles ∷ start ∷ four ∷ []) ≡ (1, [], true) ∷ (3, 0x55 ∷ 0x55 ∷ 0x55 ∷ 1 ∷ 2 ∷ 3 ∷ 4 ∷ [], false) ∷ []
unfolding frames_from quiet starts characters_of up_to_end data_octets is_good
at_once = refl
