-- What a reader of frames may rely on, for any number of words.
use Rattle.std.specs.Prelude.{ℕ, ◌+◌, ◌*◌, ◌<◌, ◌≤◌, ◌≡◌, Bool, true, not, ◌&&◌, List, [], ◌∷◌, ◌++◌, map, length}
use Rattle.frames.specs.Frames.{Character, data_octet, control_character, ends_frame, up_to_end, data_octets, is_good, Frame, frames_of}

-- A frame has its Start at character 4 x its word number, and its characters right after it. Each is over before any later one begins: the frames
-- stand in the order of their word numbers, each once, and no two overlap.
abbrev pub OverBefore : Frame → List Frame → Type 0
OverBefore f [] = Unit
OverBefore f (g ∷ gs) = (4 * f.word + length f.characters < 4 * g.word) × OverBefore f gs

abbrev pub InOrder : List Frame → Type 0
InOrder [] = Unit
InOrder (f ∷ fs) = OverBefore f fs × InOrder fs

abbrev pub FramesApart : Type 0
FramesApart = (words : List (List ℕ)) → InOrder (frames_of words)

-- A frame is still open: none of its characters ends it. It is the last.
abbrev pub is_open : List Character → Bool
is_open [] = true
is_open (c ∷ cs) = not (ends_frame c) && is_open cs

abbrev pub OpenLast : List Frame → Type 0
OpenLast [] = Unit
OpenLast (f ∷ fs) = (is_open f.characters ≡ true → fs ≡ []) × OpenLast fs

abbrev pub OpenFrames : Type 0
OpenFrames = (words : List (List ℕ)) → OpenLast (frames_of words)

-- At most every second word begins a frame.
abbrev pub FewFrames : Type 0
FewFrames = (words : List (List ℕ)) → 2 * length (frames_of words) ≤ length words

-- A frame that is good is its data octets and then Terminate: it has no error character.
abbrev pub GoodFrames : Type 0
GoodFrames =
    (after : List Character) → is_good (up_to_end after) ≡ true
    → up_to_end after ≡ map data_octet (data_octets (up_to_end after)) ++ (control_character 0xfd ∷ [])
