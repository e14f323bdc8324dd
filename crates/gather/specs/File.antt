-- A whole file's records, the windows by which a program reads them, and what its reads come to.
use Rattle.std.specs.Prelude.{ℕ, zero, suc, ◌+◌, ◌≡◌, List, [], ◌∷◌, ◌++◌, length, take, drop}
use Rattle.records.specs.Record.{Answer, whole, end, refused, read_at, wanted_of}
use Rattle.gather.specs.Gather.{Gathered, more, done, stop, next, RecordRead, window, failure, next_read}

-- where the record after this one stands: the same place where there is none
abbrev pub place_after : (at : ℕ) → Answer → ℕ
place_after at (whole kind start len after) = after
place_after at end = at
place_after at (refused number place) = at

-- up to n records of a file, from a place on, each judged by the reader on the whole file
unfoldable pub gathering : (limit kind most n : ℕ) (file : List ℕ) (at : ℕ) → Gathered → Gathered
gathering limit kind most zero file at g = g
gathering limit kind most (suc n) file at g = gathering limit kind most n file (place_after at (read_at limit file at)) (next limit kind most file at g)

-- all records of a file: each has a head of four bytes, so more than its length are not there
abbrev pub gathered_from : (limit kind most : ℕ) (file : List ℕ) → Gathered
gathered_from limit kind most file = gathering limit kind most (suc (length file)) file 0 (more [])

-- the window of the record at the start of the rest of a file: its head, and as many bytes as the head asks for
unfoldable pub record_window : (limit : ℕ) (rest : List ℕ) → List ℕ
record_window limit rest = take (4 + wanted_of limit (take 4 rest)) rest

-- the first n windows of the rest of a file, as they are read one after the other
unfoldable pub windows : (limit n : ℕ) (rest : List ℕ) → List RecordRead
windows limit zero rest = []
windows limit (suc n) rest = window (record_window limit rest) ∷ windows limit n (drop (length (record_window limit rest)) rest)

-- after these reads, in order
unfoldable pub gathered_after : (limit kind most : ℕ) (reads : List RecordRead) → Gathered → Gathered
gathered_after limit kind most [] g = g
gathered_after limit kind most (r ∷ rs) g = gathered_after limit kind most rs (next_read limit kind most r g)

-- no end, no refusal and no failed read yet
pub data Going : Gathered → Type 0 where
  on : (bytes : List ℕ) → Going (more bytes)

-- an end or a refusal came
pub data Concluded : Gathered → Type 0 where
  by_end : (bytes : List ℕ) → Concluded (done bytes)
  by_refusal : (number : ℕ) (bytes : List ℕ) → Concluded (stop number bytes)

-- a read that did not fail is one window: no more than a head and what it asks for
abbrev pub IsWindow : (limit : ℕ) → RecordRead → Type 0
IsWindow limit (window bytes) = record_window limit bytes ≡ bytes
IsWindow limit failure = Unit {0}

-- reads as a program makes them: window by window, and none after an end, a refusal or a failed read
abbrev pub InTurn : (limit kind most : ℕ) (reads : List RecordRead) → Gathered → Type 0
InTurn limit kind most [] g = Unit {0}
InTurn limit kind most (r ∷ rs) g = Going g × IsWindow limit r × InTurn limit kind most rs (next_read limit kind most r g)

-- the bytes that were read, one after the other
abbrev pub bytes_read : List RecordRead → List ℕ
bytes_read [] = []
bytes_read (window bytes ∷ rs) = bytes ++ bytes_read rs
bytes_read (failure ∷ rs) = bytes_read rs
