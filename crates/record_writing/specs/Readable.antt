-- Document 02, 7/13: "so that files for phones not yet updated stay readable". What was written within a limit is read back, wherever it
-- stands in a file, by a reader with that limit: by an old one, where the writer was told no.
use Rattle.std.specs.Prelude.{ℕ, ◌+◌, ◌≡◌, List, ◌++◌, length, take}
use Rattle.records.specs.Record.{whole, read_at, body_of}
use Rattle.record_writing.specs.Writing.{wrote, write_answer, written_room}

abbrev pub Readable : Type 0
Readable =
    (limit kind : ℕ) (body room : List ℕ) (n : ℕ) → write_answer limit kind body room ≡ wrote n
    → (before after : List ℕ)
    → let file = before ++ (take n (written_room limit kind body room) ++ after) in
    (read_at limit file (length before) ≡ whole kind (length before + 4) (length body) (length before + n))
    × (body_of file (length before + 4) (length body) ≡ body)
