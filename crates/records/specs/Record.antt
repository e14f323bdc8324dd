-- Document 01, 'Capture records' and the row of 'Refusal numbers' on reading a record; document 02, 7/13. The body limit is an argument of
-- what is read and written: `body_limit` is the one in force, and an old reader is one with the other.
use Rattle.std.specs.Prelude.{ℕ, ◌+◌, ◌*◌, ◌-◌, ◌%◌, ◌≡◌, List, [], ◌∷◌, Bool, cond, not, ◌&&◌, ◌||◌, length, get_or, take, drop, ltb, leb, eqb, Option, Some, None, Result, Ok, Err}
use Rattle.refusals.specs.First.{Check, check_at, first, by_verdict}
use Rattle.refusals.specs.Refused.{by_result}
use Rattle.refusals.specs.declared.Refusal.{Refusal}
use Rattle.refusals.specs.declared.Refusal.TheVariants as Why
use Rattle.refusals.specs.declared.Refused.{Refused}
use Rattle.records.specs.declared.RecordKind.{RecordKind}
use Rattle.records.specs.declared.RecordKind.TheVariants.{Vectors, Line}
use Rattle.records.specs.declared.Record.{Record}

-- 7/13: "Raise the body limit to 65,472 bytes"
abbrev pub body_limit : ℕ
body_limit = 65472

-- document 01: "body of at most 4,092 bytes"
abbrev pub old_body_limit : ℕ
old_body_limit = 4092

-- "2 bytes, little-endian": the number at place i
abbrev pub two_at : (s : List ℕ) (i : ℕ) → ℕ
two_at s i = get_or s i 0 + 256 * get_or s (i + 1) 0

-- "record kind not 1 or 2"
abbrev pub unknown_kind : ℕ → Bool
unknown_kind kind = not (eqb kind 1 || eqb kind 2)

-- the number of each kind
abbrev pub kind_number : RecordKind → ℕ
kind_number Vectors = 1
kind_number Line = 2

-- the kind that has a number, or the refusal of an unknown one
abbrev pub kind_of : ℕ → Result RecordKind Refusal
kind_of number = cond (eqb number 1) (Ok Vectors) (cond (eqb number 2) (Ok Line) (Err Why.RecordKind))

-- "vector bytes not a multiple of 40": kind 1 only
abbrev pub not_groups : (kind len : ℕ) → Bool
not_groups kind len = eqb kind 1 && not (eqb (len % 40) 0)

-- "reading a record 6 (head), 7, 8, 6 (body), 2 (kind 1 only), all with the head's place"
unfoldable pub read_checks : (limit : ℕ) (s : List ℕ) (at : ℕ) → List Check
read_checks limit s at =
    check_at 6 at (ltb (length s - at) 4)
    ∷ check_at 7 at (ltb limit (two_at s at))
    ∷ check_at 8 at (unknown_kind (two_at s (at + 2)))
    ∷ check_at 6 at (ltb (length s - (at + 4)) (two_at s at))
    ∷ check_at 2 at (not_groups (two_at s (at + 2)) (two_at s at))
    ∷ []

-- what reading finds: a whole record (its kind, the start and the length of its body, the place after it); a plain end; a refusal (number, place)
pub data Answer : Type 0 where
  whole : (kind start len next : ℕ) → Answer
  end : Answer
  refused : (number place : ℕ) → Answer

-- what reading at a place finds: "No bytes left, or a place past them, is a plain end of records"
unfoldable pub read_at : (limit : ℕ) (s : List ℕ) (at : ℕ) → Answer
read_at limit s at =
    cond (leb (length s) at) end
    (by_verdict (first (read_checks limit s at))
    (whole (two_at s (at + 2)) (at + 4) (two_at s at) (at + 4 + two_at s at))
    refused)

-- the document's values for a record that was read, and for none
abbrev pub found : Option Record → Answer
found (Some r) = whole (kind_number r.kind) r.start r.len r.next
found None = end

-- the document's number and values for each case of the reader's answer
abbrev pub answer_of : Result (Option Record) Refused → Answer
answer_of = by_result found refused

-- the promise: `read` looked at a place of a file's bytes and answered `r`
abbrev pub Finds : (file : List ℕ) (place : ℕ) (r : Result (Option Record) Refused) → Type 0
Finds file place r = answer_of r ≡ read_at body_limit file place

-- "The body is the part of the file's bytes that starts after the head": len bytes from start; nothing where they run past the end
unfoldable pub body_of : (s : List ℕ) (start len : ℕ) → List ℕ
body_of s start len = cond (leb start (length s) && leb len (length s - start)) (take len (drop start s)) []

-- how many bytes belong to a record after these bytes of its head: none where the head is cut or its length is above the limit
unfoldable pub wanted_of : (limit : ℕ) (head : List ℕ) → ℕ
wanted_of limit head = cond (ltb (length head) 4) 0 (cond (ltb limit (two_at head 0)) 0 (two_at head 0))
