-- Laws of the texts that are written: one piece, one byte or one digit more.
use Prim.Native.Nat.{ℕ, zero, suc, ◌+◌, ◌-◌, ◌*◌, ◌/◌, ◌%◌, ◌^◌, ◌≤◌, ◌<◌, min}
use mathlib.Core.Path.{◌≡◌, refl, sym, ap, ap₂, ◌∙◌}
use mathlib.Core.Bool.{Bool}
use mathlib.Core.List.{List, [], ◌∷◌, ◌++◌, map, flatten, append-nil, append_assoc}
use native.Mathlib.Omega.{arith}
use native.Mathlib.Numerals.{add-one}
use native.Mathlib.Nat.{pow-suc, mul-suc}
use lib.ListN.{length, get_or, take, drop, length-append, length-drop, take-append-drop}
use lib.Seq.{take-suc, take_at, drop_at, length-take-le, drop-drop, take_all}
use lib.Dec.{ltb}
use Rattle.std.proofs.lemmas.List.{nil_from_length}
use borrow.Author.Tests.{lt-ltb, le-ltb, ltb-true, ltb-false}
use Rattle.refusals.proofs.Laws.{by_test}
use Rattle.record_writing.specs.Writing.{record_of}
use Rattle.display.specs.Display.{ascii, hex_digit, hex_digits, hex_line, hex_lines, pieces, decimal_by, decimal, number_line, flag, summary_lines, refused_line, line_records}

-- ---- decimal numbers

-- A number below ten is one digit.
pub decimal_one : (k n : ℕ) → n < 10 → decimal_by (suc k) n ≡ hex_digit n ∷ []
unfolding decimal_by
decimal_one k n h = simp (lt-ltb n 10 h)

-- A larger one has its last digit after the others.
pub decimal_more : (k n : ℕ) → 10 ≤ n → decimal_by (suc k) n ≡ decimal_by k (n / 10) ++ hex_digit (n % 10) ∷ []
unfolding decimal_by
decimal_more k n h = simp (le-ltb n 10 h)

-- A number without its last digit.
tenth : (k n : ℕ) → n < 10 ^ suc k → n / 10 < 10 ^ k
tenth k n h = let e = pow-suc 10 k in omega arith

-- A number below 10 ^ (k + 1) has no more than k + 1 digits, and asking for more gives the same.
pub decimal_same : (k n : ℕ) → n < 10 ^ suc k → decimal_by (suc (suc k)) n ≡ decimal_by (suc k) n
decimal_same zero n h = decimal_one 1 n h ∙ sym (decimal_one 0 n h)
decimal_same (suc k) n h =
    by_test (ltb n 10)
    (λ t. let u = ltb-true n 10 t in decimal_one (suc (suc k)) n u ∙ sym (decimal_one (suc k) n u))
    (λ t. let u = ltb-false n 10 t in
    decimal_more (suc (suc k)) n u
    ∙ ap (λ (l : List ℕ). l ++ hex_digit (n % 10) ∷ []) (decimal_same k (n / 10) (tenth (suc k) n h))
    ∙ sym (decimal_more (suc k) n u))

-- No more digits than were asked for.
pub decimal_length : (k n : ℕ) → length (decimal_by k n) ≤ k
unfolding decimal_by
decimal_length zero n = omega arith
decimal_length (suc k) n =
    by_test (ltb n 10)
    (λ t. simp (decimal_one k n (ltb-true n 10 t)) (omega arith))
    (λ t. simp (decimal_more k n (ltb-false n 10 t), length-append) (omega (arith, decimal_length k (n / 10))))

-- ---- hexadecimal digits

-- The digits of two parts are those of both.
pub hex_append : (a b : List ℕ) → hex_digits (a ++ b) ≡ hex_digits a ++ hex_digits b
unfolding hex_digits
hex_append [] b = refl
hex_append (x ∷ a) b = ap (λ (l : List ℕ). hex_digit (x / 16) ∷ hex_digit (x % 16) ∷ l) (hex_append a b)

-- Two digits a byte.
pub hex_length : (a : List ℕ) → length (hex_digits a) ≡ 2 * length a
unfolding hex_digits
hex_length [] = refl
hex_length (x ∷ a) = omega (arith, hex_length a)

-- One byte more.
pub hex_more : (v : List ℕ) (j : ℕ) → j < length v → hex_digits (take (j + 1) v) ≡ hex_digits (take j v) ++ hex_digit (get_or v j 0 / 16) ∷ hex_digit (get_or v j 0 % 16) ∷ []
unfolding hex_digits
hex_more v j h = ap (λ (n : ℕ). hex_digits (take n v)) (add-one j) ∙ ap hex_digits (take-suc v j 0 h) ∙ hex_append (take j v) (get_or v j 0 ∷ [])

-- A vector's line has 21 bytes.
pub hex_line_length : (v : List ℕ) → length v ≡ 10 → length (hex_line v) ≡ 21
hex_line_length v h = omega (arith, length-append (hex_digits v) (ascii "\n"), hex_length v)

-- ---- pieces

-- One piece more.
pub piece_more : (f : List ℕ → List ℕ) (size k : ℕ) (bytes : List ℕ) → flatten (map f (pieces size (suc k) bytes)) ≡ flatten (map f (pieces size k bytes)) ++ f (take size (drop (size * k) bytes))
unfolding pieces flatten
piece_more f size zero bytes =
    let z : 0 ≡ size * 0 = omega arith in
    append-nil (f (take size bytes)) ∙ ap (λ (n : ℕ). f (take size (drop n bytes))) z
piece_more f size (suc k) bytes =
    let m : size + size * k ≡ size * suc k = omega (arith, mul-suc size k) in
    ap (λ (l : List ℕ). f (take size bytes) ++ l) (piece_more f size k (drop size bytes))
    ∙ ap (λ (l : List ℕ). f (take size bytes) ++ (flatten (map f (pieces size k (drop size bytes))) ++ f (take size l))) (drop-drop (size * k) size bytes ∙ ap (λ (n : ℕ). drop n bytes) m)
    ∙ sym (append_assoc (f (take size bytes)) (flatten (map f (pieces size k (drop size bytes)))) (f (take size (drop (size * suc k) bytes))))

-- Lines of one length.
pub pieces_length : (f : List ℕ → List ℕ) (size n k : ℕ) (bytes : List ℕ) → ((v : List ℕ) → length v ≡ size → length (f v) ≡ n) → size * k ≤ length bytes → length (flatten (map f (pieces size k bytes))) ≡ n * k
unfolding pieces flatten
pieces_length f size n zero bytes g h = omega arith
pieces_length f size n (suc k) bytes g h =
    let m = mul-suc size k in
    let l = pieces_length f size n k (drop size bytes) g (simp length-drop (omega arith)) in
    let o = g (take size bytes) (length-take-le size bytes (omega arith)) in
    simp (length-append, o, l) (omega (arith, mul-suc n k))

-- And so has each line.
pub lines_length : (vectors : List ℕ) → length (hex_lines vectors) ≡ 21 * (length vectors / 10)
lines_length vectors = pieces_length hex_line 10 21 (length vectors / 10) vectors hex_line_length (omega arith)

-- The line of the first vector, and then those of the others.
pub lines_part : (vectors vector rest : List ℕ) → vectors ≡ vector ++ rest → length vector ≡ 10 → hex_lines vectors ≡ hex_line vector ++ hex_lines rest
unfolding pieces flatten
lines_part vectors vector rest e l =
    let k : length vectors / 10 ≡ suc (length rest / 10) = omega (arith, ap length e, length-append vector rest) in
    let p : take 10 vectors ≡ vector = ap (take 10) e ∙ take_at vector rest 10 l in
    let r : drop 10 vectors ≡ rest = ap (drop 10) e ∙ drop_at vector rest 10 l in
    ap (λ (n : ℕ). flatten (map hex_line (pieces 10 n vectors))) k
    ∙ ap₂ (λ (x y : List ℕ). hex_line x ++ flatten (map hex_line (pieces 10 (length rest / 10) y))) p r

-- No whole vector has no line.
pub lines_none : (vectors : List ℕ) → length vectors < 10 → hex_lines vectors ≡ []
unfolding pieces flatten
lines_none vectors h = let k : length vectors / 10 ≡ 0 = omega arith in rw k

-- ---- line records

-- A record has four bytes more than its body.
pub record_length : (body : List ℕ) → length (record_of 2 body) ≡ length body + 4
record_length body = omega arith

-- An empty line has no record.
pub records_none : (line : List ℕ) → length line ≡ 0 → line_records 4092 line ≡ []
unfolding pieces flatten
records_none line e = let k : (length line + 4092 - 1) / 4092 ≡ 0 = omega arith in rw k

-- A line that one body holds has one record.
pub records_one : (line : List ℕ) → 0 < length line → length line ≤ 4092 → line_records 4092 line ≡ record_of 2 line
unfolding pieces flatten
records_one line h g =
    let k : (length line + 4092 - 1) / 4092 ≡ 1 = omega arith in
    rw k (ap (λ (l : List ℕ). record_of 2 l ++ []) (take_all 4092 line g) ∙ append-nil (record_of 2 line))

-- A longer line has a whole record first.
pub records_more : (line : List ℕ) → 4092 < length line → line_records 4092 line ≡ record_of 2 (take 4092 line) ++ line_records 4092 (drop 4092 line)
unfolding pieces flatten
records_more line h =
    let d = length-drop 4092 line in
    let k : (length line + 4092 - 1) / 4092 ≡ suc ((length (drop 4092 line) + 4092 - 1) / 4092) = omega arith in
    rw k

-- Each record has four bytes more than its body.
records_total : (size k : ℕ) (bytes : List ℕ) → length bytes ≤ size * k → length (flatten (map (record_of 2) (pieces size k bytes))) ≡ length bytes + 4 * k
unfolding pieces flatten
records_total size zero bytes h = omega arith
records_total size (suc k) bytes h =
    let m = mul-suc size k in
    let l = records_total size k (drop size bytes) (simp length-drop (omega arith)) in
    let s = ap length (take-append-drop size bytes) in
    omega (arith, length-append (record_of 2 (take size bytes)) (flatten (map (record_of 2) (pieces size k (drop size bytes)))), length-append (take size bytes) (drop size bytes))

-- The record of the first part of a line, and then those of the rest.
pub records_part : (line part rest : List ℕ) → line ≡ part ++ rest → length part ≡ min 4092 (length line) → 0 < length line
    → line_records 4092 line ≡ record_of 2 part ++ line_records 4092 rest
records_part line part rest e l h =
    let n = ap length e ∙ length-append part rest in
    by_test (ltb 4092 (length line))
    (λ t.
    let k : 4092 < length line = ltb-true 4092 (length line) t in
    let p : take 4092 line ≡ part = ap (take 4092) e ∙ take_at part rest 4092 (omega arith) in
    let r : drop 4092 line ≡ rest = ap (drop 4092) e ∙ drop_at part rest 4092 (omega arith) in
    records_more line k ∙ ap₂ (λ (x y : List ℕ). record_of 2 x ++ line_records 4092 y) p r)
    (λ t.
    let k : length line ≤ 4092 = ltb-false 4092 (length line) t in
    let z : rest ≡ [] = nil_from_length rest (omega arith) in
    let p : line ≡ part = e ∙ ap (λ (x : List ℕ). part ++ x) z ∙ append-nil part in
    records_one line h k ∙ ap (record_of 2) p ∙ sym (append-nil (record_of 2 part))
    ∙ ap (λ (x : List ℕ). record_of 2 part ++ x) (sym (records_none rest (omega arith))))

-- How many bytes the records of a line have.
pub records_length : (line : List ℕ) → length (line_records 4092 line) ≡ length line + 4 * ((length line + 4092 - 1) / 4092)
records_length line = records_total 4092 ((length line + 4092 - 1) / 4092) line (omega arith)

-- ---- lines with a number

-- A line with a number has at most 20 digits and its end after the name.
number_length : (name : List ℕ) (n : ℕ) → length (name ++ decimal n ++ ascii "\n") ≤ length name + 21
number_length name n = omega (arith, length-append (name ++ decimal n) (ascii "\n"), length-append name (decimal n), decimal_length 20 n)

-- The line of a refusal is short.
pub refused_length : (n : ℕ) → length (refused_line n) ≤ 29
unfolding refused_line
refused_length n = number_length (ascii "refused ") n

-- The four lines are short.
pub summary_length : (tested slips : ℕ) (locked high : Bool) → length (summary_lines tested slips locked high) ≤ 109
unfolding summary_lines
summary_length tested slips locked high =
    let a = number_line "tested " tested in
    let b = number_line "slips " slips in
    let c = number_line "locked " (flag locked) in
    let d = number_line "high " (flag high) in
    omega (arith, length-append (a ++ b ++ c) d, length-append (a ++ b) c, length-append a b, number_length (ascii "tested ") tested, number_length (ascii "slips ") slips, number_length (ascii "locked ") (flag locked), number_length (ascii "high ") (flag high))
