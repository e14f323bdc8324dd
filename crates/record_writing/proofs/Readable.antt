-- What was written is read back, proved over the definitions. Assumes nothing.
use Prim.Native.Nat.{ℕ, ◌+◌, ◌*◌, ◌/◌, ◌%◌, ◌-◌, ◌≤◌}
use mathlib.Core.Path.{◌≡◌, refl, sym, ap, ap₂, ◌∙◌}
use mathlib.Core.Bool.{false}
use mathlib.Core.List.{List, ◌++◌}
use native.Mathlib.Omega.{arith}
use lib.ListN.{length, get_or, take, drop, length-append}
use lib.Seq.{take-append_seam, drop-append-add, get_or-append-add}
use borrow.Author.Tests.{ltb-false, le-ltb, le-leb, lt-leb}
use Rattle.refusals.specs.First.{Verdict, accepted, refused, first, by_verdict}
use Rattle.refusals.proofs.Laws.{passed}
use Rattle.records.specs.Record.{two_at, unknown_kind, not_groups, whole, read_checks, read_at, body_of}
use Rattle.record_writing.specs.Writing.{write_checks, record_of, wrote, unwritten, write_answer, written_room}
use Rattle.record_writing.specs.Readable.{Readable}

-- A number by its two bytes.
two_bytes : (n : ℕ) → n % 256 + 256 * (n / 256) ≡ n
two_bytes n = omega arith

-- The number at a place behind others.
two_behind : (before s : List ℕ) (i : ℕ) → two_at (before ++ s) (length before + i) ≡ two_at s i
two_behind before s i =
    let k : length before + i + 1 ≡ length before + (i + 1) = omega arith in
    ap₂ (λ (x y : ℕ). x + 256 * y) (get_or-append-add before s i 0) (ap (λ (n : ℕ). get_or (before ++ s) n 0) k ∙ get_or-append-add before s (i + 1) 0)

module _ (before body rest : List ℕ) (kind : ℕ) where
  abbrev file : List ℕ
  file = before ++ (record_of kind body ++ rest)

  long : length file ≡ length before + 4 + length body + length rest
  long = omega (arith, length-append before (record_of kind body ++ rest), length-append body rest)

  len_there : two_at file (length before) ≡ length body
  len_there =
      let z : length before ≡ length before + 0 = omega arith in
      ap (two_at file) z ∙ two_behind before (record_of kind body ++ rest) 0 ∙ two_bytes (length body)

  kind_there : two_at file (length before + 2) ≡ kind
  kind_there = two_behind before (record_of kind body ++ rest) 2 ∙ two_bytes kind

  -- A record in a file is found.
  found : (limit : ℕ) → length body ≤ limit → unknown_kind kind ≡ false → not_groups kind (length body) ≡ false
      → read_at limit file (length before) ≡ whole kind (length before + 4) (length body) (length before + (length body + 4))
  unfolding read_at read_checks first
  found limit h k g =
      let t₁ = lt-leb (length file) (length before) (omega (arith, long)) in
      let t₂ = le-ltb (length file - length before) 4 (omega (arith, long)) in
      let t₃ = le-ltb limit (length body) h in
      let t₄ = le-ltb (length file - (length before + 4)) (length body) (omega (arith, long)) in
      simp (len_there, kind_there, t₁, t₂, t₃, k, t₄, g) (ap (whole kind (length before + 4) (length body)) (omega arith))

  -- Its body is the part behind the head.
  body_found : body_of file (length before + 4) (length body) ≡ body
  unfolding body_of
  body_found =
      let t₁ = le-leb (length before + 4) (length file) (omega (arith, long)) in
      let t₂ = le-leb (length body) (length file - (length before + 4)) (omega (arith, long)) in
      simp (t₁, t₂) (ap (take (length body)) (drop-append-add before (record_of kind body ++ rest) 4) ∙ take-append_seam body rest)

-- Where so many bytes were written, nothing was refused.
unrefused : (v : Verdict) (n m : ℕ) → by_verdict v (wrote n) unwritten ≡ wrote m → (v ≡ accepted) × (n ≡ m)
unrefused accepted n m e = (refl, (cc))
unrefused (refused k p) n m e = absurd (let y : ◌≡◌ {A = ℕ} 0 1 = cc in omega arith)

-- What the writer's tests said.
tests : (limit kind : ℕ) (body : List ℕ) (room : ℕ) → first (write_checks limit kind body room) ≡ accepted
    → (length body ≤ limit) × (unknown_kind kind ≡ false) × (not_groups kind (length body) ≡ false)
unfolding write_checks
tests limit kind body room e =
    let a = passed _ _ e in
    let b = passed _ _ a.1 in
    let c = passed _ _ b.1 in
    (ltb-false limit (length body) a.0, b.0, c.0)

pub readable : Readable
unfolding write_answer written_room
readable limit kind body room n e before after =
    let v = unrefused (first (write_checks limit kind body (length room))) (length body + 4) n e in
    let p = tests limit kind body (length room) v.0 in
    let l : length (record_of kind body) ≡ n = omega (arith, v.1) in
    let w : take n (record_of kind body ++ drop (length body + 4) room) ≡ record_of kind body
    = ap (λ (k : ℕ). take k (record_of kind body ++ drop (length body + 4) room)) (sym l)
    ∙ take-append_seam (record_of kind body) (drop (length body + 4) room) in
    let f = found before body after kind limit p.0 p.1 p.2 in
    rw (v.0, w) (f ∙ ap (λ (k : ℕ). whole kind (length before + 4) (length body) (length before + k)) v.1, body_found before body after kind)
