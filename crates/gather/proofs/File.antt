-- Reading a file's records by windows, as a program has to, gathers what the reader on the whole file gathers; and what a program has
-- read when an end or a refusal comes is such a file.
use Prim.Native.Nat.{ℕ, zero, suc, ◌+◌, ◌-◌, ◌*◌, ◌≤◌, ◌<◌}
use mathlib.Core.Path.{◌≡◌, refl, sym, ap, subst, ◌∙◌}
use mathlib.Core.Bool.{Bool, true, false, cond}
use mathlib.Core.List.{List, [], ◌∷◌, ◌++◌, append-nil}
use native.Mathlib.Omega.{arith}
use native.Mathlib.Nat.{le_refl}
use lib.ListN.{length, take, drop, length-drop}
use lib.Seq.{get_or-take, get_or-drop, take_all, length-take-le, drop-drop, take-take, take-add, drop_at, take-append-le, drop-append_seam}
use lib.Dec.{ltb, leb, eqb}
use borrow.Author.Tests.{ltb-true, ltb-false, leb-true, leb-false, lt-ltb, le-ltb, le-leb, lt-leb}
use Rattle.refusals.specs.First.{accepted, first, by_verdict}
use Rattle.refusals.specs.First.{refused as refuses}
use Rattle.records.specs.Record.{Answer, whole, end, refused, two_at, unknown_kind, not_groups, read_checks, read_at, body_of, wanted_of}
use Rattle.refusals.proofs.Laws.{by_test}
use Rattle.records.proofs.Laws.{inside}
use Rattle.gather.specs.Gather.{Gathered, more, done, stop, failed, judged, next, RecordRead, window, failure, next_read}
use Rattle.gather.specs.File.{place_after, gathering, gathered_from, record_window, windows, gathered_after, Going, on, IsWindow, InTurn, bytes_read, Concluded, by_end, by_refusal}

-- An answer with its places counted from the head.
abbrev pub rebased : Answer → Answer
rebased (whole k start len after) = whole k 4 len (4 + len)
rebased end = end
rebased (refused n p) = refused n 0

-- Two tests of the same fact.
same_leb : (a b c d : ℕ) → (a ≤ b → c ≤ d) → (b < a → d < c) → leb a b ≡ leb c d
same_leb a b c d f g = by_test (leb a b) (λ h. h ∙ sym (le-leb c d (f (leb-true a b h)))) (λ h. h ∙ sym (lt-leb c d (g (leb-false a b h))))

-- The reader's answer by its tests, with the head at place 0 and at another.
by_rows : (l a b c d e : Bool) (k start len after p : ℕ)
    → cond l end (by_verdict (cond a (refuses 6 0) (cond b (refuses 7 0) (cond c (refuses 8 0) (cond d (refuses 6 0) (cond e (refuses 2 0) accepted))))) (whole k 4 len (4 + len)) refused)
    ≡ rebased (cond l end (by_verdict (cond a (refuses 6 p) (cond b (refuses 7 p) (cond c (refuses 8 p) (cond d (refuses 6 p) (cond e (refuses 2 p) accepted))))) (whole k start len after) refused))
by_rows true a b c d e k start len after p = refl
by_rows false true b c d e k start len after p = refl
by_rows false false true c d e k start len after p = refl
by_rows false false false true d e k start len after p = refl
by_rows false false false false true e k start len after p = refl
by_rows false false false false false true k start len after p = refl
by_rows false false false false false false k start len after p = refl

-- A two-byte number of the rest is one of the whole.
two_drop : (s : List ℕ) (at i : ℕ) → two_at (drop at s) i ≡ two_at s (at + i)
two_drop s at i =
    let e : at + (i + 1) ≡ at + i + 1 = omega arith in
    simp (get_or-drop, e)

-- A two-byte number is the same in a part that holds it.
two_take : (s : List ℕ) (n i : ℕ) → i + 1 < n → two_at (take n s) i ≡ two_at s i
two_take s n i h =
    let a = get_or-take n s i 0 (omega arith) in
    let b = get_or-take n s (i + 1) 0 h in
    simp (a, b)

-- The body is the same in the record's own bytes and in all that follow.
cut : (r : List ℕ) (len : ℕ) → 4 + len ≤ length r → take len (drop 4 (take (4 + len) r)) ≡ take len (drop 4 r)
cut r len h =
    ap (λ (l : List ℕ). take len (drop 4 l)) (take-add 4 len r)
    ∙ ap (take len) (drop_at (take 4 r) (take len (drop 4 r)) 4 (length-take-le 4 r (omega arith)))
    ∙ take-take len len (drop 4 r) (le_refl len)

module _ (limit : ℕ) where
  -- The rest of the file from the head on, read at 0.
  pub read_drop : (s : List ℕ) (at : ℕ) → read_at limit (drop at s) 0 ≡ rebased (read_at limit s at)
  unfolding read_at read_checks first
  read_drop s at =
      let l = same_leb (length (drop at s)) 0 (length s) at (λ h. omega (arith, length-drop at s)) (λ h. omega (arith, length-drop at s)) in
      let t₀ : two_at (drop at s) 0 ≡ two_at s at = two_drop s at 0 ∙ ap (two_at s) (omega arith) in
      let t₂ : two_at (drop at s) (0 + 2) ≡ two_at s (at + 2) = two_drop s at 2 in
      let m₀ : length (drop at s) - 0 ≡ length s - at = omega (arith, length-drop at s) in
      let m₄ : length (drop at s) - (0 + 4) ≡ length s - (at + 4) = omega (arith, length-drop at s) in
      simp (l, t₀, t₂, m₀, m₄)
      (by_rows (leb (length s) at) (ltb (length s - at) 4) (ltb limit (two_at s at)) (unknown_kind (two_at s (at + 2))) (ltb (length s - (at + 4)) (two_at s at)) (not_groups (two_at s (at + 2)) (two_at s at)) (two_at s (at + 2)) (at + 4) (two_at s at) (at + 4 + two_at s at) at)

  -- A window is the rest itself where that is no longer.
  window_all : (r : List ℕ) → length r ≤ 4 + wanted_of limit (take 4 r) → record_window limit r ≡ r
  unfolding record_window
  window_all r h = take_all (4 + wanted_of limit (take 4 r)) r h

  -- What the head asks for, where there is a head.
  wanted_len : (r : List ℕ) → 4 ≤ length r → two_at r 0 ≤ limit → wanted_of limit (take 4 r) ≡ two_at r 0
  unfolding wanted_of
  wanted_len r h g =
      let t = two_take r 4 0 (omega arith) in
      simp (le-ltb (length (take 4 r)) 4 (omega (arith, length-take-le 4 r h)), t, le-ltb limit (two_at r 0) g)

  -- More bytes after a window do not change what is read: a body that is too long.
  read_long : (n : ℕ) (r : List ℕ) → 4 ≤ n → n ≤ length r → limit < two_at r 0 → read_at limit (take n r) 0 ≡ refused 7 0
  unfolding read_at read_checks first
  read_long n r a b g =
      let l = length-take-le n r b in
      let t = two_take r n 0 (omega arith) in
      simp (l, t, lt-leb n 0 (omega arith), le-ltb (n - 0) 4 (omega arith), lt-ltb limit (two_at r 0) g)

  -- A body of a length that is taken.
  read_fits : (r : List ℕ) (n : ℕ) → two_at r 0 ≤ limit → 4 + two_at r 0 ≤ n → n ≤ length r → read_at limit (take n r) 0 ≡ read_at limit (take (4 + two_at r 0) r) 0
  unfolding read_at read_checks first
  read_fits r n g a b =
      let l = length-take-le n r b in
      let k = length-take-le (4 + two_at r 0) r (omega arith) in
      let t = two_take r n 0 (omega arith) in
      let u = two_take r n 2 (omega arith) in
      let t' = two_take r (4 + two_at r 0) 0 (omega arith) in
      let u' = two_take r (4 + two_at r 0) 2 (omega arith) in
      simp (l, k, t, u, t', u', lt-leb n 0 (omega arith), lt-leb (4 + two_at r 0) 0 (omega arith), le-ltb (n - 0) 4 (omega arith), le-ltb (4 + two_at r 0 - 0) 4 (omega arith), le-ltb (n - (0 + 4)) (two_at r 0) (omega arith), le-ltb (4 + two_at r 0 - (0 + 4)) (two_at r 0) (omega arith))

  -- The window of a record is read as the rest of the file is.
  pub read_window : (r : List ℕ) → read_at limit (record_window limit r) 0 ≡ read_at limit r 0
  unfolding record_window
  read_window r =
      by_test (leb (length r) (4 + wanted_of limit (take 4 r)))
      (λ h. ap (λ (l : List ℕ). read_at limit l 0) (window_all r (leb-true _ _ h)))
      (λ h. let g : 4 + wanted_of limit (take 4 r) < length r = leb-false _ _ h in
      let all : take (length r) r ≡ r = take_all (length r) r (omega arith) in
      by_test (ltb limit (two_at r 0))
      (λ b. let q = ltb-true _ _ b in read_long (4 + wanted_of limit (take 4 r)) r (omega arith) (omega arith) q ∙ sym (ap (λ (l : List ℕ). read_at limit l 0) (sym all) ∙ read_long (length r) r (omega arith) (omega arith) q))
      (λ b. let q = ltb-false _ _ b in let w = wanted_len r (omega arith) q in
      ap (λ (n : ℕ). read_at limit (take (4 + n) r) 0) w ∙ sym (ap (λ (l : List ℕ). read_at limit l 0) (sym all) ∙ read_fits r (length r) q (omega (arith, g, w)) (omega arith))))

  -- A window's answer is the file's, with its places counted from the head.
  pub read_local : (file : List ℕ) (at : ℕ) → read_at limit (record_window limit (drop at file)) 0 ≡ rebased (read_at limit file at)
  read_local file at = read_window (drop at file) ∙ read_drop file at

  module _ (file : List ℕ) (at k start len nx : ℕ) (e : read_at limit file at ≡ whole k start len nx) where
    -- A whole record's window is its head and its body.
    window_is : record_window limit (drop at file) ≡ take (4 + len) (drop at file)
    unfolding record_window
    window_is =
        let i = inside limit file at k start len nx e in
        let r = drop at file in
        let m : length r ≡ length file - at = length-drop at file in
        let t : two_at r 0 ≡ len = two_drop file at 0 ∙ ap (two_at file) (omega arith) ∙ sym i.len_is in
        let w : wanted_of limit (take 4 r) ≡ len = wanted_len r (omega (arith, m, i.fits, i.start_is)) (omega (arith, t, i.small)) ∙ t in
        ap (λ (n : ℕ). take (4 + n) r) w

    -- There are as many bytes as a whole record has.
    long_enough : 4 + len ≤ length (drop at file)
    long_enough = let i = inside limit file at k start len nx e in omega (arith, length-drop at file, i.fits, i.start_is)

    -- The body in the window is the body in the file.
    body_local : body_of (record_window limit (drop at file)) 4 len ≡ body_of file start len
    unfolding body_of
    body_local =
        let i = inside limit file at k start len nx e in
        let n = length-take-le (4 + len) (drop at file) long_enough in
        let g : at + 4 ≡ start = sym i.start_is in
        rw window_is
        (simp (n, le-leb 4 (4 + len) (omega arith), le-leb len (4 + len - 4) (omega arith), le-leb start (length file) (omega (arith, i.fits)), le-leb len (length file - start) (omega (arith, i.fits)))
        (cut (drop at file) len long_enough ∙ ap (take len) (drop-drop 4 at file ∙ ap (λ (k : ℕ). drop k file) g)))

    -- The rest after the window is the file from the next place on.
    rest_is : drop (length (record_window limit (drop at file))) (drop at file) ≡ drop nx file
    rest_is =
        let i = inside limit file at k start len nx e in
        let l : length (record_window limit (drop at file)) ≡ 4 + len = ap length window_is ∙ length-take-le (4 + len) (drop at file) long_enough in
        let p : at + length (record_window limit (drop at file)) ≡ nx = omega (arith, l, i.start_is, i.next_is) in
        drop-drop (length (record_window limit (drop at file))) at file ∙ ap (λ (q : ℕ). drop q file) p

  module _ (kind most : ℕ) where
    -- One record by its window is that record of the file.
    judged_local : (file : List ℕ) (at : ℕ) (bytes : List ℕ) (a : Answer) → read_at limit file at ≡ a → judged kind most (record_window limit (drop at file)) bytes (rebased a) ≡ judged kind most file bytes a
    judged_local file at bytes (whole k start len nx) e = simp (body_local file at k start len nx e)
    judged_local file at bytes end e = refl
    judged_local file at bytes (refused n p) e = refl

    -- So one step by the window is that step on the file.
    next_local : (file : List ℕ) (at : ℕ) (g : Gathered) → next limit kind most (record_window limit (drop at file)) 0 g ≡ next limit kind most file at g
    next_local file at (more bytes) = ap (judged kind most (record_window limit (drop at file)) bytes) (read_local file at) ∙ judged_local file at bytes (read_at limit file at) refl
    next_local file at (done bytes) = refl
    next_local file at (stop n bytes) = refl
    next_local file at (failed bytes) = refl

-- There was an end, a refusal or a failed read.
pub data Over : Gathered → Type 0 where
  ended : (bytes : List ℕ) → Over (done bytes)
  stopped : (n : ℕ) (bytes : List ℕ) → Over (stop n bytes)
  broken : (bytes : List ℕ) → Over (failed bytes)

-- Then it is over.
concluded : {g : Gathered} → Concluded g → Over g
concluded (by_end b) = ended b
concluded (by_refusal n b) = stopped n b

-- No read failed.
data NoFailure : Gathered → Type 0 where
  so_far : (bytes : List ℕ) → NoFailure (more bytes)
  at_end : (bytes : List ℕ) → NoFailure (done bytes)
  at_stop : (n : ℕ) (bytes : List ℕ) → NoFailure (stop n bytes)

-- So it is over by an end or a refusal.
by_either : {g : Gathered} → Over g → NoFailure g → Concluded g
by_either (ended b) s = by_end b
by_either (stopped n b) s = by_refusal n b
by_either (broken bytes) s = elim s [ ]

module _ (limit kind most : ℕ) where
  -- From then on nothing changes.
  still : (rs : List RecordRead) {g : Gathered} → Over g → gathered_after limit kind most rs g ≡ g
  unfolding gathered_after
  still [] o = refl
  still (window w ∷ rs) (ended b) = still rs (ended b)
  still (window w ∷ rs) (stopped n b) = still rs (stopped n b)
  still (window w ∷ rs) (broken b) = still rs (broken b)
  still (failure ∷ rs) (ended b) = still rs (ended b)
  still (failure ∷ rs) (stopped n b) = still rs (stopped n b)
  still (failure ∷ rs) (broken b) = still rs (broken b)

  -- The same of the whole file.
  still_file : (n : ℕ) (file : List ℕ) (at : ℕ) {g : Gathered} → Over g → gathering limit kind most n file at g ≡ g
  unfolding gathering
  still_file zero file at o = refl
  still_file (suc n) file at (ended b) = still_file n file (place_after at (read_at limit file at)) (ended b)
  still_file (suc n) file at (stopped m b) = still_file n file (place_after at (read_at limit file at)) (stopped m b)
  still_file (suc n) file at (broken b) = still_file n file (place_after at (read_at limit file at)) (broken b)

  -- Where the reader finds no whole record it is over.
  over_end : (s : List ℕ) (at : ℕ) (g : Gathered) → read_at limit s at ≡ end → Over (next limit kind most s at g)
  over_end s at (more b) e = rw e (ended b)
  over_end s at (done b) e = ended b
  over_end s at (stop n b) e = stopped n b
  over_end s at (failed b) e = broken b

  -- The same for a refusal.
  over_refused : (s : List ℕ) (at : ℕ) (g : Gathered) (m p : ℕ) → read_at limit s at ≡ refused m p → Over (next limit kind most s at g)
  over_refused s at (more b) m p e = rw e (stopped m b)
  over_refused s at (done b) m p e = ended b
  over_refused s at (stop n b) m p e = stopped n b
  over_refused s at (failed b) m p e = broken b

  -- From one record to the next, where the rest of the file is done by `ih`.
  onward : (n : ℕ) (file : List ℕ) → ((at : ℕ) (g : Gathered) → gathered_after limit kind most (windows limit n (drop at file)) g ≡ gathering limit kind most n file at g)
      → (at : ℕ) (g : Gathered) (a : Answer) → read_at limit file at ≡ a
      → gathered_after limit kind most (windows limit n (drop (length (record_window limit (drop at file))) (drop at file))) (next limit kind most file at g)
      ≡ gathering limit kind most n file (place_after at a) (next limit kind most file at g)
  onward n file ih at g (whole k start len nx) e =
      ap (λ (r : List ℕ). gathered_after limit kind most (windows limit n r) (next limit kind most file at g)) (rest_is limit file at k start len nx e)
      ∙ ih nx (next limit kind most file at g)
  onward n file ih at g end e = let o = over_end file at g e in still _ o ∙ sym (still_file n file at o)
  onward n file ih at g (refused m p) e = let o = over_refused file at g m p e in still _ o ∙ sym (still_file n file at o)

  -- The program's windows come to what the definition says of the file.
  pub by_windows : (n : ℕ) (file : List ℕ) (at : ℕ) (g : Gathered) → gathered_after limit kind most (windows limit n (drop at file)) g ≡ gathering limit kind most n file at g
  unfolding gathered_after gathering windows
  by_windows zero file at g = refl
  by_windows (suc n) file at g =
      ap (gathered_after limit kind most (windows limit n (drop (length (record_window limit (drop at file))) (drop at file)))) (next_local limit kind most file at g)
      ∙ onward n file (by_windows n file) at g (read_at limit file at) refl

  -- A file of at most 4 n bytes from the place on is through after n + 1 records: each has four bytes at least.
  through : (n : ℕ) (file : List ℕ) (at : ℕ) (g : Gathered) (a : Answer) → read_at limit file at ≡ a
      → ((k start len nx : ℕ) → a ≡ whole k start len nx → Over (gathering limit kind most n file nx (next limit kind most file at g)))
      → Over (gathering limit kind most n file (place_after at a) (next limit kind most file at g))
  through n file at g (whole k start len nx) e ih = ih k start len nx refl
  through n file at g end e ih = let o = over_end file at g e in subst Over (sym (still_file n file at o)) o
  through n file at g (refused m p) e ih = let o = over_refused file at g m p e in subst Over (sym (still_file n file at o)) o

  -- As many records as a file can have are enough.
  pub enough : (n : ℕ) (file : List ℕ) (at : ℕ) (g : Gathered) → length file ≤ at + 4 * n → Over (gathering limit kind most (suc n) file at g)
  unfolding gathering
  enough zero file at g l =
      through zero file at g (read_at limit file at) refl
      (λ k start len nx w. let i = inside limit file at k start len nx w in absurd (omega (arith, i.begins, l)))
  enough (suc n) file at g l =
      through (suc n) file at g (read_at limit file at) refl
      (λ k start len nx w. let i = inside limit file at k start len nx w in enough n file nx (next limit kind most file at g) (omega (arith, i.start_is, i.next_is, l)))

  -- All windows of a file gather what all its records gather; and then it is over.
  pub whole_file : (file : List ℕ) → gathered_after limit kind most (windows limit (suc (length file)) file) (more []) ≡ gathered_from limit kind most file
  whole_file file = by_windows (suc (length file)) file 0 (more [])

  -- A record brings no failed read.
  judged_sound : (s bytes : List ℕ) (a : Answer) → NoFailure (judged kind most s bytes a)
  unfolding first
  judged_sound s bytes end = at_end bytes
  judged_sound s bytes (refused n p) = at_stop n bytes
  judged_sound s bytes (whole k start len nx) =
      by_test (eqb k kind)
      (λ t. by_test (ltb most (length bytes + len)) (λ u. simp (t, u) (at_stop 1 bytes)) (λ u. simp (t, u) (so_far (bytes ++ body_of s start len))))
      (λ t. simp t (at_stop 8 bytes))

  -- The same of one step.
  next_sound : (s : List ℕ) (at : ℕ) {g : Gathered} → NoFailure g → NoFailure (next limit kind most s at g)
  next_sound s at (so_far b) = judged_sound s b (read_at limit s at)
  next_sound s at (at_end b) = at_end b
  next_sound s at (at_stop n b) = at_stop n b

  -- And of all records of a file.
  file_sound : (n : ℕ) (file : List ℕ) (at : ℕ) {g : Gathered} → NoFailure g → NoFailure (gathering limit kind most n file at g)
  unfolding gathering
  file_sound zero file at s = s
  file_sound (suc n) file at s = file_sound n file (place_after at (read_at limit file at)) (next_sound file at s)

  -- After all records of a file there was an end or a refusal.
  pub over : (file : List ℕ) → Concluded (gathered_from limit kind most file)
  over file = by_either (enough (length file) file 0 (more []) (omega arith)) (file_sound (suc (length file)) file 0 (so_far []))

  -- More records than are needed change nothing.
  as_many : (n m : ℕ) (file : List ℕ) (at : ℕ) (g : Gathered) → Over (gathering limit kind most n file at g) → Over (gathering limit kind most m file at g) → gathering limit kind most n file at g ≡ gathering limit kind most m file at g
  unfolding gathering
  as_many zero m file at g o p = sym (still_file m file at o)
  as_many (suc n) zero file at g o p = still_file (suc n) file at p
  as_many (suc n) (suc m) file at g o p = as_many n m file (place_after at (read_at limit file at)) (next limit kind most file at g) o p

  -- One read more.
  pub after_one : (rs : List RecordRead) (r : RecordRead) (g : Gathered) → gathered_after limit kind most (rs ++ r ∷ []) g ≡ next_read limit kind most r (gathered_after limit kind most rs g)
  unfolding gathered_after
  after_one [] r g = refl
  after_one (q ∷ rs) r g = after_one rs r (next_read limit kind most q g)

  -- It is made in its turn.
  pub in_turn_one : (rs : List RecordRead) (r : RecordRead) (g : Gathered) → InTurn limit kind most rs g → Going (gathered_after limit kind most rs g) → IsWindow limit r → InTurn limit kind most (rs ++ r ∷ []) g
  unfolding gathered_after
  in_turn_one [] r g t o w = (o, w, tt)
  in_turn_one (q ∷ rs) r g t o w = (t.0, t.1, in_turn_one rs r (next_read limit kind most q g) t.2 o w)

-- Where a read failed neither came.
unconcluded : {C : Type 0} {bytes : List ℕ} → Concluded (failed bytes) → C
unconcluded = elim [ ]

-- And then no more is read.
ungoing : {C : Type 0} {bytes : List ℕ} → Going (failed bytes) → C
ungoing = elim [ ]

-- Reads of which the last brought an end or a refusal are the windows of the bytes that were read.
module _ (limit : ℕ) where
  -- What stands behind a whole window does not change it.
  window_front : (w rest : List ℕ) → 4 + wanted_of limit (take 4 w) ≤ length w → record_window limit w ≡ w → record_window limit (w ++ rest) ≡ w
  unfolding record_window
  window_front w rest h e =
      ap (λ (head : List ℕ). take (4 + wanted_of limit head) (w ++ rest)) (take-append-le 4 w rest (omega arith))
      ∙ take-append-le (4 + wanted_of limit (take 4 w)) w rest h
      ∙ e

  module _ (kind most : ℕ) where
    -- A window after which the gathering goes on is whole.
    going_whole : (w bytes : List ℕ) (a : Answer) → read_at limit w 0 ≡ a → Going (judged kind most w bytes a) → 4 + wanted_of limit (take 4 w) ≤ length w
    going_whole w bytes (whole k start len nx) e o =
        let i = inside limit w 0 k start len nx e in
        omega (arith, wanted_len limit w (omega (arith, i.fits, i.start_is)) (omega (arith, i.small, i.len_is)), i.fits, i.start_is, i.len_is)
    going_whole w bytes end e o = elim o [ ]
    going_whole w bytes (refused number place) e o = elim o [ ]

    -- So are all reads but the last, and the last is what was left.
    pub reads_are : (r : RecordRead) (rs : List RecordRead) {g : Gathered} → Going g → IsWindow limit r → InTurn limit kind most rs (next_read limit kind most r g)
        → Concluded (gathered_after limit kind most rs (next_read limit kind most r g)) → windows limit (suc (length rs)) (bytes_read (r ∷ rs)) ≡ r ∷ rs
    unfolding gathered_after windows
    reads_are failure [] (on b) i t s = unconcluded s
    reads_are failure (q ∷ rs) (on b) i t s = ungoing t.0
    reads_are (window w) [] o i t s = ap (λ (l : List ℕ). window l ∷ []) (ap (record_window limit) (append-nil w) ∙ i)
    reads_are (window w) (q ∷ rs) (on b) i t s =
        let rest = bytes_read (q ∷ rs) in
        let f = window_front w rest (going_whole w b (read_at limit w 0) refl t.0) i in
        let d : drop (length (record_window limit (w ++ rest))) (w ++ rest) ≡ rest = ap (λ (l : List ℕ). drop (length l) (w ++ rest)) f ∙ drop-append_seam w rest in
        ap (λ (l : List ℕ). window l ∷ windows limit (suc (length rs)) (drop (length (record_window limit (w ++ rest))) (w ++ rest))) f
        ∙ ap (λ (l : List ℕ). window w ∷ windows limit (suc (length rs)) l) d
        ∙ ap (λ (l : List RecordRead). window w ∷ l) (reads_are q rs t.0 t.1 t.2 s)

    -- What they come to is what the definition says of the file that was read.
    pub file_read : (rs : List RecordRead) → InTurn limit kind most rs (more []) → Concluded (gathered_after limit kind most rs (more [])) → gathered_after limit kind most rs (more []) ≡ gathered_from limit kind most (bytes_read rs)
    unfolding gathered_after
    file_read [] t s = elim s [ ]
    file_read (r ∷ rs) t s =
        let file = bytes_read (r ∷ rs) in
        let e : gathered_after limit kind most (r ∷ rs) (more []) ≡ gathering limit kind most (suc (length rs)) file 0 (more []) =
        ap (λ (l : List RecordRead). gathered_after limit kind most l (more [])) (sym (reads_are r rs t.0 t.1 t.2 s)) ∙ by_windows limit kind most (suc (length rs)) file 0 (more []) in
        e ∙ as_many limit kind most (suc (length rs)) (suc (length file)) file 0 (more []) (subst Over e (concluded s)) (concluded (over limit kind most file))
