-- What a search is worth, proved over the definitions. Assumes nothing.
use Prim.Native.Nat.{ℕ, ◌+◌, ◌*◌, ◌/◌, ◌-◌, ◌≤◌, ◌<◌}
use mathlib.Core.Path.{◌≡◌, refl, sym, ap, ap₂, ◌∙◌}
use mathlib.Core.Bool.{Bool, true, false, not}
use mathlib.Core.List.{List, [], ◌∷◌, ◌++◌}
use native.Mathlib.Omega.{arith}
use native.Mathlib.Nat.{min-le_left, min-le_right}
use lib.Dec.{leb}
use lib.ListN.{length, get_or, take, drop, length-take, length-drop, take-append-drop}
use lib.Seq.{take-add, take_all, length-take-le, get_or-take, get_or-drop}
use borrow.Author.Tests.{ltb-false, le-leb, lt-leb, leb-false, eq-eqb}
use Rattle.refusals.specs.First.{Check, check, Verdict, accepted, first, by_verdict}
use Rattle.refusals.specs.First as First
use Rattle.refusals.proofs.Laws.{passed, skipped, first_append}
use Rattle.bits.specs.Lists.{how_many}
use Rattle.bits.proofs.Laws.{by_lt}
use Rattle.bits.proofs.HowMany.{many_append}
use Rattle.block.specs.Block.{is_error_vector, vector_list}
use Rattle.block.proofs.Vectors.{length_vectors}
use Rattle.vector_checks.specs.Checks.{vector_checks}
use Rattle.vector_checks.proofs.Laws.{short}
use Rattle.index.specs.Index.{entry_count, index_for, errors_at}
use Rattle.index.specs.Answer.{wrong_length}
use Rattle.index.proofs.Reading.{entry_count_lem, length_index, errors_built}
use Rattle.index_search.specs.Search.{before_nth, searched, after_entry, passed_by}
use Rattle.index_search.specs.Answer.{found, refused, search_in, no_such, find_checks, found_with, find_answer}
use Rattle.index_search.specs.Built.{FindsAll, FindsWithin}
use Rattle.index_search.specs.declared.Halved.{Halved}
use Rattle.index_search.proofs.Halving.{Bracket, bracket, read_bound}
use Rattle.index_search.proofs.Nth.{count_nil, nth_zero, nth_skip, nth_stop, finds_nth}

-- ---- the vectors after an entry of an index that was built

module _ (vs : List (List ℕ)) (n : ℕ) where
  -- the vectors after entry k are those up to the next
  parts : (k : ℕ) → take (64 * (k + 1)) vs ≡ take (64 * k) vs ++ after_entry vs k
  parts k =
      let e : 64 * (k + 1) ≡ 64 * k + 64 = omega arith in
      ap (λ (m : ℕ). take m vs) e ∙ take-add (64 * k) 64 vs

  -- the n-th of all is among those from entry k on, where fewer stand before it
  from_entry : (k : ℕ) → 64 * k ≤ length vs → how_many is_error_vector (take (64 * k) vs) < n
      → before_nth n vs ≡ 64 * k + before_nth (n - how_many is_error_vector (take (64 * k) vs)) (drop (64 * k) vs)
  from_entry k l h =
      ap (before_nth n) (sym (take-append-drop (64 * k) vs)) ∙ nth_skip n (take (64 * k) vs) (drop (64 * k) vs) h
      ∙ ap (λ (m : ℕ). m + before_nth (n - how_many is_error_vector (take (64 * k) vs)) (drop (64 * k) vs)) (length-take-le (64 * k) vs l)

  -- what is looked for among the at most 64 vectors after the entry that remains
  record After (k : ℕ) : Type 0 where
    same : leb (length (after_entry vs k)) (passed_by vs (index_for vs) n k) ≡ leb (length vs) (before_nth n vs)
    place : leb (length vs) (before_nth n vs) ≡ false → 64 * k + passed_by vs (index_for vs) n k ≡ before_nth n vs

  -- 0 has none
  after_zero : (k : ℕ) → n ≡ 0 → After k
  after_zero k z =
      let a : before_nth n vs ≡ length vs = ap (λ (m : ℕ). before_nth m vs) z ∙ nth_zero vs in
      let d : n - errors_at (index_for vs) k ≡ 0 = omega arith in
      let b : passed_by vs (index_for vs) n k ≡ length (after_entry vs k) = ap (λ (m : ℕ). before_nth m (after_entry vs k)) d ∙ nth_zero (after_entry vs k) in
      let t : leb (length vs) (before_nth n vs) ≡ true = le-leb (length vs) (before_nth n vs) (omega (arith, a)) in
      record {
        same = le-leb (length (after_entry vs k)) (passed_by vs (index_for vs) n k) (omega (arith, b)) ∙ sym t;
        place = λ f. absurd (omega (arith, a, leb-false (length vs) (before_nth n vs) f));
      }

  module _ (few : length vs ≤ 100000) (k : ℕ) (l : k < entry_count vs) where
    -- another entry follows, before which n or more stand: the n-th is among the 64
    before_next : k + 1 < entry_count vs → 0 < n → how_many is_error_vector (take (64 * k) vs) < n → n ≤ how_many is_error_vector (take (64 * (k + 1)) vs) → After k
    before_next m p h g =
        let e = errors_built vs few k l in
        let c : how_many is_error_vector (take (64 * (k + 1)) vs) ≡ how_many is_error_vector (take (64 * k) vs) + how_many is_error_vector (after_entry vs k) =
        ap (how_many is_error_vector) (parts k) ∙ many_append is_error_vector (take (64 * k) vs) (after_entry vs k) in
        let s = nth_stop (n - how_many is_error_vector (take (64 * k) vs)) (after_entry vs k) (drop 64 (drop (64 * k) vs)) (omega arith) (omega arith) in
        let w : before_nth n vs ≡ 64 * k + before_nth (n - how_many is_error_vector (take (64 * k) vs)) (after_entry vs k) =
        from_entry k (omega arith) h
        ∙ ap (λ (x : List (List ℕ)). 64 * k + before_nth (n - how_many is_error_vector (take (64 * k) vs)) x) (sym (take-append-drop 64 (drop (64 * k) vs)))
        ∙ ap (λ (x : ℕ). 64 * k + x) s.0 in
        let q : passed_by vs (index_for vs) n k ≡ before_nth (n - how_many is_error_vector (take (64 * k) vs)) (after_entry vs k) = ap (λ (x : ℕ). before_nth (n - x) (after_entry vs k)) e in
        let a : length (after_entry vs k) ≤ length vs - 64 * k = omega (arith, length-take 64 (drop (64 * k) vs), min-le_right 64 (length (drop (64 * k) vs)), length-drop (64 * k) vs) in
        record {
          same =
              lt-leb (length (after_entry vs k)) (passed_by vs (index_for vs) n k) (omega (arith, q, s.1))
              ∙ sym (lt-leb (length vs) (before_nth n vs) (omega (arith, w, s.1, a)));
          place = λ f. omega (arith, w, q);
        }

    -- it is the last entry: the vectors after it are all that are left
    at_last : entry_count vs ≤ k + 1 → how_many is_error_vector (take (64 * k) vs) < n → After k
    at_last m h =
        let e = errors_built vs few k l in
        let all : after_entry vs k ≡ drop (64 * k) vs = take_all 64 (drop (64 * k) vs) (omega (arith, length-drop (64 * k) vs)) in
        let q : passed_by vs (index_for vs) n k ≡ before_nth (n - how_many is_error_vector (take (64 * k) vs)) (drop (64 * k) vs) =
        ap₂ (λ (x : ℕ) (v : List (List ℕ)). before_nth (n - x) v) e all in
        let w : before_nth n vs ≡ 64 * k + passed_by vs (index_for vs) n k = from_entry k (omega arith) h ∙ ap (λ (x : ℕ). 64 * k + x) (sym q) in
        let a : length (after_entry vs k) ≡ length vs - 64 * k = ap (λ (v : List (List ℕ)). length v) all ∙ length-drop (64 * k) vs in
        record {
          same =
              by_lt (before_nth n vs) (length vs)
              (λ t. lt-leb (length (after_entry vs k)) (passed_by vs (index_for vs) n k) (omega (arith, a, w)) ∙ sym (lt-leb (length vs) (before_nth n vs) t))
              (λ t. le-leb (length (after_entry vs k)) (passed_by vs (index_for vs) n k) (omega (arith, a, w)) ∙ sym (le-leb (length vs) (before_nth n vs) t));
          place = λ f. sym w;
        }

  -- the entry that the halving leaves
  after_search_lem : length vs ≤ 100000 → (h : Halved) → Bracket (index_for vs) n 0 (entry_count vs) h → After h.entry
  after_search_lem few h b =
      by_lt 0 n
      (λ p.
      let l : h.entry < entry_count vs = omega (arith, b.below) in
      let f : how_many is_error_vector (take (64 * h.entry) vs) < n =
      by_lt 0 h.entry (λ q. rw (errors_built vs few h.entry l) at (b.fewer q))
      (λ q.
      let z : 64 * h.entry ≡ 0 = omega arith in
      let c : how_many is_error_vector (take (64 * h.entry) vs) ≡ 0 = ap (λ (m : ℕ). how_many is_error_vector (take m vs)) z ∙ count_nil in
      omega arith) in
      by_lt (h.entry + 1) (entry_count vs)
      (λ m. before_next few h.entry l m p f (rw (errors_built vs few (h.entry + 1) m) at (b.enough (omega arith))))
      (λ m. at_last few h.entry l m f))
      (λ p. after_zero h.entry (omega arith))

-- ---- the whole answer with an index that was built

-- an answer depends on the last check and on what success gives only where no earlier check applies
by_last : {A : Type 0} (v : Verdict) (c d : Check) (x y : A) (f : ℕ → ℕ → A)
    → (v ≡ accepted → by_verdict (first (c ∷ [])) x f ≡ by_verdict (first (d ∷ [])) y f)
    → by_verdict (by_verdict v (first (c ∷ [])) First.refused) x f ≡ by_verdict (by_verdict v (first (d ∷ [])) First.refused) y f
by_last accepted c d x y f e = e refl
by_last (First.refused n p) c d x y f e = refl

-- two answers whose checks of 12 say the same, and that are the same where it does not apply
by_twelve : {A : Type 0} (s t : Bool) (x y : A) (f : ℕ → ℕ → A) → s ≡ t → (t ≡ false → x ≡ y)
    → by_verdict (first (check 12 s ∷ [])) x f ≡ by_verdict (first (check 12 t ∷ [])) y f
unfolding first
by_twelve s true x y f e q = rw e
by_twelve s false x y f e q = rw e (q refl)

pub finds_all : FindsAll
unfolding find_answer find_checks
finds_all bytes n =
    let w : (check 11 (wrong_length bytes (length (index_for vs)))).applies ≡ false = ap not (eq-eqb (length (index_for vs)) (8 * entry_count vs) (length_index vs)) in
    ap (λ (v : Verdict). by_verdict v (found_with bytes (index_for vs) n) refused)
    (first_append (vector_checks bytes) (check 11 (wrong_length bytes (length (index_for vs))) ∷ no_such bytes (index_for vs) n ∷ [])
    ∙ ap (λ (v : Verdict). by_verdict (first (vector_checks bytes)) v First.refused) (skipped (check 11 (wrong_length bytes (length (index_for vs)))) (no_such bytes (index_for vs) n ∷ []) w))
    ∙ by_last (first (vector_checks bytes)) (no_such bytes (index_for vs) n) (check 12 (leb (length vs) (before_nth n vs))) _ _ refused
    (λ ok.
    let few : length vs ≤ 100000 = omega (arith, short bytes ok, length_vectors (length bytes / 10) bytes) in
    let a = after_search_lem vs n few (searched vs (index_for vs) n) (bracket (entry_count vs) (index_for vs) n 0 (entry_count vs) (omega arith) (omega arith)) in
    by_twelve _ _ _ _ refused a.same (λ f. ap (λ (p : ℕ). found p (searched vs (index_for vs) n).read) (a.place f)))
    ∙ ap (λ (v : Verdict). by_verdict v (found (before_nth n vs) (searched vs (index_for vs) n).read) refused)
    (sym (first_append (vector_checks bytes) (check 12 (leb (length vs) (before_nth n vs)) ∷ [])))
  where
    vs : List (List ℕ)
    vs = vector_list bytes

-- ---- with any index

pub finds_within : FindsWithin
unfolding find_answer find_checks
finds_within bytes index n vector read q = go (first (find_checks bytes index n)) refl q
  where
    vs : List (List ℕ)
    vs = vector_list bytes

    h : Halved
    h = search_in bytes index n

    -- the vector found is one of those after the entry
    is_there : (k : ℕ) → k < entry_count vs → passed_by vs index n k < length (after_entry vs k)
        → (64 * k + passed_by vs index n k < length vs) × (is_error_vector (get_or vs (64 * k + passed_by vs index n k) []) ≡ true)
    is_there k l m =
        let s : length (after_entry vs k) ≤ length vs - 64 * k = omega (arith, length-take 64 (drop (64 * k) vs), min-le_right 64 (length (drop (64 * k) vs)), length-drop (64 * k) vs) in
        let u : passed_by vs index n k < 64 = omega (arith, length-take 64 (drop (64 * k) vs), min-le_left 64 (length (drop (64 * k) vs))) in
        let e : get_or (after_entry vs k) (passed_by vs index n k) [] ≡ get_or vs (64 * k + passed_by vs index n k) [] =
        get_or-take 64 (drop (64 * k) vs) (passed_by vs index n k) [] u ∙ get_or-drop (64 * k) vs (passed_by vs index n k) [] in
        (omega arith, ap is_error_vector (sym e) ∙ ((finds_nth (n - errors_at index k) (after_entry vs k)).0 m).0)

    go : (v : Verdict) → first (find_checks bytes index n) ≡ v → by_verdict v (found_with bytes index n) refused ≡ found vector read
        → (vector < length vs) × (is_error_vector (get_or vs vector []) ≡ true) × (read ≤ 12)
    go (First.refused a b) e g = absurd (let z : ◌≡◌ {A = ℕ} 0 1 = cc in omega arith)
    go accepted e g =
        let c₁ = passed _ _ e in
        let c₂ = passed _ _ c₁.1 in
        let c₃ = passed _ _ c₂.1 in
        let c₄ = passed _ _ c₃.1 in
        let c₅ = passed _ _ c₄.1 in
        let few : length bytes ≤ 1000000 = ltb-false 1000000 (length bytes) c₁.0 in
        let b = bracket (entry_count vs) index n 0 (entry_count vs) (omega arith) (omega arith) in
        let t = is_there h.entry (omega (arith, b.below)) (leb-false _ _ c₅.0) in
        let p : 64 * h.entry + passed_by vs index n h.entry ≡ vector = cc in
        let r : h.read ≡ read = cc in
        (rw p at t.0, rw p at t.1, rw r at (read_bound 11 (entry_count vs) index n 0 (entry_count vs) (omega (arith, entry_count_lem bytes))))
