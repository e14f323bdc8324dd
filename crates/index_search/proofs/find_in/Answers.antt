-- `index_search::find_in` meets its contract. Assumes nothing.
use Rattle.std.proofs.Common.{rules, ℕ, ◌+◌, ◌*◌, ◌-◌, ◌/◌, ◌≡◌, min, List, length, drop, refl, sym, ap, ◌∙◌, arith}
use Rattle.block.proofs.Vectors.{length_vectors}
use Rattle.index.proofs.Reading.{errors_read}
use Rattle.index_search.specs.Search.{before_nth}
use Rattle.index_search.proofs.Answers.{within, inside, part, none_there, one_there}
use Rattle.index_search.proofs.find_in.Goals as goal

pub overflow_mul-from : goal.overflow_mul-from
overflow_mul-from c = omega (arith, c.requires.0, inside c.args.bytes.now c.args.index.now c.args.n c.entries.result c.halve-entry.result c.entries.ensures c.halve-entry.ensures)

pub overflow_add-from : goal.overflow_add-from
overflow_add-from c = omega (arith, c.requires.0, inside c.args.bytes.now c.args.index.now c.args.n c.entries.result c.halve-entry.result c.entries.ensures c.halve-entry.ensures)

pub overflow_mul-entry : goal.overflow_mul-entry
overflow_mul-entry c = omega (arith, c.requires.0, inside c.args.bytes.now c.args.index.now c.args.n c.entries.result c.halve-entry.result c.entries.ensures c.halve-entry.ensures)

pub load_half-requires : goal.load_half-requires
load_half-requires c = omega (arith, c.requires.1, within c.args.bytes.now c.args.index.now c.args.n c.entries.result c.halve-entry.result c.entries.ensures c.halve-entry.ensures)

pub overflow_mul-from-2 : goal.overflow_mul-from-2
overflow_mul-from-2 c = omega (arith, c.requires.0, inside c.args.bytes.now c.args.index.now c.args.n c.entries.result c.halve-entry.result c.entries.ensures c.halve-entry.ensures)

pub slice_bounds-nth_error-count : goal.slice_bounds-nth_error-count
slice_bounds-nth_error-count c =
    let to : c.min-to.result ≡ min (64 * c.halve-entry.result.entry + 64) (length c.args.bytes.now / 10) = search rules in
    omega (arith, inside c.args.bytes.now c.args.index.now c.args.n c.entries.result c.halve-entry.result c.entries.ensures c.halve-entry.ensures)

pub slice_bounds-nth_error-start : goal.slice_bounds-nth_error-start
slice_bounds-nth_error-start c =
    let to : c.min-to.result ≡ min (64 * c.halve-entry.result.entry + 64) (length c.args.bytes.now / 10) = search rules in
    omega (arith, inside c.args.bytes.now c.args.index.now c.args.n c.entries.result c.halve-entry.result c.entries.ensures c.halve-entry.ensures)

pub overflow_add-result : goal.overflow_add-result
overflow_add-result c =
    let b = c.args.bytes.now in
    let x = c.args.index.now in
    let h = c.halve-entry.result in
    let to : c.min-to.result ≡ min (64 * h.entry + 64) (length b / 10) = search rules in
    let p = part b x c.args.n c.entries.result h c.entries.ensures c.halve-entry.ensures c.min-to.result (10 * c.min-to.result - 10 * (64 * h.entry)) (10 * (64 * h.entry)) to refl refl in
    omega (
      arith,
      c.requires.0,
      inside b x c.args.n c.entries.result h c.entries.ensures c.halve-entry.ensures,
      ap (λ (vs : List (List ℕ)). length vs) p,
      length_vectors (c.min-to.result - 64 * h.entry) (drop (10 * (64 * h.entry)) b),
      c.in-Some.ensures.0,
    )

pub returns-in-Some : goal.returns-in-Some
returns-in-Some c =
    let b = c.args.bytes.now in
    let x = c.args.index.now in
    let h = c.halve-entry.result in
    let to : c.min-to.result ≡ min (64 * h.entry + 64) (length b / 10) = search rules in
    let e = errors_read x h.entry c.load_half.result c.load_half.ensures.0 in
    let i = inside b x c.args.n c.entries.result h c.entries.ensures c.halve-entry.ensures in
    let p = part b x c.args.n c.entries.result h c.entries.ensures c.halve-entry.ensures c.min-to.result (10 * c.min-to.result - 10 * (64 * h.entry)) (10 * (64 * h.entry)) to refl refl in
    let n = length_vectors (c.min-to.result - 64 * h.entry) (drop (10 * (64 * h.entry)) b) in
    let l = ap (λ (vs : List (List ℕ)). length vs) p in
    one_there b x c.args.n c.entries.result h c.entries.ensures c.halve-entry.ensures c.saturating_sub-left.result (c.min-to.result - 64 * h.entry) c.in-Some.i
    (c.saturating_sub-left.ensures ∙ ap (λ (m : ℕ). c.args.n - m) e) (omega arith) (sym c.in-Some.ensures.1 ∙ ap (before_nth c.saturating_sub-left.result) p)
    (omega (arith, c.in-Some.ensures.0))

pub returns-in-None : goal.returns-in-None
returns-in-None c =
    let b = c.args.bytes.now in
    let x = c.args.index.now in
    let h = c.halve-entry.result in
    let to : c.min-to.result ≡ min (64 * h.entry + 64) (length b / 10) = search rules in
    let e = errors_read x h.entry c.load_half.result c.load_half.ensures.0 in
    let i = inside b x c.args.n c.entries.result h c.entries.ensures c.halve-entry.ensures in
    let p = part b x c.args.n c.entries.result h c.entries.ensures c.halve-entry.ensures c.min-to.result (10 * c.min-to.result - 10 * (64 * h.entry)) (10 * (64 * h.entry)) to refl refl in
    let n = length_vectors (c.min-to.result - 64 * h.entry) (drop (10 * (64 * h.entry)) b) in
    let l = ap (λ (vs : List (List ℕ)). length vs) p in
    none_there b x c.args.n c.entries.result h c.entries.ensures c.halve-entry.ensures c.saturating_sub-left.result (c.min-to.result - 64 * h.entry) (c.min-to.result - 64 * h.entry)
    (c.saturating_sub-left.ensures ∙ ap (λ (m : ℕ). c.args.n - m) e) (omega arith) (sym (sym (ap (before_nth c.saturating_sub-left.result) p) ∙ c.in-None.ensures ∙ l ∙ n)) (omega arith)
