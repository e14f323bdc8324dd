-- `bad_states::over_summary` meets its contract: what `any` answers of a list is its tests, one after the other. Assumes nothing.
use Rattle.std.proofs.Common.{ℕ, List, [], ◌∷◌, ltb, rules, tests}
use Rattle.std.proofs.lemmas.Iterator.{YieldsList-from_slice}
use Rattle.std.proofs.lemmas.Iterator.Search.{any_from_yields_List}
use Rattle.bad_states.proofs.over_summary.Goals as goal

pub returns : goal.returns
returns c =
    let a = c.args.s.counts in
    let h = c.args.s.handed in
    let counts : List ℕ = a.tested ∷ a.slips ∷ c.args.s.vectors ∷ a.headers ∷ a.types ∷ a.codes ∷ a.sets ∷ h.begun ∷ h.replaced ∷ [] in
    any_from_yields_List (ltb 100000) _ _ _ c.any.ensures.ran (YieldsList-from_slice counts cc) (λ x b q k. search (rules, tests))
