-- Any two answers that meet a public function's promise are equal.
use mathlib.Core.Path.{◌≡◌, sym, ap, ◌∙◌}
use Rattle.receiving.specs.declared.Progress.{Progress}
use Rattle.lock_steps.specs.InLock.{ran_of}
use Rattle.lock_steps.specs.declared.Run.{Run}

pub starting_unique : (p : Progress) (r r' : Run) → (ran_of p r ≡ p) × (r.count ≡ 0) → (ran_of p r' ≡ p) × (r'.count ≡ 0) → r ≡ r'
starting_unique p r r' e e' =
    let same : ran_of p r ≡ ran_of p r' = e.0 ∙ sym e'.0 in
    λ i. record {
      at = ap (λ (q : Progress). q.at) same i;
      count = (e.1 ∙ sym e'.1) i;
      history = ap (λ (q : Progress). q.receiver.link.history) same i;
      state = ap (λ (q : Progress). q.receiver.state) same i;
      class = ap (λ (q : Progress). q.receiver.held.class) same i;
      vector = ap (λ (q : Progress). q.receiver.held.vector) same i;
      handed = ap (λ (q : Progress). q.handed) same i;
    }

pub ran_unique : (p : Progress) (s : Run) (r r' : Progress) → r ≡ ran_of p s → r' ≡ ran_of p s → r ≡ r'
ran_unique p s r r' e e' = e ∙ sym e'
