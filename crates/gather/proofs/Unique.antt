-- Each promise of this crate has one answer, and one content of the store.
use Prim.Native.Nat.{ℕ}
use mathlib.Core.Path.{◌≡◌, refl, sym, ◌∙◌}
use mathlib.Core.List.{List}
use lib.ListN.{length, take}
use Rattle.refusals.specs.Number.{number_of}
use Rattle.refusals.proofs.Laws.{number_injective}
use Rattle.records.specs.Record.{body_limit}
use Rattle.gather.specs.Gather.{more, next_read, read_of, turn_of, Shows}
use Rattle.gather.specs.declared.Step.{Step}
use Rattle.gather.specs.declared.Step.TheVariants as Case
use Rattle.gather.specs.declared.Stop.{Stop}
use Rattle.gather.specs.declared.Stop.TheVariants as Why
use Rattle.std.specs.Prelude.{Result, Ok, Err}

pub turn_injective : (a b : Result Step Stop) → turn_of a ≡ turn_of b → a ≡ b
turn_injective (Ok (Case.More n)) (Ok (Case.More m)) e = cc
turn_injective (Ok (Case.More n)) (Ok (Case.Done m)) e = cc
turn_injective (Ok (Case.More n)) (Err (Why.Refused w)) e = cc
turn_injective (Ok (Case.More n)) (Err Why.Failed) e = cc
turn_injective (Ok (Case.Done n)) (Ok (Case.More m)) e = cc
turn_injective (Ok (Case.Done n)) (Ok (Case.Done m)) e = cc
turn_injective (Ok (Case.Done n)) (Err (Why.Refused w)) e = cc
turn_injective (Ok (Case.Done n)) (Err Why.Failed) e = cc
turn_injective (Err (Why.Refused w)) (Ok (Case.More m)) e = cc
turn_injective (Err (Why.Refused w)) (Ok (Case.Done m)) e = cc
turn_injective (Err (Why.Refused w)) (Err (Why.Refused w')) e =
    let n : number_of w ≡ number_of w' = cc in
    let u = number_injective w w' n in
    cc
turn_injective (Err (Why.Refused w)) (Err Why.Failed) e = cc
turn_injective (Err Why.Failed) (Ok (Case.More m)) e = cc
turn_injective (Err Why.Failed) (Ok (Case.Done m)) e = cc
turn_injective (Err Why.Failed) (Err (Why.Refused w)) e = cc
turn_injective (Err Why.Failed) (Err Why.Failed) e = refl

module _ {E : Type 0} (kind used : ℕ) (read : Result ℕ E) (buffer store : List ℕ) where
  abbrev Judged : Result Step Stop → List ℕ → Type 0
  Judged a exit = Shows (next_read body_limit kind (length store) (read_of read buffer) (more (take used store))) store a exit

  pub judge_unique : (a b : Result Step Stop) (exit exit' : List ℕ) → Judged a exit → Judged b exit' → (a ≡ b) × (exit ≡ exit')
  judge_unique a b exit exit' p q = (turn_injective a b (p.0 ∙ sym q.0), p.1 ∙ sym q.1)
