-- "Any two answers satisfying it coincide": each promise of this crate has one answer.
use Prim.Native.Nat.{ℕ, ◌<◌}
use mathlib.Core.Path.{◌≡◌, refl, sym, ap, ◌∙◌}
use mathlib.Core.Bool.{Bool}
use mathlib.Core.List.{List}
use native.Mathlib.Omega.{arith}
use Rattle.std.specs.Prelude.{Option, Some, None, Result, Ok, Err}
use Rattle.refusals.specs.Number.{number_of}
use Rattle.refusals.specs.declared.Refusal.{Refusal}
use Rattle.refusals.specs.declared.Refused.{Refused}
use Rattle.refusals.proofs.Unique.{refused_injective}
use Rattle.records.specs.Record.{body_limit, kind_number, kind_of, not_groups, answer_of, Finds, body_of, wanted_of}
use Rattle.records.specs.declared.RecordKind.{RecordKind}
use Rattle.records.specs.declared.RecordKind.TheVariants.{Vectors, Line}
use Rattle.records.specs.declared.Record.{Record}

pub kind_injective : (a b : RecordKind) → kind_number a ≡ kind_number b → a ≡ b
kind_injective Vectors Vectors e = refl
kind_injective Vectors Line e = absurd (omega (arith, e))
kind_injective Line Vectors e = absurd (omega (arith, e))
kind_injective Line Line e = refl

pub record_injective : (a b : Record) → kind_number a.kind ≡ kind_number b.kind → a.start ≡ b.start → a.len ≡ b.len → a.next ≡ b.next → a ≡ b
record_injective a b k s l n = let e = kind_injective a.kind b.kind k in λ i. record { kind = e i; start = s i; len = l i; next = n i }

-- The document's number and values tell the answer.
pub answer_injective : (a b : Result (Option Record) Refused) → answer_of a ≡ answer_of b → a ≡ b
answer_injective (Ok (Some r)) (Ok (Some r')) e =
    let k : kind_number r.kind ≡ kind_number r'.kind = cc in
    let s : r.start ≡ r'.start = cc in
    let l : r.len ≡ r'.len = cc in
    let n : r.next ≡ r'.next = cc in
    ap (λ (x : Record). Ok (Some x)) (record_injective r r' k s l n)
answer_injective (Ok (Some r)) (Ok None) e = cc
answer_injective (Ok (Some r)) (Err r') e = cc
answer_injective (Ok None) (Ok (Some r)) e = cc
answer_injective (Ok None) (Ok None) e = refl
answer_injective (Ok None) (Err r) e = cc
answer_injective (Err r) (Ok (Some r')) e = cc
answer_injective (Err r) (Ok None) e = cc
answer_injective (Err r) (Err r') e =
    let n : number_of r.0 ≡ number_of r'.0 = cc in
    let p : r.1 ≡ r'.1 = cc in
    ap Err (refused_injective r r' n p)

pub number_unique : (kind : RecordKind) (a b : ℕ) → (a ≡ kind_number kind) × (a < 65536) → (b ≡ kind_number kind) × (b < 65536) → a ≡ b
number_unique kind a b p q = p.0 ∙ sym q.0

pub try_from_unique : (number : ℕ) (a b : Result RecordKind Refusal) → a ≡ kind_of number → b ≡ kind_of number → a ≡ b
try_from_unique number a b p q = p ∙ sym q

pub not_groups_unique : (kind len : ℕ) (a b : Bool) → a ≡ not_groups kind len → b ≡ not_groups kind len → a ≡ b
not_groups_unique kind len a b p q = p ∙ sym q

pub read_unique : (s : List ℕ) (at : ℕ) (a b : Result (Option Record) Refused) → Finds s at a → Finds s at b → a ≡ b
read_unique s at a b p q = answer_injective a b (p ∙ sym q)

pub wanted_unique : (head : List ℕ) (a b : ℕ) → a ≡ wanted_of body_limit head → b ≡ wanted_of body_limit head → a ≡ b
wanted_unique head a b p q = p ∙ sym q

pub body_unique : (s : List ℕ) (start len : ℕ) (a b : List ℕ) → a ≡ body_of s start len → b ≡ body_of s start len → a ≡ b
body_unique s start len a b p q = p ∙ sym q
