-- Any two answers that meet a public function's promise are equal.
use mathlib.Core.Path.{◌≡◌, refl, ◌∙◌, ap, sym}
use mathlib.Core.List.{List}
use Prim.Native.Nat.{ℕ}
use Rattle.refusals.specs.Number.{number_of}
use Rattle.block.specs.declared.Edition.{Edition}
use Rattle.block.specs.Block.{two_words, carrier, encode_answer}
use Rattle.block.specs.declared.Coded.{Coded}
use Rattle.std.specs.Prelude.{Option, Some, None, Result, Ok, Err}
use Rattle.refusals.specs.declared.Refused.{Refused}
use Rattle.refusals.proofs.Unique.{refused_injective}
use Rattle.block.specs.Coded.{coded_of}
use Rattle.encoding.specs.Answer.{answer_of}
use Rattle.encoding.specs.Parts.{lanes_at}

pub encode_unique : (ed : Edition) (c0 d0 c1 d1 : ℕ) (r r' : Coded)
    → r ≡ coded_of (carrier ed (two_words c0 d0 c1 d1)) → r' ≡ coded_of (carrier ed (two_words c0 d0 c1 d1)) → r ≡ r'
encode_unique ed c0 d0 c1 d1 r r' p q = p ∙ sym q

pub lanes_at_unique : (v : List ℕ) (p r r' : ℕ) → r ≡ lanes_at v p → r' ≡ lanes_at v p → r ≡ r'
lanes_at_unique v p r r' e q = e ∙ sym q

-- an answer is known by what the document says of it
pub answer_same : (z z' : Result (Option Coded) Refused) → answer_of z ≡ answer_of z' → z ≡ z'
answer_same (Err r) (Err r') e =
    let n : number_of r.0 ≡ number_of r'.0 = cc in
    let p : r.1 ≡ r'.1 = cc in
    ap Err (refused_injective r r' n p)
answer_same (Err r) (Ok z) e = cc
answer_same (Ok z) (Err r) e = cc
answer_same (Ok None) (Ok None) e = refl
answer_same (Ok None) (Ok (Some c)) e = cc
answer_same (Ok (Some c)) (Ok None) e = cc
answer_same (Ok (Some c)) (Ok (Some c')) e =
    let k : c.kind ≡ c'.kind = cc in
    let h : c.header ≡ c'.header = cc in
    let x : c.payload ≡ c'.payload = cc in
    λ i. Ok (Some (record { kind = k i; header = h i; payload = x i }))

pub encode_vector_unique : (ed : Edition) (v : List ℕ) (z z' : Result (Option Coded) Refused) → answer_of z ≡ encode_answer ed v → answer_of z' ≡ encode_answer ed v → z ≡ z'
encode_vector_unique ed v z z' p q = answer_same z z' (p ∙ sym q)
