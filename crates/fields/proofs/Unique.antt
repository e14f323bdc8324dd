-- Any two answers that meet a public function's promise are equal.
use mathlib.Core.Path.{◌≡◌, refl, ◌∙◌, ap, sym}
use Prim.Native.Nat.{ℕ, ◌*◌, ◌^◌, ◌<◌}
use native.Mathlib.Omega.{arith}
use Rattle.std.specs.Prelude.{Option, Some, None, IfSome}
use Rattle.std.specs.Option.{unwrap_or}
use Rattle.block.specs.declared.Edition.{Edition}
use Rattle.block.specs.Rows.{row}
use Rattle.fields.specs.Parts.{place_of_field, fields_by, places_by, first_by, next_by, code_as, field_code}

pub type_of_unique : (r z z' : ℕ) → z ≡ (row r).type → z' ≡ (row r).type → z ≡ z'
type_of_unique r z z' p q = p ∙ sym q

pub fields_of_unique : (r z z' : ℕ) → z ≡ fields_by r → z' ≡ fields_by r → z ≡ z'
fields_of_unique r z z' p q = p ∙ sym q

pub places_of_unique : (r z z' : ℕ) → z ≡ places_by r → z' ≡ places_by r → z ≡ z'
places_of_unique r z z' p q = p ∙ sym q

-- a row, or none, by its number
row_same : (n : ℕ) (z z' : Option ℕ) → unwrap_or z 16 ≡ n → IfSome z (λ r. r < 16) → unwrap_or z' 16 ≡ n → IfSome z' (λ r. r < 16) → z ≡ z'
row_same n None None p a q b = refl
row_same n None (Some r) p a q b = absurd (omega arith)
row_same n (Some r) None p a q b = absurd (omega arith)
row_same n (Some r) (Some r') p a q b = ap Some (p ∙ sym q)

pub first_row_unique : (m : ℕ) (z z' : Option ℕ) → unwrap_or z 16 ≡ first_by m → IfSome z (λ r. r < 16) → unwrap_or z' 16 ≡ first_by m → IfSome z' (λ r. r < 16) → z ≡ z'
first_row_unique m = row_same (first_by m)

pub next_row_unique : (r : ℕ) (z z' : Option ℕ) → unwrap_or z 16 ≡ next_by r → IfSome z (λ n. n < 16) → unwrap_or z' 16 ≡ next_by r → IfSome z' (λ n. n < 16) → z ≡ z'
next_row_unique r = row_same (next_by r)

pub field_code_unique : (ed : Edition) (r i lanes : ℕ) (z z' : Option ℕ) → z ≡ code_as (field_code ed r i lanes) → z' ≡ code_as (field_code ed r i lanes) → z ≡ z'
field_code_unique ed r i lanes z z' p q = p ∙ sym q

pub placed_unique : (r i code z z' : ℕ) → z ≡ 2 ^ place_of_field r i * code → z' ≡ 2 ^ place_of_field r i * code → z ≡ z'
placed_unique r i code z z' p q = p ∙ sym q
