-- The octet of a character of a format: the bits of its field, read by its slot.
use mathlib.Core.Path.{◌≡◌, refl, ◌∙◌, ap}
use Prim.Native.Nat.{ℕ, ◌/◌, ◌%◌, ◌^◌, ◌<◌}
use lib.Dec.{T}
use Rattle.block.specs.declared.Edition.{Edition}
use Rattle.block.specs.Block.{Slot, Control, Calm, Data, Set, Start, Terminate, Format, octet_of, octet_at}
use Rattle.block.specs.Rows.{width, field_at}
use Rattle.bits.proofs.Tests.{all}
use Rattle.block.proofs.Formats.{blind, sound, sound_width}
use Rattle.block.proofs.Reading.{place_of, read_at_lem}

module _ (ed : Edition) where
  -- a slot that looks at its bits has a field of its width, inside the payload
  seen : (s : Slot) (a w x : ℕ) → ((T (blind s) → ⊥) → w ≡ width s) → octet_of ed s (x / 2 ^ a % 2 ^ w) ≡ octet_of ed s (x / 2 ^ a % 2 ^ width s)
  seen Control a w x e = ap (λ (n : ℕ). octet_of ed Control (x / 2 ^ a % 2 ^ n)) (e (λ z. z))
  seen Calm a w x e = ap (λ (n : ℕ). octet_of ed Calm (x / 2 ^ a % 2 ^ n)) (e (λ z. z))
  seen Data a w x e = ap (λ (n : ℕ). octet_of ed Data (x / 2 ^ a % 2 ^ n)) (e (λ z. z))
  seen Set a w x e = ap (λ (n : ℕ). octet_of ed Set (x / 2 ^ a % 2 ^ n)) (e (λ z. z))
  seen Start a w x e = refl
  seen Terminate a w x e = refl

  -- a character of a format by the bits of its slot
  pub by_slot : (f : Format) (x p : ℕ) → T (all (sound f)) → p < 8
      → octet_at ed f.fields (x / 2 ^ f.lead) p ≡ octet_of ed (field_at f.fields p).slot (x / 2 ^ place_of f p % 2 ^ width (field_at f.fields p).slot)
  by_slot f x p q l = read_at_lem ed f x p q l ∙ seen (field_at f.fields p).slot (place_of f p) (field_at f.fields p).bits x (sound_width f q p l)
