-- Laws of a character that was received: it is valid, or says that its control code, or that its ordered set code, is not. Assumes nothing.
use mathlib.Core.Path.{◌≡◌, refl, subst, sym}
use mathlib.Core.Bool.{Bool, true, false, cond}
use mathlib.Core.Logic.{◌⊎◌, inl, inr}
use mathlib.Core.List.{List, [], ◌∷◌}
use Prim.Native.Nat.{ℕ, ◌/◌, ◌%◌, ◌^◌, ◌<◌}
use native.Mathlib.Nat.{mod-lt, lt_of_lt_of_le}
use lib.Dec.{T, lit<, lit≤, eqb, ltb, ltb→lt}
use lib.Pow.{pow_mono, pow_pos}
use Rattle.block.specs.declared.Edition.{Edition}
use Rattle.block.specs.declared.Edition.TheVariants.{Old, New}
use Rattle.block.specs.Block.{controls_in, sets, without, octet_in, Slot, Control, Calm, Data, Set, Start, Terminate, Format, octet_of, octet_at, flags_at, vector_of}
use Rattle.block.specs.Rows.{field_at}
use Rattle.bits.proofs.Tests.{both_left, both_right, all, every}
use Rattle.block.proofs.Formats.{flags_lt, sound, sound_small}
use Rattle.block.proofs.Reading.{place_of, read_at_lem}

-- below 256 it is valid, 256 says a control code, 512 an ordered set code
abbrev pub Tells : ℕ → Type 0
Tells n = (n < 256) ⊎ (n ≡ 256) ⊎ (n ≡ 512)

-- the octet of a code is in the table, or it is missing
octet_in_lem : (missing : ℕ) (ps : List (ℕ × ℕ)) (v : ℕ) → T (every (λ p. ltb p.0 256) ps)
    → (octet_in missing ps v < 256) ⊎ (octet_in missing ps v ≡ missing)
octet_in_lem missing [] v t = inr refl
octet_in_lem missing (p ∷ ps) v t = go (eqb p.1 v) (octet_in_lem missing ps v (both_right (ltb p.0 256) (every (λ p. ltb p.0 256) ps) t))
  where
    go : (b : Bool) → (octet_in missing ps v < 256) ⊎ (octet_in missing ps v ≡ missing)
        → (cond b p.0 (octet_in missing ps v) < 256) ⊎ (cond b p.0 (octet_in missing ps v) ≡ missing)
    go true ih = inl (ltb→lt p.0 256 (both_left (ltb p.0 256) (every (λ p. ltb p.0 256) ps) t))
    go false ih = ih

control_tells : {n : ℕ} → (n < 256) ⊎ (n ≡ 256) → Tells n
control_tells (inl l) = inl l
control_tells (inr e) = inr (inl e)

set_tells : {n : ℕ} → (n < 256) ⊎ (n ≡ 512) → Tells n
set_tells (inl l) = inl l
set_tells (inr e) = inr (inr e)

controls_bytes : (ed : Edition) → T (every (λ p. ltb p.0 256) (controls_in ed))
controls_bytes Old = tt
controls_bytes New = tt

calm_bytes : (ed : Edition) → T (every (λ p. ltb p.0 256) (without 0x1e (controls_in ed)))
calm_bytes Old = tt
calm_bytes New = tt

-- the ten bytes of a vector
abbrev pub AllTell : List ℕ → Type 0
AllTell [] = Unit
AllTell (a ∷ l) = Tells a × AllTell l

module _ (ed : Edition) where
  octet_tells : (s : Slot) (v : ℕ) → v < 256 → Tells (octet_of ed s v)
  octet_tells Control v l = control_tells (octet_in_lem 256 (controls_in ed) v (controls_bytes ed))
  octet_tells Calm v l = control_tells (octet_in_lem 256 (without 0x1e (controls_in ed)) v (calm_bytes ed))
  octet_tells Data v l = inl l
  octet_tells Set v l = set_tells (octet_in_lem 512 sets v tt)
  octet_tells Start v l = inl (lit< tt)
  octet_tells Terminate v l = inl (lit< tt)

  -- the character p of a sound format
  pub character_tells : (f : Format) → T (all (sound f)) → (x p : ℕ) → p < 8 → Tells (octet_at ed f.fields (x / 2 ^ f.lead) p)
  character_tells f s x p h =
      let w = (field_at f.fields p).bits in
      let v = x / 2 ^ place_of f p % 2 ^ w in
      let small : v < 2 ^ 8 = lt_of_lt_of_le (mod-lt (x / 2 ^ place_of f p) (pow_pos w)) (pow_mono {j = 8} (sound_small f s p h)) in
      subst Tells (sym (read_at_lem ed f x p s h)) (octet_tells (field_at f.fields p).slot v small)

  pub vector_tells : (f : Format) → T (all (sound f)) → (x : ℕ) → AllTell (vector_of ed f x)
  vector_tells f s x =
      (inl (flag 0), (at 0 (lit< tt), (at 1 (lit< tt), (at 2 (lit< tt), (at 3 (lit< tt), (inl (flag 4), (at 4 (lit< tt), (at 5 (lit< tt), (at 6 (lit< tt), (at 7 (lit< tt), tt))))))))))
    where
      at : (p : ℕ) → p < 8 → Tells (octet_at ed f.fields (x / 2 ^ f.lead) p)
      at = character_tells f s x

      flag : (p : ℕ) → flags_at f.fields p < 256
      flag p = lt_of_lt_of_le (flags_lt f.fields p) (lit≤ tt)
