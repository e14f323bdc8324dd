-- Document 02, 9/13, on the definitions: blocks with code 06 in the newer edition, and in the old one, where each is a control code fault.
use Rattle.std.specs.Prelude.{◌≡◌, refl, List, [], ◌∷◌, map, ℕ}
use Rattle.block.specs.declared.Edition.TheVariants.{Old, New}
use Rattle.block.specs.declared.Kind.TheVariants.{LI}
use Rattle.block.specs.declared.Reason.TheVariants.{ControlCode}
use Rattle.block.specs.declared.Class.{Class}
use Rattle.block.specs.declared.Class.TheVariants as Class
use Rattle.block.specs.Block.{block, none, carrier, kind_for, class_of, low_power_vector}
use Rattle.marked_examples.specs.Example.{payload, says, AllHold}

-- type 1e with eight codes 06
abbrev low_power_block : List ℕ
low_power_block = 0x1e ∷ 0x06 ∷ 0x83 ∷ 0xc1 ∷ 0x60 ∷ 0x30 ∷ 0x18 ∷ 0x0c ∷ []

-- the bytes of each, and its class in the newer edition
newer : List (List ℕ × Class)
newer =
    -- eight codes 06
    (low_power_block, Class.LI)
    -- a code 06 and seven idles
    ∷ (0x1e ∷ 0x06 ∷ [], Class.C)
    -- seven codes 06 and an idle
    ∷ (0x1e ∷ 0x06 ∷ 0x83 ∷ 0xc1 ∷ 0x60 ∷ 0x30 ∷ 0x18 ∷ [], Class.C)
    -- a code 06 and a code 1e
    ∷ (0x1e ∷ 0x06 ∷ 0x0f ∷ [], Class.Bad ControlCode)
    -- type 4b, O code 0, four codes 06
    ∷ (0x4b ∷ 0 ∷ 0 ∷ 0 ∷ 0x60 ∷ 0x30 ∷ 0x18 ∷ 0x0c ∷ [], Class.C)
    -- type 33, four codes 06
    ∷ (0x33 ∷ 0x06 ∷ 0x83 ∷ 0xc1 ∷ [], Class.S)
    -- type 87, seven codes 06
    ∷ (0x87 ∷ 0 ∷ 0x83 ∷ 0xc1 ∷ 0x60 ∷ 0x30 ∷ 0x18 ∷ 0x0c ∷ [], Class.T)
    ∷ []

-- so they are in the newer edition
in_the_newer : AllHold New (map (λ (b : List ℕ × Class). says 1 b.0 b.1) newer)
unfolding newer payload class_of kind_for
in_the_newer = (refl, (refl, (refl, (refl, (refl, (refl, (refl, tt)))))))

-- in the old edition each of them is bad by a control code
in_the_old : AllHold Old (map (λ (b : List ℕ × Class). says 1 b.0 (Class.Bad ControlCode)) newer)
unfolding newer payload class_of kind_for
in_the_old = (refl, (refl, (refl, (refl, (refl, (refl, (refl, tt)))))))

-- and the vector to be sent
low_power_sent : (carrier New low_power_vector ≡ block LI 1 (payload low_power_block)) × (carrier Old low_power_vector ≡ none)
unfolding carrier kind_for payload
low_power_sent = (refl, refl)
