-- Document 02, 1/13, on the definitions: the marked blocks (f) to (k) of document 01 with their reasons, and blocks that are bad in several
-- ways, one table and a single statement.
use Rattle.std.specs.Prelude.{refl, List, [], ◌∷◌}
use Rattle.block.specs.declared.Edition.{Edition}
use Rattle.block.specs.declared.Edition.TheVariants.{Old, New}
use Rattle.block.specs.declared.Reason.TheVariants.{Header, BlockType, ControlCode, SetCode}
use Rattle.block.specs.declared.Class.TheVariants as Class
use Rattle.block.specs.Block.{class_of, kind_for}
use Rattle.marked_examples.specs.Example.{payload, Example, says, AllHold}

reasons : List Example
reasons =
    -- (f) control type 00
    says 1 (0x00 ∷ []) (Class.Bad BlockType)
    -- (g) type 4b, O code 1, idles
    ∷ says 1 (0x4b ∷ 0 ∷ 0 ∷ 0 ∷ 0x01 ∷ []) (Class.Bad SetCode)
    -- (h) the same with O code f
    ∷ says 1 (0x4b ∷ 0 ∷ 0 ∷ 0 ∷ 0x0f ∷ []) Class.C
    -- (i) type 1e with one code 1e
    ∷ says 1 (0x1e ∷ 0x1e ∷ []) (Class.Bad ControlCode)
    -- (j) type 4b, O code 0, one code 1e
    ∷ says 1 (0x4b ∷ 0 ∷ 0 ∷ 0 ∷ 0xe0 ∷ 0x01 ∷ []) Class.C
    -- (k) header 11
    ∷ says 3 (0x1e ∷ []) (Class.Bad Header)
    -- header 11 and type 00: the header comes first
    ∷ says 3 (0x00 ∷ []) (Class.Bad Header)
    -- type 4b, O code 1 and then a control code 01: the control code comes first
    ∷ says 1 (0x4b ∷ 0 ∷ 0 ∷ 0 ∷ 0x11 ∷ []) (Class.Bad ControlCode)
    -- type 2d, a control code 01 and then O code 1: the same
    ∷ says 1 (0x2d ∷ 0x01 ∷ 0 ∷ 0 ∷ 0x10 ∷ []) (Class.Bad ControlCode)
    -- type 55, both O codes 1
    ∷ says 1 (0x55 ∷ 0 ∷ 0 ∷ 0 ∷ 0x11 ∷ []) (Class.Bad SetCode)
    -- any eight octets in a data block
    ∷ says 2 (0x00 ∷ 0x01 ∷ []) Class.D
    ∷ []

-- they hold in both editions
reasons_hold : (ed : Edition) → AllHold ed reasons
unfolding reasons payload class_of kind_for
reasons_hold Old = (refl, (refl, (refl, (refl, (refl, (refl, (refl, (refl, (refl, (refl, (refl, tt)))))))))))
reasons_hold New = (refl, (refl, (refl, (refl, (refl, (refl, (refl, (refl, (refl, (refl, (refl, tt)))))))))))
