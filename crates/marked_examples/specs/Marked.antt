-- The marked examples (a) to (l) of document 01: "One table and a single statement over it, on the definitions".
use Rattle.std.specs.Prelude.{refl, List, [], ◌∷◌, ◌+◌, ◌^◌}
use Rattle.bits.specs.Bits.{bit, number}
use Rattle.register.specs.Register.{mix, push, history, sent}
use Rattle.scrambler.specs.Scrambler.{scrambled, mirror}
use Rattle.refusals.specs.First.{first}
use Rattle.block.specs.declared.Edition.{Edition}
use Rattle.block.specs.declared.Edition.TheVariants.{Old, New}
use Rattle.block.specs.declared.Kind.TheVariants.{C, S, T, E}
use Rattle.block.specs.Block.{encode_answer, carrier, kind_for, kind_of, local_fault_vector}
use Rattle.control_bytes.specs.Control.{high_from, high_control}
use Rattle.marked_examples.specs.Example.{payload, Example, encodes, classifies, scrambles, AllHold}

marked : List Example
marked =
    -- (a) eight idles
    encodes (0x0f ∷ 7 ∷ 7 ∷ 7 ∷ 7 ∷ 0x0f ∷ 7 ∷ 7 ∷ 7 ∷ 7 ∷ []) C (0x1e ∷ 0 ∷ 0 ∷ 0 ∷ 0 ∷ 0 ∷ 0 ∷ 0 ∷ [])
    -- (b) the Local Fault vector
    ∷ encodes local_fault_vector C (0x55 ∷ 0 ∷ 0 ∷ 1 ∷ 0 ∷ 0 ∷ 0 ∷ 1 ∷ [])
    -- (c) fb with data 55 x6, d5
    ∷ encodes (0x01 ∷ 0xfb ∷ 0x55 ∷ 0x55 ∷ 0x55 ∷ 0 ∷ 0x55 ∷ 0x55 ∷ 0x55 ∷ 0xd5 ∷ []) S (0x78 ∷ 0x55 ∷ 0x55 ∷ 0x55 ∷ 0x55 ∷ 0x55 ∷ 0x55 ∷ 0xd5 ∷ [])
    -- (d) Terminate and seven idles
    ∷ encodes (0x0f ∷ 0xfd ∷ 7 ∷ 7 ∷ 7 ∷ 0x0f ∷ 7 ∷ 7 ∷ 7 ∷ 7 ∷ []) T (0x87 ∷ 0 ∷ 0 ∷ 0 ∷ 0 ∷ 0 ∷ 0 ∷ 0 ∷ [])
    -- (e) data 01..07 and Terminate
    ∷ encodes (0 ∷ 1 ∷ 2 ∷ 3 ∷ 4 ∷ 0x08 ∷ 5 ∷ 6 ∷ 7 ∷ 0xfd ∷ []) T (0xff ∷ 1 ∷ 2 ∷ 3 ∷ 4 ∷ 5 ∷ 6 ∷ 7 ∷ [])
    -- (f) control type 00
    ∷ classifies 1 (0x00 ∷ []) E
    -- (g) type 4b, O code 1, idles
    ∷ classifies 1 (0x4b ∷ 0 ∷ 0 ∷ 0 ∷ 0x01 ∷ []) E
    -- (h) the same with O code f
    ∷ classifies 1 (0x4b ∷ 0 ∷ 0 ∷ 0 ∷ 0x0f ∷ []) C
    -- (i) type 1e with one code 1e
    ∷ classifies 1 (0x1e ∷ 0x1e ∷ []) E
    -- (j) type 4b, O code 0, one code 1e: C4, the seven bits after the O code
    ∷ classifies 1 (0x4b ∷ 0 ∷ 0 ∷ 0 ∷ 0xe0 ∷ 0x01 ∷ []) C
    -- (k) header 11
    ∷ classifies 3 (0x1e ∷ []) E
    -- (l) payload 1 scrambled from state 0
    ∷ scrambles 0 1 (2 ^ 0 + 2 ^ 39 + 2 ^ 58)
    ∷ []

-- they hold in both editions
marked_hold : (ed : Edition) → AllHold ed marked
unfolding marked payload first encode_answer high_control high_from carrier kind_for kind_of bit number mix push history sent scrambled mirror
marked_hold Old = (refl, (refl, (refl, (refl, (refl, (refl, (refl, (refl, (refl, (refl, (refl, (refl, tt))))))))))))
marked_hold New = (refl, (refl, (refl, (refl, (refl, (refl, (refl, (refl, (refl, (refl, (refl, (refl, tt))))))))))))
