-- The ten bytes of a vector, as they are read. Assumes nothing.
use Prim.Native.Nat.{ℕ, ◌+◌, ◌≤◌, ◌<◌}
use mathlib.Core.Path.{◌≡◌, ◌∙◌}
use mathlib.Core.List.{List}
use native.Mathlib.Omega.{arith}
use lib.ListN.{length, get_or, take, drop, length-drop, get_or-eq_default}
use lib.Seq.{length-take-le, get_or-take, get_or-drop}
use Rattle.bits.proofs.Laws.{by_lt}
use Rattle.block.specs.Block.{two_words}
use Rattle.encoding.specs.Parts.{lanes_at}
use Rattle.encoding.proofs.Answers.{read_words}

pub vector_read : (bytes : List ℕ) (at d0 d1 : ℕ) → ((n : ℕ) → get_or bytes n 0 < 256) → at + 10 ≤ length bytes
    → d0 ≡ lanes_at bytes (at + 1) → d1 ≡ lanes_at bytes (at + 6)
    → two_words (get_or bytes at 0) d0 (get_or bytes (at + 5) 0) d1 ≡ take 10 (drop at bytes)
vector_read bytes at d0 d1 b l e f =
    let v = take 10 (drop at bytes) in
    let n : length v ≡ 10 = length-take-le 10 (drop at bytes) (omega (arith, length-drop at bytes)) in
    let there : (i : ℕ) → i < 10 → get_or v i 0 ≡ get_or bytes (at + i) 0 = λ i m. get_or-take 10 (drop at bytes) i 0 m ∙ get_or-drop at bytes i 0 in
    let small : (i : ℕ) → get_or v i 0 < 256 =
    λ i. by_lt i 10 (λ m. omega (arith, there i m, b (at + i))) (λ m. omega (arith, get_or-eq_default v 0 {n = i} (omega arith))) in
    let r : two_words (get_or v 0 0) (lanes_at v 1) (get_or v 5 0) (lanes_at v 6) ≡ v = read_words v n small in
    let g0 : get_or v 0 0 ≡ get_or bytes (at + 0) 0 = there 0 (omega arith) in
    let g1 : get_or v 1 0 ≡ get_or bytes (at + 1) 0 = there 1 (omega arith) in
    let g2 : get_or v 2 0 ≡ get_or bytes (at + 2) 0 = there 2 (omega arith) in
    let g3 : get_or v 3 0 ≡ get_or bytes (at + 3) 0 = there 3 (omega arith) in
    let g4 : get_or v 4 0 ≡ get_or bytes (at + 4) 0 = there 4 (omega arith) in
    let g5 : get_or v 5 0 ≡ get_or bytes (at + 5) 0 = there 5 (omega arith) in
    let g6 : get_or v 6 0 ≡ get_or bytes (at + 6) 0 = there 6 (omega arith) in
    let g7 : get_or v 7 0 ≡ get_or bytes (at + 7) 0 = there 7 (omega arith) in
    let g8 : get_or v 8 0 ≡ get_or bytes (at + 8) 0 = there 8 (omega arith) in
    let g9 : get_or v 9 0 ≡ get_or bytes (at + 9) 0 = there 9 (omega arith) in
    let z : at + 0 ≡ at = omega arith in
    let i1 : at + 1 + 1 ≡ at + 2 = omega arith in
    let i2 : at + 1 + 2 ≡ at + 3 = omega arith in
    let i3 : at + 1 + 3 ≡ at + 4 = omega arith in
    let j1 : at + 6 + 1 ≡ at + 7 = omega arith in
    let j2 : at + 6 + 2 ≡ at + 8 = omega arith in
    let j3 : at + 6 + 3 ≡ at + 9 = omega arith in
    cc
