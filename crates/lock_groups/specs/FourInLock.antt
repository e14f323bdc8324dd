-- A reviewer can skip this file. Four blocks in lock: what they do, in the words of Loop.
use Rattle.std.specs.Prelude.{◌≡◌, List, ℕ, ◌+◌, ◌/◌, ◌%◌, ◌<◌}
use Rattle.scrambler.specs.Scrambler.{descrambled, line_after}
use Rattle.blocks.specs.Blocks.{header_at, payload_at}
use Rattle.blocks.specs.declared.Four.{Four}
use Rattle.receiving.specs.Loop.{Turns}
use Rattle.receiving.specs.declared.Progress.{Progress}
use Rattle.lock_steps.specs.InLock.{InLock}

-- four of them
pub record StepsFour (line room room' : List ℕ) (p p' : Progress) : Type 0 where
  pub turns : Turns line room room' p p'
  pub lock : InLock p'
  pub pos : p'.pos ≡ p.pos + 264

-- four payloads, one after the other, each descrambled to eight idles
pub record AllIdle (h : ℕ) (f : Four) : Type 0 where
  pub a : descrambled f.a h ≡ 0x1e
  pub b : descrambled f.b (line_after f.a h) ≡ 0x1e
  pub c : descrambled f.c (line_after f.b (line_after f.a h)) ≡ 0x1e
  pub d : descrambled f.d (line_after f.c (line_after f.b (line_after f.a h))) ≡ 0x1e

-- n of four blocks, the first of them at bit pos
pub record Ahead (line : List ℕ) (pos n : ℕ) (f : Four) : Type 0 where
  pub a : 0 < n → (f.headers % 4 ≡ header_at line pos) × (f.a ≡ payload_at line pos)
  pub b : 1 < n → (f.headers / 4 % 4 ≡ header_at line (pos + 66)) × (f.b ≡ payload_at line (pos + 66))
  pub c : 2 < n → (f.headers / 16 % 4 ≡ header_at line (pos + 132)) × (f.c ≡ payload_at line (pos + 132))
  pub d : 3 < n → (f.headers / 64 % 4 ≡ header_at line (pos + 198)) × (f.d ≡ payload_at line (pos + 198))
