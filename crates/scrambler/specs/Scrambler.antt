-- The scrambler 1 + x^39 + x^58 of Clause 49 (document 01, "Scrambler": "Only payload bits.").
-- A history is the last 58 payload bits on the line as a number, in line order: the oldest at bit 0.
use Rattle.std.specs.Prelude.{List, [], ◌∷◌, ℕ, ◌-◌}
use Rattle.bits.specs.Bits.{bit, number}
use Rattle.register.specs.Register.{sent, history, got, pushes}

-- "Sent bit n = input bit n xor sent bit n-39 xor sent bit n-58":
-- payload p as it is sent after history h
unfoldable pub scrambled : ℕ → ℕ → ℕ
scrambled p h = number 64 (sent 57 39 (bit p) h)

-- the history after that payload
unfoldable pub history_after : ℕ → ℕ → ℕ
history_after p h = history 57 39 (bit p) h 64

-- "received input bit n = line bit n xor line bits n-39 and n-58":
-- the payload that the 64 line bits w give after history h
unfoldable pub descrambled : ℕ → ℕ → ℕ
descrambled w h = number 64 (got 57 39 (bit w) h)

-- the history after those line bits
unfoldable pub line_after : ℕ → ℕ → ℕ
line_after w h = pushes 57 (bit w) h 64

-- "Bit i of the 58-bit start state stands for the payload bit i+1 places before the first.":
-- a state as a history, and a history as a state
unfoldable pub mirror : ℕ → ℕ
mirror s = number 58 (λ j. bit s (57 - j))

-- what is received, payload after payload
unfoldable pub descrambled_all : List ℕ → ℕ → List ℕ
descrambled_all [] h = []
descrambled_all (w ∷ ws) h = descrambled w h ∷ descrambled_all ws (line_after w h)
