-- Bits of a number, as numbers 0 and 1, lowest first. The exclusive or of bits is their sum modulo 2.
use Rattle.std.specs.Prelude.{ℕ, zero, suc, ◌+◌, ◌*◌, ◌/◌, ◌%◌, ◌^◌, List, [], ◌∷◌, length, get_or}

-- bit i of n
unfoldable pub bit : ℕ → ℕ → ℕ
bit n i = n / 2 ^ i % 2

-- the number whose bits below k are f 0, .., f (k - 1)
unfoldable pub number : ℕ → (ℕ → ℕ) → ℕ
number zero f = 0
number (suc k) f = number k f + f k * 2 ^ k

-- f 0 + .. + f (n - 1)
unfoldable pub total : (ℕ → ℕ) → ℕ → ℕ
total f zero = 0
total f (suc n) = total f n + f n

-- numbers of w bits as one stream of bits: bit n is bit n mod w of number n / w
unfoldable pub stream_bit : ℕ → List ℕ → ℕ → ℕ
stream_bit w xs n = bit (get_or xs (n / w) 0) (n % w)

-- a stream of bits cut into k numbers of w bits
unfoldable pub cut : ℕ → (ℕ → ℕ) → ℕ → List ℕ
cut w f zero = []
cut w f (suc k) = number w f ∷ cut w (λ i. f (w + i)) k

-- the first k bits of a stream, as a list
unfoldable pub listed : ℕ → (ℕ → ℕ) → List ℕ
listed zero f = []
listed (suc k) f = f 0 ∷ listed k (λ i. f (suc i))

-- "Line bit n is bit n mod 8, least significant first, of line byte n/8."
unfoldable pub line_bit : List ℕ → ℕ → ℕ
line_bit line n = stream_bit 8 line n

-- all bits of a line
unfoldable pub line_bits : List ℕ → List ℕ
line_bits line = listed (8 * length line) (line_bit line)
