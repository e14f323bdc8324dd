-- What is taken from the line, in each of the four cases. Assumes nothing.
use mathlib.Core.Path.{◌≡◌, refl, sym, ap, ap₂, ◌∙◌, subst}
use mathlib.Core.Bool.{true, false}
use mathlib.Core.List.{List, [], ◌++◌}
use Prim.Native.Nat.{ℕ, ◌+◌, ◌-◌, ◌*◌, ◌^◌, ◌≤◌, ◌<◌}
use native.Mathlib.Nat.{add_assoc}
use native.Mathlib.Omega.{arith}
use lib.ListN.{length, get_or, take, drop}
use Rattle.bits.specs.Bits.{bit, number, listed, line_bit, line_bits}
use Rattle.bits.proofs.Laws.{number_same}
use Rattle.bits.proofs.Lists.{length_listed, listed_at, part_line_bits, length_line_bits}
use Rattle.line.specs.BlockNumber.{block_number}
use Rattle.line.specs.declared.Block.{Block}
use Rattle.line.proofs.Laws.{header_number, payload_number}
use Rattle.carrying.specs.Carrying.{word_of, carried_bits, Sound, block_bits, Fills, Takes}
use Rattle.carrying.specs.declared.Carried.{Carried}
use Rattle.carrying.specs.declared.Taken.{Taken}
use Rattle.std.specs.Prelude.{Option, Some, None}
use Rattle.carrying.proofs.Reading.{number_zeros, bit_past}
use Rattle.carrying.proofs.Joining.{onward, word_more, bits_more}

-- where nothing is carried there are no bits
pub bits_none : (c : Carried) → c.count ≡ 0 → carried_bits c ≡ []
unfolding carried_bits listed
bits_none c e = ap (λ (n : ℕ). listed n (bit (word_of c))) e

-- carrying nothing is sound
pub sound_none : (c : Carried) → (c.count ≡ 0) × (c.header ≡ 0) × (c.payload ≡ 0) → Sound c
sound_none c (a, h, p) =
    record { few = omega arith; header = omega arith; fits = subst (λ (n : ℕ). word_of c < 2 ^ n) (sym a) (omega arith) }

-- as many bits as are counted
pub length_carried : (c : Carried) → length (carried_bits c) ≡ c.count
unfolding carried_bits
length_carried c = length_listed c.count (bit (word_of c))

module _ (line : List ℕ) (pos : ℕ) (c : Carried) where
  -- the bits of the line
  abbrev B : List ℕ
  B = line_bits line

  -- a whole block, where nothing is carried
  module _ (empty : c.count ≡ 0) (room : pos + 66 ≤ 8 * length line) (t : Taken) (next : t.next ≡ pos + 66) where
    -- the block's bits are 66 line bits
    whole_bits : block_bits B pos c t ≡ listed 66 (λ i. line_bit line (pos + i))
    whole_bits =
        let e : t.next - pos ≡ 66 = omega arith in
        ap₂ (λ (l : List ℕ) (n : ℕ). l ++ take n (drop pos B)) (bits_none c empty) e ∙ part_line_bits 66 pos line room

    -- the block is full
    pub fills_whole : (b : Block) → b.header ≡ number 2 (λ i. line_bit line (pos + i)) → b.payload ≡ number 64 (λ i. line_bit line (pos + 2 + i))
        → carried_bits t.carried ≡ [] → Fills B pos false c b t
    fills_whole b eh ep en =
        record {
          kept = refl;
          whole = ap length whole_bits ∙ length_listed 66 (λ i. line_bit line (pos + i));
          header = eh ∙ number_same 2 _ _ (λ i l. sym (ap (λ (x : List ℕ). get_or x i 0) whole_bits ∙ listed_at 66 (λ j. line_bit line (pos + j)) i (omega arith)));
          payload =
              ep
              ∙ number_same 64 _ _
              (λ i l.
              sym
              (ap (λ (x : List ℕ). get_or x (2 + i) 0) whole_bits ∙ listed_at 66 (λ j. line_bit line (pos + j)) (2 + i) (omega arith)
              ∙ ap (line_bit line) (sym (add_assoc pos 2 i))));
          none = en;
        }

  -- n line bits, with those carried
  module _ (sound : Sound c) (n : ℕ) (room : pos + n ≤ 8 * length line) (n-le : c.count + n ≤ 66) (more : Block) (head : more.header < 4)
      (joins : block_number more ≡ word_of c + number (66 - c.count) (onward line pos) * 2 ^ c.count) (t : Taken) (next : t.next ≡ pos + n) where
    -- the bits of the block's word
    pub more_bits : block_bits B pos c t ≡ listed (c.count + n) (bit (block_number more))
    unfolding carried_bits
    more_bits =
        let e : t.next - pos ≡ n = omega arith in
        ap (λ (k : ℕ). carried_bits c ++ take k (drop pos B)) e
        ∙ ap (λ (l : List ℕ). carried_bits c ++ l) (part_line_bits n pos line room)
        ∙ sym (bits_more line pos c.count (66 - c.count) n (word_of c) sound.fits (omega arith))
        ∙ ap (λ (w : ℕ). listed (c.count + n) (bit w)) (sym joins)

    -- where they are the line's last, no other bit is set
    pub more_fits : 8 * length line ≤ pos + n → block_number more < 2 ^ (c.count + n)
    more_fits last =
        let f = onward line pos in
        let e : 66 - c.count ≡ n + (66 - c.count - n) = omega arith in
        let z : number (66 - c.count) f ≡ number n f = ap (λ (k : ℕ). number k f) e ∙ number_zeros n (66 - c.count - n) f (λ i l. bit_past line (pos + i) (omega arith)) in
        subst (λ (w : ℕ). w < 2 ^ (c.count + n)) (sym (joins ∙ ap (λ (k : ℕ). word_of c + k * 2 ^ c.count) z))
        (word_more line pos c.count n (word_of c) sound.fits)

    -- 66: the block is full
    pub fills_last : c.count + n ≡ 66 → more.payload < 2 ^ 64 → carried_bits t.carried ≡ [] → Fills B pos false c more t
    fills_last full pb en =
        let bits : block_bits B pos c t ≡ listed 66 (bit (block_number more)) = more_bits ∙ ap (λ (k : ℕ). listed k (bit (block_number more))) full in
        record {
          kept = refl;
          whole = ap length bits ∙ length_listed 66 (bit (block_number more));
          header =
              sym (header_number more.header more.payload head)
              ∙ number_same 2 _ _ (λ i l. sym (ap (λ (x : List ℕ). get_or x i 0) bits ∙ listed_at 66 (bit (block_number more)) i (omega arith)));
          payload =
              sym (payload_number more.header more.payload head pb)
              ∙ number_same 64 _ _ (λ i l. sym (ap (λ (x : List ℕ). get_or x (2 + i) 0) bits ∙ listed_at 66 (bit (block_number more)) (2 + i) (omega arith)));
          none = en;
        }

-- ---- what is taken, in each of the four cases

-- nothing is carried after a skipped bit or a full block
abbrev pub Empty : Carried → Type 0
Empty c = (c.count ≡ 0) × (c.header ≡ 0) × (c.payload ≡ 0)

-- .. as `default` promises it
pub empty : {c : Carried} → (c.count ≡ 0) × ((c.header ≡ 0) × (c.payload ≡ 0)) → Empty c
empty p = (p.0, p.1.0, p.1.1)

-- it is a block, or none
same_block : (P : Block → Type 0) {o : Option Block} (b : Block) → o ≡ Some b → P b → (b' : Block) → o ≡ Some b' → P b'
same_block P b e p b' e' = let s : b ≡ b' = cc in subst P s p

module _ (line : List ℕ) (pos : ℕ) (c : Carried) (here : pos < 8 * length line) (t : Taken) where
  -- the bit is skipped
  pub takes_skip : t.block ≡ None → Empty t.carried → t.next ≡ pos + 1 → Takes (line_bits line) pos true c t
  takes_skip ef ec en =
      record {
        past = omega arith;
        within = omega (arith, length_line_bits line);
        sound = sound_none t.carried ec;
        fills = λ b z. cc;
        waits = λ z. record { one = λ y. en; carried = bits_none t.carried ec.0 };
      }

  -- a whole block is taken
  pub takes_whole : c.count ≡ 0 → pos + 66 ≤ 8 * length line → (b : Block) → t.block ≡ Some b → Empty t.carried
      → t.next ≡ pos + 66 → b.header ≡ number 2 (λ i. line_bit line (pos + i)) → b.payload ≡ number 64 (λ i. line_bit line (pos + 2 + i))
      → Takes (line_bits line) pos false c t
  takes_whole e0 room b ef ec en eh ep =
      record {
        past = omega arith;
        within = omega (arith, length_line_bits line);
        sound = sound_none t.carried ec;
        fills = same_block (λ x. Fills (line_bits line) pos false c x t) b ef (fills_whole line pos c e0 room t en b eh ep (bits_none t.carried ec.0));
        waits = λ z. cc;
      }

  module _ (sound : Sound c) (n : ℕ) (some : 0 < n) (room : pos + n ≤ 8 * length line) (more : Block) (head : more.header < 4)
      (joins : block_number more ≡ word_of c + number (66 - c.count) (onward line pos) * 2 ^ c.count) (en : t.next ≡ pos + n) where
    -- the line's last bits wait
    pub takes_rest : t.block ≡ None → t.carried ≡ record { count = c.count + n; header = more.header; payload = more.payload }
        → c.count + n < 66 → 8 * length line ≤ pos + n → Takes (line_bits line) pos false c t
    unfolding carried_bits
    takes_rest ef ec few last =
        record {
          past = omega arith;
          within = omega (arith, length_line_bits line);
          sound = subst Sound (sym ec) (record { few = few; header = head; fits = more_fits line pos c sound n room (omega arith) more head joins t en last });
          fills = λ b z. cc;
          waits = λ z. record { one = λ y. cc; carried = ap carried_bits ec ∙ sym (more_bits line pos c sound n room (omega arith) more head joins t en) };
        }

    -- the block is filled
    pub takes_last : t.block ≡ Some more → Empty t.carried → c.count + n ≡ 66 → more.payload < 2 ^ 64 → Takes (line_bits line) pos false c t
    takes_last ef ec full pb =
        record {
          past = omega arith;
          within = omega (arith, length_line_bits line);
          sound = sound_none t.carried ec;
          fills = same_block (λ x. Fills (line_bits line) pos false c x t) more ef (fills_last line pos c sound n room (omega arith) more head joins t en full pb (bits_none t.carried ec.0));
          waits = λ z. cc;
        }
