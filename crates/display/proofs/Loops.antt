-- What the loops of this crate keep, and what one turn does.
use Prim.Native.Nat.{ℕ, ◌+◌, ◌-◌, ◌*◌, ◌/◌, ◌%◌, ◌^◌, ◌≤◌, ◌<◌}
use mathlib.Core.Path.{◌≡◌, refl, sym, ap, subst, ◌∙◌}
use mathlib.Core.Bool.{Bool, true, false}
use mathlib.Core.List.{List, [], ◌∷◌, ◌++◌, append-nil, append_assoc}
use native.Mathlib.Omega.{arith}
use lib.ListN.{length, get_or, take, drop, set, length-append, length-set}
use lib.Seq.{length-take-le, take_all}
use mir.Val.{bool_byte}
use borrow.Rule.Slice.PartMut.{put_mid, mid_of}
use Rattle.record_writing.specs.Writing.{record_of}
use Rattle.putting.specs.Overlaid.{PutsText}
use Rattle.putting.proofs.Laws.{overlaid_part, puts_on, puts_length, puts_none, puts_one, puts_two}
use Rattle.display.specs.Display.{hex_digit, hex_digits, decimal, number_line, flag, summary_lines, refused_line}
use Rattle.display.proofs.Laws.{decimal_one, decimal_more, decimal_same, hex_length, hex_more, record_length}

-- ---- the digits of a vector

-- The digits of the first j bytes are written.
pub record Digits (v out₀ : List ℕ) (at : ℕ) (out : List ℕ) (e j : ℕ) : Type 0 where
  pub within : j ≤ length v
  pub written : PutsText at (hex_digits (take j v)) out₀ e out
  pub same : length out ≡ length out₀
  pub place : e ≡ at + 2 * j

-- None at first.
pub digits_first : (v out : List ℕ) (at : ℕ) → Digits v out at out at 0
unfolding hex_digits
digits_first v out at = record { within = omega arith; written = puts_none at out; same = refl; place = omega arith }

-- Two digits more.
pub digits_turn : (v out₀ out : List ℕ) (at e j h l : ℕ) → at + 2 * length v ≤ length out₀ → j < length v → h ≡ hex_digit (get_or v j 0 / 16) → l ≡ hex_digit (get_or v j 0 % 16)
    → Digits v out₀ at out e j → Digits v out₀ at (set (set out e h) (e + 1) l) (e + 2) (j + 1)
digits_turn v out₀ out at e j h l r t p q d =
    let n = hex_length (take j v) in
    let k = length-take-le j v (omega arith) in
    let two : hex_digits (take (j + 1) v) ≡ hex_digits (take j v) ++ h ∷ l ∷ [] = hex_more v j t ∙ cc in
    record {
      within = omega arith;
      written = subst (λ (x : List ℕ). PutsText at x out₀ (e + 2) (set (set out e h) (e + 1) l)) (sym two)
          (puts_on at e (e + 2) (hex_digits (take j v)) (h ∷ l ∷ []) out₀ out (set (set out e h) (e + 1) l) d.written
          (puts_two e h l out (omega (arith, d.same, d.place))) (omega arith));
      same = simp length-set d.same;
      place = omega (arith, d.place);
    }

-- All at the end.
pub digits_done : (v out₀ out : List ℕ) (at e j : ℕ) → length v ≤ j → Digits v out₀ at out e j → PutsText at (hex_digits v) out₀ e out
digits_done v out₀ out at e j h d = subst (λ (x : List ℕ). PutsText at (hex_digits x) out₀ e out) (take_all j v h) d.written

-- ---- pieces one after the other

-- A part of a text is written, and this is what is left of it.
pub record Begun (text : List ℕ) (at : ℕ) (out₀ out : List ℕ) (e : ℕ) (left : List ℕ) : Type 0 where
  pub first : List ℕ
  pub written : PutsText at first out₀ e out
  pub same : length out ≡ length out₀
  pub both : first ++ left ≡ text

-- Nothing is written at first.
pub begun : (text left out : List ℕ) (at : ℕ) → left ≡ text → Begun text at out out at left
begun text left out at e = record { first = []; written = puts_none at out; same = refl; both = e }

module _ (text out₀ out : List ℕ) (at e : ℕ) (left piece rest : List ℕ) (fits : at + length text ≤ length out₀) (next : left ≡ piece ++ rest)
    (b : Begun text at out₀ out e left) where
  whole : b.first ++ piece ++ rest ≡ text
  whole = append_assoc b.first piece rest ∙ ap (λ (l : List ℕ). b.first ++ l) (sym next) ∙ b.both

  -- One piece more fits.
  pub piece_fits : e + length piece ≤ length out
  piece_fits = omega (arith, ap length whole, length-append (b.first ++ piece) rest, length-append b.first piece, b.written.ends, b.same)

  -- It is written behind the others.
  pub goes_on : (exit : List ℕ) (r : ℕ) → PutsText e piece out r exit → Begun text at out₀ exit r rest
  goes_on exit r w =
      let f = piece_fits in
      record {
        first = b.first ++ piece;
        written = puts_on at e r b.first piece out₀ out exit b.written w (omega (arith, b.written.ends, b.same));
        same = puts_length e r piece out exit w f ∙ b.same;
        both = whole;
      }

-- All is written.
pub all_written : (text out₀ out : List ℕ) (at e : ℕ) (left : List ℕ) → left ≡ [] → Begun text at out₀ out e left → PutsText at text out₀ e out
all_written text out₀ out at e left n b =
    subst (λ (t : List ℕ). PutsText at t out₀ e out) (sym (append-nil b.first) ∙ ap (λ (l : List ℕ). b.first ++ l) (sym n) ∙ b.both) b.written

-- ---- the digits of a number

-- A number of 64 bits without its last digit.
pub decimal_split : (n : ℕ) → n < 2 ^ 64 → 10 ≤ n → decimal n ≡ decimal (n / 10) ++ hex_digit (n % 10) ∷ []
decimal_split n h g =
    let l : n / 10 < 10 ^ 19 = omega arith in
    decimal_more 19 n g ∙ ap (λ (x : List ℕ). x ++ hex_digit (n % 10) ∷ []) (sym (decimal_same 18 (n / 10) l))

-- It has one digit less.
pub split_length : (n : ℕ) → n < 2 ^ 64 → 10 ≤ n → length (decimal n) ≡ length (decimal (n / 10)) + 1
split_length n h g = ap length (decimal_split n h g) ∙ length-append (decimal (n / 10)) (hex_digit (n % 10) ∷ [])

-- A number below ten has one digit.
pub one_length : (n : ℕ) → n < 10 → length (decimal n) ≡ 1
one_length n h = ap length (decimal_one 19 n h)

-- The digit of a number below ten is written.
pub digit_one : (n d at : ℕ) (out : List ℕ) → n < 10 → d ≡ hex_digit n → at + length (decimal n) ≤ length out → PutsText at (decimal n) out (at + 1) (set out at d)
digit_one n d at out h e r =
    let o : decimal n ≡ d ∷ [] = decimal_one 19 n h ∙ cc in
    subst (λ (x : List ℕ). PutsText at x out (at + 1) (set out at d)) (sym o) (puts_one at d out (omega (arith, ap length o)))

-- The last digit is written after the others.
pub digit_more : (n d at e : ℕ) (out mid : List ℕ) → n < 2 ^ 64 → 10 ≤ n → d ≡ hex_digit (n % 10) → at + length (decimal n) ≤ length out
    → PutsText at (decimal (n / 10)) out e mid → PutsText at (decimal n) out (e + 1) (set mid e d)
digit_more n d at e out mid f h q r w =
    let o : decimal n ≡ decimal (n / 10) ++ d ∷ [] = decimal_split n f h ∙ cc in
    let l = split_length n f h in
    let m = puts_length at e (decimal (n / 10)) out mid w (omega arith) in
    subst (λ (x : List ℕ). PutsText at x out (e + 1) (set mid e d)) (sym o)
    (puts_on at e (e + 1) (decimal (n / 10)) (d ∷ []) out mid (set mid e d) w (puts_one e d mid (omega (arith, w.ends))) (omega arith))

-- ---- the receiver's four lines

-- 1 for true.
pub bit_is : (b : Bool) → bool_byte b ≡ flag b
bit_is true = refl
bit_is false = refl

-- Four lines after one another are the summary.
pub summary_written : (tested slips m n : ℕ) (locked high : Bool) (at p q r e : ℕ) (out out₁ out₂ out₃ exit : List ℕ)
    → m ≡ flag locked → n ≡ flag high → e ≤ length out
    → PutsText at (number_line "tested " tested) out p out₁ → PutsText p (number_line "slips " slips) out₁ q out₂
    → PutsText q (number_line "locked " m) out₂ r out₃ → PutsText r (number_line "high " n) out₃ e exit
    → PutsText at (summary_lines tested slips locked high) out e exit
unfolding summary_lines
summary_written tested slips m n locked high at p q r e out out₁ out₂ out₃ exit l h f w₁ w₂ w₃ w₄ =
    let a = number_line "tested " tested in
    let b = number_line "slips " slips in
    let c = number_line "locked " m in
    let d = number_line "high " n in
    let s₁ = length-append a b in
    let s₂ = length-append (a ++ b) c in
    let v₁ = w₁.ends in
    let v₂ = w₂.ends in
    let v₃ = w₃.ends in
    let v₄ = w₄.ends in
    subst (λ (k : ℕ). PutsText at (a ++ b ++ number_line "locked " k ++ number_line "high " (flag high)) out e exit) l
    (subst (λ (k : ℕ). PutsText at (a ++ b ++ c ++ number_line "high " k) out e exit) h
    (puts_on at r e (a ++ b ++ c) d out out₃ exit
    (puts_on at q r (a ++ b) c out out₂ out₃ (puts_on at p q a b out out₁ out₂ w₁ w₂ (omega (arith, v₁, v₂, v₃, v₄))) w₃ (omega (arith, s₁, v₁, v₂, v₃, v₄)))
    w₄
    (omega (arith, s₁, s₂, v₁, v₂, v₃, v₄))))

-- ---- the line of a refusal

-- A line with the refusal's number.
pub refused_written : (at n m r : ℕ) (out exit : List ℕ) → n ≡ m → PutsText at (number_line "refused " n) out r exit → PutsText at (refused_line m) out r exit
unfolding refused_line
refused_written at n m r out exit e w = subst (λ (k : ℕ). PutsText at (number_line "refused " k) out r exit) e w

-- ---- line records

-- A record that was written into the part of the room that starts at a place.
pub record_written : (at : ℕ) (body out l : List ℕ) → at ≤ length out
    → l ≡ record_of 2 body ++ drop (length body + 4) (mid_of at (length out - at) out)
    → PutsText at (record_of 2 body) out (at + length body + 4) (put_mid at (length out - at) out l)
record_written at body out l h e =
    let n = record_length body in
    record {
      ends = omega (arith, n);
      room = overlaid_part at (record_of 2 body) out l h (e ∙ ap (λ (k : ℕ). record_of 2 body ++ drop k (mid_of at (length out - at) out)) (sym n));
    }
