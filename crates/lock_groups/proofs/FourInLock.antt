-- Four blocks in lock. Assumes nothing.
use Prim.Native.Nat.{ℕ, ◌+◌, ◌-◌, ◌*◌, ◌/◌, ◌%◌, ◌≤◌, ◌<◌}
use mathlib.Core.Path.{◌≡◌, refl, sym, ap, ◌∙◌}
use mathlib.Core.Bool.{Bool, true, false}
use mathlib.Core.Logic.{◌⊎◌, inl, inr}
use mathlib.Core.List.{List}
use native.Mathlib.Omega.{arith}
use lib.Bits.{bit_or, bit_xor, and_le_l, and_le_r, or_add_and, xor_add_and}
use lib.ListN.{length}
use Rattle.bits.specs.Bits.{bit, line_bit}
use Rattle.bits.proofs.Laws.{number_lt}
use Rattle.bits.proofs.Lists.{line_bit_lt}
use Rattle.block.specs.declared.Kind.{Kind}
use Rattle.scrambler.specs.Scrambler.{descrambled, line_after}
use Rattle.diagrams.specs.Diagram.{diagram_of, after_idle, after_data, after_error, after_low}
use Rattle.diagrams.specs.declared.State.{State}
use Rattle.diagrams.specs.declared.State.TheVariants.{Init, Control, Data, Terminate, Error, LowPower}
use Rattle.blocks.specs.Blocks.{header_at, payload_at, headers_at, Fours}
use Rattle.blocks.specs.declared.Four.{Four}
use Rattle.receiving.specs.Machine.{valid_of}
use Rattle.receiving.specs.Receive.{errs}
use Rattle.receiving.specs.Loop.{Under}
use Rattle.lock_steps.specs.InLock.{InLock, Comes, Steps}
use Rattle.lock_groups.specs.FourInLock.{StepsFour, AllIdle, Ahead}
use Rattle.receiving.specs.declared.Progress.{Progress}
use Rattle.receiving.proofs.Stretching.{never, turns_more}

-- ---- where a block that is held goes

-- only what a Terminate does depends on what follows
pub goes_on_lem : (t : State) → errs t ≡ false → (s : State) (k : Kind) → diagram_of s k false ≡ t → (e : Bool) → diagram_of s k e ≡ t
unfolding diagram_of after_idle after_data after_error after_low
goes_on_lem t n Init k q e = q
goes_on_lem t n Control k q e = q
goes_on_lem t n Terminate k q e = q
goes_on_lem t n LowPower k q e = q
goes_on_lem t n Data Kind.D q e = q
goes_on_lem t n Data Kind.C q e = q
goes_on_lem t n Data Kind.S q e = q
goes_on_lem t n Data Kind.T q e = never (sym n ∙ ap errs (sym q))
goes_on_lem t n Data Kind.E q e = q
goes_on_lem t n Data Kind.LI q e = q
goes_on_lem t n Error Kind.D q e = q
goes_on_lem t n Error Kind.C q e = q
goes_on_lem t n Error Kind.S q e = q
goes_on_lem t n Error Kind.T q e = never (sym n ∙ ap errs (sym q))
goes_on_lem t n Error Kind.E q e = q
goes_on_lem t n Error Kind.LI q e = q

-- ---- four blocks

-- four headers by the number of all
pub each_header : (line : List ℕ) (pos n : ℕ) → headers_at line pos ≡ n
    → (n % 4 ≡ header_at line pos) × (n / 4 % 4 ≡ header_at line (pos + 66)) × (n / 16 % 4 ≡ header_at line (pos + 132)) × (n / 64 % 4 ≡ header_at line (pos + 198))
each_header line pos n e =
    let lt : (i : ℕ) → header_at line i < 4 = λ i. number_lt 2 (λ j. line_bit line (i + j)) (λ j q. line_bit_lt line (i + j)) in
    go (header_at line pos) (header_at line (pos + 66)) (header_at line (pos + 132)) (header_at line (pos + 198)) (lt pos) (lt (pos + 66)) (lt (pos + 132)) (lt (pos + 198)) e
  where
    go : (a b c d : ℕ) → a < 4 → b < 4 → c < 4 → d < 4 → a + b * 4 + c * 16 + d * 64 ≡ n → (n % 4 ≡ a) × (n / 4 % 4 ≡ b) × (n / 16 % 4 ≡ c) × (n / 64 % 4 ≡ d)
    go a b c d la lb lc ld e = (omega arith, omega arith, omega arith, omega arith)

-- four steps
pub steps_four : (line r₀ r₁ r₂ r₃ r₄ : List ℕ) (a b c d : ℕ) (p₀ p₁ p₂ p₃ p₄ : Progress)
    → Steps line r₀ r₁ a p₀ p₁ → Steps line r₁ r₂ b p₁ p₂ → Steps line r₂ r₃ c p₂ p₃ → Steps line r₃ r₄ d p₃ p₄ → StepsFour line r₀ r₄ p₀ p₄
steps_four line r₀ r₁ r₂ r₃ r₄ a b c d p₀ p₁ p₂ p₃ p₄ s t u v =
    record {
      turns =
          turns_more line r₀ r₃ r₄ p₀ p₃ p₄ (turns_more line r₀ r₂ r₃ p₀ p₂ p₃ (turns_more line r₀ r₁ r₂ p₀ p₁ p₂ s.turns t.turns) u.turns) v.turns;
      lock = v.lock;
      pos = omega (arith, s.pos, t.pos, u.pos, v.pos);
    }

-- headers 2 and 1 are valid
pub data_valid : valid_of 2 ≡ true
unfolding valid_of bit
data_valid = refl

pub control_valid : valid_of 1 ≡ true
unfolding valid_of bit
control_valid = refl

-- the header of a stretch is one of them
pub stretch_valid : {B : Type 0} (h : ℕ) → (h ≡ 2) ⊎ ((h ≡ 1) × B) → valid_of h ≡ true
stretch_valid h (inl e) = ap valid_of e ∙ data_valid
stretch_valid h (inr p) = ap valid_of p.0 ∙ control_valid

-- .. and four of it make 85 times it
pub stretch_digits : {B : Type 0} (h : ℕ) → (h ≡ 2) ⊎ ((h ≡ 1) × B) → (h ≡ 85 * h % 4) × (h ≡ 85 * h / 4 % 4) × (h ≡ 85 * h / 16 % 4) × (h ≡ 85 * h / 64 % 4)
stretch_digits h (inl e) = (omega arith, omega arith, omega arith, omega arith)
stretch_digits h (inr p) = (omega (arith, p.0), omega (arith, p.0), omega (arith, p.0), omega (arith, p.0))

-- what is known of idles
pub of_idles : {A B C D : Type 0} → (C → D) → A ⊎ (B × C) → A ⊎ (B × D)
of_idles f (inl a) = inl a
of_idles f (inr p) = inr (p.0, f p.1)

-- four blocks with one header come, one after the other
module _ (line r₀ : List ℕ) (p₀ : Progress) (f : Four) (h n : ℕ) (ok : valid_of h ≡ true) (digits : (h ≡ n % 4) × (h ≡ n / 4 % 4) × (h ≡ n / 16 % 4) × (h ≡ n / 64 % 4))
    (u : Under line r₀ p₀) (il : InLock p₀) (here : p₀.pos + 264 < 8 * length line) (fs : Fours line p₀.pos f) (all : f.headers ≡ n)
    (more : p₀.receiver.link.rate.blocks + 4 < 19531) where
  abbrev each : (n % 4 ≡ header_at line p₀.pos) × (n / 4 % 4 ≡ header_at line (p₀.pos + 66)) × (n / 16 % 4 ≡ header_at line (p₀.pos + 132)) × (n / 64 % 4 ≡ header_at line (p₀.pos + 198))
  each = each_header line p₀.pos n (sym fs.headers ∙ all)

  pub comes_first : Comes line r₀ p₀ h f.a
  comes_first =
      record { under = u; lock = il; here = omega (arith, here); header = digits.0 ∙ each.0; payload = fs.a; valid = ok; more = omega (arith, more) }

  module _ (r₁ : List ℕ) (p₁ : Progress) (s : Steps line r₀ r₁ f.a p₀ p₁) where
    pub comes_second : Comes line r₁ p₁ h f.b
    comes_second =
        record {
          under = s.turns.under;
          lock = s.lock;
          here = omega (arith, here, s.pos);
          header = digits.1 ∙ each.1 ∙ ap (header_at line) (sym s.pos);
          payload = fs.b ∙ ap (payload_at line) (sym s.pos);
          valid = ok;
          more = omega (arith, more, s.blocks);
        }

    module _ (r₂ : List ℕ) (p₂ : Progress) (t : Steps line r₁ r₂ f.b p₁ p₂) where
      pub comes_third : Comes line r₂ p₂ h f.c
      comes_third =
          let e : p₀.pos + 132 ≡ p₂.pos = omega (arith, s.pos, t.pos) in
          record {
            under = t.turns.under;
            lock = t.lock;
            here = omega (arith, here, e);
            header = digits.2 ∙ each.2 ∙ ap (header_at line) e;
            payload = fs.c ∙ ap (payload_at line) e;
            valid = ok;
            more = omega (arith, more, s.blocks, t.blocks);
          }

      module _ (r₃ : List ℕ) (p₃ : Progress) (v : Steps line r₂ r₃ f.c p₂ p₃) where
        pub comes_fourth : Comes line r₃ p₃ h f.d
        comes_fourth =
            let e : p₀.pos + 198 ≡ p₃.pos = omega (arith, s.pos, t.pos, v.pos) in
            record {
              under = v.turns.under;
              lock = v.lock;
              here = omega (arith, here, e);
              header = digits.3 ∙ each.3 ∙ ap (header_at line) e;
              payload = fs.d ∙ ap (payload_at line) e;
              valid = ok;
              more = omega (arith, more, s.blocks, t.blocks, v.blocks);
            }

-- four payloads that are idles are so to the receiver that comes to each
module _ (line r₀ r₁ r₂ r₃ : List ℕ) (f : Four) (p₀ p₁ p₂ p₃ : Progress) (x : AllIdle p₀.receiver.link.history f) (s : Steps line r₀ r₁ f.a p₀ p₁) where
  pub idle_second : descrambled f.b p₁.receiver.link.history ≡ 0x1e
  idle_second = ap (descrambled f.b) s.history ∙ x.b

  module _ (t : Steps line r₁ r₂ f.b p₁ p₂) where
    second : p₂.receiver.link.history ≡ line_after f.b (line_after f.a p₀.receiver.link.history)
    second = t.history ∙ ap (line_after f.b) s.history

    pub idle_third : descrambled f.c p₂.receiver.link.history ≡ 0x1e
    idle_third = ap (descrambled f.c) second ∙ x.c

    module _ (v : Steps line r₂ r₃ f.c p₂ p₃) where
      pub idle_fourth : descrambled f.d p₃.receiver.link.history ≡ 0x1e
      idle_fourth = ap (descrambled f.d) (v.history ∙ ap (line_after f.c) second) ∙ x.d

-- an or is 0 only where both are, an xor only of equals
or_none : (a b : ℕ) → bit_or a b ≡ 0 → (a ≡ 0) × (b ≡ 0)
or_none a b e = (omega (arith, or_add_and a b, and_le_l a b, and_le_r a b), omega (arith, or_add_and a b, and_le_l a b, and_le_r a b))

xor_none : (a b : ℕ) → bit_xor a b ≡ 0 → a ≡ b
xor_none a b e = omega (arith, xor_add_and a b, and_le_l a b, and_le_r a b)

-- four words that differ nowhere from one are all that one
pub all_same : (a b c d x : ℕ) → bit_or (bit_or (bit_or (bit_xor a x) (bit_xor b x)) (bit_xor c x)) (bit_xor d x) ≡ 0 → (a ≡ x) × (b ≡ x) × (c ≡ x) × (d ≡ x)
all_same a b c d x e =
    let p = or_none (bit_or (bit_or (bit_xor a x) (bit_xor b x)) (bit_xor c x)) (bit_xor d x) e in
    let q = or_none (bit_or (bit_xor a x) (bit_xor b x)) (bit_xor c x) p.0 in
    let r = or_none (bit_xor a x) (bit_xor b x) q.0 in
    (xor_none a x r.0, xor_none b x r.1, xor_none c x q.1, xor_none d x p.1)

-- four words, each descrambled after the one before, that are all idles
pub all_idles : (f : Four) (h wa ha wb hb wc hc wd : ℕ)
    → wa ≡ descrambled f.a h → ha ≡ line_after f.a h → wb ≡ descrambled f.b ha → hb ≡ line_after f.b ha
    → wc ≡ descrambled f.c hb → hc ≡ line_after f.c hb → wd ≡ descrambled f.d hc → wa ≡ 0x1e → wb ≡ 0x1e → wc ≡ 0x1e → wd ≡ 0x1e → AllIdle h f
all_idles f h wa ha wb hb wc hc wd ea la eb lb ec lc ed a b c d =
    let m : hb ≡ line_after f.b (line_after f.a h) = lb ∙ ap (line_after f.b) la in
    let n : hc ≡ line_after f.c (line_after f.b (line_after f.a h)) = lc ∙ ap (line_after f.c) m in
    record {
      a = sym ea ∙ a;
      b = sym (eb ∙ ap (descrambled f.b) la) ∙ b;
      c = sym (ec ∙ ap (descrambled f.c) m) ∙ c;
      d = sym (ed ∙ ap (descrambled f.d) n) ∙ d;
    }

-- ---- as many of four blocks as are decoded at once

-- four are ahead
pub ahead_four : (line : List ℕ) (pos : ℕ) (f : Four) → Fours line pos f → Ahead line pos 4 f
ahead_four line pos f fs =
    let e = each_header line pos f.headers (sym fs.headers) in
    record { a = λ l. (e.0, fs.a); b = λ l. (e.1, fs.b); c = λ l. (e.2, fs.c); d = λ l. (e.3, fs.d) }

-- .. or one less after the first
pub ahead_rest : (line : List ℕ) (pos n : ℕ) (f g : Four) → Ahead line pos n f → g.headers ≡ f.headers / 4 → g.a ≡ f.b → g.b ≡ f.c → g.c ≡ f.d → n ≤ 4
    → Ahead line (pos + 66) (n - 1) g
ahead_rest line pos n f g h eh ea eb ec le =
    let two : pos + 132 ≡ pos + 66 + 66 = omega arith in
    let three : pos + 198 ≡ pos + 66 + 132 = omega arith in
    let q : g.headers / 4 ≡ f.headers / 16 = omega (arith, eh) in
    let r : g.headers / 16 ≡ f.headers / 64 = omega (arith, eh) in
    record {
      a = λ l. let x = h.b (omega arith) in (ap (λ (y : ℕ). y % 4) eh ∙ x.0, ea ∙ x.1);
      b = λ l. let x = h.c (omega arith) in (ap (λ (y : ℕ). y % 4) q ∙ x.0 ∙ ap (header_at line) two, eb ∙ x.1 ∙ ap (payload_at line) two);
      c = λ l. let x = h.d (omega arith) in (ap (λ (y : ℕ). y % 4) r ∙ x.0 ∙ ap (header_at line) three, ec ∙ x.1 ∙ ap (payload_at line) three);
      d = λ l. absurd (omega arith);
    }
