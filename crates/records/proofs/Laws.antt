-- What a whole record tells: its body lies within the bytes. Laws of `read_at`, for the crates above.
use Prim.Native.Nat.{ℕ, ◌+◌, ◌-◌, ◌≤◌, ◌<◌}
use mathlib.Core.Path.{◌≡◌, refl, sym, ap, ◌∙◌}
use mathlib.Core.Bool.{Bool, true, false, cond}
use mathlib.Core.List.{List}
use native.Mathlib.Omega.{arith}
use lib.ListN.{length, take, drop, length-drop}
use lib.Seq.{length-take-le}
use borrow.Author.Tests.{ltb-false, leb-false, le-leb}
use Rattle.refusals.specs.First.{Verdict, accepted, by_verdict}
use Rattle.refusals.specs.First.{refused as refuses}
use Rattle.refusals.proofs.Laws.{passed}
use Rattle.records.specs.Record.{two_at, read_checks, Answer, whole, end, refused, read_at, body_of}

-- What a whole record that was found tells.
pub record Inside (limit : ℕ) (s : List ℕ) (at kind start len next : ℕ) : Type 0 where
  pub begins : at < length s
  pub start_is : start ≡ at + 4
  pub len_is : len ≡ two_at s at
  pub kind_is : kind ≡ two_at s (at + 2)
  pub next_is : next ≡ start + len
  pub small : len ≤ limit
  pub fits : start + len ≤ length s

-- A whole record is no refusal, and no end.
unrefused : (v : Verdict) (a : Answer) (k st len nx : ℕ) → by_verdict v a refused ≡ whole k st len nx → (v ≡ accepted) × (a ≡ whole k st len nx)
unrefused accepted a k st len nx e = (refl, e)
unrefused (refuses n p) a k st len nx e = absurd (let y : ◌≡◌ {A = ℕ} 0 1 = cc in omega arith)

-- It is no end either.
unended : (b : Bool) (a : Answer) (k st len nx : ℕ) → cond b end a ≡ whole k st len nx → (b ≡ false) × (a ≡ whole k st len nx)
unended true a k st len nx e = absurd (let y : ◌≡◌ {A = ℕ} 0 1 = cc in omega arith)
unended false a k st len nx e = (refl, e)

-- Two whole records that are the same have the same parts.
whole_parts : (k s l n k' s' l' n' : ℕ) → whole k s l n ≡ whole k' s' l' n' → (k ≡ k') × (s ≡ s') × (l ≡ l') × (n ≡ n')
whole_parts k s l n k' s' l' n' e = ((cc), (cc), (cc), (cc))

-- Each test that the reader passed, and what it says.
pub inside : (limit : ℕ) (s : List ℕ) (at kind start len next : ℕ) → read_at limit s at ≡ whole kind start len next → Inside limit s at kind start len next
unfolding read_at read_checks
inside limit s at kind start len next e =
    let u = unended _ _ kind start len next e in
    let v = unrefused _ _ kind start len next u.1 in
    let a = passed _ _ v.0 in
    let b = passed _ _ a.1 in
    let c = passed _ _ b.1 in
    let d = passed _ _ c.1 in
    let w = whole_parts (two_at s (at + 2)) (at + 4) (two_at s at) (at + 4 + two_at s at) kind start len next v.1 in
    let f₁ : at < length s = leb-false _ _ u.0 in
    let f₂ : 4 ≤ length s - at = ltb-false _ _ a.0 in
    let f₃ : two_at s at ≤ limit = ltb-false _ _ b.0 in
    let f₄ : two_at s at ≤ length s - (at + 4) = ltb-false _ _ d.0 in
    record { begins = f₁; start_is = sym w.1; len_is = sym w.2; kind_is = sym w.0; next_is = omega (arith, w); small = omega (arith, w); fits = omega (arith, w) }

-- Its body is that part of the bytes, as long as the head says.
pub body_is : (limit : ℕ) (s : List ℕ) (at kind start len next : ℕ) → read_at limit s at ≡ whole kind start len next → body_of s start len ≡ take len (drop (at + 4) s)
unfolding body_of
body_is limit s at kind start len next e =
    let i = inside limit s at kind start len next e in
    simp (le-leb start (length s) (omega arith), le-leb len (length s - start) (omega arith)) (ap (λ (n : ℕ). take len (drop n s)) i.start_is)

-- So its length is the one that the head says.
pub body_length : (limit : ℕ) (s : List ℕ) (at kind start len next : ℕ) → read_at limit s at ≡ whole kind start len next → length (body_of s start len) ≡ len
body_length limit s at kind start len next e =
    let i = inside limit s at kind start len next e in
    ap length (body_is limit s at kind start len next e) ∙ length-take-le len (drop (at + 4) s) (simp length-drop (omega arith))
