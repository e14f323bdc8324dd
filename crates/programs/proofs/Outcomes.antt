-- The last step, told apart: what both programs write in each case.
use Prim.Native.Nat.{ℕ, ◌+◌, ◌-◌, ◌≤◌}
use mathlib.Core.Path.{◌≡◌, sym, ap, subst, ◌∙◌}
use mathlib.Core.List.{List, [], ◌++◌}
use native.Mathlib.Omega.{arith}
use lib.ListN.{length, take, length-append, length-take}
use lib.Seq.{take_at, length-take-le}
use lib.Dec.{leb}
use borrow.Author.Tests.{le-leb, leb-true}
use Rattle.std.specs.Counts.{IsPrefixLen}
use Rattle.putting.specs.Overlaid.{PutsText}
use Rattle.putting.proofs.Laws.{puts_length}
use Rattle.records.specs.Record.{body_of}
use Rattle.refusals.proofs.Laws.{by_test}
use Rattle.gather.specs.Gather.{Gathered, more, done, stop, failed, bytes_in}
use Rattle.display.specs.Display.{input_failed_line}
use Rattle.display.proofs.Laws.{refused_length}
use Rattle.gather.specs.declared.Step.{Step}
use Rattle.gather.specs.declared.Step.TheVariants as Case
use Rattle.gather.specs.declared.Stop.{Stop}
use Rattle.gather.specs.declared.Stop.TheVariants as Why
use Rattle.std.specs.Prelude.{Result, Ok, Err}
use Rattle.programs.specs.Programs.{output_of, gathered_of}

-- A body at the start of a slice is what was put there.
pub body_first : (text rest s : List ℕ) (n : ℕ) → s ≡ text ++ rest → n ≡ length text → body_of s 0 n ≡ text
unfolding body_of
body_first text rest s n e k =
    let l : length s ≡ length text + length rest = ap length e ∙ length-append text rest in
    simp (le-leb 0 (length s) (omega arith), le-leb n (length s - 0) (omega arith)) (ap (take n) e ∙ take_at text rest n (sym k))

-- A body is no longer than the slice.
pub body_short : (s : List ℕ) (n : ℕ) → length (body_of s 0 n) ≤ length s
unfolding body_of
body_short s n =
    by_test (leb n (length s - 0))
    (λ t. let l = leb-true n (length s - 0) t in simp (le-leb 0 (length s) (omega arith), t, length-take) (omega arith))
    (λ t. simp (le-leb 0 (length s) (omega arith), t) (omega arith))

-- A program: its text of at most so many bytes, and how long that is at most.
pub record Program (text : List ℕ → List ℕ) (most longest : ℕ) : Type 0 where
  pub room : 29 ≤ longest
  pub short : (bytes : List ℕ) → length bytes ≤ most → length (text bytes) ≤ longest

-- All that it writes is no longer.
output_short : {text : List ℕ → List ℕ} {most longest : ℕ} → Program text most longest → (g : Gathered) → length (bytes_in g) ≤ most → length (output_of text g) ≤ longest
unfolding input_failed_line
output_short p (done bytes) h = p.short bytes h
output_short p (stop n b) h = omega (arith, refused_length n, p.room)
output_short p (failed b) h = omega (arith, p.room)
output_short p (more b) h = omega (arith, p.room)

-- What is written where no more is gathered.
abbrev pub stopped : Stop → List ℕ
stopped s = output_of (λ bytes. input_failed_line) (gathered_of (Err s) [])

module _ {text : List ℕ → List ℕ} {most longest : ℕ} (p : Program text most longest) (o : Result Step Stop) (store out exit : List ℕ) (r : ℕ) (room : longest ≤ length out) where
  -- The text is written, and the answer counts its bytes.
  abbrev Output : Type 0
  Output = PutsText 0 (output_of text (gathered_of o store)) out r exit × IsPrefixLen r exit

  -- By the step.
  output : (o' : Result Step Stop) → length (bytes_in (gathered_of o' store)) ≤ most → o ≡ o' → PutsText 0 (output_of text (gathered_of o' store)) out r exit → Output
  output o' h e w =
      let s = output_short p (gathered_of o' store) h in
      let l = puts_length 0 r (output_of text (gathered_of o' store)) out exit w (omega arith) in
      let b : r ≤ length exit = omega (arith, w.ends) in
      (subst (λ (x : Result Step Stop). PutsText 0 (output_of text (gathered_of x store)) out r exit) (sym e) w, (b, sym (length-take-le r exit b)))

  -- The records ended.
  pub was_done : (n : ℕ) (body : List ℕ) → length store ≤ most → o ≡ Ok (Case.Done n) → body ≡ body_of store 0 n → PutsText 0 (text body) out r exit → Output
  was_done n body fits e b w = output (Ok (Case.Done n)) (omega (arith, body_short store n)) e (subst (λ (x : List ℕ). PutsText 0 (text x) out r exit) b w)

  -- They did not, in all those turns.
  pub was_more : (n : ℕ) → o ≡ Ok (Case.More n) → PutsText 0 input_failed_line out r exit → Output
  was_more n e w = output (Ok (Case.More n)) (omega arith) e w

  -- A refusal or a failed read: what is written then is in no text, and nothing was gathered.
  pub was_stopped : (s : Stop) → o ≡ Err s → PutsText 0 (stopped s) out r exit → Output
  was_stopped (Why.Refused why) e w = output (Err (Why.Refused why)) (omega arith) e w
  was_stopped Why.Failed e w = output (Err Why.Failed) (omega arith) e w
