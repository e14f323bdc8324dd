-- From the reads that were made to what is written: it is what the definition says of them, and of the file that was read.
use Prim.Native.Nat.{ℕ, suc, ◌+◌}
use mathlib.Core.Path.{◌≡◌, refl, sym, ap, subst, ◌∙◌}
use mathlib.Core.List.{List, []}
use lib.ListN.{length, drop}
use Rattle.refusals.specs.Number.{number_of}
use Rattle.putting.specs.Overlaid.{overlaid, PutsText}
use Rattle.records.specs.Record.{body_limit}
use Rattle.gather.specs.Gather.{Gathered, more, done, stop, failed, bytes_in, turn_in, turn_of}
use Rattle.gather.specs.File.{windows, gathered_after, gathered_from, Concluded, bytes_read}
use Rattle.gather.specs.declared.Step.{Step}
use Rattle.gather.specs.declared.Step.TheVariants as Case
use Rattle.gather.specs.declared.Stop.{Stop}
use Rattle.gather.specs.declared.Stop.TheVariants as Why
use Rattle.std.specs.Prelude.{Result, Ok, Err}
use Rattle.gather.proofs.File.{whole_file, file_read}
use Rattle.display.specs.Display.{input_failed_line}
use Rattle.input.specs.Read.{Gathers}
use Rattle.programs.specs.Programs.{output_of, sender_text, sender_output, receiver_text, receiver_output, sender_on, receiver_on, vector_limit, line_limit, gathered_of, PutsForReads}
use Rattle.programs.proofs.Outcomes.{body_first}

-- What is written does not depend on what was gathered before a refusal or a failed read.
abbrev pub shown : Gathered → Gathered
shown (done bytes) = done bytes
shown (stop number before) = stop number []
shown (failed before) = failed []
shown (more before) = more []

-- So either output is of what is shown.
as_shown : (text : List ℕ → List ℕ) (g : Gathered) → output_of text g ≡ output_of text (shown g)
as_shown text (done bytes) = refl
as_shown text (stop number before) = refl
as_shown text (failed before) = refl
as_shown text (more before) = refl

-- The last step and the store tell where the gathering stands.
by_turn : (step : Result Step Stop) (entry exit : List ℕ) (g : Gathered) → turn_of step ≡ turn_in g → exit ≡ overlaid 0 (bytes_in g) entry → gathered_of step exit ≡ shown g
unfolding overlaid
by_turn (Ok (Case.Done n)) entry exit (done b) t s = let k : n ≡ length b = cc in ap done (body_first b (drop (0 + length b) entry) exit n s k)
by_turn (Ok (Case.Done n)) entry exit (more b) t s = cc
by_turn (Ok (Case.Done n)) entry exit (stop m b) t s = cc
by_turn (Ok (Case.Done n)) entry exit (failed b) t s = cc
by_turn (Err (Why.Refused why)) entry exit (stop m b) t s = let k : number_of why ≡ m = cc in ap (λ (n : ℕ). stop n []) k
by_turn (Err (Why.Refused why)) entry exit (done b) t s = cc
by_turn (Err (Why.Refused why)) entry exit (more b) t s = cc
by_turn (Err (Why.Refused why)) entry exit (failed b) t s = cc
by_turn (Err Why.Failed) entry exit (failed b) t s = refl
by_turn (Err Why.Failed) entry exit (more b) t s = cc
by_turn (Err Why.Failed) entry exit (done b) t s = cc
by_turn (Err Why.Failed) entry exit (stop m b) t s = cc
by_turn (Ok (Case.More n)) entry exit (more b) t s = refl
by_turn (Ok (Case.More n)) entry exit (done b) t s = cc
by_turn (Ok (Case.More n)) entry exit (stop m b) t s = cc
by_turn (Ok (Case.More n)) entry exit (failed b) t s = cc

-- A program writes what the definition says of the reads that were made, by the promise of the loop over the input.
pub by_reads : (text : List ℕ → List ℕ) (kind most : ℕ) (entry exit out out' : List ℕ) (step : Result Step Stop) (r : ℕ) → length entry ≡ most
    → Gathers kind entry step exit → PutsText 0 (output_of text (gathered_of step exit)) out r out' → PutsForReads kind most (output_of text) out r out'
by_reads text kind most entry exit out out' step r l p w =
    let g = gathered_after body_limit kind (length entry) p.reads (more []) in
    let e : output_of text (gathered_of step exit) ≡ output_of text g =
    ap (output_of text) (by_turn step entry exit g p.shows.0 p.shows.1) ∙ sym (as_shown text g) in
    subst (λ (n : ℕ). PutsForReads kind n (output_of text) out r out') l
    (record { reads = p.reads; in_turn = p.in_turn; written = subst (λ (x : List ℕ). PutsText 0 x out r out') e w })

-- What was written, whatever was read: where an end or a refusal came, what the definition says of the bytes that were read; where a read
-- failed, that line.
module _ (kind most : ℕ) (text : List ℕ → List ℕ) (entry exit : List ℕ) (r : ℕ) (p : PutsForReads kind most (output_of text) entry r exit) where
  -- where the gathering stands
  abbrev at_last : Gathered
  at_last = gathered_after body_limit kind most p.reads (more [])

  of_file : Concluded at_last → PutsText 0 (output_of text (gathered_from body_limit kind most (bytes_read p.reads))) entry r exit
  of_file s = subst (λ (g : Gathered). PutsText 0 (output_of text g) entry r exit) (file_read body_limit kind most p.reads p.in_turn s) p.written

  of_failure : (b : List ℕ) → at_last ≡ failed b → PutsText 0 input_failed_line entry r exit
  of_failure b e = subst (λ (x : List ℕ). PutsText 0 x entry r exit) (ap (output_of text) e) p.written

module _ (entry exit : List ℕ) (r : ℕ) where
  pub sender_read : (p : PutsForReads 1 vector_limit sender_output entry r exit) → Concluded (gathered_after body_limit 1 vector_limit p.reads (more []))
      → PutsText 0 (sender_on (bytes_read p.reads)) entry r exit
  unfolding sender_on
  sender_read = of_file 1 vector_limit sender_text entry exit r

  pub sender_failed : (p : PutsForReads 1 vector_limit sender_output entry r exit) (b : List ℕ) → gathered_after body_limit 1 vector_limit p.reads (more []) ≡ failed b
      → PutsText 0 input_failed_line entry r exit
  sender_failed = of_failure 1 vector_limit sender_text entry exit r

  pub receiver_read : (p : PutsForReads 2 line_limit receiver_output entry r exit) → Concluded (gathered_after body_limit 2 line_limit p.reads (more []))
      → PutsText 0 (receiver_on (bytes_read p.reads)) entry r exit
  unfolding receiver_on
  receiver_read = of_file 2 line_limit receiver_text entry exit r

  pub receiver_failed : (p : PutsForReads 2 line_limit receiver_output entry r exit) (b : List ℕ) → gathered_after body_limit 2 line_limit p.reads (more []) ≡ failed b
      → PutsText 0 input_failed_line entry r exit
  receiver_failed = of_failure 2 line_limit receiver_text entry exit r

-- Where the reads are the windows of a file, what is written is what the definition says of the file.
pub sender_on_file : (file : List ℕ) → sender_output (gathered_after body_limit 1 vector_limit (windows body_limit (suc (length file)) file) (more [])) ≡ sender_on file
unfolding sender_on
sender_on_file file = ap sender_output (whole_file body_limit 1 vector_limit file)

-- The same of the receiver.
pub receiver_on_file : (file : List ℕ) → receiver_output (gathered_after body_limit 2 line_limit (windows body_limit (suc (length file)) file) (more [])) ≡ receiver_on file
unfolding receiver_on
receiver_on_file file = ap receiver_output (whole_file body_limit 2 line_limit file)
