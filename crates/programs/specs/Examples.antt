-- Document 01's example, computed on the definitions: what the receiver prints for a record of nine zero bytes. A reviewer can skip this file.
use Rattle.std.specs.Prelude.{◌≡◌, refl, replicate}
use mathlib.Core.List.{◌∷◌, flatten}
use Rattle.refusals.specs.First.{first}
use Rattle.bits.specs.Bits.{bit, number, stream_bit, listed, line_bit, line_bits}
use Rattle.records.specs.Record.{read_at, read_checks, body_of}
use Rattle.gather.specs.File.{gathering}
use Rattle.display.specs.Display.{ascii, pieces, hex_digits, decimal_by, summary_lines}
use Rattle.lock.specs.Lock.{invalid_of, slips_of, counted_of, lock_of}
use Rattle.lock.specs.Rate.{rate_of}
use Rattle.bits.specs.Lists.{how_many}
use Rattle.receiving.specs.Machine.{valid_of, link_of, tested_of, feed, filled, run}
use Rattle.block.specs.Block.{edition_of}
use Rattle.receiving.specs.Receive.{lets_end, ends, state_of, answer_in, judge, answers, counts_of, run_of, vectors_of, received_vectors}
use Rattle.receiving.specs.Answer.{receive_checks, summary_of, receive_answer}
use Rattle.programs.specs.Programs.{receiver_text, receiver_on}

printed : receiver_on (0x09 ∷ 0x00 ∷ 0x02 ∷ 0x00 ∷ replicate 9 0) ≡ ascii "019c000001019c000001\ntested 1\nslips 1\nlocked 0\nhigh 0\n"
unfolding receiver_on receiver_text gathering read_at read_checks first body_of receive_answer receive_checks summary_of edition_of received_vectors vectors_of run_of run feed filled tested_of link_of valid_of line_bits listed line_bit stream_bit bit number lock_of invalid_of slips_of counted_of rate_of answers judge state_of ends lets_end answer_in how_many counts_of flatten pieces hex_digits decimal_by summary_lines
printed = refl
