-- The state that an accepted call stores is the one that the next call loads. Assumes nothing.
use Prim.Native.Nat.{ℕ, ◌+◌, ◌*◌, ◌^◌, ◌≤◌, ◌<◌}
use mathlib.Core.Path.{◌≡◌}
use mathlib.Core.Bool.{Bool, true, false}
use mathlib.Core.List.{List}
use native.Mathlib.Omega.{arith}
use lib.ListN.{length}
use Rattle.bits.specs.Bits.{line_bit}
use Rattle.bits.proofs.Laws.{Words, none, more, number_lt}
use Rattle.bits.proofs.Lists.{line_bit_lt}
use Rattle.refusals.specs.First.{accepted}
use Rattle.lent_words.specs.Words.{word_at, flag_word}
use Rattle.kept_state.specs.declared.State.{State}
use Rattle.judging.specs.Judging.{burst_verdict}
use Rattle.bursts.specs.Burst.{state_fresh, burst_state, close_state}
use Rattle.bursts.proofs.Small.{largest, Small, small_fresh, small_next, small_close}
use Rattle.stored.specs.Stored.{state_words, state_in, stored_in}
use Rattle.stored.proofs.Laws.{stored_back}

-- ---- the words of a state fit their places

flag_lt : (b : Bool) → flag_word b < 2 ^ 64
flag_lt true = omega arith
flag_lt false = omega arith

below : {n : ℕ} → n ≤ largest → n < 2 ^ 64
below l = omega arith

small_words : (s : State) → Small s → Words 64 (state_words s)
small_words s w =
    let c = w.counts in
    let h = w.handed in
    more (flag_lt s.closed) (more w.bytes
    (more w.tested (more w.invalid (more (flag_lt s.lock.locked)
    (more w.blocks (more w.misses (more (flag_lt s.rate.high)
    (more w.history
    (more w.count (more w.header (more w.payload (more (flag_lt s.skip)
    (more w.diagram
    (more (flag_lt s.have) (more (flag_lt s.held.on) (more w.kind (more w.first (more w.second
    (more (below c.tested) (more (below c.slips) (more w.vectors
    (more (below c.headers) (more (below c.types) (more (below c.codes) (more (below c.sets)
    (more (below h.begun) (more (below h.replaced)
    (more w.edition none))))))))))))))))))))))))))))

small_back : (s : State) (bytes : List ℕ) → Small s → state_in (stored_in s bytes) ≡ s
small_back s bytes w = stored_back s bytes (small_words s w)

-- ---- and so do those of a slice

word_lt : (bytes : List ℕ) (i : ℕ) → word_at 8 bytes i < 2 ^ 64
unfolding word_at
word_lt bytes i = number_lt 64 (λ j. line_bit bytes (64 * i + j)) (λ j m. line_bit_lt bytes (64 * i + j))

small_in : (bytes : List ℕ) → Small (state_in bytes)
unfolding state_in
small_in bytes =
    record {
      bytes = word_lt bytes 1;
      edition = word_lt bytes 28;
      tested = word_lt bytes 2;
      invalid = word_lt bytes 3;
      blocks = word_lt bytes 5;
      misses = word_lt bytes 6;
      history = word_lt bytes 8;
      count = word_lt bytes 9;
      header = word_lt bytes 10;
      payload = word_lt bytes 11;
      diagram = word_lt bytes 13;
      kind = word_lt bytes 16;
      first = word_lt bytes 17;
      second = word_lt bytes 18;
      counts =
          record {
            tested = omega (arith, word_lt bytes 19);
            slips = omega (arith, word_lt bytes 20);
            headers = omega (arith, word_lt bytes 22);
            types = omega (arith, word_lt bytes 23);
            codes = omega (arith, word_lt bytes 24);
            sets = omega (arith, word_lt bytes 25);
          };
      vectors = word_lt bytes 21;
      handed = record { begun = omega (arith, word_lt bytes 26); replaced = omega (arith, word_lt bytes 27) };
    }

-- ---- a fresh state, the state after a burst, and the one after the closing call

pub fresh_again : (edition : ℕ) (bytes : List ℕ) → edition ≤ 1 → state_in (stored_in (state_fresh edition) bytes) ≡ state_fresh edition
fresh_again edition bytes k = small_back (state_fresh edition) bytes (small_fresh edition k)

pub burst_again : (s : State) (line room bytes : List ℕ) → burst_verdict s (length line) (length room) ≡ accepted → state_in (stored_in (burst_state s line) bytes) ≡ burst_state s line
burst_again s line room bytes v = small_back (burst_state s line) bytes (small_next s line room v)

pub close_again : (before room bytes : List ℕ) → burst_verdict (state_in before) 0 (length room) ≡ accepted
    → state_in (stored_in (close_state (state_in before)) bytes) ≡ close_state (state_in before)
close_again before room bytes v = small_back (close_state (state_in before)) bytes (small_close (state_in before) room v (small_in before))
