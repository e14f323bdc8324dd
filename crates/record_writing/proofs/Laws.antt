-- What writing answers and leaves, by the first test that says so. Assumes nothing.
use Prim.Native.Nat.{ℕ, ◌+◌, ◌≤◌, ◌<◌}
use mathlib.Core.Path.{◌≡◌}
use mathlib.Core.Bool.{Bool, true, false}
use mathlib.Core.List.{List, ◌++◌}
use native.Mathlib.Omega.{arith}
use lib.ListN.{length, drop}
use borrow.Author.Tests.{le-ltb, lt-ltb}
use Rattle.refusals.specs.First.{first}
use Rattle.records.specs.Record.{unknown_kind, not_groups}
use Rattle.record_writing.specs.Writing.{limit_kept, write_checks, record_of, WriteAnswer, wrote, unwritten, write_answer, written_room}

-- Either limit is below 65,536.
pub both_small : (wide : Bool) → limit_kept wide < 65536
both_small true = omega arith
both_small false = omega arith

module _ (limit kind : ℕ) (body room : List ℕ) where
  abbrev pub Came : (answer : WriteAnswer) (after : List ℕ) → Type 0
  Came answer after = (answer ≡ write_answer limit kind body room) × (after ≡ written_room limit kind body room)

  pub too_long : limit < length body → Came (unwritten 7 0) room
  unfolding write_answer written_room write_checks first
  too_long h = let t = lt-ltb limit (length body) h in (simp t, simp t)

  module _ (short : length body ≤ limit) where
    pub no_kind : unknown_kind kind ≡ true → Came (unwritten 8 0) room
    unfolding write_answer written_room write_checks first
    no_kind k = let t = le-ltb limit (length body) short in (simp (t, k), simp (t, k))

    module _ (known : unknown_kind kind ≡ false) where
      pub no_groups : not_groups kind (length body) ≡ true → Came (unwritten 2 0) room
      unfolding write_answer written_room write_checks first
      no_groups g = let t = le-ltb limit (length body) short in (simp (t, known, g), simp (t, known, g))

      module _ (groups : not_groups kind (length body) ≡ false) where
        pub no_room : length room < length body + 4 → Came (unwritten 4 0) room
        unfolding write_answer written_room write_checks first
        no_room h =
            let t = le-ltb limit (length body) short in
            let r = lt-ltb (length room) (length body + 4) h in
            (simp (t, known, groups, r), simp (t, known, groups, r))

        pub written : length body + 4 ≤ length room → Came (wrote (length body + 4)) (record_of kind body ++ drop (length body + 4) room)
        unfolding write_answer written_room write_checks first
        written h =
            let t = le-ltb limit (length body) short in
            let r = le-ltb (length room) (length body + 4) h in
            (simp (t, known, groups, r), simp (t, known, groups, r))
