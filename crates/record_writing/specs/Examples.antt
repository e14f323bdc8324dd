-- The definitions compute: worked examples, each by `refl`. A reviewer can skip this file.
use Rattle.std.specs.Prelude.{◌≡◌, refl, true, false, [], ◌∷◌, replicate}
use Rattle.refusals.specs.First.{first}
use Rattle.record_writing.specs.Writing.{limit_kept, write_checks, write_answer, written_room, wrote, unwritten}

written : written_room (limit_kept false) 2 (7 ∷ 8 ∷ []) (replicate 8 255) ≡ 2 ∷ 0 ∷ 2 ∷ 0 ∷ 7 ∷ 8 ∷ 255 ∷ 255 ∷ []
unfolding written_room write_checks first
written = refl

-- a longer body is written by a yes and refused by a no
longer_by_yes : write_answer (limit_kept true) 2 (replicate 4093 1) (replicate 4097 0) ≡ wrote 4097
unfolding write_answer write_checks first
longer_by_yes = refl

longer_by_no : write_answer (limit_kept false) 2 (replicate 4093 1) (replicate 4097 0) ≡ unwritten 7 0
unfolding write_answer write_checks first
longer_by_no = refl
