-- The definitions compute: worked examples, each by `refl`. A reviewer can skip this file.
use Rattle.std.specs.Prelude.{◌≡◌, refl, [], ◌∷◌, replicate}
use Rattle.refusals.specs.First.{first}
use Rattle.records.specs.Record.{body_limit, old_body_limit, read_at, read_checks, whole, end, refused}

nine : read_at body_limit (9 ∷ 0 ∷ 2 ∷ 0 ∷ replicate 9 0) 0 ≡ whole 2 4 9 13
unfolding read_at read_checks first
nine = refl

past : read_at body_limit (9 ∷ 0 ∷ 2 ∷ 0 ∷ replicate 9 0) 13 ≡ end
unfolding read_at read_checks first
past = refl

cut : read_at body_limit (9 ∷ 0 ∷ 2 ∷ 0 ∷ replicate 8 0) 0 ≡ refused 6 0
unfolding read_at read_checks first
cut = refl

-- the length comes before the kind, and the kind before the cut body
long : read_at body_limit (193 ∷ 255 ∷ 3 ∷ 0 ∷ []) 0 ≡ refused 7 0
unfolding read_at read_checks first
long = refl

kind_first : read_at body_limit (9 ∷ 9 ∷ 0 ∷ 3 ∷ 0 ∷ []) 1 ≡ refused 8 1
unfolding read_at read_checks first
kind_first = refl

-- a body of 4,093 bytes, as a new reader and as an old one finds it
longer : read_at body_limit (253 ∷ 15 ∷ 2 ∷ 0 ∷ replicate 4093 1) 0 ≡ whole 2 4 4093 4097
unfolding read_at read_checks first
longer = refl

longer_for_old : read_at old_body_limit (253 ∷ 15 ∷ 2 ∷ 0 ∷ replicate 4093 1) 0 ≡ refused 7 0
unfolding read_at read_checks first
longer_for_old = refl
