-- Document 02, 8/13: "Where is the n-th error vector".
use Rattle.std.specs.Prelude.{ℕ, zero, suc, ◌+◌, ◌-◌, ◌*◌, ◌/◌, cond, ◌&&◌, List, [], ◌∷◌, take, drop, eqb, ltb}
use Rattle.lent_words.specs.Words.{flag_word}
use Rattle.block.specs.Block.{is_error_vector}
use Rattle.index.specs.Index.{entry_count, errors_at}
use Rattle.index_search.specs.declared.Halved.{Halved}

-- how many vectors stand before the n-th error vector, n from 1; all of them where there is none
unfoldable pub before_nth : ℕ → List (List ℕ) → ℕ
before_nth n [] = 0
before_nth n (v ∷ vs) = cond (is_error_vector v && eqb n 1) 0 (suc (before_nth (n - flag_word (is_error_vector v)) vs))

-- ---- "found by halving a range of entries until one remains"

-- An entry is read, and the search goes on.
abbrev pub one_more_read : Halved → Halved
one_more_read h = record { entry = h.entry; read = h.read + 1 }

-- A range of `len` entries, from entry `low` on. The entry in its middle is read: where fewer than n error vectors stand before it, the search
-- goes on from there, else below it. The entry that remains is read too. Each range is shorter than the one before: `len` steps are enough.
unfoldable pub halved : (enough : ℕ) → List ℕ → (n low len : ℕ) → Halved
halved zero index n low len = record { entry = low; read = 1 }
halved (suc enough) index n low len =
    cond (ltb 1 len)
    (cond (ltb (errors_at index (low + len / 2)) n)
    (one_more_read (halved enough index n (low + len / 2) (len - len / 2)))
    (one_more_read (halved enough index n low (len / 2))))
    (record { entry = low; read = 1 })

-- from all entries
abbrev pub searched : List (List ℕ) → List ℕ → ℕ → Halved
searched vs index n = halved (entry_count vs) index n 0 (entry_count vs)

-- ---- the vector

-- the at most 64 vectors after entry k
abbrev pub after_entry : List (List ℕ) → ℕ → List (List ℕ)
after_entry vs k = take 64 (drop (64 * k) vs)

-- how many of these stand before the one that makes n, with those that stand before the entry
abbrev pub passed_by : List (List ℕ) → List ℕ → (n k : ℕ) → ℕ
passed_by vs index n k = before_nth (n - errors_at index k) (after_entry vs k)
