-- The frames of a legal list are good, but for one that is still open at its end. Assumes nothing.
use Prim.Native.Nat.{ℕ, zero, suc, ◌+◌, ◌*◌, ◌/◌, ◌%◌, ◌<◌}
use mathlib.Core.Path.{◌≡◌, refl, sym, ap, ap₂, ◌∙◌}
use mathlib.Core.Bool.{Bool, true, false, cond, not, ◌&&◌, ◌||◌, true≢false}
use mathlib.Core.List.{List, [], ◌∷◌, ◌++◌}
use native.Mathlib.Omega.{arith}
use lib.Dec.{eqb}
use lib.ListN.{length, get_or, take, drop}
use lib.Seq.{get_or-take, get_or-drop, drop-drop}
use borrow.Author.Tests.{not-true}
use Rattle.block.specs.declared.Edition.{Edition}
use Rattle.block.specs.declared.Edition.TheVariants.{Old, New}
use Rattle.block.specs.declared.Kind.{Kind}
use Rattle.block.specs.declared.Kind.TheVariants.{D, C, S, T, E, LI}
use Rattle.block.specs.Block.{edition_of, Format, data_block, control_blocks, is_d, is_s, is_t, same, low_power_vector, low_power, kind_for, flag_of, lane_of, carries, carrier, vector_kind, vectors_in}
use Rattle.diagrams.specs.Diagram.{after_idle, after_data, after_error, after_low, diagram_of, transmit_of}
use Rattle.diagrams.specs.declared.State.{State}
use Rattle.diagrams.specs.declared.State.TheVariants.{Init, Control, Data, Terminate, Error, LowPower}
use Rattle.demands.specs.Words.{in_error, legal_from}
use Rattle.demands.proofs.Accepted.{ten_each}
use Rattle.frames.specs.Frames.{Character, characters_of, quiet, starts, is_good, after_start, Frame, words_in, frames_from}
use Rattle.frames.specs.Apart.{is_open}
use Rattle.frames.proofs.Quiet.{and_both}
use Rattle.sent_frames.specs.SentFrames.{GoodOrOpen, LegalFrames}
use Rattle.sent_frames.proofs.Carried.{fine, fine_none, characters_from, data_run, terminated, every, data_fine, terminated_fine, carried_by}
use Rattle.sent_frames.proofs.Control.{refuses, not_carried, word_start}

-- ---- one vector, by its kind

module _ (ed : Edition) where
  -- a format takes no Start as character p, or it is of kind S and the n characters behind are data
  abbrev start_then : (p n : ℕ) → Format → Bool
  start_then p n f = refuses ed p f.fields || is_s f.kind && not (eqb f.type 0x1e) && data_run f.fields (suc p) n

  abbrev data_of : Format → Bool
  data_of f = not (is_d f.kind) || data_run f.fields 0 8

  abbrev end_of : Format → Bool
  end_of f = not (is_t f.kind) || terminated f.fields 0 8

  module _ (v : List ℕ) where
    abbrev formats : List Format
    formats = data_block ∷ control_blocks

    -- a test of kinds that low power idle does not pass
    format_kind : (is : Kind → Bool) → is LI ≡ false → (f : Format) → is (kind_for f v) ≡ true → is f.kind ≡ true
    unfolding kind_for
    format_kind is l f h = go (low_power f v) h
      where
        go : (b : Bool) → is (cond b LI f.kind) ≡ true → is f.kind ≡ true
        go true h = absurd (true≢false (sym h ∙ l))
        go false h = h

    unless : (a b : Bool) → (not a || b) ≡ true → a ≡ true → b ≡ true
    unless true b h e = h
    unless false b h e = absurd (true≢false (sym e))

    pub data_vector : every ed v data_of formats ≡ true → (rest : List Character) → is_d (vector_kind ed v) ≡ true → fine (characters_from v 0 8 rest) ≡ fine rest
    unfolding vector_kind carrier
    data_vector t rest k =
        carried_by ed v data_of formats t
        (λ f u c e. data_fine ed v f.fields 0 8 rest (unless (is_d f.kind) _ u (format_kind is_d refl f (ap is_d (sym e) ∙ k))) c)
        (λ e. absurd (true≢false (sym k ∙ ap is_d e)))

    pub terminate_vector : every ed v end_of formats ≡ true → (rest : List Character) → is_t (vector_kind ed v) ≡ true → fine (characters_from v 0 8 rest) ≡ true
    unfolding vector_kind carrier
    terminate_vector t rest k =
        carried_by ed v end_of formats t
        (λ f u c e. terminated_fine ed v f.fields 0 8 rest (unless (is_t f.kind) _ u (format_kind is_t refl f (ap is_t (sym e) ∙ k))) c)
        (λ e. absurd (true≢false (sym k ∙ ap is_t e)))

    -- a Start, in a vector that a block carries
    abbrev Begun : (p n : ℕ) → List Character → Type 0
    Begun p n rest = (is_s (vector_kind ed v) ≡ true) × (fine (characters_from v (suc p) n rest) ≡ fine rest)

    pub start_vector : (p n : ℕ) → every ed v (start_then p n) formats ≡ true → (rest : List Character) → flag_of v p ≡ 1 → lane_of v p ≡ 0xfb
        → (vector_kind ed v ≡ E → ⊥) → Begun p n rest
    unfolding vector_kind carrier kind_for
    start_vector p n t rest flag lane not_error =
        carried_by ed v (start_then p n) formats t
        (λ f u c e. go f c e (refuses ed p f.fields) refl u)
        (λ e. absurd (not_error e))
      where
        go : (f : Format) → carries ed v f.fields ≡ true → vector_kind ed v ≡ kind_for f v → (b : Bool) → refuses ed p f.fields ≡ b
            → (b || is_s f.kind && not (eqb f.type 0x1e) && data_run f.fields (suc p) n) ≡ true → Begun p n rest
        go f c e true r u = absurd (true≢false (sym c ∙ not_carried ed v p flag lane f.fields r))
        go f c e false r u =
            let q = and_both (is_s f.kind && not (eqb f.type 0x1e)) (data_run f.fields (suc p) n) u in
            let o = and_both (is_s f.kind) (not (eqb f.type 0x1e)) q.0 in
            let i : eqb f.type 0x1e ≡ false = not-true (eqb f.type 0x1e) o.1 in
            let k : kind_for f v ≡ f.kind = ap (λ (b : Bool). cond (b && same v low_power_vector) LI f.kind) i in
            (ap is_s (e ∙ k) ∙ o.0, data_fine ed v f.fields (suc p) n rest q.1 c)

-- the tests hold of all formats
tested : (ed : Edition) (v : List ℕ)
    → (every ed v (data_of ed) (data_block ∷ control_blocks) ≡ true) × (every ed v (end_of ed) (data_block ∷ control_blocks) ≡ true)
    × (every ed v (start_then ed 0 7) (data_block ∷ control_blocks) ≡ true) × (every ed v (start_then ed 4 3) (data_block ∷ control_blocks) ≡ true)
tested Old v = (refl, refl, refl, refl)
tested New v = (refl, refl, refl, refl)

-- ---- the characters of a vector are those of its two words

module _ (bytes : List ℕ) (ws : List (List ℕ)) where
  w₀ : (j : ℕ) → j < 5 → get_or (take 5 bytes) j 0 ≡ get_or (take 10 bytes) j 0
  w₀ j l = get_or-take 5 bytes j 0 l ∙ sym (get_or-take 10 bytes j 0 (omega arith))

  w₁ : (j : ℕ) → j < 5 → get_or (take 5 (drop 5 bytes)) j 0 ≡ get_or (take 10 bytes) (5 + j) 0
  w₁ j l = get_or-take 5 (drop 5 bytes) j 0 l ∙ get_or-drop 5 bytes j 0 ∙ sym (get_or-take 10 bytes (5 + j) 0 (omega arith))

  pub behind_second : after_start (take 5 (drop 5 bytes)) ws ≡ characters_from (take 10 bytes) 5 3 (characters_of ws)
  behind_second = rw (w₁ 0 (omega arith), w₁ 2 (omega arith), w₁ 3 (omega arith), w₁ 4 (omega arith))

  pub behind_first : after_start (take 5 bytes) (take 5 (drop 5 bytes) ∷ ws) ≡ characters_from (take 10 bytes) 1 7 (characters_of ws)
  unfolding characters_of
  behind_first =
      rw (w₀ 0 (omega arith), w₀ 2 (omega arith), w₀ 3 (omega arith), w₀ 4 (omega arith), w₁ 0 (omega arith), w₁ 1 (omega arith), w₁ 2 (omega arith), w₁ 3 (omega arith), w₁ 4 (omega arith))

  pub both_words : characters_of (take 5 bytes ∷ take 5 (drop 5 bytes) ∷ ws) ≡ characters_from (take 10 bytes) 0 8 (characters_of ws)
  unfolding characters_of
  both_words = ap₂ (λ (c : Character) (cs : List Character). c ∷ cs) (rw (w₀ 0 (omega arith), w₀ 1 (omega arith))) behind_first

-- ---- legal lists

-- no state goes on after kind E, and kind S leads into a frame
not_error : (s : State) → in_error (transmit_of s E) ≡ true
unfolding diagram_of after_idle after_data after_error after_low
not_error Init = refl
not_error Control = refl
not_error Data = refl
not_error Terminate = refl
not_error Error = refl
not_error LowPower = refl

after_start_lem : (s : State) → in_error (transmit_of s S) ≡ false → transmit_of s S ≡ Data
unfolding diagram_of after_idle after_data after_error after_low
after_start_lem Init h = refl
after_start_lem Control h = refl
after_start_lem Data h = absurd (true≢false h)
after_start_lem Terminate h = refl
after_start_lem Error h = absurd (true≢false h)
after_start_lem LowPower h = absurd (true≢false h)

kind_s : (k : Kind) → is_s k ≡ true → k ≡ S
kind_s D h = absurd (true≢false (sym h))
kind_s C h = absurd (true≢false (sym h))
kind_s S h = refl
kind_s T h = absurd (true≢false (sym h))
kind_s E h = absurd (true≢false (sym h))
kind_s LI h = absurd (true≢false (sym h))

module _ (ed : Edition) where
  -- what a legal list says of its first vector and of the others
  legal_first : (s : State) (v : List ℕ) (vs : List (List ℕ)) → legal_from ed s (v ∷ vs) ≡ true
      → (in_error (transmit_of s (vector_kind ed v)) ≡ false) × (legal_from ed (transmit_of s (vector_kind ed v)) vs ≡ true)
  unfolding legal_from
  legal_first s v vs h = let q = and_both (not (in_error (transmit_of s (vector_kind ed v)))) _ h in (not-true _ q.0, q.1)

  -- the words of one vector more
  words_more : (n : ℕ) (bytes : List ℕ) → words_in (2 * suc n) bytes ≡ take 5 bytes ∷ take 5 (drop 5 bytes) ∷ words_in (2 * n) (drop 10 bytes)
  unfolding words_in
  words_more n bytes =
      let e : 2 * suc n ≡ suc (suc (2 * n)) = omega arith in
      ap (λ (m : ℕ). words_in m bytes) e ∙ ap (λ (l : List ℕ). take 5 bytes ∷ take 5 (drop 5 bytes) ∷ words_in (2 * n) l) (drop-drop 5 5 bytes)

  -- inside a frame: it goes on to a Terminate, or to the end
  inside : (n : ℕ) (bytes : List ℕ) → legal_from ed Data (vectors_in n bytes) ≡ true → fine (characters_of (words_in (2 * n) bytes)) ≡ true
  unfolding vectors_in words_in characters_of diagram_of after_data
  inside zero bytes h = fine_none
  inside (suc n) bytes h =
      let v = take 10 bytes in
      let q = legal_first Data v (vectors_in n (drop 10 bytes)) h in
      let t = tested ed v in
      let ws = words_in (2 * n) (drop 10 bytes) in
      ap (λ (l : List (List ℕ)). fine (characters_of l)) (words_more n bytes) ∙ ap fine (both_words bytes ws)
      ∙ go (vector_kind ed v) refl q.0 q.1 (data_vector ed v t.0 (characters_of ws)) (terminate_vector ed v t.1 (characters_of ws)) (inside n (drop 10 bytes))
    where
      go : (k : Kind) → vector_kind ed (take 10 bytes) ≡ k → in_error (transmit_of Data (vector_kind ed (take 10 bytes))) ≡ false
          → legal_from ed (transmit_of Data (vector_kind ed (take 10 bytes))) (vectors_in n (drop 10 bytes)) ≡ true
          → (is_d (vector_kind ed (take 10 bytes)) ≡ true
          → fine (characters_from (take 10 bytes) 0 8 (characters_of (words_in (2 * n) (drop 10 bytes)))) ≡ fine (characters_of (words_in (2 * n) (drop 10 bytes))))
          → (is_t (vector_kind ed (take 10 bytes)) ≡ true → fine (characters_from (take 10 bytes) 0 8 (characters_of (words_in (2 * n) (drop 10 bytes)))) ≡ true)
          → (legal_from ed Data (vectors_in n (drop 10 bytes)) ≡ true → fine (characters_of (words_in (2 * n) (drop 10 bytes))) ≡ true)
          → fine (characters_from (take 10 bytes) 0 8 (characters_of (words_in (2 * n) (drop 10 bytes)))) ≡ true
      go D e i l d t rec = d (ap is_d e) ∙ rec (sym (ap (λ (k : Kind). legal_from ed (transmit_of Data k) (vectors_in n (drop 10 bytes))) e) ∙ l)
      go T e i l d t rec = t (ap is_t e)
      go C e i l d t rec = absurd (true≢false (sym (ap (λ (k : Kind). in_error (transmit_of Data k)) e) ∙ i))
      go S e i l d t rec = absurd (true≢false (sym (ap (λ (k : Kind). in_error (transmit_of Data k)) e) ∙ i))
      go E e i l d t rec = absurd (true≢false (sym (ap (λ (k : Kind). in_error (transmit_of Data k)) e) ∙ i))
      go LI e i l d t rec = absurd (true≢false (sym (ap (λ (k : Kind). in_error (transmit_of Data k)) e) ∙ i))

  -- one frame more, where one begins
  one_more_lem : (t : Bool) (f : Frame) (fs : List Frame) → (t ≡ true → (is_good f.characters || is_open f.characters) ≡ true) → GoodOrOpen fs
      → GoodOrOpen (cond t (f ∷ []) [] ++ fs)
  one_more_lem true f fs g rest = (g refl, rest)
  one_more_lem false f fs g rest = rest

  from : (n : ℕ) (bytes : List ℕ) (b : Bool) (k : ℕ) (s : State) → legal_from ed s (vectors_in n bytes) ≡ true → GoodOrOpen (frames_from b k (words_in (2 * n) bytes))
  unfolding vectors_in words_in frames_from
  from zero bytes b k s h = tt
  from (suc n) bytes b k s h =
      let v = take 10 bytes in
      let q = legal_first s v (vectors_in n (drop 10 bytes)) h in
      let ws = words_in (2 * n) (drop 10 bytes) in
      let t = tested ed v in
      let no : vector_kind ed v ≡ E → ⊥ = λ e. true≢false (sym (not_error s) ∙ sym (ap (λ (k : Kind). in_error (transmit_of s k)) e) ∙ q.0) in
      let go_on : is_s (vector_kind ed v) ≡ true → fine (characters_of ws) ≡ true =
      λ i. let e = kind_s (vector_kind ed v) i in
      let d : transmit_of s (vector_kind ed v) ≡ Data =
      ap (transmit_of s) e ∙ after_start_lem s (sym (ap (λ (k : Kind). in_error (transmit_of s k)) e) ∙ q.0) in
      inside n (drop 10 bytes) (sym (ap (λ (x : State). legal_from ed x (vectors_in n (drop 10 bytes))) d) ∙ q.1) in
      rw (words_more n bytes)
      (one_more_lem (b && starts (take 5 bytes)) _ _
      (λ y.
      let c = word_start (take 5 bytes) (and_both b (starts (take 5 bytes)) y).1 in
      let g = start_vector ed v 0 7 t.2 (characters_of ws) (ap (λ (m : ℕ). m / 1 % 2) (sym (w₀ bytes ws 0 (omega arith))) ∙ c.0) (sym (w₀ bytes ws 1 (omega arith)) ∙ c.1) no in
      ap fine (behind_first bytes ws) ∙ g.1 ∙ go_on g.0)
      (one_more_lem (quiet (take 5 bytes) && starts (take 5 (drop 5 bytes))) _ _
      (λ y.
      let c = word_start (take 5 (drop 5 bytes)) (and_both (quiet (take 5 bytes)) (starts (take 5 (drop 5 bytes))) y).1 in
      let g = start_vector ed v 4 3 t.3 (characters_of ws) (ap (λ (m : ℕ). m / 1 % 2) (sym (w₁ bytes ws 0 (omega arith))) ∙ c.0) (sym (w₁ bytes ws 1 (omega arith)) ∙ c.1) no in
      ap fine (behind_second bytes ws) ∙ g.1 ∙ go_on g.0)
      (from n (drop 10 bytes) (quiet (take 5 (drop 5 bytes))) (k + 1 + 1) (transmit_of s (vector_kind ed v)) q.1)))

pub legal_frames : LegalFrames
legal_frames edition bytes start room ok h =
    let n : length bytes / 5 ≡ 2 * (length bytes / 10) = omega (arith, ten_each edition bytes start room ok) in
    rw n (from (edition_of edition) (length bytes / 10) bytes false 0 Init h)
