-- What decoding answers, from the octets of a row: the short paths and the general one.
use mathlib.Core.Path.{◌≡◌, refl, ◌∙◌, ap, ap₂, subst, subst₂, sym}
use mathlib.Core.Bool.{Bool, true, false, cond, ◌&&◌, ◌||◌, false≢true}
use mathlib.Core.Logic.{inl, inr}
use mathlib.Core.List.{List, [], ◌∷◌, ◌++◌}
use Prim.Native.Nat.{ℕ, suc, zero-le, ◌/◌, ◌%◌, ◌^◌, ◌<◌, ◌≤◌}
use native.Mathlib.Omega.{arith}
use lib.Dec.{eqb, lit<}
use lib.ListN.{length}
use borrow.Author.Tests.{ne_eqb}
use Rattle.block.specs.declared.Edition.{Edition}
use Rattle.block.specs.declared.Edition.TheVariants.{New}
use Rattle.block.specs.declared.Reason.TheVariants.{Header, BlockType, ControlCode, SetCode}
use Rattle.block.specs.declared.Class.{Class}
use Rattle.block.specs.Block.{word, two_words, Format, no_format, data_block, octet_at, flags_at, by_type, control_blocks, format_of, kind_for, vector_of, error_vector, decoded_by, decoded, good, class_by, class_of}
use Rattle.block.specs.Rows.{row, row_of, index_of}
use Rattle.block.proofs.Formats.{flags_lt, row_sound, row_format, row_none}
use Rattle.block.proofs.Reading.{Below, when_valid, when_not, data_below}
use Rattle.block.proofs.Telling.{Tells, character_tells, vector_tells}
use Rattle.block.proofs.Classes.{None, none_below, class_good, class_control, class_set, class_data, class_no_type, class_no_header}
use Rattle.block.proofs.Sending.{ten}
use Rattle.std.specs.Prelude.{Result, Ok, Err, is_ok}
use Rattle.block.specs.declared.Reason.{Reason}
use Rattle.characters.specs.Octets.{read_as, lanes_by, control_fault, joined, four_by}
use Rattle.decoding.specs.Halves.{both}

-- the octet of character p of a block of row r, not below 256 where its bits are not valid
abbrev pub octet_by : Edition → ℕ → ℕ → ℕ → ℕ
octet_by ed r x p = octet_at ed (row r).fields (x / 2 ^ (row r).lead) p

-- ---- numbers

-- four bytes as lanes, and back
lanes_back : (control a b c d : ℕ) → a < 256 → b < 256 → c < 256 → d < 256 → word control (lanes_by a b c d) ≡ control ∷ a ∷ b ∷ c ∷ d ∷ []
lanes_back control a b c d p q s t = go control a b c d (omega arith) (omega arith) (omega arith) (omega arith)
  where
    go : {l m n o : ℕ} (control a b c d : ℕ) → l ≡ a → m ≡ b → n ≡ c → o ≡ d → control ∷ l ∷ m ∷ n ∷ o ∷ [] ≡ control ∷ a ∷ b ∷ c ∷ d ∷ []
    go control a b c d p q s t = λ i. control ∷ p i ∷ q i ∷ s i ∷ t i ∷ []

-- ---- a character as it is read

-- a byte is read as it is
small_read : (o : ℕ) → o < 256 → read_as o ≡ Ok o
small_read o l = rw (ne_eqb 256 o (λ e. omega arith), ne_eqb 512 o (λ e. omega arith))

-- what is read says that a control code is bad where the octet does
fault_by : (p q : Bool) (o : ℕ) → control_fault (cond p (Err ControlCode) (cond q (Err SetCode) (Ok o))) ≡ p
fault_by true q o = refl
fault_by false true o = refl
fault_by false false o = refl

fault_is : (o : ℕ) → control_fault (read_as o) ≡ eqb 256 o
fault_is o = fault_by (eqb 256 o) (eqb 512 o) o

-- one of which no code is bad is a byte
ok_small : (o : ℕ) → Tells o → is_ok (read_as o) ≡ true → o < 256
ok_small o (inl l) e = l
ok_small o (inr (inl q)) e = absurd (false≢true (subst (λ (n : ℕ). is_ok (read_as n) ≡ true) q e))
ok_small o (inr (inr q)) e = absurd (false≢true (subst (λ (n : ℕ). is_ok (read_as n) ≡ true) q e))

-- tests that hold together, and tests of which none holds
and_true : (p q : Bool) → p && q ≡ true → (p ≡ true) × (q ≡ true)
and_true true true e = (refl, refl)
and_true true false e = absurd (false≢true e)
and_true false q e = absurd (false≢true e)

or_false : (p q : Bool) → p || q ≡ false → (p ≡ false) × (q ≡ false)
or_false false false e = (refl, refl)
or_false false true e = absurd (false≢true (sym e))
or_false true q e = absurd (false≢true (sym e))

four_true : (p q r s : Bool) → p && q && r && s ≡ true → (p ≡ true) × (q ≡ true) × (r ≡ true) × (s ≡ true)
four_true p q r s e =
    let a = and_true (p && q && r) s e in
    let b = and_true (p && q) r a.0 in
    let c = and_true p q b.0 in
    (c.0, c.1, b.1, a.1)

four_false : (p q r s : Bool) → p || q || r || s ≡ false → (p ≡ false) × (q ≡ false) × (r ≡ false) × (s ≡ false)
four_false p q r s e =
    let a = or_false (p || q || r) s e in
    let b = or_false (p || q) r a.0 in
    let c = or_false p q b.0 in
    (c.0, c.1, b.1, a.1)

-- what is read of four characters, and of both halves, by its tests
pick_ok : {A : Type 0} {z : A} (y : A) (p q : Bool) → ◌≡◌ {A = Result A Reason} (Ok z) (cond p (Err ControlCode) (cond q (Ok y) (Err SetCode))) → q ≡ true
pick_ok y true q e = absurd cc
pick_ok y false true e = refl
pick_ok y false false e = absurd cc

pick_bad : {A : Type 0} (y : A) {why : Reason} {x : Class} (p q : Bool) → ◌≡◌ {A = Result A Reason} (Err why) (cond p (Err ControlCode) (cond q (Ok y) (Err SetCode)))
    → (p ≡ true → Class.Bad ControlCode ≡ x) → (p ≡ false → Class.Bad SetCode ≡ x) → Class.Bad why ≡ x
pick_bad y {why} true q e f g = let w : why ≡ ControlCode = cc in ap Class.Bad w ∙ f refl
pick_bad y false true e f g = absurd cc
pick_bad y {why} false false e f g = let w : why ≡ SetCode = cc in ap Class.Bad w ∙ g refl

half_ok : (l : ℕ) (p q : Bool) → is_ok (cond p (Err ControlCode) (cond q (Ok l) (Err SetCode))) ≡ true → q ≡ true
half_ok l true q e = absurd (false≢true e)
half_ok l false true e = refl
half_ok l false false e = absurd (false≢true e)

half_fault : (l : ℕ) (p q : Bool) → control_fault (cond p (Err ControlCode) (cond q (Ok l) (Err SetCode))) ≡ p
half_fault l true q = refl
half_fault l false true = refl
half_fault l false false = refl

four_small : (a b c d : ℕ) → a < 256 → b < 256 → c < 256 → d < 256 → four_by a b c d ≡ Ok (lanes_by a b c d)
four_small a b c d p q s t = λ i. joined (small_read a p i) (small_read b q i) (small_read c s i) (small_read d t i)

four_ok : (a b c d : ℕ) → Tells a → Tells b → Tells c → Tells d → is_ok (four_by a b c d) ≡ true → (a < 256) × (b < 256) × (c < 256) × (d < 256)
four_ok a b c d p q s t e =
    let w = four_true (is_ok (read_as a)) (is_ok (read_as b)) (is_ok (read_as c)) (is_ok (read_as d)) (half_ok _ _ _ e) in
    (ok_small a p w.0, ok_small b q w.1, ok_small c s w.2, ok_small d t w.3)

four_fault : (a b c d : ℕ) → control_fault (four_by a b c d) ≡ (eqb 256 a || eqb 256 b || eqb 256 c || eqb 256 d)
four_fault a b c d = half_fault _ _ _ ∙ (λ i. fault_is a i || fault_is b i || fault_is c i || fault_is d i)

-- a row's number
index_le : (fs : List Format) (y : ℕ) → index_of fs y ≤ length fs
index_le [] y = zero-le
index_le (f ∷ fs) y = go (eqb f.type y) (index_le fs y)
  where
    go : (b : Bool) → index_of fs y ≤ length fs → cond b 0 (suc (index_of fs y)) ≤ suc (length fs)
    go true h = zero-le
    go false h = omega arith

pub row_le : (y : ℕ) → row_of y ≤ 16
row_le y = omega (arith, index_le control_blocks y)

-- ---- eight low power idles, in the newer edition

low_block : (Class.LI ≡ class_of New 1 0x0c183060c183061e) × (two_words 15 0x06060606 15 0x06060606 ≡ decoded New 1 0x0c183060c183061e)
unfolding class_of decoded kind_for
low_block = (refl, refl)

module _ (ed : Edition) where
  -- ---- the general row

  module _ (r x : ℕ) where
    -- all eight octets are bytes
    Small : Type 0
    Small =
        (octet_by ed r x 0 < 256) × (octet_by ed r x 1 < 256) × (octet_by ed r x 2 < 256) × (octet_by ed r x 3 < 256) × (octet_by ed r x 4 < 256) × (octet_by ed r x 5 < 256) × (octet_by ed r x 6 < 256) × (octet_by ed r x 7 < 256)

    small_below : Small → Below 256 (vector_of ed (row r) x)
    unfolding Small
    small_below s =
        (omega (arith, flags_lt (row r).fields 0), (s.0, (s.1, (s.2, (s.3, (omega (arith, flags_lt (row r).fields 4), (s.4, (s.5, (s.6, (s.7, tt))))))))))

    below_small : Below 256 (vector_of ed (row r) x) → Small
    unfolding Small
    below_small w = (w.1.0, w.1.1.0, w.1.1.1.0, w.1.1.1.1.0, w.1.1.1.1.1.1.0, w.1.1.1.1.1.1.1.0, w.1.1.1.1.1.1.1.1.0, w.1.1.1.1.1.1.1.1.1.0)

  module _ (r x : ℕ) (inside : r < 16) where
    tells : (i : ℕ) → i < 8 → Tells (octet_by ed r x i)
    tells = character_tells ed (row r) (row_sound r inside) x

    -- what is read of each half, and the lanes of bytes
    abbrev pub low : Result ℕ Reason
    low = four_by (octet_by ed r x 0) (octet_by ed r x 1) (octet_by ed r x 2) (octet_by ed r x 3)

    abbrev pub high : Result ℕ Reason
    high = four_by (octet_by ed r x 4) (octet_by ed r x 5) (octet_by ed r x 6) (octet_by ed r x 7)

    low_lanes : ℕ
    low_lanes = lanes_by (octet_by ed r x 0) (octet_by ed r x 1) (octet_by ed r x 2) (octet_by ed r x 3)

    high_lanes : ℕ
    high_lanes = lanes_by (octet_by ed r x 4) (octet_by ed r x 5) (octet_by ed r x 6) (octet_by ed r x 7)

    small_both : Small r x → both low high ≡ Ok (low_lanes, high_lanes)
    unfolding Small low_lanes high_lanes
    small_both s =
        ap₂ both (four_small (octet_by ed r x 0) (octet_by ed r x 1) (octet_by ed r x 2) (octet_by ed r x 3) s.0 s.1 s.2 s.3)
        (four_small (octet_by ed r x 4) (octet_by ed r x 5) (octet_by ed r x 6) (octet_by ed r x 7) s.4 s.5 s.6 s.7)

    -- the answer of a row whose eight characters are valid
    module _ (d0 d1 : ℕ) (e : Ok (d0, d1) ≡ both low high) where
      whole : Small r x
      unfolding Small
      whole =
          let t = and_true (is_ok low) (is_ok high) (pick_ok _ _ _ e) in
          let a = four_ok (octet_by ed r x 0) (octet_by ed r x 1) (octet_by ed r x 2) (octet_by ed r x 3) (tells 0 (lit< tt)) (tells 1 (lit< tt)) (tells 2 (lit< tt)) (tells 3 (lit< tt)) t.0 in
          let b = four_ok (octet_by ed r x 4) (octet_by ed r x 5) (octet_by ed r x 6) (octet_by ed r x 7) (tells 4 (lit< tt)) (tells 5 (lit< tt)) (tells 6 (lit< tt)) (tells 7 (lit< tt)) t.1 in
          (a.0, a.1, a.2, a.3, b.0, b.1, b.2, b.3)

      lanes_are : (d0 ≡ low_lanes) × (d1 ≡ high_lanes)
      lanes_are = go (e ∙ small_both whole)
        where
          go : ◌≡◌ {A = Result (ℕ × ℕ) Reason} (Ok (d0, d1)) (Ok (low_lanes, high_lanes)) → (d0 ≡ low_lanes) × (d1 ≡ high_lanes)
          go e =
              let p : ◌≡◌ {A = ℕ × ℕ} (d0, d1) (low_lanes, high_lanes) = cc in
              (ap (λ (v : ℕ × ℕ). v.0) p, ap (λ (v : ℕ × ℕ). v.1) p)

      pub row_valid : (c0 c1 : ℕ) (c : Class) → c0 ≡ flags_at (row r).fields 0 → c1 ≡ flags_at (row r).fields 4 → c ≡ good (kind_for (row r) (two_words c0 d0 c1 d1))
          → (c ≡ class_by ed (row r) x) × (two_words c0 d0 c1 d1 ≡ decoded_by ed (row r) x)
      unfolding Small low_lanes high_lanes
      row_valid c0 c1 c f0 f1 q =
          (q ∙ ap (λ (v : List ℕ). good (kind_for (row r) v)) words ∙ sym (class_good ed (row r) x w), words ∙ sym (when_valid ed (row r) x w).1)
        where
          w : Below 256 (vector_of ed (row r) x)
          w = small_below r x whole

          words : two_words c0 d0 c1 d1 ≡ vector_of ed (row r) x
          words =
              ap₂ (λ (l l' : ℕ). two_words c0 l c1 l') lanes_are.0 lanes_are.1
              ∙ ap₂ ◌++◌ (lanes_back c0 (octet_by ed r x 0) (octet_by ed r x 1) (octet_by ed r x 2) (octet_by ed r x 3) whole.0 whole.1 whole.2 whole.3)
              (lanes_back c1 (octet_by ed r x 4) (octet_by ed r x 5) (octet_by ed r x 6) (octet_by ed r x 7) whole.4 whole.5 whole.6 whole.7)
              ∙ ten f0 refl refl refl refl f1 refl refl refl refl

    -- and of a row of which one character is not valid
    module _ (why : Reason) (e : Err why ≡ both low high) where
      not_small : Small r x → ⊥
      not_small s = go (e ∙ small_both s)
        where
          go : ◌≡◌ {A = Result (ℕ × ℕ) Reason} (Err why) (Ok (low_lanes, high_lanes)) → ⊥
          go e = cc

      -- none says that its control code is bad where none was read so
      silent : control_fault low || control_fault high ≡ false → None 256 (vector_of ed (row r) x)
      silent q =
          let t = or_false (control_fault low) (control_fault high) q in
          let a = four_false (eqb 256 (octet_by ed r x 0)) (eqb 256 (octet_by ed r x 1)) (eqb 256 (octet_by ed r x 2)) (eqb 256 (octet_by ed r x 3)) (sym (four_fault (octet_by ed r x 0) (octet_by ed r x 1) (octet_by ed r x 2) (octet_by ed r x 3)) ∙ t.0) in
          let b = four_false (eqb 256 (octet_by ed r x 4)) (eqb 256 (octet_by ed r x 5)) (eqb 256 (octet_by ed r x 6)) (eqb 256 (octet_by ed r x 7)) (sym (four_fault (octet_by ed r x 4) (octet_by ed r x 5) (octet_by ed r x 6) (octet_by ed r x 7)) ∙ t.1) in
          (flag 0, (a.0, (a.1, (a.2, (a.3, (flag 4, (b.0, (b.1, (b.2, (b.3, tt))))))))))
        where
          flag : (i : ℕ) → eqb 256 (flags_at (row r).fields i) ≡ false
          flag i = ne_eqb 256 (flags_at (row r).fields i) (λ e. omega (arith, flags_lt (row r).fields i))

      told : None 256 (vector_of ed (row r) x) → control_fault low || control_fault high ≡ false
      told w =
          ap₂ ◌||◌
          (four_fault (octet_by ed r x 0) (octet_by ed r x 1) (octet_by ed r x 2) (octet_by ed r x 3) ∙ (λ i. w.1.0 i || w.1.1.0 i || w.1.1.1.0 i || w.1.1.1.1.0 i))
          (four_fault (octet_by ed r x 4) (octet_by ed r x 5) (octet_by ed r x 6) (octet_by ed r x 7) ∙ (λ i. w.1.1.1.1.1.1.0 i || w.1.1.1.1.1.1.1.0 i || w.1.1.1.1.1.1.1.1.0 i || w.1.1.1.1.1.1.1.1.1.0 i))

      pub row_bad : (Class.Bad why ≡ class_by ed (row r) x) × (error_vector ≡ decoded_by ed (row r) x)
      row_bad = (pick_bad _ _ _ e of_control_code of_set_code, sym (when_not ed (row r) x (λ w. not_small (below_small r x w))).1)
        where
          of_control_code : control_fault low || control_fault high ≡ true → Class.Bad ControlCode ≡ class_by ed (row r) x
          of_control_code t = sym (class_control ed (row r) x (λ w. false≢true (sym (told w) ∙ t)))

          of_set_code : control_fault low || control_fault high ≡ false → Class.Bad SetCode ≡ class_by ed (row r) x
          of_set_code t =
              sym (class_set ed (row r) x (silent t) (λ w. not_small (below_small r x (none_below (vector_of ed (row r) x) (vector_tells ed (row r) (row_sound r inside) x) (silent t) w))))

  -- ---- a block

  -- eight data octets, straight from the payload
  pub data_answer : (h x : ℕ) → h ≡ 2 → (Class.D ≡ class_of ed h x) × (two_words 0 (x % 4294967296) 0 (x / 4294967296) ≡ decoded ed h x)
  unfolding decoded
  data_answer h x e =
      subst (λ (h : ℕ). (Class.D ≡ class_of ed h x) × (two_words 0 (x % 4294967296) 0 (x / 4294967296) ≡ decoded ed h x)) (sym e) (sym (class_data ed x), words)
    where
      words : two_words 0 (x % 4294967296) 0 (x / 4294967296) ≡ decoded ed 2 x
      words =
          ten refl (omega arith) (omega arith) (omega arith) (omega arith) refl (omega arith) (omega arith) (omega arith) (omega arith)
          ∙ sym (when_valid ed data_block x (data_below ed x)).1

  -- a control block has header 1
  pub of_control : (h x : ℕ) (c : Class) (v : List ℕ) → h ≡ 1 → (c ≡ class_of ed 1 x) × (v ≡ decoded ed 1 x) → (c ≡ class_of ed h x) × (v ≡ decoded ed h x)
  of_control h x c v e w = subst (λ (h : ℕ). (c ≡ class_of ed h x) × (v ≡ decoded ed h x)) (sym e) w

  -- eight low power idles, in the edition that has them
  pub low_answer : (h x : ℕ) → ed ≡ New → h ≡ 1 → x ≡ 0x0c183060c183061e → (Class.LI ≡ class_of ed h x) × (two_words 15 0x06060606 15 0x06060606 ≡ decoded ed h x)
  low_answer h x n e q =
      subst (λ (ed : Edition). (Class.LI ≡ class_of ed h x) × (two_words 15 0x06060606 15 0x06060606 ≡ decoded ed h x)) (sym n)
      (subst₂ (λ (h x : ℕ). (Class.LI ≡ class_of New h x) × (two_words 15 0x06060606 15 0x06060606 ≡ decoded New h x)) (sym e) (sym q) low_block)

  -- a type that is none, and a header that is neither
  no_format_lem : (h x : ℕ) → format_of h x ≡ no_format → error_vector ≡ decoded ed h x
  unfolding decoded
  no_format_lem h x f = ap (λ (g : Format). decoded_by ed g x) (sym f)

  pub no_type : (h x r : ℕ) → h ≡ 1 → r ≡ row_of (x % 256) → 16 ≤ r → (Class.Bad BlockType ≡ class_of ed h x) × (error_vector ≡ decoded ed h x)
  no_type h x r e q l = (
    sym (class_no_type ed x (subst (λ (n : ℕ). 16 ≤ n) q l)) ∙ ap (λ (n : ℕ). class_of ed n x) (sym e),
    no_format_lem h x (ap (λ (n : ℕ). format_of n x) e ∙ sym (row_format 1 x) ∙ ap row (sym q) ∙ row_none r l),
  )

  pub no_header : (h x : ℕ) → (h ≡ 2 → ⊥) → (h ≡ 1 → ⊥) → (Class.Bad Header ≡ class_of ed h x) × (error_vector ≡ decoded ed h x)
  no_header h x n m = (
    sym (class_no_header ed h x n m),
    no_format_lem h x
        (ap₂ (λ (a b : Bool). cond a data_block (cond b (by_type control_blocks (x % 2 ^ 8)) no_format)) (ne_eqb h 2 n) (ne_eqb h 1 m)),
  )
