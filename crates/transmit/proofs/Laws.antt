-- Laws of sending over plain lists. Assumes nothing.
use Prim.Native.Nat.{ℕ, suc, ◌+◌, ◌^◌, ◌≤◌, ◌<◌}
use mathlib.Core.Path.{◌≡◌, refl, sym, ap, ap₂, ◌∙◌, subst}
use mathlib.Core.List.{List, [], ◌∷◌, ◌++◌}
use native.Mathlib.Nat.{zero-add, add-zero, add_assoc}
use native.Mathlib.Omega.{arith}
use lib.ListN.{length}
use Rattle.diagrams.specs.Diagram.{transmit_of}
use Rattle.block.specs.declared.Edition.{Edition}
use Rattle.diagrams.specs.declared.State.{State}
use Rattle.diagrams.specs.declared.State.TheVariants.{Init, Control, Data, Terminate, Error, LowPower}
use Rattle.scrambler.specs.Scrambler.{history_after}
use Rattle.scrambler.proofs.Laws.{history_after_lt}
use Rattle.line.specs.BlockNumber.{block_number}
use Rattle.line.specs.declared.Block.{Block}
use Rattle.block.specs.Block.{vector_kind}
use Rattle.transmit.specs.Send.{block_in, replaced_in, scrambled_block, state_after, replaced, sent_blocks, line_words, history_over}
use Rattle.transmit.specs.declared.Sender.{Sender}
use Rattle.transmit.specs.Steps.{SentAs}

-- ---- a list of vectors in two parts

words_append : (h : ℕ) (xs ys : List Block) → line_words h (xs ++ ys) ≡ line_words h xs ++ line_words (history_over h xs) ys
unfolding line_words history_over
words_append h [] ys = refl
words_append h (b ∷ xs) ys =
    ap (λ (ws : List ℕ). block_number (scrambled_block b h) ∷ ws) (words_append (history_after b.payload h) xs ys)

history_append : (h : ℕ) (xs ys : List Block) → history_over h (xs ++ ys) ≡ history_over (history_over h xs) ys
unfolding history_over
history_append h [] ys = refl
history_append h (b ∷ xs) ys = history_append (history_after b.payload h) xs ys

replaced_in_le : (s : State) → replaced_in s ≤ 1
replaced_in_le Init = omega arith
replaced_in_le Control = omega arith
replaced_in_le Data = omega arith
replaced_in_le Terminate = omega arith
replaced_in_le Error = omega arith
replaced_in_le LowPower = omega arith

length_words : (h : ℕ) (bs : List Block) → length (line_words h bs) ≡ length bs
unfolding line_words
length_words h [] = refl
length_words h (b ∷ bs) = ap suc (length_words (history_after b.payload h) bs)

history_lt : (h : ℕ) (bs : List Block) → h < 2 ^ 58 → history_over h bs < 2 ^ 58
unfolding history_over
history_lt h [] l = l
history_lt h (b ∷ bs) l = history_lt (history_after b.payload h) bs (history_after_lt b.payload h l)

module _ (ed : Edition) where
  -- ---- the states, the count and the blocks of a list in two parts

  state_append : (s : State) (xs ys : List (List ℕ)) → state_after ed s (xs ++ ys) ≡ state_after ed (state_after ed s xs) ys
  unfolding state_after
  state_append s [] ys = refl
  state_append s (v ∷ xs) ys = state_append (transmit_of s (vector_kind ed v)) xs ys

  replaced_append : (s : State) (xs ys : List (List ℕ)) → replaced ed s (xs ++ ys) ≡ replaced ed s xs + replaced ed (state_after ed s xs) ys
  unfolding state_after replaced
  replaced_append s [] ys = sym (zero-add (replaced ed s ys))
  replaced_append s (v ∷ xs) ys =
      let t = transmit_of s (vector_kind ed v) in
      ap (λ (n : ℕ). replaced_in t + n) (replaced_append t xs ys)
      ∙ sym (add_assoc (replaced_in t) (replaced ed t xs) (replaced ed (state_after ed t xs) ys))

  blocks_append : (s : State) (xs ys : List (List ℕ)) → sent_blocks ed s (xs ++ ys) ≡ sent_blocks ed s xs ++ sent_blocks ed (state_after ed s xs) ys
  unfolding state_after sent_blocks
  blocks_append s [] ys = refl
  blocks_append s (v ∷ xs) ys =
      let t = transmit_of s (vector_kind ed v) in
      ap (λ (bs : List Block). block_in ed t v ∷ bs) (blocks_append t xs ys)

  -- ---- how many, and how large

  replaced_le : (s : State) (vs : List (List ℕ)) → replaced ed s vs ≤ length vs
  unfolding replaced
  replaced_le s [] = omega arith
  replaced_le s (v ∷ vs) =
      let t = transmit_of s (vector_kind ed v) in
      omega (arith, replaced_in_le t, replaced_le t vs)

  pub length_blocks : (s : State) (vs : List (List ℕ)) → length (sent_blocks ed s vs) ≡ length vs
  unfolding sent_blocks
  length_blocks s [] = refl
  length_blocks s (v ∷ vs) = ap suc (length_blocks (transmit_of s (vector_kind ed v)) vs)

  -- ---- sending in two parts

  pub sends_none : (s : Sender) → SentAs ed s [] [] s
  unfolding state_after history_over sent_blocks replaced line_words
  sends_none s = record { diagram = refl; history = refl; count = sym (add-zero s.replaced); line = refl }

  pub sends_join : (s m r : Sender) (xs ys : List (List ℕ)) (a b : List ℕ) → SentAs ed s xs a m → SentAs ed m ys b r → SentAs ed s (xs ++ ys) (a ++ b) r
  sends_join s m r xs ys a b p q =
      let t = s.diagram in
      let h = s.history in
      let bs = sent_blocks ed t xs in
      record {
        diagram = q.diagram ∙ ap (λ (u : State). state_after ed u ys) p.diagram ∙ sym (state_append t xs ys);
        history =
            q.history
            ∙ ap₂ (λ (n : ℕ) (u : State). history_over n (sent_blocks ed u ys)) p.history p.diagram
            ∙ sym (history_append h bs (sent_blocks ed (state_after ed t xs) ys))
            ∙ ap (history_over h) (sym (blocks_append t xs ys));
        count =
            q.count
            ∙ ap₂ (λ (n : ℕ) (u : State). n + replaced ed u ys) p.count p.diagram
            ∙ add_assoc s.replaced (replaced ed t xs) (replaced ed (state_after ed t xs) ys)
            ∙ ap (λ (n : ℕ). s.replaced + n) (sym (replaced_append t xs ys));
        line =
            ap₂ ◌++◌ p.line (q.line ∙ ap₂ (λ (n : ℕ) (u : State). line_words n (sent_blocks ed u ys)) p.history p.diagram)
            ∙ sym (words_append h bs (sent_blocks ed (state_after ed t xs) ys))
            ∙ ap (line_words h) (sym (blocks_append t xs ys));
      }

  -- what follows of the count, the history and the words
  pub sends_few : (s r : Sender) (vs : List (List ℕ)) (ws : List ℕ) → SentAs ed s vs ws r → r.replaced ≤ s.replaced + length vs
  sends_few s r vs ws p = omega (arith, p.count, replaced_le s.diagram vs)

  pub sends_history : (s r : Sender) (vs : List (List ℕ)) (ws : List ℕ) → SentAs ed s vs ws r → s.history < 2 ^ 58 → r.history < 2 ^ 58
  sends_history s r vs ws p l = subst (λ (h : ℕ). h < 2 ^ 58) (sym p.history) (history_lt s.history (sent_blocks ed s.diagram vs) l)

  pub sends_length : (s r : Sender) (vs : List (List ℕ)) (ws : List ℕ) → SentAs ed s vs ws r → length ws ≡ length vs
  sends_length s r vs ws p = ap length p.line ∙ length_words s.history (sent_blocks ed s.diagram vs) ∙ length_blocks s.diagram vs
