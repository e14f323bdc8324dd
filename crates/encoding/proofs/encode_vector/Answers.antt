-- `encoding::encode_vector` meets its contract: the two refusals, then what `encode` answers.
use native.Mathlib.Omega.{arith}
use Rattle.encoding.proofs.Answers.{wrong_length_lem, high_first, high_second, good_answer}
use Rattle.encoding.proofs.encode_vector.Goals as goal

pub returns-then-v-ne10 : goal.returns-then-v-ne10
returns-then-v-ne10 c = wrong_length_lem c.args.edition c.args.v.now c.if-v-ne10.true

pub returns-then-c0-gt15 : goal.returns-then-c0-gt15
returns-then-c0-gt15 c = high_first c.args.edition c.args.v.now c.if-v-ne10.false c.if-c0-gt15.true

pub returns-then-c1-gt15 : goal.returns-then-c1-gt15
returns-then-c1-gt15 c = high_second c.args.edition c.args.v.now c.if-v-ne10.false c.if-c0-gt15.false c.if-c1-gt15.true

pub encode-requires : goal.encode-requires
encode-requires c = (c.if-c0-gt15.false, c.if-c1-gt15.false)

pub returns : goal.returns
returns c =
    let args = c.args in
    let if1 = c.if-v-ne10 in
    let shared-slice-known2 = c.shared_slice_known-2-1 in
    let if2 = c.if-c0-gt15 in
    let if3 = c.if-c1-gt15 in
    let lanes_at = c.lanes_at-d0 in
    let lanes-at2 = c.lanes_at-d1 in
    let encode = c.encode in
    good_answer args.edition args.v.now if1.false _ _ _ _ (λ n. omega (arith, shared-slice-known2.given n)) if2.false if3.false
    lanes_at.ensures lanes-at2.ensures encode.ensures c.carried.ensures
