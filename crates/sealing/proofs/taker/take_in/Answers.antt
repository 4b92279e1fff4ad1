use Rattle.std.proofs.Common.{ℕ, length, sym, ◌∙◌}
use Rattle.std.proofs.lemmas.List.{drop-replicate}
use Rattle.keys.specs.Questions.{served_from_test}
use Rattle.sealing.proofs.Answering.{take_in_answer_is}
use Rattle.sealing.proofs.taker.take_in.Goals as goal

pub returns : goal.returns
returns c =
    let w = c.args.width in
    let packed = c.args.packed.now in
    let long = c.if-packed-packed_length.false ∙ c.packed_length.ensures in
    rw (c.copy_from_slice.ensures.after, drop-replicate {X = ℕ} (length packed) 52 0)
    (sym (take_in_answer_is w packed (served_from_test w (sym c.if-not-is_served.ensures)) long (sym c.if-not-are_trits.ensures) (sym c.if-not-are_zeros.ensures)))
