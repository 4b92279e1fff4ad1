use Rattle.std.proofs.Common.{◌≡◌, ◌^◌, ◌<◌, ◌≤◌, length, Ok, refl, ap, ◌∙◌, arith, rules}
use Rattle.keys.specs.Numbers.{count, number_key}
use Rattle.keys.specs.Questions.{value_from_ok}
use Rattle.masks.specs.Sources.{tree_masks}
use Rattle.sealing.specs.Compared.{compared}
use Rattle.sealing.specs.Sealed.{sealed}
use Rattle.sealing.proofs.Answering.{cipher_asked_yes}
use Rattle.cases.proofs.counts_keep_their_order.Goals as goal

-- the first key compares with the sealed key of every count as the counts do, and the second is such a key
pub returns : goal.returns
returns c =
    let second = c.args.second in
    let a = c.in_ok-a.a in
    let fits : second < 2 ^ 32 = search rules in
    let room : 32 ≤ length c.seal.new.scratch = search rules in
    let b_is : c.in_ok-b.b ≡ sealed (tree_masks c.seal.new.source.secret) (number_key second) = value_from_ok c.in_ok-b.b (sealed (tree_masks c.seal.new.source.secret) (number_key second)) (c.in_ok-b.ensures.answer ∙ cipher_asked_yes 4 (length c.seal.new.scratch) (Ok (sealed (tree_masks c.seal.new.source.secret) (number_key second))) (omega arith, omega arith) room) in
    let same = c.in_ok-a.ensures.same_masks in
    let as_sealed = c.in_ok-a.ensures.in_order.compares a (count second) refl fits in
    ap (λ k. Ok k.order) (c.compare.ensures.answer ∙ ap (compared a) (b_is ∙ ap (λ f. sealed f (number_key second)) same) ∙ as_sealed)
