use Rattle.std.proofs.Common.{◌≡◌, ◌^◌, ◌<◌, ◌≤◌, length, sym, ap, ◌∙◌, arith, rules}
use Rattle.keys.specs.Numbers.{count, number_key}
use Rattle.keys.specs.Questions.{value_from_ok}
use Rattle.masks.specs.Sources.{hash_masks}
use Rattle.sealing.specs.Sealed.{sealed}
use Rattle.cases.proofs.count_comes_back.Goals as goal

-- what was sealed under the source's masks opens under them, since sealing keeps them
pub returns : goal.returns
returns c =
    let number = c.args.number in
    let key_is : c.in_ok-sealed.sealed ≡ sealed (hash_masks c.new-source.result.secret) (number_key number) = value_from_ok c.in_ok-sealed.sealed (sealed (hash_masks c.new-source.result.secret) (number_key number)) c.in_ok-sealed.ensures.answer in
    let same = c.in_ok-sealed.ensures.same_masks in
    let room : 32 ≤ length c.seal.new.scratch = search rules in
    let fits : number < 2 ^ 32 = search rules in
    c.open.ensures.exactly.opens (count number) (omega arith, omega arith) room fits (ap (λ f. sealed f (number_key number)) same ∙ sym key_is)
