use Rattle.std.proofs.Common.{◌+◌, ◌*◌, ◌%◌, ◌^◌, ap, ◌∙◌, arith}
use Rattle.siphash.proofs.ReadDown.{few_are_low, reads_down}
use Rattle.siphash.proofs.last_word.Goals as goal

pub overflow_add-result : goal.overflow_add-result
overflow_add-result c =
    let rest = c.args.rest.now in
    let low = few_are_low rest (λ i. omega (arith, c.type_inv.rest i)) (omega arith) in
    let read = c.read_down.ensures ∙ reads_down rest (λ i. omega (arith, c.type_inv.rest i)) (omega arith) in
    omega (arith, low, read)

pub returns : goal.returns
returns c =
    let rest = c.args.rest.now in
    ap (λ n. (c.args.len % 256) * 2 ^ 56 + n) (c.read_down.ensures ∙ reads_down rest (λ i. omega (arith, c.type_inv.rest i)) (omega arith))
