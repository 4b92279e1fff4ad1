use Rattle.std.proofs.Common.{◌-◌, ◌^◌, ◌/◌, ◌%◌, sym, ap, ◌∙◌, arith}
use Rattle.digits.proofs.Packing.{digit_at, digit_past, trit_weight}
use Rattle.digits.proofs.trit_at.Goals as goal

pub returns-in-Some : goal.returns-in-Some
returns-in-Some c =
    let i = c.args.i in
    let found = c.in-Some.ensures.lookup.3 in
    ap (λ weight. c.in-Some.byte.now / weight % 3) (trit_weight (i % 5) (omega arith))
    ∙ ap (λ byte. byte / 3 ^ (5 - 1 - i % 5) % 3) (found.1 0)
    ∙ sym (digit_at 3 5 c.args.bytes.now i (i / 5) (i % 5) (omega arith) (omega arith) found.0)

pub returns-in-None : goal.returns-in-None
returns-in-None c =
    let i = c.args.i in
    sym (digit_past 3 5 c.args.bytes.now i (i / 5) (i % 5) (omega arith) (omega arith) c.in-None.ensures.lookup.3)
