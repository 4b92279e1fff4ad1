use Rattle.std.proofs.Common.{◌/◌, ◌%◌, ◌^◌, ◌-◌, eqb, sym, ap, ◌∙◌, arith}
use Rattle.digits.proofs.Packing.{digit_at, digit_past, bit_is}
use Rattle.digits.proofs.bit_at.Goals as goal

pub returns-in-Some : goal.returns-in-Some
returns-in-Some c =
    let bytes = c.args.bytes.now in
    let i = c.args.i in
    let found = c.in-Some.ensures.lookup.3 in
    let it = digit_at 2 8 bytes i (i / 8) (i % 8) (omega arith) (omega arith) found.0 in
    ap (λ byte. eqb (byte / 2 ^ (7 - i % 8) % 2) 1) (found.1 0) ∙ sym (bit_is bytes i ∙ ap (λ d. eqb d 1) it)

pub returns-in-None : goal.returns-in-None
returns-in-None c =
    let bytes = c.args.bytes.now in
    let i = c.args.i in
    let none = digit_past 2 8 bytes i (i / 8) (i % 8) (omega arith) (omega arith) c.in-None.ensures.lookup.3 in
    sym (bit_is bytes i ∙ ap (λ d. eqb d 1) none)
