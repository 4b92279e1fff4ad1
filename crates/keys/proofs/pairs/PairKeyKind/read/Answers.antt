use Rattle.std.proofs.lemmas.Result.{err_from_is_err_and}
use Rattle.keys.specs.PairKeys.{read_second_refused, read_both}
use Rattle.keys.proofs.pairs.PairKeyKind.read.Goals as goal

pub returns-in_err-second : goal.returns-in_err-second
returns-in_err-second g c =
    let p = err_from_is_err_and c.from_residual-in_err-second.result c.from_residual-in_err-second.ensures.1 in
    rw (p.1, p.2)
    (read_second_refused g.A.KeyKind.width g.B.KeyKind.width c.width.result c.args.bytes.now c.width.ensures c.in_ok-ask_width.ensures
    (λ a b. record { first = a; second = b }) g.A.KeyKind.decode g.B.KeyKind.decode
    c.width-split.result c.width-split.ensures c.in_ok-first.first c.in_ok-first.ensures
    c.in_err-second.field-0.0 c.in_err-second.ensures)

pub returns : goal.returns
returns g c =
    read_both g.A.KeyKind.width g.B.KeyKind.width c.width.result c.args.bytes.now c.width.ensures c.in_ok-ask_width.ensures
    (λ a b. record { first = a; second = b }) g.A.KeyKind.decode g.B.KeyKind.decode
    c.width-split.result c.width-split.ensures c.in_ok-first.first c.in_ok-first.ensures
    c.in_ok-second.second c.in_ok-second.ensures
