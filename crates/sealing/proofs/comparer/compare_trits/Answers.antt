use Rattle.std.proofs.Common.{◌+◌, ◌<◌, sym, ap, ◌∙◌, arith, lit<}
use Rattle.digits.proofs.Every.{all_at}
use Rattle.digits.specs.Positional.{trits}
use Rattle.digits.proofs.Packing.{length_unpacked, unpacked_lt}
use Rattle.sealing.specs.Compared.{decided}
use Rattle.sealing.proofs.Comparing.{none_differs, one_differs}
use Rattle.sealing.proofs.comparer.compare_trits.Goals as goal

pub order_of_trits-requires : goal.order_of_trits-requires
order_of_trits-requires c =
    let a = c.args.a.now in
    let long = length_unpacked 3 5 a in
    let place = c.in-Some.place in
    let small = all_at (λ t. t < 3) (trits a) place 0 (omega (arith, c.in-Some.ensures.1)) (unpacked_lt 3 5 a (lit< tt)) in
    omega (arith, small, c.trit_at.ensures)

pub returns-in-Some : goal.returns-in-Some
returns-in-Some c =
    let a = c.args.a.now in
    let b = c.args.b.now in
    let long_a = length_unpacked 3 5 a in
    let long_b = length_unpacked 3 5 b in
    let place = c.in-Some.place in
    ap (λ o. decided o (place + 1)) c.order_of_trits.ensures ∙ rw (c.trit_at.ensures, c.trit_at-in-Some.ensures) (sym (one_differs (trits a) (trits b) 260 (omega arith) (omega arith) place c.in-Some.ensures))

pub returns-in-None : goal.returns-in-None
returns-in-None c =
    let a = c.args.a.now in
    let b = c.args.b.now in
    let long_a = length_unpacked 3 5 a in
    let long_b = length_unpacked 3 5 b in
    sym (none_differs (trits a) (trits b) 260 (omega arith) (omega arith) c.in-None.ensures)
