use Rattle.std.proofs.Common.{◌≤◌, length, sym, arith}
use Rattle.keys.specs.NameKeys.{new_is_name, new_answers}
use Rattle.keys.proofs.names.Name.new.Goals as goal

pub invariant_of-result : goal.invariant_of-result
invariant_of-result c =
    let fits : length c.args.text.now ≤ 16 = omega arith in
    record { ok = new_is_name c.args.text.now c.copy_from_slice.new.self c.copy_from_slice.ensures.after fits (sym c.if-contains.ensures.value) }

pub returns : goal.returns
returns c =
    let fits : length c.args.text.now ≤ 16 = omega arith in
    new_answers c.args.text.now c.copy_from_slice.new.self c.copy_from_slice.ensures.after fits (sym c.if-contains.ensures.value)
