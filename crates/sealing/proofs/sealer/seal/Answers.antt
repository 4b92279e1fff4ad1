use Rattle.std.proofs.Common.{length, sym}
use Rattle.keys.specs.Questions.{value_from_ok}
use Rattle.sealing.proofs.Answering.{cipher_asked_ok, seals_what_was_written}
use Rattle.sealing.proofs.Promises.{seals_in_order}
use Rattle.sealing.proofs.sealer.seal.Goals as goal

pub returns-clause-answer : goal.returns-clause-answer
returns-clause-answer g c =
    let kind = g.K.KeyKind in
    let value = c.args.value.now in
    let scratch = c.args.scratch.now in
    let width = c.in_ok-width.width in
    let asked = cipher_asked_ok kind.width (length scratch) _ width (sym c.in_ok-width.ensures) in
    let width_is = value_from_ok _ _ (sym asked.2) in
    rw width_is
    (seals_what_was_written (g.S.MaskSource.masks c.args.source.now) kind.width (kind.encode value) scratch c.write.new.out c.in_ok-bytes.bytes
    asked.0 asked.1 (g.met.K.KeyKind.wide value c.is_lawful.ensures asked.0) c.write.ensures.left (rw width_is at c.in_ok-bytes.ensures.answer))

pub returns-clause-in_order : goal.returns-clause-in_order
returns-clause-in_order g c =
    let kind = g.K.KeyKind in
    let laws = g.met.K.KeyKind in
    seals_in_order kind.width g.K.OrderedKey.order g.K.OrderedKey.lawful kind.encode (g.S.MaskSource.masks c.args.source.now) laws.wide laws.bytes laws.ordered
    (length c.args.scratch.now) c.args.value.now c.is_lawful.ensures _ (returns-clause-answer g c)
