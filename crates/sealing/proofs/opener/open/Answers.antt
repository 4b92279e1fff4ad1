use Rattle.std.proofs.Common.{◌≡◌, ℕ, Result, length, take, sym, ◌∙◌, arith, rules}
use Rattle.std.proofs.lemmas.List.{length-take-le}
use Rattle.keys.specs.Questions.{value_from_ok}
use Rattle.sealing.proofs.Answering.{cipher_asked_ok, opens_some}
use Rattle.sealing.proofs.Promises.{opens_exactly}
use Rattle.sealing.specs.declared.records.SealedKey.{SealedKey}
use Rattle.sealing.specs.Opened.{open_answer}
use Rattle.sealing.specs.Promises.{OpensExactly}
use Rattle.keys.specs.declared.refusals.Refusal.{Refusal}
use Rattle.sealing.proofs.opener.open.Given.{Over}
use Rattle.sealing.proofs.opener.open.Goals as goal

-- whatever was answered, from the laws of the kind and of the source
exactly : (g : Over) (source : g.row.S.Denot) (scratch : ℕ) (key : SealedKey) (answer : Result g.row.K.Denot Refusal)
    → answer ≡ open_answer (g.S.MaskSource.masks source) g.K.KeyKind.width g.K.KeyKind.decode scratch key
    → OpensExactly g.K.KeyKind.width g.K.OrderedKey.lawful g.K.KeyKind.encode (g.S.MaskSource.masks source) scratch key answer
exactly g source scratch key answer told =
    let kind = g.K.KeyKind in
    let laws = g.met.K.KeyKind in
    opens_exactly kind.width g.K.OrderedKey.order g.K.OrderedKey.lawful kind.encode (g.S.MaskSource.masks source) laws.wide laws.bytes (g.met.S.MaskSource.small source) kind.decode laws.reads laws.writes scratch key answer told

pub returns-clause-answer : goal.returns-clause-answer
returns-clause-answer g c =
    let kind = g.K.KeyKind in
    let scratch = c.args.scratch.now in
    let width = c.in_ok-width.width in
    let asked = cipher_asked_ok kind.width (length scratch) _ width (sym c.in_ok-width.ensures) in
    let width_is = value_from_ok _ _ (sym asked.2) in
    let part_is : length (take width scratch) ≡ kind.width = length-take-le width scratch (omega (arith, width_is, asked.1, asked.0.1)) ∙ width_is in
    let opened = c.in_ok-open_bytes.ensures in
    c.read.ensures
    ∙ opens_some (g.S.MaskSource.masks c.args.source.now) kind.width kind.decode (length scratch) c.args.key.now asked.0 asked.1 (c.if-key-width.false ∙ width_is)
    (length (take width scratch)) c.open_bytes.new.key _ part_is c.open_bytes.auto.key opened.answer opened.left

pub returns-clause-exactly : goal.returns-clause-exactly
returns-clause-exactly g c = exactly g c.args.source.now (length c.args.scratch.now) c.args.key.now _ (returns-clause-answer g c)

pub returns-then-key-width-clause-exactly : goal.returns-then-key-width-clause-exactly
returns-then-key-width-clause-exactly g c = exactly g c.args.source.now (length c.args.scratch.now) c.args.key.now _ (search rules)

pub returns-in_err-open_bytes-clause-exactly : goal.returns-in_err-open_bytes-clause-exactly
returns-in_err-open_bytes-clause-exactly g c = exactly g c.args.source.now (length c.args.scratch.now) c.args.key.now _ (search rules)
