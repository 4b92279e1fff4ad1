use Rattle.passages.proofs.Numerals.{reads_signed}
use Rattle.passages.proofs.words.signed_decimal.Goals as goal

pub returns : goal.returns
returns c = reads_signed c.args.word.now c.number.result c.number.ensures
