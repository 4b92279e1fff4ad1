use Rattle.std.proofs.Common.{arith}
use Rattle.passages.proofs.Numerals.{reads_unsigned}
use Rattle.passages.proofs.words.decimal_byte.Goals as goal

pub returns : goal.returns
returns c = reads_unsigned 8 (omega arith) c.args.word.now c.number.result c.number.ensures
