use Rattle.std.proofs.Common.{◌∙◌, ap, arith}
use Rattle.passages.specs.Numerals.{understood}
use Rattle.passages.proofs.Numerals.{reads_unsigned, none_lost}
use Rattle.passages.proofs.words.decimal.Goals as goal

pub returns : goal.returns
returns c = reads_unsigned 32 (omega arith) c.args.word.now c.number.result c.number.ensures ∙ ap understood (none_lost c.args.word.now)
