use Rattle.std.proofs.Common.{rules}
use Rattle.keys.specs.NameKeys.{name_read}
use Rattle.keys.proofs.names.NameKeyKind.read.Goals as goal

pub returns-then-are_zeros : goal.returns-then-are_zeros
returns-then-are_zeros c = name_read (λ bytes ok. record { bytes = bytes; ok = ok }) c.in_ok-bytes.field-0.now c.args.bytes.now _ (search rules) (search rules)
