-- The words by which the program says why a command has no result.
use Rattle.std.specs.Prelude.{ℕ, List, ◌++◌, codes}
use Rattle.std.specs.Fmt.{decimal}
use Rattle.keys.specs.Refusals.{refusal_number, refusal_text}
use Rattle.passages.specs.declared.troubles.Trouble.{Trouble}
use Rattle.passages.specs.declared.troubles.Trouble.TheVariants.{NotUnderstood, NoCipher, NoBook, Refused, OutOfMemory}

abbrev pub trouble_text : Trouble → List ℕ
trouble_text NotUnderstood = codes "not understood"
trouble_text NoCipher = codes "no cipher is set"
trouble_text NoBook = codes "no book is open"
trouble_text (Refused refusal) = codes "refused " ++ decimal (refusal_number refusal) ++ codes ", " ++ refusal_text refusal
trouble_text OutOfMemory = codes "out of memory"
