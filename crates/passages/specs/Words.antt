-- The words of kinds, mask sources and stores.
use Rattle.std.specs.Prelude.{◌≡◌, ◌≢◌, ℕ, List, codes, Result, Ok, Err}
use Rattle.passages.specs.declared.ciphers.Kind.{Kind}
use Rattle.passages.specs.declared.ciphers.Source.{Source}
use Rattle.passages.specs.declared.openings.Store.{Store}
use Rattle.passages.specs.declared.troubles.Trouble.{Trouble}
use Rattle.passages.specs.declared.troubles.Trouble.TheVariants.{NotUnderstood}

-- the word of each is read as it, and no other word is
abbrev pub ReadsWordOf : {K : Type 0} → (K → List ℕ) → List ℕ → Result K Trouble → Type 0
ReadsWordOf word_of word (Ok k) = word ≡ word_of k
ReadsWordOf {K} word_of word (Err trouble) = (trouble ≡ NotUnderstood) × ((k : K) → word ≢ word_of k)

abbrev pub kind_word : Kind → List ℕ
kind_word Kind.Count = codes "count"
kind_word Kind.Level = codes "level"
kind_word Kind.Name = codes "name"
kind_word Kind.Passage = codes "passage"

abbrev pub source_word : Source → List ℕ
source_word Source.Hash = codes "hash"
source_word Source.Tree = codes "tree"

abbrev pub store_word : Store → List ℕ
store_word Store.Tree = codes "tree"
store_word Store.Row = codes "row"
