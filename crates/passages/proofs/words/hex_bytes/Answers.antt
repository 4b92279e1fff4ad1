use Rattle.std.proofs.Common.{◌≡◌, ◌≢◌, ◌⊎◌, inl, inr, ℕ, List, None, Ok, Err, Result, IfErr, sym, ◌∙◌, ap}
use Rattle.std.specs.Result.{result_ok, IsErrAnd}
use Rattle.hex.specs.declared.error.FromHexError.{FromHexError}
use Rattle.hex.specs.Hex.{decode_of}
use Rattle.passages.specs.declared.troubles.Trouble.{Trouble}
use Rattle.passages.specs.Numerals.{hex_read}
use Rattle.passages.proofs.Hex.{decode_same}
use Rattle.passages.proofs.words.hex_bytes.Goals as goal

not_read :
    (word : List ℕ) (error : FromHexError) (trouble : Trouble) → (error ≡ FromHexError.OutOfMemory) ⊎ (decode_of word ≡ Err error) →
    ((error ≡ FromHexError.OutOfMemory) × (trouble ≡ Trouble.OutOfMemory)) ⊎ ((error ≢ FromHexError.OutOfMemory) × (trouble ≡ Trouble.NotUnderstood)) →
    (trouble ≡ Trouble.OutOfMemory) ⊎ ((trouble ≡ Trouble.NotUnderstood) × (hex_read word ≡ None))
not_read word error trouble why (inl memory) = inl memory.1
not_read word error trouble (inl memory) (inr (other, is)) = absurd (other memory)
not_read word error trouble (inr fails) (inr (other, is)) = inr (is, sym (decode_same word) ∙ ap result_ok fails)

told_so : {X E : Type 0} {P Q : E → Type 0} (r : Result X E) → ((e : E) → P e → Q e) → IsErrAnd r P → IfErr r Q
told_so (Ok x) tells h = absurd h
told_so (Err e) tells h = tells e h

pub returns-in_err-decode-clause-not_read : goal.returns-in_err-decode-clause-not_read
returns-in_err-decode-clause-not_read c =
    told_so c.from_residual.result (λ trouble. not_read c.args.word.now c.in_err-decode.field-0.0 trouble c.in_err-decode.ensures.err) c.from_residual.ensures.1

pub returns-clause-read : goal.returns-clause-read
returns-clause-read c = sym (decode_same c.args.word.now) ∙ ap result_ok c.in_ok-decode.ensures.ok
