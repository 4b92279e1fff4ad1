-- What a book is asked, and what it answers.
use Rattle.std.specs.Prelude.{ℕ, Err, Option, Result}
use Rattle.books.specs.declared.entries.Entry.{Entry}
use Rattle.keys.specs.declared.refusals.Refusal.{Refusal}

pub data Call (K : Type 0) : Type 0 where
  Add : K → ℕ → Call K
  Take : K → Call K
  Find : K → Call K
  SeekFrom : K → Call K
  SeekAfter : K → Call K

pub data Answer (K : Type 0) : Type 0 where
  Added : Result (Unit {0}) Refusal → Answer K
  Taken : Result ℕ Refusal → Answer K
  Found : Result (Option ℕ) Refusal → Answer K
  Sought : Result (Option (Entry K)) Refusal → Answer K

-- the key that a call names
abbrev pub call_key : {K : Type 0} → Call K → K
call_key (Add s ticket) = s
call_key (Take s) = s
call_key (Find s) = s
call_key (SeekFrom s) = s
call_key (SeekAfter s) = s

-- a call declined
abbrev pub refused : {K : Type 0} → Call K → Refusal → Answer K
refused (Add s ticket) refusal = Added (Err refusal)
refused (Take s) refusal = Taken (Err refusal)
refused (Find s) refusal = Found (Err refusal)
refused (SeekFrom s) refusal = Sought (Err refusal)
refused (SeekAfter s) refusal = Sought (Err refusal)
