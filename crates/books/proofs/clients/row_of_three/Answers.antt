use Rattle.std.proofs.Common.{◌≡◌, ℕ, map, length, Ordering, ap, ◌∙◌}
use Rattle.keys.specs.contracts.counts.CountOrderedKey.TheImpl.{ghosts as count_ordered}
use Rattle.keys.specs.declared.counts.Count.{Count}
use Rattle.books.specs.Calls.{Call, Add, Take, Find, SeekFrom, SeekAfter, Answer}
use Rattle.books.specs.Meaning.{known}
use Rattle.books.specs.Rows.{RowModel, row_step}
use Rattle.books.proofs.clients.row_of_three.Goals as goal

abbrev by_number : Count → Count → Ordering
by_number = count_ordered.order

abbrev count : ℕ → Count
count n = record { 0 = n }

-- what a call answers and leaves is computed from the row before it
module _ (call : Call Count) {before m : RowModel Count} (is : m ≡ before) where
  answered : {a : Answer Count} → a ≡ (row_step by_number m call).0 → a ≡ (row_step by_number before call).0
  answered e = e ∙ ap (λ n. (row_step by_number n call).0) is

  left : {n : RowModel Count} → n ≡ (row_step by_number m call).1 → n ≡ (row_step by_number before call).1
  left e = e ∙ ap (λ n. (row_step by_number n call).1) is

pub returns : goal.returns
returns c =
    -- the row before each call, from the new one on
    let new = c.new-row.ensures in
    let two = left (Add (count 20) 2) new c.add-added.ensures.left in
    let both = left (Add (count 10) 1) two c.add.ensures.left in
    let same = left (Add (count 20) 9) both c.add-again.ensures.left in
    let three = left (Add (count 30) 3) same c.add-2.ensures.left in
    let full = left (Add (count 40) 4) three c.add-full.ensures.left in
    let gone = left (Take (count 20)) full c.take-taken.ensures.left in
    let still = left (Take (count 20)) gone c.take-missing.ensures.left in
    let found = left (Find (count 30)) still c.find-found.ensures.left in
    let from = left (SeekFrom (count 10)) found c.seek_from-from.ensures.left in
    let last = left (SeekAfter (count 10)) from c.seek_after-after.ensures.left in
    record {
      added = cc (answered (Add (count 20) 2) new c.add-added.ensures.answer);
      again = cc (answered (Add (count 20) 9) both c.add-again.ensures.answer);
      full = cc (answered (Add (count 40) 4) three c.add-full.ensures.answer);
      taken = cc (answered (Take (count 20)) full c.take-taken.ensures.answer);
      missing = cc (answered (Take (count 20)) gone c.take-missing.ensures.answer);
      found = cc (answered (Find (count 30)) still c.find-found.ensures.answer);
      from = cc (answered (SeekFrom (count 10)) found c.seek_from-from.ensures.answer);
      after = cc (answered (SeekAfter (count 10)) from c.seek_after-after.ensures.answer);
      left = c.count.ensures ∙ ap (λ m. length (map known m.held)) last;
      room = c.capacity.ensures ∙ ap (λ m. m.room) last;
    }
