-- The plain book: a list of pairs, key and ticket, over any order. What every book means is said by it.
use Rattle.std.specs.Prelude.{ℕ, Bool, true, false, cond, not, List, [], ◌∷◌, length, is_some, Some, None, Ok, Err, Option, Result, nat_lt}
use Rattle.std.specs.declared.cmp.Ordering.TheVariants.{Less, Equal, Greater}
use Rattle.std.specs.declared.cmp.Ordering.{Ordering}
use Rattle.keys.specs.Refusals.{asked}
use Rattle.books.specs.declared.entries.Entry.{Entry}
use Rattle.books.specs.Calls.{Call, Add, Take, Find, SeekFrom, SeekAfter, Answer, Added, Taken, Found, Sought}
use Rattle.keys.specs.declared.refusals.Refusal.{Refusal}
use Rattle.keys.specs.declared.refusals.Refusal.TheVariants.{KeyHeld, BookFull, KeyNotHeld}

-- one of three, by how two keys are ordered
abbrev pub by_order : {X : Type 0} → Ordering → X → X → X → X
by_order Less x y z = x
by_order Equal x y z = y
by_order Greater x y z = z

-- a pair
abbrev pub entry : {K : Type 0} → K → ℕ → Entry K
entry key ticket = record { key = key; ticket = ticket }

-- the ticket of s
abbrev pub look : {K : Type 0} → (K → K → Ordering) → List (Entry K) → K → Option ℕ
look order [] s = None
look order (e ∷ es) s = by_order (order s e.key) (look order es s) (Some e.ticket) (look order es s)

-- the pairs with one more, before the first greater key; a key that is held is left alone
abbrev pub put : {K : Type 0} → (K → K → Ordering) → List (Entry K) → K → ℕ → List (Entry K)
put order [] s ticket = entry s ticket ∷ []
put order (e ∷ es) s ticket = by_order (order s e.key) (entry s ticket ∷ e ∷ es) (e ∷ es) (e ∷ put order es s ticket)

-- the pairs without the pair of s
abbrev pub take_out : {K : Type 0} → (K → K → Ordering) → List (Entry K) → K → List (Entry K)
take_out order [] s = []
take_out order (e ∷ es) s = by_order (order s e.key) (e ∷ take_out order es s) es (e ∷ take_out order es s)

-- does a seek from s, or after s, pass over a key with which s compares so?
abbrev pub passes : Bool → Ordering → Bool
passes after Less = false
passes after Equal = after
passes after Greater = true

-- the first pair that a seek from s, or after s, does not pass over
abbrev pub first : {K : Type 0} → Bool → (K → K → Ordering) → List (Entry K) → K → Option (Entry K)
first after order [] s = None
first after order (e ∷ es) s = cond (passes after (order s e.key)) (first after order es s) (Some e)

-- what an add answers. First: is the key absent? Then: are the pairs fewer than the capacity?
abbrev pub add_answer : Option ℕ → ℕ → ℕ → Result (Unit {0}) Refusal
add_answer found count room = asked (not (is_some found)) KeyHeld (asked (nat_lt count room) BookFull (Ok tt))

-- what a take answers: is the key held?
abbrev pub take_answer : Option ℕ → Result ℕ Refusal
take_answer None = Err KeyNotHeld
take_answer (Some ticket) = Ok ticket

-- what a call leaves: a refusal alters nothing
abbrev pub where_ok : {X Y : Type 0} → Result X Refusal → Y → Y → Y
where_ok (Ok x) changed same = changed
where_ok (Err refusal) changed same = same

-- what the plain book of a capacity answers, and the pairs that it then has
abbrev pub plain_step : {K : Type 0} → (K → K → Ordering) → ℕ → List (Entry K) → Call K → Answer K × List (Entry K)
plain_step order room es (Add s ticket) = (Added (add_answer (look order es s) (length es) room), where_ok (add_answer (look order es s) (length es) room) (put order es s ticket) es)
plain_step order room es (Take s) = (Taken (take_answer (look order es s)), where_ok (take_answer (look order es s)) (take_out order es s) es)
plain_step order room es (Find s) = (Found (Ok (look order es s)), es)
plain_step order room es (SeekFrom s) = (Sought (Ok (first false order es s)), es)
plain_step order room es (SeekAfter s) = (Sought (Ok (first true order es s)), es)
