-- What a book's calls mean: in good order they are the plain book's, and in any order they move one pair or none.
use Rattle.std.specs.Prelude.{◌≡◌, ℕ, ◌^◌, ◌<◌, cond, ◌⊎◌, List, [], ◌∷◌, ◌++◌, map, Some, None, Ok, Err, Option, nat_le}
use Rattle.std.specs.declared.cmp.Ordering.TheVariants.{Less}
use Rattle.std.specs.declared.cmp.Ordering.{Ordering}
use Rattle.std.specs.List.{All, Contains}
use Rattle.keys.specs.declared.orders.OrderedKey.{Ghosts as KeyGhosts}
use Rattle.books.specs.declared.entries.Entry.{Entry}
use Rattle.books.specs.Calls.{Call, Add, Take, Find, SeekFrom, SeekAfter, Answer, Added, Taken, Found, Sought, call_key, refused}
use Rattle.books.specs.Plain.{plain_step}
use Rattle.keys.specs.declared.refusals.Refusal.TheVariants.{NoSlots}

-- a pair as a book shows it, its key known
abbrev pub known : {K : Type 0} → Entry K → Option K × ℕ
known e = (Some e.key, e.ticket)

-- is k less than the first key?
abbrev pub Before : {K : Type 0} → (K → K → Ordering) → K → List (Entry K) → Type 0
Before order k [] = Unit {0}
Before order k (e ∷ es) = order k e.key ≡ Less

-- each key is less than the next
abbrev pub Ascending : {K : Type 0} → (K → K → Ordering) → List (Entry K) → Type 0
Ascending order [] = Unit {0}
Ascending order (e ∷ es) = Before order e.key es × Ascending order es

-- good order: the keys ascend, and all lie in one family
pub record GoodOrder {K I : Type 0} (order : K → K → Ordering) (family : I → K → Type 0) (i : I) (es : List (Entry K)) : Type 0 where
  pub related : All (λ e. family i e.key) es
  pub ascending : Ascending order es

-- the list `more` is `fewer` with one x more, somewhere
pub record OneMore {X : Type 0} (x : X) (fewer more : List X) : Type 0 where
  pub front : List X
  pub back : List X
  pub without : fewer ≡ front ++ back
  pub with_it : more ≡ front ++ (x ∷ back)

-- an add moves exactly its pair in, or refuses
abbrev pub Adds : {K : Type 0} → K → ℕ → Answer K → List (Option K × ℕ) → List (Option K × ℕ) → Type 0
Adds s ticket (Added (Ok done)) before left = OneMore (Some s, ticket) before left
Adds s ticket (Added (Err refusal)) before left = left ≡ before
Adds s ticket (Taken r) before left = ⊥
Adds s ticket (Found r) before left = ⊥
Adds s ticket (Sought r) before left = ⊥

-- a take moves exactly one pair out, and answers its ticket, or refuses
abbrev pub Takes : {K : Type 0} → Answer K → List (Option K × ℕ) → List (Option K × ℕ) → Type 0
Takes {K} (Taken (Ok ticket)) before left = (key : Option K) × OneMore (key, ticket) left before
Takes (Taken (Err refusal)) before left = left ≡ before
Takes (Added r) before left = ⊥
Takes (Found r) before left = ⊥
Takes (Sought r) before left = ⊥

-- a find answers the ticket of a pair held, or none, or refuses
abbrev pub Finds : {K : Type 0} → Answer K → List (Option K × ℕ) → Type 0
Finds {K} (Found (Ok (Some ticket))) pairs = (key : Option K) × Contains pairs (key, ticket)
Finds (Found (Ok None)) pairs = Unit {0}
Finds (Found (Err refusal)) pairs = Unit {0}
Finds (Added r) pairs = ⊥
Finds (Taken r) pairs = ⊥
Finds (Sought r) pairs = ⊥

-- a seek answers a pair held, or none, or refuses
abbrev pub Seeks : {K : Type 0} → Answer K → List (Option K × ℕ) → Type 0
Seeks (Sought (Ok (Some e))) pairs = Contains pairs (known e)
Seeks (Sought (Ok None)) pairs = Unit {0}
Seeks (Sought (Err refusal)) pairs = Unit {0}
Seeks (Added r) pairs = ⊥
Seeks (Taken r) pairs = ⊥
Seeks (Found r) pairs = ⊥

-- what holds of a call in any order
abbrev pub Moves : {K : Type 0} → Call K → Answer K → List (Option K × ℕ) → List (Option K × ℕ) → Type 0
Moves (Add s ticket) answer before left = Adds s ticket answer before left
Moves (Take s) answer before left = Takes answer before left
Moves (Find s) answer before left = Finds answer before × (left ≡ before)
Moves (SeekFrom s) answer before left = Seeks answer before × (left ≡ before)
Moves (SeekAfter s) answer before left = Seeks answer before × (left ≡ before)

-- the plain book's answer, and the plain book's pairs left
pub record AsThePlainBook {K : Type 0} (order : K → K → Ordering) (room : ℕ) (es : List (Entry K)) (c : Call K) (answer : Answer K) (left : List (Option K × ℕ)) : Type 0 where
  pub answers : answer ≡ (plain_step order room es c).0
  pub leaves : left ≡ map known (plain_step order room es c).1

-- at capacity 0 a book may decline every call: it has no slots
pub record Unserved {K : Type 0} (room : ℕ) (c : Call K) (answer : Answer K) (before left : List (Option K × ℕ)) : Type 0 where
  pub roomless : room ≡ 0
  pub answers : answer ≡ refused c NoSlots
  pub leaves : left ≡ before

-- a call c of a book, by the pairs and the capacity before it and after it, and its answer
pub record Meaning {K I : Type 0} (order : K → K → Ordering) (family : I → K → Type 0) (before : List (Option K × ℕ)) (room : ℕ) (c : Call K) (answer : Answer K) (left : List (Option K × ℕ)) (room_left : ℕ) : Type 0 where
  pub in_good_order : (i : I) (es : List (Entry K)) → before ≡ map known es → GoodOrder order family i es → family i (call_key c) → AsThePlainBook order room es c answer left ⊎ Unserved room c answer before left
  pub in_any_order : Moves c answer before left
  pub room_stays : room_left ≡ room

-- what a kind of book keeps, by its members: every model that a book has is sound, and so is what a call leaves of a sound one
pub record Rule {K M : Type 0} (key : KeyGhosts K) (sound : M → Type 0) (pairs : M → List (Option K × ℕ)) (room : M → ℕ) (step : M → Call K → Answer K × M) (present : M) : Type 0 where
  pub valid : sound present
  pub kept : (m : M) (c : Call K) → sound m → key.lawful (call_key c) → sound (step m c).1
  pub means : (m : M) (c : Call K) → sound m → key.lawful (call_key c) → Meaning key.order key.family (pairs m) (room m) c (step m c).0 (pairs (step m c).1) (room (step m c).1)
  pub limited : (m : M) → sound m → room m < 2 ^ 31

-- memory of 1 to 65,535 slots serves; any other serves as none
abbrev pub usable : ℕ → ℕ
usable slots = cond (nat_le slots 65535) slots 0
