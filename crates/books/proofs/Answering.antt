-- What an add, a take or a refused call answers, case by case, for any kind of book.
use Rattle.std.proofs.Common.{◌≡◌, ℕ, ◌<◌, ltb, List, [], ◌∷◌, map, IfSome, Some, None, Ok, Err, Option, Result, Ordering, refl, inr}
use Rattle.std.proofs.lemmas.Bool.{cond_both, ltb-true}
use Rattle.std.proofs.lemmas.List.Elements.{recursion_from_All, All-contains_itself}
use Rattle.std.specs.List.{AllByRecursion, Contains}
use Rattle.books.specs.declared.entries.Entry.{Entry}
use Rattle.books.specs.Calls.{Call, Add, Take, Find, SeekFrom, SeekAfter, Found, Sought, refused}
use Rattle.books.specs.Plain.{add_answer, take_answer, where_ok}
use Rattle.books.specs.Meaning.{known, Finds, Seeks, Moves, Meaning}
use Rattle.keys.specs.declared.refusals.Refusal.{Refusal}
use Rattle.keys.specs.declared.refusals.Refusal.TheVariants.{NoSlots, KeyHeld, BookFull, KeyNotHeld}

-- an add is accepted where no ticket is found and there is room
pub add_all : (P : Result (Unit {0}) Refusal → Type 0) (found : Option ℕ) (count room : ℕ) →
    (found ≡ None → count < room → P (Ok tt)) → ((refusal : Refusal) → P (Err refusal)) → P (add_answer found count room)
add_all P None count room accepted declined = cond_both (ltb count room) (Ok tt) (Err BookFull) P (λ t. accepted refl (ltb-true _ _ t)) (λ _. declined BookFull)
add_all P (Some ticket) count room accepted declined = declined KeyHeld

-- a take is accepted where a ticket is found
pub take_all : (P : Result ℕ Refusal → Type 0) (found : Option ℕ) → ((ticket : ℕ) → found ≡ Some ticket → P (Ok ticket)) → P (Err KeyNotHeld) → P (take_answer found)
take_all P None accepted declined = declined
take_all P (Some ticket) accepted declined = accepted ticket refl

-- what a call leaves, shown by h
pub where_ok_shown : {X Y Z : Type 0} (h : Y → Z) (r : Result X Refusal) (changed same : Y) → h (where_ok r changed same) ≡ where_ok r (h changed) (h same)
where_ok_shown h (Ok x) changed same = refl
where_ok_shown h (Err refusal) changed same = refl

pub refused_moves : {K : Type 0} (c : Call K) (refusal : Refusal) (pairs : List (Option K × ℕ)) → Moves c (refused c refusal) pairs pairs
refused_moves (Add s ticket) refusal pairs = refl
refused_moves (Take s) refusal pairs = refl
refused_moves (Find s) refusal pairs = (tt, refl)
refused_moves (SeekFrom s) refusal pairs = (tt, refl)
refused_moves (SeekAfter s) refusal pairs = (tt, refl)

-- a book of no capacity that declines a call
pub unserved_means : {K I : Type 0} (order : K → K → Ordering) (family : I → K → Type 0) (pairs : List (Option K × ℕ)) (room : ℕ) (c : Call K) →
    room ≡ 0 → Meaning order family pairs room c (refused c NoSlots) pairs room
unserved_means order family pairs room c e =
    record { in_good_order = λ i es shown good kin. inr (record { roomless = e; answers = refl; leaves = refl }); in_any_order = refused_moves c NoSlots pairs; room_stays = refl }

-- an answer that has what each pair held has, is of a pair held
pub found_held : {K : Type 0} (found : Option ℕ) (pairs : List (Option K × ℕ)) → IfSome found (λ ticket. (key : Option K) × Contains pairs (key, ticket)) → Finds {K = K} (Found (Ok found)) pairs
found_held None pairs p = tt
found_held (Some ticket) pairs p = p

pub sought_held : {K : Type 0} (found : Option (Entry K)) (pairs : List (Option K × ℕ)) → IfSome found (λ e. Contains pairs (known e)) → Seeks (Sought (Ok found)) pairs
sought_held None pairs p = tt
sought_held (Some e) pairs p = p

all_unmap : {X Y : Type 0} (P : Y → Type 0) (f : X → Y) (xs : List X) → AllByRecursion P (map f xs) → AllByRecursion (λ x. P (f x)) xs
all_unmap P f [] p = tt
all_unmap P f (x ∷ xs) p = (p.0, all_unmap P f xs p.1)

-- each pair of a list is held
pub all_held : {K : Type 0} (es : List (Entry K)) → AllByRecursion (λ e. Contains (map known es) (known e)) es
all_held es = all_unmap (Contains (map known es)) known es (recursion_from_All (Contains (map known es)) (map known es) (All-contains_itself (map known es)))
