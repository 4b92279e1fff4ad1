-- Pairs, calls and answers with their keys shown by another key: what counts of a key is how it compares.
use Rattle.std.specs.Prelude.{◌≡◌, ℕ, List, map, Some, None, Ok, Err, Option}
use Rattle.std.specs.declared.cmp.Ordering.{Ordering}
use Rattle.std.specs.List.{All}
use Rattle.books.specs.declared.entries.Entry.{Entry}
use Rattle.books.specs.Calls.{Call, Add, Take, Find, SeekFrom, SeekAfter, Answer, Added, Taken, Found, Sought, call_key}
use Rattle.books.specs.Plain.{entry, plain_step}

abbrev pub relabelled : {K L : Type 0} → (K → L) → Entry K → Entry L
relabelled g e = entry (g e.key) e.ticket

abbrev pub relabelled_found : {K L : Type 0} → (K → L) → Option (Entry K) → Option (Entry L)
relabelled_found g None = None
relabelled_found g (Some e) = Some (relabelled g e)

abbrev pub relabelled_call : {K L : Type 0} → (K → L) → Call K → Call L
relabelled_call g (Add s ticket) = Add (g s) ticket
relabelled_call g (Take s) = Take (g s)
relabelled_call g (Find s) = Find (g s)
relabelled_call g (SeekFrom s) = SeekFrom (g s)
relabelled_call g (SeekAfter s) = SeekAfter (g s)

abbrev pub relabelled_answer : {K L : Type 0} → (K → L) → Answer K → Answer L
relabelled_answer g (Added r) = Added r
relabelled_answer g (Taken r) = Taken r
relabelled_answer g (Found r) = Found r
relabelled_answer g (Sought (Ok found)) = Sought (Ok (relabelled_found g found))
relabelled_answer g (Sought (Err refusal)) = Sought (Err refusal)

-- s compares with each key as g shows both
abbrev pub KeepsOrder : {K L : Type 0} → (K → L) → (K → K → Ordering) → (L → L → Ordering) → K → List (Entry K) → Type 0
KeepsOrder g order order' s es = All (λ e. order' (g s) (g e.key) ≡ order s e.key) es

-- a step of the plain book, its keys shown by g: the same step
pub record Commutes {K L : Type 0} (g : K → L) (order : K → K → Ordering) (order' : L → L → Ordering) (room : ℕ) (es : List (Entry K)) (c : Call K) : Type 0 where
  pub answers : (plain_step order' room (map (relabelled g) es) (relabelled_call g c)).0 ≡ relabelled_answer g (plain_step order room es c).0
  pub leaves : (plain_step order' room (map (relabelled g) es) (relabelled_call g c)).1 ≡ map (relabelled g) (plain_step order room es c).1

-- steps of the plain book commute with every relabelling that keeps the order
abbrev pub StepsCommute : (K L : Type 0) → Type 0
StepsCommute K L = (g : K → L) (order : K → K → Ordering) (order' : L → L → Ordering) (room : ℕ) (es : List (Entry K)) (c : Call K) → KeepsOrder g order order' (call_key c) es → Commutes g order order' room es c
