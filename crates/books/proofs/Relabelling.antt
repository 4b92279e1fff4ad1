-- The plain calls see a key only by how it compares: with their keys shown by g they answer and leave the same, shown by g.
use Rattle.std.proofs.Common.{◌≡◌, ℕ, suc, Bool, true, false, cond, List, [], ◌∷◌, map, length, Some, Ok, Ordering, Less, Equal, Greater, sym, refl, ap, ◌∙◌, arith}
use Rattle.std.proofs.lemmas.List.{length-map}
use Rattle.books.specs.declared.entries.Entry.{Entry}
use Rattle.books.specs.Calls.{Add, Take, Find, SeekFrom, SeekAfter, Added, Taken, Found, Sought}
use Rattle.books.specs.Plain.{by_order, entry, look, put, take_out, passes, first, add_answer, take_answer, where_ok}
use Rattle.books.specs.Relabelling.{relabelled, relabelled_found, KeepsOrder, StepsCommute}
use Rattle.books.proofs.Answering.{where_ok_shown}

module _ {K L : Type 0} (g : K → L) (order : K → K → Ordering) (order' : L → L → Ordering) (s : K) where
  here : (e : Entry K) (es : List (Entry K)) → KeepsOrder g order order' s (e ∷ es) → order' (g s) (g e.key) ≡ order s e.key
  here e es keeps = keeps 0 e (omega arith)

  beyond : (e : Entry K) (es : List (Entry K)) → KeepsOrder g order order' s (e ∷ es) → KeepsOrder g order order' s es
  beyond e es keeps k d within = keeps (suc k) d (omega arith)

  look_commutes : (es : List (Entry K)) → KeepsOrder g order order' s es → look order' (map (relabelled g) es) (g s) ≡ look order es s
  look_commutes [] keeps = refl
  look_commutes (e ∷ es) keeps = let same = here e es keeps in let later = look_commutes es (beyond e es keeps) in cc

  put_commutes : (v : ℕ) (es : List (Entry K)) → KeepsOrder g order order' s es → put order' (map (relabelled g) es) (g s) v ≡ map (relabelled g) (put order es s v)
  put_commutes v [] keeps = refl
  put_commutes v (e ∷ es) keeps =
      ap (λ w. by_order w (entry (g s) v ∷ map (relabelled g) (e ∷ es)) (map (relabelled g) (e ∷ es)) (relabelled g e ∷ put order' (map (relabelled g) es) (g s) v)) (here e es keeps)
      ∙ by (order s e.key) (put_commutes v es (beyond e es keeps))
    where
      by : (w : Ordering) → put order' (map (relabelled g) es) (g s) v ≡ map (relabelled g) (put order es s v) →
          by_order w (entry (g s) v ∷ map (relabelled g) (e ∷ es)) (map (relabelled g) (e ∷ es)) (relabelled g e ∷ put order' (map (relabelled g) es) (g s) v) ≡ map (relabelled g) (by_order w (entry s v ∷ (e ∷ es)) (e ∷ es) (e ∷ put order es s v))
      by Less later = refl
      by Equal later = refl
      by Greater later = ap (λ l. relabelled g e ∷ l) later

  out_commutes : (es : List (Entry K)) → KeepsOrder g order order' s es → take_out order' (map (relabelled g) es) (g s) ≡ map (relabelled g) (take_out order es s)
  out_commutes [] keeps = refl
  out_commutes (e ∷ es) keeps =
      ap (λ w. by_order w (relabelled g e ∷ take_out order' (map (relabelled g) es) (g s)) (map (relabelled g) es) (relabelled g e ∷ take_out order' (map (relabelled g) es) (g s))) (here e es keeps)
      ∙ by (order s e.key) (ap (λ l. relabelled g e ∷ l) (out_commutes es (beyond e es keeps)))
    where
      by : (w : Ordering) → relabelled g e ∷ take_out order' (map (relabelled g) es) (g s) ≡ map (relabelled g) (e ∷ take_out order es s) →
          by_order w (relabelled g e ∷ take_out order' (map (relabelled g) es) (g s)) (map (relabelled g) es) (relabelled g e ∷ take_out order' (map (relabelled g) es) (g s)) ≡ map (relabelled g) (by_order w (e ∷ take_out order es s) es (e ∷ take_out order es s))
      by Less later = later
      by Equal later = refl
      by Greater later = later

  first_commutes : (after : Bool) (es : List (Entry K)) → KeepsOrder g order order' s es → first after order' (map (relabelled g) es) (g s) ≡ relabelled_found g (first after order es s)
  first_commutes after [] keeps = refl
  first_commutes after (e ∷ es) keeps =
      ap (λ w. cond (passes after w) (first after order' (map (relabelled g) es) (g s)) (Some (relabelled g e))) (here e es keeps)
      ∙ by (passes after (order s e.key)) (first_commutes after es (beyond e es keeps))
    where
      by : (t : Bool) → first after order' (map (relabelled g) es) (g s) ≡ relabelled_found g (first after order es s) →
          cond t (first after order' (map (relabelled g) es) (g s)) (Some (relabelled g e)) ≡ relabelled_found g (cond t (first after order es s) (Some e))
      by true later = later
      by false later = refl

pub steps_commute : (K L : Type 0) → StepsCommute K L
steps_commute K L g order order' room es (Add s ticket) keeps =
    let found = look_commutes g order order' s es keeps in
    let same : add_answer (look order' (map (relabelled g) es) (g s)) (length (map (relabelled g) es)) room ≡ add_answer (look order es s) (length es) room =
    ap (λ o. add_answer o (length (map (relabelled g) es)) room) found ∙ ap (λ n. add_answer (look order es s) n room) (length-map es (relabelled g)) in
    record {
      answers = ap Added same;
      leaves =
          ap (λ r. where_ok r (put order' (map (relabelled g) es) (g s) ticket) (map (relabelled g) es)) same
          ∙ ap (λ l. where_ok (add_answer (look order es s) (length es) room) l (map (relabelled g) es)) (put_commutes g order order' s ticket es keeps)
          ∙ sym (where_ok_shown (map (relabelled g)) (add_answer (look order es s) (length es) room) (put order es s ticket) es);
    }
steps_commute K L g order order' room es (Take s) keeps =
    let found = look_commutes g order order' s es keeps in
    record {
      answers = ap (λ o. Taken (take_answer o)) found;
      leaves =
          ap (λ o. where_ok (take_answer o) (take_out order' (map (relabelled g) es) (g s)) (map (relabelled g) es)) found
          ∙ ap (λ l. where_ok (take_answer (look order es s)) l (map (relabelled g) es)) (out_commutes g order order' s es keeps)
          ∙ sym (where_ok_shown (map (relabelled g)) (take_answer (look order es s)) (take_out order es s) es);
    }
steps_commute K L g order order' room es (Find s) keeps = record { answers = ap (λ o. Found (Ok o)) (look_commutes g order order' s es keeps); leaves = refl }
steps_commute K L g order order' room es (SeekFrom s) keeps = record { answers = ap (λ o. Sought (Ok o)) (first_commutes g order order' s false es keeps); leaves = refl }
steps_commute K L g order order' room es (SeekAfter s) keeps = record { answers = ap (λ o. Sought (Ok o)) (first_commutes g order order' s true es keeps); leaves = refl }
