-- What holds of every element of a list, by recursion on the list: the library's lemmas on `All`, which goes by index.
use Rattle.std.proofs.Common.{ℕ, ◌<◌, List, [], ◌∷◌, ◌++◌, length, get_or, take, drop}
use Rattle.std.specs.List.{AllByRecursion, Contains}
use Rattle.std.proofs.lemmas.List.Elements.{All-from_recursion as by_index, recursion_from_All as by_recursion, All-append, All-take, All-drop, All-contains}
use Rattle.std.proofs.lemmas.List.Elements as elements

module _ {X : Type 0} (P : X → Type 0) where
  pub all_at : (xs : List X) (i : ℕ) (d : X) → i < length xs → AllByRecursion P xs → P (get_or xs i d)
  all_at xs i d h all = by_index P xs all i d h

  pub all_append : (xs ys : List X) → AllByRecursion P xs → AllByRecursion P ys → AllByRecursion P (xs ++ ys)
  all_append xs ys h k = by_recursion P (xs ++ ys) (All-append P xs ys (by_index P xs h) (by_index P ys k))

  pub all_push : (xs : List X) (x : X) → AllByRecursion P xs → P x → AllByRecursion P (xs ++ x ∷ [])
  all_push xs x h p = all_append xs (x ∷ []) h (p, tt)

  pub all_take : (n : ℕ) (xs : List X) → AllByRecursion P xs → AllByRecursion P (take n xs)
  all_take n xs h = by_recursion P (take n xs) (All-take P n xs (by_index P xs h))

  pub all_drop : (n : ℕ) (xs : List X) → AllByRecursion P xs → AllByRecursion P (drop n xs)
  all_drop n xs h = by_recursion P (drop n xs) (All-drop P n xs (by_index P xs h))

  pub all_weaker : (Q : X → Type 0) → ((x : X) → P x → Q x) → (xs : List X) → AllByRecursion P xs → AllByRecursion Q xs
  all_weaker Q f xs h = by_recursion Q xs (elements.All-weaker P Q f xs (by_index P xs h))

  pub all_contains : (xs : List X) (x : X) → AllByRecursion P xs → Contains xs x → P x
  all_contains xs x h w = All-contains P xs x (by_index P xs h) w

  -- of the parts of a list
  pub all_left : (xs ys : List X) → AllByRecursion P (xs ++ ys) → AllByRecursion P xs
  all_left [] ys p = tt
  all_left (x ∷ xs) ys p = (p.0, all_left xs ys p.1)

  pub all_right : (xs ys : List X) → AllByRecursion P (xs ++ ys) → AllByRecursion P ys
  all_right [] ys p = p
  all_right (x ∷ xs) ys p = all_right xs ys p.1
