use Rattle.std.proofs.Common.{◌≡◌, ℕ, List, length, ltb, is_some, get_or, Some, None, IfSome, Option, Bor, sym, refl, ◌∙◌}
use Rattle.std.specs.List.{slice_get}
use Rattle.std.specs.Option.{option_copied}
use Rattle.std.proofs.lemmas.Bool.{ltb-true, ltb-false}
use Rattle.std.proofs.lemmas.List.{length-take-le}
use Rattle.std.proofs.lemmas.Option.{slice_get_read, slice_get_past}
use Rattle.tree.proofs.Soundness.{stands_from_test}
use Rattle.tree.proofs.Showing.{used_within}
use Rattle.tree.proofs.trees.Tree.used.Goals as goal

pub slice_bounds-used-end : goal.slice_bounds-used-end
slice_bounds-used-end g c = sym (length-take-le _ _ (used_within _ _ _ (stands_from_test _ _ c.args.self.now.ok)))

-- an element that `get` finds, copied
copied_get : {X : Type 0} {P : Bor X → Type 0} (xs : List X) (j : ℕ) → ((x : Bor X) → P x → x.now ≡ get_or xs j x.now) →
    (found : Option (Bor X)) → is_some found ≡ ltb j (length xs) → IfSome found P → option_copied found ≡ slice_get xs j
copied_get xs j reads None test p = sym (slice_get_past xs j (ltb-false j (length xs) (sym test)))
copied_get xs j reads (Some x) test p = sym (slice_get_read xs (length xs) j x.now refl (ltb-true j (length xs) (sym test)) (reads x p))

pub returns : goal.returns
returns g c = c.copied.ensures ∙ copied_get _ c.args.slot (λ x p. p) c.get.result c.get.ensures.lookup.0 c.get.ensures.lookup.1
