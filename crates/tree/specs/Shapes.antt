-- What a tree shows of its slots: links, heights and tickets, and no keys.
use Rattle.std.specs.Prelude.{ℕ, suc, max, cond, List, [], ◌∷◌, Some, None, Option, ◌==◌}
use Rattle.std.specs.Option.{option_or}
use Rattle.avl.specs.Avl.{Avl, tip, fork, height}
use Rattle.tree.specs.Standing.{link_of}
use Rattle.tree.specs.declared.shapes.Shape.{Shape}

abbrev pub shape_of : {K : Type 0} → ℕ → Avl K → Avl K → Shape
shape_of v a b = record { left = link_of a; right = link_of b; height = suc (max (height a) (height b)); ticket = v }

-- what slot j shows, if it holds a pair
abbrev pub shape_at : {K : Type 0} → Avl K → ℕ → Option Shape
shape_at tip j = None
shape_at (fork i k v a b) j = cond (j == i) (Some (shape_of v a b)) (option_or (shape_at a j) (shape_at b j))

abbrev pub first_of : List ℕ → Option ℕ
first_of [] = None
first_of (i ∷ free) = Some i

-- the free slot that is used after the free slot j
abbrev pub next_of : List ℕ → ℕ → Option ℕ
next_of [] j = None
next_of (i ∷ free) j = cond (j == i) (first_of free) (next_of free j)
