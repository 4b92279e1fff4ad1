-- The AVL tree by itself, each node with the slot that it stands in: (slot, key, ticket, left side, right side).
use Rattle.std.specs.Prelude.{ℕ, suc, ◌+◌, ◌≤◌, max, Bool, cond, List, [], ◌∷◌, ◌++◌, Some, None, Option, nat_lt}
use Rattle.std.specs.declared.cmp.Ordering.{Ordering}
use Rattle.books.specs.declared.entries.Entry.{Entry}
use Rattle.books.specs.Plain.{by_order, entry}

pub data Avl (K : Type 0) : Type 0 where
  tip : Avl K
  fork : ℕ → K → ℕ → Avl K → Avl K → Avl K

-- an absent tree has height 0, a node one more than its higher side
abbrev pub height : {K : Type 0} → Avl K → ℕ
height tip = 0
height (fork i k v a b) = suc (max (height a) (height b))

abbrev pub size : {K : Type 0} → Avl K → ℕ
size tip = 0
size (fork i k v a b) = suc (size a + size b)

-- the heights of a node's sides never differ by more than 1
abbrev pub Balanced : {K : Type 0} → Avl K → Type 0
Balanced tip = Unit {0}
Balanced (fork i k v a b) = (height a ≤ suc (height b)) × (height b ≤ suc (height a)) × Balanced a × Balanced b

-- the nodes from left to right, each shown by f
abbrev pub inorder : {K X : Type 0} → (ℕ → K → ℕ → X) → Avl K → List X
inorder f tip = []
inorder f (fork i k v a b) = inorder f a ++ (f i k v ∷ inorder f b)

abbrev pub entries : {K : Type 0} → Avl K → List (Entry K)
entries t = inorder (λ i k v. entry k v) t

abbrev pub slots : {K : Type 0} → Avl K → List ℕ
slots t = inorder (λ i k v. i) t

-- Rotations: a side comes up, and the nodes keep their slots.
abbrev pub turn_right : {K : Type 0} → ℕ → K → ℕ → Avl K → Avl K → Avl K
turn_right i k v tip b = fork i k v tip b
turn_right i k v (fork j q w c d) b = fork j q w c (fork i k v d b)

abbrev pub turn_left : {K : Type 0} → ℕ → K → ℕ → Avl K → Avl K → Avl K
turn_left i k v a tip = fork i k v a tip
turn_left i k v a (fork j q w c d) = fork j q w (fork i k v a c) d

-- a left side that is to come up: its inner part is turned up first if that is higher than its outer part
abbrev pub ready_left : {K : Type 0} → Avl K → Avl K
ready_left tip = tip
ready_left (fork j q w c d) = cond (nat_lt (height c) (height d)) (turn_left j q w c d) (fork j q w c d)

abbrev pub ready_right : {K : Type 0} → Avl K → Avl K
ready_right tip = tip
ready_right (fork j q w c d) = cond (nat_lt (height d) (height c)) (turn_right j q w c d) (fork j q w c d)

-- a node over two sides, put in balance: a side higher by 2 is turned up
unfoldable pub balance : {K : Type 0} → ℕ → K → ℕ → Avl K → Avl K → Avl K
balance i k v a b =
    cond (nat_lt (suc (height b)) (height a)) (turn_right i k v (ready_left a) b)
    (cond (nat_lt (suc (height a)) (height b)) (turn_left i k v a (ready_right b))
    (fork i k v a b))

-- a new pair in slot s; a key that is held is left alone
abbrev pub insert : {K : Type 0} → (K → K → Ordering) → Avl K → K → ℕ → ℕ → Avl K
insert order tip k v s = fork s k v tip tip
insert order (fork i q w a b) k v s = by_order (order k q) (balance i q w (insert order a k v s) b) (fork i q w a b) (balance i q w a (insert order b k v s))

-- the least node under a node (i, k, v) with left side a, shown by f
abbrev pub least : {K X : Type 0} → (ℕ → K → ℕ → X) → ℕ → K → ℕ → Avl K → X
least f i k v tip = f i k v
least f i k v (fork j q w c d) = least f j q w c

abbrev pub least_slot : {K : Type 0} → ℕ → K → ℕ → Avl K → ℕ
least_slot i k v a = least (λ j q w. j) i k v a

abbrev pub least_key : {K : Type 0} → ℕ → K → ℕ → Avl K → K
least_key i k v a = least (λ j q w. q) i k v a

abbrev pub least_ticket : {K : Type 0} → ℕ → K → ℕ → Avl K → ℕ
least_ticket i k v a = least (λ j q w. w) i k v a

-- the tree of that node and its sides a and b without its least node
abbrev pub without_least : {K : Type 0} → ℕ → K → ℕ → Avl K → Avl K → Avl K
without_least i k v tip b = b
without_least i k v (fork j q w c d) b = balance i k v (without_least j q w c d) b

-- what stands in place of the node in slot i over sides a and b when its pair goes: the one side there is, or slot i
-- again with the least pair of the right side
abbrev pub joined : {K : Type 0} → ℕ → Avl K → Avl K → Avl K
joined i tip b = b
joined i (fork j q w c d) tip = fork j q w c d
joined i (fork j q w c d) (fork m p u e f) = balance i (least_key m p u e) (least_ticket m p u e) (fork j q w c d) (without_least m p u e f)

-- the slot that is free then
abbrev pub spare : {K : Type 0} → ℕ → Avl K → Avl K → ℕ
spare i tip b = i
spare i (fork j q w c d) tip = i
spare i (fork j q w c d) (fork m p u e f) = least_slot m p u e

abbrev pub remove : {K : Type 0} → (K → K → Ordering) → Avl K → K → Avl K
remove order tip s = tip
remove order (fork i k v a b) s = by_order (order s k) (balance i k v (remove order a s) b) (joined i a b) (balance i k v a (remove order b s))

-- the slot that a removal frees
abbrev pub freed : {K : Type 0} → (K → K → Ordering) → Avl K → K → Option ℕ
freed order tip s = None
freed order (fork i k v a b) s = by_order (order s k) (freed order a s) (Some (spare i a b)) (freed order b s)

-- Down from the root until s is met or a side is absent.
abbrev pub find : {K : Type 0} → (K → K → Ordering) → Avl K → K → Option ℕ
find order tip s = None
find order (fork i k v a b) s = by_order (order s k) (find order a s) (Some v) (find order b s)

abbrev pub or_else : {X : Type 0} → Option X → X → Option X
or_else None x = Some x
or_else (Some y) x = Some y

-- the same way down, which keeps the latest key above s; a seek after s goes right at equality
abbrev pub seek : {K : Type 0} → Bool → (K → K → Ordering) → Avl K → K → Option (Entry K)
seek after order tip s = None
seek after order (fork i k v a b) s = by_order (order s k) (or_else (seek after order a s) (entry k v)) (cond after (seek after order b s) (Some (entry k v))) (seek after order b s)

-- how many nodes the way down has: add, take, find and seek-from stop at equality, seek-after does not
abbrev pub path : {K : Type 0} → Bool → (K → K → Ordering) → Avl K → K → ℕ
path after order tip s = 0
path after order (fork i k v a b) s = suc (by_order (order s k) (path after order a s) (cond after (path after order b s) 0) (path after order b s))

-- the tree with each key shown by g
abbrev pub relabel : {K L : Type 0} → (K → L) → Avl K → Avl L
relabel g tip = tip
relabel g (fork i k v a b) = fork i (g k) v (relabel g a) (relabel g b)
