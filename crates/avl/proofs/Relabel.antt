-- A key counts only by how it compares: each call commutes with a relabelling that keeps what the order says of the call's key.
use Rattle.std.proofs.Common.{◌≡◌, ℕ, suc, Bool, true, false, cond, ltb, ◌∷◌, Some, None, Option, Ordering, Less, Equal, Greater, refl, ap, ◌∙◌, arith}
use Rattle.std.proofs.lemmas.Bool.{cond_both}
use Rattle.std.proofs.lemmas.List.Elements.{All-from_recursion, recursion_from_All}
use Rattle.books.specs.declared.entries.Entry.{Entry}
use Rattle.books.specs.Plain.{by_order, entry}
use Rattle.books.specs.Relabelling.{relabelled, relabelled_found, KeepsOrder}
use Rattle.digits.proofs.Every.{all_left, all_right}
use Rattle.avl.specs.Avl.{Avl, tip, fork, height, size, entries, turn_right, turn_left, ready_left, ready_right, balance, insert, least, least_key, least_ticket, without_least, joined, spare, remove, freed, find, or_else, seek, path, relabel}
use Rattle.avl.proofs.Balance.{balance_all, balance_is_right, balance_is_left, balance_is_fork}

module _ {K L : Type 0} (g : K → L) where
  pub relabel_height : (t : Avl K) → height (relabel g t) ≡ height t
  relabel_height tip = refl
  relabel_height (fork i k v a b) = let x = relabel_height a in let y = relabel_height b in cc

  pub relabel_size : (t : Avl K) → size (relabel g t) ≡ size t
  relabel_size tip = refl
  relabel_size (fork i k v a b) = let x = relabel_size a in let y = relabel_size b in cc

  relabel_turn_right : (i : ℕ) (k : K) (v : ℕ) (a b : Avl K) → turn_right i (g k) v (relabel g a) (relabel g b) ≡ relabel g (turn_right i k v a b)
  relabel_turn_right i k v tip b = refl
  relabel_turn_right i k v (fork j q w c d) b = refl

  relabel_turn_left : (i : ℕ) (k : K) (v : ℕ) (a b : Avl K) → turn_left i (g k) v (relabel g a) (relabel g b) ≡ relabel g (turn_left i k v a b)
  relabel_turn_left i k v a tip = refl
  relabel_turn_left i k v a (fork j q w c d) = refl

  relabel_ready_left : (a : Avl K) → ready_left (relabel g a) ≡ relabel g (ready_left a)
  relabel_ready_left tip = refl
  relabel_ready_left (fork j q w c d) =
      let x = relabel_height c in let y = relabel_height d in let z = relabel_turn_left j q w c d in
      cond_both (ltb (height c) (height d)) (turn_left j q w c d) (fork j q w c d) (λ t. ready_left (relabel g (fork j q w c d)) ≡ relabel g t) (λ e. cc) (λ e. cc)

  relabel_ready_right : (a : Avl K) → ready_right (relabel g a) ≡ relabel g (ready_right a)
  relabel_ready_right tip = refl
  relabel_ready_right (fork j q w c d) =
      let x = relabel_height c in let y = relabel_height d in let z = relabel_turn_right j q w c d in
      cond_both (ltb (height d) (height c)) (turn_right j q w c d) (fork j q w c d) (λ t. ready_right (relabel g (fork j q w c d)) ≡ relabel g t) (λ e. cc) (λ e. cc)

  pub relabel_balance : (i : ℕ) (k : K) (v : ℕ) (a b : Avl K) → balance i (g k) v (relabel g a) (relabel g b) ≡ relabel g (balance i k v a b)
  relabel_balance i k v a b =
      let x = relabel_height a in let y = relabel_height b in
      balance_all (λ t. balance i (g k) v (relabel g a) (relabel g b) ≡ relabel g t) i k v a b
      (λ h. balance_is_right i (g k) v (relabel g a) (relabel g b) (omega arith) ∙ ap (λ t. turn_right i (g k) v t (relabel g b)) (relabel_ready_left a) ∙ relabel_turn_right i k v (ready_left a) b)
      (λ h. balance_is_left i (g k) v (relabel g a) (relabel g b) (omega arith) ∙ ap (λ t. turn_left i (g k) v (relabel g a) t) (relabel_ready_right b) ∙ relabel_turn_left i k v a (ready_right b))
      (λ h h'. balance_is_fork i (g k) v (relabel g a) (relabel g b) (omega arith) (omega arith))

  -- the least node's slot, key or ticket: what f' shows of a relabelled node, as f shows of the node
  relabel_least : {X Y : Type 0} (h : X → Y) (f : ℕ → K → ℕ → X) (f' : ℕ → L → ℕ → Y) → ((i : ℕ) (k : K) (v : ℕ) → f' i (g k) v ≡ h (f i k v)) →
      (i : ℕ) (k : K) (v : ℕ) (a : Avl K) → least f' i (g k) v (relabel g a) ≡ h (least f i k v a)
  relabel_least h f f' e i k v tip = e i k v
  relabel_least h f f' e i k v (fork j q w c d) = relabel_least h f f' e j q w c

  relabel_without_least : (i : ℕ) (k : K) (v : ℕ) (a b : Avl K) → without_least i (g k) v (relabel g a) (relabel g b) ≡ relabel g (without_least i k v a b)
  relabel_without_least i k v tip b = refl
  relabel_without_least i k v (fork j q w c d) b =
      ap (λ t. balance i (g k) v t (relabel g b)) (relabel_without_least j q w c d) ∙ relabel_balance i k v (without_least j q w c d) b

  relabel_joined : (i : ℕ) (a b : Avl K) → joined i (relabel g a) (relabel g b) ≡ relabel g (joined i a b)
  relabel_joined i tip b = refl
  relabel_joined i (fork j q w c d) tip = refl
  relabel_joined i (fork j q w c d) (fork m p u e f) =
      let x = relabel_least g (λ j q w. q) (λ j q w. q) (λ _ _ _. refl) m p u e in
      let y = relabel_least (λ w. w) (λ j q w. w) (λ j q w. w) (λ _ _ _. refl) m p u e in
      let z = relabel_without_least m p u e f in
      let h = relabel_balance i (least_key m p u e) (least_ticket m p u e) (fork j q w c d) (without_least m p u e f) in
      cc

  relabel_spare : (i : ℕ) (a b : Avl K) → spare i (relabel g a) (relabel g b) ≡ spare i a b
  relabel_spare i tip b = refl
  relabel_spare i (fork j q w c d) tip = refl
  relabel_spare i (fork j q w c d) (fork m p u e f) = relabel_least (λ j. j) (λ j q w. j) (λ j q w. j) (λ _ _ _. refl) m p u e

  relabel_or_else : (o : Option (Entry K)) (e : Entry K) → or_else (relabelled_found g o) (relabelled g e) ≡ relabelled_found g (or_else o e)
  relabel_or_else None e = refl
  relabel_or_else (Some x) e = refl

-- one of three, and one of two, shown by h
by_shown : {X Y : Type 0} (h : X → Y) {w w' : Ordering} (x y z : X) (x' y' z' : Y) → w' ≡ w → x' ≡ h x → y' ≡ h y → z' ≡ h z → by_order w' x' y' z' ≡ h (by_order w x y z)
by_shown h {w} x y z x' y' z' e p q r = ap (λ c. by_order c x' y' z') e ∙ by w
  where
    by : (c : Ordering) → by_order c x' y' z' ≡ h (by_order c x y z)
    by Less = p
    by Equal = q
    by Greater = r

cond_shown : {X Y : Type 0} (h : X → Y) (t : Bool) (x y : X) (x' y' : Y) → x' ≡ h x → y' ≡ h y → cond t x' y' ≡ h (cond t x y)
cond_shown h true x y x' y' p q = p
cond_shown h false x y x' y' p q = q

module _ {K L : Type 0} (g : K → L) (order : K → K → Ordering) (order' : L → L → Ordering) (s : K) where
  -- the order is kept at a node and in its sides
  keeps_sides : (i : ℕ) (k : K) (v : ℕ) (a b : Avl K) → KeepsOrder g order order' s (entries (fork i k v a b)) →
      (order' (g s) (g k) ≡ order s k) × KeepsOrder g order order' s (entries a) × KeepsOrder g order order' s (entries b)
  keeps_sides i k v a b p =
      let same : Entry K → Type 0 = λ e. order' (g s) (g e.key) ≡ order s e.key in
      let each = recursion_from_All same (entries (fork i k v a b)) p in
      let r = all_right same (entries a) (entry k v ∷ entries b) each in
      (r.0, All-from_recursion same (entries a) (all_left same (entries a) (entry k v ∷ entries b) each), All-from_recursion same (entries b) r.1)

  pub relabel_insert : (v n : ℕ) (t : Avl K) → KeepsOrder g order order' s (entries t) → insert order' (relabel g t) (g s) v n ≡ relabel g (insert order t s v n)
  relabel_insert v n tip kept = refl
  relabel_insert v n (fork i q w a b) kept =
      let p = keeps_sides i q w a b kept in
      by_shown (relabel g) (balance i q w (insert order a s v n) b) (fork i q w a b) (balance i q w a (insert order b s v n)) _ _ _ p.0
      (ap (λ t. balance i (g q) w t (relabel g b)) (relabel_insert v n a p.1) ∙ relabel_balance g i q w (insert order a s v n) b)
      refl
      (ap (λ t. balance i (g q) w (relabel g a) t) (relabel_insert v n b p.2) ∙ relabel_balance g i q w a (insert order b s v n))

  pub relabel_remove : (t : Avl K) → KeepsOrder g order order' s (entries t) → remove order' (relabel g t) (g s) ≡ relabel g (remove order t s)
  relabel_remove tip kept = refl
  relabel_remove (fork i q w a b) kept =
      let p = keeps_sides i q w a b kept in
      by_shown (relabel g) (balance i q w (remove order a s) b) (joined i a b) (balance i q w a (remove order b s)) _ _ _ p.0
      (ap (λ t. balance i (g q) w t (relabel g b)) (relabel_remove a p.1) ∙ relabel_balance g i q w (remove order a s) b)
      (relabel_joined g i a b)
      (ap (λ t. balance i (g q) w (relabel g a) t) (relabel_remove b p.2) ∙ relabel_balance g i q w a (remove order b s))

  pub relabel_freed : (t : Avl K) → KeepsOrder g order order' s (entries t) → freed order' (relabel g t) (g s) ≡ freed order t s
  relabel_freed tip kept = refl
  relabel_freed (fork i q w a b) kept =
      let p = keeps_sides i q w a b kept in
      by_shown (λ x. x) _ _ _ _ _ _ p.0 (relabel_freed a p.1) (ap Some (relabel_spare g i a b)) (relabel_freed b p.2)

  pub relabel_find : (t : Avl K) → KeepsOrder g order order' s (entries t) → find order' (relabel g t) (g s) ≡ find order t s
  relabel_find tip kept = refl
  relabel_find (fork i q w a b) kept =
      let p = keeps_sides i q w a b kept in
      by_shown (λ x. x) _ _ _ _ _ _ p.0 (relabel_find a p.1) refl (relabel_find b p.2)

  pub relabel_path : (after : Bool) (t : Avl K) → KeepsOrder g order order' s (entries t) → path after order' (relabel g t) (g s) ≡ path after order t s
  relabel_path after tip kept = refl
  relabel_path after (fork i q w a b) kept =
      let p = keeps_sides i q w a b kept in
      let later = relabel_path after b p.2 in
      ap suc (by_shown (λ x. x) (path after order a s) (cond after (path after order b s) 0) (path after order b s) _ _ _ p.0
      (relabel_path after a p.1) (ap (λ n. cond after n 0) later) later)

  pub relabel_seek : (after : Bool) (t : Avl K) → KeepsOrder g order order' s (entries t) → seek after order' (relabel g t) (g s) ≡ relabelled_found g (seek after order t s)
  relabel_seek after tip kept = refl
  relabel_seek after (fork i q w a b) kept =
      let p = keeps_sides i q w a b kept in
      let later = relabel_seek after b p.2 in
      by_shown (relabelled_found g) (or_else (seek after order a s) (entry q w)) (cond after (seek after order b s) (Some (entry q w))) (seek after order b s) _ _ _ p.0
      (ap (λ o. or_else o (entry (g q) w)) (relabel_seek after a p.1) ∙ relabel_or_else g (seek after order a s) (entry q w))
      (cond_shown (relabelled_found g) after (seek after order b s) (Some (entry q w)) _ _ later refl)
      later
