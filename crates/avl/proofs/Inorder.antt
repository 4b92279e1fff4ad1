-- The nodes from left to right: what each call makes of them.
use Rattle.std.proofs.Common.{◌≡◌, ℕ, Bool, ltb, List, [], ◌∷◌, ◌++◌, length, IfSome, Some, None, Option, Ordering, Less, Equal, Greater, sym, refl, ap, ◌∙◌, subst, append_assoc, append-nil, arith, length-append}
use Rattle.std.proofs.lemmas.Bool.{cond_both}
use Rattle.std.specs.Option.{option_or}
use Rattle.std.specs.List.{AllByRecursion}
use Rattle.books.specs.declared.entries.Entry.{Entry}
use Rattle.books.specs.Plain.{by_order, entry, look, put, take_out, first}
use Rattle.books.specs.Meaning.{OneMore}
use Rattle.digits.proofs.Every.{all_left, all_right}
use Rattle.books.proofs.Cuts.{more_here, more_left, more_right, more_cons, by_all, Compares, Cut, not_greater_less, not_less_equal, look_skip, look_stop, put_skip, put_stop, out_skip, out_stop, first_skip, first_append, Parted, parted}
use Rattle.avl.specs.Avl.{Avl, tip, fork, height, size, inorder, entries, slots, turn_right, turn_left, ready_left, ready_right, balance, insert, least_slot, least_key, least_ticket, without_least, joined, spare, remove, freed, find, or_else, seek}
use Rattle.avl.proofs.Balance.{balance_all}

-- Turns and balancing keep the list.
module _ {K X : Type 0} (f : ℕ → K → ℕ → X) where
  pub turn_right_inorder : (i : ℕ) (k : K) (v : ℕ) (a b : Avl K) → inorder f (turn_right i k v a b) ≡ inorder f a ++ (f i k v ∷ inorder f b)
  turn_right_inorder i k v tip b = refl
  turn_right_inorder i k v (fork j q w c d) b = sym (append_assoc (inorder f c) (f j q w ∷ inorder f d) (f i k v ∷ inorder f b))

  pub turn_left_inorder : (i : ℕ) (k : K) (v : ℕ) (a b : Avl K) → inorder f (turn_left i k v a b) ≡ inorder f a ++ (f i k v ∷ inorder f b)
  turn_left_inorder i k v a tip = refl
  turn_left_inorder i k v a (fork j q w c d) = append_assoc (inorder f a) (f i k v ∷ inorder f c) (f j q w ∷ inorder f d)

  pub ready_left_inorder : (a : Avl K) → inorder f (ready_left a) ≡ inorder f a
  ready_left_inorder tip = refl
  ready_left_inorder (fork j q w c d) =
      cond_both (ltb (height c) (height d)) _ _ (λ t. inorder f t ≡ inorder f c ++ (f j q w ∷ inorder f d)) (λ _. turn_left_inorder j q w c d) (λ _. refl)

  pub ready_right_inorder : (a : Avl K) → inorder f (ready_right a) ≡ inorder f a
  ready_right_inorder tip = refl
  ready_right_inorder (fork j q w c d) =
      cond_both (ltb (height d) (height c)) _ _ (λ t. inorder f t ≡ inorder f c ++ (f j q w ∷ inorder f d)) (λ _. turn_right_inorder j q w c d) (λ _. refl)

  pub balance_inorder : (i : ℕ) (k : K) (v : ℕ) (a b : Avl K) → inorder f (balance i k v a b) ≡ inorder f a ++ (f i k v ∷ inorder f b)
  balance_inorder i k v a b =
      balance_all (λ t. inorder f t ≡ inorder f a ++ (f i k v ∷ inorder f b)) i k v a b
      (λ _. turn_right_inorder i k v (ready_left a) b ∙ ap (λ l. l ++ (f i k v ∷ inorder f b)) (ready_left_inorder a))
      (λ _. turn_left_inorder i k v a (ready_right b) ∙ ap (λ l. inorder f a ++ (f i k v ∷ l)) (ready_right_inorder b))
      (λ _ _. refl)

  -- the least node is the first
  pub least_first : (i : ℕ) (k : K) (v : ℕ) (a b : Avl K) →
      inorder f (fork i k v a b) ≡ f (least_slot i k v a) (least_key i k v a) (least_ticket i k v a) ∷ inorder f (without_least i k v a b)
  least_first i k v tip b = refl
  least_first i k v (fork j q w c d) b =
      ap (λ l. l ++ (f i k v ∷ inorder f b)) (least_first j q w c d)
      ∙ ap (λ l. f (least_slot j q w c) (least_key j q w c) (least_ticket j q w c) ∷ l) (sym (balance_inorder i k v (without_least j q w c d) b))

  -- a side of a node with one more or one less, and the node put in balance
  module _ (x : X) (i : ℕ) (k : K) (v : ℕ) where
    gains_left : (a a' b : Avl K) → OneMore x (inorder f a) (inorder f a') → OneMore x (inorder f (fork i k v a b)) (inorder f (balance i k v a' b))
    gains_left a a' b m = subst (OneMore x _) (sym (balance_inorder i k v a' b)) (more_left x _ _ _ m)

    gains_right : (a b b' : Avl K) → OneMore x (inorder f b) (inorder f b') → OneMore x (inorder f (fork i k v a b)) (inorder f (balance i k v a b'))
    gains_right a b b' m = subst (OneMore x _) (sym (balance_inorder i k v a b')) (more_right x _ _ _ (more_cons x (f i k v) _ _ m))

    loses_left : (a a' b : Avl K) → OneMore x (inorder f a') (inorder f a) → OneMore x (inorder f (balance i k v a' b)) (inorder f (fork i k v a b))
    loses_left a a' b m = subst (λ l. OneMore x l (inorder f (fork i k v a b))) (sym (balance_inorder i k v a' b)) (more_left x _ _ _ m)

    loses_right : (a b b' : Avl K) → OneMore x (inorder f b') (inorder f b) → OneMore x (inorder f (balance i k v a b')) (inorder f (fork i k v a b))
    loses_right a b b' m = subst (λ l. OneMore x l (inorder f (fork i k v a b))) (sym (balance_inorder i k v a b')) (more_right x _ _ _ (more_cons x (f i k v) _ _ m))

pub balance_entries : {K : Type 0} (i : ℕ) (k : K) (v : ℕ) (a b : Avl K) → entries (balance i k v a b) ≡ entries a ++ (entry k v ∷ entries b)
balance_entries {K} i k v a b = balance_inorder {X = Entry K} (λ i k v. entry k v) i k v a b

pub balance_slots : {K : Type 0} (i : ℕ) (k : K) (v : ℕ) (a b : Avl K) → slots (balance i k v a b) ≡ slots a ++ (i ∷ slots b)
balance_slots i k v a b = balance_inorder (λ i k v. i) i k v a b

pub without_least_slots : {K : Type 0} (i : ℕ) (k : K) (v : ℕ) (a b : Avl K) → slots (fork i k v a b) ≡ least_slot i k v a ∷ slots (without_least i k v a b)
without_least_slots i k v a b = least_first (λ i k v. i) i k v a b

-- there are as many nodes from left to right as in the tree
pub size_inorder : {K X : Type 0} (f : ℕ → K → ℕ → X) (t : Avl K) → size t ≡ length (inorder f t)
size_inorder f tip = refl
size_inorder f (fork i k v a b) =
    let x = size_inorder f a in let y = size_inorder f b in let z = length-append (inorder f a) (f i k v ∷ inorder f b) in omega arith

pub size_entries : {K : Type 0} (t : Avl K) → size t ≡ length (entries t)
size_entries t = size_inorder (λ i k v. entry k v) t

pub size_slots : {K : Type 0} (t : Avl K) → size t ≡ length (slots t)
size_slots t = size_inorder (λ i k v. i) t

-- In any order one node comes or goes.
pub never : {X Y : Type 0} {x : X} → Some x ≡ None → Y
never e = absurd cc

module _ {K X : Type 0} (f : ℕ → K → ℕ → X) (order : K → K → Ordering) (k : K) (v s : ℕ) where
  pub insert_one_more : (t : Avl K) → find order t k ≡ None → OneMore (f s k v) (inorder f t) (inorder f (insert order t k v s))
  insert_one_more tip n = more_here (f s k v) [] []
  insert_one_more (fork i q w a b) n = by (order k q) n (insert_one_more a) (insert_one_more b)
    where
      by : (c : Ordering) → by_order c (find order a k) (Some w) (find order b k) ≡ None →
          (find order a k ≡ None → OneMore (f s k v) (inorder f a) (inorder f (insert order a k v s))) →
          (find order b k ≡ None → OneMore (f s k v) (inorder f b) (inorder f (insert order b k v s))) →
          OneMore (f s k v) (inorder f (fork i q w a b)) (inorder f (by_order c (balance i q w (insert order a k v s) b) (fork i q w a b) (balance i q w a (insert order b k v s))))
      by Less e x y = gains_left f (f s k v) i q w a (insert order a k v s) b (x e)
      by Equal e x y = never e
      by Greater e x y = gains_right f (f s k v) i q w a b (insert order b k v s) (y e)

pub joined_entries : {K : Type 0} (i : ℕ) (a b : Avl K) → entries (joined i a b) ≡ entries a ++ entries b
joined_entries i tip b = refl
joined_entries i (fork j q w c d) tip = sym (append-nil _)
joined_entries i (fork j q w c d) (fork m x u e f) =
    balance_entries i (least_key m x u e) (least_ticket m x u e) (fork j q w c d) (without_least m x u e f)
    ∙ ap (λ l. entries (fork j q w c d) ++ l) (sym (least_first (λ i k v. entry k v) m x u e f))

pub joined_slots : {K : Type 0} (i : ℕ) (a b : Avl K) → OneMore (spare i a b) (slots (joined i a b)) (slots a ++ (i ∷ slots b))
joined_slots i tip b = more_here i [] (slots b)
joined_slots i (fork j q w c d) tip =
    record { front = slots (fork j q w c d); back = []; without = sym (append-nil _); with_it = refl }
joined_slots i (fork j q w c d) (fork m x u e f) =
    let left = slots (fork j q w c d) in
    let rest = slots (without_least m x u e f) in
    record {
      front = left ++ (i ∷ []);
      back = rest;
      without = balance_slots i (least_key m x u e) (least_ticket m x u e) (fork j q w c d) (without_least m x u e f) ∙ sym (append_assoc left (i ∷ []) rest);
      with_it = ap (λ l. left ++ (i ∷ l)) (without_least_slots m x u e f) ∙ sym (append_assoc left (i ∷ []) (least_slot m x u e ∷ rest));
    }

module _ {K : Type 0} (order : K → K → Ordering) (s : K) where
  -- where a ticket is found, a removal takes a pair of that ticket out
  pub remove_entries : (t : Avl K) (n : ℕ) → find order t s ≡ Some n → (key : K) × OneMore (entry key n) (entries (remove order t s)) (entries t)
  remove_entries tip n e = never (sym e)
  remove_entries (fork i k v a b) n e = by (order s k) e (remove_entries a n) (remove_entries b n)
    where
      by : (c : Ordering) → by_order c (find order a s) (Some v) (find order b s) ≡ Some n →
          (find order a s ≡ Some n → (key : K) × OneMore (entry key n) (entries (remove order a s)) (entries a)) →
          (find order b s ≡ Some n → (key : K) × OneMore (entry key n) (entries (remove order b s)) (entries b)) →
          (key : K) × OneMore (entry key n) (entries (by_order c (balance i k v (remove order a s) b) (joined i a b) (balance i k v a (remove order b s)))) (entries (fork i k v a b))
      by Less e x y = let r = x e in (r.0, loses_left (λ i k v. entry k v) (entry r.0 n) i k v a (remove order a s) b r.1)
      by Equal e x y =
          let is : v ≡ n = cc in (
            k,
            subst (λ l. OneMore (entry k n) l (entries (fork i k v a b))) (sym (joined_entries i a b))
                (subst (λ m. OneMore (entry k m) (entries a ++ entries b) (entries (fork i k v a b))) is (more_here (entry k v) (entries a) (entries b))),
          )
      by Greater e x y = let r = y e in (r.0, loses_right (λ i k v. entry k v) (entry r.0 n) i k v a b (remove order b s) r.1)

  pub remove_slots : (t : Avl K) (n : ℕ) → freed order t s ≡ Some n → OneMore n (slots (remove order t s)) (slots t)
  remove_slots tip n e = never (sym e)
  remove_slots (fork i k v a b) n e = by (order s k) e (remove_slots a n) (remove_slots b n)
    where
      by : (c : Ordering) → by_order c (freed order a s) (Some (spare i a b)) (freed order b s) ≡ Some n →
          (freed order a s ≡ Some n → OneMore n (slots (remove order a s)) (slots a)) →
          (freed order b s ≡ Some n → OneMore n (slots (remove order b s)) (slots b)) →
          OneMore n (slots (by_order c (balance i k v (remove order a s) b) (joined i a b) (balance i k v a (remove order b s)))) (slots (fork i k v a b))
      by Less e x y = loses_left (λ i k v. i) n i k v a (remove order a s) b (x e)
      by Equal e x y = let is : spare i a b ≡ n = cc in subst (λ m. OneMore m (slots (joined i a b)) (slots (fork i k v a b))) is (joined_slots i a b)
      by Greater e x y = loses_right (λ i k v. i) n i k v a b (remove order b s) (y e)

  -- what holds of each ticket holds of one that is found
  pub find_all : (P : ℕ → Type 0) (t : Avl K) → AllByRecursion (λ e. P e.ticket) (entries t) → IfSome (find order t s) P
  find_all P tip p = tt
  find_all P (fork i k v a b) p =
      let right = all_right (λ e. P e.ticket) (entries a) (entry k v ∷ entries b) p in
      by_all (λ o. IfSome o P) (order s k)
      (find_all P a (all_left (λ e. P e.ticket) (entries a) (entry k v ∷ entries b) p)) right.0 (find_all P b right.1)

  -- what holds of each pair holds of one that a seek answers
  pub seek_all : (after : Bool) (P : Entry K → Type 0) (t : Avl K) → AllByRecursion P (entries t) → IfSome (seek after order t s) P
  seek_all after P tip p = tt
  seek_all after P (fork i k v a b) p =
      let left = seek_all after P a (all_left P (entries a) (entry k v ∷ entries b) p) in
      let right = all_right P (entries a) (entry k v ∷ entries b) p in
      let later = seek_all after P b right.1 in
      by_all (λ o. IfSome o P) (order s k) (or_all (seek after order a s) left right.0)
      (cond_both after (seek after order b s) (Some (entry k v)) (λ o. IfSome o P) (λ _. later) (λ _. right.0)) later
    where
      or_all : (o : Option (Entry K)) → IfSome o P → P (entry k v) → IfSome (or_else o (entry k v)) P
      or_all None p q = q
      or_all (Some e) p q = p

or_else_other : {X : Type 0} (o : Option X) (x : X) → or_else o x ≡ option_or o (Some x)
or_else_other None x = refl
or_else_other (Some y) x = refl

-- Where the list is cut by the key: the plain calls.
module _ {K : Type 0} (order : K → K → Ordering) (s : K) where
  -- the three ways at a node
  record Ways (x : Entry K) (xs ys : List (Entry K)) (G : Type 0) : Type 0 where
    at_less : order s x.key ≡ Less → Compares order s Less (x ∷ ys) → G
    at_equal : order s x.key ≡ Equal → Compares order s Greater xs → G
    at_greater : order s x.key ≡ Greater → Compares order s Greater xs → G

  ways : (x : Entry K) (xs ys : List (Entry K)) (G : Type 0) → Parted order s xs x ys → Ways x xs ys G → G
  ways x xs ys G p w = by (order s x.key) refl
    where
      by : (c : Ordering) → order s x.key ≡ c → G
      by Less e = w.at_less e (e, p.above (not_greater_less e))
      by Equal e = w.at_equal e (p.below (not_less_equal e))
      by Greater e = w.at_greater e (p.below (λ l. not_greater_less l e))

  pub find_plain : (t : Avl K) → Cut order s (entries t) → find order t s ≡ look order (entries t) s
  find_plain tip c = refl
  find_plain (fork i k v a b) c =
      let p = parted order s (entries a) (entry k v) (entries b) c in
      let x = find_plain a p.left in
      let y = find_plain b p.right in
      ways (entry k v) (entries a) (entries b) _ p (record {
        at_less = λ e l. let h = look_stop order s (entries a) (entry k v ∷ entries b) l in cc;
        at_equal = λ e g. let h = look_skip order s (entries a) (entry k v ∷ entries b) g in cc;
        at_greater = λ e g. let h = look_skip order s (entries a) (entry k v ∷ entries b) g in cc;
      })

  pub seek_plain : (after : Bool) (t : Avl K) → Cut order s (entries t) → seek after order t s ≡ first after order (entries t) s
  seek_plain after tip c = refl
  seek_plain after (fork i k v a b) c =
      let p = parted order s (entries a) (entry k v) (entries b) c in
      let x = seek_plain after a p.left in
      let y = seek_plain after b p.right in
      let o = or_else_other (seek after order a s) (entry k v) in
      ways (entry k v) (entries a) (entries b) _ p (record {
        at_less = λ e l. let h = first_append order s after (entries a) (entry k v ∷ entries b) in cc;
        at_equal = λ e g. let h = first_skip order s after (entries a) (entry k v ∷ entries b) g in cc;
        at_greater = λ e g. let h = first_skip order s after (entries a) (entry k v ∷ entries b) g in cc;
      })

  pub insert_plain : (v n : ℕ) (t : Avl K) → Cut order s (entries t) → entries (insert order t s v n) ≡ put order (entries t) s v
  insert_plain v n tip c = refl
  insert_plain v n (fork i q w a b) c =
      let p = parted order s (entries a) (entry q w) (entries b) c in
      let x = insert_plain v n a p.left in
      let y = insert_plain v n b p.right in
      let d = balance_entries i q w (insert order a s v n) b in
      let f = balance_entries i q w a (insert order b s v n) in
      ways (entry q w) (entries a) (entries b) _ p (record {
        at_less = λ e l. let h = put_stop order s v (entries a) (entry q w) (entries b) e in cc;
        at_equal = λ e g. let h = put_skip order s v (entries a) (entry q w ∷ entries b) g in cc;
        at_greater = λ e g. let h = put_skip order s v (entries a) (entry q w ∷ entries b) g in cc;
      })

  pub remove_plain : (t : Avl K) → Cut order s (entries t) → entries (remove order t s) ≡ take_out order (entries t) s
  remove_plain tip c = refl
  remove_plain (fork i q w a b) c =
      let p = parted order s (entries a) (entry q w) (entries b) c in
      let x = remove_plain a p.left in
      let y = remove_plain b p.right in
      let d = balance_entries i q w (remove order a s) b in
      let f = balance_entries i q w a (remove order b s) in
      let j = joined_entries i a b in
      ways (entry q w) (entries a) (entries b) _ p (record {
        at_less = λ e l. let h = out_stop order s (entries a) (entry q w ∷ entries b) l in cc;
        at_equal = λ e g. let h = out_skip order s (entries a) (entry q w ∷ entries b) g in cc;
        at_greater = λ e g. let h = out_skip order s (entries a) (entry q w ∷ entries b) g in cc;
      })
