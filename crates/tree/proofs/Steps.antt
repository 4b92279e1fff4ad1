-- What each call leaves in memory stands soundly as the model's next step.
use Rattle.std.proofs.Common.{◌≡◌, ℕ, Bool, true, false, List, [], ◌∷◌, length, not, eqb, Ok, Err, Option, Result, Ordering, sym, refl, ap, ◌∙◌, subst, arith}
use Rattle.std.specs.List.{slice_get, AllByRecursion}
use Rattle.std.proofs.lemmas.Bool.{cond-false, ne_eqb, eq-eqb}
use Rattle.books.specs.Calls.{Call, Add, Take, Find, SeekFrom, SeekAfter, Answer, Found, Sought}
use Rattle.books.specs.Meaning.{usable}
use Rattle.avl.specs.Avl.{seek, path}
use Rattle.avl.specs.Model.{TreeModel, counted, served_step, tree_step, Sound}
use Rattle.avl.proofs.Soundness.{model_kept}
use Rattle.books.specs.declared.entries.Entry.{Entry}
use Rattle.tree.specs.declared.counted.Counted.{Counted}
use Rattle.tree.specs.Links.{Link}
use Rattle.tree.specs.declared.nodes.Node.{Node}
use Rattle.tree.specs.declared.states.State.{State}
use Rattle.tree.specs.Descents.{FindsBelow, SeeksBelow}
use Rattle.tree.specs.States.{model_of, Chain, StandsSoundly, Means, counted_state, seek_call, sound_in}
use Rattle.tree.proofs.Soundness.{stands_from_test, means_from_stands}
use Rattle.tree.proofs.Spots.{tree_placed}
use Rattle.keys.specs.declared.refusals.Refusal.TheVariants.{NoSlots}
use Rattle.keys.specs.declared.refusals.Refusal.{Refusal}
use Rattle.keys.specs.Refusals.{asked}

-- free slots that did not change stand as they stood
pub chain_still : {K : Type 0} (nodes after : List (Node K)) (free : List ℕ) (at : Link) → AllByRecursion (λ j. slice_get after j ≡ slice_get nodes j) free → Chain nodes at free → Chain after at free
chain_still nodes after [] at same c = c
chain_still nodes after (i ∷ free) at same c =
    (c.0, (c.1.0, (same.0 ∙ c.1.1.0, c.1.1.1, chain_still nodes after free c.1.0.left same.1 c.1.1.2)))

-- what a step of a model answers, and that memory and numbers then mean the model that it leaves
pub record CallDone {K : Type 0} (step : Answer K × TreeModel K) (answer : Answer K) (after : List (Node K)) (state : State) : Type 0 where
  pub answers : answer ≡ step.0
  pub leaves : Means after state step.1

-- the same of an answer and of numbers that are equal to those
pub done_so : {K : Type 0} {step : Answer K × TreeModel K} {answer told : Answer K} {nodes after : List (Node K)} {state left : State} →
    told ≡ answer → after ≡ nodes → left ≡ state → CallDone step answer nodes state → CallDone step told after left
done_so {step = step} {nodes = nodes} {left = left} e same n d =
    record { answers = e ∙ d.answers; leaves = subst (λ nodes. Means nodes left step.1) (sym same) (subst (λ state. Means nodes state step.1) (sym n) d.leaves) }

-- memory and numbers once a call has begun: they are sound, slots serve, and each step is one of the model m, in which no comparison is counted yet
pub record Begun {K : Type 0} (order : K → K → Ordering) (step : Call K → Answer K × TreeModel K) (nodes : List (Node K)) (state : State) (m : TreeModel K) : Type 0 where
  pub stands : StandsSoundly nodes state m
  pub served : m.room ≡ 0 → ⊥
  pub steps : (c : Call K) → step c ≡ served_step order m c

served_is : {K : Type 0} (order : K → K → Ordering) (m : TreeModel K) → (m.room ≡ 0 → ⊥) → (c : Call K) → tree_step order m c ≡ served_step order m c
served_is order m served c = cond-false _ _ _ (ne_eqb m.room 0 served)

-- the count of comparisons before a call is nothing to it
served_so : {K : Type 0} (order : K → K → Ordering) (m : TreeModel K) (n : ℕ) (c : Call K) → served_step order m c ≡ served_step order (counted n m) c
served_so order m n (Add k v) = refl
served_so order m n (Take k) = refl
served_so order m n (Find k) = refl
served_so order m n (SeekFrom k) = refl
served_so order m n (SeekAfter k) = refl

-- what `start` tells where it does not refuse
pub begins : {K X : Type 0} (order : K → K → Ordering) {nodes begun : List (Node K)} (state : State) {begun_state : State} {answer : Result X Refusal} {x : X} → sound_in begun begun_state ≡ true →
    begun ≡ nodes → begun_state ≡ counted_state state 0 → answer ≡ asked (not (eqb (usable (length nodes)) 0)) NoSlots (Ok x) → answer ≡ Ok x →
    Begun order (tree_step order (model_of nodes state)) begun begun_state (model_of begun begun_state)
begins order {nodes} {begun} state {begun_state} {x = x} sound same counts asks ok =
    let served : usable (length nodes) ≡ 0 → ⊥ = λ none.
    (let unserved : asked (not (eqb (usable (length nodes)) 0)) NoSlots (Ok x) ≡ Err NoSlots = cond-false _ _ _ (ap not (eq-eqb (usable (length nodes)) 0 none)) in
    cc) in
    record {
      stands = stands_from_test begun begun_state sound;
      served = λ none. served (ap (λ l. usable (length l)) (sym same) ∙ none);
      steps = λ c. served_is order (model_of nodes state) served c ∙ served_so order (model_of nodes state) 0 c
          ∙ sym (ap (λ l. served_step order (model_of l begun_state) c) same ∙ ap (λ state. served_step order (model_of nodes state) c) counts);
    }

module _ {K : Type 0} {order : K → K → Ordering} {step : Call K → Answer K × TreeModel K} {nodes : List (Node K)} {state : State} {m : TreeModel K} (b : Begun order step nodes state m) where
  -- a model's step is sound, so only that it stands is to be shown
  pub done : (c : Call K) {answer : Answer K} {left : TreeModel K} {after : List (Node K)} {then : State} →
      served_step order m c ≡ (answer, left) → (Sound left → StandsSoundly after then left) → CallDone (step c) answer after then
  done c {left = left} {after = after} {then = then} does stands =
      let leaves : (step c).1 ≡ left = ap (λ (r : Answer K × TreeModel K). r.1) (b.steps c ∙ does) in
      let sound = subst Sound (ap (λ (r : Answer K × TreeModel K). r.1) (served_is order m b.served c ∙ does)) (model_kept order m c b.stands.sound) in
      record {
        answers = sym (ap (λ (r : Answer K × TreeModel K). r.0) (b.steps c ∙ does));
        leaves = subst (Means after then) (sym leaves) (means_from_stands after then left (stands sound));
      }

  -- a call that only counts its comparisons
  pub counted_done : (c : Call K) {answer : Answer K} {n : ℕ} → served_step order m c ≡ (answer, counted n m) → CallDone (step c) answer nodes (counted_state state n)
  counted_done c {n = n} does = done c does (λ sound. record {
    tree_stands = b.stands.tree_stands;
    free_stands = b.stands.free_stands;
    fresh_is = b.stands.fresh_is;
    room_is = b.stands.room_is;
    comparisons_is = refl;
    held_is = b.stands.held_is;
    sound = sound;
  })

  pub found_done : {k : K} {r : Counted (Option ℕ)} → FindsBelow order nodes state.root k r → CallDone (step (Find k)) (Found (Ok r.answer)) nodes (counted_state state r.comparisons)
  found_done {k} finds =
      let found = finds m.tree (tree_placed nodes state m b.stands 250 (omega arith)) in
      done_so (ap (λ ticket. Found (Ok ticket)) found.answer) refl (ap (counted_state state) found.comparisons) (counted_done (Find k) refl)

  pub sought_done : (after : Bool) {k : K} {r : Counted (Option (Entry K))} → SeeksBelow after order nodes state.root k r → CallDone (step (seek_call after k)) (Sought (Ok r.answer)) nodes (counted_state state r.comparisons)
  sought_done after {k} {r} seeks =
      let sought = seeks m.tree (tree_placed nodes state m b.stands 250 (omega arith)) in
      done_so (ap (λ entry. Sought (Ok entry)) sought.answer) refl (ap (counted_state state) sought.comparisons) (by after)
    where
      by : (after : Bool) → CallDone (step (seek_call after k)) (Sought (Ok (seek after order m.tree k))) nodes (counted_state state (path after order m.tree k))
      by false = counted_done (SeekFrom k) refl
      by true = counted_done (SeekAfter k) refl
