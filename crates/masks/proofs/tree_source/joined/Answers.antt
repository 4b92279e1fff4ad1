use Rattle.std.proofs.Common.{◌≡◌, ℕ, List, ◌++◌, length, drop, replicate, ap, ◌∙◌}
use borrow.Rule.Slice.PartMut.{put_mid}
use Rattle.std.proofs.lemmas.List.{take_at, drop_at, append-nil}
use Rattle.masks.proofs.tree_source.joined.Goals as goal

filled_in : (first second : List ℕ) → length first ≡ 8 → put_mid 8 8 (first ++ replicate 8 0) second ≡ first ++ second
filled_in first second l =
    let zeros : List ℕ = replicate 8 0 in
    let front = take_at first zeros 8 l in
    let behind = ap (drop 8) (drop_at first zeros 8 l) in
    ap (λ xs. xs ++ (second ++ drop 8 (drop 8 (first ++ zeros)))) front ∙ ap (λ xs. first ++ (second ++ xs)) behind ∙ ap (λ xs. first ++ xs) (append-nil second)

pub returns : goal.returns
returns c =
    let whole = filled_in c.copy_from_slice.new.self c.copy_from_slice-2.new.self c.copy_from_slice.ensures.len in
    cc
