use Rattle.std.proofs.Common.{rules, ◌≡◌, ◌-◌, ◌*◌, ◌&&◌, ℕ, zero, suc, ◌+◌, eqb, List, length, get_or, drop, sym, ap, ◌∙◌, arith}
use Rattle.std.specs.List.{list_all, range_with_len}
use Rattle.std.proofs.lemmas.Iterator.{YieldsList-from_range}
use Rattle.std.proofs.lemmas.Iterator.Search.{all_from_yields_List}
use Rattle.std.proofs.lemmas.List.{at_drop_more, at_drop_all}
use Rattle.digits.specs.Positional.{trits, all_zero}
use Rattle.digits.proofs.Packing.{length_unpacked}
use Rattle.sealing.proofs.taker.are_zeros.Goals as goal

-- asking at each place from one on is asking what is left from there
zeros_from : (ds : List ℕ) (n from : ℕ) → n ≡ length ds - from → list_all (λ i. eqb (get_or ds i 0) 0) (range_with_len from n) ≡ all_zero (drop from ds)
zeros_from ds zero from e = sym (at_drop_all all_zero ds from (omega arith))
zeros_from ds (suc n) from e =
    ap (λ rest. eqb (get_or ds from 0) 0 && rest) (zeros_from ds n (from + 1) (omega arith)) ∙ sym (at_drop_more all_zero ds from 0 (omega arith))

pub returns : goal.returns
returns c =
    let ts = trits c.args.packed.now in
    let from = c.args.from in
    let size = length_unpacked 3 5 c.args.packed.now in
    all_from_yields_List (λ i. eqb (get_or ts i 0) 0) _ _ c.all.result c.all.ensures.ran (YieldsList-from_range from (5 * length c.args.packed.now) (length ts - from) (search rules) (omega arith)) (λ x b q k. search rules)
    ∙ zeros_from ts (length ts - from) from (omega arith)
