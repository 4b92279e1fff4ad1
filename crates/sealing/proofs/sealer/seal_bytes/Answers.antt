use Rattle.std.proofs.Common.{◌%◌, Ok, ap, ◌∙◌, arith}
use Rattle.digits.proofs.Packing.{trit_weight}
use Rattle.sealing.specs.MaskingLemmas.{nothing_sealed, walked_long, next_fits, one_more_sealed, all_sealed}
use Rattle.sealing.proofs.Walking.{steps_on}
use Rattle.sealing.proofs.sealer.seal_bytes.Goals as goal
use Rattle.sealing.proofs.sealer.seal_bytes.Goals.{then-i-end+in_ok-step, else-i-end}

pub loop-i-init : goal.loop-i-init
loop-i-init g c = (c.restart.ensures.same, nothing_sealed _ c.args.key.now _ c.restart.ensures.list)

pub overflow_add-trits : goal.overflow_add-trits
overflow_add-trits g c =
    let walked = g.S.MaskSource.walked c.loop-i.source in
    omega (
      arith,
      next_fits _ c.args.key.now c.loop-i.i walked c.loop-i.trits c.loop-i.invariant.1 c.loop-i-test.true c.requires c.mask.result c.bit_at-bit.result _
          (c.mask.ensures ∙ ap (λ h. h walked) c.loop-i.invariant.0) c.bit_at-bit.ensures (trit_weight (c.loop-i.i % 5) (omega arith)),
    )

pub loop-i-preserved : goal.loop-i-preserved
loop-i-preserved g c =
    let key = c.args.key.now in
    let i = c.loop-i.i in
    let bit = c.bit_at-bit.result in
    let masks = g.S.MaskSource.masks in
    let walked = g.S.MaskSource.walked in
    let before = walked c.loop-i.source in
    let so_far = c.loop-i.invariant.1 in
    let far = walked_long (masks c.args.source.now) key i before c.loop-i.trits so_far c.loop-i-test.true in
    let more = one_more_sealed (masks c.args.source.now) key i before c.loop-i.trits so_far c.loop-i-test.true c.requires c.mask.result bit _
    (c.mask.ensures ∙ ap (λ h. h before) c.loop-i.invariant.0) c.bit_at-bit.ensures (trit_weight (i % 5) (omega arith)) (walked c.if-i-end.source) in
    elim c.if-i-end.branch [
      | then-i-end+in_ok-step w ↦ (
        ap masks w.source-is ∙ w.step.ensures.same ∙ c.loop-i.invariant.0,
        more (λ _. ap walked w.source-is ∙ w.step.ensures.list ∙ steps_on before (omega (arith, far, w.if-i-end.true, c.requires)) bit),
      )
      | else-i-end w ↦
          (ap masks w.source-is ∙ c.loop-i.invariant.0, more (λ further. absurd (omega (arith, further, w.if-i-end.false))))
    ]

pub returns : goal.returns
returns g c =
    record {
      answer = ap (λ bytes. Ok bytes) (all_sealed _ c.args.key.now c.loop-i.i _ c.loop-i.trits c.loop-i.invariant.1 c.loop-i-test.false);
      same_masks = c.loop-i.invariant.0;
    }
