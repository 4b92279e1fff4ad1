use Rattle.std.proofs.Common.{◌≡◌, ◌-◌, ◌%◌, length, replicate, Err, sym, ap, ◌∙◌, arith, rules}
use Rattle.std.proofs.lemmas.Nat.{shl_whole}
use Rattle.std.proofs.lemmas.Result.{err_from_is_err_and}
use mir.Val.{bool_byte}
use Rattle.digits.proofs.Bits.{bit_small}
use Rattle.sealing.specs.Opened.{found_answer}
use Rattle.sealing.proofs.Walking.{steps_on}
use Rattle.sealing.proofs.Unmasking.{nothing_opened, no_bit_behind, written_fits, one_more_opened}
use Rattle.sealing.proofs.opener.open_bytes.Goals as goal
use Rattle.sealing.proofs.opener.open_bytes.Goals.{then-i-end+in_ok-step, else-i-end}

pub loop-i-init : goal.loop-i-init
loop-i-init g c =
    let cleared : c.fill.new.self ≡ replicate (length c.args.key.now) 0 = search rules in
    (c.restart.ensures.same, nothing_opened _ _ (length c.args.key.now) _ c.fill.new.self c.restart.ensures.list cleared)

pub returns-in_err-bit : goal.returns-in_err-bit
returns-in_err-bit g c =
    let f = g.S.MaskSource.masks c.args.source.now in
    let walked = g.S.MaskSource.walked c.loop-i.source in
    let sealed = c.args.sealed.now in
    let none = no_bit_behind f sealed (length c.args.key.now) c.loop-i.i walked c.loop-i.key c.loop-i.invariant.1 c.requires c.told-sealed
    c.loop-i-test.true c.trit_at.result c.mask.result c.trit_at.ensures (c.mask.ensures ∙ ap (λ h. h walked) c.loop-i.invariant.0) _ c.in_err-bit.ensures in
    let refusal = err_from_is_err_and c.from_residual.result c.from_residual.ensures.1 in
    record {
      answer = refusal.1 ∙ ap (λ e. Err e) (refusal.2 ∙ none.1) ∙ sym (ap found_answer none.0);
      left = rw none.0 tt;
      same_masks = c.loop-i.invariant.0;
    }

pub overflow_add-key : goal.overflow_add-key
overflow_add-key g c =
    let i = c.loop-i.i in
    let bit = c.in_ok-bit.bit in
    let walked = g.S.MaskSource.walked c.loop-i.source in
    omega (
      arith,
      written_fits _ c.args.sealed.now (length c.args.key.now) i walked c.loop-i.key c.loop-i.invariant.1 c.requires c.told-sealed
          c.loop-i-test.true c.trit_at.result c.mask.result c.trit_at.ensures (c.mask.ensures ∙ ap (λ h. h walked) c.loop-i.invariant.0) bit _ (shl_whole (bool_byte bit) 1 (7 - i % 8) 8 (bit_small bit) (omega arith)),
    )

pub loop-i-preserved : goal.loop-i-preserved
loop-i-preserved g c =
    let i = c.loop-i.i in
    let bit = c.in_ok-bit.bit in
    let masks = g.S.MaskSource.masks in
    let walked = g.S.MaskSource.walked in
    let before = walked c.loop-i.source in
    let so_far = c.loop-i.invariant.1 in
    let more = one_more_opened (masks c.args.source.now) c.args.sealed.now (length c.args.key.now) i before c.loop-i.key so_far c.requires c.told-sealed
    c.loop-i-test.true c.trit_at.result c.mask.result c.trit_at.ensures (c.mask.ensures ∙ ap (λ h. h before) c.loop-i.invariant.0) bit _ (shl_whole (bool_byte bit) 1 (7 - i % 8) 8 (bit_small bit) (omega arith))
    c.in_ok-bit.ensures (walked c.if-i-end.source) in
    let far : length before ≡ i = ap length (so_far.along c.loop-i-test.true) ∙ so_far.long in
    elim c.if-i-end.branch [
      | then-i-end+in_ok-step w ↦ (
        ap masks w.source-is ∙ w.step.ensures.same ∙ c.loop-i.invariant.0,
        more (λ _. ap walked w.source-is ∙ w.step.ensures.list ∙ steps_on before (omega (arith, far, w.if-i-end.true, c.requires)) bit),
      )
      | else-i-end w ↦
          (ap masks w.source-is ∙ c.loop-i.invariant.0, more (λ further. absurd (omega (arith, further, w.if-i-end.false))))
    ]
