use Rattle.std.proofs.Common.{◌≡◌, ap, ◌∙◌, refl, ◌/◌, length, arith}
use Rattle.siphash.specs.SipHash.{initialize}
use Rattle.std.specs.Simd.{first_chunks}
use Rattle.siphash.proofs.State.new.Goals as goal

pub returns : goal.returns
unfolding initialize
returns c =
    let key = c.args.key.now in
    let two : length key / 8 ≡ 2 = omega arith in
    let words = c.as_chunks.ensures.front ∙ ap (λ n. first_chunks 8 n key) two in
    let k0 = rw words at c.from_le_bytes-k0.ensures in
    let k1 = rw words at c.from_le_bytes-k1.ensures in
    rw (k0, k1) refl
