use Rattle.std.proofs.Common.{arith}
use Rattle.avl.proofs.Soundness.{model_kept}
use Rattle.avl.proofs.Meanings.{model_means}
use Rattle.tree.proofs.Soundness.{stands_from_test}
use Rattle.tree.proofs.tree_books.TreeBook.rule.Goals as goal

pub returns : goal.returns
returns g c =
    let order = g.K.OrderedKey.order in
    let met = g.met.K.OrderedKey in
    record {
      valid = (stands_from_test _ _ c.args.self.now.ok).sound;
      kept = λ m x sound lawful. model_kept order m x sound;
      means = λ m x sound lawful. model_means order g.K.OrderedKey.family (λ i. record { flips = met.flips i; chains = met.chains i; same = met.same i }) m x;
      limited = λ m sound. omega (arith, sound.few);
    }
