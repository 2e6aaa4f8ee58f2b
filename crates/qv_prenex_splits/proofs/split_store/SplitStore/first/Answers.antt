use Rattle.std.proofs.Common.{List, sym, subst}
use Rattle.qv_words.specs.Tree.{Tree}
use Rattle.qv_prenex_splits.specs.Sides.{IsFirstIte}
use Rattle.qv_prenex_splits.proofs.split_store.SplitStore.first.Goals as goal

pub returns-in-Some : goal.returns-in-Some
returns-in-Some c =
    subst (λ (trees : List Tree). IsFirstIte trees c.args.id c.in-Some.ite.now) c.self.view_is (c.self.invariant.firsts c.args.id c.in-Some.ite.now (sym c.in-Some.ensures.value))
