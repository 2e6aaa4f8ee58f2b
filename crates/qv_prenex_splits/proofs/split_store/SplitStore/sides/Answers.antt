use Rattle.std.proofs.Common.{List, sym, subst}
use Rattle.qv_words.specs.Tree.{Tree}
use Rattle.qv_prenex_splits.specs.Sides.{IsSplitInto}
use Rattle.qv_prenex_splits.proofs.split_store.SplitStore.sides.Goals as goal

pub returns-in-Some : goal.returns-in-Some
returns-in-Some c =
    subst (λ (trees : List Tree). IsSplitInto trees c.args.id c.in-Some.sides.now) c.self.view_is (c.self.invariant.sides c.args.id c.in-Some.sides.now (sym c.in-Some.ensures.value))
