use Rattle.std.proofs.Common.{List, sym, subst}
use Rattle.qv_words.specs.Tree.{Tree}
use Rattle.qv_prenex_splits.specs.Sides.{IsSplitInto}
use Rattle.qv_prenex_splits.proofs.SplitTerms.{sides-more}
use Rattle.qv_prenex_splits.proofs.split_store.SplitStore.keep.Goals as goal

pub invariant_of-self-2 : goal.invariant_of-self-2
invariant_of-self-2 c =
    let is = subst (λ (trees : List Tree). IsSplitInto trees c.args.id c.args.sides.now) (sym c.self.view_is) c.requires in
    sides-more c.self.inside.store c.self.inside.sides c.self.inside.firsts c.self.inside.memos c.self.invariant c.insert.new.self c.args.id c.args.sides.now c.in_ok-insert.ensures.updates.1 c.in_ok-insert.ensures.updates.2 is
