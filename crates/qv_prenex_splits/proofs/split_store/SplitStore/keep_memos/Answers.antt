use Rattle.std.proofs.Common.{List, sym, subst}
use Rattle.qv_words.specs.Tree.{Tree}
use Rattle.qv_prenex_splits.specs.Sides.{AreMadeFor}
use Rattle.qv_prenex_splits.proofs.SplitTerms.{memos-same, memos-more}
use Rattle.qv_prenex_splits.proofs.split_store.SplitStore.keep_memos.Goals as goal

pub invariant_of-self : goal.invariant_of-self
invariant_of-self c = memos-same c.self.inside.store c.self.inside.sides c.self.inside.firsts c.self.inside.memos c.self.invariant c.insert.new.self c.in_err-insert.ensures.err

pub invariant_of-self-2 : goal.invariant_of-self-2
invariant_of-self-2 c =
    let is = subst (λ (trees : List Tree). AreMadeFor trees c.args.whole c.args.memos) (sym c.self.view_is) c.requires in
    memos-more c.self.inside.store c.self.inside.sides c.self.inside.firsts c.self.inside.memos c.self.invariant c.insert.new.self c.args.whole c.args.memos c.in_ok-insert.ensures.updates.1 c.in_ok-insert.ensures.updates.2 is
