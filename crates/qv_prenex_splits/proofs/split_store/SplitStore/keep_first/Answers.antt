use Rattle.std.proofs.Common.{List, sym, subst}
use Rattle.qv_words.specs.Tree.{Tree}
use Rattle.qv_prenex_splits.specs.Sides.{IsFirstIte}
use Rattle.qv_prenex_splits.proofs.SplitTerms.{firsts-same, firsts-more}
use Rattle.qv_prenex_splits.proofs.split_store.SplitStore.keep_first.Goals as goal

pub invariant_of-self : goal.invariant_of-self
invariant_of-self c = firsts-same c.self.inside.store c.self.inside.sides c.self.inside.firsts c.self.inside.memos c.self.invariant c.insert.new.self c.in_err-insert.ensures.err

pub invariant_of-self-2 : goal.invariant_of-self-2
invariant_of-self-2 c =
    let is = subst (λ (trees : List Tree). IsFirstIte trees c.args.id c.args.ite.now) (sym c.self.view_is) c.requires in
    firsts-more c.self.inside.store c.self.inside.sides c.self.inside.firsts c.self.inside.memos c.self.invariant c.insert.new.self c.args.id c.args.ite.now c.in_ok-insert.ensures.updates.1 c.in_ok-insert.ensures.updates.2 is
