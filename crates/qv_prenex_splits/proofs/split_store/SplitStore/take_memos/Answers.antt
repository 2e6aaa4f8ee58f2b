use Rattle.std.proofs.Common.{List, ap, length, sym, subst, ◌<◌}
use Rattle.qv_words.specs.Tree.{Tree}
use Rattle.qv_prenex_splits.proofs.SplitTerms.{memos-less, some-made}
use Rattle.qv_prenex_splits.proofs.split_store.SplitStore.take_memos.Goals as goal

pub invariant_of-self : goal.invariant_of-self
invariant_of-self c = memos-less c.self.inside.store c.self.inside.sides c.self.inside.firsts c.self.inside.memos c.self.invariant c.remove-kept.new.self c.args.whole c.remove-kept.ensures.updates.0

pub returns-clause-made : goal.returns-clause-made
returns-clause-made c =
    let low = subst (λ (trees : List Tree). c.args.whole < length trees) (sym c.self.view_is) c.requires in
    c.kept_or_new.ensures c.self.inside.store c.args.whole low (some-made c.self.inside.store c.self.inside.memos c.args.whole c.remove-kept.result c.remove-kept.ensures.value c.self.invariant.memos)
