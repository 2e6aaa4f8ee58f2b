use Rattle.qv_prenex_splits.proofs.SplitTerms.{store-grows}
use Rattle.qv_prenex_splits.proofs.split_store.SplitStore.put.Goals as goal

pub invariant_of-self : goal.invariant_of-self
invariant_of-self c = store-grows c.self.inside.store c.put.new.self c.self.inside.sides c.self.inside.firsts c.self.inside.memos c.put.ensures.grows c.self.invariant
