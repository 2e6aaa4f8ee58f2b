use Rattle.qv_store.proofs.Keeping.{kept-none, seen-none}
use Rattle.qv_store.proofs.store.Store.new.Goals as goal

pub invariant_of-result : goal.invariant_of-result
invariant_of-result c = kept-none c.with_hasher.result.keys c.new-2.result.items c.with_hasher.ensures.empty c.new-2.ensures.items

pub returns : goal.returns
returns c = seen-none c.with_hasher.result.keys c.with_hasher.ensures.empty
