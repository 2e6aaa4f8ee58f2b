use Rattle.qv_elab_items.proofs.TableNames.{table-none, twins-none}
use Rattle.qv_elab_items.proofs.table.NameTable.new.Goals as goal

pub invariant_of-result : goal.invariant_of-result
invariant_of-result c = twins-none c.with_hasher.result.keys c.with_hasher.ensures.empty

pub returns : goal.returns
returns c = table-none c.with_hasher.result.keys c.with_hasher.ensures.empty
