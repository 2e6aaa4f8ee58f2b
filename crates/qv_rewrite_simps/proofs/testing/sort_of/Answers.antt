use Rattle.qv_words.specs.Sorted.{no_levels}
use Rattle.qv_words.proofs.Existing.{lawful_sort}
use Rattle.qv_store.specs.Nodes.{tree_at}
use Rattle.qv_rewrite_simps.proofs.testing.sort_of.Goals as goal

pub returns-clause-lawful : goal.returns-clause-lawful
returns-clause-lawful c = lawful_sort (tree_at c.args.store.now c.args.id) no_levels c.sort.result (c.sort.ensures.shared.sorted c.args.id c.requires) c.sort.ensures.sort
