use Rattle.qv_words.specs.Sorted.{no_levels}
use Rattle.qv_words.proofs.Existing.{lawful_sort}
use Rattle.qv_store.specs.Nodes.{tree_at}
use Rattle.qv_solve_offer.proofs.base.Base.word.Goals as goal

pub new-requires : goal.new-requires
new-requires c =
    lawful_sort (tree_at c.args.store.now c.args.id) no_levels c.sort-sort.result (c.sort-sort.ensures.shared.sorted c.args.id c.requires.id) c.sort-sort.ensures.sort
