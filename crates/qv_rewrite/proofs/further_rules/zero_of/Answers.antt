use Rattle.qv_words.specs.Sort.{IsLawful}
use Rattle.qv_words.specs.Tree.{tree_sort}
use Rattle.qv_words.proofs.Elements.{of-some}
use Rattle.qv_circuits_laws.proofs.Grounds.{trees-have_sorts}
use Rattle.qv_store.specs.Nodes.{tree_at}
use Rattle.qv_rewrite.proofs.further_rules.zero_of.Goals as goal

pub new-requires : goal.new-requires
new-requires c =
    let t = tree_at c.args.store.now c.args.id in
    of-some (tree_sort t) IsLawful c.sort-sort.result c.sort-sort.ensures.sort (trees-have_sorts t (c.requires.shared.sorted c.args.id c.requires.id))
