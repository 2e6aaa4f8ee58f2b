use Rattle.std.proofs.Common.{sym, subst}
use Rattle.qv_words.specs.Sorted.{no_levels}
use Rattle.qv_words.proofs.Existing.{lawful_sort}
use Rattle.qv_store.specs.Nodes.{tree_at}
use Rattle.qv_rewrite_xors.specs.Held.{IsChainFor}
use Rattle.qv_rewrite_xors.proofs.Fitting.{chain-fits}
use Rattle.qv_rewrite_xors.proofs.xoring.term_of.Goals as goal

pub chain_term-requires-clause-lawful : goal.chain_term-requires-clause-lawful
chain_term-requires-clause-lawful c = lawful_sort (tree_at c.args.store.now c.args.id) no_levels c.sort-sort.result (c.sort-sort.ensures.shared.sorted c.args.id c.requires.id) c.sort-sort.ensures.sort

pub chain_term-requires-clause-fits : goal.chain_term-requires-clause-fits
chain_term-requires-clause-fits c =
    subst (IsChainFor c.sort-sort.result) (sym c.requires.chain.chain)
    (chain-fits (tree_at c.args.store.now c.args.id) c.sort-sort.result (c.sort-sort.ensures.shared.sorted c.args.id c.requires.id) c.sort-sort.ensures.sort)
