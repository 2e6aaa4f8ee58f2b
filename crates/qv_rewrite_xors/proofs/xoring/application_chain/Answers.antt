use Rattle.std.proofs.Common.{◌≤◌, ℕ, sym, subst}
use Rattle.qv_words.specs.Sorted.{no_levels}
use Rattle.qv_words.proofs.Existing.{lawful_sort}
use Rattle.qv_store.specs.Nodes.{tree_at}
use Rattle.qv_rewrite_xors.proofs.xoring.application_chain.Goals as goal

pub ones-all-requires : goal.ones-all-requires
ones-all-requires c =
    let lawful = lawful_sort (tree_at c.args.store.now c.args.id) no_levels c.sort.result (c.sort.ensures.shared.sorted c.args.id c.requires.id) c.sort.ensures.sort in
    record {
      low = subst (λ (n : ℕ). 1 ≤ n) (sym c.width.ensures) lawful.0;
      high = subst (λ (n : ℕ). n ≤ 128) (sym c.width.ensures) lawful.1;
    }
