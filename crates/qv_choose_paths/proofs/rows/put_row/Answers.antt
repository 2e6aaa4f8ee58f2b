use Rattle.std.proofs.Common.{sym, subst}
use Rattle.qv_words.specs.Tree.{Tree, IsQuantifierFree}
use Rattle.qv_words.specs.Replacement.{HasTheirSorts}
use Rattle.std.proofs.Common.{Some, [], ◌∷◌}
use Rattle.qv_terms.specs.View.{tree}
use Rattle.qv_store.specs.Replacing.{put_by_level}
use Rattle.qv_choose_paths.specs.Rows.{sort_at}
use Rattle.qv_choose_paths.proofs.RowTerms.{row-free, row-put, row-sorts}
use Rattle.qv_choose_paths.proofs.rows.put_row.Goals as goal

pub put_in-requires-clause-quantifier_free : goal.put_in-requires-clause-quantifier_free
put_in-requires-clause-quantifier_free c =
    subst (λ (t : Tree). IsQuantifierFree t) (sym c.in_ok-id.ensures.id.tree)
    (row-free (sort_at c.args.store.now c.args.other) (sort_at c.args.store.now c.args.target) (tree c.args.row.now) c.requires.sorted c.requires.over)

pub put_in-requires-clause-sorts : goal.put_in-requires-clause-sorts
put_in-requires-clause-sorts c =
    subst (λ (t : Tree). HasTheirSorts (put_by_level c.plant.new.store (Some c.args.other ∷ Some c.args.target ∷ [])) t) (sym c.in_ok-id.ensures.id.tree)
    (row-sorts c.args.store.now c.plant.new.store c.args.other c.args.target (tree c.args.row.now) c.in_ok-id.ensures.grows c.requires.other c.requires.target
    (c.len-before.ensures.shared.sorted c.args.other c.requires.other) (c.len-before.ensures.shared.sorted c.args.target c.requires.target) c.requires.sorted c.requires.over)

pub returns-clause-id : goal.returns-clause-id
returns-clause-id c =
    row-put c.args.store.now c.plant.new.store c.put_in.new.self c.args.other c.args.target c.in_ok-id.id c.in_ok-made.made (tree c.args.row.now)
    c.in_ok-id.ensures.grows c.requires.other c.requires.target c.in_ok-id.ensures.id.tree c.in_ok-made.ensures.id
