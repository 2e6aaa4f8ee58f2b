use Rattle.std.proofs.Common.{ap, ◌∙◌}
use Rattle.qv_words.specs.Equality.{tree_eq}
use Rattle.qv_words.specs.Choice.{opposite}
use Rattle.qv_store.specs.Nodes.{tree_at}
use Rattle.qv_choose_clauses.specs.Clauses.{single_of, looks_apart}
use Rattle.qv_choose_clauses.proofs.ClauseLaws.{apart-shown}
use Rattle.qv_choose_clauses.proofs.clauses.alone.Goals as goal

pub returns : goal.returns
returns c =
    c.single.ensures ∙ ap (λ o. single_of o c.is_apart.result) c.is_opposite.ensures
    ∙ ap (single_of (tree_eq (tree_at c.args.store.now c.args.id) (opposite c.args.sight.now.place.level)))
    (c.is_apart.ensures ∙ ap looks_apart c.look.ensures ∙ apart-shown c.args.store.now c.args.sight.now c.args.id c.requires.scene c.requires.id)
