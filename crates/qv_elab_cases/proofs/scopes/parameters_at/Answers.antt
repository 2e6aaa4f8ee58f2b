use Rattle.std.proofs.Common.{◌≡◌, true, Some, None, Option, List, refl, sym, ◌∙◌}
use Rattle.std.specs.Prelude.{is_some}
use Rattle.qv_sexpr.proofs.Copies.{begun}
use Rattle.qv_elab_defs.specs.Shapes.{Pair, listed_pairs}
use Rattle.qv_elab_cases.proofs.Parameters.{read-parameters}
use Rattle.qv_elab_cases.proofs.scopes.parameters_at.Goals as goal

there : (o : Option (List Pair)) → true ≡ is_some o → (pairs : List Pair) × (o ≡ Some pairs)
there (Some pairs) e = (pairs, refl)
there None e = absurd (cc)

pub read_parameters-requires-clause-scope : goal.read_parameters-requires-clause-scope
read_parameters-requires-clause-scope c = (c.args.store.now, c.requires.kept.0, c.requires.kept.1)

pub read_parameters-requires-clause-pairs : goal.read_parameters-requires-clause-pairs
read_parameters-requires-clause-pairs c =
    let i = begun c.args.expr.now c.args.at c.requires.expr c.requires.at in
    let p = there (listed_pairs i.0) (sym c.if-are_parameters.true ∙ c.are_parameters.ensures i.0 i.1 i.2) in
    (i.0, i.1, p.0, i.2, p.1)

pub returns-then-are_parameters : goal.returns-then-are_parameters
returns-then-are_parameters c =
    let i = begun c.args.expr.now c.args.at c.requires.expr c.requires.at in
    let p = there (listed_pairs i.0) (sym c.if-are_parameters.true ∙ c.are_parameters.ensures i.0 i.1 i.2) in
    read-parameters c.requires.kept.0 c.requires.kept.1.is_scope p.0 c.read_parameters.result (c.read_parameters.ensures.read c.args.store.now c.requires.kept.0 i.0 i.1 p.0 c.requires.kept.1 i.2 p.1)
