use Rattle.std.proofs.Common.{◌≡◌, arith}
use Rattle.qv_sexpr.proofs.Copies.{ends_once}
use Rattle.qv_script_parts.proofs.spacing.end_of.Goals as goal

pub returns-clause-start : goal.returns-clause-start
returns-clause-start c =
    let same : c.requires.0 ≡ c.behind.result = ends_once c.args.items.now c.args.at c.requires.0 c.behind.result c.requires.3 c.behind.ensures in
    omega (arith, same, c.requires.2)

pub returns-clause-within : goal.returns-clause-within
returns-clause-within c =
    let same : c.requires.0 ≡ c.behind.result = ends_once c.args.items.now c.args.at c.requires.0 c.behind.result c.requires.3 c.behind.ensures in
    omega (arith, same, c.requires.1)
