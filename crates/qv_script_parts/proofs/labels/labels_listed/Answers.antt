use Rattle.std.proofs.Common.{◌≤◌, ◌+◌, [], length, sym, subst, arith}
use Rattle.qv_sexpr.specs.Script.{Tree as Written}
use Rattle.qv_script_defs.specs.Labels.{nothing, labels_all}
use Rattle.qv_script_defs.specs.Commands.{listed}
use Rattle.qv_script_parts.specs.Walking.{TellsLabels}
use Rattle.qv_script_parts.proofs.Parting.{part-list, the-list}
use Rattle.qv_script_parts.proofs.Walks.{begin-each}
use Rattle.qv_script_parts.proofs.labels.labels_listed.Goals as goal

pub labels_from-requires-clause-walk : goal.labels_from-requires-clause-walk
labels_from-requires-clause-walk c =
    let a = c.args in
    let l = the-list a.expr.now a.at c.in-Open.close c.index.result.now c.requires.expr c.requires.at c.index.ensures c.in-Open.is in
    let le : c.in-Open.close ≤ length a.expr.now.items.items = omega (arith, l.4) in
    (labels_all l.0 nothing [], begin-each a.expr.now l.0 (a.at + 1) c.in-Open.close _ l.2 le c.outermost.ensures)

pub returns : goal.returns
returns c = λ e p.
    let a = c.args in
    let t = the-list a.expr.now a.at c.in-Open.close c.index.result.now c.requires.expr c.requires.at c.index.ensures c.in-Open.is in
    let le : c.in-Open.close ≤ length a.expr.now.items.items = omega (arith, t.4) in
    let l = part-list a.expr.now a.at c.in-Open.close c.index.result.now c.requires.expr c.requires.at c.index.ensures c.in-Open.is e p.0 p.1 in
    subst (λ (x : Written). TellsLabels a.expr.now (labels_all (listed x) nothing []) c.labels_from.result) (sym l.2)
    (c.labels_from.ensures (labels_all l.0 nothing []) (begin-each a.expr.now l.0 (a.at + 1) c.in-Open.close _ l.3 le c.outermost.ensures))
