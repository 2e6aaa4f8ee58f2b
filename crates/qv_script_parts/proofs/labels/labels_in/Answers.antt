use Rattle.std.proofs.Common.{◌<◌, ◌≤◌, ℕ, List, [], length, sym, subst}
use Rattle.qv_sexpr.specs.declared.items.Item.{Item}
use Rattle.qv_sexpr.specs.Copying.{EndsBefore}
use Rattle.qv_sexpr.proofs.Copies.{stands_before, begun}
use Rattle.qv_sexpr.proofs.Standing.{stands_lt}
use Rattle.qv_script_defs.specs.Labels.{nothing, labels_in}
use Rattle.qv_script_parts.proofs.Walks.{ends-same, begin-one}
use Rattle.qv_script_parts.proofs.labels.labels_in.Goals as goal

pub behind-requires : goal.behind-requires
behind-requires c =
    let a = c.args in
    let b = begun a.expr.now a.at c.requires.expr c.requires.at in
    let s = stands_before a.expr.now.items.items a.expr.now.text.items a.at b.0 b.1 b.2 in
    subst (λ (its : List Item). (to : ℕ) × (to ≤ length its) × (a.at < to) × EndsBefore its a.at to) (sym c.deref.ensures.value)
    (b.1, s.0, stands_lt a.expr.now.items.items a.expr.now.text.items a.at b.0 b.1 b.2, s.1)

pub labels_from-requires-clause-walk : goal.labels_from-requires-clause-walk
labels_from-requires-clause-walk c =
    let a = c.args in
    let b = begun a.expr.now a.at c.requires.expr c.requires.at in
    let ends = subst (λ (its : List Item). EndsBefore its a.at c.behind.result) c.deref.ensures.value c.behind.ensures in
    let one = ends-same a.expr.now a.at b.0 b.1 c.behind.result b.2 ends in
    (labels_in b.0 nothing [], begin-one a.expr.now b.0 a.at c.behind.result _ one.0 one.1 c.outermost.ensures)

pub returns : goal.returns
returns c = λ e p.
    let a = c.args in
    let ends = subst (λ (its : List Item). EndsBefore its a.at c.behind.result) c.deref.ensures.value c.behind.ensures in
    let one = ends-same a.expr.now a.at e p.0 c.behind.result p.1 ends in
    c.labels_from.ensures (labels_in e nothing []) (begin-one a.expr.now e a.at c.behind.result _ one.0 one.1 c.outermost.ensures)
