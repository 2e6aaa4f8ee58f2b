use Rattle.std.proofs.Common.{◌<◌, ◌≤◌, ℕ, Option, List, [], length, sym, ap, subst, ◌∙◌}
use Rattle.std.specs.Prelude.{Result}
use Rattle.qv_sexpr.specs.Script.{Tree as Written}
use Rattle.qv_sexpr.specs.declared.items.Item.{Item}
use Rattle.qv_sexpr.specs.Items.{Stands}
use Rattle.qv_sexpr.specs.Copying.{EndsBefore}
use Rattle.qv_sexpr.proofs.Copies.{stands_before, begun}
use Rattle.qv_sexpr.proofs.Standing.{stands_lt}
use Rattle.qv_elab_defs.specs.Shapes.{Pair, pairs_of}
use Rattle.qv_script_defs.specs.Faults.{Fault}
use Rattle.qv_script_defs.specs.Labels.{Label, nothing, below, labels_in}
use Rattle.qv_script_defs.specs.Commands.{labels_of_body}
use Rattle.qv_script_defs.specs.Parts.{parameters_of}
use Rattle.qv_script_parts.specs.Walking.{TellsLabels, AreLabels, ArePairsAt}
use Rattle.qv_script_parts.proofs.Parting.{part-list, the-list}
use Rattle.qv_script_parts.proofs.Walks.{ends-same, begin-below, the-pairs, not-pairs}
use Rattle.qv_script_parts.proofs.labels.labels_below.Goals as goal

pub are_parameters-requires : goal.are_parameters-requires
are_parameters-requires c =
    let a = c.args in
    let t = the-list a.expr.now a.parameters c.in-Open.close c.index.result.now c.requires.expr c.requires.parameters c.index.ensures c.in-Open.is in
    (t.0, t.2)

pub returns-then-not-are_parameters : goal.returns-then-not-are_parameters
returns-then-not-are_parameters c = λ e b p r.
    let a = c.args in
    let l = part-list a.expr.now a.parameters c.in-Open.close c.index.result.now c.requires.expr c.requires.parameters c.index.ensures c.in-Open.is e p.0 p.1 in
    let none = not-pairs (pairs_of l.0) (sym (c.are_parameters.ensures l.0 l.3) ∙ c.if-not-are_parameters.true) in (
      [],
      ap (λ (x : Written). labels_of_body (parameters_of x) b) l.2 ∙ ap (λ (o : Option (List Pair)). labels_of_body o b) none,
      subst (λ (ats : List ℕ). AreLabels a.expr.now ats []) (sym c.new-nothing.ensures.items) tt,
    )

pub behind-requires : goal.behind-requires
behind-requires c =
    let a = c.args in
    let b = begun a.expr.now a.body c.requires.expr c.requires.body in
    let s = stands_before a.expr.now.items.items a.expr.now.text.items a.body b.0 b.1 b.2 in
    subst (λ (its : List Item). (to : ℕ) × (to ≤ length its) × (a.body < to) × EndsBefore its a.body to) (sym c.deref.ensures.value)
    (b.1, s.0, stands_lt a.expr.now.items.items a.expr.now.text.items a.body b.0 b.1 b.2, s.1)

pub labels_from-requires-clause-walk : goal.labels_from-requires-clause-walk
labels_from-requires-clause-walk c =
    let a = c.args in
    let b = begun a.expr.now a.body c.requires.expr c.requires.body in
    let ends = subst (λ (its : List Item). EndsBefore its a.body c.behind.result) c.deref.ensures.value c.behind.ensures in
    let one = ends-same a.expr.now a.body b.0 b.1 c.behind.result b.2 ends in
    let f = begun a.expr.now a.parameters c.requires.expr c.requires.parameters in
    let l = part-list a.expr.now a.parameters c.in-Open.close c.index.result.now c.requires.expr c.requires.parameters c.index.ensures c.in-Open.is f.0 f.1 f.2 in
    let some = the-pairs (pairs_of l.0) (sym (c.are_parameters.ensures l.0 l.3) ∙ c.if-not-are_parameters.false) in
    let pairs : ArePairsAt a.expr.now a.parameters some.0 =
    (c.index.result.now.place, l.0, l.1, f.1, subst (λ (x : Written). Stands a.expr.now.items.items a.expr.now.text.items a.parameters x f.1) l.2 f.2, some.1) in
    (labels_in b.0 (below some.0 nothing) [], begin-below a.expr.now some.0 b.0 a.parameters a.body c.behind.result _ pairs one.0 one.1 c.outermost.ensures)

pub returns : goal.returns
returns c = λ e b p r.
    let a = c.args in
    let ends = subst (λ (its : List Item). EndsBefore its a.body c.behind.result) c.deref.ensures.value c.behind.ensures in
    let one = ends-same a.expr.now a.body b r.0 c.behind.result r.1 ends in
    let l = part-list a.expr.now a.parameters c.in-Open.close c.index.result.now c.requires.expr c.requires.parameters c.index.ensures c.in-Open.is e p.0 p.1 in
    let some = the-pairs (pairs_of l.0) (sym (c.are_parameters.ensures l.0 l.3) ∙ c.if-not-are_parameters.false) in
    let pairs : ArePairsAt a.expr.now a.parameters some.0 =
    (c.index.result.now.place, l.0, l.1, p.0, subst (λ (x : Written). Stands a.expr.now.items.items a.expr.now.text.items a.parameters x p.0) l.2 p.1, some.1) in
    subst (λ (g : Result (List Label) Fault). TellsLabels a.expr.now g c.labels_from.result) (sym (ap (λ (x : Written). labels_of_body (parameters_of x) b) l.2 ∙ ap (λ (o : Option (List Pair)). labels_of_body o b) some.1))
    (c.labels_from.ensures (labels_in b (below some.0 nothing) []) (begin-below a.expr.now some.0 b a.parameters a.body c.behind.result _ pairs one.0 one.1 c.outermost.ensures))
