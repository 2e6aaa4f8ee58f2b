use Rattle.std.proofs.Common.{◌≡◌, true, sym, ◌∙◌, ap, subst}
use Rattle.std.specs.List.{list_any}
use Rattle.qv_cnf.specs.LratLine.{lines_of}
use Rattle.qv_cnf.specs.Refutation.{Refutes, Standing, adds_none, standing_at}
use Rattle.qv_gates.specs.Closing.{Closing}
use Rattle.qv_gates.proofs.Following.{refuted_at, refutes_where}
use Rattle.qv_gates.proofs.closing.Closure.is_refuted.Goals as goal

pub returns-clause-refuted : goal.returns-clause-refuted
returns-clause-refuted c =
    let s = c.self.inside in
    c.is_refuted.ensures.refuted ∙ ap (λ (k : Standing). k.refuted) c.self.invariant.reached
    ∙ refuted_at s.base.live (lines_of s.steps.items) c.self.invariant.adds ∙ ap (λ (k : Closing). list_any adds_none k.steps) c.self.view_is

pub returns-clause-refutes : goal.returns-clause-refutes
returns-clause-refutes c = λ yes.
    let s = c.self.inside in
    let any : list_any adds_none (lines_of s.steps.items) ≡ true =
    sym (c.is_refuted.ensures.refuted ∙ ap (λ (k : Standing). k.refuted) c.self.invariant.reached ∙ refuted_at s.base.live (lines_of s.steps.items) c.self.invariant.adds) ∙ yes in
    subst (λ (k : Closing). Refutes k.base k.steps) c.self.view_is (refutes_where (standing_at s.base.live) (lines_of s.steps.items) c.self.invariant.adds any)
