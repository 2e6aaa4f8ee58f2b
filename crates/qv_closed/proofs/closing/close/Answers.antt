use Rattle.std.proofs.Common.{List, ◌∙◌, sym, subst}
use Rattle.qv_cnf.specs.Listing.{Numbered}
use Rattle.qv_cnf.specs.LratLine.{LratLine}
use Rattle.qv_cnf.specs.Refutation.{Refutes, standing_at}
use Rattle.qv_gates.specs.Closing.{Adds}
use Rattle.qv_closed.proofs.closing.close.Goals as goal

pub returns-clause-adds : goal.returns-clause-adds
returns-clause-adds c =
    let base = c.close-closed.ensures.base ∙ c.in_ok-add_all.ensures c.if-not-branch.false in
    let adds = subst (λ (xs : List Numbered). Adds (standing_at xs) c.close-closed.new.self.steps) base c.steps-steps.ensures.adds in
    subst (Adds (standing_at c.args.clauses.now.live)) (sym c.finish-steps.ensures.steps) adds

pub returns-clause-refutes : goal.returns-clause-refutes
returns-clause-refutes c = λ yes.
    let base = c.close-closed.ensures.base ∙ c.in_ok-add_all.ensures c.if-not-branch.false in
    let refutes = subst (λ (xs : List Numbered). Refutes xs c.close-closed.new.self.steps) base (c.is_refuted-refuted.ensures.refutes yes) in
    subst (λ (ls : List LratLine). Refutes c.args.clauses.now.live ls) (sym c.finish-steps.ensures.steps) refutes
