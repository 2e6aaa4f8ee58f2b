use Rattle.std.proofs.Common.{◌≡◌, true, All, take, arith, subst}
use Rattle.std.proofs.lemmas.List.{take_all}
use Rattle.std.proofs.lemmas.List.Elements.{All-more, All-weaker}
use Rattle.qv_cnf.specs.Literal.{Literal}
use Rattle.qv_sat.specs.Marking.{is_marked}
use Rattle.qv_sat.proofs.failing.mark_all.Goals as goal

pub loop-lit-preserved : goal.loop-lit-preserved
loop-lit-preserved c =
    let lits = c.args.lits.now in
    let lit = c.lit-item.result in
    let marks = c.mark.new.marks in
    record {
      marked = All-more (λ x. is_marked marks x.variable ≡ true) lits c.loop-lit.lit-index lit (omega arith)
          (All-weaker (λ x. is_marked c.loop-lit.marks x.variable ≡ true) (λ x. is_marked marks x.variable ≡ true) (λ x h. c.mark.ensures.kept x.variable h) (take c.loop-lit.lit-index lits) c.loop-lit.invariant.marked)
          (subst (λ (x : Literal). is_marked marks x.variable ≡ true) c.lit-item.is c.mark.ensures.marked);
      kept = λ v h. c.mark.ensures.kept v (c.loop-lit.invariant.kept v h);
    }

pub returns-clause-marked : goal.returns-clause-marked
returns-clause-marked c =
    subst (All (λ (x : Literal). is_marked c.loop-lit.marks x.variable ≡ true)) (take_all c.loop-lit.lit-index c.args.lits.now (omega arith)) c.loop-lit.invariant.marked
