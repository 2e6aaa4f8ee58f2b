use Rattle.std.proofs.Common.{◌≡◌, All, take, max, arith, subst}
use Rattle.std.proofs.lemmas.List.{take_all}
use Rattle.std.proofs.lemmas.List.Elements.{All-more, All-weaker}
use Rattle.qv_sat.specs.Deciding.{IsWithin}
use Rattle.qv_sat.proofs.solver.greatest.Goals as goal

pub loop-lit-preserved : goal.loop-lit-preserved
loop-lit-preserved c =
    let lits = c.args.lits.now in
    let lit = c.lit-item.result in
    let now = c.max-variables.result in
    let more : now ≡ max c.loop-lit.variables c.variable.result = c.max-variables.ensures in
    let own : IsWithin now lit = (omega (arith, c.variable.ensures.literal.0), omega (arith, c.variable.ensures.value)) in
    record {
      within = All-more (IsWithin now) lits c.loop-lit.lit-index lit (omega arith)
          (All-weaker (IsWithin c.loop-lit.variables) (IsWithin now) (λ x h. (h.0, omega (arith, h.1))) (take c.loop-lit.lit-index lits) c.loop-lit.invariant.within)
          (subst (IsWithin now) c.lit-item.is own);
      most = omega (arith, c.loop-lit.invariant.most, c.variable.ensures.value, c.variable.ensures.literal.1);
    }

pub returns-clause-within : goal.returns-clause-within
returns-clause-within c = subst (All (IsWithin c.loop-lit.variables)) (take_all c.loop-lit.lit-index c.args.lits.now (omega arith)) c.loop-lit.invariant.within
