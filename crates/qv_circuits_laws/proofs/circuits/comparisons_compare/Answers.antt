use Rattle.std.proofs.Common.{◌≡◌, ◌-◌, ◌+◌, not, nat_le, nat_lt, ap, ◌∙◌}
use Rattle.qv_words.specs.Op.{truth}
use Rattle.qv_words.specs.Gate.{neg, yes, lit_value}
use Rattle.qv_words.specs.Routine.{ult}
use Rattle.qv_circuits_laws.specs.CircuitLaws.{number_of}
use Rattle.qv_circuits_laws.proofs.Gates.{neg-value}
use Rattle.qv_circuits_laws.proofs.Evaluations.{Computes, done-computes, then-computes}
use Rattle.qv_circuits_laws.proofs.Choosing.{carry-computes, not-less}
use Rattle.qv_circuits_laws.proofs.circuits.comparisons_compare.Goals as goal

pub returns : goal.returns
returns _ v next a b one same h =
    let compared : Computes v next (ult a b) (λ r. lit_value v r ≡ nat_lt (number_of v a) (number_of v b)) =
    then-computes (carry-computes a b yes same) (λ i c hc.
    done-computes (neg c) (neg-value v c ∙ ap not (hc ∙ ap (λ k. nat_le (number_of v b + (1 - truth k)) (number_of v a)) one) ∙ not-less (number_of v a) (number_of v b))) in
    compared.holds h
