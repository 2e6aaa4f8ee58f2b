use Rattle.std.proofs.Common.{◌≡◌, ◌+◌, ◌-◌, ◌++◌, ℕ, List, map, drop, length, arith, sym, ap, ◌∙◌}
use Rattle.std.proofs.lemmas.List.{at_drop_all}
use Rattle.qv_cnf.specs.Literal.{Literal, negated}
use Rattle.qv_cnf.specs.Rat.{others}
use Rattle.qv_rup.proofs.Grouped.{others-step}
use Rattle.qv_rup.proofs.groups.mark_others.Goals as goal

pub marking-init : goal.marking-init
marking-init c = record {
  within = omega arith;
  marked = sym (at_drop_all (λ (ls : List Literal). map negated (others c.args.pivot ls) ++ c.args.marks.now) c.args.lits.now (length c.args.lits.now) (omega arith));
}

pub marking-preserved : goal.marking-preserved
marking-preserved c =
    let lits = c.args.lits.now in
    let i = c.marking.left - 1 in
    let back : c.marking.left ≡ i + 1 = omega arith in
    let rest = c.marking.invariant.marked ∙ ap (λ (n : ℕ). map negated (others c.args.pivot (drop n lits)) ++ c.args.marks.now) back in
    record {
      within = omega arith;
      marked = others-step c.args.pivot lits i c.index-lits-left.result c.marking.marks c.mark_other.new.marks c.args.marks.now (omega arith) c.index-lits-left.is c.in_ok-mark_other.ensures rest;
    }
