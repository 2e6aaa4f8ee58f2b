use Rattle.std.proofs.Common.{◌++◌, Bool, List, Option, Some, None, [], map, cond, refl, sym, ap, ◌∙◌}
use Rattle.qv_cnf.specs.Literal.{Literal, negated}
use Rattle.qv_cnf.specs.Rat.{others}
use Rattle.qv_rup.proofs.groups.begin.Goals as goal

pub returns-then-closes-clause-set : goal.returns-then-closes-clause-set
returns-then-closes-clause-set c =
    let kept = c.args.marks.now in
    sym (ap (λ (b : Bool). let o : Option (List Literal) = cond b None (Some (map negated (others c.args.pivot c.args.lits.now) ++ kept)) in o) (sym c.closes.ensures ∙ c.if-closes.true))

pub returns-then-closes-clause-behind : goal.returns-then-closes-clause-behind
returns-then-closes-clause-behind c = ([], refl)

pub returns-clause-set : goal.returns-clause-set
returns-clause-set c =
    let kept = c.args.marks.now in
    ap (λ (xs : List Literal). Some xs) c.in_ok-mark_others.ensures
    ∙ sym (ap (λ (b : Bool). let o : Option (List Literal) = cond b None (Some (map negated (others c.args.pivot c.args.lits.now) ++ kept)) in o) (sym c.closes.ensures ∙ c.if-closes.false))

pub returns-clause-behind : goal.returns-clause-behind
returns-clause-behind c = (map negated (others c.args.pivot c.args.lits.now), c.in_ok-mark_others.ensures)
