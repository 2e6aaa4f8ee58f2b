use Rattle.std.proofs.Common.{◌≡◌, ◌+◌, ◌&&◌, ◌||◌, Bool, List, true, false, not, eqb, drop, arith, sym, ap, ◌∙◌}
use Rattle.std.proofs.lemmas.Bool.{and_from, or_right}
use Rattle.std.proofs.lemmas.List.{at_drop_all}
use Rattle.qv_cnf.specs.Literal.{Literal, index_of, negated}
use Rattle.qv_cnf.specs.Refutation.{among, same_literal}
use Rattle.qv_rup.proofs.Grouped.{closing, closing-all, next-of}
use Rattle.qv_rup.proofs.Marked.{same_literal-index}
use Rattle.qv_rup.proofs.groups.closes.Goals as goal

pub returns-then-has : goal.returns-then-has
returns-then-has c =
    let lits = c.args.lits.now in
    let i = c.looking.lit-index in
    let l = c.lit-item.result in
    let p = c.args.pivot in
    let set = c.args.marks.now in
    let marked : among set l ≡ true = sym c.has.ensures ∙ c.if-has.true in
    let other : same_literal (negated p) l ≡ false =
    same_literal-index (negated p) l ∙ ap (λ (n : Literal). eqb (index_of l) (index_of n)) (sym c.negated-negation.ensures) ∙ sym c.eq-in-looking.ensures ∙ c.if-eq-2.false in
    let closed : (same_literal p l || (not (same_literal (negated p) l) && among set l)) ≡ true = or_right (same_literal p l) (not (same_literal (negated p) l) && among set l) (and_from (not (same_literal (negated p) l)) (among set l) (ap not other) marked) in
    sym (ap (λ (ls : List Literal). closing set p ls) (next-of lits i l (omega arith) c.lit-item.is) ∙ ap (λ (b : Bool). b || closing set p (drop (i + 1) lits)) closed)
    ∙ c.looking.invariant ∙ closing-all set p lits

pub returns : goal.returns
returns c =
    sym (at_drop_all (λ (ls : List Literal). closing c.args.marks.now c.args.pivot ls) c.args.lits.now c.looking.lit-index (omega arith)) ∙ c.looking.invariant ∙ closing-all c.args.marks.now c.args.pivot c.args.lits.now
