use Rattle.std.proofs.Common.{◌≡◌, true, false, eqb, not, arith, sym, ap, ◌∙◌}
use Rattle.std.proofs.lemmas.Bool.{not-true}
use Rattle.qv_cnf.specs.Literal.{negated, index_of}
use Rattle.qv_cnf.specs.Refutation.{same_literal, among}
use Rattle.qv_rup.proofs.Marked.{same_literal-apart}
use Rattle.qv_rup.proofs.Scanned.{scan-end, scan-second}
use Rattle.qv_rup.proofs.hints.read_clause.Goals as goal

pub returns-then-ne : goal.returns-then-ne
returns-then-ne c =
    let x = c.in-Some.first in
    let l = c.lit-item.result in
    let differs : not (eqb (index_of x) (index_of l)) ≡ true = sym c.ne.ensures ∙ c.if-ne.true in
    let apart : same_literal x l ≡ false = same_literal-apart x l (not-true (eqb (index_of x) (index_of l)) differs) in
    let unmarked : among c.args.marks.now (negated l) ≡ false = ap (among c.args.marks.now) (sym c.negated.ensures) ∙ sym c.has.ensures ∙ c.if-has.false in
    scan-second c.args.marks.now c.args.lits.now c.loop-lit.found x l c.loop-lit.lit-index (omega arith) c.lit-item.is c.in-Some.is unmarked apart c.loop-lit.invariant

pub returns-in-None-found : goal.returns-in-None-found
returns-in-None-found c =
    rw c.in-None-found.is at (scan-end c.args.marks.now c.args.lits.now c.loop-lit.found c.loop-lit.lit-index (omega arith) c.loop-lit.invariant)

pub returns-then-has-2 : goal.returns-then-has-2
returns-then-has-2 c =
    let marked : among c.args.marks.now c.in-Some-found.lit ≡ true = sym c.has-in-Some-found.ensures ∙ c.if-has-2.true in
    rw (c.in-Some-found.is, marked) at (scan-end c.args.marks.now c.args.lits.now c.loop-lit.found c.loop-lit.lit-index (omega arith) c.loop-lit.invariant)

pub returns-else-has-2 : goal.returns-else-has-2
returns-else-has-2 c =
    let unmarked : among c.args.marks.now c.in-Some-found.lit ≡ false = sym c.has-in-Some-found.ensures ∙ c.if-has-2.false in
    rw (c.in-Some-found.is, unmarked) at (scan-end c.args.marks.now c.args.lits.now c.loop-lit.found c.loop-lit.lit-index (omega arith) c.loop-lit.invariant)
