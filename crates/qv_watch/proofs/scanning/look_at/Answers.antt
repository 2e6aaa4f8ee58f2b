use Rattle.std.proofs.Common.{◌≡◌, None, Some, true, false, eqb, refl, sym, ◌∙◌, ap, arith, drop}
use Rattle.std.proofs.lemmas.Bool.{eq-eqb, both_ways, not-true}
use Rattle.std.proofs.lemmas.List.{drop_all}
use Rattle.qv_cnf.specs.Literal.{index_of}
use Rattle.qv_cnf.specs.Refutation.{same_literal}
use Rattle.qv_cnf.specs.declared.readings.Reading.TheVariants.{Useless}
use Rattle.qv_watch.specs.Entries.{value_of}
use Rattle.qv_watch.proofs.Readings.{scan, scan-reading, scan_step, same_literal-differ}
use Rattle.qv_watch.proofs.scanning.look_at.Goals as goal

pub returns-in-Some-true : goal.returns-in-Some-true
returns-in-Some-true c =
    let es = c.args.values.now.entries in
    let lits = c.args.lits.now in
    let value : value_of es c.lit-item.result ≡ Some true = sym c.in-Some-true.ensures ∙ ap Some c.in-Some-true.field-0-test in
    let step : scan es (drop c.loop-lit.lit-index lits) c.loop-lit.free ≡ Useless =
    scan_step es lits c.loop-lit.lit-index c.lit-item.result c.loop-lit.free Useless (omega arith) c.lit-item.is (rw value refl) in
    sym step ∙ c.loop-lit.invariant ∙ scan-reading es lits c.requires

pub returns-then-ne : goal.returns-then-ne
returns-then-ne c =
    let es = c.args.values.now.entries in
    let lits = c.args.lits.now in
    let index_differs : eqb (index_of c.in-Some.other) (index_of c.lit-item.result) ≡ false = not-true (eqb (index_of c.in-Some.other) (index_of c.lit-item.result)) (sym c.if-ne.ensures) in
    let differ : same_literal c.in-Some.other c.lit-item.result ≡ false =
    same_literal-differ c.in-Some.other c.lit-item.result (λ same. both_ways (eqb (index_of c.in-Some.other) (index_of c.lit-item.result)) index_differs (eq-eqb (index_of c.in-Some.other) (index_of c.lit-item.result) (ap index_of same))) in
    let value : value_of es c.lit-item.result ≡ None = sym c.in-None.ensures in
    let step : scan es (drop c.loop-lit.lit-index lits) c.loop-lit.free ≡ Useless =
    scan_step es lits c.loop-lit.lit-index c.lit-item.result c.loop-lit.free Useless (omega arith) c.lit-item.is (rw (c.in-Some.is, value, differ) refl) in
    sym step ∙ c.loop-lit.invariant ∙ scan-reading es lits c.requires

pub returns-in-None-free-2 : goal.returns-in-None-free-2
returns-in-None-free-2 c =
    let es = c.args.values.now.entries in
    let lits = c.args.lits.now in
    rw (c.in-None-free-2.is, drop_all c.loop-lit.lit-index lits (omega arith)) at c.loop-lit.invariant ∙ scan-reading es lits c.requires

pub returns-in-Some-free : goal.returns-in-Some-free
returns-in-Some-free c =
    let es = c.args.values.now.entries in
    let lits = c.args.lits.now in
    rw (c.in-Some-free.is, drop_all c.loop-lit.lit-index lits (omega arith)) at c.loop-lit.invariant ∙ scan-reading es lits c.requires
