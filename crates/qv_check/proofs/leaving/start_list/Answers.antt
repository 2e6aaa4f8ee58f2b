use Rattle.std.proofs.Common.{◌≡◌, true, false, refl, sym}
use Rattle.qv_store.specs.Problems.{problem_in}
use Rattle.qv_store.specs.Walks.{named}
use Rattle.qv_cert.specs.LineView.{cert_line_of}
use Rattle.qv_cert_nodes.specs.Lists.{listed_in}
use Rattle.qv_check.specs.Nodes.{fits_version}
use Rattle.qv_check.proofs.Left.{may_start, form_refused, missing_refused, list_started}
use Rattle.qv_check.proofs.leaving.start_list.Goals as goal

pub returns-then-not-fits_version-clause-err : goal.returns-then-not-fits_version-clause-err
returns-then-not-fits_version-clause-err c task about =
    let l = listed_in c.args.store.now c.args.listed.now in
    let fits : fits_version c.args.version (cert_line_of c.args.next.now.line) ≡ false = cc in
    (refl, form_refused task (problem_in c.args.store.now c.args.problem.now) c.args.version c.args.answer l (cert_line_of c.args.next.now.line) about c.requires.ends fits)

pub first_list-requires-clause-may : goal.first_list-requires-clause-may
first_list-requires-clause-may c = may_start (problem_in c.args.store.now c.args.problem.now) c.args.answer (listed_in c.args.store.now c.args.listed.now) c.requires.far

pub returns-in-Ok-Some-clause-same : goal.returns-in-Ok-Some-clause-same
returns-in-Ok-Some-clause-same c task about =
    let p = problem_in c.args.store.now c.args.problem.now in
    let l = listed_in c.args.store.now c.args.listed.now in
    let fits : fits_version c.args.version (cert_line_of c.args.next.now.line) ≡ true = cc in
    let missing = rw c.in-Ok-Some.field-0-is at c.in-Ok-Some.ensures.missing in
    let list = rw c.in-Ok-Some.field-0-is at c.in-Ok-Some.ensures.list in
    list_started task p c.args.version c.args.answer l (cert_line_of c.args.next.now.line) (named c.first_list.new.store c.in-Ok-Some.ids.items) about c.requires.ends fits (sym missing) list

pub returns-in-Ok-None-clause-err : goal.returns-in-Ok-None-clause-err
returns-in-Ok-None-clause-err c task about =
    let p = problem_in c.args.store.now c.args.problem.now in
    let l = listed_in c.args.store.now c.args.listed.now in
    let fits : fits_version c.args.version (cert_line_of c.args.next.now.line) ≡ true = cc in
    let missing = rw c.in-Ok-None.field-0-is at c.in-Ok-None.ensures.missing in
    (refl, missing_refused task p c.args.version c.args.answer l (cert_line_of c.args.next.now.line) about c.requires.ends fits (sym missing))
