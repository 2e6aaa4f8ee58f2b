use Rattle.std.proofs.Common.{◌≤◌, refl, arith}
use Rattle.qv_meter.specs.Records.{records_of}
use Rattle.qv_shell.proofs.Wrote.{bench-ends, bench-unread, gen-ends, gen-unread, page-ends, page-unread, page-unwritten}
use Rattle.qv_shell.proofs.program.perform.Goals as goal

pub solve-requires : goal.solve-requires
solve-requires g c = rw c.in-Solve.is at c.requires

pub qsolve-requires : goal.qsolve-requires
qsolve-requires g c = rw c.in-QSolve.is at c.requires

pub generate-requires : goal.generate-requires
generate-requires g c =
    let few : c.in-Gen.number ≤ 100000 = rw c.in-Gen.is at c.requires in
    omega (arith, few)

pub bench-requires : goal.bench-requires
bench-requires g c =
    let few : c.in-Bench.number ≤ 1000 = rw c.in-Bench.is at c.requires in
    omega (arith, few)

-- ---- a script is solved

pub returns-in-Solve-clause-solves : goal.returns-in-Solve-clause-solves
returns-in-Solve-clause-solves g c = rw c.in-Solve.is c.solve.ensures.run

pub returns-in-Solve-clause-checks : goal.returns-in-Solve-clause-checks
returns-in-Solve-clause-checks g c = rw c.in-Solve.is tt

pub returns-in-Solve-clause-proves : goal.returns-in-Solve-clause-proves
returns-in-Solve-clause-proves g c = rw c.in-Solve.is tt

pub returns-in-Solve-clause-trims : goal.returns-in-Solve-clause-trims
returns-in-Solve-clause-trims g c = rw c.in-Solve.is tt

pub returns-in-Solve-clause-lists : goal.returns-in-Solve-clause-lists
returns-in-Solve-clause-lists g c = rw c.in-Solve.is tt

pub returns-in-Solve-clause-qsolves : goal.returns-in-Solve-clause-qsolves
returns-in-Solve-clause-qsolves g c = rw c.in-Solve.is tt

pub returns-in-Solve-clause-qchecks : goal.returns-in-Solve-clause-qchecks
returns-in-Solve-clause-qchecks g c = rw c.in-Solve.is tt

pub returns-in-Solve-clause-generates : goal.returns-in-Solve-clause-generates
returns-in-Solve-clause-generates g c = rw c.in-Solve.is tt

pub returns-in-Solve-clause-benches : goal.returns-in-Solve-clause-benches
returns-in-Solve-clause-benches g c = rw c.in-Solve.is tt

pub returns-in-Solve-clause-pages : goal.returns-in-Solve-clause-pages
returns-in-Solve-clause-pages g c = rw c.in-Solve.is tt

pub returns-in-Solve-clause-read : goal.returns-in-Solve-clause-read
returns-in-Solve-clause-read g c = rw c.in-Solve.is c.solve.ensures.read

pub returns-in-Solve-clause-cert_read : goal.returns-in-Solve-clause-cert_read
returns-in-Solve-clause-cert_read g c = rw c.in-Solve.is tt

pub returns-in-Solve-clause-write : goal.returns-in-Solve-clause-write
returns-in-Solve-clause-write g c = rw c.in-Solve.is tt

pub returns-in-Solve-clause-cert_write : goal.returns-in-Solve-clause-cert_write
returns-in-Solve-clause-cert_write g c = rw c.in-Solve.is c.solve.ensures.write

pub returns-in-Solve-clause-solve_ends : goal.returns-in-Solve-clause-solve_ends
returns-in-Solve-clause-solve_ends g c = rw c.in-Solve.is c.solve.ensures.complete

pub returns-in-Solve-clause-check_ends : goal.returns-in-Solve-clause-check_ends
returns-in-Solve-clause-check_ends g c = rw c.in-Solve.is tt

pub returns-in-Solve-clause-trim_ends : goal.returns-in-Solve-clause-trim_ends
returns-in-Solve-clause-trim_ends g c = rw c.in-Solve.is tt

pub returns-in-Solve-clause-ends : goal.returns-in-Solve-clause-ends
returns-in-Solve-clause-ends g c = rw c.in-Solve.is tt

pub returns-in-Solve-clause-script : goal.returns-in-Solve-clause-script
returns-in-Solve-clause-script g c = rw c.in-Solve.is tt

pub returns-in-Solve-clause-cert_in : goal.returns-in-Solve-clause-cert_in
returns-in-Solve-clause-cert_in g c = rw c.in-Solve.is refl

pub returns-in-Solve-clause-cert_out : goal.returns-in-Solve-clause-cert_out
returns-in-Solve-clause-cert_out g c = rw c.in-Solve.is tt

pub returns-in-Solve-clause-meter : goal.returns-in-Solve-clause-meter
returns-in-Solve-clause-meter g c = rw c.in-Solve.is tt

-- ---- a certificate is checked

pub returns-in-Check-clause-solves : goal.returns-in-Check-clause-solves
returns-in-Check-clause-solves g c = rw c.in-Check.is tt

pub returns-in-Check-clause-checks : goal.returns-in-Check-clause-checks
returns-in-Check-clause-checks g c = rw c.in-Check.is c.check.ensures.run

pub returns-in-Check-clause-proves : goal.returns-in-Check-clause-proves
returns-in-Check-clause-proves g c = rw c.in-Check.is tt

pub returns-in-Check-clause-trims : goal.returns-in-Check-clause-trims
returns-in-Check-clause-trims g c = rw c.in-Check.is tt

pub returns-in-Check-clause-lists : goal.returns-in-Check-clause-lists
returns-in-Check-clause-lists g c = rw c.in-Check.is tt

pub returns-in-Check-clause-qsolves : goal.returns-in-Check-clause-qsolves
returns-in-Check-clause-qsolves g c = rw c.in-Check.is tt

pub returns-in-Check-clause-qchecks : goal.returns-in-Check-clause-qchecks
returns-in-Check-clause-qchecks g c = rw c.in-Check.is tt

pub returns-in-Check-clause-generates : goal.returns-in-Check-clause-generates
returns-in-Check-clause-generates g c = rw c.in-Check.is tt

pub returns-in-Check-clause-benches : goal.returns-in-Check-clause-benches
returns-in-Check-clause-benches g c = rw c.in-Check.is tt

pub returns-in-Check-clause-pages : goal.returns-in-Check-clause-pages
returns-in-Check-clause-pages g c = rw c.in-Check.is tt

pub returns-in-Check-clause-read : goal.returns-in-Check-clause-read
returns-in-Check-clause-read g c = rw c.in-Check.is tt

pub returns-in-Check-clause-cert_read : goal.returns-in-Check-clause-cert_read
returns-in-Check-clause-cert_read g c = rw c.in-Check.is c.check.ensures.read

pub returns-in-Check-clause-write : goal.returns-in-Check-clause-write
returns-in-Check-clause-write g c = rw c.in-Check.is c.check.ensures.write

pub returns-in-Check-clause-cert_write : goal.returns-in-Check-clause-cert_write
returns-in-Check-clause-cert_write g c = rw c.in-Check.is tt

pub returns-in-Check-clause-solve_ends : goal.returns-in-Check-clause-solve_ends
returns-in-Check-clause-solve_ends g c = rw c.in-Check.is tt

pub returns-in-Check-clause-check_ends : goal.returns-in-Check-clause-check_ends
returns-in-Check-clause-check_ends g c = rw c.in-Check.is c.check.ensures.complete

pub returns-in-Check-clause-trim_ends : goal.returns-in-Check-clause-trim_ends
returns-in-Check-clause-trim_ends g c = rw c.in-Check.is tt

pub returns-in-Check-clause-ends : goal.returns-in-Check-clause-ends
returns-in-Check-clause-ends g c = rw c.in-Check.is tt

pub returns-in-Check-clause-script : goal.returns-in-Check-clause-script
returns-in-Check-clause-script g c = rw c.in-Check.is tt

pub returns-in-Check-clause-cert_in : goal.returns-in-Check-clause-cert_in
returns-in-Check-clause-cert_in g c = rw c.in-Check.is tt

pub returns-in-Check-clause-cert_out : goal.returns-in-Check-clause-cert_out
returns-in-Check-clause-cert_out g c = rw c.in-Check.is refl

pub returns-in-Check-clause-meter : goal.returns-in-Check-clause-meter
returns-in-Check-clause-meter g c = rw c.in-Check.is refl

-- ---- a proof is

pub returns-in-Lrat-clause-solves : goal.returns-in-Lrat-clause-solves
returns-in-Lrat-clause-solves g c = rw c.in-Lrat.is tt

pub returns-in-Lrat-clause-checks : goal.returns-in-Lrat-clause-checks
returns-in-Lrat-clause-checks g c = rw c.in-Lrat.is tt

pub returns-in-Lrat-clause-proves : goal.returns-in-Lrat-clause-proves
returns-in-Lrat-clause-proves g c = rw c.in-Lrat.is c.prove.ensures.run

pub returns-in-Lrat-clause-trims : goal.returns-in-Lrat-clause-trims
returns-in-Lrat-clause-trims g c = rw c.in-Lrat.is tt

pub returns-in-Lrat-clause-lists : goal.returns-in-Lrat-clause-lists
returns-in-Lrat-clause-lists g c = rw c.in-Lrat.is tt

pub returns-in-Lrat-clause-qsolves : goal.returns-in-Lrat-clause-qsolves
returns-in-Lrat-clause-qsolves g c = rw c.in-Lrat.is tt

pub returns-in-Lrat-clause-qchecks : goal.returns-in-Lrat-clause-qchecks
returns-in-Lrat-clause-qchecks g c = rw c.in-Lrat.is tt

pub returns-in-Lrat-clause-generates : goal.returns-in-Lrat-clause-generates
returns-in-Lrat-clause-generates g c = rw c.in-Lrat.is tt

pub returns-in-Lrat-clause-benches : goal.returns-in-Lrat-clause-benches
returns-in-Lrat-clause-benches g c = rw c.in-Lrat.is tt

pub returns-in-Lrat-clause-pages : goal.returns-in-Lrat-clause-pages
returns-in-Lrat-clause-pages g c = rw c.in-Lrat.is tt

pub returns-in-Lrat-clause-read : goal.returns-in-Lrat-clause-read
returns-in-Lrat-clause-read g c = rw c.in-Lrat.is tt

pub returns-in-Lrat-clause-cert_read : goal.returns-in-Lrat-clause-cert_read
returns-in-Lrat-clause-cert_read g c = rw c.in-Lrat.is c.prove.ensures.read

pub returns-in-Lrat-clause-write : goal.returns-in-Lrat-clause-write
returns-in-Lrat-clause-write g c = rw c.in-Lrat.is c.prove.ensures.write

pub returns-in-Lrat-clause-cert_write : goal.returns-in-Lrat-clause-cert_write
returns-in-Lrat-clause-cert_write g c = rw c.in-Lrat.is tt

pub returns-in-Lrat-clause-solve_ends : goal.returns-in-Lrat-clause-solve_ends
returns-in-Lrat-clause-solve_ends g c = rw c.in-Lrat.is tt

pub returns-in-Lrat-clause-check_ends : goal.returns-in-Lrat-clause-check_ends
returns-in-Lrat-clause-check_ends g c = rw c.in-Lrat.is c.prove.ensures.complete

pub returns-in-Lrat-clause-trim_ends : goal.returns-in-Lrat-clause-trim_ends
returns-in-Lrat-clause-trim_ends g c = rw c.in-Lrat.is tt

pub returns-in-Lrat-clause-ends : goal.returns-in-Lrat-clause-ends
returns-in-Lrat-clause-ends g c = rw c.in-Lrat.is tt

pub returns-in-Lrat-clause-script : goal.returns-in-Lrat-clause-script
returns-in-Lrat-clause-script g c = rw c.in-Lrat.is tt

pub returns-in-Lrat-clause-cert_in : goal.returns-in-Lrat-clause-cert_in
returns-in-Lrat-clause-cert_in g c = rw c.in-Lrat.is tt

pub returns-in-Lrat-clause-cert_out : goal.returns-in-Lrat-clause-cert_out
returns-in-Lrat-clause-cert_out g c = rw c.in-Lrat.is refl

pub returns-in-Lrat-clause-meter : goal.returns-in-Lrat-clause-meter
returns-in-Lrat-clause-meter g c = rw c.in-Lrat.is refl

-- ---- a certificate is, and written anew

pub returns-in-Trim-clause-solves : goal.returns-in-Trim-clause-solves
returns-in-Trim-clause-solves g c = rw c.in-Trim.is tt

pub returns-in-Trim-clause-checks : goal.returns-in-Trim-clause-checks
returns-in-Trim-clause-checks g c = rw c.in-Trim.is tt

pub returns-in-Trim-clause-proves : goal.returns-in-Trim-clause-proves
returns-in-Trim-clause-proves g c = rw c.in-Trim.is tt

pub returns-in-Trim-clause-trims : goal.returns-in-Trim-clause-trims
returns-in-Trim-clause-trims g c = rw c.in-Trim.is c.trim.ensures.run

pub returns-in-Trim-clause-lists : goal.returns-in-Trim-clause-lists
returns-in-Trim-clause-lists g c = rw c.in-Trim.is tt

pub returns-in-Trim-clause-qsolves : goal.returns-in-Trim-clause-qsolves
returns-in-Trim-clause-qsolves g c = rw c.in-Trim.is tt

pub returns-in-Trim-clause-qchecks : goal.returns-in-Trim-clause-qchecks
returns-in-Trim-clause-qchecks g c = rw c.in-Trim.is tt

pub returns-in-Trim-clause-generates : goal.returns-in-Trim-clause-generates
returns-in-Trim-clause-generates g c = rw c.in-Trim.is tt

pub returns-in-Trim-clause-benches : goal.returns-in-Trim-clause-benches
returns-in-Trim-clause-benches g c = rw c.in-Trim.is tt

pub returns-in-Trim-clause-pages : goal.returns-in-Trim-clause-pages
returns-in-Trim-clause-pages g c = rw c.in-Trim.is tt

pub returns-in-Trim-clause-read : goal.returns-in-Trim-clause-read
returns-in-Trim-clause-read g c = rw c.in-Trim.is tt

pub returns-in-Trim-clause-cert_read : goal.returns-in-Trim-clause-cert_read
returns-in-Trim-clause-cert_read g c = rw c.in-Trim.is c.trim.ensures.read

pub returns-in-Trim-clause-write : goal.returns-in-Trim-clause-write
returns-in-Trim-clause-write g c = rw c.in-Trim.is tt

pub returns-in-Trim-clause-cert_write : goal.returns-in-Trim-clause-cert_write
returns-in-Trim-clause-cert_write g c = rw c.in-Trim.is c.trim.ensures.write

pub returns-in-Trim-clause-solve_ends : goal.returns-in-Trim-clause-solve_ends
returns-in-Trim-clause-solve_ends g c = rw c.in-Trim.is tt

pub returns-in-Trim-clause-check_ends : goal.returns-in-Trim-clause-check_ends
returns-in-Trim-clause-check_ends g c = rw c.in-Trim.is tt

pub returns-in-Trim-clause-trim_ends : goal.returns-in-Trim-clause-trim_ends
returns-in-Trim-clause-trim_ends g c = rw c.in-Trim.is c.trim.ensures.complete

pub returns-in-Trim-clause-ends : goal.returns-in-Trim-clause-ends
returns-in-Trim-clause-ends g c = rw c.in-Trim.is tt

pub returns-in-Trim-clause-script : goal.returns-in-Trim-clause-script
returns-in-Trim-clause-script g c = rw c.in-Trim.is tt

pub returns-in-Trim-clause-cert_in : goal.returns-in-Trim-clause-cert_in
returns-in-Trim-clause-cert_in g c = rw c.in-Trim.is tt

pub returns-in-Trim-clause-cert_out : goal.returns-in-Trim-clause-cert_out
returns-in-Trim-clause-cert_out g c = rw c.in-Trim.is tt

pub returns-in-Trim-clause-meter : goal.returns-in-Trim-clause-meter
returns-in-Trim-clause-meter g c = rw c.in-Trim.is refl

-- ---- a certificate is, and its clauses are listed

pub returns-in-Clauses-clause-solves : goal.returns-in-Clauses-clause-solves
returns-in-Clauses-clause-solves g c = rw c.in-Clauses.is tt

pub returns-in-Clauses-clause-checks : goal.returns-in-Clauses-clause-checks
returns-in-Clauses-clause-checks g c = rw c.in-Clauses.is tt

pub returns-in-Clauses-clause-proves : goal.returns-in-Clauses-clause-proves
returns-in-Clauses-clause-proves g c = rw c.in-Clauses.is tt

pub returns-in-Clauses-clause-trims : goal.returns-in-Clauses-clause-trims
returns-in-Clauses-clause-trims g c = rw c.in-Clauses.is tt

pub returns-in-Clauses-clause-lists : goal.returns-in-Clauses-clause-lists
returns-in-Clauses-clause-lists g c = rw c.in-Clauses.is c.clauses.ensures.run

pub returns-in-Clauses-clause-qsolves : goal.returns-in-Clauses-clause-qsolves
returns-in-Clauses-clause-qsolves g c = rw c.in-Clauses.is tt

pub returns-in-Clauses-clause-qchecks : goal.returns-in-Clauses-clause-qchecks
returns-in-Clauses-clause-qchecks g c = rw c.in-Clauses.is tt

pub returns-in-Clauses-clause-generates : goal.returns-in-Clauses-clause-generates
returns-in-Clauses-clause-generates g c = rw c.in-Clauses.is tt

pub returns-in-Clauses-clause-benches : goal.returns-in-Clauses-clause-benches
returns-in-Clauses-clause-benches g c = rw c.in-Clauses.is tt

pub returns-in-Clauses-clause-pages : goal.returns-in-Clauses-clause-pages
returns-in-Clauses-clause-pages g c = rw c.in-Clauses.is tt

pub returns-in-Clauses-clause-read : goal.returns-in-Clauses-clause-read
returns-in-Clauses-clause-read g c = rw c.in-Clauses.is tt

pub returns-in-Clauses-clause-cert_read : goal.returns-in-Clauses-clause-cert_read
returns-in-Clauses-clause-cert_read g c = rw c.in-Clauses.is c.clauses.ensures.read

pub returns-in-Clauses-clause-write : goal.returns-in-Clauses-clause-write
returns-in-Clauses-clause-write g c = rw c.in-Clauses.is c.clauses.ensures.write

pub returns-in-Clauses-clause-cert_write : goal.returns-in-Clauses-clause-cert_write
returns-in-Clauses-clause-cert_write g c = rw c.in-Clauses.is tt

pub returns-in-Clauses-clause-solve_ends : goal.returns-in-Clauses-clause-solve_ends
returns-in-Clauses-clause-solve_ends g c = rw c.in-Clauses.is tt

pub returns-in-Clauses-clause-check_ends : goal.returns-in-Clauses-clause-check_ends
returns-in-Clauses-clause-check_ends g c = rw c.in-Clauses.is c.clauses.ensures.complete

pub returns-in-Clauses-clause-trim_ends : goal.returns-in-Clauses-clause-trim_ends
returns-in-Clauses-clause-trim_ends g c = rw c.in-Clauses.is tt

pub returns-in-Clauses-clause-ends : goal.returns-in-Clauses-clause-ends
returns-in-Clauses-clause-ends g c = rw c.in-Clauses.is tt

pub returns-in-Clauses-clause-script : goal.returns-in-Clauses-clause-script
returns-in-Clauses-clause-script g c = rw c.in-Clauses.is tt

pub returns-in-Clauses-clause-cert_in : goal.returns-in-Clauses-clause-cert_in
returns-in-Clauses-clause-cert_in g c = rw c.in-Clauses.is tt

pub returns-in-Clauses-clause-cert_out : goal.returns-in-Clauses-clause-cert_out
returns-in-Clauses-clause-cert_out g c = rw c.in-Clauses.is refl

pub returns-in-Clauses-clause-meter : goal.returns-in-Clauses-clause-meter
returns-in-Clauses-clause-meter g c = rw c.in-Clauses.is refl

-- ---- a formula is solved

pub returns-in-QSolve-clause-solves : goal.returns-in-QSolve-clause-solves
returns-in-QSolve-clause-solves g c = rw c.in-QSolve.is tt

pub returns-in-QSolve-clause-checks : goal.returns-in-QSolve-clause-checks
returns-in-QSolve-clause-checks g c = rw c.in-QSolve.is tt

pub returns-in-QSolve-clause-proves : goal.returns-in-QSolve-clause-proves
returns-in-QSolve-clause-proves g c = rw c.in-QSolve.is tt

pub returns-in-QSolve-clause-trims : goal.returns-in-QSolve-clause-trims
returns-in-QSolve-clause-trims g c = rw c.in-QSolve.is tt

pub returns-in-QSolve-clause-lists : goal.returns-in-QSolve-clause-lists
returns-in-QSolve-clause-lists g c = rw c.in-QSolve.is tt

pub returns-in-QSolve-clause-qsolves : goal.returns-in-QSolve-clause-qsolves
returns-in-QSolve-clause-qsolves g c = rw c.in-QSolve.is c.qsolve.ensures.run

pub returns-in-QSolve-clause-qchecks : goal.returns-in-QSolve-clause-qchecks
returns-in-QSolve-clause-qchecks g c = rw c.in-QSolve.is tt

pub returns-in-QSolve-clause-generates : goal.returns-in-QSolve-clause-generates
returns-in-QSolve-clause-generates g c = rw c.in-QSolve.is tt

pub returns-in-QSolve-clause-benches : goal.returns-in-QSolve-clause-benches
returns-in-QSolve-clause-benches g c = rw c.in-QSolve.is tt

pub returns-in-QSolve-clause-pages : goal.returns-in-QSolve-clause-pages
returns-in-QSolve-clause-pages g c = rw c.in-QSolve.is tt

pub returns-in-QSolve-clause-read : goal.returns-in-QSolve-clause-read
returns-in-QSolve-clause-read g c = rw c.in-QSolve.is c.qsolve.ensures.read

pub returns-in-QSolve-clause-cert_read : goal.returns-in-QSolve-clause-cert_read
returns-in-QSolve-clause-cert_read g c = rw c.in-QSolve.is tt

pub returns-in-QSolve-clause-write : goal.returns-in-QSolve-clause-write
returns-in-QSolve-clause-write g c = rw c.in-QSolve.is tt

pub returns-in-QSolve-clause-cert_write : goal.returns-in-QSolve-clause-cert_write
returns-in-QSolve-clause-cert_write g c = rw c.in-QSolve.is c.qsolve.ensures.write

pub returns-in-QSolve-clause-solve_ends : goal.returns-in-QSolve-clause-solve_ends
returns-in-QSolve-clause-solve_ends g c = rw c.in-QSolve.is c.qsolve.ensures.complete

pub returns-in-QSolve-clause-check_ends : goal.returns-in-QSolve-clause-check_ends
returns-in-QSolve-clause-check_ends g c = rw c.in-QSolve.is tt

pub returns-in-QSolve-clause-trim_ends : goal.returns-in-QSolve-clause-trim_ends
returns-in-QSolve-clause-trim_ends g c = rw c.in-QSolve.is tt

pub returns-in-QSolve-clause-ends : goal.returns-in-QSolve-clause-ends
returns-in-QSolve-clause-ends g c = rw c.in-QSolve.is tt

pub returns-in-QSolve-clause-script : goal.returns-in-QSolve-clause-script
returns-in-QSolve-clause-script g c = rw c.in-QSolve.is tt

pub returns-in-QSolve-clause-cert_in : goal.returns-in-QSolve-clause-cert_in
returns-in-QSolve-clause-cert_in g c = rw c.in-QSolve.is refl

pub returns-in-QSolve-clause-cert_out : goal.returns-in-QSolve-clause-cert_out
returns-in-QSolve-clause-cert_out g c = rw c.in-QSolve.is tt

pub returns-in-QSolve-clause-meter : goal.returns-in-QSolve-clause-meter
returns-in-QSolve-clause-meter g c = rw c.in-QSolve.is tt

-- ---- a certificate beside one is checked

pub returns-in-QCheck-clause-solves : goal.returns-in-QCheck-clause-solves
returns-in-QCheck-clause-solves g c = rw c.in-QCheck.is tt

pub returns-in-QCheck-clause-checks : goal.returns-in-QCheck-clause-checks
returns-in-QCheck-clause-checks g c = rw c.in-QCheck.is tt

pub returns-in-QCheck-clause-proves : goal.returns-in-QCheck-clause-proves
returns-in-QCheck-clause-proves g c = rw c.in-QCheck.is tt

pub returns-in-QCheck-clause-trims : goal.returns-in-QCheck-clause-trims
returns-in-QCheck-clause-trims g c = rw c.in-QCheck.is tt

pub returns-in-QCheck-clause-lists : goal.returns-in-QCheck-clause-lists
returns-in-QCheck-clause-lists g c = rw c.in-QCheck.is tt

pub returns-in-QCheck-clause-qsolves : goal.returns-in-QCheck-clause-qsolves
returns-in-QCheck-clause-qsolves g c = rw c.in-QCheck.is tt

pub returns-in-QCheck-clause-qchecks : goal.returns-in-QCheck-clause-qchecks
returns-in-QCheck-clause-qchecks g c = rw c.in-QCheck.is c.qcheck.ensures.run

pub returns-in-QCheck-clause-generates : goal.returns-in-QCheck-clause-generates
returns-in-QCheck-clause-generates g c = rw c.in-QCheck.is tt

pub returns-in-QCheck-clause-benches : goal.returns-in-QCheck-clause-benches
returns-in-QCheck-clause-benches g c = rw c.in-QCheck.is tt

pub returns-in-QCheck-clause-pages : goal.returns-in-QCheck-clause-pages
returns-in-QCheck-clause-pages g c = rw c.in-QCheck.is tt

pub returns-in-QCheck-clause-read : goal.returns-in-QCheck-clause-read
returns-in-QCheck-clause-read g c = rw c.in-QCheck.is tt

pub returns-in-QCheck-clause-cert_read : goal.returns-in-QCheck-clause-cert_read
returns-in-QCheck-clause-cert_read g c = rw c.in-QCheck.is c.qcheck.ensures.read

pub returns-in-QCheck-clause-write : goal.returns-in-QCheck-clause-write
returns-in-QCheck-clause-write g c = rw c.in-QCheck.is c.qcheck.ensures.write

pub returns-in-QCheck-clause-cert_write : goal.returns-in-QCheck-clause-cert_write
returns-in-QCheck-clause-cert_write g c = rw c.in-QCheck.is tt

pub returns-in-QCheck-clause-solve_ends : goal.returns-in-QCheck-clause-solve_ends
returns-in-QCheck-clause-solve_ends g c = rw c.in-QCheck.is tt

pub returns-in-QCheck-clause-check_ends : goal.returns-in-QCheck-clause-check_ends
returns-in-QCheck-clause-check_ends g c = rw c.in-QCheck.is c.qcheck.ensures.complete

pub returns-in-QCheck-clause-trim_ends : goal.returns-in-QCheck-clause-trim_ends
returns-in-QCheck-clause-trim_ends g c = rw c.in-QCheck.is tt

pub returns-in-QCheck-clause-ends : goal.returns-in-QCheck-clause-ends
returns-in-QCheck-clause-ends g c = rw c.in-QCheck.is tt

pub returns-in-QCheck-clause-script : goal.returns-in-QCheck-clause-script
returns-in-QCheck-clause-script g c = rw c.in-QCheck.is tt

pub returns-in-QCheck-clause-cert_in : goal.returns-in-QCheck-clause-cert_in
returns-in-QCheck-clause-cert_in g c = rw c.in-QCheck.is tt

pub returns-in-QCheck-clause-cert_out : goal.returns-in-QCheck-clause-cert_out
returns-in-QCheck-clause-cert_out g c = rw c.in-QCheck.is refl

pub returns-in-QCheck-clause-meter : goal.returns-in-QCheck-clause-meter
returns-in-QCheck-clause-meter g c = rw c.in-QCheck.is refl

-- ---- a script is generated

pub returns-in-Gen-clause-solves : goal.returns-in-Gen-clause-solves
returns-in-Gen-clause-solves g c = rw c.in-Gen.is tt

pub returns-in-Gen-clause-checks : goal.returns-in-Gen-clause-checks
returns-in-Gen-clause-checks g c = rw c.in-Gen.is tt

pub returns-in-Gen-clause-proves : goal.returns-in-Gen-clause-proves
returns-in-Gen-clause-proves g c = rw c.in-Gen.is tt

pub returns-in-Gen-clause-trims : goal.returns-in-Gen-clause-trims
returns-in-Gen-clause-trims g c = rw c.in-Gen.is tt

pub returns-in-Gen-clause-lists : goal.returns-in-Gen-clause-lists
returns-in-Gen-clause-lists g c = rw c.in-Gen.is tt

pub returns-in-Gen-clause-qsolves : goal.returns-in-Gen-clause-qsolves
returns-in-Gen-clause-qsolves g c = rw c.in-Gen.is tt

pub returns-in-Gen-clause-qchecks : goal.returns-in-Gen-clause-qchecks
returns-in-Gen-clause-qchecks g c = rw c.in-Gen.is tt

pub returns-in-Gen-clause-generates : goal.returns-in-Gen-clause-generates
returns-in-Gen-clause-generates g c = rw c.in-Gen.is c.generate.ensures.run

pub returns-in-Gen-clause-benches : goal.returns-in-Gen-clause-benches
returns-in-Gen-clause-benches g c = rw c.in-Gen.is tt

pub returns-in-Gen-clause-pages : goal.returns-in-Gen-clause-pages
returns-in-Gen-clause-pages g c = rw c.in-Gen.is tt

pub returns-in-Gen-clause-read : goal.returns-in-Gen-clause-read
returns-in-Gen-clause-read g c =
    let held = g.O.Sink.held in
    rw c.in-Gen.is (λ three. absurd (gen-unread c.in-Gen.number (held c.args.out.now) (held c.generate.new.out) c.generate.result c.generate.ensures.run three))

pub returns-in-Gen-clause-cert_read : goal.returns-in-Gen-clause-cert_read
returns-in-Gen-clause-cert_read g c = rw c.in-Gen.is tt

pub returns-in-Gen-clause-write : goal.returns-in-Gen-clause-write
returns-in-Gen-clause-write g c = rw c.in-Gen.is c.generate.ensures.write

pub returns-in-Gen-clause-cert_write : goal.returns-in-Gen-clause-cert_write
returns-in-Gen-clause-cert_write g c = rw c.in-Gen.is tt

pub returns-in-Gen-clause-solve_ends : goal.returns-in-Gen-clause-solve_ends
returns-in-Gen-clause-solve_ends g c = rw c.in-Gen.is tt

pub returns-in-Gen-clause-check_ends : goal.returns-in-Gen-clause-check_ends
returns-in-Gen-clause-check_ends g c = rw c.in-Gen.is tt

pub returns-in-Gen-clause-trim_ends : goal.returns-in-Gen-clause-trim_ends
returns-in-Gen-clause-trim_ends g c = rw c.in-Gen.is tt

pub returns-in-Gen-clause-ends : goal.returns-in-Gen-clause-ends
returns-in-Gen-clause-ends g c =
    let held = g.O.Sink.held in
    rw c.in-Gen.is (λ out memory. gen-ends c.in-Gen.number (held c.args.out.now) (held c.generate.new.out) c.generate.result c.generate.ensures.run c.generate.ensures.write out memory)

pub returns-in-Gen-clause-script : goal.returns-in-Gen-clause-script
returns-in-Gen-clause-script g c = rw c.in-Gen.is refl

pub returns-in-Gen-clause-cert_in : goal.returns-in-Gen-clause-cert_in
returns-in-Gen-clause-cert_in g c = rw c.in-Gen.is refl

pub returns-in-Gen-clause-cert_out : goal.returns-in-Gen-clause-cert_out
returns-in-Gen-clause-cert_out g c = rw c.in-Gen.is refl

pub returns-in-Gen-clause-meter : goal.returns-in-Gen-clause-meter
returns-in-Gen-clause-meter g c = rw c.in-Gen.is refl

-- ---- one is solved and checked in memory

pub returns-in-Bench-clause-solves : goal.returns-in-Bench-clause-solves
returns-in-Bench-clause-solves g c = rw c.in-Bench.is tt

pub returns-in-Bench-clause-checks : goal.returns-in-Bench-clause-checks
returns-in-Bench-clause-checks g c = rw c.in-Bench.is tt

pub returns-in-Bench-clause-proves : goal.returns-in-Bench-clause-proves
returns-in-Bench-clause-proves g c = rw c.in-Bench.is tt

pub returns-in-Bench-clause-trims : goal.returns-in-Bench-clause-trims
returns-in-Bench-clause-trims g c = rw c.in-Bench.is tt

pub returns-in-Bench-clause-lists : goal.returns-in-Bench-clause-lists
returns-in-Bench-clause-lists g c = rw c.in-Bench.is tt

pub returns-in-Bench-clause-qsolves : goal.returns-in-Bench-clause-qsolves
returns-in-Bench-clause-qsolves g c = rw c.in-Bench.is tt

pub returns-in-Bench-clause-qchecks : goal.returns-in-Bench-clause-qchecks
returns-in-Bench-clause-qchecks g c = rw c.in-Bench.is tt

pub returns-in-Bench-clause-generates : goal.returns-in-Bench-clause-generates
returns-in-Bench-clause-generates g c = rw c.in-Bench.is tt

pub returns-in-Bench-clause-benches : goal.returns-in-Bench-clause-benches
returns-in-Bench-clause-benches g c = rw c.in-Bench.is c.bench.ensures.run

pub returns-in-Bench-clause-pages : goal.returns-in-Bench-clause-pages
returns-in-Bench-clause-pages g c = rw c.in-Bench.is tt

pub returns-in-Bench-clause-read : goal.returns-in-Bench-clause-read
returns-in-Bench-clause-read g c =
    let held = g.O.Sink.held in
    rw c.in-Bench.is (λ three. absurd (bench-unread c.in-Bench.number (held c.args.out.now) (held c.bench.new.out) (records_of c.args.meter.now) (records_of c.bench.new.meter) c.bench.result c.bench.ensures.run three))

pub returns-in-Bench-clause-cert_read : goal.returns-in-Bench-clause-cert_read
returns-in-Bench-clause-cert_read g c = rw c.in-Bench.is tt

pub returns-in-Bench-clause-write : goal.returns-in-Bench-clause-write
returns-in-Bench-clause-write g c = rw c.in-Bench.is c.bench.ensures.write

pub returns-in-Bench-clause-cert_write : goal.returns-in-Bench-clause-cert_write
returns-in-Bench-clause-cert_write g c = rw c.in-Bench.is tt

pub returns-in-Bench-clause-solve_ends : goal.returns-in-Bench-clause-solve_ends
returns-in-Bench-clause-solve_ends g c = rw c.in-Bench.is tt

pub returns-in-Bench-clause-check_ends : goal.returns-in-Bench-clause-check_ends
returns-in-Bench-clause-check_ends g c = rw c.in-Bench.is tt

pub returns-in-Bench-clause-trim_ends : goal.returns-in-Bench-clause-trim_ends
returns-in-Bench-clause-trim_ends g c = rw c.in-Bench.is tt

pub returns-in-Bench-clause-ends : goal.returns-in-Bench-clause-ends
returns-in-Bench-clause-ends g c =
    let held = g.O.Sink.held in
    rw c.in-Bench.is (λ out memory. bench-ends c.in-Bench.number (held c.args.out.now) (held c.bench.new.out) (records_of c.args.meter.now) (records_of c.bench.new.meter) c.bench.result c.bench.ensures.run c.bench.ensures.write out memory)

pub returns-in-Bench-clause-script : goal.returns-in-Bench-clause-script
returns-in-Bench-clause-script g c = rw c.in-Bench.is refl

pub returns-in-Bench-clause-cert_in : goal.returns-in-Bench-clause-cert_in
returns-in-Bench-clause-cert_in g c = rw c.in-Bench.is refl

pub returns-in-Bench-clause-cert_out : goal.returns-in-Bench-clause-cert_out
returns-in-Bench-clause-cert_out g c = rw c.in-Bench.is refl

pub returns-in-Bench-clause-meter : goal.returns-in-Bench-clause-meter
returns-in-Bench-clause-meter g c = rw c.in-Bench.is tt

-- ---- a page is printed

pub returns-in-Print-clause-solves : goal.returns-in-Print-clause-solves
returns-in-Print-clause-solves g c = rw c.in-Print.is tt

pub returns-in-Print-clause-checks : goal.returns-in-Print-clause-checks
returns-in-Print-clause-checks g c = rw c.in-Print.is tt

pub returns-in-Print-clause-proves : goal.returns-in-Print-clause-proves
returns-in-Print-clause-proves g c = rw c.in-Print.is tt

pub returns-in-Print-clause-trims : goal.returns-in-Print-clause-trims
returns-in-Print-clause-trims g c = rw c.in-Print.is tt

pub returns-in-Print-clause-lists : goal.returns-in-Print-clause-lists
returns-in-Print-clause-lists g c = rw c.in-Print.is tt

pub returns-in-Print-clause-qsolves : goal.returns-in-Print-clause-qsolves
returns-in-Print-clause-qsolves g c = rw c.in-Print.is tt

pub returns-in-Print-clause-qchecks : goal.returns-in-Print-clause-qchecks
returns-in-Print-clause-qchecks g c = rw c.in-Print.is tt

pub returns-in-Print-clause-generates : goal.returns-in-Print-clause-generates
returns-in-Print-clause-generates g c = rw c.in-Print.is tt

pub returns-in-Print-clause-benches : goal.returns-in-Print-clause-benches
returns-in-Print-clause-benches g c = rw c.in-Print.is tt

pub returns-in-Print-clause-pages : goal.returns-in-Print-clause-pages
returns-in-Print-clause-pages g c = rw c.in-Print.is (rw c.text_of.ensures at c.write_text.ensures.run)

pub returns-in-Print-clause-read : goal.returns-in-Print-clause-read
returns-in-Print-clause-read g c = rw c.in-Print.is (λ three. absurd (page-unread c.write_text.ensures.write three))

pub returns-in-Print-clause-cert_read : goal.returns-in-Print-clause-cert_read
returns-in-Print-clause-cert_read g c = rw c.in-Print.is tt

pub returns-in-Print-clause-write : goal.returns-in-Print-clause-write
returns-in-Print-clause-write g c = rw c.in-Print.is (λ four. page-unwritten c.write_text.ensures.write four)

pub returns-in-Print-clause-cert_write : goal.returns-in-Print-clause-cert_write
returns-in-Print-clause-cert_write g c = rw c.in-Print.is tt

pub returns-in-Print-clause-solve_ends : goal.returns-in-Print-clause-solve_ends
returns-in-Print-clause-solve_ends g c = rw c.in-Print.is tt

pub returns-in-Print-clause-check_ends : goal.returns-in-Print-clause-check_ends
returns-in-Print-clause-check_ends g c = rw c.in-Print.is tt

pub returns-in-Print-clause-trim_ends : goal.returns-in-Print-clause-trim_ends
returns-in-Print-clause-trim_ends g c = rw c.in-Print.is tt

pub returns-in-Print-clause-ends : goal.returns-in-Print-clause-ends
returns-in-Print-clause-ends g c = rw c.in-Print.is (λ out memory. page-ends c.write_text.ensures.write out)

pub returns-in-Print-clause-script : goal.returns-in-Print-clause-script
returns-in-Print-clause-script g c = rw c.in-Print.is refl

pub returns-in-Print-clause-cert_in : goal.returns-in-Print-clause-cert_in
returns-in-Print-clause-cert_in g c = rw c.in-Print.is refl

pub returns-in-Print-clause-cert_out : goal.returns-in-Print-clause-cert_out
returns-in-Print-clause-cert_out g c = rw c.in-Print.is refl

pub returns-in-Print-clause-meter : goal.returns-in-Print-clause-meter
returns-in-Print-clause-meter g c = rw c.in-Print.is refl
