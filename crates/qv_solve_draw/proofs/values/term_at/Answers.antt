use Rattle.std.proofs.Common.{◌≡◌, Some, length, refl}
use Rattle.std.specs.Prelude.{slice_get}
use Rattle.std.proofs.lemmas.Option.{slice_get_read}
use Rattle.qv_store.specs.Problems.{problem_in}
use Rattle.qv_solve_draw.proofs.Valued.{found-there}
use Rattle.qv_solve_draw.proofs.values.term_at.Goals as goal

pub returns-then-term-place-clause-term : goal.returns-then-term-place-clause-term
returns-then-term-place-clause-term c =
    let terms = c.args.terms.now in
    let s = c.in-Some.term.now in
    let found = c.in-Some.ensures.lookup in
    let at : slice_get terms c.args.place ≡ Some s = slice_get_read terms (length terms) c.args.place s refl found.3.0 found.1 in
    let own : s.place ≡ c.args.place = c.if-term-place.true in
    found-there c.args._store.now (problem_in c.args._store.now c.args._problem.now) terms c.args.place s c.requires.section at own
