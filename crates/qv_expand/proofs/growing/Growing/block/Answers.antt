use Rattle.std.proofs.Common.{[], length, ap, arith}
use Rattle.std.proofs.lemmas.List.{length-map}
use Rattle.qv_words.specs.Problem.{Existential, Universal}
use Rattle.qv_store.specs.Problems.{place_of, problem_in, quantifier_of}
use Rattle.qv_entries.specs.Rows.{entries_in}
use Rattle.qv_meter.proofs.Fresh.{linked}
use Rattle.qv_expand.proofs.BlockPlaces.{place-there, stands-before}
use Rattle.qv_expand.proofs.growing.Growing.block.Goals as goal

pub index-requires : goal.index-requires
index-requires c =
    let p = problem_in c.args.store.now c.args.problem.now in
    let es = entries_in c.args.store.now c.args.entries.now in
    let low = place-there p es (length c.args.self.now.path.items) c.args.number (linked p [] es c.requires.expanding.played) c.requires.may.is in
    omega (arith, low, length-map c.args.problem.now.prefix.items place_of, c.len.ensures, c.args.self.now.path.ok, c.args.problem.now.prefix.ok)

pub eigens-requires-clause-owner : goal.eigens-requires-clause-owner
eigens-requires-clause-owner c =
    let p = problem_in c.args.store.now c.args.problem.now in
    let es = entries_in c.args.store.now c.args.entries.now in
    let low = place-there p es (length c.args.self.now.path.items) c.args.number (linked p [] es c.requires.expanding.played) c.requires.may.is in
    stands-before c.args.problem.now.prefix.items c.len.result (length c.args.self.now.path.items) c.index.result.now Existential (omega (arith, c.len.ensures, c.args.self.now.path.ok)) (omega (arith, low, length-map c.args.problem.now.prefix.items place_of)) c.index.ensures (ap quantifier_of c.in-Exists.is)

pub instances-requires-clause-owner : goal.instances-requires-clause-owner
instances-requires-clause-owner c =
    let p = problem_in c.args.store.now c.args.problem.now in
    let es = entries_in c.args.store.now c.args.entries.now in
    let low = place-there p es (length c.args.self.now.path.items) c.args.number (linked p [] es c.requires.expanding.played) c.requires.may.is in
    stands-before c.args.problem.now.prefix.items c.len.result (length c.args.self.now.path.items) c.index.result.now Universal (omega (arith, c.len.ensures, c.args.self.now.path.ok)) (omega (arith, low, length-map c.args.problem.now.prefix.items place_of)) c.index.ensures (ap quantifier_of c.in-Forall.is)
