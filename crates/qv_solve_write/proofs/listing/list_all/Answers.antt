use Rattle.std.proofs.Common.{◌≡◌, ◌+◌, ◌≤◌, Some, length, slice_get, refl, arith}
use Rattle.qv_store.specs.Problems.{problem_in}
use Rattle.qv_cert_nodes.proofs.Kept.{found-there}
use Rattle.qv_solve_write.proofs.Taken.{posed-stays, taking-all, taking-clean, taking-kept, taking-next, taking-none}
use Rattle.qv_solve_write.proofs.listing.list_all.Goals as goal

pub taken-init : goal.taken-init
taken-init c =
    let p = problem_in c.args.store.now c.args.problem.now in
    taking-none c.args.store.now c.args.problem.now c.args.lines.now c.new-listed.result (c.new-listed.ensures.nothing c.args.store.now) (c.new-listed.ensures.kept c.args.store.now p) c.requires.lawful

pub list-requires-clause-kept : goal.list-requires-clause-kept
list-requires-clause-kept c =
    let lines = c.args.lines.now in
    let i = c.taken.line-index in
    let line = c.line-item.result in
    let at : slice_get lines i ≡ Some line = found-there lines i line c.taken-test.true c.line-item.is in
    taking-kept c.args.store.now c.taken.store c.args.problem.now lines i c.taken.listed line c.requires.posed at c.taken.invariant

pub list-requires-clause-posed : goal.list-requires-clause-posed
list-requires-clause-posed c = posed-stays c.args.store.now c.taken.store c.args.problem.now c.requires.posed c.taken.invariant.grows

pub list-requires-clause-clean : goal.list-requires-clause-clean
list-requires-clause-clean c =
    let lines = c.args.lines.now in
    let i = c.taken.line-index in
    let line = c.line-item.result in
    let at : slice_get lines i ≡ Some line = found-there lines i line c.taken-test.true c.line-item.is in
    taking-clean c.args.store.now c.taken.store c.args.problem.now lines i c.taken.listed line c.requires.posed at c.taken.invariant

pub taken-preserved : goal.taken-preserved
taken-preserved c =
    let lines = c.args.lines.now in
    let i = c.taken.line-index in
    let line = c.line-item.result in
    let at : slice_get lines i ≡ Some line = found-there lines i line c.taken-test.true c.line-item.is in
    taking-next c.args.store.now c.taken.store c.args.problem.now lines i c.taken.listed line c.requires.posed at c.taken.invariant c.list.new.store (i + 1) c.list.new.listed refl c.list.ensures.grows c.in_ok-list.ensures.lists

pub returns-clause-lists : goal.returns-clause-lists
returns-clause-lists c =
    let end : length c.args.lines.now ≤ c.taken.line-index = omega (arith, c.taken-test.false) in
    taking-all c.args.store.now c.taken.store c.args.problem.now c.args.lines.now c.taken.line-index c.taken.listed end c.taken.invariant
