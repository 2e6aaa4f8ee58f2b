use Rattle.std.proofs.Common.{◌≡◌, ◌<◌, ◌-◌, suc, Some, List, length, get_or, ap, ◌∙◌, arith}
use Rattle.std.specs.Prelude.{slice_get}
use Rattle.qv_store.specs.Problems.{problem_in}
use Rattle.qv_cert.specs.Listed.{grown_of}
use Rattle.qv_cert_nodes.specs.declared.listed.Branch.{Branch}
use Rattle.qv_cert_nodes.specs.Lists.{listed_in}
use Rattle.qv_cert_nodes.proofs.Kept.{found-there}
use Rattle.qv_cert_nodes.proofs.Climbing.{climb-start, climb-step, climb-end}
use Rattle.qv_cert_nodes.proofs.formulas.path_to.Goals as goal

pub up-init : goal.up-init
up-init c = record {
  within = c.requires.line;
  climbing = climb-start c.args.store.now (grown_of (problem_in c.args.store.now c.args.problem.now) (listed_in c.args.store.now c.args.listed.now)) c.args.line c.new-path.result.items c.new-path.ensures.items;
}

pub up-smaller : goal.up-smaller
up-smaller c =
    let branches = c.args.listed.now.branches.items in
    let branch = c.index-branches-at.result in
    let within : c.up.at - 1 < length branches = omega (arith, c.up-test.true, c.up.invariant.within) in
    let is : branch ≡ get_or branches (c.up.at - 1) branch = c.index-branches-at.is ∙ ap (λ (xs : List Branch). get_or xs (c.up.at - 1) branch) c.branches-branches.ensures in
    let at : slice_get branches (c.up.at - 1) ≡ Some branch = found-there branches (c.up.at - 1) branch within is in
    omega (arith, (c.requires.kept.branches (c.up.at - 1) branch at).parent, c.up-test.true)

pub up-preserved : goal.up-preserved
up-preserved c =
    let branches = c.args.listed.now.branches.items in
    let branch = c.index-branches-at.result in
    let within : c.up.at - 1 < length branches = omega (arith, c.up-test.true, c.up.invariant.within) in
    let is : branch ≡ get_or branches (c.up.at - 1) branch = c.index-branches-at.is ∙ ap (λ (xs : List Branch). get_or xs (c.up.at - 1) branch) c.branches-branches.ensures in
    let at : slice_get branches (c.up.at - 1) ≡ Some branch = found-there branches (c.up.at - 1) branch within is in
    let back : suc (c.up.at - 1) ≡ c.up.at = omega (arith, c.up-test.true) in
    record {
      within = omega (arith, (c.requires.kept.branches (c.up.at - 1) branch at).parent, within);
      climbing = climb-step c.args.store.now (problem_in c.args.store.now c.args.problem.now) c.args.listed.now c.args.line (c.up.at - 1) c.up.at c.up.path.items c.push.new.self.items branch
          c.requires.kept back at c.in_ok-push.ensures.items c.up.invariant.climbing;
    }

pub returns : goal.returns
returns c =
    climb-end c.args.store.now (grown_of (problem_in c.args.store.now c.args.problem.now) (listed_in c.args.store.now c.args.listed.now)) c.args.line c.up.at c.up.path.items c.reverse.new.self.items
    (omega (arith, c.up-test.false)) c.reverse.ensures.items c.up.invariant.climbing
