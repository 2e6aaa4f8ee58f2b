-- what stands below the line so far
use Rattle.std.proofs.Common.{◌≤◌, length}
use Rattle.qv_store.specs.Problems.{problem_in}
use Rattle.qv_cert.specs.Listed.{grown_of}
use Rattle.qv_cert_nodes.specs.Lists.{listed_in}
use Rattle.qv_cert_nodes.proofs.Climbing.{IsClimbing}
use Rattle.qv_cert_nodes.proofs.formulas.path_to.Given as goal

abbrev pub invariant-up : goal.invariant-up
invariant-up l = record {
  within : l.at ≤ length l.listed.branches.items;
  climbing : IsClimbing l.store (grown_of (problem_in l.store l.problem) (listed_in l.store l.listed)) l.line l.at l.path.items;
}

abbrev pub decreases-up : goal.decreases-up
decreases-up l = l.at
