-- the last terms so far
use Rattle.std.proofs.Common.{◌≡◌, ◌≤◌, ℕ, drop, length}
use Rattle.qv_store.specs.Replacing.{term_of_level}
use Rattle.qv_cert_nodes.specs.Putting.{term_given}
use Rattle.qv_cert_nodes.proofs.formulas.terms_by_place.Given as goal

abbrev pub invariant-terms : goal.invariant-terms
invariant-terms l = record {
  many : length l.put.items ≡ l.places;
  left : l.left ≤ length l.terms;
  given : (j : ℕ) → term_of_level l.put.items j ≡ term_given (drop l.left l.terms) j;
}

abbrev pub decreases-terms : goal.decreases-terms
decreases-terms l = l.left
