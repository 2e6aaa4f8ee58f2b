use Rattle.std.proofs.Common.{◌≡◌, ℕ, ◌<◌, Some, length}
use Rattle.qv_store.specs.Replacing.{term_of_level}
use Rattle.qv_store_cases.proofs.ready.are_terms.Given as goal

abbrev pub invariant-levels : goal.invariant-levels
invariant-levels l = (k n : ℕ) → k < l.level → term_of_level l.terms k ≡ Some n → n < length l.store
