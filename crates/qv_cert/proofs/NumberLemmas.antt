-- What loops over the numbers of a line have read, and what they have still to read.
use Rattle.std.proofs.Common.{ℕ, List, ◌++◌, Option, Some}
use Rattle.qv_lrat_text.specs.Grammar.{◌>>=◌}

abbrev pub with_front : List ℕ → Option (List ℕ) → Option (List ℕ)
with_front front read = read >>= λ ns. Some (front ++ ns)

abbrev pub with_indices : List ℕ → Option (List ℕ × List (List ℕ)) → Option (List ℕ × List (List ℕ))
with_indices front read = read >>= λ p. Some (front ++ p.0, p.1)
