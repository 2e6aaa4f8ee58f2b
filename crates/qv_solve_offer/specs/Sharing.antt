-- What is kept from one check to the next.
use Rattle.std.specs.Prelude.{List, All}
use Rattle.qv_words.specs.Tree.{Tree}
use Rattle.qv_solve_offer.specs.declared.shared.Shared.{Shared}
use Rattle.qv_solve_offer.specs.Asking.{IsBase}

-- its clauses are those of terms of this store
abbrev pub IsShared : List Tree → Shared → Type 0
IsShared trees s = All (IsBase trees) s.bases.items
