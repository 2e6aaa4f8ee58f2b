-- Where the clauses that hold a literal are found.
use Rattle.std.specs.Prelude.{◌≡◌, ℕ, ◌<◌, ◌%◌, true, List, [], length, map, get_or, Contains, Vec}
use Rattle.std.specs.List.{AllByRecursion}
use Rattle.std.specs.declared.alloc.Global.{Global}
use Rattle.qv_cnf.specs.Listing.{Numbered}
use Rattle.qv_cnf.specs.Literal.{Literal, index_of}
use Rattle.qv_cnf.specs.Refutation.{among}

-- the ids in lists, wherever these lie in memory
abbrev pub ids_in : List (Vec ℕ Global) → List (List ℕ)
ids_in lists = map (λ v. v.items) lists

-- the list of a literal, which may be that of others too
abbrev pub list_for : List (List ℕ) → Literal → List ℕ
list_for lists l = get_or lists (index_of l % length lists) []

-- a clause stands in the lists of all its literals
abbrev pub IsFiled : List (List ℕ) → Numbered → Type 0
IsFiled lists c = (l : Literal) → among c.lits l ≡ true → Contains (list_for lists l) c.id

-- there are lists, and each live clause stands in those of its literals
pub record IsIndex (lists : List (Vec ℕ Global)) (live : List Numbered) : Type 0 where
  pub some : 0 < length lists
  pub filed : AllByRecursion (IsFiled (ids_in lists)) live

-- so it is, or it isn't made yet
abbrev pub KeepsIndex : List (Vec ℕ Global) → List Numbered → Type 0
KeepsIndex lists live = 0 < length lists → AllByRecursion (IsFiled (ids_in lists)) live
