-- Lists of literals in blocks.
use Rattle.std.specs.Prelude.{◌≡◌, ◌≤◌, ◌^◌, List, [], ◌∷◌, ◌++◌, length}
use Rattle.qv_cnf.specs.Literal.{Literal}

-- the lists of some blocks
abbrev pub lists_of : List (List (List Literal)) → List (List Literal)
lists_of [] = []
lists_of (b ∷ bs) = b ++ lists_of bs

-- each of them has as many lists as a block may have
abbrev pub AreFull : List (List (List Literal)) → Type 0
AreFull [] = Unit {0}
AreFull (b ∷ bs) = (length b ≡ 1024) × AreFull bs

-- full blocks, and behind them the last
pub record ArePacked (blocks : List (List (List Literal))) (rest : List (List Literal)) : Type 0 where
  pub full : AreFull blocks
  pub last : length rest ≤ 1024
  pub few : length blocks ≤ 2 ^ 50
