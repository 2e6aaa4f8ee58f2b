-- What pins the states and the checks down.
use Rattle.std.specs.Prelude.{◌≡◌, ◌≢◌, ◌≤◌, false, List, All, AllPairs, length, Ok}
use Rattle.qv_sexpr.specs.Script.{Tree as Expr}
use Rattle.qv_words.specs.Tree.{Tree}
use Rattle.qv_words.specs.Prenex.{is_quantified}
use Rattle.qv_words.specs.Truth.{IsAssertion, HaveOneSort}
use Rattle.qv_elab_defs.specs.Scopes.{Scope}
use Rattle.qv_elab_defs.specs.Written.{HasTokens}
use Rattle.qv_elab_defs.specs.TreeLaws.{IsScope, IsTreeOf}
use Rattle.qv_script_defs.specs.State.{State, Last, opening, answered, scope_of, in_force}
use Rattle.qv_script_defs.specs.declared.counts.Counts.{Counts}
use Rattle.qv_script_defs.specs.Moves.{ValueTerm, Effect, Check, Values, level_limit}
use Rattle.qv_script_defs.specs.Commands.{after}

-- a state that commands, as they are written, and answers lead to
pub data IsReached : State → Type 0 where
  opens : IsReached opening
  moves : (s now : State) (e : Expr) (effect : Effect) → IsReached s → HasTokens e → after s e ≡ Ok (now, effect) → IsReached now
  answers : (s : State) (answer : Last) (counts : Counts) → IsReached s → IsReached (answered answer counts s)

-- in such a state the scope is one, no two names in force are the same, and no more levels are open
-- than may be
pub record IsLawfulState (s : State) : Type 0 where
  pub scope : IsScope (scope_of s)
  pub names : AllPairs (λ x y. x.0 ≢ y.0) (scope_of s)
  pub levels : length s.opened ≤ level_limit
  pub assertions : All (IsTreeOf (scope_of s)) (in_force s)

abbrev pub StatesAreLawful : Type 0
StatesAreLawful = (s : State) → IsReached s → IsLawfulState s

-- what is checked are assertions in which constants of one index have one sort
abbrev pub ChecksAreLawful : Type 0
ChecksAreLawful =
    (s now : State) (e : Expr) (trees : List Tree) → IsReached s → HasTokens e → after s e ≡ Ok (now, Check trees) →
    All IsAssertion trees × HaveOneSort trees

-- a term of a scope without quantifiers
abbrev pub IsAskable : Scope → ValueTerm → Type 0
IsAskable scope v = IsTreeOf scope v.tree × (is_quantified v.tree ≡ false)

-- the terms whose values are asked for are such
abbrev pub ValuesAreLawful : Type 0
ValuesAreLawful =
    (s now : State) (e : Expr) (terms : List ValueTerm) → IsReached s → HasTokens e → after s e ≡ Ok (now, Values terms) →
    All (IsAskable (scope_of s)) terms
