-- What pins the constants of a check down.
use Rattle.std.specs.Prelude.{◌≡◌, Some, List, All, map, slice_get, Ok}
use Rattle.qv_sexpr.specs.Script.{Tree as Expr}
use Rattle.qv_words.specs.Tree.{Tree}
use Rattle.qv_words.specs.Truth.{constants_of_each}
use Rattle.qv_elab_defs.specs.Written.{HasTokens}
use Rattle.qv_script_defs.specs.State.{State, constants}
use Rattle.qv_script_defs.specs.Moves.{Check}
use Rattle.qv_script_defs.specs.Commands.{after}
use Rattle.qv_script_defs.specs.StateLaws.{IsReached}

-- each constant of what is checked is in force, with its sort
abbrev pub ChecksAreOverConstants : Type 0
ChecksAreOverConstants =
    (s now : State) (e : Expr) (trees : List Tree) → IsReached s → HasTokens e → after s e ≡ Ok (now, Check trees) →
    All (λ leaf. slice_get (map (λ x. x.1) (constants s)) leaf.0 ≡ Some leaf.1) (constants_of_each trees)
