-- What is looked at of an expression that is a command before memory is wanted.
use Rattle.std.specs.Prelude.{ℕ, ◌&&◌, ◌||◌, if◌then◌else◌, nat_eq, Bool, false, unwrap_or, option_and_then, List, [], length, Result, Ok, codes}
use Rattle.std.specs.Str.{bytes_eq}
use Rattle.qv_sexpr.specs.Script.{atom, list, none, also}
use Rattle.qv_sexpr.specs.Script.{Tree as Expr, Trees as Exprs}
use Rattle.qv_elab_defs.specs.Faults.{◌>>=◌}
use Rattle.qv_elab_defs.specs.Tokens.{items, symbol_of, keyword_text}
use Rattle.qv_elab_defs.specs.Scopes.{found}
use Rattle.qv_script_defs.specs.declared.faults.ScriptKind.TheVariants.{Command as NoCommand}
use Rattle.qv_script_defs.specs.Faults.{Fault, refuse}
use Rattle.qv_script_defs.specs.State.{State}
use Rattle.qv_script_defs.specs.Commands.{Command, DefineFun, DefineConst, Assert, CheckSatAssuming, GetValue, commands, known}
use Rattle.qv_script_terms.specs.Beginnings.{command_beginning}

-- whether a command has terms, and takes so many arguments
abbrev pub has_terms : Command → ℕ → Bool
has_terms Assert n = nat_eq n 1
has_terms CheckSatAssuming n = nat_eq n 1
has_terms GetValue n = nat_eq n 1
has_terms DefineConst n = nat_eq n 3
has_terms DefineFun n = nat_eq n 4
has_terms _ n = false

-- whether the keyword `:named` stands in an expression
abbrev mutual
  pub mentions_named : Expr → Bool
  mentions_named (atom l) = bytes_eq (unwrap_or (keyword_text l.kind l.text) []) (codes ":named")
  mentions_named (list place within close) = mention_named within

  pub mention_named : Exprs → Bool
  mention_named none = false
  mention_named (also e es) = mentions_named e || mention_named es

-- of a command with these arguments: its shape, where it has terms and some may have names, which are
-- looked for first
abbrev pub outset : Bool → Command → ℕ → List Expr → State → Result (Unit {0}) Fault
outset named command place args s =
    if has_terms command (length args) && named then Ok tt else command_beginning command place args s

-- of an expression: whether it is a command
abbrev pub expression_beginning : State → Expr → Result (Unit {0}) Fault
expression_beginning s (atom l) = refuse l.place NoCommand
expression_beginning s (list place none close) = refuse place NoCommand
expression_beginning s (list place (also first arguments) close) =
    known place (option_and_then (λ name. found name commands) (symbol_of first)) >>= λ command.
    outset (mention_named (also first arguments)) command place (items arguments) s
