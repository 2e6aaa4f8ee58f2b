-- What is looked at first of commands, computed from their texts. What is expected was worked out apart from the
-- definitions.
use Rattle.std.proofs.Common.{◌≡◌, refl, ℕ, List, [], ◌∷◌, map, codes, Ok}
use Rattle.std.specs.Prelude.{Result}
use Rattle.std.specs.Fmt.{digits}
use Rattle.qv_text.specs.Bytes.{is_white, is_line_end, is_digit, is_binary, is_letter, is_hex, is_symbol, begins_symbol}
use Rattle.qv_text.specs.Reading.{run, quoted_len, text_len, literal, behind_hash, behind_colon, behind_dot, behind_digits, number, behind_zero, token_at, is_reserved, kind_of, tokens_behind}
use Rattle.qv_sexpr.specs.Script.{Script, stops, command, matched, reads}
use Rattle.qv_elab_defs.specs.Shapes.{reserved_construct}
use Rattle.qv_sorts.specs.Search.{operator_named}
use Rattle.qv_script_defs.specs.declared.faults.ScriptKind.TheVariants as kind
use Rattle.qv_script_defs.specs.Faults.{Fault, refuse}
use Rattle.qv_script_defs.specs.State.{opening}
use Rattle.qv_script_defs.specs.Texts.{infos}
use Rattle.qv_script_defs.specs.Logics.{is_logic}
use Rattle.qv_script_defs.specs.Settings.{settings}
use Rattle.qv_script_defs.specs.Commands.{commands}
use Rattle.qv_script.specs.Beginnings.{expression_beginning}

-- of each command of a text, as if it were the first of a script
abbrev looked_at : Script → List (Result (Unit {0}) Fault)
looked_at (stops end) = []
looked_at (command e rest) = expression_beginning opening e ∷ looked_at rest

unfoldable first_looks : List ℕ → List (Result (Unit {0}) Fault)
first_looks text = looked_at (reads text)

-- each text of one command has what stands beside it
abbrev Go : List (List ℕ × Result (Unit {0}) Fault) → Type 0
Go rows = map (λ row. first_looks row.0) rows ≡ map (λ row. row.1 ∷ []) rows

-- no command, one that isn't supported, and another number of arguments
shapes : Go ((codes "()", refuse 0 kind.Command)
    ∷ (codes "(frobnicate)", refuse 0 kind.Command)
    ∷ (codes "(get-proof)", refuse 0 kind.NotSupported)
    ∷ (codes "(assert)", refuse 0 kind.Form)
    ∷ (codes "(push 1 2)", refuse 0 kind.Form)
    ∷ [])
unfolding first_looks operator_named reserved_construct commands infos settings is_logic digits matched tokens_behind run quoted_len text_len literal behind_hash behind_colon behind_dot behind_digits number behind_zero token_at is_reserved kind_of is_white is_line_end is_digit is_binary is_letter is_hex is_symbol begins_symbol
shapes = refl

-- the whole of a command without terms
wholes : Go ((codes "(push 1000001)", refuse 0 kind.LevelLimit)
    ∷ (codes "(pop)", refuse 0 kind.PopBelow)
    ∷ (codes "(declare-fun f (Bool) Bool)", refuse 0 kind.NotSupported)
    ∷ (codes "(declare-const x Bool)", Ok tt)
    ∷ (codes "(get-model)", refuse 0 kind.NoModel)
    ∷ (codes "(check-sat)", Ok tt)
    ∷ [])
unfolding first_looks operator_named reserved_construct commands infos settings is_logic digits matched tokens_behind run quoted_len text_len literal behind_hash behind_colon behind_dot behind_digits number behind_zero token_at is_reserved kind_of is_white is_line_end is_digit is_binary is_letter is_hex is_symbol begins_symbol
wholes = refl

-- an atom, but no part of a list, and nothing where a term may have a name
terms : Go ((codes "(assert x)", refuse 8 kind.UnknownName)
    ∷ (codes "(assert (and x))", Ok tt)
    ∷ (codes "(assert (! x :named y))", Ok tt)
    ∷ (codes "(define-const 5 Bool true)", refuse 0 kind.Form)
    ∷ (codes "(define-fun f (x) Bool true)", refuse 0 kind.Form)
    ∷ (codes "(check-sat-assuming true)", refuse 0 kind.Form)
    ∷ (codes "(get-value (true))", refuse 0 kind.NoModel)
    ∷ [])
unfolding first_looks operator_named reserved_construct commands infos settings is_logic digits matched tokens_behind run quoted_len text_len literal behind_hash behind_colon behind_dot behind_digits number behind_zero token_at is_reserved kind_of is_white is_line_end is_digit is_binary is_letter is_hex is_symbol begins_symbol
terms = refl
