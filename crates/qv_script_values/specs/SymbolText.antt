-- Symbols as they are printed, and what they stand for.
use Rattle.std.specs.Prelude.{ℕ, ◌&&◌, not, if◌then◌else◌, List, [], ◌∷◌, ◌++◌, codes}
use Rattle.std.specs.Prelude.{Bool as Truth, false}
use Rattle.std.specs.List.{list_all}
use Rattle.qv_text.specs.Bytes.{is_symbol, begins_symbol}
use Rattle.qv_text.specs.Reading.{is_reserved}
use Rattle.qv_words.specs.declared.sort.Sort.{Sort}
use Rattle.qv_script_values.specs.ValueText.{value_text, sort_text}

-- written as a simple symbol is
abbrev pub is_plain : List ℕ → Truth
is_plain [] = false
is_plain (b ∷ bytes) = begins_symbol b && list_all is_symbol bytes

-- a simple symbol that isn't reserved
abbrev pub is_simple : List ℕ → Truth
is_simple name = is_plain name && not (is_reserved name)

-- a name, between bars where it is no simple symbol
abbrev pub symbol_text : List ℕ → List ℕ
symbol_text name = if is_simple name then name else codes "|" ++ (name ++ codes "|")

-- (define-fun x () S
abbrev pub opening_text : List ℕ → Sort → List ℕ
opening_text name s = codes "(define-fun " ++ (symbol_text name ++ (codes " () " ++ sort_text s))

-- (define-fun x () S v), a line
abbrev pub definition_text : List ℕ → Sort → ℕ → List ℕ
definition_text name s v = opening_text name s ++ (codes " " ++ (value_text s v ++ codes ")\n"))
