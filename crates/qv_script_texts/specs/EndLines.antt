-- The lines of what ends a text.
use Rattle.std.specs.Prelude.{ℕ, Option, Some, None, List, codes}
use Rattle.qv_text.specs.declared.kinds.LexKind.{LexKind}
use Rattle.qv_text.specs.declared.kinds.LexKind.TheVariants.{Character, Text as OpenText, QuotedSymbol, Numeral, Literal}
use Rattle.qv_sexpr.specs.declared.answers.ParseKind.{ParseKind}
use Rattle.qv_sexpr.specs.declared.answers.ParseKind.TheVariants.{Close, Atom, Unfinished}
use Rattle.qv_sexpr.specs.Script.{TextEnd, all_read, lexical, parsing, nesting}
use Rattle.qv_script_defs.specs.Faults.{refusal}

abbrev pub lex_kind : LexKind → List ℕ
lex_kind Character = codes "character"
lex_kind OpenText = codes "string"
lex_kind QuotedSymbol = codes "quoted symbol"
lex_kind Numeral = codes "numeral"
lex_kind Literal = codes "literal"

abbrev pub parse_kind : ParseKind → List ℕ
parse_kind Close = codes "close"
parse_kind Atom = codes "atom"
parse_kind Unfinished = codes "unfinished"

-- the line at the end of a text that isn't its last byte between commands
abbrev pub fault_at_end : TextEnd → Option (List ℕ)
fault_at_end all_read = None
fault_at_end (lexical fault) = Some (refusal fault.place (lex_kind fault.kind))
fault_at_end (parsing fault) = Some (refusal fault.place (parse_kind fault.kind))
fault_at_end (nesting place) = Some (refusal place (codes "nesting limit"))
