-- Words of a line, as code prints them.
use Rattle.std.specs.Prelude.{ℕ, List, decimal}
use Rattle.qv_cert_text.specs.declared.printing.Piece.{Piece}
use Rattle.qv_cert_text.specs.declared.printing.Piece.TheVariants.{Word, Number}

-- the word that is printed
abbrev pub piece_text : Piece → List ℕ
piece_text (Word word) = word.now
piece_text (Number n) = decimal n
