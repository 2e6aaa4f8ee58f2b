-- How lines are printed.
use Rattle.std.specs.Prelude.{ℕ, List, ◌++◌, codes, decimal}
use Rattle.std.specs.Fmt.{signed_decimal}
use Rattle.std.specs.List.{flat_map}
use Rattle.qv_cnf.specs.Literal.{Literal, number_of}
use Rattle.qv_cnf.specs.LratLine.{LratLine, Addition, Deletion}
use Rattle.qv_lrat_text.specs.Words.{spaced}

abbrev pub literal_text : Literal → List ℕ
literal_text lit = spaced (signed_decimal (number_of lit))

-- the one text that is printed for a line: decimal numbers, one space between words, and an LF
unfoldable pub spelling : LratLine → List ℕ
spelling (Addition id lits hints) =
    spaced (decimal id) ++ flat_map literal_text lits ++ codes "0 " ++ flat_map (λ hint. spaced (signed_decimal hint)) hints ++ codes "0\n"
spelling (Deletion id ids) =
    spaced (decimal id) ++ codes "d " ++ flat_map (λ deleted. spaced (decimal deleted)) ids ++ codes "0\n"
