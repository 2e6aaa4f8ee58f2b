-- What the text of a DIMACS file says.
use Rattle.std.specs.Prelude.{ℕ, ◌-◌, ◌^◌, ◌==◌, Bool, true, false, not, ◌&&◌, ◌||◌, if◌then◌else◌, List, [], ◌∷◌, ◌++◌, length, filter, slice_index, Option, Some, None, is_some}
use Rattle.std.specs.List.{flat_map}
use Rattle.qv_cnf.specs.Literal.{Literal}
use Rattle.qv_lrat_text.specs.Words.{is_byte_word}
use Rattle.qv_lrat_text.specs.Decimal.{number_from}
use Rattle.qv_lrat_text.specs.Grammar.{literal_in}
use Rattle.qv_dimacs.specs.declared.faults.DimacsKind.{DimacsKind}
use Rattle.qv_dimacs.specs.declared.faults.DimacsKind.TheVariants.{ProblemLine, Number, Unfinished}
use Rattle.qv_dimacs.specs.Text.{Word, lines_from}

-- what a text says: its clauses, or its first fault and the place of it
pub data Said : Type 0 where
  Clauses : List (List Literal) → Said
  Faulty : ℕ → DimacsKind → Said

-- ---- comments and the problem line

-- a line without words, or one whose first byte other than white space is `c`
abbrev pub is_comment : List Word → Bool
is_comment [] = true
is_comment (first ∷ others) = slice_index first.text 0 == 99

-- the word `cnf`
abbrev pub is_cnf : List ℕ → Bool
is_cnf (a ∷ b ∷ c ∷ []) = a == 99 && (b == 110 && c == 102)
is_cnf word = false

-- a numeral below 2^62: decimal digits, of which the first is a 0 only where it is the only one
unfoldable pub is_numeral : List ℕ → Bool
is_numeral word = (is_byte_word 48 word || not (slice_index word 0 == 48)) && is_some (number_from 0 (2 ^ 62 - 1) word)

-- the words pass the tests, each its own
abbrev pub pass : List (List ℕ → Bool) → List Word → Bool
pass [] [] = true
pass [] (word ∷ words) = false
pass (test ∷ tests) [] = false
pass (test ∷ tests) (word ∷ words) = test word.text && pass tests words

-- `p cnf V C`
abbrev pub problem_line : List (List ℕ → Bool)
problem_line = is_byte_word 112 ∷ is_cnf ∷ is_numeral ∷ is_numeral ∷ []

-- ---- clauses

-- how the words go on behind one that should be a literal
abbrev pub with_literal : ℕ → Option Literal → (Literal → Said) → Said
with_literal place None goes_on = Faulty place Number
with_literal place (Some lit) goes_on = goes_on lit

-- the place where a clause begins: that of its first literal
abbrev pub begun : ℕ → List Literal → ℕ → ℕ
begun start [] place = place
begun start (lit ∷ lits) place = start

abbrev pub is_none : List Literal → Bool
is_none [] = true
is_none (lit ∷ lits) = false

-- where the words end: not inside a clause
abbrev pub at_end : List (List Literal) → ℕ → List Literal → Said
at_end done start [] = Clauses done
at_end done start (lit ∷ lits) = Faulty start Unfinished

-- What words say behind these clauses and, where a clause has begun, its literals and the place
-- where it begins. `0` ends a clause. `%` between clauses ends them all.
unfoldable pub clauses_from : List (List Literal) → ℕ → List Literal → List Word → Said
clauses_from done start lits [] = at_end done start lits
clauses_from done start lits (word ∷ words) =
    if is_byte_word 48 word.text then clauses_from (done ++ lits ∷ []) start [] words
    else (if is_none lits && is_byte_word 37 word.text then Clauses done
    else with_literal word.place (literal_in word.text) (λ lit. clauses_from done (begun start lits word.place) (lits ++ lit ∷ []) words))

-- ---- the text

-- a line that should be the problem line and begins at a place, by the tests that its words should
-- pass, and the lines behind it
abbrev pub problem_at : ℕ → List (List ℕ → Bool) → List (List Word) → Said
problem_at start tests [] = Faulty start ProblemLine
problem_at start tests (line ∷ others) =
    if pass tests line then clauses_from [] 0 [] (flat_map (λ words. words) others) else Faulty start ProblemLine

-- where a line begins
abbrev pub first_place : List Word → ℕ
first_place [] = 0
first_place (first ∷ others) = first.place

-- lines that are no comments: the problem line and clauses, or nothing at all before the end
abbrev pub file_of : ℕ → List (List Word) → Said
file_of end [] = Faulty end Unfinished
file_of end (line ∷ others) = problem_at (first_place line) problem_line (line ∷ others)

abbrev pub no_comments : List (List Word) → List (List Word)
no_comments lines = filter (λ line. not (is_comment line)) lines

-- what a text says
unfoldable pub dimacs_of : List ℕ → Said
dimacs_of text = file_of (length text) (no_comments (lines_from 0 text))
