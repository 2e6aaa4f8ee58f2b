-- What the text of a QDIMACS file says.
use Rattle.std.specs.Prelude.{ℕ, ◌^◌, Bool, true, false, ◌&&◌, ◌||◌, if◌then◌else◌, List, [], ◌∷◌, ◌++◌, length, Option, Some, None}
use Rattle.std.specs.List.{flat_map}
use Rattle.qv_cnf.specs.Literal.{Literal}
use Rattle.qv_lrat_text.specs.Words.{is_byte_word}
use Rattle.qv_lrat_text.specs.Decimal.{number_from}
use Rattle.qv_lrat_text.specs.Grammar.{literal_in}
use Rattle.qv_dimacs.specs.Text.{Word, lines_from}
use Rattle.qv_dimacs.specs.Clauses.{pass, problem_line, first_place, no_comments, is_none, begun}
use Rattle.qv_store.specs.declared.problem.Quant.{Quant}
use Rattle.qv_store.specs.declared.problem.Quant.TheVariants.{Exists, Forall}
use Rattle.qv_qdimacs.specs.declared.files.Quantified.{Quantified}
use Rattle.qv_qdimacs.specs.declared.faults.QdimacsKind.{QdimacsKind}
use Rattle.qv_qdimacs.specs.declared.faults.QdimacsKind.TheVariants.{ProblemLine, Number, Unfinished, Repeated, Quantifier}
use Rattle.qv_qdimacs.specs.Outer.{is_in, variables_of}

-- what a text says: its prefix and its clauses, or its first fault and the place of it
pub data Said : Type 0 where
  File : List Quantified → List (List Literal) → Said
  Faulty : ℕ → QdimacsKind → Said

-- the quantifier that a word is: `a` or `e`
abbrev pub quantifier_in : List ℕ → Option Quant
quantifier_in word = if is_byte_word 97 word then Some Forall else (if is_byte_word 101 word then Some Exists else None)

abbrev pub is_quantifier : List ℕ → Bool
is_quantifier word = is_byte_word 97 word || is_byte_word 101 word

-- ---- clauses

abbrev pub are_some : List (List Literal) → Bool
are_some [] = false
are_some (clause ∷ clauses) = true

-- what is wrong with a word that is no literal, where a clause may begin behind another one or not
abbrev pub wrong_word : Bool → List ℕ → QdimacsKind
wrong_word behind word = if behind && is_quantifier word then Quantifier else Number

-- how the words go on behind one that should be a literal
abbrev pub with_literal : ℕ → QdimacsKind → Option Literal → (Literal → Said) → Said
with_literal place wrong None goes_on = Faulty place wrong
with_literal place wrong (Some lit) goes_on = goes_on lit

-- where the words end: not inside a clause
abbrev pub at_end : List Quantified → List (List Literal) → ℕ → List Literal → Said
at_end prefix done start [] = File prefix done
at_end prefix done start (lit ∷ lits) = Faulty start Unfinished

-- What words say behind a prefix and these clauses and, where a clause has begun, its literals and
-- the place where it begins. `0` ends a clause. `%` between clauses ends them all.
unfoldable pub clauses_from : List Quantified → List (List Literal) → ℕ → List Literal → List Word → Said
clauses_from prefix done start lits [] = at_end prefix done start lits
clauses_from prefix done start lits (word ∷ words) =
    if is_byte_word 48 word.text then clauses_from prefix (done ++ lits ∷ []) 0 [] words
    else (if is_none lits && is_byte_word 37 word.text then File prefix done
    else with_literal word.place (wrong_word (is_none lits && are_some done) word.text) (literal_in word.text)
    (λ lit. clauses_from prefix done (begun start lits word.place) (lits ++ lit ∷ []) words))

-- ---- the parts of the prefix

-- a part that has begun: its quantifier, and the place of that word
pub record Part : Type 0 where
  pub quant : Quant
  pub place : ℕ

-- how the words go on behind one that should be a variable, and that the prefix hasn't yet
abbrev pub with_variable : ℕ → List Quantified → Option ℕ → (ℕ → Said) → Said
with_variable place prefix None goes_on = Faulty place Number
with_variable place prefix (Some v) goes_on = if is_in v (variables_of prefix) then Faulty place Repeated else goes_on v

-- how they go on behind one that may be a quantifier, or else begins the clauses
abbrev pub with_quantifier : Option Quant → (Quant → Said) → Said → Said
with_quantifier None goes_on clauses = clauses
with_quantifier (Some q) goes_on clauses = goes_on q

-- What words say behind a prefix and, where a part has begun, within it. `0` ends a part.
unfoldable pub parts_from : List Quantified → Option Part → List Word → Said
parts_from prefix None [] = File prefix []
parts_from prefix (Some part) [] = Faulty part.place Unfinished
parts_from prefix None (word ∷ words) =
    with_quantifier (quantifier_in word.text) (λ q. parts_from prefix (Some (record { quant = q; place = word.place })) words)
    (clauses_from prefix [] 0 [] (word ∷ words))
parts_from prefix (Some part) (word ∷ words) =
    if is_byte_word 48 word.text then parts_from prefix None words
    else with_variable word.place prefix (number_from 1 (2 ^ 30) word.text)
    (λ v. parts_from (prefix ++ record { quant = part.quant; variable = v } ∷ []) (Some part) words)

-- ---- the text

-- the words of lines, one behind the other
abbrev pub words_of : List (List Word) → List Word
words_of lines = flat_map (λ words. words) lines

-- lines that are no comments: the problem line, and behind it the prefix and the clauses
abbrev pub file_of : ℕ → List (List Word) → Said
file_of end [] = Faulty end Unfinished
file_of end (line ∷ others) = if pass problem_line line then parts_from [] None (words_of others) else Faulty (first_place line) ProblemLine

-- what a text says
unfoldable pub qdimacs_of : List ℕ → Said
qdimacs_of text = file_of (length text) (no_comments (lines_from 0 text))
