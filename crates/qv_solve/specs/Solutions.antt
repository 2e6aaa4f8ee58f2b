-- What is answered about formulas.
use Rattle.std.specs.Prelude.{◌≡◌, ℕ, Some, None, IsSomeAnd, List, map, slice_get}
use Rattle.std.specs.List.{AllByRecursion}
use Rattle.qv_words.specs.declared.op.Answer.{Answer}
use Rattle.qv_words.specs.declared.op.Answer.TheVariants as answer
use Rattle.qv_words.specs.Word.{word_value}
use Rattle.qv_words.specs.Tree.{Tree}
use Rattle.qv_words.specs.Truth.{AreTrue, HoldUnder, HasConstantsOf, constants_of_each}
use Rattle.qv_words.specs.Problem.{Problem, Quantifier, Existential, Universal, in_order}
use Rattle.qv_words.specs.Linked.{Entry, chain, tree_of}
use Rattle.qv_words.specs.GameLaws.{HasWon}
use Rattle.qv_meter.specs.declared.records.SpentKind.{SpentKind}
use Rattle.qv_meter.specs.Charging.{OfNewest}
use Rattle.qv_meter.specs.Finals.{instances_of}
use Rattle.qv_meter.specs.Played.{IsPlayed}
use Rattle.qv_meter.specs.Records.{AreTallies, IsWorked, Limits, Metering, IsSpentIn, records_of}
use Rattle.qv_meter.specs.Views.{quantity_of}
use Rattle.qv_cert.specs.Line.{CertLine}
use Rattle.qv_cert.specs.Listed.{listed_by}
use Rattle.qv_solve_write.specs.Said.{lines_said}
use Rattle.qv_solve_draw.specs.declared.values.ConstValue.{ConstValue}
use Rattle.qv_solve_draw.specs.Values.{indices_of}
use Rattle.qv_solve_refute.specs.Refuting.{variable_limit}
use Rattle.qv_solve_section.specs.Sections.{IsClosed}
use Rattle.qv_solve.specs.declared.solved.Solved.{Solved}
use Rattle.qv_solve.specs.declared.solved.Solved.TheVariants.{Sat, Unsat, Unknown}

abbrev pub answer_of : Solved → Answer
answer_of (Sat section constants variables) = answer.Sat
answer_of (Unsat section variables) = answer.Unsat
answer_of (Unknown section kind) = answer.Unknown

-- the lines of its section
abbrev pub lines_of : Solved → List CertLine
lines_of (Sat section constants variables) = lines_said section.lines.items
lines_of (Unsat section variables) = lines_said section.lines.items
lines_of (Unknown section kind) = lines_said section.lines.items

-- the greatest variable of the clauses that it refutes, 0 where it refutes none
abbrev pub variables_of : Solved → ℕ
variables_of (Sat section constants variables) = variables
variables_of (Unsat section variables) = variables
variables_of (Unknown section kind) = 0

-- what an answer says of formulas
abbrev pub IsAnswerOf : List Tree → Answer → Type 0
IsAnswerOf formulas answer.Sat = AreTrue formulas
IsAnswerOf formulas answer.Unsat = AreTrue formulas → ⊥
IsAnswerOf formulas answer.Unknown = Unit {0}

-- ---- where the lines come from

-- the lines list what is drawn from entries with which this player has won: Skolem terms, or the
-- lines of a tree
abbrev pub ListDrawn : Problem → Quantifier → List Entry → List CertLine → Type 0
ListDrawn p Existential entries given = (listed_by p given).terms ≡ chain p entries
ListDrawn p Universal entries given = (listed_by p given).lines ≡ tree_of p entries

-- a section of lines that list what is drawn from linked and fresh entries with which this player
-- has won; as many instances were charged as there are entries, and lines of the tree, and what
-- the section refutes is within the limit of variables
pub record IsDrawnFor (p : Problem) (number : ℕ) (answer : Answer) (winner : Quantifier) (lines : List CertLine) (m : Metering) : Type 0 where
  pub entries : List Entry
  pub given : List CertLine
  pub played : IsPlayed p entries
  pub won : HasWon p winner entries
  pub list : ListDrawn p winner entries given
  pub closed : IsClosed p number answer (variable_limit m) given lines
  pub counted : IsSomeAnd m.newest (λ r. r.instances ≡ instances_of p winner entries)

abbrev pub IsDrawn : Problem → ℕ → Answer → List CertLine → Metering → Type 0
IsDrawn p number answer.Sat lines m = IsDrawnFor p number answer.Sat Existential lines m
IsDrawn p number answer.Unsat lines m = IsDrawnFor p number answer.Unsat Universal lines m
IsDrawn p number answer.Unknown lines m = Unit {0}

-- ---- values of constants

-- a list of values has these at their indices
abbrev pub HasValuesOf : List ℕ → List ConstValue → Type 0
HasValuesOf c values = AllByRecursion (λ v. slice_get c v.index ≡ Some (word_value v.word)) values

-- a value for each constant of the formulas, in the order of their indices; under all values among
-- which these are, they are values of the constants' sorts, and the formulas hold
pub record AreConstantsOf (formulas : List Tree) (values : List ConstValue) : Type 0 where
  pub indices : indices_of values ≡ map (λ k. k.0) (in_order (constants_of_each formulas))
  pub lawful : (c : List ℕ) → HasValuesOf c values → HasConstantsOf c formulas
  pub hold : (c : List ℕ) → HasValuesOf c values → HoldUnder c formulas

abbrev pub GivesConstants : List Tree → Solved → Type 0
GivesConstants formulas (Sat section constants variables) = AreConstantsOf formulas constants.items
GivesConstants formulas (Unsat section variables) = Unit {0}
GivesConstants formulas (Unknown section kind) = Unit {0}

-- ---- the meter

-- a record of its own for the check, with these limits, behind the records before
pub record HasRecord (limits : Limits) (before after : Metering) : Type 0 where
  pub older : after.older ≡ records_of before
  pub limited : IsSomeAnd after.newest (λ r. r.limits ≡ limits)

-- it keeps the problem and is spent in what is named, and its counts stand for work on the problem
abbrev pub IsUnknown : Problem → SpentKind → Metering → Type 0
IsUnknown p kind m = OfNewest m (λ r k. (k.problem ≡ p) × AreTallies r.conflicts k × IsWorked r k × IsSpentIn (quantity_of kind) r)

-- behind a sat or unsat answer the record keeps no problem; behind an unknown one it keeps it, spent
abbrev pub IsSettled : Problem → Metering → Solved → Type 0
IsSettled p m (Sat section constants variables) = IsSomeAnd m.newest (λ r. r.kept ≡ None)
IsSettled p m (Unsat section variables) = IsSomeAnd m.newest (λ r. r.kept ≡ None)
IsSettled p m (Unknown section kind) = IsUnknown p kind m
