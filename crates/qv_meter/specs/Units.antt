-- Units of work: what a record may charge, where its problem is p and it counts n instances.
use Rattle.std.specs.Prelude.{◌≡◌, ℕ, ◌+◌, ◌-◌, ◌≤◌, ◌<◌, Some, List, [], ◌∷◌, ◌++◌, length, slice_get}
use Rattle.qv_words.specs.Tree.{Tree}
use Rattle.qv_words.specs.Clauses.{cnf_variables}
use Rattle.qv_words.specs.Problem.{Problem, Quantifier, Universal}
use Rattle.qv_words.specs.Linked.{Entry, HoldsFirst, paths_of}
use Rattle.qv_words.specs.GameLaws.{HasWon}
use Rattle.qv_cnf.specs.Listing.{Numbered}
use Rattle.qv_cnf.specs.LratLine.{LratLine}
use Rattle.qv_cnf.specs.Derivation.{IsDerivation, additions}
use Rattle.qv_meter.specs.Bases.{IsBaseOf}
use Rattle.qv_meter.specs.Played.{IsPlayed, IsUndecided}
use Rattle.qv_meter.specs.Queries.{AreAsked, IsQueryLevel}
use Rattle.qv_meter.specs.Finals.{IsFinalList, instances_of}

-- what conflicts are charged to
pub data Lane : Type 0 where
  Query : (winner : Quantifier) (level : ℕ) → Lane
  Final : Lane

-- what may be asked where these entries were played, n of them, while level 1 is undecided
pub record IsQuery (p : Problem) (n : ℕ) (entries : List Entry) (winner : Quantifier) (level : ℕ) (formulas : List Tree) : Type 0 where
  pub played : IsPlayed p entries
  pub counted : length entries ≡ n
  pub undecided : IsUndecided entries
  pub asked : IsQueryLevel p level
  pub list : AreAsked p entries winner level formulas

-- a final list of entries with a winner
pub record IsFinal (p : Problem) (n : ℕ) (entries : List Entry) (formulas : List Tree) : Type 0 where
  pub winner : Quantifier
  pub played : IsPlayed p entries
  pub won : HasWon p winner entries
  pub counted : instances_of p winner entries ≡ n
  pub list : IsFinalList p winner entries formulas

-- a list of formulas of these entries, whose refutation is charged to a lane
abbrev pub IsListOf : Problem → ℕ → List Entry → Lane → List Tree → Type 0
IsListOf p n entries (Query winner level) formulas = IsQuery p n entries winner level formulas
IsListOf p n entries Final formulas = IsFinal p n entries formulas

-- a base with the clauses of such a list, and steps with as many additions as were charged to the
-- lane; clauses of the base that follow from the others are charged to none
pub record MayGoOn (p : Problem) (n : ℕ) (lane : Lane) (tally : ℕ) (base : List Numbered) (steps : List LratLine) : Type 0 where
  pub entries : List Entry
  pub formulas : List Tree
  pub list : IsListOf p n entries lane formulas
  pub clauses : IsBaseOf base formulas
  pub charged : additions steps ≡ tally

-- an entry that leaves n entries linked and fresh
pub record IsEntryUnit (p : Problem) (n : ℕ) (entries : List Entry) (e : Entry) : Type 0 where
  pub played : IsPlayed p (entries ++ e ∷ [])
  pub counted : length entries ≡ n

-- the path of the next line of the tree, behind the entries and the lines that were charged
pub record IsLineUnit (p : Problem) (n : ℕ) (entries : List Entry) (path : List ℕ) : Type 0 where
  pub played : IsPlayed p entries
  pub won : HoldsFirst Universal entries
  pub charged : length entries ≤ n
  pub next : slice_get (paths_of p entries) (n - length entries) ≡ Some path

-- what an instance is charged for: an entry behind these entries, or the line of their tree with
-- this path
pub data InstanceUnit : Type 0 where
  EntryUnit : (entries : List Entry) (e : Entry) → InstanceUnit
  LineUnit : (entries : List Entry) (path : List ℕ) → InstanceUnit

abbrev pub IsInstance : Problem → ℕ → InstanceUnit → Type 0
IsInstance p n (EntryUnit entries e) = IsEntryUnit p n entries e
IsInstance p n (LineUnit entries path) = IsLineUnit p n entries path

-- a list of the entries that were played whose clauses have too many variables
pub record IsOverLarge (p : Problem) (n : ℕ) (entries : List Entry) (limit : ℕ) (formulas : List Tree) : Type 0 where
  pub lane : Lane
  pub list : IsListOf p n entries lane formulas
  pub over : limit < cnf_variables formulas

-- What counts of units stand for, where n instances were counted.

-- conflicts of a lane: a derivation from the clauses of a list that stood for it up to then, and
-- such as follow from them, with as many additions as its tally
pub record AreConflicts (p : Problem) (n : ℕ) (lane : Lane) (tally : ℕ) : Type 0 where
  pub count : ℕ
  pub base : List Numbered
  pub steps : List LratLine
  pub within : count ≤ n
  pub charged : MayGoOn p count lane tally base steps
  pub derivation : IsDerivation base steps

-- instances: the entries of a list that was played, and lines of its tree
pub record AreInstances (p : Problem) (n : ℕ) : Type 0 where
  pub entries : List Entry
  pub lines : ℕ
  pub played : IsPlayed p entries
  pub counted : length entries + lines ≡ n
  pub of_tree : (1 ≤ lines → HoldsFirst Universal entries) × (lines ≤ length (paths_of p entries))

-- too many variables: a list of what was played up to then
pub record AreTooMany (p : Problem) (n limit : ℕ) : Type 0 where
  pub count : ℕ
  pub entries : List Entry
  pub formulas : List Tree
  pub within : count ≤ n
  pub list : IsOverLarge p count entries limit formulas
