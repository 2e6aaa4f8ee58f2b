-- What makes an entry: the game shows so much of one, and may put it behind a linked list.
use Rattle.std.specs.Prelude.{◌≡◌, ◌⊎◌, ℕ, ◌+◌, ◌-◌, ◌/◌, ◌%◌, ◌^◌, ◌≤◌, ◌==◌, Bool, true, Some, List, [], ◌∷◌, ◌++◌, map, length, slice_get, slice_index, if◌then◌else◌, All, AllPairs, Contains}
use Rattle.std.specs.Int.{bit_at}
use Rattle.std.specs.List.{AllZip, list_all}
use Rattle.qv_words.specs.declared.sort.Sort.{Sort}
use Rattle.qv_words.specs.Tree.{Tree, Variable}
use Rattle.qv_words.specs.Prenex.{negation}
use Rattle.qv_words.specs.Problem.{Problem, conjunction}
use Rattle.qv_words.specs.Gate.{Lit, neg, lit_value, clauses_value}
use Rattle.qv_words.specs.Clauses.{nodes, bits_of, cnf}
use Rattle.qv_words.specs.Passes.{IsSimple}
use Rattle.qv_words.specs.PassLaws.{StandsFor}
use Rattle.qv_words.specs.Choice.{AreChosen, IsTrueAt}
use Rattle.qv_words.specs.Linked.{Block, Entry, Run, AreLinks, AreValues, IsComplement, IsEntry, IsLinked, IsRun, AreApart, blocks_of, block_numbered, entries_named, equation_of, last_region, linked_regions, places_below, with_terms}
use Rattle.qv_words.specs.GameLaws.{IsProblem, IsPointOf}
use Rattle.qv_circuits_laws.specs.ClauseLaws.{blasted}

-- at the last level the one region behind an entry is the matrix or its negation
abbrev pub LastRegionIsLinked : Type 0
LastRegionIsLinked =
    (p : Problem) (earlier : List Entry) (e : Entry) → e.level ≡ length (blocks_of p.prefix) →
    linked_regions p earlier e ≡ last_region p e.winner ∷ []

-- at another level with one link it is the linked entry's
abbrev pub OneRegionIsLinked : Type 0
OneRegionIsLinked =
    (p : Problem) (earlier : List Entry) (e : Entry) (n : ℕ) (l : Entry) → (e.level ≡ length (blocks_of p.prefix) → ⊥) →
    e.links ≡ n ∷ [] → slice_get earlier n ≡ Some l → linked_regions p earlier e ≡ l.region ∷ []

-- what simplifying makes of a formula: another one of the same value, over its leaves, with no more
-- distinct nodes, in which no rule fits
pub record IsSimplified (u t : Tree) : Type 0 where
  pub stands : StandsFor u t
  pub small : length (nodes (u ∷ [])) ≤ length (nodes (t ∷ []))
  pub simple : IsSimple u

-- the winner owns the block: some values of it lead from the point to a later region that is its
-- own, the terms are chosen there, and the region is the later one with the terms put in,
-- simplified
pub record IsTaken (p : Problem) (earlier : List Entry) (e : Entry) (block : Block) (later : Tree) (values : List ℕ) : Type 0 where
  pub at_level : block_numbered (blocks_of p.prefix) e.level ≡ Some block
  pub owner : e.winner ≡ block.owner
  pub links : AreLinks p earlier e
  pub linked : linked_regions p earlier e ≡ later ∷ []
  pub point : IsPointOf p e.level e.point
  pub of_block : AreValues values block.sorts
  pub leads : IsTrueAt (e.point ++ values) later
  pub chosen : AreChosen (places_below (blocks_of p.prefix) e.level) (places_below (blocks_of p.prefix) e.level + length block.sorts) (e.point ++ values) later (places_below (blocks_of p.prefix) e.level) block.sorts e.terms
  pub region : IsSimplified e.region (with_terms (places_below (blocks_of p.prefix) e.level) e.terms later)

-- such an entry may come
abbrev pub TakenMayCome : Type 0
TakenMayCome =
    (p : Problem) (earlier : List Entry) (e : Entry) (block : Block) (later : Tree) (values : List ℕ) → IsProblem p → IsLinked p earlier →
    IsTaken p earlier e block later values → IsEntry p earlier e

-- one formula is the negation of the other
abbrev pub Deny : Tree → Tree → Type 0
Deny f g = (f ≡ negation g) ⊎ (g ≡ negation f)

-- the bits of a run, from the low one on, as a number
abbrev pub bits_in : Run → ℕ → ℕ
bits_in r v = v / 2 ^ r.low % 2 ^ (r.high - r.low + 1)

-- two points have the same bits in a run
abbrev pub AgreeIn : List ℕ → List ℕ → Run → Type 0
AgreeIn point other r = bits_in r (slice_index other r.place) ≡ bits_in r (slice_index point r.place)

-- no values of the block make all these formulas true, at a point with the same bits in the runs
abbrev pub LeaveNone : Problem → Entry → Block → List Run → List Tree → Type 0
LeaveNone p e block runs formulas =
    (point values : List ℕ) → IsPointOf p e.level point → AreValues values block.sorts → All (AgreeIn e.point point) runs →
    All (IsTrueAt (point ++ values)) formulas → ⊥

-- the other player owns the block: it was asked for values outside all linked regions, and the bits
-- of the point that these runs have leave none
pub record IsForcedBy (p : Problem) (earlier : List Entry) (e : Entry) (block : Block) (runs : List Run) (formulas : List Tree) : Type 0 where
  pub at_level : block_numbered (blocks_of p.prefix) e.level ≡ Some block
  pub owner : e.winner ≡ block.owner → ⊥
  pub links : AreLinks p earlier e
  pub denied : AllZip Deny formulas (linked_regions p earlier e)
  pub point : IsPointOf p e.level e.point
  pub no_terms : e.terms ≡ []
  pub each : All (IsRun p e (linked_regions p earlier e)) runs
  pub apart : AllPairs AreApart runs
  pub region : e.region ≡ conjunction (map (equation_of p e.point) runs)
  pub none : LeaveNone p e block runs formulas

-- such an entry may come
abbrev pub ForcedMayCome : Type 0
ForcedMayCome =
    (p : Problem) (earlier : List Entry) (e : Entry) (block : Block) (runs : List Run) (formulas : List Tree) → IsProblem p → IsLinked p earlier →
    IsForcedBy p earlier e block runs formulas → IsEntry p earlier e

-- no values of the block make all these formulas true, at a point of the entry's region
abbrev pub RegionLeavesNone : Problem → Entry → Block → List Tree → Type 0
RegionLeavesNone p e block formulas =
    (point values : List ℕ) → IsPointOf p e.level point → AreValues values block.sorts → IsTrueAt point e.region →
    All (IsTrueAt (point ++ values)) formulas → ⊥

-- the other player owns the block: it was asked for values outside all linked regions, and outside
-- its own regions of this level, where the point is, there are none
pub record IsComplementBy (p : Problem) (earlier : List Entry) (e : Entry) (block : Block) (formulas : List Tree) : Type 0 where
  pub at_level : block_numbered (blocks_of p.prefix) e.level ≡ Some block
  pub owner : e.winner ≡ block.owner → ⊥
  pub links : AreLinks p earlier e
  pub denied : AllZip Deny formulas (linked_regions p earlier e)
  pub point : IsPointOf p e.level e.point
  pub no_terms : e.terms ≡ []
  pub complement : IsComplement earlier e
  pub outside : All (λ f. IsTrueAt e.point f.region → ⊥) (entries_named earlier complement.numbers)
  pub none : RegionLeavesNone p e block formulas

-- such an entry may come
abbrev pub ComplementMayCome : Type 0
ComplementMayCome =
    (p : Problem) (earlier : List Entry) (e : Entry) (block : Block) (formulas : List Tree) → IsProblem p → IsLinked p earlier →
    IsComplementBy p earlier e block formulas → IsEntry p earlier e

-- a region whose clauses, with those of the formulas behind them, have no model leaves none
abbrev pub NoModelLeavesNone : Type 0
NoModelLeavesNone =
    (p : Problem) (earlier : List Entry) (e : Entry) (block : Block) (formulas : List Tree) → IsProblem p → IsLinked p earlier →
    block_numbered (blocks_of p.prefix) e.level ≡ Some block → AreLinks p earlier e → AllZip Deny formulas (linked_regions p earlier e) →
    IsComplement earlier e → ((v : ℕ → Bool) → clauses_value v (cnf (e.region ∷ formulas)) ≡ true → ⊥) →
    RegionLeavesNone p e block formulas

-- a literal says that a bit of a place is as it is at the point, and one of the runs has this bit
pub record IsAssumed (formulas : List Tree) (point : List ℕ) (runs : List Run) (l : Lit) : Type 0 where
  pub run : Run
  pub among : Contains runs run
  pub word : Tree
  pub variable : (s : Sort) × (word ≡ Variable run.place s)
  pub bits : List Lit
  pub bits_are : bits_of (blasted formulas) word ≡ Some bits
  pub index : ℕ
  pub low : run.low ≤ index
  pub high : index ≤ run.high
  pub bit : Lit
  pub bit_is : slice_get bits index ≡ Some bit
  pub as_at_point : l ≡ (if bit_at (slice_index point run.place) index == 1 then bit else neg bit)

-- assumptions that fail with the clauses of the formulas, each about a bit of the runs: these leave
-- none
abbrev pub FailedLeaveNone : Type 0
FailedLeaveNone =
    (p : Problem) (earlier : List Entry) (e : Entry) (block : Block) (runs : List Run) (formulas : List Tree) (core : List Lit) → IsProblem p → IsLinked p earlier →
    block_numbered (blocks_of p.prefix) e.level ≡ Some block → AreLinks p earlier e → AllZip Deny formulas (linked_regions p earlier e) →
    All (IsRun p e (linked_regions p earlier e)) runs → All (IsAssumed formulas e.point runs) core →
    ((v : ℕ → Bool) → clauses_value v (cnf formulas) ≡ true → list_all (lit_value v) core ≡ true → ⊥) →
    LeaveNone p e block runs formulas
