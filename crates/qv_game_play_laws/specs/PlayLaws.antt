-- What a move of the level game makes of a list of entries that is played.
use Rattle.std.specs.Prelude.{◌≡◌, ◌≢◌, ℕ, ◌+◌, ◌≤◌, Bool, true, Some, List, [], ◌∷◌, ◌++◌, map, take, length, slice_get, All}
use Rattle.std.specs.List.{list_all}
use Rattle.qv_words.specs.declared.sort.Sort.{Sort}
use Rattle.qv_words.specs.declared.sort.Sort.TheVariants.{Bool as BoolSort}
use Rattle.qv_words.specs.Tree.{Tree}
use Rattle.qv_words.specs.Gate.{Lit, lit_value, clauses_value}
use Rattle.qv_words.specs.Clauses.{cnf}
use Rattle.qv_words.specs.Choice.{AreChosen, IsTrueAt}
use Rattle.qv_words.specs.Prenex.{negation}
use Rattle.qv_words.specs.Problem.{Problem, Quantifier, conjunction, other}
use Rattle.qv_words.specs.Skolem.{IsTermOf}
use Rattle.qv_words.specs.Linked.{Block, Entry, Run, AreValues, blocks_of, block_numbered, entries_of, equation_of, last_region, places_below, with_terms}
use Rattle.qv_words.specs.GameLaws.{IsProblem, IsPointOf}
use Rattle.qv_game_entry_laws.specs.BuildingLaws.{IsSimplified}
use Rattle.qv_game_entry_laws.specs.QueryLaws.{AreOver}
use Rattle.qv_game_entry_laws.specs.PointLaws.{AssumeAll}
use Rattle.qv_meter.specs.Played.{FollowsForced, IsPlayed, IsSettled, IsUndecided}
use Rattle.qv_meter.specs.Queries.{AreAsked, StandsForQuery, all_links, block_count}

-- the sorts of the places of the blocks before a level
abbrev pub sorts_below : Problem → ℕ → List Sort
sorts_below p level = map (λ place. place.sort) (take (places_below (blocks_of p.prefix) level) p.prefix)

-- what stands for a query list are formulas over the places of the blocks before its level
abbrev pub QueriesAreOverPlaces : Type 0
QueriesAreOverPlaces =
    (p : Problem) (entries : List Entry) (winner : Quantifier) (level : ℕ) (formulas : List Tree) → IsProblem p → IsPlayed p entries →
    StandsForQuery p entries winner level formulas → All (λ t. IsTermOf t BoolSort) formulas × AreOver (sorts_below p level) formulas

-- what an answer to such formulas says: behind the last block the other player has won, and at
-- another level the point lies in no region of this winner
abbrev pub AnswersLieOutside : Type 0
AnswersLieOutside =
    (p : Problem) (entries : List Entry) (winner : Quantifier) (level : ℕ) (point : List ℕ) (formulas : List Tree) → IsProblem p → IsPlayed p entries →
    IsPointOf p level point → StandsForQuery p entries winner level formulas → All (IsTrueAt point) formulas →
    (level ≡ block_count p + 1 → IsTrueAt point (last_region p (other winner)))
    × ((level ≡ block_count p + 1 → ⊥) → All (λ f. IsTrueAt point f.region → ⊥) (entries_of level winner entries))

-- so it is where regions that later ones cover were left out
abbrev pub LeftOutLieOutside : Type 0
LeftOutLieOutside =
    (p : Problem) (entries : List Entry) (winner : Quantifier) (level : ℕ) (point : List ℕ) (formulas : List Tree) → (level ≡ block_count p + 1 → ⊥) →
    AreAsked p entries winner level formulas → All (IsTrueAt point) formulas → All (λ f. IsTrueAt point f.region → ⊥) (entries_of level winner entries)

-- a list that is played and undecided, and a point of a level that lies in no region of this winner
-- there
pub record MayMove (p : Problem) (entries : List Entry) (level : ℕ) (winner : Quantifier) (point : List ℕ) : Type 0 where
  pub problem : IsProblem p
  pub played : IsPlayed p entries
  pub undecided : IsUndecided entries
  pub low : 1 ≤ level
  pub high : level ≤ block_count p
  pub point_of : IsPointOf p level point
  pub outside : All (λ f. IsTrueAt point f.region → ⊥) (entries_of level winner entries)

-- the entry of a player who doesn't own the block: these bits of the point leave its owner none
abbrev pub forced_entry : Problem → List Entry → ℕ → Quantifier → List ℕ → List Run → Entry
forced_entry p entries level winner point runs = record {
  level = level;
  winner = winner;
  region = conjunction (map (equation_of p point) runs);
  point = point;
  terms = [];
  links = all_links p entries winner level;
}

abbrev pub ForcedIsPlayed : Type 0
ForcedIsPlayed =
    (p : Problem) (entries : List Entry) (level : ℕ) (winner : Quantifier) (block : Block) (point : List ℕ) (runs : List Run) (core : List Lit) (formulas : List Tree) → MayMove p entries level winner point →
    IsSettled p entries → block_numbered (blocks_of p.prefix) level ≡ Some block → (winner ≡ block.owner → ⊥) →
    StandsForQuery p entries winner (level + 1) formulas → AssumeAll formulas (sorts_below p (level + 1)) point runs core →
    ((v : ℕ → Bool) → clauses_value v (cnf formulas) ≡ true → list_all (lit_value v) core ≡ true → ⊥) →
    IsPlayed p (entries ++ forced_entry p entries level winner point runs ∷ [])

-- what lies outside all regions of a player at a level
abbrev pub outside_all : List Entry → Quantifier → ℕ → Tree
outside_all entries winner level = conjunction (map (λ f. negation f.region) (entries_of level winner entries))

-- the entry of a player who doesn't own the block: outside all of the owner's regions this has none
abbrev pub complement_entry : Problem → List Entry → ℕ → Quantifier → List ℕ → Entry
complement_entry p entries level winner point = record {
  level = level;
  winner = winner;
  region = outside_all entries (other winner) level;
  point = point;
  terms = [];
  links = all_links p entries winner level;
}

-- it is played where the owner has regions at the level, the point lies in none of them, and the
-- clauses of lying outside them all have no model with those of what was asked behind them
abbrev pub ComplementIsPlayed : Type 0
ComplementIsPlayed =
    (p : Problem) (entries : List Entry) (level : ℕ) (winner : Quantifier) (block : Block) (point : List ℕ) (formulas : List Tree) → MayMove p entries level winner point →
    IsSettled p entries → entries_of level (other winner) entries ≢ [] → All (λ f. IsTrueAt point f.region → ⊥) (entries_of level (other winner) entries) →
    block_numbered (blocks_of p.prefix) level ≡ Some block → (winner ≡ block.owner → ⊥) →
    StandsForQuery p entries winner (level + 1) formulas → ((v : ℕ → Bool) → clauses_value v (cnf (outside_all entries (other winner) level ∷ formulas)) ≡ true → ⊥) →
    IsPlayed p (entries ++ complement_entry p entries level winner point ∷ [])

-- the later region that an owner's entry leads to: the last region, or that of its one link
pub record LeadsOn (p : Problem) (entries : List Entry) (level : ℕ) (winner : Quantifier) (links : List ℕ) (later : Tree) : Type 0 where
  pub last : level ≡ block_count p → (links ≡ []) × (later ≡ last_region p winner)
  pub linked : (level ≡ block_count p → ⊥) → (n : ℕ) × (f : Entry) × (links ≡ n ∷ []) × (slice_get entries n ≡ Some f) × (f.winner ≡ winner) × (f.level ≡ level + 1) × (later ≡ f.region)

-- the owner's entry, with the terms that are chosen for the block and the region that they make of
-- the later one
abbrev pub OwnedIsPlayed : Type 0
OwnedIsPlayed =
    (p : Problem) (entries : List Entry) (level : ℕ) (winner : Quantifier) (block : Block) (point values : List ℕ) (later region : Tree) (terms : List Tree) (links : List ℕ) →
    MayMove p entries level winner point → FollowsForced p entries links → block_numbered (blocks_of p.prefix) level ≡ Some block → winner ≡ block.owner →
    LeadsOn p entries level winner links later → AreValues values block.sorts → IsTrueAt (point ++ values) later →
    AreChosen (places_below (blocks_of p.prefix) level) (places_below (blocks_of p.prefix) level + length block.sorts) (point ++ values) later (places_below (blocks_of p.prefix) level) block.sorts terms →
    IsSimplified region (with_terms (places_below (blocks_of p.prefix) level) terms later) →
    IsPlayed p (entries ++ record { level = level; winner = winner; region = region; point = point; terms = terms; links = links } ∷ [])
