-- What each entry of a linked list says: the steps of the game.
use Rattle.std.specs.Prelude.{◌≡◌, ℕ, Some, IsSomeAnd, List, [], ◌∷◌, ◌++◌, All, slice_get, take}
use Rattle.std.specs.List.{AllZip}
use Rattle.qv_words.specs.Tree.{Tree}
use Rattle.qv_words.specs.Sorted.{free_levels}
use Rattle.qv_words.specs.Meaning.{Means}
use Rattle.qv_words.specs.Problem.{Problem}
use Rattle.qv_words.specs.Choice.{IsTrueAt}
use Rattle.qv_words.specs.Skolem.{IsTermOf}
use Rattle.qv_words.specs.Linked.{Block, Entry, IsEntry, IsLinked, IsPlaceBelow, AreValues, blocks_of, block_numbered, linked_regions, places_below}
use Rattle.qv_words.specs.GameLaws.{IsProblem, IsPointOf}

-- an entry of a linked list may come behind those before it
abbrev pub EachEntry : Type 0
EachEntry = (p : Problem) (entries : List Entry) (n : ℕ) (e : Entry) → IsLinked p entries → slice_get entries n ≡ Some e → IsEntry p (take n entries) e

-- an entry of a linked list, and the block of its level
pub record IsEntryAt (p : Problem) (entries : List Entry) (n : ℕ) (e : Entry) (block : Block) : Type 0 where
  pub problem : IsProblem p
  pub linked : IsLinked p entries
  pub here : slice_get entries n ≡ Some e
  pub at_level : block_numbered (blocks_of p.prefix) e.level ≡ Some block

-- the terms of a block's owner are terms of its sorts over the places before it
abbrev pub OwnedTerms : Type 0
OwnedTerms =
    (p : Problem) (entries : List Entry) (n : ℕ) (e : Entry) (block : Block) → IsEntryAt p entries n e block → e.winner ≡ block.owner →
    AllZip (λ t s. IsTermOf t s × All (IsPlaceBelow p (places_below (blocks_of p.prefix) e.level)) (free_levels t)) e.terms block.sorts

-- where the owner's region is true at a point, the later region is so at the point made longer by
-- the meanings of the terms
abbrev pub OwnedStep : Type 0
OwnedStep =
    (p : Problem) (entries : List Entry) (n : ℕ) (e : Entry) (block : Block) (later : Tree) (point values : List ℕ) →
    IsEntryAt p entries n e block → e.winner ≡ block.owner → linked_regions p (take n entries) e ≡ later ∷ [] → IsPointOf p e.level point →
    IsTrueAt point e.region → AllZip (λ v t. Means [] (slice_get point) t v) values e.terms → IsTrueAt (point ++ values) later

-- where the other player's region is true at a point, some linked region is so with any values of
-- the block
abbrev pub ForcedStep : Type 0
ForcedStep =
    (p : Problem) (entries : List Entry) (n : ℕ) (e : Entry) (block : Block) (point values : List ℕ) → IsEntryAt p entries n e block →
    (e.winner ≡ block.owner → ⊥) → IsPointOf p e.level point → AreValues values block.sorts → IsTrueAt point e.region →
    (k : ℕ) × IsSomeAnd (slice_get (linked_regions p (take n entries) e) k) (λ t. IsTrueAt (point ++ values) t)
