-- What pins units down.
use Rattle.std.specs.Prelude.{◌≡◌, ◌⊎◌, ℕ, ◌+◌, ◌≤◌, Some, IsSomeAnd, List, [], ◌∷◌, ◌++◌, length, slice_get, take}
use Rattle.std.specs.List.{AllZip}
use Rattle.qv_words.specs.Prenex.{negation}
use Rattle.qv_words.specs.Problem.{Problem, Quantifier}
use Rattle.qv_words.specs.Linked.{AreLinks, Entry, IsEntry, IsLinked, block_numbered, blocks_of, linked_regions}
use Rattle.qv_meter.specs.Played.{IsFresh, IsPlayed, WasForced}
use Rattle.qv_meter.specs.Queries.{IsQueryLevel, all_links, block_count, query_for, query_list}

-- a list with one more entry is linked and fresh exactly where the list is, and the entry may come
-- behind it and is fresh there
abbrev pub PlayedByOneMore : Type 0
PlayedByOneMore =
    (p : Problem) (entries : List Entry) (e : Entry) →
    (IsPlayed p (entries ++ e ∷ []) → IsPlayed p entries × IsEntry p entries e × IsFresh p entries e)
    × (IsPlayed p entries × IsEntry p entries e × IsFresh p entries e → IsPlayed p (entries ++ e ∷ []))

-- each entry of a list is fresh behind those before it
abbrev pub IsFreshList : Problem → List Entry → Type 0
IsFreshList p entries = (n : ℕ) (e : Entry) → slice_get entries n ≡ Some e → IsFresh p (take n entries) e

-- the recursion says that the list is linked, and that each of its entries is fresh
abbrev pub PlayedIsLinkedAndFresh : Type 0
PlayedIsLinkedAndFresh =
    (p : Problem) (entries : List Entry) →
    (IsPlayed p entries → IsLinked p entries × IsFreshList p entries) × (IsLinked p entries × IsFreshList p entries → IsPlayed p entries)

-- what comes behind a forced entry: at the level above, which its winner owns, this player's entry
-- that is linked to it alone
pub record IsFollowedBy (p : Problem) (n : ℕ) (f e : Entry) : Type 0 where
  pub links : e.links ≡ n ∷ []
  pub winner : e.winner ≡ f.winner
  pub level : e.level + 1 ≡ f.level
  pub owned : IsSomeAnd (block_numbered (blocks_of p.prefix) e.level) (λ b. b.owner ≡ e.winner)

abbrev pub ForcedIsFollowed : Type 0
ForcedIsFollowed =
    (p : Problem) (entries : List Entry) (f e : Entry) →
    IsPlayed p (entries ++ f ∷ e ∷ []) → WasForced p f → IsFollowedBy p (length entries) f e

-- one more entry puts its negation behind a query list, or nothing
abbrev pub QueriesGrow : Type 0
QueriesGrow =
    (p : Problem) (entries : List Entry) (e : Entry) (winner : Quantifier) (level : ℕ) →
    query_list p (entries ++ e ∷ []) winner level ≡ query_list p entries winner level ++ query_for p e winner level

-- without places there are no queries
abbrev pub NoQueriesWithoutPlaces : Type 0
NoQueriesWithoutPlaces = (p : Problem) (level : ℕ) → p.prefix ≡ [] → IsQueryLevel p level → ⊥

-- where an entry is linked to all entries of its winner at the next level, these links are lawful,
-- and each formula that its block's owner was asked is the negation of a linked region, or the
-- other way round
abbrev pub AllLinksDeny : Type 0
AllLinksDeny =
    (p : Problem) (entries : List Entry) (e : Entry) → 1 ≤ e.level → e.level ≤ block_count p → e.links ≡ all_links p entries e.winner e.level →
    AreLinks p entries e
    × AllZip (λ f g. (f ≡ negation g) ⊎ (g ≡ negation f)) (query_list p entries e.winner (e.level + 1)) (linked_regions p entries e)
