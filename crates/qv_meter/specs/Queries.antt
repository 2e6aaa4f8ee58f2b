-- What the SAT core is asked at a level: the negations of a player's regions there.
use Rattle.std.specs.Prelude.{◌≡◌, ◌≢◌, ◌⊎◌, ℕ, suc, ◌+◌, ◌≤◌, ◌==◌, ◌&&◌, not, if◌then◌else◌, IsSomeAnd, List, [], ◌∷◌, map, length, slice_get}
use Rattle.qv_words.specs.Tree.{Tree}
use Rattle.qv_words.specs.Prenex.{negation}
use Rattle.qv_words.specs.Problem.{Problem, Quantifier, Existential, Universal}
use Rattle.qv_words.specs.Choice.{IsTrueAt}
use Rattle.qv_words.specs.Linked.{Entry, blocks_of, entries_of, is_of}
use Rattle.qv_rewrite_passes.specs.Passes.{IsBehind}

-- how many blocks a problem has
abbrev pub block_count : Problem → ℕ
block_count p = length (blocks_of p.prefix)

-- a level with queries: from 2 to one more than the number of blocks; without blocks there is none
pub record IsQueryLevel (p : Problem) (level : ℕ) : Type 0 where
  pub low : 2 ≤ level
  pub high : level ≤ block_count p + 1

-- behind the last block: the matrix against the universal player, its negation against the
-- existential one
abbrev pub last_query : Problem → Quantifier → Tree
last_query p Existential = negation p.matrix
last_query p Universal = p.matrix

-- the formulas that are true outside all regions of this winner and level
abbrev pub query_list : Problem → List Entry → Quantifier → ℕ → List Tree
query_list p entries winner level =
    if level == block_count p + 1 then last_query p winner ∷ [] else map (λ e. negation e.region) (entries_of level winner entries)

-- a later region of these holds wherever this one does
abbrev pub IsCovered : Entry → List Entry → Type 0
IsCovered e later = (k : ℕ) × IsSomeAnd (slice_get later k) (λ f. (point : List ℕ) → IsTrueAt point e.region → IsTrueAt point f.region)

-- the negations of regions in order, of which those that a later one covers may be left out
abbrev pub AreDenied : List Entry → List Tree → Type 0
AreDenied [] formulas = formulas ≡ []
AreDenied (e ∷ es) formulas =
    ((rest : List Tree) × (formulas ≡ negation e.region ∷ rest) × AreDenied es rest)
    ⊎ (IsCovered e es × AreDenied es formulas)

-- what may be asked: behind the last block the query list behind some passes, and at another level
-- the query list, whole or without covered regions
abbrev pub AreAsked : Problem → List Entry → Quantifier → ℕ → List Tree → Type 0
AreAsked p entries winner level formulas =
    ((level ≡ block_count p + 1) × IsBehind (query_list p entries winner level) formulas)
    ⊎ ((level ≢ block_count p + 1) × AreDenied (entries_of level winner entries) formulas)

-- what a lane has in a query list's place: behind the last block the list behind some passes, and
-- at another level the list itself
abbrev pub StandsForQuery : Problem → List Entry → Quantifier → ℕ → List Tree → Type 0
StandsForQuery p entries winner level formulas =
    ((level ≡ block_count p + 1) × IsBehind (query_list p entries winner level) formulas)
    ⊎ ((level ≢ block_count p + 1) × (formulas ≡ query_list p entries winner level))

-- what one more entry puts behind a query list
abbrev pub query_for : Problem → Entry → Quantifier → ℕ → List Tree
query_for p e winner level =
    if not (level == block_count p + 1) && is_of level winner e then negation e.region ∷ [] else []

-- the numbers of a winner's entries at a level, where the first entry has this number
abbrev pub numbers_from : ℕ → ℕ → Quantifier → List Entry → List ℕ
numbers_from n level winner [] = []
numbers_from n level winner (e ∷ es) = if is_of level winner e then n ∷ numbers_from (suc n) level winner es else numbers_from (suc n) level winner es

-- what an entry at this level is linked to where the other player owns its block: all of its
-- winner's entries at the next level
abbrev pub all_links : Problem → List Entry → Quantifier → ℕ → List ℕ
all_links p entries winner level = if level == block_count p then [] else numbers_from 0 (level + 1) winner entries
