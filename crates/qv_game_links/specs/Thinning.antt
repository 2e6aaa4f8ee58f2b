-- Links of an entry that are enough for its region.
use Rattle.std.specs.Prelude.{◌≡◌, ◌⊎◌, ℕ, ◌<◌, true, IsSomeAnd, Some, List, ◌++◌, length, drop, slice_get, All, Contains}
use Rattle.std.specs.List.{Any}
use Rattle.qv_words.specs.declared.sort.Sort.TheVariants.{Bool as BoolSort}
use Rattle.qv_words.specs.Tree.{Tree}
use Rattle.qv_words.specs.Skolem.{IsTermOf}
use Rattle.qv_words.specs.Choice.{IsTrueAt, is_in}
use Rattle.qv_store.specs.Nodes.{tree_at}
use Rattle.qv_entries.specs.Rows.{Row}
use Rattle.qv_game_links.specs.declared.saying.Statement.{Statement}
use Rattle.qv_game_links.specs.declared.thinning.Kept.{Kept}
use Rattle.qv_game_links.specs.Saying.{AreSaid, AreSo}

-- a formula of the store, without quantifiers and constants
pub record IsFormula (trees : List Tree) (id : ℕ) : Type 0 where
  pub below : id < length trees
  pub term : IsTermOf (tree_at trees id) BoolSort

-- the region of the entry of this number is one
abbrev pub IsFormulaAt : List Tree → List Row → ℕ → Type 0
IsFormulaAt trees rows n = IsSomeAnd (slice_get rows n) (λ r. IsFormula trees r.region)

-- this holds of the region of one of the links
abbrev pub IsLinkedTo : List Tree → List Row → List ℕ → (Tree → Type 0) → Type 0
IsLinkedTo trees rows links P = (n : ℕ) × Contains links n × (r : Row) × (slice_get rows n ≡ Some r) × P (tree_at trees r.region)

-- some of the links: wherever the region is true and one of a link is, one of these is too, and
-- each place of the region occurs in one of these
pub record AreEnough (trees : List Tree) (region : ℕ) (rows : List Row) (links fewer : List ℕ) : Type 0 where
  pub among : (n : ℕ) → Contains fewer n → Contains links n
  pub meet : (point : List ℕ) → IsTrueAt point (tree_at trees region) → IsLinkedTo trees rows links (IsTrueAt point) → IsLinkedTo trees rows fewer (IsTrueAt point)
  pub occur : (x : ℕ) → is_in x (tree_at trees region) ≡ true → IsLinkedTo trees rows fewer (λ t. is_in x t ≡ true)

abbrev pub AreThinned : List Tree → ℕ → List Row → List ℕ → List ℕ → Type 0
AreThinned trees region rows links fewer = (fewer ≡ links) ⊎ AreEnough trees region rows links fewer

-- two statements about one term: the same, or one that denies the other
abbrev pub IsSame : Statement → Statement → Type 0
IsSame s t = (t.id ≡ s.id) × (t.value ≡ s.value)

abbrev pub Denies : Statement → Statement → Type 0
Denies s t = (t.id ≡ s.id) × (t.value ≡ s.value → ⊥)

-- each of some statements is known or said
abbrev pub Follow : List Statement → List Statement → List Statement → Type 0
Follow known said more = All (λ s. Any (IsSame s) known ⊎ Any (IsSame s) said) more

-- a kept link: it has this number, and what its region says is kept beside it
pub record IsKept (trees : List Tree) (rows : List Row) (number : ℕ) (k : Kept) : Type 0 where
  pub number_is : k.number ≡ number
  pub row : Row
  pub at : slice_get rows number ≡ Some row
  pub said : AreSaid trees row.region k.said.items

-- wherever what is known is so and the region of an entry is true, all is so that a kept one says
abbrev pub IsMet : List Tree → List Statement → List Row → List Kept → ℕ → Type 0
IsMet trees known rows kept n =
    (r : Row) → slice_get rows n ≡ Some r → (point : List ℕ) → AreSo trees point known → IsTrueAt point (tree_at trees r.region) →
    (k : Kept) × Contains kept k × AreSo trees point k.said.items

-- a link is met by the kept ones, among which it may be the last
pub record IsConsidered (trees : List Tree) (known : List Statement) (rows : List Row) (number : ℕ) (old new : List Kept) : Type 0 where
  pub more : List Kept
  pub behind : new ≡ old ++ more
  pub each : (k : Kept) → Contains more k → IsKept trees rows number k
  pub met : IsMet trees known rows new number

-- of the links from this place on: the kept ones are some of these, and each of these is met
pub record AreKept (trees : List Tree) (known : List Statement) (rows : List Row) (links : List ℕ) (from : ℕ) (kept : List Kept) : Type 0 where
  pub each : (k : Kept) → Contains kept k → (n : ℕ) × Contains links n × IsKept trees rows n k
  pub met : (n : ℕ) → Contains (drop from links) n → IsMet trees known rows kept n
