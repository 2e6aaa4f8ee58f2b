-- The chains of a block's places, while they are made from the last entry to the first.
use Rattle.std.specs.Prelude.{◌≡◌, ℕ, ◌<◌, Bool, true, Option, Some, None, if◌then◌else◌, List, length, slice_get, slice_index}
use Rattle.std.specs.List.{AllZip}
use Rattle.qv_words.specs.declared.sort.Sort.{Sort}
use Rattle.qv_words.specs.declared.sort.Sort.TheVariants.{Bool as BoolSort}
use Rattle.qv_words.specs.Tree.{Tree, tree_sort}
use Rattle.qv_words.specs.Replacement.{replaced}
use Rattle.qv_words.specs.Prenex.{ite}
use Rattle.qv_words.specs.Linked.{Entry, chain_of, term_at}
use Rattle.qv_store.specs.Nodes.{tree_at}
use Rattle.qv_store.specs.Stores.{StandsAt}
use Rattle.qv_store.specs.Replacing.{IsReplaceable}

-- a term before others, chosen by a region, or alone
abbrev pub headed : Option Tree → Tree → Tree → Tree
headed None t rest = t
headed (Some region) t rest = ite region t rest

-- the chain of each of the first places of a block, with terms put in
pub record AreChains (trees : List Tree) (put : ℕ → Option Tree) (entries : List Entry) (count : ℕ) (chains : List ℕ) : Type 0 where
  pub many : length chains ≡ count
  pub each : (i id : ℕ) → slice_get chains i ≡ Some id → StandsAt trees id (replaced put (chain_of i entries))

-- an entry with terms of these sorts, into which terms may be put
pub record IsPuttable (put : ℕ → Option Tree) (sorts : List Sort) (e : Entry) : Type 0 where
  pub region : IsReplaceable put e.region
  pub bool : tree_sort e.region ≡ Some BoolSort
  pub terms : AllZip (λ t s. IsReplaceable put t × (tree_sort t ≡ Some s)) e.terms sorts

-- an entry that may come in front of chains, which are of its terms' sorts if others are behind it
pub record MayLead (trees : List Tree) (put : ℕ → Option Tree) (behind : Bool) (e : Entry) (chains : List ℕ) : Type 0 where
  pub sorts : List Sort
  pub entry : IsPuttable put sorts e
  pub many : length chains ≡ length sorts
  pub below : (i id : ℕ) → slice_get chains i ≡ Some id → id < length trees
  pub alike : behind ≡ true → (i id : ℕ) (s : Sort) → slice_get chains i ≡ Some id → slice_get sorts i ≡ Some s → tree_sort (tree_at trees id) ≡ Some s

-- what an entry's region with terms put in chooses by, if others are behind it
abbrev pub led_by : (ℕ → Option Tree) → Bool → Entry → Option Tree
led_by put behind e = if behind then Some (replaced put e.region) else None

-- chains with one entry more in front
pub record AreLed (old new : List Tree) (put : ℕ → Option Tree) (behind : Bool) (e : Entry) (before after : List ℕ) : Type 0 where
  pub many : length after ≡ length before
  pub each : (i id : ℕ) → slice_get after i ≡ Some id → StandsAt new id (headed (led_by put behind e) (replaced put (term_at i e)) (tree_at old (slice_index before i)))
