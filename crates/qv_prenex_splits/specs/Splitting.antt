-- The search for the first choice between bit-vectors whose condition is quantified.
use Rattle.std.specs.Prelude.{◌≡◌, ℕ, ◌<◌, ◌&&◌, true, false, not, Option, Some, None, List, length, nat_eq, if◌then◌else◌}
use Rattle.std.specs.List.{Contains}
use Rattle.std.specs.HashSet.{contains, HashSet}
use Rattle.std.specs.declared.hash.FoldHasher.{FoldHasher}
use Rattle.std.specs.declared.hash.BuildHasherDefault.{BuildHasherDefault}
use Rattle.qv_words.specs.Tree.{Tree, tree_sort}
use Rattle.qv_words.specs.Prenex.{Choice as PlainChoice, is_bool, is_quantified, ite, first_choice, first_choice_of}
use Rattle.qv_store.specs.Nodes.{tree_at, trees_at}
use Rattle.qv_store.specs.Stores.{StandsAt}
use Rattle.qv_prenex_splits.specs.declared.splitting.BitIte.{BitIte}
use Rattle.qv_prenex_splits.specs.declared.splitting.Seen.{Seen}
use Rattle.qv_prenex_splits.specs.declared.splitting.Seen.TheVariants.{First, Nothing}
use Rattle.qv_prenex_splits.specs.declared.splitting.Seen.TheVariants.{Ite as IteSeen}

-- the choice over trees
abbrev pub ite_in : List Tree → BitIte → PlainChoice
ite_in trees c = record { condition = tree_at trees c.condition; yes = tree_at trees c.yes; no = tree_at trees c.no }

-- it is a term of the store
pub record IsIteIn (trees : List Tree) (c : BitIte) : Type 0 where
  pub whole : StandsAt trees c.whole (ite (tree_at trees c.condition) (tree_at trees c.yes) (tree_at trees c.no))
  pub condition : c.condition < length trees
  pub quantified : is_quantified (tree_at trees c.condition) ≡ true
  pub yes : c.yes < length trees
  pub no : c.no < length trees

-- a choice of three trees, where it is one that is split
abbrev pub bit_ite : Tree → Tree → Tree → Option PlainChoice
bit_ite c a b = if is_quantified c && not (is_bool (tree_sort a)) then Some (record { condition = c; yes = a; no = b }) else None

-- terms without such choices
abbrev pub BareSet : Type 0
BareSet = HashSet ℕ (BuildHasherDefault FoldHasher)

abbrev pub AreBare : List Tree → BareSet → Type 0
AreBare trees bare = (k : ℕ) → contains nat_eq bare k ≡ true → first_choice (tree_at trees k) ≡ None

-- what is found in the one is found in the other
abbrev pub Leads : List Tree → ℕ → ℕ → Type 0
Leads trees root id = (c : PlainChoice) → first_choice (tree_at trees id) ≡ Some c → first_choice (tree_at trees root) ≡ Some c

-- the first of some terms that may have a choice in it
pub record IsFirstKid (trees : List Tree) (bare : BareSet) (kids : List ℕ) (kid : ℕ) : Type 0 where
  pub among : Contains kids kid
  pub missing : contains nat_eq bare kid ≡ false
  pub leads : (c : PlainChoice) → first_choice (tree_at trees kid) ≡ Some c → first_choice_of (trees_at trees kids) ≡ Some c

-- what is seen of some terms
abbrev pub LooksAmong : List Tree → BareSet → List ℕ → Seen → Type 0
LooksAmong trees bare kids (IteSeen c) = ⊥
LooksAmong trees bare kids (First kid) = IsFirstKid trees bare kids kid
LooksAmong trees bare kids Nothing = first_choice_of (trees_at trees kids) ≡ None

-- a term below another, of which nothing is known
pub record IsFirstBelow (trees : List Tree) (bare : BareSet) (id kid : ℕ) : Type 0 where
  pub below : kid < id
  pub missing : contains nat_eq bare kid ≡ false
  pub leads : Leads trees id kid

-- what is seen of a term
abbrev pub LooksAt : List Tree → BareSet → ℕ → Seen → Type 0
LooksAt trees bare id (IteSeen c) = IsIteIn trees c × (first_choice (tree_at trees id) ≡ Some (ite_in trees c))
LooksAt trees bare id (First kid) = IsFirstBelow trees bare id kid
LooksAt trees bare id Nothing = first_choice (tree_at trees id) ≡ None
