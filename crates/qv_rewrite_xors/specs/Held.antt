-- Chains as the code has them, and what they are to the definitions. No public contract cites this.
use Rattle.std.specs.Prelude.{◌≡◌, ℕ, ◌<◌, ◌==◌, nat_le, if◌then◌else◌, Option, Some, None, All, List, [], ◌∷◌, map, length, slice_get}
use Rattle.std.specs.List.{AllByRecursion}
use Rattle.qv_words.specs.declared.sort.Sort.{Sort}
use Rattle.qv_words.specs.declared.sort.Sort.TheVariants.{Bool as BoolSort, Bits}
use Rattle.qv_words.specs.declared.op.Op.{Op}
use Rattle.qv_words.specs.Sort.{IsValueOf, width_of}
use Rattle.qv_words.specs.Tree.{Tree, Apply, tree_sort}
use Rattle.qv_words.specs.Sorted.{IsSorted}
use Rattle.qv_rewrite_passes.specs.Xors.{Chain, united, chain}
use Rattle.qv_store.specs.Nodes.{tree_at, trees_at}
use Rattle.qv_store.specs.Walks.{IsWalk, IsEarlier}
use Rattle.qv_rewrite_xors.specs.declared.chained.Chained.{Chained}

-- the chain of terms by number
abbrev pub chain_at : List Tree → Chained → Chain
chain_at trees p = record { constant = p.constant; atoms = map (tree_at trees) p.atoms.items }

-- one number more in a list: it goes together with its like, or it comes last
abbrev pub toggled_ids : List ℕ → ℕ → List ℕ
toggled_ids [] n = n ∷ []
toggled_ids (m ∷ ms) n = if m == n then ms else m ∷ toggled_ids ms n

-- numbers of terms
abbrev pub AreBelow : ℕ → List ℕ → Type 0
AreBelow n ids = AllByRecursion (λ id. id < n) ids

-- a term of this sort
pub record IsOfSort (trees : List Tree) (s : Sort) (id : ℕ) : Type 0 where
  pub below : id < length trees
  pub sort : tree_sort (tree_at trees id) ≡ Some s

-- a tree of a chain of this sort: among truth values a bit may stand too
abbrev pub IsAtom : Sort → Tree → Type 0
IsAtom BoolSort t = (s : Sort) × (width_of s ≡ 1) × (tree_sort t ≡ Some s)
IsAtom (Bits w) t = tree_sort t ≡ Some (Bits w)

-- a chain of this sort
pub record IsChainFor (s : Sort) (p : Chain) : Type 0 where
  pub constant : IsValueOf p.constant s
  pub atoms : AllByRecursion (IsAtom s) p.atoms

-- terms that are the chain of a tree
pub record IsChainOf (trees : List Tree) (t : Tree) (p : Chained) : Type 0 where
  pub chain : chain_at trees p ≡ chain t
  pub below : AreBelow (length trees) p.atoms.items

-- the chains of the first terms of a walk, in their order
abbrev pub AreChains : List Tree → (ℕ → Tree) → List ℕ → List Chained → Type 0
AreChains trees tree ids chains = (k n : ℕ) (p : Chained) → slice_get ids k ≡ Some n → slice_get chains k ≡ Some p → IsChainOf trees (tree n) p

-- the chain of an application, where it is a short one
abbrev pub short_chain : Option ℕ → List Chain → Option Chain
short_chain None ps = None
short_chain (Some n) ps = if nat_le (length (united n ps).atoms) 64 then Some (united n ps) else None

-- a sorted application of an operator to terms whose chains were found
pub record IsApplication (trees : List Tree) (ids : List ℕ) (chains : List Chained) (o : Op) (kids : List ℕ) : Type 0 where
  pub walk : IsWalk trees ids
  pub found : AreChains trees (tree_at trees) ids chains
  pub kids_earlier : All (IsEarlier ids (length chains)) kids
  pub kids_below : All (λ kid. kid < length trees) kids
  pub sorted : IsSorted (Apply o (trees_at trees kids))

-- the next term of a walk, over the chains of those before
pub record IsNext (trees : List Tree) (ids : List ℕ) (chains : List Chained) (n : ℕ) : Type 0 where
  pub walk : IsWalk trees ids
  pub at : slice_get ids (length chains) ≡ Some n
  pub found : AreChains trees (tree_at trees) ids chains
