-- Places for constants and for variables that are bound outside.
use Rattle.std.specs.Prelude.{◌≡◌, ℕ, ◌<◌, Option, Some, None, option_map, unwrap_or, position, nat_eq, List, length}
use Rattle.std.specs.HashMap.{get, HashMap}
use Rattle.std.specs.declared.hash.FoldHasher.{FoldHasher}
use Rattle.std.specs.declared.hash.BuildHasherDefault.{BuildHasherDefault}
use Rattle.qv_words.specs.Tree.{Tree, Constant, Variable}
use Rattle.qv_words.specs.declared.sort.Sort.{Sort}
use Rattle.qv_store.specs.Nodes.{tree_at}
use Rattle.qv_prenex_splits.specs.declared.naming.Names.{Names}
use Rattle.qv_prenex_splits.specs.declared.naming.Leaf.{Leaf}
use Rattle.qv_prenex_splits.specs.declared.naming.Leaf.TheVariants.{Other}
use Rattle.qv_prenex_splits.specs.declared.naming.Leaf.TheVariants.{Constant as ConstantLeaf, Variable as VariableLeaf}

-- terms by number
abbrev pub TermMap : Type 0
TermMap = HashMap ℕ ℕ (BuildHasherDefault FoldHasher)

-- the place of a constant, where these are the indices in the order of their places
abbrev pub place_of : List ℕ → ℕ → ℕ
place_of indices i = unwrap_or (position (nat_eq i) indices) (length indices)

-- what stands for the variables that are bound outside
abbrev pub outer_of : List Tree → TermMap → ℕ → Option Tree
outer_of trees outer l = option_map (tree_at trees) (get nat_eq outer l)

abbrev pub AreTermsOf : List Tree → TermMap → Type 0
AreTermsOf trees outer = (l n : ℕ) → get nat_eq outer l ≡ Some n → n < length trees

-- what is put for a leaf
abbrev pub leaf_top : (ℕ → ℕ) → (ℕ → Option Tree) → Tree → Option Tree
leaf_top place outer (Constant i s) = Some (Variable (place i) s)
leaf_top place outer (Variable l s) = outer l
leaf_top place outer t = None

-- what these names put
abbrev pub renaming : List Tree → Names → Tree → Option Tree
renaming trees names = leaf_top (place_of names.constants.keys) (outer_of trees names.outer)

-- what a tree is, as a leaf
pub record IsVariable (t : Tree) (l : ℕ) : Type 0 where
  pub s : Sort
  pub is : t ≡ Variable l s

abbrev pub IsNoLeaf : Tree → Type 0
IsNoLeaf (Constant i s) = ⊥
IsNoLeaf (Variable l s) = ⊥
IsNoLeaf t = Unit {0}

abbrev pub IsLeafOf : Tree → Leaf → Type 0
IsLeafOf t (ConstantLeaf i s) = t ≡ Constant i s
IsLeafOf t (VariableLeaf l) = IsVariable t l
IsLeafOf t Other = IsNoLeaf t
