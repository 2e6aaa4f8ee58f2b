-- The constants of trees.
use Rattle.std.specs.Prelude.{◌≡◌, ◌<◌, ◌⊎◌, ℕ, List, [], ◌∷◌, ◌++◌, AllPairs}
use Rattle.qv_words.specs.declared.sort.Sort.{Sort}
use Rattle.qv_words.specs.Tree.{Tree, Constant, Variable, Literal, Apply, ForAll, Exists}
use Rattle.qv_words.specs.Problem.{with_constant}
use Rattle.qv_words.specs.Truth.{constants_of_each}
use Rattle.qv_prenex.specs.declared.constants.Constant.{Constant as Kept}

abbrev pub pair_of : Kept → ℕ × Sort
pair_of c = (c.index, c.sort)

-- each index is above those before
abbrev pub AreInOrder : List Kept → Type 0
AreInOrder ks = AllPairs (λ k m. k.index < m.index) ks

-- the constant that a tree is
abbrev pub own_constants : Tree → List (ℕ × Sort)
own_constants (Constant i s) = (i, s) ∷ []
own_constants (Variable l s) = []
own_constants (Literal s n) = []
own_constants (Apply o args) = []
own_constants (ForAll l s body) = []
own_constants (Exists l s body) = []

-- put among others
abbrev pub with_own : Tree → List (ℕ × Sort) → List (ℕ × Sort)
with_own (Constant i s) cs = with_constant (i, s) cs
with_own (Variable l s) cs = cs
with_own (Literal s n) cs = cs
with_own (Apply o args) cs = cs
with_own (ForAll l s body) cs = cs
with_own (Exists l s body) cs = cs

-- those that trees themselves are
unfoldable pub leaves : List Tree → List (ℕ × Sort)
leaves [] = []
leaves (t ∷ ts) = own_constants t ++ leaves ts

-- a constant is in a list
unfoldable pub Has : ℕ × Sort → List (ℕ × Sort) → Type 0
Has c [] = ⊥
Has c (d ∷ ds) = (c ≡ d) ⊎ Has c ds

-- the constants among trees are those of formulas
pub record HasSameConstants (trees formulas : List Tree) : Type 0 where
  pub from : (c : ℕ × Sort) → Has c (leaves trees) → Has c (constants_of_each formulas)
  pub all : (c : ℕ × Sort) → Has c (constants_of_each formulas) → Has c (leaves trees)
