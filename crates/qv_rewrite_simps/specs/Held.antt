-- What the code has of applications and of a walk's terms. No public contract cites this.
use Rattle.std.specs.Prelude.{◌≡◌, ℕ, ◌<◌, Option, Some, option_map, IfSome, List, [], ◌∷◌, length, slice_get}
use Rattle.qv_words.specs.declared.op.Op.{Op}
use Rattle.qv_words.specs.declared.op.Op.TheVariants.{Not, Ite, BvNot}
use Rattle.qv_words.specs.declared.word.Word.{Word}
use Rattle.qv_words.specs.Word.{word_sort, word_value}
use Rattle.qv_words.specs.Tree.{Tree, Trees, Literal, Apply, Nil, Cons, IsQuantifierFree}
use Rattle.qv_rewrite_passes.specs.Xors.{sort_in}
use Rattle.qv_rewrite_passes.specs.Simps.{made, simped}
use Rattle.qv_store.specs.Nodes.{tree_at, trees_at}
use Rattle.qv_store.specs.Stores.{StandsAt}
use Rattle.qv_store.specs.Walks.{IsWalk}
use Rattle.qv_rewrite_simps.specs.declared.args.Args.{Args}
use Rattle.qv_rewrite_simps.specs.declared.args.Args.TheVariants.{One, Two, Three}
use Rattle.qv_rewrite_simps.specs.declared.args.Picked.{Picked}

-- the numbers of arguments, and their trees
abbrev pub numbers_of : Args → List ℕ
numbers_of (One a) = a ∷ []
numbers_of (Two a b) = a ∷ b ∷ []
numbers_of (Three a b c) = a ∷ b ∷ c ∷ []

abbrev pub trees_of_args : List Tree → Args → Trees
trees_of_args trees args = trees_at trees (numbers_of args)

abbrev pub AreArgsBelow : ℕ → Args → Type 0
AreArgsBelow n (One a) = a < n
AreArgsBelow n (Two a b) = (a < n) × (b < n)
AreArgsBelow n (Three a b c) = (a < n) × (b < n) × (c < n)

-- the operators that turn all bits
abbrev pub IsNegation : Op → Type 0
IsNegation Not = Unit {0}
IsNegation BvNot = Unit {0}
IsNegation _ = ⊥

-- a word's literal
abbrev pub literal_of : Word → Tree
literal_of w = Literal (word_sort w) (word_value w)

abbrev pub Choice : (c a b : Tree) → Tree
Choice c a b = Apply Ite (Cons c (Cons a (Cons b Nil)))

-- what a table makes of an argument
abbrev pub picked_tree : List Tree → Picked → Tree
picked_tree trees p = made (sort_in (tree_at trees p.id)) (tree_at trees p.id) p.outcome

-- it is this, if anything
pub record Picks (trees : List Tree) (picked : Option Picked) (right : Option Tree) : Type 0 where
  pub tree : option_map (picked_tree trees) picked ≡ right
  pub below : IfSome picked (λ p. p.id < length trees)

-- no quantifier stands in any term of a walk
abbrev pub AreFree : List Tree → List ℕ → Type 0
AreFree trees ids = (k n : ℕ) → slice_get ids k ≡ Some n → IsQuantifierFree (tree_at trees n)

-- what was made of the first terms of a walk, in their order
abbrev pub AreSimped : List Tree → (ℕ → Tree) → List ℕ → List ℕ → Type 0
AreSimped trees tree ids made = (k n m : ℕ) → slice_get ids k ≡ Some n → slice_get made k ≡ Some m → StandsAt trees m (simped (tree n))

-- the next term of a walk, behind those of which something was made
pub record IsNext (trees : List Tree) (ids made : List ℕ) (n : ℕ) : Type 0 where
  pub walk : IsWalk trees ids
  pub at : slice_get ids (length made) ≡ Some n
  pub found : AreSimped trees (tree_at trees) ids made
