-- Applications to terms of a store, and what rules make of them, as trees. No public contract cites
-- this.
use Rattle.std.specs.Prelude.{◌≡◌, ℕ, ◌<◌, Option, Some, None, option_map, IfSome, List, [], ◌∷◌, length}
use Rattle.qv_words.specs.declared.op.Op.{Op}
use Rattle.qv_words.specs.declared.op.Op.TheVariants.{Not, BvNot, BvNeg}
use Rattle.qv_words.specs.declared.word.Word.{Word}
use Rattle.qv_words.specs.Word.{word_sort, word_value}
use Rattle.qv_words.specs.Tree.{Tree, Trees, Literal}
use Rattle.qv_store.specs.Nodes.{tree_at, trees_at}
use Rattle.qv_rewrite.specs.declared.args.Args.{Args}
use Rattle.qv_rewrite.specs.declared.args.Args.TheVariants.{One, Two, Three}
use Rattle.qv_rewrite.specs.declared.args.Made.{Made}
use Rattle.qv_rewrite.specs.declared.args.Made.TheVariants.{Term, Value}

-- the numbers of arguments, and their trees
abbrev pub numbers_of : Args → List ℕ
numbers_of (One a) = a ∷ []
numbers_of (Two a b) = a ∷ b ∷ []
numbers_of (Three a b c) = a ∷ b ∷ c ∷ []

abbrev pub trees_of_args : List Tree → Args → Trees
trees_of_args trees args = trees_at trees (numbers_of args)

abbrev pub AreArgsBelow : ℕ → Args → Type 0
AreArgsBelow n (One a) = a < n
AreArgsBelow n (Two a b) = (a < n) × (b < n)
AreArgsBelow n (Three a b c) = (a < n) × (b < n) × (c < n)

-- a word's literal
abbrev pub literal_of : Word → Tree
literal_of w = Literal (word_sort w) (word_value w)

-- a tree where it is a literal
abbrev pub as_literal : Tree → Option Tree
as_literal (Literal s n) = Some (Literal s n)
as_literal _ = None

-- the operators of which two behind one another are nothing
abbrev pub IsNegation : Op → Type 0
IsNegation Not = Unit {0}
IsNegation BvNot = Unit {0}
IsNegation BvNeg = Unit {0}
IsNegation _ = ⊥

-- a term of a store, or a literal
abbrev pub made_tree : List Tree → Made → Tree
made_tree trees (Term id) = tree_at trees id
made_tree trees (Value w) = literal_of w

abbrev pub IsMadeBelow : ℕ → Made → Type 0
IsMadeBelow n (Term id) = id < n
IsMadeBelow n (Value w) = Unit {0}

-- what was made is this, if anything
pub record Makes (trees : List Tree) (made : Option Made) (right : Option Tree) : Type 0 where
  pub tree : option_map (made_tree trees) made ≡ right
  pub below : IfSome made (IsMadeBelow (length trees))
