-- The steps by which a change is made in the terms of a store.
use Rattle.std.specs.Prelude.{◌≡◌, ℕ, ◌<◌, nat_lt, Bool, false, Option, Some, None, List, [], ◌∷◌, length, if◌then◌else◌}
use Rattle.std.specs.List.{Contains}
use Rattle.qv_words.specs.declared.op.Op.{Op}
use Rattle.qv_words.specs.Equality.{tree_eq}
use Rattle.qv_words.specs.Tree.{Tree, Apply}
use Rattle.qv_words.specs.Sorted.{IsSorted}
use Rattle.qv_words.specs.Prenex.{is_quantified}
use Rattle.qv_store.specs.Nodes.{tree_at, trees_at}
use Rattle.qv_store.specs.Stores.{StandsAt}
use Rattle.qv_prenex_splits.specs.declared.memo.Memo.{Memo}
use Rattle.qv_prenex_splits.specs.Memos.{made_in, AreKept}
use Rattle.qv_prenex_splits.specs.declared.rebuilding.Change.{Change}
use Rattle.qv_prenex_splits.specs.declared.rebuilding.Change.TheVariants.{Term}
use Rattle.qv_prenex_splits.specs.declared.rebuilding.Change.TheVariants.{Names as ByNames}
use Rattle.qv_prenex_splits.specs.declared.naming.Names.{Names}
use Rattle.qv_prenex_splits.specs.declared.rebuilding.Found.{Found}
use Rattle.qv_prenex_splits.specs.declared.rebuilding.Found.TheVariants.{Leaf, Missing, Ready}
use Rattle.qv_prenex_splits.specs.declared.rebuilding.Step.{Step}
use Rattle.qv_prenex_splits.specs.declared.rebuilding.Step.TheVariants.{Made, First}
use Rattle.qv_prenex_splits.specs.declared.rebuilding.Renewed.{Renewed}
use Rattle.qv_prenex_splits.specs.declared.rebuilding.Renewed.TheVariants.{All}
use Rattle.qv_prenex_splits.specs.declared.rebuilding.Renewed.TheVariants.{Missing as MissingKid}
use Rattle.qv_prenex_splits.specs.Rebuilt.{rebuilt}
use Rattle.qv_prenex_splits.specs.Naming.{renaming, AreTermsOf}

-- a tree is put for the target; one without quantifiers stays
abbrev pub term_top : Tree → Tree → Tree → Option Tree
term_top target put t = if tree_eq t target then Some put else (if is_quantified t then None else Some t)

-- what a change puts
abbrev pub top_in : List Tree → Change → Names → Tree → Option Tree
top_in trees (Term target put) names = term_top (tree_at trees target) (tree_at trees put)
top_in trees ByNames names = renaming trees names

-- whether a term came before the target
abbrev pub stays : Change → ℕ → Bool
stays (Term target put) id = nat_lt id target
stays ByNames id = false

-- its terms are terms of the store
abbrev pub IsChangeIn : List Tree → Change → Names → Type 0
IsChangeIn trees (Term target put) names = (target < length trees) × (put < length trees)
IsChangeIn trees ByNames names = AreTermsOf trees names.outer

-- what was made of terms
pub record AreRebuilt (top : Tree → Option Tree) (trees : List Tree) (made : Memo) : Type 0 where
  pub below : (k m : ℕ) → made_in made k ≡ Some m → k < length trees
  pub stands : (k m : ℕ) → made_in made k ≡ Some m → StandsAt trees m (rebuilt top (tree_at trees k))
  pub kept : AreKept trees made

-- these were made of those
abbrev pub AreMadeOf : Memo → List ℕ → List ℕ → Type 0
AreMadeOf made [] [] = Unit {0}
AreMadeOf made (k ∷ ks) (m ∷ ms) = (made_in made k ≡ Some m) × AreMadeOf made ks ms
AreMadeOf made _ _ = ⊥

-- one of some terms, of which nothing was made
pub record IsMissing (made : Memo) (kids : List ℕ) (kid : ℕ) : Type 0 where
  pub among : Contains kids kid
  pub missing : made_in made kid ≡ None

abbrev pub AreRenewed : Memo → List ℕ → Renewed → Type 0
AreRenewed made kids (MissingKid kid) = IsMissing made kids kid
AreRenewed made kids (All new) = AreMadeOf made kids new.items

-- an application all of whose arguments were made
pub record IsReady (made : Memo) (o : Op) (kids : List ℕ) (op : Op) (new : List ℕ) : Type 0 where
  pub op_is : op ≡ o
  pub made_of : AreMadeOf made kids new

abbrev pub IsFoundOver : Memo → Op → List ℕ → Found → Type 0
IsFoundOver made o kids Leaf = ⊥
IsFoundOver made o kids (Missing kid) = IsMissing made kids kid
IsFoundOver made o kids (Ready op new) = IsReady made o kids op new.items

-- what a term is, over what was made of others
abbrev pub IsLeaf : Tree → Type 0
IsLeaf (Apply o args) = ⊥
IsLeaf _ = Unit {0}

pub record IsFoundIn (trees : List Tree) (made : Memo) (id : ℕ) (found : Found) : Type 0 where
  pub op : Op
  pub kids : List ℕ
  pub below : Rattle.std.specs.Prelude.All (λ kid. kid < id) kids
  pub tree : Apply op (trees_at trees kids) ≡ tree_at trees id
  pub over : IsFoundOver made op kids found

abbrev pub IsFoundAt : List Tree → Memo → ℕ → Found → Type 0
IsFoundAt trees made id Leaf = IsLeaf (tree_at trees id)
IsFoundAt trees made id (Missing kid) = IsFoundIn trees made id (Missing kid)
IsFoundAt trees made id (Ready op new) = IsFoundIn trees made id (Ready op new)

-- a term below another, of which something has to be made first
pub record IsNeeded (top : Tree → Option Tree) (trees : List Tree) (made : Memo) (id kid : ℕ) : Type 0 where
  pub below : kid < id
  pub sorted : IsSorted (rebuilt top (tree_at trees kid))
  pub missing : made_in made kid ≡ None

-- what is made of a term, or what has to be made first
abbrev pub Steps : (Tree → Option Tree) → (old new : List Tree) → Memo → ℕ → Step → Type 0
Steps top old new made id (Made m) = StandsAt new m (rebuilt top (tree_at old id))
Steps top old new made id (First kid) = IsNeeded top old made id kid
