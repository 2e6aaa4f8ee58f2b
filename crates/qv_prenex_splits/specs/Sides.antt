-- Terms that were split, and what is kept of the terms below them.
use Rattle.std.specs.Prelude.{◌≡◌, ℕ, ◌<◌, Bool, Some, List, length, nat_eq}
use Rattle.std.specs.HashMap.{get, HashMap}
use Rattle.std.specs.declared.hash.FoldHasher.{FoldHasher}
use Rattle.std.specs.declared.hash.BuildHasherDefault.{BuildHasherDefault}
use Rattle.qv_words.specs.declared.op.Op.TheVariants.{Ite}
use Rattle.qv_words.specs.Tree.{Tree, Apply, Nil, Cons}
use Rattle.qv_words.specs.Prenex.{first_choice}
use Rattle.qv_store.specs.Nodes.{tree_at}
use Rattle.qv_prenex_laws.specs.RuleLaws.{chosen_rule, split_rule}
use Rattle.qv_prenex_splits.specs.declared.split_store.Sides.{Sides}
use Rattle.qv_prenex_splits.specs.declared.split_store.SideMemos.{SideMemos}
use Rattle.qv_prenex_splits.specs.declared.splitting.BitIte.{BitIte}
use Rattle.qv_prenex_splits.specs.Splitting.{ite_in, IsIteIn}
use Rattle.qv_prenex_splits.specs.Rebuilding.{term_top, AreRebuilt}

-- what is kept by the numbers of terms
abbrev pub Kept : Type 0 → Type 0
Kept X = HashMap ℕ X (BuildHasherDefault FoldHasher)

-- the sides of a term, of which its rules are made under either sign
pub record IsSplitInto (trees : List Tree) (id : ℕ) (sides : Sides) : Type 0 where
  pub below : id < length trees
  pub condition : sides.condition < length trees
  pub yes : sides.yes < length trees
  pub no : sides.no < length trees
  pub rule : (plus : Bool) → chosen_rule plus (tree_at trees sides.condition) (tree_at trees sides.yes) (tree_at trees sides.no) ≡ split_rule plus (tree_at trees id) (first_choice (tree_at trees id))

-- the first choice of a term at which it is split
pub record IsFirstIte (trees : List Tree) (id : ℕ) (c : BitIte) : Type 0 where
  pub below : id < length trees
  pub there : IsIteIn trees c
  pub first : first_choice (tree_at trees id) ≡ Some (ite_in trees c)

-- the sides of a choice
abbrev pub yes_of : Tree → Tree
yes_of (Apply Ite (Cons c (Cons a (Cons b Nil)))) = a
yes_of t = t

abbrev pub no_of : Tree → Tree
no_of (Apply Ite (Cons c (Cons a (Cons b Nil)))) = b
no_of t = t

-- what was made of terms with either side of a choice in place of it
pub record AreMadeFor (trees : List Tree) (whole : ℕ) (memos : SideMemos) : Type 0 where
  pub below : whole < length trees
  pub yes : AreRebuilt (term_top (tree_at trees whole) (yes_of (tree_at trees whole))) trees memos.yes
  pub no : AreRebuilt (term_top (tree_at trees whole) (no_of (tree_at trees whole))) trees memos.no

-- what is kept of terms
pub record IsSplitStore (trees : List Tree) (split : Kept Sides) (found : Kept BitIte) (made : Kept SideMemos) : Type 0 where
  pub sides : (k : ℕ) (x : Sides) → get nat_eq split k ≡ Some x → IsSplitInto trees k x
  pub firsts : (k : ℕ) (x : BitIte) → get nat_eq found k ≡ Some x → IsFirstIte trees k x
  pub memos : (k : ℕ) (x : SideMemos) → get nat_eq made k ≡ Some x → AreMadeFor trees k x
