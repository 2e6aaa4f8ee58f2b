-- The clauses of a region that say what a truth value implies.
use Rattle.std.specs.Prelude.{◌≡◌, ℕ, ◌<◌, Bool, true, false, ◌&&◌, Some, List, [], ◌∷◌, ◌++◌, length, slice_get}
use Rattle.qv_words.specs.declared.sort.Sort.TheVariants.{Bool as BoolSort}
use Rattle.qv_words.specs.Tree.{tree_sort, Tree, IsQuantifierFree}
use Rattle.qv_words.specs.Sorted.{no_levels, with_level}
use Rattle.qv_words.specs.Replacement.{HasTheirSorts}
use Rattle.qv_words.specs.Passes.{truth_literal}
use Rattle.qv_words.specs.Choice.{is_outside, with_term}
use Rattle.qv_store.specs.Nodes.{tree_at}
use Rattle.qv_choose_paths.specs.declared.ways.Place.{Place}
use Rattle.qv_choose_clauses.specs.declared.clauses.Clause.{Clause}

-- a conjunct that is such a clause
abbrev pub says : Clause → Bool → Bool
says clause marked = clause.opposite && clause.apart && marked

-- a list with one more member, if it is to be kept
abbrev pub kept : List ℕ → ℕ → Bool → List ℕ
kept ids id true = ids ++ id ∷ []
kept ids id false = ids

-- at each place of a walk
abbrev pub AreSaid : (ℕ → Bool) → List ℕ → List Clause → List Bool → Type 0
AreSaid test ids clauses marks =
    (k n : ℕ) (c : Clause) (b : Bool) → slice_get ids k ≡ Some n → slice_get clauses k ≡ Some c → slice_get marks k ≡ Some b → test n ≡ says c b

-- a truth value in which a place may be put true, and stands outside the block then
pub record IsSettling (p : Place) (trees : List Tree) (id : ℕ) : Type 0 where
  pub below : id < length trees
  pub free : IsQuantifierFree (tree_at trees id)
  pub sorts : HasTheirSorts (with_level no_levels p.level (truth_literal true)) (tree_at trees id)
  pub bool : tree_sort (tree_at trees id) ≡ Some BoolSort
  pub outside : is_outside p.first p.end (with_term p.level (truth_literal true) (tree_at trees id)) ≡ true
