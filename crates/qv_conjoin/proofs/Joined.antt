-- One more formula behind a conjunction, and a store that grows by nothing.
use Rattle.std.proofs.Common.{◌≡◌, Some, List, [], ◌∷◌, ◌++◌, refl, sym, append-nil}
use Rattle.qv_words.specs.declared.sort.Sort.TheVariants.{Bool as BoolSort}
use Rattle.qv_words.specs.declared.op.Op.TheVariants.{And}
use Rattle.qv_words.specs.Tree.{Tree, tree_sort}
use Rattle.qv_words.specs.Prenex.{binary}
use Rattle.qv_words.specs.Problem.{conjunction_with}
use Rattle.qv_store.specs.Stores.{Grows}

pub grows-itself : (trees : List Tree) → Grows trees trees
grows-itself trees = record { more = []; behind = sym (append-nil trees) }

pub conjunction-push : (t : Tree) (us : List Tree) (u : Tree) → conjunction_with t (us ++ u ∷ []) ≡ binary And (conjunction_with t us) u
conjunction-push t [] u = refl
conjunction-push t (v ∷ us) u = conjunction-push (binary And t v) us u

pub sort-both : (a b : Tree) → tree_sort a ≡ Some BoolSort → tree_sort b ≡ Some BoolSort → tree_sort (binary And a b) ≡ Some BoolSort
sort-both a b s t = rw (s, t) refl
