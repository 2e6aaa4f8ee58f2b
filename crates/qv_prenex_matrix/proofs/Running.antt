-- States of the machine that builds a matrix, over the terms of a store.
use Rattle.std.proofs.Common.{◌≡◌, ℕ, ◌<◌, false, Option, Some, None, List, [], ◌∷◌, length, map, refl, sym, ap, ◌∙◌, subst, Result, Ok, Err, OnOk}
use Rattle.std.specs.Prelude.{IfSome, option_and_then, IsSome, unwrap_or}
use Rattle.std.specs.List.{AllByRecursion}
use Rattle.qv_words.specs.declared.sort.Sort.{Sort}
use Rattle.qv_words.specs.declared.sort.Sort.TheVariants.{Bool as BoolSort}
use Rattle.qv_words.specs.Rank.{result_sort}
use Rattle.qv_words.specs.Sort.{IsLawful}
use Rattle.qv_words.specs.Tree.{Tree, Trees, Constant, Variable, Literal, Apply, ForAll, Exists, Nil, Cons, tree_sort, tree_sorts, IsQuantifierFree, AreQuantifierFree}
use Rattle.qv_words.specs.Sorted.{IsSorted, IsSortedBelow, AreSortedBelow, no_levels}
use Rattle.qv_words.specs.Replacement.{replaced}
use Rattle.qv_words.specs.Problem.{with_places}
use Rattle.qv_words.specs.Prenex.{is_quantified}
use Rattle.qv_store.specs.Nodes.{tree_at}
use Rattle.qv_store.specs.Stores.{AreShared, Grows}
use Rattle.qv_store.proofs.Replacement.{grown-tree, grown-within}
use Rattle.qv_store.proofs.Unquantified.{free-of}
use Rattle.qv_prenex_laws.specs.MatrixLaws.{put_leaves, put_leaves_each, ArePlaces}
use Rattle.qv_prenex_laws.proofs.OnePass.{one-pass}
use Rattle.qv_prenex_matrix.specs.declared.matrix.Task.{Task}
use Rattle.qv_prenex_matrix.specs.declared.matrix.Task.TheVariants.{Build, Join, Back, Free}
use Rattle.qv_prenex_splits.specs.declared.memo.Memo.{Memo}
use Rattle.qv_prenex_splits.specs.declared.naming.Names.{Names}
use Rattle.qv_prenex_matrix.specs.declared.levels.Levels.{Levels}
use Rattle.qv_prenex_splits.specs.Rebuilt.{rebuilt, rebuilt_each}
use Rattle.qv_prenex_splits.specs.Naming.{place_of, outer_of, leaf_top, renaming}
use Rattle.qv_prenex_splits.specs.Rebuilding.{AreRebuilt}
use Rattle.qv_prenex_matrix.specs.NextLevels.{next_of}
use Rattle.qv_prenex_matrix.specs.Matrix.{PlainTask, Building, Leaving, task_in, built, sorts_of, IsFormula, IsPlace, AreFit, tasks_work, IsTaskBelow, IsResult, AreNamed, end_of, IsRunning, IsNext}
use Rattle.qv_prenex_splits.proofs.Changing.{outer-grows, rebuilt-grows}

-- a change of leaves is the one pass
mutual
  leaves-put : (place : ℕ → ℕ) (outer : ℕ → Option Tree) (t : Tree) → IsQuantifierFree t → rebuilt (leaf_top place outer) t ≡ put_leaves place outer t
  leaves-put place outer (Constant i s) free = refl
  leaves-put place outer (Variable l s) free = refl
  leaves-put place outer (Literal s n) free = refl
  leaves-put place outer (Apply o args) free = ap (Apply o) (leaves-put-each place outer args free)
  leaves-put place outer (ForAll l s body) free = absurd free
  leaves-put place outer (Exists l s body) free = absurd free

  leaves-put-each : (place : ℕ → ℕ) (outer : ℕ → Option Tree) (ts : Trees) → AreQuantifierFree ts → rebuilt_each (leaf_top place outer) ts ≡ put_leaves_each place outer ts
  leaves-put-each place outer Nil free = refl
  leaves-put-each place outer (Cons t ts) free =
      ap (λ u. Cons u (rebuilt_each (leaf_top place outer) ts)) (leaves-put place outer t free.0) ∙ ap (Cons (put_leaves place outer t)) (leaves-put-each place outer ts free.1)

pub leaves-are : (place : ℕ → ℕ) (outer : ℕ → Option Tree) (t : Tree) → IsQuantifierFree t → ArePlaces outer → rebuilt (leaf_top place outer) t ≡ with_places place (replaced outer t)
leaves-are place outer t free places = leaves-put place outer t free ∙ sym (one-pass place outer t places)

-- what is put for leaves has their sorts, and is sorted
leaf-variable : (o : Option Tree) (l : ℕ) (s : Sort) → IsPlace o → IfSome (option_and_then (λ t. tree_sort t) o) (λ bound. s ≡ bound) → IsLawful s →
    IsSorted (unwrap_or o (Variable l s)) × (tree_sort (unwrap_or o (Variable l s)) ≡ Some s)
leaf-variable None l s p h lawful = ((lawful, tt), refl)
leaf-variable (Some put) l s (level, r, e) h lawful =
    let P : Tree → Type 0 = λ put. IfSome (tree_sort put) (λ bound. s ≡ bound) in
    let same : s ≡ r = subst P e h in
    subst (λ (t : Tree). IsSorted t × (tree_sort t ≡ Some s)) (sym e) ((subst IsLawful same lawful, tt), ap Some (sym same))

mutual
  leaves-sorted : (place : ℕ → ℕ) (outer : ℕ → Option Tree) → ArePlaces outer → (t : Tree) → IsQuantifierFree t → IsSortedBelow (sorts_of outer) t →
      IsSorted (put_leaves place outer t) × (tree_sort (put_leaves place outer t) ≡ tree_sort t)
  leaves-sorted place outer places (Constant i s) free h = ((h, tt), refl)
  leaves-sorted place outer places (Variable l s) free h = leaf-variable (outer l) l s (places l) h.1 h.0
  leaves-sorted place outer places (Literal s n) free h = (h, refl)
  leaves-sorted place outer places (Apply o args) free h =
      let r = leaves-sorted-each place outer places args free h.0 in
      let same : tree_sort (Apply o (put_leaves_each place outer args)) ≡ tree_sort (Apply o args) = ap (option_and_then (result_sort o)) r.1 in
      ((r.0, subst IsSome (sym same) h.1), same)
  leaves-sorted place outer places (ForAll l s body) free h = absurd free
  leaves-sorted place outer places (Exists l s body) free h = absurd free

  leaves-sorted-each : (place : ℕ → ℕ) (outer : ℕ → Option Tree) → ArePlaces outer → (ts : Trees) → AreQuantifierFree ts → AreSortedBelow (sorts_of outer) ts →
      AreSortedBelow no_levels (put_leaves_each place outer ts) × (tree_sorts (put_leaves_each place outer ts) ≡ tree_sorts ts)
  leaves-sorted-each place outer places Nil free h = (tt, refl)
  leaves-sorted-each place outer places (Cons t ts) free h =
      let first = leaves-sorted place outer places t free.0 h.0 in
      let rest = leaves-sorted-each place outer places ts free.1 h.1 in
      ((first.0, rest.0), rw (first.1, rest.1) refl)

pub record IsRenamed (place : ℕ → ℕ) (outer : ℕ → Option Tree) (t : Tree) : Type 0 where
  pub sorted : IsSorted (rebuilt (leaf_top place outer) t)
  pub bool : tree_sort (rebuilt (leaf_top place outer) t) ≡ Some BoolSort
  pub is : rebuilt (leaf_top place outer) t ≡ with_places place (replaced outer t)

pub renamed : (place : ℕ → ℕ) (outer : ℕ → Option Tree) (t : Tree) → IsQuantifierFree t → ArePlaces outer → IsFormula outer t → IsRenamed place outer t
renamed place outer t free places f =
    let r = leaves-sorted place outer places t free f.sorted in
    let e = leaves-put place outer t free in
    record { sorted = subst IsSorted (sym e) r.0; bool = ap tree_sort e ∙ r.1 ∙ f.bool; is = leaves-are place outer t free places }

-- what holds of a store holds of a greater one
module _ (old new : List Tree) (grows : Grows old new) (shared : AreShared new) where
  task-grows : (task : Task) → IsTaskBelow (length old) task → task_in new task ≡ task_in old task
  task-grows (Build p k) h = ap (λ t. Building p.plus t k) (grown-tree old new grows p.term h)
  task-grows (Join o) h = refl
  task-grows (Back l id) h = ap (λ t. Leaving l (Some t)) (grown-tree old new grows id h)
  task-grows (Free l) h = refl

  pub tasks-grow : (todo : List Task) → AllByRecursion (IsTaskBelow (length old)) todo → map (task_in new) todo ≡ map (task_in old) todo
  tasks-grow [] h = refl
  tasks-grow (task ∷ todo) h =
      ap (λ t. t ∷ map (task_in new) todo) (task-grows task h.0) ∙ ap (λ ts. task_in old task ∷ ts) (tasks-grow todo h.1)

  task-below : (task : Task) → IsTaskBelow (length old) task → IsTaskBelow (length new) task
  task-below (Build p k) h = grown-within old new grows p.term h
  task-below (Join o) h = tt
  task-below (Back l id) h = grown-within old new grows id h
  task-below (Free l) h = tt

  pub tasks-below : (todo : List Task) → AllByRecursion (IsTaskBelow (length old)) todo → AllByRecursion (IsTaskBelow (length new)) todo
  tasks-below [] h = tt
  tasks-below (task ∷ todo) h = (task-below task h.0, tasks-below todo h.1)

  pub results-grow : (results : List ℕ) → AllByRecursion (IsResult old) results → map (tree_at new) results ≡ map (tree_at old) results
  results-grow [] h = refl
  results-grow (r ∷ rs) h = ap (λ t. t ∷ map (tree_at new) rs) (grown-tree old new grows r h.0.below) ∙ ap (λ ts. tree_at old r ∷ ts) (results-grow rs h.1)

  pub results-right : (results : List ℕ) → AllByRecursion (IsResult old) results → AllByRecursion (IsResult new) results
  results-right [] h = tt
  results-right (r ∷ rs) h =
      (record { below = grown-within old new grows r h.0.below; bool = ap tree_sort (grown-tree old new grows r h.0.below) ∙ h.0.bool }, results-right rs h.1)

  pub outer-same : (names : Names) (made : Memo) → AreNamed old names made → outer_of new names.outer ≡ outer_of old names.outer
  outer-same names made h = outer-grows old new names.outer grows h.outer

  pub named-grows : (names : Names) (made : Memo) → AreNamed old names made → AreNamed new names made
  named-grows names made h =
      let same = outer-same names made h in
      record {
        shared = shared;
        outer = λ l n e. grown-within old new grows n (h.outer l n e);
        places = subst ArePlaces (sym same) h.places;
        renamed = subst (λ (o : ℕ → Option Tree). AreRebuilt (leaf_top (place_of names.constants.keys) o) new made) (sym same)
            (rebuilt-grows (leaf_top (place_of names.constants.keys) (outer_of old names.outer)) old new made grows h.renamed);
      }

  -- a state
  pub running-grows : (todo : List Task) (results : List ℕ) (names : Names) (made : Memo) → IsRunning old todo results names made → IsRunning new todo results names made
  running-grows todo results names made r = record {
    named = named-grows names made r.named;
    tasks = tasks-below todo r.tasks;
    fit = subst (λ (ts : List PlainTask). AreFit ts (outer_of new names.outer)) (sym (tasks-grow todo r.tasks)) (subst (AreFit (map (task_in old) todo)) (sym (outer-same names made r.named)) r.fit);
    right = results-right results r.right;
  }

  pub end-grows : (todo : List Task) (results : List ℕ) (names : Names) (made : Memo) (levels : Levels) → IsRunning old todo results names made → end_of new todo results names levels ≡ end_of old todo results names levels
  end-grows todo results names made levels r =
      let place = place_of names.constants.keys in
      let next = next_of levels.next.items levels.total in
      ap (λ ts. built place ts (map (tree_at new) results) (outer_of new names.outer) next) (tasks-grow todo r.tasks)
      ∙ ap (λ rs. built place (map (task_in old) todo) rs (outer_of new names.outer) next) (results-grow results r.right)
      ∙ ap (λ o. built place (map (task_in old) todo) (map (tree_at old) results) o next) (outer-same names made r.named)

  -- a step of a greater store is one of the smaller
  pub next-behind : (newer : List Tree) (todo todo' : List Task) (results results' : List ℕ) (names names' : Names) (made made' : Memo) (levels levels' : Levels) → IsRunning old todo results names made →
      IsNext new newer todo todo' results results' names names' made' levels levels' → IsNext old newer todo todo' results results' names names' made' levels levels'
  next-behind newer todo todo' results results' names names' made made' levels levels' r n = record {
    running = n.running;
    end = n.end ∙ end-grows todo results names made levels r;
    fewer = subst (λ (w : ℕ). tasks_work (map (task_in newer) todo') < w) (ap tasks_work (tasks-grow todo r.tasks)) n.fewer;
  }

-- a term without quantifiers and its places
pub plain-renamed : (trees : List Tree) (names : Names) (made : Memo) (n : ℕ) → is_quantified (tree_at trees n) ≡ false → AreNamed trees names made → IsFormula (outer_of trees names.outer) (tree_at trees n) →
    IsRenamed (place_of names.constants.keys) (outer_of trees names.outer) (tree_at trees n)
plain-renamed trees names made n free h f = renamed (place_of names.constants.keys) (outer_of trees names.outer) (tree_at trees n) (free-of (tree_at trees n) free) h.places f

-- names after something was made
pub named-by : (old new : List Tree) (names : Names) (made made' : Memo) → Grows old new → AreShared new → AreNamed old names made → AreRebuilt (renaming old names) new made' → AreNamed new names made'
named-by old new names made made' grows shared h right =
    let same = outer-grows old new names.outer grows h.outer in
    record {
      shared = shared;
      outer = λ l n e. grown-within old new grows n (h.outer l n e);
      places = subst ArePlaces (sym same) h.places;
      renamed = subst (λ (o : ℕ → Option Tree). AreRebuilt (leaf_top (place_of names.constants.keys) o) new made') (sym same) right;
    }

pub named-more : (old new : List Tree) (names : Names) (made : Memo) → Grows old new → AreShared new → AreNamed old names made → AreNamed new names made
named-more old new names made grows shared h = named-grows old new grows shared names made h

pub always : {A E : Type 0} (r : Result A E) {P : Type 0} → P → OnOk r P
always (Ok x) h = h
always (Err e) h = tt
