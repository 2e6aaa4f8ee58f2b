-- The steps of the machine that builds a matrix.
use Rattle.std.proofs.Common.{◌≡◌, ℕ, suc, ◌+◌, ◌<◌, ◌≤◌, ◌==◌, Bool, true, false, not, if◌then◌else◌, cond, nat_eq, Option, Some, None, List, [], ◌∷◌, length, map, reverse, ◌++◌, refl, sym, ap, ◌∙◌, subst, arith, All, Result, Ok, Err, OnOk}
use Rattle.std.specs.Prelude.{option_and_then, option_map}
use Rattle.std.specs.List.{AllByRecursion}
use Rattle.std.specs.HashMap.{get}
use Rattle.std.proofs.Math.Path.{fun_ext}
use Rattle.std.proofs.lemmas.List.{reverse-append}
use Rattle.std.proofs.lemmas.List.Elements.{recursion_from_All}
use Rattle.qv_words.specs.declared.sort.Sort.{Sort}
use Rattle.qv_words.specs.declared.sort.Sort.TheVariants.{Bool as BoolSort}
use Rattle.qv_words.specs.declared.op.Op.{Op}
use Rattle.qv_words.specs.declared.op.Op.TheVariants.{And, Or}
use Rattle.qv_words.specs.Sort.{IsLawful}
use Rattle.qv_words.specs.Tree.{Tree, Variable, tree_sort}
use Rattle.qv_words.specs.Sorted.{IsSortedBelow, no_levels, with_level}
use Rattle.qv_words.specs.Prenex.{tree_size, binary}
use Rattle.qv_words.proofs.Equals.{eq-from_test, test-refl}
use Rattle.qv_store.specs.Nodes.{tree_at}
use Rattle.qv_store.specs.Stores.{StandsAt, AreShared, Grows}
use Rattle.qv_store.proofs.Replacement.{grown-tree, grown-within}
use Rattle.qv_prenex_laws.specs.FormLaws.{lengths_under}
use Rattle.qv_prenex_laws.specs.MatrixLaws.{Cursor, matrix_under, plain_built, ArePlaces, raised, quantifier_cursor, starts_empty}
use Rattle.qv_prenex_laws.specs.RuleLaws.{rule_at, parts_of}
use Rattle.qv_prenex_laws.specs.RuleLaws.{Rule as PlainRule, Plain as PlainIs, Turned as TurnedInto, Joined as JoinedBy, Crossed as CrossedFrom, Bound as BoundBy}
use Rattle.qv_prenex_laws.proofs.RuleBlocks.{parts-shrink}
use Rattle.qv_prenex_matrix.specs.declared.rules.Part.{Part}
use Rattle.qv_prenex_matrix.specs.declared.matrix.Task.{Task}
use Rattle.qv_prenex_matrix.specs.declared.matrix.Task.TheVariants.{Build, Join}
use Rattle.qv_prenex_matrix.specs.declared.matrix.Quantifier.{Quantifier}
use Rattle.qv_prenex_splits.specs.declared.naming.Names.{Names}
use Rattle.qv_prenex_matrix.specs.declared.levels.Levels.{Levels}
use Rattle.qv_prenex_splits.specs.declared.memo.Memo.{Memo}
use Rattle.qv_prenex_matrix.specs.Rules.{part_in}
use Rattle.qv_prenex_splits.specs.Memos.{IsForgotten, IsNew}
use Rattle.qv_prenex_splits.specs.Naming.{TermMap, place_of, outer_of, AreTermsOf, leaf_top}
use Rattle.qv_prenex_matrix.specs.NextLevels.{next_of}
use Rattle.qv_prenex_matrix.specs.Matrix.{PlainTask, Building, Joining, Leaving, task_in, last_joined, restored, cursor_at, built, sorts_of, IsFormula, IsPlace, IsJunction, AreFit, eightfold, task_work, tasks_work, IsTaskBelow, IsResult, IsJoined, IsBound, leaving, AreNamed, end_of, IsRunning, IsNext}
use Rattle.qv_prenex_splits.proofs.Changing.{none-rebuilt}
use Rattle.qv_prenex_splits.proofs.Forgetting.{renamed-behind}
use Rattle.qv_prenex_splits.proofs.Fitting.{AreSortedParts, AreFormulas, parts-sorted, parts-formulas}
use Rattle.qv_prenex_matrix.proofs.Machines.{plain-next, turned-next, joined-next, crossed-next, bound-next, eightfold-less, restored-same}
use Rattle.qv_prenex_matrix.proofs.Running.{tasks-grow, tasks-below, results-grow, results-right, outer-same, named-grows}

-- the sizes of a rule's parts
sizes : (plus : Bool) (t : Tree) (r : PlainRule) → rule_at plus t ≡ r → AllByRecursion (λ p. tree_size p.tree < tree_size t) (parts_of plus r)
sizes plus t r e =
    recursion_from_All (λ p. tree_size p.tree < tree_size t) (parts_of plus r) (subst (λ (s : PlainRule). All (λ p. tree_size p.tree < tree_size t) (parts_of plus s)) e (parts-shrink plus t))

-- the first task that waits, and the others
pub fit-first : (plus : Bool) (t : Tree) (k : ℕ) (todo : List PlainTask) (outer : ℕ → Option Tree) → AreFit (Building plus t k ∷ todo) outer → IsFormula outer t × AreFit todo outer
unfolding AreFit
fit-first plus t k todo outer h = h

pub fit-join : (o : Op) (todo : List PlainTask) (outer : ℕ → Option Tree) → AreFit (Joining o ∷ todo) outer → IsJunction o × AreFit todo outer
unfolding AreFit
fit-join o todo outer h = h

pub fit-leave : (l : ℕ) (before : Option Tree) (todo : List PlainTask) (outer : ℕ → Option Tree) → AreFit (Leaving l before ∷ todo) outer → IsPlace before × AreFit todo (restored outer l before)
unfolding AreFit
fit-leave l before todo outer h = h

fit-built : (plus : Bool) (t : Tree) (k : ℕ) (todo : List PlainTask) (outer : ℕ → Option Tree) → IsFormula outer t → AreFit todo outer → AreFit (Building plus t k ∷ todo) outer
unfolding AreFit
fit-built plus t k todo outer f h = (f, h)

fit-joining : (o : Op) (todo : List PlainTask) (outer : ℕ → Option Tree) → IsJunction o → AreFit todo outer → AreFit (Joining o ∷ todo) outer
unfolding AreFit
fit-joining o todo outer f h = (f, h)

fit-leaving : (l : ℕ) (before : Option Tree) (todo : List PlainTask) (outer : ℕ → Option Tree) → IsPlace before → AreFit todo (restored outer l before) → AreFit (Leaving l before ∷ todo) outer
unfolding AreFit
fit-leaving l before todo outer f h = (f, h)

work-more : (task : PlainTask) (todo : List PlainTask) → tasks_work (task ∷ todo) ≡ task_work task + tasks_work todo
unfolding tasks_work
work-more task todo = refl

built-same : (place place' : ℕ → ℕ) (ts ts' : List PlainTask) (rs rs' : List Tree) (outer outer' : ℕ → Option Tree) (next next' : ℕ → ℕ) → place ≡ place' → ts ≡ ts' → rs ≡ rs' → outer ≡ outer' → next ≡ next' →
    built place ts rs outer next ≡ built place' ts' rs' outer' next'
built-same place place' ts ts' rs rs' outer outer' next next' a b c d e =
    ap (λ x. built x ts rs outer next) a ∙ ap (λ x. built place' x rs outer next) b ∙ ap (λ x. built place' ts' x outer next) c ∙ ap (λ x. built place' ts' rs' x next) d ∙ ap (λ x. built place' ts' rs' outer' x) e

module _ (trees : List Tree) (p : Part) (k : ℕ) (todo : List Task) (results : List ℕ) (names : Names) (made : Memo) (levels : Levels) (r : IsRunning trees (Build p k ∷ todo) results names made) where
  abbrev t : Tree
  t = tree_at trees p.term

  abbrev outer : ℕ → Option Tree
  outer = outer_of trees names.outer

  abbrev waiting : List PlainTask
  waiting = map (task_in trees) todo

  pub formula-first : IsFormula (outer_of trees names.outer) (tree_at trees p.term)
  formula-first = (fit-first p.plus t k waiting outer r.fit).0

  rest-fit : AreFit waiting outer
  rest-fit = (fit-first p.plus t k waiting outer r.fit).1

  sorted-by : (q : PlainRule) → rule_at p.plus t ≡ q → AreSortedParts (sorts_of outer) q
  sorted-by q e = subst (AreSortedParts (sorts_of outer)) e (parts-sorted (sorts_of outer) p.plus t formula-first.sorted)

  formulas-by : (q : PlainRule) → rule_at p.plus t ≡ q → AreFormulas q
  formulas-by q e = subst AreFormulas e (parts-formulas (sorts_of outer) p.plus t formula-first.sorted formula-first.bool)

  pub turned-step : (a : ℕ) → a < length trees → rule_at p.plus (tree_at trees p.term) ≡ TurnedInto (tree_at trees a) →
      IsNext trees trees (Build p k ∷ todo) (Build (record { plus = not p.plus; term = a }) k ∷ todo) results results names names made levels levels
  turned-step a low e =
      let q = TurnedInto (tree_at trees a) in
      let s = sorted-by q e in
      let f = formulas-by q e in
      let less = eightfold-less (tree_size (tree_at trees a)) (tree_size t) (sizes p.plus t q e).0 in
      record {
        running = record { named = r.named; tasks = (low, r.tasks.1); fit = fit-built (not p.plus) (tree_at trees a) k waiting outer (record { sorted = s; bool = f }) rest-fit; right = r.right };
        end = sym (turned-next (place_of names.constants.keys) p.plus t k waiting (map (tree_at trees) results) outer (next_of levels.next.items levels.total) (tree_at trees a) e);
        fewer = omega (arith, less.0, less.1, work-more (Building (not p.plus) (tree_at trees a) k) waiting, work-more (Building p.plus t k) waiting);
      }

  pub joined-step : (o : Op) (a b : ℕ) → a < length trees → b < length trees → rule_at p.plus (tree_at trees p.term) ≡ JoinedBy o (tree_at trees a) (tree_at trees b) →
      IsNext trees trees (Build p k ∷ todo) (Build (record { plus = p.plus; term = a }) k ∷ Build (record { plus = p.plus; term = b }) k ∷ Join o ∷ todo) results results names names made levels levels
  joined-step o a b low-a low-b e =
      let q = JoinedBy o (tree_at trees a) (tree_at trees b) in
      let s = sorted-by q e in
      let f = formulas-by q e in
      let z = sizes p.plus t q e in
      let la = eightfold-less (tree_size (tree_at trees a)) (tree_size t) z.0 in
      let lb = eightfold-less (tree_size (tree_at trees b)) (tree_size t) z.1.0 in
      let second : List PlainTask = Joining o ∷ waiting in
      let first : List PlainTask = Building p.plus (tree_at trees b) k ∷ second in
      record {
        running = record {
          named = r.named;
          tasks = (low-a, (low-b, (tt, r.tasks.1)));
          fit = fit-built p.plus (tree_at trees a) k first outer (record { sorted = s.0; bool = f.0 })
              (fit-built p.plus (tree_at trees b) k second outer (record { sorted = s.1; bool = f.1 }) (fit-joining o waiting outer f.2 rest-fit));
          right = r.right;
        };
        end = sym (joined-next (place_of names.constants.keys) p.plus t k waiting (map (tree_at trees) results) outer (next_of levels.next.items levels.total) o (tree_at trees a) (tree_at trees b) e);
        fewer = omega (arith, la.0, la.1, lb.0, lb.1, work-more (Building p.plus (tree_at trees a) k) first, work-more (Building p.plus (tree_at trees b) k) second, work-more (Joining o) waiting, work-more (Building p.plus t k) waiting);
      }

  pub crossed-step : (a b c d : Part) → a.term < length trees → b.term < length trees → c.term < length trees → d.term < length trees →
      rule_at p.plus (tree_at trees p.term) ≡ CrossedFrom (part_in trees a) (part_in trees b) (part_in trees c) (part_in trees d) →
      IsNext trees trees (Build p k ∷ todo) (Build a k ∷ Build b k ∷ Join And ∷ Build c k ∷ Build d k ∷ Join And ∷ Join Or ∷ todo) results results names names made levels levels
  crossed-step a b c d low-a low-b low-c low-d e =
      let q = CrossedFrom (part_in trees a) (part_in trees b) (part_in trees c) (part_in trees d) in
      let s = sorted-by q e in
      let f = formulas-by q e in
      let z = sizes p.plus t q e in
      let la = eightfold-less (tree_size (tree_at trees a.term)) (tree_size t) z.0 in
      let lb = eightfold-less (tree_size (tree_at trees b.term)) (tree_size t) z.1.0 in
      let lc = eightfold-less (tree_size (tree_at trees c.term)) (tree_size t) z.1.1.0 in
      let ld = eightfold-less (tree_size (tree_at trees d.term)) (tree_size t) z.1.1.1.0 in
      let w6 : List PlainTask = Joining Or ∷ waiting in
      let w5 : List PlainTask = Joining And ∷ w6 in
      let w4 : List PlainTask = Building d.plus (tree_at trees d.term) k ∷ w5 in
      let w3 : List PlainTask = Building c.plus (tree_at trees c.term) k ∷ w4 in
      let w2 : List PlainTask = Joining And ∷ w3 in
      let w1 : List PlainTask = Building b.plus (tree_at trees b.term) k ∷ w2 in
      record {
        running = record {
          named = r.named;
          tasks = (low-a, (low-b, (tt, (low-c, (low-d, (tt, (tt, r.tasks.1)))))));
          fit = fit-built a.plus (tree_at trees a.term) k w1 outer (record { sorted = s.0; bool = f.0 })
              (fit-built b.plus (tree_at trees b.term) k w2 outer (record { sorted = s.1; bool = f.1 })
              (fit-joining And w3 outer refl
              (fit-built c.plus (tree_at trees c.term) k w4 outer (record { sorted = s.2; bool = f.2 })
              (fit-built d.plus (tree_at trees d.term) k w5 outer (record { sorted = s.3; bool = f.3 })
              (fit-joining And w6 outer refl (fit-joining Or waiting outer refl rest-fit))))));
          right = r.right;
        };
        end = sym (crossed-next (place_of names.constants.keys) p.plus t k waiting (map (tree_at trees) results) outer (next_of levels.next.items levels.total) (part_in trees a) (part_in trees b) (part_in trees c) (part_in trees d) e);
        fewer = omega (
          arith,
          la.0,
          la.1,
          lb.0,
          lb.1,
          lc.0,
          lc.1,
          ld.0,
          ld.1,
          work-more (Building a.plus (tree_at trees a.term) k) w1,
          work-more (Building b.plus (tree_at trees b.term) k) w2,
          work-more (Joining And) w3,
          work-more (Building c.plus (tree_at trees c.term) k) w4,
          work-more (Building d.plus (tree_at trees d.term) k) w5,
          work-more (Joining And) w6,
          work-more (Joining Or) waiting,
          work-more (Building p.plus t k) waiting,
        );
      }

junction-bool : (o : Op) (a b : Tree) → IsJunction o → tree_sort a ≡ Some BoolSort → tree_sort b ≡ Some BoolSort → tree_sort (binary o a b) ≡ Some BoolSort
junction-bool o a b h e f = rw (e, f) h

eightfold-less-some : (n : ℕ) → 1 ≤ eightfold n
eightfold-less-some n = (eightfold-less n (suc n) (omega arith)).1

-- a part without quantifiers is built
pub plain-step : (old new : List Tree) (p : Part) (k : ℕ) (todo : List Task) (results : List ℕ) (names : Names) (made made' : Memo) (levels : Levels) (id : ℕ) → Grows old new →
    IsRunning old (Build p k ∷ todo) results names made → rule_at p.plus (tree_at old p.term) ≡ PlainIs → AreNamed new names made' →
    StandsAt new id (plain_built (place_of names.constants.keys) p.plus (tree_at old p.term) (cursor_at (outer_of old names.outer) (next_of levels.next.items levels.total) k)) → tree_sort (tree_at new id) ≡ Some BoolSort →
    IsNext old new (Build p k ∷ todo) todo results (id ∷ results) names names made' levels levels
plain-step old new p k todo results names made made' levels id grows r rule named at bool =
    let place = place_of names.constants.keys in
    let next = next_of levels.next.items levels.total in
    let outer = outer_of old names.outer in
    let waiting = map (task_in old) todo in
    let tasks = tasks-grow old new grows named.shared todo r.tasks.1 in
    let same = outer-same old new grows named.shared names made r.named in
    let rest = (fit-first p.plus (tree_at old p.term) k waiting outer r.fit).1 in
    let m = plain_built place p.plus (tree_at old p.term) (cursor_at outer next k) in
    let some = eightfold-less-some (tree_size (tree_at old p.term)) in
    record {
      running = record {
        named = named;
        tasks = tasks-below old new grows named.shared todo r.tasks.1;
        fit = subst (λ (ts : List PlainTask). AreFit ts (outer_of new names.outer)) (sym tasks) (subst (AreFit waiting) (sym same) rest);
        right = (record { below = at.below; bool = bool }, results-right old new grows named.shared results r.right);
      };
      end = built-same place place (map (task_in new) todo) waiting (tree_at new id ∷ map (tree_at new) results) (m ∷ map (tree_at old) results) (outer_of new names.outer) outer next next refl tasks
          (ap (λ t. t ∷ map (tree_at new) results) at.tree ∙ ap (λ ts. m ∷ ts) (results-grow old new grows named.shared results r.right)) same refl
          ∙ sym (plain-next place p.plus (tree_at old p.term) k waiting (map (tree_at old) results) outer next rule);
      fewer = omega (arith, ap tasks_work tasks, work-more (Building p.plus (tree_at old p.term) k) waiting, some);
    }

-- two matrices are joined
pub join-step : (old new : List Tree) (o : Op) (todo : List Task) (results rest : List ℕ) (names : Names) (made : Memo) (levels : Levels) (id : ℕ) → Grows old new → AreShared new →
    IsRunning old (Join o ∷ todo) results names made → IsJoined old new o results rest id → IsNext old new (Join o ∷ todo) todo results (id ∷ rest) names names made levels levels
unfolding built
join-step old new o todo results rest names made levels id grows shared r j =
    let place = place_of names.constants.keys in
    let next = next_of levels.next.items levels.total in
    let outer = outer_of old names.outer in
    let waiting = map (task_in old) todo in
    let tasks = tasks-grow old new grows shared todo r.tasks.1 in
    let same = outer-same old new grows shared names made r.named in
    let f = fit-join o waiting outer r.fit in
    let right : AllByRecursion (IsResult old) (j.b ∷ j.a ∷ rest) = subst (AllByRecursion (IsResult old)) j.were r.right in
    let bool : tree_sort (tree_at new id) ≡ Some BoolSort = ap tree_sort j.joined.tree ∙ junction-bool o (tree_at old j.a) (tree_at old j.b) f.0 right.1.0.bool right.0.bool in
    let now : last_joined o (map (tree_at old) results) ≡ binary o (tree_at old j.a) (tree_at old j.b) ∷ map (tree_at old) rest = ap (λ rs. last_joined o (map (tree_at old) rs)) j.were in
    record {
      running = record {
        named = named-grows old new grows shared names made r.named;
        tasks = tasks-below old new grows shared todo r.tasks.1;
        fit = subst (λ (ts : List PlainTask). AreFit ts (outer_of new names.outer)) (sym tasks) (subst (AreFit waiting) (sym same) f.1);
        right = (record { below = j.joined.below; bool = bool }, results-right old new grows shared rest right.1.1);
      };
      end = built-same place place (map (task_in new) todo) waiting (tree_at new id ∷ map (tree_at new) rest) (last_joined o (map (tree_at old) results)) (outer_of new names.outer) outer next next refl tasks
          (ap (λ t. t ∷ map (tree_at new) rest) j.joined.tree ∙ ap (λ ts. binary o (tree_at old j.a) (tree_at old j.b) ∷ ts) (results-grow old new grows shared rest right.1.1) ∙ sym now) same refl;
      fewer = omega (arith, ap tasks_work tasks, work-more (Joining o) waiting);
    }

-- a quantifier is entered
test-turned : (a b : ℕ) → (a == b) ≡ nat_eq b a
test-turned a b = go (a == b) refl (nat_eq b a) refl
  where
    go : (x : Bool) → (a == b) ≡ x → (y : Bool) → nat_eq b a ≡ y → x ≡ y
    go true e true f = refl
    go false e false f = refl
    go true e false f = absurd (let same : a ≡ b = eq-from_test a b e in let t : nat_eq b a ≡ true = ap (λ n. nat_eq b n) same ∙ test-refl b in cc)
    go false e true f = absurd (let same : b ≡ a = eq-from_test b a f in let t : (a == b) ≡ true = ap (λ n. a == n) same ∙ test-refl a in cc)

outer-bound : (trees : List Tree) (before after : TermMap) (l v : ℕ) (x : Tree) → tree_at trees v ≡ x → ((q : ℕ) → get nat_eq after q ≡ cond (nat_eq l q) (Some v) (get nat_eq before q)) →
    outer_of trees after ≡ with_level (outer_of trees before) l x
outer-bound trees before after l v x e h = fun_ext (λ k. ap (option_map (tree_at trees)) (h k) ∙ go k (nat_eq l k) refl ∙ ap (λ b. if b then Some x else outer_of trees before k) (sym (test-turned k l)))
  where
    go : (k : ℕ) (b : Bool) → nat_eq l k ≡ b → option_map (tree_at trees) (cond b (Some v) (get nat_eq before k)) ≡ (if b then Some x else outer_of trees before k)
    go k true q = ap Some e
    go k false q = refl

outer-restored : (trees : List Tree) (before after : TermMap) (l : ℕ) (o : Option ℕ) → ((q : ℕ) → get nat_eq after q ≡ cond (nat_eq l q) o (get nat_eq before q)) →
    outer_of trees after ≡ restored (outer_of trees before) l (option_map (tree_at trees) o)
outer-restored trees before after l o h = fun_ext (λ k. ap (option_map (tree_at trees)) (h k) ∙ go k (nat_eq l k) ∙ ap (λ b. if b then option_map (tree_at trees) o else outer_of trees before k) (sym (test-turned k l)))
  where
    go : (k : ℕ) (b : Bool) → option_map (tree_at trees) (cond b o (get nat_eq before k)) ≡ (if b then option_map (tree_at trees) o else outer_of trees before k)
    go k true = refl
    go k false = refl

-- the terms of a map with one more, or one less
terms-more : (trees : List Tree) (before after : TermMap) (l : ℕ) (o : Option ℕ) → ((n : ℕ) → o ≡ Some n → n < length trees) → AreTermsOf trees before → ((q : ℕ) → get nat_eq after q ≡ cond (nat_eq l q) o (get nat_eq before q)) → AreTermsOf trees after
terms-more trees before after l o low there h k n e = go (nat_eq l k) (sym (h k) ∙ e)
  where
    go : (b : Bool) → cond b o (get nat_eq before k) ≡ Some n → n < length trees
    go true f = low n f
    go false f = there k n f

places-more : (outer : ℕ → Option Tree) (l : ℕ) (n : ℕ) (s : Sort) → ArePlaces outer → ArePlaces (with_level outer l (Variable n s))
places-more outer l n s h k = go (k == l)
  where
    go : (b : Bool) → IsPlace (if b then Some (Variable n s) else outer k)
    go true = (n, s, refl)
    go false = h k

places-restored : (outer : ℕ → Option Tree) (l : ℕ) (before : Option Tree) → IsPlace before → ArePlaces outer → ArePlaces (restored outer l before)
places-restored outer l before p h k = go (k == l)
  where
    go : (b : Bool) → IsPlace (if b then before else outer k)
    go true = p
    go false = h k

sorts-bound : (outer : ℕ → Option Tree) (l n : ℕ) (s : Sort) → sorts_of (with_level outer l (Variable n s)) ≡ with_level (sorts_of outer) l s
sorts-bound outer l n s = fun_ext (λ k. go k (k == l))
  where
    go : (k : ℕ) (b : Bool) → option_and_then (λ t. tree_sort t) (if b then Some (Variable n s) else outer k) ≡ (if b then Some s else sorts_of outer k)
    go k true = refl
    go k false = refl

task-leaving : (trees : List Tree) (l : ℕ) (o : Option ℕ) → task_in trees (leaving l o) ≡ Leaving l (option_map (tree_at trees) o)
task-leaving trees l None = refl
task-leaving trees l (Some n) = refl

leaving-below : (n l : ℕ) (o : Option ℕ) → ((k : ℕ) → o ≡ Some k → k < n) → IsTaskBelow n (leaving l o)
leaving-below n l None h = tt
leaving-below n l (Some k) h = h k refl

leaving-work : (trees : List Tree) (l : ℕ) (o : Option ℕ) → task_work (task_in trees (leaving l o)) ≡ 1
leaving-work trees l None = refl
leaving-work trees l (Some k) = refl

-- the cursor of a quantifier's body
cursor-is : (existential : Bool) (l : ℕ) (s : Sort) (lengths : List ℕ) (outer : ℕ → Option Tree) (next : ℕ → ℕ) (k : ℕ) →
    quantifier_cursor existential l s lengths (cursor_at outer next k)
    ≡ cursor_at (with_level outer l (Variable (next (if existential then k else suc k)) s)) (raised next (if existential then k else suc k) 1) (if existential then k else (if starts_empty lengths then k else k + 2))
cursor-is true l s lengths outer next k = refl
cursor-is false l s lengths outer next k = refl

pub bound-step : (old new : List Tree) (term k : ℕ) (todo todo' : List Task) (results : List ℕ) (names names' : Names) (made made' : Memo) (levels levels' : Levels) (q : Quantifier) → Grows old new → AreShared new →
    IsRunning old (Build (record { plus = q.plus; term = term }) k ∷ todo) results names made → rule_at q.plus (tree_at old term) ≡ BoundBy q.existential q.level q.sort (tree_at old q.body) → q.body < length old →
    IsBound old new q k todo todo' names names' levels levels' → IsForgotten made made' q.level → IsNext old new (Build (record { plus = q.plus; term = term }) k ∷ todo) todo' results results names names' made' levels levels'
bound-step old new term k todo todo' results names names' made made' levels levels' q grows shared r rule low b forgotten =
    let p : Part = record { plus = q.plus; term = term } in
    let t : Tree = tree_at old term in
    let place : ℕ → ℕ = place_of names.constants.keys in
    let next : ℕ → ℕ = next_of levels.next.items levels.total in
    let outer : ℕ → Option Tree = outer_of old names.outer in
    let waiting : List PlainTask = map (task_in old) todo in
    let own-block : ℕ = if q.existential then k else suc k in
    let own-level : ℕ = next own-block in
    let own : Tree = Variable own-level q.sort in
    let inner : ℕ = if q.existential then k else (if starts_empty (lengths_under q.plus (tree_at old q.body)) then k else k + 2) in
    let first = fit-first q.plus t k waiting outer r.fit in
    let parts = subst (AreSortedParts (sorts_of outer)) rule (parts-sorted (sorts_of outer) q.plus t first.0.sorted) in
    let bool = subst AreFormulas rule (parts-formulas (sorts_of outer) q.plus t first.0.sorted first.0.bool) in
    let body-now : tree_at new q.body ≡ tree_at old q.body = grown-tree old new grows q.body low in
    let tasks = tasks-grow old new grows shared todo r.tasks.1 in
    let same = outer-same old new grows shared names made r.named in
    let outer-now : outer_of new names'.outer ≡ with_level outer q.level own = outer-bound new names.outer names'.outer q.level b.variable own b.is.tree b.outer ∙ ap (λ (o : ℕ → Option Tree). with_level o q.level own) same in
    let sorts-now : sorts_of (outer_of new names'.outer) ≡ with_level (sorts_of outer) q.level q.sort = ap sorts_of outer-now ∙ sorts-bound outer q.level own-level q.sort in
    let rest-now : (task_in new (leaving q.level (get nat_eq names.outer q.level)) ∷ map (task_in new) todo) ≡ (Leaving q.level (outer q.level) ∷ waiting) =
    ap (λ (x : PlainTask). x ∷ map (task_in new) todo) (task-leaving new q.level (get nat_eq names.outer q.level) ∙ ap (λ (o : ℕ → Option Tree). Leaving q.level (o q.level)) same)
    ∙ ap (λ (ts : List PlainTask). Leaving q.level (outer q.level) ∷ ts) tasks in
    let less = eightfold-less (tree_size (tree_at old q.body)) (tree_size t) (sizes q.plus t (BoundBy q.existential q.level q.sort (tree_at old q.body)) rule).0 in
    subst (λ (ts : List Task). IsNext old new (Build p k ∷ todo) ts results results names names' made' levels levels') (sym b.tasks) (record {
      running = record {
        named = record {
          shared = shared;
          outer = terms-more new names.outer names'.outer q.level (Some b.variable) (λ n e. let same : b.variable ≡ n = cc in subst (λ (m : ℕ). m < length new) same b.is.below) (named-grows old new grows shared names made r.named).outer b.outer;
          places = subst ArePlaces (sym outer-now) (places-more outer q.level own-level q.sort r.named.places);
          renamed = renamed-behind new names names' made made' q.level (Some b.variable) b.constants b.outer forgotten (named-grows old new grows shared names made r.named).renamed;
        };
        tasks = (grown-within old new grows q.body low, (leaving-below (length new) q.level (get nat_eq names.outer q.level) (λ n e. grown-within old new grows n (r.named.outer q.level n e)), tasks-below old new grows shared todo r.tasks.1));
        fit = fit-built q.plus (tree_at new q.body) b.inner (task_in new (leaving q.level (get nat_eq names.outer q.level)) ∷ map (task_in new) todo) (outer_of new names'.outer)
            (record { sorted = subst (λ (o : ℕ → Option Sort). IsSortedBelow o (tree_at new q.body)) (sym sorts-now) (subst (IsSortedBelow (with_level (sorts_of outer) q.level q.sort)) (sym body-now) parts.1); bool = ap tree_sort body-now ∙ bool })
            (subst (λ (ts : List PlainTask). AreFit ts (outer_of new names'.outer)) (sym rest-now) (subst (AreFit (Leaving q.level (outer q.level) ∷ waiting)) (sym outer-now)
            (fit-leaving q.level (outer q.level) waiting (with_level outer q.level own) (r.named.places q.level) (subst (AreFit waiting) (sym (restored-same outer q.level own)) first.1))));
        right = results-right old new grows shared results r.right;
      };
      end = built-same (place_of names'.constants.keys) place (map (task_in new) (Build (record { plus = q.plus; term = q.body }) b.inner ∷ leaving q.level (get nat_eq names.outer q.level) ∷ todo))
          (Building q.plus (tree_at old q.body) inner ∷ Leaving q.level (outer q.level) ∷ waiting) (map (tree_at new) results) (map (tree_at old) results) (outer_of new names'.outer) (with_level outer q.level own)
          (next_of levels'.next.items levels'.total) (raised next own-block 1)
          (ap place_of b.constants)
          (ap (λ (x : Tree). Building q.plus x b.inner ∷ task_in new (leaving q.level (get nat_eq names.outer q.level)) ∷ map (task_in new) todo) body-now
          ∙ ap (λ (n : ℕ). Building q.plus (tree_at old q.body) n ∷ task_in new (leaving q.level (get nat_eq names.outer q.level)) ∷ map (task_in new) todo) b.inner_is
          ∙ ap (λ (ts : List PlainTask). Building q.plus (tree_at old q.body) inner ∷ ts) rest-now)
          (results-grow old new grows shared results r.right) outer-now (fun_ext b.next)
          ∙ ap (λ (z : Cursor). built place (Building q.plus (tree_at old q.body) z.block ∷ Leaving q.level (outer q.level) ∷ waiting) (map (tree_at old) results) z.outer z.next) (sym (cursor-is q.existential q.level q.sort (lengths_under q.plus (tree_at old q.body)) outer next k))
          ∙ sym (bound-next place q.plus t k waiting (map (tree_at old) results) outer next q.existential q.level q.sort (tree_at old q.body) rule);
      fewer = omega (
        arith,
        less.0,
        less.1,
        ap tree_size body-now,
        ap eightfold (ap tree_size body-now),
        ap tasks_work tasks,
        work-more (Building q.plus (tree_at new q.body) b.inner) (task_in new (leaving q.level (get nat_eq names.outer q.level)) ∷ map (task_in new) todo),
        work-more (task_in new (leaving q.level (get nat_eq names.outer q.level))) (map (task_in new) todo),
        leaving-work new q.level (get nat_eq names.outer q.level),
        work-more (Building q.plus t k) waiting,
      );
    })

-- behind a quantifier
pub leave-step : (trees : List Tree) (task : Task) (l : ℕ) (before : Option ℕ) (todo : List Task) (results : List ℕ) (names names' : Names) (made made' : Memo) (levels levels' : Levels) → task ≡ leaving l before →
    IsRunning trees (task ∷ todo) results names made → ((q : ℕ) → get nat_eq names'.outer q ≡ cond (nat_eq l q) before (get nat_eq names.outer q)) → names'.constants.keys ≡ names.constants.keys → levels'.next.items ≡ levels.next.items → levels'.total ≡ levels.total →
    IsForgotten made made' l → ((n : ℕ) → before ≡ Some n → n < length trees) → IsNext trees trees (task ∷ todo) todo results results names names' made' levels levels'
unfolding built
leave-step trees task l before todo results names names' made made' levels levels' is r outer-is constants next total forgotten low =
    let outer : ℕ → Option Tree = outer_of trees names.outer in
    let waiting : List PlainTask = map (task_in trees) todo in
    let now : task_in trees task ≡ Leaving l (option_map (tree_at trees) before) = ap (task_in trees) is ∙ task-leaving trees l before in
    let f = fit-leave l (option_map (tree_at trees) before) waiting outer (subst (λ (x : PlainTask). AreFit (x ∷ waiting) outer) now r.fit) in
    let outer-now : outer_of trees names'.outer ≡ restored outer l (option_map (tree_at trees) before) = outer-restored trees names.outer names'.outer l before outer-is in
    let one : task_work (task_in trees task) ≡ 1 = ap (λ (x : Task). task_work (task_in trees x)) is ∙ leaving-work trees l before in
    record {
      running = record {
        named = record {
          shared = r.named.shared;
          outer = terms-more trees names.outer names'.outer l before low r.named.outer outer-is;
          places = subst ArePlaces (sym outer-now) (places-restored outer l (option_map (tree_at trees) before) f.0 r.named.places);
          renamed = renamed-behind trees names names' made made' l before constants outer-is forgotten r.named.renamed;
        };
        tasks = r.tasks.1;
        fit = subst (AreFit waiting) (sym outer-now) f.1;
        right = r.right;
      };
      end = built-same (place_of names'.constants.keys) (place_of names.constants.keys) waiting waiting (map (tree_at trees) results) (map (tree_at trees) results) (outer_of trees names'.outer) (restored outer l (option_map (tree_at trees) before))
          (next_of levels'.next.items levels'.total) (next_of levels.next.items levels.total) (ap place_of constants) refl refl outer-now (ap (λ ns. next_of ns levels'.total) next ∙ ap (next_of levels.next.items) total)
          ∙ sym (ap (λ (x : PlainTask). built (place_of names.constants.keys) (x ∷ waiting) (map (tree_at trees) results) outer (next_of levels.next.items levels.total)) now);
      fewer = omega (arith, one, work-more (task_in trees task) waiting);
    }

-- the rule of a part where the store has grown
pub rule-now : (old mid : List Tree) (plus : Bool) (term : ℕ) (r : PlainRule) → Grows old mid → term < length old → r ≡ rule_at plus (tree_at old term) → rule_at plus (tree_at mid term) ≡ r
rule-now old mid plus term r grows low e = ap (rule_at plus) (grown-tree old mid grows term low) ∙ sym e

-- one more at the end
pub pushed : {A : Type 0} (xs ys : List A) (x : A) → ys ≡ xs ++ x ∷ [] → reverse ys ≡ x ∷ reverse xs
pushed xs ys x e = ap reverse e ∙ reverse-append xs (x ∷ [])

-- the sort of a quantifier's variable is lawful
pub bound-lawful : (trees : List Tree) (p : Part) (k : ℕ) (todo : List Task) (results : List ℕ) (names : Names) (made : Memo) (levels : Levels) → IsRunning trees (Build p k ∷ todo) results names made →
    (existential : Bool) (l : ℕ) (s : Sort) (body : Tree) → rule_at p.plus (tree_at trees p.term) ≡ BoundBy existential l s body → IsLawful s
bound-lawful trees p k todo results names made levels r existential l s body e = (sorted-by trees p k todo results names made levels r (BoundBy existential l s body) e).0

pub both-ok : {A E : Type 0} (r : Result A E) {P Q R : Type 0} → (P → Q → R) → OnOk r P → OnOk r Q → OnOk r R
both-ok (Ok x) go h k = go h k
both-ok (Err e) go h k = tt

pub one-below : (id n : ℕ) → id < n → (k : ℕ) → Some id ≡ Some k → k < n
one-below id n h k e = let same : id ≡ k = cc in subst (λ (m : ℕ). m < n) same h

-- the start
none-outer : (trees : List Tree) (outer : TermMap) → outer.entries ≡ [] → outer_of trees outer ≡ no_levels
none-outer trees outer e = fun_ext (λ k. ap (option_map (tree_at trees)) (let none : get nat_eq outer k ≡ None = rw e refl in none))

pub record Starts (trees : List Tree) (root : ℕ) (names : Names) (made : Memo) (levels : Levels) : Type 0 where
  pub running : IsRunning trees (Build (record { plus = true; term = root }) 0 ∷ []) [] names made
  pub end : end_of trees (Build (record { plus = true; term = root }) 0 ∷ []) [] names levels
      ≡ matrix_under (place_of names.constants.keys) true (tree_at trees root) (cursor_at no_levels (next_of levels.next.items levels.total) 0) ∷ []

pub starts : (trees : List Tree) (root : ℕ) (names : Names) (made : Memo) (levels : Levels) → AreShared trees → root < length trees → tree_sort (tree_at trees root) ≡ Some BoolSort → names.outer.entries ≡ [] → IsNew made → Starts trees root names made levels
unfolding built AreFit
starts trees root names made levels shared low bool closed none =
    let outer-now = none-outer trees names.outer closed in
    let sorts-now : sorts_of (outer_of trees names.outer) ≡ no_levels = ap sorts_of outer-now ∙ fun_ext (λ k. refl) in
    record {
      running = record {
        named = record {
          shared = shared;
          outer = λ l n e. absurd (let gone : get nat_eq names.outer l ≡ None = rw closed refl in cc);
          places = subst ArePlaces (sym outer-now) (λ k. tt);
          renamed = none-rebuilt (leaf_top (place_of names.constants.keys) (outer_of trees names.outer)) trees made none;
        };
        tasks = (low, tt);
        fit = (record { sorted = subst (λ (o : ℕ → Option Sort). IsSortedBelow o (tree_at trees root)) (sym sorts-now) (shared.sorted root low); bool = bool }, tt);
        right = tt;
      };
      end = ap (λ (o : ℕ → Option Tree). matrix_under (place_of names.constants.keys) true (tree_at trees root) (cursor_at o (next_of levels.next.items levels.total) 0) ∷ []) outer-now;
    }

-- the end
pub ends : (trees : List Tree) (results : List ℕ) (names : Names) (levels : Levels) (m : Tree) → end_of trees [] results names levels ≡ m ∷ [] → (id : ℕ) × (results ≡ id ∷ []) × (tree_at trees id ≡ m)
unfolding built
ends trees [] names levels m e = absurd (cc)
ends trees (id ∷ []) names levels m e = (id, refl, cc)
ends trees (id ∷ other ∷ rest) names levels m e = absurd (cc)

pub last-stands : (trees : List Tree) (results rest : List ℕ) (names : Names) (levels : Levels) (id : ℕ) (m : Tree) → results ≡ id ∷ rest → id < length trees → end_of trees [] results names levels ≡ m ∷ [] → StandsAt trees id m
last-stands trees results rest names levels id m e low end =
    let found = ends trees results names levels m end in
    let both : id ∷ rest ≡ found.0 ∷ [] = sym e ∙ found.1 in
    let same : found.0 ≡ id = cc in
    record { below = low; tree = ap (tree_at trees) (sym same) ∙ found.2 }
