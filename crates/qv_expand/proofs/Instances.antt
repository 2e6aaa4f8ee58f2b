-- The lines of a universal block.
use Rattle.std.proofs.Common.{◌≡◌, ℕ, suc, ◌+◌, ◌<◌, false, Some, None, Option, List, [], ◌∷◌, ◌++◌, map, refl, sym, ap, ◌∙◌, subst, length, take, drop, slice_get, arith}
use Rattle.std.specs.Prelude.{All, IfSome, IsSome, IsSomeAnd, option_map}
use Rattle.std.specs.List.{AllZip}
use Rattle.std.proofs.lemmas.List.{length-map, take-map}
use Rattle.std.proofs.lemmas.List.Elements.{All-from_recursion, recursion_from_All}
use Rattle.std.proofs.lemmas.Option.{same_Some, slice_get_within}
use Rattle.qv_words.specs.declared.sort.Sort.{Sort}
use Rattle.qv_words.specs.Tree.{Tree, tree_sort}
use Rattle.qv_words.specs.Sorted.{free_levels}
use Rattle.qv_words.specs.Replacement.{replaced}
use Rattle.qv_words.specs.Problem.{Problem, Place, Universal}
use Rattle.qv_words.specs.Skolem.{IsTermOf}
use Rattle.qv_words.specs.Expansion.{Instance}
use Rattle.qv_words.specs.Linked.{Drawn, Entry, IsPlaceBelow, blocks_of, on_path, paths_of, places_below, with_instances, with_line}
use Rattle.qv_words.proofs.Elements.{all-at, all-weaker, found-at, get-map, get-taken, zip-at, zip-length}
use Rattle.qv_game_laws.specs.PathLaws.{IsLongerTree}
use Rattle.qv_game_laws.proofs.GameSteps.{owned-terms}
use Rattle.qv_store.specs.declared.problem.Problem.{Problem as Posed}
use Rattle.qv_store.specs.Nodes.{tree_at}
use Rattle.qv_store.specs.Stores.{Grows}
use Rattle.qv_store.specs.Problems.{places_of, problem_in}
use Rattle.qv_store.specs.Walks.{named}
use Rattle.qv_store.specs.Replacing.{IsReplaceable, put_by_level, term_of_level}
use Rattle.qv_store.proofs.Replacement.{grown-tree, grown-within}
use Rattle.qv_entries.specs.Rows.{Row, entries_in, entry_in, IsRowIn}
use Rattle.qv_meter.proofs.Fresh.{linked}
use Rattle.qv_meter.specs.Units.{LineUnit}
use Rattle.qv_meter.specs.Records.{Metering, after_instance}
use Rattle.qv_meter.specs.Charging.{MayChargeInstance}
use Rattle.qv_skolem.specs.Blocks.{run_length, sorts_of}
use Rattle.qv_skolem.proofs.Leading.{put-sort}
use Rattle.qv_expand.specs.declared.growing.Growing.{Growing}
use Rattle.qv_expand.specs.Growth.{drawn_in, slot_tree, whole_tree, with_entry, IsExpanding, IsGrowing, IsLonger, MayDraw, StandsBefore}
use Rattle.qv_expand.proofs.BlockPlaces.{block-next, get-drop, instance-next, with-instances_of, IsBlockNext}
use Rattle.qv_expand.proofs.NextLine.{drawn-on, expanding-on, unit-on}
use Rattle.qv_expand.proofs.OneLine.{path-put}

-- a term over places on the path may have the path put in
pub path-ready : (p : Problem) (trees : List Tree) (g : Growing) (n : ℕ) (t : Tree) (s : Sort) → IsGrowing p trees g → IsTermOf t s → All (IsPlaceBelow p n) (free_levels t) → IsReplaceable (put_by_level trees g.path.items) t
path-ready p trees g n t s h term over = record {
  quantifier_free = term.quantifier_free;
  sorts = All-from_recursion (λ leaf. IfSome (put_by_level trees g.path.items leaf.0) (λ put. tree_sort put ≡ Some leaf.1)) (free_levels t)
      (all-weaker (IsPlaceBelow p n) (λ leaf. IfSome (put_by_level trees g.path.items leaf.0) (λ put. tree_sort put ≡ Some leaf.1)) (free_levels t) (λ leaf below. at leaf.0 leaf.1 below.1 (term_of_level g.path.items leaf.0) refl) (recursion_from_All (IsPlaceBelow p n) (free_levels t) over));
}
  where
    one : (o : Option Place) (u : Tree) (r : Sort) → IsSomeAnd o (λ place. place.sort ≡ r) → IsSomeAnd o (λ place. tree_sort u ≡ Some place.sort) → tree_sort u ≡ Some r
    one None u r k e = absurd k
    one (Some place) u r k e = e ∙ ap (λ (q : Sort). Some q) k

    at : (l : ℕ) (r : Sort) → IsSomeAnd (slice_get p.prefix l) (λ place. place.sort ≡ r) → (o : Option ℕ) → term_of_level g.path.items l ≡ o → IfSome (option_map (tree_at trees) o) (λ put. tree_sort put ≡ Some r)
    at l r place None e = tt
    at l r place (Some id) e = one (slice_get p.prefix l) (tree_at trees id) r place (h.typed l id e)

-- the terms of an entry, which come next
module _ (trees : List Tree) (problem : Posed) (rows : List Row) (m : Metering) (g : Growing) (n : ℕ) (row : Row) (h : IsExpanding trees problem rows m g) (may : MayDraw trees problem rows g n) (owner : StandsBefore problem Universal g) (at-row : slice_get rows n ≡ Some row) where
  next-block : IsBlockNext (problem_in trees problem) (entries_in trees rows) (length g.path.items) n Universal may.is
  next-block = block-next (problem_in trees problem) (entries_in trees rows) (length g.path.items) n Universal (linked (problem_in trees problem) [] (entries_in trees rows) h.played) may.is owner

  entry-is : may.is.entry ≡ entry_in trees row
  entry-is = same_Some may.is.entry (entry_in trees row) (sym may.is.here ∙ get-map (entry_in trees) rows n row at-row)

  row-in : IsRowIn trees row
  row-in = all-at (IsRowIn trees) rows n row (recursion_from_All (IsRowIn trees) rows h.within) at-row

  pub terms-drawn : with_entry (problem_in trees problem) (entries_in trees rows) (drawn_in trees (paths_of (problem_in trees problem) (entries_in trees rows)) g) n ≡ with_instances n (drawn_in trees (paths_of (problem_in trees problem) (entries_in trees rows)) g) (named trees row.terms)
  terms-drawn =
      let p = problem_in trees problem in
      let es = entries_in trees rows in
      let start = drawn_in trees (paths_of p es) g in
      with-instances_of p es start (length g.path.items) n may.is next-block ∙ ap (λ (e : Entry). with_instances n start e.terms) entry-is

  terms-longer : IsLongerTree (with_instances n (drawn_in trees (paths_of (problem_in trees problem) (entries_in trees rows)) g) (named trees row.terms)) (whole_tree (problem_in trees problem) (entries_in trees rows))
  terms-longer = subst (λ (d : Drawn). IsLongerTree d (whole_tree (problem_in trees problem) (entries_in trees rows))) terms-drawn may.longer

  run-sorts : List Sort
  run-sorts = sorts_of (take (run_length Universal (drop (length g.path.items) (places_of problem))) (drop (length g.path.items) (places_of problem)))

  typed-terms : AllZip (λ t s. IsTermOf t s × All (IsPlaceBelow (problem_in trees problem) (places_below (blocks_of (places_of problem)) may.is.entry.level)) (free_levels t)) (named trees row.terms) run-sorts
  unfolding run-sorts
  typed-terms =
      let p = problem_in trees problem in
      let es = entries_in trees rows in
      let own = owned-terms p es n may.is.entry (record { owner = Universal; sorts = run-sorts }) (record { problem = h.posed.problem; linked = linked p [] es h.played; here = may.is.here; at_level = next-block.numbered }) may.is.winner in
      subst (λ (ts : List Tree). AllZip (λ t s. IsTermOf t s × All (IsPlaceBelow p (places_below (blocks_of p.prefix) may.is.entry.level)) (free_levels t)) ts run-sorts) (ap (λ (e : Entry). e.terms) entry-is) own

  -- a term of the row, and the place for which it is
  record IsTermNext (i id : ℕ) : Type 0 where
    below : id < length trees
    place : Place
    here : slice_get (places_of problem) (length g.path.items + i) ≡ Some place
    term : IsTermOf (tree_at trees id) place.sort
    over : All (IsPlaceBelow (problem_in trees problem) (places_below (blocks_of (places_of problem)) may.is.entry.level)) (free_levels (tree_at trees id))
    at : slice_get (named trees row.terms) i ≡ Some (tree_at trees id)

  term-next : (i id : ℕ) → slice_get row.terms i ≡ Some id → IsTermNext i id
  unfolding run-sorts
  term-next i id has =
      let p = problem_in trees problem in
      let at = get-map (tree_at trees) row.terms i id has in
      let many = zip-length (λ t s. IsTermOf t s × All (IsPlaceBelow p (places_below (blocks_of p.prefix) may.is.entry.level)) (free_levels t)) (named trees row.terms) run-sorts typed-terms in
      let low = slice_get_within (named trees row.terms) i (tree_at trees id) at in
      let s = found-at run-sorts i (omega (arith, many, low)) in
      let own = zip-at (λ t s. IsTermOf t s × All (IsPlaceBelow p (places_below (blocks_of p.prefix) may.is.entry.level)) (free_levels t)) (named trees row.terms) run-sorts i s.0 typed-terms s.1 in
      let same : own.0 ≡ tree_at trees id = same_Some own.0 (tree_at trees id) (sym own.1 ∙ at) in
      let run : List Place = take (run_length Universal (drop (length g.path.items) (places_of problem))) (drop (length g.path.items) (places_of problem)) in
      let size : length run-sorts ≡ length run = length-map run (λ (q : Place). q.sort) in
      let q = found-at run i (omega (arith, many, low, size)) in
      let sort : q.0.sort ≡ s.0 = same_Some q.0.sort s.0 (sym (get-map (λ (x : Place). x.sort) run i q.0 q.1) ∙ s.1) in
      record {
        below = all-at (λ k. k < length trees) row.terms i id (recursion_from_All (λ k. k < length trees) row.terms row-in.terms) has;
        place = q.0;
        here = sym (get-drop (length g.path.items) (places_of problem) i) ∙ get-taken (drop (length g.path.items) (places_of problem)) (run_length Universal (drop (length g.path.items) (places_of problem))) i q.0 q.1;
        term = subst (λ (t : Tree). IsTermOf t q.0.sort) same (subst (IsTermOf own.0) (sym sort) own.2.0);
        over = subst (λ (t : Tree). All (IsPlaceBelow p (places_below (blocks_of p.prefix) may.is.entry.level)) (free_levels t)) same own.2.1;
        at = at;
      }

  -- one more
  module _ (mid : List Tree) (m' : Metering) (g' : Growing) (i id : ℕ) (grows : Grows trees mid) (now : IsExpanding mid problem rows m' g') (deep : length g'.path.items ≡ length g.path.items + i)
      (drawn : drawn_in mid (paths_of (problem_in trees problem) (entries_in trees rows)) g' ≡ with_instances n (drawn_in trees (paths_of (problem_in trees problem) (entries_in trees rows)) g) (named trees (take i row.terms))) (has : slice_get row.terms i ≡ Some id) where
    put-tree : Tree
    put-tree = replaced (put_by_level mid g'.path.items) (tree_at mid id)

    pub term-below : id < length mid
    term-below = grown-within trees mid grows id (term-next i id has).below

    pub term-ready : IsReplaceable (put_by_level mid g'.path.items) (tree_at mid id)
    term-ready =
        let next = term-next i id has in
        subst (IsReplaceable (put_by_level mid g'.path.items)) (sym (grown-tree trees mid grows id next.below))
        (path-ready (problem_in mid problem) mid g' (places_below (blocks_of (places_of problem)) may.is.entry.level) (tree_at trees id) next.place.sort now.growing next.term next.over)

    put-sorted : tree_sort (replaced (put_by_level mid g'.path.items) (tree_at mid id)) ≡ Some (term-next i id has).place.sort
    put-sorted =
        let next = term-next i id has in
        put-sort (put_by_level mid g'.path.items) (tree_at mid id) term-ready ∙ ap (λ (t : Tree). tree_sort t) (grown-tree trees mid grows id next.below) ∙ next.term.sort

    drawn-taken : drawn_in mid (paths_of (problem_in trees problem) (entries_in trees rows)) g' ≡ with_instances n (drawn_in trees (paths_of (problem_in trees problem) (entries_in trees rows)) g) (take i (named trees row.terms))
    drawn-taken = drawn ∙ ap (with_instances n (drawn_in trees (paths_of (problem_in trees problem) (entries_in trees rows)) g)) (sym (take-map (tree_at trees) i row.terms))

    on-path : on_path (map (slot_tree mid) g'.path.items) (tree_at trees id) ≡ replaced (put_by_level mid g'.path.items) (tree_at mid id)
    on-path =
        ap (λ (put : ℕ → Option Tree). replaced put (tree_at trees id)) (sym (path-put mid g'.path.items (recursion_from_All IsSome g'.path.items now.growing.filled)))
        ∙ ap (λ (t : Tree). replaced (put_by_level mid g'.path.items) t) (sym (grown-tree trees mid grows id (term-next i id has).below))

    steps : (with_instances n (drawn_in trees (paths_of (problem_in trees problem) (entries_in trees rows)) g) (take (suc i) (named trees row.terms)) ≡ with_line n (drawn_in mid (paths_of (problem_in trees problem) (entries_in trees rows)) g') (Instance g'.parent (replaced (put_by_level mid g'.path.items) (tree_at mid id))) (replaced (put_by_level mid g'.path.items) (tree_at mid id)))
        × IsLongerTree (with_line n (drawn_in mid (paths_of (problem_in trees problem) (entries_in trees rows)) g') (Instance g'.parent (replaced (put_by_level mid g'.path.items) (tree_at mid id))) (replaced (put_by_level mid g'.path.items) (tree_at mid id))) (whole_tree (problem_in trees problem) (entries_in trees rows))
    steps =
        let p = problem_in trees problem in
        let es = entries_in trees rows in
        let start = drawn_in trees (paths_of p es) g in
        let t0 = tree_at trees id in
        let next = instance-next n start (whole_tree p es) (named trees row.terms) i t0 (term-next i id has).at terms-longer in
        let before = with_instances n start (take i (named trees row.terms)) in
        let same : with_line n before (Instance before.parent (on_path before.path t0)) (on_path before.path t0) ≡ with_line n (drawn_in mid (paths_of p es) g') (Instance g'.parent (replaced (put_by_level mid g'.path.items) (tree_at mid id))) (replaced (put_by_level mid g'.path.items) (tree_at mid id)) =
        ap (λ (d : Drawn). with_line n d (Instance d.parent (on_path d.path t0)) (on_path d.path t0)) (sym drawn-taken) ∙ ap (λ (t : Tree). with_line n (drawn_in mid (paths_of p es) g') (Instance g'.parent t) t) on-path in
        (next.0 ∙ same, subst (λ (d : Drawn). IsLongerTree d (whole_tree p es)) same next.1)

    pub instance-unit : MayChargeInstance m' (LineUnit (entries_in mid rows) (g'.under.items ++ n ∷ []))
    instance-unit = unit-on trees mid problem rows m' g' n false (replaced (put_by_level mid g'.path.items) (tree_at mid id)) grows h.posed h.within now steps.1

    module _ (new : List Tree) (m'' : Metering) (g'' : Growing) (more : Grows mid new) (line : IsLonger g' g'' n false new (replaced (put_by_level mid g'.path.items) (tree_at mid id))) (charged : m'' ≡ after_instance m') where
      here : slice_get (places_of problem) (length g'.path.items) ≡ Some (term-next i id has).place
      here = ap (slice_get (places_of problem)) deep ∙ (term-next i id has).here

      pub instance-expanding : IsExpanding new problem rows m'' g''
      instance-expanding = expanding-on trees mid problem rows m' g' n false (replaced (put_by_level mid g'.path.items) (tree_at mid id)) grows h.posed h.within now steps.1 new g'' m'' (term-next i id has).place more line charged here put-sorted

      pub instance-drawn : drawn_in new (paths_of (problem_in trees problem) (entries_in trees rows)) g'' ≡ with_instances n (drawn_in trees (paths_of (problem_in trees problem) (entries_in trees rows)) g) (named trees (take (i + 1) row.terms))
      instance-drawn =
          let one : suc i ≡ i + 1 = omega arith in
          drawn-on trees mid problem rows m' g' n false (replaced (put_by_level mid g'.path.items) (tree_at mid id)) grows h.posed h.within now steps.1 new g'' m'' (term-next i id has).place more line charged here put-sorted
          ∙ sym steps.0
          ∙ ap (λ (k : ℕ). with_instances n (drawn_in trees (paths_of (problem_in trees problem) (entries_in trees rows)) g) (take k (named trees row.terms))) one
          ∙ ap (with_instances n (drawn_in trees (paths_of (problem_in trees problem) (entries_in trees rows)) g)) (take-map (tree_at trees) (i + 1) row.terms)
