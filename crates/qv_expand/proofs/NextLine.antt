-- The next line of a tree, in a store that has grown since.
use Rattle.std.proofs.Common.{◌≡◌, ℕ, ◌+◌, Bool, Some, None, Option, List, [], ◌∷◌, ◌++◌, refl, sym, ap, ◌∙◌, subst, length, slice_get, arith}
use Rattle.std.specs.Prelude.{All, IsSomeAnd, option_map}
use Rattle.qv_words.specs.Tree.{Tree, tree_sort}
use Rattle.qv_words.specs.Problem.{Problem, Place}
use Rattle.qv_words.specs.Linked.{Entry, paths_of, with_line}
use Rattle.qv_game_laws.specs.PathLaws.{IsLongerTree}
use Rattle.qv_store.specs.declared.problem.Problem.{Problem as Posed}
use Rattle.qv_store.specs.Stores.{Grows}
use Rattle.qv_store.specs.Problems.{places_of, problem_in, IsPosedIn}
use Rattle.qv_entries.specs.Rows.{Row, entries_in, IsRowIn}
use Rattle.qv_meter.specs.Units.{LineUnit}
use Rattle.qv_meter.specs.Records.{Kept, Metering, Record, after_instance, one_more_instance}
use Rattle.qv_meter.specs.Charging.{MayChargeInstance, OfNewest}
use Rattle.qv_skolem.proofs.GrownEntries.{entries-grown}
use Rattle.qv_expand.specs.declared.growing.Growing.{Growing}
use Rattle.qv_expand.specs.Charges.{HasCounted, OnlyCounts, more_instances, record_with}
use Rattle.qv_expand.specs.Growth.{drawn_in, whole_tree, IsExpanding, IsLonger}
use Rattle.qv_expand.proofs.OneLine.{line-drawn, line-expanding, line-unit, line_of, problem-grown}

-- what was counted
pub none-more : (m : Metering) → m ≡ more_instances 0 m
none-more m = ap (λ (o : Option Record). record { older = m.older; newest = o; lane = m.lane }) (go m.newest)
  where
    same : (r : Record) → r ≡ record_with 0 r
    same r = let sum : r.instances ≡ r.instances + 0 = omega arith in ap (λ (n : ℕ). record { kept = r.kept; limits = r.limits; conflicts = r.conflicts; instances = n; over = r.over }) sum

    go : (o : Option Record) → o ≡ option_map (record_with 0) o
    go None = refl
    go (Some r) = ap (λ (x : Record). Some x) (same r)

pub none-counted : (m : Metering) → OnlyCounts m m
none-counted m = record { count = 0; counted = none-more m }

pub one-counted : (a b c : Metering) → OnlyCounts a b → c ≡ after_instance b → OnlyCounts a c
one-counted a b c h e = record { count = h.count + 1; counted = e ∙ ap after_instance h.counted ∙ ap (λ (o : Option Record). record { older = a.older; newest = o; lane = a.lane }) (go a.newest) }
  where
    same : (r : Record) → one_more_instance (record_with h.count r) ≡ record_with (h.count + 1) r
    same r =
        let sum : r.instances + h.count + 1 ≡ r.instances + (h.count + 1) = omega arith in
        ap (λ (n : ℕ). record { kept = r.kept; limits = r.limits; conflicts = r.conflicts; instances = n; over = r.over }) sum

    go : (o : Option Record) → option_map one_more_instance (option_map (record_with h.count) o) ≡ option_map (record_with (h.count + 1)) o
    go None = refl
    go (Some r) = ap (λ (x : Record). Some x) (same r)

module _ (old mid : List Tree) (problem : Posed) (rows : List Row) (m : Metering) (g : Growing) (n : ℕ) (eigen : Bool) (t : Tree) (grows : Grows old mid) (posed : IsPosedIn old problem) (within : All (IsRowIn old) rows) (h : IsExpanding mid problem rows m g)
    (longer : IsLongerTree (with_line n (drawn_in mid (paths_of (problem_in old problem) (entries_in old rows)) g) (line_of eigen g.parent t) t) (whole_tree (problem_in old problem) (entries_in old rows))) where
  same-problem : problem_in mid problem ≡ problem_in old problem
  same-problem = problem-grown old mid grows problem posed

  same-entries : entries_in mid rows ≡ entries_in old rows
  same-entries = entries-grown old mid grows rows within

  longer-now : IsLongerTree (with_line n (drawn_in mid (paths_of (problem_in mid problem) (entries_in mid rows)) g) (line_of eigen g.parent t) t) (whole_tree (problem_in mid problem) (entries_in mid rows))
  longer-now =
      subst (λ (q : Problem). IsLongerTree (with_line n (drawn_in mid (paths_of q (entries_in mid rows)) g) (line_of eigen g.parent t) t) (whole_tree q (entries_in mid rows))) (sym same-problem)
      (subst (λ (fs : List Entry). IsLongerTree (with_line n (drawn_in mid (paths_of (problem_in old problem) fs) g) (line_of eigen g.parent t) t) (whole_tree (problem_in old problem) fs)) (sym same-entries) longer)

  pub unit-on : MayChargeInstance m (LineUnit (entries_in mid rows) (g.under.items ++ n ∷ []))
  unit-on = line-unit mid problem rows m g h n (line_of eigen g.parent t) t longer-now

  module _ (new : List Tree) (g' : Growing) (m' : Metering) (place : Place) (more : Grows mid new) (line : IsLonger g g' n eigen new t) (charged : m' ≡ after_instance m) (here : slice_get (places_of problem) (length g.path.items) ≡ Some place) (sort : tree_sort t ≡ Some place.sort) where
    pub expanding-on : IsExpanding new problem rows m' g'
    expanding-on = line-expanding mid problem rows m g h new g' m' n eigen t place more line charged here sort longer-now

    pub drawn-on : drawn_in new (paths_of (problem_in old problem) (entries_in old rows)) g' ≡ with_line n (drawn_in mid (paths_of (problem_in old problem) (entries_in old rows)) g) (line_of eigen g.parent t) t
    drawn-on =
        subst (λ (q : Problem). drawn_in new (paths_of q (entries_in old rows)) g' ≡ with_line n (drawn_in mid (paths_of q (entries_in old rows)) g) (line_of eigen g.parent t) t) same-problem
        (subst (λ (fs : List Entry). drawn_in new (paths_of (problem_in mid problem) fs) g' ≡ with_line n (drawn_in mid (paths_of (problem_in mid problem) fs) g) (line_of eigen g.parent t) t) same-entries
        (line-drawn mid problem rows m g h new g' m' n eigen t place more line charged here sort longer-now))

pub counted-on : (a b c : Metering) → OnlyCounts a b → OnlyCounts b c → OnlyCounts a c
counted-on a b c h k = record { count = h.count + k.count; counted = k.counted ∙ ap (more_instances k.count) h.counted ∙ ap (λ (o : Option Record). record { older = a.older; newest = o; lane = a.lane }) (go a.newest) }
  where
    same : (r : Record) → record_with k.count (record_with h.count r) ≡ record_with (h.count + k.count) r
    same r =
        let sum : r.instances + h.count + k.count ≡ r.instances + (h.count + k.count) = omega arith in
        ap (λ (n : ℕ). record { kept = r.kept; limits = r.limits; conflicts = r.conflicts; instances = n; over = r.over }) sum

    go : (o : Option Record) → option_map (record_with k.count) (option_map (record_with h.count) o) ≡ option_map (record_with (h.count + k.count)) o
    go None = refl
    go (Some r) = ap (λ (x : Record). Some x) (same r)

-- how much, where the counts are known
pub count-known : (a b : Metering) (p : Problem) (entries : List Entry) (n : ℕ) → OnlyCounts a b → OfNewest a (HasCounted p entries 0) → OfNewest b (HasCounted p entries n) → b ≡ more_instances n a
count-known a b p entries n h before after =
    let same : h.count ≡ n = by a.newest before (subst (λ (m : Metering). OfNewest m (HasCounted p entries n)) h.counted after) in
    h.counted ∙ ap (λ (k : ℕ). more_instances k a) same
  where
    inner : (r : Record) (o : Option Kept) → IsSomeAnd o (HasCounted p entries 0 r) → IsSomeAnd o (HasCounted p entries n (record_with h.count r)) → h.count ≡ n
    inner r None f g = absurd f
    inner r (Some k) f g =
        let x = f.1 in
        let y = g.1 in
        omega (arith, x, y)

    by : (o : Option Record) → IsSomeAnd o (λ r. IsSomeAnd r.kept (HasCounted p entries 0 r)) → IsSomeAnd (option_map (record_with h.count) o) (λ r. IsSomeAnd r.kept (HasCounted p entries n r)) → h.count ≡ n
    by None f g = absurd f
    by (Some r) f g = inner r r.kept f g
