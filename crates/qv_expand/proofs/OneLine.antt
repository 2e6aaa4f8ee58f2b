-- One more line of a tree that is drawn.
use Rattle.std.proofs.Common.{◌≡◌, ℕ, zero, suc, ◌-◌, ◌<◌, ◌≤◌, ◌⊎◌, inl, inr, Bool, true, false, cond, Some, None, Option, List, [], ◌∷◌, ◌++◌, map, refl, sym, ap, ◌∙◌, subst, length, take, slice_get, arith}
use Rattle.std.specs.Prelude.{All, IfSome, IsSome, IsSomeAnd, option_and_then, option_map}
use Rattle.std.specs.List.{AllByRecursion}
use Rattle.std.proofs.lemmas.List.{length-append, length-map, map-append, length-take-le}
use Rattle.std.proofs.lemmas.List.Elements.{All-from_recursion, recursion_from_All}
use Rattle.std.proofs.lemmas.Option.{same_Some}
use Rattle.qv_words.specs.Tree.{Tree, tree_sort}
use Rattle.qv_words.specs.Problem.{Problem, Place, Universal}
use Rattle.qv_words.specs.Expansion.{ExpansionLine, Instance, Eigen}
use Rattle.qv_words.specs.Linked.{Drawn, HoldsFirst, paths_of, tree_of, with_line}
use Rattle.qv_words.specs.GameLaws.{IsProblem}
use Rattle.qv_words.proofs.Elements.{all-weaker, pushed-cases, take-one, to-some}
use Rattle.qv_words.proofs.Leaves.{both}
use Rattle.qv_game_laws.specs.PathLaws.{IsLongerTree}
use Rattle.qv_game_laws.proofs.Paths.{next-lines_path, paths-per_line}
use Rattle.qv_store.specs.declared.problem.Problem.{Problem as Posed}
use Rattle.qv_store.specs.Nodes.{tree_at}
use Rattle.qv_store.specs.Stores.{Grows}
use Rattle.qv_store.specs.Problems.{places_of, problem_in, IsPosedIn}
use Rattle.qv_store.specs.Replacing.{AreTermsOf, put_by_level, term_of_level}
use Rattle.qv_store.proofs.Replacement.{grown-tree, grown-within}
use Rattle.qv_entries.specs.Rows.{Row, entries_in}
use Rattle.qv_meter.specs.Played.{IsPlayed}
use Rattle.qv_meter.specs.Units.{IsInstance, LineUnit}
use Rattle.qv_meter.specs.Records.{Kept, Metering, Record, after_instance, one_more_instance}
use Rattle.qv_meter.specs.Charging.{MayChargeInstance, OfNewest}
use Rattle.qv_skolem.proofs.GrownEntries.{entries-grown, rows-grown}
use Rattle.qv_skolem.proofs.OneLed.{there-grown}
use Rattle.qv_skolem.proofs.Slots.{there-append, there-terms}
use Rattle.qv_expand.specs.declared.growing.Growing.{Growing}
use Rattle.qv_expand.specs.declared.tree.TreeLine.{TreeLine}
use Rattle.qv_expand.specs.Charges.{HasCounted}
use Rattle.qv_expand.specs.Trees.{IsLineIn, line_in, line_with, lines_in}
use Rattle.qv_expand.specs.Growth.{drawn_in, slot_tree, whole_tree, IsExpanding, IsLonger}
use Rattle.qv_expand.proofs.Longer.{longer-length}

-- trees part by part
pub drawn-same : (a b : Drawn) → a.lines ≡ b.lines → a.numbers ≡ b.numbers → a.parent ≡ b.parent → a.path ≡ b.path → a.under ≡ b.under → a ≡ b
drawn-same a b l n p t u =
    let made : List ExpansionLine → List (List ℕ) → ℕ → List Tree → List ℕ → Drawn = λ l n p t u. record { lines = l; numbers = n; parent = p; path = t; under = u } in
    ap (λ (x : List ExpansionLine). made x a.numbers a.parent a.path a.under) l
    ∙ ap (λ (x : List (List ℕ)). made b.lines x a.parent a.path a.under) n
    ∙ ap (λ (x : ℕ). made b.lines b.numbers x a.path a.under) p
    ∙ ap (λ (x : List Tree). made b.lines b.numbers b.parent x a.under) t
    ∙ ap (λ (x : List ℕ). made b.lines b.numbers b.parent b.path x) u

-- a greater store
line-grown : (old new : List Tree) → Grows old new → (l : TreeLine) → IsLineIn old l → (line_in new l ≡ line_in old l) × IsLineIn new l
line-grown old new grows l h = go l.instance h
  where
    go : (o : Option ℕ) → IfSome o (λ id. id < length old) → (line_with new l.parent o ≡ line_with old l.parent o) × IfSome o (λ id. id < length new)
    go None k = (refl, tt)
    go (Some id) k = (ap (Instance l.parent) (grown-tree old new grows id k), grown-within old new grows id k)

pub lines-grown : (old new : List Tree) → Grows old new → (ls : List TreeLine) → AllByRecursion (IsLineIn old) ls → lines_in new ls ≡ lines_in old ls
lines-grown old new grows [] h = refl
lines-grown old new grows (l ∷ ls) h =
    ap (λ (x : ExpansionLine). x ∷ lines_in new ls) (line-grown old new grows l h.0).0 ∙ ap (λ (xs : List ExpansionLine). line_in old l ∷ xs) (lines-grown old new grows ls h.1)

slots-same : (old new : List Tree) → Grows old new → (path : List (Option ℕ)) → AreTermsOf old path → map (slot_tree new) path ≡ map (slot_tree old) path
slots-same old new grows [] h = refl
slots-same old new grows (o ∷ path) h =
    ap (λ (t : Tree). t ∷ map (slot_tree new) path) (go o (λ n e. h 0 n e)) ∙ ap (λ (ts : List Tree). slot_tree old o ∷ ts) (slots-same old new grows path (λ l. h (suc l)))
  where
    go : (o : Option ℕ) → ((n : ℕ) → o ≡ Some n → n < length old) → slot_tree new o ≡ slot_tree old o
    go None k = refl
    go (Some n) k = grown-tree old new grows n (k n refl)

pub problem-grown : (old new : List Tree) → Grows old new → (problem : Posed) → IsPosedIn old problem → problem_in new problem ≡ problem_in old problem
problem-grown old new grows problem h =
    let made : Tree → Problem = λ t. record { prefix = places_of problem; matrix = t } in
    ap made (grown-tree old new grows problem.matrix h.below)

pub posed-grown : (old new : List Tree) → Grows old new → (problem : Posed) → IsPosedIn old problem → IsPosedIn new problem
posed-grown old new grows problem h = record {
  below = grown-within old new grows problem.matrix h.below;
  problem = subst IsProblem (sym (problem-grown old new grows problem h)) h.problem;
}

-- what a path puts in
pub path-put : (trees : List Tree) (path : List (Option ℕ)) → AllByRecursion IsSome path → put_by_level trees path ≡ slice_get (map (slot_tree trees) path)
path-put trees path filled = λ i l. at path filled l i
  where
    at : (path : List (Option ℕ)) → AllByRecursion IsSome path → (l : ℕ) → put_by_level trees path l ≡ slice_get (map (slot_tree trees) path) l
    at [] h l = refl
    at (None ∷ path) h l = absurd (never h.0)
      where
        never : IsSome {T = ℕ} None → ⊥
        never e = cc
    at (Some n ∷ path) h zero = refl
    at (Some n ∷ path) h (suc l) = at path h.1 l

-- the newest record, before and after
of-newest : (m : Metering) (P Q : Record → Kept → Type 0) → ((r : Record) (k : Kept) → P r k → Q r k) → OfNewest m P → OfNewest m Q
of-newest m P Q go h = by m.newest h
  where
    inner : (r : Record) (o : Option Kept) → IsSomeAnd o (P r) → IsSomeAnd o (Q r)
    inner r None k = absurd k
    inner r (Some x) k = go r x k

    by : (o : Option Record) → IsSomeAnd o (λ r. IsSomeAnd r.kept (P r)) → IsSomeAnd o (λ r. IsSomeAnd r.kept (Q r))
    by None k = absurd k
    by (Some r) k = inner r r.kept k

of-after : (m : Metering) (P Q : Record → Kept → Type 0) → ((r : Record) (k : Kept) → P r k → Q (one_more_instance r) k) → OfNewest m P → OfNewest (after_instance m) Q
of-after m P Q go h = by m.newest h
  where
    inner : (r : Record) (o : Option Kept) → IsSomeAnd o (P r) → IsSomeAnd o (Q (one_more_instance r))
    inner r None k = absurd k
    inner r (Some x) k = go r x k

    by : (o : Option Record) → IsSomeAnd o (λ r. IsSomeAnd r.kept (P r)) → IsSomeAnd (option_map one_more_instance o) (λ r. IsSomeAnd r.kept (Q r))
    by None k = absurd k
    by (Some r) k = inner r r.kept k

pub held : (o : Option (Option ℕ)) (n : ℕ) → option_and_then (λ (x : Option ℕ). x) o ≡ Some n → o ≡ Some (Some n)
held None n e = absurd cc
held (Some o) n e = ap (λ (x : Option ℕ). Some x) e

-- whether the line has a variable or a term
abbrev pub line_of : Bool → ℕ → Tree → ExpansionLine
line_of true parent t = Eigen parent
line_of false parent t = Instance parent t

module _ (trees : List Tree) (problem : Posed) (rows : List Row) (m : Metering) (g : Growing) (h : IsExpanding trees problem rows m g) where
  -- the path of the next line
  pub next-path : (n : ℕ) (line : ExpansionLine) (t : Tree) → IsLongerTree (with_line n (drawn_in trees (paths_of (problem_in trees problem) (entries_in trees rows)) g) line t) (whole_tree (problem_in trees problem) (entries_in trees rows)) →
      slice_get (paths_of (problem_in trees problem) (entries_in trees rows)) (length g.lines.items) ≡ Some (g.under.items ++ n ∷ [])
  unfolding paths_of tree_of
  next-path n line t longer =
      let paths = (whole_tree (problem_in trees problem) (entries_in trees rows)).numbers in
      let start = drawn_in trees paths g in
      let size : length (lines_in trees g.lines.items) ≡ length g.lines.items = length-map g.lines.items (line_in trees) in
      let all : length g.lines.items ≤ length paths =
      let a = longer-length (with_line n start line t) (whole_tree (problem_in trees problem) (entries_in trees rows)) longer in
      let b = length-append (lines_in trees g.lines.items) (line ∷ []) in
      let e = paths-per_line (problem_in trees problem) (entries_in trees rows) in
      omega (arith, a, b, size, e) in
      let count : length (take (length g.lines.items) paths) ≡ length (lines_in trees g.lines.items) = length-take-le (length g.lines.items) paths all ∙ sym size in
      let next = next-lines_path start (whole_tree (problem_in trees problem) (entries_in trees rows)) n line t count longer in
      ap (slice_get paths) (sym size) ∙ next.1

  -- it may be charged
  pub line-unit : (n : ℕ) (line : ExpansionLine) (t : Tree) → IsLongerTree (with_line n (drawn_in trees (paths_of (problem_in trees problem) (entries_in trees rows)) g) line t) (whole_tree (problem_in trees problem) (entries_in trees rows)) →
      MayChargeInstance m (LineUnit (entries_in trees rows) (g.under.items ++ n ∷ []))
  line-unit n line t longer =
      of-newest m (HasCounted (problem_in trees problem) (entries_in trees rows) (length g.lines.items)) (λ r k. IsInstance k.problem r.instances (LineUnit (entries_in trees rows) (g.under.items ++ n ∷ [])))
      (λ r k counted.
      let number = counted.1 in
      let behind : length g.lines.items ≡ r.instances - length (entries_in trees rows) = omega (arith, number) in
      subst (λ (q : Problem). IsInstance q r.instances (LineUnit (entries_in trees rows) (g.under.items ++ n ∷ []))) (sym counted.0) (record {
        played = h.played;
        won = h.won;
        charged = omega (arith, number);
        next = ap (slice_get (paths_of (problem_in trees problem) (entries_in trees rows))) (sym behind) ∙ next-path n line t longer;
      }))
      h.counted

  -- and is drawn
  module _ (new : List Tree) (g' : Growing) (m' : Metering) (n : ℕ) (eigen : Bool) (t : Tree) (place : Place) (grows : Grows trees new) (line : IsLonger g g' n eigen new t) (charged : m' ≡ after_instance m)
      (here : slice_get (places_of problem) (length g.path.items) ≡ Some place) (sort : tree_sort t ≡ Some place.sort)
      (longer : IsLongerTree (with_line n (drawn_in trees (paths_of (problem_in trees problem) (entries_in trees rows)) g) (line_of eigen g.parent t) t) (whole_tree (problem_in trees problem) (entries_in trees rows))) where
    same-problem : problem_in new problem ≡ problem_in trees problem
    same-problem = problem-grown trees new grows problem h.posed

    same-entries : entries_in new rows ≡ entries_in trees rows
    same-entries = entries-grown trees new grows rows h.within

    abbrev added : TreeLine
    added = record { parent = g.parent; instance = cond eigen None (Some line.id) }

    added-in : (line_in new added ≡ line_of eigen g.parent t) × IsLineIn new added
    added-in = go eigen
      where
        go : (b : Bool) → (line_with new g.parent (cond b None (Some line.id)) ≡ line_of b g.parent t) × IfSome (cond b None (Some line.id)) (λ id. id < length new)
        go true = (refl, tt)
        go false = (ap (Instance g.parent) line.stands.tree, line.stands.below)

    all-lines : AllByRecursion (IsLineIn new) (g.lines.items ++ added ∷ [])
    all-lines = both (IsLineIn new) g.lines.items (added ∷ []) (all-weaker (IsLineIn trees) (IsLineIn new) g.lines.items (λ l k. (line-grown trees new grows l k).1) (recursion_from_All (IsLineIn trees) g.lines.items h.growing.lines)) (added-in.1, tt)

    typed : (l id : ℕ) → term_of_level (g.path.items ++ Some line.id ∷ []) l ≡ Some id → IsSomeAnd (slice_get (places_of problem) l) (λ q. tree_sort (tree_at new id) ≡ Some q.sort)
    typed l id at = go (pushed-cases g.path.items (Some line.id) l (Some id) (held (slice_get (g.path.items ++ Some line.id ∷ []) l) id at))
      where
        old-one : (q : Option Place) → id < length trees → IsSomeAnd q (λ q. tree_sort (tree_at trees id) ≡ Some q.sort) → IsSomeAnd q (λ q. tree_sort (tree_at new id) ≡ Some q.sort)
        old-one None low k = absurd k
        old-one (Some q) low k = ap (λ (t : Tree). tree_sort t) (grown-tree trees new grows id low) ∙ k

        go : (slice_get g.path.items l ≡ Some (Some id)) ⊎ ((l ≡ length g.path.items) × (Some line.id ≡ Some id)) → IsSomeAnd (slice_get (places_of problem) l) (λ q. tree_sort (tree_at new id) ≡ Some q.sort)
        go (inl before) =
            let level : term_of_level g.path.items l ≡ Some id = ap (λ (o : Option (Option ℕ)). option_and_then (λ (x : Option ℕ). x) o) before in
            old-one (slice_get (places_of problem) l) (h.growing.there l id level) (h.growing.typed l id level)
        go (inr last) =
            let same : line.id ≡ id = same_Some line.id id last.1 in
            to-some (slice_get (places_of problem) l) (λ q. tree_sort (tree_at new id) ≡ Some q.sort) place (ap (slice_get (places_of problem)) last.0 ∙ here)
            (ap (λ (j : ℕ). tree_sort (tree_at new j)) (sym same) ∙ ap (λ (u : Tree). tree_sort u) line.stands.tree ∙ sort)

    pub line-drawn : drawn_in new (paths_of (problem_in trees problem) (entries_in trees rows)) g' ≡ with_line n (drawn_in trees (paths_of (problem_in trees problem) (entries_in trees rows)) g) (line_of eigen g.parent t) t
    line-drawn =
        let paths = paths_of (problem_in trees problem) (entries_in trees rows) in
        let start = drawn_in trees paths g in
        let lines : lines_in new g'.lines.items ≡ lines_in trees g.lines.items ++ line_of eigen g.parent t ∷ [] =
        ap (lines_in new) line.lines ∙ map-append (line_in new) g.lines.items (added ∷ []) ∙ ap (λ (xs : List ExpansionLine). xs ++ line_in new added ∷ []) (lines-grown trees new grows g.lines.items (recursion_from_All (IsLineIn trees) g.lines.items h.growing.lines))
        ∙ ap (λ (x : ExpansionLine). lines_in trees g.lines.items ++ x ∷ []) added-in.0 in
        let size : length g'.lines.items ≡ suc (length g.lines.items) =
        let a = ap length line.lines in
        let b = length-append g.lines.items (added ∷ []) in
        omega (arith, a, b) in
        drawn-same (drawn_in new paths g') (with_line n start (line_of eigen g.parent t) t) lines
        (ap (λ (k : ℕ). take k paths) size ∙ take-one paths (length g.lines.items) (g.under.items ++ n ∷ []) (next-path n (line_of eigen g.parent t) t longer))
        (line.parent ∙ size ∙ ap suc (sym (length-map g.lines.items (line_in trees))))
        (ap (map (slot_tree new)) line.path ∙ map-append (slot_tree new) g.path.items (Some line.id ∷ []) ∙ ap (λ (xs : List Tree). xs ++ tree_at new line.id ∷ []) (slots-same trees new grows g.path.items h.growing.there)
        ∙ ap (λ (u : Tree). map (slot_tree trees) g.path.items ++ u ∷ []) line.stands.tree)
        line.under

    pub line-expanding : IsExpanding new problem rows m' g'
    line-expanding =
        let size : length g'.lines.items ≡ suc (length g.lines.items) =
        let a = ap length line.lines in
        let b = length-append g.lines.items (added ∷ []) in
        omega (arith, a, b) in
        record {
          posed = posed-grown trees new grows problem h.posed;
          within = rows-grown trees new grows rows h.within;
          played = subst (λ (q : Problem). IsPlayed q (entries_in new rows)) (sym same-problem) (subst (IsPlayed (problem_in trees problem)) (sym same-entries) h.played);
          won = subst (HoldsFirst Universal) (sym same-entries) h.won;
          growing = record {
            lines = subst (All (IsLineIn new)) (sym line.lines) (All-from_recursion (IsLineIn new) (g.lines.items ++ added ∷ []) all-lines);
            many =
                let a = ap length line.under in
                let b = length-append g.under.items (n ∷ []) in
                let e = ap length line.path in
                let f = length-append g.path.items (Some line.id ∷ []) in
                let k = h.growing.many in
                omega (arith, a, b, e, f, k);
            filled = subst (All IsSome) (sym line.path) (All-from_recursion IsSome (g.path.items ++ Some line.id ∷ []) (both IsSome g.path.items (Some line.id ∷ []) (recursion_from_All IsSome g.path.items h.growing.filled) (refl, tt)));
            there = subst (AreTermsOf new) (sym line.path) (there-append new g.path.items (Some line.id ∷ []) (there-grown trees new g.path.items grows h.growing.there) (there-terms new (line.id ∷ []) one-below));
            typed = subst (λ (path : List (Option ℕ)). (l id : ℕ) → term_of_level path l ≡ Some id → IsSomeAnd (slice_get (places_of problem) l) (λ q. tree_sort (tree_at new id) ≡ Some q.sort)) (sym line.path) typed;
          };
          counted =
              subst (λ (x : Metering). OfNewest x (HasCounted (problem_in new problem) (entries_in new rows) (length g'.lines.items))) (sym charged)
              (of-after m (HasCounted (problem_in trees problem) (entries_in trees rows) (length g.lines.items)) (HasCounted (problem_in new problem) (entries_in new rows) (length g'.lines.items))
              (λ r k counted.
              let number = counted.1 in
              let many : length (entries_in new rows) ≡ length (entries_in trees rows) = ap length same-entries in
              (counted.0 ∙ sym same-problem, omega (arith, number, many, size)))
              h.counted);
        }
      where
        one-below : (i id : ℕ) → slice_get (line.id ∷ []) i ≡ Some id → id < length new
        one-below zero id at = let same : line.id ≡ id = same_Some line.id id at in subst (λ (k : ℕ). k < length new) same line.stands.below
        one-below (suc i) id at = absurd cc
