-- From one part of the tree to the next.
use Rattle.std.proofs.Common.{◌≡◌, ℕ, suc, ◌-◌, ◌<◌, ◌≤◌, Some, Option, List, [], ◌∷◌, ◌++◌, map, reverse, refl, sym, ap, ◌∙◌, subst, length, take, slice_get, arith}
use Rattle.std.specs.Prelude.{All, IsSome, IsSomeAnd, option_and_then}
use Rattle.std.proofs.lemmas.List.{length-map, reverse-append, reverse-reverse, take-map}
use Rattle.std.proofs.lemmas.List.Elements.{All-from_recursion, All-take}
use Rattle.std.proofs.lemmas.Option.{same_Some}
use Rattle.qv_words.specs.Tree.{Tree, tree_sort}
use Rattle.qv_words.specs.Problem.{Problem}
use Rattle.qv_words.specs.Linked.{Drawn, Entry, blocks_of, drawn, first_universal, paths_of, tree_lines, tree_of}
use Rattle.qv_words.proofs.Elements.{get-map, get-taken, take-length as taken-length}
use Rattle.qv_game_laws.specs.PathLaws.{IsLongerTree}
use Rattle.qv_store.specs.declared.problem.Problem.{Problem as Posed}
use Rattle.qv_store.specs.Nodes.{tree_at}
use Rattle.qv_store.specs.Stores.{Grows}
use Rattle.qv_store.specs.Problems.{places_of, problem_in, IsPosedIn}
use Rattle.qv_store.specs.Replacing.{AreTermsOf, term_of_level}
use Rattle.qv_entries.specs.Rows.{Row, entries_in, entry_in, IsRowIn}
use Rattle.qv_meter.proofs.Fresh.{linked}
use Rattle.qv_meter.specs.Played.{IsPlayed}
use Rattle.qv_meter.specs.Records.{Metering}
use Rattle.qv_meter.specs.Charging.{OfNewest}
use Rattle.qv_skolem.proofs.GrownEntries.{entries-grown}
use Rattle.qv_expand.specs.declared.growing.Growing.{Growing}
use Rattle.qv_expand.specs.declared.tasks.Task.{Task}
use Rattle.qv_expand.specs.declared.tree.TreeLine.{TreeLine}
use Rattle.qv_expand.specs.Charges.{HasCounted}
use Rattle.qv_expand.specs.Tasks.{task_below}
use Rattle.qv_expand.specs.Trees.{IsLineIn, line_in, lines_in}
use Rattle.qv_expand.specs.Growth.{drawn_in, slot_tree, whole_tree, with_entry, HasDrawn, IsBackAt, IsExpanding, IsGrowing, IsNext, MayDraw}
use Rattle.qv_expand.proofs.FirstEntry.{first-holds, first-level, first-next}
use Rattle.qv_expand.proofs.Longer.{longer-length}
use Rattle.qv_expand.proofs.OneLine.{drawn-same, held, problem-grown}
use Rattle.qv_expand.proofs.Parts.{deep, finish, levels_of, next-goes_on, next-tasks, part-longer, part_of, AreTasks, HaveSameLines}

-- what is left of the whole tree is drawn from the tasks
pub record IsOnTour (p : Problem) (entries : List Entry) (trees : List Tree) (g : Growing) (tasks : List Task) : Type 0 where
  pub order : AreTasks p entries (length g.path.items) (reverse tasks)
  pub goes_on : HaveSameLines (finish (blocks_of p.prefix) entries (map (part_of (blocks_of p.prefix) entries (drawn_in trees (paths_of p entries) g).path (drawn_in trees (paths_of p entries) g).under) (reverse tasks)) (drawn_in trees (paths_of p entries) g)) (whole_tree p entries)

-- at first
pub tour-first : (p : Problem) (entries : List Entry) (trees : List Tree) (g : Growing) (n : ℕ) → g.lines.items ≡ [] → first_universal 0 entries ≡ Some n → IsOnTour p entries trees g (record { entry = n; parent = 0; depth = 0 } ∷ [])
tour-first p entries trees g n none first = record {
  order = (omega arith, first-next p entries n first, tt);
  goes_on = subst (λ (f : Drawn). HaveSameLines f (whole_tree p entries)) (sym same) (refl, refl);
}
  where
    levels : levels_of (blocks_of p.prefix) (slice_get entries n) ≡ length (blocks_of p.prefix)
    levels =
        let next = first-next p entries n first in
        let level = first-level p entries n first in
        ap (levels_of (blocks_of p.prefix)) next.here ∙ (let sum : suc (length (blocks_of p.prefix)) - next.entry.level ≡ length (blocks_of p.prefix) = omega (arith, level) in sum)

    same : drawn (levels_of (blocks_of p.prefix) (slice_get entries n)) (blocks_of p.prefix) entries (record { lines = lines_in trees g.lines.items; numbers = take (length g.lines.items) (paths_of p entries); parent = 0; path = []; under = [] }) n ≡ whole_tree p entries
    same =
        ap (λ (k : ℕ). drawn k (blocks_of p.prefix) entries (record { lines = lines_in trees g.lines.items; numbers = take (length g.lines.items) (paths_of p entries); parent = 0; path = []; under = [] }) n) levels
        ∙ ap (λ (ls : List TreeLine). drawn (length (blocks_of p.prefix)) (blocks_of p.prefix) entries (record { lines = lines_in trees ls; numbers = take (length ls) (paths_of p entries); parent = 0; path = []; under = [] }) n) none
        ∙ ap (λ (o : Option ℕ). tree_lines (blocks_of p.prefix) entries o) (sym first)

pub expanding-first : (trees : List Tree) (problem : Posed) (rows : List Row) (m : Metering) (g : Growing) (n : ℕ) → IsPosedIn trees problem → All (IsRowIn trees) rows → IsPlayed (problem_in trees problem) (entries_in trees rows) → OfNewest m (HasCounted (problem_in trees problem) (entries_in trees rows) 0) →
    g.lines.items ≡ [] → g.path.items ≡ [] → g.under.items ≡ [] → first_universal 0 (entries_in trees rows) ≡ Some n → IsExpanding trees problem rows m g
expanding-first trees problem rows m g n posed within played counted lines path under first = record {
  posed = posed;
  within = within;
  played = played;
  won = first-holds 0 n (entries_in trees rows) first;
  growing = record {
    lines = subst (All (IsLineIn trees)) (sym lines) (All-from_recursion (IsLineIn trees) [] tt);
    many = ap length under ∙ sym (ap length path);
    filled = subst (All IsSome) (sym path) (All-from_recursion IsSome [] tt);
    there = subst (AreTermsOf trees) (sym path) (λ l n e. absurd cc);
    typed = subst (λ (xs : List (Option ℕ)). (l id : ℕ) → term_of_level xs l ≡ Some id → IsSomeAnd (slice_get (places_of problem) l) (λ place. tree_sort (tree_at trees id) ≡ Some place.sort)) (sym path) (λ l id e. absurd cc);
  };
  counted = subst (λ (ls : List TreeLine). OfNewest m (HasCounted (problem_in trees problem) (entries_in trees rows) (length ls))) (sym lines) counted;
}

-- and in the end
pub tour-last : (p : Problem) (entries : List Entry) (trees : List Tree) (g : Growing) (tasks : List Task) → IsOnTour p entries trees g tasks → tasks ≡ [] → lines_in trees g.lines.items ≡ tree_of p entries
unfolding tree_of
tour-last p entries trees g tasks h none =
    (subst (λ (ts : List Task). HaveSameLines (finish (blocks_of p.prefix) entries (map (part_of (blocks_of p.prefix) entries (drawn_in trees (paths_of p entries) g).path (drawn_in trees (paths_of p entries) g).under) (reverse ts)) (drawn_in trees (paths_of p entries) g)) (whole_tree p entries)) none h.goes_on).0

-- a path that is cut
level-taken : (k : ℕ) (path : List (Option ℕ)) (l id : ℕ) → term_of_level (take k path) l ≡ Some id → term_of_level path l ≡ Some id
level-taken k path l id at =
    let here = get-taken path k l (Some id) (held (slice_get (take k path) l) id at) in
    ap (λ (o : Option (Option ℕ)). option_and_then (λ (x : Option ℕ). x) o) here

growing-back : (p : Problem) (trees : List Tree) (g h : Growing) (parent depth : ℕ) → IsGrowing p trees g → IsBackAt g h parent depth → depth ≤ length g.path.items → IsGrowing p trees h
growing-back p trees g h parent depth k back low = record {
  lines = subst (All (IsLineIn trees)) (sym back.lines) k.lines;
  many =
      let many = k.many in
      ap length back.under ∙ taken-length g.under.items depth (omega (arith, low, many)) ∙ sym (ap length back.path ∙ taken-length g.path.items depth low);
  filled = subst (All IsSome) (sym back.path) (All-take IsSome depth g.path.items k.filled);
  there = λ l n at. k.there l n (level-taken depth g.path.items l n (ap (λ (xs : List (Option ℕ)). term_of_level xs l) (sym back.path) ∙ at));
  typed = λ l id at. k.typed l id (level-taken depth g.path.items l id (ap (λ (xs : List (Option ℕ)). term_of_level xs l) (sym back.path) ∙ at));
}

-- one part
module _ (old mid : List Tree) (problem : Posed) (rows : List Row) (m : Metering) (g : Growing) (tasks rest : List Task) (t : Task) (grows : Grows old mid) (posed : IsPosedIn old problem) (within : All (IsRowIn old) rows) (played : IsPlayed (problem_in old problem) (entries_in old rows))
    (now : IsExpanding mid problem rows m g) (tour : IsOnTour (problem_in old problem) (entries_in old rows) mid g tasks) (popped : tasks ≡ rest ++ t ∷ []) where
  abbrev d : Drawn
  d = drawn_in mid (paths_of (problem_in old problem) (entries_in old rows)) g

  abbrev cut : Drawn
  cut = record { lines = d.lines; numbers = d.numbers; parent = t.parent; path = take t.depth d.path; under = take t.depth d.under }

  first-one : reverse tasks ≡ t ∷ reverse rest
  first-one = ap reverse popped ∙ reverse-append rest (t ∷ [])

  order : AreTasks (problem_in old problem) (entries_in old rows) (length g.path.items) (t ∷ reverse rest)
  order = subst (AreTasks (problem_in old problem) (entries_in old rows) (length g.path.items)) first-one tour.order

  goes-on : HaveSameLines (finish (blocks_of (places_of problem)) (entries_in old rows) (map (part_of (blocks_of (places_of problem)) (entries_in old rows) d.path d.under) (t ∷ reverse rest)) d) (whole_tree (problem_in old problem) (entries_in old rows))
  goes-on = subst (λ (ts : List Task). HaveSameLines (finish (blocks_of (places_of problem)) (entries_in old rows) (map (part_of (blocks_of (places_of problem)) (entries_in old rows) d.path d.under) ts) d) (whole_tree (problem_in old problem) (entries_in old rows))) first-one tour.goes_on

  size : length d.path ≡ length g.path.items
  size = length-map g.path.items (slot_tree mid)

  low : t.depth ≤ length d.path
  low =
      let a = order.0 in
      let b = size in
      omega (arith, a, b)

  alike : length d.under ≡ length d.path
  alike = now.growing.many ∙ sym size

  same-problem : problem_in mid problem ≡ problem_in old problem
  same-problem = problem-grown old mid grows problem posed

  same-entries : entries_in mid rows ≡ entries_in old rows
  same-entries = entries-grown old mid grows rows within

  -- back at the line below which it comes
  module _ (g1 : Growing) (back : IsBackAt g g1 t.parent t.depth) where
    pub back-expanding : IsExpanding mid problem rows m g1
    back-expanding = record {
      posed = now.posed;
      within = now.within;
      played = now.played;
      won = now.won;
      growing = growing-back (problem_in mid problem) mid g g1 t.parent t.depth now.growing back order.0;
      counted = subst (λ (ls : List TreeLine). OfNewest m (HasCounted (problem_in mid problem) (entries_in mid rows) (length ls))) (sym back.lines) now.counted;
    }

    drawn-back : drawn_in mid (paths_of (problem_in old problem) (entries_in old rows)) g1 ≡ cut
    drawn-back =
        drawn-same (drawn_in mid (paths_of (problem_in old problem) (entries_in old rows)) g1) cut
        (ap (lines_in mid) back.lines)
        (ap (λ (ls : List TreeLine). take (length ls) (paths_of (problem_in old problem) (entries_in old rows))) back.lines)
        back.below
        (ap (map (slot_tree mid)) back.path ∙ sym (take-map (slot_tree mid) t.depth g.path.items))
        back.under

    deep-enough : length g1.path.items ≡ t.depth
    deep-enough = ap length back.path ∙ taken-length g.path.items t.depth order.0

    longer : IsLongerTree (with_entry (problem_in old problem) (entries_in old rows) (drawn_in mid (paths_of (problem_in old problem) (entries_in old rows)) g1) t.entry) (whole_tree (problem_in old problem) (entries_in old rows))
    longer =
        subst (λ (f : Drawn). IsLongerTree (with_entry (problem_in old problem) (entries_in old rows) f t.entry) (whole_tree (problem_in old problem) (entries_in old rows))) (sym drawn-back)
        (part-longer (problem_in old problem) (entries_in old rows) posed.problem (linked (problem_in old problem) [] (entries_in old rows) played) d t (reverse rest) (whole_tree (problem_in old problem) (entries_in old rows)) low alike order.1 order.2 goes-on)

    pub may-draw : MayDraw mid problem rows g1 t.entry
    may-draw = record {
      is =
          subst (λ (q : Problem). IsNext q (entries_in mid rows) (length g1.path.items) t.entry) (sym same-problem)
          (subst (λ (fs : List Entry). IsNext (problem_in old problem) fs (length g1.path.items) t.entry) (sym same-entries)
          (subst (λ (k : ℕ). IsNext (problem_in old problem) (entries_in old rows) k t.entry) (sym deep-enough) order.1));
      longer =
          subst (λ (q : Problem). IsLongerTree (with_entry q (entries_in mid rows) (drawn_in mid (paths_of q (entries_in mid rows)) g1) t.entry) (whole_tree q (entries_in mid rows))) (sym same-problem)
          (subst (λ (fs : List Entry). IsLongerTree (with_entry (problem_in old problem) fs (drawn_in mid (paths_of (problem_in old problem) fs) g1) t.entry) (whole_tree (problem_in old problem) fs)) (sym same-entries) longer);
    }

    -- and behind the block
    module _ (new : List Tree) (g2 : Growing) (row : Row) (at : slice_get rows t.entry ≡ Some row) (has : HasDrawn mid new problem rows g1 g2 t.entry) where
      drawn-next : with_entry (problem_in old problem) (entries_in old rows) cut t.entry ≡ drawn_in new (paths_of (problem_in old problem) (entries_in old rows)) g2
      drawn-next =
          ap (λ (f : Drawn). with_entry (problem_in old problem) (entries_in old rows) f t.entry) (sym drawn-back)
          ∙ sym (subst (λ (q : Problem). drawn_in new (paths_of q (entries_in old rows)) g2 ≡ with_entry q (entries_in old rows) (drawn_in mid (paths_of q (entries_in old rows)) g1) t.entry) same-problem
          (subst (λ (fs : List Entry). drawn_in new (paths_of (problem_in mid problem) fs) g2 ≡ with_entry (problem_in mid problem) fs (drawn_in mid (paths_of (problem_in mid problem) fs) g1) t.entry) same-entries has))

      links-are : order.1.entry.links ≡ row.links
      links-are =
          let same : order.1.entry ≡ entry_in old row = same_Some order.1.entry (entry_in old row) (sym order.1.here ∙ get-map (entry_in old) rows t.entry row at) in
          ap (λ (e : Entry). e.links) same

      abbrev next : Drawn
      next = drawn_in new (paths_of (problem_in old problem) (entries_in old rows)) g2

      next-size : length next.path ≡ length g2.path.items
      next-size = length-map g2.path.items (slot_tree new)

      order-is : reverse (rest ++ reverse (map (task_below g2.parent (length g2.path.items)) row.links)) ≡ map (task_below next.parent (length next.path)) order.1.entry.links ++ reverse rest
      order-is =
          reverse-append rest (reverse (map (task_below g2.parent (length g2.path.items)) row.links))
          ∙ ap (λ (ts : List Task). ts ++ reverse rest) (reverse-reverse (map (task_below g2.parent (length g2.path.items)) row.links))
          ∙ ap (λ (k : ℕ). map (task_below g2.parent k) row.links ++ reverse rest) (sym next-size)
          ∙ ap (λ (ks : List ℕ). map (task_below next.parent (length next.path)) ks ++ reverse rest) (sym links-are)

      pub tour-next : IsOnTour (problem_in old problem) (entries_in old rows) new g2 (rest ++ reverse (map (task_below g2.parent (length g2.path.items)) row.links))
      tour-next =
          let p = problem_in old problem in
          let es = entries_in old rows in
          let es-linked = linked p [] es played in
          let whole = whole_tree p es in
          let ordered = next-tasks p es posed.problem es-linked d t (reverse rest) whole low alike order.1 order.2 goes-on in
          let goes = next-goes_on p es posed.problem es-linked d t (reverse rest) whole low alike order.1 order.2 goes-on in
          record {
            order =
                subst (AreTasks p es (length g2.path.items)) (sym order-is)
                (subst (λ (k : ℕ). AreTasks p es k (map (task_below next.parent (length next.path)) order.1.entry.links ++ reverse rest)) next-size
                (subst (λ (f : Drawn). AreTasks p es (length f.path) (map (task_below f.parent (length f.path)) order.1.entry.links ++ reverse rest)) drawn-next ordered));
            goes_on =
                subst (λ (ts : List Task). HaveSameLines (finish (blocks_of p.prefix) es (map (part_of (blocks_of p.prefix) es next.path next.under) ts) next) whole) (sym order-is)
                (subst (λ (f : Drawn). HaveSameLines (finish (blocks_of p.prefix) es (map (part_of (blocks_of p.prefix) es f.path f.under) (map (task_below f.parent (length f.path)) order.1.entry.links ++ reverse rest)) f) whole) drawn-next goes);
          }

      -- with more lines than before, and no more than the whole tree has
      pub more-lines : (length g.lines.items < length g2.lines.items) × (length g2.lines.items ≤ length (tree_of (problem_in old problem) (entries_in old rows)))
      unfolding tree_of
      more-lines =
          let p = problem_in old problem in
          let es = entries_in old rows in
          let es-linked = linked p [] es played in
          let whole = whole_tree p es in
          let k = deep p es posed.problem es-linked d t (reverse rest) whole low alike order.1 order.2 goes-on in
          let count = k.deeper.lines in
          let some = k.some in
          let f = ap (λ (x : Drawn). length x.lines) drawn-next in
          let before = length-map g.lines.items (line_in mid) in
          let after = length-map g2.lines.items (line_in new) in
          let all = longer-length (with_entry p es cut t.entry) whole (part-longer p es posed.problem es-linked d t (reverse rest) whole low alike order.1 order.2 goes-on) in
          (omega (arith, count, some, f, before, after), omega (arith, all, f, after))
