-- The candidates of two sides of a walk.
use Rattle.std.proofs.Common.{◌≡◌, ℕ, ◌||◌, true, false, Some, List, [], ◌∷◌, filter, length, map, refl, sym, ap, ◌∙◌, subst, slice_get}
use Rattle.std.specs.Prelude.{IsSomeAnd}
use Rattle.std.proofs.lemmas.List.Elements.{All-head}
use Rattle.qv_words.specs.declared.sort.Sort.{Sort}
use Rattle.qv_words.specs.declared.sort.Sort.TheVariants.{Bits, Bool as BoolSort}
use Rattle.qv_words.specs.declared.op.Op.{Op}
use Rattle.qv_words.specs.declared.word.Word.{Word}
use Rattle.qv_words.specs.Word.{word_sort}
use Rattle.qv_words.specs.Tree.{Tree, Variable, Apply, Nil, Cons, tree_sort, IsQuantifierFree}
use Rattle.qv_words.specs.Sorted.{IsSorted}
use Rattle.qv_words.specs.Prenex.{is_bool}
use Rattle.qv_words.specs.Choice.{occurrences, is_equation, is_comparison, targets, candidates_of, candidates_down, candidates_of_sides, is_outside}
use Rattle.qv_words.proofs.Ranks.{found}
use Rattle.qv_store.specs.Nodes.{tree_at, trees_at}
use Rattle.qv_store.specs.Walks.{IsEarlier}
use Rattle.qv_store.specs.Evaluating.{HasValue}
use Rattle.qv_choose_candidates.specs.declared.offers.Target.{Target}
use Rattle.qv_choose_paths.specs.declared.ways.Way.TheVariants.{Absent, Open}
use Rattle.qv_choose_candidates.specs.declared.offers.Side.TheVariants.{Neither}
use Rattle.qv_choose_paths.specs.declared.seeing.Sight.{Sight}
use Rattle.qv_choose_paths.specs.Rows.{sort_at}
use Rattle.qv_choose_paths.specs.Looks.{way_of}
use Rattle.qv_choose_paths.specs.Steps.{AreKids}
use Rattle.qv_choose_candidates.specs.Targets.{target_tree, targets_of}
use Rattle.qv_choose_paths.specs.Sights.{IsScene}
use Rattle.qv_choose_candidates.specs.Offers.{IsAim, AreSides, open_side}
use Rattle.qv_choose_paths.proofs.Downs.{two-arguments}
use Rattle.qv_choose_paths.proofs.SceneLaws.{earlier-below}
use Rattle.qv_choose_paths.proofs.StepLaws.{sort-as}
use Rattle.qv_choose_paths.proofs.WayLaws.{Stands, ways-stand}
use Rattle.qv_choose_candidates.proofs.TrialUses.{walk-open, walk-free}
use Rattle.qv_choose_candidates.proofs.SideLaws.{one-sort, targets-are, first-sides, second-sides, neither-sides}

walk-absent : (trees : List Tree) (s : Sight) (n : ℕ) → IsScene trees s → IsEarlier s.walk (length s.walk) n → way_of s.place (tree_at trees n) ≡ Absent → occurrences s.place.level (tree_at trees n) ≡ 0
walk-absent trees s n scene e way =
    subst (Stands s.place (tree_at trees n)) way (ways-stand s.place (tree_at trees n) (scene.shared.sorted n (earlier-below trees s.walk n scene.walk e)) (scene.free e.place n e.at))

-- both sides have one width
pub sides-width : (trees : List Tree) (ids : List ℕ) (o : Op) (a b : ℕ) → AreSides trees ids o a b → (is_equation o || is_comparison o) ≡ true → is_bool (tree_sort (tree_at trees a)) ≡ false
    → (w : ℕ) × (tree_sort (tree_at trees a) ≡ Some (Bits w)) × (tree_sort (tree_at trees b) ≡ Some (Bits w))
sides-width trees ids o a b sides is bits =
    let rank = found (tree_sort (Apply o (Cons (tree_at trees a) (Cons (tree_at trees b) Nil)))) sides.sorted.1 in
    let parts = two-arguments o (tree_at trees a) (tree_at trees b) rank.0 rank.1 in
    let same = one-sort o parts.left parts.right rank.0 is parts.rank in
    go parts.left parts.first (parts.second ∙ ap (λ s. Some s) (sym same))
  where
    go : (s : Sort) → tree_sort (tree_at trees a) ≡ Some s → tree_sort (tree_at trees b) ≡ Some s → (w : ℕ) × (tree_sort (tree_at trees a) ≡ Some (Bits w)) × (tree_sort (tree_at trees b) ≡ Some (Bits w))
    go (Bits w) e f = (w, e, f)
    go BoolSort e f = let gone : true ≡ false = sym (ap is_bool e) ∙ bits in absurd (cc)

pub first-aim : (trees : List Tree) (s : Sight) (o : Op) (a b : ℕ) → AreSides trees s.walk o a b → (is_equation o || is_comparison o) ≡ true → is_bool (tree_sort (tree_at trees a)) ≡ false → way_of s.place (tree_at trees a) ≡ Open → IsAim s.place trees s.walk a b
first-aim trees s o a b sides is bits way =
    let width = sides-width trees s.walk o a b sides is bits in
    record { side_there = sides.first; other_there = sides.second; way = way; width = width.0; side_sort = width.1; other_sort = width.2 }

pub second-aim : (trees : List Tree) (s : Sight) (o : Op) (a b : ℕ) → AreSides trees s.walk o a b → (is_equation o || is_comparison o) ≡ true → is_bool (tree_sort (tree_at trees a)) ≡ false → way_of s.place (tree_at trees b) ≡ Open → IsAim s.place trees s.walk b a
second-aim trees s o a b sides is bits way =
    let width = sides-width trees s.walk o a b sides is bits in
    record { side_there = sides.second; other_there = sides.first; way = way; width = width.0; side_sort = width.2; other_sort = width.1 }

-- the candidates down a side
aimed : (trees : List Tree) (o : Op) (n w : ℕ) (ts : List Target) → (is_equation o || is_comparison o) ≡ true → tree_sort (tree_at trees n) ≡ Some (Bits w) → ts ≡ targets_of o
    → targets o (tree_at trees n) ≡ map (λ k. target_tree k (sort_at trees n) (tree_at trees n)) ts
aimed trees o n w ts is sort same =
    targets-are o (tree_at trees n) w sort is
    ∙ ap (λ q. map (λ k. target_tree k q (tree_at trees n)) (targets_of o)) (sym (sort-as (tree_at trees n) (Bits w) sort))
    ∙ ap (map (λ k. target_tree k (sort_at trees n) (tree_at trees n))) (sym same)

pub first-list : (trees : List Tree) (s : Sight) (o : Op) (a b : ℕ) (ts : List Target) → IsScene trees s → AreSides trees s.walk o a b → (is_equation o || is_comparison o) ≡ true → is_bool (tree_sort (tree_at trees a)) ≡ false
    → way_of s.place (tree_at trees a) ≡ Open → way_of s.place (tree_at trees b) ≡ Absent → ts ≡ targets_of o
    → candidates_down s.place.level (tree_at trees a) (map (λ k. target_tree k (sort_at trees b) (tree_at trees b)) ts) ≡ candidates_of_sides s.place.level o (tree_at trees a) (tree_at trees b)
first-list trees s o a b ts scene sides is bits g h same =
    let width = sides-width trees s.walk o a b sides is bits in
    ap (candidates_down s.place.level (tree_at trees a)) (sym (aimed trees o b width.0 ts is width.2 same))
    ∙ sym (first-sides s.place o (tree_at trees a) (tree_at trees b) is bits (walk-open trees s a scene sides.first g) (walk-absent trees s b scene sides.second h))

pub second-list : (trees : List Tree) (s : Sight) (o : Op) (a b : ℕ) (ts : List Target) → IsScene trees s → AreSides trees s.walk o a b → (is_equation o || is_comparison o) ≡ true → is_bool (tree_sort (tree_at trees a)) ≡ false
    → way_of s.place (tree_at trees a) ≡ Absent → way_of s.place (tree_at trees b) ≡ Open → ts ≡ targets_of o
    → candidates_down s.place.level (tree_at trees b) (map (λ k. target_tree k (sort_at trees a) (tree_at trees a)) ts) ≡ candidates_of_sides s.place.level o (tree_at trees a) (tree_at trees b)
second-list trees s o a b ts scene sides is bits g h same =
    let width = sides-width trees s.walk o a b sides is bits in
    ap (candidates_down s.place.level (tree_at trees b)) (sym (aimed trees o a width.0 ts is width.1 same))
    ∙ sym (second-sides s.place o (tree_at trees a) (tree_at trees b) is bits (walk-absent trees s a scene sides.first g) (walk-open trees s b scene sides.second h))

pub neither-list : (trees : List Tree) (s : Sight) (o : Op) (a b : ℕ) → IsScene trees s → AreSides trees s.walk o a b → open_side (way_of s.place (tree_at trees a)) (way_of s.place (tree_at trees b)) ≡ Neither
    → filter (is_outside s.place.first s.place.end) (candidates_of_sides s.place.level o (tree_at trees a) (tree_at trees b)) ≡ []
neither-list trees s o a b scene sides none =
    neither-sides s.place o (tree_at trees a) (tree_at trees b) (way_of s.place (tree_at trees a)) (way_of s.place (tree_at trees b)) (walk-free trees s a scene sides.first) (walk-free trees s b scene sides.second)
    (ways-stand s.place (tree_at trees a) (scene.shared.sorted a (earlier-below trees s.walk a scene.walk sides.first)) (walk-free trees s a scene sides.first))
    (ways-stand s.place (tree_at trees b) (scene.shared.sorted b (earlier-below trees s.walk b scene.walk sides.second)) (walk-free trees s b scene sides.second)) none

-- the sides of an application with two arguments
pub sides-of : (trees : List Tree) (s : Sight) (id a b : ℕ) (o : Op) → IsScene trees s → AreKids trees s.walk id o (a ∷ b ∷ []) → AreSides trees s.walk o a b
sides-of trees s id a b o scene kids = record {
  first = kids.there.0;
  second = kids.there.1.0;
  sorted = subst IsSorted kids.tree_is (scene.shared.sorted id kids.below);
  free = subst IsQuantifierFree kids.tree_is kids.free;
}

-- an application to another number of arguments has none
pub not-two : (trees : List Tree) (x : ℕ) (o : Op) (kids : List ℕ) → (length kids ≡ 2 → ⊥) → candidates_of x (Apply o (trees_at trees kids)) ≡ []
not-two trees x o [] h = refl
not-two trees x o (a ∷ []) h = refl
not-two trees x o (a ∷ b ∷ []) h = absurd (h refl)
not-two trees x o (a ∷ b ∷ c ∷ rest) h = refl
