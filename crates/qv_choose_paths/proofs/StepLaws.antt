-- Steps down by rows.
use Rattle.std.proofs.Common.{◌≡◌, ℕ, ◌<◌, ◌==◌, ◌&&◌, arith, Bool, true, false, cond, not, Option, Some, None, is_some, List, [], ◌∷◌, length, refl, sym, ap, ◌∙◌, subst}
use Rattle.std.specs.Prelude.{IfSome, IsSome, unwrap_or, option_map, option_and_then}
use Rattle.std.proofs.lemmas.Bool.{eqb-true, and_parts}
use Rattle.qv_words.specs.declared.sort.Sort.{Sort}
use Rattle.qv_words.specs.declared.sort.Sort.TheVariants.{Bool as BoolSort}
use Rattle.qv_words.specs.declared.op.Op.{Op}
use Rattle.qv_words.specs.Rank.{result_sort}
use Rattle.qv_words.specs.Tree.{Tree, Variable, Apply, Nil, Cons, tree_sort, tree_sorts, IsQuantifierFree}
use Rattle.qv_words.specs.Sorted.{no_levels, IsSorted}
use Rattle.qv_words.specs.Inverse.{inverse_term}
use Rattle.qv_words.specs.InverseLaws.{has_row, IsOver as IsRowOver}
use Rattle.qv_words.specs.Choice.{occurrences, literal_value, put_in_row, descend}
use Rattle.qv_words.proofs.Ranks.{found}
use Rattle.qv_words.proofs.Existing.{lawful_sorts}
use Rattle.qv_words.proofs.Elements.{of-if_some}
use Rattle.qv_words.proofs.InverseFits.{fits}
use Rattle.qv_words.proofs.InverseOver.{over}
use Rattle.qv_terms.specs.View.{tree}
use Rattle.qv_store.specs.declared.node.Node.{Node}
use Rattle.qv_store.specs.declared.node.Node.TheVariants.{Const, Var, Lit, App, Ex}
use Rattle.qv_store.specs.declared.node.Node.TheVariants.{All as AllNode}
use Rattle.qv_store.specs.Nodes.{tree_at, trees_at, node_tree}
use Rattle.qv_store.specs.Stores.{AreShared}
use Rattle.qv_store.specs.Walks.{IsEarlier}
use Rattle.qv_choose_paths.specs.declared.ways.Place.{Place}
use Rattle.qv_choose_paths.specs.declared.ways.Way.{Way}
use Rattle.qv_choose_paths.specs.declared.ways.Way.TheVariants.{Absent, Hidden, Open}
use Rattle.qv_choose_paths.specs.declared.ways.Step.{Step}
use Rattle.qv_choose_paths.specs.Rows.{uses_other, sort_of, sort_at}
use Rattle.qv_choose_paths.specs.Looks.{has_inside, through, way_of_two, way_of_three, is_clear, way_of}
use Rattle.qv_choose_paths.specs.Steps.{other_or, StepsDown, AreKids, IsStep, MakesStep}
use Rattle.qv_choose_paths.proofs.Downs.{two-arguments, descend-first, descend-second, next-is, value-free, row-there, one-row}
use Rattle.qv_choose_paths.proofs.WayLaws.{Stands, IsOpen, ways-stand, in-one, in-none}
use Rattle.qv_game_laws.proofs.Candidates.{one-argument}

-- what an open way says of an argument
through-open : (c : Bool) (w : Way) → through c w ≡ Open → (w ≡ Open) × (c ≡ true)
through-open c Absent e = absurd (cc)
through-open c Hidden e = absurd (cc)
through-open true Open e = (refl, refl)
through-open false Open e = absurd (cc)

first-open : (v w : Way) (c d : Bool) → way_of_two v w (through c v) (through d w) ≡ Open → (v ≡ Absent → ⊥) → (v ≡ Open) × (c ≡ true)
first-open Absent w c d e h = absurd (h refl)
first-open Hidden Absent c d e h = absurd (cc)
first-open Hidden Hidden c d e h = absurd (cc)
first-open Hidden Open c d e h = absurd (cc)
first-open Open Absent c d e h = through-open c Open e
first-open Open Hidden c d e h = absurd (cc)
first-open Open Open c d e h = absurd (cc)

second-open : (v w : Way) (c d : Bool) → way_of_two v w (through c v) (through d w) ≡ Open → v ≡ Absent → (w ≡ Open) × (d ≡ true)
second-open Absent w c d e h = through-open d w e
second-open Hidden w c d e h = absurd (cc)
second-open Open w c d e h = absurd (cc)

pub three-closed : (u v w : Way) → way_of_three u v w ≡ Open → ⊥
three-closed Absent Absent Absent e = absurd (cc)
three-closed Absent Absent Hidden e = absurd (cc)
three-closed Absent Absent Open e = absurd (cc)
three-closed Absent Hidden w e = absurd (cc)
three-closed Absent Open w e = absurd (cc)
three-closed Hidden v w e = absurd (cc)
three-closed Open v w e = absurd (cc)

open-stands : (p : Place) (t : Tree) → IsSorted t → IsQuantifierFree t → way_of p t ≡ Open → IsOpen p t
open-stands p t sorted free e = subst (Stands p t) e (ways-stand p t sorted free)

absent-stands : (p : Place) (t : Tree) → IsSorted t → IsQuantifierFree t → way_of p t ≡ Absent → occurrences p.level t ≡ 0
absent-stands p t sorted free e = subst (Stands p t) e (ways-stand p t sorted free)

pub sort-as : (t : Tree) (s : Sort) → tree_sort t ≡ Some s → sort_of t ≡ s
sort-as t s e = ap (λ o. unwrap_or o BoolSort) e

-- a row by which a step goes down
pub record IsGood (p : Place) (trees : List Tree) (id next : ℕ) (other : Option ℕ) (row : Tree) : Type 0 where
  pub sorted : IsSorted row
  pub sort : tree_sort row ≡ tree_sort (tree_at trees next)
  pub over : IsRowOver (sort_of (other_or trees other (tree_at trees id))) (sort_of (tree_at trees id)) row
  pub way : way_of p (tree_at trees next) ≡ Open
  pub descends : (t : Tree) → descend p.level (tree_at trees id) t ≡ descend p.level (tree_at trees next) (put_in_row (other_or trees other t) t row)

as-made : (p : Place) (trees : List Tree) (ids : List ℕ) (id next : ℕ) (other : Option ℕ) (step : Step) → next < id → IsEarlier ids (length ids) next → IfSome other (IsEarlier ids (length ids)) → IsGood p trees id next other (tree step.row)
    → step.other ≡ other → step.next ≡ next → StepsDown p trees ids id step
as-made p trees ids id next other step low there beside good e f =
    let base : StepsDown p trees ids id (record { row = step.row; other = other; next = next }) = record {
      lower = low;
      next = there;
      other = beside;
      way = good.way;
      sorted = good.sorted;
      over = good.over;
      sort = good.sort;
      descends = good.descends;
    } in
    subst (λ (n : ℕ). StepsDown p trees ids id (record { row = step.row; other = step.other; next = n })) (sym f)
    (subst (λ (q : Option ℕ). StepsDown p trees ids id (record { row = step.row; other = q; next = next })) (sym e) base)

good-step : (p : Place) (trees : List Tree) (ids : List ℕ) (id next : ℕ) (other : Option ℕ) (found : Option Tree) (row : Tree) (made : Option Step) → next < id → IsEarlier ids (length ids) next → IfSome other (IsEarlier ids (length ids))
    → found ≡ Some row → IsGood p trees id next other row → MakesStep found other next made → IsStep p trees ids id made
good-step p trees ids id next other found row None low there beside e good h = let gone : Some row ≡ None = sym e ∙ h in absurd (cc)
good-step p trees ids id next other found row (Some step) low there beside e good h =
    let both : Some row ≡ Some (tree step.row) = sym e ∙ h.0 in
    let same : row ≡ tree step.row = cc in
    as-made p trees ids id next other step low there beside (subst (λ (u : Tree). IsGood p trees id next other u) same good) h.1 h.2

-- to the first of two
first-good : (p : Place) (trees : List Tree) (id a b : ℕ) (o : Op) → IsSorted (Apply o (Cons (tree_at trees a) (Cons (tree_at trees b) Nil))) → IsQuantifierFree (Apply o (Cons (tree_at trees a) (Cons (tree_at trees b) Nil)))
    → tree_at trees id ≡ Apply o (Cons (tree_at trees a) (Cons (tree_at trees b) Nil)) → way_of p (tree_at trees id) ≡ Open → (way_of p (tree_at trees a) ≡ Absent → ⊥)
    → (row : Tree) × (inverse_term o 0 (sort_at trees a ∷ sort_at trees b ∷ []) (literal_value (tree_at trees b)) ≡ Some row) × IsGood p trees id a (Some b) row
first-good p trees id a b o sorted plain is way there =
    let rank = found (tree_sort (Apply o (Cons (tree_at trees a) (Cons (tree_at trees b) Nil)))) sorted.1 in
    let parts = two-arguments o (tree_at trees a) (tree_at trees b) rank.0 rank.1 in
    let lawful = lawful_sorts (Cons (tree_at trees a) (Cons (tree_at trees b) Nil)) no_levels (parts.left ∷ parts.right ∷ []) sorted.0 parts.sorts in
    let opens = first-open (way_of p (tree_at trees a)) (way_of p (tree_at trees b)) (is_clear p o 0 (tree_at trees b)) (is_clear p o 1 (tree_at trees a)) (ap (way_of p) (sym is) ∙ way) there in
    let own = open-stands p (tree_at trees a) sorted.0.0 plain.0 opens.0 in
    let clear = and_parts (has_row o (literal_value (tree_at trees b))) (not (has_inside p (tree_at trees b) && uses_other o 0)) opens.1 in
    let row = row-there o 0 (parts.left ∷ parts.right ∷ []) rank.0 (literal_value (tree_at trees b)) parts.rank (omega arith) clear.0 in
    let left = sort-as (tree_at trees a) parts.left parts.first in
    let right = sort-as (tree_at trees b) parts.right parts.second in
    let fit = fits o 0 (parts.left ∷ parts.right ∷ []) (literal_value (tree_at trees b)) row.0 lawful row.1 in (
      row.0,
      ap (λ s. inverse_term o 0 (s ∷ sort_at trees b ∷ []) (literal_value (tree_at trees b))) left
          ∙ ap (λ s. inverse_term o 0 (parts.left ∷ s ∷ []) (literal_value (tree_at trees b))) right ∙ row.1,
      record {
        sorted = fit.0;
        sort = fit.1 ∙ sym parts.first;
        over = subst (λ (r : Sort). IsRowOver (sort_of (tree_at trees b)) r row.0) (sym (sort-as (tree_at trees id) rank.0 (ap tree_sort is ∙ rank.1)))
            (subst (λ (q : Sort). IsRowOver q rank.0 row.0) (sym right) (over o 0 (parts.left ∷ parts.right ∷ []) (literal_value (tree_at trees b)) row.0 lawful row.1 rank.0 parts.rank));
        way = opens.0;
        descends = λ t. ap (λ u. descend p.level u t) is ∙ descend-first p.level o (tree_at trees a) (tree_at trees b) t (in-one p.level (tree_at trees a) own.once)
            ∙ ap (λ q. option_and_then (λ next. descend p.level (tree_at trees a) next) q) (next-is o 0 (tree_sorts (Cons (tree_at trees a) (Cons (tree_at trees b) Nil))) (parts.left ∷ parts.right ∷ []) (tree_at trees b) t row.0 parts.sorts row.1);
      },
    )

-- to the second
second-good : (p : Place) (trees : List Tree) (id a b : ℕ) (o : Op) → IsSorted (Apply o (Cons (tree_at trees a) (Cons (tree_at trees b) Nil))) → IsQuantifierFree (Apply o (Cons (tree_at trees a) (Cons (tree_at trees b) Nil)))
    → tree_at trees id ≡ Apply o (Cons (tree_at trees a) (Cons (tree_at trees b) Nil)) → way_of p (tree_at trees id) ≡ Open → way_of p (tree_at trees a) ≡ Absent
    → (row : Tree) × (inverse_term o 1 (sort_at trees a ∷ sort_at trees b ∷ []) (literal_value (tree_at trees a)) ≡ Some row) × IsGood p trees id b (Some a) row
second-good p trees id a b o sorted plain is way none =
    let rank = found (tree_sort (Apply o (Cons (tree_at trees a) (Cons (tree_at trees b) Nil)))) sorted.1 in
    let parts = two-arguments o (tree_at trees a) (tree_at trees b) rank.0 rank.1 in
    let lawful = lawful_sorts (Cons (tree_at trees a) (Cons (tree_at trees b) Nil)) no_levels (parts.left ∷ parts.right ∷ []) sorted.0 parts.sorts in
    let opens = second-open (way_of p (tree_at trees a)) (way_of p (tree_at trees b)) (is_clear p o 0 (tree_at trees b)) (is_clear p o 1 (tree_at trees a)) (ap (way_of p) (sym is) ∙ way) none in
    let away = absent-stands p (tree_at trees a) sorted.0.0 plain.0 none in
    let clear = and_parts (has_row o (literal_value (tree_at trees a))) (not (has_inside p (tree_at trees a) && uses_other o 1)) opens.1 in
    let row = row-there o 1 (parts.left ∷ parts.right ∷ []) rank.0 (literal_value (tree_at trees a)) parts.rank (omega arith) clear.0 in
    let left = sort-as (tree_at trees a) parts.left parts.first in
    let right = sort-as (tree_at trees b) parts.right parts.second in
    let fit = fits o 1 (parts.left ∷ parts.right ∷ []) (literal_value (tree_at trees a)) row.0 lawful row.1 in (
      row.0,
      ap (λ s. inverse_term o 1 (s ∷ sort_at trees b ∷ []) (literal_value (tree_at trees a))) left
          ∙ ap (λ s. inverse_term o 1 (parts.left ∷ s ∷ []) (literal_value (tree_at trees a))) right ∙ row.1,
      record {
        sorted = fit.0;
        sort = fit.1 ∙ sym parts.second;
        over = subst (λ (r : Sort). IsRowOver (sort_of (tree_at trees a)) r row.0) (sym (sort-as (tree_at trees id) rank.0 (ap tree_sort is ∙ rank.1)))
            (subst (λ (q : Sort). IsRowOver q rank.0 row.0) (sym left) (over o 1 (parts.left ∷ parts.right ∷ []) (literal_value (tree_at trees a)) row.0 lawful row.1 rank.0 parts.rank));
        way = opens.0;
        descends = λ t. ap (λ u. descend p.level u t) is ∙ descend-second p.level o (tree_at trees a) (tree_at trees b) t (in-none p.level (tree_at trees a) away)
            ∙ ap (λ q. option_and_then (λ next. descend p.level (tree_at trees b) next) q) (next-is o 1 (tree_sorts (Cons (tree_at trees a) (Cons (tree_at trees b) Nil))) (parts.left ∷ parts.right ∷ []) (tree_at trees a) t row.0 parts.sorts row.1);
      },
    )

-- to the only one
only-good : (p : Place) (trees : List Tree) (id a : ℕ) (o : Op) → IsSorted (Apply o (Cons (tree_at trees a) Nil))
    → tree_at trees id ≡ Apply o (Cons (tree_at trees a) Nil) → way_of p (tree_at trees id) ≡ Open
    → (row : Tree) × (inverse_term o 0 (sort_at trees a ∷ []) None ≡ Some row) × IsGood p trees id a None row
only-good p trees id a o sorted is way =
    let rank = found (tree_sort (Apply o (Cons (tree_at trees a) Nil))) sorted.1 in
    let parts = one-argument o (tree_at trees a) rank.0 rank.1 in
    let lawful = lawful_sorts (Cons (tree_at trees a) Nil) no_levels (parts.sort ∷ []) sorted.0 parts.sorts in
    let opens = through-open (has_row o None) (way_of p (tree_at trees a)) (ap (way_of p) (sym is) ∙ way) in
    let row = row-there o 0 (parts.sort ∷ []) rank.0 None parts.rank (omega arith) opens.1 in
    let own = sort-as (tree_at trees a) parts.sort parts.first in
    let fit = fits o 0 (parts.sort ∷ []) None row.0 lawful row.1 in
    let sort = sort-as (tree_at trees id) rank.0 (ap tree_sort is ∙ rank.1) in (
      row.0,
      ap (λ s. inverse_term o 0 (s ∷ []) None) own ∙ row.1,
      record {
        sorted = fit.0;
        sort = fit.1 ∙ sym parts.first;
        over = subst (λ (r : Sort). IsRowOver r r row.0) (sym sort)
            (of-if_some (inverse_term o 0 (parts.sort ∷ []) None) (IsRowOver rank.0 rank.0) row.0 row.1 (one-row o parts.sort rank.0 rank.0 None parts.rank));
        way = opens.0;
        descends = λ t. ap (λ u. descend p.level u t) is
            ∙ ap (λ q. option_and_then (λ next. descend p.level (tree_at trees a) next) q)
            (next-is o 0 (tree_sorts (Cons (tree_at trees a) Nil)) (parts.sort ∷ []) t t row.0 parts.sorts (value-free o parts.sort (literal_value t) ∙ row.1));
      },
    )

-- the rank of one argument and of two
pub one-rank : (trees : List Tree) (ids : List ℕ) (id a : ℕ) (o : Op) (l : Sort) → AreShared trees → AreKids trees ids id o (a ∷ []) → tree_sort (tree_at trees a) ≡ Some l → IsSome (result_sort o (l ∷ []))
one-rank trees ids id a o l shared kids e =
    let sorted = subst IsSorted kids.tree_is (shared.sorted id kids.below) in
    let rank : tree_sort (Apply o (Cons (tree_at trees a) Nil)) ≡ result_sort o (l ∷ []) = ap (λ q. option_and_then (result_sort o) (option_and_then (λ s. option_map (λ sorts. s ∷ sorts) (Some [])) q)) e in
    subst (λ (q : Option Sort). IsSome q) rank sorted.1

pub two-rank : (trees : List Tree) (ids : List ℕ) (id a b : ℕ) (o : Op) (l r : Sort) → AreShared trees → AreKids trees ids id o (a ∷ b ∷ []) → tree_sort (tree_at trees a) ≡ Some l → tree_sort (tree_at trees b) ≡ Some r → IsSome (result_sort o (l ∷ r ∷ []))
two-rank trees ids id a b o l r shared kids e f =
    let sorted = subst IsSorted kids.tree_is (shared.sorted id kids.below) in
    let rank = found (tree_sort (Apply o (Cons (tree_at trees a) (Cons (tree_at trees b) Nil)))) sorted.1 in
    let parts = two-arguments o (tree_at trees a) (tree_at trees b) rank.0 rank.1 in
    let left : Some parts.left ≡ Some l = sym parts.first ∙ e in
    let right : Some parts.right ≡ Some r = sym parts.second ∙ f in
    let first : parts.left ≡ l = cc in
    let second : parts.right ≡ r = cc in
    let own : result_sort o (l ∷ r ∷ []) ≡ Some rank.0 = ap (λ s. result_sort o (s ∷ r ∷ [])) (sym first) ∙ ap (λ s. result_sort o (parts.left ∷ s ∷ [])) (sym second) ∙ parts.rank in
    ap is_some own

-- the steps
pub first-step : (p : Place) (trees : List Tree) (ids : List ℕ) (id a b : ℕ) (o : Op) (l r : Sort) (v : Option ℕ) (row : Option Tree) (made : Option Step) → AreShared trees → AreKids trees ids id o (a ∷ b ∷ [])
    → way_of p (tree_at trees id) ≡ Open → (way_of p (tree_at trees a) ≡ Absent → ⊥) → tree_sort (tree_at trees a) ≡ Some l → tree_sort (tree_at trees b) ≡ Some r
    → row ≡ inverse_term o 0 (l ∷ r ∷ []) v → v ≡ literal_value (tree_at trees b) → MakesStep row (Some b) a made → IsStep p trees ids id made
first-step p trees ids id a b o l r v row made shared kids way there e f is at h =
    let good = first-good p trees id a b o (subst IsSorted kids.tree_is (shared.sorted id kids.below)) (subst IsQuantifierFree kids.tree_is kids.free) kids.tree_is way there in
    let same : row ≡ Some good.0 =
    is ∙ ap (λ u. inverse_term o 0 (l ∷ r ∷ []) u) at ∙ ap (λ s. inverse_term o 0 (s ∷ r ∷ []) (literal_value (tree_at trees b))) (sym (sort-as (tree_at trees a) l e))
    ∙ ap (λ s. inverse_term o 0 (sort_at trees a ∷ s ∷ []) (literal_value (tree_at trees b))) (sym (sort-as (tree_at trees b) r f)) ∙ good.1 in
    good-step p trees ids id a (Some b) row good.0 made kids.lower.0 kids.there.0 kids.there.1.0 same good.2 h

pub second-step : (p : Place) (trees : List Tree) (ids : List ℕ) (id a b : ℕ) (o : Op) (l r : Sort) (v : Option ℕ) (row : Option Tree) (made : Option Step) → AreShared trees → AreKids trees ids id o (a ∷ b ∷ [])
    → way_of p (tree_at trees id) ≡ Open → way_of p (tree_at trees a) ≡ Absent → tree_sort (tree_at trees a) ≡ Some l → tree_sort (tree_at trees b) ≡ Some r
    → row ≡ inverse_term o 1 (l ∷ r ∷ []) v → v ≡ literal_value (tree_at trees a) → MakesStep row (Some a) b made → IsStep p trees ids id made
second-step p trees ids id a b o l r v row made shared kids way none e f is at h =
    let good = second-good p trees id a b o (subst IsSorted kids.tree_is (shared.sorted id kids.below)) (subst IsQuantifierFree kids.tree_is kids.free) kids.tree_is way none in
    let same : row ≡ Some good.0 =
    is ∙ ap (λ u. inverse_term o 1 (l ∷ r ∷ []) u) at ∙ ap (λ s. inverse_term o 1 (s ∷ r ∷ []) (literal_value (tree_at trees a))) (sym (sort-as (tree_at trees a) l e))
    ∙ ap (λ s. inverse_term o 1 (sort_at trees a ∷ s ∷ []) (literal_value (tree_at trees a))) (sym (sort-as (tree_at trees b) r f)) ∙ good.1 in
    good-step p trees ids id b (Some a) row good.0 made kids.lower.1.0 kids.there.1.0 kids.there.0 same good.2 h

pub only-step : (p : Place) (trees : List Tree) (ids : List ℕ) (id a : ℕ) (o : Op) (l : Sort) (row : Option Tree) (made : Option Step) → AreShared trees → AreKids trees ids id o (a ∷ [])
    → way_of p (tree_at trees id) ≡ Open → tree_sort (tree_at trees a) ≡ Some l → row ≡ inverse_term o 0 (l ∷ []) None → MakesStep row None a made → IsStep p trees ids id made
only-step p trees ids id a o l row made shared kids way e is h =
    let good = only-good p trees id a o (subst IsSorted kids.tree_is (shared.sorted id kids.below)) kids.tree_is way in
    let same : row ≡ Some good.0 = is ∙ ap (λ s. inverse_term o 0 (s ∷ []) None) (sym (sort-as (tree_at trees a) l e)) ∙ good.1 in
    good-step p trees ids id a None row good.0 made kids.lower.0 kids.there.0 tt same good.2 h

-- no other application leads on
pub no-step : (p : Place) (trees : List Tree) (o : Op) (kids : List ℕ) → (length kids ≡ 1 → ⊥) → (length kids ≡ 2 → ⊥) → way_of p (Apply o (trees_at trees kids)) ≡ Open → ⊥
no-step p trees o [] g h e = absurd (cc)
no-step p trees o (a ∷ []) g h e = g refl
no-step p trees o (a ∷ b ∷ []) g h e = h refl
no-step p trees o (a ∷ b ∷ c ∷ []) g h e = three-closed (way_of p (tree_at trees a)) (way_of p (tree_at trees b)) (way_of p (tree_at trees c)) e
no-step p trees o (a ∷ b ∷ c ∷ d ∷ rest) g h e = absurd (cc)

-- a term to which the way is open and that is no application is the place
pub leaf-is_place : (p : Place) (trees : List Tree) (node : Node) (t : Tree) → ((o : Op) (kids : List ℕ) → node_tree trees node ≡ Apply o (trees_at trees kids) → ⊥) → node_tree trees node ≡ t → way_of p t ≡ Open → (s : Sort) × (t ≡ Variable p.level s)
leaf-is_place p trees (Const i s) t h e way = let gone : Absent ≡ Open = ap (way_of p) e ∙ way in absurd (cc)
leaf-is_place p trees (Var l s) t h e way = (s, sym e ∙ ap (λ k. Variable k s) (at (l == p.level) refl (ap (way_of p) e ∙ way)))
  where
    at : (b : Bool) → (l == p.level) ≡ b → cond b Open Absent ≡ Open → l ≡ p.level
    at true is k = eqb-true l p.level is
    at false is k = absurd (cc)
leaf-is_place p trees (Lit w) t h e way = let gone : Absent ≡ Open = ap (way_of p) e ∙ way in absurd (cc)
leaf-is_place p trees (App o kids) t h e way = absurd (h o kids.items refl)
leaf-is_place p trees (AllNode l s body) t h e way = let gone : Absent ≡ Open = ap (way_of p) e ∙ way in absurd (cc)
leaf-is_place p trees (Ex l s body) t h e way = let gone : Absent ≡ Open = ap (way_of p) e ∙ way in absurd (cc)
