-- Equations that fix runs of bits, and their conjunction.
use Rattle.std.proofs.Common.{◌≡◌, ℕ, ◌+◌, ◌-◌, ◌/◌, ◌%◌, ◌^◌, ◌<◌, ◌≤◌, ◌&&◌, Bool, true, false, Option, Some, List, [], ◌∷◌, map, refl, sym, ap, ◌∙◌, subst, slice_get, arith}
use Rattle.std.specs.Prelude.{◌==◌, IsSomeAnd, unwrap_or, option_map, slice_index}
use Rattle.std.specs.List.{AllByRecursion}
use Rattle.std.proofs.lemmas.Bool.{eqb-true, eq-eqb, lt-ltb, le-leb, and_parts}
use Rattle.std.proofs.lemmas.List.Elements.{recursion_from_All}
use Rattle.std.proofs.lemmas.Option.{get_or_from_slice_get}
use Rattle.qv_words.specs.declared.sort.Sort.{Sort}
use Rattle.qv_words.specs.declared.sort.Sort.TheVariants.{Bits}
use Rattle.qv_words.specs.declared.sort.Sort.TheVariants.{Bool as BoolSort}
use Rattle.qv_words.specs.declared.op.Op.TheVariants.{And, Equal, Extract}
use Rattle.qv_words.specs.Sort.{IsLawful, IsValueOf, width_of}
use Rattle.qv_words.specs.Op.{truth}
use Rattle.qv_words.specs.Tree.{Tree, Variable, Literal, Apply, Nil, Cons, tree_sort}
use Rattle.qv_words.specs.Meaning.{Means}
use Rattle.qv_words.specs.Prenex.{binary}
use Rattle.qv_words.specs.Problem.{Problem, Place, conjunction, conjunction_with}
use Rattle.qv_words.specs.Choice.{IsTrueAt}
use Rattle.qv_words.specs.Linked.{Run, equation_of, fixing}
use Rattle.qv_words.specs.GameLaws.{IsProblem}
use Rattle.qv_words.proofs.Bounds.{modulo-lt}
use Rattle.qv_words.proofs.Unique.{one_meaning}
use Rattle.qv_words.proofs.Elements.{all-at, some-and, to-some}
use Rattle.qv_game_laws.proofs.Terms.{OfVariable, IsOf, IsOver}
use Rattle.qv_game_laws.proofs.Points.{IsPoint, point-at}
use Rattle.qv_game_laws.proofs.Steps.{Before}
use Rattle.qv_game_entry_laws.specs.BuildingLaws.{AgreeIn, bits_in}

truth-one : (b : Bool) → 1 ≡ truth b → b ≡ true
truth-one true h = refl
truth-one false h = absurd (omega (arith, h))

-- an equation with a literal means whether the values are the same
equal-means : (e : ℕ → Option ℕ) (t : Tree) (s : Sort) (v n : ℕ) → tree_sort t ≡ Some s → Means [] e t v → Means [] e (binary Equal t (Literal s n)) (truth (v == n))
equal-means e t s v n sort m = (s ∷ s ∷ [], v ∷ n ∷ [], rw sort refl, (v, n ∷ [], m, (n, [], refl, refl, refl), refl), refl)

equal-true : (e : ℕ → Option ℕ) (t : Tree) (s : Sort) (v n : ℕ) → tree_sort t ≡ Some s → Means [] e t v → v ≡ n → Means [] e (binary Equal t (Literal s n)) 1
equal-true e t s v n sort m same =
    let is : (v == n) ≡ true = eq-eqb v n same in
    subst (λ (b : Bool). Means [] e (binary Equal t (Literal s n)) (truth b)) is (equal-means e t s v n sort m)

equal-gives : (e : ℕ → Option ℕ) (t : Tree) (s : Sort) (v n : ℕ) → tree_sort t ≡ Some s → Means [] e t v → Means [] e (binary Equal t (Literal s n)) 1 → v ≡ n
equal-gives e t s v n sort m holds =
    let is : (v == n) ≡ true = truth-one (v == n) (one_meaning (binary Equal t (Literal s n)) [] e 1 (truth (v == n)) holds (equal-means e t s v n sort m)) in
    eqb-true v n is

-- the conjunction of two formulas
pub and-of : (P : OfVariable) (a b : Tree) → IsOf P BoolSort a → IsOf P BoolSort b → IsOf P BoolSort (binary And a b)
and-of P a b ha hb = (((ha.0, (hb.0, tt)), rw (ha.1, hb.1) refl), rw (ha.1, hb.1) refl)

and-means : (e : ℕ → Option ℕ) (a b : Tree) (v w : ℕ) → tree_sort a ≡ Some BoolSort → tree_sort b ≡ Some BoolSort → Means [] e a v → Means [] e b w → Means [] e (binary And a b) (truth ((v == 1) && (w == 1)))
and-means e a b v w sa sb ma mb = (BoolSort ∷ BoolSort ∷ [], v ∷ w ∷ [], rw (sa, sb) refl, (v, w ∷ [], ma, (w, [], mb, refl, refl), refl), refl)

both-one : (v w : ℕ) → ((v == 1) && (w == 1)) ≡ true → (v ≡ 1) × (w ≡ 1)
both-one v w h =
    let parts = and_parts (v == 1) (w == 1) h in
    (eqb-true v 1 parts.0, eqb-true w 1 parts.1)

and-gives : (e : ℕ → Option ℕ) (a b : Tree) → tree_sort a ≡ Some BoolSort → tree_sort b ≡ Some BoolSort → Means [] e (binary And a b) 1 → Means [] e a 1 × Means [] e b 1
and-gives e a b sa sb m =
    let v = m.3.0 in
    let w = m.3.3.0 in
    let ones = both-one v w (truth-one ((v == 1) && (w == 1)) (one_meaning (binary And a b) [] e 1 (truth ((v == 1) && (w == 1))) m (and-means e a b v w sa sb m.3.2 m.3.3.2))) in
    (subst (λ (k : ℕ). Means [] e a k) ones.0 m.3.2, subst (λ (k : ℕ). Means [] e b k) ones.1 m.3.3.2)

-- what an equation says of a point: it has the bits of the other one in the run
pub record Fixes (p : Problem) (n : ℕ) (point : List ℕ) (r : Run) (t : Tree) : Type 0 where
  pub of : IsOf (Before p n) BoolSort t
  pub gives : (x : List ℕ) → IsPoint p.prefix n x → IsTrueAt x t → AgreeIn point x r
  pub takes : (x : List ℕ) → IsPoint p.prefix n x → AgreeIn point x r → IsTrueAt x t

-- the one bit of a truth value
one-bit : (low high v : ℕ) → low ≡ 0 → high ≡ 0 → v < 2 → v / 2 ^ low % 2 ^ (high - low + 1) ≡ v
one-bit low high v l h small =
    subst (λ (k : ℕ). v / 2 ^ k % 2 ^ (high - k + 1) ≡ v) (sym l) (subst (λ (k : ℕ). v / 2 ^ 0 % 2 ^ (k - 0 + 1) ≡ v) (sym h) (plain v small))
  where
    plain : (v : ℕ) → v < 2 → v / 2 ^ 0 % 2 ^ (0 - 0 + 1) ≡ v
    plain v small = omega (arith, small)

at-index : (point : List ℕ) (i v : ℕ) → slice_get point i ≡ Some v → slice_index point i ≡ v
at-index point i v h = get_or_from_slice_get point i v 0 h

fixes-bool : (p : Problem) (n : ℕ) (point : List ℕ) (r : Run) (v : ℕ) → IsPoint p.prefix n point → r.place < n → r.low ≤ r.high → r.high < 1 → (place : Place) → slice_get p.prefix r.place ≡ Some place → place.sort ≡ BoolSort → slice_get point r.place ≡ Some v → v < 2 → Fixes p n point r (fixing BoolSort v r)
fixes-bool p n point r v typed below ordered high place at sort here small =
    let low : r.low ≡ 0 = omega (arith, ordered, high) in
    let top : r.high ≡ 0 = omega (arith, high) in
    let bit : bits_in r v ≡ v = one-bit r.low r.high v low top small in
    let mine : slice_index point r.place ≡ v = at-index point r.place v here in
    record {
      of = (((((omega arith, omega arith), (below, to-some (slice_get p.prefix r.place) (λ q. q.sort ≡ BoolSort) place at sort)), (((omega arith, omega arith), small), tt)), refl), refl);
      gives = λ x tx holds.
          let value = point-at p.prefix n x r.place place tx below at in
          let little : value.0 < 2 = subst (λ (s : Sort). IsValueOf value.0 s) sort value.2 in
          let theirs : slice_index x r.place ≡ value.0 = at-index x r.place value.0 value.1 in
          let same : value.0 ≡ v = equal-gives (slice_get x) (Variable r.place BoolSort) BoolSort value.0 v refl value.1 holds in
          ap (bits_in r) (theirs ∙ same ∙ sym mine);
      takes = λ x tx agree.
          let value = point-at p.prefix n x r.place place tx below at in
          let little : value.0 < 2 = subst (λ (s : Sort). IsValueOf value.0 s) sort value.2 in
          let theirs : slice_index x r.place ≡ value.0 = at-index x r.place value.0 value.1 in
          let same : value.0 ≡ v = sym (one-bit r.low r.high value.0 low top little) ∙ ap (bits_in r) (sym theirs) ∙ agree ∙ ap (bits_in r) mine ∙ bit in
          equal-true (slice_get x) (Variable r.place BoolSort) BoolSort value.0 v refl value.1 same;
    }

equal-sort : (t : Tree) (k n : ℕ) → tree_sort t ≡ Some (Bits k) → tree_sort (binary Equal t (Literal (Bits k) n)) ≡ Some BoolSort
equal-sort t k n h = rw (h, eq-eqb k k refl) refl

-- some bits of a word
part : ℕ → Run → Tree
part w r = Apply (Extract r.high r.low) (Cons (Variable r.place (Bits w)) Nil)

part-sort : (w : ℕ) (r : Run) → r.low ≤ r.high → r.high < w → tree_sort (part w r) ≡ Some (Bits (r.high - r.low + 1))
unfolding part
part-sort w r ordered inside = rw (lt-ltb r.high w inside, le-leb r.low r.high ordered) refl

part-means : (w : ℕ) (r : Run) (x : List ℕ) (v : ℕ) → slice_get x r.place ≡ Some v → Means [] (slice_get x) (part w r) (bits_in r v)
unfolding part
part-means w r x v h = (Bits w ∷ [], v ∷ [], refl, (v, [], h, refl, refl), refl)

fixes-bits : (p : Problem) (n : ℕ) (point : List ℕ) (r : Run) (w v : ℕ) → IsPoint p.prefix n point → r.place < n → r.low ≤ r.high → r.high < w → IsLawful (Bits w) → (place : Place) → slice_get p.prefix r.place ≡ Some place → place.sort ≡ Bits w → slice_get point r.place ≡ Some v → Fixes p n point r (fixing (Bits w) v r)
unfolding part
fixes-bits p n point r w v typed below ordered inside lawful place at sort here =
    let mine : slice_index point r.place ≡ v = at-index point r.place v here in
    let width : tree_sort (part w r) ≡ Some (Bits (r.high - r.low + 1)) = part-sort w r ordered inside in
    let fits : bits_in r v < 2 ^ (r.high - r.low + 1) = modulo-lt (r.high - r.low + 1) (v / 2 ^ r.low) in
    let narrow : IsLawful (Bits (r.high - r.low + 1)) = (omega arith, omega (arith, inside, lawful.1)) in
    let word : IsOver (Before p n) (part w r) = (((lawful, (below, to-some (slice_get p.prefix r.place) (λ q. q.sort ≡ Bits w) place at sort)), tt), rw width refl) in
    record {
      of = (((word, ((narrow, fits), tt)), rw (equal-sort (part w r) (r.high - r.low + 1) (bits_in r v) width) refl), equal-sort (part w r) (r.high - r.low + 1) (bits_in r v) width);
      gives = λ x tx holds.
          let value = point-at p.prefix n x r.place place tx below at in
          let theirs : slice_index x r.place ≡ value.0 = at-index x r.place value.0 value.1 in
          let same : bits_in r value.0 ≡ bits_in r v = equal-gives (slice_get x) (part w r) (Bits (r.high - r.low + 1)) (bits_in r value.0) (bits_in r v) width (part-means w r x value.0 value.1) holds in
          ap (bits_in r) theirs ∙ same ∙ ap (bits_in r) (sym mine);
      takes = λ x tx agree.
          let value = point-at p.prefix n x r.place place tx below at in
          let theirs : slice_index x r.place ≡ value.0 = at-index x r.place value.0 value.1 in
          let same : bits_in r value.0 ≡ bits_in r v = ap (bits_in r) (sym theirs) ∙ agree ∙ ap (bits_in r) mine in
          equal-true (slice_get x) (part w r) (Bits (r.high - r.low + 1)) (bits_in r value.0) (bits_in r v) width (part-means w r x value.0 value.1) same;
    }

-- the equation of a run, by its place's sort
fixes-by : (p : Problem) (n : ℕ) (point : List ℕ) (r : Run) (v : ℕ) (s : Sort) → IsPoint p.prefix n point → r.place < n → r.low ≤ r.high → r.high < width_of s → IsLawful s → (place : Place) → slice_get p.prefix r.place ≡ Some place → place.sort ≡ s → slice_get point r.place ≡ Some v → IsValueOf v s → Fixes p n point r (fixing s v r)
fixes-by p n point r v BoolSort typed below ordered inside lawful place at sort here small = fixes-bool p n point r v typed below ordered inside place at sort here small
fixes-by p n point r v (Bits w) typed below ordered inside lawful place at sort here small = fixes-bits p n point r w v typed below ordered inside lawful place at sort here

pub equation-fixes : (p : Problem) (n : ℕ) (point : List ℕ) (r : Run) → IsProblem p → IsPoint p.prefix n point → r.place < n → r.low ≤ r.high → IsSomeAnd (slice_get p.prefix r.place) (λ place. r.high < width_of place.sort) → Fixes p n point r (equation_of p point r)
equation-fixes p n point r hp typed below ordered inside =
    let there = some-and (slice_get p.prefix r.place) (λ place. r.high < width_of place.sort) inside in
    let value = point-at p.prefix n point r.place there.0 typed below there.1 in
    let lawful : IsLawful there.0.sort = all-at (λ place. IsLawful place.sort) p.prefix r.place there.0 (recursion_from_All (λ place. IsLawful place.sort) p.prefix hp.sorts) there.1 in
    let law = fixes-by p n point r value.0 there.0.sort typed below ordered there.2 lawful there.0 there.1 refl value.1 value.2 in
    let sort : unwrap_or (option_map (λ (place : Place). place.sort) (slice_get p.prefix r.place)) BoolSort ≡ there.0.sort = ap (λ (o : Option Place). unwrap_or (option_map (λ place. place.sort) o) BoolSort) there.1 in
    let number : unwrap_or (slice_get point r.place) 0 ≡ value.0 = ap (λ (o : Option ℕ). unwrap_or o 0) value.1 in
    subst (λ (s : Sort). Fixes p n point r (fixing s (unwrap_or (slice_get point r.place) 0) r)) (sym sort) (subst (λ (k : ℕ). Fixes p n point r (fixing there.0.sort k r)) (sym number) law)

-- the conjunction of the equations, behind a formula
pub record Conjoined (p : Problem) (n : ℕ) (point : List ℕ) (t : Tree) (runs : List Run) (u : Tree) : Type 0 where
  pub of : IsOf (Before p n) BoolSort u
  pub gives : (x : List ℕ) → IsPoint p.prefix n x → IsTrueAt x u → IsTrueAt x t × AllByRecursion (AgreeIn point x) runs
  pub takes : (x : List ℕ) → IsPoint p.prefix n x → IsTrueAt x t → AllByRecursion (AgreeIn point x) runs → IsTrueAt x u

conjoined-with : (p : Problem) (n : ℕ) (point : List ℕ) (t : Tree) (runs : List Run) → IsOf (Before p n) BoolSort t → AllByRecursion (λ r. Fixes p n point r (equation_of p point r)) runs → Conjoined p n point t runs (conjunction_with t (map (equation_of p point) runs))
conjoined-with p n point t [] h each = record { of = h; gives = λ x tx holds. (holds, tt); takes = λ x tx holds agree. holds }
conjoined-with p n point t (r ∷ runs) h each =
    let u = equation_of p point r in
    let rest = conjoined-with p n point (binary And t u) runs (and-of (Before p n) t u h each.0.of) each.1 in
    record {
      of = rest.of;
      gives = λ x tx holds.
          let out = rest.gives x tx holds in
          let both = and-gives (slice_get x) t u h.1 each.0.of.1 out.0 in
          (both.0, (each.0.gives x tx both.1, out.1));
      takes = λ x tx holds agree. rest.takes x tx (and-means (slice_get x) t u 1 1 h.1 each.0.of.1 holds (each.0.takes x tx agree.0)) agree.1;
    }

-- the conjunction of the equations alone
pub record Says (p : Problem) (n : ℕ) (point : List ℕ) (runs : List Run) (u : Tree) : Type 0 where
  pub of : IsOf (Before p n) BoolSort u
  pub gives : (x : List ℕ) → IsPoint p.prefix n x → IsTrueAt x u → AllByRecursion (AgreeIn point x) runs
  pub takes : (x : List ℕ) → IsPoint p.prefix n x → AllByRecursion (AgreeIn point x) runs → IsTrueAt x u

pub conjunction-says : (p : Problem) (n : ℕ) (point : List ℕ) (runs : List Run) → AllByRecursion (λ r. Fixes p n point r (equation_of p point r)) runs → Says p n point runs (conjunction (map (equation_of p point) runs))
conjunction-says p n point [] each = record { of = (((omega arith, omega arith), omega arith), refl); gives = λ x tx holds. tt; takes = λ x tx agree. refl }
conjunction-says p n point (r ∷ runs) each =
    let whole = conjoined-with p n point (equation_of p point r) runs each.0.of each.1 in
    record {
      of = whole.of;
      gives = λ x tx holds. let out = whole.gives x tx holds in (each.0.gives x tx out.0, out.1);
      takes = λ x tx agree. whole.takes x tx (each.0.takes x tx agree.0) agree.1;
    }
