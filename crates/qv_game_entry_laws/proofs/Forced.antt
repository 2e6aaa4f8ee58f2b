-- An entry whose winner doesn't own its block.
use Rattle.std.proofs.Common.{◌≡◌, ℕ, zero, suc, ◌-◌, ◌<◌, ◌≤◌, Bool, false, Option, Some, None, List, [], ◌∷◌, ◌++◌, refl, sym, subst, inl, inr, slice_get, take, length, arith}
use Rattle.std.specs.Prelude.{IsSomeAnd, MatchBool, slice_index}
use Rattle.std.specs.List.{AllZip, AllByRecursion}
use Rattle.std.proofs.lemmas.Bool.{cases_Bool}
use Rattle.std.proofs.lemmas.List.{take_all}
use Rattle.std.proofs.lemmas.List.Elements.{All-from_recursion, recursion_from_All}
use Rattle.std.proofs.lemmas.Option.{none-some}
use Rattle.qv_words.specs.declared.sort.Sort.{Sort}
use Rattle.qv_words.specs.declared.sort.Sort.TheVariants.{Bits}
use Rattle.qv_words.specs.declared.sort.Sort.TheVariants.{Bool as BoolSort}
use Rattle.qv_words.specs.Sort.{IsValueOf}
use Rattle.qv_words.specs.Tree.{Tree, tree_sort}
use Rattle.qv_words.specs.Sorted.{free_levels}
use Rattle.qv_words.specs.Meaning.{Means}
use Rattle.qv_words.specs.Prenex.{negation}
use Rattle.qv_words.specs.Problem.{Problem}
use Rattle.qv_words.specs.Choice.{IsTrueAt}
use Rattle.qv_words.specs.Linked.{Block, Entry, Run, AreLinks, IsLinked, IsOwned, IsForced, IsPlaceBelow, IsRun, LinksToOne, MeetsBlock, blocks_of, block_numbered, equation_of, linked_regions, places_below, same_quantifier}
use Rattle.qv_words.specs.GameLaws.{IsProblem}
use Rattle.qv_words.proofs.Unique.{one_meaning}
use Rattle.qv_words.proofs.Elements.{to-some, all-weaker, all-of}
use Rattle.qv_game_laws.proofs.Terms.{OfVariable, IsOf, over-leaves, over-means, over-sort, term-from_over}
use Rattle.qv_game_laws.proofs.Each.{same-quantifier}
use Rattle.qv_game_laws.proofs.Points.{below-is, IsPoint}
use Rattle.qv_game_laws.proofs.Steps.{before, Before, point-values, longer, leads-to, later-of}
use Rattle.qv_game_entry_laws.specs.BuildingLaws.{Deny, AgreeIn, IsForcedBy, ForcedMayCome}
use Rattle.qv_game_entry_laws.proofs.Equations.{Fixes, Says, equation-fixes, conjunction-says}
use Rattle.qv_game_laws.proofs.GameSteps.{level-of}

-- what is negated to a truth value is one
pub bool-below : (f : Tree) (s : Sort) → tree_sort f ≡ Some s → tree_sort (negation f) ≡ Some BoolSort → s ≡ BoolSort
bool-below f BoolSort h n = refl
bool-below f (Bits w) h n = let none : None ≡ Some BoolSort = rw h at n in absurd (none-some BoolSort none)

-- the negation of what is false
pub negation-true : (e : ℕ → Option ℕ) (t : Tree) → tree_sort t ≡ Some BoolSort → Means [] e t 0 → Means [] e (negation t) 1
negation-true e t s m = (BoolSort ∷ [], 0 ∷ [], rw s refl, (0, [], m, refl, refl), refl)

-- what a negation that is false negates
negation-denied : (e : ℕ → Option ℕ) (t : Tree) → Means [] e (negation t) 0 → (v : ℕ) × Means [] e t v × (1 ≤ v)
negation-denied e t m = (m.3.0, m.3.2, first m.3.0 m.3.1 m.3.4 m.4)
  where
    first : (v : ℕ) (rest : List ℕ) → m.1 ≡ v ∷ rest → 0 ≡ 1 - slice_index m.1 0 → 1 ≤ v
    first v rest is value =
        let k : 0 ≡ 1 - v = subst (λ (vs : List ℕ). 0 ≡ 1 - slice_index vs 0) is value in
        omega (arith, k)

-- where a region is false, what denies it is true
denied-true : (P : OfVariable) (e : ℕ → Option ℕ) → ((l : ℕ) (s : Sort) → P l s → IsSomeAnd (e l) (λ v. IsValueOf v s)) → (f g : Tree) → Deny f g → IsOf P BoolSort g → Means [] e g 0 → Means [] e f 1
denied-true P e values f g (inl is) h m = subst (λ (t : Tree). Means [] e t 1) (sym is) (negation-true e g h.1 m)
denied-true P e values f g (inr is) h m =
    let whole : IsOf P BoolSort (negation f) = subst (IsOf P BoolSort) is h in
    let sort = over-sort P f whole.0.0.0 in
    let bool : sort.0 ≡ BoolSort = bool-below f sort.0 sort.1 whole.1 in
    let value = over-means P BoolSort f e (whole.0.0.0, subst (λ (s : Sort). tree_sort f ≡ Some s) bool sort.1) values in
    let positive = negation-denied e f (subst (λ (t : Tree). Means [] e t 0) is m) in
    let same : value.0 ≡ positive.0 = one_meaning f [] e value.0 positive.0 value.2 positive.1 in
    let one : value.0 ≡ 1 = let small : value.0 < 2 = value.1 in let some : 1 ≤ positive.0 = positive.2 in omega (arith, small, some, same) in
    subst (Means [] e f) one value.2

-- where not all formulas are true, some region that one of them denies is
pub found : (P : OfVariable) (e : ℕ → Option ℕ) → ((l : ℕ) (s : Sort) → P l s → IsSomeAnd (e l) (λ v. IsValueOf v s)) → (formulas regions : List Tree) → AllZip Deny formulas regions → AllByRecursion (IsOf P BoolSort) regions → (AllByRecursion (λ t. Means [] e t 1) formulas → ⊥) → (k : ℕ) × IsSomeAnd (slice_get regions k) (λ t. Means [] e t 1)
found P e values [] [] denied each none = absurd (none tt)
found P e values [] (g ∷ gs) denied each none = absurd denied
found P e values (f ∷ fs) [] denied each none = absurd denied
found P e values (f ∷ fs) (g ∷ gs) denied each none =
    let here = over-means P BoolSort g e each.0 values in
    by here.0 here.1 here.2 (λ no. found P e values fs gs denied.1 each.1 no)
  where
    by : (v : ℕ) → v < 2 → Means [] e g v → ((AllByRecursion (λ t. Means [] e t 1) fs → ⊥) → (k : ℕ) × IsSomeAnd (slice_get gs k) (λ t. Means [] e t 1)) → (k : ℕ) × IsSomeAnd (slice_get (g ∷ gs) k) (λ t. Means [] e t 1)
    by zero small m rest =
        let behind = rest (λ all. none (denied-true P e values f g denied.0 each.0 m, all)) in
        (suc behind.0, behind.1)
    by (suc zero) small m rest = (0, m)
    by (suc (suc v)) small m rest = absurd (omega (arith, small))

-- what holds at each place holds of each
by-places : {X : Type 0} (P : X → Type 0) (xs : List X) → ((k : ℕ) (x : X) → slice_get xs k ≡ Some x → P x) → AllByRecursion P xs
by-places P [] h = tt
by-places P (x ∷ xs) h = (h 0 x refl, by-places P xs (λ k y at. h (suc k) y at))

-- the linked regions are formulas over the places up to the block
pub regions-of : (p : Problem) (earlier : List Entry) (e : Entry) (j : ℕ) → IsProblem p → IsLinked p earlier → AreLinks p earlier e → e.level ≡ suc j → AllByRecursion (IsOf (Before p (before p (suc j))) BoolSort) (linked_regions p earlier e)
regions-of p earlier e j hp linked links level =
    let all : take (length earlier) earlier ≡ earlier = take_all (length earlier) earlier (omega arith) in
    by-places (IsOf (Before p (before p (suc j))) BoolSort) (linked_regions p earlier e)
    (λ k t at. later-of p earlier e j t hp linked level
    (leads-to p earlier (length earlier) e k t (subst (λ (es : List Entry). AreLinks p es e) (sym all) links)
    (subst (λ (es : List Entry). slice_get (linked_regions p es e) k ≡ Some t) (sym all) at)))

pub other-owner : (e : Entry) (block : Block) → (e.winner ≡ block.owner → ⊥) → same_quantifier e.winner block.owner ≡ false
other-owner e block other = elim (cases_Bool (same_quantifier e.winner block.owner)) [
  | inl y ↦ absurd (other (same-quantifier e.winner block.owner y))
  | inr n ↦ n
]

-- what the region says of the places before the block
region-says : (p : Problem) (earlier : List Entry) (e : Entry) (block : Block) (runs : List Run) (formulas : List Tree) (j : ℕ) → IsProblem p → IsForcedBy p earlier e block runs formulas → e.level ≡ suc j → Says p (before p j) e.point runs e.region
region-says p earlier e block runs formulas j hp w level =
    let first : places_below (blocks_of p.prefix) e.level ≡ before p j = below-is (blocks_of p.prefix) e.level j level in
    let typed : IsPoint p.prefix (before p j) e.point = subst (λ (n : ℕ). IsPoint p.prefix n e.point) first w.point in
    let each = all-weaker (IsRun p e (linked_regions p earlier e)) (λ r. Fixes p (before p j) e.point r (equation_of p e.point r)) runs
    (λ r run. equation-fixes p (before p j) e.point r hp typed (subst (λ (n : ℕ). r.place < n) first run.below) run.ordered run.within)
    (recursion_from_All (IsRun p e (linked_regions p earlier e)) runs w.each) in
    subst (Says p (before p j) e.point runs) (sym w.region) (conjunction-says p (before p j) e.point runs each)

forced : (p : Problem) (earlier : List Entry) (e : Entry) (block : Block) (runs : List Run) (formulas : List Tree) (j : ℕ) → IsProblem p → IsLinked p earlier → IsForcedBy p earlier e block runs formulas → e.level ≡ suc j → slice_get (blocks_of p.prefix) j ≡ Some block → IsForced p earlier e block (linked_regions p earlier e)
forced p earlier e block runs formulas j hp linked w level at =
    let first : places_below (blocks_of p.prefix) e.level ≡ before p j = below-is (blocks_of p.prefix) e.level j level in
    let says = region-says p earlier e block runs formulas j hp w level in
    record {
      no_terms = w.no_terms;
      form = inl (record { runs = runs; each = w.each; apart = w.apart; region = w.region });
      closed = λ point values typed each holds.
          let here : IsPoint p.prefix (before p j) point = subst (λ (n : ℕ). IsPoint p.prefix n point) first typed in
          let agree = All-from_recursion (AgreeIn e.point point) runs (says.gives point here holds) in
          found (Before p (before p (suc j))) (slice_get (point ++ values)) (point-values p (before p (suc j)) (point ++ values) (longer p j block point values at here each))
          formulas (linked_regions p earlier e) w.denied (regions-of p earlier e j hp linked w.links level)
          (λ all. w.none point values typed each agree (All-from_recursion (IsTrueAt (point ++ values)) formulas all));
    }

pub forced-may-come : ForcedMayCome
forced-may-come p earlier e block runs formulas hp linked w =
    let index = level-of (blocks_of p.prefix) e.level block w.at_level in
    let first : places_below (blocks_of p.prefix) e.level ≡ before p index.0 = below-is (blocks_of p.prefix) e.level index.0 index.1 in
    let says = region-says p earlier e block runs formulas index.0 hp w index.1 in
    let typed : IsPoint p.prefix (before p index.0) e.point = subst (λ (n : ℕ). IsPoint p.prefix n e.point) first w.point in
    let region : IsOf (Before p (places_below (blocks_of p.prefix) e.level)) BoolSort e.region = subst (λ (n : ℕ). IsOf (Before p n) BoolSort e.region) (sym first) says.of in
    record {
      links = w.links;
      region = record {
        formula = term-from_over (Before p (places_below (blocks_of p.prefix) e.level)) BoolSort e.region region;
        variables = All-from_recursion (IsPlaceBelow p (places_below (blocks_of p.prefix) e.level)) (free_levels e.region) (over-leaves (Before p (places_below (blocks_of p.prefix) e.level)) e.region region.0);
        point = w.point;
        holds = says.takes e.point typed (all-of (AgreeIn e.point e.point) runs (λ r. refl));
      };
      block = to-some (block_numbered (blocks_of p.prefix) e.level) (MeetsBlock p earlier e) block w.at_level
          (subst (λ (b : Bool). MatchBool b (LinksToOne (linked_regions p earlier e) (IsOwned p e block)) (IsForced p earlier e block (linked_regions p earlier e))) (sym (other-owner e block w.owner))
          (forced p earlier e block runs formulas index.0 hp linked w index.1 index.2));
    }
