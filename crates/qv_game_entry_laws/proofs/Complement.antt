-- An entry whose region is what lies outside regions of the other player.
use Rattle.std.proofs.Common.{◌≡◌, ℕ, zero, suc, ◌+◌, ◌<◌, Bool, true, Some, Option, List, [], ◌∷◌, ◌++◌, map, refl, sym, ◌∙◌, subst, inr, slice_get, length, arith}
use Rattle.std.specs.Prelude.{IsSomeAnd, MatchBool}
use Rattle.std.specs.List.{AllByRecursion}
use Rattle.std.proofs.lemmas.List.Elements.{All-from_recursion, recursion_from_All}
use Rattle.qv_words.specs.declared.sort.Sort.{Sort}
use Rattle.qv_words.specs.declared.sort.Sort.TheVariants.{Bool as BoolSort}
use Rattle.qv_words.specs.declared.op.Op.TheVariants.{And}
use Rattle.qv_words.specs.Sort.{IsValueOf}
use Rattle.qv_words.specs.Tree.{Tree, tree_sort}
use Rattle.qv_words.specs.Sorted.{HasValues, free_levels}
use Rattle.qv_words.specs.Meaning.{Means}
use Rattle.qv_words.specs.Prenex.{binary, negation}
use Rattle.qv_words.specs.PassLaws.{IsPlain}
use Rattle.qv_words.specs.Gate.{clauses_value}
use Rattle.qv_words.specs.Clauses.{cnf}
use Rattle.qv_words.specs.Problem.{Problem, conjunction, conjunction_with, other}
use Rattle.qv_words.specs.Choice.{IsTrueAt}
use Rattle.qv_words.specs.Linked.{Block, Entry, IsComplement, IsForced, IsLinked, IsOwned, IsPlaceBelow, IsRival, LinksToOne, MeetsBlock, blocks_of, block_numbered, entries_named, linked_regions, places_below}
use Rattle.qv_words.specs.GameLaws.{IsProblem}
use Rattle.qv_words.proofs.Conjunctions.{both-true}
use Rattle.qv_words.proofs.Elements.{all-both_weaker, all-weaker, get-before, some-and, to-some}
use Rattle.qv_circuits_laws.specs.ClauseLaws.{ClausesTheorem}
use Rattle.qv_game_laws.proofs.Terms.{OfVariable, IsOf, over-agree, over-free, over-leaves, over-means, over-more, over-sorted, term-from_over}
use Rattle.qv_game_laws.proofs.Each.{each-entry}
use Rattle.qv_game_laws.proofs.Points.{below-is, below-next, IsPoint}
use Rattle.qv_game_laws.proofs.Steps.{before, Before, point-values, longer, typed-length, negation-of, region-of, has-values}
use Rattle.qv_game_laws.proofs.GameSteps.{level-of}
use Rattle.qv_game_entry_laws.specs.BuildingLaws.{IsComplementBy, ComplementMayCome, NoModelLeavesNone, RegionLeavesNone}
use Rattle.qv_game_entry_laws.proofs.Equations.{and-of}
use Rattle.qv_game_entry_laws.proofs.Failed.{formulas-of}
use Rattle.qv_game_entry_laws.proofs.Forced.{found, negation-true, other-owner, regions-of}

-- the negation of what isn't true
negation-at : (P : OfVariable) (e : ℕ → Option ℕ) (t : Tree) → ((l : ℕ) (s : Sort) → P l s → IsSomeAnd (e l) (λ v. IsValueOf v s)) → IsOf P BoolSort t → (Means [] e t 1 → ⊥) → Means [] e (negation t) 1
negation-at P e t values h not_one =
    let value = over-means P BoolSort t e h values in
    by value.0 value.1 value.2
  where
    by : (v : ℕ) → v < 2 → Means [] e t v → Means [] e (negation t) 1
    by zero small m = negation-true e t h.1 m
    by (suc zero) small m = absurd (not_one m)
    by (suc (suc v)) small m = absurd (omega (arith, small))

-- a conjunction of formulas, and where it is true
joined-of : (P : OfVariable) (t : Tree) (ts : List Tree) → IsOf P BoolSort t → AllByRecursion (IsOf P BoolSort) ts → IsOf P BoolSort (conjunction_with t ts)
joined-of P t [] h each = h
joined-of P t (u ∷ us) h each = joined-of P (binary And t u) us (and-of P t u h each.0) each.1

pub conjunction-of : (P : OfVariable) (ts : List Tree) → AllByRecursion (IsOf P BoolSort) ts → IsOf P BoolSort (conjunction ts)
conjunction-of P [] each = (((omega arith, omega arith), omega arith), refl)
conjunction-of P (t ∷ ts) each = joined-of P t ts each.0 each.1

joined-true : (point : List ℕ) (t : Tree) (ts : List Tree) → tree_sort t ≡ Some BoolSort → AllByRecursion (λ u. (tree_sort u ≡ Some BoolSort) × IsTrueAt point u) ts → IsTrueAt point t → IsTrueAt point (conjunction_with t ts)
joined-true point t [] sort each h = h
joined-true point t (u ∷ us) sort each h =
    joined-true point (binary And t u) us (rw (sort, each.0.0) refl) each.1 (both-true point t u sort each.0.0 h each.0.1)

conjunction-true : (point : List ℕ) (ts : List Tree) → AllByRecursion (λ u. (tree_sort u ≡ Some BoolSort) × IsTrueAt point u) ts → IsTrueAt point (conjunction ts)
conjunction-true point [] each = refl
conjunction-true point (t ∷ ts) each = joined-true point t ts each.0.0 each.1 each.0.1

-- what holds of the negations of entries' regions
negated : (P : Tree → Type 0) (es : List Entry) → AllByRecursion (λ f. P (negation f.region)) es → AllByRecursion P (map (λ f. negation f.region) es)
negated P [] h = tt
negated P (f ∷ es) h = (h.0, negated P es h.1)

-- regions of a level are formulas over the places before it
rivals-before : (p : Problem) (earlier : List Entry) (e : Entry) (j : ℕ) → IsLinked p earlier → e.level ≡ suc j → (ns : List ℕ) → AllByRecursion (IsRival earlier e) ns → AllByRecursion (λ f. IsOf (Before p (before p j)) BoolSort f.region) (entries_named earlier ns)
rivals-before p earlier e j linked level [] each = tt
rivals-before p earlier e j linked level (n ∷ ns) each =
    let there = some-and (slice_get earlier n) (λ f. (f.winner ≡ other e.winner) × (f.level ≡ e.level)) each.0 in
    let of = region-of p there.0 j (there.2.1 ∙ level) (each-entry p earlier n there.0 linked there.1).region in
    rw there.1 (of, rivals-before p earlier e j linked level ns each.1)

complement-of : (p : Problem) (earlier : List Entry) (e : Entry) (j : ℕ) → IsLinked p earlier → e.level ≡ suc j → IsComplement earlier e → IsOf (Before p (before p j)) BoolSort e.region
complement-of p earlier e j linked level c =
    let P = Before p (before p j) in
    let es = entries_named earlier c.numbers in
    subst (IsOf P BoolSort) (sym c.region)
    (conjunction-of P (map (λ (f : Entry). negation f.region) es)
    (negated (IsOf P BoolSort) es
    (all-weaker (λ (f : Entry). IsOf P BoolSort f.region) (λ (f : Entry). IsOf P BoolSort (negation f.region)) es (λ f h. negation-of P f.region h)
    (rivals-before p earlier e j linked level c.numbers (recursion_from_All (IsRival earlier e) c.numbers c.each)))))

-- the point lies in it where it lies in none of theirs
complement-true : (p : Problem) (earlier : List Entry) (e : Entry) (j : ℕ) → IsLinked p earlier → e.level ≡ suc j → IsPoint p.prefix (before p j) e.point → (c : IsComplement earlier e) → AllByRecursion (λ f. IsTrueAt e.point f.region → ⊥) (entries_named earlier c.numbers) → IsTrueAt e.point e.region
complement-true p earlier e j linked level typed c none =
    let P = Before p (before p j) in
    let es = entries_named earlier c.numbers in
    subst (IsTrueAt e.point) (sym c.region)
    (conjunction-true e.point (map (λ (f : Entry). negation f.region) es)
    (negated (λ u. (tree_sort u ≡ Some BoolSort) × IsTrueAt e.point u) es
    (all-both_weaker (λ (f : Entry). IsOf P BoolSort f.region) (λ (f : Entry). IsTrueAt e.point f.region → ⊥) (λ (f : Entry). (tree_sort (negation f.region) ≡ Some BoolSort) × IsTrueAt e.point (negation f.region)) es
    (λ f h away. ((negation-of P f.region h).1, negation-at P (slice_get e.point) f.region (point-values p (before p j) e.point typed) h away))
    (rivals-before p earlier e j linked level c.numbers (recursion_from_All (IsRival earlier e) c.numbers c.each)) none)))

complement-forced : (p : Problem) (earlier : List Entry) (e : Entry) (block : Block) (formulas : List Tree) (j : ℕ) → IsProblem p → IsLinked p earlier → IsComplementBy p earlier e block formulas → e.level ≡ suc j → slice_get (blocks_of p.prefix) j ≡ Some block → IsForced p earlier e block (linked_regions p earlier e)
complement-forced p earlier e block formulas j hp linked w level at =
    let first : places_below (blocks_of p.prefix) e.level ≡ before p j = below-is (blocks_of p.prefix) e.level j level in
    record {
      no_terms = w.no_terms;
      form = inr w.complement;
      closed = λ point values typed each holds.
          let here : IsPoint p.prefix (before p j) point = subst (λ (n : ℕ). IsPoint p.prefix n point) first typed in
          found (Before p (before p (suc j))) (slice_get (point ++ values)) (point-values p (before p (suc j)) (point ++ values) (longer p j block point values at here each))
          formulas (linked_regions p earlier e) w.denied (regions-of p earlier e j hp linked w.links level)
          (λ all. w.none point values typed each holds (All-from_recursion (IsTrueAt (point ++ values)) formulas all));
    }

pub complement-may-come : ComplementMayCome
complement-may-come p earlier e block formulas hp linked w =
    let index = level-of (blocks_of p.prefix) e.level block w.at_level in
    let first : places_below (blocks_of p.prefix) e.level ≡ before p index.0 = below-is (blocks_of p.prefix) e.level index.0 index.1 in
    let typed : IsPoint p.prefix (before p index.0) e.point = subst (λ (n : ℕ). IsPoint p.prefix n e.point) first w.point in
    let region : IsOf (Before p (places_below (blocks_of p.prefix) e.level)) BoolSort e.region =
    subst (λ (n : ℕ). IsOf (Before p n) BoolSort e.region) (sym first) (complement-of p earlier e index.0 linked index.1 w.complement) in
    record {
      links = w.links;
      region = record {
        formula = term-from_over (Before p (places_below (blocks_of p.prefix) e.level)) BoolSort e.region region;
        variables = All-from_recursion (IsPlaceBelow p (places_below (blocks_of p.prefix) e.level)) (free_levels e.region) (over-leaves (Before p (places_below (blocks_of p.prefix) e.level)) e.region region.0);
        point = w.point;
        holds = complement-true p earlier e index.0 linked index.1 typed w.complement
            (recursion_from_All (λ f. IsTrueAt e.point f.region → ⊥) (entries_named earlier w.complement.numbers) w.outside);
      };
      block = to-some (block_numbered (blocks_of p.prefix) e.level) (MeetsBlock p earlier e) block w.at_level
          (subst (λ (b : Bool). MatchBool b (LinksToOne (linked_regions p earlier e) (IsOwned p e block)) (IsForced p earlier e block (linked_regions p earlier e))) (sym (other-owner e block w.owner))
          (complement-forced p earlier e block formulas index.0 hp linked w index.1 index.2));
    }

-- values that make formulas over the places up to the block true at a point of the region would give
-- a model of all the clauses
pub none-without-model : ClausesTheorem → (p : Problem) (earlier : List Entry) (e : Entry) (block : Block) (formulas : List Tree) (j : ℕ) → IsLinked p earlier → e.level ≡ suc j → slice_get (blocks_of p.prefix) j ≡ Some block → AllByRecursion (IsOf (Before p (before p (suc j))) BoolSort) formulas → IsComplement earlier e → ((v : ℕ → Bool) → clauses_value v (cnf (e.region ∷ formulas)) ≡ true → ⊥) → RegionLeavesNone p e block formulas
none-without-model theorem p earlier e block formulas j linked level at formulas_of c no_model point values typed each here holds =
    let first : places_below (blocks_of p.prefix) e.level ≡ before p j = below-is (blocks_of p.prefix) e.level j level in
    let at_point : IsPoint p.prefix (before p j) point = subst (λ (n : ℕ). IsPoint p.prefix n point) first typed in
    let size : length point ≡ before p j = typed-length p j point at_point in
    let next : before p (suc j) ≡ before p j + length block.sorts = below-next (blocks_of p.prefix) j block at in
    let P = Before p (before p (suc j)) in
    let z = slice_get (point ++ values) in
    let all = e.region ∷ formulas in
    let values-at = point-values p (before p (suc j)) (point ++ values) (longer p j block point values at at_point each) in
    let own = complement-of p earlier e j linked level c in
    let region : IsOf P BoolSort e.region = (over-more (Before p (before p j)) P (λ l s h. (let low = h.0 in omega (arith, low, next), h.1)) e.region own.0, own.1) in
    let of : AllByRecursion (IsOf P BoolSort) all = (region, formulas_of) in
    let plain = All-from_recursion IsPlain all (all-weaker (IsOf P BoolSort) IsPlain all (λ t h. record { sorted = over-sorted P t h.0; free = over-free P t h.0 }) of) in
    let bool = All-from_recursion (λ t. tree_sort t ≡ Some BoolSort) all (all-weaker (IsOf P BoolSort) (λ t. tree_sort t ≡ Some BoolSort) all (λ t h. h.1) of) in
    let valued = All-from_recursion (HasValues [] z) all (all-weaker (IsOf P BoolSort) (HasValues [] z) all (λ t h. has-values P t z h.0 values-at) of) in
    let there : IsTrueAt (point ++ values) e.region =
    over-agree (Before p (before p j)) e.region (slice_get point) z 1 own.0
    (λ l s h. sym (get-before point values l (let low = h.0 in omega (arith, low, size)))) here in
    let each_true = All-from_recursion (IsTrueAt (point ++ values)) all (there, recursion_from_All (IsTrueAt (point ++ values)) formulas holds) in
    let model = (theorem all [] z plain bool valued).0 each_true in
    no_model model.0 model.2

pub no-model-leaves-none : ClausesTheorem → NoModelLeavesNone
no-model-leaves-none theorem p earlier e block formulas hp linked at_level links denied c no_model =
    let index = level-of (blocks_of p.prefix) e.level block at_level in
    let of = formulas-of (Before p (before p (suc index.0))) formulas (linked_regions p earlier e) denied (regions-of p earlier e index.0 hp linked links index.1) in
    none-without-model theorem p earlier e block formulas index.0 linked index.1 index.2 of c no_model
