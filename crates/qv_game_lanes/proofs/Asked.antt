-- What an answer of the core says of the formulas, at a point whose bits were assumed.
use Rattle.std.proofs.Common.{◌≡◌, ℕ, zero, suc, ◌-◌, ◌≤◌, ◌&&◌, Bool, true, List, [], ◌∷◌, ◌++◌, length, map, take, drop, inl, inr, refl, sym, ap, ◌∙◌, subst, arith}
use Rattle.std.specs.Prelude.{unwrap_or}
use Rattle.std.specs.List.{All, AllByRecursion, Contains, list_all}
use Rattle.std.proofs.lemmas.List.{drop-map, length-drop, length-map, length-take, take_all}
use Rattle.std.proofs.lemmas.Bool.{and_parts, or_cases}
use Rattle.std.proofs.lemmas.List.Elements.{All-from_recursion}
use Rattle.qv_words.specs.declared.sort.Sort.{Sort}
use Rattle.qv_words.specs.declared.sort.Sort.TheVariants.{Bool as BoolSort}
use Rattle.qv_words.specs.declared.word.Word.{Word}
use Rattle.qv_words.specs.Sort.{IsValueOf}
use Rattle.qv_words.specs.Word.{sorts_of, values_of, word_sort, word_value}
use Rattle.qv_words.specs.Tree.{Tree, tree_sort}
use Rattle.qv_words.specs.Gate.{Lit, lit_value, clauses_value}
use Rattle.qv_words.specs.Clauses.{Blasted, Blasting, cnf}
use Rattle.qv_words.specs.Choice.{IsTrueAt}
use Rattle.qv_cnf.specs.Literal.{Literal}
use Rattle.qv_cnf.specs.Listing.{Numbered, clauses_of}
use Rattle.qv_cnf.specs.Refutation.{among, same_literal}
use Rattle.qv_cnf.specs.Truth.{IsModel, literal_value}
use Rattle.qv_blast.specs.declared.blaster.Blaster.{Blaster}
use Rattle.qv_cnf.specs.Laws.{RupIsTrue}
use Rattle.qv_cnf_bridge_laws.specs.Bridge.{clauses_for}
use Rattle.qv_meter.specs.Bases.{IsBaseOf}
use Rattle.qv_meter.proofs.Bases.{model-of-base, model-of-clauses}
use Rattle.qv_cnf_bridge_laws.proofs.Bridging.{clauses-value}
use Rattle.qv_circuits.specs.Adding.{lit_of, lits_of}
use Rattle.qv_circuits_laws.specs.ClauseLaws.{blasted}
use Rattle.qv_game_entry_laws.specs.Fixings.{fixings}
use Rattle.qv_game_entry_laws.specs.PointLaws.{places_from, values_under, IsTyped}
use Rattle.qv_game_entry_laws.proofs.Leading.{models-lead_on}
use Rattle.qv_game_entry_laws.specs.QueryLaws.{AreOver}
use Rattle.qv_sat.specs.Answering.{assignment, IsFailed, IsFound}
use Rattle.qv_store.specs.Nodes.{tree_at}
use Rattle.qv_store.specs.Walks.{named}
use Rattle.qv_watch.proofs.Entering.{same_literal-true}
use Rattle.qv_game_lanes.specs.declared.lane.Lane.{Lane}
use Rattle.qv_game_lanes.specs.Lanes.{known_at, known_of, IsLane}
use Rattle.qv_game_lanes.specs.Asking.{ArePlaces, MakeTrue, LeavesNone}

lits-value : (v : ℕ → Bool) (ls : List Literal) → list_all (lit_value v) (lits_of ls) ≡ list_all (literal_value v) ls
lits-value v [] = refl
lits-value v (l ∷ ls) = ap (λ (b : Bool). literal_value v l && b) (lits-value v ls)

model-true : (v : ℕ → Bool) (base : List Numbered) (formulas : List Tree) → IsBaseOf base formulas → IsModel v (clauses_of base) → clauses_value v (cnf formulas) ≡ true
model-true v base formulas has model =
    sym (clauses-value v (cnf formulas)) ∙ model-of-clauses v [] base (clauses_for (cnf formulas)) has model

true-model : RupIsTrue → (v : ℕ → Bool) (base : List Numbered) (formulas : List Tree) → IsBaseOf base formulas → clauses_value v (cnf formulas) ≡ true → IsModel v (clauses_of base)
true-model rup v base formulas has e =
    model-of-base rup v [] base (clauses_for (cnf formulas)) has refl (clauses-value v (cnf formulas) ∙ e)

-- literals that are among others
among-one : (fix : List Literal) (c : Literal) → among fix c ≡ true → Contains (lits_of fix) (lit_of c)
among-one [] c e = absurd (cc)
among-one (l ∷ ls) c e = elim (or_cases (same_literal c l) (among ls c) e) [
  | inl s ↦ (0, (omega arith), ap lit_of (sym (same_literal-true c l s)))
  | inr r ↦ let more = among-one ls c r in (suc more.0, (let low = more.1 in omega (arith, low)), more.2)
]

among-all : (fix core : List Literal) → list_all (among fix) core ≡ true → AllByRecursion (Contains (lits_of fix)) (lits_of core)
among-all fix [] e = tt
among-all fix (c ∷ cs) e =
    let parts = and_parts (among fix c) (list_all (among fix) cs) e in
    (among-one fix c parts.0, among-all fix cs parts.1)

-- a point's values are of its places' sorts
typed-point : (point : List Word) (sorts : List Sort) → sorts_of point ≡ take (length point) sorts → IsTyped sorts (values_of point)
typed-point [] [] e = tt
typed-point [] (s ∷ ss) e = tt
typed-point (w ∷ ws) [] e = absurd (cc)
typed-point (w ∷ ws) (s ∷ ss) e =
    let same : word_sort w ≡ s = cc in
    let rest : sorts_of ws ≡ take (length ws) ss = cc in
    (subst (IsValueOf (word_value w)) same w.in_range, typed-point ws ss rest)

places-count : (place : ℕ) (sorts : List Sort) → length (places_from place sorts) ≡ length sorts
places-count place [] = refl
places-count place (s ∷ ss) = ap suc (places-count (suc place) ss)

pub point-within : (trees : List Tree) (ids : List ℕ) (sorts : List Sort) (point : List Word) → ArePlaces trees ids sorts point → length point ≤ length ids
point-within trees ids sorts point h =
    let count : length ids ≡ length sorts = sym (length-map ids (tree_at trees)) ∙ ap length h.variables ∙ places-count 0 sorts in
    let few : length point ≡ length (take (length point) sorts) = sym (length-map point word_sort) ∙ ap length h.typed in
    omega (arith, count, few, length-take (length point) sorts)

-- the places behind the point
pub behind : (trees : List Tree) (ids : List ℕ) (sorts : List Sort) (point : List Word) → ArePlaces trees ids sorts point → named trees (drop (length point) ids) ≡ drop (length point) (places_from 0 sorts)
behind trees ids sorts point h =
    sym (drop-map (tree_at trees) (length point) ids) ∙ ap (drop (length point)) h.variables

place-sorts : (place n : ℕ) (sorts : List Sort) → map (λ t. unwrap_or (tree_sort t) BoolSort) (drop n (places_from place sorts)) ≡ drop n sorts
place-sorts place zero [] = refl
place-sorts place (suc n) [] = refl
place-sorts place zero (s ∷ ss) = ap (λ (r : List Sort). s ∷ r) (place-sorts (suc place) 0 ss)
place-sorts place (suc n) (s ∷ ss) = place-sorts (suc place) n ss

map-tree : (trees : List Tree) (ids : List ℕ) → map (λ n. unwrap_or (tree_sort (tree_at trees n)) BoolSort) ids ≡ map (λ t. unwrap_or (tree_sort t) BoolSort) (named trees ids)
map-tree trees [] = refl
map-tree trees (n ∷ ns) = ap (λ (r : List Sort). unwrap_or (tree_sort (tree_at trees n)) BoolSort ∷ r) (map-tree trees ns)

-- a model gives values that lead on
pub found-leads : (trees formulas : List Tree) (ids : List ℕ) (sorts : List Sort) (point values : List Word) (l : Lane) (lits : List Literal) (model : List Bool) → IsLane trees formulas l → AreOver sorts formulas → ArePlaces trees ids sorts point → lits_of lits ≡ fixings (known_of trees l) (named trees ids) (values_of point) → IsFound l.core.base lits model → sorts_of values ≡ map (λ n. unwrap_or (tree_sort (tree_at trees n)) BoolSort) (drop (length point) ids) → values_of values ≡ values_under (assignment model) (known_of trees l) (named trees (drop (length point) ids)) → MakeTrue formulas sorts point values
found-leads trees formulas ids sorts point values l lits model lane over places assumed found sorts_are values_are =
    let known : known_of trees l ≡ blasted formulas = ap (λ (b : Blasting). b.known) lane.blaster.stands in
    let v = assignment model in
    let n = length point in
    let count : length (values_of point) ≡ n = length-map point word_value in
    let rest : values_of values ≡ values_under v (blasted formulas) (drop (length (values_of point)) (places_from 0 sorts)) =
    values_are ∙ ap (λ (k : List Blasted). values_under v k (named trees (drop n ids))) known
    ∙ ap (values_under v (blasted formulas)) (behind trees ids sorts point places)
    ∙ ap (λ (k : ℕ). values_under v (blasted formulas) (drop k (places_from 0 sorts))) (sym count) in
    let fixes : lits_of lits ≡ fixings (blasted formulas) (places_from 0 sorts) (values_of point) =
    assumed ∙ ap (λ (k : List Blasted). fixings k (named trees ids) (values_of point)) known
    ∙ ap (λ (ts : List Tree). fixings (blasted formulas) ts (values_of point)) places.variables in
    let all : list_all (lit_value v) (fixings (blasted formulas) (places_from 0 sorts) (values_of point)) ≡ true =
    ap (list_all (lit_value v)) (sym fixes) ∙ lits-value v lits ∙ found.assumed in
    let leads = models-lead_on formulas sorts (values_of point) v lane.terms over (typed-point point sorts places.typed)
    (model-true v l.core.base formulas lane.core found.model) all in
    record {
      sorts_are = sorts_are ∙ map-tree trees (drop n ids) ∙ ap (map (λ t. unwrap_or (tree_sort t) BoolSort)) (behind trees ids sorts point places) ∙ place-sorts 0 n sorts;
      each = subst (λ (vs : List ℕ). All (IsTrueAt (values_of point ++ vs)) formulas) (sym rest) leads;
    }

-- a core fixes bits of the point and leaves none
pub failed-leaves : RupIsTrue → (trees formulas : List Tree) (ids : List ℕ) (sorts : List Sort) (point : List Word) (l : Lane) (lits core : List Literal) → IsLane trees formulas l → ArePlaces trees ids sorts point → lits_of lits ≡ fixings (known_of trees l) (named trees ids) (values_of point) → IsFailed l.core.base lits core → LeavesNone formulas sorts point (lits_of core)
failed-leaves rup trees formulas ids sorts point l lits core lane places assumed failed =
    let known : known_of trees l ≡ blasted formulas = ap (λ (b : Blasting). b.known) lane.blaster.stands in
    let fixes : lits_of lits ≡ fixings (blasted formulas) (places_from 0 sorts) (values_of point) =
    assumed ∙ ap (λ (k : List Blasted). fixings k (named trees ids) (values_of point)) known
    ∙ ap (λ (ts : List Tree). fixings (blasted formulas) ts (values_of point)) places.variables in
    let each = All-from_recursion (Contains (lits_of lits)) (lits_of core) (among-all lits core failed.among_assumptions) in
    record {
      each = subst (λ (fs : List Lit). All (Contains fs) (lits_of core)) fixes each;
      no_model = λ v e f. failed.no_model v (true-model rup v l.core.base formulas lane.core e) (sym (lits-value v core) ∙ f);
    }

-- what a model gives the places behind the point
pub rest-whole : (ids : List ℕ) (n : ℕ) → take (length ids - n) (drop n ids) ≡ drop n ids
rest-whole ids n = let count = length-drop n ids in take_all (length ids - n) (drop n ids) (omega (arith, count))

pub behind-sorts : (trees : List Tree) (ids : List ℕ) (n : ℕ) (values : List Word) → sorts_of values ≡ map (λ k. unwrap_or (tree_sort (tree_at trees k)) BoolSort) (take (length ids - n) (drop n ids)) → sorts_of values ≡ map (λ k. unwrap_or (tree_sort (tree_at trees k)) BoolSort) (drop n ids)
behind-sorts trees ids n values h = h ∙ ap (map (λ k. unwrap_or (tree_sort (tree_at trees k)) BoolSort)) (rest-whole ids n)

pub behind-values : (trees : List Tree) (ids : List ℕ) (n : ℕ) (values : List Word) (model read : List Bool) (old new : Blaster) → values_of values ≡ values_under (assignment read) (known_at trees new) (named trees (take (length ids - n) (drop n ids))) → read ≡ model → new ≡ old → values_of values ≡ values_under (assignment model) (known_at trees old) (named trees (drop n ids))
behind-values trees ids n values model read old new h same stays =
    h ∙ ap (λ (ns : List ℕ). values_under (assignment read) (known_at trees new) (named trees ns)) (rest-whole ids n)
    ∙ ap (λ (bs : List Bool). values_under (assignment bs) (known_at trees new) (named trees (drop n ids))) same
    ∙ ap (λ (b : Blaster). values_under (assignment model) (known_at trees b) (named trees (drop n ids))) stays
