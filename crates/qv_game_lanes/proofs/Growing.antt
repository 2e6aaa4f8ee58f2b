-- Lanes of no formulas, and of one formula more.
use Rattle.std.proofs.Common.{◌≡◌, ◌≢◌, ℕ, ◌==◌, Bool, true, false, suc, ◌+◌, ◌-◌, ◌≤◌, ◌<◌, ◌^◌, List, [], ◌∷◌, ◌++◌, length, map, drop, refl, sym, ap, ◌∙◌, subst, arith, lit≤}
use Rattle.std.specs.List.{All, AllByRecursion, list_all}
use Rattle.std.proofs.lemmas.List.{drop_at, length-append, length-map, map-append}
use Rattle.std.proofs.lemmas.Bool.{and_parts, eqb-true, false≢true}
use Rattle.std.proofs.lemmas.List.Elements.{All-from_recursion, recursion_from_All}
use Rattle.std.proofs.lemmas.List.Folds.{list_all-append}
use Rattle.qv_words.specs.declared.sort.Sort.TheVariants.{Bool as BoolSort}
use Rattle.qv_words.specs.Tree.{Tree}
use Rattle.qv_words.specs.Skolem.{IsTermOf}
use Rattle.qv_words.specs.Gate.{Lit, yes}
use Rattle.qv_words.specs.Clauses.{Blasting, cnf, cnf_variables, with_formula, first_blasting}
use Rattle.qv_words.proofs.Leaves.{both}
use Rattle.qv_circuits_laws.specs.ClauseLaws.{standing}
use Rattle.qv_circuits_laws.proofs.Growing.{next-behind}
use Rattle.qv_circuits_laws.proofs.Listing.{cnf-longer, formulas-append}
use Rattle.qv_cnf.specs.Derivation.{additions}
use Rattle.qv_cnf.specs.Literal.{Literal}
use Rattle.qv_cnf.specs.Listing.{IsListing, Listing, Numbered, clauses_of}
use Rattle.qv_cnf.specs.LratLine.{LratLine}
use Rattle.qv_cnf.specs.Truth.{HasNoModel, IsModel, clause_value}
use Rattle.qv_cnf_bridge_laws.specs.Bridge.{clauses_for, literal_for}
use Rattle.qv_sat.specs.CoreState.{CoreState}
use Rattle.qv_closed.specs.Cores.{IsLaid}
use Rattle.qv_meter.specs.Bases.{HaveClauses, IsBaseOf}
use Rattle.qv_meter.proofs.Bases.{base-plain}
use Rattle.qv_circuits.specs.Adding.{lits_of}
use Rattle.qv_blast.specs.Blasters.{from_one}
use Rattle.qv_blast.specs.States.{blasting_at, HasFormulas, IsAdded}
use Rattle.qv_blast.specs.declared.blaster.Blaster.{Blaster}
use Rattle.qv_blast.proofs.FromOne.{with-clauses-of, with-given}
use Rattle.qv_game_lanes.specs.declared.lane.Lane.{Lane}
use Rattle.qv_game_lanes.specs.Lanes.{IsLane}
use Rattle.qv_game_lanes.proofs.Literals.{solver-clauses_have_literals}

-- one more of which it holds
pub all-with : {X : Type 0} (P : X → Type 0) (xs : List X) (x : X) → All P xs → P x → All P (xs ++ x ∷ [])
all-with P xs x h p = All-from_recursion P (xs ++ x ∷ []) (both P xs (x ∷ []) (recursion_from_All P xs h) (p, tt))

-- a listing under ids from 1 on
pub listed-clauses : (cs : List (List Literal)) → clauses_of (from_one cs).live ≡ cs
listed-clauses cs = with-clauses-of (record { live = []; given = [] }) 1 cs

pub listed-length : (cs : List (List Literal)) → length (from_one cs).live ≡ length cs
listed-length cs = sym (length-map (from_one cs).live (λ (n : Numbered). n.lits)) ∙ ap length (listed-clauses cs)

pub given-length : (cs : List (List Literal)) → length (from_one cs).given ≡ length cs
given-length cs = let count = with-given (record { live = []; given = [] }) 1 cs in omega (arith, count)

pub base-length : (base : List Numbered) (cs : List (List Literal)) → clauses_of base ≡ cs → length base ≡ length cs
base-length base cs e = sym (length-map base (λ (n : Numbered). n.lits)) ∙ ap length e

pub for-length : (cs : List (List Lit)) → length (clauses_for cs) ≡ length cs
for-length cs = length-map cs (map literal_for)

-- the clauses of the formulas, and those of one more
abbrev pub clause_list : List Tree → List (List Literal)
clause_list formulas = clauses_for (cnf formulas)

pub longer : (formulas : List Tree) (t : Tree) → (rest : List (List Literal)) × (clause_list (formulas ++ t ∷ []) ≡ clause_list formulas ++ rest)
longer formulas t =
    let more = cnf-longer formulas (t ∷ []) in
    (clauses_for more.0, ap clauses_for more.1 ∙ map-append (map literal_for) (cnf formulas) more.0)

pub rises : (formulas : List Tree) (t : Tree) → length (clause_list formulas) ≤ length (clause_list (formulas ++ t ∷ []))
rises formulas t =
    let more = longer formulas t in
    let count : length (clause_list (formulas ++ t ∷ [])) ≡ length (clause_list formulas) + length more.0 = ap length more.1 ∙ length-append (clause_list formulas) more.0 in
    omega (arith, count)

pub whole : (formulas : List Tree) (t : Tree) → clause_list formulas ++ drop (length (clause_list formulas)) (clause_list (formulas ++ t ∷ [])) ≡ clause_list (formulas ++ t ∷ [])
whole formulas t =
    let more = longer formulas t in
    let cs = clause_list formulas in
    let rest : drop (length cs) (clause_list (formulas ++ t ∷ [])) ≡ more.0 = ap (drop (length cs)) more.1 ∙ drop_at cs more.0 (length cs) refl in
    ap (λ (r : List (List Literal)). cs ++ r) rest ∙ sym more.1

-- the ids of the clauses that came
pub stands-count : (trees formulas : List Tree) (b : Blaster) → HasFormulas trees formulas b → length (blasting_at trees b).clauses ≡ length (clause_list formulas)
unfolding cnf
stands-count trees formulas b h = ap (λ (s : Blasting). length s.clauses) h.stands ∙ sym (for-length (standing formulas).clauses)

-- the variables of a list that is too large
pub wanted : (trees formulas : List Tree) (t : Tree) (b : Blaster) (limit : ℕ) → HasFormulas trees formulas b → limit + 1 < (with_formula (blasting_at trees b) t).next → limit < cnf_variables (formulas ++ t ∷ [])
wanted trees formulas t b limit h over =
    let same : with_formula (blasting_at trees b) t ≡ standing (formulas ++ t ∷ []) = ap (λ (s : Blasting). with_formula s t) h.stands ∙ sym (formulas-append first_blasting formulas (t ∷ [])) in
    let next : (with_formula (blasting_at trees b) t).next ≡ suc (cnf_variables (formulas ++ t ∷ [])) = ap (λ (s : Blasting). s.next) same ∙ (next-behind (formulas ++ t ∷ [])).1 in
    omega (arith, over, next)

-- the first clause alone
pub one-clause : (cs : List (List Literal)) → map lits_of cs ≡ (yes ∷ []) ∷ [] → (length cs ≡ 1) × All (λ c. c ≢ []) cs
one-clause [] e = absurd (cc)
one-clause (c ∷ ds) e =
    let first : lits_of c ≡ yes ∷ [] = cc in
    let rest : map lits_of ds ≡ [] = cc in
    let none : length ds ≡ 0 = sym (length-map ds lits_of) ∙ ap length rest in
    let some : c ≢ [] = λ f. let both_ways : lits_of [] ≡ yes ∷ [] = ap lits_of (sym f) ∙ first in absurd (cc) in
    (omega (arith, none), All-from_recursion (λ c. c ≢ []) (c ∷ ds) (some, empty ds none))
  where
    empty : (ds : List (List Literal)) → length ds ≡ 0 → AllByRecursion (λ c. c ≢ []) ds
    empty [] z = tt
    empty (d ∷ ds) z = absurd (omega (arith, z))

pub first-length : length (clause_list []) ≡ 1
unfolding cnf
first-length = refl

pub added-ids : (trees formulas : List Tree) (t : Tree) (old new : Blaster) (first end : ℕ) → HasFormulas trees formulas old → HasFormulas trees (formulas ++ t ∷ []) new → IsAdded first end (blasting_at trees old) (blasting_at trees new) → (first ≡ suc (length (clause_list formulas))) × (end ≡ suc (length (clause_list (formulas ++ t ∷ []))))
added-ids trees formulas t old new first end before has added =
    (added.from ∙ ap suc (stands-count trees formulas old before), added.to ∙ ap suc (stands-count trees (formulas ++ t ∷ []) new has))

-- they are in order
pub added-order : (formulas : List Tree) (t : Tree) (first end : ℕ) → first ≡ suc (length (clause_list formulas)) → end ≡ suc (length (clause_list (formulas ++ t ∷ []))) → first ≤ end
added-order formulas t first end from to = let up = rises formulas t in omega (arith, from, to, up)

-- a lane of no formulas
pub begun : (trees : List Tree) (lane : Lane) (list : Listing) → HasFormulas trees [] lane.blaster → list ≡ from_one (clause_list []) → HaveClauses [] lane.core.base (clauses_of list.live) → lane.core.steps ≡ [] → lane.core.top ≡ 1 → lane.fed ≡ 1 → lane.learnt ≡ 0 → lane.closed ≡ false → IsLane trees [] lane
begun trees lane list has is base steps top fed learnt closed =
    record {
      terms = λ k d f. absurd (omega (arith, f));
      blaster = has;
      core = subst (HaveClauses [] lane.core.base) (ap (λ (l : Listing). clauses_of l.live) is ∙ listed-clauses (clause_list [])) base;
      few = (let small : 1 < 2 ^ 61 = lit≤ tt in omega (arith, fed, small));
      learnt = learnt ∙ sym (ap additions steps);
      top = omega (arith, top, fed, learnt);
      closed = λ yes. absurd (false≢true (sym closed ∙ yes));
    }

-- clauses in front of others have a model where all do
model-in_front : (v : ℕ → Bool) (cs ds : List (List Literal)) → IsModel v (cs ++ ds) → IsModel v cs
model-in_front v cs ds m = (and_parts (list_all (clause_value v) cs) (list_all (clause_value v) ds) (sym (list_all-append (clause_value v) cs ds) ∙ m)).0

none-longer : (formulas : List Tree) (t : Tree) → HasNoModel (clause_list formulas) → HasNoModel (clause_list (formulas ++ t ∷ []))
none-longer formulas t none v m = let more = longer formulas t in none v (model-in_front v (clause_list formulas) more.0 (subst (IsModel v) more.1 m))

-- a lane of one formula more
pub grown : (trees formulas : List Tree) (t : Tree) (old new : Lane) (first end : ℕ) → IsLane trees formulas old → IsTermOf t BoolSort → HasFormulas trees (formulas ++ t ∷ []) new.blaster → first ≡ suc (length (clause_list formulas))
    → ((cs : List (List Literal)) → HaveClauses [] old.core.base cs → HaveClauses [] new.core.base (cs ++ drop (first - 1) (clause_list (formulas ++ t ∷ [])))) → new.core.steps ≡ old.core.steps → new.core.top ≡ old.fed + old.learnt + (end - first) → new.fed ≡ old.fed + (end - first) → new.fed < 2 ^ 61
    → new.learnt ≡ old.learnt → new.closed ≡ old.closed → IsLane trees (formulas ++ t ∷ []) new
grown trees formulas t old new first end h term has from base steps top fed small learnt closed =
    let all = clause_list (formulas ++ t ∷ []) in
    let cs = clause_list formulas in
    let skip : first - 1 ≡ length cs = omega (arith, from) in
    record {
      terms = all-with (λ u. IsTermOf u BoolSort) formulas t h.terms term;
      blaster = has;
      core = subst (HaveClauses [] new.core.base) (ap (λ (k : ℕ). cs ++ drop k all) skip ∙ whole formulas t) (base cs h.core);
      few = small;
      learnt = learnt ∙ h.learnt ∙ ap additions (sym steps);
      top = omega (arith, top, fed, learnt);
      closed = λ yes. none-longer formulas t (h.closed (sym closed ∙ yes));
    }

-- a lane whose clauses were closed, and refuted
pub closed-lane : (trees formulas : List Tree) (old new : Lane) → IsLane trees formulas old → new.blaster ≡ old.blaster → new.core ≡ old.core → new.fed ≡ old.fed → new.learnt ≡ old.learnt → HasNoModel (clause_list formulas) → IsLane trees formulas new
closed-lane trees formulas old new h blaster core fed learnt none = record {
  terms = h.terms;
  blaster = subst (HasFormulas trees formulas) (sym blaster) h.blaster;
  core = subst (λ (c : CoreState). HaveClauses [] c.base (clause_list formulas)) (sym core) h.core;
  few = (let few = h.few in omega (arith, few, fed));
  learnt = learnt ∙ h.learnt ∙ ap (λ (c : CoreState). additions c.steps) (sym core);
  top = (let top = ap (λ (c : CoreState). c.top) core in let was = h.top in omega (arith, top, was, fed, learnt));
  closed = λ yes. none;
}

-- a lane with another core that has what they add
pub laid-lane : (trees formulas : List Tree) (old new : Lane) (list : Listing) (laid : List LratLine) → IsLane trees formulas old → old.core.steps ≡ [] → IsLaid new.core list.live laid → IsBaseOf new.core.base formulas → new.blaster ≡ old.blaster → new.fed ≡ new.core.top → new.learnt ≡ old.learnt → new.closed ≡ old.closed → IsLane trees formulas new
laid-lane trees formulas old new list laid h none k base blaster fed learnt closed =
    let zero_learnt : old.learnt ≡ 0 = h.learnt ∙ ap additions none in
    record {
      terms = h.terms;
      blaster = subst (HasFormulas trees formulas) (sym blaster) h.blaster;
      core = base;
      few = (let few = k.fed.few in omega (arith, few, fed));
      learnt = learnt ∙ zero_learnt ∙ sym (ap additions k.fed.steps);
      top = omega (arith, fed, learnt, zero_learnt);
      closed = λ yes. h.closed (sym closed ∙ yes);
    }

-- a blaster's clauses are those of its formulas, and have literals
pub blaster-base : (formulas : List Tree) (list : Listing) → list ≡ from_one (clause_list formulas) → IsBaseOf list.live formulas
blaster-base formulas list is = base-plain list.live formulas (ap (λ (l : Listing). clauses_of l.live) is ∙ listed-clauses (clause_list formulas))

pub blaster-filled : (formulas : List Tree) (list : Listing) → list ≡ from_one (clause_list formulas) → All (λ t. IsTermOf t BoolSort) formulas → All (λ c. c ≢ []) (clauses_of list.live)
blaster-filled formulas list is terms =
    subst (λ (cs : List (List Literal)). All (λ c. c ≢ []) cs) (sym (ap (λ (l : Listing). clauses_of l.live) is ∙ listed-clauses (clause_list formulas))) (solver-clauses_have_literals formulas terms)

pub blaster-none : (formulas : List Tree) (list : Listing) → list ≡ from_one (clause_list formulas) → HasNoModel (clauses_of list.live) → HasNoModel (clause_list formulas)
blaster-none formulas list is none = subst HasNoModel (ap (λ (l : Listing). clauses_of l.live) is ∙ listed-clauses (clause_list formulas)) none

-- a lane while the clauses of one formula more are given to its core
pub record Adding (trees formulas : List Tree) (t : Tree) (old : Lane) (blaster : Blaster) (list : Listing) (first end : ℕ) : Type 0 where
  pub lane : IsLane trees formulas old
  pub term : IsTermOf t BoolSort
  pub has : HasFormulas trees (formulas ++ t ∷ []) blaster
  pub from : first ≡ suc (length (clause_list formulas))
  pub to : end ≡ suc (length (clause_list (formulas ++ t ∷ [])))
  pub list_is : list ≡ from_one (clause_list (formulas ++ t ∷ []))

pub adding-clauses : (trees formulas : List Tree) (t : Tree) (old : Lane) (blaster : Blaster) (list : Listing) (first end : ℕ) → Adding trees formulas t old blaster list first end → clauses_of list.live ≡ clause_list (formulas ++ t ∷ [])
adding-clauses trees formulas t old blaster list first end h =
    ap (λ (l : Listing). clauses_of l.live) h.list_is ∙ listed-clauses (clause_list (formulas ++ t ∷ []))

pub adding-few : (trees formulas : List Tree) (t : Tree) (old : Lane) (blaster : Blaster) (list : Listing) (first end : ℕ) → Adding trees formulas t old blaster list first end → IsListing list → length (clause_list (formulas ++ t ∷ [])) < 2 ^ 61
adding-few trees formulas t old blaster list first end h keeps =
    let count : length list.given ≡ length (clause_list (formulas ++ t ∷ [])) =
    ap (λ (l : Listing). length l.given) h.list_is ∙ given-length (clause_list (formulas ++ t ∷ [])) in
    let low = keeps.few in
    omega (arith, count, low)

pub adding-order : (trees formulas : List Tree) (t : Tree) (old : Lane) (blaster : Blaster) (list : Listing) (first end : ℕ) → Adding trees formulas t old blaster list first end → first ≤ end
adding-order trees formulas t old blaster list first end h = added-order formulas t first end h.from h.to

pub adding-filled : (trees formulas : List Tree) (t : Tree) (old : Lane) (blaster : Blaster) (list : Listing) (first end : ℕ) → Adding trees formulas t old blaster list first end → All (λ c. c ≢ []) (clauses_of list.live)
adding-filled trees formulas t old blaster list first end h =
    subst (λ (cs : List (List Literal)). All (λ c. c ≢ []) cs) (sym (adding-clauses trees formulas t old blaster list first end h))
    (solver-clauses_have_literals (formulas ++ t ∷ []) (all-with (λ u. IsTermOf u BoolSort) formulas t h.lane.terms h.term))

pub adding-of : (trees formulas : List Tree) (t : Tree) (old : Lane) (blaster : Blaster) (list : Listing) (first end : ℕ) → IsLane trees formulas old → IsTermOf t BoolSort → ((fs : List Tree) → HasFormulas trees fs old.blaster → HasFormulas trees (fs ++ t ∷ []) blaster) → IsAdded first end (blasting_at trees old.blaster) (blasting_at trees blaster) → ((us fs : List Tree) → HasFormulas us fs blaster → list ≡ from_one (clause_list fs)) → Adding trees formulas t old blaster list first end
adding-of trees formulas t old blaster list first end lane term more added cnf =
    let has = more formulas lane.blaster in
    let ids = added-ids trees formulas t old.blaster blaster first end lane.blaster has added in
    record { lane = lane; term = term; has = has; from = ids.0; to = ids.1; list_is = cnf trees (formulas ++ t ∷ []) has }

-- and behind that
pub adding-lane : (trees formulas : List Tree) (t : Tree) (old new : Lane) (list : Listing) (first end : ℕ) → Adding trees formulas t old new.blaster list first end
    → ((cs : List (List Literal)) → HaveClauses [] old.core.base cs → HaveClauses [] new.core.base (cs ++ drop (first - 1) (clauses_of list.live))) → new.core.steps ≡ old.core.steps → new.core.top ≡ old.fed + old.learnt + (end - first)
    → new.fed ≡ old.fed + (end - first) → new.fed < 2 ^ 61 → new.learnt ≡ old.learnt → new.closed ≡ old.closed → IsLane trees (formulas ++ t ∷ []) new
adding-lane trees formulas t old new list first end at base steps top fed few learnt closed =
    grown trees formulas t old new first end at.lane at.term at.has at.from
    (λ cs h. subst (λ (ds : List (List Literal)). HaveClauses [] new.core.base (cs ++ drop (first - 1) ds)) (adding-clauses trees formulas t old new.blaster list first end at) (base cs h))
    steps top fed few learnt closed

-- nothing was learnt
pub no-steps : {X : Type 0} (xs : List X) (b : Bool) → b ≡ (length xs == 0) → b ≡ true → xs ≡ []
no-steps [] b is y = refl
no-steps (x ∷ xs) b is y = let none : length (x ∷ xs) ≡ 0 = eqb-true (length (x ∷ xs)) 0 (sym is ∙ y) in absurd (omega (arith, none))
