-- The entry that comes of bits that leave a block's owner no values.
use Rattle.std.proofs.Common.{◌≡◌, ℕ, zero, suc, ◌+◌, ◌≤◌, ◌<◌, ◌==◌, Bool, true, false, Some, List, [], ◌∷◌, ◌++◌, length, map, take, slice_get, inl, inr, refl, sym, ap, ◌∙◌, subst, arith}
use Rattle.std.specs.List.{All, AllByRecursion, AllZip}
use Rattle.std.proofs.lemmas.Bool.{cases_Bool, eq-eqb}
use Rattle.std.proofs.lemmas.List.{length-map, take_all}
use Rattle.std.proofs.lemmas.List.Elements.{All-from_recursion, recursion_from_All}
use Rattle.qv_words.specs.declared.sort.Sort.{Sort}
use Rattle.qv_words.specs.declared.word.Word.{Word}
use Rattle.qv_words.specs.Sort.{width_of}
use Rattle.qv_words.specs.Choice.{IsTrueAt}
use Rattle.qv_words.specs.Word.{sorts_of, values_of, word_sort, word_value}
use Rattle.qv_words.specs.Tree.{Tree}
use Rattle.qv_words.specs.Clauses.{Blasted, Blasting}
use Rattle.qv_words.specs.Problem.{Place, Problem, Quantifier, Existential, Universal, conjunction, other}
use Rattle.qv_words.specs.Linked.{Block, Entry, Run, blocks_of, entries_of, equation_of, places_below}
use Rattle.qv_words.specs.GameLaws.{IsProblem}
use Rattle.qv_words.proofs.Elements.{all-weaker, found-at, get-map, in-front, of-some, to-some}
use Rattle.qv_cnf.specs.Literal.{Literal}
use Rattle.qv_cnf.specs.Refutation.{among, same_literal}
use Rattle.qv_circuits.specs.Adding.{lit_of, lits_of}
use Rattle.qv_circuits_laws.specs.ClauseLaws.{blasted}
use Rattle.qv_game_entry_laws.specs.Fixings.{named_runs}
use Rattle.qv_game_entry_laws.specs.PointLaws.{AssumeAll, IsRunOf, places_from}
use Rattle.qv_game_entry_laws.proofs.Assuming.{named-runs_assume_all}
use Rattle.qv_store.specs.Walks.{named}
use Rattle.qv_meter.specs.Played.{IsPlayed, IsSettled, IsUndecided}
use Rattle.qv_meter.specs.Queries.{StandsForQuery, all_links, block_count}
use Rattle.qv_game_play_laws.specs.PlayLaws.{MayMove, sorts_below}
use Rattle.qv_game_play_laws.proofs.Moves.{forced-is_played}
use Rattle.qv_game_play_laws.proofs.Queries.{queries-are_over_places}
use Rattle.qv_game_lanes.specs.Asking.{LeavesNone}
use Rattle.qv_game_lanes.specs.Lanes.{IsLane, known_of}
use Rattle.qv_game_lanes.specs.declared.lane.Lane.{Lane}
use Rattle.qv_game_regions.specs.declared.run.Run.{Run as Kept}
use Rattle.qv_game_regions.specs.Runs.{fixing_at, run_of, IsRunAt, IsRunIn}
use Rattle.qv_game_regions.proofs.Fixings.{fixing-is_of_entries}
use Rattle.qv_game_state.specs.Naming.{named_by}
use Rattle.qv_game_state.specs.Spots.{IsOutside}
use Rattle.qv_game_state.specs.Spans.{Span}
use Rattle.qv_game_state.proofs.Levels.{IsLevel, point-count, point-typed}

-- a core names each of its literals
same-self : (v : ℕ) (b : Bool) → same_literal (record { variable = v; positive = b }) (record { variable = v; positive = b }) ≡ true
same-self v true = let e : (v == v) ≡ true = eq-eqb v v refl in rw e refl
same-self v false = let e : (v == v) ≡ true = eq-eqb v v refl in rw e refl

named-at : (core : List Literal) (k : ℕ) (x : Literal) → slice_get core k ≡ Some x → among core x ≡ true
named-at [] k x e = absurd (cc)
named-at (y ∷ ys) zero x e =
    let is : y ≡ x = cc in
    let same : same_literal x y ≡ true = ap (same_literal x) is ∙ same-self x.variable x.positive in
    rw same refl
named-at (y ∷ ys) (suc k) x e = elim (cases_Bool (same_literal x y)) [
  | inl t ↦ rw t refl
  | inr f ↦ rw f (named-at ys k x e)
]

by-places : {X : Type 0} (P : X → Type 0) (xs : List X) → ((k : ℕ) (x : X) → slice_get xs k ≡ Some x → P x) → AllByRecursion P xs
by-places P [] h = tt
by-places P (x ∷ xs) h = (h 0 x refl, by-places P xs (λ k y at. h (suc k) y at))

mapped : {X Y : Type 0} (f : X → Y) (P : Y → Type 0) (xs : List X) → AllByRecursion (λ x. P (f x)) xs → AllByRecursion P (map f xs)
mapped f P [] h = tt
mapped f P (x ∷ xs) h = (h.0, mapped f P xs h.1)

unmapped : {X Y : Type 0} (f : X → Y) (P : Y → Type 0) (xs : List X) → AllByRecursion P (map f xs) → AllByRecursion (λ x. P (f x)) xs
unmapped f P [] h = tt
unmapped f P (x ∷ xs) h = (h.0, unmapped f P xs h.1)

core-named : (core : List Literal) → All (λ l. named_by core l ≡ true) (lits_of core)
core-named core =
    All-from_recursion (λ l. named_by core l ≡ true) (lits_of core)
    (mapped lit_of (λ l. named_by core l ≡ true) core (by-places (λ x. among core x ≡ true) core (named-at core)))

-- the runs of a core's bits assume it
pub record IsFailing (trees : List Tree) (p : Problem) (entries : List Entry) (level : ℕ) (s : Span) (b : Block) (winner : Quantifier) (point : List Word) (lane : Lane) (ids : List ℕ) (core : List Literal) (runs : List Kept) : Type 0 where
  pub problem : IsProblem p
  pub played : IsPlayed p entries
  pub undecided : IsUndecided entries
  pub settled : IsSettled p entries
  pub low : 1 ≤ level
  pub high : level ≤ block_count p
  pub sorts : sorts_of point ≡ sorts_below p level
  pub outside : IsOutside p entries (values_of point) level
  pub at : IsLevel p level s b
  pub winner_is : winner ≡ other b.owner
  pub formulas : List Tree
  pub stands : StandsForQuery p entries winner (level + 1) formulas
  pub none : LeavesNone formulas (sorts_below p (level + 1)) point (lits_of core)
  pub lane_is : IsLane trees formulas lane
  pub places : named trees ids ≡ places_from 0 (sorts_below p (level + 1))
  pub runs_are : map run_of runs ≡ named_runs (named_by core) (known_of trees lane) 0 (named trees ids) (values_of point)

pub runs-assume : (trees : List Tree) (p : Problem) (entries : List Entry) (level : ℕ) (s : Span) (b : Block) (winner : Quantifier) (point : List Word) (lane : Lane) (ids : List ℕ) (core : List Literal) (runs : List Kept) → (h : IsFailing trees p entries level s b winner point lane ids core runs) → AssumeAll h.formulas (sorts_below p (level + 1)) (values_of point) (map run_of runs) (lits_of core)
runs-assume trees p entries level s b winner point lane ids core runs h =
    let formulas = h.formulas in
    let sorts = sorts_below p (level + 1) in
    let vs = values_of point in
    let known : known_of trees lane ≡ blasted formulas = ap (λ (x : Blasting). x.known) h.lane_is.blaster.stands in
    let are : map run_of runs ≡ named_runs (named_by core) (blasted formulas) 0 (places_from 0 sorts) vs =
    h.runs_are ∙ ap (λ (k : List Blasted). named_runs (named_by core) k 0 (named trees ids) vs) known
    ∙ ap (λ (ts : List Tree). named_runs (named_by core) (blasted formulas) 0 ts vs) h.places in
    let terms = (queries-are_over_places p entries winner (level + 1) formulas h.problem h.played h.stands).0 in
    subst (λ (rs : List Run). AssumeAll formulas sorts vs rs (lits_of core)) (sym are)
    (named-runs_assume_all formulas sorts vs (named_by core) (lits_of core) terms h.none.each (core-named core))

-- they lie within the point's words
run-at : (point : List Word) (more : List Sort) (r : Run) → IsRunOf (sorts_of point ++ more) (values_of point) r → IsRunAt point r
run-at point more r h =
    let count = length-map point word_value in
    let before = h.before in
    let w = found-at point r.place (omega (arith, count, before)) in
    let sort : slice_get (sorts_of point ++ more) r.place ≡ Some (word_sort w.0) = in-front (sorts_of point) more r.place (word_sort w.0) (get-map word_sort point r.place w.0 w.1) in
    to-some (slice_get point r.place) (λ x. IsRunIn (word_sort x) r) w.0 w.1
    (record { lawful = w.0.lawful; ordered = h.ordered; within = of-some (slice_get (sorts_of point ++ more) r.place) (λ x. r.high < width_of x) (word_sort w.0) sort h.within })

pub runs-at : (trees : List Tree) (p : Problem) (entries : List Entry) (level : ℕ) (s : Span) (b : Block) (winner : Quantifier) (point : List Word) (lane : Lane) (ids : List ℕ) (core : List Literal) (runs : List Kept) → IsFailing trees p entries level s b winner point lane ids core runs → All (λ run. IsRunAt point (run_of run)) runs
runs-at trees p entries level s b winner point lane ids core runs h =
    let sorts : sorts_below p (level + 1) ≡ sorts_of point ++ b.sorts = h.at.sorts ∙ ap (λ (ss : List Sort). ss ++ b.sorts) (sym h.sorts) in
    let all = runs-assume trees p entries level s b winner point lane ids core runs h in
    let each : All (IsRunOf (sorts_of point ++ b.sorts) (values_of point)) (map run_of runs) =
    subst (λ (ss : List Sort). All (IsRunOf ss (values_of point)) (map run_of runs)) sorts all.each in
    All-from_recursion (λ run. IsRunAt point (run_of run)) runs
    (all-weaker (λ run. IsRunOf (sorts_of point ++ b.sorts) (values_of point) (run_of run)) (λ run. IsRunAt point (run_of run)) runs (λ run k. run-at point b.sorts (run_of run) k)
    (unmapped run_of (IsRunOf (sorts_of point ++ b.sorts) (values_of point)) runs (recursion_from_All (IsRunOf (sorts_of point ++ b.sorts) (values_of point)) (map run_of runs) each)))

pub other-not : (q r : Quantifier) → q ≡ other r → q ≡ r → ⊥
other-not Existential Existential e f = absurd (cc)
other-not Existential Universal e f = absurd (cc)
other-not Universal Existential e f = absurd (cc)
other-not Universal Universal e f = absurd (cc)

zip-sorts : (ws : List Word) (ps : List Place) → sorts_of ws ≡ map (λ (place : Place). place.sort) ps → AllZip (λ w (place : Place). word_sort w ≡ place.sort) ws ps
zip-sorts [] [] e = tt
zip-sorts [] (p ∷ ps) e = absurd (cc)
zip-sorts (w ∷ ws) [] e = absurd (cc)
zip-sorts (w ∷ ws) (p ∷ ps) e =
    let same : word_sort w ≡ p.sort = cc in
    let rest : sorts_of ws ≡ map (λ (place : Place). place.sort) ps = cc in
    (same, zip-sorts ws ps rest)

pub forced-played : (trees : List Tree) (p : Problem) (entries : List Entry) (level : ℕ) (s : Span) (b : Block) (winner : Quantifier) (point : List Word) (lane : Lane) (ids : List ℕ) (core : List Literal) (runs : List Kept) (region : Tree) (links : List ℕ) → IsFailing trees p entries level s b winner point lane ids core runs → region ≡ conjunction (map (fixing_at point) runs) → links ≡ all_links p entries winner level → IsPlayed p (entries ++ record { level = level; winner = winner; region = region; point = values_of point; terms = []; links = links } ∷ [])
forced-played trees p entries level s b winner point lane ids core runs region links h is to =
    let n = places_below (blocks_of p.prefix) level in
    let vs = values_of point in
    let count : length point ≡ n = point-count p level point h.low h.sorts in
    let long : length vs ≤ n = (let many = length-map point word_value in omega (arith, many, count)) in
    let all = runs-assume trees p entries level s b winner point lane ids core runs h in
    let move : MayMove p entries level winner vs = record {
      problem = h.problem;
      played = h.played;
      undecided = h.undecided;
      low = h.low;
      high = h.high;
      point_of = point-typed p level point h.sorts;
      outside = subst (λ (us : List ℕ). All (λ f. IsTrueAt us f.region → ⊥) (entries_of level winner entries)) (take_all n vs long) (h.outside winner);
    } in
    let forced = forced-is_played p entries level winner b vs (map run_of runs) (lits_of core) h.formulas move h.settled h.at.numbered (other-not winner b.owner h.winner_is) h.stands all h.none.no_model in
    let zip = zip-sorts point (take (length point) p.prefix) (h.sorts ∙ ap (λ (k : ℕ). map (λ (place : Place). place.sort) (take k p.prefix)) (sym count)) in
    let same : map (fixing_at point) runs ≡ map (equation_of p vs) (map run_of runs) = fixing-is_of_entries p point runs zip (runs-at trees p entries level s b winner point lane ids core runs h) in
    subst (λ (t : Tree). IsPlayed p (entries ++ record { level = level; winner = winner; region = t; point = vs; terms = []; links = links } ∷ [])) (sym (is ∙ ap conjunction same))
    (subst (λ (ls : List ℕ). IsPlayed p (entries ++ record { level = level; winner = winner; region = conjunction (map (equation_of p vs) (map run_of runs)); point = vs; terms = []; links = ls } ∷ [])) (sym to) forced)
