-- The steps of a game's start.
use Rattle.std.proofs.Common.{◌≡◌, ℕ, suc, ◌-◌, ◌≤◌, ◌<◌, Some, List, [], ◌∷◌, length, map, get_or, slice_get, refl, sym, ap, ◌∙◌, subst, arith}
use Rattle.std.specs.Prelude.{IsSomeAnd}
use Rattle.std.specs.List.{All, AllByRecursion, AllZip}
use Rattle.std.proofs.lemmas.List.{length-map}
use Rattle.std.proofs.lemmas.List.Elements.{All-from_recursion, recursion_from_All}
use Rattle.qv_words.specs.declared.sort.Sort.TheVariants.{Bool as BoolSort}
use Rattle.qv_words.specs.Tree.{Tree, IsQuantifierFree}
use Rattle.qv_words.specs.Problem.{Problem, Quantifier, Existential, Universal}
use Rattle.qv_words.specs.Skolem.{IsTermOf}
use Rattle.qv_words.specs.Passes.{passed}
use Rattle.qv_words.specs.PassLaws.{StandsFor}
use Rattle.qv_words.specs.Sums.{summed}
use Rattle.qv_words.specs.Linked.{blocks_of, last_region}
use Rattle.qv_words.specs.GameLaws.{IsProblem}
use Rattle.qv_words.proofs.Elements.{get-map}
use Rattle.qv_game_laws.proofs.Steps.{Before, matrix-of, negation-of}
use Rattle.qv_game_laws.proofs.Terms.{IsOf, over-free, term-from_over}
use Rattle.qv_store.specs.Nodes.{tree_at}
use Rattle.qv_store.specs.Problems.{place_of, places_of, problem_in, quantifier_of, IsPosedIn}
use Rattle.qv_store.specs.Stores.{Grows, StandsAt}
use Rattle.qv_store.specs.Walks.{named}
use Rattle.qv_store.specs.declared.problem.Place.{Place}
use Rattle.qv_store.specs.declared.problem.Problem.{Problem as Posed}
use Rattle.qv_meter.specs.Queries.{block_count}
use Rattle.qv_meter.specs.Records.{IsMetering, Metering}
use Rattle.qv_rewrite_passes.specs.declared.pass.Pass.{Pass}
use Rattle.qv_rewrite_passes.specs.Xors.{xored}
use Rattle.qv_rewrite_passes.specs.Simps.{simped}
use Rattle.qv_rewrite_passes.specs.declared.pass.Pass.TheVariants.{By, Sum, Xor, Simp}
use Rattle.qv_rewrite_passes.specs.Passes.{behind_all}
use Rattle.qv_rewrite_passes.proofs.Behind.{all-stand}
use Rattle.qv_game_play_laws.proofs.Standing.{each-over, plain-of}
use Rattle.qv_game_lanes.proofs.Placing.{at-index}
use Rattle.qv_game_state.specs.declared.query.Query.{Query}
use Rattle.qv_game_state.specs.declared.spans.Span.{Span as Kept}
use Rattle.qv_game_state.specs.Spans.{Span, span_of, spans_from}
use Rattle.qv_game_state.specs.Charges.{IsCharged}
use Rattle.qv_game_state.specs.Playing.{tally_of}
use Rattle.qv_game_state.specs.Starting.{AreNew, IsLastFormula, IsUncharged}
use Rattle.qv_game_state.proofs.Begun.{IsBegun, charged-first, new-counts}
use Rattle.qv_game_state.proofs.Blocks.{some-block, spans-count}
use Rattle.qv_game_state.proofs.Keeping.{posed-stays}

-- a player's last region is a formula over all places
pub last-of : (p : Problem) → IsProblem p → (q : Quantifier) → IsOf (Before p (length p.prefix)) BoolSort (last_region p q)
last-of p h Existential = matrix-of p h
last-of p h Universal = negation-of (Before p (length p.prefix)) p.matrix (matrix-of p h)

-- a problem without places
pub places-none : (xs : List Place) → map place_of xs ≡ [] → xs ≡ []
places-none [] h = refl
places-none (x ∷ xs) h = absurd (cc)

-- places have blocks, and a span for each
pub some-spans : (xs : List Place) (spans : List Kept) → map span_of spans ≡ spans_from 0 (blocks_of (map place_of xs)) → (xs ≡ [] → ⊥) → 1 ≤ length spans
some-spans xs spans are some =
    let few = some-block (map place_of xs) (λ none. some (places-none xs none)) in
    let count = length-map spans span_of in
    let many = ap length are in
    let blocks = spans-count 0 (blocks_of (map place_of xs)) in
    omega (arith, few, count, many, blocks)

-- queries of these spans, the last of which is told the last formula
pub opened : (trees : List Tree) (p : Problem) (limit : ℕ) (spans : List Kept) (queries : List Query) (k : ℕ) (s : Kept) (q : Query) (formula : ℕ) → map span_of spans ≡ spans_from 0 (blocks_of p.prefix) → AreNew trees limit (map span_of spans) queries → suc k ≡ length spans → slice_get spans k ≡ Some s → slice_get queries k ≡ Some q → IsLastFormula trees p (quantifier_of s.owner) formula → IsBegun trees p limit queries k q (span_of s) formula
opened trees p limit spans queries k s q formula are new last span at is =
    let count = length-map spans span_of in
    let many = ap length are in
    let blocks = spans-count 0 (blocks_of p.prefix) in
    record {
      new = subst (λ (ss : List Span). AreNew trees limit ss queries) are new;
      last = omega (arith, count, many, blocks, last);
      at = at;
      span = ap (λ (ss : List Span). slice_get ss k) (sym are) ∙ get-map span_of spans k s span;
      is_last = is;
    }

-- passes make one formula of one
one-behind : (ps : List Pass) (t : Tree) → (u : Tree) × (behind_all ps (t ∷ []) ≡ u ∷ [])
one-behind [] t = (t, refl)
one-behind (By rule ∷ ps) t = one-behind ps (passed rule t)
one-behind (Sum ∷ ps) t = one-behind ps (summed t)
one-behind (Xor ∷ ps) t = one-behind ps (xored t)
one-behind (Simp ∷ ps) t = one-behind ps (simped t)

-- and of the last region the last formula
pub last-behind : (trees : List Tree) (p : Problem) (q : Quantifier) (ps : List Pass) (ids : List ℕ) → IsProblem p → All (λ n. n < length trees) ids → named trees ids ≡ behind_all ps (last_region p q ∷ []) → (id : ℕ) × (ids ≡ id ∷ []) × IsLastFormula trees p q id
last-behind trees p q ps [] problem low are =
    let one = one-behind ps (last_region p q) in
    let none : [] ≡ one.0 ∷ [] = are ∙ one.1 in
    absurd (cc)
last-behind trees p q ps (n ∷ m ∷ ns) problem low are =
    let one = one-behind ps (last_region p q) in
    let two : tree_at trees n ∷ tree_at trees m ∷ named trees ns ≡ one.0 ∷ [] = are ∙ one.1 in
    absurd (cc)
last-behind trees p q ps (n ∷ []) problem low are =
    let P = Before p (length p.prefix) in
    let list = last_region p q ∷ [] in
    let of : AllByRecursion (IsOf P BoolSort) list = (last-of p problem q, tt) in
    let stand : AllZip StandsFor (tree_at trees n ∷ []) list = subst (λ (ts : List Tree). AllZip StandsFor ts list) (sym are) (all-stand ps list (plain-of P list of)) in (
      n,
      refl,
      record {
        below = (recursion_from_All (λ k. k < length trees) (n ∷ []) low).0;
        behind = (ps, are);
        formula = term-from_over P BoolSort (tree_at trees n) (each-over P (tree_at trees n ∷ []) list stand of).0;
      },
    )

-- so it is where these passes rewrote the list of the last region alone
pub rewritten-last : (old mid new : List Tree) (posed : Posed) (q : Quantifier) (last id : ℕ) (first ids : List ℕ) (ps : List Pass) → IsPosedIn old posed → StandsAt mid last (last_region (problem_in old posed) q) → first ≡ last ∷ [] → named new ids ≡ behind_all ps (named mid first) → All (λ n. n < length new) ids → (1 ≤ length ids) × (id ≡ get_or ids 0 id → IsLastFormula new (problem_in old posed) q id)
rewritten-last old mid new posed q last id first ids ps posed_in stands one are low =
    let p = problem_in old posed in
    let before : named mid first ≡ last_region p q ∷ [] = ap (named mid) one ∙ ap (λ (t : Tree). t ∷ []) stands.tree in
    let f = last-behind new p q ps ids posed_in.problem low (are ∙ ap (behind_all ps) before) in
    let count : length ids ≡ 1 = ap length f.1 in (
      omega (arith, count),
      λ is. let same : id ≡ f.0 = is ∙ ap (λ (ns : List ℕ). get_or ns 0 id) f.1 in subst (IsLastFormula new p q) (sym same) f.2,
    )

pub last-free : (mid : List Tree) (p : Problem) (q : Quantifier) (last : ℕ) (first : List ℕ) → IsProblem p → StandsAt mid last (last_region p q) → first ≡ last ∷ [] → All (λ id. IsQuantifierFree (tree_at mid id)) first
last-free mid p q last first problem stands one =
    subst (λ (ns : List ℕ). All (λ id. IsQuantifierFree (tree_at mid id)) ns) (sym one)
    (All-from_recursion (λ id. IsQuantifierFree (tree_at mid id)) (last ∷ []) (subst IsQuantifierFree (sym stands.tree) (over-free (Before p (length p.prefix)) (last_region p q) (last-of p problem q).0), tt))

pub last-below : (mid : List Tree) (t : Tree) (last : ℕ) (first : List ℕ) → StandsAt mid last t → first ≡ last ∷ [] → All (λ id. id < length mid) first
last-below mid t last first stands one =
    subst (λ (ns : List ℕ). All (λ id. id < length mid) ns) (sym one) (All-from_recursion (λ id. id < length mid) (last ∷ []) (stands.below, tt))

-- what the start of a game has found
pub record IsOpened (old mid trees : List Tree) (posed : Posed) (limit n : ℕ) (spans : List Kept) (queries : List Query) (s : Kept) (q : Query) (formula : ℕ) : Type 0 where
  pub posed_in : IsPosedIn old posed
  pub grows : Grows old mid
  pub some : posed.prefix.items ≡ [] → ⊥
  pub are : map span_of spans ≡ spans_from 0 (blocks_of (places_of posed))
  pub new : AreNew trees limit (map span_of spans) queries
  pub count : n ≡ length spans
  pub span : s ≡ get_or spans (n - 1) s
  pub query : q ≡ get_or queries (n - 1) q
  pub formula_is : IsLastFormula trees (problem_in mid posed) (quantifier_of s.owner) formula

pub last-index : (posed : Posed) (spans : List Kept) (n : ℕ) → map span_of spans ≡ spans_from 0 (blocks_of (places_of posed)) → (posed.prefix.items ≡ [] → ⊥) → n ≡ length spans → 1 ≤ n
last-index posed spans n are some count = let few = some-spans posed.prefix.items spans are some in omega (arith, few, count)

-- there are as many queries
pub as-many : (trees : List Tree) (limit : ℕ) (spans : List Kept) (queries : List Query) → AreNew trees limit (map span_of spans) queries → length queries ≡ length spans
as-many trees limit spans queries new = new.many ∙ length-map spans span_of

-- the last formula is the problem's
last-is : (old mid trees : List Tree) (posed : Posed) (limit n : ℕ) (spans : List Kept) (queries : List Query) (s : Kept) (q : Query) (formula : ℕ) → IsOpened old mid trees posed limit n spans queries s q formula → IsLastFormula trees (problem_in old posed) (quantifier_of s.owner) formula
last-is old mid trees posed limit n spans queries s q formula h =
    subst (λ (p : Problem). IsLastFormula trees p (quantifier_of s.owner) formula) (posed-stays old mid posed h.grows h.posed_in) h.formula_is

pub opened-formula : (old mid trees : List Tree) (posed : Posed) (limit n : ℕ) (spans : List Kept) (queries : List Query) (s : Kept) (q : Query) (formula : ℕ) → IsOpened old mid trees posed limit n spans queries s q formula → IsTermOf (tree_at trees formula) BoolSort
opened-formula old mid trees posed limit n spans queries s q formula h =
    (last-is old mid trees posed limit n spans queries s q formula h).formula

pub opened-begun : (old mid trees : List Tree) (posed : Posed) (limit n : ℕ) (spans : List Kept) (queries : List Query) (s : Kept) (q : Query) (formula : ℕ) → IsOpened old mid trees posed limit n spans queries s q formula → IsBegun trees (problem_in old posed) limit queries (n - 1) q (span_of s) formula
opened-begun old mid trees posed limit n spans queries s q formula h =
    let few = last-index posed spans n h.are h.some h.count in
    let count = h.count in
    let many = as-many trees limit spans queries h.new in
    opened trees (problem_in old posed) limit spans queries (n - 1) s q formula h.are h.new (omega (arith, few, count))
    (at-index spans (n - 1) s (omega (arith, few, count)) h.span) (at-index queries (n - 1) q (omega (arith, few, count, many)) h.query)
    (last-is old mid trees posed limit n spans queries s q formula h)

-- nothing is charged so far
pub opened-charged : (old mid trees : List Tree) (posed : Posed) (limit n : ℕ) (spans : List Kept) (queries : List Query) (s : Kept) (q : Query) (formula : ℕ) (m : Metering) → IsOpened old mid trees posed limit n spans queries s q formula → IsUncharged (problem_in old posed) m → IsMetering m → IsSomeAnd m.newest (λ r. r.limits.variables ≡ limit) → IsCharged (problem_in old posed) 0 limit (map tally_of queries) m
opened-charged old mid trees posed limit n spans queries s q formula m h free keeps variables =
    let p = problem_in old posed in
    let begun = opened-begun old mid trees posed limit n spans queries s q formula h in
    let levels : length (map tally_of queries) ≡ block_count p = length-map queries tally_of ∙ begun.new.many ∙ spans-count 0 (blocks_of p.prefix) in
    charged-first p limit (map tally_of queries) m free keeps variables levels (new-counts trees limit (spans_from 0 (blocks_of p.prefix)) queries begun.new)
