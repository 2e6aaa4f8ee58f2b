-- One more entry's negation, told to the lane that asks about its level and winner.
use Rattle.std.proofs.Common.{◌≡◌, ℕ, zero, suc, ◌+◌, ◌-◌, ◌≤◌, ◌<◌, false, true, Some, List, [], ◌∷◌, ◌++◌, length, map, set, slice_get, inl, inr, refl, sym, ap, ◌∙◌, subst, arith}
use Rattle.std.specs.List.{All}
use Rattle.std.proofs.lemmas.List.{length-append, length-map, map-append}
use Rattle.std.proofs.lemmas.List.Elements.{All-from_recursion, recursion_from_All}
use Rattle.qv_words.specs.declared.sort.Sort.TheVariants.{Bool as BoolSort}
use Rattle.qv_words.specs.Tree.{Tree}
use Rattle.qv_words.specs.Prenex.{negation}
use Rattle.qv_words.specs.Problem.{Problem, Quantifier}
use Rattle.qv_words.specs.Skolem.{IsTermOf}
use Rattle.qv_words.specs.Linked.{Entry, is_of, same_quantifier}
use Rattle.qv_words.specs.GameLaws.{IsProblem}
use Rattle.qv_words.proofs.Elements.{all-at, get-map, pushed-last}
use Rattle.qv_words.proofs.Leaves.{both}
use Rattle.qv_game_laws.proofs.Each.{same-quantifier}
use Rattle.qv_store.specs.Nodes.{tree_at}
use Rattle.qv_store.specs.Problems.{quantifier_of}
use Rattle.qv_store.specs.declared.problem.Quant.{Quant}
use Rattle.qv_store.specs.Stores.{Grows, StandsAt}
use Rattle.qv_store.specs.Walks.{named}
use Rattle.qv_meter.specs.Queries.{IsQueryLevel, block_count, query_list}
use Rattle.qv_meter.specs.Records.{Metering}
use Rattle.qv_meter.specs.Units.{IsQuery}
use Rattle.qv_meter.proofs.Standing.{stands-asked, stands-inner, stands-same}
use Rattle.qv_game_play_laws.proofs.Queries.{queries-are_over_places}
use Rattle.qv_game_lanes.specs.Lanes.{IsLane}
use Rattle.qv_game_state.specs.declared.query.Query.{Query}
use Rattle.qv_game_state.specs.Asking.{IsDenied, MayDeny}
use Rattle.qv_game_state.specs.Entering.{IsToldOf, MayTell}
use Rattle.qv_game_state.specs.Playing.{tally_of, AreQueries, IsQueryAt}
use Rattle.qv_game_state.proofs.Counting.{at-or_not, map-set, set-here, set-there}
use Rattle.qv_game_state.proofs.Entering.{not-of, not-told, other-winner, told}
use Rattle.qv_game_state.proofs.Keeping.{query-stays}

-- a lane that asks about other regions
pub unchanged : (trees : List Tree) (p : Problem) (entries : List Entry) (e : Entry) (limit i : ℕ) (q : Query) → is_of (i + 2) (quantifier_of q.winner) e ≡ false → IsQueryAt trees p entries limit i q → IsQueryAt trees p (entries ++ e ∷ []) limit i q
unchanged trees p entries e limit i q other h =
    let same = not-told p entries e (quantifier_of q.winner) (i + 2) other in
    record {
      opponent = h.opponent;
      below = h.below;
      list = stands-same p entries (entries ++ e ∷ []) (quantifier_of q.winner) (i + 2) (named trees q.list.items) (sym same) h.list;
      lane = h.lane;
      variables = h.variables;
    }

pub none-told : (trees : List Tree) (p : Problem) (entries : List Entry) (e : Entry) (limit : ℕ) (queries : List Query) → e.level ≤ 1 → AreQueries trees p entries limit queries → AreQueries trees p (entries ++ e ∷ []) limit queries
none-told trees p entries e limit queries low h i q at = unchanged trees p entries e limit i q (not-of (i + 2) (quantifier_of q.winner) e (λ f. omega (arith, f, low))) (h i q at)

pub not-asked : (trees : List Tree) (p : Problem) (entries : List Entry) (e : Entry) (limit k : ℕ) (queries : List Query) (q : Query) → e.level ≡ k + 2 → slice_get queries k ≡ Some q → is_of (k + 2) (quantifier_of q.winner) e ≡ false → AreQueries trees p entries limit queries → AreQueries trees p (entries ++ e ∷ []) limit queries
not-asked trees p entries e limit k queries q level at other h i r get = elim (at-or_not i k) [
  | inl is ↦
      let two : Some q ≡ Some r = sym at ∙ ap (slice_get queries) (sym is) ∙ get in
      let same : q ≡ r = cc in
      let here : is_of (i + 2) (quantifier_of r.winner) e ≡ false =
      subst (λ (x : Query). is_of (i + 2) (quantifier_of x.winner) e ≡ false) same (subst (λ (j : ℕ). is_of (j + 2) (quantifier_of q.winner) e ≡ false) (sym is) other) in
      unchanged trees p entries e limit i r here (h i r get)
  | inr away ↦ unchanged trees p entries e limit i r (not-of (i + 2) (quantifier_of r.winner) e (λ f. away (omega (arith, f, level)))) (h i r get)
]

-- the lane that is told
pub record IsAsking (trees : List Tree) (p : Problem) (entries : List Entry) (e : Entry) (limit k : ℕ) (queries : List Query) (q : Query) (m : Metering) : Type 0 where
  pub may : MayTell trees p entries e limit queries m
  pub level : e.level ≡ k + 2
  pub at : slice_get queries k ≡ Some q
  pub winner : e.winner ≡ quantifier_of q.winner

longer-list : (p : Problem) (entries : List Entry) (e : Entry) (k : ℕ) (w : Quantifier) → e.level ≡ k + 2 → e.level ≤ block_count p → e.winner ≡ w → query_list p (entries ++ e ∷ []) w (k + 2) ≡ query_list p entries w (k + 2) ++ negation e.region ∷ []
longer-list p entries e k w level high winner =
    subst (λ (v : Quantifier). query_list p (entries ++ e ∷ []) v (k + 2) ≡ query_list p entries v (k + 2) ++ negation e.region ∷ []) winner
    (told p entries e (k + 2) level (let at = level in omega (arith, at, high)))

-- its level isn't behind the last block, so it has its query list
away-from-last : (trees : List Tree) (p : Problem) (entries : List Entry) (e : Entry) (limit k : ℕ) (queries : List Query) (q : Query) (m : Metering) → IsAsking trees p entries e limit k queries q m → k + 2 ≡ block_count p + 1 → ⊥
away-from-last trees p entries e limit k queries q m h f = let high = h.may.high in let level = h.level in omega (arith, high, level, f)

asking-list : (old trees : List Tree) (p : Problem) (entries : List Entry) (e : Entry) (limit k : ℕ) (queries : List Query) (q : Query) (m : Metering) → IsAsking old p entries e limit k queries q m → Grows old trees → named trees q.list.items ≡ query_list p entries (quantifier_of q.winner) (k + 2)
asking-list old trees p entries e limit k queries q m h grows =
    stands-inner p entries (quantifier_of q.winner) (k + 2) (named trees q.list.items) (away-from-last old p entries e limit k queries q m h) (query-stays old trees p entries limit k q grows (h.may.are k q h.at)).list

asking-lane : (old trees : List Tree) (p : Problem) (entries : List Entry) (e : Entry) (limit k : ℕ) (queries : List Query) (q : Query) (m : Metering) → IsAsking old p entries e limit k queries q m → Grows old trees → IsLane trees (query_list p entries (quantifier_of q.winner) (k + 2)) q.lane
asking-lane old trees p entries e limit k queries q m h grows =
    subst (λ (ts : List Tree). IsLane trees ts q.lane) (asking-list old trees p entries e limit k queries q m h grows) (query-stays old trees p entries limit k q grows (h.may.are k q h.at)).lane

pub may-deny : (old trees : List Tree) (p : Problem) (entries : List Entry) (e : Entry) (limit k : ℕ) (queries : List Query) (q : Query) (formula : ℕ) (m : Metering) → IsAsking old p entries e limit k queries q m → Grows old trees → StandsAt trees formula (negation e.region) → MayDeny trees p (length entries + 1) limit (k + 2) (query_list p entries (quantifier_of q.winner) (k + 2)) q formula (map tally_of queries) m
may-deny old trees p entries e limit k queries q formula m h grows stands =
    let w = quantifier_of q.winner in
    let is = query-stays old trees p entries limit k q grows (h.may.are k q h.at) in
    let high = h.may.high in
    let level = h.level in
    let back : k ≡ k + 2 - 2 = omega arith in
    let one : length (entries ++ e ∷ []) ≡ length entries + 1 = length-append entries (e ∷ []) in
    let list = longer-list p entries e k w level high h.winner in
    let asked : IsQueryLevel p (k + 2) = record { low = omega arith; high = omega (arith, high, level) } in
    let longer : IsQuery p (length entries + 1) (entries ++ e ∷ []) w (k + 2) (query_list p entries w (k + 2) ++ tree_at trees formula ∷ []) = record {
      played = h.may.played;
      counted = one;
      undecided = h.may.undecided;
      asked = asked;
      list = stands-asked p (entries ++ e ∷ []) w (k + 2) (query_list p entries w (k + 2) ++ tree_at trees formula ∷ [])
          (inr (away-from-last old p entries e limit k queries q m h, ap (λ (t : Tree). query_list p entries w (k + 2) ++ t ∷ []) stands.tree ∙ sym list));
    } in
    record {
      charged = h.may.charged;
      list = asking-list old trees p entries e limit k queries q m h grows;
      entries = entries ++ e ∷ [];
      longer = longer;
      lane = asking-lane old trees p entries e limit k queries q m h grows;
      variables = is.variables;
      tally = ap (slice_get (map tally_of queries)) (sym back) ∙ get-map tally_of queries k q h.at;
    }

-- what it is told is a formula
pub told-formula : (trees : List Tree) (p : Problem) (entries : List Entry) (e : Entry) (limit k : ℕ) (queries : List Query) (q : Query) (m : Metering) → IsProblem p → IsAsking trees p entries e limit k queries q m → IsTermOf (negation e.region) BoolSort
told-formula trees p entries e limit k queries q m problem h =
    let w = quantifier_of q.winner in
    let list = longer-list p entries e k w h.level h.may.high h.winner in
    let over = queries-are_over_places p (entries ++ e ∷ []) w (k + 2) (query_list p (entries ++ e ∷ []) w (k + 2)) problem h.may.played (inr (away-from-last trees p entries e limit k queries q m h, refl)) in
    let front = query_list p entries w (k + 2) in
    let all : All (λ t. IsTermOf t BoolSort) (front ++ negation e.region ∷ []) = subst (All (λ t. IsTermOf t BoolSort)) list over.0 in
    all-at (λ t. IsTermOf t BoolSort) (front ++ negation e.region ∷ []) (length front) (negation e.region)
    (recursion_from_All (λ t. IsTermOf t BoolSort) (front ++ negation e.region ∷ []) all) (pushed-last front (negation e.region))

pub denied-query : (old trees : List Tree) (p : Problem) (entries : List Entry) (e : Entry) (limit k : ℕ) (queries : List Query) (q r : Query) (formula : ℕ) (m : Metering) → IsAsking old p entries e limit k queries q m → Grows old trees → StandsAt trees formula (negation e.region) → IsDenied trees (query_list p entries (quantifier_of q.winner) (k + 2)) q r formula → IsQueryAt trees p (entries ++ e ∷ []) limit k r
denied-query old trees p entries e limit k queries q r formula m h grows stands d =
    let w = quantifier_of q.winner in
    let who : quantifier_of r.winner ≡ w = ap quantifier_of d.winner in
    let is = query-stays old trees p entries limit k q grows (h.may.are k q h.at) in
    let list = longer-list p entries e k w h.level h.may.high h.winner in
    let whole : query_list p entries w (k + 2) ++ tree_at trees formula ∷ [] ≡ query_list p (entries ++ e ∷ []) (quantifier_of r.winner) (k + 2) =
    ap (λ (t : Tree). query_list p entries w (k + 2) ++ t ∷ []) stands.tree ∙ sym list ∙ ap (λ (v : Quantifier). query_list p (entries ++ e ∷ []) v (k + 2)) (sym who) in
    let longer : named trees r.list.items ≡ query_list p entries w (k + 2) ++ tree_at trees formula ∷ [] =
    ap (named trees) d.list ∙ map-append (tree_at trees) q.list.items (formula ∷ []) ∙ ap (λ (ts : List Tree). ts ++ tree_at trees formula ∷ []) (asking-list old trees p entries e limit k queries q m h grows) in
    record {
      opponent = λ b at. who ∙ is.opponent b at;
      below = subst (λ (ids : List ℕ). All (λ n. n < length trees) ids) (sym d.list)
          (All-from_recursion (λ n. n < length trees) (q.list.items ++ formula ∷ []) (both (λ n. n < length trees) q.list.items (formula ∷ []) (recursion_from_All (λ n. n < length trees) q.list.items is.below) (stands.below, tt)));
      list = inr (away-from-last old p entries e limit k queries q m h, longer ∙ whole);
      lane = subst (λ (ts : List Tree). IsLane trees ts r.lane) (sym longer) d.lane;
      variables = d.variables ∙ is.variables;
    }

-- all lanes, where one was told
pub told-queries : (old trees : List Tree) (p : Problem) (entries : List Entry) (e : Entry) (limit k : ℕ) (queries : List Query) (q r : Query) (formula : ℕ) (m : Metering) → IsAsking old p entries e limit k queries q m → Grows old trees → StandsAt trees formula (negation e.region) → IsDenied trees (query_list p entries (quantifier_of q.winner) (k + 2)) q r formula → AreQueries trees p (entries ++ e ∷ []) limit (set queries k r)
told-queries old trees p entries e limit k queries q r formula m h grows stands d i x get = elim (at-or_not i k) [
  | inl is ↦
      let two : Some r ≡ Some x = sym (set-here queries k q r h.at) ∙ ap (slice_get (set queries k r)) (sym is) ∙ get in
      let same : r ≡ x = cc in
      subst (λ (j : ℕ). IsQueryAt trees p (entries ++ e ∷ []) limit j x) (sym is)
      (subst (IsQueryAt trees p (entries ++ e ∷ []) limit k) same (denied-query old trees p entries e limit k queries q r formula m h grows stands d))
  | inr away ↦
      let level = h.level in
      let there : slice_get queries i ≡ Some x = sym (set-there queries k i r away) ∙ get in
      unchanged trees p entries e limit i x (not-of (i + 2) (quantifier_of x.winner) e (λ f. away (omega (arith, f, level))))
      (query-stays old trees p entries limit i x grows (h.may.are i x there))
]

set-self : {X : Type 0} (xs : List X) (i : ℕ) (x : X) → slice_get xs i ≡ Some x → set xs i x ≡ xs
set-self [] i x at = refl
set-self (y ∷ ys) zero x at = ap (λ z. z ∷ ys) (let same : x ≡ y = cc in same)
set-self (y ∷ ys) (suc i) x at = ap (λ zs. y ∷ zs) (set-self ys i x at)

pub told-tallies : (trees formulas : List Tree) (queries : List Query) (k : ℕ) (q r : Query) (formula : ℕ) → slice_get queries k ≡ Some q → IsDenied trees formulas q r formula → map tally_of (set queries k r) ≡ map tally_of queries
told-tallies trees formulas queries k q r formula at d =
    let same : tally_of r ≡ tally_of q = ap (λ (n : ℕ). record { winner = quantifier_of r.winner; count = n }) d.learnt ∙ ap (λ (v : Quantifier). record { winner = v; count = q.lane.learnt }) (ap quantifier_of d.winner) in
    map-set tally_of queries k r ∙ ap (set (map tally_of queries) k) same ∙ set-self (map tally_of queries) k (tally_of q) (get-map tally_of queries k q at)

pub told-within : (trees : List Tree) (p : Problem) (entries : List Entry) (e : Entry) (limit : ℕ) (queries : List Query) (m : Metering) (level : ℕ) → MayTell trees p entries e limit queries m → e.level ≡ level → level - 2 < length queries
told-within trees p entries e limit queries m level h is =
    let count = h.charged.levels in
    let same = length-map queries tally_of in
    let low = h.low in
    let high = h.high in
    omega (arith, count, same, low, high, is)

-- the lane at an entry's level doesn't ask about its winner
pub untold : (trees : List Tree) (p : Problem) (entries : List Entry) (e : Entry) (limit : ℕ) (queries : List Query) (q : Query) (m : Metering) (level : ℕ) (winner : Quant) (region : ℕ) → MayTell trees p entries e limit queries m → IsToldOf trees e level winner region → slice_get queries (level - 2) ≡ Some q → same_quantifier (quantifier_of winner) (quantifier_of q.winner) ≡ false → AreQueries trees p (entries ++ e ∷ []) limit queries
untold trees p entries e limit queries q m level winner region may is at other =
    let low = may.low in
    let level_is = is.level_is in
    not-asked trees p entries e limit (level - 2) queries q (omega (arith, low, level_is)) at
    (other-winner (level - 2 + 2) (quantifier_of q.winner) e (ap (λ (x : Quantifier). same_quantifier x (quantifier_of q.winner)) is.winner_is ∙ other)) may.are

-- or it does
pub asking-of : (trees : List Tree) (p : Problem) (entries : List Entry) (e : Entry) (limit : ℕ) (queries : List Query) (q : Query) (m : Metering) (level : ℕ) (winner : Quant) (region : ℕ) → MayTell trees p entries e limit queries m → IsToldOf trees e level winner region → slice_get queries (level - 2) ≡ Some q → same_quantifier (quantifier_of winner) (quantifier_of q.winner) ≡ true → IsAsking trees p entries e limit (level - 2) queries q m
asking-of trees p entries e limit queries q m level winner region may is at same =
    let low = may.low in
    let level_is = is.level_is in
    record { may = may; level = omega (arith, low, level_is); at = at; winner = is.winner_is ∙ same-quantifier (quantifier_of winner) (quantifier_of q.winner) same }

pub stands-negated : (old new : List Tree) (e : Entry) (level : ℕ) (winner : Quant) (region formula : ℕ) → IsToldOf old e level winner region → StandsAt new formula (negation (tree_at old region)) → StandsAt new formula (negation e.region)
stands-negated old new e level winner region formula is stands = subst (StandsAt new formula) (ap negation (sym is.region_is)) stands

-- all that a lane's answer leaves
pub told-whole : (old new : List Tree) (p : Problem) (entries : List Entry) (e : Entry) (limit : ℕ) (queries : List Query) (q r : Query) (m : Metering) (level : ℕ) (winner : Quant) (region formula : ℕ) → MayTell old p entries e limit queries m → IsToldOf old e level winner region → slice_get queries (level - 2) ≡ Some q → same_quantifier (quantifier_of winner) (quantifier_of q.winner) ≡ true → Grows old new → StandsAt new formula (negation (tree_at old region)) → ((fs : List Tree) → IsLane new fs q.lane → IsDenied new fs q r formula) → AreQueries new p (entries ++ e ∷ []) limit (set queries (level - 2) r) × (map tally_of (set queries (level - 2) r) ≡ map tally_of queries)
told-whole old new p entries e limit queries q r m level winner region formula may is at same grows stands denied =
    let k = level - 2 in
    let asking = asking-of old p entries e limit queries q m level winner region may is at same in
    let stands_e = stands-negated old new e level winner region formula is stands in
    let d = denied (query_list p entries (quantifier_of q.winner) (k + 2)) (asking-lane old new p entries e limit k queries q m asking grows) in (
      told-queries old new p entries e limit k queries q r formula m asking grows stands_e d,
      told-tallies new (query_list p entries (quantifier_of q.winner) (k + 2)) queries k q r formula at d,
    )

pub told-term : (old new : List Tree) (p : Problem) (entries : List Entry) (e : Entry) (limit : ℕ) (queries : List Query) (q : Query) (m : Metering) (level : ℕ) (winner : Quant) (region formula : ℕ) → IsProblem p → MayTell old p entries e limit queries m → IsToldOf old e level winner region → slice_get queries (level - 2) ≡ Some q → same_quantifier (quantifier_of winner) (quantifier_of q.winner) ≡ true → StandsAt new formula (negation (tree_at old region)) → IsTermOf (tree_at new formula) BoolSort
told-term old new p entries e limit queries q m level winner region formula problem may is at same stands =
    let asking = asking-of old p entries e limit queries q m level winner region may is at same in
    let stands_e = stands-negated old new e level winner region formula is stands in
    subst (λ (t : Tree). IsTermOf t BoolSort) (sym stands_e.tree) (told-formula old p entries e limit (level - 2) queries q m problem asking)
