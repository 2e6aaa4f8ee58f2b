-- A game at its start.
use Rattle.std.proofs.Common.{◌≡◌, ◌≢◌, ℕ, suc, ◌+◌, ◌-◌, ◌<◌, Some, List, [], ◌∷◌, ◌++◌, length, map, set, sum, take, slice_get, inl, inr, refl, sym, ap, ◌∙◌, subst, arith}
use Rattle.std.specs.Prelude.{IsSomeAnd}
use Rattle.std.specs.List.{All, AllByRecursion}
use Rattle.std.proofs.lemmas.List.{length-map, map-append}
use Rattle.std.proofs.lemmas.List.Elements.{All-from_recursion, recursion_from_All}
use Rattle.std.proofs.lemmas.Option.{same_Some, slice_get_within}
use Rattle.qv_words.specs.Tree.{Tree, Variable}
use Rattle.qv_words.specs.Problem.{Problem, Quantifier, Existential, Universal, other}
use Rattle.qv_words.specs.Linked.{Block, Entry, blocks_of, last_region}
use Rattle.qv_words.specs.GameLaws.{IsProblem}
use Rattle.qv_words.proofs.Elements.{found-at, get-map, length-pushed, of-if_some, of-some, pushed-last, pushed-other, some-and, take-length, take-one}
use Rattle.qv_store.specs.Nodes.{tree_at}
use Rattle.qv_store.specs.Problems.{quantifier_of}
use Rattle.qv_store.specs.Stores.{Grows, StandsAt}
use Rattle.qv_store.specs.Walks.{named}
use Rattle.qv_entries.specs.Rows.{Row, IsRowIn, entries_in}
use Rattle.qv_meter.specs.Played.{IsPlayed}
use Rattle.qv_words.specs.Sort.{IsLawful}
use Rattle.qv_words.specs.declared.sort.Sort.{Sort}
use Rattle.qv_words.specs.Problem.{Place as PlainPlace}
use Rattle.qv_words.proofs.Leaves.{both}
use Rattle.qv_store.specs.declared.problem.Place.{Place}
use Rattle.qv_store.specs.Problems.{place_of}
use Rattle.qv_game_state.proofs.Keeping.{below-stays, named-stays}
use Rattle.qv_game_state.proofs.Telling.{told-tallies}
use Rattle.qv_meter.specs.Queries.{IsQueryLevel, StandsForQuery, block_count, last_query, query_list}
use Rattle.qv_meter.specs.Records.{IsMetering, Metering, lane_count, position_of}
use Rattle.qv_meter.specs.Units.{Query as QueryLane}
use Rattle.qv_meter.proofs.Positions.{within}
use Rattle.qv_meter.proofs.Standing.{list-inner, list-last, stands-asked}
use Rattle.qv_rewrite_passes.specs.Passes.{IsBehind}
use Rattle.qv_game_lanes.specs.Lanes.{IsLane}
use Rattle.qv_game_entry_laws.specs.PointLaws.{places_from}
use Rattle.qv_game_state.specs.declared.query.Query.{Query}
use Rattle.qv_game_state.specs.declared.game.Game.{Game}
use Rattle.qv_game_state.specs.Asking.{IsDenied, MayDeny}
use Rattle.qv_game_state.specs.Charges.{IsCharged, Tally}
use Rattle.qv_game_state.specs.Playing.{tally_of, AreQueries, IsGame, IsQueryAt}
use Rattle.qv_game_state.specs.Spans.{Span, span_of, spans_from}
use Rattle.qv_game_state.specs.Spots.{all_sorts}
use Rattle.qv_game_state.specs.Starting.{AreNew, IsLastFormula, IsNew, IsUncharged}
use Rattle.qv_game_state.proofs.Blocks.{span-at}
use Rattle.qv_game_state.proofs.Counting.{at-or_not, one-within, set-here, set-there}

-- none of some numbers whose sum is 0
none-of : (ns : List ℕ) (i : ℕ) → sum ns ≡ 0 → i < length ns → slice_get ns i ≡ Some 0
none-of ns i e low =
    let x = found-at ns i low in
    let most = one-within ns i x.0 x.1 in
    let none : x.0 ≡ 0 = omega (arith, most, e) in
    x.1 ∙ ap Some none

-- what is charged at the start
pub charged-first : (p : Problem) (limit : ℕ) (tallies : List Tally) (m : Metering) → IsUncharged p m → IsMetering m → IsSomeAnd m.newest (λ r. r.limits.variables ≡ limit) → length tallies ≡ block_count p → ((i : ℕ) (t : Tally) → slice_get tallies i ≡ Some t → t.count ≡ 0) → IsCharged p 0 limit tallies m
charged-first p limit tallies m h keeps variables many none =
    let r = some-and m.newest (λ x. IsSomeAnd x.kept (λ k. (k.problem ≡ p) × (x.conflicts ≡ 0) × (x.instances ≡ 0))) h in
    let k = some-and r.0.kept (λ y. (y.problem ≡ p) × (r.0.conflicts ≡ 0) × (r.0.instances ≡ 0)) r.2 in
    let is = of-if_some m.newest _ r.0 r.1 keeps.newest in
    let tally = of-if_some r.0.kept _ k.0 k.1 is.tallies in
    let none_there : sum k.0.tallies ≡ 0 = tally.together ∙ k.2.1 in
    let size : length k.0.tallies ≡ lane_count p = tally.each ∙ ap lane_count k.2.0 in
    record {
      newest = r.0;
      kept = k.0;
      newest_is = r.1;
      kept_is = k.1;
      problem = k.2.0;
      instances = k.2.2;
      variables = of-some m.newest (λ x. x.limits.variables ≡ limit) r.0 r.1 variables;
      final = none-of k.0.tallies 0 none_there (omega (arith, size));
      levels = many;
      each = λ i t at.
          let low = slice_get_within tallies i t at in
          let place = within p (QueryLane t.winner (i + 2)) (record { low = omega arith; high = omega (arith, low, many) }) in
          none-of k.0.tallies (position_of (QueryLane t.winner (i + 2))) none_there (omega (arith, place, size)) ∙ ap Some (sym (none i t at));
    }

pub new-counts : (trees : List Tree) (limit : ℕ) (spans : List Span) (queries : List Query) → AreNew trees limit spans queries → (i : ℕ) (t : Tally) → slice_get (map tally_of queries) i ≡ Some t → t.count ≡ 0
new-counts trees limit spans queries h i t at =
    let count = length-map queries tally_of in
    let many = h.many in
    let low = slice_get_within (map tally_of queries) i t at in
    let q = found-at queries i (omega (arith, low, count)) in
    let s = found-at spans i (omega (arith, low, count, many)) in
    let two : Some (tally_of q.0) ≡ Some t = sym (get-map tally_of queries i q.0 q.1) ∙ at in
    let same : tally_of q.0 ≡ t = cc in
    sym (ap (λ (x : Tally). x.count) same) ∙ (h.each i q.0 s.0 q.1 s.1).1.learnt

-- the list behind the last block
last-of : (p : Problem) (q : Quantifier) → last_query p (other q) ≡ last_region p q
last-of p Existential = refl
last-of p Universal = refl

-- queries without formulas, of which the last one is told the last formula
pub record IsBegun (trees : List Tree) (p : Problem) (limit : ℕ) (queries : List Query) (k : ℕ) (q : Query) (s : Span) (formula : ℕ) : Type 0 where
  pub new : AreNew trees limit (spans_from 0 (blocks_of p.prefix)) queries
  pub last : suc k ≡ block_count p
  pub at : slice_get queries k ≡ Some q
  pub span : slice_get (spans_from 0 (blocks_of p.prefix)) k ≡ Some s
  pub is_last : IsLastFormula trees p s.owner formula

told : (trees : List Tree) (p : Problem) (limit : ℕ) (queries : List Query) (k : ℕ) (q : Query) (s : Span) (formula : ℕ) → IsBegun trees p limit queries k q s formula → StandsForQuery p [] (quantifier_of q.winner) (k + 2) (tree_at trees formula ∷ [])
told trees p limit queries k q s formula h =
    let before = h.last in
    let winner = (h.new.each k q s h.at h.span).0 in
    let last : k + 2 ≡ block_count p + 1 = omega (arith, before) in
    let list : last_region p s.owner ∷ [] ≡ query_list p [] (quantifier_of q.winner) (k + 2) =
    ap (λ (t : Tree). t ∷ []) (sym (last-of p s.owner) ∙ ap (last_query p) (sym winner)) ∙ sym (list-last p [] (quantifier_of q.winner) (k + 2) last) in
    inl (last, subst (λ (ts : List Tree). IsBehind ts (tree_at trees formula ∷ [])) list h.is_last.behind)

pub may-begin : (trees : List Tree) (p : Problem) (limit : ℕ) (queries : List Query) (k : ℕ) (q : Query) (s : Span) (formula : ℕ) (m : Metering) → IsBegun trees p limit queries k q s formula → IsCharged p 0 limit (map tally_of queries) m → MayDeny trees p 0 limit (k + 2) [] q formula (map tally_of queries) m
may-begin trees p limit queries k q s formula m h charged =
    let is = (h.new.each k q s h.at h.span).1 in
    let last = h.last in
    let back : k + 2 - 2 ≡ k = omega arith in
    let asked : IsQueryLevel p (k + 2) = record { low = omega arith; high = omega (arith, last) } in
    record {
      charged = charged;
      list = ap (named trees) is.list;
      entries = [];
      longer = record {
        played = tt;
        counted = refl;
        undecided = All-from_recursion (λ (e : Entry). e.level ≢ 1) [] tt;
        asked = asked;
        list = stands-asked p [] (quantifier_of q.winner) (k + 2) (tree_at trees formula ∷ []) (told trees p limit queries k q s formula h);
      };
      lane = is.lane;
      variables = is.variables;
      tally = ap (slice_get (map tally_of queries)) back ∙ get-map tally_of queries k q h.at;
    }

begun-at : (trees : List Tree) (p : Problem) (limit : ℕ) (queries : List Query) (i : ℕ) (q : Query) (s : Span) → AreNew trees limit (spans_from 0 (blocks_of p.prefix)) queries → slice_get queries i ≡ Some q → slice_get (spans_from 0 (blocks_of p.prefix)) i ≡ Some s → (b : Block) → slice_get (blocks_of p.prefix) i ≡ Some b → quantifier_of q.winner ≡ other b.owner
begun-at trees p limit queries i q s h at span b block =
    let f = span-at 0 (blocks_of p.prefix) i s span in
    let two : Some f.0 ≡ Some b = sym f.1.at ∙ block in
    let same : f.0 ≡ b = cc in
    (h.each i q s at span).0 ∙ ap other (f.1.owner ∙ ap (λ (x : Block). x.owner) same)

pub begun-queries : (trees : List Tree) (p : Problem) (limit : ℕ) (queries : List Query) (k : ℕ) (q r : Query) (s : Span) (formula : ℕ) → IsBegun trees p limit queries k q s formula → IsDenied trees [] q r formula → AreQueries trees p [] limit (set queries k r)
begun-queries trees p limit queries k q r s formula h d i x get = elim (at-or_not i k) [
  | inl is ↦
      let two : Some r ≡ Some x = sym (set-here queries k q r h.at) ∙ ap (slice_get (set queries k r)) (sym is) ∙ get in
      let same : r ≡ x = cc in
      let one = (h.new.each k q s h.at h.span).1 in
      let who : quantifier_of r.winner ≡ quantifier_of q.winner = ap quantifier_of d.winner in
      let whole = subst (λ (v : Quantifier). StandsForQuery p [] v (k + 2) (tree_at trees formula ∷ [])) (sym who) (told trees p limit queries k q s formula h) in
      let ids : r.list.items ≡ formula ∷ [] = d.list ∙ ap (λ (ns : List ℕ). ns ++ formula ∷ []) one.list in
      let there : IsQueryAt trees p [] limit k r = record {
        opponent = λ b at. who ∙ begun-at trees p limit queries k q s h.new h.at h.span b at;
        below = subst (λ (ns : List ℕ). All (λ n. n < length trees) ns) (sym ids) (All-from_recursion (λ n. n < length trees) (formula ∷ []) (h.is_last.below, tt));
        list = subst (λ (ns : List ℕ). StandsForQuery p [] (quantifier_of r.winner) (k + 2) (named trees ns)) (sym ids) whole;
        lane = subst (λ (ns : List ℕ). IsLane trees (named trees ns) r.lane) (sym ids) d.lane;
        variables = d.variables ∙ one.variables;
      } in
      subst (λ (j : ℕ). IsQueryAt trees p [] limit j x) (sym is) (subst (IsQueryAt trees p [] limit k) same there)
  | inr away ↦
      let old : slice_get queries i ≡ Some x = sym (set-there queries k i r away) ∙ get in
      let many = h.new.many in
      let low = slice_get_within queries i x old in
      let t = found-at (spans_from 0 (blocks_of p.prefix)) i (omega (arith, many, low)) in
      let one = (h.new.each i x t.0 old t.1).1 in
      let last = h.last in
      let inner : i + 2 ≡ block_count p + 1 → ⊥ = λ e. away (omega (arith, e, last)) in
      let none : named trees x.list.items ≡ [] = ap (named trees) one.list in
      record {
        opponent = λ b at. begun-at trees p limit queries i x t.0 h.new old t.1 b at;
        below = subst (λ (ns : List ℕ). All (λ n. n < length trees) ns) (sym one.list) (All-from_recursion (λ n. n < length trees) [] tt);
        list = inr (inner, none ∙ sym (list-inner p [] (quantifier_of x.winner) (i + 2) inner));
        lane = subst (λ (ts : List Tree). IsLane trees ts x.lane) (sym none) one.lane;
        variables = one.variables;
      }
]

-- one query more
pub new-push : (trees : List Tree) (limit : ℕ) (ss : List Span) (qs : List Query) (s : Span) (q : Query) → AreNew trees limit ss qs → IsNew trees limit q.winner q → quantifier_of q.winner ≡ other s.owner → AreNew trees limit (ss ++ s ∷ []) (qs ++ q ∷ [])
new-push trees limit ss qs s q h new who =
    let many = h.many in
    let a = length-pushed qs q in
    let b = length-pushed ss s in
    record {
      many = omega (arith, many, a, b);
      each = λ i r t at bt. elim (at-or_not i (length qs)) [
        | inl last ↦
            let one : Some q ≡ Some r = sym (pushed-last qs q) ∙ ap (slice_get (qs ++ q ∷ [])) (sym last) ∙ at in
            let two : Some s ≡ Some t = sym (pushed-last ss s) ∙ ap (slice_get (ss ++ s ∷ [])) (sym (last ∙ many)) ∙ bt in
            let same : q ≡ r = same_Some q r one in
            let is : s ≡ t = same_Some s t two in
            (ap (λ (x : Query). quantifier_of x.winner) (sym same) ∙ who ∙ ap (λ (x : Span). other x.owner) is, subst (λ (x : Query). IsNew trees limit x.winner x) same new)
        | inr away ↦ h.each i r t (sym (pushed-other qs q i away) ∙ at) (sym (pushed-other ss s i (λ e. away (e ∙ sym many))) ∙ bt)
      ];
    }

-- the places of a prefix
places-push : (place : ℕ) (ss : List Sort) (s : Sort) → places_from place (ss ++ s ∷ []) ≡ places_from place ss ++ Variable (place + length ss) s ∷ []
places-push place [] s = let none : place ≡ place + 0 = omega arith in ap (λ (n : ℕ). Variable n s ∷ []) none
places-push place (t ∷ ss) s =
    let next : suc place + length ss ≡ place + suc (length ss) = omega arith in
    ap (λ (ts : List Tree). Variable place t ∷ ts) (places-push (suc place) ss s ∙ ap (λ (n : ℕ). places_from (suc place) ss ++ Variable n s ∷ []) next)

abbrev sort_of : Place → Sort
sort_of place = place.sort

pub placed : (old new : List Tree) (xs : List Place) (k : ℕ) (x : Place) (ids longer : List ℕ) (id : ℕ) → Grows old new → slice_get xs k ≡ Some x → All (λ n. n < length old) ids → named old ids ≡ places_from 0 (map (λ (place : Place). place.sort) (take k xs)) → StandsAt new id (Variable k x.sort) → longer ≡ ids ++ id ∷ [] → All (λ n. n < length new) longer × (named new longer ≡ places_from 0 (map (λ (place : Place). place.sort) (take (k + 1) xs)))
placed old new xs k x ids longer id grows at below are stands is =
    let next : k + 1 ≡ suc k = omega arith in
    let low = slice_get_within xs k x at in
    let count : length (map sort_of (take k xs)) ≡ k = length-map (take k xs) sort_of ∙ take-length xs k (omega (arith, low)) in
    let whole : map sort_of (take (k + 1) xs) ≡ map sort_of (take k xs) ++ x.sort ∷ [] =
    ap (λ (n : ℕ). map sort_of (take n xs)) next ∙ ap (map sort_of) (take-one xs k x at) ∙ map-append sort_of (take k xs) (x ∷ []) in
    let here : 0 + length (map sort_of (take k xs)) ≡ k = omega (arith, count) in (
      subst (λ (ns : List ℕ). All (λ n. n < length new) ns) (sym is)
          (All-from_recursion (λ n. n < length new) (ids ++ id ∷ []) (both (λ n. n < length new) ids (id ∷ []) (recursion_from_All (λ n. n < length new) ids (below-stays old new ids grows below)) (stands.below, tt))),
      ap (named new) is ∙ map-append (tree_at new) ids (id ∷ [])
          ∙ ap (λ (ts : List Tree). ts ++ tree_at new id ∷ []) (named-stays old new ids grows below ∙ are)
          ∙ ap (λ (t : Tree). places_from 0 (map sort_of (take k xs)) ++ t ∷ []) stands.tree
          ∙ ap (λ (n : ℕ). places_from 0 (map sort_of (take k xs)) ++ Variable n x.sort ∷ []) (sym here)
          ∙ sym (places-push 0 (map sort_of (take k xs)) x.sort) ∙ ap (places_from 0) (sym whole),
    )

unmapped : (xs : List Place) → AllByRecursion (λ (place : PlainPlace). IsLawful place.sort) (map place_of xs) → AllByRecursion (λ (place : Place). IsLawful place.sort) xs
unmapped [] h = tt
unmapped (x ∷ xs) h = (h.0, unmapped xs h.1)

pub lawful-places : (xs : List Place) → All (λ (place : PlainPlace). IsLawful place.sort) (map place_of xs) → All (λ (place : Place). IsLawful place.sort) xs
lawful-places xs h = All-from_recursion (λ (place : Place). IsLawful place.sort) xs (unmapped xs (recursion_from_All (λ (place : PlainPlace). IsLawful place.sort) (map place_of xs) h))

pub sorts-same : (xs : List Place) → map (λ (place : Place). place.sort) xs ≡ map (λ (place : PlainPlace). place.sort) (map place_of xs)
sorts-same [] = refl
sorts-same (x ∷ xs) = ap (λ (ss : List Sort). x.sort ∷ ss) (sorts-same xs)

-- the game at its start
pub begun-game : (trees : List Tree) (p : Problem) (limit : ℕ) (g : Game) (queries : List Query) (k : ℕ) (q r : Query) (s : Span) (formula : ℕ) (m : Metering) → IsProblem p → IsBegun trees p limit queries k q s formula → IsDenied trees [] q r formula → IsCharged p 0 limit (map tally_of queries) m → map span_of g.spans.items ≡ spans_from 0 (blocks_of p.prefix) → All (λ n. n < length trees) g.places.items → named trees g.places.items ≡ places_from 0 (all_sorts p) → g.entries ≡ [] → g.queries.items ≡ set queries k r → IsGame trees p limit g m
begun-game trees p limit g queries k q r s formula m problem h d charged spans below places none are =
    let tallies : map tally_of g.queries.items ≡ map tally_of queries = ap (map tally_of) are ∙ told-tallies trees [] queries k q r formula h.at d in
    record {
      problem = problem;
      spans = spans;
      below = below;
      places = places;
      rows = subst (λ (rs : List Row). All (IsRowIn trees) rs) (sym none) (All-from_recursion (IsRowIn trees) [] tt);
      played = subst (λ (rs : List Row). IsPlayed p (entries_in trees rs)) (sym none) tt;
      queries = subst (λ (rs : List Row). AreQueries trees p (entries_in trees rs) limit g.queries.items) (sym none)
          (subst (λ (qs : List Query). AreQueries trees p [] limit qs) (sym are) (begun-queries trees p limit queries k q r s formula h d));
      charged = subst (λ (rs : List Row). IsCharged p (length rs) limit (map tally_of g.queries.items) m) (sym none)
          (subst (λ (ts : List Tally). IsCharged p 0 limit ts m) (sym tallies) charged);
    }
