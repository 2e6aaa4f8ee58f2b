-- What is asked in a turn, and what it leaves.
use Rattle.std.proofs.Common.{◌≡◌, ℕ, suc, ◌+◌, ◌-◌, ◌≤◌, ◌<◌, Ok, Err, Result, Some, List, [], ◌∷◌, length, map, set, take, slice_get, inl, inr, refl, sym, ap, ◌∙◌, subst, arith}
use Rattle.std.specs.Prelude.{IfOk, OnOk}
use Rattle.std.specs.List.{All}
use Rattle.std.proofs.lemmas.List.{length-map}
use Rattle.std.proofs.lemmas.List.Elements.{All-take}
use Rattle.std.proofs.lemmas.Option.{same_Some}
use Rattle.qv_words.specs.declared.sort.Sort.{Sort}
use Rattle.qv_words.specs.declared.word.Word.{Word}
use Rattle.qv_words.specs.Tree.{Tree}
use Rattle.qv_words.specs.Word.{sorts_of}
use Rattle.qv_words.specs.Problem.{Problem, Quantifier, other}
use Rattle.qv_words.specs.Linked.{Block, Entry, blocks_of}
use Rattle.qv_words.proofs.Elements.{get-map}
use Rattle.qv_store.specs.Walks.{named}
use Rattle.qv_entries.specs.Rows.{Row, IsRowIn, entries_in}
use Rattle.qv_meter.specs.Played.{IsPlayed, IsSettled, IsUndecided}
use Rattle.qv_meter.specs.Queries.{StandsForQuery, block_count}
use Rattle.qv_meter.specs.Records.{Metering}
use Rattle.qv_game_play_laws.specs.PlayLaws.{sorts_below}
use Rattle.qv_game_entry_laws.specs.PointLaws.{places_from}
use Rattle.qv_store.specs.Problems.{quantifier_of}
use Rattle.qv_game_lanes.specs.Asking.{IsAnswer, MakeTrue}
use Rattle.qv_game_lanes.specs.declared.asking.Answer.{Answer}
use Rattle.qv_game_state.specs.declared.query.Query.{Query}
use Rattle.qv_game_state.specs.Asking.{IsAnswerAt, IsAsked}
use Rattle.qv_game_state.specs.declared.game.Game.{Game}
use Rattle.qv_game_state.specs.Spots.{all_sorts, BlockAt, IsSpot}
use Rattle.qv_game_state.specs.Charges.{IsCharged, Tally}
use Rattle.qv_game_state.specs.Playing.{tally_of, AreQueries, IsGame, IsPlaying, IsQueryAt}
use Rattle.qv_game_state.specs.Spans.{Span, span_of}
use Rattle.qv_game_state.specs.declared.spans.Span.{Span as Kept}
use Rattle.qv_game_state.proofs.Blocks.{spans-count}
use Rattle.qv_game_state.proofs.Counting.{at-or_not, map-set, set-here, set-there}
use Rattle.qv_game_state.proofs.Levels.{IsLevel, front-named, front-typed, level-of, places-within}

-- the lane of a level's block may be asked, at a front of a point of it
pub may-ask-at : (trees : List Tree) (p : Problem) (limit : ℕ) (g : Game) (level : ℕ) (point : List Word) (m : Metering) (s : Span) (b : Block) (q : Query) → IsGame trees p limit g m → IsUndecided (entries_in trees g.entries) → 1 ≤ level → level ≤ block_count p → sorts_of point ≡ take (length point) (sorts_below p (level + 1)) → IsLevel p level s b → slice_get g.queries.items (level - 1) ≡ Some q → IsAsked trees p (entries_in trees g.entries) limit (map tally_of g.queries.items) q (take s.end g.places.items) point (level + 1) m
may-ask-at trees p limit g level point m s b q h undecided low high typed is at =
    let entries = entries_in trees g.entries in
    let back : level - 1 ≡ level + 1 - 2 = omega arith in
    let count : length g.entries ≡ length entries = sym (length-map g.entries _) in
    record {
      problem = h.problem;
      played = h.played;
      undecided = undecided;
      of_level = record { low = omega (arith, low); high = omega (arith, high) };
      query = subst (λ (i : ℕ). IsQueryAt trees p entries limit i q) back (h.queries (level - 1) q at);
      tally = ap (slice_get (map tally_of g.queries.items)) (sym back) ∙ get-map tally_of g.queries.items (level - 1) q at;
      charged = subst (λ (n : ℕ). IsCharged p n limit (map tally_of g.queries.items) m) count h.charged;
      at_places = record {
        low = All-take (λ n. n < length trees) s.end g.places.items h.below;
        variables = ap (λ (n : ℕ). named trees (take n g.places.items)) is.end ∙ front-named trees p (level + 1) g.places.items h.places;
        typed = typed;
      };
    }

-- the lane of a level's block may be asked
pub may-ask : (trees : List Tree) (p : Problem) (limit : ℕ) (g : Game) (level : ℕ) (point : List Word) (m : Metering) (s : Span) (b : Block) (q : Query) → IsPlaying trees p limit g level point m → IsLevel p level s b → slice_get g.queries.items (level - 1) ≡ Some q → IsAsked trees p (entries_in trees g.entries) limit (map tally_of g.queries.items) q (take s.end g.places.items) point (level + 1) m
may-ask trees p limit g level point m s b q h is at =
    may-ask-at trees p limit g level point m s b q h.game h.undecided h.spot.low h.spot.high (front-typed p level b point h.spot.low is.at h.spot.sorts) is at

-- a game in which one query was asked
pub asked-queries : (trees : List Tree) (p : Problem) (entries : List Entry) (limit : ℕ) (queries : List Query) (i : ℕ) (q new : Query) → slice_get queries i ≡ Some q → AreQueries trees p entries limit queries → IsQueryAt trees p entries limit i new → AreQueries trees p entries limit (set queries i new)
asked-queries trees p entries limit queries i q new at h is j r get = elim (at-or_not j i) [
  | inl e ↦
      let here : Some new ≡ Some r = sym (set-here queries i q new at) ∙ ap (slice_get (set queries i new)) (sym e) ∙ get in
      let same : new ≡ r = cc in
      subst (λ (k : ℕ). IsQueryAt trees p entries limit k r) (sym e) (subst (IsQueryAt trees p entries limit i) same is)
  | inr other ↦ h j r (sym (set-there queries i j new other) ∙ get)
]

pub asked-game : (trees : List Tree) (p : Problem) (limit : ℕ) (g new : Game) (level : ℕ) (q r : Query) (m after : Metering) → 1 ≤ level → IsGame trees p limit g m → slice_get g.queries.items (level - 1) ≡ Some q → new.spans.items ≡ g.spans.items → new.places.items ≡ g.places.items → new.entries ≡ g.entries → new.queries.items ≡ set g.queries.items (level - 1) r → IsQueryAt trees p (entries_in trees g.entries) limit (level + 1 - 2) r × IsCharged p (length (entries_in trees g.entries)) limit (set (map tally_of g.queries.items) (level + 1 - 2) (tally_of r)) after → IsGame trees p limit new after
asked-game trees p limit g new level q r m after low h at spans places entries queries asked =
    let back : level + 1 - 2 ≡ level - 1 = omega (arith, low) in
    let old = entries_in trees g.entries in
    let count : length old ≡ length new.entries = length-map g.entries _ ∙ ap length (sym entries) in
    let tallies : set (map tally_of g.queries.items) (level + 1 - 2) (tally_of r) ≡ map tally_of new.queries.items =
    ap (λ (i : ℕ). set (map tally_of g.queries.items) i (tally_of r)) back ∙ sym (map-set tally_of g.queries.items (level - 1) r) ∙ ap (map tally_of) (sym queries) in
    record {
      problem = h.problem;
      spans = ap (map span_of) spans ∙ h.spans;
      below = subst (λ (ids : List ℕ). All (λ n. n < length trees) ids) (sym places) h.below;
      places = ap (named trees) places ∙ h.places;
      rows = subst (λ (rows : List Row). All (IsRowIn trees) rows) (sym entries) h.rows;
      played = subst (λ (rows : List Row). IsPlayed p (entries_in trees rows)) (sym entries) h.played;
      queries = subst (λ (rows : List Row). AreQueries trees p (entries_in trees rows) limit new.queries.items) (sym entries)
          (subst (λ (qs : List Query). AreQueries trees p old limit qs) (sym queries)
          (asked-queries trees p old limit g.queries.items (level - 1) q r at h.queries (subst (λ (i : ℕ). IsQueryAt trees p old limit i r) back asked.0)));
      charged = subst (λ (n : ℕ). IsCharged p n limit (map tally_of new.queries.items) after) count
          (subst (λ (ts : List Tally). IsCharged p (length old) limit ts after) tallies asked.1);
    }

-- a level has a block and a query
pub span-within : (trees : List Tree) (p : Problem) (limit : ℕ) (g : Game) (level : ℕ) (m : Metering) → IsGame trees p limit g m → 1 ≤ level → level ≤ block_count p → level - 1 < length g.spans.items
span-within trees p limit g level m h low high =
    let count : length (map span_of g.spans.items) ≡ block_count p = ap length h.spans ∙ spans-count 0 (blocks_of p.prefix) in
    let same = length-map g.spans.items span_of in
    omega (arith, count, same, low, high)

pub query-within : (trees : List Tree) (p : Problem) (limit : ℕ) (g : Game) (level : ℕ) (m : Metering) → IsGame trees p limit g m → 1 ≤ level → level ≤ block_count p → level - 1 < length g.queries.items
query-within trees p limit g level m h low high =
    let count = h.charged.levels in
    let same = length-map g.queries.items tally_of in
    omega (arith, count, same, low, high)

pub level-span : (trees : List Tree) (p : Problem) (limit : ℕ) (g : Game) (level : ℕ) (m : Metering) (s : Kept) → IsGame trees p limit g m → 1 ≤ level → slice_get g.spans.items (level - 1) ≡ Some s → (b : Block) × IsLevel p level (span_of s) b
level-span trees p limit g level m s h low at =
    level-of p level (span_of s) low (ap (λ (ss : List Span). slice_get ss (level - 1)) (sym h.spans) ∙ get-map span_of g.spans.items (level - 1) s at)

-- the block's places are among all
pub end-within : (trees : List Tree) (p : Problem) (limit : ℕ) (g : Game) (level : ℕ) (m : Metering) (s : Kept) → IsGame trees p limit g m → 1 ≤ level → slice_get g.spans.items (level - 1) ≡ Some s → s.end ≤ length g.places.items
end-within trees p limit g level m s h low at =
    let end = (level-span trees p limit g level m s h low at).1.end in
    let within = places-within p (level + 1) (omega arith) in
    let many : length g.places.items ≡ length p.prefix = sym (length-map g.places.items _) ∙ ap length h.places ∙ places-count 0 (all_sorts p) ∙ length-map p.prefix _ in
    omega (arith, end, within, many)
  where
    places-count : (place : ℕ) (sorts : List Sort) → length (places_from place sorts) ≡ length sorts
    places-count place [] = refl
    places-count place (s ∷ sorts) = ap suc (places-count (suc place) sorts)

-- the game after its level's query was asked
pub asked-playing : (trees : List Tree) (p : Problem) (limit : ℕ) (g new : Game) (level : ℕ) (point : List Word) (s : Kept) (q r : Query) (ids : List ℕ) (m after : Metering) → IsPlaying trees p limit g level point m → slice_get g.spans.items (level - 1) ≡ Some s → slice_get g.queries.items (level - 1) ≡ Some q → ids ≡ take s.end g.places.items → new.spans.items ≡ g.spans.items → new.places.items ≡ g.places.items → new.entries ≡ g.entries → new.queries.items ≡ set g.queries.items (level - 1) r → ((x : Problem) (es : List Entry) (l : ℕ) (ts : List Tally) → IsAsked trees x es l ts q ids point (level + 1) m → IsQueryAt trees x es l (level + 1 - 2) r × IsCharged x (length es) l (set ts (level + 1 - 2) (tally_of r)) after) → IsPlaying trees p limit new level point after
asked-playing trees p limit g new level point s q r ids m after h span at places spans kept entries queries asked =
    let low = h.spot.low in
    let f = level-span trees p limit g level m s h.game low span in
    let may = may-ask trees p limit g level point m (span_of s) f.0 q h f.1 at in
    let given = subst (λ (ns : List ℕ). IsAsked trees p (entries_in trees g.entries) limit (map tally_of g.queries.items) q ns point (level + 1) m) (sym places) may in
    let stays : entries_in trees new.entries ≡ entries_in trees g.entries = ap (entries_in trees) entries in
    record {
      game = asked-game trees p limit g new level q r m after low h.game at spans kept entries queries (asked p (entries_in trees g.entries) limit (map tally_of g.queries.items) given);
      undecided = subst IsUndecided (sym stays) h.undecided;
      settled = subst (IsSettled p) (sym stays) h.settled;
      spot = subst (λ (es : List Entry). IsSpot p es level point) (sym stays) h.spot;
    }

-- there is a span for each block
pub spans-are : (trees : List Tree) (p : Problem) (limit : ℕ) (g : Game) (m : Metering) → IsGame trees p limit g m → length g.spans.items ≡ block_count p
spans-are trees p limit g m h = sym (length-map g.spans.items span_of) ∙ ap length h.spans ∙ spans-count 0 (blocks_of p.prefix)

pub some-spans : (trees : List Tree) (p : Problem) (limit : ℕ) (g : Game) (m : Metering) → IsPlaying trees p limit g 1 [] m → 1 ≤ length g.spans.items
some-spans trees p limit g m h =
    let count = spans-are trees p limit g m h.game in
    let high = h.spot.high in
    omega (arith, count, high)

-- before any entry the lane of the last level may be asked with nothing fixed
pub may-seek : (trees : List Tree) (p : Problem) (limit : ℕ) (g : Game) (level : ℕ) (m : Metering) (s : Kept) (q : Query) → IsPlaying trees p limit g 1 [] m → level ≡ length g.spans.items → slice_get g.spans.items (level - 1) ≡ Some s → slice_get g.queries.items (level - 1) ≡ Some q → IsAsked trees p (entries_in trees g.entries) limit (map tally_of g.queries.items) q (take s.end g.places.items) [] (level + 1) m
may-seek trees p limit g level m s q h is span at =
    let count = spans-are trees p limit g m h.game in
    let some = some-spans trees p limit g m h in
    let low : 1 ≤ level = omega (arith, is, some) in
    let f = level-span trees p limit g level m s h.game low span in
    may-ask-at trees p limit g level [] m (span_of s) f.0 q h.game h.undecided low (omega (arith, is, count)) refl f.1 at

pub sought-stays : (trees : List Tree) (p : Problem) (limit : ℕ) (g new : Game) (level : ℕ) (s : Kept) (q r : Query) (ids : List ℕ) (m after : Metering) → IsPlaying trees p limit g 1 [] m → level ≡ length g.spans.items → slice_get g.spans.items (level - 1) ≡ Some s → slice_get g.queries.items (level - 1) ≡ Some q → ids ≡ take s.end g.places.items → new.spans.items ≡ g.spans.items → new.places.items ≡ g.places.items → new.entries ≡ g.entries → new.queries.items ≡ set g.queries.items (level - 1) r → ((x : Problem) (es : List Entry) (l : ℕ) (ts : List Tally) → IsAsked trees x es l ts q ids [] (level + 1) m → IsQueryAt trees x es l (level + 1 - 2) r × IsCharged x (length es) l (set ts (level + 1 - 2) (tally_of r)) after) → IsPlaying trees p limit new 1 [] after
sought-stays trees p limit g new level s q r ids m after h is span at places spans kept entries queries asked =
    let some = some-spans trees p limit g m h in
    let low : 1 ≤ level = omega (arith, is, some) in
    let may = may-seek trees p limit g level m s q h is span at in
    let given = subst (λ (ns : List ℕ). IsAsked trees p (entries_in trees g.entries) limit (map tally_of g.queries.items) q ns [] (level + 1) m) (sym places) may in
    let stays : entries_in trees new.entries ≡ entries_in trees g.entries = ap (entries_in trees) entries in
    record {
      game = asked-game trees p limit g new level q r m after low h.game at spans kept entries queries (asked p (entries_in trees g.entries) limit (map tally_of g.queries.items) given);
      undecided = subst IsUndecided (sym stays) h.undecided;
      settled = subst (IsSettled p) (sym stays) h.settled;
      spot = subst (λ (es : List Entry). IsSpot p es 1 []) (sym stays) h.spot;
    }

-- and what it gives are values of all places
pub sought-sorts : (trees : List Tree) (p : Problem) (limit : ℕ) (g : Game) (level : ℕ) (m : Metering) (s : Kept) (q : Query) (ids : List ℕ) (values : List Word) → IsPlaying trees p limit g 1 [] m → level ≡ length g.spans.items → slice_get g.spans.items (level - 1) ≡ Some s → slice_get g.queries.items (level - 1) ≡ Some q → ids ≡ take s.end g.places.items → ((x : Problem) (es : List Entry) (l : ℕ) (ts : List Tally) → IsAsked trees x es l ts q ids [] (level + 1) m → MakeTrue (named trees q.list.items) (sorts_below x (level + 1)) [] values) → sorts_of values ≡ sorts_below p (block_count p + 1)
sought-sorts trees p limit g level m s q ids values h is span at places answered =
    let may = may-seek trees p limit g level m s q h is span at in
    let given = subst (λ (ns : List ℕ). IsAsked trees p (entries_in trees g.entries) limit (map tally_of g.queries.items) q ns [] (level + 1) m) (sym places) may in
    (answered p (entries_in trees g.entries) limit (map tally_of g.queries.items) given).sorts_are
    ∙ ap (λ (n : ℕ). sorts_below p (n + 1)) (is ∙ spans-are trees p limit g m h.game)

-- what the level's query was answered
pub asked-answered : (trees : List Tree) (p : Problem) (limit : ℕ) (g : Game) (level : ℕ) (point : List Word) (m : Metering) (s : Kept) (q r : Query) (ids : List ℕ) (answer : Answer) → IsPlaying trees p limit g level point m → slice_get g.spans.items (level - 1) ≡ Some s → slice_get g.queries.items (level - 1) ≡ Some q → ids ≡ take s.end g.places.items → r.list.items ≡ q.list.items → ((x : Problem) (es : List Entry) (l : ℕ) (ts : List Tally) → IsAsked trees x es l ts q ids point (level + 1) m → IsAnswerAt trees x q (level + 1) point answer) → (x : Query) → slice_get (set g.queries.items (level - 1) r) (level - 1) ≡ Some x → IsAnswerAt trees p x (level + 1) point answer
asked-answered trees p limit g level point m s q r ids answer h span at places list answered x there =
    let low = h.spot.low in
    let f = level-span trees p limit g level m s h.game low span in
    let may = may-ask trees p limit g level point m (span_of s) f.0 q h f.1 at in
    let given = subst (λ (ns : List ℕ). IsAsked trees p (entries_in trees g.entries) limit (map tally_of g.queries.items) q ns point (level + 1) m) (sym places) may in
    let here : Some r ≡ Some x = sym (set-here g.queries.items (level - 1) q r at) ∙ there in
    let same : q.list.items ≡ x.list.items = sym list ∙ ap (λ (y : Query). y.list.items) (same_Some r x here) in
    subst (λ (ns : List ℕ). IsAnswer (named trees ns) (sorts_below p (level + 1)) point answer) same
    (answered p (entries_in trees g.entries) limit (map tally_of g.queries.items) given)

-- what the query of a level's block has
pub stands-above : (trees : List Tree) (p : Problem) (entries : List Entry) (limit level : ℕ) (q : Query) (b : Block) → 1 ≤ level → BlockAt p level b → IsQueryAt trees p entries limit (level - 1) q → StandsForQuery p entries (other b.owner) (level + 1) (named trees q.list.items)
stands-above trees p entries limit level q b low at h =
    let up : level - 1 + 2 ≡ level + 1 = omega (arith, low) in
    subst (λ (w : Quantifier). StandsForQuery p entries w (level + 1) (named trees q.list.items)) (h.opponent b at)
    (subst (λ (k : ℕ). StandsForQuery p entries (quantifier_of q.winner) k (named trees q.list.items)) up h.list)

pub if-ok : {A E : Type 0} (r : Result A E) {P Q : A → Type 0} → ((x : A) → P x → Q x) → IfOk r P → IfOk r Q
if-ok (Ok x) f h = f x h
if-ok (Err e) f h = h

pub on-ok : {A E P Q : Type 0} (r : Result A E) → (P → Q) → OnOk r P → OnOk r Q
on-ok (Ok x) f h = f h
on-ok (Err e) f h = h
