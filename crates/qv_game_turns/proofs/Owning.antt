-- The later region that an owner's values lead to, and the entry that comes of it.
use Rattle.std.proofs.Common.{◌≡◌, ℕ, zero, suc, ◌+◌, ◌≤◌, Option, Some, None, List, [], ◌∷◌, ◌++◌, length, map, take, drop, slice_get, refl, sym, ap, ◌∙◌, subst, arith}
use Rattle.std.specs.Prelude.{IsSomeAnd, option_to_list}
use Rattle.std.specs.List.{All, AllByRecursion}
use Rattle.std.proofs.lemmas.List.{drop-map, take-append-drop, take-map}
use Rattle.std.proofs.lemmas.List.Elements.{All-from_recursion}
use Rattle.qv_words.specs.declared.sort.Sort.{Sort}
use Rattle.qv_words.specs.declared.sort.Sort.TheVariants.{Bool as BoolSort}
use Rattle.qv_words.specs.declared.word.Word.{Word}
use Rattle.qv_words.specs.Word.{sorts_of, values_of, word_sort, word_value}
use Rattle.qv_words.specs.Tree.{Tree}
use Rattle.qv_words.specs.Sorted.{constants_of, free_levels}
use Rattle.qv_words.specs.Values.{HasWords}
use Rattle.qv_words.specs.Choice.{AreChosen, IsTrueAt}
use Rattle.qv_words.specs.Problem.{Place, Problem, Quantifier}
use Rattle.qv_words.specs.Skolem.{IsTermOf}
use Rattle.qv_words.specs.Linked.{Block, Entry, blocks_of, entries_of, last_region, places_below, with_terms}
use Rattle.qv_words.specs.GameLaws.{IsProblem}
use Rattle.qv_words.proofs.Elements.{drop-front, get-map, get-take, some-and}
use Rattle.qv_game_laws.proofs.Each.{each-entry}
use Rattle.qv_game_laws.proofs.Points.{below-is}
use Rattle.qv_game_laws.proofs.Steps.{Before, before, before-last, region-of}
use Rattle.qv_game_laws.proofs.Terms.{IsOf, each-leaf, over-leaves, term-from_over}
use Rattle.qv_game_entry_laws.specs.BuildingLaws.{IsSimplified}
use Rattle.qv_meter.specs.Played.{FollowsForced, IsPlayed, IsUndecided}
use Rattle.qv_meter.specs.Queries.{block_count}
use Rattle.qv_meter.proofs.Fresh.{linked}
use Rattle.qv_game_play_laws.specs.PlayLaws.{LeadsOn, MayMove, sorts_below}
use Rattle.qv_game_play_laws.proofs.Moves.{owned-is_played}
use Rattle.qv_game_turns.specs.Moves.{IsLater, IsLed}
use Rattle.qv_game_state.specs.Spots.{IsOutside}
use Rattle.qv_game_state.specs.Spans.{Span}
use Rattle.qv_game_state.proofs.Opening.{last-of}
use Rattle.qv_game_state.proofs.Levels.{IsLevel, front-sorts, point-count, point-typed, sorts-count, words-typed}

abbrev pub NextPlaces : Problem → ℕ → Tree → Type 0
NextPlaces p level t = IsOf (Before p (places_below (blocks_of p.prefix) (level + 1))) BoolSort t

-- it is a formula over the places of the next level
pub later-over : (p : Problem) (entries : List Entry) (level : ℕ) (owner : Quantifier) (link : Option ℕ) (point : List ℕ) (later : Tree) → IsProblem p → IsPlayed p entries → IsLed p entries level owner link point → IsLater p entries owner link later → NextPlaces p level later
later-over p entries level owner None point later problem played led is =
    let all : length p.prefix ≡ places_below (blocks_of p.prefix) (level + 1) =
    sym (before-last p) ∙ ap (before p) (sym led.0) ∙ sym (below-is (blocks_of p.prefix) (level + 1) level (omega arith)) in
    subst (NextPlaces p level) (sym is) (subst (λ (n : ℕ). IsOf (Before p n) BoolSort (last_region p owner)) all (last-of p problem owner))
later-over p entries level owner (Some n) point later problem played led is =
    let f = led.1 in
    let high = led.4 in
    let next : f.level ≡ suc level = omega (arith, high) in
    let region = region-of p f level next (each-entry p entries n f (linked p [] entries played) led.2).region in
    let places : before p level ≡ places_below (blocks_of p.prefix) (level + 1) = sym (below-is (blocks_of p.prefix) (level + 1) level (omega arith)) in
    subst (NextPlaces p level) (sym (is f led.2)) (subst (λ (k : ℕ). IsOf (Before p k) BoolSort f.region) places region)

pub later-term : (p : Problem) (level : ℕ) (later : Tree) → NextPlaces p level later → IsTermOf later BoolSort
later-term p level later h = term-from_over (Before p (places_below (blocks_of p.prefix) (level + 1))) BoolSort later h

-- a point of the next level has a word for each of its variables
word-at : (p : Problem) (n : ℕ) (point : List Word) (l : ℕ) (s : Sort) → sorts_of point ≡ map (λ (place : Place). place.sort) (take n p.prefix) → Before p n l s → IsSomeAnd (slice_get point l) (λ w. word_sort w ≡ s)
word-at p n point l s sorts h =
    let place = some-and (slice_get p.prefix l) (λ (x : Place). x.sort ≡ s) h.1 in
    let there : slice_get (sorts_of point) l ≡ Some s =
    ap (λ (ss : List Sort). slice_get ss l) sorts ∙ get-map (λ (x : Place). x.sort) (take n p.prefix) l place.0 (get-take p.prefix n l place.0 h.0 place.1) ∙ ap Some place.2 in
    back point l s there
  where
    back : (ws : List Word) (l : ℕ) (s : Sort) → slice_get (sorts_of ws) l ≡ Some s → IsSomeAnd (slice_get ws l) (λ w. word_sort w ≡ s)
    back [] l s e = absurd (cc)
    back (w ∷ ws) zero s e = let same : word_sort w ≡ s = cc in same
    back (w ∷ ws) (suc l) s e = back ws l s e

pub later-words : (p : Problem) (level : ℕ) (later : Tree) (point : List Word) → sorts_of point ≡ sorts_below p (level + 1) → NextPlaces p level later → HasWords [] point later
later-words p level later point sorts h =
    let n = places_below (blocks_of p.prefix) (level + 1) in
    let none = (later-term p level later h).constant_free in
    let Given : ℕ × Sort → Type 0 = λ leaf. IsSomeAnd (slice_get {X = Word} [] leaf.0) (λ w. word_sort w ≡ leaf.1) in
    record {
      constants = All-from_recursion Given (constants_of later) (subst (AllByRecursion Given) (sym none) tt);
      levels = All-from_recursion (λ (leaf : ℕ × Sort). IsSomeAnd (slice_get point leaf.0) (λ w. word_sort w ≡ leaf.1)) (free_levels later)
          (each-leaf (λ (leaf : ℕ × Sort). IsSomeAnd (slice_get point leaf.0) (λ w. word_sort w ≡ leaf.1)) (Before p n) (λ l s k. word-at p n point l s sorts k) (free_levels later) (over-leaves (Before p n) later h.0));
    }

pub later-holds : (p : Problem) (entries : List Entry) (level : ℕ) (owner : Quantifier) (link : Option ℕ) (point : List ℕ) (later : Tree) → IsLed p entries level owner link point → IsLater p entries owner link later → IsTrueAt point later
later-holds p entries level owner None point later led is = subst (IsTrueAt point) (sym is) led.1
later-holds p entries level owner (Some n) point later led is = subst (IsTrueAt point) (sym (is led.1 led.2)) led.5

leads-on : (p : Problem) (entries : List Entry) (level : ℕ) (owner : Quantifier) (link : Option ℕ) (point : List ℕ) (later : Tree) (links : List ℕ) → IsLed p entries level owner link point → IsLater p entries owner link later → links ≡ option_to_list link → LeadsOn p entries level owner links later
leads-on p entries level owner None point later links led is to = record { last = λ e. (to, is); linked = λ other. absurd (other led.0) }
leads-on p entries level owner (Some n) point later links led is to = record {
  last = λ e. absurd (led.0 e);
  linked = λ other. (n, led.1, to, led.2, led.3, led.4, is led.1 led.2);
}

-- what an owner's entry is made of
pub record IsTakenAt (p : Problem) (entries : List Entry) (level : ℕ) (s : Span) (b : Block) (link : Option ℕ) (point front : List Word) (later region : Tree) (terms : List Tree) (links : List ℕ) : Type 0 where
  pub problem : IsProblem p
  pub played : IsPlayed p entries
  pub undecided : IsUndecided entries
  pub follows : FollowsForced p entries links
  pub low : 1 ≤ level
  pub high : level ≤ block_count p
  pub sorts : sorts_of point ≡ sorts_below p (level + 1)
  pub outside : IsOutside p entries (values_of point) level
  pub at : IsLevel p level s b
  pub led : IsLed p entries level b.owner link (values_of point)
  pub later_is : IsLater p entries b.owner link later
  pub links_are : links ≡ option_to_list link
  pub chosen : AreChosen s.first (length point) (values_of point) later s.first (drop s.first (sorts_of point)) terms
  pub simplified : IsSimplified region (with_terms s.first terms later)
  pub front_is : front ≡ take s.first point

pub taken-played : (p : Problem) (entries : List Entry) (level : ℕ) (s : Span) (b : Block) (link : Option ℕ) (point front : List Word) (later region : Tree) (terms : List Tree) (links : List ℕ) → IsTakenAt p entries level s b link point front later region terms links → IsPlayed p (entries ++ record { level = level; winner = b.owner; region = region; point = values_of front; terms = terms; links = links } ∷ [])
taken-played p entries level s b link point front later region terms links h =
    let n = places_below (blocks_of p.prefix) level in
    let first : s.first ≡ n = h.at.first in
    let low = h.low in
    let count : length point ≡ n + length b.sorts = (
    let all = point-count p (level + 1) point (omega arith) h.sorts in
    let end = h.at.end in
    let sum = h.at.sum in
    omega (arith, all, end, sum, first)) in
    let fronts : values_of front ≡ take n (values_of point) = ap values_of h.front_is ∙ sym (take-map word_value s.first point) ∙ ap (λ (k : ℕ). take k (values_of point)) first in
    let values = values_of (drop n point) in
    let whole : values_of front ++ values ≡ values_of point =
    ap (λ (vs : List ℕ). vs ++ values) fronts ∙ ap (λ (vs : List ℕ). take n (values_of point) ++ vs) (sym (drop-map word_value n point)) ∙ take-append-drop n (values_of point) in
    let rest : sorts_of (drop n point) ≡ b.sorts =
    sym (drop-map word_sort n point) ∙ ap (drop n) (h.sorts ∙ h.at.sorts)
    ∙ drop-front (sorts_below p level) b.sorts 0 n (let size = sorts-count p level low in omega (arith, size)) in
    let own_front : sorts_of front ≡ sorts_below p level =
    ap sorts_of (h.front_is ∙ ap (λ (k : ℕ). take k point) first) ∙ front-sorts p level (level + 1) point low (omega arith) h.sorts in
    let move : MayMove p entries level b.owner (values_of front) = record {
      problem = h.problem;
      played = h.played;
      undecided = h.undecided;
      low = low;
      high = h.high;
      point_of = point-typed p level front own_front;
      outside = subst (λ (vs : List ℕ). All (λ f. IsTrueAt vs f.region → ⊥) (entries_of level b.owner entries)) (sym fronts) (h.outside b.owner);
    } in
    let taken : drop s.first (sorts_of point) ≡ b.sorts = ap (λ (k : ℕ). drop k (sorts_of point)) first ∙ drop-map word_sort n point ∙ rest in
    let chosen : AreChosen n (n + length b.sorts) (values_of front ++ values) later n b.sorts terms =
    subst (λ (vs : List ℕ). AreChosen n (n + length b.sorts) vs later n b.sorts terms) (sym whole)
    (subst (λ (ss : List Sort). AreChosen n (n + length b.sorts) (values_of point) later n ss terms) taken
    (subst (λ (k : ℕ). AreChosen n k (values_of point) later n (drop s.first (sorts_of point)) terms) count
    (subst (λ (k : ℕ). AreChosen k (length point) (values_of point) later k (drop s.first (sorts_of point)) terms) first h.chosen))) in
    owned-is_played p entries level b.owner b (values_of front) values later region terms links move h.follows h.at.numbered refl
    (leads-on p entries level b.owner link (values_of point) later links h.led h.later_is h.links_are)
    (words-typed (drop n point) b.sorts rest)
    (subst (λ (vs : List ℕ). IsTrueAt vs later) (sym whole) (later-holds p entries level b.owner link (values_of point) later h.led h.later_is))
    chosen
    (subst (λ (k : ℕ). IsSimplified region (with_terms k terms later)) first h.simplified)
