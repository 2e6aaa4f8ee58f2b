-- Where play goes on.
use Rattle.std.proofs.Common.{◌≡◌, ◌⊎◌, ℕ, zero, suc, ◌+◌, ◌-◌, ◌≤◌, ◌<◌, ◌==◌, true, false, Option, Some, None, List, [], ◌∷◌, ◌++◌, length, map, take, slice_get, inl, inr, refl, sym, ap, ◌∙◌, subst, arith}
use Rattle.std.specs.Prelude.{IsSomeAnd, option_to_list}
use Rattle.std.specs.List.{All, AllByRecursion}
use Rattle.std.proofs.lemmas.Option.{same_Some}
use Rattle.std.proofs.lemmas.Bool.{and_parts, cases_Bool, eq-eqb, eqb-true}
use Rattle.std.proofs.lemmas.List.{length-append, length-map, map-append, take_all}
use Rattle.std.proofs.lemmas.List.Elements.{All-from_recursion, recursion_from_All}
use Rattle.qv_words.specs.declared.word.Word.{Word}
use Rattle.qv_words.specs.Word.{sorts_of, values_of, word_value}
use Rattle.qv_words.specs.Tree.{Tree}
use Rattle.qv_words.specs.Choice.{IsTrueAt}
use Rattle.qv_words.specs.Problem.{Problem, Quantifier, Existential, Universal, other}
use Rattle.qv_words.specs.Linked.{Block, Entry, HoldsFirst, IsRegion, block_numbered, blocks_of, entries_of, is_of, last_region, places_below, same_quantifier}
use Rattle.qv_words.specs.GameLaws.{IsProblem}
use Rattle.qv_words.proofs.Elements.{found-at, get-map, of-some, pushed-last, some-and}
use Rattle.qv_words.specs.declared.sort.Sort.TheVariants.{Bool as BoolSort}
use Rattle.qv_game_laws.proofs.Points.{below-is}
use Rattle.qv_game_laws.proofs.Steps.{Before, before, region-of}
use Rattle.qv_game_laws.proofs.Terms.{IsOf}
use Rattle.qv_store.specs.Nodes.{tree_at}
use Rattle.qv_store.specs.Stores.{Grows}
use Rattle.qv_store.specs.declared.problem.Problem.{Problem as Posed}
use Rattle.qv_meter.proofs.Fresh.{last-entry, linked}
use Rattle.qv_meter.proofs.Following.{follows-newest, not-forced, owned-before, settled-follows, settled-owned}
use Rattle.qv_game_laws.proofs.Each.{each-entry, same-quantifier}
use Rattle.qv_store.specs.Problems.{problem_in, quantifier_of, IsPosedIn}
use Rattle.qv_store.specs.declared.problem.Quant.{Quant}
use Rattle.qv_entries.specs.Rows.{Row, IsRowIn, entries_in, entry_in, is_row_of, regions_of}
use Rattle.qv_entries.specs.Holding.{HoldsAt, IsAskable}
use Rattle.qv_meter.specs.Played.{FollowsForced, IsPlayed, IsSettled, IsUndecided, WasForced}
use Rattle.qv_meter.specs.Queries.{StandsForQuery, block_count}
use Rattle.qv_meter.specs.Records.{Metering}
use Rattle.qv_game_play_laws.specs.PlayLaws.{sorts_below}
use Rattle.qv_game_play_laws.proofs.Queries.{answers-lie_outside}
use Rattle.qv_game_lanes.specs.Asking.{MakeTrue}
use Rattle.qv_game_state.specs.declared.game.Game.{Game}
use Rattle.qv_game_turns.specs.declared.turns.Turn.{Turn}
use Rattle.qv_game_turns.specs.declared.turns.Turn.TheVariants.{Over, On}
use Rattle.qv_game_state.specs.Entering.{IsEntered}
use Rattle.qv_game_turns.specs.Moves.{IsForcedIn, IsLed}
use Rattle.qv_game_state.specs.Playing.{IsGame, IsPlaying}
use Rattle.qv_game_state.specs.Spans.{Span, span_of, spans_from}
use Rattle.qv_game_state.specs.Spots.{BlockAt, IsOutside, IsSpot}
use Rattle.qv_game_turns.specs.Turns.{IsCloser, IsTurn, IsUp, MayWin}
use Rattle.qv_game_state.specs.declared.spans.Span.{Span as Kept}
use Rattle.qv_game_state.proofs.Counting.{at-or_not}
use Rattle.qv_game_state.proofs.Keeping.{entries-stay, posed-in_stays, posed-stays}
use Rattle.qv_game_turns.proofs.Owning.{NextPlaces, later-term, later-words}
use Rattle.qv_game_state.proofs.Blocks.{spans-count, same-self}
use Rattle.qv_game_state.proofs.Entered.{with-row}
use Rattle.qv_game_state.proofs.Entering.{outside-more, outside-with, undecided-with}
use Rattle.qv_game_state.proofs.Levels.{level-of, longer-sorts, places-rise, point-count, point-typed}
use Rattle.qv_game_state.proofs.Asking.{level-span, span-within}
use Rattle.qv_game_turns.proofs.Spots.{next-spot, upper-spot}

-- a point at or behind a level, whose fronts for the earlier levels lie in none of their regions
pub record IsAround (p : Problem) (entries : List Entry) (level n : ℕ) (point : List Word) : Type 0 where
  pub low : 1 ≤ level
  pub high : level ≤ block_count p
  pub longer : level ≤ n
  pub sorts : sorts_of point ≡ sorts_below p n
  pub outside : (k : ℕ) → 1 ≤ k → k ≤ level - 1 → IsOutside p entries (values_of point) k

held : (entries : List Entry) (e : Entry) → e.level ≡ 1 → HoldsFirst e.winner (entries ++ e ∷ [])
held [] e at =
    let here : (e.level == 1) ≡ true = eq-eqb e.level 1 at in
    let is : is_of 1 e.winner e ≡ true = rw (here, same-self e.winner) refl in
    rw is refl
held (f ∷ entries) e at = elim (cases_Bool (is_of 1 e.winner f)) [
  | inl y ↦ rw y refl
  | inr n ↦ rw n (held entries e at)
]

pub risen : (trees : List Tree) (p : Problem) (limit : ℕ) (old g : Game) (level n : ℕ) (winner : Quant) (point : List Word) (m : Metering) (t : Turn) → (h : IsEntered trees p limit old g level (quantifier_of winner) m) → ((level ≡ 1 → ⊥) → WasForced p (entry_in trees h.row) → ⊥) → IsUndecided (entries_in trees old.entries) → IsAround p (entries_in trees old.entries) level n point → IsUp (map span_of g.spans.items) level winner point t → IsTurn trees p limit g m t
risen trees p limit old g level n winner point m (Over w) h owned undecided around up =
    let entries = entries_in trees old.entries in
    let e = entry_in trees h.row in
    let all : entries_in trees g.entries ≡ entries ++ e ∷ [] = ap (entries_in trees) h.rows ∙ with-row trees old.entries h.row in
    let first : HoldsFirst e.winner (entries ++ e ∷ []) = held entries e (h.level_is ∙ up.0) in
    let who : e.winner ≡ quantifier_of w = h.winner_is ∙ ap quantifier_of (sym up.1) in
    (h.game, subst (λ (es : List Entry). HoldsFirst (quantifier_of w) es) (sym all) (subst (λ (q : Quantifier). HoldsFirst q (entries ++ e ∷ [])) who first))
risen trees p limit old g level n winner point m (On spot) h owned undecided around up =
    let entries = entries_in trees old.entries in
    let e = entry_in trees h.row in
    let all : entries_in trees g.entries ≡ entries ++ e ∷ [] = ap (entries_in trees) h.rows ∙ with-row trees old.entries h.row in
    let low = around.low in
    let high = around.high in
    let next = up.1 in
    let two : 2 ≤ level = elim (at-least level low) [ inl one ↦ absurd (up.0 one) | inr more ↦ more ] in
    let count : length (map span_of g.spans.items) ≡ block_count p = ap length h.game.spans ∙ spans-count 0 (blocks_of p.prefix) in
    let s = found-at (map span_of g.spans.items) (spot.level - 1) (omega (arith, count, next, high, two)) in
    let at : slice_get (spans_from 0 (blocks_of p.prefix)) (spot.level - 1) ≡ Some s.0 = ap (λ (ss : List Span). slice_get ss (spot.level - 1)) (sym h.game.spans) ∙ s.1 in
    let is = (level-of p spot.level s.0 (omega (arith, next, two)) at).1 in
    let back : spot.level ≡ level - 1 = omega (arith, next) in
    let front : spot.point.items ≡ take (places_below (blocks_of p.prefix) (level - 1)) point =
    up.2 s.0 s.1 ∙ ap (λ (k : ℕ). take k point) (is.first ∙ ap (places_below (blocks_of p.prefix)) back) in
    let upper = upper-spot p entries e level point spot.point.items two high h.level_is around.outside n around.longer around.sorts front in
    record {
      game = h.game;
      undecided = subst IsUndecided (sym all) (undecided-with entries e undecided (λ one. let is_level = h.level_is in omega (arith, one, is_level, two)));
      settled = subst (IsSettled p) (sym all) (settled-owned p entries e (owned up.0));
      spot = subst (λ (es : List Entry). IsSpot p es spot.level spot.point.items) (sym all)
          (subst (λ (k : ℕ). IsSpot p (entries ++ e ∷ []) k spot.point.items) (sym back) upper);
    }
  where
    at-least : (k : ℕ) → 1 ≤ k → (k ≡ 1) ⊎ (2 ≤ k)
    at-least zero h = absurd (omega (arith, h))
    at-least (suc zero) h = inl refl
    at-least (suc (suc k)) h = inr (omega arith)

-- behind a move there is an entry more
pub closer : (before level after : ℕ) (t : Turn) → before < after → IsCloser before level after t
closer before level after (Over w) h = tt
closer before level after (On spot) h = inl h

other-twice : (q : Quantifier) → other (other q) ≡ q
other-twice Existential = refl
other-twice Universal = refl

own-or_other : (q w : Quantifier) → (w ≡ q) ⊎ (w ≡ other q)
own-or_other Existential Existential = inl refl
own-or_other Existential Universal = inr refl
own-or_other Universal Existential = inr refl
own-or_other Universal Universal = inl refl

-- the values that a block's owner was answered, by formulas that stand for the query list
pub record IsLeading (p : Problem) (entries : List Entry) (level : ℕ) (b : Block) (point values : List Word) : Type 0 where
  pub problem : IsProblem p
  pub played : IsPlayed p entries
  pub spot : IsSpot p entries level point
  pub at : BlockAt p level b
  pub formulas : List Tree
  pub stands : StandsForQuery p entries (other b.owner) (level + 1) formulas
  pub makes : MakeTrue formulas (sorts_below p (level + 1)) point values

pub leading-sorts : (p : Problem) (entries : List Entry) (level : ℕ) (b : Block) (point values : List Word) → IsLeading p entries level b point values → sorts_of (point ++ values) ≡ sorts_below p (level + 1)
leading-sorts p entries level b point values h = longer-sorts p level b point values h.spot.low h.at h.spot.sorts h.makes.sorts_are

-- so they lie outside
leading-outside : (p : Problem) (entries : List Entry) (level : ℕ) (b : Block) (point values : List Word) → IsLeading p entries level b point values →
    (level + 1 ≡ block_count p + 1 → IsTrueAt (values_of (point ++ values)) (last_region p (other (other b.owner))))
    × ((level + 1 ≡ block_count p + 1 → ⊥) → All (λ f. IsTrueAt (values_of (point ++ values)) f.region → ⊥) (entries_of (level + 1) (other b.owner) entries))
leading-outside p entries level b point values h =
    answers-lie_outside p entries (other b.owner) (level + 1) (values_of (point ++ values)) h.formulas h.problem h.played
    (point-typed p (level + 1) (point ++ values) (leading-sorts p entries level b point values h)) h.stands
    (subst (λ (vs : List ℕ). All (IsTrueAt vs) h.formulas) (sym (map-append word_value point values)) h.makes.each)

-- behind the last block its owner has won
pub last-led : (p : Problem) (entries : List Entry) (level : ℕ) (b : Block) (point values : List Word) → IsLeading p entries level b point values → level ≡ block_count p → IsLed p entries level b.owner None (values_of (point ++ values))
last-led p entries level b point values h last =
    let won = (leading-outside p entries level b point values h).0 (omega (arith, last)) in
    (last, subst (λ (q : Quantifier). IsTrueAt (values_of (point ++ values)) (last_region p q)) (other-twice b.owner) won)

-- and so it has in an earlier region of its own
pub held-led : (p : Problem) (entries : List Entry) (level n : ℕ) (b : Block) (point : List ℕ) → (level ≡ block_count p → ⊥) → IsSomeAnd (slice_get entries n) (HoldsAt (level + 1) b.owner point) → IsLed p entries level b.owner (Some n) point
held-led p entries level n b point inner h =
    let f = some-and (slice_get entries n) (HoldsAt (level + 1) b.owner point) h in
    let parts = and_parts (f.0.level == level + 1) (same_quantifier f.0.winner b.owner) f.2.0 in
    (inner, f.0, f.1, same-quantifier f.0.winner b.owner parts.1, eqb-true f.0.level (level + 1) parts.0, f.2.1)

-- elsewhere the point lies in no region of the next level
none-held : (level : ℕ) (q : Quantifier) (point : List ℕ) (entries : List Entry) → AllByRecursion (λ e. HoldsAt level q point e → ⊥) entries → AllByRecursion (λ (f : Entry). IsTrueAt point f.region → ⊥) (entries_of level q entries)
none-held level q point [] h = tt
none-held level q point (e ∷ entries) h = elim (cases_Bool (is_of level q e)) [
  | inl y ↦ rw y (λ holds. h.0 (y, holds), none-held level q point entries h.1)
  | inr n ↦ rw n (none-held level q point entries h.1)
]

pub next-outside : (p : Problem) (entries : List Entry) (level : ℕ) (b : Block) (point values : List Word) → IsLeading p entries level b point values → level + 1 ≤ block_count p → All (λ e. HoldsAt (level + 1) b.owner (values_of (point ++ values)) e → ⊥) entries → IsOutside p entries (values_of (point ++ values)) (level + 1)
next-outside p entries level b point values h high none winner =
    let vs = values_of (point ++ values) in
    let count : length (point ++ values) ≡ places_below (blocks_of p.prefix) (level + 1) = point-count p (level + 1) (point ++ values) (omega arith) (leading-sorts p entries level b point values h) in
    let whole : take (places_below (blocks_of p.prefix) (level + 1)) vs ≡ vs = take_all (places_below (blocks_of p.prefix) (level + 1)) vs (let many = length-map (point ++ values) word_value in omega (arith, count, many)) in
    subst (λ (us : List ℕ). All (λ f. IsTrueAt us f.region → ⊥) (entries_of (level + 1) winner entries)) (sym whole) (elim (own-or_other b.owner winner) [
      | inl own ↦
          subst (λ (q : Quantifier). All (λ f. IsTrueAt vs f.region → ⊥) (entries_of (level + 1) q entries)) (sym own)
          (All-from_recursion (λ (f : Entry). IsTrueAt vs f.region → ⊥) (entries_of (level + 1) b.owner entries)
          (none-held (level + 1) b.owner vs entries (recursion_from_All (λ e. HoldsAt (level + 1) b.owner vs e → ⊥) entries none)))
      | inr away ↦
          subst (λ (q : Quantifier). All (λ f. IsTrueAt vs f.region → ⊥) (entries_of (level + 1) q entries)) (sym away)
          ((leading-outside p entries level b point values h).1 (λ e. omega (arith, e, high)))
    ])

-- the owner of a level's block has won
pub entered-longer : (trees : List Tree) (p : Problem) (limit : ℕ) (old g : Game) (level : ℕ) (winner : Quantifier) (m : Metering) → IsEntered trees p limit old g level winner m → length old.entries < length g.entries
entered-longer trees p limit old g level winner m h =
    let count = ap length h.rows in
    let more = length-append old.entries (h.row ∷ []) in
    omega (arith, count, more)

pub win-turn : (old new : List Tree) (posed : Posed) (p : Problem) (limit : ℕ) (g next : Game) (level : ℕ) (link : Option ℕ) (point : List Word) (m after : Metering) (s : Kept) (t : Turn) → MayWin old posed p limit g level link point m → slice_get g.spans.items (level - 1) ≡ Some s → Grows old new → ((b : Block) → BlockAt p level b → IsEntered new p limit g next level b.owner after) → IsUp (map span_of next.spans.items) level s.owner point t → IsTurn new p limit next after t
win-turn old new posed p limit g next level link point m after s t h span grows entered up =
    let own = h.own in
    let f = level-span old p limit g level m s own.game own.low span in
    let same = entries-stay old new g.entries grows own.game.rows in
    let mine : IsEntered new p limit g next level (quantifier_of s.owner) after = subst (λ (q : Quantifier). IsEntered new p limit g next level q after) (sym f.1.owner) (entered f.0 f.1.at) in
    let around : IsAround p (entries_in new g.entries) level (level + 1) point = record {
      low = own.low;
      high = own.high;
      longer = omega arith;
      sorts = own.sorts;
      outside = λ k from to. subst (λ (es : List Entry). IsOutside p es (values_of point) k) (sym same) (h.outside k from to);
    } in
    let mine-at : block_numbered (blocks_of p.prefix) (entry_in new mine.row).level ≡ Some f.0 = ap (block_numbered (blocks_of p.prefix)) mine.level_is ∙ f.1.numbered in
    risen new p limit g next level (level + 1) s.owner point after t mine (λ _. not-forced p (entry_in new mine.row) f.0 mine-at (mine.winner_is ∙ f.1.owner)) (subst IsUndecided (sym same) own.undecided) around up

-- a block's owner leads on
abbrev Leads : List Tree → Problem → Game → ℕ → Block → List Word → List Word → Type 0
Leads trees p g level b point values = IsLeading p (entries_in trees g.entries) level b point values

may-win : (trees : List Tree) (posed : Posed) (p : Problem) (limit : ℕ) (g : Game) (level : ℕ) (link : Option ℕ) (point values : List Word) (b : Block) (m : Metering) → IsPosedIn trees posed → problem_in trees posed ≡ p → IsPlaying trees p limit g level point m → Leads trees p g level b point values → IsLed p (entries_in trees g.entries) level b.owner link (values_of (point ++ values)) → MayWin trees posed p limit g level link (point ++ values) m
may-win trees posed p limit g level link point values b m posed_in is h leads led =
    let entries = entries_in trees g.entries in
    let low = h.spot.low in
    let parts : values_of (point ++ values) ≡ values_of point ++ values_of values = map-append word_value point values in
    let count : length (values_of point) ≡ places_below (blocks_of p.prefix) level = length-map point word_value ∙ point-count p level point low h.spot.sorts in
    let out : (k : ℕ) → 1 ≤ k → k ≤ level → IsOutside p entries (values_of (point ++ values)) k = λ k from to.
    let rise = places-rise (blocks_of p.prefix) k level from to in
    subst (λ (vs : List ℕ). IsOutside p entries vs k) (sym parts) (outside-more p entries (values_of point) (values_of values) k (omega (arith, rise, count)) (h.spot.outside k from to)) in
    record {
      own = record {
        posed_in = posed_in;
        is = is;
        game = h.game;
        undecided = h.undecided;
        follows = settled-follows p entries (option_to_list link) h.settled;
        low = low;
        high = h.spot.high;
        sorts = leading-sorts p entries level b point values leads;
        outside = out level low (omega arith);
        led = λ d at.
            let same : b ≡ d = same_Some b d (sym leads.at ∙ at) in
            subst (λ (x : Block). IsLed p entries level x.owner link (values_of (point ++ values))) same led;
      };
      outside = λ k from to. out k from (omega (arith, to));
    }

pub lead-last : (trees : List Tree) (posed : Posed) (p : Problem) (limit : ℕ) (g : Game) (level : ℕ) (point values longer : List Word) (b : Block) (m : Metering) → IsPosedIn trees posed → problem_in trees posed ≡ p → IsPlaying trees p limit g level point m → Leads trees p g level b point values → longer ≡ point ++ values → level ≡ block_count p → MayWin trees posed p limit g level None longer m
lead-last trees posed p limit g level point values longer b m posed_in is h leads same last =
    subst (λ (ws : List Word). MayWin trees posed p limit g level None ws m) (sym same)
    (may-win trees posed p limit g level None point values b m posed_in is h leads (last-led p (entries_in trees g.entries) level b point values leads last))

pub lead-held : (trees : List Tree) (posed : Posed) (p : Problem) (limit : ℕ) (g : Game) (level n : ℕ) (point values longer : List Word) (b : Block) (m : Metering) → IsPosedIn trees posed → problem_in trees posed ≡ p → IsPlaying trees p limit g level point m → Leads trees p g level b point values → longer ≡ point ++ values → (level ≡ block_count p → ⊥) → IsSomeAnd (slice_get (entries_in trees g.entries) n) (HoldsAt (level + 1) b.owner (values_of longer)) → MayWin trees posed p limit g level (Some n) longer m
lead-held trees posed p limit g level n point values longer b m posed_in is h leads same inner holds =
    subst (λ (ws : List Word). MayWin trees posed p limit g level (Some n) ws m) (sym same)
    (may-win trees posed p limit g level (Some n) point values b m posed_in is h leads
    (held-led p (entries_in trees g.entries) level n b (values_of (point ++ values)) inner (subst (λ (ws : List Word). IsSomeAnd (slice_get (entries_in trees g.entries) n) (HoldsAt (level + 1) b.owner (values_of ws))) same holds)))

pub lead-on : (trees : List Tree) (p : Problem) (limit : ℕ) (g : Game) (level : ℕ) (point values longer : List Word) (b : Block) (m : Metering) → IsPlaying trees p limit g level point m → Leads trees p g level b point values → longer ≡ point ++ values → (level ≡ block_count p → ⊥) → All (λ e. HoldsAt (level + 1) b.owner (values_of longer) e → ⊥) (entries_in trees g.entries) → IsPlaying trees p limit g (level + 1) longer m
lead-on trees p limit g level point values longer b m h leads same inner none =
    let entries = entries_in trees g.entries in
    let high = h.spot.high in
    let less : level + 1 ≤ block_count p = below-not level (block_count p) high inner in
    let sorts = leading-sorts p entries level b point values leads in
    let given = subst (λ (ws : List Word). All (λ e. HoldsAt (level + 1) b.owner (values_of ws) e → ⊥) entries) same none in
    subst (λ (ws : List Word). IsPlaying trees p limit g (level + 1) ws m) (sym same) (record {
      game = h.game;
      undecided = h.undecided;
      settled = h.settled;
      spot = next-spot p entries level (record { owner = b.owner; first = 0; end = 0 }) b point values h.spot less sorts (next-outside p entries level b point values leads less given);
    })
  where
    below-not : (a c : ℕ) → a ≤ c → (a ≡ c → ⊥) → a + 1 ≤ c
    below-not a c h other = elim (at-or_not a c) [ inl e ↦ absurd (other e) | inr n ↦ omega (arith, h, n) ]

-- the regions of the next level may be asked at the longer point
region-askable : (trees : List Tree) (p : Problem) (level : ℕ) (longer : List Word) (w : Quantifier) (row : Row) → IsRowIn trees row → IsRegion p (entry_in trees row) → sorts_of longer ≡ sorts_below p (level + 1) → is_row_of (level + 1) w row ≡ true → IsAskable trees longer row.region
region-askable trees p level longer w row low region sorts is =
    let parts = and_parts (row.level == level + 1) (same_quantifier row.winner w) is in
    let at : row.level ≡ level + 1 = eqb-true row.level (level + 1) parts.0 in
    let next : row.level ≡ suc level = omega (arith, at) in
    let places : before p level ≡ places_below (blocks_of p.prefix) (level + 1) = sym (below-is (blocks_of p.prefix) (level + 1) level (omega arith)) in
    let over : NextPlaces p level (tree_at trees row.region) = subst (λ (n : ℕ). IsOf (Before p n) BoolSort (tree_at trees row.region)) places (region-of p (entry_in trees row) level next region) in
    record { below = low.region; formula = later-term p level (tree_at trees row.region) over; words = later-words p level (tree_at trees row.region) longer sorts over }

by-rows : (trees : List Tree) (p : Problem) (level : ℕ) (longer : List Word) (w : Quantifier) (rows : List Row) → AllByRecursion (IsRowIn trees) rows → AllByRecursion (λ (r : Row). IsRegion p (entry_in trees r)) rows → sorts_of longer ≡ sorts_below p (level + 1) → AllByRecursion (IsAskable trees longer) (regions_of (level + 1) w rows)
by-rows trees p level longer w [] low regions sorts = tt
by-rows trees p level longer w (r ∷ rows) low regions sorts = elim (cases_Bool (is_row_of (level + 1) w r)) [
  | inl y ↦ rw y (region-askable trees p level longer w r low.0 regions.0 sorts y, by-rows trees p level longer w rows low.1 regions.1 sorts)
  | inr n ↦ rw n (by-rows trees p level longer w rows low.1 regions.1 sorts)
]

by-places : {X : Type 0} (P : X → Type 0) (xs : List X) → ((k : ℕ) (x : X) → slice_get xs k ≡ Some x → P x) → AllByRecursion P xs
by-places P [] h = tt
by-places P (x ∷ xs) h = (h 0 x refl, by-places P xs (λ k y at. h (suc k) y at))

pub lead-askable : (trees : List Tree) (p : Problem) (limit : ℕ) (g : Game) (level : ℕ) (longer : List Word) (w : Quantifier) (m : Metering) → IsGame trees p limit g m → sorts_of longer ≡ sorts_below p (level + 1) → All (IsAskable trees longer) (regions_of (level + 1) w g.entries)
lead-askable trees p limit g level longer w m h sorts =
    let linked_is = linked p [] (entries_in trees g.entries) h.played in
    let regions = by-places (λ (r : Row). IsRegion p (entry_in trees r)) g.entries (λ k r at. (each-entry p (entries_in trees g.entries) k (entry_in trees r) linked_is (get-map (entry_in trees) g.entries k r at)).region) in
    All-from_recursion (IsAskable trees longer) (regions_of (level + 1) w g.entries) (by-rows trees p level longer w g.entries (recursion_from_All (IsRowIn trees) g.entries h.rows) regions sorts)

-- behind a forced entry its player wins one level up too, since it owns the block there
pub lose-wins : (trees new : List Tree) (posed : Posed) (p : Problem) (limit : ℕ) (g next : Game) (level number : ℕ) (winner : Quant) (point : List Word) (m after : Metering) → IsPosedIn trees posed → problem_in trees posed ≡ p → IsPlaying trees p limit g level point m → Grows trees new → IsForcedIn new p limit g next level (quantifier_of winner) point number after → 2 ≤ level → IsSomeAnd (block_numbered (blocks_of p.prefix) level) (λ c. same_quantifier (quantifier_of winner) c.owner ≡ false) → MayWin new posed p limit next (level - 1) (Some number) point after
lose-wins trees new posed p limit g next level number winner point m after posed_in is h grows forced two apart =
    let row = forced.entered.row in
    let e = entry_in new row in
    let before = entries_in new g.entries in
    let stays : before ≡ entries_in trees g.entries = entries-stay trees new g.entries grows h.game.rows in
    let all : entries_in new next.entries ≡ before ++ e ∷ [] = ap (entries_in new) forced.entered.rows ∙ with-row new g.entries row in
    let level_is = forced.entered.level_is in
    let high = h.spot.high in
    let up : level ≡ level - 1 + 1 = omega (arith, two) in
    let within = span-within new p limit next level after forced.entered.game h.spot.low high in
    let s = found-at next.spans.items (level - 1 - 1) (omega (arith, within)) in
    let f = level-span new p limit next (level - 1) after s.0 forced.entered.game (omega (arith, two)) s.1 in
    let owns : IsSomeAnd (block_numbered (blocks_of p.prefix) (level - 1)) (λ b. b.owner ≡ quantifier_of winner) = owned-before p (level - 1) level (quantifier_of winner) (omega (arith, two)) up apart in
    let out : (k : ℕ) → 1 ≤ k → k ≤ level - 1 → IsOutside p (entries_in new next.entries) (values_of point) k = λ k from to.
    subst (λ (es : List Entry). IsOutside p es (values_of point) k) (sym all)
    (outside-with p before e (values_of point) k (λ at. omega (arith, at, level_is, to, two))
    (subst (λ (es : List Entry). IsOutside p es (values_of point) k) (sym stays) (h.spot.outside k from (omega (arith, to))))) in
    let played = subst (IsPlayed p) all forced.entered.game.played in
    let entry = (last-entry p [] before e played).0 in
    let holds : IsTrueAt (values_of point) e.region = subst (λ (vs : List ℕ). IsTrueAt vs e.region) forced.point_is entry.region.holds in
    let count : number ≡ length before = forced.number_is ∙ sym (length-map g.entries (entry_in new)) in
    let there : slice_get (entries_in new next.entries) number ≡ Some e =
    ap (λ (es : List Entry). slice_get es number) all ∙ ap (slice_get (before ++ e ∷ [])) count ∙ pushed-last before e in
    let who : e.winner ≡ f.0.owner = forced.entered.winner_is ∙ sym (of-some (block_numbered (blocks_of p.prefix) (level - 1)) (λ b. b.owner ≡ quantifier_of winner) f.0 f.1.numbered owns) in
    record {
      own = record {
        posed_in = posed-in_stays trees new posed grows posed_in;
        is = posed-stays trees new posed grows posed_in ∙ is;
        game = forced.entered.game;
        undecided = subst IsUndecided (sym all) (undecided-with before e (subst IsUndecided (sym stays) h.undecided) (λ one. omega (arith, one, level_is, two)));
        follows = subst (λ (es : List Entry). FollowsForced p es (number ∷ [])) (sym all) (follows-newest p before e (number ∷ []) (λ _. ap (λ (k : ℕ). k ∷ []) count));
        low = omega (arith, two);
        high = omega (arith, high);
        sorts = h.spot.sorts ∙ ap (sorts_below p) up;
        outside = out (level - 1) (omega (arith, two)) (omega arith);
        led = λ d at.
            let one : f.0 ≡ d = same_Some f.0 d (sym f.1.at ∙ at) in (
              λ last. omega (arith, last, high, two),
              e,
              there,
              who ∙ ap (λ (x : Block). x.owner) one,
              level_is ∙ up,
              holds,
            );
      };
      outside = λ k from to. out k from (omega (arith, to));
    }

pub lose-turn : (trees new : List Tree) (p : Problem) (limit : ℕ) (g next : Game) (level number : ℕ) (winner : Quant) (point : List Word) (m after : Metering) (t : Turn) → level ≡ 1 → IsPlaying trees p limit g level point m → Grows trees new → IsForcedIn new p limit g next level (quantifier_of winner) point number after → IsUp (map span_of next.spans.items) level winner point t → IsTurn new p limit next after t
lose-turn trees new p limit g next level number winner point m after t one h grows forced up =
    let stays = entries-stay trees new g.entries grows h.game.rows in
    let around : IsAround p (entries_in new g.entries) level level point = record {
      low = h.spot.low;
      high = h.spot.high;
      longer = omega arith;
      sorts = h.spot.sorts;
      outside = λ k from to. subst (λ (es : List Entry). IsOutside p es (values_of point) k) (sym stays) (h.spot.outside k from (omega (arith, to)));
    } in
    risen new p limit g next level level winner point after t forced.entered (λ other _. other one) (subst IsUndecided (sym stays) h.undecided) around up
