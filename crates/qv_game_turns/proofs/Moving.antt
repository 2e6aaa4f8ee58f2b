-- The entries that the moves make may come.
use Rattle.std.proofs.Common.{◌≡◌, ℕ, ◌+◌, ◌-◌, ◌≤◌, ◌<◌, Option, Some, None, Ok, Err, Result, List, [], ◌∷◌, ◌++◌, length, map, take, drop, slice_get, refl, sym, ap, ◌∙◌, subst, arith}
use Rattle.std.specs.Prelude.{IfOk, IfSome, OnOk, option_to_list}
use Rattle.std.specs.List.{All, AllByRecursion}
use Rattle.std.proofs.lemmas.List.{length-map}
use Rattle.std.proofs.lemmas.List.Elements.{All-from_recursion}
use Rattle.std.proofs.lemmas.Option.{same_Some, slice_get_within}
use Rattle.qv_words.specs.declared.word.Word.{Word}
use Rattle.qv_words.specs.Word.{sorts_of, values_of}
use Rattle.qv_words.specs.Tree.{Tree}
use Rattle.qv_words.specs.Choice.{AreChosen, IsTrueAt}
use Rattle.qv_words.specs.Problem.{Problem, Quantifier, conjunction, other}
use Rattle.qv_words.specs.Linked.{Block, Entry, blocks_of, with_terms}
use Rattle.qv_game_entry_laws.specs.BuildingLaws.{IsSimplified}
use Rattle.qv_store.specs.Nodes.{tree_at}
use Rattle.qv_store.specs.Problems.{problem_in, quantifier_of}
use Rattle.qv_store.specs.Stores.{Grows, StandsAt}
use Rattle.qv_store.specs.Walks.{named}
use Rattle.qv_store.specs.declared.problem.Problem.{Problem as Posed}
use Rattle.qv_entries.specs.Rows.{Row, entries_in, entry_in}
use Rattle.qv_cnf.specs.Literal.{Literal}
use Rattle.qv_meter.specs.Played.{FollowsForced, IsPlayed, IsSettled, IsUndecided}
use Rattle.qv_meter.specs.Queries.{StandsForQuery, all_links, block_count}
use Rattle.qv_meter.specs.Records.{Metering}
use Rattle.qv_game_entry_laws.specs.Fixings.{named_runs}
use Rattle.qv_game_lanes.specs.Lanes.{known_of}
use Rattle.qv_game_regions.specs.declared.run.Run.{Run}
use Rattle.qv_game_regions.specs.Runs.{fixing_at, run_of}
use Rattle.qv_game_state.specs.declared.game.Game.{Game}
use Rattle.qv_game_state.specs.declared.query.Query.{Query}
use Rattle.qv_game_state.specs.declared.spans.Span.{Span as Kept}
use Rattle.qv_game_state.specs.Entering.{IsEntered, MayEnter}
use Rattle.qv_game_turns.specs.Moves.{IsForcedIn, IsForcedRegion, MayForce, MayOwn, IsLater, IsLed, linked_to_all}
use Rattle.qv_game_state.specs.Naming.{named_by}
use Rattle.qv_game_state.specs.Playing.{IsGame}
use Rattle.qv_game_state.specs.Spans.{span_of}
use Rattle.qv_game_state.specs.Spots.{BlockAt}
use Rattle.qv_game_state.proofs.Entered.{with-row}
use Rattle.qv_game_turns.proofs.Forcing.{IsFailing, forced-played, other-not}
use Rattle.qv_game_turns.proofs.Outside.{numbered}
use Rattle.qv_game_turns.proofs.Fewer.{last-term, rows-formulas, thinned-played}
use Rattle.qv_game_links.specs.Thinning.{AreThinned, IsFormula}
use Rattle.qv_game_state.proofs.Keeping.{entries-stay, game-stays, posed-stays}
use Rattle.qv_game_state.proofs.Levels.{front-named, point-count}
use Rattle.qv_game_turns.proofs.Owning.{IsTakenAt, NextPlaces, later-holds, later-over, taken-played}
use Rattle.qv_words.proofs.Elements.{take-length}
use Rattle.qv_game_state.proofs.Blocks.{spans-count}
use Rattle.qv_game_state.proofs.Asking.{end-within, level-span}

pub on-if : {A E P : Type 0} (r : Result A E) {Q : A → Type 0} → (P → (x : A) → Q x) → OnOk r P → IfOk r Q
on-if (Ok x) f h = f h x
on-if (Err e) f h = h

pub link-within : (trees : List Tree) (p : Problem) (rows : List Row) (level : ℕ) (owner : Quantifier) (link : Option ℕ) (point : List ℕ) → IsLed p (entries_in trees rows) level owner link point → IfSome link (λ n. n < length rows)
link-within trees p rows level owner None point h = tt
link-within trees p rows level owner (Some n) point h =
    let low = slice_get_within (entries_in trees rows) n h.1 h.2 in
    let count = length-map rows (entry_in trees) in
    omega (arith, low, count)

-- the later region as it was put
pub later-is : (trees : List Tree) (posed : Posed) (p : Problem) (entries : List Entry) (s : Kept) (b : Block) (link : Option ℕ) (later : Tree) → problem_in trees posed ≡ p → quantifier_of s.owner ≡ b.owner → IsLater (problem_in trees posed) entries (quantifier_of s.owner) link later → IsLater p entries b.owner link later
later-is trees posed p entries s b link later is owner h =
    subst (λ (q : Quantifier). IsLater p entries q link later) owner (subst (λ (x : Problem). IsLater x entries (quantifier_of s.owner) link later) is h)

pub later-places : (trees : List Tree) (posed : Posed) (p : Problem) (limit : ℕ) (g : Game) (level : ℕ) (link : Option ℕ) (point : List Word) (m : Metering) (s : Kept) (later : Tree) → MayOwn trees posed p limit g level link point m → slice_get g.spans.items (level - 1) ≡ Some s → IsLater (problem_in trees posed) (entries_in trees g.entries) (quantifier_of s.owner) link later → NextPlaces p level later × IsTrueAt (values_of point) later
later-places trees posed p limit g level link point m s later h span later_in =
    let entries = entries_in trees g.entries in
    let f = level-span trees p limit g level m s h.game h.low span in
    let led = h.led f.0 f.1.at in
    let is = later-is trees posed p entries s f.0 link later h.is f.1.owner later_in in
    (later-over p entries level f.0.owner link (values_of point) later h.game.problem h.game.played led is, later-holds p entries level f.0.owner link (values_of point) later led is)

pub own-block : (trees : List Tree) (posed : Posed) (p : Problem) (limit : ℕ) (g : Game) (level : ℕ) (link : Option ℕ) (point : List Word) (m : Metering) (s : Kept) → MayOwn trees posed p limit g level link point m → slice_get g.spans.items (level - 1) ≡ Some s → s.first ≤ length point
own-block trees posed p limit g level link point m s h span =
    let f = level-span trees p limit g level m s h.game h.low span in
    let count = point-count p (level + 1) point (omega arith) h.sorts in
    let end = f.1.end in
    let sum = f.1.sum in
    omega (arith, count, end, sum)

pub own-enters : (trees new : List Tree) (posed : Posed) (p : Problem) (limit : ℕ) (g : Game) (level : ℕ) (link : Option ℕ) (point front : List Word) (m : Metering) (s : Kept) (later : Tree) (region : ℕ) (terms links : List ℕ) → MayOwn trees posed p limit g level link point m → slice_get g.spans.items (level - 1) ≡ Some s → Grows trees new → IsLater (problem_in trees posed) (entries_in trees g.entries) (quantifier_of s.owner) link later → AreChosen s.first (length point) (values_of point) later s.first (drop s.first (sorts_of point)) (named new terms) → IsSimplified (tree_at new region) (with_terms s.first (named new terms) later) → All (λ n. n < length new) terms → region < length new → links ≡ option_to_list link → front ≡ take s.first point → MayEnter new posed p limit g (record { level = level; winner = quantifier_of s.owner; region = region; point = values_of front; terms = terms; links = links }) m
own-enters trees new posed p limit g level link point front m s later region terms links h span grows later_in chosen simplified low below links_are front_is =
    let entries = entries_in trees g.entries in
    let f = level-span trees p limit g level m s h.game h.low span in
    let b = f.0 in
    let row : Row = record { level = level; winner = quantifier_of s.owner; region = region; point = values_of front; terms = terms; links = links } in
    let same = entries-stay trees new g.entries grows h.game.rows in
    let taken : IsTakenAt p entries level (span_of s) b link point front later (tree_at new region) (named new terms) links = record {
      problem = h.game.problem;
      played = h.game.played;
      undecided = h.undecided;
      follows = subst (FollowsForced p entries) (sym links_are) h.follows;
      low = h.low;
      high = h.high;
      sorts = h.sorts;
      outside = h.outside;
      at = f.1;
      led = h.led b f.1.at;
      later_is = later-is trees posed p entries s b link later h.is f.1.owner later_in;
      links_are = links_are;
      chosen = chosen;
      simplified = simplified;
      front_is = front_is;
    } in
    let played = taken-played p entries level (span_of s) b link point front later (tree_at new region) (named new terms) links taken in
    let owned : IsPlayed p (entries ++ entry_in new row ∷ []) =
    subst (λ (q : Quantifier). IsPlayed p (entries ++ record { level = level; winner = q; region = tree_at new region; point = values_of front; terms = named new terms; links = links } ∷ [])) (sym f.1.owner) played in
    record {
      is = posed-stays trees new posed grows h.posed_in ∙ h.is;
      game = game-stays trees new p limit g m grows h.game;
      undecided = subst IsUndecided (sym same) h.undecided;
      row_in = record { region = below; terms = low };
      played = subst (IsPlayed p) (sym (with-row new g.entries row ∙ ap (λ (es : List Entry). es ++ entry_in new row ∷ []) same)) owned;
    }

-- the entry is the block's owner's
pub owner-entered : (trees new : List Tree) (posed : Posed) (p : Problem) (limit : ℕ) (g next : Game) (level : ℕ) (link : Option ℕ) (point : List Word) (m after : Metering) (s : Kept) (b : Block) → MayOwn trees posed p limit g level link point m → slice_get g.spans.items (level - 1) ≡ Some s → BlockAt p level b → IsEntered new p limit g next level (quantifier_of s.owner) after → IsEntered new p limit g next level b.owner after
owner-entered trees new posed p limit g next level link point m after s b h span at entered =
    let f = level-span trees p limit g level m s h.game h.low span in
    let same : f.0 ≡ b = same_Some f.0 b (sym f.1.at ∙ at) in
    subst (λ (q : Quantifier). IsEntered new p limit g next level q after) (f.1.owner ∙ ap (λ (x : Block). x.owner) same) entered

-- the runs that a core names
pub force-failing : (trees : List Tree) (posed : Posed) (p : Problem) (limit : ℕ) (g : Game) (level : ℕ) (point : List Word) (core : List Literal) (m : Metering) (s : Kept) (q : Query) (runs : List Run) → MayForce trees posed p limit g level point core m → slice_get g.spans.items (level - 1) ≡ Some s → slice_get g.queries.items (level - 1) ≡ Some q → map run_of runs ≡ named_runs (named_by core) (known_of trees q.lane) 0 (named trees (take s.end g.places.items)) (values_of point) → (b : Block) × IsFailing trees p (entries_in trees g.entries) level (span_of s) b (quantifier_of q.winner) point q.lane (take s.end g.places.items) core runs
force-failing trees posed p limit g level point core m s q runs h span at runs_are =
    let entries = entries_in trees g.entries in
    let low = h.low in
    let f = level-span trees p limit g level m s h.game low span in
    let b = f.0 in
    let is = h.game.queries (level - 1) q at in
    let who : quantifier_of q.winner ≡ other b.owner = is.opponent b f.1.at in
    let up : level - 1 + 2 ≡ level + 1 = omega (arith, low) in (
      b,
      record {
        problem = h.game.problem;
        played = h.game.played;
        undecided = h.undecided;
        settled = h.settled;
        low = low;
        high = h.high;
        sorts = h.sorts;
        outside = h.outside;
        at = f.1;
        winner_is = who;
        formulas = named trees q.list.items;
        stands = subst (λ (k : ℕ). StandsForQuery p entries (quantifier_of q.winner) k (named trees q.list.items)) up is.list;
        none = h.none q at;
        lane_is = is.lane;
        places = ap (λ (n : ℕ). named trees (take n g.places.items)) f.1.end ∙ front-named trees p (level + 1) g.places.items h.game.places;
        runs_are = runs_are;
      },
    )

-- the entry with all links
pub force-whole : (trees new : List Tree) (posed : Posed) (p : Problem) (limit : ℕ) (g : Game) (level : ℕ) (point : List Word) (core : List Literal) (m : Metering) (s : Kept) (q : Query) (runs : List Run) (region : ℕ) → MayForce trees posed p limit g level point core m → slice_get g.spans.items (level - 1) ≡ Some s → slice_get g.queries.items (level - 1) ≡ Some q → map run_of runs ≡ named_runs (named_by core) (known_of trees q.lane) 0 (named trees (take s.end g.places.items)) (values_of point) → Grows trees new → StandsAt new region (conjunction (map (fixing_at point) runs)) → IsPlayed p (entries_in new g.entries ++ record { level = level; winner = quantifier_of q.winner; region = tree_at new region; point = values_of point; terms = []; links = all_links p (entries_in new g.entries) (quantifier_of q.winner) level } ∷ [])
force-whole trees new posed p limit g level point core m s q runs region h span at runs_are grows stands =
    let entries = entries_in trees g.entries in
    let w = quantifier_of q.winner in
    let failing = force-failing trees posed p limit g level point core m s q runs h span at runs_are in
    subst (λ (es : List Entry). IsPlayed p (es ++ record { level = level; winner = w; region = tree_at new region; point = values_of point; terms = []; links = all_links p es w level } ∷ [])) (sym (entries-stay trees new g.entries grows h.game.rows))
    (forced-played trees p entries level (span_of s) failing.0 w point q.lane (take s.end g.places.items) core runs (tree_at new region) (all_links p entries w level) failing.1 stands.tree refl)

-- the region that they fix is one from which that player wins
pub force-region : (trees new : List Tree) (posed : Posed) (p : Problem) (limit : ℕ) (g : Game) (level : ℕ) (point : List Word) (core : List Literal) (m : Metering) (s : Kept) (q : Query) (runs : List Run) (region : ℕ) (b : Block) → MayForce trees posed p limit g level point core m → slice_get g.spans.items (level - 1) ≡ Some s → slice_get g.queries.items (level - 1) ≡ Some q → map run_of runs ≡ named_runs (named_by core) (known_of trees q.lane) 0 (named trees (take s.end g.places.items)) (values_of point) → Grows trees new → StandsAt new region (conjunction (map (fixing_at point) runs)) → BlockAt p level b → IsForcedRegion new p g.entries level (other b.owner) point region
force-region trees new posed p limit g level point core m s q runs region b h span at runs_are grows stands block =
    let who : quantifier_of q.winner ≡ other b.owner = (h.game.queries (level - 1) q at).opponent b block in
    record {
      below = stands.below;
      played = subst (λ (w : Quantifier). IsPlayed p (entries_in new g.entries ++ linked_to_all p (entries_in new g.entries) level w (values_of point) (tree_at new region) ∷ [])) who
          (force-whole trees new posed p limit g level point core m s q runs region h span at runs_are grows stands);
    }

-- such a region is a formula, as those of the game's entries are
pub region-formula : (new : List Tree) (p : Problem) (rows : List Row) (level : ℕ) (w : Quantifier) (point : List Word) (id : ℕ) → IsForcedRegion new p rows level w point id → IsFormula new id
region-formula new p rows level w point id h = record {
  below = h.below;
  term = last-term p (entries_in new rows) (linked_to_all p (entries_in new rows) level w (values_of point) (tree_at new id)) h.played;
}

pub force-rows : (trees new : List Tree) (p : Problem) (limit : ℕ) (g : Game) (m : Metering) → IsGame trees p limit g m → Grows trees new → All (λ r. IsFormula new r.region) g.entries
force-rows trees new p limit g m h grows =
    let stays = game-stays trees new p limit g m grows h in
    rows-formulas new p g.entries stays.rows stays.played

pub force-enters : (trees new : List Tree) (posed : Posed) (p : Problem) (limit : ℕ) (g : Game) (level : ℕ) (point front : List Word) (core : List Literal) (m : Metering) (q : Query) (region : ℕ) (terms links : List ℕ) (b : Block) → MayForce trees posed p limit g level point core m → slice_get g.queries.items (level - 1) ≡ Some q → BlockAt p level b → Grows trees new → IsForcedRegion new p g.entries level (other b.owner) point region → AreThinned new region g.entries (all_links p (entries_in new g.entries) (quantifier_of q.winner) level) links → terms ≡ [] → front ≡ point → MayEnter new posed p limit g (record { level = level; winner = quantifier_of q.winner; region = region; point = values_of front; terms = terms; links = links }) m
force-enters trees new posed p limit g level point front core m q region terms links b h at block grows forces thinned none front_is =
    let w = quantifier_of q.winner in
    let who : w ≡ other b.owner = (h.game.queries (level - 1) q at).opponent b block in
    let row : Row = record { level = level; winner = w; region = region; point = values_of front; terms = terms; links = links } in
    let same = entries-stay trees new g.entries grows h.game.rows in
    let all = all_links p (entries_in new g.entries) w level in
    let e : Entry = record { level = level; winner = w; region = tree_at new region; point = values_of point; terms = []; links = all } in
    let whole : IsPlayed p (entries_in new g.entries ++ e ∷ []) =
    subst (λ (k : Quantifier). IsPlayed p (entries_in new g.entries ++ linked_to_all p (entries_in new g.entries) level k (values_of point) (tree_at new region) ∷ [])) (sym who) forces.played in
    let played : IsPlayed p (entries_in new g.entries ++ record { level = level; winner = w; region = tree_at new region; point = values_of point; terms = []; links = links } ∷ []) =
    thinned-played new p g.entries e region all links b (subst (IsSettled p) (sym same) h.settled) (numbered p level b h.low block) (other-not w b.owner who) refl thinned whole in
    let forced : IsPlayed p (entries_in new g.entries ++ entry_in new row ∷ []) =
    subst (λ (ts : List ℕ). IsPlayed p (entries_in new g.entries ++ record { level = level; winner = w; region = tree_at new region; point = values_of front; terms = named new ts; links = links } ∷ [])) (sym none)
    (subst (λ (ws : List Word). IsPlayed p (entries_in new g.entries ++ record { level = level; winner = w; region = tree_at new region; point = values_of ws; terms = []; links = links } ∷ [])) (sym front_is) played) in
    record {
      is = posed-stays trees new posed grows h.posed_in ∙ h.is;
      game = game-stays trees new p limit g m grows h.game;
      undecided = subst IsUndecided (sym same) h.undecided;
      row_in = record { region = forces.below; terms = All-from_recursion (λ n. n < length new) terms (subst (AllByRecursion (λ n. n < length new)) (sym none) tt) };
      played = subst (IsPlayed p) (sym (with-row new g.entries row)) forced;
    }

-- the runs that a core names, at a query's places
pub force-runs : (trees : List Tree) (g : Game) (s : Kept) (q : Query) (ids : List ℕ) (runs : List Run) (core : List Literal) (point : List Word) → ids ≡ g.places.items → map run_of runs ≡ named_runs (named_by core) (known_of trees q.lane) 0 (named trees (take s.end ids)) (values_of point) → map run_of runs ≡ named_runs (named_by core) (known_of trees q.lane) 0 (named trees (take s.end g.places.items)) (values_of point)
force-runs trees g s q ids runs core point same h = h ∙ ap (λ (ns : List ℕ). named_runs (named_by core) (known_of trees q.lane) 0 (named trees (take s.end ns)) (values_of point)) same

pub force-few : (trees : List Tree) (posed : Posed) (p : Problem) (limit : ℕ) (g : Game) (level : ℕ) (point : List Word) (core : List Literal) (m : Metering) (s : Kept) (ids : List ℕ) → MayForce trees posed p limit g level point core m → slice_get g.spans.items (level - 1) ≡ Some s → ids ≡ g.places.items → length point ≤ length (take s.end ids)
force-few trees posed p limit g level point core m s ids h span same =
    let f = level-span trees p limit g level m s h.game h.low span in
    let within = end-within trees p limit g level m s h.game h.low span in
    let many : length ids ≡ length g.places.items = ap length same in
    let count = point-count p level point h.low h.sorts in
    let first = f.1.first in
    let sum = f.1.sum in
    let size = take-length ids s.end (omega (arith, within, many)) in
    omega (arith, count, first, sum, size)

-- a level has a block at the game's spans
pub force-links : (trees : List Tree) (p : Problem) (limit : ℕ) (g : Game) (m : Metering) → IsGame trees p limit g m → block_count p ≡ length g.spans.items
force-links trees p limit g m h =
    let count : length (map span_of g.spans.items) ≡ block_count p = ap length h.spans ∙ spans-count 0 (blocks_of p.prefix) in
    let same = length-map g.spans.items span_of in
    omega (arith, count, same)

pub forced-in : (new : List Tree) (p : Problem) (limit : ℕ) (old next : Game) (level number : ℕ) (winner w : Quantifier) (point : List Word) (after : Metering) (row : Row) → IsEntered new p limit old next level w after → next.entries ≡ old.entries ++ row ∷ [] → row.level ≡ level → row.winner ≡ winner → row.point ≡ values_of point → number ≡ length old.entries → IsForcedIn new p limit old next level winner point number after
forced-in new p limit old next level number winner w point after row h rows level_is winner_is point_is number_is = record {
  entered = record { game = h.game; row = row; rows = rows; level_is = level_is; winner_is = winner_is };
  point_is = point_is;
  number_is = number_is;
}

pub on-three : {A E P R : Type 0} (r : Result A E) {N Q : A → Type 0} → (P → R → (x : A) → N x → Q x) → OnOk r P → OnOk r R → IfOk r N → IfOk r Q
on-three (Ok x) f p r n = f p r x n
on-three (Err e) f p r n = p
