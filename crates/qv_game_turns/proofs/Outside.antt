-- What lies outside the regions of a level's owner, as the region of an entry.
use Rattle.std.proofs.Common.{◌≡◌, ◌≢◌, ℕ, suc, ◌+◌, ◌-◌, ◌≤◌, ◌<◌, ◌==◌, Bool, true, false, Option, Some, None, List, [], ◌∷◌, ◌++◌, length, map, slice_get, refl, sym, ap, ◌∙◌, subst, arith}
use Rattle.std.specs.Prelude.{IfSome}
use Rattle.std.specs.List.{All}
use Rattle.std.proofs.lemmas.List.Elements.{All-from_recursion}
use Rattle.std.proofs.lemmas.Bool.{ne_eqb}
use Rattle.std.proofs.lemmas.List.{length-map, take_all}
use Rattle.qv_words.specs.declared.word.Word.{Word}
use Rattle.qv_words.specs.Word.{values_of, word_value}
use Rattle.qv_words.specs.declared.sort.Sort.TheVariants.{Bool as BoolSort}
use Rattle.qv_words.specs.Skolem.{IsTermOf}
use Rattle.qv_words.specs.Tree.{Tree}
use Rattle.qv_words.specs.Gate.{clauses_value}
use Rattle.qv_words.specs.Clauses.{cnf}
use Rattle.qv_words.specs.Choice.{IsTrueAt}
use Rattle.qv_words.specs.Prenex.{negation}
use Rattle.qv_words.specs.Problem.{Problem, Quantifier, Existential, Universal, conjunction, other}
use Rattle.qv_words.specs.Linked.{Block, Entry, block_numbered, blocks_of, entries_of, places_below, same_quantifier}
use Rattle.qv_words.proofs.Elements.{found-at}
use Rattle.qv_store.specs.Problems.{quantifier_of}
use Rattle.qv_store.specs.Stores.{Grows}
use Rattle.qv_store.specs.Walks.{named}
use Rattle.qv_store.specs.declared.problem.Problem.{Problem as Posed}
use Rattle.qv_cnf.specs.Literal.{Literal}
use Rattle.qv_entries.specs.Rows.{entries_in}
use Rattle.qv_meter.specs.Played.{IsPlayed, IsSettled, IsUndecided}
use Rattle.qv_meter.specs.Queries.{StandsForQuery, block_count, query_list}
use Rattle.qv_meter.specs.Records.{Metering}
use Rattle.qv_meter.proofs.Following.{blocks-alternate}
use Rattle.qv_meter.proofs.Standing.{stands-inner}
use Rattle.qv_game_play_laws.specs.PlayLaws.{MayMove, outside_all, sorts_below}
use Rattle.qv_game_play_laws.proofs.Complement.{complement-is_played}
use Rattle.qv_game_outside.specs.Outside.{HaveNoModel, LeavesNone}
use Rattle.qv_game_state.specs.declared.game.Game.{Game}
use Rattle.qv_game_state.specs.declared.query.Query.{Query}
use Rattle.qv_game_state.specs.Playing.{IsGame, IsQueryAt}
use Rattle.qv_game_state.specs.Spots.{BlockAt, IsOutside}
use Rattle.qv_game_lanes.specs.Asking.{LeavesNone as LeavesNoValues}
use Rattle.qv_circuits.specs.Adding.{lits_of}
use Rattle.qv_game_state.proofs.Asking.{stands-above}
use Rattle.qv_game_state.proofs.Keeping.{entries-stay, game-stays, named-stays, posed-in_stays, posed-stays}
use Rattle.qv_game_state.proofs.Levels.{point-count, point-typed}
use Rattle.qv_game_turns.specs.Moves.{IsForcedRegion, IsNever, IsOutsideRegion, MayForce, linked_to_all}
use Rattle.qv_game_turns.proofs.Forcing.{other-not}

pub twice-other : (q : Quantifier) → other (other q) ≡ q
twice-other Existential = refl
twice-other Universal = refl

-- a level has a block
pub block-there : (p : Problem) (level : ℕ) → 1 ≤ level → level ≤ block_count p → (b : Block) × BlockAt p level b
block-there p level low high = found-at (blocks_of p.prefix) (level - 1) (omega (arith, low, high))

pub numbered : (p : Problem) (level : ℕ) (b : Block) → 1 ≤ level → BlockAt p level b → block_numbered (blocks_of p.prefix) level ≡ Some b
numbered p level b low at = subst (λ (k : ℕ). block_numbered (blocks_of p.prefix) k ≡ Some b) (let up : suc (level - 1) ≡ level = omega (arith, low) in up) at

-- who owns a block doesn't own the one before
apart-other : (q r : Quantifier) → same_quantifier q r ≡ false → other q ≡ r
apart-other Existential Universal h = refl
apart-other Universal Existential h = refl
apart-other Existential Existential h = absurd cc
apart-other Universal Universal h = absurd cc

-- the query of the level before has the denials of the owner's regions
denials-are : (trees : List Tree) (p : Problem) (limit : ℕ) (g : Game) (level : ℕ) (m : Metering) (before : Query) (b : Block) → IsGame trees p limit g m → 2 ≤ level → level ≤ block_count p → BlockAt p level b → slice_get g.queries.items (level - 2) ≡ Some before → named trees before.list.items ≡ map (λ (f : Entry). negation f.region) (entries_of level b.owner (entries_in trees g.entries))
denials-are trees p limit g level m before b h low high at query =
    let entries = entries_in trees g.entries in
    let is : IsQueryAt trees p entries limit (level - 2) before = h.queries (level - 2) before query in
    let front = found-at (blocks_of p.prefix) (level - 2) (omega (arith, low, high)) in
    let next : suc (level - 2) ≡ level - 1 = omega (arith, low) in
    let alternate = blocks-alternate p.prefix (level - 2) front.0 b front.1 (ap (slice_get (blocks_of p.prefix)) next ∙ at) in
    let who : quantifier_of before.winner ≡ b.owner = is.opponent front.0 front.1 ∙ apart-other front.0.owner b.owner alternate in
    let up : level - 2 + 2 ≡ level = omega (arith, low) in
    let inner : (level == block_count p + 1) ≡ false = ne_eqb level (block_count p + 1) (λ e. omega (arith, high, e)) in
    let away : level - 2 + 2 ≡ block_count p + 1 → ⊥ = λ e. omega (arith, low, high, e) in
    stands-inner p entries (quantifier_of before.winner) (level - 2 + 2) (named trees before.list.items) away is.list
    ∙ ap (λ (k : ℕ). query_list p entries (quantifier_of before.winner) k) up
    ∙ ap (λ (w : Quantifier). query_list p entries w level) who
    ∙ rw inner refl

-- of no entries there is no denial
some-entries : (es : List Entry) → map (λ (f : Entry). negation f.region) es ≢ [] → es ≢ []
some-entries es h none = h (ap (map (λ (f : Entry). negation f.region)) none)

-- the entry with it may come
pub outside-forces : (trees new : List Tree) (posed : Posed) (p : Problem) (limit : ℕ) (g : Game) (level : ℕ) (point : List Word) (core : List Literal) (m : Metering) (id : ℕ) (b : Block) → MayForce trees posed p limit g level point core m → Grows trees new → IsOutsideRegion trees new g level id → BlockAt p level b → IsForcedRegion new p g.entries level (other b.owner) point id
outside-forces trees new posed p limit g level point core m id b h grows is block =
    let none = is.none in
    let entries = entries_in trees g.entries in
    let vs = values_of point in
    let w = other b.owner in
    let n = places_below (blocks_of p.prefix) level in
    let count : length point ≡ n = point-count p level point h.low h.sorts in
    let long : length vs ≤ n = (let many = length-map point word_value in omega (arith, many, count)) in
    let away : (winner : Quantifier) → All (λ f. IsTrueAt vs f.region → ⊥) (entries_of level winner entries) =
    λ winner. subst (λ (us : List ℕ). All (λ f. IsTrueAt us f.region → ⊥) (entries_of level winner entries)) (take_all n vs long) (h.outside winner) in
    let move : MayMove p entries level w vs = record {
      problem = h.game.problem;
      played = h.game.played;
      undecided = h.undecided;
      low = h.low;
      high = h.high;
      point_of = point-typed p level point h.sorts;
      outside = away w;
    } in
    let denials = denials-are trees p limit g level m is.before b h.game is.low h.high block is.before_is in
    let asked = named trees is.query.list.items in
    let stands : StandsForQuery p entries w (level + 1) asked = stands-above trees p entries limit level is.query b h.low block (h.game.queries (level - 1) is.query is.query_is) in
    let owner : b.owner ≡ other w = sym (twice-other b.owner) in
    let denied : named trees is.before.list.items ≡ map (λ (f : Entry). negation f.region) (entries_of level (other w) entries) =
    denials ∙ ap (λ (q : Quantifier). map (λ (f : Entry). negation f.region) (entries_of level q entries)) owner in
    let region = ap conjunction denied in
    let no_model : (v : ℕ → Bool) → clauses_value v (cnf (outside_all entries (other w) level ∷ asked)) ≡ true → ⊥ =
    λ v e. none.no_model v (subst (λ (t : Tree). clauses_value v (cnf (t ∷ asked)) ≡ true) (sym region) e) in
    let some = some-entries (entries_of level (other w) entries) (subst (λ (ts : List Tree). ts ≢ []) denied none.some) in
    let played = complement-is_played p entries level w b vs asked move h.settled some (away (other w)) (numbered p level b h.low block) (other-not w b.owner refl) stands no_model in
    let here : IsPlayed p (entries_in new g.entries ++ linked_to_all p (entries_in new g.entries) level w vs (outside_all entries (other w) level) ∷ []) =
    subst (λ (es : List Entry). IsPlayed p (es ++ linked_to_all p es level w vs (outside_all entries (other w) level) ∷ [])) (sym (entries-stay trees new g.entries grows h.game.rows)) played in
    record {
      below = none.stands.below;
      played = subst (λ (t : Tree). IsPlayed p (entries_in new g.entries ++ linked_to_all p (entries_in new g.entries) level w vs t ∷ [])) (sym (none.stands.tree ∙ region)) here;
    }

-- a game may be forced beside a store that has grown
pub force-stays : (old new : List Tree) (posed : Posed) (p : Problem) (limit : ℕ) (g : Game) (level : ℕ) (point : List Word) (core : List Literal) (m : Metering) → Grows old new → MayForce old posed p limit g level point core m → MayForce new posed p limit g level point core m
force-stays old new posed p limit g level point core m grows h =
    let same : entries_in old g.entries ≡ entries_in new g.entries = sym (entries-stay old new g.entries grows h.game.rows) in
    record {
      posed_in = posed-in_stays old new posed grows h.posed_in;
      is = posed-stays old new posed grows h.posed_in ∙ h.is;
      game = game-stays old new p limit g m grows h.game;
      undecided = subst IsUndecided same h.undecided;
      settled = subst (IsSettled p) same h.settled;
      low = h.low;
      high = h.high;
      sorts = h.sorts;
      outside = subst (λ (es : List Entry). IsOutside p es (values_of point) level) same h.outside;
      none = λ q at. subst (λ (ts : List Tree). LeavesNoValues ts (sorts_below p (level + 1)) point (lits_of core)) (sym (named-stays old new q.list.items grows (h.game.queries (level - 1) q at).below)) (h.none q at);
    }

-- where the query asks for what has no values, no bits of the point are needed
pub force-never : (trees : List Tree) (posed : Posed) (p : Problem) (limit : ℕ) (g : Game) (level : ℕ) (point : List Word) (core : List Literal) (m : Metering) → IsNever trees g level → MayForce trees posed p limit g level point core m → MayForce trees posed p limit g level point [] m
force-never trees posed p limit g level point core m never h = record {
  posed_in = h.posed_in;
  is = h.is;
  game = h.game;
  undecided = h.undecided;
  settled = h.settled;
  low = h.low;
  high = h.high;
  sorts = h.sorts;
  outside = h.outside;
  none = λ q at. record { each = All-from_recursion _ [] tt; no_model = λ v e failed. never q at v e };
}

-- the formulas of a query may be asked
pub query-below : (trees : List Tree) (p : Problem) (limit : ℕ) (g : Game) (m : Metering) (i : ℕ) (q : Query) (ids : List ℕ) → IsGame trees p limit g m → slice_get g.queries.items i ≡ Some q → ids ≡ q.list.items → All (λ n. n < length trees) ids
query-below trees p limit g m i q ids h at same = subst (λ (ns : List ℕ). All (λ n. n < length trees) ns) (sym same) (h.queries i q at).below

pub query-terms : (trees : List Tree) (p : Problem) (limit : ℕ) (g : Game) (m : Metering) (i : ℕ) (q : Query) (ids : List ℕ) → IsGame trees p limit g m → slice_get g.queries.items i ≡ Some q → ids ≡ q.list.items → All (λ t. IsTermOf t BoolSort) (named trees ids)
query-terms trees p limit g m i q ids h at same =
    let is = h.queries i q at in
    subst (λ (ns : List ℕ). All (λ t. IsTermOf t BoolSort) (named trees ns)) (sym same) is.lane.terms

pub two-before : (level : ℕ) → level - 1 - 1 ≡ level - 2
two-before level = omega arith

pub if-some : {A : Type 0} (P Q : A → Type 0) (o : Option A) → ((x : A) → P x → Q x) → IfSome o P → IfSome o Q
if-some P Q None f h = tt
if-some P Q (Some x) f h = f x h

-- what was found by the lists of two queries
pub outside-region : (old new : List Tree) (g : Game) (level : ℕ) (before query : Query) (denials asked : List ℕ) (id : ℕ) → 2 ≤ level → slice_get g.queries.items (level - 1 - 1) ≡ Some before → slice_get g.queries.items (level - 1) ≡ Some query → denials ≡ before.list.items → asked ≡ query.list.items → LeavesNone new (named old denials) (named old asked) id → IsOutsideRegion old new g level id
outside-region old new g level before query denials asked id low at there denied are none = record {
  low = low;
  before = before;
  query = query;
  before_is = ap (slice_get g.queries.items) (sym (two-before level)) ∙ at;
  query_is = there;
  none = subst (λ (ns : List ℕ). LeavesNone new (named old ns) (named old query.list.items) id) denied
      (subst (λ (ns : List ℕ). LeavesNone new (named old denials) (named old ns) id) are none);
}

-- what the list of a level's query has
pub never-asked : (trees : List Tree) (g : Game) (level : ℕ) (q : Query) (ids : List ℕ) → slice_get g.queries.items (level - 1) ≡ Some q → ids ≡ q.list.items → HaveNoModel (named trees ids) → IsNever trees g level
never-asked trees g level q ids at are none other there =
    let same : Some q ≡ Some other = sym at ∙ there in
    let one : q ≡ other = cc in
    subst (λ (r : Query). HaveNoModel (named trees r.list.items)) one (subst (λ (ns : List ℕ). HaveNoModel (named trees ns)) are none)
