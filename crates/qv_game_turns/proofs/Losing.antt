-- A turn in which bits of a point leave the owner of a level's block no values.
use Rattle.std.proofs.Common.{◌≡◌, ℕ, ◌-◌, ◌<◌, false, Some, List, length, get_or, slice_get, inl, inr, refl, sym, ap, ◌∙◌, subst, arith}
use Rattle.std.specs.Prelude.{IsSomeAnd}
use Rattle.qv_words.specs.declared.word.Word.{Word}
use Rattle.qv_words.specs.Tree.{Tree}
use Rattle.qv_words.specs.Problem.{Problem, Quantifier, Existential, Universal, other}
use Rattle.qv_words.specs.Linked.{Block, block_numbered, blocks_of, same_quantifier}
use Rattle.qv_words.proofs.Elements.{to-some}
use Rattle.qv_cnf.specs.Literal.{Literal}
use Rattle.qv_store.specs.Stores.{Grows}
use Rattle.qv_store.specs.declared.problem.Problem.{Problem as Posed}
use Rattle.qv_store.specs.declared.problem.Quant.{Quant}
use Rattle.qv_store.specs.Problems.{quantifier_of}
use Rattle.qv_meter.specs.Records.{Metering}
use Rattle.qv_game_lanes.proofs.Placing.{at-index}
use Rattle.qv_game_state.specs.declared.game.Game.{Game}
use Rattle.qv_game_state.specs.declared.spans.Span.{Span as Kept}
use Rattle.qv_game_turns.specs.declared.turns.Spot.{Spot}
use Rattle.qv_game_turns.specs.declared.turns.Turn.{Turn}
use Rattle.qv_game_turns.specs.declared.turns.Turn.TheVariants.{Over, On}
use Rattle.qv_game_turns.specs.Moves.{IsForcedIn, MayForce}
use Rattle.qv_game_state.specs.Spots.{BlockAt}
use Rattle.qv_game_turns.specs.Turns.{AreFailing, IsCloser, MayTurn, MayWin}
use Rattle.qv_game_turns.proofs.Turned.{lose-wins}
use Rattle.qv_game_state.proofs.Asking.{level-span, span-within}

-- the other player may win by them
pub may-force : (trees : List Tree) (posed : Posed) (p : Problem) (limit : ℕ) (g : Game) (spot : Spot) (core : List Literal) (m : Metering) → MayTurn trees posed p limit g spot m → AreFailing trees p g spot core → MayForce trees posed p limit g spot.level spot.point.items core m
may-force trees posed p limit g spot core m h failing =
    let at = h.playing.spot in
    record {
      posed_in = h.posed_in;
      is = h.is;
      game = h.playing.game;
      undecided = h.playing.undecided;
      settled = h.playing.settled;
      low = at.low;
      high = at.high;
      sorts = at.sorts;
      outside = at.outside spot.level at.low (omega arith);
      none = failing;
    }

-- and it has won there
pub forced-by : (trees new : List Tree) (posed : Posed) (p : Problem) (limit : ℕ) (g next : Game) (spot : Spot) (m after : Metering) (s : Kept) (winner : Quant) (number : ℕ) (point : List Word) → MayTurn trees posed p limit g spot m → slice_get g.spans.items (spot.level - 1) ≡ Some s → quantifier_of winner ≡ other (quantifier_of s.owner) → ((b : Block) → BlockAt p spot.level b → IsForcedIn new p limit g next spot.level (other b.owner) point number after) → IsForcedIn new p limit g next spot.level (quantifier_of winner) point number after
forced-by trees new posed p limit g next spot m after s winner number point h span who forced =
    let f = level-span trees p limit g spot.level m s h.playing.game h.playing.spot.low span in
    subst (λ (q : Quantifier). IsForcedIn new p limit g next spot.level q point number after) (sym (who ∙ ap other f.1.owner)) (forced f.0 f.1.at)

-- all that the move leaves
pub lost : (trees new : List Tree) (posed : Posed) (p : Problem) (limit : ℕ) (g next : Game) (spot : Spot) (m after : Metering) (s : Kept) (winner : Quant) (number : ℕ) (core : List Literal) (point : List Word) → MayTurn trees posed p limit g spot m → AreFailing trees p g spot core → point ≡ spot.point.items → s ≡ get_or g.spans.items (spot.level - 1) s → quantifier_of winner ≡ other (quantifier_of s.owner) → (MayForce trees posed p limit g spot.level point core m → (b : Block) → BlockAt p spot.level b → IsForcedIn new p limit g next spot.level (other b.owner) point number after) → IsForcedIn new p limit g next spot.level (quantifier_of winner) spot.point.items number after
lost trees new posed p limit g next spot m after s winner number core point h failing same is who forced =
    let at = h.playing.spot in
    let span = at-index g.spans.items (spot.level - 1) s (span-within trees p limit g spot.level m h.playing.game at.low at.high) is in
    let may = subst (λ (ws : List Word). MayForce trees posed p limit g spot.level ws core m) (sym same) (may-force trees posed p limit g spot core m h failing) in
    subst (λ (ws : List Word). IsForcedIn new p limit g next spot.level (quantifier_of winner) ws number after) same
    (forced-by trees new posed p limit g next spot m after s winner number point h span who (forced may))

-- the game has a block at each level then too
pub lost-within : (trees new : List Tree) (posed : Posed) (p : Problem) (limit : ℕ) (g next : Game) (spot : Spot) (m after : Metering) (winner : Quantifier) (number : ℕ) → MayTurn trees posed p limit g spot m → IsForcedIn new p limit g next spot.level winner spot.point.items number after → spot.level - 1 < length next.spans.items
lost-within trees new posed p limit g next spot m after winner number h forced =
    span-within new p limit next spot.level after forced.entered.game h.playing.spot.low h.playing.spot.high

not-other : (q : Quantifier) → same_quantifier (other q) q ≡ false
not-other Existential = refl
not-other Universal = refl

-- it doesn't own the block
pub lost-apart : (trees : List Tree) (posed : Posed) (p : Problem) (limit : ℕ) (g : Game) (spot : Spot) (m : Metering) (s : Kept) (winner : Quant) → MayTurn trees posed p limit g spot m → s ≡ get_or g.spans.items (spot.level - 1) s → quantifier_of winner ≡ other (quantifier_of s.owner) → IsSomeAnd (block_numbered (blocks_of p.prefix) spot.level) (λ c. same_quantifier (quantifier_of winner) c.owner ≡ false)
lost-apart trees posed p limit g spot m s winner h is who =
    let at = h.playing.spot in
    let span = at-index g.spans.items (spot.level - 1) s (span-within trees p limit g spot.level m h.playing.game at.low at.high) is in
    let f = level-span trees p limit g spot.level m s h.playing.game at.low span in
    let opponent : quantifier_of winner ≡ other f.0.owner = who ∙ ap other f.1.owner in
    to-some (block_numbered (blocks_of p.prefix) spot.level) (λ c. same_quantifier (quantifier_of winner) c.owner ≡ false) f.0 f.1.numbered
    (subst (λ (q : Quantifier). same_quantifier q f.0.owner ≡ false) (sym opponent) (not-other f.0.owner))

-- and its winner wins one level up
pub lost-wins : (trees new : List Tree) (posed : Posed) (p : Problem) (limit : ℕ) (g next : Game) (spot : Spot) (m after : Metering) (s : Kept) (winner : Quant) (number : ℕ) → MayTurn trees posed p limit g spot m → Grows trees new → IsForcedIn new p limit g next spot.level (quantifier_of winner) spot.point.items number after → 1 < spot.level → s ≡ get_or g.spans.items (spot.level - 1) s → quantifier_of winner ≡ other (quantifier_of s.owner) → MayWin new posed p limit next (spot.level - 1) (Some number) spot.point.items after
lost-wins trees new posed p limit g next spot m after s winner number h grows forced high is who =
    lose-wins trees new posed p limit g next spot.level number winner spot.point.items m after h.posed_in h.is h.playing grows forced (omega (arith, high))
    (lost-apart trees posed p limit g spot m s winner h is who)

-- two moves are as close as one
pub closer-through : (before mid from level after : ℕ) (t : Turn) → before < mid → IsCloser mid from after t → IsCloser before level after t
closer-through before mid from level after (Over w) low h = tt
closer-through before mid from level after (On spot) low h = elim h [
  | inl more ↦ inl (omega (arith, low, more))
  | inr same ↦ let is = same.0 in inl (omega (arith, low, is))
]
