-- A turn in which the owner of a level's block was answered values.
use Rattle.std.proofs.Common.{◌≡◌, ℕ, ◌+◌, ◌-◌, Some, None, List, ◌++◌, length, slice_get, sym, ap, ◌∙◌, subst}
use Rattle.std.specs.Prelude.{IsSomeAnd}
use Rattle.std.specs.List.{All}
use Rattle.qv_words.specs.declared.word.Word.{Word}
use Rattle.qv_words.specs.Word.{sorts_of, values_of}
use Rattle.qv_words.specs.Tree.{Tree}
use Rattle.qv_words.specs.Problem.{Problem, Quantifier}
use Rattle.qv_words.specs.Linked.{Block}
use Rattle.qv_words.proofs.Elements.{found-at}
use Rattle.qv_store.specs.declared.problem.Problem.{Problem as Posed}
use Rattle.qv_store.specs.Problems.{quantifier_of}
use Rattle.qv_store.specs.Walks.{named}
use Rattle.qv_entries.specs.Rows.{entries_in, regions_of}
use Rattle.qv_entries.specs.Holding.{HoldsAt, IsAskable}
use Rattle.qv_meter.specs.Records.{Metering}
use Rattle.qv_game_state.specs.declared.game.Game.{Game}
use Rattle.qv_game_state.specs.declared.spans.Span.{Span as Kept}
use Rattle.qv_game_turns.specs.declared.turns.Spot.{Spot}
use Rattle.qv_game_state.specs.Playing.{IsPlaying}
use Rattle.qv_game_turns.specs.Turns.{AreLeading, MayTurn, MayWin}
use Rattle.qv_game_turns.proofs.Moving.{force-links}
use Rattle.qv_game_turns.proofs.Turned.{IsLeading, lead-askable, lead-held, lead-last, lead-on, leading-sorts}
use Rattle.qv_game_state.proofs.Asking.{level-span, query-within, stands-above}

-- values that a block's owner was answered at a spot, and the point that they make longer
pub record IsAnsweredAt (trees : List Tree) (posed : Posed) (p : Problem) (limit : ℕ) (g : Game) (spot : Spot) (m : Metering) (s : Kept) (values longer : List Word) : Type 0 where
  pub may : MayTurn trees posed p limit g spot m
  pub leading : AreLeading trees p g spot values
  pub span : slice_get g.spans.items (spot.level - 1) ≡ Some s
  pub longer_is : longer ≡ spot.point.items ++ values

pub owner-leads : (trees : List Tree) (posed : Posed) (p : Problem) (limit : ℕ) (g : Game) (spot : Spot) (m : Metering) (s : Kept) (values longer : List Word) → IsAnsweredAt trees posed p limit g spot m s values longer → (b : Block) × (quantifier_of s.owner ≡ b.owner) × IsLeading p (entries_in trees g.entries) spot.level b spot.point.items values
owner-leads trees posed p limit g spot m s values longer h =
    let at = h.may.playing.spot in
    let game = h.may.playing.game in
    let f = level-span trees p limit g spot.level m s game at.low h.span in
    let q = found-at g.queries.items (spot.level - 1) (query-within trees p limit g spot.level m game at.low at.high) in
    let leading : IsLeading p (entries_in trees g.entries) spot.level f.0 spot.point.items values = record {
      problem = game.problem;
      played = game.played;
      spot = at;
      at = f.1.at;
      formulas = named trees q.0.list.items;
      stands = stands-above trees p (entries_in trees g.entries) limit spot.level q.0 f.0 at.low f.1.at (game.queries (spot.level - 1) q.0 q.1);
      makes = h.leading q.0 q.1;
    } in
    (f.0, f.1.owner, leading)

pub leads-last : (trees : List Tree) (posed : Posed) (p : Problem) (limit : ℕ) (g : Game) (spot : Spot) (m : Metering) (s : Kept) (values longer : List Word) → IsAnsweredAt trees posed p limit g spot m s values longer → spot.level ≡ length g.spans.items → MayWin trees posed p limit g spot.level None longer m
leads-last trees posed p limit g spot m s values longer h last =
    let l = owner-leads trees posed p limit g spot m s values longer h in
    let count = force-links trees p limit g m h.may.playing.game in
    lead-last trees posed p limit g spot.level spot.point.items values longer l.0 m h.may.posed_in h.may.is h.may.playing l.2 h.longer_is (last ∙ sym count)

pub leads-held : (trees : List Tree) (posed : Posed) (p : Problem) (limit : ℕ) (g : Game) (spot : Spot) (m : Metering) (s : Kept) (values longer : List Word) (n : ℕ) → IsAnsweredAt trees posed p limit g spot m s values longer → (spot.level ≡ length g.spans.items → ⊥) → IsSomeAnd (slice_get (entries_in trees g.entries) n) (HoldsAt (spot.level + 1) (quantifier_of s.owner) (values_of longer)) → MayWin trees posed p limit g spot.level (Some n) longer m
leads-held trees posed p limit g spot m s values longer n h inner holds =
    let l = owner-leads trees posed p limit g spot m s values longer h in
    let count = force-links trees p limit g m h.may.playing.game in
    lead-held trees posed p limit g spot.level n spot.point.items values longer l.0 m h.may.posed_in h.may.is h.may.playing l.2 h.longer_is (λ e. inner (e ∙ count))
    (subst (λ (q : Quantifier). IsSomeAnd (slice_get (entries_in trees g.entries) n) (HoldsAt (spot.level + 1) q (values_of longer))) l.1 holds)

pub leads-on : (trees : List Tree) (posed : Posed) (p : Problem) (limit : ℕ) (g : Game) (spot : Spot) (m : Metering) (s : Kept) (values longer : List Word) → IsAnsweredAt trees posed p limit g spot m s values longer → (spot.level ≡ length g.spans.items → ⊥) → All (λ e. HoldsAt (spot.level + 1) (quantifier_of s.owner) (values_of longer) e → ⊥) (entries_in trees g.entries) → IsPlaying trees p limit g (spot.level + 1) longer m
leads-on trees posed p limit g spot m s values longer h inner none =
    let l = owner-leads trees posed p limit g spot m s values longer h in
    let count = force-links trees p limit g m h.may.playing.game in
    lead-on trees p limit g spot.level spot.point.items values longer l.0 m h.may.playing l.2 h.longer_is (λ e. inner (e ∙ count))
    (subst (λ (q : Quantifier). All (λ e. HoldsAt (spot.level + 1) q (values_of longer) e → ⊥) (entries_in trees g.entries)) l.1 none)

pub leads-askable : (trees : List Tree) (posed : Posed) (p : Problem) (limit : ℕ) (g : Game) (spot : Spot) (m : Metering) (s : Kept) (values longer : List Word) → IsAnsweredAt trees posed p limit g spot m s values longer → All (IsAskable trees longer) (regions_of (spot.level + 1) (quantifier_of s.owner) g.entries)
leads-askable trees posed p limit g spot m s values longer h =
    let l = owner-leads trees posed p limit g spot m s values longer h in
    lead-askable trees p limit g spot.level longer (quantifier_of s.owner) m h.may.playing.game
    (ap sorts_of h.longer_is ∙ leading-sorts p (entries_in trees g.entries) spot.level l.0 spot.point.items values l.2)
