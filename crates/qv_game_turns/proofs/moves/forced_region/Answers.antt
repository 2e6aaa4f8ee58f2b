use Rattle.std.proofs.Common.{ℕ, Option, subst}
use Rattle.std.specs.Prelude.{IfSome}
use Rattle.qv_store.proofs.Replacement.{grows-more, if-ok}
use Rattle.qv_game_state.proofs.Keeping.{game-stays}
use Rattle.qv_game_turns.specs.Moves.{IsOutsideRegion}
use Rattle.qv_game_turns.proofs.Outside.{force-never, force-stays, outside-forces}
use Rattle.qv_game_turns.proofs.moves.forced_region.Goals as goal

pub outside_of-requires : goal.outside_of-requires
outside_of-requires c = let h = c.requires.4 in (c.requires.1, c.requires.2, c.requires.3, h.game, h.low, h.high)

pub returns-in-Some-clause-forced : goal.returns-in-Some-clause-forced
returns-in-Some-clause-forced c posed p limit m h b block =
    let is = subst (λ (o : Option ℕ). IfSome o (IsOutsideRegion c.args.store.now c.outside_of.new.store c.args.game.now c.args.level)) c.in-Some.is c.in_ok-region.ensures.none in
    outside-forces c.args.store.now c.outside_of.new.store posed p limit c.args.game.now c.args.level c.args.point.now c.args.core.now m c.in-Some.region b h c.outside_of.ensures.grows is block

pub is_never-requires : goal.is_never-requires
is_never-requires c =
    let h = c.requires.4 in
    (c.requires.1, c.requires.2, c.requires.3, game-stays c.args.store.now c.outside_of.new.store c.requires.1 c.requires.2 c.args.game.now c.requires.3 c.outside_of.ensures.grows h.game, h.low, h.high)

pub fix_failed-requires : goal.fix_failed-requires
fix_failed-requires c = (
  c.requires.0,
  c.requires.1,
  c.requires.2,
  c.requires.3,
  force-never c.outside_of.new.store c.requires.0 c.requires.1 c.requires.2 c.args.game.now c.args.level c.args.point.now c.args.core.now c.requires.3 (c.in_ok-is_never.ensures c.if-branch.true)
      (force-stays c.args.store.now c.outside_of.new.store c.requires.0 c.requires.1 c.requires.2 c.args.game.now c.args.level c.args.point.now c.args.core.now c.requires.3 c.outside_of.ensures.grows c.requires.4),
)

pub returns-then-branch-clause-grows : goal.returns-then-branch-clause-grows
returns-then-branch-clause-grows c = grows-more c.args.store.now c.outside_of.new.store c.fix_failed.new.store c.outside_of.ensures.grows c.fix_failed.ensures.grows

pub returns-then-branch-clause-forced : goal.returns-then-branch-clause-forced
returns-then-branch-clause-forced c =
    if-ok c.fix_failed.result
    (λ region given posed p limit m h b block. given posed p limit m
    (force-never c.outside_of.new.store posed p limit c.args.game.now c.args.level c.args.point.now c.args.core.now m (c.in_ok-is_never.ensures c.if-branch.true)
    (force-stays c.args.store.now c.outside_of.new.store posed p limit c.args.game.now c.args.level c.args.point.now c.args.core.now m c.outside_of.ensures.grows h)) b block)
    c.fix_failed.ensures.forced

pub fix_failed-requires-2 : goal.fix_failed-requires-2
fix_failed-requires-2 c =
    (c.requires.0, c.requires.1, c.requires.2, c.requires.3, force-stays c.args.store.now c.outside_of.new.store c.requires.0 c.requires.1 c.requires.2 c.args.game.now c.args.level c.args.point.now c.args.core.now c.requires.3 c.outside_of.ensures.grows c.requires.4)

pub returns-clause-grows : goal.returns-clause-grows
returns-clause-grows c = grows-more c.args.store.now c.outside_of.new.store c.fix_failed-2.new.store c.outside_of.ensures.grows c.fix_failed-2.ensures.grows

pub returns-clause-forced : goal.returns-clause-forced
returns-clause-forced c =
    if-ok c.fix_failed-2.result
    (λ region given posed p limit m h b block. given posed p limit m (force-stays c.args.store.now c.outside_of.new.store posed p limit c.args.game.now c.args.level c.args.point.now c.args.core.now m c.outside_of.ensures.grows h) b block)
    c.fix_failed-2.ensures.forced
