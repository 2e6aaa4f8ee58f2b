use Rattle.std.proofs.Common.{refl}
use Rattle.qv_game_links.proofs.Thinned.{met-passed, taken}
use Rattle.qv_game_links.proofs.thinning.consider.Goals as goal

pub returns-then-is_met : goal.returns-then-is_met
returns-then-is_met c =
    met-passed c.args.store.now c.args.known.now c.in_ok-said.said.items c.deref-2.result.now c.args.entries.now c.args.kept.now.items c.deref.result.now c.args.number _
    c.entry.ensures c.in_ok-said.ensures c.deref-2.ensures.value c.deref.ensures.value (c.is_met.ensures c.if-is_met.true)

pub returns : goal.returns
returns c = taken c.args.store.now c.args.known.now c.args.entries.now c.args.number c.args.kept.now.items c.push.new.self.items _ _ c.entry.ensures c.in_ok-said.ensures refl c.in_ok-push.ensures.items
