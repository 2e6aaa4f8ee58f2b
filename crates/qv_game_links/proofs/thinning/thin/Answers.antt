use Rattle.std.proofs.Common.{inr}
use Rattle.qv_game_links.proofs.Thinned.{enough-through}
use Rattle.qv_game_links.proofs.thinning.thin.Goals as goal

pub returns : goal.returns
returns c =
    inr (enough-through c.args.store.now c.args.region c.in_ok-known.known.items c.deref.result.now c.deref-3.result.now c.args.entries.now c.args.links.items c.deref-2.result.now c.in_ok-kept.kept.items c.deref-4.result.now c.deref-5.result.now c.in_ok-fewer.fewer.items
    c.in_ok-known.ensures c.deref.ensures.value c.deref-2.ensures.value c.deref-3.ensures.value c.deref-4.ensures.value c.deref-5.ensures.value c.in_ok-kept.ensures (c.are_named.ensures c.if-not-are_named.false) c.in_ok-fewer.ensures)
