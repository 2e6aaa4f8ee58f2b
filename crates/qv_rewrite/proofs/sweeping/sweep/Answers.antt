use Rattle.std.proofs.Common.{◌<◌, length}
use Rattle.std.proofs.lemmas.List.Elements.{All-from_recursion}
use Rattle.qv_rewrite.proofs.Waiting.{done-more, done-whole, done-map, done-below}
use Rattle.qv_rewrite.proofs.sweeping.sweep.Goals as goal
use Rattle.qv_store.proofs.Replacement.{grows-more}

pub loop-id-preserved : goal.loop-id-preserved
loop-id-preserved c = record {
  grows = grows-more c.args.store.now c.loop-id.store c.sweep_below.new.store c.loop-id.invariant.grows c.sweep_below.ensures.grows;
  shared = c.sweep_below.ensures.shared;
  swept = c.in_ok-sweep_below.ensures.made;
  done = rw c.in_ok-push.ensures.items
      (done-more c.args.rewriting c.args.store.now c.loop-id.store c.sweep_below.new.store c.args.list.now c.loop-id.ids.items c.loop-id.id-index c.id-item.result c.in_ok-sweep_below.field-0 c.loop-id-test.true c.id-item.is (rw c.id-item.is (c.requires.ids c.loop-id.id-index c.id-item.result c.loop-id-test.true)) c.loop-id.invariant.grows c.sweep_below.ensures.grows c.loop-id.invariant.done c.in_ok-sweep_below.ensures.id);
}

pub returns-clause-swept : goal.returns-clause-swept
returns-clause-swept c =
    done-map c.args.rewriting c.args.store.now c.loop-id.store c.args.list.now c.loop-id.ids.items
    (done-whole c.args.rewriting c.args.store.now c.loop-id.store c.args.list.now c.loop-id.ids.items c.loop-id.id-index c.loop-id-test.false c.loop-id.invariant.done)

pub returns-clause-below : goal.returns-clause-below
returns-clause-below c =
    All-from_recursion (λ m. m < length c.loop-id.store) c.loop-id.ids.items
    (done-below c.args.rewriting c.args.store.now c.loop-id.store c.args.list.now c.loop-id.ids.items
    (done-whole c.args.rewriting c.args.store.now c.loop-id.store c.args.list.now c.loop-id.ids.items c.loop-id.id-index c.loop-id-test.false c.loop-id.invariant.done))
