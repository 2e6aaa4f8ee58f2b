use Rattle.std.proofs.Common.{ap, sym, ◌∙◌}
use Rattle.std.specs.Option.{option_copied}
use Rattle.qv_rup.proofs.Shelved.{gathered_none, gathered_one, may_gather}
use Rattle.qv_rup.proofs.shelf.gather.Goals as goal
use Rattle.qv_rup.proofs.shelf.gather.Goals.{in-Some+in_ok-add+in_ok-push, in_default}

pub add-requires : goal.add-requires
add-requires c = may_gather c.args.ids.now c.loop-id.id-index c.args.from.now.live c.loop-id.list c.loop-id.kept.items c.requires.rises c.loop-id-test.true c.loop-id.invariant

pub loop-id-preserved : goal.loop-id-preserved
loop-id-preserved c =
    let ids = c.args.ids.now in
    let i = c.loop-id.id-index in
    let live = c.args.from.now.live in
    let l = c.loop-id in
    elim c.match-get.branch [
      | in-Some+in_ok-add+in_ok-push w ↦
          gathered_one ids i live l.list c.match-get.list l.kept.items c.match-get.kept.items w.in-Some.lits.now c.loop-id-test.true (sym c.get.ensures ∙ ap option_copied w.in-Some.is)
          (w.list-is ∙ w.in_ok-add.ensures.ok) (ap (λ v. v.items) w.kept-is ∙ w.in_ok-push.ensures.items) l.invariant
      | in_default w ↦ rw (w.list-is, w.kept-is) (gathered_none ids i live l.list l.kept.items c.loop-id-test.true (sym c.get.ensures ∙ ap option_copied w.in_default.is) l.invariant)
    ]
