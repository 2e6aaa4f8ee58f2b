use Rattle.std.proofs.Common.{ap, sym, ◌∙◌}
use Rattle.std.specs.Option.{option_copied}
use Rattle.qv_rup.proofs.Indexed.{indexed_none, indexed_one}
use Rattle.qv_rup.proofs.shelf.file_all.Goals as goal
use Rattle.qv_rup.proofs.shelf.file_all.Goals.{in-Some+in_ok-add, in_default}

pub filing-preserved : goal.filing-preserved
filing-preserved c =
    let ids = c.args.ids.now in
    let i = c.filing.id-index in
    let live = c.args.from.now.live in
    let l = c.filing in
    elim c.match-get.branch [
      | in-Some+in_ok-add w ↦
          rw w.index-is (indexed_one ids i live l.index.lists.items w.add.new.self.lists.items w.in-Some.lits.now c.filing-test.true (sym c.get.ensures ∙ ap option_copied w.in-Some.is)
          w.add.ensures.size w.add.ensures.stay w.in_ok-add.ensures.filed l.invariant)
      | in_default w ↦ rw w.index-is (indexed_none ids i live l.index.lists.items c.filing-test.true (sym c.get.ensures ∙ ap option_copied w.in_default.is) l.invariant)
    ]
