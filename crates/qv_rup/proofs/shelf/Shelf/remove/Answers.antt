use Rattle.qv_rup.proofs.Shelved.{shelved_less}
use Rattle.qv_rup.specs.Shelving.{next_after}
use Rattle.qv_rup.proofs.shelf.Shelf.remove.Goals as goal
use Rattle.qv_rup.proofs.shelf.Shelf.remove.Goals.{in-Some, in_default}

pub invariant_of-self : goal.invariant_of-self
invariant_of-self c =
    let s = c.self.inside in
    elim c.match-get.branch [
      | in-Some w ↦ rw w.self-inside-is (shelved_less s.list c.remove.new.self s.ids.items (next_after s.last) c.args.id (rw w.self-inside-is at c.remove.ensures) c.self.invariant)
      | in_default w ↦ rw w.self-inside-is (shelved_less s.list c.remove.new.self s.ids.items (next_after s.last) c.args.id (rw w.self-inside-is at c.remove.ensures) c.self.invariant)
    ]
