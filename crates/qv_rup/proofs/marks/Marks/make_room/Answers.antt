use Rattle.std.proofs.Common.{◌≡◌, ◌∙◌, [], reverse}
use Rattle.qv_rup.specs.Marking.{literals_of}
use Rattle.qv_rup.proofs.Marked.{none_marked}
use Rattle.qv_rup.proofs.marks.Marks.make_room.Goals as goal

pub grow-requires : goal.grow-requires
grow-requires c =
    let before = c.self.inside in
    let empty : literals_of (reverse before.set.items) ≡ [] = c.self.view_is ∙ c.requires in
    none_marked before.table.items before.others (rw empty at c.self.invariant.1)
