use Rattle.std.proofs.Common.{◌≤◌, rules}
use Rattle.qv_cnf.specs.Listing.{next_id}
use Rattle.qv_blast.proofs.FromOne.{listed-next}
use Rattle.qv_blast.proofs.lists.Lists.mark.Goals as goal

pub prove-unreachable-requires : goal.prove-unreachable-requires
prove-unreachable-requires c =
    let above : next_id c.self.inside.list.given ≤ c.self.inside.id = listed-next _ c.self.invariant.1 in
    search rules
