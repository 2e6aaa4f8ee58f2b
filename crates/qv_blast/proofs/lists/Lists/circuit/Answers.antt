use Rattle.std.proofs.Common.{◌≤◌, arith, rules}
use Rattle.qv_cnf.specs.Listing.{next_id}
use Rattle.qv_blast.proofs.FromOne.{clauses-in-with, listed-few, listed-grown, listed-next}
use Rattle.qv_blast.proofs.lists.Lists.circuit.Goals as goal

pub prove-unreachable-requires : goal.prove-unreachable-requires
prove-unreachable-requires c =
    let above : next_id c.self.inside.list.given ≤ c.self.inside.id = listed-next _ c.self.invariant.1 in
    search rules

pub build-requires-clause-ids : goal.build-requires-clause-ids
build-requires-clause-ids c = let few = listed-few _ c.self.invariant.1 c.may_add-may.ensures.listing.few in omega (arith, few)

pub invariant_of-self-2 : goal.invariant_of-self-2
invariant_of-self-2 c =
    let b = c.in_ok-bits.ensures.added in
    (c.self.invariant.0, listed-grown _ c.build.new.next _ c.build.new.out c.build.new.id c.self.invariant.1 (omega (arith, b.variables)) c.in_ok-bits.ensures.within b.clauses b.ids)

pub returns-clause-clauses : goal.returns-clause-clauses
returns-clause-clauses c =
    let b = c.in_ok-bits.ensures.added in
    rw (b.clauses, ← c.self.view_is) (clauses-in-with c.self.inside.list c.self.inside.id _)
