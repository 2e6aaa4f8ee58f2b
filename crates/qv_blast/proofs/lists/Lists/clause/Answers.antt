use Rattle.std.proofs.Common.{◌≤◌, ◌+◌, ◌∷◌, [], arith, refl, rules}
use Rattle.qv_cnf.specs.Listing.{next_id}
use Rattle.qv_blast.proofs.FromOne.{listed-few, listed-grown, listed-next}
use Rattle.qv_blast.proofs.lists.Lists.clause.Goals as goal

pub prove-unreachable-requires : goal.prove-unreachable-requires
prove-unreachable-requires c =
    let above : next_id c.self.inside.list.given ≤ c.self.inside.id = listed-next _ c.self.invariant.1 in
    search rules

pub add-requires : goal.add-requires
add-requires c = listed-next _ c.self.invariant.1

pub overflow_add-self : goal.overflow_add-self
overflow_add-self c = let few = listed-few _ c.self.invariant.1 c.may_add-may.ensures.listing.few in omega (arith, few)

pub invariant_of-self-2 : goal.invariant_of-self-2
invariant_of-self-2 c =
    (c.self.invariant.0, listed-grown _ c.self.inside.next (c.args.lits.now ∷ []) c.add.new.self (c.self.inside.id + 1) c.self.invariant.1 (omega arith) c.self.invariant.1.within c.in_ok-add.ensures.ok refl)

pub returns-clause-grown : goal.returns-clause-grown
returns-clause-grown c =
    rw (← c.self.view_is) (record { limit = refl; more = c.args.lits.now ∷ []; list = c.in_ok-add.ensures.ok; id = refl })
