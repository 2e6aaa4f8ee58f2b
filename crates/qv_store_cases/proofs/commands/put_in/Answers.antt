use Rattle.std.proofs.Common.{IsTrue, arith}
use Rattle.std.proofs.lemmas.Grind.{common_steps}
use Rattle.qv_cases_terms.proofs.Leaves.{has-their-sorts}
use Rattle.qv_store_cases.proofs.commands.put_in.Goals as goal

pub put_in-requires-clause-sorts : goal.put_in-requires-clause-sorts
put_in-requires-clause-sorts c =
    let plain : IsTrue c.is_plain.result = grind (arith, common_steps) in
    let fit : IsTrue c.have_their_sorts.result = grind (arith, common_steps) in
    has-their-sorts c.args.terms.now c.args.store.now c.args.id (c.is_plain.ensures.shared plain) (c.have_their_sorts.ensures fit) (c.is_plain.ensures.id plain) (c.is_plain.ensures.free plain)
