use Rattle.std.proofs.Common.{arith}
use Rattle.std.proofs.lemmas.Option.{slice_get_within}
use Rattle.qv_solve_write.proofs.Standing.{numbered, walk-few}
use Rattle.qv_solve_write.proofs.nodes.number_of.Goals as goal

pub overflow_add-result : goal.overflow_add-result
overflow_add-result c =
    let within = slice_get_within c.args.walk.now c.position.result c.args.id c.position.ensures.at in
    let few = walk-few c.args.store.now c.args.walk.now c.requires.walk in
    omega (arith, within, few, c.len-nodes.ensures.len, c.len-nodes.ensures.few)

pub returns-clause-numbered : goal.returns-clause-numbered
returns-clause-numbered c =
    let within = slice_get_within c.args.walk.now c.position.result c.args.id c.position.ensures.at in
    let few = walk-few c.args.store.now c.args.walk.now c.requires.walk in
    record {
      place = c.position.result;
      at = c.position.ensures.at;
      number_is = omega arith;
      small = omega (arith, within, few, c.len-nodes.ensures.len, c.len-nodes.ensures.few);
    }

pub returns-clause-number : goal.returns-clause-number
returns-clause-number c = numbered c.args.store.now c.args.walk.now c.requires.walk c.args.id _ (returns-clause-numbered c)
