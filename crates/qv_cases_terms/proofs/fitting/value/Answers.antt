use Rattle.std.proofs.Common.{IsTrue, arith}
use Rattle.std.proofs.lemmas.Grind.{common_steps}
use Rattle.qv_cases_terms.proofs.Leaves.{has-words}
use Rattle.qv_cases_terms.proofs.fitting.value.Goals as goal

pub eval_at-requires-clause-words : goal.eval_at-requires-clause-words
eval_at-requires-clause-words c =
    let plain : IsTrue c.is_plain.result = grind (arith, common_steps) in
    let fit : IsTrue c.have_words.result = grind (arith, common_steps) in
    has-words c.args.consts.now c.args.places.now c.args.store.now c.args.id (c.is_plain.ensures.shared plain) (c.have_words.ensures fit) (c.is_plain.ensures.id plain) (c.is_plain.ensures.free plain)
