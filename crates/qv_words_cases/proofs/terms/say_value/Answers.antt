use Rattle.std.proofs.Common.{◌≡◌, IsTrue, false, is_err, arith}
use Rattle.std.proofs.lemmas.Grind.{common_steps}
use Rattle.qv_words_cases.proofs.Arguments.{sorted-found}
use Rattle.qv_words_cases.proofs.terms.say_value.Goals as goal

pub eval-requires-clause-sorted : goal.eval-requires-clause-sorted
eval-requires-clause-sorted c =
    let plain : IsTrue c.is_plain.result = grind (arith, common_steps) in
    let has : IsTrue c.has_words.result = grind (arith, common_steps) in
    let found : is_err c.sort_of.result ≡ false = grind (arith, common_steps) in
    sorted-found _ _ c.args.term.now c.sort_of.result (c.is_plain.ensures plain) (c.has_words.ensures has) c.sort_of.ensures.sort found
