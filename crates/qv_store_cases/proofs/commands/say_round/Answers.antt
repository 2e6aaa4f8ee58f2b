use Rattle.std.proofs.Common.{◌<◌, length, subst, sym, arith}
use Rattle.std.proofs.lemmas.Grind.{common_steps}
use Rattle.qv_words.specs.Sorted.{IsSorted}
use Rattle.qv_store_cases.proofs.commands.say_round.Goals as goal

pub say_planted-requires : goal.say_planted-requires
say_planted-requires c =
    let low : c.args.id < length c.args.store.now = grind (arith, common_steps) in
    subst IsSorted (sym c.in-Ok.ensures) (c.len.ensures.shared.sorted c.args.id low)
