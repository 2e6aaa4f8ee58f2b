use Rattle.std.proofs.Common.{◌<◌, length, sym, arith}
use Rattle.std.proofs.lemmas.List.{length-map}
use Rattle.qv_words.proofs.Ranks.{few_arguments}
use Rattle.qv_store.specs.Facts.{sorts_at, facts_at}
use Rattle.qv_store.proofs.facts.application_sort.Goals as goal

pub returns-in-len4-up : goal.returns-in-len4-up
returns-in-len4-up c =
    let sorts = sorts_at c.args.before.now c.args.kids.now in
    let many : 3 < length sorts = omega (arith, c.in-len4-up.len_at_least, length-map c.args.kids.now (λ n. (facts_at c.args.before.now n).sort)) in
    sym (few_arguments c.args.op sorts many)
