use Rattle.std.proofs.Common.{ℕ, [], subst, sym}
use Rattle.std.specs.List.{slice_get}
use Rattle.qv_words.specs.Word.{values_of}
use Rattle.qv_words.specs.Meaning.{Means}
use Rattle.qv_store.specs.Nodes.{tree_at}
use Rattle.qv_entries.proofs.Firsts.{told}
use Rattle.qv_entries.proofs.holding.is_one.Goals as goal

pub returns-clause-there : goal.returns-clause-there
returns-clause-there c =
    let point = values_of c.args.point.now in
    let region = tree_at c.args.store.now c.args.region in
    told point region c.value.result (subst (λ (n : ℕ). Means [] (slice_get point) region n) (sym c.value.ensures) c.in_ok-word.ensures.word.value)
