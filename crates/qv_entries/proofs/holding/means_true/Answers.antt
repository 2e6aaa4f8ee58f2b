use Rattle.std.proofs.Common.{ℕ, [], subst, sym}
use Rattle.std.specs.List.{slice_get}
use Rattle.qv_words.specs.Word.{values_of}
use Rattle.qv_words.specs.Meaning.{Means}
use Rattle.qv_store.specs.Nodes.{tree_at}
use Rattle.qv_entries.proofs.Firsts.{told}
use Rattle.qv_entries.proofs.holding.means_true.Goals as goal

pub returns-in-Some-clause-there : goal.returns-in-Some-clause-there
returns-in-Some-clause-there c =
    let point = values_of c.args.point.now in
    let part = tree_at c.args.store.now c.args.part in
    told point part c.value.result (subst (λ (n : ℕ). Means [] (slice_get point) part n) (sym c.value.ensures) c.in-Some.ensures.value)
