use Rattle.std.proofs.Common.{◌≡◌, ℕ, ◌++◌, List, [], ◌∷◌, sym, ◌∙◌, subst}
use Rattle.qv_words.specs.Linked.{Entry}
use Rattle.qv_entries.specs.Rows.{entries_in}
use Rattle.qv_meter.specs.Units.{LineUnit}
use Rattle.qv_meter.specs.Charging.{MayChargeInstance}
use Rattle.qv_skolem.proofs.GrownEntries.{entries-grown}
use Rattle.qv_expand.proofs.growing.Growing.instance.Goals as goal

pub charge-requires : goal.charge-requires
charge-requires c =
    let old = c.args.store.now in
    let new = c.put_in.new.self in
    let same : entries_in new c.args.entries.now ≡ entries_in old c.args.entries.now = entries-grown old new c.put_in.ensures.grows c.args.entries.now c.requires.rows in
    let path : c.deref-2.result.now ≡ c.args.self.now.under.items ++ c.args.number ∷ [] = c.deref-2.ensures.value ∙ c.in_ok-push_line.ensures.under ∙ c.in_ok-push.ensures.items in
    subst (λ (us : List ℕ). MayChargeInstance c.args.meter.now (LineUnit (entries_in new c.args.entries.now) us)) (sym path)
    (subst (λ (es : List Entry). MayChargeInstance c.args.meter.now (LineUnit es (c.args.self.now.under.items ++ c.args.number ∷ []))) (sym same) c.requires.unit)
