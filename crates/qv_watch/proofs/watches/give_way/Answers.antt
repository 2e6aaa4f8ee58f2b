use Rattle.std.proofs.Common.{◌≡◌, length, refl, sym, ◌∙◌, ap, arith, inl, inr, Some, set}
use Rattle.std.specs.List.{slice_get}
use Rattle.std.proofs.lemmas.Bool.{cases_eq}
use Rattle.std.proofs.lemmas.Option.{same_Some, slice_get_read}
use Rattle.qv_watch.proofs.Lists.{slice_get-set_other}
use Rattle.qv_watch.proofs.Placing.{slice_get-set_here}
use Rattle.qv_watch.specs.declared.watches.Pair.{Pair}
use Rattle.qv_watch.proofs.watches.give_way.Goals as goal

pub returns : goal.returns
returns c k p h =
    let pairs = c.args.pairs.now in
    let at = c.args.place in
    let old = c.index-pairs-place.result in
    let new : Pair = record { first = old.first; second = old.second; third = old.first; fourth = old.second } in
    elim (cases_eq k at) [
      | inl same ↦
          let is : old ≡ p = same_Some old p (sym (slice_get_read pairs (length pairs) at old refl (omega arith) c.index-pairs-place.is) ∙ ap (slice_get pairs) (sym same) ∙ h) in
          inr (ap (slice_get (set pairs at new)) same ∙ slice_get-set_here pairs at new (omega arith) ∙ ap (λ (q : Pair). Some record { first = q.first; second = q.second; third = q.first; fourth = q.second }) is)
      | inr far ↦ inl (slice_get-set_other pairs at new k far ∙ h)
    ]
