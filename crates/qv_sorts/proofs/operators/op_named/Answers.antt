use Rattle.std.proofs.Common.{◌≡◌, ◌∙◌, ap, ok_or}
use Rattle.std.specs.Result.{result_ok}
use Rattle.qv_sorts.specs.Names.{name_of}
use Rattle.qv_sorts.specs.declared.operators.NameFault.TheVariants.{Indices}
use Rattle.qv_sorts.proofs.Distinct.{IsRefit, refit-named, refit-none}
use Rattle.qv_sorts.proofs.operators.op_named.Goals as goal

pub returns-clause-named : goal.returns-clause-named
returns-clause-named c =
    let named : name_of c.in_ok-op.op ≡ c.args.name.now = rw c.in_ok-op.ensures.ok_part at c.plain_named.ensures.found in
    let refit : IsRefit c.args.indices.now c.in_ok-op.op c.with_indices.result = record { some = c.with_indices.ensures.some; none = c.with_indices.ensures.none } in
    λ o. let one = refit-named c.args.name.now c.args.indices.now c.in_ok-op.op c.with_indices.result named refit o in (
      λ h. one.0 (c.ok_or-2.ensures.ok_part ∙ ap result_ok h),
      λ h. c.ok_or-2.ensures.value ∙ ap (λ fit. ok_or fit Indices) (one.1 h),
    )

pub returns-clause-indices : goal.returns-clause-indices
returns-clause-indices c =
    let named : name_of c.in_ok-op.op ≡ c.args.name.now = rw c.in_ok-op.ensures.ok_part at c.plain_named.ensures.found in
    let refit : IsRefit c.args.indices.now c.in_ok-op.op c.with_indices.result = record { some = c.with_indices.ensures.some; none = c.with_indices.ensures.none } in
    let other = refit-none c.args.name.now c.args.indices.now c.in_ok-op.op c.with_indices.result named refit in (
      λ h. other.0 (c.ok_or-2.ensures.ok_part ∙ ap result_ok h),
      λ h. c.ok_or-2.ensures.value ∙ ap (λ fit. ok_or fit Indices) (other.1 h),
    )
