use Rattle.std.proofs.Common.{◌≡◌, ◌∙◌, arith}
use Rattle.qv_circuits.specs.declared.faults.CircuitFault.TheVariants.{TooManyVariables}
use Rattle.qv_circuits.proofs.Added.{ran-id, ran-limit, ran-list, ran-next, ran-result, wanted}
use Rattle.qv_blast.proofs.building.build.Goals as goal

pub returns-in-Ok-clause-result : goal.returns-in-Ok-clause-result
returns-in-Ok-clause-result c =
    let h = rw (c.new-encoder.ensures, c.replace-list.ensures.value, c.in_ok-reserve.ensures) at c.in-Ok.ensures in
    ran-result _ h

pub returns-in-Ok-clause-added : goal.returns-in-Ok-clause-added
returns-in-Ok-clause-added c =
    let h = rw (c.new-encoder.ensures, c.replace-list.ensures.value, c.in_ok-reserve.ensures) at c.in-Ok.ensures in
    record {
      clauses = c.finish-list.ensures.list ∙ ran-list _ h;
      variables = c.finish-list.ensures.next ∙ ran-next _ h;
      ids = c.finish-list.ensures.id ∙ ran-id _ h;
    }

pub returns-in-Ok-clause-within : goal.returns-in-Ok-clause-within
returns-in-Ok-clause-within c =
    let h = rw (c.new-encoder.ensures, c.replace-list.ensures.value, c.in_ok-reserve.ensures) at c.in-Ok.ensures in
    omega (arith, c.finish-list.ensures.next, c.finish-list.ensures.within, ran-limit _ h)

pub returns-in-Err-clause-over : goal.returns-in-Err-clause-over
returns-in-Err-clause-over c e =
    let h = rw (c.new-encoder.ensures, c.replace-list.ensures.value, c.in_ok-reserve.ensures) at c.in-Err.ensures in
    let is : c.in-Err.fault ≡ TooManyVariables = cc in
    wanted _ h is
