use Rattle.std.proofs.Common.{Some, List, ℕ, subst}
use Rattle.std.specs.Prelude.{IfOk, IfSome, Result}
use Rattle.qv_check_script.specs.declared.ending.Ending.{Ending}
use Rattle.qv_check_script.specs.declared.ending.Halt.{Halt}
use Rattle.qv_check_trim.specs.Printing.{IsOutcome}
use Rattle.qv_check_clauses.proofs.checking.check.Goals as goal

pub returns-in-Ok : goal.returns-in-Ok
returns-in-Ok c =
    let cert = c.args.cert.now in
    let printed = c.in_ok-checked.checked.printed.items in
    let done = subst (λ (r : Result Ending Halt). IfOk r (λ ending. IfSome (Some c.new-script.result.left.now) (λ text. IsOutcome c.args.places text cert ending printed))) c.in-Ok.is c.in_ok-checked.ensures.checked.done in
    subst (λ (text : List ℕ). IsOutcome c.args.places text cert c.in-Ok.ending printed) c.new-script.ensures done
