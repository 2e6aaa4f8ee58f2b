use Rattle.std.proofs.Common.{◌≤◌, length, sym, subst, arith}
use Rattle.std.specs.Prelude.{Result, Err}
use Rattle.qv_elab_defs.specs.Faults.{Fault}
use Rattle.qv_elab_defs.specs.Heads.{Head}
use Rattle.qv_elab_scope.specs.Headed.{IsTold}
use Rattle.std.proofs.lemmas.Bool.Decides.{nat_tests}
use Rattle.qv_elab_items.proofs.Wanting.{numbers-length}
use Rattle.qv_elab_scope.proofs.NamedHeads.{bare-some}
use Rattle.qv_elab_scope.proofs.heads.bare.Goals as goal

pub returns-else-is_empty : goal.returns-else-is_empty
returns-else-is_empty c = λ ns h meant defs at e p k.
    let count = numbers-length c.args.text.now c.args.numerals.now ns e in
    let some : 1 ≤ length c.args.numerals.now = grind (arith, nat_tests, c.is_empty.ensures, c.if-is_empty.false) in
    subst (λ (r : Result Head Fault). IsTold defs at r (Err c.no_indices.result)) (sym (bare-some h meant c.args.place ns p (omega (arith, count, some))))
    (c.no_indices.ensures ns defs at e)
