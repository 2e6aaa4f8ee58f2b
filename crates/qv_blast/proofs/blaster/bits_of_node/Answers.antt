use Rattle.std.proofs.Common.{◌≡◌, List, map, ap, Bor, Err}
use Rattle.std.proofs.lemmas.Result.{err_from_is_err_and}
use Rattle.qv_cnf.specs.Literal.{Literal}
use Rattle.qv_circuits.specs.Adding.{lits_of}
use Rattle.qv_blast.specs.declared.faults.BlastFault.TheVariants.{TooManyVariables}
use Rattle.qv_blast.proofs.Lookups.{fused}
use Rattle.qv_blast.proofs.blaster.bits_of_node.Goals as goal

pub circuit-requires : goal.circuit-requires
circuit-requires c =
    let args = c.in_ok-args-in-App.args.items in
    let h = rw c.as_slice.ensures at c.in_ok-args-in-App.ensures in
    let may = rw c.in-App.is at c.requires.may in
    rw (c.deref.ensures.value, ← fused lits_of (λ (v : Bor (List Literal)). v.now) args) (may _ h)

pub returns-in_ok-made-in-App-clause-ok : goal.returns-in_ok-made-in-App-clause-ok
returns-in_ok-made-in-App-clause-ok c =
    let args = c.in_ok-args-in-App.args.items in
    let items : Bor (List Literal) → List Literal = λ v. v.now in
    let h = rw c.as_slice.ensures at c.in_ok-args-in-App.ensures in
    let made = c.in_ok-made-in-App.ensures in
    rw c.in-App.is (record {
      args = map items args;
      found = h;
      makes = record {
        bits_are = rw (c.deref.ensures.value, ← fused lits_of items args) at made.result;
        clauses = rw (c.deref.ensures.value, ← fused lits_of items args) at made.clauses;
        variables = rw (c.deref.ensures.value, ← fused lits_of items args) at made.next;
      };
    })

pub returns-in_err-made-in-App-clause-over : goal.returns-in_err-made-in-App-clause-over
returns-in_err-made-in-App-clause-over c e =
    let args = c.in_ok-args-in-App.args.items in
    let items : Bor (List Literal) → List Literal = λ v. v.now in
    let h = rw c.as_slice.ensures at c.in_ok-args-in-App.ensures in
    let p = err_from_is_err_and c.from_residual-in_err-made-in-App.result c.from_residual-in_err-made-in-App.ensures.1 in
    let is : c.in_err-made-in-App.field-0.0 ≡ TooManyVariables = let q = p.1 in let r = p.2 in cc in
    let over = rw (c.deref.ensures.value, ← fused lits_of items args) at c.in_err-made-in-App.ensures.over in
    rw c.in-App.is (record { args = map items args; found = h; over = over (ap Err is) })
