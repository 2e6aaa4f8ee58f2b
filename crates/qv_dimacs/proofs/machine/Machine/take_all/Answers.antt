use Rattle.std.proofs.Common.{ℕ, ◌+◌, List, ◌++◌, drop, get_or, subst, sym, ◌∙◌, arith}
use Rattle.std.proofs.lemmas.List.{at_drop_more}
use Rattle.std.proofs.lemmas.Result.{err_from_is_err_and}
use Rattle.qv_dimacs.specs.Clauses.{Said}
use Rattle.qv_dimacs.specs.Machine.{run}
use Rattle.qv_dimacs.specs.View.{state_of, Halts}
use Rattle.qv_dimacs.proofs.PieceLemmas.{steps_on, steps_halt}
use Rattle.qv_dimacs.proofs.machine.Machine.take_all.Goals as goal

pub loop-byte-preserved : goal.loop-byte-preserved
loop-byte-preserved c =
    let l = c.loop-byte in (
      λ text.
          l.invariant.0 text
          ∙ at_drop_more (λ (xs : List ℕ). run (state_of l.self) (xs ++ text)) c.args.piece.now l.byte-index 0 (omega arith)
          ∙ steps_on (state_of l.self) (state_of c.take.new.self) (get_or c.args.piece.now l.byte-index 0) (drop (l.byte-index + 1) c.args.piece.now ++ text) c.in_ok-take.ensures.step,
      omega (arith, l.invariant.1, c.in_ok-take.ensures.place),
    )

pub returns-in_err-take-clause-taken : goal.returns-in_err-take-clause-taken
returns-in_err-take-clause-taken c =
    let l = c.loop-byte in
    let p = err_from_is_err_and c.from_residual.result c.from_residual.ensures.1 in
    rw (p.1, p.2) (λ text.
    subst (λ (said : Said). Halts c.in_err-take.field-0.0 (state_of c.take.new.self) said)
    (sym (l.invariant.0 text ∙ at_drop_more (λ (xs : List ℕ). run (state_of l.self) (xs ++ text)) c.args.piece.now l.byte-index 0 (omega arith)))
    (steps_halt (state_of l.self) (state_of c.take.new.self) c.in_err-take.field-0.0 (get_or c.args.piece.now l.byte-index 0) (drop (l.byte-index + 1) c.args.piece.now) text c.in_err-take.ensures.step))
