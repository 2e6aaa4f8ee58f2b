-- A step of a refutation, by the checker's answer.
use Rattle.std.proofs.Common.{◌≡◌, true, false, sym, ap, ◌∙◌}
use Rattle.std.specs.Prelude.{Result, Ok, Err, OnOk}
use Rattle.qv_words.specs.declared.op.Answer.{Answer}
use Rattle.qv_cnf.specs.LratLine.{LratLine}
use Rattle.qv_cnf.specs.Refutation.{Standing, judged_line, after_line}
use Rattle.qv_rup.specs.declared.faults.StepFault.{StepFault}
use Rattle.qv_rup.specs.declared.faults.StepFault.TheVariants.{Order, Rat, Hint, Open, NoMemory}
use Rattle.qv_rup.specs.Judged.{IsJudged}
use Rattle.qv_cert.specs.Section.{GoesOn, Refuting, in_step, judged_step}
use Rattle.qv_cert_formulas.specs.Steps.{IsStepped}

-- any step goes where the clauses are refuted
pub refuted-goes : (answer : Answer) (s : Standing) (line : LratLine) → true ≡ s.refuted → in_step answer s line s.refuted ≡ GoesOn (Refuting answer s)
refuted-goes answer s line e = ap (in_step answer s line) (sym e)

pub stepped : (answer : Answer) (old new : Standing) (line : LratLine) (r : Result (Unit {0}) StepFault) → false ≡ old.refuted → IsJudged r (judged_line old line) → OnOk r (new ≡ after_line old line) → IsStepped answer old line r new
stepped answer old new line (Ok done) e judged is =
    ap (in_step answer old line) (sym e) ∙ ap (judged_step answer (Refuting answer (after_line old line))) judged ∙ ap (λ (s : Standing). GoesOn (Refuting answer s)) (sym is)
stepped answer old new line (Err Order) e judged is = ap (in_step answer old line) (sym e) ∙ ap (judged_step answer (Refuting answer (after_line old line))) judged
stepped answer old new line (Err (Rat hint)) e judged is = ap (in_step answer old line) (sym e) ∙ ap (judged_step answer (Refuting answer (after_line old line))) judged
stepped answer old new line (Err (Hint hint)) e judged is = ap (in_step answer old line) (sym e) ∙ ap (judged_step answer (Refuting answer (after_line old line))) judged
stepped answer old new line (Err Open) e judged is = ap (in_step answer old line) (sym e) ∙ ap (judged_step answer (Refuting answer (after_line old line))) judged
stepped answer old new line (Err NoMemory) e judged is = tt
