-- What an accepted section says of the formulas.
use Rattle.std.proofs.Common.{ℕ, suc, List, ◌++◌, Option, Some, None}
use Rattle.std.specs.Prelude.{All, IsSome}
use Rattle.qv_io.specs.Source.{TellsAsBefore}
use Rattle.qv_words.specs.declared.op.Answer.TheVariants.{Sat, Unsat}
use Rattle.qv_words.specs.Tree.{Tree}
use Rattle.qv_words.specs.Truth.{IsAssertion, AreTrue, HaveOneSort}
use Rattle.qv_cert.specs.Text.{text_of}
use Rattle.qv_cert.specs.CertReader.{to_give}
use Rattle.qv_cert.specs.Section.{Opening}
use Rattle.qv_check_laws.specs.AnswerLaws.{task_of}
use Rattle.qv_check_laws.proofs.Answers.{sat-is-true, unsat-is-true}
use Rattle.qv_check_lines.specs.declared.verdict.Verdict.TheVariants.{Accepted}
use Rattle.qv_check_lines.specs.Judging.{IsVerdictFrom}

pub sat-shown : (formulas : List Tree) (number version given now : ℕ) (rest behind : List ℕ) (old new : Option (List ℕ)) → All IsAssertion formulas → HaveOneSort formulas → TellsAsBefore old new → IsSome old
    → IsVerdictFrom (task_of formulas number version) Opening given (to_give rest old) now (to_give behind new) (Accepted Sat) → AreTrue formulas
sat-shown formulas number version given now rest behind None new lawful one tells told h = absurd cc
sat-shown formulas number version given now rest behind (Some bytes) None lawful one tells told h = absurd cc
sat-shown formulas number version given now rest behind (Some bytes) (Some more) lawful one tells told h =
    sat-is-true formulas number version (suc given) (suc now) (text_of (rest ++ bytes)).lines (text_of (behind ++ more)).lines lawful one h.0

pub unsat-shown : (formulas : List Tree) (number version given now : ℕ) (rest behind : List ℕ) (old new : Option (List ℕ)) → All IsAssertion formulas → HaveOneSort formulas → TellsAsBefore old new → IsSome old
    → IsVerdictFrom (task_of formulas number version) Opening given (to_give rest old) now (to_give behind new) (Accepted Unsat) → AreTrue formulas → ⊥
unsat-shown formulas number version given now rest behind None new lawful one tells told h = absurd cc
unsat-shown formulas number version given now rest behind (Some bytes) None lawful one tells told h = absurd cc
unsat-shown formulas number version given now rest behind (Some bytes) (Some more) lawful one tells told h =
    unsat-is-true formulas number version (suc given) (suc now) (text_of (rest ++ bytes)).lines (text_of (behind ++ more)).lines lawful one h.0
