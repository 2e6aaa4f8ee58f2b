-- Each Skolem section and each expansion list can be written.
use Rattle.std.specs.Prelude.{◌≡◌, List, [], IsTrue, All}
use Rattle.qv_words.specs.declared.op.Answer.{Answer}
use Rattle.qv_words.specs.declared.op.Answer.TheVariants.{Sat, Unsat}
use Rattle.qv_words.specs.Problem.{Problem}
use Rattle.qv_words.specs.Skolem.{SkolemTerm, SkolemOk}
use Rattle.qv_words.specs.Expansion.{ExpansionLine, IsExpansion}
use Rattle.qv_cert.specs.Line.{CertLine}
use Rattle.qv_cert.specs.Listed.{listed_by, nothing}
use Rattle.qv_cert.specs.Faults.{belongs}
use Rattle.qv_cert.specs.Shown.{HaveNoFault}
use Rattle.qv_solve_write_laws.specs.Writing.{expansion_lines, term_lines}

-- the lines may stand in a section of this answer, and none has a fault
pub record AreLinesOf (p : Problem) (answer : Answer) (lines : List CertLine) : Type 0 where
  pub belong : All (λ line. IsTrue (belongs answer line)) lines
  pub lawful : HaveNoFault p nothing lines

-- the lines of terms list these terms
abbrev pub TermsAreWritten : Type 0
TermsAreWritten =
    (p : Problem) (terms : List SkolemTerm) → SkolemOk p terms →
    AreLinesOf p Sat (term_lines [] terms) × ((listed_by p (term_lines [] terms)).terms ≡ terms)

-- and those of an expansion list list it
abbrev pub TreesAreWritten : Type 0
TreesAreWritten =
    (p : Problem) (lines : List ExpansionLine) → IsExpansion p lines →
    AreLinesOf p Unsat (expansion_lines 1 [] lines) × ((listed_by p (expansion_lines 1 [] lines)).lines ≡ lines)
