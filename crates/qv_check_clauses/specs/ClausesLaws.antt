-- What pins the clauses of a section down.
use Rattle.std.specs.Prelude.{◌≡◌, ℕ, List}
use Rattle.qv_words.specs.declared.op.Answer.{Answer}
use Rattle.qv_cnf.specs.Listing.{clauses_of}
use Rattle.qv_cert.specs.ClauseList.{clause_list}
use Rattle.qv_cert.specs.Section.{Task}
use Rattle.qv_cert.specs.Shown.{IsProof, last_list}
use Rattle.qv_check_lines.specs.Refuted.{refuted_in}

-- they are the clause list of the formulas that an accepted section comes to, which its refutation
-- refutes
abbrev pub ClausesAreRefuted : Type 0
ClausesAreRefuted =
    (task : Task) (answer : Answer) (texts : List (List ℕ)) (p : IsProof task answer texts) →
    refuted_in task texts ≡ clauses_of (clause_list (last_list task.problem answer p.given p.passes))
