use Rattle.std.proofs.Common.{ℕ, suc, List, subst, arith}
use Rattle.std.specs.List.{All, AllByRecursion}
use Rattle.std.proofs.lemmas.List.Elements.{All-from_recursion, recursion_from_All}
use Rattle.qv_words.specs.PassLaws.{IsPlain}
use Rattle.qv_words.specs.Gate.{Lit}
use Rattle.qv_words.specs.Clauses.{Blasted, first_blasting, cnf, cnf_variables}
use Rattle.qv_circuits_laws.specs.CircuitLaws.{IsBefore}
use Rattle.qv_circuits_laws.specs.ClauseLaws.{standing, blasted, IsOfFirst, HasWord}
use Rattle.qv_circuits_laws.proofs.Growing.{next-behind}
use Rattle.qv_circuits_laws.specs.Standing.{Placed}
use Rattle.qv_circuits_laws.proofs.Standing.{first-stands}
use Rattle.qv_circuits_laws.proofs.Listed.{formulas-stand}
use Rattle.qv_circuits_laws.proofs.Grounds.{clause-laws}
use Rattle.qv_circuits_laws.proofs.clauses.clause_lists_are_well_formed.Goals as goal
use Rattle.qv_words.proofs.Elements.{all-weaker}

of-first : (n : ℕ) (l : Lit) → IsBefore (suc n) l → IsOfFirst n l
of-first n l h = record { some = h.some; within = omega (arith, h.earlier) }

all-of_first : (n : ℕ) (lits : List Lit) → AllByRecursion (IsBefore (suc n)) lits → All (IsOfFirst n) lits
all-of_first n lits h = All-from_recursion (IsOfFirst n) lits (all-weaker (IsBefore (suc n)) (IsOfFirst n) lits (of-first n) h)

has-word : (n : ℕ) (k : Blasted) → Placed (suc n) k → HasWord n k
has-word n k h = record { sort = h.sort; is = h.is; bit_count = h.word.bit_count; variables = all-of_first n k.bits h.word.earlier }

pub returns : goal.returns
unfolding cnf
returns _ formulas plain =
    let n = cnf_variables formulas in
    let b = standing formulas in
    let stands = formulas-stand clause-laws.formed clause-laws.sorts first_blasting formulas (recursion_from_All IsPlain formulas plain) first-stands in
    let next = (next-behind formulas).1 in (
      All-from_recursion (All (IsOfFirst n)) b.clauses
          (all-weaker (AllByRecursion (IsBefore (suc n))) (All (IsOfFirst n)) b.clauses (all-of_first n) (subst (λ (m : ℕ). AllByRecursion (AllByRecursion (IsBefore m)) b.clauses) next stands.clauses)),
      All-from_recursion (HasWord n) (blasted formulas)
          (all-weaker (Placed (suc n)) (HasWord n) (blasted formulas) (has-word n) (subst (λ (m : ℕ). AllByRecursion (Placed m) (blasted formulas)) next stands.known)),
    )
