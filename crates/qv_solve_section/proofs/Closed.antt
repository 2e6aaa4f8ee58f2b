-- Sections that end.
use Rattle.std.proofs.Common.{◌≡◌, ℕ, true, false, Ok, Err, Result, Option, None, List, [], ◌∷◌, refl, sym, ap, subst, ◌∙◌, inl, inr}
use Rattle.std.specs.Prelude.{◌≤◌, IfErr, IfOk, is_none}
use Rattle.qv_words.specs.declared.op.Answer.{Answer}
use Rattle.qv_words.specs.declared.op.Answer.TheVariants.{Sat, Unsat, Unknown}
use Rattle.qv_words.specs.Tree.{Tree}
use Rattle.qv_words.specs.Clauses.{cnf_variables}
use Rattle.qv_words.specs.Problem.{Problem}
use Rattle.qv_rewrite_passes.specs.declared.pass.Pass.{Pass}
use Rattle.qv_rewrite_passes.specs.Passes.{behind_all, EachChanges, IsBehind}
use Rattle.qv_meter.specs.declared.faults.PlayFault.{PlayFault}
use Rattle.qv_meter.specs.declared.faults.PlayFault.TheVariants.{Spent, NoMemory}
use Rattle.qv_meter.specs.declared.records.SpentKind.TheVariants.{Conflicts, Instances, Variables}
use Rattle.qv_meter.specs.Charging.{OfNewest}
use Rattle.qv_meter.specs.Records.{IsLaneOf, Metering, in_lane}
use Rattle.qv_meter.specs.Units.{Final}
use Rattle.qv_cert.specs.ClauseList.{clause_list}
use Rattle.qv_cert.specs.Line.{CertLine}
use Rattle.qv_cert.specs.Listed.{Listed, listed_by}
use Rattle.qv_cert.specs.Section.{first_list, is_missing}
use Rattle.qv_cert.specs.Shown.{IsListOf}
use Rattle.qv_cert_formulas.specs.Starts.{MayStart}
use Rattle.qv_solve_write_laws.specs.WritingLaws.{AreLinesOf}
use Rattle.qv_solve_refute.specs.Greatest.{greatest_variable}
use Rattle.qv_solve_refute.specs.Refuting.{IsForFinal, IsMeasured, variable_limit}
use Rattle.qv_solve_section.specs.Measured.{EachIsForFinal, IsFaultBehind}
use Rattle.qv_solve_section.specs.Sections.{formulas_of, task_of, IsClosed, IsCounted, IsProofOf, IsRefuted}
use Rattle.qv_cert.proofs.Accepting.{not-missing}
use Rattle.qv_solve_refute.proofs.Owed.{some-weaker}

-- ---- a section that may start

pub may-start : (p : Problem) (answer : Answer) (l : Listed) → IsListOf p answer l → MayStart p answer l
may-start p Sat l h = h.each
may-start p Unsat l h = h
may-start p Unknown l h = tt

-- so nothing is missing
pub never-missing : {A : Type 0} (o : Option A) (p : Problem) (answer : Answer) (l : Listed) → IsListOf p answer l → is_none o ≡ is_missing p answer l → o ≡ None → ⊥
never-missing o p answer l h e none = contra (sym (not-missing p answer l h) ∙ sym e ∙ ap is_none none)
  where
    contra : false ≡ true → ⊥
    contra k = absurd cc

-- ---- it is a section

proof-of : (p : Problem) (number : ℕ) (answer : Answer) (limit : ℕ) (given lines : List CertLine) → AreLinesOf p answer given → IsListOf p answer (listed_by p given) → IsClosed p number answer limit given lines → IsProofOf (task_of p number) answer lines
proof-of p number answer limit given lines own listed h = record {
  given = given;
  passes = h.passes;
  belong = own.belong;
  lawful = own.lawful;
  version = inr refl;
  listed = listed;
  refuted = h.refuted;
}

-- with the greatest variable of its clauses
counted-of : (p : Problem) (number : ℕ) (answer : Answer) (limit : ℕ) (given lines : List CertLine) (variables : ℕ) → AreLinesOf p answer given → IsListOf p answer (listed_by p given) → (h : IsClosed p number answer limit given lines)
    → variables ≡ greatest_variable (clause_list (behind_all h.passes (formulas_of p answer given))) → IsCounted (task_of p number) answer lines variables
unfolding proof-of
counted-of p number Sat limit given lines variables own listed h count = record { section = proof-of p number Sat limit given lines own listed h; counted = count }
counted-of p number Unsat limit given lines variables own listed h count = record { section = proof-of p number Unsat limit given lines own listed h; counted = count }
counted-of p number Unknown limit given lines variables own listed h count = absurd listed

-- ---- of an answer that may be a fault

closed-one : (p : Problem) (number : ℕ) (answer : Answer) (limit : ℕ) (given lines : List CertLine) (l : Listed) (passes : List Pass) (last : List Tree) → l ≡ listed_by p given → EachChanges passes (first_list p answer l) → last ≡ behind_all passes (first_list p answer l)
    → IsRefuted number answer given passes last lines → cnf_variables last ≤ limit → IsClosed p number answer limit given lines
closed-one p number answer limit given lines l passes last same changes is h few =
    let own : last ≡ behind_all passes (formulas_of p answer given) = is ∙ ap (λ (k : Listed). behind_all passes (first_list p answer k)) same in
    record {
      passes = passes;
      changes = subst (λ (k : Listed). EachChanges passes (first_list p answer k)) same changes;
      within = subst (λ (fs : List Tree). cnf_variables fs ≤ limit) own few;
      refuted = subst (λ (fs : List Tree). IsRefuted number answer given passes fs lines) own h;
    }

pub closed-ok : {A : Type 0} (said : A → List CertLine) (p : Problem) (number : ℕ) (answer : Answer) (m lane : Metering) (given : List CertLine) (l : Listed) (passes : List Pass) (last : List Tree) (r : Result A PlayFault) → lane ≡ in_lane Final m → l ≡ listed_by p given
    → EachChanges passes (first_list p answer l) → last ≡ behind_all passes (first_list p answer l) → IfOk r (λ x. IsRefuted number answer given passes last (said x)) → IsMeasured lane last r
    → IfOk r (λ x. IsClosed p number answer (variable_limit m) given (said x))
closed-ok said p number answer m lane given l passes last (Err f) e same changes is h measured = tt
closed-ok said p number answer m lane given l passes last (Ok x) e same changes is h measured =
    closed-one p number answer (variable_limit m) given (said x) l passes last same changes is h (subst (λ (k : Metering). cnf_variables last ≤ variable_limit k) e measured)

pub counted-ok : {A : Type 0} (said : A → List CertLine) (variables : A → ℕ) (p : Problem) (number : ℕ) (answer : Answer) (lane : Metering) (given : List CertLine) (l : Listed) (passes : List Pass) (last : List Tree) (r : Result A PlayFault) → l ≡ listed_by p given
    → EachChanges passes (first_list p answer l) → last ≡ behind_all passes (first_list p answer l) → AreLinesOf p answer given → IsListOf p answer (listed_by p given)
    → IfOk r (λ x. IsRefuted number answer given passes last (said x)) → IsMeasured lane last r → IfOk r (λ x. variables x ≡ greatest_variable (clause_list last)) → IfOk r (λ x. IsCounted (task_of p number) answer (said x) (variables x))
unfolding closed-one
counted-ok said variables p number answer lane given l passes last (Err f) same changes is own listed h measured count = tt
counted-ok said variables p number answer lane given l passes last (Ok x) same changes is own listed h measured count =
    counted-of p number answer (variable_limit lane) given (said x) (variables x) own listed (closed-one p number answer (variable_limit lane) given (said x) l passes last same changes is h measured)
    (count ∙ ap (λ (fs : List Tree). greatest_variable (clause_list fs)) (is ∙ ap (λ (k : Listed). behind_all passes (first_list p answer k)) same))

-- ---- what may be charged, and what was measured

-- the list without passes names the lane
pub owed-lane : (m : Metering) (first : List Tree) → EachIsForFinal m first → OfNewest m (λ r k. IsLaneOf k.problem Final)
owed-lane m first owed = some-weaker m.newest _ _ (λ r held. some-weaker r.kept _ _ (λ k g. tt) held) (owed first ([], refl))

behind-first : (p : Problem) (answer : Answer) (given : List CertLine) (l : Listed) (passes : List Pass) (last : List Tree) → l ≡ listed_by p given → last ≡ behind_all passes (first_list p answer l) → IsBehind (formulas_of p answer given) last
behind-first p answer given l passes last same is = (passes, is ∙ ap (λ (k : Listed). behind_all passes (first_list p answer k)) same)

pub behind-owed : (m lane : Metering) (p : Problem) (answer : Answer) (given : List CertLine) (l : Listed) (passes : List Pass) (last : List Tree) → lane ≡ in_lane Final m → l ≡ listed_by p given → last ≡ behind_all passes (first_list p answer l) →
    EachIsForFinal m (formulas_of p answer given) → IsForFinal lane last
behind-owed m lane p answer given l passes last e same is owed =
    let own : IsForFinal (in_lane Final m) last = owed last (behind-first p answer given l passes last same is) in
    subst (λ (x : Metering). IsForFinal x last) (sym e) own

fault-of : {A : Type 0} (m : Metering) (first : List Tree) (passes : List Pass) (r : Result A PlayFault) → EachChanges passes first → IsMeasured (in_lane Final m) (behind_all passes first) r → IfErr r (IsFaultBehind m first)
fault-of m first passes (Ok x) changes h = tt
fault-of m first passes (Err NoMemory) changes h = tt
fault-of m first passes (Err (Spent Conflicts)) changes h = (passes, changes, h)
fault-of m first passes (Err (Spent Instances)) changes h = h
fault-of m first passes (Err (Spent Variables)) changes h = (passes, changes, h)

pub behind-fault : {A : Type 0} (m lane : Metering) (p : Problem) (answer : Answer) (given : List CertLine) (l : Listed) (passes : List Pass) (last : List Tree) (r : Result A PlayFault) → lane ≡ in_lane Final m → l ≡ listed_by p given →
    EachChanges passes (first_list p answer l) → last ≡ behind_all passes (first_list p answer l) → IsMeasured lane last r → IfErr r (IsFaultBehind m (formulas_of p answer given))
behind-fault m lane p answer given l passes last r e same changes is h =
    fault-of m (formulas_of p answer given) passes r (subst (λ (k : Listed). EachChanges passes (first_list p answer k)) same changes)
    (subst (λ (fs : List Tree). IsMeasured (in_lane Final m) fs r) (is ∙ ap (λ (k : Listed). behind_all passes (first_list p answer k)) same) (subst (λ (x : Metering). IsMeasured x last r) e h))
