-- Accepted answers are true.
use Rattle.std.proofs.Common.{◌≡◌, ℕ, suc, ◌+◌, ◌≤◌, Some, List, [], ◌∷◌, map, ◌∙◌, Ok, Option, arith}
use Rattle.std.specs.Prelude.{All}
use Rattle.std.specs.List.{AllByRecursion, AllZip}
use Rattle.std.proofs.lemmas.List.Elements.{recursion_from_All, All-from_recursion}
use Rattle.qv_words.specs.declared.sort.Sort.TheVariants.{Bool as BoolSort}
use Rattle.qv_words.specs.Tree.{Tree, tree_sort}
use Rattle.qv_words.specs.Clauses.{cnf}
use Rattle.qv_words.specs.Gate.{Lit}
use Rattle.qv_words.specs.Sorted.{HasValues}
use Rattle.qv_words.specs.Meaning.{Means}
use Rattle.qv_words.specs.PassLaws.{IsPlain, StandsFor}
use Rattle.qv_words.specs.Skolem.{IsTermOf, goal_of}
use Rattle.qv_words.specs.Expansion.{IsEarlierEigen, grown_behind, leaves_of}
use Rattle.qv_words.specs.Sorted.{free_levels}
use Rattle.qv_words.specs.Problem.{Problem, Holds, problem_of}
use Rattle.qv_words.specs.GameLaws.{IsProblem, MakesAllTrue}
use Rattle.qv_words.specs.declared.op.Answer.{Answer}
use Rattle.qv_words.specs.declared.op.Answer.TheVariants.{Sat, Unsat, Unknown}
use Rattle.qv_words.proofs.Elements.{all-weaker, all-both_weaker}
use Rattle.qv_rewrite_passes.specs.declared.pass.Pass.{Pass}
use Rattle.qv_rewrite_passes.specs.Passes.{behind_all}
use Rattle.qv_rewrite_passes.proofs.Behind.{all-stand}
use Rattle.qv_cnf.specs.Listing.{Numbered, Rises}
use Rattle.qv_cnf.specs.LratLine.{LratLine}
use Rattle.qv_cnf.specs.Refutation.{Refutes, standing_at}
use Rattle.qv_cnf.proofs.Ordered.{IsOrdered}
use Rattle.qv_cnf.proofs.Refuted.{none_refuted}
use Rattle.qv_circuits_laws.proofs.Clausing.{clauses-theorem}
use Rattle.qv_circuits_laws.proofs.Grounds.{clause-laws}
use Rattle.qv_prenex_laws.proofs.PrenexRight.{prenex-theorem}
use Rattle.qv_prenex_laws.proofs.LawfulProblems.{problems-are-lawful}
use Rattle.qv_cert_section_laws.proofs.SkolemSound.{skolem-soundness}
use Rattle.qv_cert_section_laws.proofs.ExpansionSound.{expansion-soundness}
use Rattle.qv_cert_section_laws.proofs.SkolemByOneMore.{goals-are_terms}
use Rattle.qv_cert_section_laws.proofs.LawfulLines.{leaves-are_terms}
use Rattle.qv_cert.specs.ClauseList.{clause_list, numbered_from}
use Rattle.qv_cert.specs.Listed.{listed_by}
use Rattle.qv_cert.specs.Section.{Task, AcceptedUpTo, section_judged}
use Rattle.qv_cert.specs.Shown.{IsProof, IsSection}
use Rattle.qv_cert.specs.Line.{Header}
use Rattle.qv_cert.specs.Grammar.{Reading}
use Rattle.qv_cert.specs.Text.{text_of, first_line}
use Rattle.qv_cert.proofs.Bridge.{clauses-mean-the-same}
use Rattle.qv_cert.proofs.Sections.{accepted-are-sections}
use Rattle.qv_check_laws.specs.Verdict.{Script, Asks, Stops, Ends, AcceptedSection, answers_of, behind_header, verdict_on, verdict_from, verdict}
use Rattle.qv_check_laws.specs.VerdictLaws.{AsksOfProblems, AreSectionsFor}
use Rattle.qv_check_laws.proofs.Shows.{verdicts-show}
use Rattle.qv_check_laws.specs.AnswerLaws.{SatSectionsHold, UnsatSectionsFail, SatIsTrue, UnsatIsTrue, IsTrueOf, AreTrueFor, VerdictsAreTrue, task_of}

-- a plain formula of sort Bool
abbrev IsFormula : Tree → Type 0
IsFormula t = IsPlain t × (tree_sort t ≡ Some BoolSort)

term-formula : (t : Tree) → IsTermOf t BoolSort → IsFormula t
term-formula t h = (record { sorted = h.sorted; free = h.quantifier_free }, h.sort)

-- under values that make formulas true, what stands for them is true as well
abbrev IsTrueUnder : (ℕ → Option ℕ) → Tree → Type 0
IsTrueUnder e t = HasValues [] e t × Means [] e t 1

stand-formulas : (us ts : List Tree) → AllZip StandsFor us ts → AllByRecursion IsFormula ts → AllByRecursion IsFormula us
stand-formulas [] [] z h = tt
stand-formulas (u ∷ us) (t ∷ ts) z h = ((z.0.plain, z.0.sort ∙ h.0.1), stand-formulas us ts z.1 h.1)
stand-formulas [] (t ∷ ts) z h = tt
stand-formulas (u ∷ us) [] z h = absurd z

stand-true : (e : ℕ → Option ℕ) (us ts : List Tree) → AllZip StandsFor us ts → AllByRecursion (IsTrueUnder e) ts → AllByRecursion (IsTrueUnder e) us
stand-true e [] [] z h = tt
stand-true e (u ∷ us) (t ∷ ts) z h = ((z.0.values [] e h.0.0, z.0.keeps [] e 1 h.0.0 h.0.1), stand-true e us ts z.1 h.1)
stand-true e [] (t ∷ ts) z h = tt
stand-true e (u ∷ us) [] z h = absurd z

-- clauses that are numbered from an id on have ids that rise
numbered-rises : (low id : ℕ) (clauses : List (List Lit)) → low ≤ id → Rises low (map (λ (c : Numbered). c.id) (numbered_from id clauses))
numbered-rises low id [] h = tt
numbered-rises low id (c ∷ cs) h = (h, numbered-rises (id + 1) (suc id) cs (omega arith))

-- where the clauses of formulas are refuted, no values make all of them true
none-true : (formulas : List Tree) (steps : List LratLine) (e : ℕ → Option ℕ) → AllByRecursion IsFormula formulas → Refutes (clause_list formulas) steps
    → AllByRecursion (IsTrueUnder e) formulas → ⊥
none-true formulas steps e h refutes are_true =
    let plain : All IsPlain formulas = All-from_recursion IsPlain formulas (all-weaker IsFormula IsPlain formulas (λ t f. f.0) h) in
    let bools : All (λ t. tree_sort t ≡ Some BoolSort) formulas = All-from_recursion (λ t. tree_sort t ≡ Some BoolSort) formulas (all-weaker IsFormula (λ t. tree_sort t ≡ Some BoolSort) formulas (λ t f. f.1) h) in
    let values : All (HasValues [] e) formulas = All-from_recursion (HasValues [] e) formulas (all-weaker (IsTrueUnder e) (HasValues [] e) formulas (λ t f. f.0) are_true) in
    let means : All (λ t. Means [] e t 1) formulas = All-from_recursion (λ t. Means [] e t 1) formulas (all-weaker (IsTrueUnder e) (λ t. Means [] e t 1) formulas (λ t f. f.1) are_true) in
    let model = (clauses-theorem clause-laws formulas [] e plain bools values).0 means in
    let ordered : IsOrdered (standing_at (clause_list formulas)) = record { rises = numbered-rises 0 1 (cnf formulas) (omega arith); below = omega arith } in
    none_refuted (standing_at (clause_list formulas)) steps ordered refutes model.0 ((clauses-mean-the-same formulas model.0).1 model.2)

-- nor where that is so of what passes make of them
none-true-behind : (formulas : List Tree) (passes : List Pass) (steps : List LratLine) (e : ℕ → Option ℕ) → AllByRecursion IsFormula formulas
    → Refutes (clause_list (behind_all passes formulas)) steps → AllByRecursion (IsTrueUnder e) formulas → ⊥
none-true-behind formulas passes steps e h refutes are_true =
    let stand : AllZip StandsFor (behind_all passes formulas) formulas = all-stand passes formulas (all-weaker IsFormula IsPlain formulas (λ t f. f.0) h) in
    none-true (behind_all passes formulas) steps e (stand-formulas (behind_all passes formulas) formulas stand h) refutes
    (stand-true e (behind_all passes formulas) formulas stand are_true)

sat-proof : (task : Task) (texts : List (List ℕ)) → IsProblem task.problem → IsProof task Sat texts → Holds task.problem
sat-proof task texts problem h =
    let terms = (listed_by task.problem h.given).terms in
    let goal : Tree = goal_of task.problem terms in
    let formula : IsFormula goal = term-formula goal (goals-are_terms task.problem terms problem h.listed).0 in
    skolem-soundness task.problem terms problem h.listed
    (λ e values means. none-true-behind (goal ∷ []) h.passes h.steps e (formula, tt) h.refutes ((values, means), tt))

unsat-proof : (task : Task) (texts : List (List ℕ)) → IsProblem task.problem → IsProof task Unsat texts → Holds task.problem → ⊥
unsat-proof task texts problem h holds =
    let lines = (listed_by task.problem h.given).lines in
    let leaves : List Tree = leaves_of task.problem lines in
    let terms = leaves-are_terms task.problem lines problem h.listed in
    let formulas : AllByRecursion IsFormula leaves =
    all-weaker (λ t. IsTermOf t BoolSort × All (IsEarlierEigen (grown_behind task.problem [] lines)) (free_levels t)) IsFormula leaves (λ t f. term-formula t f.0)
    (recursion_from_All (λ t. IsTermOf t BoolSort × All (IsEarlierEigen (grown_behind task.problem [] lines)) (free_levels t)) leaves terms) in
    expansion-soundness task.problem lines problem h.listed
    (λ e are_true. none-true-behind leaves h.passes h.steps e formulas h.refutes (recursion_from_All (IsTrueUnder e) leaves are_true)) holds

pub sat-sections-hold : SatSectionsHold
sat-sections-hold task n m lines behind problem e =
    let accepted = accepted-are-sections task Sat n m lines behind problem e in
    sat-proof task accepted.texts problem accepted.section

pub unsat-sections-fail : UnsatSectionsFail
unsat-sections-fail task n m lines behind problem e =
    let accepted = accepted-are-sections task Unsat n m lines behind problem e in
    unsat-proof task accepted.texts problem accepted.section

pub sat-is-true : SatIsTrue
sat-is-true formulas number version n m lines behind lawful one_sort e =
    (prenex-theorem formulas lawful one_sort).0
    (sat-sections-hold (task_of formulas number version) n m lines behind (problems-are-lawful formulas lawful one_sort) e)

pub unsat-is-true : UnsatIsTrue
unsat-is-true formulas number version n m lines behind lawful one_sort e are_true =
    unsat-sections-fail (task_of formulas number version) n m lines behind (problems-are-lawful formulas lawful one_sort) e
    ((prenex-theorem formulas lawful one_sort).1 are_true)

-- an answer with a section is true
answer-true : (task : Task) (answer : Answer) (texts : List (List ℕ)) → IsProblem task.problem → IsSection task answer texts → IsTrueOf task.problem answer
answer-true task Sat texts problem h = sat-proof task texts problem h
answer-true task Unsat texts problem h = unsat-proof task texts problem h
answer-true task Unknown texts problem h = tt

none-given : {F : Type 0} (script : Script F) → AreTrueFor script []
none-given (Asks p next) = tt
none-given (Stops fault) = tt
none-given Ends = tt

sections-true : {F : Type 0} (script : Script F) (version number : ℕ) (sections : List AcceptedSection) → AsksOfProblems script → AreSectionsFor version number script sections
    → AreTrueFor script (map (λ s. s.answer) sections)
sections-true script version number [] h are = none-given script
sections-true (Asks p next) version number (s ∷ sections) h are = (
  answer-true (record { problem = p; number = number; version = version }) s.answer s.lines h.0 are.0,
  sections-true (next s.answer) version (suc number) sections (h.1 s.answer) are.1,
)
sections-true (Stops fault) version number (s ∷ sections) h are = absurd are
sections-true Ends version number (s ∷ sections) h are = absurd are

header-true : (F : Type 0) (r : Reading) (script : Script F) (lines : List (List ℕ)) (rest : List ℕ) → AsksOfProblems script → AreTrueFor script (answers_of (behind_header r script lines rest))
header-true F (Ok (Header version)) script lines rest h =
    sections-true script version 1 (verdict_from version 1 script 2 lines rest).sections h (verdicts-show F version 1 script 2 lines rest h)
header-true F _ script lines rest h = none-given script

lines-true : (F : Type 0) (script : Script F) (lines : List (List ℕ)) (rest : List ℕ) → AsksOfProblems script → AreTrueFor script (answers_of (verdict_on script lines rest))
lines-true F script [] rest h = none-given script
lines-true F script (line ∷ lines) rest h = header-true F (first_line line) script lines rest h

pub verdicts-are-true : (F : Type 0) → VerdictsAreTrue F
unfolding verdict
verdicts-are-true F script bytes h = lines-true F script (text_of bytes).lines (text_of bytes).rest h
