-- What an accepted section shows, apart from how it is read.
use Rattle.std.specs.Prelude.{◌≡◌, ℕ, ◌+◌, ◌≤◌, ◌^◌, ◌⊎◌, Bool, true, false, None, Ok, List, [], ◌∷◌, ◌++◌, map, length, All, IsTrue}
use Rattle.qv_words.specs.declared.op.Answer.{Answer}
use Rattle.qv_words.specs.declared.op.Answer.TheVariants.{Sat, Unsat, Unknown}
use Rattle.qv_words.specs.Tree.{Tree}
use Rattle.qv_words.specs.Problem.{Problem}
use Rattle.qv_words.specs.GameLaws.{IsProblem}
use Rattle.qv_words.specs.Skolem.{SkolemOk}
use Rattle.qv_words.specs.Expansion.{IsExpansion}
use Rattle.qv_rewrite_passes.specs.declared.pass.Pass.{Pass}
use Rattle.qv_rewrite_passes.specs.Passes.{behind_all}
use Rattle.qv_cnf.specs.LratLine.{LratLine}
use Rattle.qv_cnf.specs.Refutation.{Refutes}
use Rattle.qv_cert.specs.Line.{CertLine, Check, Rewrite, Lrat, Step, End}
use Rattle.qv_cert.specs.Grammar.{cert_line}
use Rattle.qv_cert.specs.ClauseList.{clause_list, variables_of}
use Rattle.qv_cert.specs.Listed.{Listed, nothing, listing, listed_by}
use Rattle.qv_cert.specs.Faults.{first_fit, faults_of, belongs}
use Rattle.qv_cert.specs.Section.{Task, first_list, section_judged, AcceptedUpTo}

-- texts that are these lines, in the refutation or outside
abbrev pub AreRead : Bool → List (List ℕ) → List CertLine → Type 0
AreRead inner texts lines = map (λ text. cert_line inner text) texts ≡ map (λ line. Ok line) lines

-- none of the lines has a fault behind those before
abbrev pub HaveNoFault : Problem → Listed → List CertLine → Type 0
HaveNoFault p l [] = Unit {0}
HaveNoFault p l (line ∷ lines) = (first_fit (faults_of p l line) ≡ None) × HaveNoFault p (listing p l line) lines

-- what a section lists is a proof's first part: Skolem terms, or an expansion list
abbrev pub IsListOf : Problem → Answer → Listed → Type 0
IsListOf p Sat l = SkolemOk p l.terms
IsListOf p Unsat l = IsExpansion p l.lines
IsListOf p Unknown l = ⊥

-- the formulas whose clauses a section refutes
abbrev pub last_list : Problem → Answer → List CertLine → List Pass → List Tree
last_list p answer given passes = behind_all passes (first_list p answer (listed_by p given))

-- the texts are a section of a sat or unsat answer: its `check` line, the lines that list, passes,
-- `lrat`, a refutation and `end`
pub record IsProof (task : Task) (answer : Answer) (texts : List (List ℕ)) : Type 0 where
  pub given : List CertLine
  pub passes : List Pass
  pub steps : List LratLine
  pub outer : List (List ℕ)
  pub inner : List (List ℕ)
  pub texts_are : texts ≡ outer ++ inner
  pub outer_are : AreRead false outer (Check task.number answer ∷ (given ++ (map Rewrite passes ++ Lrat ∷ [])))
  pub inner_are : AreRead true inner (map Step steps ++ End ∷ [])
  pub belong : All (λ line. IsTrue (belongs answer line)) given
  pub lawful : HaveNoFault task.problem nothing given
  pub version : (passes ≡ []) ⊎ (task.version ≡ 2)
  pub listed : IsListOf task.problem answer (listed_by task.problem given)
  pub few : variables_of (last_list task.problem answer given passes) ≤ 2 ^ 30
  pub refutes : Refutes (clause_list (last_list task.problem answer given passes)) steps

-- the texts are a section of the answer; an unknown one has nothing between `check` and `end`
abbrev pub IsSection : Task → Answer → List (List ℕ) → Type 0
IsSection task Sat texts = IsProof task Sat texts
IsSection task Unsat texts = IsProof task Unsat texts
IsSection task Unknown texts = AreRead false texts (Check task.number Unknown ∷ End ∷ [])

-- a section of its answer is accepted, and its lines alone are taken
abbrev pub SectionsAreAccepted : Type 0
SectionsAreAccepted =
    (task : Task) (answer : Answer) (n : ℕ) (texts behind : List (List ℕ)) → IsSection task answer texts →
    section_judged task n (texts ++ behind) ≡ AcceptedUpTo answer (n + length texts) behind

-- lines that begin with a section of the answer, behind which is the line of the number m
pub record AcceptedText (task : Task) (answer : Answer) (n m : ℕ) (lines behind : List (List ℕ)) : Type 0 where
  pub texts : List (List ℕ)
  pub lines_are : lines ≡ texts ++ behind
  pub next_is : m ≡ n + length texts
  pub section : IsSection task answer texts

-- where a section was accepted, the lines begin with one of the answer
abbrev pub AcceptedAreSections : Type 0
AcceptedAreSections =
    (task : Task) (answer : Answer) (n m : ℕ) (lines behind : List (List ℕ)) → IsProblem task.problem →
    section_judged task n lines ≡ AcceptedUpTo answer m behind → AcceptedText task answer n m lines behind
