-- What a line among the nodes makes of a section.
use Rattle.std.proofs.Common.{◌≡◌, ℕ, ◌+◌, ◌==◌, Bool, true, false, not, arith, Option, None, Some, ◌∷◌, refl, sym, ap, subst, ◌∙◌}
use Rattle.std.specs.Prelude.{List, Ok, Err, if◌then◌else◌}
use Rattle.qv_words.specs.declared.op.Answer.{Answer}
use Rattle.qv_words.specs.Tree.{Tree}
use Rattle.qv_words.specs.Problem.{Problem}
use Rattle.qv_store.specs.declared.problem.Problem.{Problem as StoreProblem}
use Rattle.qv_store.specs.Stores.{Grows}
use Rattle.qv_store.specs.Problems.{problem_in, IsPosedIn}
use Rattle.qv_cert.specs.declared.kind.RefusalKind.{RefusalKind}
use Rattle.qv_cert.specs.declared.kind.RefusalKind.TheVariants as kind
use Rattle.qv_cert.specs.Line.{CertLine, Header, Check, VariableNode, EigenNode, LiteralNode, OperatorNode, Skolem, Instance, Eigen, Rewrite, Lrat, Step, End, IsCertLine}
use Rattle.qv_cert.specs.declared.line.Line.{Line}
use Rattle.qv_cert.specs.LineView.{cert_line_of}
use Rattle.qv_cert.specs.Text.{Text}
use Rattle.qv_cert.specs.Listed.{Listed as PlainListed, listing}
use Rattle.qv_cert.specs.Faults.{first_fit, faults_of, belongs}
use Rattle.qv_cert.specs.Section.{Task, State, Listing, Outcome, GoesOn, Refuses, refused_or, unless, at_place, fault_at}
use Rattle.qv_cert.specs.SoFar.{IsSoFar}
use Rattle.qv_cert.proofs.Ranges.{read-lines-are-cert-lines}
use Rattle.qv_cert.proofs.SoFar.{sections-go-on}
use Rattle.qv_cert_nodes.specs.declared.listed.Listed.{Listed}
use Rattle.qv_cert_nodes.specs.Lists.{listed_in, IsListed}
use Rattle.qv_cert_nodes.specs.Pushing.{Lists}
use Rattle.qv_cert_nodes.proofs.Gathering.{problem-stays}
use Rattle.qv_check_lines.specs.declared.verdict.Verdict.{Verdict}
use Rattle.qv_check_lines.specs.declared.lines.Numbered.{Numbered}
use Rattle.qv_check_lines.specs.Judging.{IsVerdictFrom, ComesTo, IsNextLine, kind_at, IsFor}
use Rattle.qv_check.specs.Nodes.{ends_nodes, IsGiven, LeadsAlong, LeadsOn}
use Rattle.qv_check_lines.proofs.Judged.{comes-further, comes-here, comes-on}
use Rattle.qv_check_lines.proofs.Rewritten.{is-refusal}

-- a line that comes among the nodes
node-does : (task : Task) (answer : Answer) (l : PlainListed) (line : CertLine) → ends_nodes line ≡ false
    → at_place task (Listing answer l) line ≡ unless ((kind.Form, not (belongs answer line)) ∷ faults_of task.problem l line) (GoesOn (Listing answer (listing task.problem l line)))
node-does task answer l Lrat e = absurd cc
node-does task answer l (Rewrite p) e = absurd cc
node-does task answer l (Header version) e = refl
node-does task answer l (Check number a) e = refl
node-does task answer l (VariableNode node place) e = refl
node-does task answer l (EigenNode node line) e = refl
node-does task answer l (LiteralNode node s n) e = refl
node-does task answer l (OperatorNode node o children) e = refl
node-does task answer l (Skolem place node) e = refl
node-does task answer l (Instance line parent node) e = refl
node-does task answer l (Eigen line parent) e = refl
node-does task answer l (Step line) e = refl
node-does task answer l End e = refl

tested : Task → Answer → PlainListed → CertLine → Bool → Outcome
tested task answer l line b = unless ((kind.Form, not b) ∷ faults_of task.problem l line) (GoesOn (Listing answer (listing task.problem l line)))

pub node_out : (task : Task) (answer : Answer) (l : PlainListed) (line : CertLine) → ends_nodes line ≡ false → belongs answer line ≡ false → at_place task (Listing answer l) line ≡ Refuses kind.Form
unfolding tested
node_out task answer l line node out = node-does task answer l line node ∙ ap (tested task answer l line) out

node-in : (task : Task) (answer : Answer) (l : PlainListed) (line : CertLine) → ends_nodes line ≡ false → belongs answer line ≡ true
    → at_place task (Listing answer l) line ≡ refused_or (GoesOn (Listing answer (listing task.problem l line))) (first_fit (faults_of task.problem l line))
unfolding tested
node-in task answer l line node belong = node-does task answer l line node ∙ ap (tested task answer l line) belong

pub node_faulty : (task : Task) (p : Problem) (answer : Answer) (l : PlainListed) (line : CertLine) (k : RefusalKind) → task.problem ≡ p → ends_nodes line ≡ false → belongs answer line ≡ true
    → first_fit (faults_of p l line) ≡ Some k → at_place task (Listing answer l) line ≡ Refuses k
node_faulty task p answer l line k about node belong fits =
    node-in task answer l line node belong ∙ ap (refused_or (GoesOn (Listing answer (listing task.problem l line)))) (ap (λ (q : Problem). first_fit (faults_of q l line)) about ∙ fits)

pub node_listed : (task : Task) (p : Problem) (answer : Answer) (l new : PlainListed) (line : CertLine) → task.problem ≡ p → ends_nodes line ≡ false → belongs answer line ≡ true
    → first_fit (faults_of p l line) ≡ None → new ≡ listing p l line → at_place task (Listing answer l) line ≡ GoesOn (Listing answer new)
node_listed task p answer l new line about node belong clean is =
    node-in task answer l line node belong
    ∙ ap (refused_or (GoesOn (Listing answer (listing task.problem l line)))) (ap (λ (q : Problem). first_fit (faults_of q l line)) about ∙ clean)
    ∙ ap (λ (x : PlainListed). GoesOn (Listing answer x)) (ap (λ (q : Problem). listing q l line) about ∙ sym is)

-- behind a line that was listed
pub far_on : (trees more : List Tree) (p : StoreProblem) (answer : Answer) (old new : Listed) (line : CertLine) → Grows trees more → IsPosedIn trees p → IsSoFar (problem_in trees p) answer (listed_in trees old) → IsCertLine line
    → belongs answer line ≡ true → first_fit (faults_of (problem_in trees p) (listed_in trees old) line) ≡ None → Lists more (problem_in trees p) new (listing (problem_in trees p) (listed_in trees old) line)
    → IsSoFar (problem_in more p) answer (listed_in more new)
far_on trees more p answer old new line grows posed far read belong clean lists =
    subst (λ (q : Problem). IsSoFar q answer (listed_in more new)) (sym (problem-stays trees more p grows posed.below))
    (subst (IsSoFar (problem_in trees p) answer) (sym lists.listed) (sections-go-on (problem_in trees p) answer (listed_in trees old) line posed.problem far read belong clean))

pub kept_on : (trees more : List Tree) (p : StoreProblem) (new : Listed) (l : PlainListed) → Grows trees more → IsPosedIn trees p → Lists more (problem_in trees p) new l → IsListed more (problem_in more p) new
kept_on trees more p new l grows posed lists = subst (λ (q : Problem). IsListed more q new) (sym (problem-stays trees more p grows posed.below)) lists.kept

pub same_on : (trees more : List Tree) (p : StoreProblem) → Grows trees more → IsPosedIn trees p → problem_in more p ≡ problem_in trees p
same_on trees more p grows posed = problem-stays trees more p grows posed.below

-- ---- the line that was read

pub node-kind : (task : Task) (answer : Answer) (l : PlainListed) (b : Bool) → b ≡ (task.version == 2) → (k : RefusalKind) → fault_at task (Listing answer l) k ≡ kind_at true b k
node-kind task answer l b e kind.Operator = refl
node-kind task answer l b e kind.Literal = refl
node-kind task answer l b e kind.Rule = ap (λ (c : Bool). if c then kind.Rule else kind.Form) (sym e)
node-kind task answer l b e k = refl

pub own-line : (inner : Bool) (old new : Option Text) (line : Line) → IsNextLine inner old line new → IsCertLine (cert_line_of line)
own-line inner old new line next = read-lines-are-cert-lines inner next.0 (cert_line_of line) next.2

-- it comes behind the nodes
pub comes-behind : (task : Task) (s : State) (given : ℕ) (before after : Option Text) (next : Numbered) → next.number ≡ given + 1 → IsNextLine false before next.line after → LeadsAlong task s given before s next after
comes-behind task s given before after next count is = record {
  before = before;
  behind = given;
  number_is = omega (arith, count);
  next_is = is;
  leads = comes-here task s given before;
}

-- it was listed
pub goes-listed : (task : Task) (answer : Answer) (old new : PlainListed) (given later number : ℕ) (before after : Option Text) (line : Line) → later ≡ given + 1 → IsNextLine false before line after
    → IsGiven task answer old (cert_line_of line) number (Ok tt) new → ComesTo task (Listing answer old) given before (Listing answer new) later after
goes-listed task answer old new given later number before after line count next h = comes-on task (Listing answer old) (Listing answer new) given later before after line (omega (arith, count)) refl next h

pub fails-listed : (task : Task) (answer : Answer) (old new : PlainListed) (given now number : ℕ) (before after left : Option Text) (line : Line) (verdict : Verdict) → number ≡ given + 1 → IsNextLine false before line after
    → IsGiven task answer old (cert_line_of line) number (Err verdict) new → IsVerdictFrom task (Listing answer old) given before now left verdict
fails-listed task answer old new given now number before after left line verdict count next h =
    is-refusal task (Listing answer old) given now number before after left line verdict (omega (arith, count)) refl next h

-- behind lines that were listed
pub for-later : (p q : Problem) (version later : ℕ) (task : Task) → q ≡ p → later ≡ version → IsFor p version task → IsFor q later task
for-later p q version later task e is h = record { problem = h.problem ∙ sym e; version = h.version ∙ sym is }

pub leads-along : (task : Task) (s t u : State) (given middle : ℕ) (old between new : Option Text) (next : Numbered) → ComesTo task s given old t middle between → LeadsAlong task t middle between u next new → LeadsAlong task s given old u next new
leads-along task s t u given middle old between new next f g = record {
  before = g.before;
  behind = g.behind;
  number_is = g.number_is;
  next_is = g.next_is;
  leads = comes-further task s t u given middle g.behind old between g.before f g.leads;
}

-- a line that was found, or none
pub found-along : (task : Task) (s t : State) (given later : ℕ) (old new : Option Text) (found : Option Numbered) (next : Numbered) → found ≡ Some next → LeadsOn task s given old t later new found → LeadsAlong task s given old t next new
found-along task s t given later old new found next is h = subst (LeadsOn task s given old t later new) is h

pub none-found : (task : Task) (s t : State) (given later : ℕ) (old new : Option Text) (found : Option Numbered) → ((next : Numbered) → found ≡ Some next → ⊥) → LeadsOn task s given old t later new found → ComesTo task s given old t later new
none-found task s t given later old new None other h = h
none-found task s t given later old new (Some next) other h = absurd (other next refl)
