-- What a check comes to, by what its formulas' answer is.
use Rattle.std.proofs.Common.{◌≡◌, ℕ, ◌<◌, Option, Some, None, List, ◌++◌, map, length, refl, sym, ap, subst, ◌∙◌}
use Rattle.std.specs.Prelude.{All, IfSome, IsSomeAnd}
use Rattle.qv_words.specs.declared.op.Answer.{Answer}
use Rattle.qv_words.specs.Sort.{IsLawful}
use Rattle.qv_words.specs.Tree.{Tree}
use Rattle.qv_words.specs.Truth.{IsAssertion, HaveOneSort, constants_of_each}
use Rattle.qv_words.specs.Problem.{Problem, problem_of}
use Rattle.qv_words.proofs.Elements.{some-and, to-some}
use Rattle.qv_store.specs.Nodes.{tree_at}
use Rattle.qv_cert.specs.Line.{IsCertLine}
use Rattle.qv_cert.specs.Shown.{IsSection}
use Rattle.qv_meter.specs.declared.records.SpentKind.{SpentKind}
use Rattle.qv_meter.specs.declared.records.SpentKind.TheVariants as kind
use Rattle.qv_meter.specs.Records.{AreTallies, IsWorked, Kept, Limits, Metering, Record, IsSpentIn}
use Rattle.qv_meter.specs.Views.{quantity_of}
use Rattle.qv_script_defs.specs.State.{Last, Unknown}
use Rattle.qv_script_stack.specs.declared.held.Declared.{Declared}
use Rattle.qv_script_stack.specs.Held.{Held, declared_of}
use Rattle.qv_cert.specs.TextLaws.{HasNoLf}
use Rattle.qv_solve_section.specs.Sections.{IsCounted, task_of}
use Rattle.qv_solve.specs.declared.solved.Solved.{Solved}
use Rattle.qv_solve.specs.declared.solved.Solved.TheVariants as solved
use Rattle.qv_solve.specs.Solutions.{answer_of, lines_of, variables_of, GivesConstants, IsAnswerOf, IsSettled}
use Rattle.qv_script_transcript.specs.Lawful.{IsLawfulAnswer}
use Rattle.qv_script_transcript.specs.Following.{with_answer}
use Rattle.qv_script_transcript.specs.Certificates.{IsCertified}
use Rattle.qv_script_transcript.specs.Certificates as sections
use Rattle.qv_script_transcript.specs.PrintedLines.{line_text}
use Rattle.qv_shell_answer.specs.declared.checking.Checked.{Checked}
use Rattle.qv_shell_answer.specs.Metered.{IsLeft, IsRecordOf, counts_of}
use Rattle.qv_script_defs.specs.declared.counts.Counts.{Counts}
use Rattle.qv_shell_answer.specs.Checks.{CanCheck, IsCheckedFor, IsKept, HaveFit, Suits, formulas_in, kept_of, spent_word}
use Rattle.qv_shell_answer.proofs.Filled.{IsOver, values-fit, values-lawful}
use Rattle.qv_shell_answer.proofs.Printing.{printed-sections-stand}

-- ---- the formulas of a check, by their ids

module _ (trees : List Tree) (held : Held) (ids : List ℕ) (are : ids ≡ held.assertions ++ held.assumed) where
  pub same-formulas : map (tree_at trees) ids ≡ formulas_in trees held
  same-formulas = ap (map (tree_at trees)) are

  pub ids-below : CanCheck trees held → All (λ id. id < length trees) ids
  ids-below h = subst (λ (ns : List ℕ). All (λ id. id < length trees) ns) (sym are) h.below

  pub ids-assertions : CanCheck trees held → All IsAssertion (map (tree_at trees) ids)
  ids-assertions h = subst (All IsAssertion) (sym same-formulas) h.assertions

  pub ids-one_sort : CanCheck trees held → HaveOneSort (map (tree_at trees) ids)
  ids-one_sort h = subst HaveOneSort (sym same-formulas) h.one_sort

  pub ids-over : CanCheck trees held → All (IsOver held.constants) (constants_of_each (map (tree_at trees) ids))
  ids-over h = subst (λ (ts : List Tree). All (IsOver held.constants) (constants_of_each ts)) (sym same-formulas) h.over

-- ---- what is kept of an answer

fit-of : (owns : List Declared) (formulas : List Tree) (s : Solved) → GivesConstants formulas s → All (IsOver owns) (constants_of_each formulas) → HaveFit owns s
fit-of owns formulas (solved.Sat section given variables) gives over = values-fit owns formulas given.items gives over
fit-of owns formulas (solved.Unsat section variables) gives over = tt
fit-of owns formulas (solved.Unknown section kind) gives over = tt

pub answer-suits : (owns : List Declared) (formulas : List Tree) (s : Solved) → All (λ own. IsLawful own.sort) owns → All (IsOver owns) (constants_of_each formulas) → GivesConstants formulas s → All IsCertLine (lines_of s) → Suits owns s
answer-suits owns formulas s lawful over gives form = record { lawful = lawful; fit = fit-of owns formulas s gives over; form = form }

kept-lawful : (owns : List Declared) (formulas : List Tree) (s : Solved) → All (IsOver owns) (constants_of_each formulas) → IsAnswerOf formulas (answer_of s) → GivesConstants formulas s → IsLawfulAnswer (declared_of owns) formulas (kept_of owns s)
kept-lawful owns formulas (solved.Sat section given variables) over truth gives = values-lawful owns formulas given.items gives over
kept-lawful owns formulas (solved.Unsat section variables) over truth gives = truth
kept-lawful owns formulas (solved.Unknown section kind) over truth gives = tt

-- ---- its record

all-there : {A : Type 0} (o : Option A) (P Q R S : A → Type 0) → ((x : A) → P x → Q x → R x → S x) → IsSomeAnd o P → IsSomeAnd o Q → IfSome o R → IsSomeAnd o S
all-there None P Q R S go p q r = absurd p
all-there (Some x) P Q R S go p q r = go x p q r

-- a record keeps the problem, and its counts stand for work on it
abbrev Worked : Problem → Record → Kept → Type 0
Worked p r own = (own.problem ≡ p) × AreTallies r.conflicts own × IsWorked r own

abbrev WorkedSpent : Problem → SpentKind → Record → Kept → Type 0
WorkedSpent p k r own = (own.problem ≡ p) × AreTallies r.conflicts own × IsWorked r own × IsSpentIn (quantity_of k) r

spent-so : (k : SpentKind) (r : Record) → IsSpentIn (quantity_of k) r → (p : Problem) → IsSomeAnd r.kept (Worked p r) → IsLeft p (Unknown (spent_word k)) r
spent-so kind.Conflicts r spent p own = (own, spent)
spent-so kind.Instances r spent p own = (own, spent)
spent-so kind.Variables r spent p own = (own, spent)

spent-left : (p : Problem) (k : SpentKind) (r : Record) → IsSomeAnd r.kept (WorkedSpent p k r) → IsLeft p (Unknown (spent_word k)) r
spent-left p k r h =
    let own = some-and r.kept (WorkedSpent p k r) h in
    spent-so k r own.2.3 p (to-some r.kept (Worked p r) own.0 own.1 (own.2.0, own.2.1, own.2.2))

kept-record : (limit : ℕ) (counts : Counts) (limits : Limits) (owns : List Declared) (formulas : List Tree) (s : Solved) (m : Metering) → IsSomeAnd m.newest (λ r. r.limits ≡ limits) → IsSettled (problem_of formulas) m s → IfSome m.newest (λ r. counts ≡ counts_of r counts.variables) →
    IsSomeAnd m.newest (IsRecordOf limits (with_answer limit formulas (kept_of owns s) counts))
kept-record limit counts limits owns formulas (solved.Sat section given variables) m limited settled told =
    all-there m.newest (λ r. r.limits ≡ limits) (λ r. r.kept ≡ None) (λ r. counts ≡ counts_of r counts.variables) (IsRecordOf limits (with_answer limit formulas (kept_of owns (solved.Sat section given variables)) counts))
    (λ r l e n. record { limited = l; counted = n; left = e }) limited settled told
kept-record limit counts limits owns formulas (solved.Unsat section variables) m limited settled told =
    all-there m.newest (λ r. r.limits ≡ limits) (λ r. r.kept ≡ None) (λ r. counts ≡ counts_of r counts.variables) (IsRecordOf limits (with_answer limit formulas (kept_of owns (solved.Unsat section variables)) counts))
    (λ r l e n. record { limited = l; counted = n; left = e }) limited settled told
kept-record limit counts limits owns formulas (solved.Unknown section k) m limited settled told =
    all-there m.newest (λ r. r.limits ≡ limits) (λ r. IsSomeAnd r.kept (WorkedSpent (problem_of formulas) k r)) (λ r. counts ≡ counts_of r counts.variables) (IsRecordOf limits (with_answer limit formulas (kept_of owns (solved.Unknown section k)) counts))
    (λ r l h n. record { limited = l; counted = n; left = spent-left (problem_of formulas) k r h }) limited settled told

-- ---- its section

kept-certified : (number limit : ℕ) (counts : Counts) (owns : List Declared) (formulas : List Tree) (s : Solved) (texts : List (List ℕ)) (section : IsSection (task_of (problem_of formulas) number) (answer_of s) texts) → All HasNoLf texts
    → counts.variables ≡ sections.variables_of (task_of (problem_of formulas) number) (answer_of s) texts section → IsCertified number (record { check = with_answer limit formulas (kept_of owns s) counts; lines = texts })
kept-certified number limit counts owns formulas (solved.Sat part given variables) texts section apart count = record { section = section; apart = apart; counted = count }
kept-certified number limit counts owns formulas (solved.Unsat part variables) texts section apart count = record { section = section; apart = apart; counted = count }
kept-certified number limit counts owns formulas (solved.Unknown part k) texts section apart count = record { section = section; apart = apart; counted = count }

-- ---- the whole

module _ (number : ℕ) (limits : Limits) (owns : List Declared) (formulas : List Tree) (m : Metering) (s : Solved)
    (over : All (IsOver owns) (constants_of_each formulas))
    (section : IsCounted (task_of (problem_of formulas) number) (answer_of s) (lines_of s) (variables_of s)) (form : All IsCertLine (lines_of s))
    (truth : IsAnswerOf formulas (answer_of s)) (gives : GivesConstants formulas s)
    (limited : IsSomeAnd m.newest (λ r. r.limits ≡ limits)) (settled : IsSettled (problem_of formulas) m s) where
  pub is-checked : (c : Checked) (counts : Counts) → IsKept owns s counts c → IfSome m.newest (λ r. counts ≡ counts_of r counts.variables) → counts.variables ≡ variables_of s → IsCheckedFor number limits owns formulas m c
  is-checked c counts kept told count =
      let stand = printed-sections-stand (task_of (problem_of formulas) number) (answer_of s) (lines_of s) section.section form in
      let own : c.counts.variables ≡ sections.variables_of (task_of (problem_of formulas) number) (answer_of s) (map line_text (lines_of s)) stand.section =
      ap (λ (n : Counts). n.variables) kept.counted ∙ count ∙ section.counted ∙ sym stand.counted in
      record {
        lawful = subst (IsLawfulAnswer (declared_of owns) formulas) (sym kept.last) (kept-lawful owns formulas s over truth gives);
        sorts = kept.sorts;
        lines = map line_text (lines_of s);
        section = kept.text ∙ stand.bytes;
        certified = λ limit.
            subst (λ (a : Last). IsCertified number (record { check = with_answer limit formulas a c.counts; lines = map line_text (lines_of s) })) (sym kept.last)
            (kept-certified number limit c.counts owns formulas s (map line_text (lines_of s)) stand.section stand.apart own);
        metered = λ limit.
            subst (λ (a : Last). IsSomeAnd m.newest (IsRecordOf limits (with_answer limit formulas a c.counts))) (sym kept.last)
            (kept-record limit c.counts limits owns formulas s m limited settled
            (subst (λ (n : Counts). IfSome m.newest (λ r. n ≡ counts_of r n.variables)) (sym kept.counted) told));
        unrefused = kept.unasked;
      }
