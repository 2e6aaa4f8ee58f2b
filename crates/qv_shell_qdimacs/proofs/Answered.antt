-- What a solver's answer to the formula of a file says of the file.
use Rattle.std.proofs.Common.{◌≡◌, ◌≤◌, ◌<◌, ◌⊎◌, inl, inr, ℕ, false, Option, Some, None, List, [], ◌∷◌, ◌++◌, flat_map, length, map, replicate, refl, sym, ap, subst, ◌∙◌}
use Rattle.std.specs.Prelude.{All, IsSomeAnd, IfOk, OnOk, OnErr, Result, Ok, Err, option_to_list}
use Rattle.std.proofs.lemmas.List.{append-nil}
use Rattle.std.proofs.lemmas.List.Elements.{All-cons, All-nil}
use Rattle.qv_cnf.specs.Literal.{Literal}
use Rattle.qv_words.specs.declared.op.Answer.{Answer}
use Rattle.qv_words.specs.Tree.{Tree}
use Rattle.qv_words.specs.Problem.{Problem, problem_of}
use Rattle.qv_words.specs.Truth.{HaveOneSort, IsAssertion}
use Rattle.qv_words.proofs.Elements.{some-and, to-some}
use Rattle.qv_store.specs.Nodes.{tree_at}
use Rattle.qv_store.specs.Stores.{StandsAt}
use Rattle.qv_cert.specs.Line.{IsCertLine}
use Rattle.qv_cert.specs.TextLaws.{HasNoLf, bytes_of_lines}
use Rattle.qv_cert.specs.Shown.{IsSection}
use Rattle.qv_meter.specs.declared.records.SpentKind.{SpentKind}
use Rattle.qv_meter.specs.Records.{AreTallies, IsSpentIn, IsWorked, Kept, Limits, Metering, Record, records_of}
use Rattle.qv_meter.specs.Views.{quantity_of}
use Rattle.qv_solve_section.specs.Sections.{IsSectionOf, task_of}
use Rattle.qv_solve.specs.declared.fault.SolveFault.{SolveFault}
use Rattle.qv_solve.specs.declared.fault.SolveFault.TheVariants.{PrefixLimit, NoMemory}
use Rattle.qv_solve.specs.declared.solved.Solved.{Solved}
use Rattle.qv_solve.specs.declared.solved.Solved.TheVariants as solved
use Rattle.qv_solve.specs.Solutions.{GivesConstants, HasRecord, IsAnswerOf, IsSettled, answer_of, lines_of}
use Rattle.qv_script_transcript.specs.PrintedLines.{line_text}
use Rattle.qv_shell_answer.proofs.Printing.{printed-sections-stand}
use Rattle.qv_qdimacs.specs.declared.files.Quantified.{Quantified}
use Rattle.qv_qdimacs.specs.Outer.{AreOnce, IsTrueFile, outer_of, variables_of}
use Rattle.qv_qdimacs.specs.Text.{Said, File, Faulty}
use Rattle.qv_qdimacs.specs.declared.faults.QdimacsKind.{QdimacsKind}
use Rattle.qv_qdimacs.specs.Translation.{formula_of}
use Rattle.qv_qdimacs.proofs.Closed.{file-assertion, file-sorts}
use Rattle.qv_qdimacs.proofs.Truthful.{truth-kept}
use Rattle.qv_script_defs.specs.Faults.{refusal}
use Rattle.qv_shell_qdimacs.specs.declared.ending.FileEnding.{FileEnding}
use Rattle.qv_shell_qdimacs.specs.declared.ending.FileEnding.TheVariants as ending
use Rattle.qv_shell_qdimacs.specs.declared.replies.Reply.{Reply}
use Rattle.qv_shell_qdimacs.specs.Texts.{fault_word, limit_word}
use Rattle.qv_shell_qdimacs.specs.Answers.{FileAnswer, IsAnswered, IsLeft, IsRight, Sat, Unsat, Unknown, answer_text, place_count, problem_of_file, word_of}
use Rattle.qv_shell_qdimacs.specs.Ending.{status_of}
use Rattle.qv_shell_qdimacs.specs.Solving.{AreTried, Replies, answered, exceeds, faulty}
use Rattle.qv_shell_qdimacs.specs.Replies.{CanReply, HasTried, HaveFit, IsFaultReply, IsReplyBy, IsReplyOf, IsReplyTo, answer_in}
use Rattle.qv_shell_qdimacs.specs.Values.{filled}
use Rattle.qv_shell_qdimacs.proofs.Filled.{constants-fit, values-each, values-hold}

-- ---- the records

-- none was started
pub none-tried : (limits : Limits) (records : List Record) → HasTried limits records records
none-tried limits records = ([], sym (append-nil records), inl refl)

pub err-tried : {A E : Type 0} (limits : Limits) (records : List Record) (r : Result A E) → OnErr r (HasTried limits records records)
err-tried limits records (Ok a) = tt
err-tried limits records (Err e) = none-tried limits records

-- one was
newest-of : (limits : Limits) (m m' : Metering) → HasRecord limits m m' → (r : Record) × (m'.newest ≡ Some r) × (records_of m' ≡ records_of m ++ r ∷ []) × (r.limits ≡ limits)
newest-of limits m m' h =
    let r = some-and m'.newest (λ (x : Record). x.limits ≡ limits) h.limited in (
      r.0,
      r.1,
      ap (λ (rs : List Record). rs ++ option_to_list m'.newest) h.older ∙ ap (λ (o : Option Record). records_of m ++ option_to_list o) r.1,
      r.2,
    )

one-tried : (limits : Limits) (m m' : Metering) → HasRecord limits m m' → HasTried limits (records_of m) (records_of m')
one-tried limits m m' h = let r = newest-of limits m m' h in (r.0 ∷ [], r.2, inr (r.0, refl, r.3))

same-tried : (limits : Limits) (m m' : Metering) → m' ≡ m → HasTried limits (records_of m) (records_of m')
same-tried limits m m' same = subst (λ (n : Metering). HasTried limits (records_of m) (records_of n)) (sym same) (none-tried limits (records_of m))

-- whatever a solver comes to
pub has-tried : (limits : Limits) (m m' : Metering) (s : Result Solved SolveFault) (over : Type 0) → OnOk s (HasRecord limits m m') → (s ≡ Err PrefixLimit → over × (m' ≡ m)) → (s ≡ Err NoMemory → (m' ≡ m) ⊎ HasRecord limits m m')
    → HasTried limits (records_of m) (records_of m')
has-tried limits m m' (Ok s) over ok limit memory = one-tried limits m m' ok
has-tried limits m m' (Err PrefixLimit) over ok limit memory = same-tried limits m m' (limit refl).1
has-tried limits m m' (Err NoMemory) over ok limit memory = elim (memory refl) [ inl same ↦ same-tried limits m m' same | inr one ↦ one-tried limits m m' one ]

-- a record keeps the problem, and its counts stand for work on it
abbrev Worked : Problem → Record → Kept → Type 0
Worked p r own = (own.problem ≡ p) × AreTallies r.conflicts own × IsWorked r own

abbrev WorkedSpent : Problem → SpentKind → Record → Kept → Type 0
WorkedSpent p k r own = (own.problem ≡ p) × AreTallies r.conflicts own × IsWorked r own × IsSpentIn (quantity_of k) r

spent-left : (p : Problem) (k : SpentKind) (r : Record) → IsSomeAnd r.kept (WorkedSpent p k r) → IsLeft p (Unknown k) r
spent-left p k r h =
    let own = some-and r.kept (WorkedSpent p k r) h in
    (to-some r.kept (Worked p r) own.0 own.1 (own.2.0, own.2.1, own.2.2), own.2.3)

newest-has : (o : Option Record) (r : Record) (P : Record → Type 0) → o ≡ Some r → IsSomeAnd o P → P r
newest-has o r P is h = subst (λ (q : Option Record). IsSomeAnd q P) is h

settled-left : (p : Problem) (m : Metering) (count : ℕ) (s : Solved) (r : Record) → m.newest ≡ Some r → IsSettled p m s → IsLeft p (answer_in count s) r
settled-left p m count (solved.Sat section given variables) r is h = newest-has m.newest r (λ (x : Record). x.kept ≡ None) is h
settled-left p m count (solved.Unsat section variables) r is h = newest-has m.newest r (λ (x : Record). x.kept ≡ None) is h
settled-left p m count (solved.Unknown section k) r is h = spent-left p k r (newest-has m.newest r (λ (x : Record). IsSomeAnd x.kept (WorkedSpent p k x)) is h)

-- ---- the answer

word-is : (count : ℕ) (s : Solved) → word_of (answer_in count s) ≡ answer_of s
word-is count (solved.Sat section given variables) = refl
word-is count (solved.Unsat section variables) = refl
word-is count (solved.Unknown section k) = refl

module _ (places : ℕ) (limits : Limits) (prefix : List Quantified) (clauses : List (List Literal)) (once : AreOnce (variables_of prefix)) where
  abbrev formulas : List Tree
  formulas = formula_of prefix clauses ∷ []

  abbrev count : ℕ
  count = length (outer_of prefix clauses)

  is-right : (s : Solved) → IsAnswerOf formulas (answer_of s) → GivesConstants formulas s → IsRight prefix clauses (answer_in count s)
  is-right (solved.Sat section given variables) truth gives = (values-each prefix clauses given.items gives, values-hold prefix clauses given.items gives once)
  is-right (solved.Unsat section variables) truth gives = λ holds. truth ((truth-kept prefix clauses once).1 holds)
  is-right (solved.Unknown section k) truth gives = tt

  have-fit : (s : Solved) → GivesConstants formulas s → HaveFit count s
  have-fit (solved.Sat section given variables) gives = constants-fit prefix clauses given.items gives
  have-fit (solved.Unsat section variables) gives = tt
  have-fit (solved.Unknown section k) gives = tt

  -- a reply can be put together
  pub can-reply : (s : Solved) → GivesConstants formulas s → All IsCertLine (lines_of s) → CanReply count s
  can-reply s gives form = record { fit = have-fit s gives; form = form }

  module _ (m m' : Metering) (s : Solved)
      (within : place_count prefix clauses ≤ places)
      (section : IsSectionOf (task_of (problem_of formulas) 1) (answer_of s) (lines_of s)) (form : All IsCertLine (lines_of s))
      (truth : IsAnswerOf formulas (answer_of s)) (gives : GivesConstants formulas s)
      (recorded : HasRecord limits m m') (settled : IsSettled (problem_of formulas) m' s) where
    is-answered : (r : Record) → m'.newest ≡ Some r → r.limits ≡ limits → IsAnswered limits prefix clauses (answer_in count s) (map line_text (lines_of s)) r
    is-answered r is limited =
        let stand = printed-sections-stand (task_of (problem_of formulas) 1) (answer_of s) (lines_of s) section form in
        record {
          right = is-right s truth gives;
          certified = record {
            section = subst (λ (a : Answer). IsSection (task_of (problem_of formulas) 1) a (map line_text (lines_of s))) (sym (word-is count s)) stand.section;
            apart = stand.apart;
          };
          limited = limited;
          left = settled-left (problem_of formulas) m' count s r is settled;
        }

    -- the reply of an answer
    pub reply-answered : (reply : Reply) → IsReplyOf (outer_of prefix clauses) s reply → IsReplyTo places limits (File prefix clauses) (records_of m) (records_of m') reply
    reply-answered reply h =
        let r = newest-of limits m m' recorded in
        let stand = printed-sections-stand (task_of (problem_of formulas) 1) (answer_of s) (lines_of s) section form in
        let own : Replies places limits (File prefix clauses) (bytes_of_lines (map line_text (lines_of s))) (answer_text (outer_of prefix clauses) (answer_in count s)) (r.0 ∷ []) 0 =
        answered prefix clauses (answer_in count s) (map line_text (lines_of s)) r.0 within (is-answered r.0 r.1 r.3) in (
          r.0 ∷ [],
          r.2,
          subst (λ (e : FileEnding). Replies places limits (File prefix clauses) reply.section.items reply.text.items (r.0 ∷ []) (status_of e)) (sym h.ending)
              (subst (λ (t : List ℕ). Replies places limits (File prefix clauses) reply.section.items t (r.0 ∷ []) 0) (sym h.text)
              (subst (λ (t : List ℕ). Replies places limits (File prefix clauses) t (answer_text (outer_of prefix clauses) (answer_in count s)) (r.0 ∷ []) 0) (sym (h.section ∙ stand.bytes)) own)),
        )

-- the line of a fault
fault-reply : (places : ℕ) (limits : Limits) (said : Said) (records : List Record) (reply : Reply) (place : ℕ) (word : List ℕ) → IsFaultReply place word reply → Replies places limits said [] (refusal place word) [] 1
    → IsReplyTo places limits said records records reply
fault-reply places limits said records reply place word h own = (
  [],
  sym (append-nil records),
  subst (λ (e : FileEnding). Replies places limits said reply.section.items reply.text.items [] (status_of e)) (sym h.ending)
      (subst (λ (t : List ℕ). Replies places limits said reply.section.items t [] 1) (sym h.text)
      (subst (λ (t : List ℕ). Replies places limits said t (refusal place word) [] 1) (sym h.section) own)),
)

pub reply-faulty : (places : ℕ) (limits : Limits) (records : List Record) (reply : Reply) (place : ℕ) (k : QdimacsKind) → IsFaultReply place (fault_word k) reply → IsReplyTo places limits (Faulty place k) records records reply
reply-faulty places limits records reply place k h = fault-reply places limits (Faulty place k) records reply place (fault_word k) h (faulty place k)

reply-exceeds : (places : ℕ) (limits : Limits) (prefix : List Quantified) (clauses : List (List Literal)) (m m' : Metering) (reply : Reply) → IsFaultReply 0 limit_word reply → places < place_count prefix clauses → m' ≡ m
    → IsReplyTo places limits (File prefix clauses) (records_of m) (records_of m') reply
reply-exceeds places limits prefix clauses m m' reply h far same =
    subst (λ (n : Metering). IsReplyTo places limits (File prefix clauses) (records_of m) (records_of n) reply) (sym same)
    (fault-reply places limits (File prefix clauses) (records_of m) reply 0 limit_word h (exceeds prefix clauses far))

-- ---- by what a solver comes to

-- what it says of the formula of a file
pub record IsSolvedSo (places : ℕ) (limits : Limits) (formulas : List Tree) (m m' : Metering) (s : Result Solved SolveFault) : Type 0 where
  pub section : IfOk s (λ x. IsSectionOf (task_of (problem_of formulas) 1) (answer_of x) (lines_of x))
  pub form : IfOk s (λ x. All IsCertLine (lines_of x))
  pub truth : IfOk s (λ x. IsAnswerOf formulas (answer_of x))
  pub constants : IfOk s (GivesConstants formulas)
  pub recorded : OnOk s (HasRecord limits m m')
  pub settled : IfOk s (IsSettled (problem_of formulas) m')
  pub within : OnOk s (length (problem_of formulas).prefix ≤ places)
  pub over : s ≡ Err PrefixLimit → (places < length (problem_of formulas).prefix) × (m' ≡ m)
  pub memory : s ≡ Err NoMemory → (m' ≡ m) ⊎ HasRecord limits m m'

module _ (places : ℕ) (limits : Limits) (prefix : List Quantified) (clauses : List (List Literal)) (once : AreOnce (variables_of prefix)) (m m' : Metering) where
  pub solved-fits : (s : Result Solved SolveFault) → IsSolvedSo places limits (formula_of prefix clauses ∷ []) m m' s → IfOk s (CanReply (length (outer_of prefix clauses)))
  solved-fits (Ok s) h = can-reply places limits prefix clauses once s h.constants h.form
  solved-fits (Err fault) h = tt

  solved-reply : (s : Result Solved SolveFault) → IsSolvedSo places limits (formula_of prefix clauses ∷ []) m m' s → (reply : Reply) → IsReplyBy (outer_of prefix clauses) s reply → IsReplyTo places limits (File prefix clauses) (records_of m) (records_of m') reply
  solved-reply (Ok s) h reply is = reply-answered places limits prefix clauses once m m' s h.within h.section h.form h.truth h.constants h.recorded h.settled reply is
  solved-reply (Err PrefixLimit) h reply is = reply-exceeds places limits prefix clauses m m' reply is (h.over refl).0 (h.over refl).1
  solved-reply (Err NoMemory) h reply is = absurd is

  pub solved-replies : {E : Type 0} (s : Result Solved SolveFault) → IsSolvedSo places limits (formula_of prefix clauses ∷ []) m m' s → (r : Result Reply E) → IfOk r (IsReplyBy (outer_of prefix clauses) s)
      → IfOk r (IsReplyTo places limits (File prefix clauses) (records_of m) (records_of m'))
  solved-replies s h (Ok reply) is = solved-reply s h reply is
  solved-replies s h (Err e) is = tt

  pub solved-tried : {E : Type 0} (s : Result Solved SolveFault) → IsSolvedSo places limits (formula_of prefix clauses ∷ []) m m' s → (r : Result Reply E) → OnErr r (HasTried limits (records_of m) (records_of m'))
  solved-tried s h (Ok reply) = tt
  solved-tried s h (Err e) = has-tried limits m m' s _ h.recorded h.over h.memory

-- ---- a formula that stands in a store

module _ (places : ℕ) (prefix : List Quantified) (clauses : List (List Literal)) (trees : List Tree) (id : ℕ) (stands : StandsAt trees id (formula_of prefix clauses)) where
  pub formula-below : All (λ i. i < length trees) (id ∷ [])
  formula-below = All-cons (λ i. i < length trees) id [] stands.below (All-nil (λ i. i < length trees))

  pub formula-assertion : All IsAssertion (map (tree_at trees) (id ∷ []))
  formula-assertion =
      subst (λ (t : Tree). All IsAssertion (t ∷ [])) (sym stands.tree) (All-cons IsAssertion (formula_of prefix clauses) [] (file-assertion prefix clauses) (All-nil IsAssertion))

  pub formula-sorts : HaveOneSort (map (tree_at trees) (id ∷ []))
  formula-sorts = subst (λ (t : Tree). HaveOneSort (t ∷ [])) (sym stands.tree) (file-sorts prefix clauses)

  pub solved-of : (limits : Limits) (m m' : Metering) (s : Result Solved SolveFault) → IsSolvedSo places limits (map (tree_at trees) (id ∷ [])) m m' s → IsSolvedSo places limits (formula_of prefix clauses ∷ []) m m' s
  solved-of limits m m' s h = subst (λ (t : Tree). IsSolvedSo places limits (t ∷ []) m m' s) stands.tree h
