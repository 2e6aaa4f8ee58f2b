-- How the run over a formula ends, and the check beside one.
use Rattle.std.proofs.Common.{◌≡◌, ◌≢◌, ◌≤◌, ◌⊎◌, ℕ, Bool, true, false, List, [], Option, Some, None, inl, inr, refl, sym, subst, arith}
use Rattle.std.specs.Prelude.{IfSome, if◌then◌else◌, length, nat_lt}
use Rattle.qv_io.proofs.SinkLemmas.{Appends-nothing}
use Rattle.qv_meter.specs.Records.{Limits, Record}
use Rattle.qv_words.specs.Problem.{Problem}
use Rattle.qv_check_laws.specs.Verdict.{Script, Asks, Stops, Ends}
use Rattle.qv_check_script.specs.declared.ending.Ending.{Ending}
use Rattle.qv_check_script.specs.declared.ending.Ending.TheVariants.{Accepted, Faulty, Refused}
use Rattle.qv_check_script.specs.declared.ending.Halt.{Halt}
use Rattle.qv_check_script.specs.declared.ending.Halt.TheVariants as halt
use Rattle.qv_check_script.specs.Ending.{status_of, halt_status}
use Rattle.qv_check_script.proofs.Unfinished.{HasLines, verdict-text}
use Rattle.qv_script_defs.specs.Faults.{refusal}
use Rattle.qv_qdimacs.specs.Text.{Said, qdimacs_of}
use Rattle.qv_qdimacs.specs.Text as content
use Rattle.qv_shell_qdimacs.specs.declared.ending.FileEnding.{FileEnding}
use Rattle.qv_shell_qdimacs.specs.declared.ending.FileEnding.TheVariants as file
use Rattle.qv_shell_qdimacs.specs.Ending as over
use Rattle.qv_shell_qdimacs.specs.Answers.{problem_of_file}
use Rattle.qv_shell_qdimacs.specs.Checking.{asks, beside, file_outcome}
use Rattle.qv_shell_qdimacs.specs.Texts.{limit_word}
use Rattle.qv_shell_qdimacs.specs.Laws.{AcceptsSolvedFile, FileAnswersAreTrue, FileAnswersHold, SolvedFilesAreAccepted}
use Rattle.qv_shell_qdimacs.specs.Solving.{IsFileSolved}
use Rattle.qv_shell_args.specs.declared.calls.Settings.{Settings}
use Rattle.qv_shell.specs.Checking.{IsEnd, IsFront, IsShort, IsWhole}
use Rattle.qv_shell.specs.Formulas.{IsQCheckRun, IsQSolveRun, IsUnbegun}
use Rattle.qv_shell.specs.Requests.{limits_with}
use Rattle.qv_shell.proofs.Checks.{ends-well}

-- ---- a formula is solved, with limits that are these
module _ (places : ℕ) {S : Type 0} (call : S → ℕ → Option (List ℕ) → S → Type 0) (left : S → Option (List ℕ)) (limits wanted : Limits) (are : limits ≡ wanted) (source source' : S) (out out' cert cert' : Option (List ℕ)) (before after : List Record) where
  answered : (n status : ℕ) → status ≡ n → (n ≤ 5) × (n ≢ 2) → IsFileSolved places call left limits source source' out out' cert cert' before after n →
      IsQSolveRun places call left wanted source source' out out' cert cert' before after status
  answered n status is early run =
      subst (λ (m : ℕ). IsQSolveRun places call left wanted source source' out out' cert cert' before after m) (sym is)
      (subst (λ (l : Limits). IsQSolveRun places call left l source source' out out' cert cert' before after n) are (record { status_is = early; run = inl run }))

  -- at its end
  pub answer-done : (e : FileEnding) (status : ℕ) → status ≡ over.status_of e → IsFileSolved places call left limits source source' out out' cert cert' before after (over.status_of e) →
      IsQSolveRun places call left wanted source source' out out' cert cert' before after status
  answer-done file.Answered status is run = answered 0 status is (omega arith, λ two. absurd (omega (arith, two))) run
  answer-done file.Faulty status is run = answered 1 status is (omega arith, λ two. absurd (omega (arith, two))) run

  -- or before
  pub answer-halted : (h : Halt) (status : ℕ) → status ≡ halt_status h → IsFileSolved places call left limits source source' out out' cert cert' before after (halt_status h) →
      IsQSolveRun places call left wanted source source' out out' cert cert' before after status
  answer-halted halt.Read status is run = answered 3 status is (omega arith, λ two. absurd (omega (arith, two))) run
  answer-halted halt.ReadLimit status is run = answered 3 status is (omega arith, λ two. absurd (omega (arith, two))) run
  answer-halted halt.Write status is run = answered 4 status is (omega arith, λ two. absurd (omega (arith, two))) run
  answer-halted halt.NoMemory status is run = answered 5 status is (omega arith, λ two. absurd (omega (arith, two))) run

-- where a status comes from
pub early-end : (e : FileEnding) → over.status_of e ≤ 1
early-end file.Answered = omega arith
early-end file.Faulty = omega arith

pub unanswered-yet : {A B C D : Type 0} (h : Halt) → (h ≡ halt.Read → A) → (h ≡ halt.ReadLimit → B) → (h ≡ halt.Write → C ⊎ D) →
    (A → ⊥) → (B → ⊥) → (C → ⊥) → (D → ⊥) → halt_status h ≢ 5 → halt_status h ≤ 1
unanswered-yet halt.Read read limit write a b c d five = absurd (a (read refl))
unanswered-yet halt.ReadLimit read limit write a b c d five = absurd (b (limit refl))
unanswered-yet halt.Write read limit write a b c d five = elim (write refl) [ inl x ↦ absurd (c x) | inr x ↦ absurd (d x) ]
unanswered-yet halt.NoMemory read limit write a b c d five = absurd (five refl)

-- where it can't be said what was asked for, nothing was done
pub unanswered : {S : Type 0} (call : S → ℕ → Option (List ℕ) → S → Type 0) (left : S → Option (List ℕ)) (source : S) (out cert : Option (List ℕ)) (records : List Record) (s : Settings) →
    IsQSolveRun s.places call left (limits_with s.budgets) source source out out cert cert records records 5
unanswered call left source out cert records s = record {
  status_is = (omega arith, λ two. absurd (omega (arith, two)));
  run = inr (record { memory = refl; unread = refl; unprinted = refl; unkept = refl; untried = refl });
}

-- ---- a certificate is checked beside a formula

-- where both texts are told
abbrev Told : (file cert : Option (List ℕ)) → (List ℕ → List ℕ → Type 0) → Type 0
Told file cert P = IfSome file (λ text. IfSome cert (λ bytes. P text bytes))

told : (P : List ℕ → List ℕ → Type 0) (file cert : Option (List ℕ)) → ((text bytes : List ℕ) → P text bytes) → Told file cert P
told P None cert h = tt
told P (Some text) None h = tt
told P (Some text) (Some bytes) h = h text bytes

module _ (places : ℕ) (holds : FileAnswersAreTrue) (accepted : SolvedFilesAreAccepted) (file cert held held' : Option (List ℕ)) where
  abbrev Run : ℕ → Type 0
  Run status = IsQCheckRun places file cert held held' status

  abbrev Whole : ℕ → Type 0
  Whole status = Told file cert (λ text bytes. IsWhole held held' status (file_outcome places text bytes))

  abbrev Front : Type 0
  Front = Told file cert (λ text bytes. IsFront held held' (file_outcome places text bytes))

  abbrev Short : Type 0
  Short = Told file cert (λ text bytes. IsShort held held' (file_outcome places text bytes))

  -- at its end
  pub judge-done : (e : Ending) (status : ℕ) → status ≡ status_of e → Whole (status_of e) → Run status
  judge-done e status is done = subst Run (sym is) (go e done)
    where
      ended : (n : ℕ) → IsEnd n → (3 ≤ n → n ≤ 5 → ⊥) → Whole n → Run n
      ended n early late done = record {
        ends = inl early;
        whole = λ _. done;
        front = λ high low. absurd (late high low);
        short = λ five. absurd (late (omega (arith, five)) (omega (arith, five)));
        answers_hold = told (FileAnswersHold places) file cert (holds places);
        accepts = told (AcceptsSolvedFile places) file cert (accepted places);
      }

      go : (x : Ending) → Whole (status_of x) → Run (status_of x)
      go Accepted done = ended 0 (ends-well Accepted) (λ high low. omega (arith, high)) done
      go Faulty done = ended 1 (ends-well Faulty) (λ high low. omega (arith, high)) done
      go Refused done = ended 6 (ends-well Refused) (λ high low. omega (arith, low)) done

  -- or before
  stops : (n : ℕ) → 3 ≤ n → n ≤ 5 → Front → (n ≡ 5 → Short) → Run n
  stops n high low cut short = record {
    ends = inr (high, low);
    whole = λ early. elim early [ inl few ↦ absurd (omega (arith, few, high)) | inr six ↦ absurd (omega (arith, six, low)) ];
    front = λ _ _. cut;
    short = short;
    answers_hold = told (FileAnswersHold places) file cert (holds places);
    accepts = told (AcceptsSolvedFile places) file cert (accepted places);
  }

  pub judge-halted : (h : Halt) (status : ℕ) → status ≡ halt_status h → Front → (h ≡ halt.NoMemory → Short) → Run status
  judge-halted h status is cut short = subst Run (sym is) (go h short)
    where
      go : (x : Halt) → (x ≡ halt.NoMemory → Short) → Run (halt_status x)
      go halt.Read short = stops 3 (omega arith) (omega arith) cut (λ five. absurd (omega (arith, five)))
      go halt.ReadLimit short = stops 3 (omega arith) (omega arith) cut (λ five. absurd (omega (arith, five)))
      go halt.Write short = stops 4 (omega arith) (omega arith) cut (λ five. absurd (omega (arith, five)))
      go halt.NoMemory short = stops 5 (omega arith) (omega arith) cut (λ _. short refl)

-- something is to be written of each
asks-lines : (places : ℕ) (p : Problem) → HasLines (asks places p)
asks-lines places p = by (nat_lt places (length p.prefix))
  where
    by : (over : Bool) → HasLines (if over then Stops (refusal 0 limit_word) else Asks p (λ answer. Ends))
    by true = λ none. absurd cc
    by false = λ answer. tt

said-lines : (places : ℕ) (said : Said) → HasLines (beside places said)
said-lines places (content.File prefix clauses) = asks-lines places (problem_of_file prefix clauses)
said-lines places (content.Faulty place k) = λ none. absurd cc

some-text : (places : ℕ) (file cert : List ℕ) → (file_outcome places file cert).text ≢ []
some-text places file cert = verdict-text (beside places (qdimacs_of file)) cert (said-lines places (qdimacs_of file))

-- where it can't be said what was asked for, nothing was written
pub unjudged : FileAnswersAreTrue → SolvedFilesAreAccepted → (file cert held : Option (List ℕ)) (places : ℕ) → IsQCheckRun places file cert held held 5
unjudged holds accepted file cert held places =
    stops places holds accepted file cert held held 5 (omega arith) (omega arith)
    (told (λ text bytes. IsFront held held (file_outcome places text bytes)) file cert (λ text bytes. ([], (file_outcome places text bytes).text, refl, Appends-nothing held)))
    (λ _. told (λ text bytes. IsShort held held (file_outcome places text bytes)) file cert (λ text bytes. ([], (file_outcome places text bytes).text, refl, some-text places text bytes, Appends-nothing held)))
