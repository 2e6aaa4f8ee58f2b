-- What a check writes of its outcome.
use Rattle.std.proofs.Common.{◌≡◌, ◌≢◌, ℕ, Bool, true, false, Option, Some, None, List, [], ◌++◌, take, drop, take-append-drop, refl, sym, ap, subst, ◌∙◌, codes}
use Rattle.std.specs.Prelude.{IfSome, if◌then◌else◌, nat_lt, length}
use Rattle.qv_io.specs.Sink.{Appends, AppendsPart}
use Rattle.qv_io.proofs.SinkLemmas.{Appends-nothing}
use Rattle.qv_words.specs.Problem.{Problem}
use Rattle.qv_check_defs.specs.Outcome.{Outcome}
use Rattle.qv_check_laws.specs.Verdict.{Script, Asks, Stops, Ends}
use Rattle.qv_check_script.specs.Ending.{status_of}
use Rattle.qv_check_script.proofs.Unfinished.{HasLines, verdict-text}
use Rattle.qv_script_defs.specs.Faults.{refusal}
use Rattle.qv_qdimacs.specs.Text.{Said, File, Faulty, qdimacs_of}
use Rattle.qv_shell_qdimacs.specs.declared.judging.Judged.{Judged}
use Rattle.qv_shell_qdimacs.specs.Texts.{limit_word}
use Rattle.qv_shell_qdimacs.specs.Answers.{problem_of_file}
use Rattle.qv_shell_qdimacs.specs.Checking.{asks, beside, file_outcome}
use Rattle.qv_shell_qdimacs.specs.Judging.{outcome_in}

-- ---- some text

asks-lines : (places : ℕ) (p : Problem) → HasLines (asks places p)
asks-lines places p = by (nat_lt places (length p.prefix))
  where
    by : (over : Bool) → HasLines (if over then Stops (refusal 0 limit_word) else Asks p (λ answer. Ends))
    by true = λ none. absurd cc
    by false = λ a. tt

said-lines : (places : ℕ) (said : Said) → HasLines (beside places said)
said-lines places (File prefix clauses) = asks-lines places (problem_of_file prefix clauses)
said-lines places (Faulty place k) = λ none. absurd cc

some-text : (places : ℕ) (file cert : List ℕ) → (file_outcome places file cert).text ≢ []
some-text places file cert = verdict-text (beside places (qdimacs_of file)) cert (said-lines places (qdimacs_of file))

-- ---- what is written, where both texts are told

abbrev pub Comes : (places : ℕ) (file cert : Option (List ℕ)) → Judged → Type 0
Comes places file cert judged = IfSome file (λ text. IfSome cert (λ bytes. file_outcome places text bytes ≡ outcome_in judged))

pub whole-written : (places : ℕ) (judged : Judged) (file cert held held' : Option (List ℕ)) → Comes places file cert judged → Appends held held' judged.text.items
    → IfSome file (λ t. IfSome cert (λ bytes. (status_of judged.ending ≡ (file_outcome places t bytes).status) × Appends held held' (file_outcome places t bytes).text))
whole-written places judged None cert held held' comes wrote = tt
whole-written places judged (Some t) None held held' comes wrote = tt
whole-written places judged (Some t) (Some bytes) held held' comes wrote = (
  ap (λ (o : Outcome). o.status) (sym comes),
  subst (λ (o : Outcome). Appends held held' o.text) (sym comes) wrote,
)

-- a front of it
abbrev pub FrontWritten : (places : ℕ) (file cert held held' : Option (List ℕ)) → Type 0
FrontWritten places file cert held held' = IfSome file (λ t. IfSome cert (λ bytes. (written rest : List ℕ) × ((file_outcome places t bytes).text ≡ written ++ rest) × Appends held held' written))

pub none-written : (places : ℕ) (file cert held : Option (List ℕ)) → FrontWritten places file cert held held
none-written places None cert held = tt
none-written places (Some t) None held = tt
none-written places (Some t) (Some bytes) held = ([], (file_outcome places t bytes).text, refl, Appends-nothing held)

pub part-written : (places : ℕ) (judged : Judged) (file cert held held' : Option (List ℕ)) → Comes places file cert judged → AppendsPart held held' judged.text.items → FrontWritten places file cert held held'
part-written places judged None cert held held' comes part = tt
part-written places judged (Some t) None held held' comes part = tt
part-written places judged (Some t) (Some bytes) held held' comes part =
    let text = judged.text.items in
    (take part.0 text, drop part.0 text, ap (λ (o : Outcome). o.text) comes ∙ sym (take-append-drop part.0 text), part.2)

-- and less than the whole
pub none-short : (places : ℕ) (file cert held : Option (List ℕ)) → IfSome file (λ t. IfSome cert (λ bytes. (written rest : List ℕ) × ((file_outcome places t bytes).text ≡ written ++ rest) × (rest ≢ []) × Appends held held written))
none-short places None cert held = tt
none-short places (Some t) None held = tt
none-short places (Some t) (Some bytes) held = ([], (file_outcome places t bytes).text, refl, some-text places t bytes, Appends-nothing held)
