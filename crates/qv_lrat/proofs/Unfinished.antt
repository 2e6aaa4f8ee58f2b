-- What a check comes to is a line: where nothing is written it isn't the whole.
use Rattle.std.proofs.Common.{◌≡◌, ◌≢◌, ◌++◌, ℕ, suc, Bool, true, false, Option, Some, None, List, [], ◌∷◌, refl}
use Rattle.std.specs.Prelude.{IfSome, if◌then◌else◌}
use Rattle.qv_cnf.specs.LratLine.{LratLine}
use Rattle.qv_cnf.specs.Refutation.{Judgement, Accepted, OutOfOrder, RatAt, FailsAt, LeftOpen, Standing, after_line, judged_line, standing_at}
use Rattle.qv_io.specs.Sink.{Appends}
use Rattle.qv_io.proofs.SinkLemmas.{Appends-nothing}
use Rattle.qv_cert.specs.Lines.{all_lines}
use Rattle.qv_cert_formulas.specs.Numbers.{under_ids}
use Rattle.qv_check_laws.specs.Verdict.{IsAccepted, IsRefused}
use Rattle.qv_cert.specs.declared.kind.RefusalKind.TheVariants as kind
use Rattle.qv_check_defs.specs.Outcome.{ending_text}
use Rattle.qv_dimacs.specs.Clauses.{Said, Clauses, Faulty, dimacs_of}
use Rattle.qv_lrat_text.specs.Grammar.{lrat_line}
use Rattle.qv_lrat.specs.Verdict.{Judged, by_judgement, by_line, faulty, judged_beside, judged_lines, lrat_outcome}

abbrev HasText : Judged → Type 0
HasText j = ending_text j ≢ []

judgement-text : (n : ℕ) (j : Judgement) (next : Judged) → HasText next → HasText (by_judgement n j next)
judgement-text n Accepted next h = h
judgement-text n OutOfOrder next h = λ none. absurd cc
judgement-text n (RatAt position) next h = λ none. absurd cc
judgement-text n (FailsAt position) next h = λ none. absurd cc
judgement-text n LeftOpen next h = λ none. absurd cc

line-text : (n : ℕ) (s : Standing) (line : Option LratLine) (goes_on : Standing → Judged) → ((t : Standing) → HasText (goes_on t)) → HasText (by_line n s line goes_on)
line-text n s None goes_on h = λ none. absurd cc
line-text n s (Some line) goes_on h = by s.refuted
  where
    by : (over : Bool) → HasText (if over then goes_on s else by_judgement n (judged_line s line) (goes_on (after_line s line)))
    by true = h s
    by false = judgement-text n (judged_line s line) (goes_on (after_line s line)) (h (after_line s line))

lines-text : (texts : List (List ℕ)) (s : Standing) (n : ℕ) → HasText (judged_lines s n texts)
unfolding judged_lines
lines-text [] s n = by s.refuted
  where
    by : (over : Bool) → HasText (if over then IsAccepted else IsRefused n kind.Refutation)
    by true = λ none. absurd cc
    by false = λ none. absurd cc
lines-text (text ∷ texts) s n = line-text n s (lrat_line text) (λ next. judged_lines next (suc n) texts) (λ next. lines-text texts next (suc n))

beside-text : (said : Said) (proof : List ℕ) → HasText (judged_beside said proof)
unfolding faulty
beside-text (Faulty place k) proof = λ none. absurd cc
beside-text (Clauses clauses) proof = lines-text (all_lines proof) (standing_at (under_ids 1 clauses)) 1

-- nothing of it was written, where both texts are told
pub nothing-short : (cnf proof held : Option (List ℕ)) → IfSome cnf (λ t. IfSome proof (λ bytes. (written rest : List ℕ) × ((lrat_outcome t bytes).text ≡ written ++ rest) × (rest ≢ []) × Appends held held written))
nothing-short None proof held = tt
nothing-short (Some t) None held = tt
nothing-short (Some t) (Some bytes) held = ([], (lrat_outcome t bytes).text, refl, beside-text (dimacs_of t) bytes, Appends-nothing held)
