-- What a check comes to, and what is written of it.
use Rattle.std.proofs.Common.{◌≡◌, ℕ, Option, Some, None, List, [], ◌++◌, take, drop, refl, sym, ap, subst, ◌∙◌}
use Rattle.std.specs.Prelude.{IfSome}
use Rattle.std.proofs.lemmas.List.{take-append-drop}
use Rattle.qv_cnf.specs.Literal.{Literal}
use Rattle.qv_io.specs.Sink.{Appends, AppendsPart}
use Rattle.qv_io.proofs.SinkLemmas.{Appends-nothing}
use Rattle.qv_cert.specs.Lines.{all_lines}
use Rattle.qv_check_defs.specs.Outcome.{ending_status, ending_text}
use Rattle.qv_check_script.specs.Ending.{status_of}
use Rattle.qv_check_script.specs.declared.ending.Ending.TheVariants as ending
use Rattle.qv_dimacs.specs.declared.faults.DimacsKind.{DimacsKind}
use Rattle.qv_dimacs.specs.Clauses.{Said, Clauses, Faulty, dimacs_of}
use Rattle.qv_lrat.specs.declared.judging.Judged.{Judged as Answer}
use Rattle.qv_lrat.specs.declared.judging.Judged.TheVariants.{Accepted, Refused}
use Rattle.qv_lrat.specs.declared.checking.Checked.{Checked}
use Rattle.qv_lrat.specs.declared.checking.Checked.TheVariants as checked
use Rattle.qv_lrat.specs.Judging.{OnFault, ending_of, judgement_of, verdict_of}
use Rattle.qv_lrat.specs.Verdict.{Judged, faulty, judged_beside, judged_proof, lrat_outcome}

-- where both texts are told, the verdict is this
abbrev pub Comes : (cnf proof : Option (List ℕ)) → Judged → Type 0
Comes cnf proof j = IfSome cnf (λ text. IfSome proof (λ bytes. judged_beside (dimacs_of text) bytes ≡ j))

pub beside-clauses : (clauses : List (List Literal)) (cnf proof : Option (List ℕ)) (end : Answer) → IfSome cnf (λ text. dimacs_of text ≡ Clauses clauses)
    → IfSome proof (λ bytes. judged_proof clauses (all_lines bytes) ≡ judgement_of end) → Comes cnf proof (judgement_of end)
beside-clauses clauses None proof end says h = tt
beside-clauses clauses (Some text) None end says h = tt
beside-clauses clauses (Some text) (Some bytes) end says h = ap (λ (s : Said). judged_beside s bytes) says ∙ h

pub beside-fault : (place : ℕ) (k : DimacsKind) (cnf proof : Option (List ℕ)) → IfSome cnf (λ text. dimacs_of text ≡ Faulty place k) → Comes cnf proof (verdict_of (checked.Faulty place k))
beside-fault place k None proof says = tt
beside-fault place k (Some text) None says = tt
beside-fault place k (Some text) (Some bytes) says = ap (λ (s : Said). judged_beside s bytes) says

status-is : (c : Checked) → status_of (ending_of c) ≡ ending_status (verdict_of c)
unfolding faulty
status-is (checked.Faulty place k) = refl
status-is (checked.Judged Accepted) = refl
status-is (checked.Judged (Refused line k)) = refl

pub unread-fault : (c : Checked) (P : Type 0) → OnFault c P → ending_of c ≡ ending.Faulty → P
unread-fault (checked.Faulty place k) P h e = h
unread-fault (checked.Judged Accepted) P h e = absurd cc
unread-fault (checked.Judged (Refused line k)) P h e = absurd cc

-- ---- what is written

pub whole-written : (c : Checked) (cnf proof held held' : Option (List ℕ)) (text : List ℕ) → Comes cnf proof (verdict_of c) → text ≡ ending_text (verdict_of c) → Appends held held' text
    → IfSome cnf (λ t. IfSome proof (λ bytes. (status_of (ending_of c) ≡ (lrat_outcome t bytes).status) × Appends held held' (lrat_outcome t bytes).text))
whole-written c None proof held held' text comes is wrote = tt
whole-written c (Some t) None held held' text comes is wrote = tt
whole-written c (Some t) (Some bytes) held held' text comes is wrote = (
  status-is c ∙ ap ending_status (sym comes),
  subst (λ (xs : List ℕ). Appends held held' xs) (is ∙ ap ending_text (sym comes)) wrote,
)

-- a front of it, where both texts are told
abbrev pub FrontWritten : (cnf proof held held' : Option (List ℕ)) → Type 0
FrontWritten cnf proof held held' = IfSome cnf (λ t. IfSome proof (λ bytes. (written rest : List ℕ) × ((lrat_outcome t bytes).text ≡ written ++ rest) × Appends held held' written))

pub none-written : (cnf proof held : Option (List ℕ)) → FrontWritten cnf proof held held
none-written None proof held = tt
none-written (Some t) None held = tt
none-written (Some t) (Some bytes) held = ([], (lrat_outcome t bytes).text, refl, Appends-nothing held)

pub part-written : (c : Checked) (cnf proof held held' : Option (List ℕ)) (text : List ℕ) → Comes cnf proof (verdict_of c) → text ≡ ending_text (verdict_of c) → AppendsPart held held' text → FrontWritten cnf proof held held'
part-written c None proof held held' text comes is part = tt
part-written c (Some t) None held held' text comes is part = tt
part-written c (Some t) (Some bytes) held held' text comes is part =
    (take part.0 text, drop part.0 text, ap ending_text comes ∙ sym is ∙ sym (take-append-drop part.0 text), part.2)
