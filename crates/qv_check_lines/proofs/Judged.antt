-- What the next line makes of a section.
use Rattle.std.proofs.Common.{◌≡◌, ◌≢◌, ℕ, zero, suc, ◌<◌, Bool, true, false, Option, Some, None, List, [], ◌∷◌, refl, sym, ap, subst, ◌∙◌, arith}
use Rattle.std.specs.Prelude.{Result, Ok, Err, IfOk, IfErr, IfSome, MatchResult, IsTrue, option_map}
use Rattle.std.specs.Bool.{OnFalse}
use Rattle.qv_words.specs.declared.op.Answer.{Answer}
use Rattle.qv_cert.specs.declared.kind.RefusalKind.{RefusalKind}
use Rattle.qv_cert.specs.declared.kind.RefusalKind.TheVariants as kind
use Rattle.qv_cnf.specs.Literal.{Literal}
use Rattle.qv_cnf.specs.LratLine.{LratLine}
use Rattle.qv_cnf.specs.Refutation.{Standing}
use Rattle.qv_rup.specs.declared.faults.StepFault.{StepFault}
use Rattle.qv_rup.specs.declared.faults.StepFault.TheVariants as fault
use Rattle.qv_cert_formulas.specs.Steps.{IsStepped}
use Rattle.qv_cert.specs.Line.{Step}
use Rattle.qv_cert.specs.declared.line.Line.{Line}
use Rattle.qv_cert.specs.LineView.{cert_line_of}
use Rattle.qv_cert.specs.Grammar.{Reading, cert_line}
use Rattle.qv_cert.specs.Text.{Text, AtEnd, Faulty, next_of, next_of_reading, line_behind}
use Rattle.qv_cert.specs.CertReader.{with_line, next_in}
use Rattle.qv_cert.specs.Section.{Task, State, Opening, Closing, Listing, Rewriting, Refuting, Outcome, GoesOn, Accepts, Refuses, Judged, AcceptedUpTo, RefusedAt, at_place, by_reading, by_outcome, step, judged_from, fault_at, is_refuting}
use Rattle.qv_check_lines.specs.declared.verdict.Verdict.{Verdict}
use Rattle.qv_check_lines.specs.declared.verdict.Verdict.TheVariants.{Accepted, Refused, PrefixLimit, ReadFault, ReadLimit, NoMemory}
use Rattle.qv_check_lines.specs.Judging.{ComesBehind, ComesTo, Decides, IsRefutedFrom, IsVerdictFrom, LeadsTo, IsNextLine, kind_at}
use Rattle.qv_check_lines.specs.Refuted.{onward, refuted_from}
use Rattle.qv_check_lines.specs.Steps.{IsTaken, refusal_of}
use Rattle.qv_check_lines.proofs.OwnFaults.{not-truncated}

-- the judgement of lines of which the first does this
judged-by : (task : Task) (s : State) (n : ℕ) (text : List ℕ) (lines : List (List ℕ)) (o : Outcome) → step task s text ≡ o
    → judged_from task s n (text ∷ lines) ≡ by_outcome n lines (λ next. judged_from task next (suc n) lines) o
unfolding judged_from
judged-by task s n text lines o e = ap (by_outcome n lines (λ next. judged_from task next (suc n) lines)) e

-- what a line that was read does
does : (task : Task) (s : State) (inner : Bool) (text : List ℕ) (line : Line) (o : Outcome) → is_refuting s ≡ inner → cert_line inner text ≡ Ok (cert_line_of line) → at_place task s (cert_line_of line) ≡ o → step task s text ≡ o
does task s inner text line o e is at = ap (λ b. by_reading task s (cert_line b text)) e ∙ ap (by_reading task s) is ∙ at

pub goes-on : (task : Task) (s t : State) (given later : ℕ) (inner : Bool) (old new : Option Text) (line : Line) → later ≡ suc given → is_refuting s ≡ inner → IsNextLine inner old line new
    → at_place task s (cert_line_of line) ≡ GoesOn t → LeadsTo task s given old t later new
goes-on task s t given later inner old new line count e next at now left verdict h =
    subst (λ (o : Option Text). IsVerdictFrom task s given o now left verdict) (sym next.1) (go new (subst (λ n. IsVerdictFrom task t n new now left verdict) count h))
  where
    go : (u : Option Text) → IsVerdictFrom task t (suc given) u now left verdict → IsVerdictFrom task s given (option_map (with_line next.0) u) now left verdict
    go None k = tt
    go (Some u) k =
        subst (λ (j : Judged). Decides now u.rest left j verdict) (sym (judged-by task s (suc given) next.0 u.lines (GoesOn t) (does task s inner next.0 line (GoesOn t) e next.2 at))) k

pub is-accepted : (task : Task) (s : State) (given later : ℕ) (inner : Bool) (old new : Option Text) (line : Line) (answer : Answer) → later ≡ suc given → is_refuting s ≡ inner → IsNextLine inner old line new
    → at_place task s (cert_line_of line) ≡ Accepts answer → IsVerdictFrom task s given old later new (Accepted answer)
is-accepted task s given later inner old new line answer count e next at =
    subst (λ (o : Option Text). IsVerdictFrom task s given o later new (Accepted answer)) (sym next.1) (go new)
  where
    go : (u : Option Text) → IsVerdictFrom task s given (option_map (with_line next.0) u) later u (Accepted answer)
    go None = tt
    go (Some u) = (
      judged-by task s (suc given) next.0 u.lines (Accepts answer) (does task s inner next.0 line (Accepts answer) e next.2 at)
          ∙ ap (λ n. AcceptedUpTo answer (suc n) u.lines) (sym count),
      refl,
    )

pub is-refused : (task : Task) (s : State) (given now number : ℕ) (inner : Bool) (old new left : Option Text) (line : Line) (k : RefusalKind) → number ≡ suc given → is_refuting s ≡ inner → IsNextLine inner old line new
    → at_place task s (cert_line_of line) ≡ Refuses k → IsVerdictFrom task s given old now left (Refused number k)
is-refused task s given now number inner old new left line k count e next at =
    subst (λ (o : Option Text). IsVerdictFrom task s given o now left (Refused number k)) (sym next.1) (go new)
  where
    go : (u : Option Text) → IsVerdictFrom task s given (option_map (with_line next.0) u) now left (Refused number k)
    go None = tt
    go (Some u) =
        judged-by task s (suc given) next.0 u.lines (Refuses k) (does task s inner next.0 line (Refuses k) e next.2 at) ∙ ap (λ n. RefusedAt n k) (sym count)

-- what is judged where the same line does the same
pub same-line : (task : Task) (s t : State) (given now : ℕ) (before after left : Option Text) (line : Line) (verdict : Verdict) → is_refuting s ≡ false → is_refuting t ≡ false → IsNextLine false before line after
    → at_place task s (cert_line_of line) ≡ at_place task t (cert_line_of line) → IsVerdictFrom task t given before now left verdict → IsVerdictFrom task s given before now left verdict
same-line task s t given now before after left line verdict es et next at h =
    subst (λ (o : Option Text). IsVerdictFrom task s given o now left verdict) (sym next.1) (go after (subst (λ (o : Option Text). IsVerdictFrom task t given o now left verdict) next.1 h))
  where
    there : (lines : List (List ℕ)) → judged_from task s (suc given) (next.0 ∷ lines) ≡ judged_from task t (suc given) (next.0 ∷ lines)
    there lines =
        judged-by task s (suc given) next.0 lines (at_place task t (cert_line_of line)) (does task s false next.0 line (at_place task t (cert_line_of line)) es next.2 at)
        ∙ sym (judged-by task t (suc given) next.0 lines (at_place task t (cert_line_of line)) (does task t false next.0 line (at_place task t (cert_line_of line)) et next.2 refl))

    go : (u : Option Text) → IsVerdictFrom task t given (option_map (with_line next.0) u) now left verdict → IsVerdictFrom task s given (option_map (with_line next.0) u) now left verdict
    go None k = tt
    go (Some u) k = subst (λ (j : Judged). Decides now u.rest left j verdict) (sym (there u.lines)) k

-- ---- before the refutation

-- what comes to be refuted where the first line does this
pub refuted-by : (task : Task) (s : State) (text : List ℕ) (lines : List (List ℕ)) (o : Outcome) → is_refuting s ≡ false → step task s text ≡ o
    → refuted_from task s (text ∷ lines) ≡ onward (λ next. refuted_from task next lines) o
unfolding refuted_from
refuted-by task Opening text lines o outside is = ap (onward (λ next. refuted_from task next lines)) is
refuted-by task Closing text lines o outside is = ap (onward (λ next. refuted_from task next lines)) is
refuted-by task (Listing answer l) text lines o outside is = ap (onward (λ next. refuted_from task next lines)) is
refuted-by task (Rewriting answer formulas) text lines o outside is = ap (onward (λ next. refuted_from task next lines)) is
refuted-by task (Refuting answer s) text lines o outside is = absurd cc

pub comes-on : (task : Task) (s t : State) (given later : ℕ) (old new : Option Text) (line : Line) → later ≡ suc given → is_refuting s ≡ false → IsNextLine false old line new
    → at_place task s (cert_line_of line) ≡ GoesOn t → ComesTo task s given old t later new
comes-on task s t given later old new line count outside next at = record {
  judged = goes-on task s t given later false old new line count outside next at;
  refuted = λ clauses h. subst (λ (o : Option Text). IsRefutedFrom task s o clauses) (sym next.1) (go clauses new h);
}
  where
    go : (clauses : List (List Literal)) (u : Option Text) → IsRefutedFrom task t u clauses → IsRefutedFrom task s (option_map (with_line next.0) u) clauses
    go clauses None k = tt
    go clauses (Some u) k = refuted-by task s next.0 u.lines (GoesOn t) outside (does task s false next.0 line (GoesOn t) outside next.2 at) ∙ k

-- where the same line does the same
pub comes-same : (task : Task) (s t : State) (given : ℕ) (before after : Option Text) (line : Line) → is_refuting s ≡ false → is_refuting t ≡ false → IsNextLine false before line after
    → at_place task s (cert_line_of line) ≡ at_place task t (cert_line_of line) → ComesTo task s given before t given before
comes-same task s t given before after line es et next at = record {
  judged = λ now left verdict h. same-line task s t given now before after left line verdict es et next at h;
  refuted = λ clauses h. subst (λ (o : Option Text). IsRefutedFrom task s o clauses) (sym next.1) (go clauses after (subst (λ (o : Option Text). IsRefutedFrom task t o clauses) next.1 h));
}
  where
    there : (lines : List (List ℕ)) → refuted_from task s (next.0 ∷ lines) ≡ refuted_from task t (next.0 ∷ lines)
    there lines =
        refuted-by task s next.0 lines (at_place task t (cert_line_of line)) es (does task s false next.0 line (at_place task t (cert_line_of line)) es next.2 at)
        ∙ sym (refuted-by task t next.0 lines (at_place task t (cert_line_of line)) et (does task t false next.0 line (at_place task t (cert_line_of line)) et next.2 refl))

    go : (clauses : List (List Literal)) (u : Option Text) → IsRefutedFrom task t (option_map (with_line next.0) u) clauses → IsRefutedFrom task s (option_map (with_line next.0) u) clauses
    go clauses None k = tt
    go clauses (Some u) k = there u.lines ∙ k

-- from a state to itself, and over several lines
pub comes-here : (task : Task) (s : State) (given : ℕ) (text : Option Text) → ComesTo task s given text s given text
comes-here task s given text = record { judged = λ now left verdict h. h; refuted = λ clauses h. h }

pub comes-further : (task : Task) (s t u : State) (given middle later : ℕ) (old between new : Option Text) → ComesTo task s given old t middle between → ComesTo task t middle between u later new → ComesTo task s given old u later new
comes-further task s t u given middle later old between new f g = record {
  judged = λ now left verdict h. f.judged now left verdict (g.judged now left verdict h);
  refuted = λ clauses h. f.refuted clauses (g.refuted clauses h);
}

-- ---- where there is no line

pub no-end : (r : Reading) → next_of_reading r ≡ AtEnd → ⊥
no-end (Ok line) e = cc
no-end (Err k) e = cc

ends-there : (task : Task) (s : State) (n given : ℕ) (inner : Bool) (lines : List (List ℕ)) (rest : List ℕ) → next_of given inner lines rest ≡ AtEnd → judged_from task s n lines ≡ RefusedAt n kind.Truncated
unfolding judged_from
ends-there task s n given inner [] rest e = refl
ends-there task s n given inner (line ∷ lines) rest e = absurd (no-end (line_behind given inner line) e)

pub is-ended : (task : Task) (s : State) (given now number : ℕ) (inner : Bool) (old left : Option Text) → number ≡ suc given → IfSome old (λ t. next_in given inner t ≡ AtEnd) → IsVerdictFrom task s given old now left (Refused number kind.Truncated)
is-ended task s given now number inner None left count h = tt
is-ended task s given now number inner (Some t) left count h = ends-there task s (suc given) given inner t.lines t.rest h ∙ ap (λ n. RefusedAt n kind.Truncated) (sym count)

pub reading-fault : (r : Reading) (k : RefusalKind) → next_of_reading r ≡ Faulty k → r ≡ Err k
reading-fault (Ok line) k e = absurd cc
reading-fault (Err j) k e = cc

faults-there : (task : Task) (s : State) (n given : ℕ) (inner : Bool) (lines : List (List ℕ)) (rest : List ℕ) (k found : RefusalKind) → is_refuting s ≡ inner → next_of (suc given) inner lines rest ≡ Faulty k
    → (k ≡ kind.Truncated → found ≡ kind.Truncated) → (k ≢ kind.Truncated → found ≡ fault_at task s k) → judged_from task s n lines ≡ RefusedAt n found
unfolding judged_from
faults-there task s n given inner [] [] k found e h cut other = absurd cc
faults-there task s n given inner [] (byte ∷ rest) k found e h cut other = let same : k ≡ kind.Truncated = cc in ap (RefusedAt n) (sym (cut same))
faults-there task s n given inner (line ∷ lines) rest k found e h cut other =
    let fault : cert_line inner line ≡ Err k = reading-fault (cert_line inner line) k h in
    judged-by task s n line lines (Refuses (fault_at task s k)) (ap (λ b. by_reading task s (cert_line b line)) e ∙ ap (by_reading task s) fault)
    ∙ ap (RefusedAt n) (sym (other (not-truncated inner line k fault)))

pub is-faulty : (task : Task) (s : State) (given now number : ℕ) (inner : Bool) (old left : Option Text) (k found : RefusalKind) → number ≡ suc given → 0 < given → is_refuting s ≡ inner → IfSome old (λ t. next_in given inner t ≡ Faulty k)
    → (k ≡ kind.Truncated → found ≡ kind.Truncated) → (k ≢ kind.Truncated → found ≡ fault_at task s k) → IsVerdictFrom task s given old now left (Refused number found)
is-faulty task s zero now number inner old left k found count some e h cut other = absurd (omega (arith, some))
is-faulty task s (suc given) now number inner None left k found count some e h cut other = tt
is-faulty task s (suc given) now number inner (Some t) left k found count some e h cut other =
    faults-there task s (suc (suc given)) given inner t.lines t.rest k found e h cut other ∙ ap (λ n. RefusedAt n found) (sym count)

-- ---- where more was wanted

pub comes-behind : (task : Task) (s : State) (given n : ℕ) (lines : List (List ℕ)) → given < n → ComesBehind given (judged_from task s n lines)
unfolding judged_from
comes-behind task s given n [] h = h
comes-behind task s given n (line ∷ lines) h = by (λ t. comes-behind task t given (suc n) lines (omega (arith, h))) (step task s line)
  where
    by : ((t : State) → ComesBehind given (judged_from task t (suc n) lines)) → (o : Outcome) → ComesBehind given (by_outcome n lines (λ next. judged_from task next (suc n) lines) o)
    by on (GoesOn t) = on t
    by on (Accepts answer) = omega (arith, h)
    by on (Refuses k) = h

pub more-wanted : (task : Task) (s : State) (given now : ℕ) (before left : Option Text) → now ≡ given → IsVerdictFrom task s given before now left ReadLimit
more-wanted task s given now None left is = tt
more-wanted task s given now (Some t) left is = comes-behind task s now (suc given) t.lines (omega (arith, is))

-- ---- where memory runs out

pub no-memory : (task : Task) (s : State) (given : ℕ) (before : Option Text) (now : ℕ) (left : Option Text) → IsVerdictFrom task s given before now left NoMemory
no-memory task s given None now left = tt
no-memory task s given (Some t) now left = tt

-- ---- in the refutation

pub same-kind : (task : Task) (answer : Answer) (s : Standing) (k : RefusalKind) → fault_at task (Refuting answer s) k ≡ kind_at false false k
same-kind task answer s kind.Operator = refl
same-kind task answer s kind.Literal = refl
same-kind task answer s kind.Rule = refl
same-kind task answer s k = refl

-- a step
pub taken : (task : Task) (answer : Answer) (old new : Standing) (line : LratLine) (number : ℕ) (r : Result (Unit {0}) StepFault) → IsStepped answer old line r new
    → MatchResult r (λ done. IsTaken task answer old (Step line) number (Ok true) new) (λ f. IsTaken task answer old (Step line) number (Err (refusal_of number f)) new)
taken task answer old new line number (Ok done) h = h
taken task answer old new line number (Err fault.Order) h = (refl, h)
taken task answer old new line number (Err (fault.Rat hint)) h = (refl, h)
taken task answer old new line number (Err (fault.Hint hint)) h = (refl, h)
taken task answer old new line number (Err fault.Open) h = (refl, h)
taken task answer old new line number (Err fault.NoMemory) h = tt

-- a line that was taken
pub step-goes : (task : Task) (answer : Answer) (old new : Standing) (line : Line) (given later number : ℕ) (before after : Option Text) (more : Bool) → later ≡ suc given → IsNextLine true before line after
    → IsTaken task answer old (cert_line_of line) number (Ok more) new → IsTrue more → LeadsTo task (Refuting answer old) given before (Refuting answer new) later after
step-goes task answer old new line given later number before after true count next h is = goes-on task (Refuting answer old) (Refuting answer new) given later true before after line count refl next h
step-goes task answer old new line given later number before after false count next h is = absurd cc

pub step-ends : (task : Task) (answer : Answer) (old new : Standing) (line : Line) (given later number : ℕ) (before after : Option Text) (more : Bool) → later ≡ suc given → IsNextLine true before line after
    → IsTaken task answer old (cert_line_of line) number (Ok more) new → OnFalse more (IsVerdictFrom task (Refuting answer old) given before later after (Accepted answer))
step-ends task answer old new line given later number before after true count next h = tt
step-ends task answer old new line given later number before after false count next h = is-accepted task (Refuting answer old) given later true before after line answer count refl next h

pub step-fails : (task : Task) (answer : Answer) (old new : Standing) (line : Line) (given now number : ℕ) (before after left : Option Text) (verdict : Verdict) → number ≡ suc given → IsNextLine true before line after
    → IsTaken task answer old (cert_line_of line) number (Err verdict) new → IsVerdictFrom task (Refuting answer old) given before now left verdict
step-fails task answer old new line given now number before after left (Refused n k) count next h = is-refused task (Refuting answer old) given now n true before after left line k (h.0 ∙ count) refl next h.1
step-fails task answer old new line given now number before after left (Accepted a) count next h = absurd h
step-fails task answer old new line given now number before after left PrefixLimit count next h = absurd h
step-fails task answer old new line given now number before after left ReadFault count next h = absurd h
step-fails task answer old new line given now number before after left ReadLimit count next h = absurd h
step-fails task answer old new line given now number before after left NoMemory count next h = no-memory task (Refuting answer old) given before now left

-- by the answer for the line
pub step-all_goes : (old new : Standing) (line : Line) (given later number : ℕ) (before after : Option Text) (r : Result Bool Verdict) → later ≡ suc given → IsNextLine true before line after
    → ((task : Task) (answer : Answer) → IsTaken task answer old (cert_line_of line) number r new)
    → IfOk r (λ more. IsTrue more → (task : Task) (answer : Answer) → LeadsTo task (Refuting answer old) given before (Refuting answer new) later after)
step-all_goes old new line given later number before after (Ok more) count next h = λ is task answer. step-goes task answer old new line given later number before after more count next (h task answer) is
step-all_goes old new line given later number before after (Err v) count next h = tt

on-false : (b : Bool) (P : Type 0) → (b ≡ false → P) → OnFalse b P
on-false true P h = tt
on-false false P h = h refl

of-false : (b : Bool) (P : Type 0) → b ≡ false → OnFalse b P → P
of-false true P e h = absurd cc
of-false false P e h = h

pub step-all_ends : (old new : Standing) (line : Line) (given later number : ℕ) (before after : Option Text) (r : Result Bool Verdict) → later ≡ suc given → IsNextLine true before line after
    → ((task : Task) (answer : Answer) → IsTaken task answer old (cert_line_of line) number r new)
    → IfOk r (λ more. OnFalse more ((task : Task) (answer : Answer) → IsVerdictFrom task (Refuting answer old) given before later after (Accepted answer)))
step-all_ends old new line given later number before after (Ok more) count next h =
    on-false more ((task : Task) (answer : Answer) → IsVerdictFrom task (Refuting answer old) given before later after (Accepted answer))
    (λ e task answer. of-false more (IsVerdictFrom task (Refuting answer old) given before later after (Accepted answer)) e (step-ends task answer old new line given later number before after more count next (h task answer)))
step-all_ends old new line given later number before after (Err v) count next h = tt

pub step-all_fails : (old new : Standing) (line : Line) (given now number : ℕ) (before after left : Option Text) (r : Result Bool Verdict) → number ≡ suc given → IsNextLine true before line after
    → ((task : Task) (answer : Answer) → IsTaken task answer old (cert_line_of line) number r new)
    → IfErr r (λ verdict. (task : Task) (answer : Answer) → IsVerdictFrom task (Refuting answer old) given before now left verdict)
step-all_fails old new line given now number before after left (Ok more) count next h = tt
step-all_fails old new line given now number before after left (Err v) count next h = λ task answer. step-fails task answer old new line given now number before after left v count next (h task answer)
