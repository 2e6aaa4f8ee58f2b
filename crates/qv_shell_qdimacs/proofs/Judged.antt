-- What the verdict on a section makes of the outcome.
use Rattle.std.proofs.Common.{◌≡◌, ◌+◌, ◌-◌, ◌<◌, ◌≤◌, ◌⊎◌, inl, inr, ℕ, suc, Bool, true, false, Option, Some, None, List, [], ◌∷◌, ◌++◌, length, length-append, map, take, refl, sym, ap, subst, ◌∙◌, append_assoc, arith}
use Rattle.std.specs.Prelude.{Err, IfOk, IfSome, Ok, Result, is_some, nat_lt, if◌then◌else◌, option_map}
use Rattle.std.proofs.lemmas.Bool.Decides.{nat_tests}
use Rattle.std.proofs.lemmas.List.{append-nil}
use Rattle.qv_cnf.specs.Literal.{Literal}
use Rattle.qv_words.specs.declared.op.Answer.{Answer}
use Rattle.qv_words.specs.Problem.{Problem, problem_of}
use Rattle.qv_words.specs.Tree.{Tree}
use Rattle.qv_store.specs.Nodes.{tree_at}
use Rattle.qv_store.specs.Stores.{StandsAt}
use Rattle.qv_cert.specs.declared.kind.RefusalKind.{RefusalKind}
use Rattle.qv_cert.specs.CertReader.{Filled, Position, no_call, one_more, to_give}
use Rattle.qv_cert.specs.Took.{Gave, TookLines, gave_more, gave_none}
use Rattle.qv_sexpr.specs.Limits.{read_limit}
use Rattle.qv_cert.specs.Section.{AcceptedUpTo, Judged as Section, Opening, RefusedAt, section_judged}
use Rattle.qv_cert.specs.Text.{Text}
use Rattle.qv_cert.proofs.Pinned.{less-test}
use Rattle.qv_check_laws.specs.AnswerLaws.{task_of}
use Rattle.qv_check_laws.specs.Verdict.{Asks, Ends, Ending as Last, Script, Stops, at_end, behind_section, ended, verdict_from, with_section}
use Rattle.qv_check_defs.specs.Limits.{MetLimit}
use Rattle.qv_check_defs.specs.Outcome.{Outcome, answer_line, ending_text, outcome_of, refused_line}
use Rattle.qv_check_lines.specs.declared.verdict.Verdict.{Verdict}
use Rattle.qv_check_lines.specs.declared.verdict.Verdict.TheVariants.{Accepted, NoMemory, PrefixLimit, ReadFault, ReadLimit, Refused}
use Rattle.qv_check_lines.specs.Ending.{StopsAtLimit, TookBy}
use Rattle.qv_check_lines.specs.Judging.{IsVerdictFrom}
use Rattle.qv_check_lines.proofs.TakenBy.{took-on}
use Rattle.qv_check_script.specs.declared.ending.Halt.{Halt}
use Rattle.qv_check_script.specs.Ending.{status_of}
use Rattle.qv_check_script.specs.Turns.{Heads}
use Rattle.qv_check_script.proofs.Limits.{gave-as, gave-on, had-given, had-limit}
use Rattle.qv_script_defs.specs.Faults.{refusal}
use Rattle.qv_qdimacs.specs.declared.faults.QdimacsKind.{QdimacsKind}
use Rattle.qv_qdimacs.specs.declared.files.Quantified.{Quantified}
use Rattle.qv_qdimacs.specs.Text.{Said, File, Faulty, qdimacs_of}
use Rattle.qv_qdimacs.specs.Translation.{formula_of}
use Rattle.qv_shell_qdimacs.specs.declared.judging.Judged.{Judged}
use Rattle.qv_shell_qdimacs.specs.Texts.{fault_word, limit_word}
use Rattle.qv_shell_qdimacs.specs.Answers.{place_count, problem_of_file}
use Rattle.qv_shell_qdimacs.specs.Checking.{asks, beside, file_outcome}
use Rattle.qv_shell_qdimacs.specs.Judging.{IsAccepted, IsJudgedBy, closed_by, outcome_behind, outcome_in}

not-less : (a b : ℕ) → (a < b → ⊥) → nat_lt a b ≡ false
not-less a b h = by (nat_lt a b) refl
  where
    by : (t : Bool) → nat_lt a b ≡ t → nat_lt a b ≡ false
    by true test = absurd (h (grind (arith, nat_tests)))
    by false test = test

-- a section is asked for, or the limit was met
abbrev either : Problem → Bool → Script (List ℕ)
either p over = if over then Stops (refusal 0 limit_word) else Asks p (λ answer. Ends)

pub asked : (places : ℕ) (p : Problem) → (places < length p.prefix → ⊥) → asks places p ≡ Asks p (λ answer. Ends)
asked places p within = ap (either p) (not-less places (length p.prefix) within)

exceeded : (places : ℕ) (p : Problem) → places < length p.prefix → asks places p ≡ Stops (refusal 0 limit_word)
exceeded places p over = ap (either p) (less-test places (length p.prefix) over)

abbrev pub writes : List ℕ → ℕ → Outcome
writes text status = record { text = text; status = status }

-- an accepted section in front of the last line
closed-text : (answer : Answer) (lines : List (List ℕ)) (given : ℕ) (t : Text) → outcome_of (with_section answer lines (ended (at_end (suc given) t.lines t.rest))) ≡ closed_by given answer t
closed-text answer lines given t =
    let next : suc given ≡ given + 1 = omega arith in
    ap (λ (n : ℕ). outcome_of (with_section answer lines (ended (at_end n t.lines t.rest)))) next ∙ simp append_assoc

module _ (places : ℕ) (prefix : List Quantified) (clauses : List (List Literal)) (version given : ℕ) (t : Text) where
  abbrev problem : Problem
  problem = problem_of_file prefix clauses

  abbrev judgement : Section
  judgement = section_judged (task_of (formula_of prefix clauses ∷ []) 1 version) (suc given) t.lines

  comes-to : (j : Section) → (places < place_count prefix clauses → ⊥) → judgement ≡ j
      → verdict_from version 1 (beside places (File prefix clauses)) (suc given) t.lines t.rest ≡ behind_section t.lines (λ answer m behind. verdict_from version 2 Ends m behind t.rest) j
  unfolding verdict_from
  comes-to j within is =
      ap (λ (q : Script (List ℕ)). verdict_from version 1 q (suc given) t.lines t.rest) (asked places problem within)
      ∙ ap (behind_section t.lines (λ answer m behind. verdict_from version 2 Ends m behind t.rest)) is

  accepts : (given' : ℕ) (u : Text) (answer : Answer) → (places < place_count prefix clauses → ⊥) → judgement ≡ AcceptedUpTo answer (suc given') u.lines → u.rest ≡ t.rest
      → outcome_behind places version given (File prefix clauses) t ≡ closed_by given' answer u
  unfolding verdict_from
  accepts given' u answer within is same =
      let own = take (length t.lines - length u.lines) t.lines in
      ap outcome_of (comes-to (AcceptedUpTo answer (suc given') u.lines) within is)
      ∙ ap (λ (rest : List ℕ). outcome_of (with_section answer own (ended (at_end (suc given') u.lines rest)))) (sym same)
      ∙ closed-text answer own given' u

  refuses : (line : ℕ) (k : RefusalKind) → (places < place_count prefix clauses → ⊥) → judgement ≡ RefusedAt line k → outcome_behind places version given (File prefix clauses) t ≡ record { text = refused_line line k; status = 6 }
  refuses line k within is = ap outcome_of (comes-to (RefusedAt line k) within is)

  exceeds-so : places < place_count prefix clauses → outcome_behind places version given (File prefix clauses) t ≡ record { text = refusal 0 limit_word; status = 1 }
  unfolding verdict_from
  exceeds-so over = ap (λ (q : Script (List ℕ)). outcome_of (verdict_from version 1 q (suc given) t.lines t.rest)) (exceeded places problem over)

-- by the verdict on a section, where the certificate is told
pub judged-so : (places : ℕ) (prefix : List Quantified) (clauses : List (List Literal)) (version given given' : ℕ) (old new : Option Text) (verdict : Verdict) (judged : Judged)
    → is_some new ≡ is_some old
    → IsVerdictFrom (task_of (formula_of prefix clauses ∷ []) 1 version) Opening given old given' new verdict
    → (verdict ≡ PrefixLimit → places < place_count prefix clauses) → (places < place_count prefix clauses → (verdict ≡ PrefixLimit) ⊎ (verdict ≡ NoMemory))
    → IsJudgedBy given' new verdict judged → IfSome old (λ t. outcome_in judged ≡ outcome_behind places version given (File prefix clauses) t)
judged-so places prefix clauses version given given' None new verdict judged tells h over within is = tt
judged-so places prefix clauses version given given' (Some t) None (Accepted answer) judged tells h over within is = absurd cc
judged-so places prefix clauses version given given' (Some t) (Some u) (Accepted answer) judged tells h over within is =
    is ∙ sym (accepts places prefix clauses version given t given' u answer (λ far. elim (within far) [ inl e ↦ cc | inr e ↦ cc ]) h.0 h.1)
judged-so places prefix clauses version given given' (Some t) new (Refused line k) judged tells h over within is =
    is ∙ sym (refuses places prefix clauses version given t line k (λ far. elim (within far) [ inl e ↦ cc | inr e ↦ cc ]) h)
judged-so places prefix clauses version given given' (Some t) new PrefixLimit judged tells h over within is = is ∙ sym (exceeds-so places prefix clauses version given t (over refl))
judged-so places prefix clauses version given given' (Some t) new ReadFault judged tells h over within is = absurd is
judged-so places prefix clauses version given given' (Some t) new ReadLimit judged tells h over within is = absurd is
judged-so places prefix clauses version given given' (Some t) new NoMemory judged tells h over within is = absurd is

-- behind an accepted section
pub closed-so : (given : ℕ) (answer : Answer) (old : Option Text) (last : List ℕ) (status : ℕ) (judged : Judged) → IfSome old (λ t. outcome_of (ended (at_end (given + 1) t.lines t.rest)) ≡ record { text = last; status = status })
    → judged.text.items ≡ answer_line answer ++ last → status_of judged.ending ≡ status → IfSome old (λ t. outcome_in judged ≡ closed_by given answer t)
closed-so given answer None last status judged h text is = tt
closed-so given answer (Some t) last status judged h text is =
    ap (λ (w : List ℕ). writes w (status_of judged.ending)) text ∙ ap (writes (answer_line answer ++ last)) is
    ∙ ap (λ (o : Outcome). writes (answer_line answer ++ o.text) o.status) (sym h)

-- where the text has a fault
pub judged-faulty : (places : ℕ) (place : ℕ) (k : QdimacsKind) (version given : ℕ) (judged : Judged) (t : Text) → outcome_in judged ≡ record { text = refusal place (fault_word k); status = 1 } → outcome_in judged ≡ outcome_behind places version given (Faulty place k) t
unfolding verdict_from
judged-faulty places place k version given judged t is = is

some-each : (old : Option Text) (P : Text → Type 0) → ((t : Text) → P t) → IfSome old P
some-each None P each = tt
some-each (Some t) P each = each t

-- where the file is told
pub faulty-told : (places : ℕ) (place : ℕ) (k : QdimacsKind) (version given : ℕ) (judged : Judged) (left : Option (List ℕ)) (text : List ℕ) (old : Option Text) → IfSome left (λ bytes. bytes ≡ text) → qdimacs_of text ≡ Faulty place k
    → outcome_in judged ≡ record { text = refusal place (fault_word k); status = 1 } → IfSome left (λ bytes. IfSome old (λ t. outcome_in judged ≡ outcome_behind places version given (qdimacs_of bytes) t))
faulty-told places place k version given judged None text old told says is = tt
faulty-told places place k version given judged (Some bytes) text old told says is =
    some-each old (λ t. outcome_in judged ≡ outcome_behind places version given (qdimacs_of bytes) t)
    (λ t. judged-faulty places place k version given judged t is ∙ ap (λ (said : Said). outcome_behind places version given said t) (sym (ap qdimacs_of told ∙ says)))

ok-on : {A E : Type 0} (r : Result A E) (P Q : A → Type 0) → IfOk r P → ((a : A) → P a → Q a) → IfOk r Q
ok-on (Ok a) P Q h go = go a h
ok-on (Err e) P Q h go = tt

-- by the verdict on the section of a formula that stands in a store
pub judged-in : (places : ℕ) (prefix : List Quantified) (clauses : List (List Literal)) (trees : List Tree) (id : ℕ) → StandsAt trees id (formula_of prefix clauses)
    → (version given given' : ℕ) (old new : Option Text) (v : Verdict) → is_some new ≡ is_some old
    → IsVerdictFrom (task_of (map (tree_at trees) (id ∷ [])) 1 version) Opening given old given' new v
    → (v ≡ PrefixLimit → places < length (problem_of (map (tree_at trees) (id ∷ []))).prefix)
    → (places < length (problem_of (map (tree_at trees) (id ∷ []))).prefix → (v ≡ PrefixLimit) ⊎ (v ≡ NoMemory))
    → (r : Result Judged Halt) → IfOk r (IsJudgedBy given' new v) → IfOk r (λ judged. IfSome old (λ t. outcome_in judged ≡ outcome_behind places version given (File prefix clauses) t))
judged-in places prefix clauses trees id stands version given given' old new v tells h over within r is =
    let same = stands.tree in
    ok-on r (IsJudgedBy given' new v) (λ judged. IfSome old (λ t. outcome_in judged ≡ outcome_behind places version given (File prefix clauses) t)) is
    (λ judged j. judged-so places prefix clauses version given given' old new v judged tells
    (subst (λ (t : Tree). IsVerdictFrom (task_of (t ∷ []) 1 version) Opening given old given' new v) same h)
    (subst (λ (t : Tree). v ≡ PrefixLimit → places < length (problem_of (t ∷ [])).prefix) same over)
    (subst (λ (t : Tree). places < length (problem_of (t ∷ [])).prefix → (v ≡ PrefixLimit) ⊎ (v ≡ NoMemory)) same within) j)

-- a source that tells its bytes tells what is to be given
pub tells-text : (rest rest' : List ℕ) (left left' : Option (List ℕ)) → is_some left' ≡ is_some left → is_some (to_give rest' left') ≡ is_some (to_give rest left)
tells-text rest rest' None None h = refl
tells-text rest rest' None (Some b) h = absurd cc
tells-text rest rest' (Some b) None h = absurd cc
tells-text rest rest' (Some b) (Some d) h = refl

-- ---- the first line

pub header-refuses : (places : ℕ) (judged : Judged) (file cert : Option (List ℕ)) (line : List ℕ) (version : ℕ) (text : Option Text) → IfSome cert (λ bytes. Heads (Some line) bytes version text) → outcome_in judged ≡ record { text = line; status = 6 }
    → IfSome file (λ f. IfSome cert (λ bytes. file_outcome places f bytes ≡ outcome_in judged))
header-refuses places judged None cert line version text h is = tt
header-refuses places judged (Some f) None line version text h is = tt
header-refuses places judged (Some f) (Some bytes) line version text h is = ap outcome_of (h.2 (beside places (qdimacs_of f))) ∙ ap (λ (w : List ℕ). writes w 6) (sym h.1) ∙ sym is

pub header-passes : (places : ℕ) (judged : Judged) (file cert : Option (List ℕ)) (version given : ℕ) (text : Option Text) → given ≡ 1 → is_some text ≡ is_some cert → IfSome cert (λ bytes. Heads None bytes version text)
    → IfSome file (λ f. IfSome text (λ t. outcome_in judged ≡ outcome_behind places version given (qdimacs_of f) t))
    → IfSome file (λ f. IfSome cert (λ bytes. file_outcome places f bytes ≡ outcome_in judged))
header-passes places judged None cert version given text one tells h is = tt
header-passes places judged (Some f) None version given text one tells h is = tt
header-passes places judged (Some f) (Some bytes) version given None one tells h is = absurd h
header-passes places judged (Some f) (Some bytes) version given (Some t) one tells h is =
    ap outcome_of (h (beside places (qdimacs_of f))) ∙ ap (λ (n : ℕ). outcome_behind places version n (qdimacs_of f) t) (sym one) ∙ sym is

pub tells-told : (rest : List ℕ) (left left' : Option (List ℕ)) → is_some left' ≡ is_some left → is_some (to_give rest left') ≡ is_some left
tells-told rest None None h = refl
tells-told rest None (Some b) h = absurd cc
tells-told rest (Some a) None h = absurd cc
tells-told rest (Some a) (Some b) h = refl

-- ---- the limit on the certificate's bytes

module _ {S : Type 0} (call : S → ℕ → Option (List ℕ) → S → Type 0) (left : S → Option (List ℕ)) where
  -- behind whole lines
  pub limit-on : (old mid new : Position) (s t u : S) → TookLines call left old s mid.given mid.rest mid.taken t → StopsAtLimit call left mid t new u → StopsAtLimit call left old s new u
  limit-on old mid new s t u h m = took-on call left old mid new s t u ReadLimit h m

  -- what filled a buffer
  filled-gave : {rest : List ℕ} {taken : ℕ} {source : S} {buffer : List ℕ} {taken' : ℕ} {later : S} → Filled call rest taken source buffer taken' later → (bytes : List ℕ) × Gave call source bytes later × (taken' ≡ taken + length bytes)
  filled-gave no_call = ([], gave_none, omega arith)
  filled-gave (one_more buffer so_far now bytes later h none below called) =
      let g = filled-gave h in (g.0 ++ bytes, gave_more g.0 now bytes later g.1 called, omega (arith, g.2, length-append g.0 bytes))

  -- from the start
  pub limit-met : (old new : Position) (s u : S) → old.taken ≡ 0 → StopsAtLimit call left old s new u → MetLimit call (left s) s u
  limit-met old new s u taken m =
      let took = m.took.1.took in
      let g = filled-gave m.limit.filled in
      let long : new.taken ≡ length took.bytes = omega (arith, took.counted, taken) in
      let enough : new.taken ≡ length (m.lines.took.bytes ++ g.0) = omega (arith, m.lines.took.counted, g.2, taken, length-append m.lines.took.bytes g.0) in
      record {
        taken = m.lines.took.bytes ++ g.0;
        gave = gave-on call left (gave-as call left m.lines.took.gave) (gave-as call left g.1);
        limit = subst (λ (n : ℕ). read_limit ≤ n) enough m.limit.limit;
        told = had-limit (left s) (left u) took.bytes (had-given (left s) (left u) took.bytes took.told) (subst (λ (n : ℕ). read_limit ≤ n) long m.limit.limit);
      }

  -- behind a verdict
  pub limit-by : (old mid new : Position) (s t u : S) (v : Verdict) → TookBy call left old s v mid t → ((v ≡ ReadLimit) × (new ≡ mid) × (u ≡ t)) ⊎ (IsAccepted v × StopsAtLimit call left mid t new u)
      → StopsAtLimit call left old s new u
  limit-by old mid new s t u v took (inl (is, same, also)) =
      let here : StopsAtLimit call left old s mid t = subst (λ (w : Verdict). TookBy call left old s w mid t) is took in
      subst (λ (p : Position). StopsAtLimit call left old s p u) (sym same) (subst (λ (w : S). StopsAtLimit call left old s mid w) (sym also) here)
  limit-by old mid new s t u (Accepted answer) took (inr (is, stops)) = limit-on old mid new s t u took stops
  limit-by old mid new s t u (Refused line k) took (inr (is, stops)) = absurd is
  limit-by old mid new s t u PrefixLimit took (inr (is, stops)) = absurd is
  limit-by old mid new s t u ReadFault took (inr (is, stops)) = absurd is
  limit-by old mid new s t u ReadLimit took (inr (is, stops)) = absurd is
  limit-by old mid new s t u NoMemory took (inr (is, stops)) = absurd is
