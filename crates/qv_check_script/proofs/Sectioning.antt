-- What a section makes of both texts.
use Rattle.std.proofs.Common.{◌≡◌, ◌∙◌, ◌-◌, ◌+◌, ◌++◌, ◌<◌, inl, inr, [], ◌∷◌, take, ℕ, suc, Bool, true, false, Option, Some, None, option_map, List, refl, sym, ap, subst, append_assoc, arith, codes}
use Rattle.std.specs.Prelude.{Ok, IfSome, is_some, nat_lt, if◌then◌else◌, length}
use Rattle.std.proofs.lemmas.Bool.{cases_lt}
use Rattle.std.proofs.lemmas.Bool.Decides.{nat_tests}
use Rattle.std.proofs.lemmas.List.{append-nil}
use Rattle.qv_words.specs.declared.op.Answer.{Answer}
use Rattle.qv_words.specs.Tree.{Tree}
use Rattle.qv_words.specs.Problem.{problem_of}
use Rattle.qv_sexpr.specs.Script.{Script as Commands, command as stands}
use Rattle.qv_sexpr.specs.Script.{Tree as Expr}
use Rattle.qv_elab_defs.specs.Tokens.{place_of}
use Rattle.qv_script_defs.specs.Faults.{refusal}
use Rattle.qv_script_defs.specs.State.{State, answered, no_counts}
use Rattle.qv_script_defs.specs.Moves.{Check, Move}
use Rattle.qv_script_defs.specs.Commands.{after}
use Rattle.qv_cert.specs.declared.kind.RefusalKind.{RefusalKind}
use Rattle.qv_cert.specs.Text.{Text}
use Rattle.qv_cert.specs.Section.{Opening, Judged, AcceptedUpTo, RefusedAt, section_judged}
use Rattle.qv_check_laws.specs.AnswerLaws.{task_of}
use Rattle.qv_check_lines.specs.declared.verdict.Verdict.TheVariants.{Accepted, Refused, ReadLimit}
use Rattle.qv_check_lines.specs.Judging.{ComesBehind, IsVerdictFrom}
use Rattle.qv_check_laws.specs.Verdict.{Script, Asks, Stops, Verdict, with_section, behind_section, verdict_from}
use Rattle.std.specs.Prelude.{Vec}
use Rattle.std.specs.declared.alloc.Global.{Global}
use Rattle.qv_script_defs.specs.StateLaws.{answers}
use Rattle.qv_script_stack.specs.Held.{IsScriptIn}
use Rattle.qv_cert.specs.CertReader.{to_give}
use Rattle.qv_check_script.specs.declared.course.Course.{Course}
use Rattle.qv_check_script.specs.declared.turns.Turn.{Turn}
use Rattle.qv_check_script.specs.declared.turns.Turn.TheVariants.{Goes}
use Rattle.qv_check_defs.specs.Beside.{last_of, behind, beside}
use Rattle.qv_check_defs.specs.Outcome.{Outcome, outcome_of, answer_line, refused_line}
use Rattle.qv_check_script.specs.Reading.{checked}
use Rattle.qv_check_script.specs.Wanting.{last_line}
use Rattle.qv_check_script.specs.Turns.{coming_of, with_front, HasStepped, to_come, Ends, TurnsTo}
use Rattle.qv_check_script.proofs.Wanting.{counted, section-last, at-least, section-needs}
use Rattle.qv_check_script.proofs.Closing.{writes, comes}
use Rattle.qv_cert.proofs.Pinned.{less-test}

not-less : (a b : ℕ) → (a < b → ⊥) → nat_lt a b ≡ false
not-less a b h = by (nat_lt a b) refl
  where
    by : (t : Bool) → nat_lt a b ≡ t → nat_lt a b ≡ false
    by true test = absurd (h (grind (arith, nat_tests)))
    by false test = test

-- an accepted section in front of a verdict
text-of : (a : Answer) (lines : List (List ℕ)) (v : Verdict (List ℕ)) → outcome_of (with_section a lines v) ≡ writes (answer_line a ++ (outcome_of v).text) (outcome_of v).status
text-of a lines v = simp append_assoc

front-of : (given given' : ℕ) (a : Answer) (lines behind : List (List ℕ)) (v : Verdict (List ℕ)) → (suc given + length lines ≡ suc given' + length behind) × (suc given < suc given')
    → coming_of given (with_section a (take (length lines - length behind) lines) v) ≡ with_front (answer_line a) (coming_of given' v)
front-of given given' a lines behind v count =
    ap (λ (o : Outcome). comes o (last_line given (with_section a (take (length lines - length behind) lines) v))) (text-of a (take (length lines - length behind) lines) v)
    ∙ ap (comes (writes (answer_line a ++ (outcome_of v).text) (outcome_of v).status)) (section-last given given' a lines behind v (omega (arith, count.0)) (omega (arith, count.1)))

module _ (places : ℕ) (s now : State) (e : Expr) (trees : List Tree) (gives : after s e ≡ Ok (now, Check trees)) (r : Commands) where
  on : State → Script (List ℕ)
  on t = beside places t r

  -- the script asks for the section of a problem within the limit
  asked : (places < length (problem_of trees).prefix → ⊥) → beside places s (stands e r) ≡ Asks (problem_of trees) (λ answer. beside places (answered (last_of now answer) no_counts now) r)
  unfolding beside
  asked within =
      ap (λ (m : Move). behind places (λ t. beside places t r) e m) gives
      ∙ ap (λ (b : Bool). if b then Stops (refusal (place_of e) (codes "prefix limit")) else Asks (problem_of trees) (λ answer. beside places (answered (last_of now answer) no_counts now) r)) (not-less places (length (problem_of trees).prefix) within)

  exceeded : places < length (problem_of trees).prefix → beside places s (stands e r) ≡ Stops (refusal (place_of e) (codes "prefix limit"))
  unfolding beside
  exceeded over =
      ap (λ (m : Move). behind places (λ t. beside places t r) e m) gives
      ∙ ap (λ (b : Bool). if b then Stops (refusal (place_of e) (codes "prefix limit")) else Asks (problem_of trees) (λ answer. beside places (answered (last_of now answer) no_counts now) r)) (less-test places (length (problem_of trees).prefix) over)

  module _ (version checks given : ℕ) (t : Text) where
    -- what a section that is asked for comes to
    comes-to : (j : Judged) → (places < length (problem_of trees).prefix → ⊥) → section_judged (task_of trees (suc checks) version) (suc given) t.lines ≡ j
        → verdict_from version (suc checks) (beside places s (stands e r)) (suc given) t.lines t.rest
        ≡ behind_section t.lines (λ answer m behind. verdict_from version (suc (suc checks)) (beside places (answered (last_of now answer) no_counts now) r) m behind t.rest) j
    unfolding verdict_from
    comes-to j within is =
        ap (λ (q : Script (List ℕ)). verdict_from version (suc checks) q (suc given) t.lines t.rest) (asked within)
        ∙ ap (behind_section t.lines (λ answer m behind. verdict_from version (suc (suc checks)) (beside places (answered (last_of now answer) no_counts now) r) m behind t.rest)) is

    goes : (given' : ℕ) (u : Text) (answer : Answer) → (places < length (problem_of trees).prefix → ⊥) → section_judged (task_of trees (suc checks) version) (suc given) t.lines ≡ AcceptedUpTo answer (suc given') u.lines → u.rest ≡ t.rest
        → coming_of given (verdict_from version (suc checks) (beside places s (stands e r)) (suc given) t.lines t.rest)
        ≡ with_front (answer_line answer) (coming_of given' (verdict_from version (suc (suc checks)) (beside places (answered (last_of now answer) no_counts now) r) (suc given') u.lines u.rest))
    goes given' u answer within is same =
        ap (coming_of given) (comes-to (AcceptedUpTo answer (suc given') u.lines) within is)
        ∙ front-of given given' answer t.lines u.lines (verdict_from version (suc (suc checks)) (beside places (answered (last_of now answer) no_counts now) r) (suc given') u.lines t.rest)
        (counted (task_of trees (suc checks) version) Opening (suc given) t.lines answer (suc given') u.lines is)
        ∙ ap (λ (bytes : List ℕ). with_front (answer_line answer) (coming_of given' (verdict_from version (suc (suc checks)) (beside places (answered (last_of now answer) no_counts now) r) (suc given') u.lines bytes))) (sym same)

    refuses : (line : ℕ) (k : RefusalKind) → (places < length (problem_of trees).prefix → ⊥) → section_judged (task_of trees (suc checks) version) (suc given) t.lines ≡ RefusedAt line k
        → outcome_of (verdict_from version (suc checks) (beside places s (stands e r)) (suc given) t.lines t.rest) ≡ writes (refused_line line k) 6
    refuses line k within is = ap outcome_of (comes-to (RefusedAt line k) within is)

    wants : (now' : ℕ) → (places < length (problem_of trees).prefix → ⊥) → ComesBehind now' (section_judged (task_of trees (suc checks) version) (suc given) t.lines)
        → now' < last_line given (verdict_from version (suc checks) (beside places s (stands e r)) (suc given) t.lines t.rest)
    wants now' within behind =
        let j = section_judged (task_of trees (suc checks) version) (suc given) t.lines in
        subst (λ (v : Verdict (List ℕ)). now' < last_line given v) (sym (comes-to j within refl))
        (section-needs (task_of trees (suc checks) version) given now' t.lines (λ answer m lines. verdict_from version (suc (suc checks)) (beside places (answered (last_of now answer) no_counts now) r) m lines t.rest)
        (λ answer m lines. at-least version (suc (suc checks)) (beside places (answered (last_of now answer) no_counts now) r) m lines t.rest) j refl behind)

    exceeds : places < length (problem_of trees).prefix
        → outcome_of (verdict_from version (suc checks) (beside places s (stands e r)) (suc given) t.lines t.rest) ≡ writes (refusal (place_of e) (codes "prefix limit")) 1
    unfolding verdict_from
    exceeds over = ap (λ (q : Script (List ℕ)). outcome_of (verdict_from version (suc checks) q (suc given) t.lines t.rest)) (exceeded over)

-- where both texts are told, or one isn't
module _ (places : ℕ) (s now : State) (e : Expr) (trees : List Tree) (gives : after s e ≡ Ok (now, Check trees)) (version checks number given : ℕ) (next : number ≡ suc checks) where
  pub section-goes : (given' : ℕ) (rest : Option Commands) (old new : Option Text) (answer : Answer) → (places < length (problem_of trees).prefix → ⊥) → is_some new ≡ is_some old
      → IsVerdictFrom (task_of trees number version) Opening given old given' new (Accepted answer)
      → to_come places version checks s (option_map (stands e) rest) given old ≡ option_map (with_front (answer_line answer)) (to_come places version number (answered (last_of now answer) no_counts now) rest given' new)
  section-goes given' rest old new answer within tells h =
      subst (λ n. to_come places version checks s (option_map (stands e) rest) given old ≡ option_map (with_front (answer_line answer)) (to_come places version n (answered (last_of now answer) no_counts now) rest given' new)) (sym next)
      (go rest old new tells (subst (λ n. IsVerdictFrom (task_of trees n version) Opening given old given' new (Accepted answer)) next h))
    where
      go : (rest : Option Commands) (old new : Option Text) → is_some new ≡ is_some old → IsVerdictFrom (task_of trees (suc checks) version) Opening given old given' new (Accepted answer)
          → to_come places version checks s (option_map (stands e) rest) given old ≡ option_map (with_front (answer_line answer)) (to_come places version (suc checks) (answered (last_of now answer) no_counts now) rest given' new)
      go None old new tells h = refl
      go (Some r) None None tells h = refl
      go (Some r) None (Some u) tells h = absurd cc
      go (Some r) (Some t) None tells h = absurd cc
      go (Some r) (Some t) (Some u) tells h = ap Some (goes places s now e trees gives r version checks given t given' u answer within h.0 h.1)

  pub section-ends : (given' : ℕ) (rest : Option Commands) (old new : Option Text) (line : ℕ) (k : RefusalKind) (t : Turn) → (places < length (problem_of trees).prefix → ⊥)
      → IsVerdictFrom (task_of trees number version) Opening given old given' new (Refused line k) → Ends (writes (refused_line line k) 6) t
      → IfSome (to_come places version checks s (option_map (stands e) rest) given old) (λ o. Ends o.outcome t)
  section-ends given' None old new line k t within h ends = tt
  section-ends given' (Some r) None new line k t within h ends = tt
  section-ends given' (Some r) (Some x) new line k t within h ends =
      let is = subst (λ n. section_judged (task_of trees n version) (suc given) x.lines ≡ RefusedAt line k) next h in
      subst (λ (o : Outcome). Ends o t) (sym (refuses places s now e trees gives r version checks given x line k within is)) ends

  pub section-wants : (given' : ℕ) (rest : Option Commands) (old new : Option Text) → (places < length (problem_of trees).prefix → ⊥) → IsVerdictFrom (task_of trees number version) Opening given old given' new ReadLimit
      → IfSome (to_come places version checks s (option_map (stands e) rest) given old) (λ o. given' < o.last)
  section-wants given' None old new within h = tt
  section-wants given' (Some r) None new within h = tt
  section-wants given' (Some r) (Some x) new within h =
      wants places s now e trees gives r version checks given x given' within (subst (λ n. ComesBehind given' (section_judged (task_of trees n version) (suc given) x.lines)) next h)

  pub section-over : (rest : Option Commands) (old : Option Text) (t : Turn) → places < length (problem_of trees).prefix → Ends (writes (refusal (place_of e) (codes "prefix limit")) 1) t
      → IfSome (to_come places version checks s (option_map (stands e) rest) given old) (λ o. Ends o.outcome t)
  section-over None old t over ends = tt
  section-over (Some r) None t over ends = tt
  section-over (Some r) (Some x) t over ends = subst (λ (o : Outcome). Ends o t) (sym (exceeds places s now e trees gives r version checks given x over)) ends

-- a source that tells its bytes tells what is to be given
pub tells-text : (rest rest' : List ℕ) (left left' : Option (List ℕ)) → is_some left' ≡ is_some left → is_some (to_give rest' left') ≡ is_some (to_give rest left)
tells-text rest rest' None None h = refl
tells-text rest rest' None (Some b) h = absurd cc
tells-text rest rest' (Some b) None h = absurd cc
tells-text rest rest' (Some b) (Some d) h = refl

-- behind an accepted section
pub accepted-turns : (places : ℕ) (c c' : Course) (s now : State) (e : Expr) (trees : List Tree) (h : HasStepped c s e now (Check trees)) (version given given' : ℕ) (rest : Option Commands) (old new : Option Text) (answer : Answer) (text : Vec ℕ Global)
    → IsScriptIn c'.store c'.script (answered (last_of now answer) no_counts now) → c'.checks ≡ suc c.checks → (places < length (problem_of trees).prefix → ⊥) → is_some new ≡ is_some old
    → IsVerdictFrom (task_of trees c'.checks version) Opening given old given' new (Accepted answer) → text.items ≡ answer_line answer
    → TurnsTo places (Goes text) c' s (option_map (stands e) rest) rest None (to_come places version c.checks s (option_map (stands e) rest) given old) (λ t. to_come places version c'.checks t rest given' new)
accepted-turns places c c' s now e trees h version given given' rest old new answer text script next within tells judged is = (
  answered (last_of now answer) no_counts now,
  record { script = script; reached = answers now (last_of now answer) no_counts h.stands.reached },
  (e, answer ∷ [], checked now trees answer h.gives (elim (cases_lt places (length (problem_of trees).prefix)) [ inl far ↦ absurd (within far) | inr few ↦ few ]), refl, is ∙ sym (append-nil (answer_line answer))),
  section-goes places s now e trees h.gives version c.checks c'.checks given next given' rest old new answer within tells judged
      ∙ ap (λ (line : List ℕ). option_map (with_front line) (to_come places version c'.checks (answered (last_of now answer) no_counts now) rest given' new)) (sym is),
)
