-- What commands and the end of a script make of both texts.
use Rattle.std.proofs.Common.{◌≡◌, ◌∙◌, ◌+◌, ◌++◌, ℕ, suc, Option, Some, None, option_map, List, [], refl, sym, ap, subst, arith}
use Rattle.std.specs.Prelude.{◌≢◌, ◌⊎◌, Result, Ok, Err, IfSome, IfOk}
use Rattle.std.proofs.Common.{inl, inr}
use Rattle.qv_script_defs.specs.Moves.{Check}
use Rattle.qv_script_stack.specs.Held.{AreAt, named_of, terms_of}
use Rattle.qv_check_script.proofs.Checked.{plain-check}
use Rattle.qv_words.specs.Tree.{Tree}
use Rattle.qv_sexpr.specs.Script.{Script as Commands, TextEnd, stops, command as stands}
use Rattle.qv_sexpr.specs.Script.{Tree as Expr}
use Rattle.qv_script_defs.specs.declared.effects.Effect.{Effect as Done}
use Rattle.qv_script_defs.specs.declared.effects.Effect.TheVariants as done
use Rattle.qv_script_defs.specs.Faults.{Fault, fault_line}
use Rattle.qv_script_defs.specs.State.{State}
use Rattle.qv_script_stack.specs.Held.{Held}
use Rattle.qv_script_defs.specs.Moves.{Effect, Quiet, Text as Says, Values, Whole, Core, symbols_of, Exit, Move}
use Rattle.qv_script_defs.specs.Commands.{after}
use Rattle.qv_script_stack.specs.Steps.{IsEffect}
use Rattle.qv_cert.specs.Text.{Text}
use Rattle.qv_script_texts.specs.EndLines.{fault_at_end}
use Rattle.qv_check_laws.specs.Verdict.{Script, Verdict, Stops, Ends as Finished, at_end, ended, verdict_from}
use Rattle.qv_check_script.specs.declared.turns.Turn.{Turn}
use Rattle.qv_check_script.specs.declared.turns.Turn.TheVariants.{Goes, Ended}
use Rattle.qv_check_script.specs.declared.course.Course.{Course}
use Rattle.qv_check_defs.specs.Beside.{behind, beside}
use Rattle.qv_check_defs.specs.Beside.{at_end as at_text_end}
use Rattle.qv_check_defs.specs.Outcome.{Outcome, outcome_of}
use Rattle.qv_check_script.specs.Turns.{Coming, coming_of, with_front, HasStepped, to_come, Ends, EndsBy, IsOver, GoesOn, TurnsTo}
use Rattle.qv_check_script.specs.Reading.{IsSilent, ComesNext, ShowsEnd, ShowsEnding}
use Rattle.qv_check_script.specs.Ending.{status_of}
use Rattle.qv_check_script.specs.declared.ending.Ending.{Ending}
use Rattle.qv_check_script.specs.declared.ending.Ending.TheVariants.{Accepted, Faulty, Refused}
use Rattle.qv_sexpr.specs.declared.answers.Stop.{Stop}
use Rattle.qv_check_script.proofs.Closing.{writes, closing}

-- endings have statuses of their own
pub same-ending : (e f : Ending) → status_of e ≡ status_of f → e ≡ f
same-ending Accepted Accepted h = refl
same-ending Accepted Faulty h = absurd (omega (arith, h))
same-ending Accepted Refused h = absurd (omega (arith, h))
same-ending Faulty Accepted h = absurd (omega (arith, h))
same-ending Faulty Faulty h = refl
same-ending Faulty Refused h = absurd (omega (arith, h))
same-ending Refused Accepted h = absurd (omega (arith, h))
same-ending Refused Faulty h = absurd (omega (arith, h))
same-ending Refused Refused h = refl

-- a turn that ends the check
pub end-turns : (places : ℕ) (t : Turn) (c : Course) (s : State) (old new : Option Commands) (stop : Option Stop) (before : Option Coming) (behind : State → Option Coming) → EndsBy (ShowsEnding places s old stop) t → IfSome before (λ o. Ends o.outcome t)
    → TurnsTo places t c s old new stop before behind
end-turns places (Goes text) c s old new stop before behind end h = absurd end
end-turns places (Ended text ending) c s old new stop before behind end h = (end, h)

pub ends-by : (P : Ending → Type 0) (e : Ending) (text : List ℕ) (t : Turn) → Ends (writes text (status_of e)) t → P e → EndsBy P t
ends-by P e text (Goes text') h p = absurd h
ends-by P e text (Ended text' ending) h p = subst P (same-ending e ending (ap (λ (o : Outcome). o.status) h)) p

-- it has ended, and the script has too
pub over-by : (places : ℕ) (t : Turn) (s : State) (old : Option Commands) (stop : Option Stop) → EndsBy IsOver t → ShowsEnd s old stop → EndsBy (ShowsEnding places s old stop) t
over-by places (Goes text) s old stop over h = absurd over
over-by places (Ended text Accepted) s old stop over h = h
over-by places (Ended text Faulty) s old stop over h = absurd over
over-by places (Ended text Refused) s old stop over h = inr h

-- a command that is read comes next
pub comes-next : (e : Expr) (rest : Option Commands) → ComesNext e (option_map (stands e) rest)
comes-next e None = tt
comes-next e (Some r) = (r, refl)

-- what a script comes to that has a fault, or ended
stopped : (version checks given : ℕ) (t : Text) (q : Script (List ℕ)) (fault : List ℕ) → q ≡ Stops fault → outcome_of (verdict_from version (suc checks) q (suc given) t.lines t.rest) ≡ writes fault 1
unfolding verdict_from
stopped version checks given t q fault e = ap (λ (p : Script (List ℕ)). outcome_of (verdict_from version (suc checks) p (suc given) t.lines t.rest)) e

finished : (version checks given : ℕ) (t : Text) (q : Script (List ℕ)) → q ≡ Finished → outcome_of (verdict_from version (suc checks) q (suc given) t.lines t.rest) ≡ closing given t
unfolding verdict_from
finished version checks given t q e =
    let next : suc given ≡ given + 1 = omega arith in
    ap (λ (p : Script (List ℕ)). outcome_of (verdict_from version (suc checks) p (suc given) t.lines t.rest)) e
    ∙ ap (λ n. outcome_of (ended (at_end n t.lines t.rest))) next

finished-verdict : (version checks given : ℕ) (t : Text) (q : Script (List ℕ)) → q ≡ Finished → verdict_from version (suc checks) q (suc given) t.lines t.rest ≡ ended (at_end (given + 1) t.lines t.rest)
unfolding verdict_from
finished-verdict version checks given t q e =
    let next : suc given ≡ given + 1 = omega arith in
    ap (λ (p : Script (List ℕ)). verdict_from version (suc checks) p (suc given) t.lines t.rest) e ∙ ap (λ n. ended (at_end n t.lines t.rest)) next

-- behind commands that bring no section
text-end : (places : ℕ) (s : State) (end : TextEnd) → beside places s (stops end) ≡ at_text_end (fault_at_end end)
unfolding beside
text-end places s end = refl

command-is : (places : ℕ) (s : State) (e : Expr) (r : Commands) (m : Move) → after s e ≡ m → beside places s (stands e r) ≡ behind places (λ t. beside places t r) e m
unfolding beside
command-is places s e r m is = ap (λ (n : Move). behind places (λ t. beside places t r) e n) is

module _ (places : ℕ) (version checks given : ℕ) (s : State) where
  -- the text ends with a fault
  pub text-fails : (end : TextEnd) (line : List ℕ) (script : Option Commands) (old : Option Text) (t : Turn) → fault_at_end end ≡ Some line → IfSome script (λ c. c ≡ stops end) → Ends (writes line 1) t
      → IfSome (to_come places version checks s script given old) (λ o. Ends o.outcome t)
  text-fails end line None old t is at ends = tt
  text-fails end line (Some c) None t is at ends = tt
  text-fails end line (Some c) (Some x) t is at ends =
      let fault : beside places s c ≡ Stops line = ap (beside places s) at ∙ text-end places s end ∙ ap at_text_end is in
      subst (λ (o : Outcome). Ends o t) (sym (stopped version checks given x (beside places s c) line fault)) ends

  -- it ends without one
  pub text-ends : (end : TextEnd) (script : Option Commands) (old : Option Text) (t : Turn) → fault_at_end end ≡ None → IfSome script (λ c. c ≡ stops end) → IfSome old (λ x. Ends (closing given x) t)
      → IfSome (to_come places version checks s script given old) (λ o. Ends o.outcome t)
  text-ends end None old t is at ends = tt
  text-ends end (Some c) None t is at ends = tt
  text-ends end (Some c) (Some x) t is at ends =
      let none : beside places s c ≡ Finished = ap (beside places s) at ∙ text-end places s end ∙ ap at_text_end is in
      subst (λ (o : Outcome). Ends o t) (sym (finished version checks given x (beside places s c) none)) ends

  -- what comes then
  pub text-coming : (end : TextEnd) (script : Option Commands) (old : Option Text) (P : Coming → Type 0) → fault_at_end end ≡ None → IfSome script (λ c. c ≡ stops end) → IfSome (option_map (λ x. coming_of given (ended (at_end (given + 1) x.lines x.rest))) old) P
      → IfSome (to_come places version checks s script given old) P
  text-coming end None old P is at h = tt
  text-coming end (Some c) None P is at h = tt
  text-coming end (Some c) (Some x) P is at h =
      let none : beside places s c ≡ Finished = ap (beside places s) at ∙ text-end places s end ∙ ap at_text_end is in
      subst (λ (v : Verdict (List ℕ)). P (coming_of given v)) (sym (finished-verdict version checks given x (beside places s c) none)) h

  module _ (e : Expr) (rest : Option Commands) (old : Option Text) where
    pub leaves-coming : (now : State) (P : Coming → Type 0) → after s e ≡ Ok (now, Exit) → IfSome (option_map (λ x. coming_of given (ended (at_end (given + 1) x.lines x.rest))) old) P → IfSome (to_come places version checks s (option_map (stands e) rest) given old) P
    leaves-coming now P is h = go rest old h
      where
        go : (rest : Option Commands) (old : Option Text) → IfSome (option_map (λ x. coming_of given (ended (at_end (given + 1) x.lines x.rest))) old) P → IfSome (to_come places version checks s (option_map (stands e) rest) given old) P
        go None old h = tt
        go (Some r) None h = tt
        go (Some r) (Some x) h = subst (λ (v : Verdict (List ℕ)). P (coming_of given v)) (sym (finished-verdict version checks given x (beside places s (stands e r)) (command-is places s e r (Ok (now, Exit)) is))) h

    -- a command is refused
    pub command-fails : (fault : Fault) (t : Turn) → after s e ≡ Err fault → Ends (writes (fault_line fault) 1) t → IfSome (to_come places version checks s (option_map (stands e) rest) given old) (λ o. Ends o.outcome t)
    command-fails fault t is ends = go rest old
      where
        go : (rest : Option Commands) (old : Option Text) → IfSome (to_come places version checks s (option_map (stands e) rest) given old) (λ o. Ends o.outcome t)
        go None old = tt
        go (Some r) None = tt
        go (Some r) (Some x) = subst (λ (o : Outcome). Ends o t) (sym (stopped version checks given x (beside places s (stands e r)) (fault_line fault) (command-is places s e r (Err fault) is))) ends

    -- a command leaves the script
    pub command-leaves : (now : State) (t : Turn) → after s e ≡ Ok (now, Exit) → IfSome old (λ x. Ends (closing given x) t) → IfSome (to_come places version checks s (option_map (stands e) rest) given old) (λ o. Ends o.outcome t)
    command-leaves now t is ends = go rest old ends
      where
        go : (rest : Option Commands) (old : Option Text) → IfSome old (λ x. Ends (closing given x) t) → IfSome (to_come places version checks s (option_map (stands e) rest) given old) (λ o. Ends o.outcome t)
        go None old h = tt
        go (Some r) None h = tt
        go (Some r) (Some x) h = subst (λ (o : Outcome). Ends o t) (sym (finished version checks given x (beside places s (stands e r)) (command-is places s e r (Ok (now, Exit)) is))) h

    -- a command behind which the script goes on at once
    goes-on : (now : State) (effect : Effect) → after s e ≡ Ok (now, effect) → ((r : Commands) → behind places (λ t. beside places t r) e (Ok (now, effect)) ≡ beside places now r)
        → to_come places version checks s (option_map (stands e) rest) given old ≡ option_map (with_front []) (to_come places version checks now rest given old)
    goes-on now effect is silent = go rest old
      where
        go : (rest : Option Commands) (old : Option Text) → to_come places version checks s (option_map (stands e) rest) given old ≡ option_map (with_front []) (to_come places version checks now rest given old)
        go None old = refl
        go (Some r) None = refl
        go (Some r) (Some x) = ap (λ (q : Script (List ℕ)). Some (coming_of given (verdict_from version (suc checks) q (suc given) x.lines x.rest))) (command-is places s e r (Ok (now, effect)) is ∙ silent r)

    -- each effect but a check and `exit` is silent
    pub silent-goes : (now : State) (trees : List Tree) (held : Held) (told : Done) (effect : Effect) → told ≢ done.Check → told ≢ done.CheckAssuming → told ≢ done.Exit → after s e ≡ Ok (now, effect) → IsEffect trees held told effect
        → to_come places version checks s (option_map (stands e) rest) given old ≡ option_map (with_front []) (to_come places version checks now rest given old)
    silent-goes now trees held done.Quiet effect a b d is h = goes-on now Quiet (is ∙ ap (λ (f : Effect). Ok (now, f)) h) (λ r. refl)
    silent-goes now trees held (done.Text text) effect a b d is h = goes-on now (Says text.items) (is ∙ ap (λ (f : Effect). Ok (now, f)) h) (λ r. refl)
    silent-goes now trees held done.Check effect a b d is h = absurd (a refl)
    silent-goes now trees held done.CheckAssuming effect a b d is h = absurd (b refl)
    silent-goes now trees held (done.Values asked) effect a b d is h = goes-on now (Values h.0) (is ∙ ap (λ (f : Effect). Ok (now, f)) h.1) (λ r. refl)
    silent-goes now trees held done.Whole effect a b d is h = goes-on now Whole (is ∙ ap (λ (f : Effect). Ok (now, f)) h) (λ r. refl)
    silent-goes now trees held done.Core effect a b d is h = goes-on now (Core h.0 (symbols_of (named_of held.named))) (is ∙ ap (λ (f : Effect). Ok (now, f)) h.1) (λ r. refl)
    silent-goes now trees held done.AssumedCore effect a b d is h = goes-on now (Core h.0 (terms_of held)) (is ∙ ap (λ (f : Effect). Ok (now, f)) h.1) (λ r. refl)
    silent-goes now trees held done.Exit effect a b d is h = absurd (d refl)

pub is-silent : (trees : List Tree) (held : Held) (told : Done) (effect : Effect) → told ≢ done.Check → told ≢ done.CheckAssuming → told ≢ done.Exit → IsEffect trees held told effect → IsSilent effect
is-silent trees held done.Quiet effect a b d h = subst IsSilent (sym h) tt
is-silent trees held (done.Text text) effect a b d h = subst IsSilent (sym h) tt
is-silent trees held done.Check effect a b d h = absurd (a refl)
is-silent trees held done.CheckAssuming effect a b d h = absurd (b refl)
is-silent trees held (done.Values asked) effect a b d h = subst IsSilent (sym h.1) tt
is-silent trees held done.Whole effect a b d h = subst IsSilent (sym h) tt
is-silent trees held done.Core effect a b d h = subst IsSilent (sym h.1) tt
is-silent trees held done.AssumedCore effect a b d h = subst IsSilent (sym h.1) tt
is-silent trees held done.Exit effect a b d h = absurd (d refl)

-- what is checked, where a check is told
pub check-of : (trees : List Tree) (held : Held) (told : Done) (effect : Effect) → (told ≡ done.Check) ⊎ (told ≡ done.CheckAssuming) → IsEffect trees held told effect → (ts : List Tree) × (effect ≡ Check ts) × AreAt trees (held.assertions ++ held.assumed) ts
check-of trees held told effect (inl e) h = plain-check trees held effect (subst (λ (d : Done). IsEffect trees held d effect) e h)
check-of trees held told effect (inr e) h = subst (λ (d : Done). IsEffect trees held d effect) e h

pub stepped-as : (c : Course) (s : State) (e : Expr) (now : State) (effect other : Effect) → effect ≡ other → HasStepped c s e now effect → HasStepped c s e now other
stepped-as c s e now effect other same h = subst (λ (f : Effect). HasStepped c s e now f) same h

-- results
pub ok-weaker : {A E : Type 0} (r : Result A E) (P Q : A → Type 0) → IfOk r P → ((a : A) → P a → Q a) → IfOk r Q
ok-weaker (Ok a) P Q h go = go a h
ok-weaker (Err e) P Q h go = tt

pub ok-both : {A E : Type 0} (r : Result A E) (P R Q : A → Type 0) → IfOk r P → IfOk r R → ((a : A) → P a → R a → Q a) → IfOk r Q
ok-both (Ok a) P R Q h k go = go a h k
ok-both (Err e) P R Q h k go = tt

pub end-or : (t : Turn) (P : Type 0) → EndsBy IsOver t → GoesOn t → P
end-or (Goes text) P end on = absurd end
end-or (Ended text ending) P end on = absurd on

pub ok-any : {E : Type 0} (r : Result Turn E) (P : Type 0) → P → IfOk r (λ t. GoesOn t → P)
ok-any (Ok t) P h = λ _. h
ok-any (Err e) P h = tt
