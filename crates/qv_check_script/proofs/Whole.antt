-- What was written, and what is still to come.
use Rattle.std.proofs.Common.{◌≡◌, ◌∙◌, ◌+◌, ◌++◌, ◌<◌, ◌≤◌, ◌⊎◌, ℕ, Option, Some, None, option_map, List, [], take, drop, take-append-drop, refl, sym, ap, subst, append_assoc, arith}
use Rattle.std.specs.Prelude.{Result, Ok, Err, IfOk, OnErr, IsErrOf, IfSome, is_some, flat_map}
use Rattle.std.proofs.lemmas.Grind.{flat_map-append}
use Rattle.std.proofs.Common.{inl, inr}
use Rattle.std.specs.Result.{IsErrAnd}
use Rattle.qv_text.specs.Progress.{Progress}
use Rattle.qv_check_script.specs.declared.ending.Halt.{Halt}
use Rattle.std.proofs.lemmas.List.{append-nil}
use Rattle.qv_io.specs.Sink.{Appends, AppendsPart}
use Rattle.qv_io.proofs.SinkLemmas.{Appends-nothing, Appends-append}
use Rattle.qv_check_defs.specs.Outcome.{Outcome, outcome_of}
use Rattle.std.specs.Prelude.{Vec}
use Rattle.std.specs.declared.alloc.Global.{Global}
use Rattle.qv_cert.specs.Text.{Text}
use Rattle.qv_cert.specs.CertReader.{to_give}
use Rattle.qv_sexpr.specs.Script.{Script as Commands, reads}
use Rattle.qv_script_defs.specs.State.{State, opening}
use Rattle.qv_check_laws.specs.Verdict.{Verdict, verdict}
use Rattle.qv_check_script.specs.declared.course.Course.{Course}
use Rattle.qv_check_script.specs.declared.ending.Ending.{Ending}
use Rattle.qv_check_script.specs.declared.turns.Turn.{Turn}
use Rattle.qv_check_script.specs.declared.turns.Turn.TheVariants.{Goes, Ended}
use Rattle.qv_check_script.specs.declared.ending.Ending.TheVariants.{Accepted, Faulty, Refused}
use Rattle.qv_check_script.specs.declared.ending.Halt.TheVariants as halt
use Rattle.qv_check_script.specs.Ending.{status_of, halt_status, run_status}
use Rattle.qv_check_defs.specs.Beside.{beside}
use Rattle.qv_check_defs.specs.Outcome.{answer_line}
use Rattle.qv_check_script.specs.Reading.{HasPassed, at_start, one_command, ShowsEnding, IsUnread, EndsAt, ReadsFrom}
use Rattle.qv_check_script.specs.Turns.{Coming, coming_of, with_front, to_come, told, Stands, BetweenCommands, GoesPast, TurnsTo, GoesOn, Heads, Cut, Done, said, ending_of}
use Rattle.qv_check_script.proofs.Closing.{writes, comes}
use Rattle.qv_check_script.proofs.Leading.{same-ending}
use Rattle.qv_sexpr.specs.declared.answers.Stop.{Stop}
use Rattle.qv_sexpr.specs.Calls.{ReadsOnDemand}

-- where both texts are told
pub of-told : (places : ℕ) (script cert : Option (List ℕ)) (P : Coming → Type 0) → IfSome (told places script cert) P → IfSome script (λ text. IfSome cert (λ bytes. P (coming_of 1 (verdict (beside places opening (reads text)) bytes))))
of-told places None cert P h = tt
of-told places (Some text) None P h = tt
of-told places (Some text) (Some bytes) P h = h

-- two texts in front
pub fronts : (first second : List ℕ) (o : Option Coming) → option_map (with_front first) (option_map (with_front second) o) ≡ option_map (with_front (first ++ second)) o
fronts first second None = refl
fronts first second (Some o) = ap (λ (t : List ℕ). Some (comes (writes t o.outcome.status) o.last)) (sym (append_assoc first second o.outcome.text))

module _ (held held' : Option (List ℕ)) (written : List ℕ) (appends : Appends held held' written) (whole before : Option Coming) (leads : whole ≡ option_map (with_front written) before) where
  -- nothing more is written
  pub cut-here : IfSome whole (Cut held held')
  cut-here = subst (λ (w : Option Coming). IfSome w (Cut held held')) (sym leads) (go before)
    where
      go : (b : Option Coming) → IfSome (option_map (with_front written) b) (Cut held held')
      go None = tt
      go (Some o) = (written, o.outcome.text, refl, appends)

  -- the last text is written
  pub done-here : (held'' : Option (List ℕ)) (text : List ℕ) (status : ℕ) → Appends held' held'' text → IfSome before (λ o. o.outcome ≡ writes text status) → IfSome whole (Done held held'' status)
  done-here held'' text status more last = subst (λ (w : Option Coming). IfSome w (Done held held'' status)) (sym leads) (go before last)
    where
      go : (b : Option Coming) → IfSome b (λ o. o.outcome ≡ writes text status) → IfSome (option_map (with_front written) b) (Done held held'' status)
      go None h = tt
      go (Some o) h = (
        ap (λ (p : Outcome). p.status) (sym h),
        subst (λ (p : Outcome). Appends held held'' (written ++ p.text)) (sym h) (Appends-append held held' held'' written text appends more),
      )

  -- a part of a text is written that stands next
  pub cut-within : (held'' : Option (List ℕ)) (text : List ℕ) → AppendsPart held' held'' text → IfSome before (λ o. (rest : List ℕ) × (o.outcome.text ≡ text ++ rest)) → IfSome whole (Cut held held'')
  cut-within held'' text (n, below, part) next = subst (λ (w : Option Coming). IfSome w (Cut held held'')) (sym leads) (go before next)
    where
      go : (b : Option Coming) → IfSome b (λ o. (rest : List ℕ) × (o.outcome.text ≡ text ++ rest)) → IfSome (option_map (with_front written) b) (Cut held held'')
      go None h = tt
      go (Some o) h = (
        written ++ take n text,
        drop n text ++ h.0,
        ap (λ (t : List ℕ). written ++ t) (h.1 ∙ ap (λ (t : List ℕ). t ++ h.0) (sym (take-append-drop n text)) ∙ append_assoc (take n text) (drop n text) h.0) ∙ sym (append_assoc written (take n text) (drop n text ++ h.0)),
        Appends-append held held' held'' written (take n text) appends part,
      )

-- a text that stands next
pub next-front : (text : List ℕ) (before after : Option Coming) → before ≡ option_map (with_front text) after → IfSome before (λ o. (rest : List ℕ) × (o.outcome.text ≡ text ++ rest))
next-front text before after e = subst (λ (b : Option Coming). IfSome b (λ o. (rest : List ℕ) × (o.outcome.text ≡ text ++ rest))) (sym e) (go after)
  where
    go : (a : Option Coming) → IfSome (option_map (with_front text) a) (λ o. (rest : List ℕ) × (o.outcome.text ≡ text ++ rest))
    go None = tt
    go (Some o) = (o.outcome.text, refl)

pub next-last : (text : List ℕ) (status : ℕ) (before : Option Coming) → IfSome before (λ o. o.outcome ≡ writes text status) → IfSome before (λ o. (rest : List ℕ) × (o.outcome.text ≡ text ++ rest))
next-last text status None h = tt
next-last text status (Some o) h = ([], ap (λ (p : Outcome). p.text) h ∙ sym (append-nil text))

-- a turn behind which it goes on is a command's
past-of : (places : ℕ) (s : State) (old new : Option Commands) (stop : Option Stop) (text : List ℕ) (t : State) → GoesPast places s old new stop text t → (stop ≡ None) × GoesPast places s old new None text t
past-of places s old new None text t h = (refl, h)
past-of places s old new (Some stop) text t h = absurd h

pub nothing-front : (o : Option Coming) → o ≡ option_map (with_front []) o
nothing-front None = refl
nothing-front (Some o) = refl

-- behind a header
pub starts : (places : ℕ) (script cert : Option (List ℕ)) (version given : ℕ) (text : Option Text) → given ≡ 1 → is_some text ≡ is_some cert → IfSome cert (λ bytes. Heads None bytes version text)
    → told places script cert ≡ to_come places version 0 opening (option_map reads script) given text
starts places script cert version given text one tells heads =
    go script cert text tells heads ∙ ap (λ n. to_come places version 0 opening (option_map reads script) n text) (sym one)
  where
    go : (script cert : Option (List ℕ)) (text : Option Text) → is_some text ≡ is_some cert → IfSome cert (λ bytes. Heads None bytes version text) → told places script cert ≡ to_come places version 0 opening (option_map reads script) 1 text
    go None cert text tells h = refl
    go (Some bytes) None None tells h = refl
    go (Some bytes) None (Some t) tells h = absurd cc
    go (Some bytes) (Some lines) None tells h = absurd h
    go (Some bytes) (Some lines) (Some t) tells h = ap (λ (v : Verdict (List ℕ)). Some (coming_of 1 v)) (h (beside places opening (reads bytes)))

-- nothing is written yet, and nothing was read
pub between-start : (places : ℕ) {S : Type 0} (call : S → ℕ → Option (List ℕ) → S → Type 0) (lexer : Progress) (source : S) (version : ℕ) (c : Course) (s : State) (script : Option Commands) (given : ℕ) (text : Option Text) (held : Option (List ℕ)) → Stands c s
    → BetweenCommands places call s lexer source script lexer source (to_come places version c.checks s script given text) version given c script text held held
between-start places call lexer source version c s script given text held stands = record {
  between = record {
    answers = [];
    appends = Appends-nothing held;
    state = s;
    stands = stands;
    leads = nothing-front (to_come places version c.checks s script given text);
  };
  passed = at_start;
}

-- the text of a turn stands next
pub turn-front : (places : ℕ) (t : Turn) (c : Course) (s : State) (old new : Option Commands) (stop : Option Stop) (before : Option Coming) (behind : State → Option Coming) → TurnsTo places t c s old new stop before behind
    → IfSome before (λ o. (rest : List ℕ) × (o.outcome.text ≡ said t ++ rest))
turn-front places (Goes text) c s old new stop before behind h = next-front text.items before (behind h.0) h.3
turn-front places (Ended text ending) c s old new stop before behind h = next-last text.items (status_of ending) before h.1

-- a turn that ends the check
pub turn-ends : (places : ℕ) (t : Turn) (e : Ending) (c : Course) (s : State) (old new : Option Commands) (stop : Option Stop) (before : Option Coming) (behind : State → Option Coming) → ending_of t ≡ Some e → TurnsTo places t c s old new stop before behind
    → ShowsEnding places s old stop e × IfSome before (λ o. o.outcome ≡ writes (said t) (status_of e))
turn-ends places (Goes text) e c s old new stop before behind is h = absurd cc
turn-ends places (Ended text ending) e c s old new stop before behind is h =
    let same : ending ≡ e = cc in
    subst (λ (x : Ending). ShowsEnding places s old stop x × IfSome before (λ o. o.outcome ≡ writes text.items (status_of x))) same h

-- one behind which it goes on
pub turn-on : (t : Turn) → ending_of t ≡ None → GoesOn t
turn-on (Goes text) is = tt
turn-on (Ended text ending) is = absurd cc

-- a check between two commands
module _ (places : ℕ) {S : Type 0} (call : S → ℕ → Option (List ℕ) → S → Type 0) (start : State) (lexer : Progress) (source : S) (read : Option Commands) (old : Progress) (now : S) (whole : Option Coming) (version given : ℕ) (c : Course) (script : Option Commands) (text : Option Text) (held held' : Option (List ℕ))
    (b : BetweenCommands places call start lexer source read old now whole version given c script text held held') where
  -- goes on behind the next
  pub between-on : (given' : ℕ) (c' : Course) (script' : Option Commands) (text' : Option Text) (held'' : Option (List ℕ)) (t : Turn) (stop : Option Stop) (new : Progress) (later : S) → ending_of t ≡ None
      → TurnsTo places t c' b.between.state script script' stop (to_come places version c.checks b.between.state script given text) (λ s. to_come places version c'.checks s script' given' text') → Appends held' held'' (said t)
      → ReadsOnDemand call old now stop new later → BetweenCommands places call start lexer source read new later whole version given' c' script' text' held held''
  between-on given' c' script' text' held'' (Ended text'' ending) stop new later is turns more on = absurd cc
  between-on given' c' script' text' held'' (Goes said) stop new later is turns more on =
      let past = past-of places b.between.state script script' stop said.items turns.0 turns.2 in
      let first = flat_map answer_line b.between.answers in
      let e = past.1.0 in
      let next = past.1.1 in
      let joined : flat_map answer_line (b.between.answers ++ next) ≡ first ++ said.items = flat_map-append answer_line b.between.answers next ∙ ap (λ (x : List ℕ). first ++ x) (sym past.1.4) in
      record {
        between = record {
          answers = b.between.answers ++ next;
          appends = subst (Appends held held'') (sym joined) (Appends-append held held' held'' first said.items b.between.appends more);
          state = turns.0;
          stands = turns.1;
          leads = b.between.leads ∙ ap (option_map (with_front first)) turns.3 ∙ fronts first said.items (to_come places version c'.checks turns.0 script' given' text')
              ∙ ap (λ (x : List ℕ). option_map (with_front x) (to_come places version c'.checks turns.0 script' given' text')) (sym joined);
        };
        passed = one_command b.between.answers old now b.between.state e next new later script' turns.0
            (subst (λ (o : Option Commands). HasPassed places call start lexer source read b.between.answers old now o b.between.state) past.1.3 b.passed)
            past.1.2 (subst (λ (o : Option Stop). ReadsOnDemand call old now o new later) past.0 on);
      }

  -- or it ends, where a part of what the next leads to is written
  pub reads-so : (cert_unread : Type 0) (part : List ℕ) (held'' : Option (List ℕ)) (stop : Option Stop) (new : Progress) (later : S) (status : ℕ) → Appends held' held'' part
      → ReadsOnDemand call old now stop new later → EndsAt places cert_unread b.between.state script stop status → ReadsFrom places call cert_unread start lexer source read held held'' status later
  reads-so cert_unread part held'' stop new later status more on ends = record {
    answers = b.between.answers;
    part = part;
    prints = Appends-append held held' held'' (flat_map answer_line b.between.answers) part b.between.appends more;
    old = old;
    now = now;
    still = script;
    state = b.between.state;
    passed = b.passed;
    stop = stop;
    new = new;
    last = on;
    ends = ends;
  }

-- where it ends
module _ (places : ℕ) (cert_unread : Type 0) (s : State) (script : Option Commands) (stop : Option Stop) where
  pub ends-done : (e : Ending) → ShowsEnding places s script stop e → (IsUnread stop → ⊥) → EndsAt places cert_unread s script stop (status_of e)
  ends-done e shows wanted = record {
    ended = λ f same. subst (ShowsEnding places s script stop) (same-ending e f same) shows;
    unread = λ three. absurd (not-three e three);
    read = λ u. absurd (wanted u);
  }
    where
      not-three : (e : Ending) → status_of e ≡ 3 → ⊥
      not-three Accepted h = omega (arith, h)
      not-three Faulty h = omega (arith, h)
      not-three Refused h = omega (arith, h)

  -- or stops before
  pub ends-halted : (h : Halt) → (h ≡ halt.Read → IsUnread stop ⊎ cert_unread) → (h ≡ halt.ReadLimit → IsUnread stop ⊎ cert_unread) → (IsUnread stop → (h ≡ halt.Read) ⊎ (h ≡ halt.ReadLimit)) → EndsAt places cert_unread s script stop (halt_status h)
  ends-halted h read limit unread = record {
    ended = λ e same. absurd (no-ending h e same);
    unread = by h read limit;
    read = λ u. elim (unread u) [ inl r ↦ ap halt_status r | inr r ↦ ap halt_status r ];
  }
    where
      no-ending : (h : Halt) (e : Ending) → halt_status h ≡ status_of e → ⊥
      no-ending halt.Read Accepted k = omega (arith, k)
      no-ending halt.Read Faulty k = omega (arith, k)
      no-ending halt.Read Refused k = omega (arith, k)
      no-ending halt.ReadLimit Accepted k = omega (arith, k)
      no-ending halt.ReadLimit Faulty k = omega (arith, k)
      no-ending halt.ReadLimit Refused k = omega (arith, k)
      no-ending halt.Write Accepted k = omega (arith, k)
      no-ending halt.Write Faulty k = omega (arith, k)
      no-ending halt.Write Refused k = omega (arith, k)
      no-ending halt.NoMemory Accepted k = omega (arith, k)
      no-ending halt.NoMemory Faulty k = omega (arith, k)
      no-ending halt.NoMemory Refused k = omega (arith, k)

      by : (h : Halt) → (h ≡ halt.Read → IsUnread stop ⊎ cert_unread) → (h ≡ halt.ReadLimit → IsUnread stop ⊎ cert_unread) → halt_status h ≡ 3 → IsUnread stop ⊎ cert_unread
      by halt.Read read limit three = read refl
      by halt.ReadLimit read limit three = limit refl
      by halt.Write read limit three = absurd (omega (arith, three))
      by halt.NoMemory read limit three = absurd (omega (arith, three))

-- with another cause
pub reads-weaker : {places : ℕ} {S : Type 0} (call : S → ℕ → Option (List ℕ) → S → Type 0) (a b : Type 0) (start : State) (lexer : Progress) (source : S) (read : Option Commands) (held held' : Option (List ℕ)) (status : ℕ) (later : S) → (a → b)
    → ReadsFrom places call a start lexer source read held held' status later → ReadsFrom places call b start lexer source read held held' status later
reads-weaker call a b start lexer source read held held' status later go r = record {
  answers = r.answers;
  part = r.part;
  prints = r.prints;
  old = r.old;
  now = r.now;
  still = r.still;
  state = r.state;
  passed = r.passed;
  stop = r.stop;
  new = r.new;
  last = r.last;
  ends = record {
    ended = r.ends.ended;
    unread = λ three. elim (r.ends.unread three) [ inl u ↦ inl u | inr x ↦ inr (go x) ];
    read = r.ends.read;
  };
}

-- the status of an error, by a `?` that makes another of it
pub err-run : (r : Result Ending Halt) (h : Halt) → IsErrAnd r (λ e. e ≡ h) → run_status r ≡ halt_status h
err-run (Ok e) h and = absurd and
err-run (Err e) h and = ap halt_status and

halt-high : (h : Halt) → 3 ≤ halt_status h
halt-high halt.Read = omega arith
halt-high halt.ReadLimit = omega arith
halt-high halt.Write = omega arith
halt-high halt.NoMemory = omega arith

pub err-high : (r : Result Ending Halt) (h : Halt) → IsErrAnd r (λ e. e ≡ h) → 3 ≤ run_status r
err-high r h and = let high = halt-high h in let is = err-run r h and in omega (arith, high, is)

-- of a first line that is refused
pub refused-high : (r : Result Ending Halt) (P : Type 0) → IfOk r (λ e. (e ≡ Refused) × P) → 3 ≤ run_status r
refused-high (Ok e) P h = let is : status_of e ≡ 6 = ap status_of h.0 in omega (arith, is)
refused-high (Err e) P h = halt-high e

-- at a first line that is refused
pub header-refuses : (places : ℕ) (script cert : Option (List ℕ)) (line : List ℕ) (version : ℕ) (text : Option Text) → IfSome cert (λ bytes. Heads (Some line) bytes version text) → IfSome (told places script cert) (λ o. o.outcome ≡ writes line 6)
header-refuses places None cert line version text h = tt
header-refuses places (Some bytes) None line version text h = tt
header-refuses places (Some bytes) (Some lines) line version text h = ap outcome_of (h.2 (beside places opening (reads bytes))) ∙ ap (λ (w : List ℕ). writes w 6) (sym h.1)

-- a result that is an error
pub on-err : {A E : Type 0} (r : Result A E) (P : Type 0) → P → OnErr r P
on-err (Ok a) P h = tt
on-err (Err e) P h = h

pub err-weaker : {A E : Type 0} (r : Result A E) (P Q : Type 0) → OnErr r P → (P → Q) → OnErr r Q
err-weaker (Ok a) P Q h go = tt
err-weaker (Err e) P Q h go = go h

pub err-same : {A : Type 0} {other : Halt} (r : Result A Halt) (h : Halt) → IsErrAnd r (λ e. e ≡ h) → IsErrOf r other → h ≡ other
err-same (Ok a) h and is = absurd and
err-same (Err e) h and is = cc

-- a source that is told tells what is to be given of it
pub tells-told : (rest : List ℕ) (left left' : Option (List ℕ)) → is_some left' ≡ is_some left → is_some (to_give rest left') ≡ is_some left
tells-told rest None None h = refl
tells-told rest None (Some b) h = absurd cc
tells-told rest (Some a) None h = absurd cc
tells-told rest (Some a) (Some b) h = refl
