-- What each kind of effect leads to.
use Rattle.std.proofs.Common.{◌≡◌, ℕ, zero, suc, ◌<◌, ◌≤◌, true, Option, Some, None, List, [], ◌∷◌, ◌++◌, map, length, slice_get, get_or, refl, sym, ap, subst, ◌∙◌, Result, Ok, Err, IfOk, arith, codes}
use Rattle.std.specs.Prelude.{◌+◌, ◌^◌, OnErr, All, IsSomeAnd, Vec, option_to_list}
use Rattle.std.specs.List.{AllByRecursion}
use Rattle.std.specs.declared.alloc.Global.{Global}
use Rattle.std.proofs.lemmas.List.{length-map, length-append, append-nil}
use Rattle.std.proofs.lemmas.List.Elements.{All-nil, All-cons, recursion_from_All, All-from_recursion}
use Rattle.qv_sexpr.specs.declared.items.Item.{Item}
use Rattle.qv_sexpr.specs.declared.items.Expr.{Expr as Items}
use Rattle.qv_sexpr.specs.Items.{IsExprOf}
use Rattle.qv_sexpr.specs.Script.{Tree as Expr, lexical, parsing, nesting}
use Rattle.qv_sexpr.specs.declared.answers.ParseFault.{ParseFault}
use Rattle.qv_text.specs.declared.kinds.LexFault.{LexFault}
use Rattle.qv_script_texts.specs.EndLines.{fault_at_end}
use Rattle.qv_elab_items.proofs.Slices.{read-item}
use Rattle.qv_elab.proofs.OwnReadings.{written, place-is}
use Rattle.qv_script_parts.proofs.Attributes.{stands-begins}
use Rattle.qv_words.specs.declared.sort.Sort.{Sort}
use Rattle.qv_words.specs.Sort.{IsLawful}
use Rattle.qv_words.specs.declared.word.Word.{Word}
use Rattle.qv_words.specs.Word.{word_sort, values_of, sorts_of}
use Rattle.qv_words.specs.Tree.{Tree, IsQuantifierFree}
use Rattle.qv_words.specs.Truth.{IsAssertion, HaveOneSort, constants_of_each}
use Rattle.qv_words.specs.Sorted.{constants_of as leaves_of}
use Rattle.qv_words.specs.Values.{HasWords}
use Rattle.qv_words.proofs.Elements.{all-weaker}
use Rattle.qv_words.proofs.Leaves.{both}
use Rattle.qv_store.specs.Nodes.{tree_at}
use Rattle.qv_store.specs.Walks.{named}
use Rattle.qv_store.proofs.Unquantified.{free-of}
use Rattle.qv_elab_defs.specs.Tokens.{place_of}
use Rattle.qv_elab_defs.specs.Scopes.{Scope, constants_of}
use Rattle.qv_elab_defs.specs.TreeLaws.{IsScope, empty, declares, defines, abbreviates}
use Rattle.qv_script_stack.specs.declared.held.Declared.{Declared}
use Rattle.qv_script_stack.specs.declared.held.Named.{Named as NamedAssertion}
use Rattle.qv_script_stack.specs.declared.held.Last.{Last as Answer}
use Rattle.qv_script_stack.specs.declared.held.Last.TheVariants as answer
use Rattle.qv_script_defs.specs.declared.effects.Effect.{Effect as Done}
use Rattle.qv_script_defs.specs.declared.effects.Effect.TheVariants as done
use Rattle.qv_script_defs.specs.declared.effects.ValueTerm.{ValueTerm as Asked}
use Rattle.qv_script_defs.specs.Faults.{refusal}
use Rattle.qv_elab_defs.specs.Scopes.{Named}
use Rattle.qv_script_defs.specs.State.{Assertion, State, Sat, Unsat, answered, constants, in_force, last_checked, levels, name_at, names_from, placed, places_of, scope_of}
use Rattle.qv_script_defs.specs.Texts.{success}
use Rattle.qv_script_defs.specs.Moves.{ValueTerm, Effect, Quiet, Text, Check, Values, Whole, Core, symbols_of, Exit, has_model}
use Rattle.qv_script_defs.specs.Commands.{after}
use Rattle.qv_script_stack.specs.Held.{Held, AreAt, IsScriptIn, HaveFirstSorts, asserted, declared_of, answer_of, named_of, padded, last_of, HasTexts, terms_in, terms_of}
use Rattle.qv_script_stack.proofs.Sized.{in-force}
use Rattle.qv_script_stack.proofs.Holding.{held-answered}
use Rattle.qv_script_texts.specs.Filled.{IsFilled}
use Rattle.qv_script_texts.proofs.Zeros.{filled-values, filled-sorts}
use Rattle.qv_script_stack.specs.Steps.{Gives, AreAsked}
use Rattle.qv_script_defs.proofs.Commanding.{checks-are_lawful}
use Rattle.qv_script_stack.proofs.Asserting.{script-grows}
use Rattle.qv_shell_command.specs.declared.ending.Ending.TheVariants.{Refused}
use Rattle.qv_shell_command.specs.declared.moves.After.TheVariants.{More, Ended}
use Rattle.qv_script_texts.specs.Printing.{core_text, model_text, ShowsValues}
use Rattle.qv_script_transcript.specs.Lawful.{IsLawfulAnswer, prefix_length}
use Rattle.qv_script_transcript.specs.Following.{Says}
use Rattle.qv_shell_command.specs.Calls.{AreRecordsBehind, AreRecordsOfSaid, IsFollowed, IsLast, says, checks, exceeds, leaves}
use Rattle.qv_script_texts.specs.Shown.{CanShow, told}
use Rattle.qv_meter.specs.Records.{Limits, Record, Metering, records_of}
use Rattle.qv_solve.specs.Solutions.{HasRecord}
use Rattle.qv_store.specs.Stores.{Grows}
use Rattle.qv_script_transcript.specs.Certificates.{IsCertified}
use Rattle.qv_shell_command.specs.declared.tallies.Tally.{Tally}
use Rattle.qv_shell_command.specs.Tallies.{counted}
use Rattle.qv_cert.specs.TextLaws.{bytes_of_lines}
use Rattle.qv_shell_answer.specs.declared.checking.Checked.{Checked}
use Rattle.qv_script_defs.specs.Settings.{limit_of}
use Rattle.qv_shell_answer.specs.Metered.{IsRecordOf, lesser, HasLimits}
use Rattle.qv_solve_cores.specs.Cores.{StartsSome}
use Rattle.qv_solve_cores.proofs.Searches.{core-limited}
use Rattle.qv_cnf.specs.Listing.{Rises}
use Rattle.qv_cnf.proofs.Living.{Rises-lower}
use Rattle.qv_shell_answer.specs.Checks.{CanCheck, CanCore, formulas_in, texts_of, IsCheckedFor, IsCoreFor}
use Rattle.qv_shell_answer.specs.declared.cores.Among.{Among}
use Rattle.qv_shell_answer.specs.declared.cores.Among.TheVariants as kinds
use Rattle.qv_shell_answer.proofs.Asking.{symbols-places}
use Rattle.qv_script_transcript.specs.Following.{with_answer}
use Rattle.qv_script_transcript.specs.Current.{AreRefuted, IsCurrent}
use Rattle.qv_shell_command.specs.Ending.{status_of}
use Rattle.qv_shell_command.specs.declared.ending.Ending.{Ending}
use Rattle.qv_shell_command.specs.declared.moves.After.{After}
use Rattle.qv_shell_command.specs.declared.moves.Move.{Move}
use Rattle.qv_shell_command.specs.declared.moves.Course.{Course}
use Rattle.qv_shell_command.specs.Moves.{words_of, Stands, HasStepped, HasDone, HasCheck, HasCore, ChecksNothing, SpeaksTo, MovesBy, MovesTo, EndsText, HasStarted, IsAnswered}
use Rattle.qv_script_defs.specs.StateLaws.{IsAskable}
use Rattle.qv_script_transcript.proofs.Checking.{checks-are_over_constants}
use Rattle.qv_script_defs.proofs.Labelling.{IsLabelled}
use Rattle.qv_script_transcript.proofs.Continuing.{lasting, askable, current-after, current-answered, the-core}

-- what follows from what holds of a result
pub ok-weaker : {A E : Type 0} (r : Result A E) (P Q : A → Type 0) → IfOk r P → ((a : A) → P a → Q a) → IfOk r Q
ok-weaker (Ok a) P Q h go = go a h
ok-weaker (Err e) P Q h go = tt

-- what holds anyway
pub err-so : {A E : Type 0} (r : Result A E) (P : Type 0) → P → OnErr r P
err-so (Ok a) P h = tt
err-so (Err e) P h = h

-- what a step did
pub step-done : (trees : List Tree) (held : Held) (expr : Items) (s : State) (e : Expr) (told : Done) → IsCurrent s → IsExprOf e expr → Gives trees held (after s e) (Ok told) → (now : State) × (effect : Effect) × HasDone trees held s e now effect told
step-done trees held expr s e told current is gives = (
  gives.0,
  gives.1,
  record {
    stepped = record { current = current; tokens = written expr.items.items expr.text.items 0 e (length expr.items.items) is; gives = gives.2; script = gives.3 };
    is_effect = gives.4;
  },
)

-- the place of an expression is that of its first item
pub first-place : (expr : Items) (x : Item) (e : Expr) → IsExprOf e expr → x ≡ get_or expr.items.items 0 x → x.place ≡ place_of e
first-place expr x e is at =
    let b = stands-begins expr 0 e (length expr.items.items) is in
    sym (place-is expr.items.items expr.text.items 0 e (length expr.items.items) x is (read-item expr.items.items 0 b.0 x b.1 at))

-- nothing was checked
pub nothing-checked : (m : Move) (c : Course) (records : List Record) → m.section.items ≡ [] → ChecksNothing m c.tally c records records
nothing-checked m c records h = record { section = h; same = refl; stays = refl }

-- what the end of a text leads to, where it is a fault
module _ (m : Move) (tally : Tally) (c : Course) (before after : List Record) (ended : m.after ≡ Ended Refused) (nothing : ChecksNothing m tally c before after) where
  pub lex-ends : (fault : LexFault) → fault_at_end (lexical fault) ≡ Some m.text.items → EndsText (lexical fault) m tally c before after
  lex-ends fault h = record { text = cc; ends = ended; nothing = nothing }

  pub parse-ends : (fault : ParseFault) → fault_at_end (parsing fault) ≡ Some m.text.items → EndsText (parsing fault) m tally c before after
  parse-ends fault h = record { text = cc; ends = ended; nothing = nothing }

  pub nesting-ends : (place : ℕ) → fault_at_end (nesting place) ≡ Some m.text.items → EndsText (nesting place) m tally c before after
  nesting-ends place h = record { text = cc; ends = ended; nothing = nothing }

-- a command that isn't a check
module _ (places : ℕ) (limits : Limits) (s : State) (e : Expr) (m : Move) (tally : Tally) (c : Course) (before after : List Record) (nothing : ChecksNothing m tally c before after) where
  pub speaks-moves : m.after ≡ More → SpeaksTo places s e m.text.items c → MovesTo places limits s e m tally c before after
  speaks-moves more h = subst (λ (a : After). MovesBy places a limits s e m tally c before after) (sym more) (record {
    state = h.0;
    checks = [];
    followed = h.1;
    certified = tt;
    section = nothing.section;
    records = [];
    metered = h.2 limits;
    started = nothing.same ∙ sym (append-nil before);
    counted = nothing.stays;
    stands = h.3;
  })

  -- and one at which the script ends
  pub last-moves : (ending : Ending) → m.after ≡ Ended ending → IsLast places s e m.text.items (status_of ending) → MovesTo places limits s e m tally c before after
  last-moves ending at h = subst (λ (a : After). MovesBy places a limits s e m tally c before after) (sym at) (h, nothing)

-- what a text after which the script goes on leads to
abbrev Speaks : (places : ℕ) → State → Expr → List ℕ → List Tree → Held → Type 0
Speaks places s e text trees held = (t : State) × (f : IsFollowed places s e [] text t) × ((limits : Limits) → AreRecordsBehind limits f []) × Stands trees held t

pub says-moves : (places : ℕ) (trees : List Tree) (held : Held) (s : State) (e : Expr) (now : State) (effect : Effect) (text : List ℕ) → HasStepped trees held s e now effect → (said : Says now effect text) → ((limits : Limits) → AreRecordsOfSaid limits now effect text said []) → Speaks places s e text trees held
says-moves places trees held s e now effect text h said quiet = (
  now,
  says now effect text h.gives said,
  quiet,
  record { script = h.script; current = current-after s now e effect h.current h.tokens h.gives },
)

module _ (places : ℕ) (trees : List Tree) (held : Held) (s : State) (e : Expr) (now : State) (effect : Effect) where
  stepped-as : (other : Effect) → effect ≡ other → HasStepped trees held s e now effect → HasStepped trees held s e now other
  stepped-as other same h = subst (λ (f : Effect). HasStepped trees held s e now f) same h

  pub quiet-moves : (text : List ℕ) → HasDone trees held s e now effect done.Quiet → text ≡ success held.success → Speaks places s e text trees held
  quiet-moves text h is = says-moves places trees held s e now Quiet text (stepped-as Quiet h.is_effect h.stepped) (is ∙ ap success h.stepped.script.success) (λ limits. refl)

  pub text-moves : (text : List ℕ) (told : Vec ℕ Global) → HasDone trees held s e now effect (done.Text told) → text ≡ told.items → Speaks places s e text trees held
  text-moves text told h is = says-moves places trees held s e now (Text told.items) text (stepped-as (Text told.items) h.is_effect h.stepped) is (λ limits. refl)

  pub exit-moves : (text : List ℕ) → HasDone trees held s e now effect done.Exit → text ≡ success held.success → IsLast places s e text 0
  exit-moves text h is =
      let gives : after s e ≡ Ok (now, Exit) = h.stepped.gives ∙ ap (λ (f : Effect). Ok (now, f)) h.is_effect in
      subst (λ (t : List ℕ). IsLast places s e t 0) (sym (is ∙ ap success h.stepped.script.success)) (leaves now gives)

  -- checks
  pub plain-check : HasDone trees held s e now effect done.Check → (formulas : List Tree) × HasCheck trees held s e now formulas
  plain-check h = (
    h.is_effect.0,
    record {
      stepped = stepped-as (Check h.is_effect.0) h.is_effect.1 h.stepped;
      at = subst (λ (ids : List ℕ). AreAt trees ids h.is_effect.0) (sym (append-nil held.assertions) ∙ ap (λ (ids : List ℕ). held.assertions ++ ids) (sym h.is_effect.3)) h.is_effect.2;
    },
  )

  pub assuming-check : HasDone trees held s e now effect done.CheckAssuming → (formulas : List Tree) × HasCheck trees held s e now formulas
  assuming-check h = (h.is_effect.0, record { stepped = stepped-as (Check h.is_effect.0) h.is_effect.1 h.stepped; at = h.is_effect.2 })

-- the sorts of constants are lawful
scope-lawful : {scope : Scope} → IsScope scope → AllByRecursion (λ x. IsLawful x.1) (constants_of scope)
scope-lawful empty = tt
scope-lawful (declares scope name sort h lawful) = both (λ x. IsLawful x.1) (constants_of scope) ((name, sort) ∷ []) (scope-lawful h) (lawful, tt)
scope-lawful (defines scope name ps sort body t h are w is) = both (λ x. IsLawful x.1) (constants_of scope) [] (scope-lawful h) tt
scope-lawful (abbreviates scope name sort h lawful) = both (λ x. IsLawful x.1) (constants_of scope) [] (scope-lawful h) tt

owns-lawful : (owns : List Declared) → AllByRecursion (λ x. IsLawful x.1) (declared_of owns) → AllByRecursion (λ own. IsLawful own.sort) owns
owns-lawful [] h = tt
owns-lawful (own ∷ owns) h = (h.0, owns-lawful owns h.1)

pub constants-lawful : (trees : List Tree) (held : Held) (s : State) → IsScriptIn trees held s → All (λ own. IsLawful own.sort) held.constants
constants-lawful trees held s h =
    All-from_recursion (λ (own : Declared). IsLawful own.sort) held.constants
    (owns-lawful held.constants (subst (AllByRecursion (λ x. IsLawful x.1)) (sym h.constants) (scope-lawful h.scope.is_scope)))

-- ids of trees
pub at-named : (trees : List Tree) (ids : List ℕ) (ts : List Tree) → AreAt trees ids ts → named trees ids ≡ ts
at-named trees [] [] h = refl
at-named trees [] (t ∷ ts) h = absurd h
at-named trees (n ∷ ns) [] h = absurd h
at-named trees (n ∷ ns) (t ∷ ts) h = ap (λ (u : Tree). u ∷ named trees ns) h.0.tree ∙ ap (λ us. t ∷ us) (at-named trees ns ts h.1)

at-below : (trees : List Tree) (ids : List ℕ) (ts : List Tree) → AreAt trees ids ts → AllByRecursion (λ n. n < length trees) ids
at-below trees [] [] h = tt
at-below trees [] (t ∷ ts) h = absurd h
at-below trees (n ∷ ns) [] h = absurd h
at-below trees (n ∷ ns) (t ∷ ts) h = (h.0.below, at-below trees ns ts h.1)

pub check-below : (trees : List Tree) (held : Held) (s : State) (e : Expr) (now : State) (formulas : List Tree) → HasCheck trees held s e now formulas → All (λ n. n < length trees) (held.assertions ++ held.assumed)
check-below trees held s e now formulas h = All-from_recursion (λ n. n < length trees) (held.assertions ++ held.assumed) (at-below trees (held.assertions ++ held.assumed) formulas h.at)

pub check-formulas : (trees : List Tree) (held : Held) (s : State) (e : Expr) (now : State) (formulas : List Tree) → HasCheck trees held s e now formulas → All IsAssertion (named trees (held.assertions ++ held.assumed))
check-formulas trees held s e now formulas h =
    subst (All IsAssertion) (sym (at-named trees (held.assertions ++ held.assumed) formulas h.at))
    (checks-are_lawful s now e formulas h.stepped.current.reached h.stepped.tokens h.stepped.gives).0

-- their sorts
sorts-declared : (owns : List Declared) → map (λ own. own.sort) owns ≡ map (λ x. x.1) (declared_of owns)
sorts-declared [] = refl
sorts-declared (own ∷ owns) = ap (λ (ss : List Sort). own.sort ∷ ss) (sorts-declared owns)

-- what a check of the held formulas asks for
pub can-check : (trees : List Tree) (held : Held) (s : State) (e : Expr) (now : State) (formulas : List Tree) → HasCheck trees held s e now formulas → CanCheck trees held
can-check trees held s e now formulas h =
    let same : formulas_in trees held ≡ formulas = at-named trees (held.assertions ++ held.assumed) formulas h.at in
    let stepped = h.stepped in
    let scope = (lasting s now e (Check formulas) stepped.gives).1.0 in
    let sorts : map (λ x. x.1) (constants s) ≡ map (λ own. own.sort) held.constants =
    sym (sorts-declared held.constants ∙ ap (map (λ x. x.1)) (stepped.script.constants ∙ scope)) in
    record {
      below = check-below trees held s e now formulas h;
      assertions = check-formulas trees held s e now formulas h;
      one_sort = subst HaveOneSort (sym same) (checks-are_lawful s now e formulas stepped.current.reached stepped.tokens stepped.gives).1;
      lawful = constants-lawful trees held now stepped.script;
      over = subst (λ (ts : List Tree). All (λ leaf. slice_get (map (λ own. own.sort) held.constants) leaf.0 ≡ Some leaf.1) (constants_of_each ts)) (sym same)
          (subst (λ (ss : List Sort). All (λ leaf. slice_get ss leaf.0 ≡ Some leaf.1) (constants_of_each formulas)) sorts
          (checks-are_over_constants s now e formulas stepped.current.reached stepped.tokens stepped.gives));
    }

-- a check past the limit
pub exceeds-last : (places : ℕ) (trees : List Tree) (held : Held) (s : State) (e : Expr) (now : State) (formulas : List Tree) (place : ℕ) →
    HasCheck trees held s e now formulas → place ≡ place_of e → places < prefix_length (formulas_in trees held) → IsLast places s e (refusal place (codes "prefix limit")) 1
exceeds-last places trees held s e now formulas place h at far =
    let same : formulas_in trees held ≡ formulas = at-named trees (held.assertions ++ held.assumed) formulas h.at in
    subst (λ p. IsLast places s e (refusal p (codes "prefix limit")) 1) (sym at)
    (exceeds now formulas h.stepped.gives (subst (λ (ts : List Tree). places < prefix_length ts) same far))

-- records behind others
pub one-more : (before older : List Record) (newest : Option Record) (P : Record → Type 0) → older ≡ before → IsSomeAnd newest P → (r : Record) × P r × (older ++ option_to_list newest ≡ before ++ r ∷ [])
one-more before older None P same h = absurd h
one-more before older (Some r) P same h = (r, h, ap (λ (rs : List Record). rs ++ r ∷ []) same)

pub begins-none : (limits : Limits) (before after : Metering) → after ≡ before → HasStarted limits (records_of before) (records_of after)
begins-none limits before after same = record {
  begun = [];
  limited = All-nil (HasLimits limits);
  started = ap records_of same ∙ sym (append-nil (records_of before));
}

pub begins-one : (limits : Limits) (n : ℕ) (before after : Metering) → HasRecord (lesser limits n) before after → HasStarted limits (records_of before) (records_of after)
begins-one limits n before after h =
    let r = one-more (records_of before) after.older after.newest (λ r. r.limits ≡ lesser limits n) h.older h.limited in
    record {
      begun = r.0 ∷ [];
      limited = All-cons (HasLimits limits) r.0 [] (n, r.1) (All-nil (HasLimits limits));
      started = r.2;
    }

pub begins-some : (limits : Limits) (n : ℕ) (before after : Metering) → StartsSome (lesser limits n) before after → HasStarted limits (records_of before) (records_of after)
begins-some limits n before after h = record {
  begun = h.more;
  limited = All-from_recursion (HasLimits limits) h.more (each h.more (recursion_from_All (λ (r : Record). r.limits ≡ lesser limits n) h.more h.limited));
  started = h.started;
}
  where
    each : (rs : List Record) → AllByRecursion (λ (r : Record). r.limits ≡ lesser limits n) rs → AllByRecursion (HasLimits limits) rs
    each [] k = tt
    each (r ∷ rs) k = ((n, k.0), each rs k.1)

pub begins-core : (limits : Limits) (n : ℕ) (formulas : List Tree) (labels : Named ℕ) (before after : List Record) (kept : List ℕ) → IsCoreFor (lesser limits n) formulas labels before after kept → HasStarted limits before after
begins-core limits n formulas labels before after kept h = record {
  begun = h.records;
  limited = All-from_recursion (HasLimits limits) h.records (each h.records (core-limited (lesser limits n) formulas (places_of labels) kept h.records h.metered));
  started = h.started;
}
  where
    each : (rs : List Record) → AllByRecursion (λ (r : Record). r.limits ≡ lesser limits n) rs → AllByRecursion (HasLimits limits) rs
    each [] k = tt
    each (r ∷ rs) k = ((n, k.0), each rs k.1)

-- a check that is answered
module _ (places : ℕ) (limits : Limits) (s : State) (e : Expr) (now : State) (formulas : List Tree) (m : Move) (c mid c' : Course) (checked : Checked) (before after : Metering) where
  pub answered-moves : places < 2 ^ 32 → HasCheck c.store c.script s e now formulas → prefix_length (formulas_in c.store c.script) ≤ places →
      IsCheckedFor (c.tally.checks + 1) (lesser limits (limit_of now)) c.script.constants (formulas_in c.store c.script) after checked → HasRecord (lesser limits (limit_of now)) before after →
      Grows c.store mid.store → mid.script ≡ c.script → mid.tally ≡ c.tally → IsAnswered checked mid c' m →
      MovesTo places limits s e m c.tally c' (records_of before) (records_of after)
  answered-moves bounded h short is has grows script tally kept =
      let stepped = h.stepped in
      let answer = answer_of checked.last in
      let same : formulas_in c.store c.script ≡ formulas = at-named c.store (c.script.assertions ++ c.script.assumed) formulas h.at in
      let sound = subst (λ (ts : List Tree). IsCheckedFor (c.tally.checks + 1) (lesser limits (limit_of now)) c.script.constants ts after checked) same is in
      let lawful : IsLawfulAnswer (constants now) formulas answer = subst (λ cs. IsLawfulAnswer cs formulas answer) stepped.script.constants sound.lawful in
      let fits : prefix_length formulas ≤ places = subst (λ (ts : List Tree). prefix_length ts ≤ places) same short in
      let r = one-more (records_of before) after.older after.newest (IsRecordOf (lesser limits (limit_of now)) (with_answer (limit_of now) formulas answer checked.counts)) has.older (sound.metered (limit_of now)) in
      let number : c.tally.checks + 1 ≡ suc c.tally.checks = omega arith in
      let held : IsScriptIn mid.store c.script now = script-grows c.store mid.store grows c.script now stepped.script in
      let check = with_answer (limit_of now) formulas answer checked.counts in
      let state = answered answer checked.counts now in
      let Follows : List ℕ → Type 0 = λ t. (f : IsFollowed places s e (check ∷ []) t state) × AreRecordsBehind limits f (r.0 ∷ []) in
      let followed : Follows m.text.items = subst Follows (sym kept.text) (checks now formulas answer checked.counts stepped.gives fits lawful, (r.0, refl, r.1)) in
      subst (λ (a : After). MovesBy places a limits s e m c.tally c' (records_of before) (records_of after)) (sym kept.after) (record {
        state = answered answer checked.counts now;
        checks = record { check = with_answer (limit_of now) formulas answer checked.counts; lines = sound.lines } ∷ [];
        followed = followed.0;
        certified = (subst (λ n. IsCertified n (record { check = with_answer (limit_of now) formulas answer checked.counts; lines = sound.lines })) number (sound.certified (limit_of now)), tt);
        section = ap (λ (v : Vec ℕ Global). v.items) kept.section ∙ sound.section ∙ ap bytes_of_lines (sym (append-nil sound.lines));
        records = r.0 ∷ [];
        metered = followed.1;
        started = r.2;
        counted = kept.tally ∙ ap (counted answer) tally;
        stands = record {
          script = subst (λ (trees : List Tree). IsScriptIn trees c'.script (answered answer checked.counts now)) (sym kept.store)
              (subst (λ (held' : Held). IsScriptIn mid.store held' (answered answer checked.counts now)) (sym (kept.held ∙ ap (λ (held' : Held). record held' { last = Some checked.last; counts = Some checked.counts }) script))
              (held-answered mid.store c.script now checked.last checked.counts sound.sorts held));
          current = current-answered now answer checked.counts (current-after s now e (Check formulas) stepped.current stepped.tokens stepped.gives)
              (λ values same. let are = subst (IsLawfulAnswer (constants now) formulas) same lawful in record { each = are.each; sorts = are.sorts })
              (λ same. subst AreRefuted (lasting s now e (Check formulas) stepped.gives).1.1 (record {
                untrue = subst (IsLawfulAnswer (constants now) formulas) same lawful;
                few = omega (arith, fits, bounded);
                assertions = (checks-are_lawful s now e formulas stepped.current.reached stepped.tokens stepped.gives).0;
                one_sort = (checks-are_lawful s now e formulas stepped.current.reached stepped.tokens stepped.gives).1;
              }));
        };
      })

-- ---- a core that is asked for

pub core-done : (trees : List Tree) (held : Held) (s : State) (e : Expr) (now : State) (effect : Effect) → HasDone trees held s e now effect done.Core → (formulas : List Tree) × (texts : Named ℕ) × HasCore trees held kinds.Names s e now formulas texts
core-done trees held s e now effect h = (
  h.is_effect.0,
  texts_of kinds.Names held,
  record {
    stepped = subst (λ (f : Effect). HasStepped trees held s e now f) h.is_effect.1 h.stepped;
    texts_are = refl;
    at = h.is_effect.2;
  },
)

pub assumed-done : (trees : List Tree) (held : Held) (s : State) (e : Expr) (now : State) (effect : Effect) → HasDone trees held s e now effect done.AssumedCore → (formulas : List Tree) × (texts : Named ℕ) × HasCore trees held kinds.Assumptions s e now formulas texts
assumed-done trees held s e now effect h = (
  h.is_effect.0,
  texts_of kinds.Assumptions held,
  record {
    stepped = subst (λ (f : Effect). HasStepped trees held s e now f) h.is_effect.1 h.stepped;
    texts_are = refl;
    at = h.is_effect.2;
  },
)

-- rising places of names, from a place on
names-rise : (n : ℕ) (rest : List Assertion) → Rises n (places_of (names_from n rest))
names-rise n [] = tt
names-rise n (a ∷ rest) = by a.name (names-rise (suc n) rest)
  where
    by : (o : Option (List ℕ)) → Rises (suc n) (places_of (names_from (suc n) rest)) → Rises n (places_of (name_at n o ++ names_from (suc n) rest))
    by None h = Rises-lower (suc n) n (places_of (names_from (suc n) rest)) h (omega arith)
    by (Some name) h = (omega arith, let one : n + 1 ≡ suc n = omega arith in subst (λ m. Rises m (places_of (names_from (suc n) rest))) (sym one) h)

names-within : (n : ℕ) (rest : List Assertion) → AllByRecursion (λ m. m < n + length rest) (places_of (names_from n rest))
names-within n [] = tt
names-within n (a ∷ rest) = by a.name (further (places_of (names_from (suc n) rest)) (names-within (suc n) rest))
  where
    further : (ms : List ℕ) → AllByRecursion (λ m. m < suc n + length rest) ms → AllByRecursion (λ m. m < n + length (a ∷ rest)) ms
    further [] h = tt
    further (m ∷ ms) h = let lt = h.0 in (omega (arith, lt), further ms h.1)

    by : (o : Option (List ℕ)) → AllByRecursion (λ m. m < n + length (a ∷ rest)) (places_of (names_from (suc n) rest)) → AllByRecursion (λ m. m < n + length (a ∷ rest)) (places_of (name_at n o ++ names_from (suc n) rest))
    by None h = h
    by (Some name) h = (omega arith, h)

at-length : (trees : List Tree) (ids : List ℕ) (ts : List Tree) → AreAt trees ids ts → length ids ≡ length ts
at-length trees [] [] h = refl
at-length trees [] (t ∷ ts) h = absurd h
at-length trees (n ∷ ns) [] h = absurd h
at-length trees (n ∷ ns) (t ∷ ts) h = ap suc (at-length trees ns ts h.1)

-- rising places of texts behind each other
placed-rise : (n : ℕ) (texts : List (List ℕ)) → Rises n (places_of (placed n texts))
placed-rise n [] = tt
placed-rise n (text ∷ texts) = (omega arith, let one : n + 1 ≡ suc n = omega arith in subst (λ m. Rises m (places_of (placed (suc n) texts))) (sym one) (placed-rise (suc n) texts))

placed-within : (n : ℕ) (texts : List (List ℕ)) → AllByRecursion (λ m. m < n + length texts) (places_of (placed n texts))
placed-within n [] = tt
placed-within n (text ∷ texts) = (omega arith, further (places_of (placed (suc n) texts)) (placed-within (suc n) texts))
  where
    further : (ms : List ℕ) → AllByRecursion (λ m. m < suc n + length texts) ms → AllByRecursion (λ m. m < n + length (text ∷ texts)) ms
    further [] h = tt
    further (m ∷ ms) h = let lt = h.0 in (omega (arith, lt), further ms h.1)

lower : (n m : ℕ) → n ≤ m → (ks : List ℕ) → AllByRecursion (λ k. k < n) ks → AllByRecursion (λ k. k < m) ks
lower n m le [] h = tt
lower n m le (k ∷ ks) h = let here = h.0 in (omega (arith, le, here), lower n m le ks h.1)

-- there are no more texts than were assumed
few-texts : (ids : List ℕ) (terms : Option (Vec (Vec ℕ Global) Global)) → HasTexts ids terms → length (map (λ (t : Vec ℕ Global). t.items) (terms_in terms)) ≤ length ids
few-texts ids None h = omega arith
few-texts ids (Some texts) h = let count = length-map texts.items (λ (t : Vec ℕ Global). t.items) in omega (arith, count, h)

-- what may be left out has rising places, of what is held
texts-rise : (among : Among) (trees : List Tree) (held : Held) (now : State) → IsScriptIn trees held now → Rises 0 (places_of (texts_of among held))
texts-rise kinds.Names trees held now h =
    subst (Rises 0) (sym (symbols-places (named_of held.named)))
    (subst (λ (xs : Named ℕ). Rises 0 (places_of xs)) (sym h.named) (names-rise 0 (asserted (levels now))))
texts-rise kinds.Assumptions trees held now h =
    let texts = map (λ (t : Vec ℕ Global). t.items) (terms_in held.terms) in
    Rises-lower (length held.assertions) 0 (places_of (placed (length held.assertions) texts)) (placed-rise (length held.assertions) texts) (omega arith)

texts-within : (among : Among) (trees : List Tree) (held : Held) (now : State) → IsScriptIn trees held now → AllByRecursion (λ n. n < length (held.assertions ++ held.assumed)) (places_of (texts_of among held))
texts-within kinds.Names trees held now h =
    let many : length held.assertions ≡ length (asserted (levels now)) =
    at-length trees held.assertions (in_force now) h.assertions ∙ ap length (in-force now) ∙ length-map (asserted (levels now)) (λ (a : Assertion). a.tree) in
    let whole = length-append held.assertions held.assumed in
    subst (AllByRecursion (λ n. n < length (held.assertions ++ held.assumed))) (sym (symbols-places (named_of held.named)))
    (subst (λ (xs : Named ℕ). AllByRecursion (λ n. n < length (held.assertions ++ held.assumed)) (places_of xs)) (sym h.named)
    (lower (0 + length (asserted (levels now))) (length (held.assertions ++ held.assumed)) (omega (arith, many, whole)) (places_of (names_from 0 (asserted (levels now)))) (names-within 0 (asserted (levels now)))))
texts-within kinds.Assumptions trees held now h =
    let texts = map (λ (t : Vec ℕ Global). t.items) (terms_in held.terms) in
    let whole = length-append held.assertions held.assumed in
    lower (length held.assertions + length texts) (length (held.assertions ++ held.assumed)) (omega (arith, whole, few-texts held.assumed held.terms h.texts))
    (places_of (placed (length held.assertions) texts)) (placed-within (length held.assertions) texts)

-- what the search for a core asks for
pub can-core : (trees : List Tree) (held : Held) (among : Among) (s : State) (e : Expr) (now : State) (formulas : List Tree) (texts : Named ℕ) → HasCore trees held among s e now formulas texts → CanCore trees held among
can-core trees held among s e now formulas texts h =
    let ids : List ℕ = held.assertions ++ held.assumed in
    let same : formulas_in trees held ≡ formulas = at-named trees ids formulas h.at in
    let stepped = h.stepped in
    let asked = (lasting s now e (Core formulas texts) stepped.gives).1 in
    let last : now.last ≡ Some Unsat = asked.0.last ∙ the-core s.last asked.1 in
    let current = current-after s now e (Core formulas texts) stepped.current stepped.tokens stepped.gives in
    record {
      below = All-from_recursion (λ n. n < length trees) ids (at-below trees ids formulas h.at);
      refuted = subst AreRefuted (sym asked.2 ∙ sym same) (current.refuted last);
      rises = texts-rise among trees held now stepped.script;
      places = All-from_recursion (λ n. n < length ids) (places_of (texts_of among held)) (texts-within among trees held now stepped.script);
    }

-- what is printed of a core, of either kind
pub named-texts : {E : Type 0} (r : Result (Vec ℕ Global) E) (among : Among) (held : Held) (kept : List ℕ) (xs : List NamedAssertion) → among ≡ kinds.Names → xs ≡ held.named → IfOk r (λ t. t.items ≡ core_text kept (symbols_of (named_of xs))) → IfOk r (λ t. t.items ≡ core_text kept (texts_of among held))
named-texts (Ok t) among held kept xs is same h = h ∙ ap (λ (ys : List NamedAssertion). core_text kept (symbols_of (named_of ys))) same ∙ ap (λ (a : Among). core_text kept (texts_of a held)) (sym is)
named-texts (Err e) among held kept xs is same h = tt

pub assumed-texts : {E : Type 0} (r : Result (Vec ℕ Global) E) (among : Among) (held : Held) (kept : List ℕ) → among ≡ kinds.Assumptions → IfOk r (λ t. t.items ≡ core_text kept (terms_of held)) → IfOk r (λ t. t.items ≡ core_text kept (texts_of among held))
assumed-texts (Ok t) among held kept is h = h ∙ ap (λ (a : Among). core_text kept (texts_of a held)) (sym is)
assumed-texts (Err e) among held kept is h = tt

-- a core is said
module _ (places : ℕ) (limits : Limits) (among : Among) (s : State) (e : Expr) (now : State) (formulas : List Tree) (texts : Named ℕ) (m : Move) (c c' : Course) (kept : List ℕ) (before after : List Record) where
  pub core-moves : HasCore c.store c.script among s e now formulas texts → IsCoreFor (lesser limits (limit_of now)) (formulas_in c.store c.script) (texts_of among c.script) before after kept →
      m.after ≡ More → m.section.items ≡ [] → m.text.items ≡ core_text kept (texts_of among c.script) → Grows c.store c'.store → c'.script ≡ c.script → c'.tally ≡ c.tally →
      MovesTo places limits s e m c.tally c' before after
  core-moves h is more section text grows script tally =
      let stepped = h.stepped in
      let same : formulas_in c.store c.script ≡ formulas = at-named c.store (c.script.assertions ++ c.script.assumed) formulas h.at in
      let of_formulas = subst (λ (ts : List Tree). IsCoreFor (lesser limits (limit_of now)) ts (texts_of among c.script) before after kept) same is in
      let found = subst (λ (xs : Named ℕ). IsCoreFor (lesser limits (limit_of now)) formulas xs before after kept) (sym h.texts_are) of_formulas in
      let said : Says now (Core formulas texts) m.text.items = (kept, found.lawful, text ∙ ap (core_text kept) (sym h.texts_are)) in
      let held : IsScriptIn c'.store c.script now = script-grows c.store c'.store grows c.script now stepped.script in
      subst (λ (a : After). MovesBy places a limits s e m c.tally c' before after) (sym more) (record {
        state = now;
        checks = [];
        followed = says now (Core formulas texts) m.text.items stepped.gives said;
        certified = tt;
        section = section;
        records = found.records;
        metered = found.metered;
        started = found.started;
        counted = tally;
        stands = record {
          script = subst (λ (k : Held). IsScriptIn c'.store k now) (sym script) held;
          current = current-after s now e (Core formulas texts) stepped.current stepped.tokens stepped.gives;
        };
      })

-- where the last answer is sat, the values are those of the words that are kept, and 0 behind them
kept-words : (n : ℕ) (o : Option Answer) → has_model (last_of n o) ≡ true → last_of n o ≡ Some (Sat (padded n (values_of (words_of o))))
kept-words n None h = absurd cc
kept-words n (Some (answer.Sat values)) h = refl
kept-words n (Some answer.Unsat) h = absurd cc
kept-words n (Some (answer.Unknown spent)) h = absurd cc

kept-sorts : (n : ℕ) (owns : List Declared) (o : Option Answer) (ws : List Word) → has_model (last_of n o) ≡ true → HaveFirstSorts owns o → IsFilled owns (words_of o) ws → sorts_of ws ≡ map (λ own. own.sort) owns
kept-sorts n owns None ws h sorts filled = absurd cc
kept-sorts n owns (Some (answer.Sat values)) ws h sorts filled = filled-sorts owns values.items ws sorts.0 sorts.1 filled
kept-sorts n owns (Some answer.Unsat) ws h sorts filled = absurd cc
kept-sorts n owns (Some (answer.Unknown spent)) ws h sorts filled = absurd cc

word-at : (ws : List Word) (ss : List Sort) (i : ℕ) (sort : Sort) → sorts_of ws ≡ ss → slice_get ss i ≡ Some sort → IsSomeAnd (slice_get ws i) (λ w. word_sort w ≡ sort)
word-at [] ss i sort e at = let none : slice_get [] i ≡ Some sort = ap (λ (xs : List Sort). slice_get xs i) e ∙ at in absurd cc
word-at (w ∷ ws) [] i sort e at = absurd cc
word-at (w ∷ ws) (x ∷ ss) zero sort e at = let same : word_sort w ≡ x = cc in let that : x ≡ sort = cc in same ∙ that
word-at (w ∷ ws) (x ∷ ss) (suc i) sort e at = let rest : sorts_of ws ≡ ss = cc in word-at ws ss i sort rest at

-- terms of the scope have values under the kept words
module _ (trees : List Tree) (held : Held) (s now : State) (script : IsScriptIn trees held now) (same : IsLabelled s now) (there : has_model s.last ≡ true) (ws : List Word) (filled : IsFilled held.constants (words_of held.last) ws) where
  held-model : has_model (last_of (length held.constants) held.last) ≡ true
  held-model = ap has_model script.last ∙ ap has_model same.last ∙ there

  pub model-last : now.last ≡ Some (Sat (values_of ws))
  model-last =
      sym script.last ∙ kept-words (length held.constants) held.last held-model
      ∙ ap (λ vs. Some (Sat vs)) (sym (filled-values held.constants (words_of held.last) ws filled))

  model-sorts : sorts_of ws ≡ map (λ x. x.1) (constants s)
  model-sorts = kept-sorts (length held.constants) held.constants held.last ws held-model script.values filled ∙ sorts-declared held.constants ∙ ap (map (λ x. x.1)) script.constants ∙ ap (map (λ x. x.1)) same.constants

  pub model-many : length ws ≡ length held.constants
  model-many =
      sym (length-map ws word_sort) ∙ ap length (kept-sorts (length held.constants) held.constants held.last ws held-model script.values filled) ∙ length-map held.constants (λ (own : Declared). own.sort)

  shows-tree : (t : Tree) (text : List ℕ) → IsAskable (scope_of s) (record { text = text; tree = t }) → HasWords ws [] t
  shows-tree t text h = record {
    constants = All-from_recursion (λ (leaf : ℕ × Sort). IsSomeAnd (slice_get ws leaf.0) (λ w. word_sort w ≡ leaf.1)) (leaves_of t)
        (all-weaker (λ (leaf : ℕ × Sort). slice_get (map (λ x. x.1) (constants s)) leaf.0 ≡ Some leaf.1) (λ leaf. IsSomeAnd (slice_get ws leaf.0) (λ w. word_sort w ≡ leaf.1)) (leaves_of t)
        (λ leaf at. word-at ws (map (λ x. x.1) (constants s)) leaf.0 leaf.1 model-sorts at)
        (recursion_from_All (λ (leaf : ℕ × Sort). slice_get (map (λ x. x.1) (constants s)) leaf.0 ≡ Some leaf.1) (leaves_of t) h.0.constants));
    levels = subst (λ (leaves : List (ℕ × Sort)). All (λ leaf. IsSomeAnd (slice_get [] leaf.0) (λ w. word_sort w ≡ leaf.1)) leaves) (sym h.0.closed) (All-nil (λ (leaf : ℕ × Sort). IsSomeAnd (slice_get [] leaf.0) (λ w. word_sort w ≡ leaf.1)));
  }

  shows-each : (asked : List Asked) (vs : List ValueTerm) → AreAsked trees asked vs → AllByRecursion (IsAskable (scope_of s)) vs → AllByRecursion (CanShow trees ws) asked
  shows-each [] [] h k = tt
  shows-each [] (v ∷ vs) h k = absurd h
  shows-each (a ∷ asked) [] h k = absurd h
  shows-each (a ∷ asked) (v ∷ vs) h k = (
    record {
      below = h.1.below;
      quantifier_free = subst IsQuantifierFree (sym h.1.tree) (free-of v.tree k.0.1);
      words = subst (HasWords ws []) (sym h.1.tree) (shows-tree v.tree v.text k.0);
    },
    shows-each asked vs h.2 k.1,
  )

-- the terms that are asked for are those of the effect
told-are : (trees : List Tree) (asked : List Asked) (vs : List ValueTerm) → AreAsked trees asked vs → told trees asked ≡ vs
told-are trees [] [] h = refl
told-are trees [] (v ∷ vs) h = absurd h
told-are trees (a ∷ asked) [] h = absurd h
told-are trees (a ∷ asked) (v ∷ vs) h =
    let here : ◌≡◌ {A = ValueTerm} (record { text = a.text.items; tree = tree_at trees a.id }) v = ap (λ t. record { text = t; tree = tree_at trees a.id }) h.0 ∙ ap (λ t. record { text = v.text; tree = t }) h.1.tree in
    ap (λ (t : ValueTerm). t ∷ told trees asked) here ∙ ap (λ ts. v ∷ ts) (told-are trees asked vs h.2)

module _ (places : ℕ) (trees : List Tree) (held : Held) (s : State) (e : Expr) (now : State) (effect : Effect) where
  asked-as : (other : Effect) → effect ≡ other → HasStepped trees held s e now effect → HasStepped trees held s e now other
  asked-as other same h = subst (λ (f : Effect). HasStepped trees held s e now f) same h

  pub values-show : (asked : Vec Asked Global) (ws : List Word) → IsFilled held.constants (words_of held.last) ws → HasDone trees held s e now effect (done.Values asked) → All (CanShow trees ws) asked.items
  values-show asked ws filled h =
      let stepped = asked-as (Values h.is_effect.0) h.is_effect.1 h.stepped in
      let facts = (lasting s now e (Values h.is_effect.0) stepped.gives).1 in
      All-from_recursion (CanShow trees ws) asked.items (shows-each trees held s now stepped.script facts.0 facts.1 ws filled asked.items h.is_effect.0 h.is_effect.2 (askable s now e h.is_effect.0 stepped.current stepped.tokens stepped.gives))

  pub values-moves : (asked : Vec Asked Global) (text : List ℕ) (ws : List Word) → IsFilled held.constants (words_of held.last) ws → HasDone trees held s e now effect (done.Values asked) → ShowsValues (values_of ws) (told trees asked.items) text → Speaks places s e text trees held
  values-moves asked text ws filled h shown =
      let stepped = asked-as (Values h.is_effect.0) h.is_effect.1 h.stepped in
      let facts = (lasting s now e (Values h.is_effect.0) stepped.gives).1 in
      says-moves places trees held s e now (Values h.is_effect.0) text stepped (
        values_of ws,
        model-last trees held s now stepped.script facts.0 facts.1 ws filled,
        subst (λ (ts : List ValueTerm). ShowsValues (values_of ws) ts text) (told-are trees asked.items h.is_effect.0 h.is_effect.2) shown,
      ) (λ limits. refl)

  pub whole-many : (ws : List Word) → IsFilled held.constants (words_of held.last) ws → HasDone trees held s e now effect done.Whole → length ws ≡ length held.constants
  whole-many ws filled h =
      let stepped = asked-as Whole h.is_effect h.stepped in
      let facts = (lasting s now e Whole stepped.gives).1 in
      model-many trees held s now stepped.script facts.0 facts.1 ws filled

  pub whole-moves : (text : List ℕ) (ws : List Word) → IsFilled held.constants (words_of held.last) ws → HasDone trees held s e now effect done.Whole → text ≡ model_text (declared_of held.constants) (values_of ws) → Speaks places s e text trees held
  whole-moves text ws filled h is =
      let stepped = asked-as Whole h.is_effect h.stepped in
      let facts = (lasting s now e Whole stepped.gives).1 in
      says-moves places trees held s e now Whole text stepped (
        values_of ws,
        model-last trees held s now stepped.script facts.0 facts.1 ws filled,
        is ∙ ap (λ cs. model_text cs (values_of ws)) stepped.script.constants,
      ) (λ limits. refl)
