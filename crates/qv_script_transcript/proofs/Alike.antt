-- Commands don't look at the values or the reason of the last answer, nor at what was counted, but for texts.
use Rattle.std.proofs.Common.{◌≡◌, ℕ, ◌+◌, ◌&&◌, not, Bool, true, false, cond, Option, Some, None, Result, Ok, Err, List, [], ◌∷◌, ◌++◌, map, length, drop, refl, sym, ap, subst, ◌∙◌}
use Rattle.std.specs.Prelude.{IfOk, nat_le, is_some, is_none, option_and_then, option_map}
use Rattle.std.specs.List.{list_any}
use Rattle.std.specs.Str.{bytes_eq}
use Rattle.qv_sexpr.specs.Script.{atom, list, none, also}
use Rattle.qv_sexpr.specs.Script.{Tree as Expr}
use Rattle.qv_words.specs.declared.sort.Sort.TheVariants.{Bool as BoolSort}
use Rattle.qv_words.specs.Tree.{Tree}
use Rattle.qv_words.specs.Prenex.{is_quantified}
use Rattle.qv_elab_defs.specs.Faults.{◌>>=◌}
use Rattle.qv_elab_defs.specs.Tokens.{place_of, items, symbol_of, keyword_of, numeral_of}
use Rattle.qv_elab_defs.specs.Shapes.{Pair}
use Rattle.qv_elab_defs.specs.Scopes.{Entry, Constant, Synonym, found, sort_key}
use Rattle.qv_elab_defs.specs.Synonyms.{scoped_sort}
use Rattle.qv_elab_defs.specs.Elaborating.{of_sort}
use Rattle.qv_elab_defs.specs.Defining.{elaborate, elaborate_to, read_parameters, elaborate_body, definition}
use Rattle.qv_script_defs.specs.declared.faults.ScriptKind.{ScriptKind}
use Rattle.qv_script_defs.specs.declared.faults.ScriptKind.TheVariants.{Form, Logic, PopBelow, LevelLimit, NoModel, NotSupported, Quantifier, NoCore}
use Rattle.qv_script_defs.specs.Faults.{Fault, demand, shaped, inside}
use Rattle.qv_script_defs.specs.Parts.{list_of, some_of, parameters_of, string_of, count_of, truth_of, asserted_of, spaced}
use Rattle.qv_script_defs.specs.declared.settings.Setting.{Setting}
use Rattle.qv_script_defs.specs.declared.settings.Setting.TheVariants as setting
use Rattle.qv_script_defs.specs.Logics.{is_logic}
use Rattle.qv_script_defs.specs.declared.counts.Counts.{Counts}
use Rattle.qv_script_defs.specs.Settings.{setting_of, standard_output, standard_error}
use Rattle.qv_script_defs.specs.State.{State, Assertion, Level, Last, Sat, Unsat, Unknown, constants, scope_of, changed_at, added, longer, with_entry, with_assertion, with_constant, kept_of, innermost, in_front, popped}
use Rattle.qv_script_defs.specs.Texts.{Info, Fixed, Levels, ReasonUnknown, AllStatistics, infos, info_text, reason_text, unsupported}
use Rattle.qv_script_defs.specs.Moves.{Text, Values, ValueTerm, Move, quiet, fresh, fresh_sort, with_value, set_channel, is_untouched, set_to, declare, define, define_sort, assert, level_limit, check, assumptions, has_model, has_core, value_terms}
use Rattle.qv_script_defs.specs.Commands.{Command, SetLogic, SetOption, SetInfo, DeclareConst, DeclareFun, DefineFun, DefineConst, DefineSort, Assert, Push, Pop, CheckSat, CheckSatAssuming, GetValue, GetModel, GetUnsatCore, GetUnsatAssumptions, GetInfo, GetOption, Echo, ResetAssertions, Reset, Leave, commands, labels_of, step, known, after}
use Rattle.qv_script_transcript.specs.Certificates.{word_of}
use Rattle.qv_script_defs.specs.Labels.{Label, label, labelled}
use Rattle.qv_script_defs.proofs.Labelling.{IsLabelled}
use Rattle.qv_script_transcript.proofs.Lasting.{stays-labelled}
use Rattle.qv_script_transcript.specs.Alike.{AreLast, with_last, AreAlike, MoveAlike}

-- what comes first is the same
alike-behind : {A : Type 0} (r : Result A Fault) (f g : A → Move) → ((a : A) → MoveAlike (f a) (g a)) → MoveAlike (r >>= f) (r >>= g)
alike-behind (Ok a) f g h = h a
alike-behind (Err e) f g h = refl

-- a last answer of the same word
tests-one : (a b : Option Last) → AreLast a b → (has_model a ≡ has_model b) × (has_core a ≡ has_core b)
tests-one None None h = (refl, refl)
tests-one None (Some y) h = absurd cc
tests-one (Some x) None h = absurd cc
tests-one (Some (Sat v)) (Some (Sat w)) h = (refl, refl)
tests-one (Some (Sat v)) (Some Unsat) h = absurd cc
tests-one (Some (Sat v)) (Some (Unknown q)) h = absurd cc
tests-one (Some Unsat) (Some (Sat w)) h = absurd cc
tests-one (Some Unsat) (Some Unsat) h = (refl, refl)
tests-one (Some Unsat) (Some (Unknown q)) h = absurd cc
tests-one (Some (Unknown p)) (Some (Sat w)) h = absurd cc
tests-one (Some (Unknown p)) (Some Unsat) h = absurd cc
tests-one (Some (Unknown p)) (Some (Unknown q)) h = (refl, refl)

-- with one constant more the word is the same
word-longer : (o : Option Last) → option_map word_of (option_map longer o) ≡ option_map word_of o
word-longer None = refl
word-longer (Some (Sat values)) = refl
word-longer (Some Unsat) = refl
word-longer (Some (Unknown spent)) = refl

-- a change of a level leaves the last answer, and doesn't look at it
changed-last : (change : Level → Level) (s : State) (o : List Level) → (changed_at change s o).last ≡ s.last
changed-last change s [] = refl
changed-last change s (level ∷ outer) = refl

changed-apart : (change : Level → Level) (s : State) (l : Option Last) (k : Option Counts) (o : List Level) → with_last None None (changed_at change s o) ≡ with_last None None (changed_at change (with_last l k s) o)
changed-apart change s l k [] = refl
changed-apart change s l k (level ∷ outer) = refl

-- something is added to states that are alike apart from the last answer and the counts
changed-inside : (change : Level → Level) (u : State) (o : List Level) → with_last None None (changed_at change u o) ≡ changed_at change (with_last None None u) o
changed-inside change u [] = refl
changed-inside change u (level ∷ outer) = refl

added-apart : (change : Level → Level) (u v : State) → with_last None None u ≡ with_last None None v → with_last None None (added change u) ≡ with_last None None (added change v)
added-apart change u v e =
    ap (λ (x : State). record x { begun = true }) (changed-inside change u u.opened) ∙ ap (added change) e
    ∙ sym (ap (λ (x : State). record x { begun = true }) (changed-inside change v v.opened))

-- from here on a state s, and the same with another last answer of the same word, and other counts
module _ (s : State) (l : Option Last) (k : Option Counts) (h : AreLast s.last l) where
  abbrev t : State
  t = with_last l k s

  itself : AreAlike s t
  itself = record { apart = refl; last = h }

  -- something is added
  added-alike : (change : Level → Level) → AreAlike (added change s) (added change t)
  added-alike change = record {
    apart = ap (λ (u : State). record u { begun = true }) (changed-apart change s l k s.opened);
    last = ap (option_map word_of) (changed-last change s s.opened) ∙ h ∙ sym (ap (option_map word_of) (changed-last change t s.opened));
  }

  constant-alike : (name : List ℕ) (sort : _) → AreAlike (with_constant name sort s) (with_constant name sort t)
  constant-alike name sort = record {
    apart = (added-alike (λ level. record level { scope = (name, Constant (length (constants s)) sort) ∷ level.scope })).apart;
    last = word-longer s.last ∙ h ∙ sym (word-longer l);
  }

  -- an assertion is added: the last answer is forgotten
  asserted-alike : (a : Assertion) → AreAlike (with_assertion a s) (with_assertion a t)
  asserted-alike a = record {
    apart = ap (λ (u : State). record u { begun = true; assumed = []; terms = None }) (changed-apart (λ level. record level { assertions = level.assertions ++ a ∷ [] }) s l k s.opened);
    last = refl;
  }

  -- and behind it a definition
  named-alike : (a : Assertion) (name : List ℕ) (entry : Entry) → AreAlike (with_entry name entry (with_assertion a s)) (with_entry name entry (with_assertion a t))
  named-alike a name entry =
      let change : Level → Level = λ level. record level { scope = (name, entry) ∷ level.scope } in
      let u = with_assertion a s in
      let v = with_assertion a t in
      record {
        apart = added-apart change u v (asserted-alike a).apart;
        last = ap (option_map word_of) (changed-last change u u.opened) ∙ sym (ap (option_map word_of) (changed-last change v v.opened));
      }

  popped-alike : (n : ℕ) → AreAlike (popped n s) (popped n t)
  popped-alike n = record {
    apart = ap (λ (u : State). record u { assumed = []; terms = None }) (changed-apart (in_front (kept_of s.global (innermost n s))) (record s { opened = drop n s.opened }) l k (drop n s.opened));
    last = refl;
  }

  assumptions-one : (es : List Expr) → assumptions s es ≡ assumptions t es
  assumptions-one [] = refl
  assumptions-one (e ∷ es) =
      ap (λ (r : Result (List Tree) Fault). inside (elaborate_to (scope_of s) BoolSort e) >>= λ u. r >>= λ us. Ok (u ∷ us)) (assumptions-one es)

  values-one : (es : List Expr) → value_terms s es ≡ value_terms t es
  values-one [] = refl
  values-one (e ∷ es) =
      ap (λ (r : Result (List ValueTerm) Fault). inside (elaborate (scope_of s) e) >>= λ u. demand (place_of e) Quantifier (not (is_quantified u)) >>= λ _. r >>= λ us. Ok (record { text = spaced e; tree = u } ∷ us)) (values-one es)

  alike-channel : (p : ℕ) (key : List ℕ) (value : Expr) (channels : List (List ℕ)) → MoveAlike (set_channel p s key value channels) (set_channel p t key value channels)
  alike-channel p key value channels = alike-behind (shaped p (string_of value)) _ _ (λ text. go (list_any (bytes_eq text) channels))
    where
      go : (b : Bool) → MoveAlike (cond b (quiet (with_value key value s)) (Ok (s, Text unsupported))) (cond b (quiet (with_value key value t)) (Ok (t, Text unsupported)))
      go true = (record { apart = refl; last = h }, refl)
      go false = (itself, tt)

  alike-set_to : (p : ℕ) (key : List ℕ) (value : Expr) (o : Option Setting) → MoveAlike (set_to p s key value o) (set_to p t key value o)
  alike-set_to p key value (Some setting.Success) = alike-behind (shaped p (truth_of value)) _ _ (λ b. (record { apart = refl; last = h }, refl))
  alike-set_to p key value (Some setting.Global) =
      alike-behind (shaped p (truth_of value)) _ _ (λ b. alike-behind (demand p Form (is_untouched s)) _ _ (λ _. (record { apart = refl; last = h }, refl)))
  alike-set_to p key value (Some setting.Truth) = alike-behind (shaped p (truth_of value)) _ _ (λ _. (record { apart = refl; last = h }, refl))
  alike-set_to p key value (Some setting.Numeral) = alike-behind (shaped p (numeral_of value)) _ _ (λ _. (record { apart = refl; last = h }, refl))
  alike-set_to p key value (Some setting.Answers) = alike-channel p key value (standard_output ∷ [])
  alike-set_to p key value (Some setting.Diagnostics) = alike-channel p key value (standard_output ∷ standard_error ∷ [])
  alike-set_to p key value (Some setting.Foreign) = (record { apart = refl; last = h }, refl)
  alike-set_to p key value None = (itself, tt)

  alike-declare : (p : ℕ) (name : List ℕ) (sort : Expr) → MoveAlike (declare p s name sort) (declare p t name sort)
  alike-declare p name sort = alike-behind (fresh p s name) _ _ (λ _. alike-behind (inside (scoped_sort (scope_of s) sort)) _ _ (λ x. (constant-alike name x, refl)))

  alike-define : (p : ℕ) (name : List ℕ) (ps : List Pair) (sort body : Expr) → MoveAlike (define p s name ps sort body) (define p t name ps sort body)
  alike-define p name ps sort body =
      alike-behind (fresh p s name) _ _ (λ _. alike-behind (inside (read_parameters (scope_of s) ps [])) _ _ (λ xs. alike-behind (inside (scoped_sort (scope_of s) sort)) _ _ (λ x.
      alike-behind (inside (elaborate_body (scope_of s) xs x body)) _ _ (λ _. (added-alike (λ level. record level { scope = (name, definition (scope_of s) xs body) ∷ level.scope }), refl)))))

  alike-define_sort : (p : ℕ) (name : List ℕ) (sort : Expr) → MoveAlike (define_sort p s name sort) (define_sort p t name sort)
  alike-define_sort p name sort =
      alike-behind (fresh_sort p s name) _ _ (λ _. alike-behind (inside (scoped_sort (scope_of s) sort)) _ _ (λ x.
      (added-alike (λ level. record level { scope = (sort_key name, Synonym x) ∷ level.scope }), refl)))

  alike-assert : (p : ℕ) (whole : Expr) (name : Option (List ℕ)) (term : Expr) → MoveAlike (assert p s whole name term) (assert p t whole name term)
  alike-assert p whole (Some name) term =
      alike-behind (fresh p s name) _ _ (λ _. alike-behind (inside (elaborate (scope_of s) term >>= of_sort BoolSort (place_of whole))) _ _
      (λ u. (named-alike (record { tree = u; name = Some name }) name (definition (scope_of s) [] term), refl)))
  alike-assert p whole None term = alike-behind (inside (elaborate_to (scope_of s) BoolSort whole)) _ _ (λ u. (asserted-alike (record { tree = u; name = None }), refl))

  alike-reason : (p : ℕ) (a b : Option Last) → AreLast a b → MoveAlike (reason_text p a >>= λ text. Ok (s, Text text)) (reason_text p b >>= λ text. Ok (t, Text text))
  alike-reason p None None k = refl
  alike-reason p None (Some y) k = absurd cc
  alike-reason p (Some x) None k = absurd cc
  alike-reason p (Some (Sat v)) (Some (Sat w)) k = refl
  alike-reason p (Some Unsat) (Some Unsat) k = refl
  alike-reason p (Some (Unknown x)) (Some (Unknown y)) k = (itself, tt)
  alike-reason p (Some x) (Some y) k = absurd cc

  alike-info : (p : ℕ) (key : List ℕ) (info : Option Info) → MoveAlike (info_text p s key info >>= λ text. Ok (s, Text text)) (info_text p t key info >>= λ text. Ok (t, Text text))
  alike-info p key None = (itself, tt)
  alike-info p key (Some (Fixed text)) = (itself, tt)
  alike-info p key (Some Levels) = (itself, tt)
  alike-info p key (Some ReasonUnknown) = alike-reason p s.last l h
  alike-info p key (Some AllStatistics) = (itself, tt)

  -- a test of the last answer, and what comes behind it
  alike-tested : (p : ℕ) (kind : ScriptKind) (x y : Bool) → x ≡ y → (f g : Unit {0} → Move) → ((u : Unit {0}) → MoveAlike (f u) (g u)) → MoveAlike (demand p kind x >>= f) (demand p kind y >>= g)
  alike-tested p kind x y e f g k = subst (λ (b : Bool). MoveAlike (demand p kind x >>= f) (demand p kind b >>= g)) e (alike-behind (demand p kind x) f g k)

  alike-step : (command : Command) (p : ℕ) (args : List Expr) → MoveAlike (step command p args s) (step command p args t)
  alike-step SetLogic p (x ∷ []) = alike-behind (shaped p (symbol_of x)) _ _ (λ name.
      alike-behind (demand p Logic (not s.logic && not s.begun && is_logic name)) _ _ (λ _. (record { apart = refl; last = h }, refl)))
  alike-step SetOption p (k ∷ v ∷ []) = alike-behind (shaped p (keyword_of k)) _ _ (λ key. alike-set_to p key v (setting_of key))
  alike-step SetInfo p (k ∷ []) = alike-behind (shaped p (keyword_of k)) _ _ (λ _. (itself, refl))
  alike-step SetInfo p (k ∷ v ∷ []) = alike-behind (shaped p (keyword_of k)) _ _ (λ _. (itself, refl))
  alike-step DeclareConst p (x ∷ sort ∷ []) = alike-behind (shaped p (symbol_of x)) _ _ (λ name. alike-declare p name sort)
  alike-step DeclareFun p (x ∷ arguments ∷ sort ∷ []) =
      alike-behind (shaped p (symbol_of x)) _ _ (λ name. alike-behind (shaped p (list_of arguments)) _ _ (λ sorts. alike-behind (demand p NotSupported (is_none (some_of (Some sorts)))) _ _ (λ _. alike-declare p name sort)))
  alike-step DefineFun p (f ∷ parameters ∷ sort ∷ b ∷ []) =
      alike-behind (shaped p (symbol_of f)) _ _ (λ name. alike-behind (shaped p (parameters_of parameters)) _ _ (λ pairs. alike-define p name pairs sort b))
  alike-step DefineConst p (f ∷ sort ∷ b ∷ []) = alike-behind (shaped p (symbol_of f)) _ _ (λ name. alike-define p name [] sort b)
  alike-step DefineSort p (x ∷ parameters ∷ sort ∷ []) =
      alike-behind (shaped p (symbol_of x)) _ _ (λ name. alike-behind (shaped p (list_of parameters)) _ _ (λ names. alike-behind (demand p NotSupported (is_none (some_of (Some names)))) _ _ (λ _. alike-define_sort p name sort)))
  alike-step Assert p (b ∷ []) = alike-assert p b (asserted_of b).name (asserted_of b).term
  alike-step Push p ns = alike-behind (count_of p ns) _ _ (λ n. alike-behind (demand p LevelLimit (nat_le (length s.opened + n) level_limit)) _ _ (λ _. (record { apart = refl; last = refl }, refl)))
  alike-step Pop p ns = alike-behind (count_of p ns) _ _ (λ n. alike-behind (demand p PopBelow (nat_le n (length s.opened))) _ _ (λ _. (popped-alike n, refl)))
  alike-step CheckSat p [] = (record { apart = refl; last = refl }, refl)
  alike-step CheckSatAssuming p (ts ∷ []) = alike-behind (shaped p (list_of ts)) _ _ (λ terms.
      subst (λ (r : Result (List Tree) Fault). MoveAlike (assumptions s terms >>= check s (Some (map spaced terms))) (r >>= check t (Some (map spaced terms)))) (assumptions-one terms)
      (alike-behind (assumptions s terms) (check s (Some (map spaced terms))) (check t (Some (map spaced terms))) (λ trees. (record { apart = refl; last = refl }, refl))))
  alike-step GetValue p (ts ∷ []) = alike-behind (shaped p (some_of (list_of ts))) _ _ (λ terms. alike-tested p NoModel (has_model s.last) (has_model l) (tests-one s.last l h).0 _ _ (λ _.
      subst (λ (r : Result (List ValueTerm) Fault). MoveAlike (value_terms s terms >>= λ values. Ok (s, Values values)) (r >>= λ values. Ok (t, Values values))) (values-one terms)
      (alike-behind (value_terms s terms) _ _ (λ values. (itself, refl)))))
  alike-step GetModel p [] = alike-tested p NoModel (has_model s.last) (has_model l) (tests-one s.last l h).0 _ _ (λ _. (itself, refl))
  alike-step GetUnsatCore p [] = alike-tested p NoCore (has_core s.last) (has_core l) (tests-one s.last l h).1 _ _ (λ _. (itself, refl))
  alike-step GetUnsatAssumptions p [] = alike-tested p NoCore (has_core s.last && is_some s.terms) (has_core l && is_some s.terms) (ap (λ b. b && is_some s.terms) (tests-one s.last l h).1) _ _ (λ _. (itself, refl))
  alike-step GetInfo p (k ∷ []) = alike-behind (shaped p (keyword_of k)) _ _ (λ key. alike-info p key (found key infos))
  alike-step GetOption p (k ∷ []) = alike-behind (shaped p (keyword_of k)) _ _ (λ key. (itself, tt))
  alike-step Echo p (e ∷ []) = alike-behind (shaped p (string_of e)) _ _ (λ text. (itself, tt))
  alike-step ResetAssertions p [] = (record { apart = refl; last = refl }, refl)
  alike-step Reset p [] = (record { apart = refl; last = refl }, refl)
  alike-step Leave p [] = (itself, refl)
  alike-step _ p _ = refl

-- definitions leave the last answer and what was counted
entry-moved : (name : List ℕ) (entry : Entry) (s : State) (l : Option Last) (k : Option Counts) → with_entry name entry (with_last l k s) ≡ with_last l k (with_entry name entry s)
entry-moved name entry s l k = go s.opened
  where
    go : (o : List Level) → ◌≡◌ {A = State} (record (changed_at (λ level. record level { scope = (name, entry) ∷ level.scope }) (with_last l k s) o) { begun = true }) (with_last l k (record (changed_at (λ level. record level { scope = (name, entry) ∷ level.scope }) s o) { begun = true }))
    go [] = refl
    go (level ∷ outer) = refl

-- what is given, with another last answer and other counts
abbrev moved : Option Last → Option Counts → Result State Fault → Result State Fault
moved l k r = r >>= λ now. Ok (with_last l k now)

label-moved : (p : ℕ) (s : State) (l : Option Last) (k : Option Counts) (x : Label) → label p (with_last l k s) x ≡ moved l k (label p s x)
label-moved p s l k x = go (fresh p s x.name) (inside (elaborate (scope_of s) x.term))
  where
    go : (a : Result (Unit {0}) Fault) (b : Result Tree Fault) →
        (a >>= λ _. b >>= λ _. Ok (with_entry x.name (definition (scope_of s) [] x.term) (with_last l k s))) ≡ moved l k (a >>= λ _. b >>= λ _. Ok (with_entry x.name (definition (scope_of s) [] x.term) s))
    go (Err f) b = refl
    go (Ok u) (Err f) = refl
    go (Ok u) (Ok t) = ap Ok (entry-moved x.name (definition (scope_of s) [] x.term) s l k)

labelled-moved : (p : ℕ) (ls : List Label) (s : State) (l : Option Last) (k : Option Counts) → labelled p ls (with_last l k s) ≡ moved l k (labelled p ls s)
labelled-moved p [] s l k = refl
labelled-moved p (x ∷ ls) s l k = ap (λ (r : Result State Fault). r >>= labelled p ls) (label-moved p s l k x) ∙ go (label p s x) (λ now. labelled-moved p ls now l k)
  where
    go : (r : Result State Fault) → ((now : State) → labelled p ls (with_last l k now) ≡ moved l k (labelled p ls now)) → (moved l k r >>= labelled p ls) ≡ moved l k (r >>= labelled p ls)
    go (Ok now) h = h now
    go (Err f) h = refl

alike-commanded : (s : State) (l : Option Last) (k : Option Counts) → AreLast s.last l → (command : Command) (p : ℕ) (args : List Expr) (r : Result State Fault) → IfOk r (IsLabelled s) →
    MoveAlike (r >>= λ now. step command p args now) (moved l k r >>= λ now. step command p args now)
alike-commanded s l k h command p args (Ok now) m = alike-step now l k (subst (λ (o : Option Last). AreLast o l) (sym m.last) h) command p args
alike-commanded s l k h command p args (Err f) m = refl

pub alike-after : (s : State) (l : Option Last) (k : Option Counts) → AreLast s.last l → (e : Expr) → MoveAlike (after s e) (after (with_last l k s) e)
alike-after s l k h (atom x) = refl
alike-after s l k h (list place none close) = refl
alike-after s l k h (list place (also first arguments) close) =
    alike-behind (known place (option_and_then (λ name. found name commands) (symbol_of first))) _ _ (λ command.
    alike-behind (labels_of command (items arguments)) _ _ (λ labels.
    subst (λ (r : Result State Fault). MoveAlike (labelled place labels s >>= λ now. step command place (items arguments) now) (r >>= λ now. step command place (items arguments) now)) (sym (labelled-moved place labels s l k))
    (alike-commanded s l k h command place (items arguments) (labelled place labels s) (stays-labelled place labels s))))
