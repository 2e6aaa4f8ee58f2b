-- The last answer stays, with the constants and what it was given for, or is forgotten; values are
-- asked for only where it is sat, cores where it is unsat; and a check leaves the scope.
use Rattle.std.proofs.Common.{◌≡◌, ℕ, ◌⊎◌, inl, inr, ◌+◌, ◌&&◌, not, Bool, true, false, cond, Option, Some, None, Ok, List, [], ◌∷◌, ◌++◌, map, length, refl, sym, ap, ◌∙◌}
use Rattle.std.proofs.lemmas.List.{append-nil}
use Rattle.std.specs.Prelude.{IfOk, nat_le, is_some, is_none, option_map, option_and_then}
use Rattle.std.specs.List.{list_any}
use Rattle.std.specs.Str.{bytes_eq}
use Rattle.qv_sexpr.specs.Script.{atom, list, none, also}
use Rattle.qv_sexpr.specs.Script.{Tree as Expr}
use Rattle.qv_words.specs.declared.sort.Sort.{Sort}
use Rattle.qv_words.specs.declared.sort.Sort.TheVariants.{Bool as BoolSort}
use Rattle.qv_words.specs.Tree.{Tree}
use Rattle.qv_elab_defs.specs.Faults.{◌>>=◌}
use Rattle.qv_elab_defs.specs.Tokens.{place_of, items, symbol_of, keyword_of, numeral_of}
use Rattle.qv_elab_defs.specs.Shapes.{Pair}
use Rattle.qv_elab_defs.specs.Scopes.{Entry, Constant, Synonym, Named, constants_of, found, sort_key}
use Rattle.qv_elab_defs.specs.Synonyms.{scoped_sort}
use Rattle.qv_elab_defs.specs.Elaborating.{of_sort}
use Rattle.qv_elab_defs.specs.Defining.{elaborate, elaborate_to, read_parameters, elaborate_body, definition}
use Rattle.qv_elab_defs.proofs.OpenApplied.{ok-bind, ok-behind}
use Rattle.qv_script_defs.specs.declared.faults.ScriptKind.TheVariants.{Form, Logic, PopBelow, LevelLimit, NoModel, NotSupported, NoCore}
use Rattle.qv_script_defs.specs.Faults.{demand, shaped, inside}
use Rattle.qv_script_defs.specs.Parts.{list_of, some_of, parameters_of, string_of, count_of, truth_of, asserted_of, spaced}
use Rattle.qv_script_defs.specs.declared.settings.Setting.{Setting}
use Rattle.qv_script_defs.specs.declared.settings.Setting.TheVariants as setting
use Rattle.qv_script_defs.specs.Logics.{is_logic}
use Rattle.qv_script_defs.specs.Settings.{setting_of, option_text, standard_output, standard_error}
use Rattle.qv_script_defs.specs.State.{State, Level, constants, scope_of, last_checked, named_in_force, terms_behind, changed_at, longer, with_entry, with_assertion, with_constant, pushed, popped}
use Rattle.qv_script_defs.specs.Texts.{line, infos, info_text, unsupported}
use Rattle.qv_script_defs.specs.Moves.{Effect, Text, Check, Values, Whole, Core, has_core, symbols_of, quiet, fresh, fresh_sort, with_value, set_channel, is_untouched, set_to, set_option, set_logic, declare, define, define_sort, assert, level_limit, push, pop, check, assumptions, has_model, value_terms}
use Rattle.qv_script_defs.specs.Commands.{Command, SetLogic, SetOption, SetInfo, DeclareConst, DeclareFun, DefineFun, DefineConst, DefineSort, Assert, Push, Pop, CheckSat, CheckSatAssuming, GetValue, GetModel, GetUnsatCore, GetUnsatAssumptions, GetInfo, GetOption, Echo, ResetAssertions, Reset, Leave, commands, labels_of, behind_labels, commanded, step, known, after}
use Rattle.qv_script_defs.proofs.Steady.{scope_of_levels, on_first, levels-changed}
use Rattle.qv_script_defs.proofs.Commanding.{ok-demand}
use Rattle.qv_script_defs.specs.Labels.{Label, label, labelled}
use Rattle.qv_script_defs.proofs.Labelling.{ok-weaker, IsLabelled, labelled-itself, labelled-more, definition-labelled, entry-checked}

-- where values and cores are asked for, and at a check
abbrev pub IfAsked : State → State × Effect → Type 0
IfAsked s (now, Values terms) = IsLabelled s now × (has_model s.last ≡ true)
IfAsked s (now, Whole) = IsLabelled s now × (has_model s.last ≡ true)
IfAsked s (now, Core trees named) = IsLabelled s now × (has_core s.last ≡ true) × (trees ≡ last_checked now)
IfAsked s (now, Check formulas) = (constants now ≡ constants s) × (formulas ≡ last_checked now)
IfAsked s _ = Unit {0}

-- the answer has the value 0 for one constant more
pub record IsLonger (s now : State) : Type 0 where
  pub own : List ℕ × Sort
  pub last : now.last ≡ option_map longer s.last
  pub constants : constants now ≡ constants s ++ own ∷ []
  pub checked : last_checked now ≡ last_checked s

-- it is forgotten, or stays, with the constants and what it was given for, or has one constant more
abbrev pub IsKept : State → State → Type 0
IsKept s now = (now.last ≡ None) ⊎ (((now.last ≡ s.last) × (constants now ≡ constants s) × (last_checked now ≡ last_checked s)) ⊎ IsLonger s now)

-- the first of two
both-true : (a b : Bool) → (a && b) ≡ true → a ≡ true
both-true true b h = refl
both-true false b h = h

-- what a command leaves of the last answer
abbrev pub Lasts : State → State × Effect → Type 0
Lasts s r = IsKept s r.0 × IfAsked s r

-- options
module _ (p : ℕ) (s : State) (key : List ℕ) (value : Expr) where
  stays-channel : (channels : List (List ℕ)) → IfOk (set_channel p s key value channels) (Lasts s)
  stays-channel channels =
      ok-behind (shaped p (string_of value)) (λ text. cond (list_any (bytes_eq text) channels) (quiet (with_value key value s)) (Ok (s, Text unsupported))) (Lasts s)
      (λ text. go (list_any (bytes_eq text) channels))
    where
      go : (b : Bool) → IfOk (cond b (quiet (with_value key value s)) (Ok (s, Text unsupported))) (Lasts s)
      go true = (inr (inl (refl, refl, refl)), tt)
      go false = (inr (inl (refl, refl, refl)), tt)

  stays-set_to : (o : Option Setting) → IfOk (set_to p s key value o) (Lasts s)
  stays-set_to (Some setting.Success) = ok-behind (shaped p (truth_of value)) (λ b. quiet (record (with_value key value s) { success = b })) (Lasts s) (λ b. (inr (inl (refl, refl, refl)), tt))
  stays-set_to (Some setting.Global) =
      ok-behind (shaped p (truth_of value)) (λ b. demand p Form (is_untouched s) >>= λ _. quiet (record (with_value key value s) { global = b })) (Lasts s)
      (λ b. ok-behind (demand p Form (is_untouched s)) (λ _. quiet (record (with_value key value s) { global = b })) (Lasts s) (λ _. (inr (inl (refl, refl, refl)), tt)))
  stays-set_to (Some setting.Truth) = ok-behind (shaped p (truth_of value)) (λ _. quiet (with_value key value s)) (Lasts s) (λ _. (inr (inl (refl, refl, refl)), tt))
  stays-set_to (Some setting.Numeral) = ok-behind (shaped p (numeral_of value)) (λ _. quiet (with_value key value s)) (Lasts s) (λ _. (inr (inl (refl, refl, refl)), tt))
  stays-set_to (Some setting.Answers) = stays-channel (standard_output ∷ [])
  stays-set_to (Some setting.Diagnostics) = stays-channel (standard_output ∷ standard_error ∷ [])
  stays-set_to (Some setting.Foreign) = (inr (inl (refl, refl, refl)), tt)
  stays-set_to None = (inr (inl (refl, refl, refl)), tt)

  stays-set_option : IfOk (set_option p s key value) (Lasts s)
  stays-set_option = stays-set_to (setting_of key)

-- an entry more
front-first : (x : List ℕ × Entry) (o : List Level) (b : Level) → scope_of_levels (on_first (λ level. record level { scope = x ∷ level.scope }) (o ++ b ∷ [])) ≡ x ∷ scope_of_levels (o ++ b ∷ [])
front-first x [] b = refl
front-first x (l ∷ o) b = refl

entry-scope : (name : List ℕ) (entry : Entry) (s : State) → scope_of (with_entry name entry s) ≡ (name, entry) ∷ scope_of s
entry-scope name entry s = ap scope_of_levels (levels-changed (λ level. record level { scope = (name, entry) ∷ level.scope }) s) ∙ front-first (name, entry) s.opened s.bottom

entry-last : (change : Level → Level) (s : State) (o : List Level) → (changed_at change s o).last ≡ s.last
entry-last change s [] = refl
entry-last change s (l ∷ o) = refl

declared-longer : (name : List ℕ) (sort : Sort) (s : State) → IsLonger s (with_constant name sort s)
declared-longer name sort s = record {
  own = (name, sort);
  last = refl;
  constants = ap constants_of (entry-scope name (Constant (length (constants s)) sort) s);
  checked = entry-checked name (Constant (length (constants s)) sort) s;
}

stays-declare : (p : ℕ) (s : State) (name : List ℕ) (sort : Expr) → IfOk (declare p s name sort) (Lasts s)
stays-declare p s name sort =
    ok-behind (fresh p s name) (λ _. inside (scoped_sort (scope_of s) sort) >>= λ sort. quiet (with_constant name sort s)) (Lasts s)
    (λ _. ok-behind (inside (scoped_sort (scope_of s) sort)) (λ sort. quiet (with_constant name sort s)) (Lasts s) (λ sort. (inr (inr (declared-longer name sort s)), tt)))

stays-define : (p : ℕ) (s : State) (name : List ℕ) (ps : List Pair) (sort body : Expr) → IfOk (define p s name ps sort body) (Lasts s)
stays-define p s name ps sort body =
    ok-behind (fresh p s name) (λ _. inside (read_parameters (scope_of s) ps []) >>= λ xs. inside (scoped_sort (scope_of s) sort) >>= λ sort. inside (elaborate_body (scope_of s) xs sort body) >>= λ _. quiet (with_entry name (definition (scope_of s) xs body) s)) (Lasts s)
    (λ _. ok-behind (inside (read_parameters (scope_of s) ps [])) (λ xs. inside (scoped_sort (scope_of s) sort) >>= λ sort. inside (elaborate_body (scope_of s) xs sort body) >>= λ _. quiet (with_entry name (definition (scope_of s) xs body) s)) (Lasts s)
    (λ xs. ok-behind (inside (scoped_sort (scope_of s) sort)) (λ sort. inside (elaborate_body (scope_of s) xs sort body) >>= λ _. quiet (with_entry name (definition (scope_of s) xs body) s)) (Lasts s)
    (λ sort. ok-behind (inside (elaborate_body (scope_of s) xs sort body)) (λ _. quiet (with_entry name (definition (scope_of s) xs body) s)) (Lasts s) (λ _. (inr (inl (kept xs)), tt)))))
  where
    kept : (xs : Named Sort) → ((with_entry name (definition (scope_of s) xs body) s).last ≡ s.last) × (constants (with_entry name (definition (scope_of s) xs body) s) ≡ constants s) × (last_checked (with_entry name (definition (scope_of s) xs body) s) ≡ last_checked s)
    kept xs =
        let d = definition (scope_of s) xs body in
        (entry-last (λ level. record level { scope = (name, d) ∷ level.scope }) s s.opened, ap constants_of (entry-scope name d s) ∙ append-nil (constants s), entry-checked name d s)

stays-define_sort : (p : ℕ) (s : State) (name : List ℕ) (sort : Expr) → IfOk (define_sort p s name sort) (Lasts s)
stays-define_sort p s name sort =
    ok-behind (fresh_sort p s name) (λ _. inside (scoped_sort (scope_of s) sort) >>= λ sort. quiet (with_entry (sort_key name) (Synonym sort) s)) (Lasts s)
    (λ _. ok-behind (inside (scoped_sort (scope_of s) sort)) (λ sort. quiet (with_entry (sort_key name) (Synonym sort) s)) (Lasts s) (λ sort. (inr (inl (kept sort)), tt)))
  where
    kept : (sort : Sort) → ((with_entry (sort_key name) (Synonym sort) s).last ≡ s.last) × (constants (with_entry (sort_key name) (Synonym sort) s) ≡ constants s) × (last_checked (with_entry (sort_key name) (Synonym sort) s) ≡ last_checked s)
    kept sort = (entry-last (λ level. record level { scope = (sort_key name, Synonym sort) ∷ level.scope }) s s.opened, ap constants_of (entry-scope (sort_key name) (Synonym sort) s) ∙ append-nil (constants s), entry-checked (sort_key name) (Synonym sort) s)

named-last : (s : State) (name : List ℕ) (term : Expr) (t : Tree) → (with_entry name (definition (scope_of s) [] term) (with_assertion (record { tree = t; name = Some name }) s)).last ≡ None
named-last s name term t =
    let asserted = with_assertion (record { tree = t; name = Some name }) s in
    entry-last (λ level. record level { scope = (name, definition (scope_of s) [] term) ∷ level.scope }) asserted asserted.opened

stays-assert : (p : ℕ) (s : State) (whole : Expr) (name : Option (List ℕ)) (term : Expr) → IfOk (assert p s whole name term) (Lasts s)
stays-assert p s whole (Some name) term =
    ok-behind (fresh p s name) (λ _. inside (elaborate (scope_of s) term >>= of_sort BoolSort (place_of whole)) >>= λ t. quiet (with_entry name (definition (scope_of s) [] term) (with_assertion (record { tree = t; name = Some name }) s))) (Lasts s)
    (λ _. ok-behind (inside (elaborate (scope_of s) term >>= of_sort BoolSort (place_of whole))) (λ t. quiet (with_entry name (definition (scope_of s) [] term) (with_assertion (record { tree = t; name = Some name }) s))) (Lasts s) (λ t. (inl (named-last s name term t), tt)))
stays-assert p s whole None term =
    ok-behind (inside (elaborate_to (scope_of s) BoolSort whole)) (λ t. quiet (with_assertion (record { tree = t; name = None }) s)) (Lasts s) (λ t. (inl refl, tt))

stays-step : (command : Command) (p : ℕ) (args : List Expr) (s : State) → IfOk (step command p args s) (Lasts s)
stays-step SetLogic p (l ∷ []) s =
    ok-behind (shaped p (symbol_of l)) (λ name. set_logic p s name) (Lasts s)
    (λ name. ok-behind (demand p Logic (not s.logic && not s.begun && is_logic name)) (λ _. quiet (record s { logic = true })) (Lasts s) (λ _. (inr (inl (refl, refl, refl)), tt)))
stays-step SetOption p (k ∷ v ∷ []) s = ok-behind (shaped p (keyword_of k)) (λ key. set_option p s key v) (Lasts s) (λ key. stays-set_option p s key v)
stays-step SetInfo p (k ∷ []) s = ok-behind (shaped p (keyword_of k)) (λ _. quiet s) (Lasts s) (λ _. (inr (inl (refl, refl, refl)), tt))
stays-step SetInfo p (k ∷ v ∷ []) s = ok-behind (shaped p (keyword_of k)) (λ _. quiet s) (Lasts s) (λ _. (inr (inl (refl, refl, refl)), tt))
stays-step DeclareConst p (x ∷ sort ∷ []) s = ok-behind (shaped p (symbol_of x)) (λ name. declare p s name sort) (Lasts s) (λ name. stays-declare p s name sort)
stays-step DeclareFun p (x ∷ arguments ∷ sort ∷ []) s =
    ok-behind (shaped p (symbol_of x)) (λ name. shaped p (list_of arguments) >>= λ sorts. demand p NotSupported (is_none (some_of (Some sorts))) >>= λ _. declare p s name sort) (Lasts s)
    (λ name. ok-behind (shaped p (list_of arguments)) (λ sorts. demand p NotSupported (is_none (some_of (Some sorts))) >>= λ _. declare p s name sort) (Lasts s)
    (λ sorts. ok-behind (demand p NotSupported (is_none (some_of (Some sorts)))) (λ _. declare p s name sort) (Lasts s) (λ _. stays-declare p s name sort)))
stays-step DefineFun p (f ∷ parameters ∷ sort ∷ t ∷ []) s =
    ok-behind (shaped p (symbol_of f)) (λ name. shaped p (parameters_of parameters) >>= λ pairs. define p s name pairs sort t) (Lasts s)
    (λ name. ok-behind (shaped p (parameters_of parameters)) (λ pairs. define p s name pairs sort t) (Lasts s) (λ pairs. stays-define p s name pairs sort t))
stays-step DefineConst p (f ∷ sort ∷ t ∷ []) s = ok-behind (shaped p (symbol_of f)) (λ name. define p s name [] sort t) (Lasts s) (λ name. stays-define p s name [] sort t)
stays-step DefineSort p (x ∷ parameters ∷ sort ∷ []) s =
    ok-behind (shaped p (symbol_of x)) (λ name. shaped p (list_of parameters) >>= λ names. demand p NotSupported (is_none (some_of (Some names))) >>= λ _. define_sort p s name sort) (Lasts s)
    (λ name. ok-behind (shaped p (list_of parameters)) (λ names. demand p NotSupported (is_none (some_of (Some names))) >>= λ _. define_sort p s name sort) (Lasts s)
    (λ names. ok-behind (demand p NotSupported (is_none (some_of (Some names)))) (λ _. define_sort p s name sort) (Lasts s) (λ _. stays-define_sort p s name sort)))
stays-step Assert p (t ∷ []) s = stays-assert p s t (asserted_of t).name (asserted_of t).term
stays-step Push p ns s =
    ok-behind (count_of p ns) (λ n. push p s n) (Lasts s)
    (λ n. ok-behind (demand p LevelLimit (nat_le (length s.opened + n) level_limit)) (λ _. quiet (pushed n s)) (Lasts s) (λ _. (inl refl, tt)))
stays-step Pop p ns s =
    ok-behind (count_of p ns) (λ n. pop p s n) (Lasts s)
    (λ n. ok-behind (demand p PopBelow (nat_le n (length s.opened))) (λ _. quiet (popped n s)) (Lasts s) (λ _. (inl refl, tt)))
stays-step CheckSat p [] s = (inl refl, (refl, refl))
stays-step CheckSatAssuming p (ts ∷ []) s =
    ok-behind (shaped p (list_of ts)) (λ terms. assumptions s terms >>= check s (Some (map spaced terms))) (Lasts s)
    (λ terms. ok-behind (assumptions s terms) (check s (Some (map spaced terms))) (Lasts s) (λ trees. (inl refl, (refl, refl))))
stays-step GetValue p (ts ∷ []) s =
    ok-behind (shaped p (some_of (list_of ts))) (λ terms. demand p NoModel (has_model s.last) >>= λ _. value_terms s terms >>= λ values. Ok (s, Values values)) (Lasts s)
    (λ terms. ok-bind (demand p NoModel (has_model s.last)) (λ _. value_terms s terms >>= λ values. Ok (s, Values values)) (λ _. has_model s.last ≡ true) (Lasts s) (ok-demand p NoModel (has_model s.last))
    (λ _ there. ok-behind (value_terms s terms) (λ values. Ok (s, Values values)) (Lasts s) (λ values. (inr (inl (refl, refl, refl)), (labelled-itself s, there)))))
stays-step GetModel p [] s =
    ok-bind (demand p NoModel (has_model s.last)) (λ _. Ok (s, Whole)) (λ _. has_model s.last ≡ true) (Lasts s) (ok-demand p NoModel (has_model s.last))
    (λ _ there. (inr (inl (refl, refl, refl)), (labelled-itself s, there)))
stays-step GetUnsatCore p [] s =
    ok-bind (demand p NoCore (has_core s.last)) (λ _. Ok (s, Core (last_checked s) (symbols_of (named_in_force s)))) (λ _. has_core s.last ≡ true) (Lasts s) (ok-demand p NoCore (has_core s.last))
    (λ _ there. (inr (inl (refl, refl, refl)), (labelled-itself s, there, refl)))
stays-step GetUnsatAssumptions p [] s =
    ok-bind (demand p NoCore (has_core s.last && is_some s.terms)) (λ _. Ok (s, Core (last_checked s) (terms_behind s s.terms))) (λ _. (has_core s.last && is_some s.terms) ≡ true) (Lasts s) (ok-demand p NoCore (has_core s.last && is_some s.terms))
    (λ _ there. (inr (inl (refl, refl, refl)), (labelled-itself s, both-true (has_core s.last) (is_some s.terms) there, refl)))
stays-step GetInfo p (k ∷ []) s =
    ok-behind (shaped p (keyword_of k)) (λ key. info_text p s key (found key infos) >>= λ text. Ok (s, Text text)) (Lasts s)
    (λ key. ok-behind (info_text p s key (found key infos)) (λ text. Ok (s, Text text)) (Lasts s) (λ text. (inr (inl (refl, refl, refl)), tt)))
stays-step GetOption p (k ∷ []) s = ok-behind (shaped p (keyword_of k)) (λ key. Ok (s, Text (option_text s key))) (Lasts s) (λ key. (inr (inl (refl, refl, refl)), tt))
stays-step Echo p (e ∷ []) s = ok-behind (shaped p (string_of e)) (λ text. Ok (s, Text (line text))) (Lasts s) (λ text. (inr (inl (refl, refl, refl)), tt))
stays-step ResetAssertions p [] s = (inl refl, tt)
stays-step Reset p [] s = (inl refl, tt)
stays-step Leave p [] s = (inr (inl (refl, refl, refl)), tt)
stays-step _ p _ s = tt

-- definitions of terms with names
stays-label : (p : ℕ) (s : State) (l : Label) → IfOk (label p s l) (IsLabelled s)
stays-label p s l =
    ok-behind (fresh p s l.name) (λ _. inside (elaborate (scope_of s) l.term) >>= λ _. Ok (with_entry l.name (definition (scope_of s) [] l.term) s)) (IsLabelled s)
    (λ _. ok-behind (inside (elaborate (scope_of s) l.term)) (λ _. Ok (with_entry l.name (definition (scope_of s) [] l.term) s)) (IsLabelled s) (λ _. definition-labelled l.name l.term s))

pub stays-labelled : (p : ℕ) (ls : List Label) (s : State) → IfOk (labelled p ls s) (IsLabelled s)
stays-labelled p [] s = labelled-itself s
stays-labelled p (l ∷ ls) s =
    ok-bind (label p s l) (labelled p ls) (IsLabelled s) (IsLabelled s) (stays-label p s l)
    (λ now k. ok-weaker (labelled p ls now) (IsLabelled now) (IsLabelled s) (λ end m. labelled-more s now end k m) (stays-labelled p ls now))

-- what a command behind them leaves
asked-behind : (s now : State) (r : State × Effect) → IsLabelled s now → IfAsked now r → IfAsked s r
asked-behind s now (end, Values terms) l h = (labelled-more s now end l h.0, ap has_model (sym l.last) ∙ h.1)
asked-behind s now (end, Whole) l h = (labelled-more s now end l h.0, ap has_model (sym l.last) ∙ h.1)
asked-behind s now (end, Core trees named) l h = (labelled-more s now end l h.0, ap has_core (sym l.last) ∙ h.1, h.2)
asked-behind s now (end, Check formulas) l h = (h.0 ∙ l.constants, h.1)
asked-behind s now (end, _) l h = tt

lasts-behind : (s now : State) (r : State × Effect) → IsLabelled s now → Lasts now r → Lasts s r
lasts-behind s now r l h = (go h.0, asked-behind s now r l h.1)
  where
    go : IsKept now r.0 → IsKept s r.0
    go (inl e) = inl e
    go (inr (inl same)) = inr (inl (same.0 ∙ l.last, same.1 ∙ l.constants, same.2 ∙ l.checked))
    go (inr (inr more)) = inr (inr (record { own = more.own; last = more.last ∙ ap (option_map longer) l.last; constants = more.constants ∙ ap (λ (cs : Named Sort). cs ++ more.own ∷ []) l.constants; checked = more.checked ∙ l.checked }))

-- behind each command the last answer is kept, or is forgotten
pub lasts-after : (s : State) (e : Expr) → IfOk (after s e) (Lasts s)
lasts-after s (atom l) = tt
lasts-after s (list place none close) = tt
lasts-after s (list place (also first arguments) close) =
    ok-behind (known place (option_and_then (λ name. found name commands) (symbol_of first))) (λ command. commanded command place (items arguments) s) (Lasts s)
    (λ command. ok-behind (labels_of command (items arguments)) (behind_labels command place (items arguments) s) (Lasts s)
    (λ labels. ok-bind (labelled place labels s) (λ now. step command place (items arguments) now) (IsLabelled s) (Lasts s) (stays-labelled place labels s)
    (λ now l. ok-weaker (step command place (items arguments) now) (Lasts now) (Lasts s) (λ r h. lasts-behind s now r l h) (stays-step command place (items arguments) now))))
