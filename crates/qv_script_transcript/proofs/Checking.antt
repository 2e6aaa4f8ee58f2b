-- The trees of a check are over the constants in force.
use Rattle.std.proofs.Common.{◌≡◌, ℕ, ◌+◌, ◌&&◌, not, Bool, true, false, cond, Option, Some, None, Result, Ok, Err, List, [], ◌∷◌, map, length, slice_get, subst}
use Rattle.std.specs.Prelude.{IfOk, IfSome, nat_le, is_some, is_none}
use Rattle.std.specs.List.{AllByRecursion, list_any}
use Rattle.std.specs.Str.{bytes_eq}
use Rattle.std.proofs.lemmas.List.Elements.{All-from_recursion, recursion_from_All}
use Rattle.qv_sexpr.specs.Script.{Tree as Expr}
use Rattle.qv_words.specs.declared.sort.Sort.{Sort}
use Rattle.qv_words.specs.declared.sort.Sort.TheVariants.{Bool as BoolSort}
use Rattle.qv_words.specs.Tree.{Tree}
use Rattle.qv_words.specs.Sorted.{constants_of as leaves_of}
use Rattle.qv_words.specs.Truth.{constants_of_each}
use Rattle.qv_words.specs.Rank.{sort_eq}
use Rattle.qv_words.proofs.Leaves.{both}
use Rattle.qv_elab_defs.specs.Faults.{◌>>=◌}
use Rattle.qv_elab_defs.specs.Faults.{Fault as TermFault, refuse as refuse_term}
use Rattle.qv_elab_defs.specs.declared.faults.ElabKind.TheVariants.{Sorts}
use Rattle.qv_elab_defs.specs.Tokens.{place_of, symbol_of, keyword_of, numeral_of}
use Rattle.qv_elab_defs.specs.Shapes.{Pair}
use Rattle.qv_elab_defs.specs.Scopes.{Synonym, Scope, constants_of, found, sort_key}
use Rattle.qv_elab_defs.specs.Synonyms.{scoped_sort}
use Rattle.qv_elab_defs.specs.Applying.{sort_of}
use Rattle.qv_elab_defs.specs.Elaborating.{of_sort}
use Rattle.qv_elab_defs.specs.Defining.{elaborate, elaborate_to, read_parameters, elaborate_body, definition}
use Rattle.qv_elab_defs.specs.Written.{HasTokens}
use Rattle.qv_elab_defs.specs.TreeLaws.{IsScope, IsTreeOf}
use Rattle.qv_elab_defs.proofs.ElaboratedTrees.{elaborated-are_trees}
use Rattle.qv_elab_defs.proofs.OpenApplied.{ok-bind, ok-behind}
use Rattle.qv_script_defs.specs.declared.faults.ScriptKind.TheVariants.{Form, Logic, PopBelow, LevelLimit, NoModel, NotSupported, NoCore}
use Rattle.qv_script_defs.specs.Faults.{demand, shaped, inside}
use Rattle.qv_script_defs.specs.Parts.{list_of, some_of, parameters_of, string_of, count_of, truth_of, asserted_of, spaced}
use Rattle.qv_script_defs.specs.declared.settings.Setting.{Setting}
use Rattle.qv_script_defs.specs.declared.settings.Setting.TheVariants as setting
use Rattle.qv_script_defs.specs.Logics.{is_logic}
use Rattle.qv_script_defs.specs.Settings.{setting_of, option_text, standard_output, standard_error}
use Rattle.qv_script_defs.specs.State.{State, scope_of, in_force, last_checked, named_in_force, terms_behind, with_entry, with_assertion, with_constant, pushed, popped}
use Rattle.qv_script_defs.specs.Texts.{line, infos, info_text, unsupported}
use Rattle.qv_script_defs.specs.Moves.{Effect, Text, Check, Values, Whole, Core, has_core, symbols_of, Move, quiet, fresh, fresh_sort, with_value, set_channel, is_untouched, set_to, set_option, set_logic, declare, define, define_sort, assert, level_limit, push, pop, check, assumptions, has_model, value_terms}
use Rattle.qv_script_defs.specs.Commands.{Command, SetLogic, SetOption, SetInfo, DeclareConst, DeclareFun, DefineFun, DefineConst, DefineSort, Assert, Push, Pop, CheckSat, CheckSatAssuming, GetValue, GetModel, GetUnsatCore, GetUnsatAssumptions, GetInfo, GetOption, Echo, ResetAssertions, Reset, Leave, step, after}
use Rattle.qv_script_defs.proofs.Commanding.{ok-commanded, steady-reached, list-tokens}
use Rattle.qv_script_defs.proofs.Labelling.{ok-weaker, IsLabelled, tree-same}
use Rattle.qv_script_defs.proofs.Steady.{IsFormula, IsSteady, steady-formulas}
use Rattle.qv_script_transcript.specs.CheckLaws.{ChecksAreOverConstants}

-- the trees of a check are those of its scope
abbrev IfChecked : State → State × Effect → Type 0
IfChecked s (now, Check trees) = AllByRecursion (IsTreeOf (scope_of s)) trees
IfChecked s _ = Unit {0}

ok-inside : {A : Type 0} (r : Result A TermFault) (P : A → Type 0) → IfOk r P → IfOk (inside r) P
ok-inside (Ok a) P h = h
ok-inside (Err f) P h = tt

ok-shaped : {A : Type 0} (place : ℕ) (o : Option A) (P : A → Type 0) → IfSome o P → IfOk (shaped place o) P
ok-shaped place (Some a) P h = h
ok-shaped place None P h = tt

ok-formula_of : (scope : Scope) (place : ℕ) (t : Tree) → IsTreeOf scope t → IfOk (of_sort BoolSort place t) (IsTreeOf scope)
ok-formula_of scope place t h = go (sort_eq BoolSort (sort_of t))
  where
    go : (b : Bool) → IfOk (cond b (Ok t) (refuse_term place Sorts)) (IsTreeOf scope)
    go true = h
    go false = tt

ok-formula : (scope : Scope) (e : Expr) (place : ℕ) → IsScope scope → HasTokens e → IfOk (elaborate scope e >>= of_sort BoolSort place) (IsTreeOf scope)
ok-formula scope e place h w = ok-bind (elaborate scope e) (of_sort BoolSort place) (IsTreeOf scope) (IsTreeOf scope) (elaborated-are_trees scope e h w) (λ t k. ok-formula_of scope place t k)

ok-assumptions : (s : State) (es : List Expr) → IsScope (scope_of s) → AllByRecursion HasTokens es → IfOk (assumptions s es) (AllByRecursion (IsTreeOf (scope_of s)))
ok-assumptions s [] h w = tt
ok-assumptions s (e ∷ es) h w =
    ok-bind (inside (elaborate_to (scope_of s) BoolSort e)) (λ t. assumptions s es >>= λ ts. Ok (t ∷ ts)) (IsTreeOf (scope_of s)) (AllByRecursion (IsTreeOf (scope_of s)))
    (ok-inside (elaborate_to (scope_of s) BoolSort e) (IsTreeOf (scope_of s)) (ok-formula (scope_of s) e (place_of e) h w.0))
    (λ t f. ok-bind (assumptions s es) (λ ts. Ok (t ∷ ts)) (AllByRecursion (IsTreeOf (scope_of s))) (AllByRecursion (IsTreeOf (scope_of s))) (ok-assumptions s es h w.1) (λ ts fs. (f, fs)))

-- options
module _ (p : ℕ) (s : State) (key : List ℕ) (value : Expr) where
  over-channel : (channels : List (List ℕ)) → IfOk (set_channel p s key value channels) (IfChecked s)
  over-channel channels =
      ok-behind (shaped p (string_of value)) (λ text. cond (list_any (bytes_eq text) channels) (quiet (with_value key value s)) (Ok (s, Text unsupported))) (IfChecked s)
      (λ text. go (list_any (bytes_eq text) channels))
    where
      go : (b : Bool) → IfOk (cond b (quiet (with_value key value s)) (Ok (s, Text unsupported))) (IfChecked s)
      go true = tt
      go false = tt

  over-set_to : (o : Option Setting) → IfOk (set_to p s key value o) (IfChecked s)
  over-set_to (Some setting.Success) = ok-behind (shaped p (truth_of value)) (λ b. quiet (record (with_value key value s) { success = b })) (IfChecked s) (λ b. tt)
  over-set_to (Some setting.Global) =
      ok-behind (shaped p (truth_of value)) (λ b. demand p Form (is_untouched s) >>= λ _. quiet (record (with_value key value s) { global = b })) (IfChecked s)
      (λ b. ok-behind (demand p Form (is_untouched s)) (λ _. quiet (record (with_value key value s) { global = b })) (IfChecked s) (λ _. tt))
  over-set_to (Some setting.Truth) = ok-behind (shaped p (truth_of value)) (λ _. quiet (with_value key value s)) (IfChecked s) (λ _. tt)
  over-set_to (Some setting.Numeral) = ok-behind (shaped p (numeral_of value)) (λ _. quiet (with_value key value s)) (IfChecked s) (λ _. tt)
  over-set_to (Some setting.Answers) = over-channel (standard_output ∷ [])
  over-set_to (Some setting.Diagnostics) = over-channel (standard_output ∷ standard_error ∷ [])
  over-set_to (Some setting.Foreign) = tt
  over-set_to None = tt

over-declare : (p : ℕ) (s : State) (name : List ℕ) (sort : Expr) → IfOk (declare p s name sort) (IfChecked s)
over-declare p s name sort =
    ok-behind (fresh p s name) (λ _. inside (scoped_sort (scope_of s) sort) >>= λ sort. quiet (with_constant name sort s)) (IfChecked s)
    (λ _. ok-behind (inside (scoped_sort (scope_of s) sort)) (λ sort. quiet (with_constant name sort s)) (IfChecked s) (λ sort. tt))

over-define : (p : ℕ) (s : State) (name : List ℕ) (ps : List Pair) (sort body : Expr) → IfOk (define p s name ps sort body) (IfChecked s)
over-define p s name ps sort body =
    ok-behind (fresh p s name) (λ _. inside (read_parameters (scope_of s) ps []) >>= λ xs. inside (scoped_sort (scope_of s) sort) >>= λ sort. inside (elaborate_body (scope_of s) xs sort body) >>= λ _. quiet (with_entry name (definition (scope_of s) xs body) s)) (IfChecked s)
    (λ _. ok-behind (inside (read_parameters (scope_of s) ps [])) (λ xs. inside (scoped_sort (scope_of s) sort) >>= λ sort. inside (elaborate_body (scope_of s) xs sort body) >>= λ _. quiet (with_entry name (definition (scope_of s) xs body) s)) (IfChecked s)
    (λ xs. ok-behind (inside (scoped_sort (scope_of s) sort)) (λ sort. inside (elaborate_body (scope_of s) xs sort body) >>= λ _. quiet (with_entry name (definition (scope_of s) xs body) s)) (IfChecked s)
    (λ sort. ok-behind (inside (elaborate_body (scope_of s) xs sort body)) (λ _. quiet (with_entry name (definition (scope_of s) xs body) s)) (IfChecked s) (λ _. tt))))

over-define_sort : (p : ℕ) (s : State) (name : List ℕ) (sort : Expr) → IfOk (define_sort p s name sort) (IfChecked s)
over-define_sort p s name sort =
    ok-behind (fresh_sort p s name) (λ _. inside (scoped_sort (scope_of s) sort) >>= λ sort. quiet (with_entry (sort_key name) (Synonym sort) s)) (IfChecked s)
    (λ _. ok-behind (inside (scoped_sort (scope_of s) sort)) (λ sort. quiet (with_entry (sort_key name) (Synonym sort) s)) (IfChecked s) (λ sort. tt))

over-assert : (p : ℕ) (s : State) (whole : Expr) (name : Option (List ℕ)) (term : Expr) → IfOk (assert p s whole name term) (IfChecked s)
over-assert p s whole (Some name) term =
    ok-behind (fresh p s name) (λ _. inside (elaborate (scope_of s) term >>= of_sort BoolSort (place_of whole)) >>= λ t. quiet (with_entry name (definition (scope_of s) [] term) (with_assertion (record { tree = t; name = Some name }) s))) (IfChecked s)
    (λ _. ok-behind (inside (elaborate (scope_of s) term >>= of_sort BoolSort (place_of whole))) (λ t. quiet (with_entry name (definition (scope_of s) [] term) (with_assertion (record { tree = t; name = Some name }) s))) (IfChecked s) (λ t. tt))
over-assert p s whole None term =
    ok-behind (inside (elaborate_to (scope_of s) BoolSort whole)) (λ t. quiet (with_assertion (record { tree = t; name = None }) s)) (IfChecked s) (λ t. tt)

over-step : (command : Command) (p : ℕ) (args : List Expr) (s : State) → AllByRecursion HasTokens args → IsScope (scope_of s) → AllByRecursion (IsTreeOf (scope_of s)) (in_force s) → IfOk (step command p args s) (IfChecked s)
over-step SetLogic p (l ∷ []) s w sc h =
    ok-behind (shaped p (symbol_of l)) (λ name. set_logic p s name) (IfChecked s)
    (λ name. ok-behind (demand p Logic (not s.logic && not s.begun && is_logic name)) (λ _. quiet (record s { logic = true })) (IfChecked s) (λ _. tt))
over-step SetOption p (k ∷ v ∷ []) s w sc h = ok-behind (shaped p (keyword_of k)) (λ key. set_option p s key v) (IfChecked s) (λ key. over-set_to p s key v (setting_of key))
over-step SetInfo p (k ∷ []) s w sc h = ok-behind (shaped p (keyword_of k)) (λ _. quiet s) (IfChecked s) (λ _. tt)
over-step SetInfo p (k ∷ v ∷ []) s w sc h = ok-behind (shaped p (keyword_of k)) (λ _. quiet s) (IfChecked s) (λ _. tt)
over-step DeclareConst p (x ∷ sort ∷ []) s w sc h = ok-behind (shaped p (symbol_of x)) (λ name. declare p s name sort) (IfChecked s) (λ name. over-declare p s name sort)
over-step DeclareFun p (x ∷ arguments ∷ sort ∷ []) s w sc h =
    ok-behind (shaped p (symbol_of x)) (λ name. shaped p (list_of arguments) >>= λ sorts. demand p NotSupported (is_none (some_of (Some sorts))) >>= λ _. declare p s name sort) (IfChecked s)
    (λ name. ok-behind (shaped p (list_of arguments)) (λ sorts. demand p NotSupported (is_none (some_of (Some sorts))) >>= λ _. declare p s name sort) (IfChecked s)
    (λ sorts. ok-behind (demand p NotSupported (is_none (some_of (Some sorts)))) (λ _. declare p s name sort) (IfChecked s) (λ _. over-declare p s name sort)))
over-step DefineFun p (f ∷ parameters ∷ sort ∷ t ∷ []) s w sc h =
    ok-behind (shaped p (symbol_of f)) (λ name. shaped p (parameters_of parameters) >>= λ pairs. define p s name pairs sort t) (IfChecked s)
    (λ name. ok-behind (shaped p (parameters_of parameters)) (λ pairs. define p s name pairs sort t) (IfChecked s) (λ pairs. over-define p s name pairs sort t))
over-step DefineConst p (f ∷ sort ∷ t ∷ []) s w sc h = ok-behind (shaped p (symbol_of f)) (λ name. define p s name [] sort t) (IfChecked s) (λ name. over-define p s name [] sort t)
over-step DefineSort p (x ∷ parameters ∷ sort ∷ []) s w sc h =
    ok-behind (shaped p (symbol_of x)) (λ name. shaped p (list_of parameters) >>= λ names. demand p NotSupported (is_none (some_of (Some names))) >>= λ _. define_sort p s name sort) (IfChecked s)
    (λ name. ok-behind (shaped p (list_of parameters)) (λ names. demand p NotSupported (is_none (some_of (Some names))) >>= λ _. define_sort p s name sort) (IfChecked s)
    (λ names. ok-behind (demand p NotSupported (is_none (some_of (Some names)))) (λ _. define_sort p s name sort) (IfChecked s) (λ _. over-define_sort p s name sort)))
over-step Assert p (t ∷ []) s w sc h = over-assert p s t (asserted_of t).name (asserted_of t).term
over-step Push p ns s w sc h =
    ok-behind (count_of p ns) (λ n. push p s n) (IfChecked s)
    (λ n. ok-behind (demand p LevelLimit (nat_le (length s.opened + n) level_limit)) (λ _. quiet (pushed n s)) (IfChecked s) (λ _. tt))
over-step Pop p ns s w sc h =
    ok-behind (count_of p ns) (λ n. pop p s n) (IfChecked s)
    (λ n. ok-behind (demand p PopBelow (nat_le n (length s.opened))) (λ _. quiet (popped n s)) (IfChecked s) (λ _. tt))
over-step CheckSat p [] s w sc h = both (IsTreeOf (scope_of s)) (in_force s) [] h tt
over-step CheckSatAssuming p (ts ∷ []) s w sc h =
    ok-bind (shaped p (list_of ts)) (λ terms. assumptions s terms >>= check s (Some (map spaced terms))) (AllByRecursion HasTokens) (IfChecked s) (ok-shaped p (list_of ts) (AllByRecursion HasTokens) (list-tokens ts w.0))
    (λ terms ws. ok-bind (assumptions s terms) (check s (Some (map spaced terms))) (AllByRecursion (IsTreeOf (scope_of s))) (IfChecked s) (ok-assumptions s terms sc ws)
    (λ trees each. both (IsTreeOf (scope_of s)) (in_force s) trees h each))
over-step GetValue p (ts ∷ []) s w sc h =
    ok-behind (shaped p (some_of (list_of ts))) (λ terms. demand p NoModel (has_model s.last) >>= λ _. value_terms s terms >>= λ values. Ok (s, Values values)) (IfChecked s)
    (λ terms. ok-behind (demand p NoModel (has_model s.last)) (λ _. value_terms s terms >>= λ values. Ok (s, Values values)) (IfChecked s)
    (λ _. ok-behind (value_terms s terms) (λ values. Ok (s, Values values)) (IfChecked s) (λ values. tt)))
over-step GetModel p [] s w sc h = ok-behind (demand p NoModel (has_model s.last)) (λ _. Ok (s, Whole)) (IfChecked s) (λ _. tt)
over-step GetUnsatCore p [] s w sc h = ok-behind (demand p NoCore (has_core s.last)) (λ _. Ok (s, Core (last_checked s) (symbols_of (named_in_force s)))) (IfChecked s) (λ _. tt)
over-step GetUnsatAssumptions p [] s w sc h = ok-behind (demand p NoCore (has_core s.last && is_some s.terms)) (λ _. Ok (s, Core (last_checked s) (terms_behind s s.terms))) (IfChecked s) (λ _. tt)
over-step GetInfo p (k ∷ []) s w sc h =
    ok-behind (shaped p (keyword_of k)) (λ key. info_text p s key (found key infos) >>= λ text. Ok (s, Text text)) (IfChecked s)
    (λ key. ok-behind (info_text p s key (found key infos)) (λ text. Ok (s, Text text)) (IfChecked s) (λ text. tt))
over-step GetOption p (k ∷ []) s w sc h = ok-behind (shaped p (keyword_of k)) (λ key. Ok (s, Text (option_text s key))) (IfChecked s) (λ key. tt)
over-step Echo p (e ∷ []) s w sc h = ok-behind (shaped p (string_of e)) (λ text. Ok (s, Text (line text))) (IfChecked s) (λ text. tt)
over-step ResetAssertions p [] s w sc h = tt
over-step Reset p [] s w sc h = tt
over-step Leave p [] s w sc h = tt
over-step _ p _ s w sc h = tt

checked-behind : (s now : State) (r : State × Effect) → IsLabelled s now → IfChecked now r → IfChecked s r
checked-behind s now (end, Check trees) l h = go trees h
  where
    go : (ts : List Tree) → AllByRecursion (IsTreeOf (scope_of now)) ts → AllByRecursion (IsTreeOf (scope_of s)) ts
    go [] k = tt
    go (t ∷ ts) k = (tree-same (scope_of now) (scope_of s) t l.constants k.0, go ts k.1)
checked-behind s now (end, _) l h = tt

trees-of : (scope : Scope) (ts : List Tree) → AllByRecursion (IsFormula scope) ts → AllByRecursion (IsTreeOf scope) ts
trees-of scope [] h = tt
trees-of scope (t ∷ ts) h = (h.0.0, trees-of scope ts h.1)

over-after : (s : State) (e : Expr) → HasTokens e → IsSteady s → IfOk (after s e) (IfChecked s)
over-after s e w h =
    ok-commanded s e (IfChecked s) w h
    (λ now command place args ws b. ok-weaker (step command place args now) (IfChecked now) (IfChecked s) (λ r k. checked-behind s now r b.1 k)
    (over-step command place args now ws b.0.levels.scope (trees-of (scope_of now) (in_force now) (steady-formulas now b.0))))

-- the constants of trees of a scope are in force there
abbrev IsOfScope : Scope → ℕ × Sort → Type 0
IsOfScope scope leaf = slice_get (map (λ x. x.1) (constants_of scope)) leaf.0 ≡ Some leaf.1

leaves-there : (scope : Scope) (ts : List Tree) → AllByRecursion (IsTreeOf scope) ts → AllByRecursion (IsOfScope scope) (constants_of_each ts)
leaves-there scope [] h = tt
leaves-there scope (t ∷ ts) h = both (IsOfScope scope) (leaves_of t) (constants_of_each ts) (recursion_from_All (IsOfScope scope) (leaves_of t) h.0.constants) (leaves-there scope ts h.1)

pub checks-are_over_constants : ChecksAreOverConstants
checks-are_over_constants s now e trees r w is =
    let each = subst (λ (m : Move). IfOk m (IfChecked s)) is (over-after s e w (steady-reached s r)) in
    All-from_recursion (IsOfScope (scope_of s)) (constants_of_each trees) (leaves-there (scope_of s) trees each)
