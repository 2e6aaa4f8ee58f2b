-- What each command leaves is steady, and what it checks are formulas.
use Rattle.std.proofs.Common.{◌≡◌, ◌≢◌, ◌≤◌, ◌+◌, ℕ, Bool, true, false, cond, not, ◌&&◌, ◌||◌, drop, Option, Some, None, List, [], ◌∷◌, ◌++◌, map, length, replicate, refl, sym, ap, subst, ◌∙◌, slice_get, get_or, append_assoc, Ok, Err, arith}
use Rattle.std.specs.Prelude.{Result, IfOk, IfSome, nat_le, is_some, is_none, unwrap_or, option_and_then, codes}
use Rattle.std.specs.List.{AllByRecursion, list_any}
use Rattle.std.specs.Str.{bytes_eq}
use Rattle.std.proofs.lemmas.Bool.Decides.{nat_tests}
use Rattle.std.proofs.lemmas.List.Elements.{All-from_recursion, recursion_from_All, All-get_or}
use Rattle.std.proofs.lemmas.Slice.Eq.{bytes_eq-Decides}
use Rattle.std.proofs.Math.ListN.{length-append, length-replicate, length-drop}
use Rattle.qv_sexpr.specs.Script.{atom, list, none, also}
use Rattle.qv_sexpr.specs.Script.{Tree as Expr, Trees as Exprs}
use Rattle.qv_words.specs.declared.sort.Sort.{Sort}
use Rattle.qv_words.specs.declared.sort.Sort.TheVariants.{Bool as BoolSort}
use Rattle.qv_words.specs.Sort.{IsLawful}
use Rattle.qv_words.specs.Rank.{sort_eq}
use Rattle.qv_words.specs.Prenex.{is_quantified}
use Rattle.qv_words.specs.Tree.{Tree, tree_sort}
use Rattle.qv_words.specs.Truth.{IsAssertion, constants_of_each}
use Rattle.qv_words.specs.Sorted.{constants_of as leaves_of}
use Rattle.qv_words.proofs.Equals.{sort_eq-is, sort_eq-refl}
use Rattle.qv_words.proofs.Leaves.{both}
use Rattle.qv_sorts.specs.Search.{operator_named}
use Rattle.qv_elab_defs.specs.declared.faults.ElabKind.TheVariants.{Sorts, RepeatedName}
use Rattle.qv_elab_defs.specs.Faults.{◌>>=◌}
use Rattle.qv_elab_defs.specs.Faults.{Fault as TermFault, refuse as refuse_term}
use Rattle.qv_elab_defs.specs.Tokens.{place_of, items, symbol_of, keyword_of, numeral_of}
use Rattle.qv_elab_defs.specs.Written.{HasTokens, HaveTokens}
use Rattle.qv_elab_defs.specs.Shapes.{Construct, Annotated, Pair, construct_of, are_attributes, Naming, Named as NamedBy, naming}
use Rattle.qv_elab_defs.specs.Sorts.{is_sort_name}
use Rattle.qv_elab_defs.specs.Scopes.{Entry, Constant, Synonym, Named, Scope, found, sort_key, constants_of}
use Rattle.qv_elab_defs.specs.Synonyms.{scoped_sort}
use Rattle.qv_elab_defs.specs.Applying.{sort_of}
use Rattle.qv_elab_defs.specs.Elaborating.{of_sort, new_name}
use Rattle.qv_elab_defs.specs.Defining.{elaborate, elaborate_to, read_parameters, elaborate_body, definition}
use Rattle.qv_elab_defs.specs.TreeLaws.{AreParameters, IsScope, empty, declares, defines, abbreviates, IsTreeOf}
use Rattle.qv_elab_defs.proofs.OpenApplied.{ok-bind, ok-behind}
use Rattle.qv_elab_defs.proofs.ElaboratedTrees.{elaborated-are_trees, scoped-sorts-are-lawful}
use Rattle.qv_script_defs.specs.declared.faults.ScriptKind.{ScriptKind}
use Rattle.qv_script_defs.specs.declared.faults.ScriptKind.TheVariants.{Form, NameInUse, Logic, PopBelow, LevelLimit, NotSupported, Quantifier, NoCore}
use Rattle.qv_script_defs.specs.declared.settings.Setting.{Setting}
use Rattle.qv_script_defs.specs.declared.settings.Setting.TheVariants as setting
use Rattle.qv_script_defs.specs.Logics.{is_logic}
use Rattle.qv_script_defs.specs.Settings.{setting_of, option_text, standard_output, standard_error}
use Rattle.qv_script_defs.specs.Faults.{demand, shaped, inside}
use Rattle.qv_script_defs.specs.Parts.{spaced, list_of, some_of, parameters_of, string_of, count_of, truth_of, asserted_of, asserted_by, asserted_with}
use Rattle.qv_script_defs.specs.State.{State, Assertion, Level, levels, opening, emptied, scope_of, in_force, last_checked, named_in_force, terms_behind, constants, is_taken, with_entry, with_assertion, with_constant, kept_of, innermost, in_front, pushed, popped}
use Rattle.qv_script_defs.specs.State.{empty as empty_level}
use Rattle.qv_script_defs.specs.Texts.{infos, info_text, unsupported, line}
use Rattle.qv_script_defs.specs.Moves.{ValueTerm, Effect, Text, Check, Values, Whole, Core, has_core, symbols_of, Move, quiet, fresh, fresh_sort, set_logic, with_value, set_channel, is_untouched, set_to, set_option, declare, define, define_sort, assert_named, assert, level_limit, push, pop, check, assumptions, model_there, value_terms}
use Rattle.qv_script_defs.specs.Commands.{Command, SetLogic, SetOption, SetInfo, DeclareConst, DeclareFun, DefineFun, DefineConst, DefineSort, Assert, Push, Pop, CheckSat, CheckSatAssuming, GetValue, GetModel, GetUnsatCore, GetUnsatAssumptions, GetInfo, GetOption, Echo, ResetAssertions, Reset, Leave, commands, listed, labels_of_body, labels_of, step, known, after}
use Rattle.qv_script_defs.specs.StateLaws.{IsReached, opens, moves, answers, StatesAreLawful, ChecksAreLawful, IsAskable, ValuesAreLawful}
use Rattle.qv_script_defs.specs.Labels.{Label, nothing, below, label, labelled}
use Rattle.qv_script_defs.proofs.Labelling.{AreWritten, written-in, written-all, ok-weaker, IsLabelled, labelled-itself, labelled-more, definition-labelled, tree-same}
use Rattle.qv_script_defs.proofs.Steady.{IsFormula, scope_of_levels, AreApart, apart-pairs, none-of, AreSteady, IsSteady, steady-dropped, steady-pushed, levels-changed, length-changed, scopes-split, steady-in_front, steady-bare, on_first, steady-changed, steady-entry, steady-assertion, steady-formulas}

-- trees that are checked are formulas, and terms whose values are asked for have no quantifiers
abbrev pub IfCheck : Scope → Effect → Type 0
IfCheck scope (Check trees) = AllByRecursion (IsFormula scope) trees
IfCheck scope (Values terms) = AllByRecursion (IsAskable scope) terms
IfCheck scope _ = Unit {0}

-- what a command leaves and does
abbrev pub Keeps : State → State × Effect → Type 0
Keeps s r = IsSteady r.0 × IfCheck (scope_of s) r.1

ok-itself : {A F : Type 0} (r : Result A F) → IfOk r (λ a. r ≡ Ok a)
ok-itself (Ok a) = refl
ok-itself (Err f) = tt

ok-inside : {A : Type 0} (r : Result A TermFault) (P : A → Type 0) → IfOk r P → IfOk (inside r) P
ok-inside (Ok a) P h = h
ok-inside (Err f) P h = tt

pub ok-demand : (place : ℕ) (kind : ScriptKind) (b : Bool) → IfOk (demand place kind b) (λ _. b ≡ true)
ok-demand place kind true = refl
ok-demand place kind false = tt

-- names that may be declared
fresh-name : (s : State) (name : List ℕ) → not (is_taken s name) ≡ true → AllByRecursion (λ y. name ≢ y.0) (scope_of s)
fresh-name s name e = none-of name (scope_of s) (go (found name (scope_of s)) e)
  where
    go : (o : Option Entry) → not (is_some o || is_some (operator_named name) || list_any (bytes_eq name) (codes "distinct" ∷ codes "true" ∷ codes "false" ∷ [])) ≡ true → o ≡ None
    go None k = refl
    go (Some x) k = absurd (cc)

steady-with_entry : (name : List ℕ) (entry : Entry) (s : State) → IsSteady s → IsScope ((name, entry) ∷ scope_of s) → AllByRecursion (λ y. name ≢ y.0) (scope_of s) → IsSteady (with_entry name entry s)
steady-with_entry name entry s h sc apart =
    let r = steady-changed (λ level. record level { scope = (name, entry) ∷ level.scope }) s
    (λ ls k e. steady-entry (name, entry) ls k (subst (λ (ms : List Level). IsScope ((name, entry) ∷ scope_of_levels ms)) (sym e) sc) (subst (λ (ms : List Level). AllByRecursion (λ y. name ≢ y.0) (scope_of_levels ms)) (sym e) apart)) h in
    record { levels = r.levels; few = r.few }

steady-with_assertion : (a : Assertion) (s : State) → IsSteady s → IsFormula (scope_of s) a.tree → IsSteady (with_assertion a s)
steady-with_assertion a s h f =
    let r = steady-changed (λ level. record level { assertions = level.assertions ++ a ∷ [] }) s
    (λ ls k e. steady-assertion a ls k (subst (λ (ms : List Level). IsFormula (scope_of_levels ms) a.tree) (sym e) f)) h in
    record { levels = r.levels; few = r.few }

steady-pushed_state : (n : ℕ) (s : State) → IsSteady s → length s.opened + n ≤ level_limit → IsSteady (pushed n s)
steady-pushed_state n s h le = record {
  levels = subst AreSteady (sym (append_assoc (replicate n empty_level) s.opened (s.bottom ∷ []))) (steady-pushed n (levels s) h.levels);
  few = omega (arith, length-append (replicate n empty_level) s.opened, length-replicate n empty_level);
}

steady-popped : (n : ℕ) (s : State) → IsSteady s → IsSteady (popped n s)
steady-popped n s h =
    let left : State = record s { opened = drop n s.opened } in
    let change = in_front (kept_of s.global (innermost n s)) in
    let dropped = steady-dropped n s.opened (s.bottom ∷ []) h.levels in
    let kept = stays dropped s.global in
    record {
      levels = subst AreSteady (sym (levels-changed change left)) (steady-in_front (kept_of s.global (innermost n s)) (levels left) kept.0 kept.1 dropped.asserted);
      few = let few = h.few in omega (arith, length-drop n s.opened, length-changed change left);
    }
  where
    below : Scope
    below = scope_of_levels (drop n s.opened ++ s.bottom ∷ [])

    stays : AreSteady (drop n s.opened ++ s.bottom ∷ []) → (b : Bool) → IsScope (kept_of b (innermost n s) ++ below) × AreApart (kept_of b (innermost n s) ++ below)
    stays dropped false = (dropped.scope, dropped.names)
    stays dropped true =
        let whole = scopes-split n s.opened (s.bottom ∷ []) in
        (subst IsScope whole h.levels.scope, subst (λ (xs : Scope). AreApart xs) whole h.levels.names)

pub steady-opening : IsSteady opening
steady-opening = record { levels = steady-bare [] empty tt; few = omega arith }

steady-emptied : (s : State) → IsSteady s → IsSteady (emptied s)
steady-emptied s h = let kept = stays s.global in record { levels = steady-bare (kept_of s.global (scope_of s)) kept.0 kept.1; few = omega arith }
  where
    stays : (b : Bool) → IsScope (kept_of b (scope_of s)) × AreApart (kept_of b (scope_of s))
    stays false = (empty, tt)
    stays true = (h.levels.scope, h.levels.names)

-- declarations
steady-constant : (name : List ℕ) (sort : Sort) (s : State) → IsSteady s → IsLawful sort → AllByRecursion (λ y. name ≢ y.0) (scope_of s) → IsSteady (with_constant name sort s)
steady-constant name sort s h l apart =
    let r = steady-with_entry name (Constant (length (constants s)) sort) s h (declares (scope_of s) name sort h.levels.scope l) apart in
    record { levels = r.levels; few = r.few }

ok-fresh : (place : ℕ) (s : State) (name : List ℕ) → IfOk (fresh place s name) (λ _. AllByRecursion (λ y. name ≢ y.0) (scope_of s))
ok-fresh place s name = go (not (is_taken s name)) refl
  where
    go : (b : Bool) → not (is_taken s name) ≡ b → IfOk (demand place NameInUse b) (λ _. AllByRecursion (λ y. name ≢ y.0) (scope_of s))
    go true e = fresh-name s name e
    go false e = tt

ok-declare : (place : ℕ) (s : State) (name : List ℕ) (sort : Expr) → IsSteady s → IfOk (declare place s name sort) (Keeps s)
ok-declare place s name sort h =
    ok-bind (fresh place s name) (λ _. inside (scoped_sort (scope_of s) sort) >>= λ sort. quiet (with_constant name sort s)) (λ _. AllByRecursion (λ y. name ≢ y.0) (scope_of s)) (Keeps s) (ok-fresh place s name)
    (λ _ apart. ok-bind (inside (scoped_sort (scope_of s) sort)) (λ sort. quiet (with_constant name sort s)) IsLawful (Keeps s) (ok-inside (scoped_sort (scope_of s) sort) IsLawful (scoped-sorts-are-lawful (scope_of s) sort h.levels.scope))
    (λ sort l. (steady-constant name sort s h l apart, tt)))

-- sorts
ok-fresh_sort : (place : ℕ) (s : State) (name : List ℕ) → IfOk (fresh_sort place s name) (λ _. AllByRecursion (λ y. sort_key name ≢ y.0) (scope_of s))
ok-fresh_sort place s name = go (found (sort_key name) (scope_of s)) refl
  where
    go : (o : Option Entry) → found (sort_key name) (scope_of s) ≡ o → IfOk (demand place NameInUse (not (is_some o || is_sort_name name))) (λ _. AllByRecursion (λ y. sort_key name ≢ y.0) (scope_of s))
    go (Some entry) e = tt
    go None e = free (is_sort_name name)
      where
        free : (b : Bool) → IfOk (demand place NameInUse (not (false || b))) (λ _. AllByRecursion (λ y. sort_key name ≢ y.0) (scope_of s))
        free true = tt
        free false = none-of (sort_key name) (scope_of s) e

ok-define_sort : (place : ℕ) (s : State) (name : List ℕ) (sort : Expr) → IsSteady s → IfOk (define_sort place s name sort) (Keeps s)
ok-define_sort place s name sort h =
    ok-bind (fresh_sort place s name) (λ _. inside (scoped_sort (scope_of s) sort) >>= λ sort. quiet (with_entry (sort_key name) (Synonym sort) s)) (λ _. AllByRecursion (λ y. sort_key name ≢ y.0) (scope_of s)) (Keeps s) (ok-fresh_sort place s name)
    (λ _ apart. ok-bind (inside (scoped_sort (scope_of s) sort)) (λ sort. quiet (with_entry (sort_key name) (Synonym sort) s)) IsLawful (Keeps s) (ok-inside (scoped_sort (scope_of s) sort) IsLawful (scoped-sorts-are-lawful (scope_of s) sort h.levels.scope))
    (λ sort l. (steady-with_entry (sort_key name) (Synonym sort) s h (abbreviates (scope_of s) name sort h.levels.scope l) apart, tt)))

-- definitions
abbrev ArePlain : Named Sort → Named Sort → Type 0
ArePlain before xs = AllByRecursion (λ x. IsLawful x.1) xs × AreApart xs × AllByRecursion (λ x. found x.0 before ≡ None) xs

later-names : (name : List ℕ) (s : Sort) (before xs : Named Sort) → AllByRecursion (λ x. found x.0 ((name, s) ∷ before) ≡ None) xs → AllByRecursion (λ x. name ≢ x.0) xs × AllByRecursion (λ x. found x.0 before ≡ None) xs
later-names name s before [] h = (tt, tt)
later-names name s before (x ∷ xs) h =
    let rest = later-names name s before xs h.1 in
    let this = go (bytes_eq name x.0) refl (found x.0 before) h.0 in
    ((this.0, rest.0), (this.1, rest.1))
  where
    go : (b : Bool) → bytes_eq name x.0 ≡ b → (o : Option Sort) → cond b (Some s) o ≡ None → (name ≢ x.0) × (o ≡ None)
    go true e o k = absurd (cc)
    go false e o k = (let other : name ≡ x.0 → ⊥ = grind (arith, bytes_eq-Decides name x.0) in other, k)

ok-name : (place : ℕ) (name : List ℕ) (before : Named Sort) → IfOk (new_name place name before) (λ n. (n ≡ name) × (found name before ≡ None))
ok-name place name before = go (found name before)
  where
    go : (o : Option Sort) → IfOk (cond (is_some o) (refuse_term place RepeatedName) (Ok name)) (λ n. (n ≡ name) × (o ≡ None))
    go None = (refl, refl)
    go (Some s) = tt

ok-parameters : (scope : Scope) → IsScope scope → (ps : List Pair) (before : Named Sort) → IfOk (read_parameters scope ps before) (ArePlain before)
ok-parameters scope is-scope [] before = (tt, tt, tt)
ok-parameters scope is-scope (p ∷ ps) before =
    ok-bind (new_name p.place p.name before) (λ name. scoped_sort scope p.beside >>= λ s. read_parameters scope ps ((name, s) ∷ before) >>= λ after. Ok ((name, s) ∷ after)) (λ n. (n ≡ p.name) × (found p.name before ≡ None)) (ArePlain before) (ok-name p.place p.name before)
    (λ name is. ok-bind (scoped_sort scope p.beside) (λ s. read_parameters scope ps ((name, s) ∷ before) >>= λ after. Ok ((name, s) ∷ after)) IsLawful (ArePlain before) (scoped-sorts-are-lawful scope p.beside is-scope)
    (λ s l. ok-bind (read_parameters scope ps ((name, s) ∷ before)) (λ after. Ok ((name, s) ∷ after)) (ArePlain ((name, s) ∷ before)) (ArePlain before) (ok-parameters scope is-scope ps ((name, s) ∷ before))
    (λ xs h. let rest = later-names name s before xs h.2 in
    ((l, h.0), (rest.0, h.1), (ap (λ n. found n before) is.0 ∙ is.1, rest.1)))))

parameters-from : (xs : Named Sort) → ArePlain [] xs → AreParameters xs
parameters-from xs h = (All-from_recursion (λ x. IsLawful x.1) xs h.0, apart-pairs xs h.1)

-- what is read of a parameter list is one
pub parameters-read : (scope : Scope) → IsScope scope → (ps : List Pair) (xs : Named Sort) → read_parameters scope ps [] ≡ Ok xs → AreParameters xs
parameters-read scope is-scope ps xs e = parameters-from xs (subst (λ (r : Result (Named Sort) TermFault). IfOk r (ArePlain [])) e (ok-parameters scope is-scope ps []))

ok-define : (place : ℕ) (s : State) (name : List ℕ) (ps : List Pair) (sort body : Expr) → HasTokens body → IsSteady s → IfOk (define place s name ps sort body) (Keeps s)
ok-define place s name ps sort body w h =
    ok-bind (fresh place s name) (λ _. inside (read_parameters (scope_of s) ps []) >>= λ xs. inside (scoped_sort (scope_of s) sort) >>= λ sort. inside (elaborate_body (scope_of s) xs sort body) >>= λ _. quiet (with_entry name (definition (scope_of s) xs body) s)) (λ _. AllByRecursion (λ y. name ≢ y.0) (scope_of s)) (Keeps s) (ok-fresh place s name)
    (λ _ apart. ok-bind (inside (read_parameters (scope_of s) ps [])) (λ xs. inside (scoped_sort (scope_of s) sort) >>= λ sort. inside (elaborate_body (scope_of s) xs sort body) >>= λ _. quiet (with_entry name (definition (scope_of s) xs body) s)) (ArePlain []) (Keeps s) (ok-inside (read_parameters (scope_of s) ps []) (ArePlain []) (ok-parameters (scope_of s) h.levels.scope ps []))
    (λ xs plain. ok-behind (inside (scoped_sort (scope_of s) sort)) (λ sort. inside (elaborate_body (scope_of s) xs sort body) >>= λ _. quiet (with_entry name (definition (scope_of s) xs body) s)) (Keeps s)
    (λ sort. ok-bind (inside (elaborate_body (scope_of s) xs sort body)) (λ _. quiet (with_entry name (definition (scope_of s) xs body) s)) (λ t. elaborate_body (scope_of s) xs sort body ≡ Ok t) (Keeps s) (ok-inside (elaborate_body (scope_of s) xs sort body) (λ t. elaborate_body (scope_of s) xs sort body ≡ Ok t) (ok-itself (elaborate_body (scope_of s) xs sort body)))
    (λ t e. (steady-with_entry name (definition (scope_of s) xs body) s h (defines (scope_of s) name xs sort body t h.levels.scope (parameters-from xs plain) w e) apart, tt)))))

-- assertions
ok-formula_of : (scope : Scope) (place : ℕ) (t : Tree) → IsTreeOf scope t → IfOk (of_sort BoolSort place t) (IsFormula scope)
ok-formula_of scope place t h = go (sort_eq BoolSort (sort_of t)) refl
  where
    there : (o : Option Sort) → is_some o ≡ true → BoolSort ≡ unwrap_or o BoolSort → o ≡ Some BoolSort
    there None e k = absurd (cc)
    there (Some u) e k = ap Some (sym k)

    go : (b : Bool) → sort_eq BoolSort (sort_of t) ≡ b → IfOk (cond b (Ok t) (refuse_term place Sorts)) (IsFormula scope)
    go true e = (h, there (tree_sort t) h.sort (sort_eq-is BoolSort (sort_of t) e))
    go false e = tt

ok-formula : (scope : Scope) (e : Expr) (place : ℕ) → IsScope scope → HasTokens e → IfOk (elaborate scope e >>= of_sort BoolSort place) (IsFormula scope)
ok-formula scope e place h w =
    ok-bind (elaborate scope e) (of_sort BoolSort place) (IsTreeOf scope) (IsFormula scope) (elaborated-are_trees scope e h w)
    (λ t k. ok-formula_of scope place t k)

-- another place of a fault
other-place : (r : Result Tree TermFault) (p q : ℕ) (t : Tree) → (r >>= of_sort BoolSort p) ≡ Ok t → (r >>= of_sort BoolSort q) ≡ Ok t
other-place (Err f) p q t e = absurd (cc)
other-place (Ok a) p q t e = go (sort_eq BoolSort (sort_of a)) e
  where
    go : (b : Bool) → ◌≡◌ {A = Result Tree TermFault} (cond b (Ok a) (refuse_term p Sorts)) (Ok t) → ◌≡◌ {A = Result Tree TermFault} (cond b (Ok a) (refuse_term q Sorts)) (Ok t)
    go true k = k
    go false k = absurd (cc)

pub scope-kept : (a : Assertion) (s : State) → scope_of (with_assertion a s) ≡ scope_of s
scope-kept a s =
    ap scope_of_levels (levels-changed (λ level. record level { assertions = level.assertions ++ a ∷ [] }) s) ∙ go (levels s)
  where
    go : (ls : List Level) → scope_of_levels (on_first (λ level. record level { assertions = level.assertions ++ a ∷ [] }) ls) ≡ scope_of_levels ls
    go [] = refl
    go (level ∷ outer) = refl

ok-assert_named : (place : ℕ) (s : State) (whole term : Expr) (name : List ℕ) → HasTokens term → IsSteady s → IfOk (assert_named place s whole term name) (Keeps s)
ok-assert_named place s whole term name w h =
    ok-bind (fresh place s name) (λ _. inside (elaborate (scope_of s) term >>= of_sort BoolSort (place_of whole)) >>= λ t. quiet (with_entry name (definition (scope_of s) [] term) (with_assertion (record { tree = t; name = Some name }) s))) (λ _. AllByRecursion (λ y. name ≢ y.0) (scope_of s)) (Keeps s) (ok-fresh place s name)
    (λ _ apart. ok-bind (inside (elaborate (scope_of s) term >>= of_sort BoolSort (place_of whole))) (λ t. quiet (with_entry name (definition (scope_of s) [] term) (with_assertion (record { tree = t; name = Some name }) s))) (λ t. IsFormula (scope_of s) t × ((elaborate (scope_of s) term >>= of_sort BoolSort (place_of whole)) ≡ Ok t)) (Keeps s)
    (ok-inside (elaborate (scope_of s) term >>= of_sort BoolSort (place_of whole)) (λ t. IsFormula (scope_of s) t × ((elaborate (scope_of s) term >>= of_sort BoolSort (place_of whole)) ≡ Ok t)) (two (elaborate (scope_of s) term >>= of_sort BoolSort (place_of whole)) (ok-formula (scope_of s) term (place_of whole) h.levels.scope w)))
    (λ t k. (named t k.0 k.1 apart, tt)))
  where
    two : (r : Result Tree TermFault) → IfOk r (IsFormula (scope_of s)) → IfOk r (λ t. IsFormula (scope_of s) t × (r ≡ Ok t))
    two (Ok t) k = (k, refl)
    two (Err f) k = tt

    named : (t : Tree) → IsFormula (scope_of s) t → (elaborate (scope_of s) term >>= of_sort BoolSort (place_of whole)) ≡ Ok t → AllByRecursion (λ y. name ≢ y.0) (scope_of s) → IsSteady (with_entry name (definition (scope_of s) [] term) (with_assertion (record { tree = t; name = Some name }) s))
    named t f e apart =
        let a : Assertion = record { tree = t; name = Some name } in
        let same = scope-kept a s in
        let own : elaborate_body (scope_of s) [] BoolSort term ≡ Ok t = other-place (elaborate (scope_of s) term) (place_of whole) (place_of term) t e in
        let sc : IsScope ((name, definition (scope_of s) [] term) ∷ scope_of s) = defines (scope_of s) name [] BoolSort term t h.levels.scope (parameters-from [] (tt, tt, tt)) w own in
        steady-with_entry name (definition (scope_of s) [] term) (with_assertion a s) (steady-with_assertion a s h f)
        (subst (λ (x : Scope). IsScope ((name, definition (scope_of s) [] term) ∷ x)) (sym same) sc)
        (subst (λ (x : Scope). AllByRecursion (λ y. name ≢ y.0) x) (sym same) apart)

ok-assert : (place : ℕ) (s : State) (whole : Expr) (name : Option (List ℕ)) (term : Expr) → HasTokens whole → HasTokens term → IsSteady s → IfOk (assert place s whole name term) (Keeps s)
ok-assert place s whole (Some name) term v w h = ok-assert_named place s whole term name w h
ok-assert place s whole None term v w h =
    ok-bind (inside (elaborate_to (scope_of s) BoolSort whole)) (λ t. quiet (with_assertion (record { tree = t; name = None }) s)) (IsFormula (scope_of s)) (Keeps s)
    (ok-inside (elaborate_to (scope_of s) BoolSort whole) (IsFormula (scope_of s)) (ok-formula (scope_of s) whole (place_of whole) h.levels.scope v))
    (λ t f. (steady-with_assertion (record { tree = t; name = None }) s h f, tt))

term-with : (whole t : Expr) (b : Bool) (n : Naming) → HasTokens whole → HasTokens t → HasTokens (asserted_with whole t b n).term
term-with whole t true (NamedBy x) v w = w
term-with whole t _ _ v w = v

term-by : (con : Construct) (whole : Expr) (rest : Exprs) → HasTokens whole → HaveTokens rest → HasTokens (asserted_by con whole rest).term
term-by Annotated whole (also t attributes) v w = term-with whole t (are_attributes attributes) (naming attributes) v w.0
term-by _ whole _ v w = v

term-of : (e : Expr) → HasTokens e → HasTokens (asserted_of e).term
term-of (atom l) w = w
term-of (list place none close) w = w
term-of (list place (also first rest) close) w = term-by (construct_of first) (list place (also first rest) close) rest w w.1

-- parts of commands
ok-shaped : {A : Type 0} (place : ℕ) (o : Option A) (P : A → Type 0) → IfSome o P → IfOk (shaped place o) P
ok-shaped place (Some a) P h = h
ok-shaped place None P h = tt

pub tokens-of : (es : Exprs) → HaveTokens es → AllByRecursion HasTokens (items es)
tokens-of none w = tt
tokens-of (also e es) w = (w.0, tokens-of es w.1)

pub list-tokens : (e : Expr) → HasTokens e → IfSome (list_of e) (AllByRecursion HasTokens)
list-tokens (atom l) w = tt
list-tokens (list place within close) w = tokens-of within w

ok-assumptions : (s : State) (es : List Expr) → IsSteady s → AllByRecursion HasTokens es → IfOk (assumptions s es) (AllByRecursion (IsFormula (scope_of s)))
ok-assumptions s [] h w = tt
ok-assumptions s (e ∷ es) h w =
    ok-bind (inside (elaborate_to (scope_of s) BoolSort e)) (λ t. assumptions s es >>= λ ts. Ok (t ∷ ts)) (IsFormula (scope_of s)) (AllByRecursion (IsFormula (scope_of s)))
    (ok-inside (elaborate_to (scope_of s) BoolSort e) (IsFormula (scope_of s)) (ok-formula (scope_of s) e (place_of e) h.levels.scope w.0))
    (λ t f. ok-bind (assumptions s es) (λ ts. Ok (t ∷ ts)) (AllByRecursion (IsFormula (scope_of s))) (AllByRecursion (IsFormula (scope_of s))) (ok-assumptions s es h w.1) (λ ts fs. (f, fs)))

-- a term whose value is asked for
abbrev asked : Expr → Tree → ValueTerm
asked e t = record { text = spaced e; tree = t }

ok-free : (place : ℕ) (b : Bool) → IfOk (demand place Quantifier (not b)) (λ _. b ≡ false)
ok-free place true = tt
ok-free place false = refl

ok-values : (s : State) (es : List Expr) → IsSteady s → AllByRecursion HasTokens es → IfOk (value_terms s es) (AllByRecursion (IsAskable (scope_of s)))
ok-values s [] h w = tt
ok-values s (e ∷ es) h w =
    ok-bind (inside (elaborate (scope_of s) e)) (λ t. demand (place_of e) Quantifier (not (is_quantified t)) >>= λ _. value_terms s es >>= λ ts. Ok (asked e t ∷ ts)) (IsTreeOf (scope_of s)) (AllByRecursion (IsAskable (scope_of s)))
    (ok-inside (elaborate (scope_of s) e) (IsTreeOf (scope_of s)) (elaborated-are_trees (scope_of s) e h.levels.scope w.0))
    (λ t k. ok-bind (demand (place_of e) Quantifier (not (is_quantified t))) (λ _. value_terms s es >>= λ ts. Ok (asked e t ∷ ts)) (λ _. is_quantified t ≡ false) (AllByRecursion (IsAskable (scope_of s))) (ok-free (place_of e) (is_quantified t))
    (λ _ free. ok-bind (value_terms s es) (λ ts. Ok (asked e t ∷ ts)) (AllByRecursion (IsAskable (scope_of s))) (AllByRecursion (IsAskable (scope_of s))) (ok-values s es h w.1) (λ ts all. ((k, free), all))))

some-tokens : (e : Expr) → HasTokens e → IfSome (some_of (list_of e)) (AllByRecursion HasTokens)
some-tokens (atom l) w = tt
some-tokens (list place none close) w = tt
some-tokens (list place (also f fs) close) w = (w.0, tokens-of fs w.1)

steady-checked : (s : State) (terms : Option (List (List ℕ))) (assumed : List Tree) → IsSteady s → IsSteady (record s { last = None; assumed = assumed; terms = terms })
steady-checked s terms assumed h = record { levels = h.levels; few = h.few }

ok-set_logic : (place : ℕ) (s : State) (name : List ℕ) → IsSteady s → IfOk (set_logic place s name) (Keeps s)
ok-set_logic place s name h =
    ok-behind (demand place Logic (not s.logic && not s.begun && is_logic name)) (λ _. quiet (record s { logic = true })) (Keeps s)
    (λ _. (record { levels = h.levels; few = h.few }, tt))

-- options
module _ (place : ℕ) (s : State) (key : List ℕ) (value : Expr) (h : IsSteady s) where
  ok-set_channel : (channels : List (List ℕ)) → IfOk (set_channel place s key value channels) (Keeps s)
  ok-set_channel channels =
      ok-behind (shaped place (string_of value)) (λ text. cond (list_any (bytes_eq text) channels) (quiet (with_value key value s)) (Ok (s, Text unsupported))) (Keeps s)
      (λ text. go (list_any (bytes_eq text) channels))
    where
      go : (b : Bool) → IfOk (cond b (quiet (with_value key value s)) (Ok (s, Text unsupported))) (Keeps s)
      go true = (record { levels = h.levels; few = h.few }, tt)
      go false = (h, tt)

  ok-set_to : (o : Option Setting) → IfOk (set_to place s key value o) (Keeps s)
  ok-set_to (Some setting.Success) = ok-behind (shaped place (truth_of value)) (λ b. quiet (record (with_value key value s) { success = b })) (Keeps s) (λ b. (record { levels = h.levels; few = h.few }, tt))
  ok-set_to (Some setting.Global) =
      ok-behind (shaped place (truth_of value)) (λ b. demand place Form (is_untouched s) >>= λ _. quiet (record (with_value key value s) { global = b })) (Keeps s)
      (λ b. ok-behind (demand place Form (is_untouched s)) (λ _. quiet (record (with_value key value s) { global = b })) (Keeps s) (λ _. (record { levels = h.levels; few = h.few }, tt)))
  ok-set_to (Some setting.Truth) = ok-behind (shaped place (truth_of value)) (λ _. quiet (with_value key value s)) (Keeps s) (λ _. (record { levels = h.levels; few = h.few }, tt))
  ok-set_to (Some setting.Numeral) = ok-behind (shaped place (numeral_of value)) (λ _. quiet (with_value key value s)) (Keeps s) (λ _. (record { levels = h.levels; few = h.few }, tt))
  ok-set_to (Some setting.Answers) = ok-set_channel (standard_output ∷ [])
  ok-set_to (Some setting.Diagnostics) = ok-set_channel (standard_output ∷ standard_error ∷ [])
  ok-set_to (Some setting.Foreign) = (record { levels = h.levels; few = h.few }, tt)
  ok-set_to None = (h, tt)

  ok-set_option : IfOk (set_option place s key value) (Keeps s)
  ok-set_option = ok-set_to (setting_of key)

ok-push : (place : ℕ) (s : State) (n : ℕ) → IsSteady s → IfOk (push place s n) (Keeps s)
ok-push place s n h = go (nat_le (length s.opened + n) level_limit) refl
  where
    go : (b : Bool) → nat_le (length s.opened + n) level_limit ≡ b → IfOk (demand place LevelLimit b >>= λ _. quiet (pushed n s)) (Keeps s)
    go true e = let le : length s.opened + n ≤ level_limit = grind (arith, nat_tests) in (steady-pushed_state n s h le, tt)
    go false e = tt

ok-pop : (place : ℕ) (s : State) (n : ℕ) → IsSteady s → IfOk (pop place s n) (Keeps s)
ok-pop place s n h = ok-behind (demand place PopBelow (nat_le n (length s.opened))) (λ _. quiet (popped n s)) (Keeps s) (λ _. (steady-popped n s h, tt))

ok-step : (command : Command) (p : ℕ) (args : List Expr) (s : State) → AllByRecursion HasTokens args → IsSteady s → IfOk (step command p args s) (Keeps s)
ok-step SetLogic p (l ∷ []) s w h = ok-behind (shaped p (symbol_of l)) (λ name. set_logic p s name) (Keeps s) (λ name. ok-set_logic p s name h)
ok-step SetOption p (k ∷ v ∷ []) s w h = ok-behind (shaped p (keyword_of k)) (λ key. set_option p s key v) (Keeps s) (λ key. ok-set_option p s key v h)
ok-step SetInfo p (k ∷ []) s w h = ok-behind (shaped p (keyword_of k)) (λ _. quiet s) (Keeps s) (λ _. (h, tt))
ok-step SetInfo p (k ∷ v ∷ []) s w h = ok-behind (shaped p (keyword_of k)) (λ _. quiet s) (Keeps s) (λ _. (h, tt))
ok-step DeclareConst p (x ∷ sort ∷ []) s w h = ok-behind (shaped p (symbol_of x)) (λ name. declare p s name sort) (Keeps s) (λ name. ok-declare p s name sort h)
ok-step DeclareFun p (x ∷ arguments ∷ sort ∷ []) s w h =
    ok-behind (shaped p (symbol_of x)) (λ name. shaped p (list_of arguments) >>= λ sorts. demand p NotSupported (is_none (some_of (Some sorts))) >>= λ _. declare p s name sort) (Keeps s)
    (λ name. ok-behind (shaped p (list_of arguments)) (λ sorts. demand p NotSupported (is_none (some_of (Some sorts))) >>= λ _. declare p s name sort) (Keeps s)
    (λ sorts. ok-behind (demand p NotSupported (is_none (some_of (Some sorts)))) (λ _. declare p s name sort) (Keeps s) (λ _. ok-declare p s name sort h)))
ok-step DefineFun p (f ∷ parameters ∷ sort ∷ t ∷ []) s w h =
    ok-behind (shaped p (symbol_of f)) (λ name. shaped p (parameters_of parameters) >>= λ pairs. define p s name pairs sort t) (Keeps s)
    (λ name. ok-behind (shaped p (parameters_of parameters)) (λ pairs. define p s name pairs sort t) (Keeps s) (λ pairs. ok-define p s name pairs sort t w.1.1.1.0 h))
ok-step DefineConst p (f ∷ sort ∷ t ∷ []) s w h = ok-behind (shaped p (symbol_of f)) (λ name. define p s name [] sort t) (Keeps s) (λ name. ok-define p s name [] sort t w.1.1.0 h)
ok-step DefineSort p (x ∷ parameters ∷ sort ∷ []) s w h =
    ok-behind (shaped p (symbol_of x)) (λ name. shaped p (list_of parameters) >>= λ names. demand p NotSupported (is_none (some_of (Some names))) >>= λ _. define_sort p s name sort) (Keeps s)
    (λ name. ok-behind (shaped p (list_of parameters)) (λ names. demand p NotSupported (is_none (some_of (Some names))) >>= λ _. define_sort p s name sort) (Keeps s)
    (λ names. ok-behind (demand p NotSupported (is_none (some_of (Some names)))) (λ _. define_sort p s name sort) (Keeps s) (λ _. ok-define_sort p s name sort h)))
ok-step Assert p (t ∷ []) s w h = ok-assert p s t (asserted_of t).name (asserted_of t).term w.0 (term-of t w.0) h
ok-step Push p ns s w h = ok-behind (count_of p ns) (λ n. push p s n) (Keeps s) (λ n. ok-push p s n h)
ok-step Pop p ns s w h = ok-behind (count_of p ns) (λ n. pop p s n) (Keeps s) (λ n. ok-pop p s n h)
ok-step CheckSat p [] s w h = (steady-checked s None [] h, both (IsFormula (scope_of s)) (in_force s) [] (steady-formulas s h) tt)
ok-step CheckSatAssuming p (ts ∷ []) s w h =
    ok-bind (shaped p (list_of ts)) (λ terms. assumptions s terms >>= λ trees. check s (Some (map spaced terms)) trees) (AllByRecursion HasTokens) (Keeps s) (ok-shaped p (list_of ts) (AllByRecursion HasTokens) (list-tokens ts w.0))
    (λ terms ws. ok-bind (assumptions s terms) (check s (Some (map spaced terms))) (AllByRecursion (IsFormula (scope_of s))) (Keeps s) (ok-assumptions s terms h ws)
    (λ trees fs. (steady-checked s (Some (map spaced terms)) trees h, both (IsFormula (scope_of s)) (in_force s) trees (steady-formulas s h) fs)))
ok-step GetValue p (ts ∷ []) s w h =
    ok-bind (shaped p (some_of (list_of ts))) (λ terms. model_there p s >>= λ _. value_terms s terms >>= λ values. Ok (s, Values values)) (AllByRecursion HasTokens) (Keeps s) (ok-shaped p (some_of (list_of ts)) (AllByRecursion HasTokens) (some-tokens ts w.0))
    (λ terms ws. ok-behind (model_there p s) (λ _. value_terms s terms >>= λ values. Ok (s, Values values)) (Keeps s)
    (λ _. ok-bind (value_terms s terms) (λ values. Ok (s, Values values)) (AllByRecursion (IsAskable (scope_of s))) (Keeps s) (ok-values s terms h ws) (λ values all. (h, all))))
ok-step GetModel p [] s w h = ok-behind (model_there p s) (λ _. Ok (s, Whole)) (Keeps s) (λ _. (h, tt))
ok-step GetUnsatCore p [] s w h = ok-behind (demand p NoCore (has_core s.last)) (λ _. Ok (s, Core (last_checked s) (symbols_of (named_in_force s)))) (Keeps s) (λ _. (h, tt))
ok-step GetUnsatAssumptions p [] s w h = ok-behind (demand p NoCore (has_core s.last && is_some s.terms)) (λ _. Ok (s, Core (last_checked s) (terms_behind s s.terms))) (Keeps s) (λ _. (h, tt))
ok-step GetInfo p (k ∷ []) s w h =
    ok-behind (shaped p (keyword_of k)) (λ key. info_text p s key (found key infos) >>= λ text. Ok (s, Text text)) (Keeps s)
    (λ key. ok-behind (info_text p s key (found key infos)) (λ text. Ok (s, Text text)) (Keeps s) (λ text. (h, tt)))
ok-step GetOption p (k ∷ []) s w h = ok-behind (shaped p (keyword_of k)) (λ key. Ok (s, Text (option_text s key))) (Keeps s) (λ key. (h, tt))
ok-step Echo p (e ∷ []) s w h = ok-behind (shaped p (string_of e)) (λ text. Ok (s, Text (line text))) (Keeps s) (λ text. (h, tt))
ok-step ResetAssertions p [] s w h = (steady-emptied s h, tt)
ok-step Reset p [] s w h = (steady-opening, tt)
ok-step Leave p [] s w h = (h, tt)
ok-step _ p _ s w h = tt

-- the terms with names
listed-tokens : (e : Expr) → HasTokens e → HaveTokens (listed e)
listed-tokens (atom l) w = tt
listed-tokens (list place within close) w = w

written-body : (o : Option (List Pair)) (body : Expr) → HasTokens body → IfOk (labels_of_body o body) AreWritten
written-body (Some ps) body w = written-in body (below ps nothing) [] w tt
written-body None body w = tt

written-of : (command : Command) (args : List Expr) → AllByRecursion HasTokens args → IfOk (labels_of command args) AreWritten
written-of Assert (t ∷ []) w = written-in (asserted_of t).term nothing [] (term-of t w.0) tt
written-of CheckSatAssuming (ts ∷ []) w = written-all (listed ts) nothing [] (listed-tokens ts w.0) tt
written-of GetValue (ts ∷ []) w = written-all (listed ts) nothing [] (listed-tokens ts w.0) tt
written-of DefineFun (f ∷ parameters ∷ sort ∷ t ∷ []) w = written-body (parameters_of parameters) t w.1.1.1.0
written-of DefineConst (f ∷ sort ∷ t ∷ []) w = written-in t nothing [] w.1.1.0 tt
written-of _ _ w = tt

-- a state behind definitions of terms with names
abbrev pub IsBehind : State → State → Type 0
IsBehind s now = IsSteady now × IsLabelled s now

ok-label : (place : ℕ) (s : State) (l : Label) → HasTokens l.term → IsSteady s → IfOk (label place s l) (IsBehind s)
ok-label place s l w h =
    let d = definition (scope_of s) [] l.term in
    ok-bind (fresh place s l.name) (λ _. inside (elaborate (scope_of s) l.term) >>= λ _. Ok (with_entry l.name d s)) (λ _. AllByRecursion (λ y. l.name ≢ y.0) (scope_of s)) (IsBehind s) (ok-fresh place s l.name)
    (λ _ apart. ok-bind (inside (elaborate (scope_of s) l.term)) (λ _. Ok (with_entry l.name d s)) (λ t. elaborate (scope_of s) l.term ≡ Ok t) (IsBehind s)
    (ok-inside (elaborate (scope_of s) l.term) (λ t. elaborate (scope_of s) l.term ≡ Ok t) (ok-itself (elaborate (scope_of s) l.term)))
    (λ t e. (steady-with_entry l.name d s h (defines (scope_of s) l.name [] (sort_of t) l.term t h.levels.scope (parameters-from [] (tt, tt, tt)) w (own t e)) apart, definition-labelled l.name l.term s)))
  where
    own : (t : Tree) → elaborate (scope_of s) l.term ≡ Ok t → elaborate_body (scope_of s) [] (sort_of t) l.term ≡ Ok t
    own t e =
        ap (λ (r : Result Tree TermFault). r >>= of_sort (sort_of t) (place_of l.term)) e
        ∙ ap (λ (b : Bool). cond b (Ok t) (refuse_term (place_of l.term) Sorts)) (sort_eq-refl (sort_of t))

pub ok-labelled : (place : ℕ) (ls : List Label) (s : State) → AreWritten ls → IsSteady s → IfOk (labelled place ls s) (IsBehind s)
ok-labelled place [] s w h = (h, labelled-itself s)
ok-labelled place (l ∷ ls) s w h =
    ok-bind (label place s l) (labelled place ls) (IsBehind s) (IsBehind s) (ok-label place s l w.0 h)
    (λ now k. ok-weaker (labelled place ls now) (IsBehind now) (IsBehind s) (λ end m. (m.0, labelled-more s now end k.1 m.1)) (ok-labelled place ls now w.1 k.0))

-- whatever holds of a command behind such definitions
pub ok-commanded : (s : State) (e : Expr) (P : State × Effect → Type 0) → HasTokens e → IsSteady s →
    ((now : State) (command : Command) (place : ℕ) (args : List Expr) → AllByRecursion HasTokens args → IsBehind s now → IfOk (step command place args now) P) → IfOk (after s e) P
ok-commanded s (atom l) P w h k = tt
ok-commanded s (list place none close) P w h k = tt
ok-commanded s (list place (also first arguments) close) P w h k =
    ok-behind (known place (option_and_then (λ name. found name commands) (symbol_of first))) (λ command. labels_of command (items arguments) >>= λ labels. labelled place labels s >>= λ now. step command place (items arguments) now) P
    (λ command. ok-bind (labels_of command (items arguments)) (λ labels. labelled place labels s >>= λ now. step command place (items arguments) now) AreWritten P (written-of command (items arguments) (tokens-of arguments w.1))
    (λ labels ws. ok-bind (labelled place labels s) (λ now. step command place (items arguments) now) (IsBehind s) P (ok-labelled place labels s ws h)
    (λ now b. k now command place (items arguments) (tokens-of arguments w.1) b)))

formulas-same : (a b : Scope) (ts : List Tree) → constants_of a ≡ constants_of b → AllByRecursion (IsFormula a) ts → AllByRecursion (IsFormula b) ts
formulas-same a b [] e h = tt
formulas-same a b (t ∷ ts) e h = ((tree-same a b t e h.0.0, h.0.1), formulas-same a b ts e h.1)

asked-same : (a b : Scope) (ts : List ValueTerm) → constants_of a ≡ constants_of b → AllByRecursion (IsAskable a) ts → AllByRecursion (IsAskable b) ts
asked-same a b [] e h = tt
asked-same a b (t ∷ ts) e h = ((tree-same a b t.tree e h.0.0, h.0.1), asked-same a b ts e h.1)

check-same : (a b : Scope) (effect : Effect) → constants_of a ≡ constants_of b → IfCheck a effect → IfCheck b effect
check-same a b (Check trees) e h = formulas-same a b trees e h
check-same a b (Values terms) e h = asked-same a b terms e h
check-same a b _ e h = tt

ok-after : (s : State) (e : Expr) → HasTokens e → IsSteady s → IfOk (after s e) (Keeps s)
ok-after s e w h =
    ok-commanded s e (Keeps s) w h
    (λ now command place args ws b. ok-weaker (step command place args now) (Keeps now) (Keeps s) (λ r m. (m.0, check-same (scope_of now) (scope_of s) r.1 b.1.constants m.1)) (ok-step command place args now ws b.0))

after-gives : (s now : State) (e : Expr) (effect : Effect) → HasTokens e → IsSteady s → after s e ≡ Ok (now, effect) → Keeps s (now, effect)
after-gives s now e effect w h is = subst (λ (r : Move). IfOk r (Keeps s)) is (ok-after s e w h)

-- each state that is reached is steady
pub steady-reached : (s : State) → IsReached s → IsSteady s
steady-reached _ opens = steady-opening
steady-reached _ (moves s now e effect r w is) = (after-gives s now e effect w (steady-reached s r) is).0
steady-reached _ (answers s answer counts r) = let h = steady-reached s r in record { levels = h.levels; few = h.few }

formulas-trees : (scope : Scope) (ts : List Tree) → AllByRecursion (IsFormula scope) ts → AllByRecursion (IsTreeOf scope) ts
formulas-trees scope [] h = tt
formulas-trees scope (t ∷ ts) h = (h.0.0, formulas-trees scope ts h.1)

pub states-are_lawful : StatesAreLawful
states-are_lawful s r =
    let h = steady-reached s r in
    record {
      scope = h.levels.scope;
      names = apart-pairs (scope_of s) h.levels.names;
      levels = h.few;
      assertions = All-from_recursion (IsTreeOf (scope_of s)) (in_force s) (formulas-trees (scope_of s) (in_force s) (steady-formulas s h));
    }

formulas-assertions : (scope : Scope) (ts : List Tree) → AllByRecursion (IsFormula scope) ts → AllByRecursion IsAssertion ts
formulas-assertions scope [] h = tt
formulas-assertions scope (t ∷ ts) h = (record { sorted = h.0.0.sorted; bool = h.0.1; closed = h.0.0.closed }, formulas-assertions scope ts h.1)

-- their constants are those of the scope
abbrev IsOfScope : Scope → ℕ × Sort → Type 0
IsOfScope scope leaf = slice_get (map (λ x. x.1) (constants_of scope)) leaf.0 ≡ Some leaf.1

leaves-there : (scope : Scope) (ts : List Tree) → AllByRecursion (IsFormula scope) ts → AllByRecursion (IsOfScope scope) (constants_of_each ts)
leaves-there scope [] h = tt
leaves-there scope (t ∷ ts) h = both (IsOfScope scope) (leaves_of t) (constants_of_each ts) (recursion_from_All (IsOfScope scope) (leaves_of t) h.0.0.constants) (leaves-there scope ts h.1)

one-sort : (scope : Scope) (a b : ℕ × Sort) → IsOfScope scope a → IsOfScope scope b → a.0 ≡ b.0 → a.1 ≡ b.1
one-sort scope a b h k e =
    let same : slice_get (map (λ x. x.1) (constants_of scope)) a.0 ≡ slice_get (map (λ x. x.1) (constants_of scope)) b.0 = ap (λ i. slice_get (map (λ x. x.1) (constants_of scope)) i) e in
    let some : Some a.1 ≡ Some b.1 = sym h ∙ same ∙ k in
    cc

pub checks-are_lawful : ChecksAreLawful
checks-are_lawful s now e trees r w is =
    let fs = (after-gives s now e (Check trees) w (steady-reached s r) is).1 in
    let leaves = All-from_recursion (IsOfScope (scope_of s)) (constants_of_each trees) (leaves-there (scope_of s) trees fs) in (
      All-from_recursion IsAssertion trees (formulas-assertions (scope_of s) trees fs),
      λ i j d lt le. one-sort (scope_of s) (get_or (constants_of_each trees) i d) (get_or (constants_of_each trees) j d)
          (All-get_or (IsOfScope (scope_of s)) (constants_of_each trees) i d (omega arith) leaves) (All-get_or (IsOfScope (scope_of s)) (constants_of_each trees) j d le leaves),
    )

pub values-are_lawful : ValuesAreLawful
values-are_lawful s now e terms r w is = All-from_recursion (IsAskable (scope_of s)) terms (after-gives s now e (Values terms) w (steady-reached s r) is).1
