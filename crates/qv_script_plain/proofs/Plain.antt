-- Commands that speak of no terms, by their arguments.
use Rattle.std.proofs.Common.{◌≡◌, ◌≤◌, ◌<◌, ◌+◌, ℕ, Bool, true, false, not, nat_le, ◌&&◌, Option, Some, None, List, [], ◌∷◌, map, length, Vec, Global, refl, sym, ap, subst, ◌∙◌, Ok, Err, arith}
use Rattle.std.specs.Prelude.{Result, is_some}
use Rattle.std.specs.List.{list_any}
use Rattle.std.proofs.lemmas.Bool.Decides.{nat_tests}
use Rattle.std.specs.Str.{bytes_eq}
use Rattle.qv_sexpr.specs.Script.{atom, list, none, also}
use Rattle.qv_sexpr.specs.Script.{Tree as Written}
use Rattle.qv_words.specs.Tree.{Tree}
use Rattle.qv_words.specs.declared.sort.Sort.{Sort}
use Rattle.qv_elab_defs.specs.declared.faults.ElabFault.{ElabFault}
use Rattle.qv_elab_defs.specs.declared.faults.ElabFault.TheVariants as elab
use Rattle.qv_elab_defs.specs.Answers.{ReadsSort}
use Rattle.qv_elab_defs.specs.Tokens.{Number, symbol_of, numeral_of}
use Rattle.qv_elab_defs.specs.Scopes.{Synonym, sort_key}
use Rattle.qv_elab_defs.specs.Synonyms.{scoped_sort}
use Rattle.qv_elab_defs.specs.Faults.{◌>>=◌}
use Rattle.qv_elab_defs.specs.Faults.{Fault as TermFault}
use Rattle.qv_script_defs.specs.declared.faults.ScriptFault.{ScriptFault}
use Rattle.qv_script_defs.specs.declared.faults.ScriptFault.TheVariants.{At, NoMemory}
use Rattle.qv_script_defs.specs.declared.faults.ScriptKind.TheVariants.{Form, NameInUse, Logic, LevelLimit, PopBelow, NoCore}
use Rattle.qv_script_defs.specs.Faults.{Fault, refuse, demand, shaped, inside}
use Rattle.qv_script_defs.specs.State.{State, levels, in_force, names_from, named_in_force, terms_behind, placed, last_checked, is_taken, is_sort_taken, scope_of, with_entry, with_constant, pushed, popped}
use Rattle.qv_script_defs.specs.Parts.{truth_of, string_of, spaced}
use Rattle.qv_script_defs.specs.declared.settings.Setting.TheVariants as setting
use Rattle.qv_script_defs.specs.Moves.{Move, Quiet, Text, set_logic, with_value, is_untouched, set_channel, set_to, declare, define_sort, push, pop, level_limit, Core, has_core, symbols_of, core_of, assumed_core_of}
use Rattle.qv_script_defs.specs.Commands.{SetLogic, SetOption, SetInfo, DeclareConst, DeclareFun, DefineSort, GetInfo, GetOption, Echo, step}
use Rattle.qv_script_defs.specs.declared.effects.Effect.TheVariants as done
use Rattle.qv_script_stack.specs.Held.{Held, IsScriptIn, named_of, last_of, texts_of, terms_in, terms_of}
use Rattle.qv_script_stack.specs.Steps.{Settles, RunsOut}
use Rattle.qv_script_defs.specs.Faults.{fault_of}
use Rattle.qv_script_defs.specs.Logics.{is_logic}
use Rattle.qv_script_plain.specs.Told.{kept, channelled}
use Rattle.qv_script_stack.specs.declared.held.Chosen.{Chosen}
use Rattle.qv_script_stack.specs.Changes.{with_option}
use Rattle.qv_script_stack.proofs.Holding.{held-option, ids-count}
use Rattle.qv_script_stack.proofs.Sized.{in-order}
use Rattle.qv_script_stack.proofs.Stepping.{trees-behind}
use Rattle.qv_script_parts.specs.Parted.{is_empty_list, TellsText}

-- a constant that has no arguments
pub declare-fun-as : (p : ℕ) (s : State) (x sorts sort : Written) (name : List ℕ) → symbol_of x ≡ Some name → is_empty_list sorts ≡ Some true → step DeclareFun p (x ∷ sorts ∷ sort ∷ []) s ≡ declare p s name sort
declare-fun-as p s x (atom l) sort name n h = absurd (cc)
declare-fun-as p s x (list place none close) sort name n h = ap (λ o. shaped p o >>= λ m. declare p s m sort) n
declare-fun-as p s x (list place (also f fs) close) sort name n h = absurd (cc)

-- a sort that has no parameters
pub define-sort-as : (p : ℕ) (s : State) (x parameters sort : Written) (name : List ℕ) → symbol_of x ≡ Some name → is_empty_list parameters ≡ Some true → step DefineSort p (x ∷ parameters ∷ sort ∷ []) s ≡ define_sort p s name sort
define-sort-as p s x (atom l) sort name n h = absurd (cc)
define-sort-as p s x (list place none close) sort name n h = ap (λ o. shaped p o >>= λ m. define_sort p s m sort) n
define-sort-as p s x (list place (also f fs) close) sort name n h = absurd (cc)

-- another number of arguments
module _ (p : ℕ) (s : State) where
  pub no-set-logic : (es : List Written) → (length es ≡ 1 → ⊥) → step SetLogic p es s ≡ refuse p Form
  no-set-logic [] n = refl
  no-set-logic (e ∷ []) n = absurd (n refl)
  no-set-logic (e ∷ f ∷ es) n = refl

  pub no-set-option : (es : List Written) → (length es ≡ 2 → ⊥) → step SetOption p es s ≡ refuse p Form
  no-set-option [] n = refl
  no-set-option (e ∷ []) n = refl
  no-set-option (e ∷ f ∷ []) n = absurd (n refl)
  no-set-option (e ∷ f ∷ g ∷ es) n = refl

  pub no-set-info : (es : List Written) → (length es ≡ 1 → ⊥) → (length es ≡ 2 → ⊥) → step SetInfo p es s ≡ refuse p Form
  no-set-info [] n m = refl
  no-set-info (e ∷ []) n m = absurd (n refl)
  no-set-info (e ∷ f ∷ []) n m = absurd (m refl)
  no-set-info (e ∷ f ∷ g ∷ es) n m = refl

  pub no-declare-const : (es : List Written) → (length es ≡ 2 → ⊥) → step DeclareConst p es s ≡ refuse p Form
  no-declare-const [] n = refl
  no-declare-const (e ∷ []) n = refl
  no-declare-const (e ∷ f ∷ []) n = absurd (n refl)
  no-declare-const (e ∷ f ∷ g ∷ es) n = refl

  pub no-declare-fun : (es : List Written) → (length es ≡ 3 → ⊥) → step DeclareFun p es s ≡ refuse p Form
  no-declare-fun [] n = refl
  no-declare-fun (e ∷ []) n = refl
  no-declare-fun (e ∷ f ∷ []) n = refl
  no-declare-fun (e ∷ f ∷ g ∷ []) n = absurd (n refl)
  no-declare-fun (e ∷ f ∷ g ∷ h ∷ es) n = refl

  pub no-define-sort : (es : List Written) → (length es ≡ 3 → ⊥) → step DefineSort p es s ≡ refuse p Form
  no-define-sort [] n = refl
  no-define-sort (e ∷ []) n = refl
  no-define-sort (e ∷ f ∷ []) n = refl
  no-define-sort (e ∷ f ∷ g ∷ []) n = absurd (n refl)
  no-define-sort (e ∷ f ∷ g ∷ h ∷ es) n = refl

  pub no-get-info : (es : List Written) → (length es ≡ 1 → ⊥) → step GetInfo p es s ≡ refuse p Form
  no-get-info [] n = refl
  no-get-info (e ∷ []) n = absurd (n refl)
  no-get-info (e ∷ f ∷ es) n = refl

  pub no-get-option : (es : List Written) → (length es ≡ 1 → ⊥) → step GetOption p es s ≡ refuse p Form
  no-get-option [] n = refl
  no-get-option (e ∷ []) n = absurd (n refl)
  no-get-option (e ∷ f ∷ es) n = refl

  pub no-echo : (es : List Written) → (length es ≡ 1 → ⊥) → step Echo p es s ≡ refuse p Form
  no-echo [] n = refl
  no-echo (e ∷ []) n = absurd (n refl)
  no-echo (e ∷ f ∷ es) n = refl

pub set-logic-refused : (p : ℕ) (s : State) (name : List ℕ) → (not s.logic && not s.begun && is_logic name) ≡ false → set_logic p s name ≡ refuse p Logic
set-logic-refused p s name e = ap (λ b. demand p Logic b >>= λ _. Ok (record s { logic = true }, Quiet)) e

pub set-logic-done : (p : ℕ) (s : State) (name : List ℕ) → (not s.logic && not s.begun && is_logic name) ≡ true → set_logic p s name ≡ Ok (record s { logic = true }, Quiet)
set-logic-done p s name e = ap (λ b. demand p Logic b >>= λ _. Ok (record s { logic = true }, Quiet)) e

pub push-over : (p : ℕ) (s : State) (n : ℕ) → level_limit < length s.opened + n → push p s n ≡ refuse p LevelLimit
push-over p s n lt =
    let test : nat_le (length s.opened + n) level_limit ≡ false = grind (arith, nat_tests) in
    ap (λ b. demand p LevelLimit b >>= λ _. Ok (pushed n s, Quiet)) test

pub push-within : (p : ℕ) (s : State) (n : ℕ) → length s.opened + n ≤ level_limit → push p s n ≡ Ok (pushed n s, Quiet)
push-within p s n le =
    let test : nat_le (length s.opened + n) level_limit ≡ true = grind (arith, nat_tests) in
    ap (λ b. demand p LevelLimit b >>= λ _. Ok (pushed n s, Quiet)) test

pub pop-over : (p : ℕ) (s : State) (n : ℕ) → length s.opened < n → pop p s n ≡ refuse p PopBelow
pop-over p s n lt =
    let test : nat_le n (length s.opened) ≡ false = grind (arith, nat_tests) in
    ap (λ b. demand p PopBelow b >>= λ _. Ok (popped n s, Quiet)) test

pub pop-within : (p : ℕ) (s : State) (n : ℕ) → n ≤ length s.opened → pop p s n ≡ Ok (popped n s, Quiet)
pop-within p s n le =
    let test : nat_le n (length s.opened) ≡ true = grind (arith, nat_tests) in
    ap (λ b. demand p PopBelow b >>= λ _. Ok (popped n s, Quiet)) test

-- options
pub success-done : (p : ℕ) (s : State) (key : List ℕ) (v : Written) (b : Bool) → truth_of v ≡ Some b → set_to p s key v (Some setting.Success) ≡ Ok (record (with_value key v s) { success = b }, Quiet)
success-done p s key v b e = ap (λ o. shaped p o >>= λ x. Ok (record (with_value key v s) { success = x }, Quiet)) e

abbrev global_next : ℕ → State → List ℕ → Written → Bool → Bool → Move
global_next p s key v test b = demand p Form test >>= λ _. Ok (record (with_value key v s) { global = b }, Quiet)

pub global-late : (p : ℕ) (s : State) (key : List ℕ) (v : Written) (b : Bool) → truth_of v ≡ Some b → is_untouched s ≡ false → set_to p s key v (Some setting.Global) ≡ refuse p Form
global-late p s key v b e late =
    ap (λ o. shaped p o >>= global_next p s key v (is_untouched s)) e ∙ ap (λ t. global_next p s key v t b) late

pub global-done : (p : ℕ) (s : State) (key : List ℕ) (v : Written) (b : Bool) → truth_of v ≡ Some b → is_untouched s ≡ true → set_to p s key v (Some setting.Global) ≡ Ok (record (with_value key v s) { global = b }, Quiet)
global-done p s key v b e first =
    ap (λ o. shaped p o >>= global_next p s key v (is_untouched s)) e ∙ ap (λ t. global_next p s key v t b) first

pub untouched-held : (trees : List Tree) (k : Held) (s : State) → IsScriptIn trees k s → (not k.begun && not k.nested) ≡ is_untouched s
untouched-held trees k s h = ap (λ b. not b && not k.nested) h.begun ∙ ap (λ b. not s.begun && not b) h.nested

pub truth-done : (p : ℕ) (s : State) (key : List ℕ) (v : Written) (b : Bool) → truth_of v ≡ Some b → set_to p s key v (Some setting.Truth) ≡ kept key v s
truth-done p s key v b e = ap (λ o. shaped p o >>= λ _. kept key v s) e

pub numeral-done : (p : ℕ) (s : State) (key : List ℕ) (v : Written) → is_some (numeral_of v) ≡ true → set_to p s key v (Some setting.Numeral) ≡ kept key v s
numeral-done p s key v e = go (numeral_of v) e
  where
    go : (o : Option Number) → is_some o ≡ true → (shaped p o >>= λ _. kept key v s) ≡ kept key v s
    go (Some n) f = refl
    go None f = absurd (cc)

pub numeral-unshaped : (p : ℕ) (s : State) (key : List ℕ) (v : Written) → is_some (numeral_of v) ≡ false → set_to p s key v (Some setting.Numeral) ≡ refuse p Form
numeral-unshaped p s key v e = go (numeral_of v) e
  where
    go : (o : Option Number) → is_some o ≡ false → ◌≡◌ {A = Move} (shaped p o >>= λ _. kept key v s) (refuse p Form)
    go (Some n) f = absurd (cc)
    go None f = refl

pub channel-done : (p : ℕ) (s : State) (key : List ℕ) (v : Written) (channels : List (List ℕ)) (text : List ℕ) → string_of v ≡ Some text → set_channel p s key v channels ≡ channelled (list_any (bytes_eq text) channels) key v s
channel-done p s key v channels text e = ap (λ o. shaped p o >>= λ t. channelled (list_any (bytes_eq t) channels) key v s) e

-- what is held behind an option
pub chosen-held : (trees : List Tree) (k k' : Held) (s : State) (own : Chosen) (key : List ℕ) (v : Written) → own.key.items ≡ key → own.value.items ≡ spaced v → k' ≡ with_option own k → IsScriptIn trees k s → IsScriptIn trees k' (with_value key v s)
chosen-held trees k k' s own key v e f is h =
    subst (λ (x : Held). IsScriptIn trees x (with_value key v s)) (sym is)
    (subst (λ (n : List ℕ). IsScriptIn trees (with_option own k) (record s { options = (n, spaced v) ∷ s.options })) e
    (subst (λ (n : List ℕ). IsScriptIn trees (with_option own k) (record s { options = (own.key.items, n) ∷ s.options })) f (held-option trees own k s h)))

pub declare-taken : (p : ℕ) (s : State) (name : List ℕ) (e : Written) → is_taken s name ≡ true → declare p s name e ≡ refuse p NameInUse
declare-taken p s name e t = ap (λ b. demand p NameInUse (not b) >>= λ _. inside (scoped_sort (scope_of s) e) >>= λ sort. Ok (with_constant name sort s, Quiet)) t

declare-fresh : (p : ℕ) (s : State) (name : List ℕ) (e : Written) → is_taken s name ≡ false → declare p s name e ≡ (inside (scoped_sort (scope_of s) e) >>= λ sort. Ok (with_constant name sort s, Quiet))
declare-fresh p s name e t = ap (λ b. demand p NameInUse (not b) >>= λ _. inside (scoped_sort (scope_of s) e) >>= λ sort. Ok (with_constant name sort s, Quiet)) t

abbrev declared_next : List ℕ → State → Sort → Move
declared_next name s sort = Ok (with_constant name sort s, Quiet)

pub declare-done : (p : ℕ) (s : State) (name : List ℕ) (e : Written) (sort : Sort) → is_taken s name ≡ false → scoped_sort (scope_of s) e ≡ Ok sort → declare p s name e ≡ Ok (with_constant name sort s, Quiet)
declare-done p s name e sort t r = declare-fresh p s name e t ∙ ap (λ (x : Result Sort TermFault). inside x >>= declared_next name s) r

pub declare-faulty : (trees : List Tree) (held : Held) (p : ℕ) (s : State) (name : List ℕ) (e : Written) (fault : ElabFault) → is_taken s name ≡ false → ReadsSort (scoped_sort (scope_of s) e) (Err fault) → Settles trees held (declare p s name e) (Err (fault_of fault))
declare-faulty trees held p s name e (elab.At place kind) t r = declare-fresh p s name e t ∙ ap (λ (x : Result Sort TermFault). inside x >>= declared_next name s) r
declare-faulty trees held p s name e elab.NoMemory t r = absurd r

-- a sort by its name
abbrev named_next : List ℕ → State → Sort → Move
named_next name s sort = Ok (with_entry (sort_key name) (Synonym sort) s, Quiet)

pub sort-taken : (p : ℕ) (s : State) (name : List ℕ) (e : Written) → is_sort_taken s name ≡ true → define_sort p s name e ≡ refuse p NameInUse
sort-taken p s name e t = ap (λ b. demand p NameInUse (not b) >>= λ _. inside (scoped_sort (scope_of s) e) >>= named_next name s) t

sort-fresh : (p : ℕ) (s : State) (name : List ℕ) (e : Written) → is_sort_taken s name ≡ false → define_sort p s name e ≡ (inside (scoped_sort (scope_of s) e) >>= named_next name s)
sort-fresh p s name e t = ap (λ b. demand p NameInUse (not b) >>= λ _. inside (scoped_sort (scope_of s) e) >>= named_next name s) t

pub sort-done : (p : ℕ) (s : State) (name : List ℕ) (e : Written) (sort : Sort) → is_sort_taken s name ≡ false → scoped_sort (scope_of s) e ≡ Ok sort → define_sort p s name e ≡ Ok (with_entry (sort_key name) (Synonym sort) s, Quiet)
sort-done p s name e sort t r = sort-fresh p s name e t ∙ ap (λ (x : Result Sort TermFault). inside x >>= named_next name s) r

pub sort-faulty : (trees : List Tree) (held : Held) (p : ℕ) (s : State) (name : List ℕ) (e : Written) (fault : ElabFault) → is_sort_taken s name ≡ false → ReadsSort (scoped_sort (scope_of s) e) (Err fault) → Settles trees held (define_sort p s name e) (Err (fault_of fault))
sort-faulty trees held p s name e (elab.At place kind) t r = sort-fresh p s name e t ∙ ap (λ (x : Result Sort TermFault). inside x >>= named_next name s) r
sort-faulty trees held p s name e elab.NoMemory t r = absurd r

-- cores
abbrev core_next : State → Unit {0} → Move
core_next s _ = Ok (s, Core (last_checked s) (symbols_of (named_in_force s)))

pub core-refused : (p : ℕ) (trees : List Tree) (k : Held) (s : State) → IsScriptIn trees k s → has_core (last_of (length k.constants) k.last) ≡ false → core_of p s ≡ refuse p NoCore
core-refused p trees k s h missing = ap (λ b. demand p NoCore b >>= core_next s) (ap has_core (sym h.last) ∙ missing)

pub core-held : (p : ℕ) (trees : List Tree) (k : Held) (s : State) → IsScriptIn trees k s → has_core (last_of (length k.constants) k.last) ≡ true → Settles trees k (core_of p s) (Ok done.Core)
core-held p trees k s h there =
    let named : named_in_force s ≡ named_of k.named = ap (names_from 0) (in-order (levels s)) ∙ sym h.named in (
      s,
      Core (last_checked s) (symbols_of (named_in_force s)),
      ap (λ b. demand p NoCore b >>= core_next s) (ap has_core (sym h.last) ∙ there),
      h,
      (last_checked s, ap (λ xs. Core (last_checked s) (symbols_of xs)) named, trees-behind trees k.assertions k.assumed (in_force s) s.assumed h.assertions h.assumed),
    )

-- cores among what was assumed
abbrev Texts : Type 0
Texts = Option (Vec (Vec ℕ Global) Global)

some-texts : (texts : Texts) → is_some (texts_of texts) ≡ is_some texts
some-texts None = refl
some-texts (Some texts) = refl

assumed-there : (trees : List Tree) (k : Held) (s : State) → IsScriptIn trees k s → (has_core s.last && is_some s.terms) ≡ (has_core (last_of (length k.constants) k.last) && is_some k.terms)
assumed-there trees k s h =
    ap (λ l. has_core l && is_some s.terms) (sym h.last)
    ∙ ap (λ b. has_core (last_of (length k.constants) k.last) && b) (ap is_some (sym h.terms) ∙ some-texts k.terms)

texts-behind : (s : State) (n : ℕ) (texts : Texts) → n ≡ length (in_force s) → terms_behind s (texts_of texts) ≡ placed n (map (λ t. t.items) (terms_in texts))
texts-behind s n None e = refl
texts-behind s n (Some texts) e = ap (λ m. placed m (map (λ (t : Vec ℕ Global). t.items) texts.items)) (sym e)

abbrev assumed_next : State → Unit {0} → Move
assumed_next s _ = Ok (s, Core (last_checked s) (terms_behind s s.terms))

pub assumed-refused : (p : ℕ) (trees : List Tree) (k : Held) (s : State) → IsScriptIn trees k s → (has_core (last_of (length k.constants) k.last) && is_some k.terms) ≡ false → assumed_core_of p s ≡ refuse p NoCore
assumed-refused p trees k s h missing = ap (λ b. demand p NoCore b >>= assumed_next s) (assumed-there trees k s h ∙ missing)

pub assumed-held : (p : ℕ) (trees : List Tree) (k : Held) (s : State) → IsScriptIn trees k s → (has_core (last_of (length k.constants) k.last) && is_some k.terms) ≡ true → Settles trees k (assumed_core_of p s) (Ok done.AssumedCore)
assumed-held p trees k s h there =
    let behind : terms_behind s s.terms ≡ terms_of k = ap (terms_behind s) (sym h.terms) ∙ texts-behind s (length k.assertions) k.terms (ids-count trees k.assertions (in_force s) h.assertions) in (
      s,
      Core (last_checked s) (terms_behind s s.terms),
      ap (λ b. demand p NoCore b >>= assumed_next s) (assumed-there trees k s h ∙ there),
      h,
      (last_checked s, ap (Core (last_checked s)) behind, trees-behind trees k.assertions k.assumed (in_force s) s.assumed h.assertions h.assumed),
    )

-- what is told of a key
pub info-faulty : (trees : List Tree) (held : Held) (s : State) (given : Result (List ℕ) Fault) (f : ScriptFault) → TellsText given (Err f) → RunsOut {B = Vec ℕ Global} given (Err f) → Settles trees held (given >>= λ text. Ok (s, Text text)) (Err f)
info-faulty trees held s given (At place kind) h k = ap (λ (r : Result (List ℕ) Fault). r >>= λ text. Ok (s, Text text)) h
info-faulty trees held s (Ok text) NoMemory h k = refl
info-faulty trees held s (Err fault) NoMemory h k = absurd (cc)
