-- Commands by their names and the items of their arguments.
use Rattle.std.proofs.Common.{◌≡◌, ◌≤◌, ◌<◌, ℕ, zero, suc, true, List, [], ◌∷◌, length, refl, sym, ap, subst, ◌∙◌, Ok, Err, arith}
use Rattle.std.specs.Prelude.{Result, slice_index_or}
use Rattle.qv_sexpr.specs.declared.items.Expr.{Expr}
use Rattle.qv_sexpr.specs.Script.{Tree as Written}
use Rattle.qv_sexpr.specs.Items.{Begins}
use Rattle.qv_words.specs.Tree.{Tree}
use Rattle.qv_elab_defs.specs.Faults.{◌>>=◌}
use Rattle.qv_script_parts.specs.declared.command.Command.{Command as Told}
use Rattle.qv_script_parts.specs.declared.command.Command.TheVariants as code
use Rattle.qv_script_defs.specs.declared.effects.Effect.{Effect as Done}
use Rattle.qv_script_defs.specs.declared.faults.ScriptFault.{ScriptFault}
use Rattle.qv_script_defs.specs.declared.faults.ScriptFault.TheVariants.{At}
use Rattle.qv_script_defs.specs.declared.faults.ScriptKind.TheVariants.{Form}
use Rattle.qv_script_defs.specs.Faults.{Fault, refuse}
use Rattle.qv_script_parts.specs.Parted.{told_by}
use Rattle.qv_script_defs.specs.State.{State}
use Rattle.qv_script_defs.specs.Moves.{Move}
use Rattle.qv_script_defs.specs.Commands.{SetInfo, DefineFun, DefineConst, Assert, CheckSat, CheckSatAssuming, GetValue, GetModel, GetUnsatCore, GetUnsatAssumptions, ResetAssertions, Reset, Leave, step}
use Rattle.qv_script_stack.specs.Held.{Held}
use Rattle.qv_script_parts.specs.Meant.{meant, is_setting, is_level, is_declaration}
use Rattle.qv_script_stack.specs.Steps.{Gives, Settles, RunsOut, Steps, StepsIn, Does}
use Rattle.qv_script_terms.specs.Beginnings.{command_beginning, RunsOutIn}
use Rattle.qv_script_parts.specs.Parted.{AreParts}
use Rattle.qv_script_stack.proofs.Stepping.{settles-fault, parts-count, no-part, two-parts}
use Rattle.qv_script_terms.proofs.Asked.{part-begins}

-- so many arguments
pub one-long : (xs : List ℕ) → 1 ≤ length xs → length xs < 2 → xs ≡ slice_index_or xs 0 0 ∷ []
one-long [] a b = absurd (omega (arith, a))
one-long (x ∷ []) a b = refl
one-long (x ∷ y ∷ xs) a b = absurd (omega (arith, b))

pub two-long : (xs : List ℕ) → 2 ≤ length xs → length xs < 3 → xs ≡ slice_index_or xs 0 0 ∷ slice_index_or xs 1 0 ∷ []
two-long [] a b = absurd (omega (arith, a))
two-long (x ∷ []) a b = absurd (omega (arith, a))
two-long (x ∷ y ∷ []) a b = refl
two-long (x ∷ y ∷ z ∷ xs) a b = absurd (omega (arith, b))

pub three-long : (xs : List ℕ) → 3 ≤ length xs → length xs < 4 → xs ≡ slice_index_or xs 0 0 ∷ slice_index_or xs 1 0 ∷ slice_index_or xs 2 0 ∷ []
three-long [] a b = absurd (omega (arith, a))
three-long (x ∷ []) a b = absurd (omega (arith, a))
three-long (x ∷ y ∷ []) a b = absurd (omega (arith, a))
three-long (x ∷ y ∷ z ∷ []) a b = refl
three-long (x ∷ y ∷ z ∷ w ∷ xs) a b = absurd (omega (arith, b))

pub four-long : (xs : List ℕ) → 4 ≤ length xs → length xs < 5 → xs ≡ slice_index_or xs 0 0 ∷ slice_index_or xs 1 0 ∷ slice_index_or xs 2 0 ∷ slice_index_or xs 3 0 ∷ []
four-long [] a b = absurd (omega (arith, a))
four-long (x ∷ []) a b = absurd (omega (arith, a))
four-long (x ∷ y ∷ []) a b = absurd (omega (arith, a))
four-long (x ∷ y ∷ z ∷ []) a b = absurd (omega (arith, a))
four-long (x ∷ y ∷ z ∷ w ∷ []) a b = refl
four-long (x ∷ y ∷ z ∷ w ∷ v ∷ xs) a b = absurd (omega (arith, b))

-- another number of arguments
module _ (p : ℕ) (s : State) where
  pub no-define-fun : (es : List Written) → (length es ≡ 4 → ⊥) → step DefineFun p es s ≡ refuse p Form
  no-define-fun [] n = refl
  no-define-fun (e ∷ []) n = refl
  no-define-fun (e ∷ f ∷ []) n = refl
  no-define-fun (e ∷ f ∷ g ∷ []) n = refl
  no-define-fun (e ∷ f ∷ g ∷ h ∷ []) n = absurd (n refl)
  no-define-fun (e ∷ f ∷ g ∷ h ∷ i ∷ es) n = refl

  pub no-define-const : (es : List Written) → (length es ≡ 3 → ⊥) → step DefineConst p es s ≡ refuse p Form
  no-define-const [] n = refl
  no-define-const (e ∷ []) n = refl
  no-define-const (e ∷ f ∷ []) n = refl
  no-define-const (e ∷ f ∷ g ∷ []) n = absurd (n refl)
  no-define-const (e ∷ f ∷ g ∷ h ∷ es) n = refl

  pub no-assert : (es : List Written) → (length es ≡ 1 → ⊥) → step Assert p es s ≡ refuse p Form
  no-assert [] n = refl
  no-assert (e ∷ []) n = absurd (n refl)
  no-assert (e ∷ f ∷ es) n = refl

  pub no-check-sat : (es : List Written) → (length es ≡ 0 → ⊥) → step CheckSat p es s ≡ refuse p Form
  no-check-sat [] n = absurd (n refl)
  no-check-sat (e ∷ es) n = refl

  pub no-check-assuming : (es : List Written) → (length es ≡ 1 → ⊥) → step CheckSatAssuming p es s ≡ refuse p Form
  no-check-assuming [] n = refl
  no-check-assuming (e ∷ []) n = absurd (n refl)
  no-check-assuming (e ∷ f ∷ es) n = refl

  pub no-get-value : (es : List Written) → (length es ≡ 1 → ⊥) → step GetValue p es s ≡ refuse p Form
  no-get-value [] n = refl
  no-get-value (e ∷ []) n = absurd (n refl)
  no-get-value (e ∷ f ∷ es) n = refl

  pub no-get-model : (es : List Written) → (length es ≡ 0 → ⊥) → step GetModel p es s ≡ refuse p Form
  no-get-model [] n = absurd (n refl)
  no-get-model (e ∷ es) n = refl

  pub no-get-unsat-core : (es : List Written) → (length es ≡ 0 → ⊥) → step GetUnsatCore p es s ≡ refuse p Form
  no-get-unsat-core [] n = absurd (n refl)
  no-get-unsat-core (e ∷ es) n = refl

  pub no-get-unsat-assumptions : (es : List Written) → (length es ≡ 0 → ⊥) → step GetUnsatAssumptions p es s ≡ refuse p Form
  no-get-unsat-assumptions [] n = absurd (n refl)
  no-get-unsat-assumptions (e ∷ es) n = refl

  pub no-reset-assertions : (es : List Written) → (length es ≡ 0 → ⊥) → step ResetAssertions p es s ≡ refuse p Form
  no-reset-assertions [] n = absurd (n refl)
  no-reset-assertions (e ∷ es) n = refl

  pub no-reset : (es : List Written) → (length es ≡ 0 → ⊥) → step Reset p es s ≡ refuse p Form
  no-reset [] n = absurd (n refl)
  no-reset (e ∷ es) n = refl

  pub no-leave : (es : List Written) → (length es ≡ 0 → ⊥) → step Leave p es s ≡ refuse p Form
  no-leave [] n = absurd (n refl)
  no-leave (e ∷ es) n = refl

pub args-begin : (expr : Expr) (ats : List ℕ) (es : List Written) → AreParts expr ats es → (i : ℕ) → i < length ats → Begins expr (slice_index_or ats i 0)
args-begin expr [] es h i lt = absurd (omega (arith, lt))
args-begin expr (a ∷ ats) [] h i lt = absurd h
args-begin expr (a ∷ ats) (e ∷ es) h zero lt = part-begins expr a e h.0
args-begin expr (a ∷ ats) (e ∷ es) h (suc i) lt = args-begin expr ats es h.1 i (omega (arith, lt))

-- a command by its name, with these arguments
module _ (place : ℕ) (expr : Expr) where
  pub steps-as : (c d : Told) (xs ys : List ℕ) (old new : Held) (r : Result Done ScriptFault) → c ≡ d → xs ≡ ys → Steps (meant d) place expr ys old new r → Steps (meant c) place expr xs old new r
  steps-as c d xs ys old new r e f h trees s es k parts =
      subst (λ q. Settles trees new (step (meant q) place es s) r) (sym e) (h trees s es k (subst (λ zs. AreParts expr zs es) f parts))

  pub steps-in-as : (c d : Told) (xs ys : List ℕ) (before behind : List Tree) (old new : Held) (r : Result Done ScriptFault) → c ≡ d → xs ≡ ys → StepsIn (meant d) place expr ys before behind old new r → StepsIn (meant c) place expr xs before behind old new r
  steps-in-as c d xs ys before behind old new r e f h s es k parts =
      subst (λ q. Gives behind new (step (meant q) place es s) r) (sym e) (h s es k (subst (λ zs. AreParts expr zs es) f parts))

  pub runs-in-as : (c d : Told) (xs ys : List ℕ) (trees : List Tree) (old : Held) (r : Result Done ScriptFault) → c ≡ d → xs ≡ ys → RunsOutIn (meant d) place expr ys trees old r → RunsOutIn (meant c) place expr xs trees old r
  runs-in-as c d xs ys trees old r e f h s es k parts =
      subst (λ q. RunsOut (command_beginning (meant q) place es s) r) (sym e) (h s es k (subst (λ zs. AreParts expr zs es) f parts))

  -- an information with a value
  pub info-as : (c : Told) (xs : List ℕ) (old new : Held) (r : Result Done ScriptFault) → c ≡ code.SetInfo → xs ≡ slice_index_or xs 0 0 ∷ slice_index_or xs 1 0 ∷ [] → Steps SetInfo place expr (slice_index_or xs 0 0 ∷ []) old new r → Steps (meant c) place expr xs old new r
  info-as c xs old new r e f h trees s es k parts =
      let two = two-parts expr (slice_index_or xs 0 0) (slice_index_or xs 1 0) es (subst (λ zs. AreParts expr zs es) f parts) in
      subst (λ q. Settles trees new (step (meant q) place es s) r) (sym e)
      (subst (λ (ys : List Written). Settles trees new (step SetInfo place ys s) r) (sym two.2) (h trees s (two.0 ∷ []) k (two.3, tt)))

  -- a command without arguments
  pub does-as : (c d : Told) (xs : List ℕ) (old new : Held) (r : Result Done ScriptFault) → c ≡ d → xs ≡ [] → Does (meant d) place old new r → Steps (meant c) place expr xs old new r
  does-as c d xs old new r e f h trees s es k parts =
      subst (λ q. Settles trees new (step (meant q) place es s) r) (sym e)
      (subst (λ (ys : List Written). Settles trees new (step (meant d) place ys s) r) (sym (no-part expr es (subst (λ zs. AreParts expr zs es) f parts))) (h trees s k))

  -- a command of another shape
  pub steps-form : (c d : Told) (xs : List ℕ) (old new : Held) (r : ScriptFault) → c ≡ d → r ≡ At place Form → ((s : State) (es : List Written) → length es ≡ length xs → step (meant d) place es s ≡ refuse place Form) → Steps (meant c) place expr xs old new (Err r)
  steps-form c d xs old new r e f other trees s es h parts =
      settles-fault trees new (step (meant c) place es s) place Form r f (ap (λ q. step (meant q) place es s) e ∙ other s es (sym (parts-count expr xs es parts)))

-- no other command is in a group
pub no-setting : (c : Told) → is_setting c ≡ true → (c ≡ code.SetLogic → ⊥) → (c ≡ code.SetOption → ⊥) → (c ≡ code.SetInfo → ⊥) → (c ≡ code.GetInfo → ⊥) → (c ≡ code.Echo → ⊥) → (c ≡ code.GetOption → ⊥) → ⊥
no-setting code.SetLogic e n0 n1 n2 n3 n4 n5 = n0 refl
no-setting code.SetOption e n0 n1 n2 n3 n4 n5 = n1 refl
no-setting code.SetInfo e n0 n1 n2 n3 n4 n5 = n2 refl
no-setting code.GetInfo e n0 n1 n2 n3 n4 n5 = n3 refl
no-setting code.Echo e n0 n1 n2 n3 n4 n5 = n4 refl
no-setting code.GetOption e n0 n1 n2 n3 n4 n5 = n5 refl
no-setting _ e n0 n1 n2 n3 n4 n5 = cc

pub no-level : (c : Told) → is_level c ≡ true → (c ≡ code.Push → ⊥) → (c ≡ code.Pop → ⊥) → (c ≡ code.ResetAssertions → ⊥) → (c ≡ code.Reset → ⊥) → (c ≡ code.Exit → ⊥) → ⊥
no-level code.Push e n0 n1 n2 n3 n4 = n0 refl
no-level code.Pop e n0 n1 n2 n3 n4 = n1 refl
no-level code.ResetAssertions e n0 n1 n2 n3 n4 = n2 refl
no-level code.Reset e n0 n1 n2 n3 n4 = n3 refl
no-level code.Exit e n0 n1 n2 n3 n4 = n4 refl
no-level _ e n0 n1 n2 n3 n4 = cc

pub no-declaration : (c : Told) → is_declaration c ≡ true → (c ≡ code.DeclareConst → ⊥) → (c ≡ code.DeclareFun → ⊥) → (c ≡ code.DefineSort → ⊥) → ⊥
no-declaration code.DeclareConst e n0 n1 n2 = n0 refl
no-declaration code.DeclareFun e n0 n1 n2 = n1 refl
no-declaration code.DefineSort e n0 n1 n2 = n2 refl
no-declaration _ e n0 n1 n2 = cc

-- how many levels are meant
pub counted-as : (r : Result ℕ Fault) (n : ℕ) → Ok n ≡ told_by r → r ≡ Ok n
counted-as (Ok m) n e = let same : n ≡ m = cc in ap Ok (sym same)
counted-as (Err f) n e = absurd (cc)

pub uncounted : (trees : List Tree) (held : Held) (r : Result ℕ Fault) (next : ℕ → Move) (f : ScriptFault) → Err f ≡ told_by r → Settles trees held (r >>= next) (Err f)
uncounted trees held (Ok m) next f e = absurd (cc)
uncounted trees held (Err g) next f e =
    let same : At g.place g.kind ≡ f = cc in
    subst (λ (x : ScriptFault). Settles trees held (Err g) (Err x)) same refl
