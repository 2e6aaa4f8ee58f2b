-- Terms with names of commands, and commands behind them.
use Rattle.std.proofs.Common.{◌≡◌, ℕ, List, [], ◌∷◌, length, refl, sym, ap, subst, ◌∙◌, Ok, Err}
use Rattle.std.specs.Prelude.{Result, Vec, OnErr}
use Rattle.std.specs.declared.alloc.Global.{Global}
use Rattle.qv_sexpr.specs.declared.items.Expr.{Expr}
use Rattle.qv_sexpr.specs.Script.{Tree as Written}
use Rattle.qv_words.specs.Tree.{Tree}
use Rattle.qv_elab_defs.specs.Faults.{◌>>=◌}
use Rattle.qv_script_parts.specs.declared.command.Command.{Command as Told}
use Rattle.qv_script_parts.specs.declared.command.Command.TheVariants as code
use Rattle.qv_script_defs.specs.declared.effects.Effect.{Effect as Done}
use Rattle.qv_script_defs.specs.declared.faults.ScriptFault.{ScriptFault}
use Rattle.qv_script_defs.specs.declared.faults.ScriptFault.TheVariants.{At, NoMemory}
use Rattle.qv_script_defs.specs.Faults.{Fault}
use Rattle.qv_script_defs.specs.Parts.{asserted_of, parameters_of}
use Rattle.qv_script_defs.specs.State.{State}
use Rattle.qv_script_defs.specs.Moves.{Move}
use Rattle.qv_script_defs.specs.Labels.{Label, nothing, labels_in, labels_all, labelled}
use Rattle.qv_script_defs.specs.Commands.{Command, DefineFun, DefineConst, Assert, CheckSatAssuming, GetValue, listed, labels_of_body, labels_of, behind_labels, commanded, step}
use Rattle.qv_script_parts.specs.Meant.{meant}
use Rattle.qv_script_parts.specs.Parted.{IsPart, AreParts}
use Rattle.qv_script_parts.specs.Walking.{AreLabels, TellsLabels}
use Rattle.qv_script_stack.specs.Held.{Held}
use Rattle.qv_script_stack.specs.Steps.{Gives}
use Rattle.qv_script_stack.proofs.Stepping.{parts-count}
use Rattle.qv_script_terms.specs.Labelling.{GivesState}

-- another number of arguments
pub no-assert_labels : (es : List Written) → (length es ≡ 1 → ⊥) → labels_of Assert es ≡ Ok []
no-assert_labels [] n = refl
no-assert_labels (e ∷ []) n = absurd (n refl)
no-assert_labels (e ∷ f ∷ es) n = refl

pub no-assumed_labels : (es : List Written) → (length es ≡ 1 → ⊥) → labels_of CheckSatAssuming es ≡ Ok []
no-assumed_labels [] n = refl
no-assumed_labels (e ∷ []) n = absurd (n refl)
no-assumed_labels (e ∷ f ∷ es) n = refl

pub no-asked_labels : (es : List Written) → (length es ≡ 1 → ⊥) → labels_of GetValue es ≡ Ok []
no-asked_labels [] n = refl
no-asked_labels (e ∷ []) n = absurd (n refl)
no-asked_labels (e ∷ f ∷ es) n = refl

pub no-constant_labels : (es : List Written) → (length es ≡ 3 → ⊥) → labels_of DefineConst es ≡ Ok []
no-constant_labels [] n = refl
no-constant_labels (e ∷ []) n = refl
no-constant_labels (e ∷ f ∷ []) n = refl
no-constant_labels (e ∷ f ∷ g ∷ []) n = absurd (n refl)
no-constant_labels (e ∷ f ∷ g ∷ h ∷ es) n = refl

pub no-function_labels : (es : List Written) → (length es ≡ 4 → ⊥) → labels_of DefineFun es ≡ Ok []
no-function_labels [] n = refl
no-function_labels (e ∷ []) n = refl
no-function_labels (e ∷ f ∷ []) n = refl
no-function_labels (e ∷ f ∷ g ∷ []) n = refl
no-function_labels (e ∷ f ∷ g ∷ h ∷ []) n = absurd (n refl)
no-function_labels (e ∷ f ∷ g ∷ h ∷ i ∷ es) n = refl

-- other commands
pub no-labels : (c : Told) (es : List Written) → (c ≡ code.Assert → ⊥) → (c ≡ code.CheckSatAssuming → ⊥) → (c ≡ code.GetValue → ⊥) → (c ≡ code.DefineConst → ⊥) → (c ≡ code.DefineFun → ⊥) → labels_of (meant c) es ≡ Ok []
no-labels code.Assert es n0 n1 n2 n3 n4 = absurd (n0 refl)
no-labels code.CheckSatAssuming es n0 n1 n2 n3 n4 = absurd (n1 refl)
no-labels code.GetValue es n0 n1 n2 n3 n4 = absurd (n2 refl)
no-labels code.DefineConst es n0 n1 n2 n3 n4 = absurd (n3 refl)
no-labels code.DefineFun es n0 n1 n2 n3 n4 = absurd (n4 refl)
no-labels _ es n0 n1 n2 n3 n4 = refl

module _ (expr : Expr) where
  pub tells-none : (given : Result (List Label) Fault) (ats : Vec ℕ Global) → given ≡ Ok [] → ats.items ≡ [] → TellsLabels expr given (Ok ats)
  tells-none given ats e n = ([], e, subst (λ (xs : List ℕ). AreLabels expr xs []) (sym n) tt)

  pub labels-none : (c d : Told) (xs : List ℕ) (ats : Vec ℕ Global) → c ≡ d → ats.items ≡ [] → ((es : List Written) → length es ≡ length xs → labels_of (meant d) es ≡ Ok []) → (es : List Written) → AreParts expr xs es → TellsLabels expr (labels_of (meant c) es) (Ok ats)
  labels-none c d xs ats e n other es parts =
      tells-none (labels_of (meant c) es) ats (ap (λ q. labels_of (meant q) es) e ∙ other es (sym (parts-count expr xs es parts))) n

  pub labels-as : (c d : Told) (xs ys : List ℕ) (r : Result (Vec ℕ Global) ScriptFault) → c ≡ d → xs ≡ ys → ((es : List Written) → AreParts expr ys es → TellsLabels expr (labels_of (meant d) es) r) → (es : List Written) → AreParts expr xs es → TellsLabels expr (labels_of (meant c) es) r
  labels-as c d xs ys r e f h es parts =
      subst (λ q. TellsLabels expr (labels_of (meant q) es) r) (sym e) (h es (subst (λ (zs : List ℕ). AreParts expr zs es) f parts))

  -- by the arguments
  pub labels-assumed : (ts : ℕ) (r : Result (Vec ℕ Global) ScriptFault) → ((e : Written) → IsPart expr ts e → TellsLabels expr (labels_all (listed e) nothing []) r) → (es : List Written) → AreParts expr (ts ∷ []) es → TellsLabels expr (labels_of CheckSatAssuming es) r
  labels-assumed ts r h [] parts = absurd parts
  labels-assumed ts r h (e ∷ []) parts = h e parts.0
  labels-assumed ts r h (e ∷ f ∷ es) parts = absurd parts.1

  pub labels-asked : (ts : ℕ) (r : Result (Vec ℕ Global) ScriptFault) → ((e : Written) → IsPart expr ts e → TellsLabels expr (labels_all (listed e) nothing []) r) → (es : List Written) → AreParts expr (ts ∷ []) es → TellsLabels expr (labels_of GetValue es) r
  labels-asked ts r h [] parts = absurd parts
  labels-asked ts r h (e ∷ []) parts = h e parts.0
  labels-asked ts r h (e ∷ f ∷ es) parts = absurd parts.1

  pub labels-constant : (f sort t : ℕ) (r : Result (Vec ℕ Global) ScriptFault) → ((e : Written) → IsPart expr t e → TellsLabels expr (labels_in e nothing []) r) → (es : List Written) → AreParts expr (f ∷ sort ∷ t ∷ []) es → TellsLabels expr (labels_of DefineConst es) r
  labels-constant f sort t r h [] parts = absurd parts
  labels-constant f sort t r h (e ∷ []) parts = absurd parts.1
  labels-constant f sort t r h (e ∷ g ∷ []) parts = absurd parts.1.1
  labels-constant f sort t r h (e ∷ g ∷ i ∷ []) parts = h i parts.1.1.0
  labels-constant f sort t r h (e ∷ g ∷ i ∷ j ∷ es) parts = absurd parts.1.1.1

  pub labels-function : (f ps sort t : ℕ) (r : Result (Vec ℕ Global) ScriptFault) → ((e b : Written) → IsPart expr ps e → IsPart expr t b → TellsLabels expr (labels_of_body (parameters_of e) b) r) → (es : List Written) → AreParts expr (f ∷ ps ∷ sort ∷ t ∷ []) es → TellsLabels expr (labels_of DefineFun es) r
  labels-function f ps sort t r h [] parts = absurd parts
  labels-function f ps sort t r h (e ∷ []) parts = absurd parts.1
  labels-function f ps sort t r h (e ∷ g ∷ []) parts = absurd parts.1.1
  labels-function f ps sort t r h (e ∷ g ∷ i ∷ []) parts = absurd parts.1.1.1
  labels-function f ps sort t r h (e ∷ g ∷ i ∷ j ∷ []) parts = h g j parts.1.0 parts.1.1.1.0
  labels-function f ps sort t r h (e ∷ g ∷ i ∷ j ∷ k ∷ es) parts = absurd parts.1.1.1.1

  pub labels-asserted : (t : ℕ) (r : Result (Vec ℕ Global) ScriptFault) → ((e : Written) → IsPart expr t e → TellsLabels expr (labels_in (asserted_of e).term nothing []) r) → (es : List Written) → AreParts expr (t ∷ []) es → TellsLabels expr (labels_of Assert es) r
  labels-asserted t r h [] parts = absurd parts
  labels-asserted t r h (e ∷ []) parts = h e parts.0
  labels-asserted t r h (e ∷ f ∷ es) parts = absurd parts.1

-- a command behind its terms with names
module _ (trees : List Tree) (held : Held) (command : Command) (place : ℕ) (es : List Written) (s : State) where
  pub labels-refused : (r : ScriptFault) → (expr : Expr) → TellsLabels expr (labels_of command es) (Err r) → Gives trees held (commanded command place es s) (Err r)
  labels-refused NoMemory expr h = tt
  labels-refused (At p kind) expr h = ap (λ (x : Result (List Label) Fault). x >>= behind_labels command place es s) h

  pub label-refused : (ls : List Label) (r : ScriptFault) → GivesState trees held (labelled place ls s) (Err r) → Gives trees held (behind_labels command place es s ls) (Err r)
  label-refused ls NoMemory h = tt
  label-refused ls (At p kind) h = ap (λ (x : Result State Fault). x >>= λ now. step command place es now) h

  pub behind-is : (ls : List Label) (now : State) (r : Result Done ScriptFault) → labelled place ls s ≡ Ok now → Gives trees held (step command place es now) r → Gives trees held (behind_labels command place es s ls) r
  behind-is ls now r e h = subst (λ (m : Move). Gives trees held m r) (sym (ap (λ (x : Result State Fault). x >>= λ t. step command place es t) e)) h

  pub commanded-is : (ls : List Label) (r : Result Done ScriptFault) → labels_of command es ≡ Ok ls → Gives trees held (behind_labels command place es s ls) r → Gives trees held (commanded command place es s) r
  commanded-is ls r e h = subst (λ (m : Move). Gives trees held m r) (sym (ap (λ (x : Result (List Label) Fault). x >>= behind_labels command place es s) e)) h

  -- a fault says nothing of what is held
  pub refused-anyhow : (other : Held) (m : Move) (r : ScriptFault) → Gives trees held m (Err r) → Gives trees other m (Err r)
  refused-anyhow other m NoMemory h = tt
  refused-anyhow other m (At p kind) h = h

pub on-err : {A F : Type 0} (r : Result A F) (P Q : Type 0) → (P → Q) → OnErr r P → OnErr r Q
on-err (Ok a) P Q k h = tt
on-err (Err f) P Q k h = k h
