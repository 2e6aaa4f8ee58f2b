-- Commands by their first arguments, and what is looked at of them first.
use Rattle.std.proofs.Common.{◌≡◌, ◌<◌, ◌≤◌, ℕ, arith, Bool, true, false, nat_eq, List, [], ◌∷◌, length, take, refl, sym, ap, subst, ◌∙◌, Ok, Err}
use Rattle.std.specs.Prelude.{Result, ◌&&◌, cond}
use Rattle.std.proofs.lemmas.Bool.Decides.{nat_tests}
use Rattle.qv_sexpr.specs.Script.{Tree as Written}
use Rattle.qv_elab_defs.specs.Faults.{◌>>=◌}
use Rattle.qv_script_parts.specs.declared.command.Command.{Command as Told}
use Rattle.qv_script_parts.specs.declared.command.Command.TheVariants as code
use Rattle.qv_script_parts.specs.Meant.{meant, is_definition, is_check, is_question}
use Rattle.qv_script_defs.specs.declared.faults.ScriptFault.{ScriptFault}
use Rattle.qv_script_defs.specs.declared.faults.ScriptFault.TheVariants.{At, NoMemory}
use Rattle.qv_script_defs.specs.declared.faults.ScriptKind.TheVariants.{Form}
use Rattle.qv_script_defs.specs.Faults.{Fault, refuse}
use Rattle.qv_script_defs.specs.State.{State}
use Rattle.qv_script_defs.specs.Moves.{Move}
use Rattle.qv_script_defs.specs.Labels.{Label}
use Rattle.qv_script_defs.specs.Commands.{Command, SetLogic, SetOption, SetInfo, DeclareConst, DeclareFun, DefineFun, DefineConst, DefineSort, Assert, Push, Pop, CheckSat, CheckSatAssuming, GetValue, GetModel, GetUnsatCore, GetUnsatAssumptions, GetInfo, GetOption, Echo, ResetAssertions, Reset, Leave, Unsupported, labels_of, behind_labels, commanded, step}
use Rattle.qv_script_stack.specs.Steps.{RunsOut}
use Rattle.qv_script_terms.specs.Beginnings.{command_beginning}
use Rattle.qv_script.specs.Beginnings.{has_terms, outset}
use Rattle.qv_script.proofs.Fronts.{five-alike}
use Rattle.qv_script.proofs.Calling.{no-define-fun, no-define-const, no-assert, no-check-assuming, no-get-value}
use Rattle.qv_script.proofs.Labelling.{no-assert_labels, no-assumed_labels, no-asked_labels, no-constant_labels, no-function_labels}

not-so-many : (k : ℕ) (xs : List Written) → k < 6 → 6 ≤ length xs → nat_eq (length xs) k ≡ false
not-so-many k xs few many = grind (arith, nat_tests)

module _ (p : ℕ) (s : State) where
  commanded-more : (k : Command) (a b c d e f : Written) (es : List Written) → commanded k p (a ∷ b ∷ c ∷ d ∷ e ∷ []) s ≡ commanded k p (a ∷ b ∷ c ∷ d ∷ e ∷ f ∷ es) s
  commanded-more SetLogic a b c d e f es = refl
  commanded-more SetOption a b c d e f es = refl
  commanded-more SetInfo a b c d e f es = refl
  commanded-more DeclareConst a b c d e f es = refl
  commanded-more DeclareFun a b c d e f es = refl
  commanded-more DefineFun a b c d e f es = refl
  commanded-more DefineConst a b c d e f es = refl
  commanded-more DefineSort a b c d e f es = refl
  commanded-more Assert a b c d e f es = refl
  commanded-more Push a b c d e f es = refl
  commanded-more Pop a b c d e f es = refl
  commanded-more CheckSat a b c d e f es = refl
  commanded-more CheckSatAssuming a b c d e f es = refl
  commanded-more GetValue a b c d e f es = refl
  commanded-more GetModel a b c d e f es = refl
  commanded-more GetUnsatCore a b c d e f es = refl
  commanded-more GetUnsatAssumptions a b c d e f es = refl
  commanded-more GetInfo a b c d e f es = refl
  commanded-more GetOption a b c d e f es = refl
  commanded-more Echo a b c d e f es = refl
  commanded-more ResetAssertions a b c d e f es = refl
  commanded-more Reset a b c d e f es = refl
  commanded-more Leave a b c d e f es = refl
  commanded-more Unsupported a b c d e f es = refl

  outset-more : (n : Bool) (k : Command) (a b c d e f : Written) (es : List Written) → outset n k p (a ∷ b ∷ c ∷ d ∷ e ∷ []) s ≡ outset n k p (a ∷ b ∷ c ∷ d ∷ e ∷ f ∷ es) s
  outset-more n SetLogic a b c d e f es = refl
  outset-more n SetOption a b c d e f es = refl
  outset-more n SetInfo a b c d e f es = refl
  outset-more n DeclareConst a b c d e f es = refl
  outset-more n DeclareFun a b c d e f es = refl
  outset-more n DefineFun a b c d e f es = sym (ap (λ (x : Bool). cond (x && n) (Ok tt) (refuse p Form)) (not-so-many 4 (a ∷ b ∷ c ∷ d ∷ e ∷ f ∷ es) (omega (arith)) (omega (arith))))
  outset-more n DefineConst a b c d e f es = sym (ap (λ (x : Bool). cond (x && n) (Ok tt) (refuse p Form)) (not-so-many 3 (a ∷ b ∷ c ∷ d ∷ e ∷ f ∷ es) (omega (arith)) (omega (arith))))
  outset-more n DefineSort a b c d e f es = refl
  outset-more n Assert a b c d e f es = sym (ap (λ (x : Bool). cond (x && n) (Ok tt) (refuse p Form)) (not-so-many 1 (a ∷ b ∷ c ∷ d ∷ e ∷ f ∷ es) (omega (arith)) (omega (arith))))
  outset-more n Push a b c d e f es = refl
  outset-more n Pop a b c d e f es = refl
  outset-more n CheckSat a b c d e f es = refl
  outset-more n CheckSatAssuming a b c d e f es = sym (ap (λ (x : Bool). cond (x && n) (Ok tt) (refuse p Form)) (not-so-many 1 (a ∷ b ∷ c ∷ d ∷ e ∷ f ∷ es) (omega (arith)) (omega (arith))))
  outset-more n GetValue a b c d e f es = sym (ap (λ (x : Bool). cond (x && n) (Ok tt) (refuse p Form)) (not-so-many 1 (a ∷ b ∷ c ∷ d ∷ e ∷ f ∷ es) (omega (arith)) (omega (arith))))
  outset-more n GetModel a b c d e f es = refl
  outset-more n GetUnsatCore a b c d e f es = refl
  outset-more n GetUnsatAssumptions a b c d e f es = refl
  outset-more n GetInfo a b c d e f es = refl
  outset-more n GetOption a b c d e f es = refl
  outset-more n Echo a b c d e f es = refl
  outset-more n ResetAssertions a b c d e f es = refl
  outset-more n Reset a b c d e f es = refl
  outset-more n Leave a b c d e f es = refl
  outset-more n Unsupported a b c d e f es = refl

  pub commanded-front : (k : Command) (es : List Written) → commanded k p (take 5 es) s ≡ commanded k p es s
  commanded-front k es = five-alike (λ (xs : List Written). commanded k p xs s) (commanded-more k) es

  pub outset-front : (n : Bool) (k : Command) (es : List Written) → outset n k p (take 5 es) s ≡ outset n k p es s
  outset-front n k es = five-alike (λ (xs : List Written). outset n k p xs s) (outset-more n k) es

-- another number of arguments
other : (n m : ℕ) → nat_eq n m ≡ false → n ≡ m → nat_eq m m ≡ true → ⊥
other n m e f g = let same : nat_eq n m ≡ nat_eq m m = ap (λ (x : ℕ). nat_eq x m) f in absurd (cc)

-- a command without terms
pub plain-labels : (c : Told) (es : List Written) → has_terms (meant c) (length es) ≡ false → labels_of (meant c) es ≡ Ok []
plain-labels code.Assert es h = no-assert_labels es (λ k. other (length es) 1 h k refl)
plain-labels code.CheckSatAssuming es h = no-assumed_labels es (λ k. other (length es) 1 h k refl)
plain-labels code.GetValue es h = no-asked_labels es (λ k. other (length es) 1 h k refl)
plain-labels code.DefineConst es h = no-constant_labels es (λ k. other (length es) 3 h k refl)
plain-labels code.DefineFun es h = no-function_labels es (λ k. other (length es) 4 h k refl)
plain-labels _ es h = refl

module _ (p : ℕ) (s : State) where
  pub plain-is : (c : Told) (es : List Written) → has_terms (meant c) (length es) ≡ false → commanded (meant c) p es s ≡ step (meant c) p es s
  plain-is c es h = ap (λ (r : Result (List Label) Fault). r >>= behind_labels (meant c) p es s) (plain-labels c es h)

  abbrev whole : Command → List Written → Result (Unit {0}) Fault
  whole k es = step k p es s >>= λ _. Ok tt

  plain-beginning : (c : Told) (es : List Written) → has_terms (meant c) (length es) ≡ false → command_beginning (meant c) p es s ≡ whole (meant c) es
  plain-beginning code.Assert [] h = refl
  plain-beginning code.Assert (a ∷ []) h = absurd (cc)
  plain-beginning code.Assert (a ∷ b ∷ es) h = refl
  plain-beginning code.CheckSatAssuming [] h = refl
  plain-beginning code.CheckSatAssuming (a ∷ []) h = absurd (cc)
  plain-beginning code.CheckSatAssuming (a ∷ b ∷ es) h = refl
  plain-beginning code.GetValue [] h = refl
  plain-beginning code.GetValue (a ∷ []) h = absurd (cc)
  plain-beginning code.GetValue (a ∷ b ∷ es) h = refl
  plain-beginning code.DefineConst [] h = refl
  plain-beginning code.DefineConst (a ∷ []) h = refl
  plain-beginning code.DefineConst (a ∷ b ∷ []) h = refl
  plain-beginning code.DefineConst (a ∷ b ∷ c ∷ []) h = absurd (cc)
  plain-beginning code.DefineConst (a ∷ b ∷ c ∷ d ∷ es) h = refl
  plain-beginning code.DefineFun [] h = refl
  plain-beginning code.DefineFun (a ∷ []) h = refl
  plain-beginning code.DefineFun (a ∷ b ∷ []) h = refl
  plain-beginning code.DefineFun (a ∷ b ∷ c ∷ []) h = refl
  plain-beginning code.DefineFun (a ∷ b ∷ c ∷ d ∷ []) h = absurd (cc)
  plain-beginning code.DefineFun (a ∷ b ∷ c ∷ d ∷ e ∷ es) h = refl
  plain-beginning _ es h = refl

  -- memory runs out in it only where nothing of it is refused
  whole-runs : {B : Type 0} (m : Move) (r : Result B ScriptFault) → RunsOut m r → RunsOut {A = Unit {0}} (m >>= λ _. Ok tt) r
  whole-runs m (Ok d) h = tt
  whole-runs m (Err (At q kind)) h = tt
  whole-runs (Ok x) (Err NoMemory) h = refl
  whole-runs (Err f) (Err NoMemory) h = absurd (cc)

  pub plain-runs : {B : Type 0} (n : Bool) (c : Told) (es : List Written) (r : Result B ScriptFault) → has_terms (meant c) (length es) ≡ false → RunsOut (step (meant c) p es s) r → RunsOut (outset n (meant c) p es s) r
  plain-runs n c es r h k =
      let begins = ap (λ b. cond (b && n) (Ok tt) (command_beginning (meant c) p es s)) h ∙ plain-beginning c es h in
      subst (λ (q : Result (Unit {0}) Fault). RunsOut q r) (sym begins) (whole-runs (step (meant c) p es s) r k)

  -- of one whose terms may have names nothing is refused by its shape
  pub named-begin : (n : Bool) (c : Told) (es : List Written) → has_terms (meant c) (length es) ≡ true → n ≡ true → outset n (meant c) p es s ≡ Ok tt
  named-begin n c es h m =
      ap (λ b. cond (b && n) (Ok tt) (command_beginning (meant c) p es s)) h ∙ ap (λ b. cond b (Ok tt) (command_beginning (meant c) p es s)) m

  -- one whose terms have no names
  pub unnamed-runs : {B : Type 0} (n : Bool) (c : Told) (es : List Written) (r : Result B ScriptFault) → has_terms (meant c) (length es) ≡ true → n ≡ false → RunsOut (command_beginning (meant c) p es s) r → RunsOut (outset n (meant c) p es s) r
  unnamed-runs n c es r h m k =
      let begins = ap (λ b. cond (b && n) (Ok tt) (command_beginning (meant c) p es s)) h ∙ ap (λ b. cond b (Ok tt) (command_beginning (meant c) p es s)) m in
      subst (λ (q : Result (Unit {0}) Fault). RunsOut q r) (sym begins) k

  pub unlabelled-is : (c : Told) (es : List Written) → labels_of (meant c) es ≡ Ok [] → commanded (meant c) p es s ≡ step (meant c) p es s
  unlabelled-is c es h = ap (λ (r : Result (List Label) Fault). r >>= behind_labels (meant c) p es s) h

  -- one with terms that takes another number of arguments
  pub check-form : (c : Told) (es : List Written) → is_check c ≡ true → (c ≡ code.CheckSat → ⊥) → has_terms (meant c) (length es) ≡ false → step (meant c) p es s ≡ refuse p Form
  check-form code.Assert es g n h = no-assert p s es (λ e. other (length es) 1 h e refl)
  check-form code.CheckSatAssuming es g n h = no-check-assuming p s es (λ e. other (length es) 1 h e refl)
  check-form code.CheckSat es g n h = absurd (n refl)
  check-form _ es g n h = absurd (cc)

  pub question-form : (c : Told) (es : List Written) → is_question c ≡ true → (c ≡ code.GetModel → ⊥) → (c ≡ code.GetUnsatCore → ⊥) → (c ≡ code.GetUnsatAssumptions → ⊥) → has_terms (meant c) (length es) ≡ false → step (meant c) p es s ≡ refuse p Form
  question-form code.GetValue es g n0 n1 n2 h = no-get-value p s es (λ e. other (length es) 1 h e refl)
  question-form code.GetModel es g n0 n1 n2 h = absurd (n0 refl)
  question-form code.GetUnsatCore es g n0 n1 n2 h = absurd (n1 refl)
  question-form code.GetUnsatAssumptions es g n0 n1 n2 h = absurd (n2 refl)
  question-form _ es g n0 n1 n2 h = absurd (cc)

  pub definition-form : (c : Told) (es : List Written) → is_definition c ≡ true → has_terms (meant c) (length es) ≡ false → step (meant c) p es s ≡ refuse p Form
  definition-form code.DefineConst es g h = no-define-const p s es (λ e. other (length es) 3 h e refl)
  definition-form code.DefineFun es g h = no-define-fun p s es (λ e. other (length es) 4 h e refl)
  definition-form _ es g h = absurd (cc)

-- which command it is
pub three-is : (c : Told) → has_terms (meant c) 3 ≡ true → c ≡ code.DefineConst
three-is code.DefineConst h = refl
three-is _ h = absurd (cc)

pub four-is : (c : Told) → has_terms (meant c) 4 ≡ true → c ≡ code.DefineFun
four-is code.DefineFun h = refl
four-is _ h = absurd (cc)

pub one-is : (c : Told) → has_terms (meant c) 1 ≡ true → (c ≡ code.Assert → ⊥) → (c ≡ code.CheckSatAssuming → ⊥) → (c ≡ code.GetValue → ⊥) → ⊥
one-is code.Assert h n0 n1 n2 = n0 refl
one-is code.CheckSatAssuming h n0 n1 n2 = n1 refl
one-is code.GetValue h n0 n1 n2 = n2 refl
one-is _ h n0 n1 n2 = cc

-- so many arguments
nat_eq-is : (n m : ℕ) → nat_eq n m ≡ true → n ≡ m
nat_eq-is n m h = grind (arith, nat_tests)

pub numbers : (c : Told) (n : ℕ) → has_terms (meant c) n ≡ true → (n ≡ 1 → ⊥) → (n ≡ 3 → ⊥) → (n ≡ 4 → ⊥) → ⊥
numbers code.Assert n h n0 n1 n2 = n0 (nat_eq-is n 1 h)
numbers code.CheckSatAssuming n h n0 n1 n2 = n0 (nat_eq-is n 1 h)
numbers code.GetValue n h n0 n1 n2 = n0 (nat_eq-is n 1 h)
numbers code.DefineConst n h n0 n1 n2 = n1 (nat_eq-is n 3 h)
numbers code.DefineFun n h n0 n1 n2 = n2 (nat_eq-is n 4 h)
numbers _ n h n0 n1 n2 = cc
