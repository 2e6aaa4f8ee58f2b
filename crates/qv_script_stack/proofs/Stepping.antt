-- Arguments that stand at items, and what is told of them.
use Rattle.std.proofs.Common.{◌≡◌, ℕ, suc, Option, Some, None, List, [], ◌∷◌, length, ◌++◌, refl, sym, ap, subst, ◌∙◌, Ok, Err}
use Rattle.std.specs.Prelude.{Result, IsOk, is_ok}
use Rattle.std.specs.Result.{IsErrAnd}
use Rattle.qv_sexpr.specs.declared.items.Expr.{Expr}
use Rattle.qv_sexpr.specs.Script.{Tree as Written}
use Rattle.qv_words.specs.Tree.{Tree}
use Rattle.qv_elab_defs.specs.Faults.{◌>>=◌}
use Rattle.qv_script_defs.specs.declared.effects.Effect.{Effect as Done}
use Rattle.qv_script_defs.specs.declared.faults.ScriptFault.{ScriptFault}
use Rattle.qv_script_defs.specs.declared.faults.ScriptFault.TheVariants.{At, NoMemory}
use Rattle.qv_script_defs.specs.declared.faults.ScriptKind.{ScriptKind}
use Rattle.qv_script_defs.specs.declared.faults.ScriptKind.TheVariants.{Form}
use Rattle.qv_script_defs.specs.Faults.{refuse, shaped}
use Rattle.qv_script_defs.specs.State.{State}
use Rattle.qv_script_defs.specs.Moves.{Move, Effect}
use Rattle.qv_script_parts.specs.Parted.{IsPart, AreParts}
use Rattle.qv_script_stack.specs.Held.{Held, AreAt}
use Rattle.qv_script_stack.specs.Steps.{Gives, Settles, RunsOut}

-- how many parts there are
pub parts-count : (expr : Expr) (ats : List ℕ) (es : List Written) → AreParts expr ats es → length ats ≡ length es
parts-count expr [] [] h = refl
parts-count expr [] (e ∷ es) h = absurd h
parts-count expr (at ∷ ats) [] h = absurd h
parts-count expr (at ∷ ats) (e ∷ es) h = ap suc (parts-count expr ats es h.1)

pub no-part : (expr : Expr) (es : List Written) → AreParts expr [] es → es ≡ []
no-part expr [] h = refl
no-part expr (e ∷ es) h = absurd h

pub one-part : (expr : Expr) (at : ℕ) (es : List Written) → AreParts expr (at ∷ []) es → (e : Written) × (es ≡ e ∷ []) × IsPart expr at e
one-part expr at [] h = absurd h
one-part expr at (e ∷ es) h = (e, ap (λ xs. e ∷ xs) (no-part expr es h.1), h.0)

pub two-parts : (expr : Expr) (a b : ℕ) (es : List Written) → AreParts expr (a ∷ b ∷ []) es → (e f : Written) × (es ≡ e ∷ f ∷ []) × IsPart expr a e × IsPart expr b f
two-parts expr a b [] h = absurd h
two-parts expr a b (e ∷ es) h = let rest = one-part expr b es h.1 in (e, rest.0, ap (λ xs. e ∷ xs) rest.1, h.0, rest.2)

pub three-parts : (expr : Expr) (a b c : ℕ) (es : List Written) → AreParts expr (a ∷ b ∷ c ∷ []) es → (e f g : Written) × (es ≡ e ∷ f ∷ g ∷ []) × IsPart expr a e × IsPart expr b f × IsPart expr c g
three-parts expr a b c [] h = absurd h
three-parts expr a b c (e ∷ es) h = let rest = two-parts expr b c es h.1 in (e, rest.0, rest.1, ap (λ xs. e ∷ xs) rest.2, h.0, rest.3, rest.4)

-- a fault, by what it is told as
pub gives-fault : (trees : List Tree) (held : Held) (given : Move) (p : ℕ) (kind : ScriptKind) (r : ScriptFault) → r ≡ At p kind → given ≡ refuse p kind → Gives trees held given (Err r)
gives-fault trees held given p kind r e f = subst (λ (x : ScriptFault). Gives trees held given (Err x)) (sym e) f

pub settles-fault : (trees : List Tree) (held : Held) (given : Move) (p : ℕ) (kind : ScriptKind) (r : ScriptFault) → r ≡ At p kind → given ≡ refuse p kind → Settles trees held given (Err r)
settles-fault trees held given p kind r e f = subst (λ (x : ScriptFault). Settles trees held given (Err x)) (sym e) f

-- where nothing is refused memory may run out
pub settles-short : (trees : List Tree) (held : Held) (given : Move) (next : State × Effect) (r : Result Done ScriptFault) → given ≡ Ok next → IsErrAnd r (λ f. f ≡ NoMemory) → Settles trees held given r
settles-short trees held given next (Ok d) e h = absurd h
settles-short trees held given next (Err f) e h = subst (λ (x : ScriptFault). Settles trees held given (Err x)) (sym h) (ap (λ (m : Move). is_ok m) e)

pub settled-gives : (trees : List Tree) (held : Held) (given : Move) (r : Result Done ScriptFault) → Settles trees held given r → Gives trees held given r
settled-gives trees held given (Ok d) h = h
settled-gives trees held given (Err (At p kind)) h = h
settled-gives trees held given (Err NoMemory) h = tt

pub settled-runs : (trees : List Tree) (held : Held) (given : Move) (r : Result Done ScriptFault) → Settles trees held given r → RunsOut given r
settled-runs trees held given (Ok d) h = tt
settled-runs trees held given (Err (At p kind)) h = tt
settled-runs trees held given (Err NoMemory) h = h

-- what is refused is no want of memory, and where nothing is refused memory may run out
pub refused-runs : {A F : Type 0} (B : Type 0) (given : Result A F) (p : ℕ) (kind : ScriptKind) (r : ScriptFault) → r ≡ At p kind → RunsOut {A = A} {B = B} {F = F} given (Err r)
refused-runs {A} {F} B given p kind r e = subst (λ (x : ScriptFault). RunsOut {A = A} {B = B} {F = F} given (Err x)) (sym e) tt

pub runs-out : {A B F : Type 0} (given : Result A F) (next : A) (r : Result B ScriptFault) → given ≡ Ok next → RunsOut given r
runs-out given next (Ok d) e = tt
runs-out given next (Err (At p kind)) e = tt
runs-out given next (Err NoMemory) e = ap (λ m. is_ok m) e

pub runs-anyhow : {A B F : Type 0} (given : Result A F) (r : Result B ScriptFault) → IsOk given → RunsOut given r
runs-anyhow given (Ok d) h = tt
runs-anyhow given (Err (At p kind)) h = tt
runs-anyhow given (Err NoMemory) h = h

-- behind what isn't refused
pub runs-behind : {A B C F : Type 0} (first : Result A F) (x : A) (next : A → Result B F) (r : Result C ScriptFault) → first ≡ Ok x → RunsOut (next x) r → RunsOut (first >>= next) r
runs-behind {A} {B} {C} {F} first x next r e h = subst (λ (q : Result A F). RunsOut (q >>= next) r) (sym e) h

-- another answer with the same fault
pub runs-same : {A B C F : Type 0} (given : Result A F) (r : Result B ScriptFault) (fault left : ScriptFault) (exit : Result C ScriptFault) → RunsOut given r → r ≡ Err fault → exit ≡ Err left → left ≡ fault → RunsOut given exit
runs-same {A} {B} {C} {F} given r fault left exit h e f g =
    subst (λ (x : Result C ScriptFault). RunsOut given x) (sym (f ∙ ap Err g)) (go fault (subst (λ (x : Result B ScriptFault). RunsOut given x) e h))
  where
    go : (fault : ScriptFault) → RunsOut {A = A} {B = B} {F = F} given (Err fault) → RunsOut {A = A} {B = C} {F = F} given (Err fault)
    go (At p kind) k = tt
    go NoMemory k = k

-- an argument that hasn't its shape, and one that has
pub unshaped : {A : Type 0} (p : ℕ) (o : Option A) (next : A → Move) → o ≡ None → (shaped p o >>= next) ≡ refuse p Form
unshaped p o next e = ap (λ x. shaped p x >>= next) e

pub shaped-as : {A : Type 0} (p : ℕ) (o : Option A) (a : A) (next : A → Move) → o ≡ Some a → (shaped p o >>= next) ≡ next a
shaped-as p o a next e = ap (λ x. shaped p x >>= next) e

-- trees at numbers, and others behind them
pub trees-behind : (trees : List Tree) (ids more : List ℕ) (ts us : List Tree) → AreAt trees ids ts → AreAt trees more us → AreAt trees (ids ++ more) (ts ++ us)
trees-behind trees [] more [] us h k = k
trees-behind trees [] more (t ∷ ts) us h k = absurd h
trees-behind trees (i ∷ ids) more [] us h k = absurd h
trees-behind trees (i ∷ ids) more (t ∷ ts) us h k = (h.0, trees-behind trees ids more ts us h.1 k)
