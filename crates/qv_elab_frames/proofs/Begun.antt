-- Lists that are entered have no fault of what is looked at first.
use Rattle.std.proofs.Common.{◌≡◌, inl, inr, ℕ, Bool, true, cond, Option, List, refl, sym, ap, subst, ◌∙◌, Ok, Err}
use Rattle.std.specs.Prelude.{Result, IsOk, is_ok}
use Rattle.qv_sexpr.specs.declared.items.Item.{Item}
use Rattle.qv_sexpr.specs.Script.{also}
use Rattle.qv_sexpr.specs.Script.{Tree as Expr, Trees as Exprs}
use Rattle.qv_elab_defs.specs.declared.faults.ElabFault.{ElabFault}
use Rattle.qv_elab_defs.specs.declared.faults.ElabFault.TheVariants.{At, NoMemory}
use Rattle.qv_elab_defs.specs.declared.faults.ElabKind.TheVariants.{Form}
use Rattle.qv_elab_defs.specs.Faults.{Fault, refuse, formed}
use Rattle.qv_elab_defs.specs.Beginnings.{Begins, looked, named_right, list_beginning}
use Rattle.qv_elab_defs.specs.Scopes.{Scope}
use Rattle.qv_elab_defs.specs.Heads.{Head, head_of}
use Rattle.qv_elab_defs.specs.Shapes.{Quantifier, Let, Quantified, Annotated, Application, Pair, are_attributes, Naming, Unnamed, Named, Misnamed, naming}
use Rattle.qv_elab_items.specs.Inside.{told, IsBoundBy}
use Rattle.qv_elab_scope.specs.declared.heads.Head.{Head as Told}
use Rattle.qv_elab_scope.specs.Headed.{IsTold}
use Rattle.qv_elab_frames.proofs.Annotating.{IsRight}

module _ (place : ℕ) (first : Expr) (rest : Exprs) (scope : Scope) where
  -- pairs in a list, and one expression behind it
  module _ (its : List Item) (text : List ℕ) (at close end : ℕ) (b : IsBoundBy its text at rest close end) where
    pub let-begins : IsOk (list_beginning Let place first rest scope)
    let-begins = ap (λ r. is_ok r) (ap (λ (es : Exprs). list_beginning Let place first es scope) b.rest_is ∙ ap (λ (o : Option (List Pair)). looked (formed place o)) b.pairs_are)

    pub quantifier-begins : (q : Quantifier) → IsOk (list_beginning (Quantified q) place first rest scope)
    quantifier-begins q = ap (λ r. is_ok r) (ap (λ (es : Exprs). list_beginning (Quantified q) place first es scope) b.rest_is ∙ ap (λ (o : Option (List Pair)). looked (formed place o)) b.pairs_are)

  right-ok : (n : Naming) → IsRight (told n) → IsOk (named_right place n)
  right-ok Unnamed h = refl
  right-ok (Named name) h = refl
  right-ok Misnamed (inl h) = absurd (cc)
  right-ok Misnamed (inr h) = absurd (cc)

  module _ (e : Expr) (es : Exprs) (is : rest ≡ also e es) where
    pub annotated-begins : true ≡ are_attributes es → IsRight (told (naming es)) → IsOk (list_beginning Annotated place first rest scope)
    annotated-begins k n =
        ap (λ r. is_ok r) (ap (λ (q : Exprs). list_beginning Annotated place first q scope) is ∙ ap (λ (b : Bool). cond b (named_right place (naming es)) (refuse place Form)) (sym k))
        ∙ right-ok (naming es) n

    pub application-begins : (h : Head) → head_of scope place first ≡ Ok h → IsOk (list_beginning Application place first rest scope)
    application-begins h k = ap (λ r. is_ok r) (ap (λ (q : Exprs). list_beginning Application place first q scope) is ∙ ap (λ (r : Result Head Fault). looked r) k)

-- a head wants no memory
pub told-begins : {A B : Type 0} (first : Result A Fault) (defs : Scope) (name : Option (List ℕ)) (given : Result Head Fault) (r : Result Told ElabFault) (fault left : ElabFault) (exit : Result B ElabFault) → IsTold defs name given r → r ≡ Err fault → exit ≡ Err left → left ≡ fault → Begins first exit
told-begins {A} {B} first defs name given r fault left exit t e f g =
    subst (λ (x : Result B ElabFault). Begins first x) (sym (f ∙ ap Err g)) (go fault (subst (λ (q : Result Told ElabFault). IsTold defs name given q) e t))
  where
    go : (fault : ElabFault) → IsTold defs name given (Err fault) → Begins {A = A} {B = B} first (Err fault)
    go (At p kind) k = tt
    go NoMemory k = absurd k

pub told-ok : (defs : Scope) (name : Option (List ℕ)) (given : Result Head Fault) (r : Result Told ElabFault) (head : Told) → IsTold defs name given r → r ≡ Ok head → (h : Head) × (given ≡ Ok h)
told-ok defs name given r head t e = let k = subst (λ (q : Result Told ElabFault). IsTold defs name given q) e t in (k.0, k.1)
