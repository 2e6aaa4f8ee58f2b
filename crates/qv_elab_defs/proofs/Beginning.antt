-- What is looked at first has no fault, whatever is answered then.
use Rattle.std.proofs.Common.{◌≡◌, ℕ, Bool, true, false, cond, refl, sym, ap, subst, ◌∙◌, Ok, Err}
use Rattle.std.specs.Prelude.{IsOk, Result, is_ok}
use Rattle.qv_sexpr.specs.Script.{atom, list, none, also}
use Rattle.qv_sexpr.specs.Script.{Tree as Expr, Trees as Exprs}
use Rattle.qv_words.specs.Tree.{Tree}
use Rattle.qv_elab_defs.specs.declared.faults.ElabFault.{ElabFault}
use Rattle.qv_elab_defs.specs.declared.faults.ElabFault.TheVariants.{At, NoMemory}
use Rattle.qv_elab_defs.specs.declared.faults.ElabKind.TheVariants.{Form}
use Rattle.qv_elab_defs.specs.Faults.{Fault, refuse, formed, ◌>>=◌}
use Rattle.qv_elab_defs.specs.Tokens.{items}
use Rattle.qv_elab_defs.specs.Shapes.{Construct, Let, Quantified, Annotated, Indexed, Qualified, Unsupported, Application, construct_of, indexed_name, pairs_of, some_pairs, are_attributes, Naming, Unnamed, Misnamed, naming}
use Rattle.qv_elab_defs.specs.Shapes.{Named as NamedBy}
use Rattle.qv_elab_defs.specs.Scopes.{Context}
use Rattle.qv_elab_defs.specs.Heads.{head_of}
use Rattle.qv_elab_defs.specs.Leaves.{token_tree, indexed_literal}
use Rattle.qv_elab_defs.specs.Elaborating.{elab, elab_list, unless_misnamed}
use Rattle.qv_elab_defs.specs.Beginnings.{Begins, looked, named_right, list_beginning, beginning}

pub begins-anyhow : {A B : Type 0} (first : Result A Fault) (r : Result B ElabFault) → IsOk first → Begins first r
begins-anyhow first (Err (At place kind)) h = tt
begins-anyhow first (Err NoMemory) h = h
begins-anyhow first (Ok x) h = h

-- what was made has no fault
pub ok-is : {A : Type 0} (r : Result A Fault) (x : A) → r ≡ Ok x → IsOk r
ok-is r x e = ap (λ q. is_ok q) e

-- a result is of what has no fault
pub begins-ok : {A B : Type 0} (first : Result A Fault) (r : Result B ElabFault) (x : B) → r ≡ Ok x → Begins first r → IsOk first
begins-ok {A} {B} first r x e h = subst (λ (q : Result B ElabFault). Begins first q) e h

-- another answer with the same fault
pub begins-out : {A B C : Type 0} (first : Result A Fault) (r : Result B ElabFault) (fault left : ElabFault) (exit : Result C ElabFault) → Begins first r → r ≡ Err fault → exit ≡ Err left → left ≡ fault → Begins first exit
begins-out {A} {B} {C} first r fault left exit h e f g =
    subst (λ (x : Result C ElabFault). Begins first x) (sym (f ∙ ap Err g)) (go fault (subst (λ (x : Result B ElabFault). Begins first x) e h))
  where
    go : (fault : ElabFault) → Begins {A = A} {B = B} first (Err fault) → Begins {A = A} {B = C} first (Err fault)
    go (At p kind) k = tt
    go NoMemory k = k

-- what is looked at has no fault where what is made has none
pub looked-ok : {A : Type 0} (r : Result A Fault) → IsOk r → IsOk (looked r)
looked-ok (Ok x) h = refl
looked-ok (Err f) h = absurd (cc)

-- the same of another thing that is as good
pub begins-of : {A B C : Type 0} (first : Result A Fault) (second : Result B Fault) (r : Result C ElabFault) → (IsOk first → IsOk second) → Begins first r → Begins second r
begins-of first second (Err (At place kind)) f h = tt
begins-of first second (Err NoMemory) f h = f h
begins-of first second (Ok x) f h = f h

-- what comes first has no fault where the whole has none
bind-first : {A B : Type 0} (r : Result A Fault) (next : A → Result B Fault) → IsOk (r >>= next) → IsOk (looked r)
bind-first (Ok x) next h = refl
bind-first (Err f) next h = absurd (cc)

-- attributes
right-first : (place : ℕ) (n : Naming) (r : Result Tree Fault) → IsOk (unless_misnamed place n r) → IsOk (named_right place n)
right-first place Unnamed r h = refl
right-first place (NamedBy name) r h = refl
right-first place Misnamed r h = absurd (cc)

annotated-first : (place : ℕ) (b : Bool) (n : Naming) (r : Result Tree Fault) → IsOk (cond b (unless_misnamed place n r) (refuse place Form)) → IsOk (cond b (named_right place n) (refuse place Form))
annotated-first place true n r h = right-first place n r h
annotated-first place false n r h = absurd (cc)

list-first : (con : Construct) (place : ℕ) (first : Expr) (rest : Exprs) (c : Context) → IsOk (elab_list con place first rest c) → IsOk (list_beginning con place first rest c.scope)
list-first Let place first (also (list p pairs q) (also body none)) c h = bind-first (formed place (some_pairs (pairs_of pairs))) _ h
list-first Let place first none c h = absurd (cc)
list-first Let place first (also (atom l) es) c h = absurd (cc)
list-first Let place first (also (list p pairs q) none) c h = absurd (cc)
list-first Let place first (also (list p pairs q) (also body (also f fs))) c h = absurd (cc)
list-first (Quantified u) place first (also (list p pairs q) (also body none)) c h = bind-first (formed place (some_pairs (pairs_of pairs))) _ h
list-first (Quantified u) place first none c h = absurd (cc)
list-first (Quantified u) place first (also (atom l) es) c h = absurd (cc)
list-first (Quantified u) place first (also (list p pairs q) none) c h = absurd (cc)
list-first (Quantified u) place first (also (list p pairs q) (also body (also f fs))) c h = absurd (cc)
list-first Annotated place first (also term attributes) c h = annotated-first place (are_attributes attributes) (naming attributes) (elab term c) h
list-first Annotated place first none c h = absurd (cc)
list-first Indexed place first rest c h = looked-ok (indexed_literal place (indexed_name (items rest))) h
list-first Qualified place first rest c h = absurd (cc)
list-first Unsupported place first rest c h = absurd (cc)
list-first Application place first (also e es) c h = bind-first (head_of c.scope place first) _ h
list-first Application place first none c h = absurd (cc)

-- an expression that has a tree has no fault of what is looked at first
pub made-begins : (e : Expr) (c : Context) → IsOk (elab e c) → IsOk (beginning e c)
made-begins (atom l) c h = looked-ok (token_tree l.kind l.place l.text c) h
made-begins (list place none close) c h = absurd (cc)
made-begins (list place (also first rest) close) c h = list-first (construct_of first) place first rest c h
