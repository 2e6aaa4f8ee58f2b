-- Each step of elaboration with a stack of open expressions is one equation.
use Rattle.std.proofs.Common.{◌≡◌, ℕ, true, cond, Option, Some, List, [], ◌∷◌, ◌++◌, refl, sym, ap, ◌∙◌, append_assoc, Ok, Err}
use Rattle.std.specs.Prelude.{Result}
use Rattle.qv_text.specs.Reading.{Lexeme}
use Rattle.qv_sexpr.specs.Script.{atom, list, none, also}
use Rattle.qv_sexpr.specs.Script.{Tree as Expr, Trees as Exprs}
use Rattle.qv_words.specs.declared.sort.Sort.{Sort}
use Rattle.qv_words.specs.declared.sort.Sort.TheVariants.{Bool as BoolSort}
use Rattle.qv_words.specs.Tree.{Tree}
use Rattle.qv_elab_defs.specs.declared.faults.ElabKind.TheVariants.{Form}
use Rattle.qv_elab_defs.specs.Faults.{Fault, refuse, ◌>>=◌, formed}
use Rattle.qv_elab_defs.specs.Tokens.{place_of, unquoted}
use Rattle.qv_elab_defs.specs.Shapes.{Quantifier, Let, Quantified, Annotated, Application, Pair, pairs_of, some_pairs, are_attributes, naming}
use Rattle.qv_elab_defs.specs.Scopes.{Named, Context, below_binders}
use Rattle.qv_elab_defs.specs.Heads.{Head, head_of}
use Rattle.qv_elab_defs.specs.Elaborating.{of_sort, read_variables, closed, new_name}
use Rattle.qv_elab_defs.specs.Looking.{Look, Seen, Looking, still, ◌▷◌, shallow_looks, unless_misnamed_looks, looks_of, looks_of_list, looks_of_all, looks_of_pairs}
use Rattle.qv_elab_frames.specs.Loop.{bound_looks}
use Rattle.qv_elab_defs.specs.Looking.{applied_looks}
use Rattle.qv_elab_frames.specs.Frames.{Frame, Applying, Binding, Closing, Passing, goes_on, resume}

-- a fault goes through
pub resume-fault : (frames : List Frame) (fault : Fault) → resume frames (Err fault) ≡ Err fault
resume-fault [] fault = refl
resume-fault (frame ∷ frames) fault = resume-fault frames fault

bind-bind : {A B C F : Type 0} (r : Result A F) (f : A → Result B F) (g : B → Result C F) → ((r >>= f) >>= g) ≡ (r >>= λ a. f a >>= g)
bind-bind (Ok a) f g = refl
bind-bind (Err e) f g = refl

bind-same : {A B F : Type 0} (r : Result A F) (f g : A → Result B F) → ((a : A) → f a ≡ g a) → (r >>= f) ≡ (r >>= g)
bind-same (Ok a) f g h = h a
bind-same (Err e) f g h = refl

-- into an application: the head, and then the first argument
pub into-application : (frames : List Frame) (place : ℕ) (first e : Expr) (es : Exprs) (c : Context) (looks : List Look) (head : Head) → head_of c.scope place first ≡ Ok head →
    resume frames (looks_of_list Application place first (also e es) c looks) ≡ resume (Applying place head [] es c ∷ frames) (looks_of e c looks)
into-application frames place first e es c looks head h =
    ap (λ (r : Result Head Fault). resume frames ((still r ▷ λ head. looks_of e c ▷ λ t. looks_of_all es c ▷ λ ts. applied_looks place c.binders head (t ∷ ts)) looks)) h

pub no-head : (frames : List Frame) (place : ℕ) (first e : Expr) (es : Exprs) (c : Context) (looks : List Look) (fault : Fault) → head_of c.scope place first ≡ Err fault →
    resume frames (looks_of_list Application place first (also e es) c looks) ≡ Err fault
no-head frames place first e es c looks fault h =
    ap (λ (r : Result Head Fault). resume frames ((still r ▷ λ head. looks_of e c ▷ λ t. looks_of_all es c ▷ λ ts. applied_looks place c.binders head (t ∷ ts)) looks)) h ∙ resume-fault frames fault

-- from one argument to the next
pub next-argument : (frames : List Frame) (place : ℕ) (head : Head) (done : List Tree) (t : Tree) (e : Expr) (es : Exprs) (c : Context) (looks : List Look) →
    resume (Applying place head done (also e es) c ∷ frames) (Ok (t, looks)) ≡ resume (Applying place head (done ++ t ∷ []) es c ∷ frames) (looks_of e c looks)
next-argument frames place head done t e es c looks =
    ap (resume frames)
    (bind-bind (looks_of e c looks) (λ u. (looks_of_all es c ▷ λ ts. still (Ok (u.0 ∷ ts))) u.1) (λ r. applied_looks place c.binders head (done ++ t ∷ r.0) r.1)
    ∙ bind-same (looks_of e c looks) (λ u. (looks_of_all es c ▷ λ ts. still (Ok (u.0 ∷ ts))) u.1 >>= λ r. applied_looks place c.binders head (done ++ t ∷ r.0) r.1) (λ u. goes_on (Applying place head (done ++ t ∷ []) es c) u.0 u.1)
    (λ u.
    bind-bind (looks_of_all es c u.1) (λ r. still (Ok (u.0 ∷ r.0)) r.1) (λ r. applied_looks place c.binders head (done ++ t ∷ r.0) r.1)
    ∙ bind-same (looks_of_all es c u.1) (λ r. applied_looks place c.binders head (done ++ t ∷ u.0 ∷ r.0) r.1) (λ r. applied_looks place c.binders head ((done ++ t ∷ []) ++ u.0 ∷ r.0) r.1)
    (λ r. ap (λ args. applied_looks place c.binders head args r.1) (sym (append_assoc done (t ∷ []) (u.0 ∷ r.0))))))

-- behind the last argument
pub last-argument : (frames : List Frame) (place : ℕ) (head : Head) (done : List Tree) (t : Tree) (c : Context) (looks : List Look) →
    resume (Applying place head done none c ∷ frames) (Ok (t, looks)) ≡ resume frames (applied_looks place c.binders head (done ++ t ∷ []) looks)
last-argument frames place head done t c looks = refl

-- into a `let` of the right shape: its pairs, behind no names
pub into-let : (frames : List Frame) (place p q : ℕ) (first body : Expr) (pairs : Exprs) (c : Context) (looks : List Look) (some : List Pair) → some_pairs (pairs_of pairs) ≡ Some some →
    resume frames (looks_of_list Let place first (also (list p pairs q) (also body none)) c looks) ≡ resume frames (bound_looks pairs [] body c looks)
into-let frames place p q first body pairs c looks some h =
    ap (λ (o : Option (List Pair)). resume frames ((still (formed place o) ▷ λ _. bound_looks pairs [] body c) looks)) h

-- to the term of the next name
pub next-pair : (frames : List Frame) (names : Named Tree) (p q : ℕ) (l : Lexeme) (e body : Expr) (pairs : Exprs) (c : Context) (looks : List Look) (name : List ℕ) → new_name l.place (unquoted l.text) names ≡ Ok name →
    resume frames (bound_looks (also (list p (also (atom l) (also e none)) q) pairs) names body c looks)
    ≡ resume (Binding names name pairs body c ∷ frames) (looks_of e c looks)
next-pair frames names p q l e body pairs c looks name h =
    ap (λ (r : Result (List ℕ) Fault). resume frames (((still r ▷ λ name. looks_of e c ▷ λ t. looks_of_pairs pairs ((name, t) ∷ names) c) ▷ λ all. looks_of body (record c { bound = all ++ c.bound })) looks)) h
    ∙ ap (resume frames) (bind-bind (looks_of e c looks) (λ t. looks_of_pairs pairs ((name, t.0) ∷ names) c t.1) (λ all. looks_of body (record c { bound = all.0 ++ c.bound }) all.1))

pub repeated-name : (frames : List Frame) (names : Named Tree) (p q : ℕ) (l : Lexeme) (e body : Expr) (pairs : Exprs) (c : Context) (looks : List Look) (fault : Fault) → new_name l.place (unquoted l.text) names ≡ Err fault →
    resume frames (bound_looks (also (list p (also (atom l) (also e none)) q) pairs) names body c looks) ≡ Err fault
repeated-name frames names p q l e body pairs c looks fault h =
    ap (λ (r : Result (List ℕ) Fault). resume frames (((still r ▷ λ name. looks_of e c ▷ λ t. looks_of_pairs pairs ((name, t) ∷ names) c) ▷ λ all. looks_of body (record c { bound = all ++ c.bound })) looks)) h ∙ resume-fault frames fault

-- behind the term of a name: the pairs that follow it
pub behind-pair : (frames : List Frame) (names : Named Tree) (name : List ℕ) (t : Tree) (pairs : Exprs) (body : Expr) (c : Context) (looks : List Look) →
    resume (Binding names name pairs body c ∷ frames) (Ok (t, looks)) ≡ resume frames (bound_looks pairs ((name, t) ∷ names) body c looks)
behind-pair frames names name t pairs body c looks = refl

through : (rest : Exprs) (r : Result Seen Fault) → (r >>= λ x. goes_on (Passing rest) x.0 x.1) ≡ r
through rest (Ok x) = refl
through rest (Err f) = refl

-- behind the last pair: the body
pub into-body : (frames : List Frame) (names : Named Tree) (body : Expr) (c : Context) (looks : List Look) →
    resume frames (bound_looks none names body c looks) ≡ resume (Passing none ∷ frames) (looks_of body (record c { bound = names ++ c.bound }) looks)
into-body frames names body c looks = ap (resume frames) (sym (through none (looks_of body (record c { bound = names ++ c.bound }) looks)))

-- into a quantifier of the right shape
pub into-quantifier : (frames : List Frame) (quantifier : Quantifier) (place p q : ℕ) (first body : Expr) (pairs : Exprs) (c : Context) (looks : List Look) (some : List Pair) (xs : Named Sort) → some_pairs (pairs_of pairs) ≡ Some some → read_variables c.scope some ≡ Ok xs →
    resume frames (looks_of_list (Quantified quantifier) place first (also (list p pairs q) (also body none)) c looks) ≡ resume (Closing quantifier place (place_of body) xs c ∷ frames) (looks_of body (below_binders xs c) looks)
into-quantifier frames quantifier place p q first body pairs c looks some xs h k =
    ap (λ (o : Option (List Pair)). resume frames ((still (formed place o) ▷ λ variables. still (read_variables c.scope variables) ▷ λ xs. looks_of body (below_binders xs c) ▷ λ t. still (of_sort BoolSort (place_of body) t) ▷ λ formula. shallow_looks place (closed quantifier c.binders xs formula)) looks)) h
    ∙ ap (λ (r : Result (Named Sort) Fault). resume frames ((still r ▷ λ xs. looks_of body (below_binders xs c) ▷ λ t. still (of_sort BoolSort (place_of body) t) ▷ λ formula. shallow_looks place (closed quantifier c.binders xs formula)) looks)) k

-- behind the body of a quantifier
pub behind-quantifier : (frames : List Frame) (quantifier : Quantifier) (place inner : ℕ) (xs : Named Sort) (c : Context) (t : Tree) (looks : List Look) →
    resume (Closing quantifier place inner xs c ∷ frames) (Ok (t, looks)) ≡ resume frames ((still (of_sort BoolSort inner t) ▷ λ formula. shallow_looks place (closed quantifier c.binders xs formula)) looks)
behind-quantifier frames quantifier place inner xs c t looks = refl

-- into an annotated term, and what is its part's own tree
pub into-annotated : (frames : List Frame) (place : ℕ) (first term : Expr) (attributes : Exprs) (c : Context) (looks : List Look) → are_attributes attributes ≡ true → ((x : Looking Tree) → unless_misnamed_looks place (naming attributes) x ≡ x) →
    resume frames (looks_of_list Annotated place first (also term attributes) c looks) ≡ resume (Passing attributes ∷ frames) (looks_of term c looks)
into-annotated frames place first term attributes c looks h k =
    ap (λ b. let x : Looking Tree = cond b (unless_misnamed_looks place (naming attributes) (looks_of term c)) (still (refuse place Form)) in resume frames (x looks)) h
    ∙ ap (λ (x : Looking Tree). resume frames (x looks)) (k (looks_of term c))
    ∙ ap (resume frames) (sym (through attributes (looks_of term c looks)))

pub behind-passing : (frames : List Frame) (rest : Exprs) (t : Tree) (looks : List Look) → resume (Passing rest ∷ frames) (Ok (t, looks)) ≡ resume frames (Ok (t, looks))
behind-passing frames rest t looks = refl
