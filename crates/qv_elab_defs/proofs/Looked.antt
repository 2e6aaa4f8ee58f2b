-- What is looked at beside a tree changes nothing of the tree.
use Rattle.std.proofs.Common.{◌≡◌, ℕ, Bool, true, false, cond, Option, Some, None, List, [], ◌∷◌, ◌++◌, refl, ap, ◌∙◌, Ok, Err}
use Rattle.std.specs.Prelude.{Result}
use Rattle.qv_text.specs.declared.kinds.TokenKind.{TokenKind}
use Rattle.qv_text.specs.declared.kinds.TokenKind.TheVariants.{Symbol}
use Rattle.qv_sexpr.specs.Script.{atom, list, none, also}
use Rattle.qv_sexpr.specs.Script.{Tree as Expr, Trees as Exprs}
use Rattle.qv_words.specs.declared.sort.Sort.TheVariants.{Bool as BoolSort}
use Rattle.qv_words.specs.Tree.{Tree}
use Rattle.qv_elab_defs.specs.declared.faults.ElabKind.TheVariants.{Form}
use Rattle.qv_elab_defs.specs.Faults.{Fault, refuse, formed, ◌>>=◌, moved}
use Rattle.qv_elab_defs.specs.Tokens.{place_of, unquoted, items}
use Rattle.qv_elab_defs.specs.Shapes.{Construct, Let, Quantified, Annotated, Indexed, Application, construct_of, indexed_name, pairs_of, some_pairs, are_attributes, Naming, Unnamed, Misnamed, naming}
use Rattle.qv_elab_defs.specs.Shapes.{Named as NamedBy}
use Rattle.qv_elab_defs.specs.Scopes.{Entry, Constant, Definition, Synonym, Named, found, Context, below_binders}
use Rattle.qv_elab_defs.specs.Heads.{Head, head_of}
use Rattle.qv_elab_defs.specs.Looking.{applied_looks}
use Rattle.qv_elab_defs.specs.Applying.{shallow, apply}
use Rattle.qv_elab_defs.specs.Leaves.{entry_tree, named_tree, token_tree, indexed_literal}
use Rattle.qv_elab_defs.specs.Elaborating.{of_sort, read_variables, closed, new_name, unless_misnamed, elab, elab_list, elab_all, elab_pairs}
use Rattle.qv_elab_defs.specs.Looking.{Look, Looking, still, ◌▷◌, shallow_looks, apply_looks, use_of_head, entry_looks, named_looks, token_looks, unless_misnamed_looks, looks_of, looks_of_list, looks_of_all, looks_of_pairs}

-- what is made is this, behind any looks
abbrev pub Makes : {A : Type 0} → Looking A → Result A Fault → Type 0
Makes x r = (looks : List Look) → (x looks >>= λ y. Ok y.0) ≡ r

pub ma-still : {A : Type 0} (r : Result A Fault) → Makes (still r) r
ma-still (Ok a) looks = refl
ma-still (Err f) looks = refl

pub ma-added : {A : Type 0} (r : Result A Fault) (more : A → List Look → List Look) → Makes (λ looks. r >>= λ a. Ok (a, more a looks)) r
ma-added (Ok a) more looks = refl
ma-added (Err f) more looks = refl

ma-bind : {A B : Type 0} (x : Looking A) (r : Result A Fault) (next : A → Looking B) (next' : A → Result B Fault) → Makes x r → ((a : A) → Makes (next a) (next' a)) → Makes (x ▷ next) (r >>= next')
ma-bind {A} {B} x r next next' h k looks = go (x looks) (h looks)
  where
    go : (y : Result (A × List Look) Fault) → (y >>= λ z. Ok z.0) ≡ r → ((y >>= λ z. next z.0 z.1) >>= λ z. Ok z.0) ≡ (r >>= next')
    go (Ok z) e = k z.0 z.1 ∙ ap (λ (s : Result A Fault). s >>= next') e
    go (Err f) e = ap (λ (s : Result A Fault). s >>= next') e

ma-entry : (place : ℕ) (name : List ℕ) (b : ℕ) (o : Option Entry) → Makes (entry_looks place name b o) (entry_tree place name b o)
ma-entry place name b (Some (Constant i s)) looks = refl
ma-entry place name b (Some (Definition [] body)) looks = ma-added (moved place (body b [])) (λ _ ls. Rattle.qv_elab_defs.specs.Looking.Used body b [] ∷ ls) looks
ma-entry place name b (Some (Definition (s ∷ ss) body)) looks = refl
ma-entry place name b (Some (Synonym s)) looks = refl
ma-entry place name b None looks = ma-still (entry_tree place name b None) looks

pub ma-token : (kind : TokenKind) (place : ℕ) (text : List ℕ) (c : Context) → Makes (token_looks kind place text c) (token_tree kind place text c)
ma-token Symbol place text c = go (found (unquoted text) c.bound)
  where
    go : (o : Option Tree) → Makes (named_looks place (unquoted text) c o) (named_tree place (unquoted text) c o)
    go (Some t) looks = refl
    go None looks = ma-entry place (unquoted text) c.binders (found (unquoted text) c.scope) looks
ma-token kind place text c = ma-still (token_tree kind place text c)

ma-unless : (place : ℕ) (n : Naming) (x : Looking Tree) (r : Result Tree Fault) → Makes x r → Makes (unless_misnamed_looks place n x) (unless_misnamed place n r)
ma-unless place Unnamed x r h = h
ma-unless place (NamedBy name) x r h = h
ma-unless place Misnamed x r h = ma-still (refuse place Form)

ma-cond : (b : Bool) (place : ℕ) (x : Looking Tree) (r : Result Tree Fault) → Makes x r → Makes (cond b x (still (refuse place Form))) (cond b r (refuse place Form))
ma-cond true place x r h = h
ma-cond false place x r h = ma-still (refuse place Form)

-- what a head makes
pub applied-makes : (place binders : ℕ) (head : Head) (ts : List Tree) → Makes (applied_looks place binders head ts) (apply place binders head ts >>= λ tree. shallow place tree)
applied-makes place binders head ts =
    ma-bind (apply_looks place binders head ts) (apply place binders head ts) (λ tree. shallow_looks place tree) (λ tree. shallow place tree)
    (ma-added (apply place binders head ts) (λ _ ls. use_of_head binders head ts ++ ls))
    (λ tree. ma-added (shallow place tree) (λ tree ls. Rattle.qv_elab_defs.specs.Looking.Deep tree ∷ ls))

mutual
  pub makes : (e : Expr) (c : Context) → Makes (looks_of e c) (elab e c)
  makes (atom l) c = ma-token l.kind l.place l.text c
  makes (list place none close) c = ma-still (refuse place Form)
  makes (list place (also first rest) close) c = makes_list (construct_of first) place first rest c

  makes_list : (con : Construct) (place : ℕ) (first : Expr) (rest : Exprs) (c : Context) → Makes (looks_of_list con place first rest c) (elab_list con place first rest c)
  makes_list Let place first (also (list p pairs q) (also body none)) c =
      ma-bind (still (formed place (some_pairs (pairs_of pairs)))) (formed place (some_pairs (pairs_of pairs)))
      (λ _. looks_of_pairs pairs [] c ▷ λ names. looks_of body (record c { bound = names ++ c.bound })) (λ _. elab_pairs pairs [] c >>= λ names. elab body (record c { bound = names ++ c.bound }))
      (ma-still (formed place (some_pairs (pairs_of pairs))))
      (λ _. ma-bind (looks_of_pairs pairs [] c) (elab_pairs pairs [] c) (λ names. looks_of body (record c { bound = names ++ c.bound })) (λ names. elab body (record c { bound = names ++ c.bound }))
      (makes_pairs pairs [] c) (λ names. makes body (record c { bound = names ++ c.bound })))
  makes_list (Quantified quantifier) place first (also (list p pairs q) (also body none)) c =
      ma-bind (still (formed place (some_pairs (pairs_of pairs)))) (formed place (some_pairs (pairs_of pairs)))
      (λ variables. still (read_variables c.scope variables) ▷ λ xs. looks_of body (below_binders xs c) ▷ λ t. still (of_sort BoolSort (place_of body) t) ▷ λ formula. shallow_looks place (closed quantifier c.binders xs formula))
      (λ variables. read_variables c.scope variables >>= λ xs. elab body (below_binders xs c) >>= λ t. of_sort BoolSort (place_of body) t >>= λ formula. shallow place (closed quantifier c.binders xs formula))
      (ma-still (formed place (some_pairs (pairs_of pairs))))
      (λ variables. ma-bind (still (read_variables c.scope variables)) (read_variables c.scope variables)
      (λ xs. looks_of body (below_binders xs c) ▷ λ t. still (of_sort BoolSort (place_of body) t) ▷ λ formula. shallow_looks place (closed quantifier c.binders xs formula))
      (λ xs. elab body (below_binders xs c) >>= λ t. of_sort BoolSort (place_of body) t >>= λ formula. shallow place (closed quantifier c.binders xs formula))
      (ma-still (read_variables c.scope variables))
      (λ xs. ma-bind (looks_of body (below_binders xs c)) (elab body (below_binders xs c))
      (λ t. still (of_sort BoolSort (place_of body) t) ▷ λ formula. shallow_looks place (closed quantifier c.binders xs formula))
      (λ t. of_sort BoolSort (place_of body) t >>= λ formula. shallow place (closed quantifier c.binders xs formula))
      (makes body (below_binders xs c))
      (λ t. ma-bind (still (of_sort BoolSort (place_of body) t)) (of_sort BoolSort (place_of body) t)
      (λ formula. shallow_looks place (closed quantifier c.binders xs formula)) (λ formula. shallow place (closed quantifier c.binders xs formula))
      (ma-still (of_sort BoolSort (place_of body) t))
      (λ formula. ma-added (shallow place (closed quantifier c.binders xs formula)) (λ tree ls. Rattle.qv_elab_defs.specs.Looking.Deep tree ∷ ls)))))
  makes_list Annotated place first (also term attributes) c =
      ma-cond (are_attributes attributes) place (unless_misnamed_looks place (naming attributes) (looks_of term c)) (unless_misnamed place (naming attributes) (elab term c))
      (ma-unless place (naming attributes) (looks_of term c) (elab term c) (makes term c))
  makes_list Indexed place first rest c = ma-still (indexed_literal place (indexed_name (items rest)))
  makes_list Application place first (also e es) c =
      ma-bind (still (head_of c.scope place first)) (head_of c.scope place first)
      (λ head. looks_of e c ▷ λ t. looks_of_all es c ▷ λ ts. apply_looks place c.binders head (t ∷ ts) ▷ λ tree. shallow_looks place tree)
      (λ head. elab e c >>= λ t. elab_all es c >>= λ ts. apply place c.binders head (t ∷ ts) >>= λ tree. shallow place tree)
      (ma-still (head_of c.scope place first))
      (λ head. ma-bind (looks_of e c) (elab e c)
      (λ t. looks_of_all es c ▷ λ ts. apply_looks place c.binders head (t ∷ ts) ▷ λ tree. shallow_looks place tree)
      (λ t. elab_all es c >>= λ ts. apply place c.binders head (t ∷ ts) >>= λ tree. shallow place tree)
      (makes e c)
      (λ t. ma-bind (looks_of_all es c) (elab_all es c)
      (λ ts. apply_looks place c.binders head (t ∷ ts) ▷ λ tree. shallow_looks place tree)
      (λ ts. apply place c.binders head (t ∷ ts) >>= λ tree. shallow place tree)
      (makes_all es c)
      (λ ts. ma-bind (apply_looks place c.binders head (t ∷ ts)) (apply place c.binders head (t ∷ ts)) (λ tree. shallow_looks place tree) (λ tree. shallow place tree)
      (ma-added (apply place c.binders head (t ∷ ts)) (λ _ ls. use_of_head c.binders head (t ∷ ts) ++ ls))
      (λ tree. ma-added (shallow place tree) (λ tree ls. Rattle.qv_elab_defs.specs.Looking.Deep tree ∷ ls)))))
  makes_list _ place first rest c = λ looks. refl

  pub makes_all : (es : Exprs) (c : Context) → Makes (looks_of_all es c) (elab_all es c)
  makes_all none c = ma-still (Ok [])
  makes_all (also e es) c =
      ma-bind (looks_of e c) (elab e c) (λ t. looks_of_all es c ▷ λ ts. still (Ok (t ∷ ts))) (λ t. elab_all es c >>= λ ts. Ok (t ∷ ts)) (makes e c)
      (λ t. ma-bind (looks_of_all es c) (elab_all es c) (λ ts. still (Ok (t ∷ ts))) (λ ts. Ok (t ∷ ts)) (makes_all es c) (λ ts. ma-still (Ok (t ∷ ts))))

  pub makes_pairs : (pairs : Exprs) (names : Named Tree) (c : Context) → Makes (looks_of_pairs pairs names c) (elab_pairs pairs names c)
  makes_pairs (also (list p (also (atom l) (also e none)) q) pairs) names c =
      ma-bind (still (new_name l.place (unquoted l.text) names)) (new_name l.place (unquoted l.text) names)
      (λ name. looks_of e c ▷ λ t. looks_of_pairs pairs ((name, t) ∷ names) c) (λ name. elab e c >>= λ t. elab_pairs pairs ((name, t) ∷ names) c)
      (ma-still (new_name l.place (unquoted l.text) names))
      (λ name. ma-bind (looks_of e c) (elab e c) (λ t. looks_of_pairs pairs ((name, t) ∷ names) c) (λ t. elab_pairs pairs ((name, t) ∷ names) c) (makes e c)
      (λ t. makes_pairs pairs ((name, t) ∷ names) c))
  makes_pairs _ names c = ma-still (Ok names)
