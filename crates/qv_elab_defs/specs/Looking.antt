-- What is looked at for its depth while the tree of an expression is made. It is what a use of a
-- definition may fail by.
use Rattle.std.specs.Prelude.{ℕ, if◌then◌else◌, Option, Some, None, List, [], ◌∷◌, ◌++◌, Result, Ok}
use Rattle.qv_text.specs.declared.kinds.TokenKind.{TokenKind}
use Rattle.qv_text.specs.declared.kinds.TokenKind.TheVariants.{Symbol}
use Rattle.qv_sexpr.specs.Script.{atom, list, none, also}
use Rattle.qv_sexpr.specs.Script.{Tree as Expr, Trees as Exprs}
use Rattle.qv_words.specs.declared.sort.Sort.TheVariants.{Bool}
use Rattle.qv_words.specs.Tree.{Tree}
use Rattle.qv_elab_defs.specs.Faults.{Fault, refuse, formed, ◌>>=◌, moved}
use Rattle.qv_elab_defs.specs.Tokens.{place_of, unquoted, items}
use Rattle.qv_elab_defs.specs.Shapes.{Construct, Let, Quantified, Annotated, Indexed, Qualified, Unsupported, Application, construct_of, indexed_name, pairs_of, some_pairs, are_attributes, Naming, Unnamed, Misnamed, naming}
use Rattle.qv_elab_defs.specs.Shapes.{Named as NamedBy}
use Rattle.qv_elab_defs.specs.declared.faults.ElabKind.TheVariants.{Form, NotSupported}
use Rattle.qv_elab_defs.specs.Scopes.{Entry, Definition, Named, found, Context, below_binders}
use Rattle.qv_elab_defs.specs.Heads.{Head, Macro, head_of}
use Rattle.qv_elab_defs.specs.Applying.{shallow, apply}
use Rattle.qv_elab_defs.specs.Leaves.{entry_tree, token_tree, indexed_literal}
use Rattle.qv_elab_defs.specs.Elaborating.{of_sort, read_variables, closed, new_name}

-- a tree at the place of an expression, and a use of a definition with so many open binders
pub data Look : Type 0 where
  Deep : (t : Tree) → Look
  Used : (body : ℕ → List Tree → Result Tree Fault) → (binders : ℕ) → (args : List Tree) → Look

-- a tree with what was looked at, the newest first
abbrev pub Seen : Type 0
Seen = Tree × List Look

-- what is made behind these looks, and what was looked at then, the newest first
abbrev pub Looking : Type 0 → Type 0
Looking A = List Look → Result (A × List Look) Fault

-- nothing is looked at
abbrev pub still : {A : Type 0} → Result A Fault → Looking A
still r looks = r >>= λ a. Ok (a, looks)

infixl 10 ◌▷◌
abbrev pub ◌▷◌ : {A B : Type 0} → Looking A → (A → Looking B) → Looking B
◌▷◌ x next looks = x looks >>= λ r. next r.0 r.1

abbrev pub shallow_looks : ℕ → Tree → Looking Tree
shallow_looks place t looks = shallow place t >>= λ tree. Ok (tree, Deep tree ∷ looks)

-- the use that a head is
abbrev pub use_of_head : ℕ → Head → List Tree → List Look
use_of_head binders (Macro parameters body) ts = Used body binders ts ∷ []
use_of_head binders _ ts = []

abbrev pub apply_looks : ℕ → ℕ → Head → List Tree → Looking Tree
apply_looks place binders head ts looks = apply place binders head ts >>= λ tree. Ok (tree, use_of_head binders head ts ++ looks)

-- what a head makes of trees
abbrev pub applied_looks : ℕ → ℕ → Head → List Tree → Looking Tree
applied_looks place binders head ts = apply_looks place binders head ts ▷ λ tree. shallow_looks place tree

abbrev pub entry_looks : ℕ → List ℕ → ℕ → Option Entry → Looking Tree
entry_looks place name binders (Some (Definition [] body)) looks = moved place (body binders []) >>= λ tree. Ok (tree, Used body binders [] ∷ looks)
entry_looks place name binders o looks = entry_tree place name binders o >>= λ tree. Ok (tree, looks)

abbrev pub named_looks : ℕ → List ℕ → Context → Option Tree → Looking Tree
named_looks place name c (Some t) looks = Ok (t, looks)
named_looks place name c None looks = entry_looks place name c.binders (found name c.scope) looks

abbrev pub token_looks : TokenKind → ℕ → List ℕ → Context → Looking Tree
token_looks Symbol place text c = named_looks place (unquoted text) c (found (unquoted text) c.bound)
token_looks kind place text c = still (token_tree kind place text c)

abbrev pub unless_misnamed_looks : ℕ → Naming → Looking Tree → Looking Tree
unless_misnamed_looks place Unnamed x = x
unless_misnamed_looks place (NamedBy name) x = x
unless_misnamed_looks place Misnamed x = still (refuse place Form)

-- the same as `elab`, with what is looked at
abbrev mutual
  pub looks_of : Expr → Context → Looking Tree
  looks_of (atom l) c = token_looks l.kind l.place l.text c
  looks_of (list place none close) c = still (refuse place Form)
  looks_of (list place (also first rest) close) c = looks_of_list (construct_of first) place first rest c

  pub looks_of_list : Construct → ℕ → Expr → Exprs → Context → Looking Tree
  looks_of_list Let place first (also (list p pairs q) (also body none)) c =
      still (formed place (some_pairs (pairs_of pairs))) ▷ λ _.
      looks_of_pairs pairs [] c ▷ λ names.
      looks_of body (record c { bound = names ++ c.bound })
  looks_of_list (Quantified quantifier) place first (also (list p pairs q) (also body none)) c =
      still (formed place (some_pairs (pairs_of pairs))) ▷ λ variables.
      still (read_variables c.scope variables) ▷ λ xs.
      looks_of body (below_binders xs c) ▷ λ t.
      still (of_sort Bool (place_of body) t) ▷ λ formula.
      shallow_looks place (closed quantifier c.binders xs formula)
  looks_of_list Annotated place first (also term attributes) c =
      if are_attributes attributes then unless_misnamed_looks place (naming attributes) (looks_of term c) else still (refuse place Form)
  looks_of_list Indexed place first rest c = still (indexed_literal place (indexed_name (items rest)))
  looks_of_list Application place first (also e es) c =
      still (head_of c.scope place first) ▷ λ head.
      looks_of e c ▷ λ t.
      looks_of_all es c ▷ λ ts.
      apply_looks place c.binders head (t ∷ ts) ▷ λ tree.
      shallow_looks place tree
  looks_of_list Qualified place first rest c = still (refuse place NotSupported)
  looks_of_list Unsupported place first rest c = still (refuse place NotSupported)
  looks_of_list _ place first rest c = still (refuse place Form)

  pub looks_of_all : Exprs → Context → Looking (List Tree)
  looks_of_all none c = still (Ok [])
  looks_of_all (also e es) c = looks_of e c ▷ λ t. looks_of_all es c ▷ λ ts. still (Ok (t ∷ ts))

  pub looks_of_pairs : Exprs → Named Tree → Context → Looking (Named Tree)
  looks_of_pairs (also (list p (also (atom l) (also e none)) q) pairs) names c =
      still (new_name l.place (unquoted l.text) names) ▷ λ name.
      looks_of e c ▷ λ t.
      looks_of_pairs pairs ((name, t) ∷ names) c
  looks_of_pairs _ names c = still (Ok names)
