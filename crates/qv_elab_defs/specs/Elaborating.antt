-- The tree that an expression stands for, or its first fault.
use Rattle.std.specs.Prelude.{ℕ, suc, is_some, if◌then◌else◌, List, [], ◌∷◌, ◌++◌, Result, Ok}
use Rattle.qv_sexpr.specs.Script.{atom, list, none, also}
use Rattle.qv_sexpr.specs.Script.{Tree as Expr, Trees as Exprs}
use Rattle.qv_words.specs.declared.sort.Sort.{Sort}
use Rattle.qv_words.specs.declared.sort.Sort.TheVariants.{Bool}
use Rattle.qv_words.specs.Rank.{sort_eq}
use Rattle.qv_words.specs.Tree.{Tree, ForAll, Exists}
use Rattle.qv_elab_defs.specs.declared.faults.ElabKind.TheVariants.{Form, NotSupported, Sorts, RepeatedName}
use Rattle.qv_elab_defs.specs.Faults.{Fault, refuse, formed, ◌>>=◌}
use Rattle.qv_elab_defs.specs.Tokens.{place_of, unquoted, items}
use Rattle.qv_elab_defs.specs.Shapes.{Quantifier, Universal, Existential, Construct, Let, Quantified, Annotated, Indexed, Qualified, Unsupported, Application, construct_of, indexed_name, Pair, pairs_of, some_pairs, are_attributes, Naming, Unnamed, Misnamed, naming}
use Rattle.qv_elab_defs.specs.Shapes.{Named as NamedBy}
use Rattle.qv_elab_defs.specs.Scopes.{Named, Scope, found, Context, below_binders}
use Rattle.qv_elab_defs.specs.Synonyms.{scoped_sort}
use Rattle.qv_elab_defs.specs.Heads.{head_of}
use Rattle.qv_elab_defs.specs.Applying.{sort_of, shallow, apply}
use Rattle.qv_elab_defs.specs.Leaves.{token_tree, indexed_literal}

-- a tree of this sort, at this place
abbrev pub of_sort : Sort → ℕ → Tree → Result Tree Fault
of_sort s place t = if sort_eq s (sort_of t) then Ok t else refuse place Sorts

-- the variables of a quantifier with their sorts
abbrev pub read_variables : Scope → List Pair → Result (Named Sort) Fault
read_variables scope [] = Ok []
read_variables scope (p ∷ ps) = scoped_sort scope p.beside >>= λ s. read_variables scope ps >>= λ xs. Ok ((p.name, s) ∷ xs)

-- a quantifier of one variable
abbrev pub quantified : Quantifier → ℕ → Sort → Tree → Tree
quantified Universal level s body = ForAll level s body
quantified Existential level s body = Exists level s body

-- a quantifier for each variable, the first of this level
abbrev pub closed : Quantifier → ℕ → Named Sort → Tree → Tree
closed q level [] body = body
closed q level (x ∷ xs) body = quantified q level x.1 (closed q (suc level) xs body)

-- a name that these names have already is refused
abbrev pub new_name : {A : Type 0} → ℕ → List ℕ → Named A → Result (List ℕ) Fault
new_name place name names = if is_some (found name names) then refuse place RepeatedName else Ok name

-- `:named` is looked at before the term. What it names is what commands define.
abbrev pub unless_misnamed : ℕ → Naming → Result Tree Fault → Result Tree Fault
unless_misnamed place Unnamed t = t
unless_misnamed place (NamedBy name) t = t
unless_misnamed place Misnamed t = refuse place Form

abbrev mutual
  pub elab : Expr → Context → Result Tree Fault
  elab (atom l) c = token_tree l.kind l.place l.text c
  elab (list place none close) c = refuse place Form
  elab (list place (also first rest) close) c = elab_list (construct_of first) place first rest c

  -- a list by what it begins with, and what follows
  pub elab_list : Construct → ℕ → Expr → Exprs → Context → Result Tree Fault
  -- (let ((x t) ..) body)
  elab_list Let place first (also (list p pairs q) (also body none)) c =
      formed place (some_pairs (pairs_of pairs)) >>= λ _.
      elab_pairs pairs [] c >>= λ names.
      elab body (record c { bound = names ++ c.bound })
  -- (forall ((x S) ..) body), (exists ((x S) ..) body)
  elab_list (Quantified quantifier) place first (also (list p pairs q) (also body none)) c =
      formed place (some_pairs (pairs_of pairs)) >>= λ variables.
      read_variables c.scope variables >>= λ xs.
      elab body (below_binders xs c) >>= λ t.
      of_sort Bool (place_of body) t >>= λ formula.
      shallow place (closed quantifier c.binders xs formula)
  -- (! t attributes)
  elab_list Annotated place first (also term attributes) c =
      if are_attributes attributes then unless_misnamed place (naming attributes) (elab term c) else refuse place Form
  -- (_ bvN w)
  elab_list Indexed place first rest c = indexed_literal place (indexed_name (items rest))
  -- (as ..), (lambda ..), (match ..), (par ..)
  elab_list Qualified place first rest c = refuse place NotSupported
  elab_list Unsupported place first rest c = refuse place NotSupported
  -- (head t ..)
  elab_list Application place first (also e es) c =
      head_of c.scope place first >>= λ head.
      elab e c >>= λ t.
      elab_all es c >>= λ ts.
      apply place c.binders head (t ∷ ts) >>= λ tree.
      shallow place tree
  elab_list _ place first rest c = refuse place Form

  -- each of some expressions
  pub elab_all : Exprs → Context → Result (List Tree) Fault
  elab_all none c = Ok []
  elab_all (also e es) c = elab e c >>= λ t. elab_all es c >>= λ ts. Ok (t ∷ ts)

  -- the pairs of a `let`, behind these names of it: each name, and then its term
  pub elab_pairs : Exprs → Named Tree → Context → Result (Named Tree) Fault
  elab_pairs (also (list p (also (atom l) (also e none)) q) pairs) names c =
      new_name l.place (unquoted l.text) names >>= λ name.
      elab e c >>= λ t.
      elab_pairs pairs ((name, t) ∷ names) c
  elab_pairs _ names c = Ok names
