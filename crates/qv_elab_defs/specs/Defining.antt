-- Expressions in a scope, and the two readings of a definition: its own, and at each use.
use Rattle.std.specs.Prelude.{List, [], ◌∷◌, map, zip, Result, Ok}
use Rattle.qv_sexpr.specs.Script.{Tree as Expr}
use Rattle.qv_words.specs.declared.sort.Sort.{Sort}
use Rattle.qv_words.specs.Tree.{Tree}
use Rattle.qv_elab_defs.specs.Faults.{Fault, ◌>>=◌}
use Rattle.qv_elab_defs.specs.Tokens.{place_of}
use Rattle.qv_elab_defs.specs.Shapes.{Pair}
use Rattle.qv_elab_defs.specs.Scopes.{Entry, Definition, Named, Scope, below_binders, outermost}
use Rattle.qv_elab_defs.specs.Synonyms.{scoped_sort}
use Rattle.qv_elab_defs.specs.Elaborating.{elab, of_sort, new_name}

-- the tree of an expression
abbrev pub elaborate : Scope → Expr → Result Tree Fault
elaborate scope e = elab e (outermost scope)

-- the same of this sort
abbrev pub elaborate_to : Scope → Sort → Expr → Result Tree Fault
elaborate_to scope s e = elaborate scope e >>= of_sort s (place_of e)

-- a parameter list, behind these parameters of it: each name, and then its sort
abbrev pub read_parameters : Scope → List Pair → Named Sort → Result (Named Sort) Fault
read_parameters scope [] before = Ok []
read_parameters scope (p ∷ ps) before =
    new_name p.place p.name before >>= λ name.
    scoped_sort scope p.beside >>= λ s.
    read_parameters scope ps ((name, s) ∷ before) >>= λ after.
    Ok ((name, s) ∷ after)

-- a definition's own reading: its parameters are variables, the first of level 0, and count as open
-- binders
abbrev pub elaborate_body : Scope → Named Sort → Sort → Expr → Result Tree Fault
elaborate_body scope parameters s body = elab body (below_binders parameters (outermost scope)) >>= of_sort s (place_of body)

-- the definition: at a use the body is read in the names of the definition, at the depth of the
-- use, and the parameters stand for the arguments
abbrev pub definition : Scope → Named Sort → Expr → Entry
definition scope parameters body = Definition (map (λ x. x.1) parameters)
    (λ binders args. elab body (record { scope = scope; bound = zip (map (λ x. x.0) parameters) args; binders = binders }))
