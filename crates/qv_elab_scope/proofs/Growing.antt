-- What stands in a store still stands when it grows.
use Rattle.std.proofs.Common.{ℕ, List, [], ◌∷◌}
use Rattle.qv_words.specs.Tree.{Tree}
use Rattle.qv_words.specs.declared.sort.Sort.{Sort}
use Rattle.qv_sexpr.specs.Script.{Tree as Expr}
use Rattle.qv_store.specs.Stores.{Grows}
use Rattle.qv_elab_macros.specs.declared.body.Body.{Body}
use Rattle.qv_elab_scope.specs.declared.scope.Kept.{Kept}
use Rattle.qv_elab_scope.specs.declared.scope.Kept.TheVariants as kept
use Rattle.qv_elab_defs.specs.Scopes.{Named, Scope, Entry}
use Rattle.qv_elab_scope.specs.Force.{Force}
use Rattle.qv_elab_macros.specs.Readings.{IsReading as IsBodyReading}
use Rattle.qv_elab_scope.specs.Kept.{IsKeptFor, AreKeptFor, IsScopeIn}
use Rattle.qv_elab_scope.specs.Ids.{AreAt}
pub use Rattle.qv_elab_scope.proofs.Standing.{stands-grows, named-grows}
use Rattle.qv_elab_macros.specs.declared.standing.Watched.{Watched}
use Rattle.qv_elab_defs.specs.Faults.{Fault}
use Rattle.qv_elab_defs.specs.Looking.{Look}
use Rattle.qv_elab_macros.specs.Checked.{AreArgChecks, IsUseChecked, IsCheckedBy, nothing, deep, used}
use Rattle.std.specs.Prelude.{Result}

module _ (old new : List Tree) (g : Grows old new) where
  pub at-grows : (ns : List ℕ) (ts : List Tree) → AreAt old ns ts → AreAt new ns ts
  at-grows [] [] h = tt
  at-grows (n ∷ ns) (t ∷ ts) h = (stands-grows old new g n t h.0, at-grows ns ts h.1)
  at-grows [] (t ∷ ts) h = absurd h
  at-grows (n ∷ ns) [] h = absurd h

  reading-grows : (scope : Scope) (ps : Named Sort) (s : Sort) (e : Expr) (body : Body) → IsBodyReading old scope ps s e body → IsBodyReading new scope ps s e body
  reading-grows scope ps s e body h = record {
    tree = h.tree;
    reading = h.reading;
    stands = stands-grows old new g body.id h.tree h.stands;
    count = h.count;
    limited = h.limited;
  }

  kept-grows : (scope : Scope) (k : Kept) (x : Entry) → IsKeptFor old scope k x → IsKeptFor new scope k x
  kept-grows scope (kept.Constant i s) x h = h
  kept-grows scope (kept.Definition sorts body) x h = record {
    parameters = h.parameters;
    sort = h.sort;
    expr = h.expr;
    are_parameters = h.are_parameters;
    tokens = h.tokens;
    entry_is = h.entry_is;
    sorts_are = h.sorts_are;
    reading = reading-grows scope h.parameters h.sort h.expr body h.reading;
  }
  kept-grows scope (kept.Synonym s) x h = h

  all-grows : (names : List (List ℕ)) (ks : List Kept) (scope : Scope) → AreKeptFor old names ks scope → AreKeptFor new names ks scope
  all-grows [] [] [] h = tt
  all-grows (n ∷ names) (k ∷ ks) (x ∷ scope) h = (h.0, kept-grows scope k x.1 h.1, all-grows names ks scope h.2)
  all-grows [] [] (x ∷ scope) h = absurd h
  all-grows [] (k ∷ ks) scope h = absurd h
  all-grows (n ∷ names) [] scope h = absurd h
  all-grows (n ∷ names) (k ∷ ks) [] h = absurd h

  pub scope-grows : (force : Force) (scope : Scope) → IsScopeIn old force scope → IsScopeIn new force scope
  scope-grows force scope h = record { is_scope = h.is_scope; kept = all-grows force.names _ scope h.kept }

  -- what is watched
  args-grow : (ts : List Tree) (ds : List ℕ) (cs : List Watched) → AreArgChecks old ts ds cs → AreArgChecks new ts ds cs
  args-grow [] [] [] h = tt
  args-grow (t ∷ ts) (d ∷ ds) (c ∷ cs) h = (stands-grows old new g c.id t h.0, h.1, args-grow ts ds cs h.2)
  args-grow [] [] (c ∷ cs) h = absurd h
  args-grow [] (d ∷ ds) cs h = absurd h
  args-grow (t ∷ ts) [] cs h = absurd h
  args-grow (t ∷ ts) (d ∷ ds) [] h = absurd h

  use-grows : (cs : List Watched) (body : ℕ → List Tree → Result Tree Fault) (b : ℕ) (ts : List Tree) → IsUseChecked old cs body b ts → IsUseChecked new cs body b ts
  use-grows cs body b ts x = record {
    scope = x.scope;
    parameters = x.parameters;
    expr = x.expr;
    depths = x.depths;
    definition = x.definition;
    limited = x.limited;
    arguments = x.arguments;
    ok = x.ok;
    arg_checks = args-grow ts x.depths cs x.arg_checks;
  }

  pub looked-grows : (cs : List Watched) (ls : List Look) → IsCheckedBy old cs ls → IsCheckedBy new cs ls
  looked-grows _ _ (nothing _) = nothing new
  looked-grows _ _ (deep _ cs ls c t h at zero-depth low) = deep new cs ls c t (looked-grows cs ls h) (stands-grows old new g c.id t at) zero-depth low
  looked-grows _ _ (used _ cs more ls body b ts h x) = used new cs more ls body b ts (looked-grows cs ls h) (use-grows more body b ts x)
