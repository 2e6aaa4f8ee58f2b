-- A scope with one more definition or constant is kept in the store.
use Rattle.std.proofs.Common.{◌≡◌, ℕ, cond, Option, List, [], ◌∷◌, length, map, reverse, refl, sym, ap, subst, ◌∙◌, Ok, arith, length-append}
use Rattle.std.specs.Prelude.{Result, Any, zip}
use Rattle.std.proofs.lemmas.List.{reverse-append}
use Rattle.std.proofs.lemmas.List.Elements.{All-from_recursion}
use Rattle.qv_sexpr.specs.Script.{Tree as Expr}
use Rattle.qv_words.specs.declared.sort.Sort.{Sort}
use Rattle.qv_words.specs.Sort.{IsLawful}
use Rattle.qv_words.specs.Rank.{sort_eq}
use Rattle.qv_words.specs.Tree.{Tree}
use Rattle.qv_words.proofs.Equals.{sort_eq-refl}
use Rattle.qv_store.specs.Stores.{StandsAt}
use Rattle.qv_elab_defs.specs.declared.faults.ElabKind.TheVariants.{Sorts}
use Rattle.qv_elab_macros.specs.declared.body.Body.{Body}
use Rattle.qv_elab_scope.specs.declared.scope.Kept.{Kept}
use Rattle.qv_elab_scope.specs.declared.scope.Kept.TheVariants as kept
use Rattle.qv_elab_defs.specs.Faults.{Fault, refuse, ◌>>=◌}
use Rattle.qv_elab_defs.specs.Tokens.{place_of}
use Rattle.qv_elab_defs.specs.Written.{HasTokens}
use Rattle.qv_elab_defs.specs.Scopes.{Named, Scope, Entry, Constant, if_constant, constants_of, declared, sort_key, with_sort}
use Rattle.qv_elab_scope.specs.Force.{Force, count_constant, constants_in, with_name}
use Rattle.qv_elab_defs.specs.Applying.{sort_of}
use Rattle.qv_elab_defs.specs.Elaborating.{of_sort}
use Rattle.qv_elab_defs.specs.Defining.{elaborate, elaborate_body, definition}
use Rattle.qv_elab_defs.specs.TreeLaws.{AreParameters, IsScope, declares, defines, abbreviates}
use Rattle.qv_elab_defs.specs.UseLaws.{IsTooDeep}
use Rattle.qv_elab_macros.specs.Readings.{IsLimitedBy, IsReading}
use Rattle.qv_elab_scope.specs.KeptLaws.{DefinitionsAreKept, ConstantsAreKept, SortsAreKept, TreesAreReadings}
use Rattle.qv_elab_scope.specs.Kept.{IsKeptFor, IsKeptDefinition, AreKeptFor, IsScopeIn}
use Rattle.qv_elab_defs.proofs.Depths.{uses-fail_by_depth}
use Rattle.qv_elab_scope.proofs.Forcing.{constants-behind}

-- what `Scope::define` makes of a definition whose own reading stands in the store
pub scope-defined : (trees : List Tree) (force : Force) (defs : Scope) (name : List ℕ) (xs : Named Sort) (s : Sort) (e : Expr) (body : Body) (k : Kept) → IsScopeIn trees force defs → AreParameters xs → HasTokens e → IsReading trees defs xs s e body → IsKeptFor trees defs k (definition defs xs e) → IsScopeIn trees (with_name name k force) ((name, definition defs xs e) ∷ defs)
scope-defined trees force defs name xs s e body k h p w r own = record {
  is_scope = defines defs name xs s e r.tree h.is_scope p w r.reading;
  kept = subst (λ (ks : List Kept). AreKeptFor trees (name ∷ force.names) ks ((name, definition defs xs e) ∷ defs)) (sym (reverse-append force.kept (k ∷ []))) (refl, own, h.kept);
}

-- as it is kept
pub definition-kept : (trees : List Tree) (defs : Scope) (xs : Named Sort) (s : Sort) (e : Expr) (sorts : List Sort) (body : Body) → AreParameters xs → HasTokens e → IsReading trees defs xs s e body → sorts ≡ map (λ x. x.1) xs → IsKeptDefinition trees defs sorts body (definition defs xs e)
definition-kept trees defs xs s e sorts body p w r same = record {
  parameters = xs;
  sort = s;
  expr = e;
  are_parameters = p;
  tokens = w;
  entry_is = refl;
  sorts_are = same;
  reading = r;
}

-- as many constants are kept as are in the scope
counted : (trees : List Tree) (names : List (List ℕ)) (ks : List Kept) (scope : Scope) → AreKeptFor trees names ks scope → constants_in ks ≡ length (constants_of scope)
counted trees [] [] [] h = refl
counted trees (n ∷ names) (k ∷ ks) ((m, x) ∷ scope) h =
    let rest = counted trees names ks scope h.2 in
    let own = one k x h.1 in
    omega (arith, rest, own, length-append (constants_of scope) (if_constant m x))
  where
    one : (k : Kept) (x : Entry) → IsKeptFor trees scope k x → count_constant k ≡ length (if_constant m x)
    one (kept.Constant i s) x e = ap (λ (y : Entry). length (if_constant m y)) (sym e)
    one (kept.Definition sorts body) x d = ap (λ (y : Entry). length (if_constant m y)) (sym d.entry_is)
    one (kept.Synonym s) x e = ap (λ (y : Entry). length (if_constant m y)) (sym e)
counted trees [] [] (x ∷ scope) h = absurd h
counted trees [] (k ∷ ks) scope h = absurd h
counted trees (n ∷ names) [] scope h = absurd h
counted trees (n ∷ names) (k ∷ ks) [] h = absurd h

reversed : (ks : List Kept) → constants_in (reverse ks) ≡ constants_in ks
reversed [] = refl
reversed (k ∷ ks) =
    let rest = reversed ks in
    let behind = constants-behind (reverse ks) k in
    ap constants_in (reverse-append (k ∷ []) ks) ∙ omega (arith, rest, behind)

-- what `Scope::declare` makes
pub scope-declared : (trees : List Tree) (force : Force) (defs : Scope) (name : List ℕ) (s : Sort) → IsScopeIn trees force defs → IsLawful s → IsScopeIn trees (with_name name (kept.Constant (constants_in force.kept) s) force) (declared name s defs)
scope-declared trees force defs name s h l =
    let k : Kept = kept.Constant (constants_in force.kept) s in
    let count : constants_in force.kept ≡ length (constants_of defs) = sym (reversed force.kept) ∙ counted trees force.names (reverse force.kept) defs h.kept in
    let entry : Constant (length (constants_of defs)) s ≡ Constant (constants_in force.kept) s = ap (λ n. Constant n s) (sym count) in
    record {
      is_scope = declares defs name s h.is_scope l;
      kept = subst (λ (ks : List Kept). AreKeptFor trees (name ∷ force.names) ks (declared name s defs)) (sym (reverse-append force.kept (k ∷ []))) (refl, entry, h.kept);
    }

-- what `Scope::define_sort` makes
pub sorts-are-kept : SortsAreKept
sorts-are-kept trees force defs name s h l = record {
  is_scope = abbreviates defs name s h.is_scope l;
  kept = subst (λ (ks : List Kept). AreKeptFor trees (sort_key name ∷ force.names) ks (with_sort name s defs)) (sym (reverse-append force.kept (kept.Synonym s ∷ []))) (refl, refl, h.kept);
}

-- the own reading of a definition without parameters
alone-limited : (scope : Scope) (s : Sort) (e : Expr) (t : Tree) → IsScope scope → HasTokens e → AreParameters [] → elaborate_body scope [] s e ≡ Ok t → IsLimitedBy scope [] e []
alone-limited scope s e t h w p r binders args a =
    let fails = uses-fail_by_depth scope [] s e t h p w r in
    let told = (fails.2 binders args a).1 in
    (λ err. absurd (no-places fails.0 fails.1 args (told.0 err)), λ any. absurd (omega (arith, any.2)))
  where
    no-places : (below : List (Option ℕ)) → length below ≡ 0 → (args : List Tree) → Any (λ x. IsTooDeep x.0 x.1) (zip below args) → ⊥
    no-places [] f args any = omega (arith, any.2)
    no-places (b ∷ bs) f args any = omega (arith, f)

pub reading-alone : (trees : List Tree) (scope : Scope) (s : Sort) (e : Expr) (t : Tree) (body : Body) → IsScope scope → HasTokens e → AreParameters [] → elaborate scope e ≡ Ok t → sort_of t ≡ s → StandsAt trees body.id t → body.depths.items ≡ [] → IsReading trees scope [] s e body
reading-alone trees scope s e t body h w p r same at none =
    let own : elaborate_body scope [] s e ≡ Ok t =
    ap (λ (q : Result Tree Fault). q >>= of_sort s (place_of e)) r
    ∙ ap (λ (v : Sort). cond (sort_eq s v) (Ok t) (refuse (place_of e) Sorts)) same
    ∙ ap (λ b. cond b (Ok t) (refuse (place_of e) Sorts)) (sort_eq-refl s) in
    record {
      tree = t;
      reading = own;
      stands = at;
      count = ap length none;
      limited = subst (λ (ds : List ℕ). IsLimitedBy scope [] e ds) (sym none) (alone-limited scope s e t h w p own);
    }

pub definitions-are-kept : DefinitionsAreKept
definitions-are-kept trees force scope name parameters s e sorts body h p w r same =
    scope-defined trees force scope name parameters s e body (kept.Definition sorts body) h p w r (definition-kept trees scope parameters s e sorts.items body p w r same)

pub constants-are-kept : ConstantsAreKept
constants-are-kept = scope-declared

pub trees-are-readings : TreesAreReadings
trees-are-readings trees scope s e t body h w r same at none = reading-alone trees scope s e t body h w no-parameters r same at none
  where
    no-parameters : AreParameters []
    no-parameters = (All-from_recursion (λ (x : List ℕ × Sort). IsLawful x.1) [] tt, λ i j d lt le. absurd (omega (arith, le)))
