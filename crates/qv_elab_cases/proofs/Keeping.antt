-- What is kept as scopes grow.
use Rattle.std.proofs.Common.{◌≡◌, ℕ, List, sym, subst, Ok, Err}
use Rattle.std.specs.Prelude.{Result, IfOk, OnOk, OnErr, Vec}
use Rattle.std.specs.declared.alloc.Global.{Global}
use Rattle.std.specs.declared.alloc.AllocError.{AllocError}
use Rattle.qv_words.specs.declared.sort.Sort.{Sort}
use Rattle.qv_words.specs.Sort.{IsLawful}
use Rattle.qv_words.specs.Tree.{Tree}
use Rattle.qv_elab_macros.specs.declared.body.Body.{Body}
use Rattle.qv_elab_scope.specs.declared.scope.Kept.TheVariants.{Constant, Definition, Synonym}
use Rattle.qv_elab_scope.specs.declared.scope.ScopeFault.{ScopeFault}
use Rattle.qv_elab_defs.specs.Scopes.{declared, sort_key, with_sort}
use Rattle.qv_elab_scope.specs.Force.{Force, with_name, constants_in, opened}
use Rattle.qv_elab_scope.proofs.Defined.{constants-are-kept, sorts-are-kept}
use Rattle.qv_elab_cases.specs.Sessions.{IsKept}

module _ (trees : List Tree) (old new : Force) (h : IsKept trees old) where
  pub kept-declared : (name : List ℕ) (s : Sort) (r : Result ℕ ScopeFault) → IsLawful s → IfOk r (λ i. i ≡ constants_in old.kept) → IfOk r (λ i. new ≡ with_name name (Constant i s) old) → OnErr r (new ≡ old) → IsKept trees new
  kept-declared name s (Ok i) lawful is e f =
      let k : IsKept trees (with_name name (Constant (constants_in old.kept) s) old) = (declared name s h.0, constants-are-kept trees old h.0 name s h.1 lawful) in
      subst (λ (x : Force). IsKept trees x) (sym e) (subst (λ (n : ℕ). IsKept trees (with_name name (Constant n s) old)) (sym is) k)
  kept-declared name s (Err fault) lawful is e f = subst (λ (x : Force). IsKept trees x) (sym f) h

  pub kept-sorted : (name : List ℕ) (s : Sort) (r : Result (Unit {0}) AllocError) → IsLawful s → OnOk r (new ≡ with_name (sort_key name) (Synonym s) old) → OnErr r (new ≡ old) → IsKept trees new
  kept-sorted name s (Ok done) lawful e f = subst (λ (x : Force). IsKept trees x) (sym e) (with_sort name s h.0, sorts-are-kept trees old h.0 name s h.1 lawful)
  kept-sorted name s (Err fault) lawful e f = subst (λ (x : Force). IsKept trees x) (sym f) h

  pub kept-opened : (r : Result (Unit {0}) AllocError) → OnOk r (new ≡ opened 1 old) → OnErr r (new ≡ old) → IsKept trees new
  kept-opened (Ok done) e f = subst (λ (x : Force). IsKept trees x) (sym e) (h.0, record { is_scope = h.1.is_scope; kept = h.1.kept })
  kept-opened (Err fault) e f = subst (λ (x : Force). IsKept trees x) (sym f) h

  pub kept-defined : (name : List ℕ) (sorts : Vec Sort Global) (body : Body) (r : Result (Unit {0}) ScopeFault) → IsKept trees (with_name name (Definition sorts body) old) → OnOk r (new ≡ with_name name (Definition sorts body) old) → OnErr r (new ≡ old) → IsKept trees new
  kept-defined name sorts body (Ok done) k e f = subst (λ (x : Force). IsKept trees x) (sym e) k
  kept-defined name sorts body (Err fault) k e f = subst (λ (x : Force). IsKept trees x) (sym f) h
