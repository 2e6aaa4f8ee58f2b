-- Parameters that are read.
use Rattle.std.proofs.Common.{◌≡◌, ◌≢◌, ℕ, zero, suc, Bool, true, false, cond, Option, Some, None, List, [], ◌∷◌, refl, ap, subst, ◌∙◌, Ok, Err, arith}
use Rattle.std.specs.Prelude.{AllPairs, Result, IfOk, Vec, is_some}
use Rattle.std.specs.declared.alloc.Global.{Global}
use Rattle.std.specs.List.{AllByRecursion}
use Rattle.std.specs.Str.{bytes_eq}
use Rattle.std.proofs.lemmas.List.Elements.{All-from_recursion, All-get_or}
use Rattle.std.proofs.lemmas.Slice.Eq.{bytes_eq-Decides}
use Rattle.qv_words.specs.declared.sort.Sort.{Sort}
use Rattle.qv_words.specs.Sort.{IsLawful}
use Rattle.qv_elab.specs.declared.bodies.Parameter.{Parameter}
use Rattle.qv_elab_defs.specs.declared.faults.ElabFault.{ElabFault}
use Rattle.qv_elab_defs.specs.declared.faults.ElabKind.TheVariants.{RepeatedName}
use Rattle.qv_elab_defs.specs.Faults.{Fault, refuse, ◌>>=◌}
use Rattle.qv_elab_defs.specs.Shapes.{Pair}
use Rattle.qv_elab_defs.specs.Scopes.{Named, Scope, found}
use Rattle.qv_elab_defs.specs.Synonyms.{scoped_sort}
use Rattle.qv_elab_defs.specs.Elaborating.{new_name}
use Rattle.qv_elab_defs.specs.Defining.{read_parameters}
use Rattle.qv_elab_defs.specs.TreeLaws.{AreParameters, IsScope}
use Rattle.qv_elab.specs.ReadBodies.{parameters_of, ReadsParameters}
use Rattle.qv_elab_defs.proofs.ElaboratedTrees.{scoped-sorts-are-lawful}
use Rattle.qv_elab_defs.proofs.OpenApplied.{ok-bind}

abbrev AreApart : Named Sort → Type 0
AreApart [] = Unit {0}
AreApart (x ∷ xs) = AllByRecursion (λ y. x.0 ≢ y.0) xs × AreApart xs

apart-pairs : (xs : Named Sort) → AreApart xs → AllPairs (λ x y. x.0 ≢ y.0) xs
apart-pairs [] h i j d lt le = absurd (omega (arith, le))
apart-pairs (x ∷ xs) h zero zero d lt le = absurd (omega (arith, lt))
apart-pairs (x ∷ xs) h zero (suc j) d lt le = All-get_or (λ y. x.0 ≢ y.0) xs j d (omega arith) (All-from_recursion (λ y. x.0 ≢ y.0) xs h.0)
apart-pairs (x ∷ xs) h (suc i) zero d lt le = absurd (omega (arith, lt))
apart-pairs (x ∷ xs) h (suc i) (suc j) d lt le = apart-pairs xs h.1 i j d (omega arith) (omega arith)

-- lawful sorts, and names that are apart from one another and from those before
abbrev ArePlain : Named Sort → Named Sort → Type 0
ArePlain before xs = AllByRecursion (λ x. IsLawful x.1) xs × AreApart xs × AllByRecursion (λ x. found x.0 before ≡ None) xs

later-names : (name : List ℕ) (s : Sort) (before xs : Named Sort) → AllByRecursion (λ x. found x.0 ((name, s) ∷ before) ≡ None) xs → AllByRecursion (λ x. name ≢ x.0) xs × AllByRecursion (λ x. found x.0 before ≡ None) xs
later-names name s before [] h = (tt, tt)
later-names name s before (x ∷ xs) h =
    let rest = later-names name s before xs h.1 in
    let this = go (bytes_eq name x.0) refl (found x.0 before) h.0 in
    ((this.0, rest.0), (this.1, rest.1))
  where
    go : (b : Bool) → bytes_eq name x.0 ≡ b → (o : Option Sort) → cond b (Some s) o ≡ None → (name ≢ x.0) × (o ≡ None)
    go true e o k = absurd (cc)
    go false e o k = (let other : name ≡ x.0 → ⊥ = grind (arith, bytes_eq-Decides name x.0) in other, k)

ok-name : (place : ℕ) (name : List ℕ) (before : Named Sort) → IfOk (new_name place name before) (λ n. (n ≡ name) × (found name before ≡ None))
ok-name place name before = go (found name before)
  where
    go : (o : Option Sort) → IfOk (cond (is_some o) (refuse place RepeatedName) (Ok name)) (λ n. (n ≡ name) × (o ≡ None))
    go None = (refl, refl)
    go (Some s) = tt

ok-parameters : (scope : Scope) → IsScope scope → (ps : List Pair) (before : Named Sort) → IfOk (read_parameters scope ps before) (ArePlain before)
ok-parameters scope is-scope [] before = (tt, tt, tt)
ok-parameters scope is-scope (p ∷ ps) before =
    ok-bind (new_name p.place p.name before) (λ name. scoped_sort scope p.beside >>= λ s. read_parameters scope ps ((name, s) ∷ before) >>= λ after. Ok ((name, s) ∷ after)) (λ n. (n ≡ p.name) × (found p.name before ≡ None)) (ArePlain before) (ok-name p.place p.name before)
    (λ name is. ok-bind (scoped_sort scope p.beside) (λ s. read_parameters scope ps ((name, s) ∷ before) >>= λ after. Ok ((name, s) ∷ after)) IsLawful (ArePlain before) (scoped-sorts-are-lawful scope p.beside is-scope)
    (λ s l. ok-bind (read_parameters scope ps ((name, s) ∷ before)) (λ after. Ok ((name, s) ∷ after)) (ArePlain ((name, s) ∷ before)) (ArePlain before) (ok-parameters scope is-scope ps ((name, s) ∷ before))
    (λ xs h. let rest = later-names name s before xs h.2 in
    ((l, h.0), (rest.0, h.1), (ap (λ n. found n before) is.0 ∙ is.1, rest.1)))))

parameters-from : (xs : Named Sort) → ArePlain [] xs → AreParameters xs
parameters-from xs h = (All-from_recursion (λ x. IsLawful x.1) xs h.0, apart-pairs xs h.1)

-- what is read is a parameter list
pub read-parameters : (scope : Scope) → IsScope scope → (ps : List Pair) (r : Result (Vec Parameter Global) ElabFault) → ReadsParameters scope ps r → IfOk r (λ parameters. AreParameters (parameters_of parameters.items))
read-parameters scope is-scope ps (Err fault) h = tt
read-parameters scope is-scope ps (Ok parameters) h = go (read_parameters scope ps []) (ok-parameters scope is-scope ps []) h
  where
    go : (given : Result (Named Sort) Fault) → IfOk given (ArePlain []) → given ≡ Ok (parameters_of parameters.items) → AreParameters (parameters_of parameters.items)
    go (Ok xs) plain e = subst (λ (ys : Named Sort). AreParameters ys) (ok-is xs (parameters_of parameters.items) e) (parameters-from xs plain)
      where
        ok-is : (a b : Named Sort) → ◌≡◌ {A = Result (Named Sort) Fault} (Ok a) (Ok b) → a ≡ b
        ok-is a b e = cc
    go (Err fault) plain e = absurd (cc)
