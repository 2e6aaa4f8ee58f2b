-- How many variables the clauses of formulas take, formula by formula.
use Rattle.std.proofs.Common.{◌≡◌, ℕ, zero, suc, ◌+◌, ◌<◌, ◌≤◌, Some, List, [], ◌∷◌, ◌++◌, length, take, drop, slice_get, refl, sym, ap, subst, ◌∙◌, arith}
use Rattle.std.proofs.lemmas.List.{map-append, take_all}
use Rattle.qv_words.specs.Tree.{Tree}
use Rattle.qv_words.specs.Clauses.{Blasting, cnf_variables, first_blasting, with_formula}
use Rattle.qv_circuits_laws.specs.ClauseLaws.{standing}
use Rattle.qv_circuits_laws.proofs.Growing.{next-behind}
use Rattle.qv_circuits_laws.proofs.Listing.{formulas-append}
use Rattle.qv_store.specs.Nodes.{tree_at}
use Rattle.qv_store.specs.Walks.{named}
use Rattle.qv_blast.specs.declared.blaster.Blaster.{Blaster}
use Rattle.qv_blast.specs.States.{blasting_at, limit_of, HasFormulas}
use Rattle.qv_solve_refute_laws.proofs.FinalUnits.{longer-lists}
use Rattle.qv_solve_refute.specs.Feeding.{IsBlasted}
use Rattle.qv_cert_formulas.proofs.Blasted.{named-next}

-- a blaster that has the first formulas, and stands within its limit
pub record IsBlasting (trees : List Tree) (formulas : List ℕ) (limit n : ℕ) (b : Blaster) : Type 0 where
  pub has : HasFormulas trees (named trees (take n formulas)) b
  pub limit_is : limit_of b ≡ limit
  pub within : (blasting_at trees b).next ≤ limit + 1

pub blasting-start : (trees : List Tree) (formulas : List ℕ) (limit : ℕ) (b : Blaster) → 1 ≤ limit → HasFormulas trees [] b → limit_of b ≡ limit → blasting_at trees b ≡ first_blasting → IsBlasting trees formulas limit 0 b
blasting-start trees formulas limit b some has is first = record {
  has = has;
  limit_is = is;
  within = let e = ap (λ (x : Blasting). x.next) first in omega (arith, e, some);
}

pub blasting-next : (trees : List Tree) (formulas : List ℕ) (limit n m id : ℕ) (old new : Blaster) → slice_get formulas n ≡ Some id → suc n ≡ m → IsBlasting trees formulas limit n old
    → ((fs : List Tree) → HasFormulas trees fs old → HasFormulas trees (fs ++ tree_at trees id ∷ []) new) → limit_of new ≡ limit_of old → (blasting_at trees new).next ≤ limit_of new + 1
    → IsBlasting trees formulas limit m new
blasting-next trees formulas limit n m id old new at e h more is within =
    subst (λ k. IsBlasting trees formulas limit k new) e
    (record {
      has = subst (λ (fs : List Tree). HasFormulas trees fs new) (sym (named-next trees formulas n id at)) (more (named trees (take n formulas)) h.has);
      limit_is = is ∙ h.limit_is;
      within = omega (arith, within, is, h.limit_is);
    })

pub blasted-all : (trees : List Tree) (formulas : List ℕ) (limit n : ℕ) (b : Blaster) → length formulas ≤ n → IsBlasting trees formulas limit n b → IsBlasted trees (named trees formulas) limit (Some b)
blasted-all trees formulas limit n b h is =
    let has : HasFormulas trees (named trees formulas) b = subst (λ (ids : List ℕ). HasFormulas trees (named trees ids) b) (take_all n formulas h) is.has in
    let next = ap (λ (x : Blasting). x.next) has.stands in
    let behind = (next-behind (named trees formulas)).1 in
    (has, omega (arith, is.within, next, behind))

drop-append : {A : Type 0} (xs : List A) (n : ℕ) → take n xs ++ drop n xs ≡ xs
drop-append xs zero = refl
drop-append [] (suc n) = refl
drop-append (x ∷ xs) (suc n) = ap (λ ys. x ∷ ys) (drop-append xs n)

pub blasted-over : (trees : List Tree) (formulas : List ℕ) (limit n id : ℕ) (b : Blaster) → slice_get formulas n ≡ Some id → IsBlasting trees formulas limit n b
    → limit_of b + 1 < (with_formula (blasting_at trees b) (tree_at trees id)).next → limit < cnf_variables (named trees formulas)
blasted-over trees formulas limit n id b at h over =
    let fs = named trees (take n formulas) in
    let longer = fs ++ tree_at trees id ∷ [] in
    let next : (with_formula (blasting_at trees b) (tree_at trees id)).next ≡ (standing longer).next =
    ap (λ (x : Blasting). (with_formula x (tree_at trees id)).next) h.has.stands ∙ sym (ap (λ (x : Blasting). x.next) (formulas-append first_blasting fs (tree_at trees id ∷ []))) in
    let behind = (next-behind longer).1 in
    let rise = longer-lists longer (named trees (drop (suc n) formulas)) in
    let whole : longer ++ named trees (drop (suc n) formulas) ≡ named trees formulas =
    ap (λ (ts : List Tree). ts ++ named trees (drop (suc n) formulas)) (sym (named-next trees formulas n id at))
    ∙ sym (map-append (tree_at trees) (take (suc n) formulas) (drop (suc n) formulas)) ∙ ap (named trees) (drop-append formulas (suc n)) in
    let count = ap cnf_variables whole in
    omega (arith, over, h.limit_is, next, behind, rise, count)
