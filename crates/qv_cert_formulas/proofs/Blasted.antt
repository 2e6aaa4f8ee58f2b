-- How many variables the clause list of formulas has, formula by formula.
use Rattle.std.proofs.Common.{◌≡◌, ℕ, zero, suc, ◌+◌, ◌<◌, ◌≤◌, true, false, Some, List, [], ◌∷◌, ◌++◌, length, map, take, drop, slice_get, refl, sym, ap, subst, ◌∙◌, append_assoc, arith}
use Rattle.std.specs.Prelude.{nat_lt}
use Rattle.std.proofs.lemmas.Bool.Decides.{nat_tests}
use Rattle.std.proofs.lemmas.List.{map-append, take_all}
use Rattle.qv_words.specs.Tree.{Tree}
use Rattle.qv_words.specs.Clauses.{Blasting, first_blasting, with_formula, with_formulas, cnf_variables}
use Rattle.qv_words.proofs.Elements.{take-one}
use Rattle.qv_words.proofs.NewNodes.{nil-behind}
use Rattle.qv_circuits_laws.specs.ClauseLaws.{standing}
use Rattle.qv_circuits_laws.proofs.Growing.{next-behind, one-more}
use Rattle.qv_circuits_laws.proofs.Listing.{formulas-append}
use Rattle.qv_store.specs.Nodes.{tree_at}
use Rattle.qv_store.specs.Walks.{named}
use Rattle.qv_blast.specs.declared.blaster.Blaster.{Blaster}
use Rattle.qv_blast.specs.States.{blasting_at, limit_of, HasFormulas}
use Rattle.qv_cert.specs.Section.{has_too_many}
use Rattle.qv_cert_nodes.proofs.Grown.{map-pushed}

-- a longer list has no fewer
variables-rise : (fs gs : List Tree) → cnf_variables fs ≤ cnf_variables (fs ++ gs)
variables-rise fs [] = let e = ap cnf_variables (nil-behind fs) in omega (arith, e)
variables-rise fs (g ∷ gs) =
    let one = (one-more fs g).1 in
    let rest = variables-rise (fs ++ g ∷ []) gs in
    let whole = ap cnf_variables (append_assoc fs (g ∷ []) gs) in
    omega (arith, one, rest, whole)

-- a blaster that has the first formulas, and stands within the limit
pub record IsBlasting (trees : List Tree) (formulas : List ℕ) (n : ℕ) (b : Blaster) : Type 0 where
  pub has : HasFormulas trees (named trees (take n formulas)) b
  pub limit : limit_of b ≡ 1073741824
  pub within : (blasting_at trees b).next ≤ 1073741825

pub named-next : (trees : List Tree) (formulas : List ℕ) (n id : ℕ) → slice_get formulas n ≡ Some id → named trees (take (suc n) formulas) ≡ named trees (take n formulas) ++ tree_at trees id ∷ []
named-next trees formulas n id at = ap (named trees) (take-one formulas n id at) ∙ map-pushed (tree_at trees) (take n formulas) id

pub blasting-start : (trees : List Tree) (formulas : List ℕ) (b : Blaster) → HasFormulas trees [] b → limit_of b ≡ 1073741824 → blasting_at trees b ≡ first_blasting → IsBlasting trees formulas 0 b
blasting-start trees formulas b has limit first = record {
  has = has;
  limit = limit;
  within = let e = ap (λ (x : Blasting). x.next) first in omega (arith, e);
}

pub blasting-next : (trees : List Tree) (formulas : List ℕ) (n m id : ℕ) (old new : Blaster) → slice_get formulas n ≡ Some id → suc n ≡ m → IsBlasting trees formulas n old
    → ((fs : List Tree) → HasFormulas trees fs old → HasFormulas trees (fs ++ tree_at trees id ∷ []) new) → limit_of new ≡ limit_of old → (blasting_at trees new).next ≤ limit_of new + 1
    → IsBlasting trees formulas m new
blasting-next trees formulas n m id old new at e h more limit within =
    subst (λ k. IsBlasting trees formulas k new) e
    (record {
      has = subst (λ (fs : List Tree). HasFormulas trees fs new) (sym (named-next trees formulas n id at)) (more (named trees (take n formulas)) h.has);
      limit = limit ∙ h.limit;
      within = omega (arith, within, limit, h.limit);
    })

few : (v : ℕ) → v ≤ 1073741824 → false ≡ nat_lt 1073741824 v
few v h = grind (arith, nat_tests)

many : (v : ℕ) → 1073741824 < v → true ≡ nat_lt 1073741824 v
many v h = grind (arith, nat_tests)

pub blasted-all : (trees : List Tree) (formulas : List ℕ) (n : ℕ) (b : Blaster) → length formulas ≤ n → IsBlasting trees formulas n b → HasFormulas trees (named trees formulas) b
blasted-all trees formulas n b h is = subst (λ (ids : List ℕ). HasFormulas trees (named trees ids) b) (take_all n formulas h) is.has

pub blasted-few : (trees : List Tree) (formulas : List ℕ) (n : ℕ) (b : Blaster) → length formulas ≤ n → IsBlasting trees formulas n b → false ≡ has_too_many (named trees formulas)
blasted-few trees formulas n b h is =
    let next = ap (λ (x : Blasting). x.next) (blasted-all trees formulas n b h is).stands in
    let behind = (next-behind (named trees formulas)).1 in
    few (cnf_variables (named trees formulas)) (omega (arith, is.within, next, behind))

drop-append : {A : Type 0} (xs : List A) (n : ℕ) → take n xs ++ drop n xs ≡ xs
drop-append xs zero = refl
drop-append [] (suc n) = refl
drop-append (x ∷ xs) (suc n) = ap (λ ys. x ∷ ys) (drop-append xs n)

pub blasted-over : (trees : List Tree) (formulas : List ℕ) (n id : ℕ) (b : Blaster) → slice_get formulas n ≡ Some id → IsBlasting trees formulas n b
    → limit_of b + 1 < (with_formula (blasting_at trees b) (tree_at trees id)).next → true ≡ has_too_many (named trees formulas)
blasted-over trees formulas n id b at h over =
    let fs = named trees (take n formulas) in
    let longer = fs ++ tree_at trees id ∷ [] in
    let next : (with_formula (blasting_at trees b) (tree_at trees id)).next ≡ (standing longer).next =
    ap (λ (x : Blasting). (with_formula x (tree_at trees id)).next) h.has.stands ∙ sym (ap (λ (x : Blasting). x.next) (formulas-append first_blasting fs (tree_at trees id ∷ []))) in
    let behind = (next-behind longer).1 in
    let rise = variables-rise longer (named trees (drop (suc n) formulas)) in
    let whole : longer ++ named trees (drop (suc n) formulas) ≡ named trees formulas =
    ap (λ (ts : List Tree). ts ++ named trees (drop (suc n) formulas)) (sym (named-next trees formulas n id at))
    ∙ sym (map-append (tree_at trees) (take (suc n) formulas) (drop (suc n) formulas)) ∙ ap (named trees) (drop-append formulas (suc n)) in
    let count = ap cnf_variables whole in
    many (cnf_variables (named trees formulas)) (omega (arith, over, h.limit, next, behind, rise, count))
