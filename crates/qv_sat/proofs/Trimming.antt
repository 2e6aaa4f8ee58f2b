-- A core that takes clauses away.
use Rattle.std.proofs.Common.{◌≡◌, ℕ, ◌+◌, List, [], ◌∷◌, ◌++◌, refl, sym, ◌∙◌, ap, subst, arith, inl, inr}
use Rattle.std.proofs.lemmas.List.{append-nil}
use Rattle.qv_cnf.specs.Counting.{additions-append}
use Rattle.qv_cnf.specs.Derivation.{IsDerivation, additions}
use Rattle.qv_cnf.specs.Listing.{Numbered}
use Rattle.qv_cnf.specs.LratLine.{LratLine, Deletion}
use Rattle.qv_sat.specs.CoreState.{CoreState, GoesOn, Trims}

pub Trims-goes_on : (old new : CoreState) → Trims old new → GoesOn old new
Trims-goes_on old new (inl same) = record {
  base = ap (λ (k : CoreState). k.base) same;
  more = [];
  steps = ap (λ (k : CoreState). k.steps) same ∙ sym (append-nil old.steps);
  numbered = ap (λ (k : CoreState). k.top) same;
}
Trims-goes_on old new (inr t) = record {
  base = ap (λ (k : CoreState). k.base) t.1;
  more = Deletion old.top t.0 ∷ [];
  steps = ap (λ (k : CoreState). k.steps) t.1;
  numbered = (refl, ap (λ (k : CoreState). k.top) t.1);
}

pub Trims-additions : (old new : CoreState) → Trims old new → additions new.steps ≡ additions old.steps
Trims-additions old new (inl same) = ap (λ (k : CoreState). additions k.steps) same
Trims-additions old new (inr t) = ap (λ (k : CoreState). additions k.steps) t.1 ∙ additions-append old.steps (Deletion old.top t.0 ∷ []) ∙ none
  where
    none : additions old.steps + additions (Deletion old.top t.0 ∷ []) ≡ additions old.steps
    none = omega arith

pub Trims-top : (old new : CoreState) → Trims old new → new.top ≡ old.top
Trims-top old new (inl same) = ap (λ (k : CoreState). k.top) same
Trims-top old new (inr t) = ap (λ (k : CoreState). k.top) t.1

-- what may be charged may be charged then
pub Trims-may : (P : List Numbered → List LratLine → Type 0) → ((base : List Numbered) (steps : List LratLine) (id : ℕ) (ids : List ℕ) → P base steps → IsDerivation base (steps ++ Deletion id ids ∷ []) → P base (steps ++ Deletion id ids ∷ [])) → (old new : CoreState) → Trims old new → P old.base old.steps → P new.base new.steps
Trims-may P law old new (inl same) may = subst (λ (k : CoreState). P k.base k.steps) (sym same) may
Trims-may P law old new (inr t) may = subst (λ (k : CoreState). P k.base k.steps) (sym t.1) (law old.base old.steps old.top t.0 may t.2)
