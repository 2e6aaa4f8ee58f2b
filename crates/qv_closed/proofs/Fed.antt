-- Clauses under ids from 1 on, given to a core one after the other.
use Rattle.std.proofs.Common.{◌≡◌, ◌≢◌, ℕ, suc, ◌+◌, ◌<◌, ◌==◌, Bool, true, false, cond, Some, None, List, [], ◌∷◌, ◌++◌, length, take, slice_get, refl, sym, ap, subst, ◌∙◌, arith}
use Rattle.std.specs.Prelude.{All}
use Rattle.std.specs.List.{AllByRecursion}
use Rattle.std.proofs.lemmas.List.{take_all}
use Rattle.std.proofs.lemmas.List.Elements.{All-from_recursion, recursion_from_All}
use Rattle.qv_words.proofs.Elements.{take-one}
use Rattle.qv_words.proofs.Leaves.{both}
use Rattle.qv_cnf.specs.Literal.{Literal}
use Rattle.qv_cnf.specs.Listing.{Numbered, clause_named, clauses_of}
use Rattle.qv_lrat_text.specs.Grammar.{IsId}
use Rattle.qv_sat.specs.CoreState.{CoreState, empty_core, with_base}
use Rattle.qv_closed.specs.Cores.{IsFed}
use Rattle.qv_closed.proofs.Added.{clause-next, length-numbered, none-behind, numbered, numbered-at}

-- each has literals
named-filled : (live : List Numbered) (id : ℕ) (lits : List Literal) → AllByRecursion (λ c. c ≢ []) (clauses_of live) → clause_named id live ≡ Some lits → lits ≢ []
named-filled [] id lits h e = absurd cc
named-filled (c ∷ cs) id lits h e = go (c.id == id) e (λ k. named-filled cs id lits h.1 k)
  where
    go : (b : Bool) → cond b (Some c.lits) (clause_named id cs) ≡ Some lits → (clause_named id cs ≡ Some lits → lits ≢ []) → lits ≢ []
    go true k others = let same : c.lits ≡ lits = cc in subst (λ (xs : List Literal). xs ≢ []) same h.0
    go false k others = others k

pub given-filled : (live : List Numbered) (id : ℕ) (lits : List Literal) → All (λ c. c ≢ []) (clauses_of live) → Some lits ≡ clause_named id live → lits ≢ []
given-filled live id lits h e = named-filled live id lits (recursion_from_All (λ c. c ≢ []) (clauses_of live) h) (sym e)

-- the first clauses were given, and this id is next
pub record IsFeeding (live : List Numbered) (id : ℕ) (core : CoreState) : Type 0 where
  pub count : ℕ
  pub id_is : id ≡ suc count
  pub base : core.base ≡ take count live
  pub steps : core.steps ≡ []
  pub top : suc core.top ≡ id
  pub ids : AllByRecursion (λ c. IsId c.id) core.base

pub feeding-start : (live : List Numbered) (core : CoreState) → core ≡ empty_core → IsFeeding live 1 core
feeding-start live core e = record {
  count = 0;
  id_is = refl;
  base = ap (λ (x : CoreState). x.base) e;
  steps = ap (λ (x : CoreState). x.steps) e;
  top = ap (λ (x : CoreState). suc x.top) e;
  ids = subst (λ (x : CoreState). AllByRecursion (λ c. IsId c.id) x.base) (sym e) tt;
}

pub feeding-next : (cs : List (List Literal)) (live : List Numbered) (id : ℕ) (old new : CoreState) (lits : List Literal) → live ≡ numbered 1 cs → id < 2305843009213693952 → IsFeeding live id old → Some lits ≡ clause_named id live → new ≡ with_base old id lits → IsFeeding live (id + 1) new
feeding-next cs live id old new lits e few h found is =
    let one : Numbered = record { id = id; lits = lits } in
    let number : 1 + h.count ≡ id = omega (arith, h.id_is) in
    let at : slice_get cs h.count ≡ Some lits = clause-next cs live id h.count (Some lits) e h.id_is found in
    let here : slice_get live h.count ≡ Some one =
    ap (λ (xs : List Numbered). slice_get xs h.count) e ∙ numbered-at 1 h.count cs lits at ∙ ap (λ n. let y : Numbered = record { id = n; lits = lits } in Some y) number in
    let base : new.base ≡ old.base ++ one ∷ [] = ap (λ (x : CoreState). x.base) is in
    let last : new.top ≡ id = ap (λ (x : CoreState). x.top) is in
    record {
      count = suc h.count;
      id_is = omega (arith, h.id_is);
      base = base ∙ ap (λ (xs : List Numbered). xs ++ one ∷ []) h.base ∙ sym (take-one live h.count one here);
      steps = ap (λ (x : CoreState). x.steps) is ∙ h.steps;
      top = omega (arith, last);
      ids = subst (AllByRecursion (λ c. IsId c.id)) (sym base) (both (λ c. IsId c.id) old.base (one ∷ []) h.ids ((omega (arith, h.id_is), omega (arith, few)), tt));
    }

pub feeding-all : (cs : List (List Literal)) (live : List Numbered) (id : ℕ) (core : CoreState) → live ≡ numbered 1 cs → id < 2305843009213693952 → IsFeeding live id core → None ≡ clause_named id live → IsFed core live
feeding-all cs live id core e few h found =
    let none = none-behind cs h.count (clause-next cs live id h.count None e h.id_is found) in
    let count : length live ≡ length cs = ap length e ∙ length-numbered 1 cs in
    record {
      base_is = h.base ∙ take_all h.count live (omega (arith, none, count));
      steps = h.steps;
      few = omega (arith, few, h.top);
      ids = All-from_recursion (λ c. IsId c.id) core.base h.ids;
    }
