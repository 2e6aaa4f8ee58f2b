-- How many variables have no value.
use Rattle.std.proofs.Common.{◌≡◌, ℕ, zero, suc, ◌<◌, ◌≤◌, List, [], ◌∷◌, ◌++◌, Some, None, refl, ◌∙◌, ap, arith, inl, inr}
use Rattle.std.proofs.lemmas.Bool.{cases_lt, eq-eqb}
use Rattle.qv_watch.specs.Entries.{Entry, entry_at}
use Rattle.qv_sat.specs.Counting.{one_if_none, unvalued}
use Rattle.qv_watch.proofs.Entering.{entry_at-append_none, entry_at-append_some}

no_more : (v : ℕ) (es more : List Entry) → one_if_none (entry_at v (es ++ more)) ≤ one_if_none (entry_at v es)
no_more v es more =
    elim (entry_at v es) as (λ o. entry_at v es ≡ o → one_if_none (entry_at v (es ++ more)) ≤ one_if_none o) [
      | None ↦ λ _. elim (entry_at v (es ++ more)) as (λ o. one_if_none o ≤ 1) [ None ↦ omega arith | Some e ↦ omega arith ]
      | Some e ↦ λ there. let same : one_if_none (entry_at v (es ++ more)) ≡ 0 = ap one_if_none (entry_at-append_some v es more e there) in omega arith
    ] refl

-- more entries leave no more
pub unvalued-more : (n : ℕ) (es more : List Entry) → unvalued n (es ++ more) ≤ unvalued n es
unvalued-more zero es more = omega arith
unvalued-more (suc n) es more = let rest = unvalued-more n es more in let here = no_more (suc n) es more in omega arith

-- an entry of a variable that had none leaves fewer
pub unvalued-push : (n : ℕ) (es : List Entry) (e : Entry) → 1 ≤ e.lit.variable → e.lit.variable ≤ n → entry_at e.lit.variable es ≡ None → unvalued n (es ++ e ∷ []) < unvalued n es
unvalued-push zero es e from to fresh = absurd (omega arith)
unvalued-push (suc n) es e from to fresh = elim (cases_lt e.lit.variable (suc n)) [
  | inl lower ↦ let rest = unvalued-push n es e from (omega arith) fresh in let here = no_more (suc n) es (e ∷ []) in omega arith
  | inr top ↦
      let is : suc n ≡ e.lit.variable = omega arith in
      let old : one_if_none (entry_at (suc n) es) ≡ 1 = ap one_if_none (ap (λ (v : ℕ). entry_at v es) is ∙ fresh) in
      let own : entry_at e.lit.variable (e ∷ []) ≡ Some e = rw (eq-eqb e.lit.variable e.lit.variable refl) in
      let new : one_if_none (entry_at (suc n) (es ++ e ∷ [])) ≡ 0 = ap one_if_none (ap (λ (v : ℕ). entry_at v (es ++ e ∷ [])) is ∙ entry_at-append_none e.lit.variable es (e ∷ []) fresh ∙ own) in
      let rest = unvalued-more n es (e ∷ []) in
      omega arith
]
