-- Bases of clauses alone, and with further ones behind.
use Rattle.std.proofs.Common.{◌≡◌, ℕ, Bool, true, ◌&&◌, List, [], ◌∷◌, ◌++◌, inl, inr, refl, sym, ap, subst, append_assoc, append-nil}
use Rattle.std.specs.List.{list_all}
use Rattle.std.proofs.lemmas.Bool.{and_from, and_parts}
use Rattle.std.proofs.lemmas.List.{map-append}
use Rattle.std.proofs.lemmas.List.Folds.{list_all-append}
use Rattle.qv_words.specs.Tree.{Tree}
use Rattle.qv_cnf.specs.Laws.{RupIsTrue}
use Rattle.qv_cnf.specs.Literal.{Literal}
use Rattle.qv_cnf.specs.Listing.{Numbered, clauses_of}
use Rattle.qv_cnf.specs.Truth.{IsModel, clause_value}
use Rattle.qv_cnf_bridge_laws.specs.Bridge.{HasClausesOf}
use Rattle.qv_meter.specs.Bases.{HaveClauses, IsBaseOf}

-- clauses have themselves
plain : (before base : List Numbered) → HaveClauses before base (clauses_of base)
plain before [] = refl
plain before (c ∷ base) = inl (clauses_of base, refl, plain (before ++ c ∷ []) base)

pub base-plain : (base : List Numbered) (formulas : List Tree) → HasClausesOf base formulas → IsBaseOf base formulas
base-plain base formulas has = subst (HaveClauses [] base) has (plain [] base)

-- one list behind another
pub clauses-behind : (before base more : List Numbered) (cs ds : List (List Literal)) → HaveClauses before base cs → HaveClauses (before ++ base) more ds → HaveClauses before (base ++ more) (cs ++ ds)
clauses-behind before [] more cs ds h k =
    subst (λ (xs : List (List Literal)). HaveClauses before more (xs ++ ds)) (sym h) (subst (λ (b : List Numbered). HaveClauses b more ds) (append-nil before) k)
clauses-behind before (c ∷ base) more cs ds (inl h) k =
    inl (h.0 ++ ds, ap (λ (xs : List (List Literal)). xs ++ ds) h.1, clauses-behind (before ++ c ∷ []) base more h.0 ds h.2 (subst (λ (b : List Numbered). HaveClauses b more ds) (sym (append_assoc before (c ∷ []) base)) k))
clauses-behind before (c ∷ base) more cs ds (inr h) k =
    inr (h.0, clauses-behind (before ++ c ∷ []) base more cs ds h.1 (subst (λ (b : List Numbered). HaveClauses b more ds) (sym (append_assoc before (c ∷ []) base)) k))

-- behind a base of formulas, clauses that follow
pub base-with : (base more : List Numbered) (formulas : List Tree) → IsBaseOf base formulas → HaveClauses base more [] → IsBaseOf (base ++ more) formulas
base-with base more formulas h k = subst (HaveClauses [] (base ++ more)) (append-nil _) (clauses-behind [] base more _ [] h k)

-- one more clause of the list
pub clauses-with : (before base : List Numbered) (cs : List (List Literal)) (c : Numbered) → HaveClauses before base cs → HaveClauses before (base ++ c ∷ []) (cs ++ c.lits ∷ [])
clauses-with before base cs c h = clauses-behind before base (c ∷ []) cs (c.lits ∷ []) h (inl ([], refl, refl))

-- ---- models

-- where the base is true the clauses are
pub model-of-clauses : (v : ℕ → Bool) (before base : List Numbered) (cs : List (List Literal)) → HaveClauses before base cs → IsModel v (clauses_of base) → IsModel v cs
model-of-clauses v before [] cs h m = subst (IsModel v) (sym h) refl
model-of-clauses v before (c ∷ base) cs (inl h) m =
    let parts = and_parts (clause_value v c.lits) (list_all (clause_value v) (clauses_of base)) m in
    subst (IsModel v) (sym h.1) (and_from (clause_value v c.lits) (list_all (clause_value v) h.0) parts.0 (model-of-clauses v (before ++ c ∷ []) base h.0 h.2 parts.1))
model-of-clauses v before (c ∷ base) cs (inr h) m =
    let parts = and_parts (clause_value v c.lits) (list_all (clause_value v) (clauses_of base)) m in
    model-of-clauses v (before ++ c ∷ []) base cs h.1 parts.1

model-more : (v : ℕ → Bool) (before : List Numbered) (c : Numbered) → IsModel v (clauses_of before) → clause_value v c.lits ≡ true → IsModel v (clauses_of (before ++ c ∷ []))
model-more v before c m t =
    rw (map-append, list_all-append (clause_value v) (clauses_of before) (c.lits ∷ []))
    (and_from (list_all (clause_value v) (clauses_of before)) (clause_value v c.lits && true) m (and_from (clause_value v c.lits) true t refl))

-- where the clauses are true, and what stood before, the base is
pub model-of-base : RupIsTrue → (v : ℕ → Bool) (before base : List Numbered) (cs : List (List Literal)) → HaveClauses before base cs → IsModel v (clauses_of before) → IsModel v cs → IsModel v (clauses_of base)
model-of-base rup v before [] cs h b m = refl
model-of-base rup v before (c ∷ base) cs (inl h) b m =
    let parts = and_parts (clause_value v c.lits) (list_all (clause_value v) h.0) (subst (IsModel v) h.1 m) in
    and_from (clause_value v c.lits) (list_all (clause_value v) (clauses_of base)) parts.0
    (model-of-base rup v (before ++ c ∷ []) base h.0 h.2 (model-more v before c b parts.0) parts.1)
model-of-base rup v before (c ∷ base) cs (inr h) b m =
    let t : clause_value v c.lits ≡ true = rup v before c.lits h.0.0 h.0.1 b in
    and_from (clause_value v c.lits) (list_all (clause_value v) (clauses_of base)) t
    (model-of-base rup v (before ++ c ∷ []) base cs h.1 (model-more v before c b t) m)
