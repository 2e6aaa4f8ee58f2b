-- Clauses under their ids.
use Rattle.std.proofs.Common.{◌≡◌, ◌≢◌, ℕ, ◌<◌, ◌≤◌, Bool, true, false, ◌&&◌, List, [], ◌∷◌, ◌++◌, filter, Option, Some, None, All, eqb, refl, sym, ◌∙◌, ap, subst, arith, inl, inr}
use Rattle.std.specs.Prelude.{if◌then◌else◌}
use Rattle.std.specs.List.{list_all, AllByRecursion}
use Rattle.std.proofs.lemmas.Bool.{cases_Bool, cases_eq, ne_eqb, eq-eqb, and_parts, and_from, or_from, or_left, or_right}
use Rattle.std.proofs.lemmas.List.{map-append}
use Rattle.std.proofs.lemmas.List.Elements.{recursion_from_All, All-from_recursion, All-weaker}
use Rattle.std.proofs.lemmas.List.Folds.{list_all-append}
use Rattle.std.proofs.lemmas.Option.{none-some, same_Some}
use Rattle.qv_cnf.specs.Derivation.{has_id}
use Rattle.qv_cnf.specs.Listing.{Numbered, clause_named, clauses_of, without}
use Rattle.qv_cnf.specs.Literal.{Literal}
use Rattle.qv_cnf.specs.Truth.{IsModel, clause_value}
use Rattle.qv_sat.specs.Deciding.{MakesNamedTrue}
use Rattle.qv_sat.specs.Aside.{is_listed}
use Rattle.qv_sat.specs.Naming.{AreAttached}

-- one more element somewhere
pub insert_all : {X : Type 0} (P : X → Type 0) (xs ys : List X) (x : X) → AllByRecursion P (xs ++ ys) → P x → AllByRecursion P (xs ++ x ∷ ys)
insert_all P [] ys x all h = (h, all)
insert_all P (y ∷ xs) ys x all h = (all.0, insert_all P xs ys x all.1 h)

pub All-insert : {X : Type 0} (P : X → Type 0) (xs ys : List X) (x : X) → All P (xs ++ ys) → P x → All P (xs ++ x ∷ ys)
All-insert P xs ys x all h = All-from_recursion P (xs ++ x ∷ ys) (insert_all P xs ys x (recursion_from_All P (xs ++ ys) all) h)

-- the elements of the first list
pub front_all : {X : Type 0} (P : X → Type 0) (xs ys : List X) → AllByRecursion P (xs ++ ys) → AllByRecursion P xs
front_all P [] ys all = tt
front_all P (x ∷ xs) ys all = (all.0, front_all P xs ys all.1)

pub append_nil : {X : Type 0} (xs : List X) → xs ++ [] ≡ xs
append_nil [] = refl
append_nil (x ∷ xs) = ap (λ zs. x ∷ zs) (append_nil xs)

-- a list of which each element passes
pub filter_all : {X : Type 0} (p : X → Bool) (xs : List X) → AllByRecursion (λ x. p x ≡ true) xs → filter p xs ≡ xs
filter_all p [] h = refl
filter_all p (x ∷ xs) h = rw h.0 (ap (λ zs. x ∷ zs) (filter_all p xs h.1))

named-tail : (id : ℕ) (x : Numbered) (xs : List Numbered) → clause_named id (x ∷ xs) ≡ None → (x.id ≢ id) × (clause_named id xs ≡ None)
named-tail id x xs h = elim (cases_eq x.id id) [
  | inl same ↦ absurd (let s : clause_named id (x ∷ xs) ≡ Some x.lits = rw (eq-eqb x.id id same) in none-some x.lits (sym (sym s ∙ h)))
  | inr other ↦ (other, let s : clause_named id (x ∷ xs) ≡ clause_named id xs = rw (ne_eqb x.id id other) in sym s ∙ h)
]

-- the clause of an id, where one clause more stands somewhere
pub named-insert : (xs ys : List Numbered) (c : Numbered) (id : ℕ) → clause_named c.id xs ≡ None → clause_named id (xs ++ c ∷ ys) ≡ (if eqb c.id id then Some c.lits else clause_named id (xs ++ ys))
named-insert [] ys c id h = refl
named-insert (x ∷ xs) ys c id h =
    let parts = named-tail c.id x xs h in
    elim (cases_eq x.id id) [
      | inl same ↦ rw (eq-eqb x.id id same, ne_eqb c.id id (λ e. parts.0 (same ∙ sym e))) refl
      | inr other ↦ rw (ne_eqb x.id id other) (named-insert xs ys c id parts.1)
    ]

pub named-same : (xs ys : List Numbered) (c : Numbered) (id : ℕ) → clause_named c.id xs ≡ None → c.id ≡ id → clause_named id (xs ++ c ∷ ys) ≡ Some c.lits
named-same xs ys c id h same = named-insert xs ys c id h ∙ rw (eq-eqb c.id id same) refl

pub named-other : (xs ys : List Numbered) (c : Numbered) (id : ℕ) → clause_named c.id xs ≡ None → c.id ≢ id → clause_named id (xs ++ c ∷ ys) ≡ clause_named id (xs ++ ys)
named-other xs ys c id h other = named-insert xs ys c id h ∙ rw (ne_eqb c.id id other) refl

-- no clause has an id from the bound on
pub fresh_named : (bound id : ℕ) (clauses : List Numbered) → AllByRecursion (λ c. c.id < bound) clauses → bound ≤ id → clause_named id clauses ≡ None
fresh_named bound id [] below h = refl
fresh_named bound id (c ∷ cs) below h = rw (ne_eqb c.id id (let b = below.0 in omega arith)) (fresh_named bound id cs below.1 h)

pub front_none : (id : ℕ) (xs ys : List Numbered) → clause_named id (xs ++ ys) ≡ None → clause_named id xs ≡ None
front_none id [] ys h = refl
front_none id (x ∷ xs) ys h = let parts = named-tail id x (xs ++ ys) h in rw (ne_eqb x.id id parts.0) (front_none id xs ys parts.1)

-- one clause more is live and attached
pub AreAttached-insert : (aside : List ℕ) (xs ys attached : List Numbered) (c : Numbered) → is_listed c.id aside ≡ false → clause_named c.id (xs ++ ys) ≡ None → AreAttached aside (xs ++ ys) attached → AreAttached aside (xs ++ c ∷ ys) (attached ++ c ∷ [])
AreAttached-insert aside xs ys attached c inside fresh a =
    let fresh_front : clause_named c.id xs ≡ None = front_none c.id xs ys fresh in
    let fresh_attached : clause_named c.id attached ≡ None = a.named c.id ∙ rw inside fresh in
    record {
      named = λ id. elim (cases_eq c.id id) [
        | inl same ↦
            let apart : is_listed id aside ≡ false = ap (λ k. is_listed k aside) (sym same) ∙ inside in
            named-same attached [] c id fresh_attached same ∙ rw apart (sym (named-same xs ys c id fresh_front same))
        | inr other ↦ named-other attached [] c id fresh_attached other ∙ ap (clause_named id) (append_nil attached) ∙ a.named id ∙ ap (λ (o : Option (List Literal)). if is_listed id aside then None else o) (sym (named-other xs ys c id fresh_front other))
      ];
      own = All-insert (λ d. clause_named d.id (xs ++ c ∷ ys) ≡ Some d.lits) xs ys c
          (All-weaker (λ d. clause_named d.id (xs ++ ys) ≡ Some d.lits) (λ d. clause_named d.id (xs ++ c ∷ ys) ≡ Some d.lits)
          (λ d h. named-other xs ys c d.id fresh_front (λ same. none-some d.lits (sym fresh ∙ ap (λ id. clause_named id (xs ++ ys)) same ∙ h)) ∙ h)
          (xs ++ ys) a.own)
          (named-same xs ys c c.id fresh_front refl);
    }

-- the clause that was attached last is taken away
pub without-last : (clauses : List Numbered) (c : Numbered) → clause_named c.id clauses ≡ None → without (c.id ∷ []) (clauses ++ c ∷ []) ≡ clauses
without-last [] c h = rw (eq-eqb c.id c.id refl) refl
without-last (x ∷ xs) c h =
    let parts = named-tail c.id x xs h in
    rw (ne_eqb x.id c.id parts.0) (ap (λ zs. x ∷ zs) (without-last xs c parts.1))

-- an id has a clause
pub has_named : (id : ℕ) (lits : List Literal) (clauses : List Numbered) → clause_named id clauses ≡ Some lits → has_id clauses id ≡ true
has_named id lits [] h = absurd (none-some lits h)
has_named id lits (c ∷ cs) h = elim (cases_Bool (eqb c.id id)) [
  | inl t ↦ or_left (eqb c.id id) (has_id cs id) t
  | inr f ↦ or_right (eqb c.id id) (has_id cs id) (has_named id lits cs (rw f at h))
]

-- and none from the bound on
pub has_id-fresh : (bound id : ℕ) (clauses : List Numbered) → AllByRecursion (λ c. c.id < bound) clauses → bound ≤ id → has_id clauses id ≡ false
has_id-fresh bound id [] below h = refl
has_id-fresh bound id (c ∷ cs) below h = or_from (eqb c.id id) (has_id cs id) (ne_eqb c.id id (let b = below.0 in omega arith)) (has_id-fresh bound id cs below.1 h)

-- models of two lists of clauses
pub model_parts : (v : ℕ → Bool) (xs ys : List Numbered) → IsModel v (clauses_of (xs ++ ys)) → IsModel v (clauses_of xs) × IsModel v (clauses_of ys)
model_parts v xs ys m =
    let both : (list_all (clause_value v) (clauses_of xs) && list_all (clause_value v) (clauses_of ys)) ≡ true =
    sym (list_all-append (clause_value v) (clauses_of xs) (clauses_of ys)) ∙ ap (list_all (clause_value v)) (sym (map-append (λ (c : Numbered). c.lits) xs ys)) ∙ m in
    and_parts (list_all (clause_value v) (clauses_of xs)) (list_all (clause_value v) (clauses_of ys)) both

pub model_from : (v : ℕ → Bool) (xs ys : List Numbered) → IsModel v (clauses_of xs) → IsModel v (clauses_of ys) → IsModel v (clauses_of (xs ++ ys))
model_from v xs ys mx my =
    ap (list_all (clause_value v)) (map-append (λ (c : Numbered). c.lits) xs ys) ∙ list_all-append (clause_value v) (clauses_of xs) (clauses_of ys) ∙ and_from (list_all (clause_value v) (clauses_of xs)) (list_all (clause_value v) (clauses_of ys)) mx my

-- a model makes the clause of each id true
pub named_true : (v : ℕ → Bool) (clauses : List Numbered) → IsModel v (clauses_of clauses) → MakesNamedTrue v clauses
named_true v [] m id lits h = absurd (none-some lits h)
named_true v (c ∷ cs) m id lits h =
    let parts = and_parts (clause_value v c.lits) (list_all (clause_value v) (clauses_of cs)) m in
    elim (cases_Bool (eqb c.id id)) [
      | inl t ↦ let g : Some c.lits ≡ Some lits = rw t at h in subst (λ ls. clause_value v ls ≡ true) (same_Some c.lits lits g) parts.0
      | inr f ↦ named_true v cs parts.1 id lits (rw f at h)
    ]

model_by : (v : ℕ → Bool) (clauses : List Numbered) → AllByRecursion (λ c. clause_value v c.lits ≡ true) clauses → IsModel v (clauses_of clauses)
model_by v [] h = refl
model_by v (c ∷ cs) h = and_from (clause_value v c.lits) (list_all (clause_value v) (clauses_of cs)) h.0 (model_by v cs h.1)

-- the models of the live clauses are those of the attached ones
pub model_attached : (v : ℕ → Bool) (aside : List ℕ) (live attached : List Numbered) → AreAttached aside live attached → IsModel v (clauses_of live) → MakesNamedTrue v attached
model_attached v aside live attached a m id lits h = elim (cases_Bool (is_listed id aside)) [
  | inl out ↦ absurd (none-some lits (let none : clause_named id attached ≡ None = a.named id ∙ rw out refl in sym none ∙ h))
  | inr inside ↦ let same : clause_named id attached ≡ clause_named id live = a.named id ∙ rw inside refl in named_true v live m id lits (sym same ∙ h)
]

pub attached_model : (v : ℕ → Bool) (live attached : List Numbered) → AreAttached [] live attached → MakesNamedTrue v attached → IsModel v (clauses_of live)
attached_model v live attached a m =
    model_by v live (recursion_from_All (λ c. clause_value v c.lits ≡ true) live
    (All-weaker (λ c. clause_named c.id live ≡ Some c.lits) (λ c. clause_value v c.lits ≡ true) (λ c h. m c.id c.lits (a.named c.id ∙ h)) live a.own))
