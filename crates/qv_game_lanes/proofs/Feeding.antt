-- Clauses under ids from 1 on, given to a core one after the other.
use Rattle.std.proofs.Common.{◌≡◌, ◌≢◌, ℕ, zero, suc, ◌+◌, ◌-◌, ◌≤◌, ◌<◌, ◌==◌, Bool, true, false, cond, Some, None, List, [], ◌∷◌, ◌++◌, length, take, drop, slice_get, refl, sym, ap, ◌∙◌, subst, arith, append_assoc, append-nil, eq-eqb}
use Rattle.std.specs.List.{All}
use Rattle.std.proofs.lemmas.List.{length-drop, take_all}
use Rattle.std.proofs.lemmas.List.Elements.{recursion_from_All}
use Rattle.qv_words.proofs.Elements.{all-at}
use Rattle.qv_cnf.specs.Literal.{Literal}
use Rattle.qv_cnf.specs.Listing.{Listing, Numbered, with_clause, clause_named}
use Rattle.qv_sat.specs.CoreState.{CoreState, with_base}
use Rattle.qv_meter.specs.Bases.{HaveClauses}
use Rattle.qv_meter.proofs.Bases.{clauses-with}
use Rattle.qv_circuits.specs.Adding.{with_clauses}
use Rattle.qv_blast.specs.Blasters.{from_one}

abbrev numbered : ℕ → List (List Literal) → List Numbered
numbered id [] = []
numbered id (c ∷ cs) = record { id = id; lits = c } ∷ numbered (suc id) cs

with-live : (l : Listing) (id : ℕ) (cs : List (List Literal)) → (with_clauses l id cs).live ≡ l.live ++ numbered id cs
with-live l id [] = sym (append-nil l.live)
with-live l id (c ∷ cs) =
    with-live (with_clause l id c) (suc id) cs ∙ append_assoc l.live (record { id = id; lits = c } ∷ []) (numbered (suc id) cs)

-- the clause of an id
named-at : (k id : ℕ) (cs : List (List Literal)) → clause_named (id + k) (numbered id cs) ≡ slice_get cs k
named-at k id [] = refl
named-at zero id (c ∷ cs) =
    let here : (id == id + 0) ≡ true = eq-eqb id (id + 0) (omega arith) in
    ap (λ (b : Bool). cond b (Some c) (clause_named (id + 0) (numbered (suc id) cs))) here
named-at (suc k) id (c ∷ cs) =
    let there : (id == id + suc k) ≡ false = grind arith in
    let next : id + suc k ≡ suc id + k = omega arith in
    ap (λ (b : Bool). cond b (Some c) (clause_named (id + suc k) (numbered (suc id) cs))) there
    ∙ ap (λ (n : ℕ). clause_named n (numbered (suc id) cs)) next ∙ named-at k (suc id) cs

pub clause-of_id : (id : ℕ) (cs : List (List Literal)) → 1 ≤ id → clause_named id (from_one cs).live ≡ slice_get cs (id - 1)
clause-of_id id cs h =
    let same : id ≡ 1 + (id - 1) = omega (arith, h) in
    ap (λ (live : List Numbered). clause_named id live) (with-live (record { live = []; given = [] }) 1 cs)
    ∙ ap (λ (n : ℕ). clause_named n (numbered 1 cs)) same ∙ named-at (id - 1) 1 cs

-- it is there
get-none : {A : Type 0} (xs : List A) (k : ℕ) → k < length xs → slice_get xs k ≡ None → ⊥
get-none [] k h e = omega (arith, h)
get-none (x ∷ xs) zero h e = cc
get-none (x ∷ xs) (suc k) h e = get-none xs k (omega (arith, h)) e

pub clause-is_there : (id : ℕ) (cs : List (List Literal)) → 1 ≤ id → id ≤ length cs → clause_named id (from_one cs).live ≡ None → ⊥
clause-is_there id cs some within e = get-none cs (id - 1) (omega (arith, some, within)) (sym (clause-of_id id cs some) ∙ e)

-- it has literals where each has
pub clause-is_filled : (id : ℕ) (cs : List (List Literal)) (lits : List Literal) → 1 ≤ id → All (λ c. c ≢ []) cs → clause_named id (from_one cs).live ≡ Some lits → lits ≢ []
clause-is_filled id cs lits some each e =
    all-at (λ c. c ≢ []) cs (id - 1) lits (recursion_from_All (λ c. c ≢ []) cs each) (sym (clause-of_id id cs some) ∙ e)

-- it is the next behind those that were given
taken-next : {A : Type 0} (xs : List A) (m i : ℕ) (x : A) → slice_get xs (m + i) ≡ Some x → take (i + 1) (drop m xs) ≡ take i (drop m xs) ++ x ∷ []
taken-next [] m i x e = cc
taken-next (y ∷ ys) zero zero x e = ap (λ z. z ∷ []) (let same : y ≡ x = cc in same)
taken-next (y ∷ ys) zero (suc i) x e =
    let up : 0 + suc i ≡ suc (0 + i) = omega arith in
    let one : suc i + 1 ≡ suc (i + 1) = omega arith in
    ap (λ (n : ℕ). take n (y ∷ ys)) one
    ∙ ap (λ zs. y ∷ zs) (taken-next ys zero i x (subst (λ (n : ℕ). slice_get (y ∷ ys) n ≡ Some x) up e))
taken-next (y ∷ ys) (suc m) i x e =
    let up : suc m + i ≡ suc (m + i) = omega arith in
    taken-next ys m i x (subst (λ (n : ℕ). slice_get (y ∷ ys) n ≡ Some x) up e)

pub clause-is_next : (first id : ℕ) (cs : List (List Literal)) (lits : List Literal) → 1 ≤ first → first ≤ id → clause_named id (from_one cs).live ≡ Some lits → take (id + 1 - first) (drop (first - 1) cs) ≡ take (id - first) (drop (first - 1) cs) ++ lits ∷ []
clause-is_next first id cs lits some up e =
    let at : id - 1 ≡ (first - 1) + (id - first) = omega (arith, some, up) in
    let next : id + 1 - first ≡ (id - first) + 1 = omega (arith, up) in
    let here : slice_get cs ((first - 1) + (id - first)) ≡ Some lits = ap (slice_get cs) (sym at) ∙ sym (clause-of_id id cs (omega (arith, some, up))) ∙ e in
    ap (λ (n : ℕ). take n (drop (first - 1) cs)) next ∙ taken-next cs (first - 1) (id - first) lits here

-- the clauses before the present id came behind the others
pub record Fed (old core : CoreState) (clauses : List (List Literal)) (top last first id : ℕ) : Type 0 where
  pub base : (cs : List (List Literal)) → HaveClauses [] old.base cs → HaveClauses [] core.base (cs ++ take (id - first) (drop (first - 1) clauses))
  pub steps : core.steps ≡ old.steps
  pub at_top : core.top ≡ last
  pub counted : last ≡ top + (id - first)

pub fed-none : (old : CoreState) (cs : List (List Literal)) (top first : ℕ) → old.top ≡ top → Fed old old cs top top first first
fed-none old cs top first e =
    let none : first - first ≡ 0 = omega arith in
    record {
      base = λ ds h. rw none (subst (HaveClauses [] old.base) (sym (append-nil ds)) h);
      steps = refl;
      at_top = e;
      counted = omega arith;
    }

pub fed-more : (old core new : CoreState) (cs : List (List Literal)) (top last first id : ℕ) (lits : List Literal) → 1 ≤ first → first ≤ id → Fed old core cs top last first id → clause_named id (from_one cs).live ≡ Some lits → new ≡ with_base core (last + 1) lits → Fed old new cs top (last + 1) first (id + 1)
fed-more old core new cs top last first id lits some up h named is =
    let one : Numbered = record { id = last + 1; lits = lits } in
    let front = take (id - first) (drop (first - 1) cs) in
    let base : (ds : List (List Literal)) → HaveClauses [] old.base ds → HaveClauses [] (core.base ++ one ∷ []) (ds ++ take (id + 1 - first) (drop (first - 1) cs)) =
    λ ds k. subst (HaveClauses [] (core.base ++ one ∷ []))
    (append_assoc ds front (lits ∷ []) ∙ ap (λ (r : List (List Literal)). ds ++ r) (sym (clause-is_next first id cs lits some up named)))
    (clauses-with [] core.base (ds ++ front) one (h.base ds k)) in
    subst (λ (n : CoreState). Fed old n cs top (last + 1) first (id + 1)) (sym is)
    (record { base = base; steps = h.steps; at_top = refl; counted = omega (arith, h.counted, up) })

pub fed-all : (old core : CoreState) (cs : List (List Literal)) (top last first end : ℕ) → 1 ≤ first → end ≡ length cs + 1 → Fed old core cs top last first end → (ds : List (List Literal)) → HaveClauses [] old.base ds → HaveClauses [] core.base (ds ++ drop (first - 1) cs)
fed-all old core cs top last first end some all h ds k =
    let rest = drop (first - 1) cs in
    let count : length rest ≤ end - first = omega (arith, length-drop (first - 1) cs, some, all) in
    subst (λ (r : List (List Literal)). HaveClauses [] core.base (ds ++ r)) (take_all (end - first) rest count) (h.base ds k)
