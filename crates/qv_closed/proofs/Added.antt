-- Clauses under ids from 1 on, added to a closure one after the other.
use Rattle.std.proofs.Common.{◌≡◌, ℕ, zero, suc, ◌+◌, ◌≤◌, ◌==◌, Bool, true, false, cond, Option, Some, None, List, [], ◌∷◌, ◌++◌, length, map, take, slice_get, refl, sym, ap, subst, ◌∙◌, append_assoc, append-nil, eq-eqb, arith}
use Rattle.std.proofs.lemmas.List.{take_all}
use Rattle.qv_words.proofs.Elements.{take-one}
use Rattle.qv_cnf.specs.Literal.{Literal}
use Rattle.qv_cnf.specs.Listing.{Listing, Numbered, clause_named, clauses_of, next_id, with_clause}
use Rattle.qv_circuits.specs.Adding.{with_clauses}
use Rattle.qv_blast.specs.Blasters.{from_one}
use Rattle.qv_gates.specs.Closing.{Closing, no_clauses}

-- clauses under ids from this one on
abbrev pub numbered : ℕ → List (List Literal) → List Numbered
numbered id [] = []
numbered id (c ∷ cs) = record { id = id; lits = c } ∷ numbered (suc id) cs

with-live : (l : Listing) (id : ℕ) (cs : List (List Literal)) → (with_clauses l id cs).live ≡ l.live ++ numbered id cs
with-live l id [] = sym (append-nil l.live)
with-live l id (c ∷ cs) =
    with-live (with_clause l id c) (suc id) cs ∙ append_assoc l.live (record { id = id; lits = c } ∷ []) (numbered (suc id) cs)

pub numbered-live : (l : Listing) → l ≡ from_one (clauses_of l.live) → l.live ≡ numbered 1 (clauses_of l.live)
numbered-live l e = ap (λ (x : Listing). x.live) e ∙ with-live (record { live = []; given = [] }) 1 (clauses_of l.live)

-- the clause of an id
pub named-at : (k id : ℕ) (cs : List (List Literal)) → clause_named (id + k) (numbered id cs) ≡ slice_get cs k
named-at k id [] = refl
named-at zero id (c ∷ cs) =
    let here : (id == id + 0) ≡ true = eq-eqb id (id + 0) (omega arith) in
    ap (λ (b : Bool). cond b (Some c) (clause_named (id + 0) (numbered (suc id) cs))) here
named-at (suc k) id (c ∷ cs) =
    let there : (id == id + suc k) ≡ false = grind arith in
    let next : id + suc k ≡ suc id + k = omega arith in
    ap (λ (b : Bool). cond b (Some c) (clause_named (id + suc k) (numbered (suc id) cs))) there
    ∙ ap (λ (n : ℕ). clause_named n (numbered (suc id) cs)) next ∙ named-at k (suc id) cs

pub numbered-at : (id k : ℕ) (cs : List (List Literal)) (c : List Literal) → slice_get cs k ≡ Some c → slice_get (numbered id cs) k ≡ Some (record { id = id + k; lits = c })
numbered-at id k [] c e = absurd cc
numbered-at id zero (d ∷ cs) c e =
    let same : d ≡ c = cc in
    let number : id ≡ id + 0 = omega arith in
    ap (λ (x : List Literal). let y : Numbered = record { id = id; lits = x } in Some y) same ∙ ap (λ n. let y : Numbered = record { id = n; lits = c } in Some y) number
numbered-at id (suc k) (d ∷ cs) c e =
    let number : suc id + k ≡ id + suc k = omega arith in
    numbered-at (suc id) k cs c e ∙ ap (λ n. let y : Numbered = record { id = n; lits = c } in Some y) number

pub length-numbered : (id : ℕ) (cs : List (List Literal)) → length (numbered id cs) ≡ length cs
length-numbered id [] = refl
length-numbered id (c ∷ cs) = ap suc (length-numbered (suc id) cs)

pub none-behind : {A : Type 0} (xs : List A) (n : ℕ) → slice_get xs n ≡ None → length xs ≤ n
none-behind [] n e = omega arith
none-behind (x ∷ xs) zero e = absurd cc
none-behind (x ∷ xs) (suc n) e = omega (arith, none-behind xs n e)

-- the first clauses were added, and this id is next
pub record IsAdding (live : List Numbered) (id : ℕ) (c : Closing) : Type 0 where
  pub count : ℕ
  pub id_is : id ≡ suc count
  pub base : c.base ≡ take count live
  pub steps : c.steps ≡ []
  pub next : next_id (map (λ (x : Numbered). x.id) c.base) ≤ id

pub adding-start : (live : List Numbered) (c : Closing) → c ≡ no_clauses → IsAdding live 1 c
adding-start live c e = record {
  count = 0;
  id_is = refl;
  base = ap (λ (x : Closing). x.base) e;
  steps = ap (λ (x : Closing). x.steps) e;
  next = let low : 0 ≤ 1 = omega arith in subst (λ (x : Closing). next_id (map (λ (y : Numbered). y.id) x.base) ≤ 1) (sym e) low;
}

-- the clause of the next id
pub clause-next : (cs : List (List Literal)) (live : List Numbered) (id count : ℕ) (o : Option (List Literal)) → live ≡ numbered 1 cs → id ≡ suc count → o ≡ clause_named id live → slice_get cs count ≡ o
clause-next cs live id count o e number found =
    let up : 1 + count ≡ id = omega (arith, number) in
    sym (named-at count 1 cs) ∙ ap (λ n. clause_named n (numbered 1 cs)) up ∙ sym (found ∙ ap (clause_named id) e)

pub adding-next : (cs : List (List Literal)) (live : List Numbered) (id : ℕ) (old new : Closing) (lits : List Literal) → live ≡ numbered 1 cs → IsAdding live id old → Some lits ≡ clause_named id live
    → new ≡ record { base = old.base ++ record { id = id; lits = lits } ∷ []; steps = [] } → next_id (map (λ (x : Numbered). x.id) new.base) ≡ id + 1 → IsAdding live (id + 1) new
adding-next cs live id old new lits e h found is next =
    let one : Numbered = record { id = id; lits = lits } in
    let number : 1 + h.count ≡ id = omega (arith, h.id_is) in
    let at : slice_get cs h.count ≡ Some lits = clause-next cs live id h.count (Some lits) e h.id_is found in
    let here : slice_get live h.count ≡ Some one =
    ap (λ (xs : List Numbered). slice_get xs h.count) e ∙ numbered-at 1 h.count cs lits at ∙ ap (λ n. let y : Numbered = record { id = n; lits = lits } in Some y) number in
    record {
      count = suc h.count;
      id_is = omega (arith, h.id_is);
      base = ap (λ (x : Closing). x.base) is ∙ ap (λ (xs : List Numbered). xs ++ one ∷ []) h.base ∙ sym (take-one live h.count one here);
      steps = ap (λ (x : Closing). x.steps) is;
      next = omega (arith, next);
    }

pub adding-all : (cs : List (List Literal)) (live : List Numbered) (id : ℕ) (c : Closing) → live ≡ numbered 1 cs → IsAdding live id c → None ≡ clause_named id live → c.base ≡ live
adding-all cs live id c e h found =
    let none = none-behind cs h.count (clause-next cs live id h.count None e h.id_is found) in
    let count : length live ≡ length cs = ap length e ∙ length-numbered 1 cs in
    h.base ∙ take_all h.count live (omega (arith, none, count))
