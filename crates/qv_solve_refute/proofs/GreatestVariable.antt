-- The greatest variable of clauses under ids from 1 on, one clause after the other.
use Rattle.std.proofs.Common.{◌≡◌, ℕ, zero, suc, ◌+◌, ◌<◌, ◌≤◌, ◌==◌, Bool, true, false, cond, Option, Some, None, List, [], ◌∷◌, ◌++◌, length, take, slice_get, refl, sym, ap, ◌∙◌, arith}
use Rattle.std.specs.Prelude.{max}
use Rattle.std.specs.List.{fold}
use Rattle.std.proofs.lemmas.Bool.Decides.{nat_tests}
use Rattle.std.proofs.lemmas.List.Sums.{fold-append}
use Rattle.qv_words.proofs.Elements.{take-one}
use Rattle.qv_cnf.specs.Literal.{Literal}
use Rattle.qv_cnf.specs.Listing.{Numbered, clause_named}
use Rattle.qv_cert_formulas.specs.Numbers.{under_ids}
use Rattle.qv_solve_refute.specs.Greatest.{greatest_variable}

-- a clause by its id
named-in : (id k n : ℕ) (cs : List (List Literal)) → n ≡ id + k → clause_named n (under_ids id cs) ≡ slice_get cs k
named-in id k n [] e = refl
named-in id zero n (c ∷ cs) e = ap (λ (b : Bool). cond b (Some c) (clause_named n (under_ids (suc id) cs))) (same id n (omega (arith, e)))
  where
    same : (a b : ℕ) → a ≡ b → (a == b) ≡ true
    same a b e = grind (arith, nat_tests)
named-in id (suc k) n (c ∷ cs) e =
    ap (λ (b : Bool). cond b (Some c) (clause_named n (under_ids (suc id) cs))) (other id n (omega (arith, e)))
    ∙ named-in (suc id) k n cs (omega (arith, e))
  where
    other : (a b : ℕ) → a < b → (a == b) ≡ false
    other a b e = grind (arith, nat_tests)

found-at : (cs : List (List Literal)) (live : List Numbered) (id count : ℕ) (o : Option (List Literal)) → live ≡ under_ids 1 cs → id ≡ suc count → o ≡ clause_named id live → slice_get cs count ≡ o
found-at cs live id count o e number found = sym (found ∙ ap (clause_named id) e ∙ named-in 1 count id cs (omega (arith, number)))

numbered-at : (id k : ℕ) (cs : List (List Literal)) (c : List Literal) → slice_get cs k ≡ Some c → slice_get (under_ids id cs) k ≡ Some (record { id = id + k; lits = c })
numbered-at id k [] c e = absurd cc
numbered-at id zero (d ∷ cs) c e =
    let same : d ≡ c = cc in
    let number : id ≡ id + 0 = omega arith in
    ap (λ (x : List Literal). let y : Numbered = record { id = id; lits = x } in Some y) same ∙ ap (λ n. let y : Numbered = record { id = n; lits = c } in Some y) number
numbered-at id (suc k) (d ∷ cs) c e =
    let number : suc id + k ≡ id + suc k = omega arith in
    numbered-at (suc id) k cs c e ∙ ap (λ n. let y : Numbered = record { id = n; lits = c } in Some y) number

none-behind : (id k : ℕ) (cs : List (List Literal)) → slice_get cs k ≡ None → take k (under_ids id cs) ≡ under_ids id cs
none-behind id zero [] e = refl
none-behind id (suc k) [] e = refl
none-behind id zero (c ∷ cs) e = absurd cc
none-behind id (suc k) (c ∷ cs) e = ap (λ (xs : List Numbered). record { id = id; lits = c } ∷ xs) (none-behind (suc id) k cs e)

-- of the clauses in front of this id
pub record IsGreatest (cs : List (List Literal)) (id greatest : ℕ) : Type 0 where
  pub count : ℕ
  pub id_is : id ≡ suc count
  pub so_far : greatest ≡ greatest_variable (take count (under_ids 1 cs))

pub greatest-start : (cs : List (List Literal)) → IsGreatest cs 1 0
greatest-start cs = record { count = 0; id_is = refl; so_far = refl }

abbrev behind : ℕ → List Literal → ℕ
behind n lits = fold (λ m l. max m l.variable) n lits

pub greatest-next : (cs : List (List Literal)) (live : List Numbered) (id old new : ℕ) (lits : List Literal) → live ≡ under_ids 1 cs → IsGreatest cs id old → Some lits ≡ clause_named id live
    → new ≡ fold (λ m l. max m l.variable) old lits → IsGreatest cs (id + 1) new
greatest-next cs live id old new lits e h found is =
    let here = numbered-at 1 h.count cs lits (found-at cs live id h.count (Some lits) e h.id_is found) in
    let one : take (suc h.count) (under_ids 1 cs) ≡ take h.count (under_ids 1 cs) ++ record { id = 1 + h.count; lits = lits } ∷ [] = take-one (under_ids 1 cs) h.count (record { id = 1 + h.count; lits = lits }) here in
    record {
      count = suc h.count;
      id_is = omega (arith, h.id_is);
      so_far = is ∙ ap (λ n. behind n lits) h.so_far ∙ sym (fold-append (λ n (c : Numbered). behind n c.lits) 0 (take h.count (under_ids 1 cs)) (record { id = 1 + h.count; lits = lits } ∷ [])) ∙ ap greatest_variable (sym one);
    }

pub greatest-all : (cs : List (List Literal)) (live : List Numbered) (id greatest : ℕ) → live ≡ under_ids 1 cs → IsGreatest cs id greatest → None ≡ clause_named id live → greatest ≡ greatest_variable (under_ids 1 cs)
greatest-all cs live id greatest e h found = h.so_far ∙ ap greatest_variable (none-behind 1 h.count cs (found-at cs live id h.count None e h.id_is found))
