-- Clauses under ids from 1 on, given one after the other.
use Rattle.std.proofs.Common.{◌≡◌, ℕ, zero, suc, ◌+◌, ◌<◌, ◌≤◌, ◌==◌, Bool, true, false, cond, Option, Some, None, List, [], ◌∷◌, ◌++◌, length, map, take, slice_get, refl, sym, ap, ◌∙◌, append_assoc, arith}
use Rattle.std.proofs.lemmas.Bool.Decides.{nat_tests}
use Rattle.qv_words.specs.Tree.{Tree}
use Rattle.qv_words.specs.Gate.{Lit}
use Rattle.qv_words.specs.Clauses.{cnf}
use Rattle.qv_words.proofs.Elements.{take-one}
use Rattle.qv_words.proofs.NewNodes.{nil-behind}
use Rattle.qv_cnf.specs.Literal.{Literal}
use Rattle.qv_cnf.specs.Listing.{Numbered, Listing, clauses_of, clause_named}
use Rattle.qv_cnf.specs.Refutation.{Standing, standing_at}
use Rattle.qv_cnf_bridge_laws.specs.Bridge.{literal_for, clauses_for}
use Rattle.qv_circuits.specs.Adding.{with_clauses}
use Rattle.qv_blast.specs.Blasters.{from_one}
use Rattle.qv_blast.proofs.FromOne.{with-clauses-of}
use Rattle.qv_cert.specs.ClauseList.{numbered_from, clause_list}
use Rattle.qv_cert_formulas.specs.Numbers.{under_ids}

-- the clauses of a list from 1 on
live-of : (l : Listing) (id : ℕ) (cs : List (List Literal)) → (with_clauses l id cs).live ≡ l.live ++ under_ids id cs
live-of l id [] = nil-behind l.live
live-of l id (c ∷ cs) =
    live-of (record { live = l.live ++ record { id = id; lits = c } ∷ []; given = l.given ++ id ∷ [] }) (suc id) cs
    ∙ append_assoc l.live (record { id = id; lits = c } ∷ []) (under_ids (suc id) cs)

pub live-from_one : (cs : List (List Literal)) → (from_one cs).live ≡ under_ids 1 cs
live-from_one cs = live-of (record { live = []; given = [] }) 1 cs

-- by id
named-in : (id k n : ℕ) (cs : List (List Literal)) → n ≡ id + k → clause_named n (under_ids id cs) ≡ slice_get cs k
named-in id k n [] e = refl
named-in id zero n (c ∷ cs) e = ap (λ (b : Bool). cond b (Some c) (clause_named n (under_ids (suc id) cs))) (same id n (omega (arith, e)))
  where
    same : (a b : ℕ) → a ≡ b → (a == b) ≡ true
    same a b e = grind (arith, nat_tests)
named-in id (suc k) n (c ∷ cs) e =
    ap (λ (b : Bool). cond b (Some c) (clause_named n (under_ids (suc id) cs))) (other id n (omega (arith, e)))
    ∙ named-in (suc id) k n cs (omega (arith, e))
  where
    other : (a b : ℕ) → a < b → (a == b) ≡ false
    other a b e = grind (arith, nat_tests)

numbered-at : (id k : ℕ) (cs : List (List Literal)) (c : List Literal) → slice_get cs k ≡ Some c → slice_get (under_ids id cs) k ≡ Some (record { id = id + k; lits = c })
numbered-at id k [] c e = absurd cc
numbered-at id zero (d ∷ cs) c e =
    let same : d ≡ c = cc in
    let number : id ≡ id + 0 = omega arith in
    ap (λ (x : List Literal). let y : Numbered = record { id = id; lits = x } in Some y) same ∙ ap (λ n. let y : Numbered = record { id = n; lits = c } in Some y) number
numbered-at id (suc k) (d ∷ cs) c e =
    let number : suc id + k ≡ id + suc k = omega arith in
    numbered-at (suc id) k cs c e ∙ ap (λ n. let y : Numbered = record { id = n; lits = c } in Some y) number

length-ids : (id : ℕ) (cs : List (List Literal)) → length (under_ids id cs) ≡ length cs
length-ids id [] = refl
length-ids id (c ∷ cs) = ap suc (length-ids (suc id) cs)

-- the first clauses were given, and this id is next
pub record IsGiven (cs : List (List Literal)) (id : ℕ) (checker : Standing) : Type 0 where
  pub some : 1 ≤ id
  pub within : id ≤ suc (length cs)
  pub count : ℕ
  pub id_is : id ≡ suc count
  pub stands : checker ≡ standing_at (take count (under_ids 1 cs))

pub given-start : (cs : List (List Literal)) (checker : Standing) → checker ≡ standing_at [] → IsGiven cs 1 checker
given-start cs checker e = record { some = omega arith; within = omega arith; count = 0; id_is = refl; stands = e }

-- the clause of the next id
clause-next : (cs : List (List Literal)) (live : List Numbered) (id count : ℕ) (o : Option (List Literal)) → live ≡ under_ids 1 cs → id ≡ suc count → o ≡ clause_named id live → slice_get cs count ≡ o
clause-next cs live id count o e number found =
    sym (found ∙ ap (clause_named id) e ∙ named-in 1 count id cs (omega (arith, number)))

slice-within : {A : Type 0} (xs : List A) (n : ℕ) (x : A) → slice_get xs n ≡ Some x → n < length xs
slice-within [] n x e = absurd cc
slice-within (y ∷ xs) zero x e = omega arith
slice-within (y ∷ xs) (suc n) x e = omega (arith, slice-within xs n x e)

none-behind : {A : Type 0} (xs : List A) (n : ℕ) → slice_get xs n ≡ None → length xs ≤ n
none-behind [] n e = omega arith
none-behind (x ∷ xs) zero e = absurd cc
none-behind (x ∷ xs) (suc n) e = omega (arith, none-behind xs n e)

take-all : {A : Type 0} (xs : List A) (n : ℕ) → length xs ≤ n → take n xs ≡ xs
take-all [] zero h = refl
take-all [] (suc n) h = refl
take-all (x ∷ xs) zero h = absurd (omega (arith, h))
take-all (x ∷ xs) (suc n) h = ap (λ ys. x ∷ ys) (take-all xs n (omega (arith, h)))

pub given-within : (cs : List (List Literal)) (live : List Numbered) (id : ℕ) (checker : Standing) (lits : List Literal) → live ≡ under_ids 1 cs → IsGiven cs id checker → Some lits ≡ clause_named id live → id ≤ length cs
given-within cs live id checker lits e h found = omega (arith, h.id_is, slice-within cs h.count lits (clause-next cs live id h.count (Some lits) e h.id_is found))

pub given-next : (cs : List (List Literal)) (live : List Numbered) (id : ℕ) (old new : Standing) (lits : List Literal) → live ≡ under_ids 1 cs → IsGiven cs id old → Some lits ≡ clause_named id live
    → ((clauses : List Numbered) → old ≡ standing_at clauses → new ≡ standing_at (clauses ++ record { id = id; lits = lits } ∷ [])) → IsGiven cs (id + 1) new
given-next cs live id old new lits e h found step =
    let at = clause-next cs live id h.count (Some lits) e h.id_is found in
    let number : 1 + h.count ≡ id = omega (arith, h.id_is) in
    let here : slice_get (under_ids 1 cs) h.count ≡ Some (record { id = id; lits = lits }) =
    numbered-at 1 h.count cs lits at ∙ ap (λ n. let y : Numbered = record { id = n; lits = lits } in Some y) number in
    record {
      some = omega arith;
      within = omega (arith, h.id_is, slice-within cs h.count lits at);
      count = suc h.count;
      id_is = omega (arith, h.id_is);
      stands = step (take h.count (under_ids 1 cs)) h.stands ∙ ap standing_at (sym (take-one (under_ids 1 cs) h.count (record { id = id; lits = lits }) here));
    }

pub given-all : (cs : List (List Literal)) (live : List Numbered) (id : ℕ) (checker : Standing) → live ≡ under_ids 1 cs → IsGiven cs id checker → None ≡ clause_named id live → checker ≡ standing_at (under_ids 1 cs)
given-all cs live id checker e h found =
    let none = clause-next cs live id h.count None e h.id_is found in
    h.stands ∙ ap standing_at (take-all (under_ids 1 cs) h.count (omega (arith, length-ids 1 cs, none-behind cs h.count none)))

-- ---- those of formulas

ids-of : (id : ℕ) (cs : List (List Lit)) → under_ids id (clauses_for cs) ≡ numbered_from id cs
ids-of id [] = refl
ids-of id (c ∷ cs) = ap (λ (xs : List Numbered). record { id = id; lits = map literal_for c } ∷ xs) (ids-of (suc id) cs)

pub clauses-given : (formulas : List Tree) (l : Listing) (checker : Standing) → l ≡ from_one (clauses_for (cnf formulas)) → checker ≡ standing_at (under_ids 1 (clauses_of l.live)) → checker ≡ standing_at (clause_list formulas)
clauses-given formulas l checker e is =
    is ∙ ap (λ (x : List (List Literal)). standing_at (under_ids 1 x)) (ap (λ (x : Listing). clauses_of x.live) e ∙ with-clauses-of (record { live = []; given = [] }) 1 (clauses_for (cnf formulas)))
    ∙ ap standing_at (ids-of 1 (cnf formulas))
