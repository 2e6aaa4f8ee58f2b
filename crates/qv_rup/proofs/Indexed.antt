-- An index finds each live clause by each of its literals.
use Rattle.std.proofs.Common.{◌≡◌, ◌≤◌, ◌%◌, ℕ, zero, suc, ◌+◌, ◌<◌, Bool, true, false, not, ◌||◌, List, [], ◌∷◌, ◌++◌, map, filter, length, take, get_or, set, Some, None, eqb, refl, sym, ◌∙◌, ap, subst, inl, inr, arith}
use Rattle.std.specs.List.{AllByRecursion, list_any}
use Rattle.std.specs.Prelude.{Contains, Vec}
use Rattle.std.specs.declared.alloc.Global.{Global}
use Rattle.std.proofs.lemmas.Bool.{cases_Bool, cases_eq, cases_lt, and_from, and_left, and_parts, and_right, or_cases, eqb-true}
use Rattle.std.proofs.lemmas.List.{append-nil, get_or-set_other, get_or-set_same, get_or_default, length-set, set-get_or, take_more}
use Rattle.std.proofs.lemmas.List.Elements.{Contains-append_left, Contains-push}
use Rattle.std.proofs.lemmas.List.Folds.{list_any-append}
use Rattle.qv_cnf.specs.Literal.{Literal, index_of, negated}
use Rattle.qv_cnf.specs.Listing.{Numbered, Rises, clause_named}
use Rattle.qv_cnf.specs.Rat.{all_grouped, needs_group}
use Rattle.qv_cnf.specs.Refutation.{among, same_literal}
use Rattle.qv_cnf.proofs.RatSoundness.{AreNamed, all_named}
use Rattle.qv_rup.specs.Grouping.{has_group}
use Rattle.qv_rup.specs.Indexing.{ids_in, IsFiled, IsIndex, KeepsIndex, list_for}
use Rattle.qv_rup.specs.Shelving.{picked, picked_in}
use Rattle.qv_rup.proofs.Marked.{same-from_test}
use Rattle.qv_rup.proofs.Shelved.{taken}

-- ---- lists in memory

pub length-ids : (lists : List (Vec ℕ Global)) → length (ids_in lists) ≡ length lists
length-ids [] = refl
length-ids (v ∷ vs) = omega (arith, length-ids vs)

pub ids-set : (lists : List (Vec ℕ Global)) (k : ℕ) (v : Vec ℕ Global) → ids_in (set lists k v) ≡ set (ids_in lists) k v.items
ids-set [] k v = refl
ids-set (w ∷ ws) zero v = refl
ids-set (w ∷ ws) (suc k) v = ap (λ (xs : List (List ℕ)). w.items ∷ xs) (ids-set ws k v)

pub ids-at : (lists : List (Vec ℕ Global)) (k : ℕ) (v : Vec ℕ Global) → k < length lists → get_or lists k v ≡ v → get_or (ids_in lists) k [] ≡ v.items
ids-at [] k v h e = absurd (omega (arith, h))
ids-at (w ∷ ws) zero v h e = ap (λ (x : Vec ℕ Global). x.items) e
ids-at (w ∷ ws) (suc k) v h e = ids-at ws k v (omega (arith, h)) e

-- the list that is read for a literal
pub list-read : (lists : List (Vec ℕ Global)) (at : ℕ) (v : Vec ℕ Global) (l : Literal) → at < length lists → get_or lists at v ≡ v → at ≡ index_of l % length lists → v.items ≡ list_for (ids_in lists) l
list-read lists at v l h e is =
    sym (ids-at lists at v h e)
    ∙ ap (λ (n : ℕ). get_or (ids_in lists) n []) (is ∙ ap (λ (n : ℕ). index_of l % n) (sym (length-ids lists)))

-- a list that keeps its ids changes nothing
pub same-ids : (lists : List (Vec ℕ Global)) (at : ℕ) (v w : Vec ℕ Global) → at < length lists → get_or lists at v ≡ v → w.items ≡ v.items → ids_in (set lists at w) ≡ ids_in lists
same-ids lists at v w h e same =
    ids-set lists at w ∙ ap (λ (xs : List ℕ). set (ids_in lists) at xs) (same ∙ sym (ids-at lists at v h e))
    ∙ set-get_or (ids_in lists) at []

-- one that gets an id more
pub more-ids : (lists : List (Vec ℕ Global)) (at id : ℕ) (v w : Vec ℕ Global) → at < length lists → get_or lists at v ≡ v → w.items ≡ v.items ++ id ∷ [] → ids_in (set lists at w) ≡ set (ids_in lists) at (get_or (ids_in lists) at [] ++ id ∷ [])
more-ids lists at id v w h e more =
    ids-set lists at w
    ∙ ap (λ (xs : List ℕ). set (ids_in lists) at xs) (more ∙ ap (λ (xs : List ℕ). xs ++ id ∷ []) (sym (ids-at lists at v h e)))

-- ---- one more id in a list

-- what a list had, it has still
put-has : (lists : List (List ℕ)) (at id x : ℕ) (l : Literal) → at < length lists → Contains (list_for lists l) x → Contains (list_for (set lists at (get_or lists at [] ++ id ∷ [])) l) x
put-has lists at id x l h has =
    let n = index_of l % length lists in
    let new : List (List ℕ) = set lists at (get_or lists at [] ++ id ∷ []) in
    let long : list_for new l ≡ get_or new n [] = ap (λ (k : ℕ). get_or new (index_of l % k) []) (length-set lists at (get_or lists at [] ++ id ∷ [])) in
    subst (λ (xs : List ℕ). Contains xs x) (sym long)
    (elim (cases_eq n at) [
      | inl same ↦
          let own : get_or new n [] ≡ get_or lists n [] ++ id ∷ [] =
          ap (λ (k : ℕ). get_or new k []) same ∙ get_or-set_same lists at (get_or lists at [] ++ id ∷ []) [] h ∙ ap (λ (k : ℕ). get_or lists k [] ++ id ∷ []) (sym same) in
          subst (λ (xs : List ℕ). Contains xs x) (sym own) (Contains-append_left (get_or lists n []) (id ∷ []) x has)
      | inr other ↦ subst (λ (xs : List ℕ). Contains xs x) (sym (get_or-set_other lists at n (get_or lists at [] ++ id ∷ []) [] other)) has
    ])

pub put-stays : (lists : List (List ℕ)) (at id : ℕ) → at < length lists → (c : Numbered) → IsFiled lists c → IsFiled (set lists at (get_or lists at [] ++ id ∷ [])) c
put-stays lists at id h c filed l holds = put-has lists at id c.id l h (filed l holds)

-- and the id stands in it
pub put-there : (lists : List (List ℕ)) (at id : ℕ) (l : Literal) → at < length lists → at ≡ index_of l % length lists → Contains (list_for (set lists at (get_or lists at [] ++ id ∷ [])) l) id
put-there lists at id l h is =
    let new : List (List ℕ) = set lists at (get_or lists at [] ++ id ∷ []) in
    let own : list_for new l ≡ get_or lists at [] ++ id ∷ [] =
    ap (λ (k : ℕ). get_or new (index_of l % k) []) (length-set lists at (get_or lists at [] ++ id ∷ []))
    ∙ ap (λ (k : ℕ). get_or new k []) (sym is) ∙ get_or-set_same lists at (get_or lists at [] ++ id ∷ []) [] h in
    subst (λ (xs : List ℕ). Contains xs id) (sym own) (Contains-push (get_or lists at []) id)

-- ---- one literal of a clause more

pub filed-none : (lists : List (List ℕ)) (id : ℕ) → IsFiled lists (record { id = id; lits = [] })
filed-none lists id l holds = cc

pub filed-more : (lists : List (List ℕ)) (id : ℕ) (lits : List Literal) (i : ℕ) (x : Literal) → i < length lits → x ≡ get_or lits i x → IsFiled lists (record { id = id; lits = take i lits }) → Contains (list_for lists x) id → IsFiled lists (record { id = id; lits = take (i + 1) lits })
filed-more lists id lits i x h is filed there l holds =
    let more : take (i + 1) lits ≡ take i lits ++ x ∷ [] = take_more lits i x h ∙ ap (λ (y : Literal). take i lits ++ y ∷ []) (sym is) in
    let either : (among (take i lits) l || (same_literal l x || false)) ≡ true =
    sym (ap (λ (ls : List Literal). among ls l) more ∙ list_any-append (same_literal l) (take i lits) (x ∷ [])) ∙ holds in
    elim (or_cases (among (take i lits) l) (same_literal l x || false) either) [
      | inl old ↦ filed l old
      | inr new ↦ elim (or_cases (same_literal l x) false new) [
        | inl same ↦ subst (λ (y : Literal). Contains (list_for lists y) id) (sym (same-from_test l x same)) there
        | inr none ↦ cc
      ]
    ]

-- ---- changes of the live clauses

-- one more clause
filed-push : (lists lists' : List (List ℕ)) (c : Numbered) (live : List Numbered) → ((x : Numbered) → IsFiled lists x → IsFiled lists' x) → IsFiled lists' c → AllByRecursion (IsFiled lists) live → AllByRecursion (IsFiled lists') (live ++ c ∷ [])
filed-push lists lists' c [] stay filed h = (filed, tt)
filed-push lists lists' c (x ∷ xs) stay filed h = (stay x h.0, filed-push lists lists' c xs stay filed h.1)

filed-stay : (lists lists' : List (List ℕ)) (live : List Numbered) → ((x : Numbered) → IsFiled lists x → IsFiled lists' x) → AllByRecursion (IsFiled lists) live → AllByRecursion (IsFiled lists') live
filed-stay lists lists' [] stay h = tt
filed-stay lists lists' (x ∷ xs) stay h = (stay x h.0, filed-stay lists lists' xs stay h.1)

filed-filter : (lists : List (List ℕ)) (p : Numbered → Bool) (live : List Numbered) → AllByRecursion (IsFiled lists) live → AllByRecursion (IsFiled lists) (filter p live)
filed-filter lists p [] h = tt
filed-filter lists p (c ∷ cs) h = elim (cases_Bool (p c)) [
  | inl e ↦ rw e (h.0, filed-filter lists p cs h.1)
  | inr e ↦ rw e (filed-filter lists p cs h.1)
]

pub keeps-stay : (lists lists' : List (Vec ℕ Global)) (live : List Numbered) → length lists' ≡ length lists → ((x : Numbered) → IsFiled (ids_in lists) x → IsFiled (ids_in lists') x) → KeepsIndex lists live → KeepsIndex lists' live
keeps-stay lists lists' live long stay k some = filed-stay (ids_in lists) (ids_in lists') live stay (k (omega (arith, long, some)))

pub keeps-push : (lists lists' : List (Vec ℕ Global)) (live : List Numbered) (c : Numbered) → length lists' ≡ length lists → ((x : Numbered) → IsFiled (ids_in lists) x → IsFiled (ids_in lists') x) → (0 < length lists → IsFiled (ids_in lists') c) → KeepsIndex lists live → KeepsIndex lists' (live ++ c ∷ [])
keeps-push lists lists' live c long stay filed k some =
    let had : 0 < length lists = omega (arith, long, some) in
    filed-push (ids_in lists) (ids_in lists') c live stay (filed had) (k had)

pub keeps-filter : (lists : List (Vec ℕ Global)) (p : Numbered → Bool) (live : List Numbered) → KeepsIndex lists live → KeepsIndex lists (filter p live)
keeps-filter lists p live k some = filed-filter (ids_in lists) p live (k some)

pub keeps-none : (lists : List (Vec ℕ Global)) (live : List Numbered) → lists ≡ [] → KeepsIndex lists live
keeps-none lists live none some = absurd (let e : length lists ≡ 0 = ap length none in omega (arith, e, some))

-- ---- the clauses of one id more, whether or not one is live

pub indexed_none : (ids : List ℕ) (i : ℕ) (live : List Numbered) (lists : List (Vec ℕ Global)) → i < length ids → clause_named (get_or ids i 0) live ≡ None → IsIndex lists (picked (take i ids) live) → IsIndex lists (picked (take (i + 1) ids) live)
indexed_none ids i live lists h none x =
    let is : picked (take (i + 1) ids) live ≡ picked (take i ids) live = taken ids i live h ∙ ap (λ o. picked (take i ids) live ++ picked_in (get_or ids i 0) o []) none ∙ append-nil (picked (take i ids) live) in
    subst (λ (cs : List Numbered). IsIndex lists cs) (sym is) x

pub indexed_one : (ids : List ℕ) (i : ℕ) (live : List Numbered) (lists lists' : List (Vec ℕ Global)) (lits : List Literal) → i < length ids → clause_named (get_or ids i 0) live ≡ Some lits → length lists' ≡ length lists
    → ((x : Numbered) → IsFiled (ids_in lists) x → IsFiled (ids_in lists') x) → (0 < length lists → IsFiled (ids_in lists') (record { id = get_or ids i 0; lits = lits })) → IsIndex lists (picked (take i ids) live) → IsIndex lists' (picked (take (i + 1) ids) live)
indexed_one ids i live lists lists' lits h named long stay filed x =
    let c : Numbered = record { id = get_or ids i 0; lits = lits } in
    let is : picked (take (i + 1) ids) live ≡ picked (take i ids) live ++ c ∷ [] = taken ids i live h ∙ ap (λ o. picked (take i ids) live ++ picked_in (get_or ids i 0) o []) named in
    let some : 0 < length lists' = omega (arith, long, x.some) in
    subst (λ (cs : List Numbered). IsIndex lists' cs) (sym is) (record { some = some; filed = filed-push (ids_in lists) (ids_in lists') c (picked (take i ids) live) stay (filed x.some) x.filed })

-- ---- candidates

-- a clause that needs a group stands in the list, and has one where the clauses in the list have
grouped-one : (pivot : Literal) (ids : List ℕ) (lists : List (List ℕ)) (c : Numbered) → IsFiled lists c
    → (Contains (list_for lists (negated pivot)) c.id → has_group pivot ids c.id (Some c.lits) ≡ true)
    → (not (needs_group pivot c.lits) || list_any (λ id. eqb id c.id) ids) ≡ true
grouped-one pivot ids lists c filed looked =
    elim (cases_Bool (needs_group pivot c.lits)) [
      | inl e ↦ looked (filed (negated pivot) (and_parts (among c.lits (negated pivot)) (not (among c.lits pivot)) e).0)
      | inr e ↦ ap (λ (b : Bool). not b || list_any (λ id. eqb id c.id) ids) e
    ]

grouped-each : (pivot : Literal) (ids : List ℕ) (lists : List (List ℕ)) (live cs : List Numbered) → AreNamed live cs → AllByRecursion (IsFiled lists) cs
    → ((id : ℕ) → Contains (list_for lists (negated pivot)) id → has_group pivot ids id (clause_named id live) ≡ true) → all_grouped pivot ids cs ≡ true
grouped-each pivot ids lists live [] named filed looked = refl
grouped-each pivot ids lists live (c ∷ cs) named filed looked =
    let own : Contains (list_for lists (negated pivot)) c.id → has_group pivot ids c.id (Some c.lits) ≡ true = λ there. sym (ap (has_group pivot ids c.id) named.0) ∙ looked c.id there in
    and_from (not (needs_group pivot c.lits) || list_any (λ id. eqb id c.id) ids) (all_grouped pivot ids cs) (grouped-one pivot ids lists c filed.0 own) (grouped-each pivot ids lists live cs named.1 filed.1 looked)

-- where all that the list has are grouped, all clauses are
pub all-grouped : (pivot : Literal) (ids : List ℕ) (lists : List (Vec ℕ Global)) (live : List Numbered) → IsIndex lists live → Rises 0 (map (λ (c : Numbered). c.id) live)
    → ((id : ℕ) → Contains (list_for (ids_in lists) (negated pivot)) id → has_group pivot ids id (clause_named id live) ≡ true) → all_grouped pivot ids live ≡ true
all-grouped pivot ids lists live i rises looked = grouped-each pivot ids (ids_in lists) live live (all_named live 0 rises) i.filed looked

-- and where one isn't, not all are
pub one-ungrouped : (pivot : Literal) (ids : List ℕ) (live : List Numbered) (id : ℕ) → has_group pivot ids id (clause_named id live) ≡ false → all_grouped pivot ids live ≡ false
one-ungrouped pivot ids [] id h = cc
one-ungrouped pivot ids (c ∷ cs) id h =
    elim (cases_Bool (eqb c.id id)) [
      | inl e ↦
          let at : has_group pivot ids id (Some c.lits) ≡ false = rw e at h in
          let own : (not (needs_group pivot c.lits) || list_any (λ g. eqb g c.id) ids) ≡ false = subst (λ (n : ℕ). (not (needs_group pivot c.lits) || list_any (λ g. eqb g n) ids) ≡ false) (sym (eqb-true c.id id e)) at in
          and_left (not (needs_group pivot c.lits) || list_any (λ g. eqb g c.id) ids) (all_grouped pivot ids cs) own
      | inr e ↦
          let rest : all_grouped pivot ids cs ≡ false = one-ungrouped pivot ids cs id (rw e at h) in
          and_right (not (needs_group pivot c.lits) || list_any (λ g. eqb g c.id) ids) (all_grouped pivot ids cs) rest
    ]

-- ---- one id of a list after the other

pub looked-more : (live : List Numbered) (pivot : Literal) (groups xs : List ℕ) (i x : ℕ) → i < length xs → x ≡ get_or xs i x → has_group pivot groups x (clause_named x live) ≡ true
    → ((k : ℕ) → k < i → has_group pivot groups (get_or xs k 0) (clause_named (get_or xs k 0) live) ≡ true) → (k : ℕ) → k < i + 1 → has_group pivot groups (get_or xs k 0) (clause_named (get_or xs k 0) live) ≡ true
looked-more live pivot groups xs i x h is one each k l =
    elim (cases_lt k i) [
      | inl m ↦ each k m
      | inr m ↦
          let here : i ≡ k = omega arith in
          subst (λ (n : ℕ). has_group pivot groups n (clause_named n live) ≡ true) (is ∙ get_or_default xs i x 0 h ∙ ap (λ (n : ℕ). get_or xs n 0) here) one
    ]

pub looked-all : (live : List Numbered) (pivot : Literal) (groups xs : List ℕ) (i : ℕ) → length xs ≤ i → ((k : ℕ) → k < i → has_group pivot groups (get_or xs k 0) (clause_named (get_or xs k 0) live) ≡ true)
    → (id : ℕ) → Contains xs id → has_group pivot groups id (clause_named id live) ≡ true
looked-all live pivot groups xs i h each id there =
    let low : there.0 < i = omega (arith, h, there.1) in
    subst (λ (n : ℕ). has_group pivot groups n (clause_named n live) ≡ true) (get_or_default xs there.0 0 id there.1 ∙ there.2) (each there.0 low)
