-- Clauses that are moved together.
use Rattle.std.proofs.Common.{◌≡◌, ◌≢◌, ℕ, ◌+◌, ◌<◌, ◌≤◌, not, zero, suc, List, [], ◌∷◌, ◌++◌, length, take, get_or, map, Some, None, All, eqb, refl, sym, ◌∙◌, ap, subst, arith, inl, inr, ◌⊎◌}
use Rattle.std.specs.Prelude.{Contains}
use Rattle.std.proofs.lemmas.Bool.{cases_eq, eq-eqb, ne_eqb}
use Rattle.std.proofs.lemmas.List.{append-nil, map-append, take_more}
use Rattle.std.proofs.lemmas.List.Elements.{All-cons, All-filter, All-head, All-nil, All-push, All-tail, All-weaker, Contains-append_cases, Contains-append_left, Contains-append_right, Contains-push, Contains-push_cases}
use Rattle.qv_cnf.proofs.Living.{next_id-push}
use Rattle.qv_cnf.proofs.Rising.{Rises-low, Rises-push}
use Rattle.std.specs.List.{list_any}
use Rattle.qv_cnf.specs.Listing.{IsListing, Listing, Numbered, Rises, clause_named, next_id, with_clause, without}
use Rattle.qv_cnf.specs.Literal.{Literal}
use Rattle.qv_rup.specs.Shelving.{IsGathered, IsShelved, picked, picked_in}

abbrev ids_of : List Numbered → List ℕ
ids_of clauses = map (λ (c : Numbered). c.id) clauses

-- one more id
picked-push : (ids : List ℕ) (id : ℕ) (live : List Numbered) → picked (ids ++ id ∷ []) live ≡ picked ids live ++ picked_in id (clause_named id live) []
picked-push [] id live = refl
picked-push (x ∷ xs) id live =
    elim (clause_named x live) as (λ o. picked_in x o (picked (xs ++ id ∷ []) live) ≡ picked_in x o (picked xs live) ++ picked_in id (clause_named id live) []) [
      | None ↦ picked-push xs id live
      | Some lits ↦ ap (λ (rest : List Numbered). let c : Numbered = record { id = x; lits = lits } in c ∷ rest) (picked-push xs id live)
    ]

-- no clause comes before a bound
named_none : (low : ℕ) (live : List Numbered) (id : ℕ) → Rises low (ids_of live) → id < low → clause_named id live ≡ None
named_none low [] id r h = refl
named_none low (c ∷ cs) id r h = rw (ne_eqb c.id id (λ same. omega (arith, r.0))) (named_none (c.id + 1) cs id r.1 (omega (arith, r.0)))

-- a clause that comes before all ids isn't picked
picked-later : (low : ℕ) (ids : List ℕ) (c : Numbered) (cs : List Numbered) → Rises low ids → c.id < low → picked ids (c ∷ cs) ≡ picked ids cs
picked-later low [] c cs r h = refl
picked-later low (id ∷ ids) c cs r h =
    rw (ne_eqb c.id id (λ same. omega (arith, r.0)))
    (ap (picked_in id (clause_named id cs)) (picked-later (id + 1) ids c cs r.1 (omega (arith, r.0))))

-- what a list with one more at its front contains
Contains-cases : (x : ℕ) (xs : List ℕ) (y : ℕ) → Contains (x ∷ xs) y → (x ≡ y) ⊎ Contains xs y
Contains-cases x xs y h = elim (Contains-append_cases (x ∷ []) xs y h) [
  | inl first ↦ elim (Contains-push_cases [] x y first) [ inl none ↦ absurd (omega (arith, none.1)) | inr same ↦ inl same ]
  | inr rest ↦ inr rest
]

-- the ids behind one that comes before the clauses have them
contained_later : (low id : ℕ) (ids : List ℕ) (cs : List Numbered) → Rises low (ids_of cs) → id < low → All (λ c. Contains (id ∷ ids) c.id) cs → All (λ c. Contains ids c.id) cs
contained_later low id ids [] r h all = All-nil (λ c. Contains ids c.id)
contained_later low id ids (c ∷ cs) r h all = All-cons (λ x. Contains ids x.id) c cs
    (elim (Contains-cases id ids c.id (All-head (λ x. Contains (id ∷ ids) x.id) c cs all)) [
      | inl same ↦ absurd (omega (arith, r.0))
      | inr rest ↦ rest
    ])
    (contained_later (c.id + 1) id ids cs r.1 (omega (arith, r.0)) (All-tail (λ x. Contains (id ∷ ids) x.id) c cs all))

none_contained : (y : ℕ) → Contains [] y → ⊥
none_contained y h = omega (arith, h.1)

contained_least : (low : ℕ) (ids : List ℕ) (y : ℕ) → Rises low ids → Contains ids y → low ≤ y
contained_least low [] y r h = absurd (none_contained y h)
contained_least low (x ∷ xs) y r h = elim (Contains-cases x xs y h) [
  | inl same ↦ omega (arith, r.0)
  | inr rest ↦ let more = contained_least (x + 1) xs y r.1 rest in omega (arith, r.0)
]

-- where the ids have all clauses, all are picked
pub picked-all : (low : ℕ) (ids : List ℕ) (live : List Numbered) → Rises low ids → Rises low (ids_of live) → All (λ c. Contains ids c.id) live → picked ids live ≡ live
picked-all low [] [] r s all = refl
picked-all low [] (c ∷ cs) r s all = absurd (none_contained c.id (All-head (λ x. Contains [] x.id) c cs all))
picked-all low (id ∷ ids) [] r s all = picked-all (id + 1) ids [] r.1 tt (All-nil (λ x. Contains ids x.id))
picked-all low (id ∷ ids) (c ∷ cs) r s all = elim (cases_eq c.id id) [
  | inl same ↦
      let later : Rises (id + 1) (ids_of cs) = subst (λ (n : ℕ). Rises (n + 1) (ids_of cs)) same s.1 in
      let rest : picked ids cs ≡ cs = picked-all (id + 1) ids cs r.1 later (contained_later (id + 1) id ids cs later (omega arith) (All-tail (λ x. Contains (id ∷ ids) x.id) c cs all)) in
      rw (eq-eqb c.id id same) (ap (λ (xs : List Numbered). let x : Numbered = record { id = id; lits = c.lits } in x ∷ xs) (picked-later (id + 1) ids c cs r.1 (omega arith) ∙ rest) ∙ ap (λ (n : ℕ). let x : Numbered = record { id = n; lits = c.lits } in x ∷ cs) (sym same))
  | inr other ↦
      let first = contained_first id ids c.id (λ same. other (sym same)) (All-head (λ x. Contains (id ∷ ids) x.id) c cs all) in
      let least = contained_least (id + 1) ids c.id r.1 first in
      let high : Rises (id + 1) (ids_of (c ∷ cs)) = (omega arith, s.1) in
      rw (ne_eqb c.id id other, named_none (c.id + 1) cs id s.1 (omega arith))
      (picked-all (id + 1) ids (c ∷ cs) r.1 high (contained_later (id + 1) id ids (c ∷ cs) high (omega arith) all))
]
  where
    contained_first : (x : ℕ) (xs : List ℕ) (y : ℕ) → x ≢ y → Contains (x ∷ xs) y → Contains xs y
    contained_first x xs y apart h = elim (Contains-cases x xs y h) [ inl same ↦ absurd (apart same) | inr rest ↦ rest ]

next_id-ids : (next : ℕ) (live : List Numbered) → All (λ c. c.id < next) live → next_id (ids_of live) ≤ next
next_id-ids next [] all = omega arith
next_id-ids next (c ∷ cs) all =
    let rest = next_id-ids next cs (All-tail (λ x. x.id < next) c cs all) in
    let first = All-head (λ x. x.id < next) c cs all in
    omega arith

-- the ids that are picked are no greater than the others
picked-below : (ids : List ℕ) (live : List Numbered) → next_id (ids_of (picked ids live)) ≤ next_id ids
picked-below [] live = omega arith
picked-below (id ∷ ids) live =
    let rest = picked-below ids live in
    elim (clause_named id live) as (λ o. next_id (ids_of (picked_in id o (picked ids live))) ≤ next_id (id ∷ ids)) [
      | None ↦ omega arith
      | Some lits ↦ omega arith
    ]

next_id-take : (low : ℕ) (ids : List ℕ) (i : ℕ) → Rises low ids → i < length ids → next_id (take i ids) ≤ get_or ids i 0
next_id-take low [] i r h = absurd (omega arith)
next_id-take low (x ∷ xs) zero r h = omega arith
next_id-take low (x ∷ xs) (suc i) r h =
    let rest = next_id-take (x + 1) xs i r.1 (omega arith) in
    let first = Rises-low (x + 1) xs i r.1 (omega arith) in
    omega arith

-- where the list has the clauses of the first ids, it may have the next one
pub may_gather : (ids : List ℕ) (i : ℕ) (live : List Numbered) (list : Listing) (kept : List ℕ) → Rises 0 ids → i < length ids → IsGathered (picked (take i ids) live) list kept → next_id list.given ≤ get_or ids i 0
may_gather ids i live list kept r h g =
    let below = picked-below (take i ids) live in
    let last = next_id-take 0 ids i r h in
    omega (arith, ap next_id g.given)

pub taken : (ids : List ℕ) (i : ℕ) (live : List Numbered) → i < length ids → picked (take (i + 1) ids) live ≡ picked (take i ids) live ++ picked_in (get_or ids i 0) (clause_named (get_or ids i 0) live) []
taken ids i live h = ap (λ (xs : List ℕ). picked xs live) (take_more ids i 0 h) ∙ picked-push (take i ids) (get_or ids i 0) live

-- one that is no longer there
pub gathered_none : (ids : List ℕ) (i : ℕ) (live : List Numbered) (list : Listing) (kept : List ℕ) → i < length ids → clause_named (get_or ids i 0) live ≡ None → IsGathered (picked (take i ids) live) list kept → IsGathered (picked (take (i + 1) ids) live) list kept
gathered_none ids i live list kept h none g =
    let is : picked (take (i + 1) ids) live ≡ picked (take i ids) live = taken ids i live h ∙ ap (λ o. picked (take i ids) live ++ picked_in (get_or ids i 0) o []) none ∙ append-nil (picked (take i ids) live) in
    subst (λ (cs : List Numbered). IsGathered cs list kept) (sym is) g

-- one more
pub gathered_one : (ids : List ℕ) (i : ℕ) (live : List Numbered) (list new : Listing) (kept more : List ℕ) (lits : List Literal) → i < length ids → clause_named (get_or ids i 0) live ≡ Some lits → new ≡ with_clause list (get_or ids i 0) lits → more ≡ kept ++ get_or ids i 0 ∷ [] → IsGathered (picked (take i ids) live) list kept → IsGathered (picked (take (i + 1) ids) live) new more
gathered_one ids i live list new kept more lits h named is longer g =
    let id = get_or ids i 0 in
    let front = picked (take i ids) live in
    let c : Numbered = record { id = id; lits = lits } in
    let cs : picked (take (i + 1) ids) live ≡ front ++ c ∷ [] = taken ids i live h ∙ ap (λ o. front ++ picked_in id o []) named in
    let given : map (λ (x : Numbered). x.id) (front ++ c ∷ []) ≡ map (λ (x : Numbered). x.id) front ++ id ∷ [] = map-append (λ (x : Numbered). x.id) front (c ∷ []) in
    subst (λ (xs : List Numbered). IsGathered xs new more) (sym cs) record {
      live = ap (λ (l : Listing). l.live) is ∙ ap (λ (xs : List Numbered). xs ++ c ∷ []) g.live;
      given = ap (λ (l : Listing). l.given) is ∙ ap (λ (xs : List ℕ). xs ++ id ∷ []) g.given ∙ sym given;
      kept = longer ∙ ap (λ (xs : List ℕ). xs ++ id ∷ []) g.kept ∙ sym given;
    }

contains_ids : (live : List Numbered) → All (λ c. Contains (ids_of live) c.id) live
contains_ids [] = All-nil (λ c. Contains [] c.id)
contains_ids (c ∷ cs) = All-cons (λ x. Contains (ids_of (c ∷ cs)) x.id) c cs
    (Contains-append_left (c.id ∷ []) (ids_of cs) c.id (Contains-push [] c.id))
    (All-weaker (λ x. Contains (ids_of cs) x.id) (λ x. Contains (c.id ∷ ids_of cs) x.id) (λ x h. Contains-append_right (c.id ∷ []) (ids_of cs) x.id h) cs (contains_ids cs))

-- all are moved
pub moved : (from list : Listing) (ids kept : List ℕ) (next : ℕ) → IsListing from → IsShelved from ids next → IsGathered (picked ids from.live) list kept → (list.live ≡ from.live) × IsShelved list kept next
moved from list ids kept next l s g =
    let all : picked ids from.live ≡ from.live = picked-all 0 ids from.live s.rises l.rises s.whole in
    let low : next_id (ids_of from.live) ≤ next_id from.given = next_id-ids (next_id from.given) from.live l.below in
    let live : list.live ≡ from.live = g.live ∙ all in
    let given : list.given ≡ ids_of from.live = g.given ∙ ap ids_of all in
    let are : kept ≡ ids_of from.live = g.kept ∙ ap ids_of all in
    let most = s.given_below in (
      live,
      record {
        rises = subst (Rises 0) (sym are) l.rises;
        below = omega (arith, ap next_id are);
        given_below = omega (arith, ap next_id given);
        whole = subst (All (λ c. Contains kept c.id)) (sym live) (subst (λ (xs : List ℕ). All (λ c. Contains xs c.id) from.live) (sym are) (contains_ids from.live));
      },
    )

pub shelved_less : (list new : Listing) (ids : List ℕ) (next id : ℕ) → new ≡ record list { live = without (id ∷ []) list.live } → IsShelved list ids next → IsShelved new ids next
shelved_less list new ids next id is s = record {
  rises = s.rises;
  below = s.below;
  given_below = let most = s.given_below in omega (arith, ap (λ (l : Listing). next_id l.given) is);
  whole = subst (All (λ c. Contains ids c.id)) (sym (ap (λ (l : Listing). l.live) is)) (All-filter (λ (c : Numbered). not (list_any (λ k. eqb c.id k) (id ∷ []))) (λ c. Contains ids c.id) list.live s.whole);
}

pub shelved_more : (list new : Listing) (ids more : List ℕ) (next id : ℕ) (lits : List Literal) → next ≤ id → new ≡ with_clause list id lits → more ≡ ids ++ id ∷ [] → IsShelved list ids next → IsShelved new more (id + 1)
shelved_more list new ids more next id lits h is longer s =
    let low = s.below in
    let most = s.given_below in
    let c : Numbered = record { id = id; lits = lits } in
    subst (λ (xs : List ℕ). IsShelved new xs (id + 1)) (sym longer) (subst (λ (l : Listing). IsShelved l (ids ++ id ∷ []) (id + 1)) (sym is) record {
      rises = Rises-push 0 ids id s.rises (omega arith) (omega arith);
      below = omega (arith, next_id-push ids id (omega arith));
      given_below = omega (arith, next_id-push list.given id (omega arith));
      whole = All-push (λ x. Contains (ids ++ id ∷ []) x.id) list.live c
          (All-weaker (λ x. Contains ids x.id) (λ x. Contains (ids ++ id ∷ []) x.id) (λ x there. Contains-append_left ids (id ∷ []) x.id there) list.live s.whole)
          (Contains-push ids id);
    })
