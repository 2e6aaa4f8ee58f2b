-- The live clauses, after each change.
use Rattle.std.proofs.Common.{◌≡◌, ◌≢◌, ℕ, zero, suc, ◌+◌, ◌^◌, ◌<◌, ◌≤◌, Bool, true, false, cond, List, [], ◌∷◌, ◌++◌, map, length, take, drop, set, get_or, filter, Some, None, ltb, refl, sym, ap, arith}
use Rattle.std.specs.List.{AllByRecursion, slice_get}
use Rattle.std.proofs.lemmas.Bool.{ne_eqb, eq-eqb, lt-ltb, le-ltb}
use Rattle.std.proofs.lemmas.List.Elements.{recursion_from_All, All-from_recursion}
use Rattle.qv_cnf.specs.Listing.{Listing, Numbered, clause_named, without, next_id, Rises, IsListing, Extends, cut_at}
use Rattle.qv_cnf.specs.Literal.{Literal}
use Rattle.qv_cnf.specs.Live.{live_of}

-- one more clause
pub live_of-push : (ids : List ℕ) (flags : List Bool) (clauses : List (List Literal)) (id : ℕ) (lits : List Literal) → length flags ≡ length ids → length clauses ≡ length ids → live_of (ids ++ id ∷ []) (flags ++ true ∷ []) (clauses ++ lits ∷ []) ≡ live_of ids flags clauses ++ record { id = id; lits = lits } ∷ []
live_of-push [] [] [] id lits f c = refl
live_of-push [] [] (x ∷ xs) id lits f c = absurd (omega arith)
live_of-push [] (x ∷ xs) clauses id lits f c = absurd (omega arith)
live_of-push (i ∷ is) [] clauses id lits f c = absurd (omega arith)
live_of-push (i ∷ is) (x ∷ xs) [] id lits f c = absurd (omega arith)
live_of-push (i ∷ is) (true ∷ fs) (y ∷ ys) id lits f c =
    let first : Numbered = record { id = i; lits = y } in
    ap (λ (rest : List Numbered). first ∷ rest) (live_of-push is fs ys id lits (omega arith) (omega arith))
live_of-push (i ∷ is) (false ∷ fs) (y ∷ ys) id lits f c = live_of-push is fs ys id lits (omega arith) (omega arith)

pub Rises-lower : (high low : ℕ) (ids : List ℕ) → Rises high ids → low ≤ high → Rises low ids
Rises-lower high low [] r h = tt
Rises-lower high low (x ∷ xs) r h = (omega (arith, r.0), r.1)

-- an id below a rising list isn't in it
none_below : (low : ℕ) (ids : List ℕ) (id : ℕ) → Rises low ids → id < low → AllByRecursion (λ other. other ≢ id) ids
none_below low [] id r h = tt
none_below low (x ∷ xs) id r h = ((λ e. omega (arith, r.0)), none_below (x + 1) xs id r.1 (omega (arith, r.0)))

-- an id that stands later is greater
apart_later : (i : ℕ) (ids : List ℕ) (k id : ℕ) → Rises (i + 1) ids → slice_get ids k ≡ Some id → i ≢ id
apart_later i [] k id r e same = cc
apart_later i (x ∷ xs) zero id r e same = let here : x ≡ id = cc in omega (arith, r.0)
apart_later i (x ∷ xs) (suc k) id r e same = apart_later i xs k id (Rises-lower (x + 1) (i + 1) xs r.1 (omega (arith, r.0))) e same

-- no clause has an id that was not given
pub clause_named-none : (ids : List ℕ) (flags : List Bool) (clauses : List (List Literal)) (id : ℕ) → AllByRecursion (λ other. other ≢ id) ids → clause_named id (live_of ids flags clauses) ≡ None
clause_named-none [] flags clauses id h = refl
clause_named-none (i ∷ is) [] clauses id h = refl
clause_named-none (i ∷ is) (f ∷ fs) [] id h = refl
clause_named-none (i ∷ is) (true ∷ fs) (y ∷ ys) id h = rw (ne_eqb i id h.0) (clause_named-none is fs ys id h.1)
clause_named-none (i ∷ is) (false ∷ fs) (y ∷ ys) id h = clause_named-none is fs ys id h.1

-- and none is taken away with it
pub without-none : (ids : List ℕ) (flags : List Bool) (clauses : List (List Literal)) (id : ℕ) → AllByRecursion (λ other. other ≢ id) ids → without (id ∷ []) (live_of ids flags clauses) ≡ live_of ids flags clauses
without-none [] flags clauses id h = refl
without-none (i ∷ is) [] clauses id h = refl
without-none (i ∷ is) (f ∷ fs) [] id h = refl
without-none (i ∷ is) (true ∷ fs) (y ∷ ys) id h =
    let first : Numbered = record { id = i; lits = y } in
    rw (ne_eqb i id h.0) (ap (λ (rest : List Numbered). first ∷ rest) (without-none is fs ys id h.1))
without-none (i ∷ is) (false ∷ fs) (y ∷ ys) id h = without-none is fs ys id h.1

-- the clause at an id's place is the one of that id, if its flag is set
pub clause_named-at : (low : ℕ) (ids : List ℕ) (flags : List Bool) (clauses : List (List Literal)) (k id : ℕ) → Rises low ids → length flags ≡ length ids → length clauses ≡ length ids → slice_get ids k ≡ Some id → clause_named id (live_of ids flags clauses) ≡ cond (get_or flags k false) (slice_get clauses k) None
clause_named-at low [] flags clauses k id r f c e = cc
clause_named-at low (i ∷ is) [] clauses k id r f c e = absurd (omega arith)
clause_named-at low (i ∷ is) (x ∷ xs) [] k id r f c e = absurd (omega arith)
clause_named-at low (i ∷ is) (true ∷ fs) (y ∷ ys) zero id r f c e =
    let same : i ≡ id = cc in rw (eq-eqb i id same)
clause_named-at low (i ∷ is) (false ∷ fs) (y ∷ ys) zero id r f c e =
    let same : i ≡ id = cc in clause_named-none is fs ys id (none_below (i + 1) is id r.1 (omega arith))
clause_named-at low (i ∷ is) (true ∷ fs) (y ∷ ys) (suc k) id r f c e =
    rw (ne_eqb i id (apart_later i is k id r.1 e)) (clause_named-at (i + 1) is fs ys k id r.1 (omega arith) (omega arith) e)
clause_named-at low (i ∷ is) (false ∷ fs) (y ∷ ys) (suc k) id r f c e =
    clause_named-at (i + 1) is fs ys k id r.1 (omega arith) (omega arith) e

-- to clear the flag at an id's place takes its clause away
pub live_of-clear : (low : ℕ) (ids : List ℕ) (flags : List Bool) (clauses : List (List Literal)) (k id : ℕ) → Rises low ids → slice_get ids k ≡ Some id → live_of ids (set flags k false) clauses ≡ without (id ∷ []) (live_of ids flags clauses)
live_of-clear low [] flags clauses k id r e = refl
live_of-clear low (i ∷ is) [] clauses k id r e = refl
live_of-clear low (i ∷ is) (x ∷ xs) [] zero id r e = refl
live_of-clear low (i ∷ is) (x ∷ xs) [] (suc k) id r e = refl
live_of-clear low (i ∷ is) (true ∷ fs) (y ∷ ys) zero id r e =
    let same : i ≡ id = cc in rw (eq-eqb i id same) (sym (without-none is fs ys id (none_below (i + 1) is id r.1 (omega arith))))
live_of-clear low (i ∷ is) (false ∷ fs) (y ∷ ys) zero id r e =
    let same : i ≡ id = cc in sym (without-none is fs ys id (none_below (i + 1) is id r.1 (omega arith)))
live_of-clear low (i ∷ is) (true ∷ fs) (y ∷ ys) (suc k) id r e =
    let first : Numbered = record { id = i; lits = y } in
    rw (ne_eqb i id (apart_later i is k id r.1 e)) (ap (λ (rest : List Numbered). first ∷ rest) (live_of-clear (i + 1) is fs ys k id r.1 e))
live_of-clear low (i ∷ is) (false ∷ fs) (y ∷ ys) (suc k) id r e = live_of-clear (i + 1) is fs ys k id r.1 e

-- the clauses before a cut
pub live_of-take : (ids : List ℕ) (flags : List Bool) (clauses : List (List Literal)) (n id : ℕ) → AllByRecursion (λ other. other < id) (take n ids) → AllByRecursion (λ other. id ≤ other) (drop n ids) → live_of (take n ids) (take n flags) (take n clauses) ≡ filter (λ (c : Numbered). ltb c.id id) (live_of ids flags clauses)
live_of-take [] flags clauses zero id b h = refl
live_of-take [] flags clauses (suc n) id b h = refl
live_of-take (i ∷ is) [] clauses zero id b h = refl
live_of-take (i ∷ is) [] clauses (suc n) id b h = refl
live_of-take (i ∷ is) (x ∷ xs) [] zero id b h = refl
live_of-take (i ∷ is) (x ∷ xs) [] (suc n) id b h = refl
live_of-take (i ∷ is) (true ∷ fs) (y ∷ ys) zero id b h = rw (le-ltb i id h.0) (live_of-take is fs ys zero id tt h.1)
live_of-take (i ∷ is) (false ∷ fs) (y ∷ ys) zero id b h = live_of-take is fs ys zero id tt h.1
live_of-take (i ∷ is) (true ∷ fs) (y ∷ ys) (suc n) id b h =
    let first : Numbered = record { id = i; lits = y } in
    rw (lt-ltb i id b.0) (ap (λ (rest : List Numbered). first ∷ rest) (live_of-take is fs ys n id b.1 h))
live_of-take (i ∷ is) (false ∷ fs) (y ∷ ys) (suc n) id b h = live_of-take is fs ys n id b.1 h

-- the ids before a cut
pub ids-take : (ids : List ℕ) (n id : ℕ) → AllByRecursion (λ other. other < id) (take n ids) → AllByRecursion (λ other. id ≤ other) (drop n ids) → take n ids ≡ filter (λ other. ltb other id) ids
ids-take [] zero id b h = refl
ids-take [] (suc n) id b h = refl
ids-take (i ∷ is) zero id b h = rw (le-ltb i id h.0) (ids-take is zero id tt h.1)
ids-take (i ∷ is) (suc n) id b h = rw (lt-ltb i id b.0) (ap (λ (rest : List ℕ). i ∷ rest) (ids-take is n id b.1 h))

-- the ids of the live clauses rise
pub Rises-live_of : (low : ℕ) (ids : List ℕ) (flags : List Bool) (clauses : List (List Literal)) → Rises low ids → Rises low (map (λ (c : Numbered). c.id) (live_of ids flags clauses))
Rises-live_of low [] flags clauses r = tt
Rises-live_of low (i ∷ is) [] clauses r = tt
Rises-live_of low (i ∷ is) (f ∷ fs) [] r = tt
Rises-live_of low (i ∷ is) (true ∷ fs) (y ∷ ys) r = (r.0, Rises-live_of (i + 1) is fs ys r.1)
Rises-live_of low (i ∷ is) (false ∷ fs) (y ∷ ys) r = Rises-lower (i + 1) low (map (λ (c : Numbered). c.id) (live_of is fs ys)) (Rises-live_of (i + 1) is fs ys r.1) (omega (arith, r.0))

-- and are below the next id
below-live_of : (ids : List ℕ) (flags : List Bool) (clauses : List (List Literal)) (next : ℕ) → next_id ids ≤ next → AllByRecursion (λ (c : Numbered). c.id < next) (live_of ids flags clauses)
below-live_of [] flags clauses next h = tt
below-live_of (i ∷ is) [] clauses next h = tt
below-live_of (i ∷ is) (f ∷ fs) [] next h = tt
below-live_of (i ∷ is) (true ∷ fs) (y ∷ ys) next h = (omega arith, below-live_of is fs ys next (omega arith))
below-live_of (i ∷ is) (false ∷ fs) (y ∷ ys) next h = below-live_of is fs ys next (omega arith)

pub IsListing-live_of : (ids : List ℕ) (flags : List Bool) (clauses : List (List Literal)) → Rises 0 ids → length ids < 2 ^ 61 → IsListing (record { live = live_of ids flags clauses; given = ids })
IsListing-live_of ids flags clauses r few = record {
  few = few;
  rises = Rises-live_of 0 ids flags clauses r;
  below = All-from_recursion (λ (c : Numbered). c.id < next_id ids) (live_of ids flags clauses) (below-live_of ids flags clauses (next_id ids) (omega arith));
}

-- one more id
pub next_id-push : (ids : List ℕ) (id : ℕ) → next_id ids ≤ id → next_id (ids ++ id ∷ []) ≡ id + 1
next_id-push [] id h = omega arith
next_id-push (x ∷ xs) id h = let rest : next_id (xs ++ id ∷ []) ≡ id + 1 = next_id-push xs id (omega arith) in omega arith

-- a filter that each of the first passes, and none of the rest
filter-front : {X : Type 0} (p : X → Bool) (xs ys : List X) → AllByRecursion (λ x. p x ≡ true) xs → AllByRecursion (λ y. p y ≡ false) ys → filter p (xs ++ ys) ≡ xs
filter-front p [] [] h k = refl
filter-front p [] (y ∷ ys) h k = rw k.0 (filter-front p [] ys h k.1)
filter-front {X} p (x ∷ xs) ys h k = rw h.0 (ap (λ (rest : List X). x ∷ rest) (filter-front p xs ys h.1 k))

ids_pass : (ids : List ℕ) (id : ℕ) → next_id ids ≤ id → AllByRecursion (λ (g : ℕ). ltb g id ≡ true) ids
ids_pass [] id h = tt
ids_pass (x ∷ xs) id h = (lt-ltb x id (omega arith), ids_pass xs id (omega arith))

same_listing : (live live' : List Numbered) (given given' : List ℕ) → live ≡ live' → given ≡ given' → record { live = live; given = given } ≡ (let l : Listing = record { live = live'; given = given' } in l)
same_listing live live' given given' e f = cc

-- a cut takes back what was added since
pub cut_at-extended : (older l : Listing) (id : ℕ) → IsListing older → Extends older l id → cut_at id l ≡ older
cut_at-extended older l id o e =
    let live : filter (λ (c : Numbered). ltb c.id id) l.live ≡ older.live =
    rw e.live (filter-front (λ (c : Numbered). ltb c.id id) older.live e.more
    (recursion_from_All (λ (c : Numbered). ltb c.id id ≡ true) older.live (λ k d h. lt-ltb (get_or older.live k d).id id (omega (arith, o.below k d h, e.old_below))))
    (recursion_from_All (λ (c : Numbered). ltb c.id id ≡ false) e.more (λ k d h. le-ltb (get_or e.more k d).id id (e.more_above k d h)))) in
    let given : filter (λ (g : ℕ). ltb g id) l.given ≡ older.given =
    rw e.given (filter-front (λ (g : ℕ). ltb g id) older.given e.ids (ids_pass older.given id e.old_below)
    (recursion_from_All (λ (g : ℕ). ltb g id ≡ false) e.ids (λ k d h. le-ltb (get_or e.ids k d) id (e.ids_above k d h)))) in
    same_listing (cut_at id l).live older.live (cut_at id l).given older.given live given
