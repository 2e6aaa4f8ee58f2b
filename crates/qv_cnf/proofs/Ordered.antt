-- Ids that rise along the lines of a refutation.
use Rattle.std.proofs.Common.{◌≡◌, ℕ, ◌+◌, ◌≤◌, Bool, not, ◌||◌, List, [], ◌∷◌, ◌++◌, map, filter, ℤ, eqb, sym, ap, subst, inl, inr, arith}
use Rattle.std.specs.List.{list_any}
use Rattle.std.proofs.lemmas.Bool.{cases_Bool, cases_lt, lt-ltb}
use Rattle.std.proofs.lemmas.List.{map-append}
use Rattle.qv_cnf.specs.Literal.{Literal}
use Rattle.qv_cnf.specs.Listing.{Numbered, Rises, next_id}
use Rattle.qv_cnf.specs.LratLine.{LratLine, Addition, Deletion}
use Rattle.qv_cnf.specs.Refutation.{Accepted, OutOfOrder, Standing, has_none, judged_line, after_line}
use Rattle.qv_cnf.proofs.Living.{Rises-lower, next_id-push}
use Rattle.qv_cnf.proofs.Rising.{Rises-push}

abbrev pub ids_of : List Numbered → List ℕ
ids_of live = map (λ (c : Numbered). c.id) live

-- the ids of the live clauses rise, and the next one is above them
pub record IsOrdered (s : Standing) : Type 0 where
  pub rises : Rises 0 (ids_of s.live)
  pub below : next_id (ids_of s.live) ≤ s.next

-- one more clause
pub ordered-push : (s : Standing) (id : ℕ) (lits : List Literal) (refuted : Bool) → s.next ≤ id → IsOrdered s → IsOrdered (record { live = s.live ++ record { id = id; lits = lits } ∷ []; next = id + 1; refuted = refuted })
ordered-push s id lits refuted above o =
    let c : Numbered = record { id = id; lits = lits } in
    let more : ids_of (s.live ++ c ∷ []) ≡ ids_of s.live ++ id ∷ [] = map-append (λ (x : Numbered). x.id) s.live (c ∷ []) in
    let below : next_id (ids_of s.live) ≤ id = omega (arith, o.below) in
    record {
      rises = subst (Rises 0) (sym more) (Rises-push 0 (ids_of s.live) id o.rises below (omega arith));
      below = omega (arith, ap next_id more, next_id-push (ids_of s.live) id below);
    }

-- some of the clauses
Rises-filter : (p : Numbered → Bool) (low : ℕ) (live : List Numbered) → Rises low (ids_of live) → Rises low (ids_of (filter p live))
Rises-filter p low [] r = tt
Rises-filter p low (c ∷ cs) r =
    let rest : Rises (c.id + 1) (ids_of (filter p cs)) = Rises-filter p (c.id + 1) cs r.1 in
    elim (cases_Bool (p c)) [
      | inl e ↦ rw e (r.0, rest)
      | inr e ↦ rw e (Rises-lower (c.id + 1) low (ids_of (filter p cs)) rest (omega (arith, r.0)))
    ]

next_id-filter : (p : Numbered → Bool) (live : List Numbered) → next_id (ids_of (filter p live)) ≤ next_id (ids_of live)
next_id-filter p [] = omega arith
next_id-filter p (c ∷ cs) =
    let rest : next_id (ids_of (filter p cs)) ≤ next_id (ids_of cs) = next_id-filter p cs in
    elim (cases_Bool (p c)) [
      | inl e ↦ rw e (omega arith)
      | inr e ↦ rw e (omega arith)
    ]

-- the id of an accepted addition is above all before
pub next-from_accepted : (s : Standing) (id : ℕ) (lits : List Literal) (hints : List ℤ) → judged_line s (Addition id lits hints) ≡ Accepted → s.next ≤ id
next-from_accepted s id lits hints h =
    elim (cases_lt id s.next) [
      | inl m ↦ absurd (let k : OutOfOrder ≡ Accepted = rw (lt-ltb id s.next m) at h in cc)
      | inr m ↦ omega arith
    ]

-- an accepted line keeps the order
pub ordered-after_line : (s : Standing) (line : LratLine) → judged_line s line ≡ Accepted → IsOrdered s → IsOrdered (after_line s line)
ordered-after_line s (Addition id lits hints) h o = ordered-push s id lits (s.refuted || has_none lits) (next-from_accepted s id lits hints h) o
ordered-after_line s (Deletion id ids) h o =
    let stays : Numbered → Bool = λ c. not (list_any (λ id. eqb c.id id) ids) in
    record { rises = Rises-filter stays 0 s.live o.rises; below = omega (arith, o.below, next_id-filter stays s.live) }
