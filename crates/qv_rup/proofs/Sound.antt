-- What a refuted checker shows.
use Rattle.std.proofs.Common.{◌≡◌, ◌⊎◌, ℕ, Bool, true, false, not, ◌&&◌, ◌||◌, List, [], ◌∷◌, ◌++◌, eqb, refl, ◌∙◌, ap, inl, inr, arith}
use Rattle.std.specs.List.{list_all, list_any}
use Rattle.std.proofs.lemmas.Bool.{and_from, and_parts, or_from}
use Rattle.std.proofs.lemmas.List.{map-append}
use Rattle.std.proofs.lemmas.List.Folds.{list_all-append}
use Rattle.qv_cnf.specs.Laws.{RupIsTrue}
use Rattle.qv_cnf.specs.Listing.{Numbered, clauses_of}
use Rattle.qv_cnf.specs.Literal.{Literal}
use Rattle.qv_cnf.specs.LratLine.{LratLine, Addition, Deletion}
use Rattle.qv_cnf.specs.Refutation.{Accepted, Standing, after_line, has_none, judged_line, standing_at, with_original}
use Rattle.qv_cnf.specs.Truth.{HasNoModel, IsModel, clause_value}
use Rattle.qv_cnf.proofs.Ordered.{IsOrdered, ordered-after_line, ordered-push}
use Rattle.qv_cnf.proofs.Refuted.{SomeModel, last-true, model-after_line, model-with_addition}
use Rattle.qv_cnf.proofs.Soundness.{IsModel-filter}
use Rattle.qv_rup.specs.Calls.{AllMeetRup, Call, Original, Line, Leads, MeetsRup, originals, OriginalsFirst}

-- one more clause that is true
IsModel-push : (v : ℕ → Bool) (live : List Numbered) (c : Numbered) → IsModel v (clauses_of live) → clause_value v c.lits ≡ true → IsModel v (clauses_of (live ++ c ∷ []))
IsModel-push v live c m t =
    rw (map-append, list_all-append (clause_value v) (clauses_of live) (c.lits ∷ []))
    (and_from (list_all (clause_value v) (clauses_of live)) (clause_value v c.lits && true) m (and_from (clause_value v c.lits) true t refl))

-- a true clause has literals
has_none-true : (v : ℕ → Bool) (lits : List Literal) → clause_value v lits ≡ true → has_none lits ≡ false
has_none-true v [] t = cc
has_none-true v (l ∷ ls) t = refl

-- ---- where every added clause follows by unit propagation

-- what an assignment that makes the originals true keeps along the calls
record Keeps (v : ℕ → Bool) (s : Standing) : Type 0 where
  model : IsModel v (clauses_of s.live)
  open_still : s.refuted ≡ false

after_line_keeps : RupIsTrue → (v : ℕ → Bool) (s : Standing) (line : LratLine) → MeetsRup s line → Keeps v s → Keeps v (after_line s line)
after_line_keeps rup v s (Addition id lits hints) meets k =
    let t : clause_value v lits ≡ true = rup v s.live lits hints meets k.model in
    record { model = IsModel-push v s.live (record { id = id; lits = lits }) k.model t; open_still = or_from s.refuted (has_none lits) k.open_still (has_none-true v lits t) }
after_line_keeps rup v s (Deletion id ids) meets k = record { model = IsModel-filter v (λ c. not (list_any (λ id. eqb c.id id) ids)) s.live k.model; open_still = k.open_still }

leads_keeps : RupIsTrue → (v : ℕ → Bool) (from : Standing) (calls : List Call) (to : Standing) → Leads from calls to → AllMeetRup from calls → IsModel v (originals calls) → Keeps v from → to.refuted ≡ false
leads_keeps rup v from [] to l meet m k = ap (λ (s : Standing). s.refuted) l ∙ k.open_still
leads_keeps rup v from (Original id lits ∷ calls) to l meet m k =
    let parts = and_parts (clause_value v lits) (list_all (clause_value v) (originals calls)) m in
    leads_keeps rup v (with_original from id lits) calls to l.1 meet parts.1
    (record { model = IsModel-push v from.live (record { id = id; lits = lits }) k.model parts.0; open_still = k.open_still })
leads_keeps rup v from (Line line ∷ calls) to l meet m k = leads_keeps rup v (after_line from line) calls to l.1 meet.1 m (after_line_keeps rup v from line meet.0 k)

-- ---- where all originals come before the first step

-- some assignment makes the live clauses true
record Satisfied (s : Standing) : Type 0 where
  ordered : IsOrdered s
  some : SomeModel (clauses_of s.live)
  open_still : s.refuted ≡ false

added-has_some : (s : Standing) (id : ℕ) (lits : List Literal) (refuted : Bool) → SomeModel (clauses_of s.live ++ lits ∷ []) → refuted ≡ false → (refuted || has_none lits) ≡ false
added-has_some s id lits refuted found open_still = or_from refuted (has_none lits) open_still (has_none-true found.0 lits (last-true found.0 (clauses_of s.live) lits found.1))

line_satisfies : (s : Standing) (line : LratLine) → judged_line s line ≡ Accepted → Satisfied s → Satisfied (after_line s line)
line_satisfies s (Addition id lits hints) ok k = record {
  ordered = ordered-after_line s (Addition id lits hints) ok k.ordered;
  some = model-after_line k.some.0 s (Addition id lits hints) ok k.ordered k.some.1;
  open_still = added-has_some s id lits s.refuted (model-with_addition k.some.0 s id lits hints ok k.ordered k.some.1) k.open_still;
}
line_satisfies s (Deletion id ids) ok k = record {
  ordered = ordered-after_line s (Deletion id ids) ok k.ordered;
  some = model-after_line k.some.0 s (Deletion id ids) ok k.ordered k.some.1;
  open_still = k.open_still;
}

lines_satisfy : (from : Standing) (calls : List Call) (to : Standing) → Leads from calls to → originals calls ≡ [] → Satisfied from → to.refuted ≡ false
lines_satisfy from [] to l none k = ap (λ (s : Standing). s.refuted) l ∙ k.open_still
lines_satisfy from (Original id lits ∷ calls) to l none k = cc
lines_satisfy from (Line line ∷ calls) to l none k = lines_satisfy (after_line from line) calls to l.1 none (line_satisfies from line l.0 k)

first_satisfy : (v : ℕ → Bool) (from : Standing) (calls : List Call) (to : Standing) → Leads from calls to → OriginalsFirst calls → IsModel v (originals calls) → IsOrdered from → Keeps v from → to.refuted ≡ false
first_satisfy v from [] to l first m o k = ap (λ (s : Standing). s.refuted) l ∙ k.open_still
first_satisfy v from (Original id lits ∷ calls) to l first m o k =
    let parts = and_parts (clause_value v lits) (list_all (clause_value v) (originals calls)) m in
    first_satisfy v (with_original from id lits) calls to l.1 first parts.1 (ordered-push from id lits from.refuted l.0 o)
    (record { model = IsModel-push v from.live (record { id = id; lits = lits }) k.model parts.0; open_still = k.open_still })
first_satisfy v from (Line line ∷ calls) to l first m o k =
    lines_satisfy from (Line line ∷ calls) to l first (record { ordered = o; some = (v, k.model); open_still = k.open_still })

-- ---- no model is left where the calls lead to a refutation
pub none_where_refuted : RupIsTrue → (calls : List Call) (to : Standing) → to.refuted ≡ true → Leads (standing_at []) calls to → OriginalsFirst calls ⊎ AllMeetRup (standing_at []) calls → HasNoModel (originals calls)
none_where_refuted rup calls to refuted l (inl first) v m =
    let start : IsOrdered (standing_at []) = record { rises = tt; below = omega arith } in
    let no : to.refuted ≡ false = first_satisfy v (standing_at []) calls to l first m start (record { model = refl; open_still = refl }) in cc
none_where_refuted rup calls to refuted l (inr meet) v m = let no : to.refuted ≡ false = leads_keeps rup v (standing_at []) calls to l meet m (record { model = refl; open_still = refl }) in cc
