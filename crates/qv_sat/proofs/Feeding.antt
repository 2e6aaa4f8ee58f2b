-- Where a checker stands after clauses.
use Rattle.std.proofs.Common.{◌≡◌, ℕ, ◌+◌, ◌<◌, ◌≤◌, List, [], ◌∷◌, ◌++◌, refl, sym, ◌∙◌, append-nil, append_assoc, arith}
use Rattle.std.specs.List.{AllByRecursion}
use Rattle.qv_cnf.specs.Listing.{Numbered, Rises}
use Rattle.qv_cnf.specs.Refutation.{Standing, with_original}
use Rattle.qv_sat.proofs.Rising.{ids_of}
use Rattle.qv_sat.specs.Feeding.{Takes, with_clauses}

pub with_clauses-live : (s : Standing) (cs : List Numbered) → (with_clauses s cs).live ≡ s.live ++ cs
with_clauses-live s [] = sym (append-nil s.live)
with_clauses-live s (c ∷ cs) = with_clauses-live (with_original s c.id c.lits) cs ∙ append_assoc s.live (c ∷ []) cs

pub with_clauses-refuted : (s : Standing) (cs : List Numbered) → (with_clauses s cs).refuted ≡ s.refuted
with_clauses-refuted s [] = refl
with_clauses-refuted s (c ∷ cs) = with_clauses-refuted (with_original s c.id c.lits) cs

pub with_clauses-next : (s : Standing) (high : ℕ) (cs : List Numbered) → AllByRecursion (λ (c : Numbered). c.id < high) cs → s.next ≤ high → (with_clauses s cs).next ≤ high
with_clauses-next s high [] h n = n
with_clauses-next s high (c ∷ cs) h n = with_clauses-next (with_original s c.id c.lits) high cs h.1 (omega (arith, h.0))

-- it takes clauses whose ids rise from its least next id on
pub Takes-rising : (s : Standing) (low : ℕ) (cs : List Numbered) → s.next ≤ low → Rises low (ids_of cs) → Takes s cs
Takes-rising s low [] n r = tt
Takes-rising s low (c ∷ cs) n r = (omega (arith, r.0), Takes-rising (with_original s c.id c.lits) (c.id + 1) cs (omega arith) r.1)
