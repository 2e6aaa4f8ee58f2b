-- The order of ids, as a core grows.
use Rattle.std.proofs.Common.{ℕ, ◌+◌, ◌<◌, ◌≤◌, ℤ, All, List, [], ◌∷◌, ◌++◌, map, refl, arith}
use Rattle.std.proofs.lemmas.List.Elements.{All-push, recursion_from_All}
use Rattle.std.specs.List.{AllByRecursion}
use Rattle.qv_cnf.specs.Listing.{Numbered, Rises}
use Rattle.qv_cnf.specs.Literal.{Literal}
use Rattle.qv_cnf.specs.LratLine.{LratLine, Addition, Deletion}
use Rattle.qv_sat.specs.CoreState.{IsNumbered}
use Rattle.qv_sat.specs.Ordering.{IsOrdered, StepsRise}

pub Rises-push : (low id : ℕ) (lits : List Literal) (base : List Numbered) → low ≤ id → AllByRecursion (λ (c : Numbered). c.id < id) base → Rises low (map (λ (c : Numbered). c.id) base) → Rises low (map (λ (c : Numbered). c.id) (base ++ record { id = id; lits = lits } ∷ []))
Rises-push low id lits [] h b r = (h, tt)
Rises-push low id lits (c ∷ cs) h b r = (r.0, Rises-push (c.id + 1) id lits cs (omega (arith, b.0)) b.1 r.1)

StepsRise-higher : (low high higher : ℕ) (steps : List LratLine) → high ≤ higher → StepsRise low steps high → StepsRise low steps higher
StepsRise-higher low high higher [] h r = omega arith
StepsRise-higher low high higher (Addition id lits hints ∷ steps) h r = (r.0, StepsRise-higher (id + 1) high higher steps h r.1)
StepsRise-higher low high higher (Deletion id ids ∷ steps) h r = (r.0, StepsRise-higher (id + 1) high higher steps h r.1)

-- one more clause
pub IsOrdered-clause : (base : List Numbered) (steps : List LratLine) (top id : ℕ) (lits : List Literal) → IsOrdered base steps top → top < id → IsOrdered (base ++ record { id = id; lits = lits } ∷ []) steps id
IsOrdered-clause base steps top id lits o h =
    let below : All (λ (c : Numbered). c.id < id) base = λ k d l. omega (arith, o.clauses_below k d l) in
    let at_most : All (λ (c : Numbered). c.id ≤ id) base = λ k d l. omega (arith, o.clauses_below k d l) in
    record {
      clauses_rise = Rises-push 0 id lits base (omega arith) (recursion_from_All (λ (c : Numbered). c.id < id) base below) o.clauses_rise;
      clauses_below = All-push (λ (c : Numbered). c.id ≤ id) base (record { id = id; lits = lits }) at_most (omega arith);
      steps_rise = StepsRise-higher 0 (top + 1) (id + 1) steps (omega arith) o.steps_rise;
    }

-- steps that are numbered on from the greatest id rise
StepsRise-numbered : (low top last : ℕ) (more : List LratLine) → low ≤ top + 1 → IsNumbered top more last → StepsRise low more (last + 1)
StepsRise-numbered low top last [] h n = omega (arith, n)
StepsRise-numbered low top last (Addition id lits hints ∷ more) h n = (omega (arith, n.0), StepsRise-numbered (id + 1) id last more (omega arith) n.1)
StepsRise-numbered low top last (Deletion id ids ∷ more) h n = (omega (arith, n.0), StepsRise-numbered (id + 1) top last more (omega (arith, n.0)) n.1)

StepsRise-append : (low top last : ℕ) (steps more : List LratLine) → StepsRise low steps (top + 1) → IsNumbered top more last → StepsRise low (steps ++ more) (last + 1)
StepsRise-append low top last [] more r n = StepsRise-numbered low top last more r n
StepsRise-append low top last (Addition id lits hints ∷ steps) more r n = (r.0, StepsRise-append (id + 1) top last steps more r.1 n)
StepsRise-append low top last (Deletion id ids ∷ steps) more r n = (r.0, StepsRise-append (id + 1) top last steps more r.1 n)

-- and the greatest id only grows
pub IsNumbered-grows : (top last : ℕ) (more : List LratLine) → IsNumbered top more last → top ≤ last
IsNumbered-grows top last [] n = omega (arith, n)
IsNumbered-grows top last (Addition id lits hints ∷ more) n = let later : id ≤ last = IsNumbered-grows id last more n.1 in omega (arith, n.0)
IsNumbered-grows top last (Deletion id ids ∷ more) n = IsNumbered-grows top last more n.1

-- more steps, numbered on
pub IsOrdered-numbered : (base : List Numbered) (steps more : List LratLine) (top last : ℕ) → IsOrdered base steps top → IsNumbered top more last → IsOrdered base (steps ++ more) last
IsOrdered-numbered base steps more top last o n =
    let grows : top ≤ last = IsNumbered-grows top last more n in
    record {
      clauses_rise = o.clauses_rise;
      clauses_below = λ k d l. omega (arith, o.clauses_below k d l);
      steps_rise = StepsRise-append 0 top last steps more o.steps_rise n;
    }

-- an addition, whose id is one more than the greatest
pub IsOrdered-addition : (base : List Numbered) (steps : List LratLine) (top : ℕ) (lits : List Literal) (hints : List ℤ) → IsOrdered base steps top → IsOrdered base (steps ++ Addition (top + 1) lits hints ∷ []) (top + 1)
IsOrdered-addition base steps top lits hints o = IsOrdered-numbered base steps (Addition (top + 1) lits hints ∷ []) top (top + 1) o (refl, refl)
