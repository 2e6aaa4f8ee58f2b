-- How far the ids of a core rise.
use Rattle.std.proofs.Common.{◌≡◌, ◌+◌, ◌≤◌, ℕ, List, [], ◌∷◌, ap, ◌∙◌, arith}
use Rattle.qv_cnf.specs.Counting.{additions-append}
use Rattle.qv_cnf.specs.Derivation.{additions}
use Rattle.qv_cnf.specs.LratLine.{LratLine, Addition, Deletion}
use Rattle.qv_sat.specs.CoreState.{CoreState, GoesOn, IsNumbered}

-- the greatest id rises by one with each addition
numbered_top : (top : ℕ) (more : List LratLine) (last : ℕ) → IsNumbered top more last → last ≡ top + additions more
numbered_top top [] last h = omega arith
numbered_top top (Addition id lits hints ∷ steps) last h = let r = numbered_top id steps last h.1 in let n = h.0 in omega arith
numbered_top top (Deletion id ids ∷ steps) last h = numbered_top top steps last h.1

pub top_counted : (old new : CoreState) → GoesOn old new → new.top + additions old.steps ≡ old.top + additions new.steps
top_counted old new g =
    let a = numbered_top old.top g.more new.top g.numbered in
    let b : additions new.steps ≡ additions old.steps + additions g.more = ap additions g.steps ∙ additions-append old.steps g.more in
    omega arith

pub top_rises : (old new : CoreState) → GoesOn old new → old.top ≤ new.top
top_rises old new g = let a = numbered_top old.top g.more new.top g.numbered in omega arith
