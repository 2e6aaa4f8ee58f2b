-- How many clauses were counted at a place.
use Rattle.std.proofs.Common.{◌≡◌, ℕ, ◌+◌, ◌<◌, ◌≤◌, List, length, get_or, set, sym, subst, arith, inl, inr}
use Rattle.std.proofs.lemmas.Bool.{cases_eq}
use Rattle.std.proofs.lemmas.List.{get_or-set_same, get_or-set_other}
use Rattle.qv_watch.specs.Watching.{CountAtMost}

-- one more is counted at one place
pub counted_once : (xs : List ℕ) (at n : ℕ) → at < length xs → n ≤ get_or xs at 0 + 1 → (k : ℕ) → get_or (set xs at n) k 0 ≤ get_or xs k 0 + 1
counted_once xs at n within few k = elim (cases_eq at k) [
  | inl same ↦
      let e : get_or (set xs at n) at 0 ≡ n = get_or-set_same xs at n 0 within in
      subst (λ (j : ℕ). get_or (set xs at n) j 0 ≤ get_or xs j 0 + 1) same (rw e few)
  | inr far ↦
      let e : get_or (set xs at n) k 0 ≡ get_or xs k 0 = get_or-set_other xs at k n 0 (λ e. far (sym e)) in
      rw e (omega arith)
]

-- what is counted in two steps
pub counted_more : (old mid new : List ℕ) (n m top : ℕ) → CountAtMost n old mid → CountAtMost m mid new → n + m ≤ top → CountAtMost top old new
counted_more old mid new n m top first second fits k = let a = first k in let b = second k in omega arith

pub counted_none : (xs : List ℕ) (n : ℕ) → CountAtMost n xs xs
counted_none xs n k = omega arith
