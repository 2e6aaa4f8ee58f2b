-- What a counter says.
use Rattle.std.specs.Prelude.{refl, ◌≡◌, ℕ, ◌+◌, ◌≤◌, List, [], ◌∷◌, ◌++◌}
use Rattle.std.proofs.Common.{◌∙◌, arith}
use Rattle.qv_cnf.specs.Derivation.{additions, IsDerivation}
use Rattle.qv_cnf.specs.Listing.{Numbered, clauses_of}
use Rattle.qv_cnf.specs.Literal.{Literal}
use Rattle.qv_cnf.specs.LratLine.{LratLine, Addition, Deletion}

-- the clauses that it charges for, how many conflicts were charged, and how many are left
pub record Counting : Type 0 where
  pub base : List (List Literal)
  pub count : ℕ
  pub left : ℕ

-- the limit
abbrev pub limit_of : Counting → ℕ
limit_of c = c.count + c.left

-- the base has the same clauses, ids aside, and the steps have as many additions as were charged
pub record MayCharge (c : Counting) (base : List Numbered) (steps : List LratLine) : Type 0 where
  pub clauses : clauses_of base ≡ c.base
  pub charged : additions steps ≡ c.count

-- the clauses and the limit are the same
pub record SameButCount (a b : Counting) : Type 0 where
  pub base : a.base ≡ b.base
  pub limit : limit_of a ≡ limit_of b

pub count_within : (c : Counting) → c.count ≤ limit_of c
count_within c = omega arith

pub SameButCount-reflexive : (a : Counting) → SameButCount a a
SameButCount-reflexive a = record { base = refl; limit = refl }

pub SameButCount-transitive : (a b c : Counting) → SameButCount a b → SameButCount b c → SameButCount a c
SameButCount-transitive a b c h k = record { base = h.base ∙ k.base; limit = h.limit ∙ k.limit }

-- the additions of more steps
pub additions-append : (steps more : List LratLine) → additions (steps ++ more) ≡ additions steps + additions more
additions-append [] more = omega arith
additions-append (Addition id lits hints ∷ steps) more = let rest : additions (steps ++ more) ≡ additions steps + additions more = additions-append steps more in omega arith
additions-append (Deletion id ids ∷ steps) more = additions-append steps more

pub MayCharge-deletion : (c : Counting) (base : List Numbered) (steps : List LratLine) (id : ℕ) (ids : List ℕ) → MayCharge c base steps → IsDerivation base (steps ++ Deletion id ids ∷ []) → MayCharge c base (steps ++ Deletion id ids ∷ [])
MayCharge-deletion c base steps id ids may d = record {
  clauses = may.clauses;
  charged = let e : additions (steps ++ Deletion id ids ∷ []) ≡ additions steps + 0 = additions-append steps (Deletion id ids ∷ []) in omega (arith, may.charged);
}
