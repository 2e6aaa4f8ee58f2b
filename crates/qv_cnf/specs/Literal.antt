-- Literals, as contracts see them.
use Rattle.std.proofs.Common.{◌≡◌, arith}
use Rattle.std.proofs.lemmas.Bool.Decides.{nat_tests}
use Rattle.std.specs.Prelude.{ℕ, ◌+◌, ◌*◌, ◌/◌, ◌%◌, ◌≤◌, ◌^◌, ◌==◌, Bool, true, false, not, cond, ℤ, pos, negsuc, neg_ℤ}

-- a variable, or its negation
pub record Literal : Type 0 where
  pub variable : ℕ
  pub positive : Bool

-- the literal that a number other than 0 names: its variable is the magnitude, and a minus negates
abbrev pub literal_of : ℤ → Literal
literal_of (pos n) = record { variable = n; positive = true }
literal_of (negsuc n) = record { variable = n + 1; positive = false }

-- the number that names a literal
abbrev pub number_of : Literal → ℤ
number_of l = cond l.positive (pos l.variable) (neg_ℤ (pos l.variable))

-- the other literal of the variable
abbrev pub negated : Literal → Literal
negated l = record { variable = l.variable; positive = not l.positive }

-- the place of a literal in a table with two places for each variable
abbrev pub index_of : Literal → ℕ
index_of l = 2 * l.variable + cond l.positive 0 1

-- the literal at a place of such a table
abbrev pub literal_at : ℕ → Literal
literal_at n = record { variable = n / 2; positive = n % 2 == 0 }

-- the variables are numbered from 1 to 2^30
abbrev pub IsLiteral : Literal → Type 0
IsLiteral l = (1 ≤ l.variable) × (l.variable ≤ 2 ^ 30)

-- the literal at a place has that place
pub index_of-literal_at : (n : ℕ) → index_of (literal_at n) ≡ n
index_of-literal_at n = grind (arith, nat_tests)

at_index : (v : ℕ) (b : Bool) → literal_at (2 * v + cond b 0 1) ≡ record { variable = v; positive = b }
at_index v true = let e : (2 * v + 0) / 2 ≡ v = omega arith in let t : ((2 * v + 0) % 2 == 0) ≡ true = grind (arith, nat_tests) in cc
at_index v false = let e : (2 * v + 1) / 2 ≡ v = omega arith in let t : ((2 * v + 1) % 2 == 0) ≡ false = grind (arith, nat_tests) in cc

-- a literal stands at its place
pub literal_at-index_of : (l : Literal) → literal_at (index_of l) ≡ l
literal_at-index_of l = at_index l.variable l.positive
