-- Single steps of the routines.
use Rattle.std.specs.Prelude.{ℕ, Bool, List, [], ◌∷◌, ◌++◌, length, take, replicate}
use Rattle.qv_words.specs.Gate.{Lit, Circuit, done, ◌>>=◌, neg, and, xor, no}
use Rattle.qv_words.specs.Routine.{div, each, equal, moved, neg_bits, sel, sub, sum_of, top}

-- a stage of a shift
abbrev pub stage : Bool → Lit → ℕ → Lit → List Lit → Circuit (List Lit)
stage left fill n b bits = sel b (moved left n fill bits) bits

-- the sum of the high bits and the next row of a product
abbrev pub next_row : List Lit → List Lit → Lit → Circuit (List Lit)
next_row a high b = do
  row ← each and (take (length high) a) (replicate (length high) b)
  sum_of high row no

-- the next bit of a quotient, and the remainder
abbrev pub next_bit : List Lit → Lit → List Lit → Circuit (Lit × List Lit)
next_bit b a r = do
  d ← sub (a ∷ r) (b ++ no ∷ [])
  next ← sel d.1 (take (length b) d.0) (take (length b) (a ∷ r))
  done (d.1, next)

-- a number, or its negation
abbrev pub signed : Lit → List Lit → Circuit (List Lit)
signed sign a = do
  r ← neg_bits a
  sel sign r a

-- quotients, remainders and moduli of signed numbers, from what comes before
abbrev pub quotient_of : Lit → Lit → List Lit → List Lit → Circuit (List Lit)
quotient_of first second m n = do
  d ← div m n
  x ← xor first second
  signed x d.0

abbrev pub rest_of : Lit → List Lit → List Lit → Circuit (List Lit)
rest_of sign m n = do
  d ← div m n
  signed sign d.1

abbrev pub plus_where : Lit → List Lit → List Lit → Circuit (List Lit)
plus_where t a b = do
  g ← each and (replicate (length b) t) b
  sum_of a g no

abbrev pub turned_modulus : List Lit → List Lit → List Lit → List Lit → Circuit (List Lit)
turned_modulus a b rest u = do
  z ← equal rest (replicate (length a) no)
  x ← xor (top a) (top b)
  t ← and x (neg z)
  plus_where t u b

abbrev pub modulus_from : List Lit → List Lit → List Lit → Circuit (List Lit)
modulus_from a b rest = do
  r ← neg_bits rest
  u ← sel (top a) r rest
  turned_modulus a b rest u

abbrev pub modulus_of : List Lit → List Lit → List Lit → List Lit → Circuit (List Lit)
modulus_of a b m n = do
  d ← div m n
  modulus_from a b d.1
