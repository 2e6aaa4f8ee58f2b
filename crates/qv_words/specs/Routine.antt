-- The routines of circuits, over lists of literals of any length, low bit first.
use Rattle.std.specs.Prelude.{ℕ, zero, suc, ◌+◌, ◌-◌, ◌^◌, ◌/◌, ◌%◌, ◌==◌, nat_le, Bool, if◌then◌else◌, List, [], ◌∷◌, ◌++◌, map, length, take, drop, reverse, replicate, slice_index_or}
use Rattle.qv_words.specs.Gate.{Lit, Circuit, done, ◌>>=◌, neg, yes, no, and, or, xor, mux, maj}

abbrev pub negs : List Lit → List Lit
negs bits = map neg bits

-- the top bit
abbrev pub top : List Lit → Lit
top bits = slice_index_or bits (length bits - 1) no

-- the sum with a carry, and the last carry
unfoldable pub add : List Lit → List Lit → Lit → Circuit (List Lit × Lit)
add [] bs c = done ([], c)
add (a ∷ as') [] c = done ([], c)
add (a ∷ as') (b ∷ bs) c = do
  x ← xor a b
  s ← xor x c
  k ← maj a b c
  rest ← add as' bs k
  done (s ∷ rest.0, rest.1)

abbrev pub sum_of : List Lit → List Lit → Lit → Circuit (List Lit)
sum_of a b c = do
  s ← add a b c
  done s.0

-- the two's complement, and the difference with its last carry
abbrev pub neg_bits : List Lit → Circuit (List Lit)
neg_bits a = sum_of (negs a) (replicate (length a) no) yes

abbrev pub sub : List Lit → List Lit → Circuit (List Lit × Lit)
sub a b = add a (negs b) yes

-- bit by bit by one condition, and one operation bit by bit
unfoldable pub sel : Lit → List Lit → List Lit → Circuit (List Lit)
sel c [] bs = done []
sel c (a ∷ as') [] = done []
sel c (a ∷ as') (b ∷ bs) = do
  g ← mux c a b
  rest ← sel c as' bs
  done (g ∷ rest)

unfoldable pub each : (Lit → Lit → Circuit Lit) → List Lit → List Lit → Circuit (List Lit)
each op [] bs = done []
each op (a ∷ as') [] = done []
each op (a ∷ as') (b ∷ bs) = do
  g ← op a b
  rest ← each op as' bs
  done (g ∷ rest)

-- a conjunction, and a disjunction, with each of some literals in turn
unfoldable pub and_all : Lit → List Lit → Circuit Lit
and_all r [] = done r
and_all r (l ∷ ls) = do
  g ← and r l
  and_all g ls

unfoldable pub or_all : Lit → List Lit → Circuit Lit
or_all r [] = done r
or_all r (l ∷ ls) = do
  g ← or r l
  or_all g ls

-- of the first literal with those behind it
abbrev pub conjunction_of : List Lit → Circuit Lit
conjunction_of [] = done yes
conjunction_of (l ∷ ls) = and_all l ls

abbrev pub disjunction_of : List Lit → Circuit Lit
disjunction_of [] = done no
disjunction_of (l ∷ ls) = or_all l ls

-- equality: the differences first, and then the conjunction of their negations
abbrev pub equal : List Lit → List Lit → Circuit Lit
equal a b = do
  d ← each xor a b
  conjunction_of (negs d)

-- the last carry of a - b
unfoldable pub carry : List Lit → List Lit → Lit → Circuit Lit
carry [] bs c = done c
carry (a ∷ as') [] c = done c
carry (a ∷ as') (b ∷ bs) c = do
  k ← maj a (neg b) c
  carry as' bs k

-- a is less than b
abbrev pub ult : List Lit → List Lit → Circuit Lit
ult a b = do
  c ← carry a b yes
  done (neg c)

-- with the top bit negated
abbrev pub turned : List Lit → List Lit
turned [] = []
turned (a ∷ as') = take (length as') (a ∷ as') ++ neg (top (a ∷ as')) ∷ []

abbrev pub slt : List Lit → List Lit → Circuit Lit
slt a b = ult (turned a) (turned b)

-- the bits moved by n places, with the fill for those from outside
abbrev pub moved_left : ℕ → Lit → List Lit → List Lit
moved_left n fill bits = take (length bits) (replicate n fill ++ bits)

abbrev pub moved_right : ℕ → Lit → List Lit → List Lit
moved_right n fill bits = drop n bits ++ take (length bits) (replicate n fill)

abbrev pub moved : Bool → ℕ → Lit → List Lit → List Lit
moved left n fill bits = if left then moved_left n fill bits else moved_right n fill bits

-- one stage for each of some bits of the amount, the first of which moves by n places
unfoldable pub stages : Bool → Lit → ℕ → List Lit → List Lit → Circuit (List Lit)
stages left fill n [] bits = done bits
stages left fill n (b ∷ bs) bits = do
  next ← sel b (moved left n fill bits) bits
  stages left fill (n + n) bs next

-- the least k with w at most 2^k, sought among the numbers from k on
abbrev pub least_log : ℕ → ℕ → ℕ → ℕ
least_log zero k w = k
least_log (suc n) k w = if nat_le w (2 ^ k) then k else least_log n (suc k) w

abbrev pub stage_count : ℕ → ℕ
stage_count w = least_log w 0 w

-- a shift: the stages, and the fill everywhere where a higher bit of the amount is set
abbrev pub shift : Bool → Lit → List Lit → List Lit → Circuit (List Lit)
shift left fill a b = do
  bits ← stages left fill 1 (take (stage_count (length a)) b) a
  h ← disjunction_of (drop (stage_count (length a)) b)
  sel h (replicate (length a) fill) bits

-- the rows of a product: the low bit is done, and the others become the sum with the next row
unfoldable pub rows : List Lit → List Lit → List Lit → Circuit (List Lit)
rows a acc [] = done acc
rows a [] (b ∷ bs) = done []
rows a (low ∷ high) (b ∷ bs) = do
  row ← each and (take (length high) a) (replicate (length high) b)
  s ← sum_of high row no
  rest ← rows a s bs
  done (low ∷ rest)

abbrev pub mul : List Lit → List Lit → Circuit (List Lit)
mul a [] = done []
mul a (b ∷ bs) = do
  acc ← each and a (replicate (length a) b)
  rows a acc bs

-- long division by the bits of a from the top down: the quotient so far, and the remainder
unfoldable pub divided : List Lit → List Lit → List Lit → List Lit → Circuit (List Lit × List Lit)
divided b [] q r = done (q, r)
divided b (a ∷ as') q r = do
  d ← sub (a ∷ r) (b ++ no ∷ [])
  next ← sel d.1 (take (length b) d.0) (take (length b) (a ∷ r))
  divided b as' (d.1 ∷ q) next

abbrev pub div : List Lit → List Lit → Circuit (List Lit × List Lit)
div a b = divided b (reverse a) [] (replicate (length a) no)

-- the magnitude
abbrev pub abs : List Lit → Circuit (List Lit)
abs a = do
  n ← neg_bits a
  sel (top a) n a

-- so many bits of a number
unfoldable pub bits_of_number : ℕ → ℕ → List Lit
bits_of_number zero n = []
bits_of_number (suc w) n = (if n % 2 == 1 then yes else no) ∷ bits_of_number w (n / 2)

-- the least of the signed values
abbrev pub least_signed : ℕ → List Lit
least_signed w = replicate (w - 1) no ++ yes ∷ []

-- k copies
unfoldable pub copies : ℕ → List Lit → List Lit
copies zero bits = []
copies (suc k) bits = bits ++ copies k bits

-- turned by k places: bit i of the result is bit i - k, or i + k, round the width
abbrev pub turned_left : ℕ → List Lit → List Lit
turned_left k bits = let n = k % length bits in drop (length bits - n) bits ++ take (length bits - n) bits

abbrev pub turned_right : ℕ → List Lit → List Lit
turned_right k bits = let n = k % length bits in drop n bits ++ take n bits
