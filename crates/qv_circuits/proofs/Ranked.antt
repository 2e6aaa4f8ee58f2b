-- The circuit of an operator, by how many arguments there are, and what its rank says of its indices.
use Rattle.std.proofs.Common.{◌≡◌, ◌≢◌, ◌≤◌, ◌<◌, ◌+◌, ℕ, Option, Some, None, List, [], ◌∷◌, map, length, get_or, refl, ap, ◌∙◌, sym, arith, All}
use Rattle.std.specs.Prelude.{option_and_then}
use Rattle.std.specs.List.{AllZip}
use Rattle.std.proofs.lemmas.Bool.Decides.{nat_tests}
use Rattle.std.proofs.lemmas.List.{length-map}
use Rattle.qv_words.specs.declared.op.Op.{Op}
use Rattle.qv_words.specs.declared.op.Op.TheVariants.{Not, And, Or, Xor, Implies, Equal, Ite, BvNot, BvNeg, BvAnd, BvOr, BvXor, BvNand, BvNor, BvXnor, BvAdd, BvSub, BvMul, BvUdiv, BvUrem, BvSdiv, BvSrem, BvSmod, BvShl, BvLshr, BvAshr, BvUlt, BvUle, BvUgt, BvUge, BvSlt, BvSle, BvSgt, BvSge, BvComp, Concat, Extract, Repeat, ZeroExtend, SignExtend, RotateLeft, RotateRight, BvNego, BvUaddo, BvSaddo, BvUmulo, BvSmulo, BvUsubo, BvSsubo, BvSdivo}
use Rattle.qv_words.specs.declared.sort.Sort.{Sort}
use Rattle.qv_words.specs.declared.sort.Sort.TheVariants.{Bits}
use Rattle.qv_words.specs.declared.sort.Sort.TheVariants.{Bool as BoolSort}
use Rattle.qv_words.specs.Sort.{IsLawful, width_of}
use Rattle.qv_words.specs.Rank.{result_sort, bits_between, bits_of, bits_repeated, one_width}
use Rattle.qv_words.specs.Gate.{done, Lit}
use Rattle.qv_words.specs.Routine.{sel}
use Rattle.qv_words.specs.OpCircuit.{binary_circuit, choice_circuit, op_circuit, unary_circuit}
use Rattle.qv_cnf.specs.Literal.{Literal}
use Rattle.qv_circuits.specs.Adding.{lit_of, lits_of}
use Rattle.qv_circuits.specs.Fitting.{FitsRank}
use Rattle.qv_circuits.specs.Kinds.{CountsBits, moved_bits}

-- a choice by one bit
pub choice-by : (c : List Literal) (l : Literal) (a b : List Lit) → length c ≡ 1 → l ≡ get_or c 0 l → choice_circuit (lits_of c) a b ≡ sel (lit_of l) a b
choice-by [] l a b n e = absurd (omega (arith, n))
choice-by (x ∷ []) l a b n e = ap (λ (y : Literal). sel (lit_of y) a b) (sym e)
choice-by (x ∷ y ∷ zs) l a b n e = absurd (omega (arith, n))

pub choice-none : (c : List Literal) (a b : List Lit) → length c ≢ 1 → choice_circuit (lits_of c) a b ≡ done []
choice-none [] a b n = refl
choice-none (x ∷ []) a b n = absurd (n refl)
choice-none (x ∷ y ∷ zs) a b n = refl

-- of one, two and three arguments, and of others
pub of-one : (o : Op) (a : List Lit) → op_circuit o (a ∷ []) ≡ unary_circuit o a
unfolding op_circuit
of-one Not a = refl
of-one And a = refl
of-one Or a = refl
of-one Xor a = refl
of-one Implies a = refl
of-one Equal a = refl
of-one Ite a = refl
of-one BvNot a = refl
of-one BvNeg a = refl
of-one BvAnd a = refl
of-one BvOr a = refl
of-one BvXor a = refl
of-one BvNand a = refl
of-one BvNor a = refl
of-one BvXnor a = refl
of-one BvAdd a = refl
of-one BvSub a = refl
of-one BvMul a = refl
of-one BvUdiv a = refl
of-one BvUrem a = refl
of-one BvSdiv a = refl
of-one BvSrem a = refl
of-one BvSmod a = refl
of-one BvShl a = refl
of-one BvLshr a = refl
of-one BvAshr a = refl
of-one BvUlt a = refl
of-one BvUle a = refl
of-one BvUgt a = refl
of-one BvUge a = refl
of-one BvSlt a = refl
of-one BvSle a = refl
of-one BvSgt a = refl
of-one BvSge a = refl
of-one BvComp a = refl
of-one Concat a = refl
of-one (Extract i j) a = refl
of-one (Repeat i) a = refl
of-one (ZeroExtend i) a = refl
of-one (SignExtend i) a = refl
of-one (RotateLeft i) a = refl
of-one (RotateRight i) a = refl
of-one BvNego a = refl
of-one BvUaddo a = refl
of-one BvSaddo a = refl
of-one BvUmulo a = refl
of-one BvSmulo a = refl
of-one BvUsubo a = refl
of-one BvSsubo a = refl
of-one BvSdivo a = refl

pub of-two : (o : Op) (a b : List Lit) → op_circuit o (a ∷ b ∷ []) ≡ binary_circuit o a b
unfolding op_circuit
of-two Not a b = refl
of-two And a b = refl
of-two Or a b = refl
of-two Xor a b = refl
of-two Implies a b = refl
of-two Equal a b = refl
of-two Ite a b = refl
of-two BvNot a b = refl
of-two BvNeg a b = refl
of-two BvAnd a b = refl
of-two BvOr a b = refl
of-two BvXor a b = refl
of-two BvNand a b = refl
of-two BvNor a b = refl
of-two BvXnor a b = refl
of-two BvAdd a b = refl
of-two BvSub a b = refl
of-two BvMul a b = refl
of-two BvUdiv a b = refl
of-two BvUrem a b = refl
of-two BvSdiv a b = refl
of-two BvSrem a b = refl
of-two BvSmod a b = refl
of-two BvShl a b = refl
of-two BvLshr a b = refl
of-two BvAshr a b = refl
of-two BvUlt a b = refl
of-two BvUle a b = refl
of-two BvUgt a b = refl
of-two BvUge a b = refl
of-two BvSlt a b = refl
of-two BvSle a b = refl
of-two BvSgt a b = refl
of-two BvSge a b = refl
of-two BvComp a b = refl
of-two Concat a b = refl
of-two (Extract i j) a b = refl
of-two (Repeat i) a b = refl
of-two (ZeroExtend i) a b = refl
of-two (SignExtend i) a b = refl
of-two (RotateLeft i) a b = refl
of-two (RotateRight i) a b = refl
of-two BvNego a b = refl
of-two BvUaddo a b = refl
of-two BvSaddo a b = refl
of-two BvUmulo a b = refl
of-two BvSmulo a b = refl
of-two BvUsubo a b = refl
of-two BvSsubo a b = refl
of-two BvSdivo a b = refl

pub of-choice : (c a b : List Lit) → op_circuit Ite (c ∷ a ∷ b ∷ []) ≡ choice_circuit c a b
unfolding op_circuit
of-choice c a b = refl

pub of-three : (o : Op) (c a b : List Lit) → o ≢ Ite → op_circuit o (c ∷ a ∷ b ∷ []) ≡ done []
unfolding op_circuit
of-three Not c a b h = refl
of-three And c a b h = refl
of-three Or c a b h = refl
of-three Xor c a b h = refl
of-three Implies c a b h = refl
of-three Equal c a b h = refl
of-three Ite c a b h = absurd (h refl)
of-three BvNot c a b h = refl
of-three BvNeg c a b h = refl
of-three BvAnd c a b h = refl
of-three BvOr c a b h = refl
of-three BvXor c a b h = refl
of-three BvNand c a b h = refl
of-three BvNor c a b h = refl
of-three BvXnor c a b h = refl
of-three BvAdd c a b h = refl
of-three BvSub c a b h = refl
of-three BvMul c a b h = refl
of-three BvUdiv c a b h = refl
of-three BvUrem c a b h = refl
of-three BvSdiv c a b h = refl
of-three BvSrem c a b h = refl
of-three BvSmod c a b h = refl
of-three BvShl c a b h = refl
of-three BvLshr c a b h = refl
of-three BvAshr c a b h = refl
of-three BvUlt c a b h = refl
of-three BvUle c a b h = refl
of-three BvUgt c a b h = refl
of-three BvUge c a b h = refl
of-three BvSlt c a b h = refl
of-three BvSle c a b h = refl
of-three BvSgt c a b h = refl
of-three BvSge c a b h = refl
of-three BvComp c a b h = refl
of-three Concat c a b h = refl
of-three (Extract i j) c a b h = refl
of-three (Repeat i) c a b h = refl
of-three (ZeroExtend i) c a b h = refl
of-three (SignExtend i) c a b h = refl
of-three (RotateLeft i) c a b h = refl
of-three (RotateRight i) c a b h = refl
of-three BvNego c a b h = refl
of-three BvUaddo c a b h = refl
of-three BvSaddo c a b h = refl
of-three BvUmulo c a b h = refl
of-three BvSmulo c a b h = refl
of-three BvUsubo c a b h = refl
of-three BvSsubo c a b h = refl
of-three BvSdivo c a b h = refl

of-none : (o : Op) → op_circuit o [] ≡ done []
unfolding op_circuit
of-none Not = refl
of-none And = refl
of-none Or = refl
of-none Xor = refl
of-none Implies = refl
of-none Equal = refl
of-none Ite = refl
of-none BvNot = refl
of-none BvNeg = refl
of-none BvAnd = refl
of-none BvOr = refl
of-none BvXor = refl
of-none BvNand = refl
of-none BvNor = refl
of-none BvXnor = refl
of-none BvAdd = refl
of-none BvSub = refl
of-none BvMul = refl
of-none BvUdiv = refl
of-none BvUrem = refl
of-none BvSdiv = refl
of-none BvSrem = refl
of-none BvSmod = refl
of-none BvShl = refl
of-none BvLshr = refl
of-none BvAshr = refl
of-none BvUlt = refl
of-none BvUle = refl
of-none BvUgt = refl
of-none BvUge = refl
of-none BvSlt = refl
of-none BvSle = refl
of-none BvSgt = refl
of-none BvSge = refl
of-none BvComp = refl
of-none Concat = refl
of-none (Extract i j) = refl
of-none (Repeat i) = refl
of-none (ZeroExtend i) = refl
of-none (SignExtend i) = refl
of-none (RotateLeft i) = refl
of-none (RotateRight i) = refl
of-none BvNego = refl
of-none BvUaddo = refl
of-none BvSaddo = refl
of-none BvUmulo = refl
of-none BvSmulo = refl
of-none BvUsubo = refl
of-none BvSsubo = refl
of-none BvSdivo = refl

of-four : (o : Op) (c a b d : List Lit) (es : List (List Lit)) → op_circuit o (c ∷ a ∷ b ∷ d ∷ es) ≡ done []
unfolding op_circuit
of-four Not c a b d es = refl
of-four And c a b d es = refl
of-four Or c a b d es = refl
of-four Xor c a b d es = refl
of-four Implies c a b d es = refl
of-four Equal c a b d es = refl
of-four Ite c a b d es = refl
of-four BvNot c a b d es = refl
of-four BvNeg c a b d es = refl
of-four BvAnd c a b d es = refl
of-four BvOr c a b d es = refl
of-four BvXor c a b d es = refl
of-four BvNand c a b d es = refl
of-four BvNor c a b d es = refl
of-four BvXnor c a b d es = refl
of-four BvAdd c a b d es = refl
of-four BvSub c a b d es = refl
of-four BvMul c a b d es = refl
of-four BvUdiv c a b d es = refl
of-four BvUrem c a b d es = refl
of-four BvSdiv c a b d es = refl
of-four BvSrem c a b d es = refl
of-four BvSmod c a b d es = refl
of-four BvShl c a b d es = refl
of-four BvLshr c a b d es = refl
of-four BvAshr c a b d es = refl
of-four BvUlt c a b d es = refl
of-four BvUle c a b d es = refl
of-four BvUgt c a b d es = refl
of-four BvUge c a b d es = refl
of-four BvSlt c a b d es = refl
of-four BvSle c a b d es = refl
of-four BvSgt c a b d es = refl
of-four BvSge c a b d es = refl
of-four BvComp c a b d es = refl
of-four Concat c a b d es = refl
of-four (Extract i j) c a b d es = refl
of-four (Repeat i) c a b d es = refl
of-four (ZeroExtend i) c a b d es = refl
of-four (SignExtend i) c a b d es = refl
of-four (RotateLeft i) c a b d es = refl
of-four (RotateRight i) c a b d es = refl
of-four BvNego c a b d es = refl
of-four BvUaddo c a b d es = refl
of-four BvSaddo c a b d es = refl
of-four BvUmulo c a b d es = refl
of-four BvSmulo c a b d es = refl
of-four BvUsubo c a b d es = refl
of-four BvSsubo c a b d es = refl
of-four BvSdivo c a b d es = refl

pub of-many : (o : Op) (args : List (List Lit)) → length args ≢ 1 → length args ≢ 2 → length args ≢ 3 → op_circuit o args ≡ done []
of-many o [] h g f = of-none o
of-many o (a ∷ []) h g f = absurd (h refl)
of-many o (a ∷ b ∷ []) h g f = absurd (g refl)
of-many o (a ∷ b ∷ c ∷ []) h g f = absurd (f refl)
of-many o (a ∷ b ∷ c ∷ d ∷ es) h g f = of-four o a b c d es

-- indices are small
between-parts : (i j w : ℕ) (r : Sort) → bits_between i j w ≡ Some r → (j ≤ i) × (i < w)
between-parts i j w r e = grind (arith, nat_tests)

repeated-part : (k w : ℕ) (r : Sort) → 1 ≤ w → bits_repeated k w ≡ Some r → k ≤ 128
repeated-part k w r some e = grind (arith, nat_tests)

extended-part : (k w : ℕ) (r : Sort) → bits_of (w + k) ≡ Some r → k ≤ 128
extended-part k w r e = grind (arith, nat_tests)

-- the sort of one argument
one-width : (a : List Lit) (sorts : List Sort) (f : ℕ → Option Sort) (r : Sort) → All IsLawful sorts → option_and_then f (one_width sorts) ≡ Some r → AllZip (λ bits sort. length bits ≡ width_of sort) (a ∷ []) sorts →
    (length a ≤ 128) × (1 ≤ length a) × (f (length a) ≡ Some r)
one-width a [] f r l e z = absurd z
one-width a (BoolSort ∷ []) f r l e z = let nothing : Option Sort = None in let no : nothing ≡ Some r = e in cc
one-width a (Bits w ∷ []) f r l e z =
    let lawful : IsLawful (Bits w) = l 0 (Bits w) (omega arith) in
    (omega (arith, lawful.1, z.0), omega (arith, lawful.0, z.0), ap f z.0 ∙ e)
one-width a (s ∷ t ∷ ss) f r l e z = absurd z.1

some-width : (a : List Lit) (sorts : List Sort) → All IsLawful sorts → AllZip (λ bits sort. length bits ≡ width_of sort) (a ∷ []) sorts → 1 ≤ length a
some-width a [] l z = absurd z
some-width a (s ∷ []) l z = let lawful : IsLawful s = l 0 s (omega arith) in omega (arith, lawful.0, z.0)
some-width a (s ∷ t ∷ ss) l z = absurd z.1

counts : (o : Op) (a : List Lit) (sorts : List Sort) (r : Sort) → All IsLawful sorts → result_sort o sorts ≡ Some r → AllZip (λ bits sort. length bits ≡ width_of sort) (a ∷ []) sorts → CountsBits o (length a)
counts (Extract i j) a sorts r l e z =
    let w = one-width a sorts (bits_between i j) r l e z in
    let p = between-parts i j (length a) r w.2 in
    (p.0, omega (arith, p.1, w.0))
counts (Repeat k) a sorts r l e z = let w = one-width a sorts (bits_repeated k) r l e z in repeated-part k (length a) r w.1 w.2
counts (ZeroExtend k) a sorts r l e z = let w = one-width a sorts (λ n. bits_of (n + k)) r l e z in extended-part k (length a) r w.2
counts (SignExtend k) a sorts r l e z = let w = one-width a sorts (λ n. bits_of (n + k)) r l e z in extended-part k (length a) r w.2
counts (RotateLeft k) a sorts r l e z = some-width a sorts l z
counts (RotateRight k) a sorts r l e z = some-width a sorts l z
counts _ a sorts r l e z = tt

pub fits-counts : (o : Op) (a : List Lit) → FitsRank o (a ∷ []) → CountsBits o (length a)
fits-counts o a h = counts o a h.sorts h.result h.lawful h.rank h.widths

-- lists of so many
pub one-of : {A : Type 0} (xs : List A) (x : A) → length xs ≡ 1 → x ≡ get_or xs 0 x → xs ≡ x ∷ []
one-of [] x n e = absurd (omega (arith, n))
one-of {A} (y ∷ []) x n e = ap (λ (z : A). z ∷ []) (sym e)
one-of (y ∷ z ∷ zs) x n e = absurd (omega (arith, n))

pub two-of : {A : Type 0} (xs : List A) (x y : A) → length xs ≡ 2 → x ≡ get_or xs 0 x → y ≡ get_or xs 1 y → xs ≡ x ∷ y ∷ []
two-of [] x y n e f = absurd (omega (arith, n))
two-of (a ∷ []) x y n e f = absurd (omega (arith, n))
two-of (a ∷ b ∷ []) x y n e f = cc
two-of (a ∷ b ∷ c ∷ cs) x y n e f = absurd (omega (arith, n))

pub three-of : {A : Type 0} (xs : List A) (x y z : A) → length xs ≡ 3 → x ≡ get_or xs 0 x → y ≡ get_or xs 1 y → z ≡ get_or xs 2 z → xs ≡ x ∷ y ∷ z ∷ []
three-of [] x y z n e f g = absurd (omega (arith, n))
three-of (a ∷ []) x y z n e f g = absurd (omega (arith, n))
three-of (a ∷ b ∷ []) x y z n e f g = absurd (omega (arith, n))
three-of (a ∷ b ∷ c ∷ []) x y z n e f g = cc
three-of (a ∷ b ∷ c ∷ d ∷ ds) x y z n e f g = absurd (omega (arith, n))

-- an operator that moves bits
pub moves-bits : (o : Op) (a : List Lit) → o ≢ BvNeg → o ≢ BvNego → unary_circuit o a ≡ done (moved_bits o a)
moves-bits Not a h g = refl
moves-bits And a h g = refl
moves-bits Or a h g = refl
moves-bits Xor a h g = refl
moves-bits Implies a h g = refl
moves-bits Equal a h g = refl
moves-bits Ite a h g = refl
moves-bits BvNot a h g = refl
moves-bits BvNeg a h g = absurd (h refl)
moves-bits BvAnd a h g = refl
moves-bits BvOr a h g = refl
moves-bits BvXor a h g = refl
moves-bits BvNand a h g = refl
moves-bits BvNor a h g = refl
moves-bits BvXnor a h g = refl
moves-bits BvAdd a h g = refl
moves-bits BvSub a h g = refl
moves-bits BvMul a h g = refl
moves-bits BvUdiv a h g = refl
moves-bits BvUrem a h g = refl
moves-bits BvSdiv a h g = refl
moves-bits BvSrem a h g = refl
moves-bits BvSmod a h g = refl
moves-bits BvShl a h g = refl
moves-bits BvLshr a h g = refl
moves-bits BvAshr a h g = refl
moves-bits BvUlt a h g = refl
moves-bits BvUle a h g = refl
moves-bits BvUgt a h g = refl
moves-bits BvUge a h g = refl
moves-bits BvSlt a h g = refl
moves-bits BvSle a h g = refl
moves-bits BvSgt a h g = refl
moves-bits BvSge a h g = refl
moves-bits BvComp a h g = refl
moves-bits Concat a h g = refl
moves-bits (Extract i j) a h g = refl
moves-bits (Repeat i) a h g = refl
moves-bits (ZeroExtend i) a h g = refl
moves-bits (SignExtend i) a h g = refl
moves-bits (RotateLeft i) a h g = refl
moves-bits (RotateRight i) a h g = refl
moves-bits BvNego a h g = absurd (g refl)
moves-bits BvUaddo a h g = refl
moves-bits BvSaddo a h g = refl
moves-bits BvUmulo a h g = refl
moves-bits BvSmulo a h g = refl
moves-bits BvUsubo a h g = refl
moves-bits BvSsubo a h g = refl
moves-bits BvSdivo a h g = refl

pub of-length : {A : Type 0} (o : Op) (xs : List A) (f : A → List Lit) → length xs ≢ 1 → length xs ≢ 2 → length xs ≢ 3 → op_circuit o (map f xs) ≡ done []
of-length o xs f h g k = of-many o (map f xs) (λ e. h (sym (length-map xs f) ∙ e)) (λ e. g (sym (length-map xs f) ∙ e)) (λ e. k (sym (length-map xs f) ∙ e))
