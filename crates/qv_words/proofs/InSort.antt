-- Each operator stays in the sort of its rank.
use Rattle.std.proofs.Common.{◌≡◌, ℕ, ◌+◌, ◌-◌, ◌*◌, ◌/◌, ◌%◌, ◌^◌, ◌≤◌, ◌<◌, ◌==◌, ◌&&◌, ◌||◌, not, true, false, cond, nat_lt, nat_le, ◌+ℤ◌, ◌-ℤ◌, ◌*ℤ◌, Option, Some, None, List, [], ◌∷◌, map, refl, sym, ap, ◌∙◌, subst, arith, lit≤, lt_of_le_of_lt, lt_of_lt_of_le, le_of_lt, bit_and, bit_or, bit_xor}
use Rattle.std.specs.Prelude.{Bool as Truth, int_lt, int_le, slice_index, option_map, option_and_then}
use Rattle.std.specs.List.{All, AllZip, AllByRecursion}
use Rattle.std.proofs.lemmas.Bool.{cond_both, leb-true, ltb-true, and_parts}
use Rattle.std.proofs.lemmas.Grind.{common_steps}
use Rattle.std.proofs.lemmas.List.Elements.{recursion_from_All}
use Rattle.std.proofs.lemmas.Nat.{mul-le, and_le_l, or_lt, xor_lt, pow_pos, mod_below}
use Rattle.qv_words.specs.declared.sort.Sort.{Sort}
use Rattle.qv_words.specs.declared.sort.Sort.TheVariants.{Bool, Bits}
use Rattle.qv_words.specs.declared.op.Op.{Op}
use Rattle.qv_words.specs.declared.op.Op.TheVariants.{Not, And, Or, Xor, Implies, Equal, Ite, BvNot, BvNeg, BvAnd, BvOr, BvXor, BvNand, BvNor, BvXnor, BvAdd, BvSub, BvMul, BvUdiv, BvUrem, BvSdiv, BvSrem, BvSmod, BvShl, BvLshr, BvAshr, BvUlt, BvUle, BvUgt, BvUge, BvSlt, BvSle, BvSgt, BvSge, BvComp, Concat, Extract, Repeat, ZeroExtend, SignExtend, RotateLeft, RotateRight, BvNego, BvUaddo, BvSaddo, BvUmulo, BvSmulo, BvUsubo, BvSsubo, BvSdivo}
use Rattle.qv_words.specs.Sort.{IsLawful, IsValueOf, width_of}
use Rattle.qv_words.specs.Rank.{one_bool, two_bools, two_alike, choice, one_width, two_widths, joined_width, bits_of, bits_between, bits_repeated, result_sort}
use Rattle.qv_words.specs.Signed.{signed, is_outside, residue, negated}
use Rattle.qv_words.specs.Op.{op_value, truth, copies, turned}
use Rattle.qv_words.specs.Laws.{OpsStayInSort}
use Rattle.qv_words.proofs.Powers.{above_others_fit, pow_le}
use Rattle.qv_words.proofs.Bounds.{truth-lt, complement-lt, modulo-lt, quotient-lt, remainder-lt, negated-lt, signed_quotient-lt, signed_remainder-lt, signed_modulus-lt, shifted_left-lt, shifted_right-lt, shifted_signed-lt, residue-lt, copies-lt, turned-lt}
use Rattle.qv_words.proofs.Equals.{sort_eq-is}

-- sorts that are the same are equal
-- what a rank says of the arguments' sorts
pub one_bool-parts : (ss : List Sort) (r : Sort) → one_bool ss ≡ Some r → (ss ≡ Bool ∷ []) × (Bool ≡ r)
one_bool-parts = grind (arith, common_steps)

pub two_bools-parts : (ss : List Sort) (r : Sort) → two_bools ss ≡ Some r → (ss ≡ Bool ∷ Bool ∷ []) × (Bool ≡ r)
two_bools-parts = grind (arith, common_steps)

pub two_alike-parts : (ss : List Sort) (r : Sort) → two_alike ss ≡ Some r → ss ≡ r ∷ r ∷ []
two_alike-parts = grind (arith, common_steps, sort_eq-is)

pub choice-parts : (ss : List Sort) (r : Sort) → choice ss ≡ Some r → ss ≡ Bool ∷ r ∷ r ∷ []
choice-parts = grind (arith, common_steps, sort_eq-is)

pub one_width-parts : (ss : List Sort) (w : ℕ) → one_width ss ≡ Some w → ss ≡ Bits w ∷ []
one_width-parts = grind (arith, common_steps)

pub two_widths-parts : (ss : List Sort) (w : ℕ) → two_widths ss ≡ Some w → ss ≡ Bits w ∷ Bits w ∷ []
two_widths-parts = grind (arith, common_steps)

pub joined_width-parts : (ss : List Sort) (n : ℕ) → joined_width ss ≡ Some n → (v : ℕ) × (w : ℕ) × (ss ≡ Bits v ∷ Bits w ∷ []) × (v + w ≡ n)
joined_width-parts = grind (arith, common_steps)

-- the sorts and the value are right
abbrev Fits : Sort → ℕ → Type 0
Fits r x = IsLawful r × IsValueOf x r

bool_lawful : IsLawful Bool
bool_lawful = (lit≤ tt, lit≤ tt)

-- what the arguments are
one_value : (args : List ℕ) (s : Sort) → AllZip IsValueOf args (s ∷ []) → (a : ℕ) × (args ≡ a ∷ []) × IsValueOf a s
one_value [] s h = absurd h
one_value (a ∷ []) s h = (a, refl, h.0)
one_value (a ∷ b ∷ args) s h = absurd h.1

two_values : (args : List ℕ) (s t : Sort) → AllZip IsValueOf args (s ∷ t ∷ []) → (a : ℕ) × (b : ℕ) × (args ≡ a ∷ b ∷ []) × IsValueOf a s × IsValueOf b t
two_values [] s t h = absurd h
two_values (a ∷ []) s t h = absurd h.1
two_values (a ∷ b ∷ []) s t h = (a, b, refl, h.0, h.1.0)
two_values (a ∷ b ∷ c ∷ args) s t h = absurd h.1.1

three_values : (args : List ℕ) (s t u : Sort) → AllZip IsValueOf args (s ∷ t ∷ u ∷ []) → (a : ℕ) × (b : ℕ) × (c : ℕ) × (args ≡ a ∷ b ∷ c ∷ []) × IsValueOf a s × IsValueOf b t × IsValueOf c u
three_values [] s t u h = absurd h
three_values (a ∷ []) s t u h = absurd h.1
three_values (a ∷ b ∷ []) s t u h = absurd h.1.1
three_values (a ∷ b ∷ c ∷ []) s t u h = (a, b, c, refl, h.0, h.1.0, h.1.1.0)
three_values (a ∷ b ∷ c ∷ d ∷ args) s t u h = absurd h.1.1.1

-- the same at sorts and arguments that are equal
moved : (o : Op) (r : Sort) (ss ts : List Sort) (args values : List ℕ) → ss ≡ ts → args ≡ values → Fits r (op_value o ts values) → Fits r (op_value o ss args)
moved o r ss ts args values p q h =
    subst (λ (x : List Sort). Fits r (op_value o x args)) (sym p) (subst (λ (y : List ℕ). Fits r (op_value o ts y)) (sym q) h)

-- at one width: what holds of each width and value holds at any arguments of the rank
at_one_width : (o : Op) (f : ℕ → Option Sort) → ((w a : ℕ) (r : Sort) → IsLawful (Bits w) → a < 2 ^ w → f w ≡ Some r → Fits r (op_value o (Bits w ∷ []) (a ∷ []))) → (ss : List Sort) (r : Sort) (args : List ℕ) → AllByRecursion IsLawful ss → AllZip IsValueOf args ss → option_and_then f (one_width ss) ≡ Some r → Fits r (op_value o ss args)
at_one_width o f each ss r args lawful fit e = go (one_width ss) refl e
  where
    go : (p : Option ℕ) → one_width ss ≡ p → option_and_then f p ≡ Some r → Fits r (op_value o ss args)
    go None is e = absurd (cc)
    go (Some w) is e =
        let shape = one_width-parts ss w is in
        let values = one_value args (Bits w) (subst (AllZip IsValueOf args) shape fit) in
        rw (shape, values.1) (each w values.0 r (subst (AllByRecursion IsLawful) shape lawful).0 values.2 e)

at_two_widths : (o : Op) (f : ℕ → Sort) → ((w a b : ℕ) → IsLawful (Bits w) → a < 2 ^ w → b < 2 ^ w → Fits (f w) (op_value o (Bits w ∷ Bits w ∷ []) (a ∷ b ∷ []))) → (ss : List Sort) (r : Sort) (args : List ℕ) → AllByRecursion IsLawful ss → AllZip IsValueOf args ss → option_map f (two_widths ss) ≡ Some r → Fits r (op_value o ss args)
at_two_widths o f each ss r args lawful fit e = go (two_widths ss) refl e
  where
    go : (p : Option ℕ) → two_widths ss ≡ p → option_map f p ≡ Some r → Fits r (op_value o ss args)
    go None is e = absurd (cc)
    go (Some w) is e =
        let shape = two_widths-parts ss w is in
        let values = two_values args (Bits w) (Bits w) (subst (AllZip IsValueOf args) shape fit) in
        let same : f w ≡ r = cc in
        rw (shape, values.2, ← same) (each w values.0 values.1 (subst (AllByRecursion IsLawful) shape lawful).0 values.3 values.4)

-- the same of truth values
at_two_bools : (o : Op) → ((a b : ℕ) → a < 2 → b < 2 → op_value o (Bool ∷ Bool ∷ []) (a ∷ b ∷ []) < 2) → (ss : List Sort) (r : Sort) (args : List ℕ) → AllZip IsValueOf args ss → two_bools ss ≡ Some r → Fits r (op_value o ss args)
at_two_bools o each ss r args fit e =
    let parts = two_bools-parts ss r e in
    let values = two_values args Bool Bool (subst (AllZip IsValueOf args) parts.0 fit) in
    let known : Fits Bool (op_value o (Bool ∷ Bool ∷ []) (values.0 ∷ values.1 ∷ [])) = (bool_lawful, each values.0 values.1 values.3 values.4) in
    moved o r ss (Bool ∷ Bool ∷ []) args (values.0 ∷ values.1 ∷ []) parts.0 values.2 (subst (λ (x : Sort). Fits x (op_value o (Bool ∷ Bool ∷ []) (values.0 ∷ values.1 ∷ []))) parts.1 known)

-- the bit-vectors of a width of at most 128
lawful_bits : (n : ℕ) (r : Sort) → 1 ≤ n → bits_of n ≡ Some r → (Bits n ≡ r) × IsLawful r
lawful_bits n r h e = go (nat_le n 128) refl e
  where
    go : (b : Truth) → nat_le n 128 ≡ b → cond b (Some (Bits n)) None ≡ Some r → (Bits n ≡ r) × IsLawful r
    go false is e = absurd (cc)
    go true is e = let same : Bits n ≡ r = cc in (same, subst IsLawful same (h, leb-true n 128 is))

in_bits : (n x : ℕ) (r : Sort) → 1 ≤ n → x < 2 ^ n → bits_of n ≡ Some r → Fits r x
in_bits n x r h f e = let known = lawful_bits n r h e in (known.1, subst (IsValueOf x) known.0 f)

extract_fits : (i j w a : ℕ) (r : Sort) → IsLawful (Bits w) → bits_between i j w ≡ Some r → Fits r (op_value (Extract i j) (Bits w ∷ []) (a ∷ []))
extract_fits i j w a r lawful e = go (nat_lt i w && nat_le j i) refl e
  where
    go : (b : Truth) → (nat_lt i w && nat_le j i) ≡ b → cond b (Some (Bits (i - j + 1))) None ≡ Some r → Fits r (op_value (Extract i j) (Bits w ∷ []) (a ∷ []))
    go false is e = absurd (cc)
    go true is e =
        let parts = and_parts (nat_lt i w) (nat_le j i) is in
        let below : i < w = ltb-true i w parts.0 in
        let same : Bits (i - j + 1) ≡ r = cc in
        rw (← same) ((omega arith, omega arith), modulo-lt (i - j + 1) (a / 2 ^ j))

repeat_fits : (k w a : ℕ) (r : Sort) → IsLawful (Bits w) → a < 2 ^ w → bits_repeated k w ≡ Some r → Fits r (op_value (Repeat k) (Bits w ∷ []) (a ∷ []))
repeat_fits k w a r lawful f e = go (nat_le 1 k) refl e
  where
    go : (b : Truth) → nat_le 1 k ≡ b → cond b (bits_of (k * w)) None ≡ Some r → Fits r (op_value (Repeat k) (Bits w ∷ []) (a ∷ []))
    go false is e = absurd (cc)
    go true is e =
        let some : 1 ≤ k = leb-true 1 k is in
        let bits : 1 ≤ k * w = mul-le 1 1 k w some lawful.0 in
        in_bits (k * w) (copies k w a) r bits (copies-lt k w a f) e

concat_fits : (v w a b : ℕ) (r : Sort) → 1 ≤ v → a < 2 ^ v → b < 2 ^ w → bits_of (v + w) ≡ Some r → Fits r (a * 2 ^ w + b)
concat_fits v w a b r lo fa fb e = in_bits (v + w) (a * 2 ^ w + b) r (omega arith) (above_others_fit a b v w fa fb) e

at_joined_width : (ss : List Sort) (r : Sort) (args : List ℕ) → AllByRecursion IsLawful ss → AllZip IsValueOf args ss → option_and_then bits_of (joined_width ss) ≡ Some r → Fits r (op_value Concat ss args)
at_joined_width ss r args lawful fit e = go (joined_width ss) refl e
  where
    go : (p : Option ℕ) → joined_width ss ≡ p → option_and_then bits_of p ≡ Some r → Fits r (op_value Concat ss args)
    go None is e = absurd (cc)
    go (Some n) is e =
        let parts = joined_width-parts ss n is in
        let values = two_values args (Bits parts.0) (Bits parts.1) (subst (AllZip IsValueOf args) parts.2 fit) in
        let whole : bits_of (parts.0 + parts.1) ≡ Some r = ap bits_of parts.3 ∙ e in
        rw (parts.2, values.2) (concat_fits parts.0 parts.1 values.0 values.1 r (subst (AllByRecursion IsLawful) parts.2 lawful).0.0 values.3 values.4 whole)

-- a sort that an operator always gives
pub map_then : (f : ℕ → Sort) (p : Option ℕ) (r : Sort) → option_map f p ≡ Some r → option_and_then (λ w. Some (f w)) p ≡ Some r
map_then f None r e = absurd (cc)
map_then f (Some w) r e = e

some_bits : (w x : ℕ) (r : Sort) → IsLawful (Bits w) → x < 2 ^ w → Some (Bits w) ≡ Some r → Fits r x
some_bits w x r lw f e = let same : Bits w ≡ r = cc in (subst IsLawful same lw, subst (IsValueOf x) same f)

some_bool : (b : Truth) (r : Sort) → Some Bool ≡ Some r → Fits r (truth b)
some_bool b r e = let same : Bool ≡ r = cc in (subst IsLawful same bool_lawful, subst (IsValueOf (truth b)) same (truth-lt b))

pub equal_bool : (p : Option Sort) (r : Sort) → option_map (λ _. Bool) p ≡ Some r → Bool ≡ r
equal_bool None r e = absurd (cc)
equal_bool (Some s) r e = cc

zeros : (ss : List Sort) → AllZip IsValueOf (map (λ _. 0) ss) ss
zeros [] = tt
zeros (s ∷ ss) = (pow_pos (width_of s), zeros ss)

-- each operator's value, at arguments of its rank
in_sort : (o : Op) (ss : List Sort) (r : Sort) (args : List ℕ) → AllByRecursion IsLawful ss → AllZip IsValueOf args ss → result_sort o ss ≡ Some r → Fits r (op_value o ss args)
in_sort Not ss r args l z e =
    let parts = one_bool-parts ss r e in
    let values = one_value args Bool (subst (AllZip IsValueOf args) parts.0 z) in
    let known : Fits Bool (1 - values.0) = (bool_lawful, omega arith) in
    moved Not r ss (Bool ∷ []) args (values.0 ∷ []) parts.0 values.1 (subst (λ (x : Sort). Fits x (1 - values.0)) parts.1 known)
in_sort And ss r args l z e = at_two_bools And (λ a b fa fb. truth-lt (a == 1 && b == 1)) ss r args z e
in_sort Or ss r args l z e = at_two_bools Or (λ a b fa fb. truth-lt (a == 1 || b == 1)) ss r args z e
in_sort Xor ss r args l z e = at_two_bools Xor (λ a b fa fb. truth-lt (not (a == b))) ss r args z e
in_sort Implies ss r args l z e = at_two_bools Implies (λ a b fa fb. truth-lt (a == 0 || b == 1)) ss r args z e
in_sort Equal ss r args l z e = (subst IsLawful (equal_bool (two_alike ss) r e) bool_lawful, subst (IsValueOf (op_value Equal ss args)) (equal_bool (two_alike ss) r e) (truth-lt (slice_index args 0 == slice_index args 1)))
in_sort Ite ss r args l z e =
    let shape = choice-parts ss r e in
    let values = three_values args Bool r r (subst (AllZip IsValueOf args) shape z) in
    moved Ite r ss (Bool ∷ r ∷ r ∷ []) args (values.0 ∷ values.1 ∷ values.2 ∷ []) shape values.3 ((subst (AllByRecursion IsLawful) shape l).1.0, cond_both (values.0 == 1) values.1 values.2 (λ x. IsValueOf x r) (λ _. values.5) (λ _. values.6))
in_sort BvNot ss r args l z e = at_one_width BvNot (λ w. Some (Bits w)) (λ w a r lw fa e. some_bits w (2 ^ w - 1 - a) r lw (complement-lt w a) e) ss r args l z (map_then Bits (one_width ss) r e)
in_sort BvNeg ss r args l z e = at_one_width BvNeg (λ w. Some (Bits w)) (λ w a r lw fa e. some_bits w (negated w a) r lw (negated-lt w a) e) ss r args l z (map_then Bits (one_width ss) r e)
in_sort BvAnd ss r args l z e = at_two_widths BvAnd Bits (λ w a b lw fa fb. (lw, lt_of_le_of_lt (and_le_l a b) fa)) ss r args l z e
in_sort BvOr ss r args l z e = at_two_widths BvOr Bits (λ w a b lw fa fb. (lw, or_lt w a b fa fb)) ss r args l z e
in_sort BvXor ss r args l z e = at_two_widths BvXor Bits (λ w a b lw fa fb. (lw, xor_lt w a b fa fb)) ss r args l z e
in_sort BvNand ss r args l z e = at_two_widths BvNand Bits (λ w a b lw fa fb. (lw, complement-lt w (bit_and a b))) ss r args l z e
in_sort BvNor ss r args l z e = at_two_widths BvNor Bits (λ w a b lw fa fb. (lw, complement-lt w (bit_or a b))) ss r args l z e
in_sort BvXnor ss r args l z e = at_two_widths BvXnor Bits (λ w a b lw fa fb. (lw, complement-lt w (bit_xor a b))) ss r args l z e
in_sort BvAdd ss r args l z e = at_two_widths BvAdd Bits (λ w a b lw fa fb. (lw, modulo-lt w (a + b))) ss r args l z e
in_sort BvSub ss r args l z e = at_two_widths BvSub Bits (λ w a b lw fa fb. (lw, modulo-lt w (a + 2 ^ w - b))) ss r args l z e
in_sort BvMul ss r args l z e = at_two_widths BvMul Bits (λ w a b lw fa fb. (lw, modulo-lt w (a * b))) ss r args l z e
in_sort BvUdiv ss r args l z e = at_two_widths BvUdiv Bits (λ w a b lw fa fb. (lw, quotient-lt w a b fa)) ss r args l z e
in_sort BvUrem ss r args l z e = at_two_widths BvUrem Bits (λ w a b lw fa fb. (lw, remainder-lt w a b fa)) ss r args l z e
in_sort BvSdiv ss r args l z e = at_two_widths BvSdiv Bits (λ w a b lw fa fb. (lw, signed_quotient-lt w a b fa)) ss r args l z e
in_sort BvSrem ss r args l z e = at_two_widths BvSrem Bits (λ w a b lw fa fb. (lw, signed_remainder-lt w a b fa)) ss r args l z e
in_sort BvSmod ss r args l z e = at_two_widths BvSmod Bits (λ w a b lw fa fb. (lw, signed_modulus-lt w a b fa)) ss r args l z e
in_sort BvShl ss r args l z e = at_two_widths BvShl Bits (λ w a b lw fa fb. (lw, shifted_left-lt w a b)) ss r args l z e
in_sort BvLshr ss r args l z e = at_two_widths BvLshr Bits (λ w a b lw fa fb. (lw, shifted_right-lt w a b fa)) ss r args l z e
in_sort BvAshr ss r args l z e = at_two_widths BvAshr Bits (λ w a b lw fa fb. (lw, shifted_signed-lt w a b)) ss r args l z e
in_sort BvUlt ss r args l z e = at_two_widths BvUlt (λ _. Bool) (λ w a b lw fa fb. (bool_lawful, truth-lt (nat_lt a b))) ss r args l z e
in_sort BvUle ss r args l z e = at_two_widths BvUle (λ _. Bool) (λ w a b lw fa fb. (bool_lawful, truth-lt (nat_le a b))) ss r args l z e
in_sort BvUgt ss r args l z e = at_two_widths BvUgt (λ _. Bool) (λ w a b lw fa fb. (bool_lawful, truth-lt (nat_lt b a))) ss r args l z e
in_sort BvUge ss r args l z e = at_two_widths BvUge (λ _. Bool) (λ w a b lw fa fb. (bool_lawful, truth-lt (nat_le b a))) ss r args l z e
in_sort BvSlt ss r args l z e = at_two_widths BvSlt (λ _. Bool) (λ w a b lw fa fb. (bool_lawful, truth-lt (int_lt (signed w a) (signed w b)))) ss r args l z e
in_sort BvSle ss r args l z e = at_two_widths BvSle (λ _. Bool) (λ w a b lw fa fb. (bool_lawful, truth-lt (int_le (signed w a) (signed w b)))) ss r args l z e
in_sort BvSgt ss r args l z e = at_two_widths BvSgt (λ _. Bool) (λ w a b lw fa fb. (bool_lawful, truth-lt (int_lt (signed w b) (signed w a)))) ss r args l z e
in_sort BvSge ss r args l z e = at_two_widths BvSge (λ _. Bool) (λ w a b lw fa fb. (bool_lawful, truth-lt (int_le (signed w b) (signed w a)))) ss r args l z e
in_sort BvComp ss r args l z e = at_two_widths BvComp (λ _. Bits 1) (λ w a b lw fa fb. ((lit≤ tt, lit≤ tt), truth-lt (a == b))) ss r args l z e
in_sort Concat ss r args l z e = at_joined_width ss r args l z e
in_sort (Extract i j) ss r args l z e = at_one_width (Extract i j) (bits_between i j) (λ w a r lw fa e. extract_fits i j w a r lw e) ss r args l z e
in_sort (Repeat k) ss r args l z e = at_one_width (Repeat k) (bits_repeated k) (λ w a r lw fa e. repeat_fits k w a r lw fa e) ss r args l z e
in_sort (ZeroExtend k) ss r args l z e = at_one_width (ZeroExtend k) (λ w. bits_of (w + k)) (λ w a r lw fa e. in_bits (w + k) a r (omega (arith, lw.0)) (lt_of_lt_of_le fa (pow_le w (w + k) (omega arith))) e) ss r args l z e
in_sort (SignExtend k) ss r args l z e = at_one_width (SignExtend k) (λ w. bits_of (w + k)) (λ w a r lw fa e. in_bits (w + k) (residue (signed w a) (2 ^ (w + k))) r (omega (arith, lw.0)) (residue-lt (signed w a) (2 ^ (w + k)) (pow_pos (w + k))) e) ss r args l z e
in_sort (RotateLeft k) ss r args l z e = at_one_width (RotateLeft k) (λ w. Some (Bits w)) (λ w a r lw fa e. some_bits w (turned w a (w - k % w)) r lw (turned-lt w a (w - k % w) (omega arith) fa) e) ss r args l z (map_then Bits (one_width ss) r e)
in_sort (RotateRight k) ss r args l z e = at_one_width (RotateRight k) (λ w. Some (Bits w)) (λ w a r lw fa e. some_bits w (turned w a (k % w)) r lw (turned-lt w a (k % w) (le_of_lt (mod_below k w lw.0)) fa) e) ss r args l z (map_then Bits (one_width ss) r e)
in_sort BvNego ss r args l z e = at_one_width BvNego (λ _. Some Bool) (λ w a r lw fa e. some_bool (a == 2 ^ (w - 1)) r e) ss r args l z (map_then (λ _. Bool) (one_width ss) r e)
in_sort BvUaddo ss r args l z e = at_two_widths BvUaddo (λ _. Bool) (λ w a b lw fa fb. (bool_lawful, truth-lt (nat_le (2 ^ w) (a + b)))) ss r args l z e
in_sort BvSaddo ss r args l z e = at_two_widths BvSaddo (λ _. Bool) (λ w a b lw fa fb. (bool_lawful, truth-lt (is_outside w (signed w a +ℤ signed w b)))) ss r args l z e
in_sort BvUmulo ss r args l z e = at_two_widths BvUmulo (λ _. Bool) (λ w a b lw fa fb. (bool_lawful, truth-lt (nat_le (2 ^ w) (a * b)))) ss r args l z e
in_sort BvSmulo ss r args l z e = at_two_widths BvSmulo (λ _. Bool) (λ w a b lw fa fb. (bool_lawful, truth-lt (is_outside w (signed w a *ℤ signed w b)))) ss r args l z e
in_sort BvUsubo ss r args l z e = at_two_widths BvUsubo (λ _. Bool) (λ w a b lw fa fb. (bool_lawful, truth-lt (nat_lt a b))) ss r args l z e
in_sort BvSsubo ss r args l z e = at_two_widths BvSsubo (λ _. Bool) (λ w a b lw fa fb. (bool_lawful, truth-lt (is_outside w (signed w a -ℤ signed w b)))) ss r args l z e
in_sort BvSdivo ss r args l z e = at_two_widths BvSdivo (λ _. Bool) (λ w a b lw fa fb. (bool_lawful, truth-lt (a == 2 ^ (w - 1) && b == 2 ^ w - 1))) ss r args l z e

-- an operator stays in its sort
pub op_in_sort : OpsStayInSort
op_in_sort o ss r args l z e = in_sort o ss r args (recursion_from_All IsLawful ss l) z e

-- the sort of its result is lawful
pub lawful_rank : (o : Op) (ss : List Sort) (r : Sort) → All IsLawful ss → result_sort o ss ≡ Some r → IsLawful r
lawful_rank o ss r l e = (op_in_sort o ss r (map (λ _. 0) ss) l (zeros ss) e).0
