-- The circuits are well formed.
use Rattle.std.proofs.Common.{ℕ, ◌+◌, Some, List, [], ◌∷◌, ◌++◌, length, replicate, sym, subst, true, false}
use Rattle.qv_words.specs.declared.sort.Sort.{Sort}
use Rattle.qv_words.specs.declared.sort.Sort.TheVariants.{Bool, Bits}
use Rattle.qv_words.specs.declared.op.Op.{Op}
use Rattle.qv_words.specs.declared.op.Op.TheVariants.{Not, And, Or, Xor, Implies, Equal, Ite, BvNot, BvNeg, BvAnd, BvOr, BvXor, BvNand, BvNor, BvXnor, BvAdd, BvSub, BvMul, BvUdiv, BvUrem, BvSdiv, BvSrem, BvSmod, BvShl, BvLshr, BvAshr, BvUlt, BvUle, BvUgt, BvUge, BvSlt, BvSle, BvSgt, BvSge, BvComp, Concat, Extract, Repeat, ZeroExtend, SignExtend, RotateLeft, RotateRight, BvNego, BvUaddo, BvSaddo, BvUmulo, BvSmulo, BvUsubo, BvSsubo, BvSdivo}
use Rattle.qv_words.specs.Sort.{IsLawful, width_of}
use Rattle.qv_words.specs.Rank.{one_width, bits_of, bits_between, bits_repeated}
use Rattle.qv_words.specs.Gate.{Lit, no, and, or, xor}
use Rattle.qv_words.specs.Routine.{negs, top, least_signed, turned_left, turned_right}
use Rattle.qv_words.specs.OpCircuit.{op_circuit}
use Rattle.qv_circuits_laws.specs.CircuitLaws.{IsWord, IsWellFormed, CircuitsAreWellFormed}
use Rattle.qv_circuits_laws.proofs.Building.{done-gives, then-gives, no-before, top-before, append-word, replicate-word, negs-word}
use Rattle.qv_circuits_laws.proofs.Routines.{sum-gives, neg-gives, sub-gives, and-gives, or-gives, xor-gives, each-gives, equal-gives, ult-gives, slt-gives, shift-gives, mul-gives, div-gives, least-word, left-word, right-word}
use Rattle.std.proofs.lemmas.List.Elements.{recursion_from_All}
use Rattle.qv_circuits_laws.proofs.WellFormed.{Fits, one-gives, not_one-gives, negated-gives, signed_quotient-gives, remainder-gives, modulus-gives, sum_overflow-gives, signed_sum-gives, product-gives, signed_product-gives, signed_difference-gives, signed_overflow-gives, at_one_width, at_sort, at_two_widths, at_two_bools, at_one_bool, some-bits, extract-fits, repeat-fits, concat-fits, ite-fits, equal-fits}
use Rattle.qv_words.proofs.InSort.{map_then}

-- what a circuit gives, as the law has it
formed : {n : ℕ} (o : Op) (args : List (List Lit)) (r : Sort) → Fits n o args r → IsWellFormed (width_of r) n (op_circuit o args n)
formed o args r h = record { gates = h.gates; result = h.result }

pub circuits-formed : CircuitsAreWellFormed
unfolding op_circuit
circuits-formed Not ss r args n lo l e h = formed Not args r (at_one_bool n Not (λ a f. done-gives (negs a) (negs-word f)) ss r args h e)
circuits-formed And ss r args n lo l e h = formed And args r (at_two_bools n And (λ a b f g. each-gives and and-gives a b lo f g) ss r args h e)
circuits-formed Or ss r args n lo l e h = formed Or args r (at_two_bools n Or (λ a b f g. each-gives or or-gives a b lo f g) ss r args h e)
circuits-formed Xor ss r args n lo l e h = formed Xor args r (at_two_bools n Xor (λ a b f g. each-gives xor xor-gives a b lo f g) ss r args h e)
circuits-formed Implies ss r args n lo l e h = formed Implies args r (at_two_bools n Implies (λ a b f g. each-gives or or-gives (negs a) b lo (negs-word f) g) ss r args h e)
circuits-formed Equal ss r args n lo l e h = formed Equal args r (equal-fits n ss r args lo h e)
circuits-formed Ite ss r args n lo l e h = formed Ite args r (ite-fits n ss r args lo h e)
circuits-formed BvNot ss r args n lo l e h = formed BvNot args r (at_one_width n BvNot (λ w. Some (Bits w)) (λ w a r some f e. at_sort n BvNot (a ∷ []) (Bits w) r e (done-gives (negs a) (negs-word f))) ss r args (recursion_from_All IsLawful ss l) h (map_then Bits (one_width ss) r e))
circuits-formed BvNeg ss r args n lo l e h = formed BvNeg args r (at_one_width n BvNeg (λ w. Some (Bits w)) (λ w a r some f e. at_sort n BvNeg (a ∷ []) (Bits w) r e (neg-gives a lo f)) ss r args (recursion_from_All IsLawful ss l) h (map_then Bits (one_width ss) r e))
circuits-formed (RotateLeft k) ss r args n lo l e h = formed (RotateLeft k) args r (at_one_width n (RotateLeft k) (λ w. Some (Bits w)) (λ w a r some f e. at_sort n (RotateLeft k) (a ∷ []) (Bits w) r e (done-gives (turned_left k a) (left-word k a f))) ss r args (recursion_from_All IsLawful ss l) h (map_then Bits (one_width ss) r e))
circuits-formed (RotateRight k) ss r args n lo l e h = formed (RotateRight k) args r (at_one_width n (RotateRight k) (λ w. Some (Bits w)) (λ w a r some f e. at_sort n (RotateRight k) (a ∷ []) (Bits w) r e (done-gives (turned_right k a) (right-word k a some f))) ss r args (recursion_from_All IsLawful ss l) h (map_then Bits (one_width ss) r e))
circuits-formed BvNego ss r args n lo l e h = formed BvNego args r (at_one_width n BvNego (λ _. Some Bool) (λ w a r some f e. at_sort n BvNego (a ∷ []) Bool r e (one-gives (equal-gives a (least_signed (length a)) lo f (subst (λ (k : ℕ). IsWord w n (least_signed k)) (sym f.bit_count) (least-word lo some))))) ss r args (recursion_from_All IsLawful ss l) h (map_then (λ _. Bool) (one_width ss) r e))
circuits-formed BvAnd ss r args n lo l e h = formed BvAnd args r (at_two_widths n BvAnd (λ w. Bits w) (λ w a b some f g. each-gives and and-gives a b lo f g) ss r args (recursion_from_All IsLawful ss l) h e)
circuits-formed BvOr ss r args n lo l e h = formed BvOr args r (at_two_widths n BvOr (λ w. Bits w) (λ w a b some f g. each-gives or or-gives a b lo f g) ss r args (recursion_from_All IsLawful ss l) h e)
circuits-formed BvXor ss r args n lo l e h = formed BvXor args r (at_two_widths n BvXor (λ w. Bits w) (λ w a b some f g. each-gives xor xor-gives a b lo f g) ss r args (recursion_from_All IsLawful ss l) h e)
circuits-formed BvNand ss r args n lo l e h = formed BvNand args r (at_two_widths n BvNand (λ w. Bits w) (λ w a b some f g. negated-gives (each-gives and and-gives a b lo f g)) ss r args (recursion_from_All IsLawful ss l) h e)
circuits-formed BvNor ss r args n lo l e h = formed BvNor args r (at_two_widths n BvNor (λ w. Bits w) (λ w a b some f g. negated-gives (each-gives or or-gives a b lo f g)) ss r args (recursion_from_All IsLawful ss l) h e)
circuits-formed BvXnor ss r args n lo l e h = formed BvXnor args r (at_two_widths n BvXnor (λ w. Bits w) (λ w a b some f g. negated-gives (each-gives xor xor-gives a b lo f g)) ss r args (recursion_from_All IsLawful ss l) h e)
circuits-formed BvAdd ss r args n lo l e h = formed BvAdd args r (at_two_widths n BvAdd (λ w. Bits w) (λ w a b some f g. sum-gives a b no lo f g (no-before lo)) ss r args (recursion_from_All IsLawful ss l) h e)
circuits-formed BvSub ss r args n lo l e h = formed BvSub args r (at_two_widths n BvSub (λ w. Bits w) (λ w a b some f g. then-gives (sub-gives a b lo f g) (λ k d up hd. done-gives d.0 hd.0)) ss r args (recursion_from_All IsLawful ss l) h e)
circuits-formed BvMul ss r args n lo l e h = formed BvMul args r (at_two_widths n BvMul (λ w. Bits w) (λ w a b some f g. mul-gives a b lo f g) ss r args (recursion_from_All IsLawful ss l) h e)
circuits-formed BvUdiv ss r args n lo l e h = formed BvUdiv args r (at_two_widths n BvUdiv (λ w. Bits w) (λ w a b some f g. then-gives (div-gives a b lo f g) (λ k d up hd. done-gives d.0 hd.0)) ss r args (recursion_from_All IsLawful ss l) h e)
circuits-formed BvUrem ss r args n lo l e h = formed BvUrem args r (at_two_widths n BvUrem (λ w. Bits w) (λ w a b some f g. then-gives (div-gives a b lo f g) (λ k d up hd. done-gives d.1 hd.1)) ss r args (recursion_from_All IsLawful ss l) h e)
circuits-formed BvSdiv ss r args n lo l e h = formed BvSdiv args r (at_two_widths n BvSdiv (λ w. Bits w) (λ w a b some f g. signed_quotient-gives a b lo f g) ss r args (recursion_from_All IsLawful ss l) h e)
circuits-formed BvSrem ss r args n lo l e h = formed BvSrem args r (at_two_widths n BvSrem (λ w. Bits w) (λ w a b some f g. remainder-gives a b lo f g) ss r args (recursion_from_All IsLawful ss l) h e)
circuits-formed BvSmod ss r args n lo l e h = formed BvSmod args r (at_two_widths n BvSmod (λ w. Bits w) (λ w a b some f g. modulus-gives a b lo f g) ss r args (recursion_from_All IsLawful ss l) h e)
circuits-formed BvShl ss r args n lo l e h = formed BvShl args r (at_two_widths n BvShl (λ w. Bits w) (λ w a b some f g. shift-gives true no a b lo (no-before lo) f g) ss r args (recursion_from_All IsLawful ss l) h e)
circuits-formed BvLshr ss r args n lo l e h = formed BvLshr args r (at_two_widths n BvLshr (λ w. Bits w) (λ w a b some f g. shift-gives false no a b lo (no-before lo) f g) ss r args (recursion_from_All IsLawful ss l) h e)
circuits-formed BvAshr ss r args n lo l e h = formed BvAshr args r (at_two_widths n BvAshr (λ w. Bits w) (λ w a b some f g. shift-gives false (top a) a b lo (top-before lo f) f g) ss r args (recursion_from_All IsLawful ss l) h e)
circuits-formed BvUlt ss r args n lo l e h = formed BvUlt args r (at_two_widths n BvUlt (λ _. Bool) (λ w a b some f g. one-gives (ult-gives a b lo f g)) ss r args (recursion_from_All IsLawful ss l) h e)
circuits-formed BvUle ss r args n lo l e h = formed BvUle args r (at_two_widths n BvUle (λ _. Bool) (λ w a b some f g. not_one-gives (ult-gives b a lo g f)) ss r args (recursion_from_All IsLawful ss l) h e)
circuits-formed BvUgt ss r args n lo l e h = formed BvUgt args r (at_two_widths n BvUgt (λ _. Bool) (λ w a b some f g. one-gives (ult-gives b a lo g f)) ss r args (recursion_from_All IsLawful ss l) h e)
circuits-formed BvUge ss r args n lo l e h = formed BvUge args r (at_two_widths n BvUge (λ _. Bool) (λ w a b some f g. not_one-gives (ult-gives a b lo f g)) ss r args (recursion_from_All IsLawful ss l) h e)
circuits-formed BvSlt ss r args n lo l e h = formed BvSlt args r (at_two_widths n BvSlt (λ _. Bool) (λ w a b some f g. one-gives (slt-gives a b lo f g)) ss r args (recursion_from_All IsLawful ss l) h e)
circuits-formed BvSle ss r args n lo l e h = formed BvSle args r (at_two_widths n BvSle (λ _. Bool) (λ w a b some f g. not_one-gives (slt-gives b a lo g f)) ss r args (recursion_from_All IsLawful ss l) h e)
circuits-formed BvSgt ss r args n lo l e h = formed BvSgt args r (at_two_widths n BvSgt (λ _. Bool) (λ w a b some f g. one-gives (slt-gives b a lo g f)) ss r args (recursion_from_All IsLawful ss l) h e)
circuits-formed BvSge ss r args n lo l e h = formed BvSge args r (at_two_widths n BvSge (λ _. Bool) (λ w a b some f g. not_one-gives (slt-gives a b lo f g)) ss r args (recursion_from_All IsLawful ss l) h e)
circuits-formed BvComp ss r args n lo l e h = formed BvComp args r (at_two_widths n BvComp (λ _. Bits 1) (λ w a b some f g. one-gives (equal-gives a b lo f g)) ss r args (recursion_from_All IsLawful ss l) h e)
circuits-formed Concat ss r args n lo l e h = formed Concat args r (concat-fits n ss r args h e)
circuits-formed (Extract i j) ss r args n lo l e h = formed (Extract i j) args r (at_one_width n (Extract i j) (bits_between i j) (λ w a r some f e. extract-fits n i j w a r f e) ss r args (recursion_from_All IsLawful ss l) h e)
circuits-formed (Repeat k) ss r args n lo l e h = formed (Repeat k) args r (at_one_width n (Repeat k) (bits_repeated k) (λ w a r some f e. repeat-fits n k w a r f e) ss r args (recursion_from_All IsLawful ss l) h e)
circuits-formed (ZeroExtend k) ss r args n lo l e h = formed (ZeroExtend k) args r (at_one_width n (ZeroExtend k) (λ w. bits_of (w + k)) (λ w a r some f e. some-bits n (w + k) (ZeroExtend k) (a ∷ []) r e (done-gives (a ++ replicate k no) (append-word f (replicate-word k no (no-before lo))))) ss r args (recursion_from_All IsLawful ss l) h e)
circuits-formed (SignExtend k) ss r args n lo l e h = formed (SignExtend k) args r (at_one_width n (SignExtend k) (λ w. bits_of (w + k)) (λ w a r some f e. some-bits n (w + k) (SignExtend k) (a ∷ []) r e (done-gives (a ++ replicate k (top a)) (append-word f (replicate-word k (top a) (top-before lo f))))) ss r args (recursion_from_All IsLawful ss l) h e)
circuits-formed BvUaddo ss r args n lo l e h = formed BvUaddo args r (at_two_widths n BvUaddo (λ _. Bool) (λ w a b some f g. one-gives (sum_overflow-gives a b lo f g)) ss r args (recursion_from_All IsLawful ss l) h e)
circuits-formed BvSaddo ss r args n lo l e h = formed BvSaddo args r (at_two_widths n BvSaddo (λ _. Bool) (λ w a b some f g. one-gives (signed_sum-gives a b lo f g)) ss r args (recursion_from_All IsLawful ss l) h e)
circuits-formed BvUmulo ss r args n lo l e h = formed BvUmulo args r (at_two_widths n BvUmulo (λ _. Bool) (λ w a b some f g. one-gives (product-gives a b lo f g)) ss r args (recursion_from_All IsLawful ss l) h e)
circuits-formed BvSmulo ss r args n lo l e h = formed BvSmulo args r (at_two_widths n BvSmulo (λ _. Bool) (λ w a b some f g. one-gives (signed_product-gives a b lo f g)) ss r args (recursion_from_All IsLawful ss l) h e)
circuits-formed BvUsubo ss r args n lo l e h = formed BvUsubo args r (at_two_widths n BvUsubo (λ _. Bool) (λ w a b some f g. one-gives (ult-gives a b lo f g)) ss r args (recursion_from_All IsLawful ss l) h e)
circuits-formed BvSsubo ss r args n lo l e h = formed BvSsubo args r (at_two_widths n BvSsubo (λ _. Bool) (λ w a b some f g. one-gives (signed_difference-gives a b lo f g)) ss r args (recursion_from_All IsLawful ss l) h e)
circuits-formed BvSdivo ss r args n lo l e h = formed BvSdivo args r (at_two_widths n BvSdivo (λ _. Bool) (λ w a b some f g. one-gives (signed_overflow-gives a b lo some f g)) ss r args (recursion_from_All IsLawful ss l) h e)
