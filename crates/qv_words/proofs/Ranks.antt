-- Ranks, and the sorts of sorted trees.
use Rattle.std.proofs.Common.{◌≡◌, ◌≤◌, ◌∙◌, sym, is_some, true≢false, ◌+◌, ap, ◌<◌, length, Option, Some, None, List, ◌∷◌, refl, arith}
use Rattle.std.specs.Prelude.{IsSome, option_and_then, option_map}
use Rattle.std.proofs.lemmas.Grind.{common_steps}
use Rattle.std.proofs.lemmas.List.{length-map}
use Rattle.qv_words.specs.declared.sort.Sort.{Sort}
use Rattle.qv_words.specs.declared.sort.Sort.TheVariants.{Bool, Bits}
use Rattle.qv_words.specs.declared.op.Op.{Op}
use Rattle.qv_words.specs.declared.op.Op.TheVariants.{Not, And, Or, Xor, Implies, Equal, Ite, BvNot, BvNeg, BvAnd, BvOr, BvXor, BvNand, BvNor, BvXnor, BvAdd, BvSub, BvMul, BvUdiv, BvUrem, BvSdiv, BvSrem, BvSmod, BvShl, BvLshr, BvAshr, BvUlt, BvUle, BvUgt, BvUge, BvSlt, BvSle, BvSgt, BvSge, BvComp, Concat, Extract, Repeat, ZeroExtend, SignExtend, RotateLeft, RotateRight, BvNego, BvUaddo, BvSaddo, BvUmulo, BvSmulo, BvUsubo, BvSsubo, BvSdivo}
use Rattle.qv_words.specs.declared.word.Word.{Word}
use Rattle.qv_words.specs.Word.{word_sort, sorts_of}
use Rattle.qv_words.specs.Rank.{result_sort, one_bool, two_bools, two_alike, choice, one_width, two_widths, joined_width, bits_of, bits_between, bits_repeated}
use Rattle.qv_words.specs.Tree.{Tree, Trees, Apply, Cons, tree_sort, tree_sorts}

-- no rank takes more than three arguments
few_one_bool : (ss : List Sort) → 3 < length ss → one_bool ss ≡ None
few_one_bool = grind (arith, common_steps)

few_two_bools : (ss : List Sort) → 3 < length ss → two_bools ss ≡ None
few_two_bools = grind (arith, common_steps)

few_two_alike : (ss : List Sort) → 3 < length ss → two_alike ss ≡ None
few_two_alike = grind (arith, common_steps)

few_choice : (ss : List Sort) → 3 < length ss → choice ss ≡ None
few_choice = grind (arith, common_steps)

few_one_width : (ss : List Sort) → 3 < length ss → one_width ss ≡ None
few_one_width = grind (arith, common_steps)

few_two_widths : (ss : List Sort) → 3 < length ss → two_widths ss ≡ None
few_two_widths = grind (arith, common_steps)

few_joined_width : (ss : List Sort) → 3 < length ss → joined_width ss ≡ None
few_joined_width = grind (arith, common_steps)

-- nor does an operator
pub few_arguments : (o : Op) (ss : List Sort) → 3 < length ss → result_sort o ss ≡ None
few_arguments Not ss h = few_one_bool ss h
few_arguments And ss h = few_two_bools ss h
few_arguments Or ss h = few_two_bools ss h
few_arguments Xor ss h = few_two_bools ss h
few_arguments Implies ss h = few_two_bools ss h
few_arguments Equal ss h = ap (option_map (λ _. Bool)) (few_two_alike ss h)
few_arguments Ite ss h = few_choice ss h
few_arguments BvNot ss h = ap (option_map Bits) (few_one_width ss h)
few_arguments BvNeg ss h = ap (option_map Bits) (few_one_width ss h)
few_arguments BvAnd ss h = ap (option_map Bits) (few_two_widths ss h)
few_arguments BvOr ss h = ap (option_map Bits) (few_two_widths ss h)
few_arguments BvXor ss h = ap (option_map Bits) (few_two_widths ss h)
few_arguments BvNand ss h = ap (option_map Bits) (few_two_widths ss h)
few_arguments BvNor ss h = ap (option_map Bits) (few_two_widths ss h)
few_arguments BvXnor ss h = ap (option_map Bits) (few_two_widths ss h)
few_arguments BvAdd ss h = ap (option_map Bits) (few_two_widths ss h)
few_arguments BvSub ss h = ap (option_map Bits) (few_two_widths ss h)
few_arguments BvMul ss h = ap (option_map Bits) (few_two_widths ss h)
few_arguments BvUdiv ss h = ap (option_map Bits) (few_two_widths ss h)
few_arguments BvUrem ss h = ap (option_map Bits) (few_two_widths ss h)
few_arguments BvSdiv ss h = ap (option_map Bits) (few_two_widths ss h)
few_arguments BvSrem ss h = ap (option_map Bits) (few_two_widths ss h)
few_arguments BvSmod ss h = ap (option_map Bits) (few_two_widths ss h)
few_arguments BvShl ss h = ap (option_map Bits) (few_two_widths ss h)
few_arguments BvLshr ss h = ap (option_map Bits) (few_two_widths ss h)
few_arguments BvAshr ss h = ap (option_map Bits) (few_two_widths ss h)
few_arguments BvUlt ss h = ap (option_map (λ _. Bool)) (few_two_widths ss h)
few_arguments BvUle ss h = ap (option_map (λ _. Bool)) (few_two_widths ss h)
few_arguments BvUgt ss h = ap (option_map (λ _. Bool)) (few_two_widths ss h)
few_arguments BvUge ss h = ap (option_map (λ _. Bool)) (few_two_widths ss h)
few_arguments BvSlt ss h = ap (option_map (λ _. Bool)) (few_two_widths ss h)
few_arguments BvSle ss h = ap (option_map (λ _. Bool)) (few_two_widths ss h)
few_arguments BvSgt ss h = ap (option_map (λ _. Bool)) (few_two_widths ss h)
few_arguments BvSge ss h = ap (option_map (λ _. Bool)) (few_two_widths ss h)
few_arguments BvUaddo ss h = ap (option_map (λ _. Bool)) (few_two_widths ss h)
few_arguments BvSaddo ss h = ap (option_map (λ _. Bool)) (few_two_widths ss h)
few_arguments BvUmulo ss h = ap (option_map (λ _. Bool)) (few_two_widths ss h)
few_arguments BvSmulo ss h = ap (option_map (λ _. Bool)) (few_two_widths ss h)
few_arguments BvUsubo ss h = ap (option_map (λ _. Bool)) (few_two_widths ss h)
few_arguments BvSsubo ss h = ap (option_map (λ _. Bool)) (few_two_widths ss h)
few_arguments BvSdivo ss h = ap (option_map (λ _. Bool)) (few_two_widths ss h)
few_arguments BvComp ss h = ap (option_map (λ _. Bits 1)) (few_two_widths ss h)
few_arguments Concat ss h = ap (option_and_then bits_of) (few_joined_width ss h)
few_arguments (Extract i j) ss h = ap (option_and_then (bits_between i j)) (few_one_width ss h)
few_arguments (Repeat k) ss h = ap (option_and_then (bits_repeated k)) (few_one_width ss h)
few_arguments (ZeroExtend k) ss h = ap (option_and_then (λ w. bits_of (w + k))) (few_one_width ss h)
few_arguments (SignExtend k) ss h = ap (option_and_then (λ w. bits_of (w + k))) (few_one_width ss h)
few_arguments (RotateLeft k) ss h = ap (option_map Bits) (few_one_width ss h)
few_arguments (RotateRight k) ss h = ap (option_map Bits) (few_one_width ss h)
few_arguments BvNego ss h = ap (option_map (λ _. Bool)) (few_one_width ss h)

-- the parts of a list's sorts
pub sorts_parts : (t : Tree) (ts : Trees) (sorts : List Sort) → tree_sorts (Cons t ts) ≡ Some sorts → (s : Sort) × (rest : List Sort) × (tree_sort t ≡ Some s) × (tree_sorts ts ≡ Some rest) × (sorts ≡ s ∷ rest)
sorts_parts t ts sorts = go (tree_sort t) (tree_sorts ts)
  where
    go : (o : Option Sort) (p : Option (List Sort)) → option_and_then (λ s. option_map (λ rest. s ∷ rest) p) o ≡ Some sorts → (s : Sort) × (rest : List Sort) × (o ≡ Some s) × (p ≡ Some rest) × (sorts ≡ s ∷ rest)
    go None p e = absurd (cc)
    go (Some s) None e = absurd (cc)
    go (Some s) (Some rest) e = (s, rest, refl, refl, (cc))

-- an application's sort is its operator's rank at its arguments' sorts
pub rank_parts : (o : Op) (args : Trees) (s : Sort) → tree_sort (Apply o args) ≡ Some s → (sorts : List Sort) × (tree_sorts args ≡ Some sorts) × (result_sort o sorts ≡ Some s)
rank_parts o args s = go (tree_sorts args)
  where
    go : (p : Option (List Sort)) → option_and_then (result_sort o) p ≡ Some s → (sorts : List Sort) × (p ≡ Some sorts) × (result_sort o sorts ≡ Some s)
    go None e = absurd (cc)
    go (Some sorts) e = (sorts, refl, e)

-- what is there
pub found : {X : Type 0} (o : Option X) → IsSome o → (x : X) × (o ≡ Some x)
found None e = absurd (cc)
found (Some x) e = (x, refl)

-- a rank of too many words
pub too_many_words : (o : Op) (args : List Word) → 4 ≤ length args → IsSome (result_sort o (sorts_of args)) → ⊥
too_many_words o args h some =
    let many : 3 < length (sorts_of args) = omega (arith, h, length-map args word_sort) in
    true≢false (sym some ∙ ap is_some (few_arguments o (sorts_of args) many))
