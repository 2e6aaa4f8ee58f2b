-- An application has a rank exactly where it has no fault.
use Rattle.std.proofs.Common.{◌≡◌, ◌∙◌, ap, refl, ℕ, ◌+◌, ◌-◌, ◌*◌, nat_le, nat_lt, Option, Some, None, List, [], ◌∷◌, length, is_some, arith}
use Rattle.std.proofs.Common.{Bool as Truth, true, false}
use Rattle.std.specs.Prelude.{◌==◌, ◌&&◌, not, is_none, option_map, option_and_then, if◌then◌else◌}
use Rattle.std.proofs.lemmas.Grind.{common_steps}
use Rattle.qv_words.specs.declared.sort.Sort.{Sort}
use Rattle.qv_words.specs.declared.sort.Sort.TheVariants.{Bool, Bits}
use Rattle.qv_words.specs.declared.op.Op.{Op}
use Rattle.qv_words.specs.declared.op.Op.TheVariants.{Not, And, Or, Xor, Implies, Equal, Ite, BvNot, BvNeg, BvAnd, BvOr, BvXor, BvNand, BvNor, BvXnor, BvAdd, BvSub, BvMul, BvUdiv, BvUrem, BvSdiv, BvSrem, BvSmod, BvShl, BvLshr, BvAshr, BvUlt, BvUle, BvUgt, BvUge, BvSlt, BvSle, BvSgt, BvSge, BvComp, Concat, Extract, Repeat, ZeroExtend, SignExtend, RotateLeft, RotateRight, BvNego, BvUaddo, BvSaddo, BvUmulo, BvSmulo, BvUsubo, BvSsubo, BvSdivo}
use Rattle.qv_words.specs.Rank.{result_sort, one_bool, two_bools, two_alike, choice, one_width, two_widths, joined_width, bits_of, bits_between, bits_repeated}
use Rattle.qv_sorts.specs.declared.ranking.RankFault.{RankFault}
use Rattle.qv_sorts.specs.declared.ranking.RankFault.TheVariants.{Arity, Sorts, Index, Width}
use Rattle.qv_sorts.specs.Faults.{fault_of, joint_width, may_have_indices}

-- arguments of an operator's sorts are as many as it takes
one_bool-length : (ss : List Sort) → is_some (one_bool ss) ≡ true → length ss ≡ 1
one_bool-length = grind (arith, common_steps)

two_bools-length : (ss : List Sort) → is_some (two_bools ss) ≡ true → length ss ≡ 2
two_bools-length = grind (arith, common_steps)

two_alike-length : (ss : List Sort) → is_some (two_alike ss) ≡ true → length ss ≡ 2
two_alike-length = grind (arith, common_steps)

choice-length : (ss : List Sort) → is_some (choice ss) ≡ true → length ss ≡ 3
choice-length = grind (arith, common_steps)

one_width-length : (ss : List Sort) → is_some (one_width ss) ≡ true → length ss ≡ 1
one_width-length = grind (arith, common_steps)

two_widths-length : (ss : List Sort) → is_some (two_widths ss) ≡ true → length ss ≡ 2
two_widths-length = grind (arith, common_steps)

joined_width-length : (ss : List Sort) → is_some (joined_width ss) ≡ true → length ss ≡ 2
joined_width-length = grind (arith, common_steps)

-- no fault of what is tried behind the arguments' sorts
abbrev behind_sorts : ℕ → {A : Type 0} → Option A → List Sort → Option RankFault → Option RankFault
behind_sorts n a ss rest = if not (length ss == n) then Some Arity else (if not (is_some a) then Some Sorts else rest)

behind-none : {A : Type 0} (n : ℕ) (a : Option A) (ss : List Sort) (rest : Option RankFault) → (is_some a ≡ true → length ss ≡ n) → is_none (behind_sorts n a ss rest) ≡ is_some a && is_none rest
behind-none n None ss rest h = go (length ss == n)
  where
    go : (b : Truth) → is_none (if not b then Some Arity else Some Sorts) ≡ false
    go true = refl
    go false = refl
behind-none n (Some x) ss rest h = rw (h refl) (go (n == n) (grind arith))
  where
    go : (b : Truth) → b ≡ true → is_none (if not b then Some Arity else rest) ≡ is_none rest
    go true e = refl
    go false e = absurd (cc)

-- an operator with no condition on its indices and its width
abbrev mapped-some : {A B : Type 0} (f : A → B) (a : Option A) → is_some a && true ≡ is_some (option_map f a)
mapped-some f None = refl
mapped-some f (Some x) = refl

plain_none : {A B : Type 0} (n : ℕ) (f : A → B) (a : Option A) (ss : List Sort) → (is_some a ≡ true → length ss ≡ n) → is_none (behind_sorts n a ss None) ≡ is_some (option_map f a)
plain_none n f a ss h = behind-none n a ss None h ∙ mapped-some f a

itself_none : {A : Type 0} (n : ℕ) (a : Option A) (ss : List Sort) → (is_some a ≡ true → length ss ≡ n) → is_none (behind_sorts n a ss None) ≡ is_some a
itself_none {A} n None ss h = behind-none {A = A} n None ss None h
itself_none {A} n (Some x) ss h = behind-none {A = A} n (Some x) ss None h

-- a width that is tried
abbrev too_wide : ℕ → Option RankFault
too_wide n = if not (nat_le n 128) then Some Width else None

too_wide-none : (n : ℕ) → is_none (too_wide n) ≡ is_some (bits_of n)
too_wide-none n = go (nat_le n 128)
  where
    go : (b : Truth) → is_none (if not b then Some Width else None) ≡ is_some (if b then Some (Bits n) else None)
    go true = refl
    go false = refl

concat_none : (ss : List Sort) → is_some (joined_width ss) && is_none (too_wide (joint_width Concat ss)) ≡ is_some (option_and_then bits_of (joined_width ss))
concat_none (Bits v ∷ Bits w ∷ []) = too_wide-none (v + w)
concat_none ss = grind (arith, common_steps)

-- indices that are tried, and then a width
abbrev behind_indices : Truth → Option RankFault → Option RankFault
behind_indices b rest = if not b then Some Index else rest

extract_none : (i j : ℕ) (ss : List Sort) → is_some (one_width ss) && is_none (behind_indices (may_have_indices (Extract i j) ss) None) ≡ is_some (option_and_then (bits_between i j) (one_width ss))
extract_none i j (Bits w ∷ []) = go (nat_lt i w && nat_le j i)
  where
    go : (b : Truth) → is_none (behind_indices b None) ≡ is_some (if b then Some (Bits (i - j + 1)) else None)
    go true = refl
    go false = refl
extract_none i j ss = grind (arith, common_steps)

repeat_none : (k : ℕ) (ss : List Sort) → is_some (one_width ss) && is_none (behind_indices (nat_le 1 k) (too_wide (joint_width (Repeat k) ss))) ≡ is_some (option_and_then (bits_repeated k) (one_width ss))
repeat_none k (Bits w ∷ []) = go (nat_le 1 k)
  where
    go : (b : Truth) → is_none (behind_indices b (too_wide (k * w))) ≡ is_some (if b then bits_of (k * w) else None)
    go true = too_wide-none (k * w)
    go false = refl
repeat_none k ss = grind (arith, common_steps)

extend_none : (o : Op) (k : ℕ) (ss : List Sort) → ((w : ℕ) → joint_width o (Bits w ∷ []) ≡ w + k) → is_some (one_width ss) && is_none (too_wide (joint_width o ss)) ≡ is_some (option_and_then (λ w. bits_of (w + k)) (one_width ss))
extend_none o k (Bits w ∷ []) h = rw (h w) (too_wide-none (w + k))
extend_none o k ss h = grind (arith, common_steps)

-- an application has no fault exactly where it has a rank
pub agreement : (o : Op) (ss : List Sort) → is_none (fault_of o ss) ≡ is_some (result_sort o ss)
agreement Not ss = itself_none 1 (one_bool ss) ss (one_bool-length ss)
agreement And ss = itself_none 2 (two_bools ss) ss (two_bools-length ss)
agreement Or ss = itself_none 2 (two_bools ss) ss (two_bools-length ss)
agreement Xor ss = itself_none 2 (two_bools ss) ss (two_bools-length ss)
agreement Implies ss = itself_none 2 (two_bools ss) ss (two_bools-length ss)
agreement Equal ss = plain_none 2 (λ _. Bool) (two_alike ss) ss (two_alike-length ss)
agreement Ite ss = itself_none 3 (choice ss) ss (choice-length ss)
agreement BvNot ss = plain_none 1 Bits (one_width ss) ss (one_width-length ss)
agreement BvNeg ss = plain_none 1 Bits (one_width ss) ss (one_width-length ss)
agreement BvAnd ss = plain_none 2 Bits (two_widths ss) ss (two_widths-length ss)
agreement BvOr ss = plain_none 2 Bits (two_widths ss) ss (two_widths-length ss)
agreement BvXor ss = plain_none 2 Bits (two_widths ss) ss (two_widths-length ss)
agreement BvNand ss = plain_none 2 Bits (two_widths ss) ss (two_widths-length ss)
agreement BvNor ss = plain_none 2 Bits (two_widths ss) ss (two_widths-length ss)
agreement BvXnor ss = plain_none 2 Bits (two_widths ss) ss (two_widths-length ss)
agreement BvAdd ss = plain_none 2 Bits (two_widths ss) ss (two_widths-length ss)
agreement BvSub ss = plain_none 2 Bits (two_widths ss) ss (two_widths-length ss)
agreement BvMul ss = plain_none 2 Bits (two_widths ss) ss (two_widths-length ss)
agreement BvUdiv ss = plain_none 2 Bits (two_widths ss) ss (two_widths-length ss)
agreement BvUrem ss = plain_none 2 Bits (two_widths ss) ss (two_widths-length ss)
agreement BvSdiv ss = plain_none 2 Bits (two_widths ss) ss (two_widths-length ss)
agreement BvSrem ss = plain_none 2 Bits (two_widths ss) ss (two_widths-length ss)
agreement BvSmod ss = plain_none 2 Bits (two_widths ss) ss (two_widths-length ss)
agreement BvShl ss = plain_none 2 Bits (two_widths ss) ss (two_widths-length ss)
agreement BvLshr ss = plain_none 2 Bits (two_widths ss) ss (two_widths-length ss)
agreement BvAshr ss = plain_none 2 Bits (two_widths ss) ss (two_widths-length ss)
agreement BvUlt ss = plain_none 2 (λ _. Bool) (two_widths ss) ss (two_widths-length ss)
agreement BvUle ss = plain_none 2 (λ _. Bool) (two_widths ss) ss (two_widths-length ss)
agreement BvUgt ss = plain_none 2 (λ _. Bool) (two_widths ss) ss (two_widths-length ss)
agreement BvUge ss = plain_none 2 (λ _. Bool) (two_widths ss) ss (two_widths-length ss)
agreement BvSlt ss = plain_none 2 (λ _. Bool) (two_widths ss) ss (two_widths-length ss)
agreement BvSle ss = plain_none 2 (λ _. Bool) (two_widths ss) ss (two_widths-length ss)
agreement BvSgt ss = plain_none 2 (λ _. Bool) (two_widths ss) ss (two_widths-length ss)
agreement BvSge ss = plain_none 2 (λ _. Bool) (two_widths ss) ss (two_widths-length ss)
agreement BvComp ss = plain_none 2 (λ _. Bits 1) (two_widths ss) ss (two_widths-length ss)
agreement Concat ss = behind-none 2 (joined_width ss) ss (too_wide (joint_width Concat ss)) (joined_width-length ss) ∙ concat_none ss
agreement (Extract i j) ss = behind-none 1 (one_width ss) ss (behind_indices (may_have_indices (Extract i j) ss) None) (one_width-length ss) ∙ extract_none i j ss
agreement (Repeat k) ss = behind-none 1 (one_width ss) ss (behind_indices (nat_le 1 k) (too_wide (joint_width (Repeat k) ss))) (one_width-length ss) ∙ repeat_none k ss
agreement (ZeroExtend k) ss = behind-none 1 (one_width ss) ss (too_wide (joint_width (ZeroExtend k) ss)) (one_width-length ss) ∙ extend_none (ZeroExtend k) k ss (λ w. refl)
agreement (SignExtend k) ss = behind-none 1 (one_width ss) ss (too_wide (joint_width (SignExtend k) ss)) (one_width-length ss) ∙ extend_none (SignExtend k) k ss (λ w. refl)
agreement (RotateLeft k) ss = plain_none 1 Bits (one_width ss) ss (one_width-length ss)
agreement (RotateRight k) ss = plain_none 1 Bits (one_width ss) ss (one_width-length ss)
agreement BvNego ss = plain_none 1 (λ _. Bool) (one_width ss) ss (one_width-length ss)
agreement BvUaddo ss = plain_none 2 (λ _. Bool) (two_widths ss) ss (two_widths-length ss)
agreement BvSaddo ss = plain_none 2 (λ _. Bool) (two_widths ss) ss (two_widths-length ss)
agreement BvUmulo ss = plain_none 2 (λ _. Bool) (two_widths ss) ss (two_widths-length ss)
agreement BvSmulo ss = plain_none 2 (λ _. Bool) (two_widths ss) ss (two_widths-length ss)
agreement BvUsubo ss = plain_none 2 (λ _. Bool) (two_widths ss) ss (two_widths-length ss)
agreement BvSsubo ss = plain_none 2 (λ _. Bool) (two_widths ss) ss (two_widths-length ss)
agreement BvSdivo ss = plain_none 2 (λ _. Bool) (two_widths ss) ss (two_widths-length ss)

pub no_fault : (o : Op) (ss : List Sort) (s : Sort) → result_sort o ss ≡ Some s → None ≡ fault_of o ss
no_fault o ss s e = go (fault_of o ss) (agreement o ss ∙ ap is_some e)
  where
    go : (f : Option RankFault) → is_none f ≡ true → None ≡ f
    go None h = refl
    go (Some f) h = absurd (cc)
