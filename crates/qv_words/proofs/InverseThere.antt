-- Which operators have an inverse term.
use Rattle.std.proofs.Common.{◌≡◌, ℕ, zero, suc, ◌+◌, ◌<◌, ◌==◌, Bool, true, false, cond, not, Option, Some, None, is_some, List, [], ◌∷◌, length, refl, sym, ap, ◌∙◌, subst, arith}
use Rattle.std.specs.Prelude.{option_map, option_and_then}
use Rattle.std.proofs.lemmas.Grind.{common_steps}
use Rattle.qv_words.specs.declared.sort.Sort.{Sort}
use Rattle.qv_words.specs.declared.sort.Sort.TheVariants.{Bits}
use Rattle.qv_words.specs.declared.op.Op.{Op}
use Rattle.qv_words.specs.declared.op.Op.TheVariants.{BvNot, BvNeg, BvAnd, BvOr, BvXor, BvNand, BvNor, BvXnor, BvAdd, BvSub, BvMul, BvUdiv, BvUrem, BvShl, BvLshr, BvAshr, Concat, Extract, Repeat, ZeroExtend, SignExtend, RotateLeft, RotateRight}
use Rattle.qv_words.specs.Rank.{result_sort, one_width, two_widths, joined_width, bits_of, bits_between, bits_repeated}
use Rattle.qv_words.specs.Tree.{Tree}
use Rattle.qv_words.specs.Inverse.{inverse_term, row_at, unary_row, first_row, second_row, product_row, other_term, target_term}
use Rattle.qv_words.specs.InverseLaws.{RowsAreThere, has_row}
use Rattle.qv_words.proofs.InSort.{two_widths-parts, one_width-parts}

-- an operator has rows where a test of the other argument's value holds
abbrev IsThere : Op → (Option ℕ → Bool) → Type 0
IsThere o f =
    (position : ℕ) (sorts : List Sort) (r : Sort) (value : Option ℕ) → result_sort o sorts ≡ Some r → position < length sorts →
    is_some (inverse_term o position sorts value) ≡ f value

abbrev OneThere : Op → (Option ℕ → Bool) → Type 0
OneThere o f = (w : ℕ) (t : Tree) (value : Option ℕ) → is_some (unary_row o w t) ≡ f value

abbrev FirstThere : Op → (Option ℕ → Bool) → Type 0
FirstThere o f = (w v : ℕ) (s t : Tree) (value : Option ℕ) → is_some (first_row o w v s t value) ≡ f value

abbrev SecondThere : Op → (Option ℕ → Bool) → Type 0
SecondThere o f = (w v : ℕ) (s t : Tree) (value : Option ℕ) → is_some (second_row o w v s t value) ≡ f value

-- at one argument, and at two
at_one : (o : Op) (f : Option ℕ → Bool) → OneThere o f → (w position : ℕ) (r : Sort) (value : Option ℕ) → result_sort o (Bits w ∷ []) ≡ Some r → position < 1 → is_some (inverse_term o position (Bits w ∷ []) value) ≡ f value
unfolding inverse_term
at_one o f one w zero r value rank h = rw rank (one w (target_term r) value)
at_one o f one w (suc n) r value rank h = absurd (omega arith)

at_two : (o : Op) (f : Option ℕ → Bool) → FirstThere o f → SecondThere o f → (v w position : ℕ) (r : Sort) (value : Option ℕ) → result_sort o (Bits v ∷ Bits w ∷ []) ≡ Some r → position < 2 → is_some (inverse_term o position (Bits v ∷ Bits w ∷ []) value) ≡ f value
unfolding inverse_term
at_two o f first second v w zero r value rank h = rw rank (first v w (other_term (Bits w)) (target_term r) value)
at_two o f first second v w (suc zero) r value rank h = rw rank (second w v (other_term (Bits v)) (target_term r) value)
at_two o f first second v w (suc (suc n)) r value rank h = absurd (omega arith)

-- the arguments of a rank
joined_list : (ss : List Sort) (n : ℕ) → joined_width ss ≡ Some n → (v : ℕ) × (w : ℕ) × (ss ≡ Bits v ∷ Bits w ∷ [])
joined_list = grind (arith, common_steps)

-- an operator of one argument, one of two of a width, and concat
one_there : (o : Op) (f : Option ℕ → Bool) (g : ℕ → Option Sort) → ((ss : List Sort) → result_sort o ss ≡ option_and_then g (one_width ss)) → OneThere o f → IsThere o f
one_there o f g rank one position sorts r value e h = go (one_width sorts) refl (sym (rank sorts) ∙ e)
  where
    go : (p : Option ℕ) → one_width sorts ≡ p → option_and_then g p ≡ Some r → is_some (inverse_term o position sorts value) ≡ f value
    go None is k = absurd (cc)
    go (Some w) is k =
        let shape = one_width-parts sorts w is in
        rw shape (at_one o f one w position r value (subst (λ (ss : List Sort). result_sort o ss ≡ Some r) shape e) (subst (λ (ss : List Sort). position < length ss) shape h))

pair_there : (o : Op) (f : Option ℕ → Bool) → ((ss : List Sort) → result_sort o ss ≡ option_map Bits (two_widths ss)) → FirstThere o f → SecondThere o f → IsThere o f
pair_there o f rank first second position sorts r value e h = go (two_widths sorts) refl (sym (rank sorts) ∙ e)
  where
    go : (p : Option ℕ) → two_widths sorts ≡ p → option_map Bits p ≡ Some r → is_some (inverse_term o position sorts value) ≡ f value
    go None is k = absurd (cc)
    go (Some w) is k =
        let shape = two_widths-parts sorts w is in
        rw shape (at_two o f first second w w position r value (subst (λ (ss : List Sort). result_sort o ss ≡ Some r) shape e) (subst (λ (ss : List Sort). position < length ss) shape h))

concat_there : IsThere Concat (λ value. true)
concat_there position sorts r value e h = go (joined_width sorts) refl e
  where
    go : (p : Option ℕ) → joined_width sorts ≡ p → option_and_then bits_of p ≡ Some r → is_some (inverse_term Concat position sorts value) ≡ true
    go None is k = absurd (cc)
    go (Some n) is k =
        let shape = joined_list sorts n is in
        rw shape.2 (
        at_two Concat (λ x. true) (λ w v s t x. refl) (λ w v s t x. refl) shape.0 shape.1 position r value
        (subst (λ (ss : List Sort). result_sort Concat ss ≡ Some r) shape.2 e) (subst (λ (ss : List Sort). position < length ss) shape.2 h)
        )

-- the same rank, as `option_and_then` has it
mapped : (p : Option ℕ) → option_map Bits p ≡ option_and_then (λ w. Some (Bits w)) p
mapped None = refl
mapped (Some w) = refl

-- the other operators have none
none_there : (o : Op) → ((w : ℕ) (t : Tree) → unary_row o w t ≡ None) → ((w v : ℕ) (s t : Tree) (value : Option ℕ) → first_row o w v s t value ≡ None) → ((w v : ℕ) (s t : Tree) (value : Option ℕ) → second_row o w v s t value ≡ None) → IsThere o (λ value. false)
unfolding inverse_term
none_there o one first second position sorts r value e h = rw e (ap is_some (go position sorts))
  where
    go : (n : ℕ) (ss : List Sort) → row_at o n ss r value ≡ None
    go zero (Bits w ∷ []) = one w (target_term r)
    go zero (Bits w ∷ Bits v ∷ []) = first w v (other_term (Bits v)) (target_term r) value
    go (suc zero) (Bits v ∷ Bits w ∷ []) = second w v (other_term (Bits v)) (target_term r) value
    go _ _ = refl

-- a product's row
product_there : (w : ℕ) (t : Tree) (value : Option ℕ) → is_some (product_row w t value) ≡ has_row BvMul value
product_there w t None = refl
product_there w t (Some s) = go (s == 0) _
  where
    go : (b : Bool) (row : Tree) → is_some (cond b None (Some row)) ≡ not b
    go true row = refl
    go false row = refl

there : (o : Op) → IsThere o (has_row o)
there BvNot = one_there BvNot (has_row BvNot) (λ w. Some (Bits w)) (λ ss. mapped (one_width ss)) (λ w t x. refl)
there BvNeg = one_there BvNeg (has_row BvNeg) (λ w. Some (Bits w)) (λ ss. mapped (one_width ss)) (λ w t x. refl)
there (RotateLeft k) = one_there (RotateLeft k) (has_row (RotateLeft k)) (λ w. Some (Bits w)) (λ ss. mapped (one_width ss)) (λ w t x. refl)
there (RotateRight k) = one_there (RotateRight k) (has_row (RotateRight k)) (λ w. Some (Bits w)) (λ ss. mapped (one_width ss)) (λ w t x. refl)
there (Extract i j) = one_there (Extract i j) (has_row (Extract i j)) (bits_between i j) (λ ss. refl) (λ w t x. refl)
there (Repeat k) = one_there (Repeat k) (has_row (Repeat k)) (bits_repeated k) (λ ss. refl) (λ w t x. refl)
there (ZeroExtend k) = one_there (ZeroExtend k) (has_row (ZeroExtend k)) (λ w. bits_of (w + k)) (λ ss. refl) (λ w t x. refl)
there (SignExtend k) = one_there (SignExtend k) (has_row (SignExtend k)) (λ w. bits_of (w + k)) (λ ss. refl) (λ w t x. refl)
there Concat = concat_there
there BvMul = pair_there BvMul (has_row BvMul) (λ ss. refl) (λ w v s t x. product_there w t x) (λ w v s t x. product_there w t x)
there BvAnd = pair_there BvAnd (has_row BvAnd) (λ ss. refl) (λ w v s t x. refl) (λ w v s t x. refl)
there BvOr = pair_there BvOr (has_row BvOr) (λ ss. refl) (λ w v s t x. refl) (λ w v s t x. refl)
there BvXor = pair_there BvXor (has_row BvXor) (λ ss. refl) (λ w v s t x. refl) (λ w v s t x. refl)
there BvNand = pair_there BvNand (has_row BvNand) (λ ss. refl) (λ w v s t x. refl) (λ w v s t x. refl)
there BvNor = pair_there BvNor (has_row BvNor) (λ ss. refl) (λ w v s t x. refl) (λ w v s t x. refl)
there BvXnor = pair_there BvXnor (has_row BvXnor) (λ ss. refl) (λ w v s t x. refl) (λ w v s t x. refl)
there BvAdd = pair_there BvAdd (has_row BvAdd) (λ ss. refl) (λ w v s t x. refl) (λ w v s t x. refl)
there BvSub = pair_there BvSub (has_row BvSub) (λ ss. refl) (λ w v s t x. refl) (λ w v s t x. refl)
there BvUdiv = pair_there BvUdiv (has_row BvUdiv) (λ ss. refl) (λ w v s t x. refl) (λ w v s t x. refl)
there BvUrem = pair_there BvUrem (has_row BvUrem) (λ ss. refl) (λ w v s t x. refl) (λ w v s t x. refl)
there BvShl = pair_there BvShl (has_row BvShl) (λ ss. refl) (λ w v s t x. refl) (λ w v s t x. refl)
there BvLshr = pair_there BvLshr (has_row BvLshr) (λ ss. refl) (λ w v s t x. refl) (λ w v s t x. refl)
there BvAshr = pair_there BvAshr (has_row BvAshr) (λ ss. refl) (λ w v s t x. refl) (λ w v s t x. refl)
there o = none_there o (λ w t. refl) (λ w v s t x. refl) (λ w v s t x. refl)

pub rows_there : RowsAreThere
rows_there = there
