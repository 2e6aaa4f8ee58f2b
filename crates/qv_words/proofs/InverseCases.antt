-- What has to be shown of an operator so that something holds of each of its inverse terms.
use Rattle.std.proofs.Common.{◌≡◌, ℕ, zero, suc, ◌+◌, ◌-◌, ◌*◌, ◌≤◌, ◌<◌, ◌==◌, ◌&&◌, nat_le, nat_lt, arith, Bool, true, false, cond, Option, Some, None, List, [], ◌∷◌, refl, sym, ◌∙◌, subst}
use Rattle.std.specs.Prelude.{IfSome, option_map, option_and_then}
use Rattle.std.specs.List.{AllByRecursion}
use Rattle.std.proofs.lemmas.Bool.{eqb-true, leb-true, ltb-true, and_parts}
use Rattle.std.proofs.lemmas.Nat.{mul-le}
use Rattle.std.proofs.lemmas.List.Elements.{All-from_recursion}
use Rattle.qv_words.specs.declared.sort.Sort.{Sort}
use Rattle.qv_words.specs.declared.sort.Sort.TheVariants.{Bits}
use Rattle.qv_words.specs.declared.op.Op.{Op}
use Rattle.qv_words.specs.declared.op.Op.TheVariants.{Concat, Extract}
use Rattle.qv_words.specs.Sort.{IsLawful}
use Rattle.qv_words.specs.Rank.{result_sort, two_widths, bits_of, bits_repeated}
use Rattle.qv_words.specs.Tree.{Tree}
use Rattle.qv_words.specs.Inverse.{inverse_term, row_at, unary_row, first_row, second_row, other_term, target_term, unary, zeros_before, zeros_behind}
use Rattle.qv_words.proofs.InSort.{lawful_rank}

-- what is said of a row, for the argument at a position, of some sorts
abbrev pub Saying : Type 1
Saying = ℕ → List Sort → Option ℕ → Tree → Type 0

-- it holds of every row of an operator
abbrev pub OfRows : Saying → Op → Type 0
OfRows P o =
    (position : ℕ) (sorts : List Sort) (value : Option ℕ) (row : Tree) → AllByRecursion IsLawful sorts →
    inverse_term o position sorts value ≡ Some row → P position sorts value row

-- of the row of one argument, and of those for the first and the second of two
abbrev pub OfOne : Saying → Op → Type 0
OfOne P o =
    (w : ℕ) (r : Sort) (value : Option ℕ) → IsLawful (Bits w) → IsLawful r → result_sort o (Bits w ∷ []) ≡ Some r →
    IfSome (unary_row o w (target_term r)) (P 0 (Bits w ∷ []) value)

abbrev pub OfFirst : Saying → Op → Type 0
OfFirst P o =
    (w v : ℕ) (r : Sort) (value : Option ℕ) → IsLawful (Bits w) → IsLawful (Bits v) → IsLawful r → result_sort o (Bits w ∷ Bits v ∷ []) ≡ Some r →
    IfSome (first_row o w v (other_term (Bits v)) (target_term r) value) (P 0 (Bits w ∷ Bits v ∷ []) value)

abbrev pub OfSecond : Saying → Op → Type 0
OfSecond P o =
    (w v : ℕ) (r : Sort) (value : Option ℕ) → IsLawful (Bits w) → IsLawful (Bits v) → IsLawful r → result_sort o (Bits v ∷ Bits w ∷ []) ≡ Some r →
    IfSome (second_row o w v (other_term (Bits v)) (target_term r) value) (P 1 (Bits v ∷ Bits w ∷ []) value)

-- an inverse term is a row at the sort of the result
row_parts : (o : Op) (position : ℕ) (sorts : List Sort) (value : Option ℕ) (row : Tree) → inverse_term o position sorts value ≡ Some row → (r : Sort) × (result_sort o sorts ≡ Some r) × (row_at o position sorts r value ≡ Some row)
unfolding inverse_term
row_parts o position sorts value row = go (result_sort o sorts)
  where
    go : (p : Option Sort) → option_and_then (λ r. row_at o position sorts r value) p ≡ Some row → (r : Sort) × (p ≡ Some r) × (row_at o position sorts r value ≡ Some row)
    go None e = absurd (cc)
    go (Some r) e = (r, refl, e)

there : (Q : Tree → Type 0) (p : Option Tree) (row : Tree) → p ≡ Some row → IfSome p Q → Q row
there Q p row e h = subst (λ (q : Option Tree). IfSome q Q) e h

pub of_rows : (P : Saying) (o : Op) → OfOne P o → OfFirst P o → OfSecond P o → OfRows P o
of_rows P o one first second position sorts value row lawful e =
    let parts = row_parts o position sorts value row e in
    let whole = lawful_rank o sorts parts.0 (All-from_recursion IsLawful sorts lawful) parts.1 in
    go position sorts parts.0 lawful whole parts.1 parts.2
  where
    go : (n : ℕ) (ss : List Sort) (r : Sort) → AllByRecursion IsLawful ss → IsLawful r → result_sort o ss ≡ Some r → row_at o n ss r value ≡ Some row → P n ss value row
    go zero (Bits w ∷ []) r l m rank at = there (P 0 (Bits w ∷ []) value) (unary_row o w (target_term r)) row at (one w r value l.0 m rank)
    go zero (Bits w ∷ Bits v ∷ []) r l m rank at =
        there (P 0 (Bits w ∷ Bits v ∷ []) value) (first_row o w v (other_term (Bits v)) (target_term r) value) row at (first w v r value l.0 l.1.0 m rank)
    go (suc zero) (Bits v ∷ Bits w ∷ []) r l m rank at =
        there (P 1 (Bits v ∷ Bits w ∷ []) value) (second_row o w v (other_term (Bits v)) (target_term r) value) row at (second w v r value l.1.0 l.0 m rank)
    go _ _ r l m rank at = absurd (cc)

-- the rank of two arguments of one width
alike : (w v : ℕ) (r : Sort) → option_map Bits (two_widths (Bits w ∷ Bits v ∷ [])) ≡ Some r → (w ≡ v) × (Bits w ≡ r)
alike w v r = go (w == v) refl
  where
    go : (b : Bool) → (w == v) ≡ b → option_map Bits (cond b (Some w) None) ≡ Some r → (w ≡ v) × (Bits w ≡ r)
    go false is e = absurd (cc)
    go true is e = (eqb-true w v is, cc)

abbrev pub IsPaired : Op → Type 0
IsPaired o = (w v : ℕ) → result_sort o (Bits w ∷ Bits v ∷ []) ≡ option_map Bits (two_widths (Bits w ∷ Bits v ∷ []))

-- the same where both arguments have the result's width
abbrev pub OfFirstAlike : Saying → Op → Type 0
OfFirstAlike P o =
    (w : ℕ) (value : Option ℕ) → IsLawful (Bits w) →
    IfSome (first_row o w w (other_term (Bits w)) (target_term (Bits w)) value) (P 0 (Bits w ∷ Bits w ∷ []) value)

abbrev pub OfSecondAlike : Saying → Op → Type 0
OfSecondAlike P o =
    (w : ℕ) (value : Option ℕ) → IsLawful (Bits w) →
    IfSome (second_row o w w (other_term (Bits w)) (target_term (Bits w)) value) (P 1 (Bits w ∷ Bits w ∷ []) value)

of_first : (P : Saying) (o : Op) → IsPaired o → OfFirstAlike P o → OfFirst P o
of_first P o rank each w v r value lw lv lr e =
    let same = alike w v r (sym (rank w v) ∙ e) in
    subst (λ (q : Sort). IfSome (first_row o w v (other_term (Bits v)) (target_term q) value) (P 0 (Bits w ∷ Bits v ∷ []) value)) same.1
    (subst (λ (n : ℕ). IfSome (first_row o w n (other_term (Bits n)) (target_term (Bits w)) value) (P 0 (Bits w ∷ Bits n ∷ []) value)) same.0 (each w value lw))

of_second : (P : Saying) (o : Op) → IsPaired o → OfSecondAlike P o → OfSecond P o
of_second P o rank each w v r value lw lv lr e =
    let same = alike v w r (sym (rank v w) ∙ e) in
    subst (λ (q : Sort). IfSome (second_row o w v (other_term (Bits v)) (target_term q) value) (P 1 (Bits v ∷ Bits w ∷ []) value)) same.1
    (subst (λ (n : ℕ). IfSome (second_row o n v (other_term (Bits v)) (target_term (Bits v)) value) (P 1 (Bits v ∷ Bits n ∷ []) value)) same.0 (each v value lv))

pub of_pairs : (P : Saying) (o : Op) → IsPaired o → OfOne P o → OfFirstAlike P o → OfSecondAlike P o → OfRows P o
of_pairs P o rank one first second = of_rows P o one (of_first P o rank first) (of_second P o rank second)

-- the same of one argument where it has the result's width
abbrev pub OfOneAlike : Saying → Op → Type 0
OfOneAlike P o =
    (w : ℕ) (value : Option ℕ) → IsLawful (Bits w) → IfSome (unary_row o w (target_term (Bits w))) (P 0 (Bits w ∷ []) value)

-- at another sort that is equal
at_sort : (P : Saying) (o : Op) (w : ℕ) (value : Option ℕ) (q r : Sort) → q ≡ r → IfSome (unary_row o w (target_term q)) (P 0 (Bits w ∷ []) value) → IfSome (unary_row o w (target_term r)) (P 0 (Bits w ∷ []) value)
at_sort P o w value q r e h = subst (λ (x : Sort). IfSome (unary_row o w (target_term x)) (P 0 (Bits w ∷ []) value)) e h

pub of_ones : (P : Saying) (o : Op) → ((w : ℕ) → result_sort o (Bits w ∷ []) ≡ Some (Bits w)) → OfOneAlike P o → OfFirst P o → OfSecond P o → OfRows P o
of_ones P o rank each first second =
    of_rows P o (λ w r value l m e. let same : Bits w ≡ r = some_same (Bits w) r (sym (rank w) ∙ e) in at_sort P o w value (Bits w) r same (each w value l)) first second
  where
    some_same : (q r : Sort) → Some q ≡ Some r → q ≡ r
    some_same q r e = cc

-- the same where the result is at least as wide
abbrev pub IsWider : Op → Type 0
IsWider o = (w : ℕ) (r : Sort) → IsLawful (Bits w) → result_sort o (Bits w ∷ []) ≡ Some r → (n : ℕ) × (Bits n ≡ r) × (w ≤ n)

abbrev pub OfWider : Saying → Op → Type 0
OfWider P o =
    (w n : ℕ) (value : Option ℕ) → IsLawful (Bits w) → IsLawful (Bits n) → w ≤ n →
    IfSome (unary_row o w (target_term (Bits n))) (P 0 (Bits w ∷ []) value)

pub of_wider : (P : Saying) (o : Op) → IsWider o → OfWider P o → OfFirst P o → OfSecond P o → OfRows P o
of_wider P o rank each first second =
    of_rows P o (λ w r value l m e.
    let wide = rank w r l e in
    at_sort P o w value (Bits wide.0) r wide.1 (each w wide.0 value l (subst IsLawful (sym wide.1) m) wide.2)) first second

-- the bit-vectors of a width of at most 128
pub bits_same : (n : ℕ) (r : Sort) → bits_of n ≡ Some r → Bits n ≡ r
bits_same n r = go (nat_le n 128)
  where
    go : (b : Bool) → cond b (Some (Bits n)) None ≡ Some r → Bits n ≡ r
    go false e = absurd (cc)
    go true e = cc

pub wider_by : (k w : ℕ) (r : Sort) → bits_of (w + k) ≡ Some r → (n : ℕ) × (Bits n ≡ r) × (w ≤ n)
wider_by k w r e = (w + k, bits_same (w + k) r e, omega arith)

pub wider_copies : (k w : ℕ) (r : Sort) → bits_repeated k w ≡ Some r → (n : ℕ) × (Bits n ≡ r) × (w ≤ n)
wider_copies k w r e = go (nat_le 1 k) refl e
  where
    go : (b : Bool) → nat_le 1 k ≡ b → cond b (bits_of (k * w)) None ≡ Some r → (n : ℕ) × (Bits n ≡ r) × (w ≤ n)
    go false is f = absurd (cc)
    go true is f = (k * w, bits_same (k * w) r f, omega (arith, mul-le 1 w k w (leb-true 1 k is) (omega arith)))

-- the same of parts
abbrev pub OfExtract : Saying → (i j : ℕ) → Type 0
OfExtract P i j =
    (w : ℕ) (value : Option ℕ) → IsLawful (Bits w) → i < w → j ≤ i →
    P 0 (Bits w ∷ []) value (zeros_before (w - 1 - i) (zeros_behind j (target_term (Bits (i - j + 1)))))

pub of_extract : (P : Saying) (i j : ℕ) → OfExtract P i j → OfRows P (Extract i j)
of_extract P i j each = of_rows P (Extract i j) one (λ w v r value lw lv lr e. tt) (λ w v r value lw lv lr e. tt)
  where
    one : OfOne P (Extract i j)
    one w r value l m e = go (nat_lt i w && nat_le j i) refl e
      where
        go : (b : Bool) → (nat_lt i w && nat_le j i) ≡ b → cond b (Some (Bits (i - j + 1))) None ≡ Some r → IfSome (unary_row (Extract i j) w (target_term r)) (P 0 (Bits w ∷ []) value)
        go false is f = absurd (cc)
        go true is f =
            let parts = and_parts (nat_lt i w) (nat_le j i) is in
            let same : Bits (i - j + 1) ≡ r = cc in
            at_sort P (Extract i j) w value (Bits (i - j + 1)) r same (each w value l (ltb-true i w parts.0) (leb-true j i parts.1))

-- and of values put together
abbrev pub OfConcatFirst : Saying → Type 0
OfConcatFirst P =
    (w v : ℕ) (value : Option ℕ) → IsLawful (Bits w) → IsLawful (Bits (w + v)) →
    P 0 (Bits w ∷ Bits v ∷ []) value (unary (Extract (w + v - 1) v) (target_term (Bits (w + v))))

abbrev pub OfConcatSecond : Saying → Type 0
OfConcatSecond P =
    (w v : ℕ) (value : Option ℕ) → IsLawful (Bits w) → IsLawful (Bits (v + w)) →
    P 1 (Bits v ∷ Bits w ∷ []) value (unary (Extract (w - 1) 0) (target_term (Bits (v + w))))

pub of_concat : (P : Saying) → OfConcatFirst P → OfConcatSecond P → OfRows P Concat
of_concat P first second =
    of_rows P Concat (λ w r value l m e. tt)
    (λ w v r value lw lv lr e.
    let same : Bits (w + v) ≡ r = bits_same (w + v) r e in
    subst (λ (x : Sort). P 0 (Bits w ∷ Bits v ∷ []) value (unary (Extract (w + v - 1) v) (target_term x))) same (first w v value lw (subst IsLawful (sym same) lr)))
    (λ w v r value lw lv lr e.
    let same : Bits (v + w) ≡ r = bits_same (v + w) r e in
    subst (λ (x : Sort). P 1 (Bits v ∷ Bits w ∷ []) value (unary (Extract (w - 1) 0) (target_term x))) same (second w v value lw (subst IsLawful (sym same) lr)))
