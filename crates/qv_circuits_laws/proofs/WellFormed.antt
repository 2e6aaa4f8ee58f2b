-- The circuit of each operator reads variables before its gates, and has a bit for each of the result's.
use Rattle.std.proofs.Common.{◌≡◌, ℕ, suc, ◌+◌, ◌-◌, ◌*◌, ◌≤◌, ◌<◌, ◌&&◌, Option, Some, None, List, [], ◌∷◌, ◌++◌, length, take, drop, replicate, refl, sym, ap, subst, arith, cond, true, false, nat_lt, nat_le}
use Rattle.std.specs.Prelude.{Bool as Truth, option_map, option_and_then}
use Rattle.std.specs.List.{AllZip, AllByRecursion}
use Rattle.std.proofs.lemmas.Bool.{and_parts, ltb-true, leb-true}
use Rattle.qv_words.specs.declared.sort.Sort.{Sort}
use Rattle.qv_words.specs.declared.sort.Sort.TheVariants.{Bool, Bits}
use Rattle.qv_words.specs.declared.op.Op.{Op}
use Rattle.qv_words.specs.declared.op.Op.TheVariants.{Not, And, Equal, Ite, Concat, Extract, Repeat}
use Rattle.qv_words.specs.Sort.{IsLawful, width_of}
use Rattle.qv_words.specs.Rank.{result_sort, one_width, two_widths, two_alike, joined_width, bits_of, bits_between, bits_repeated}
use Rattle.qv_words.specs.Gate.{Lit, Circuit, neg, yes, no, and, xor}
use Rattle.qv_words.specs.Routine.{negs, top, least_signed, copies}
use Rattle.qv_words.specs.OpCircuit.{one, not_one, negated_each, signed_quotient, remainder_of, modulus, sum_overflow, signed_sum_overflow, product_overflow, signed_product_overflow, signed_difference_overflow, signed_quotient_overflow, op_circuit}
use Rattle.qv_circuits_laws.specs.CircuitLaws.{IsBefore, IsWord}
use Rattle.qv_words.proofs.InSort.{one_bool-parts, two_bools-parts, two_alike-parts, choice-parts, one_width-parts, two_widths-parts, joined_width-parts}
use Rattle.qv_circuits_laws.proofs.Building.{Gives, done-gives, then-gives, later, word-later, no-before, neg-before, yes-before, top-before, append-word, replicate-word, negs-word, take-word, drop-word, cons-word, empty-word, word-of}
use Rattle.qv_circuits_laws.proofs.Routines.{add-gives, sum-gives, neg-gives, sub-gives, sel-gives, and-gives, xor-gives, each-gives, disjunction-gives, equal-gives, mul-gives, div-gives, abs-gives, least-word, copies-word}

pub one-gives : {n : ℕ} {m : Circuit Lit} → Gives n m IsBefore → Gives n (one m) (IsWord 1)
one-gives h = then-gives h (λ k g up hg. done-gives (g ∷ []) (cons-word hg empty-word))

pub not_one-gives : {n : ℕ} {m : Circuit Lit} → Gives n m IsBefore → Gives n (not_one m) (IsWord 1)
not_one-gives h = then-gives h (λ k g up hg. done-gives (neg g ∷ []) (cons-word (neg-before hg) empty-word))

pub negated-gives : {n w : ℕ} {m : Circuit (List Lit)} → Gives n m (IsWord w) → Gives n (negated_each m) (IsWord w)
negated-gives h = then-gives h (λ k bits up hb. done-gives (negs bits) (negs-word hb))

-- the signed operators
pub signed_quotient-gives : {n w : ℕ} (a b : List Lit) → 2 ≤ n → IsWord w n a → IsWord w n b → Gives n (signed_quotient a b) (IsWord w)
signed_quotient-gives a b lo f g =
    then-gives (abs-gives a lo f) (λ i m up hm.
    then-gives (abs-gives b (omega arith) (word-later g up)) (λ j k up2 hk.
    then-gives (div-gives m k (omega arith) (word-later hm up2) hk) (λ l d up3 hd.
    then-gives (xor-gives l (top a) (top b) (omega arith) (later (top-before lo f) (omega arith)) (later (top-before lo g) (omega arith))) (λ p x up4 hx.
    then-gives (neg-gives d.0 (omega arith) (word-later hd.0 up4)) (λ q t up5 ht.
    sel-gives x t d.0 (omega arith) (later hx up5) ht (word-later hd.0 (omega arith)))))))

pub remainder-gives : {n w : ℕ} (a b : List Lit) → 2 ≤ n → IsWord w n a → IsWord w n b → Gives n (remainder_of a b) (IsWord w)
remainder-gives a b lo f g =
    then-gives (abs-gives a lo f) (λ i m up hm.
    then-gives (abs-gives b (omega arith) (word-later g up)) (λ j k up2 hk.
    then-gives (div-gives m k (omega arith) (word-later hm up2) hk) (λ l d up3 hd.
    then-gives (neg-gives d.1 (omega arith) hd.1) (λ q t up4 ht.
    sel-gives (top a) t d.1 (omega arith) (later (top-before lo f) (omega arith)) ht (word-later hd.1 up4)))))

pub modulus-gives : {n w : ℕ} (a b : List Lit) → 2 ≤ n → IsWord w n a → IsWord w n b → Gives n (modulus a b) (IsWord w)
modulus-gives a b lo f g =
    then-gives (abs-gives a lo f) (λ i m up hm.
    then-gives (abs-gives b (omega arith) (word-later g up)) (λ j k up2 hk.
    then-gives (div-gives m k (omega arith) (word-later hm up2) hk) (λ l d up3 hd.
    then-gives (neg-gives d.1 (omega arith) hd.1) (λ p t up4 ht.
    then-gives (sel-gives (top a) t d.1 (omega arith) (later (top-before lo f) (omega arith)) ht (word-later hd.1 up4)) (λ q u up5 hu.
    then-gives (equal-gives d.1 (replicate (length a) no) (omega arith) (word-later hd.1 (omega arith)) (word-of f.bit_count (replicate-word (length a) no (no-before (omega arith))))) (λ r z up6 hz.
    then-gives (xor-gives r (top a) (top b) (omega arith) (later (top-before lo f) (omega arith)) (later (top-before lo g) (omega arith))) (λ s x up7 hx.
    then-gives (and-gives s x (neg z) (omega arith) hx (neg-before (later hz up7))) (λ v y up8 hy.
    then-gives (each-gives and and-gives (replicate (length b) y) b (omega arith) (word-of g.bit_count (replicate-word (length b) y hy)) (word-later g (omega arith))) (λ w e up9 he.
    sum-gives u e no (omega arith) (word-later hu (omega arith)) he (no-before (omega arith)))))))))))

-- the overflow predicates
pub sum_overflow-gives : {n w : ℕ} (a b : List Lit) → 2 ≤ n → IsWord w n a → IsWord w n b → Gives n (sum_overflow a b) IsBefore
sum_overflow-gives a b lo f g = then-gives (add-gives a b no lo f g (no-before lo)) (λ k s up hs. done-gives s.1 hs.1)

pub signed_sum-gives : {n w : ℕ} (a b : List Lit) → 2 ≤ n → IsWord w n a → IsWord w n b → Gives n (signed_sum_overflow a b) IsBefore
signed_sum-gives a b lo f g =
    then-gives (sum-gives a b no lo f g (no-before lo)) (λ i s up hs.
    then-gives (xor-gives i (top a) (top s) (omega arith) (later (top-before lo f) up) (top-before (omega arith) hs)) (λ j x up2 hx.
    then-gives (xor-gives j (top b) (top s) (omega arith) (later (top-before lo g) (omega arith)) (later (top-before (omega arith) hs) up2)) (λ k y up3 hy.
    and-gives k x y (omega arith) (later hx up3) hy)))

pub product-gives : {n w : ℕ} (a b : List Lit) → 2 ≤ n → IsWord w n a → IsWord w n b → Gives n (product_overflow a b) IsBefore
product-gives a b lo f g =
    then-gives (mul-gives (a ++ replicate (length a) no) (b ++ replicate (length b) no) lo (append-word f (word-of f.bit_count (replicate-word (length a) no (no-before lo)))) (append-word g (word-of g.bit_count (replicate-word (length b) no (no-before lo))))) (λ i p up hp.
    disjunction-gives (drop (length a) p) (omega arith) (drop-word (length a) hp))

pub signed_product-gives : {n w : ℕ} (a b : List Lit) → 2 ≤ n → IsWord w n a → IsWord w n b → Gives n (signed_product_overflow a b) IsBefore
signed_product-gives {n} {w} a b lo f g =
    let half : w + w - length a ≡ length a = omega (arith, f.bit_count) in
    let inside : length a ≤ w + w = omega (arith, f.bit_count) in
    then-gives (mul-gives (a ++ replicate (length a) (top a)) (b ++ replicate (length b) (top b)) lo (append-word f (word-of f.bit_count (replicate-word (length a) (top a) (top-before lo f)))) (append-word g (word-of g.bit_count (replicate-word (length b) (top b) (top-before lo g))))) (λ i p up hp.
    then-gives (each-gives xor xor-gives (drop (length a) p) (replicate (length a) (top (take (length a) p))) (omega arith) (word-of half (drop-word (length a) hp)) (replicate-word (length a) (top (take (length a) p)) (top-before (omega arith) (take-word (length a) inside hp)))) (λ j x up2 hx.
    disjunction-gives x (omega arith) hx))

pub signed_difference-gives : {n w : ℕ} (a b : List Lit) → 2 ≤ n → IsWord w n a → IsWord w n b → Gives n (signed_difference_overflow a b) IsBefore
signed_difference-gives a b lo f g =
    then-gives (sub-gives a b lo f g) (λ i s up hs.
    then-gives (xor-gives i (top a) (top b) (omega arith) (later (top-before lo f) up) (later (top-before lo g) up)) (λ j x up2 hx.
    then-gives (xor-gives j (top a) (top s.0) (omega arith) (later (top-before lo f) (omega arith)) (later (top-before (omega arith) hs.0) up2)) (λ k y up3 hy.
    and-gives k x y (omega arith) (later hx up3) hy)))

pub signed_overflow-gives : {n w : ℕ} (a b : List Lit) → 2 ≤ n → 1 ≤ w → IsWord w n a → IsWord w n b → Gives n (signed_quotient_overflow a b) IsBefore
signed_overflow-gives {n} {w} a b lo some f g =
    let least : IsWord w n (least_signed (length a)) = subst (λ (k : ℕ). IsWord w n (least_signed k)) (sym f.bit_count) (least-word lo some) in
    then-gives (equal-gives a (least_signed (length a)) lo f least) (λ i e up he.
    then-gives (equal-gives b (replicate (length b) yes) (omega arith) (word-later g up) (word-of g.bit_count (replicate-word (length b) yes (yes-before (omega arith))))) (λ j t up2 ht.
    and-gives j e t (omega arith) (later he up2) ht))

-- the bits of the arguments
abbrev HasWords : ℕ → List (List Lit) → List Sort → Type 0
HasWords n args sorts = AllZip (λ bits sort. IsWord (width_of sort) n bits) args sorts

one_word : (n : ℕ) (args : List (List Lit)) (s : Sort) → HasWords n args (s ∷ []) → (a : List Lit) × (args ≡ a ∷ []) × IsWord (width_of s) n a
one_word n [] s h = absurd h
one_word n (a ∷ []) s h = (a, refl, h.0)
one_word n (a ∷ b ∷ args) s h = absurd h.1

two_words : (n : ℕ) (args : List (List Lit)) (s t : Sort) → HasWords n args (s ∷ t ∷ []) → (a : List Lit) × (b : List Lit) × (args ≡ a ∷ b ∷ []) × IsWord (width_of s) n a × IsWord (width_of t) n b
two_words n [] s t h = absurd h
two_words n (a ∷ []) s t h = absurd h.1
two_words n (a ∷ b ∷ []) s t h = (a, b, refl, h.0, h.1.0)
two_words n (a ∷ b ∷ c ∷ args) s t h = absurd h.1.1

three_words : (n : ℕ) (args : List (List Lit)) (s t u : Sort) → HasWords n args (s ∷ t ∷ u ∷ []) → (a : List Lit) × (b : List Lit) × (c : List Lit) × (args ≡ a ∷ b ∷ c ∷ []) × IsWord (width_of s) n a × IsWord (width_of t) n b × IsWord (width_of u) n c
three_words n [] s t u h = absurd h
three_words n (a ∷ []) s t u h = absurd h.1
three_words n (a ∷ b ∷ []) s t u h = absurd h.1.1
three_words n (a ∷ b ∷ c ∷ []) s t u h = (a, b, c, refl, h.0, h.1.0, h.1.1.0)
three_words n (a ∷ b ∷ c ∷ d ∷ args) s t u h = absurd h.1.1.1

-- what an operator's circuit gives
abbrev pub Fits : ℕ → Op → List (List Lit) → Sort → Type 0
Fits n o args r = Gives n (op_circuit o args) (IsWord (width_of r))

-- by the shapes of ranks
pub at_one_width : (n : ℕ) (o : Op) (f : ℕ → Option Sort) → ((w : ℕ) (a : List Lit) (r : Sort) → 1 ≤ w → IsWord w n a → f w ≡ Some r → Fits n o (a ∷ []) r) → (ss : List Sort) (r : Sort) (args : List (List Lit)) → AllByRecursion IsLawful ss → HasWords n args ss → option_and_then f (one_width ss) ≡ Some r → Fits n o args r
at_one_width n o f give ss r args lawful words e = go (one_width ss) refl e
  where
    go : (p : Option ℕ) → one_width ss ≡ p → option_and_then f p ≡ Some r → Fits n o args r
    go None is e = cc
    go (Some w) is e =
        let shape = one_width-parts ss w is in
        let k = one_word n args (Bits w) (subst (HasWords n args) shape words) in
        rw k.1 (give w k.0 r (subst (AllByRecursion IsLawful) shape lawful).0.0 k.2 e)

-- where the sort is known
pub at_sort : (n : ℕ) (o : Op) (args : List (List Lit)) (s r : Sort) → Some s ≡ Some r → Fits n o args s → Fits n o args r
at_sort n o args s r e h = let same : s ≡ r = cc in subst (Fits n o args) same h

pub at_two_widths : (n : ℕ) (o : Op) (f : ℕ → Sort) → ((w : ℕ) (a b : List Lit) → 1 ≤ w → IsWord w n a → IsWord w n b → Fits n o (a ∷ b ∷ []) (f w)) → (ss : List Sort) (r : Sort) (args : List (List Lit)) → AllByRecursion IsLawful ss → HasWords n args ss → option_map f (two_widths ss) ≡ Some r → Fits n o args r
at_two_widths n o f give ss r args lawful words e = go (two_widths ss) refl e
  where
    go : (p : Option ℕ) → two_widths ss ≡ p → option_map f p ≡ Some r → Fits n o args r
    go None is e = cc
    go (Some w) is e =
        let shape = two_widths-parts ss w is in
        let k = two_words n args (Bits w) (Bits w) (subst (HasWords n args) shape words) in
        rw k.2 (at_sort n o (k.0 ∷ k.1 ∷ []) (f w) r e (give w k.0 k.1 (subst (AllByRecursion IsLawful) shape lawful).0.0 k.3 k.4))

pub at_two_bools : (n : ℕ) (o : Op) → ((a b : List Lit) → IsWord 1 n a → IsWord 1 n b → Fits n o (a ∷ b ∷ []) Bool) → (ss : List Sort) (r : Sort) (args : List (List Lit)) → HasWords n args ss → result_sort And ss ≡ Some r → Fits n o args r
at_two_bools n o give ss r args words e =
    let parts = two_bools-parts ss r e in
    let k = two_words n args Bool Bool (subst (HasWords n args) parts.0 words) in
    rw k.2 (at_sort n o (k.0 ∷ k.1 ∷ []) Bool r (ap Some parts.1) (give k.0 k.1 k.3 k.4))

pub at_one_bool : (n : ℕ) (o : Op) → ((a : List Lit) → IsWord 1 n a → Fits n o (a ∷ []) Bool) → (ss : List Sort) (r : Sort) (args : List (List Lit)) → HasWords n args ss → result_sort Not ss ≡ Some r → Fits n o args r
at_one_bool n o give ss r args words e =
    let parts = one_bool-parts ss r e in
    let k = one_word n args Bool (subst (HasWords n args) parts.0 words) in
    rw k.1 (at_sort n o (k.0 ∷ []) Bool r (ap Some parts.1) (give k.0 k.2))

pub some-bits : (n k : ℕ) (o : Op) (args : List (List Lit)) (r : Sort) → bits_of k ≡ Some r → Fits n o args (Bits k) → Fits n o args r
some-bits n k o args r e h = go (nat_le k 128) e
  where
    go : (b : Truth) → cond b (Some (Bits k)) None ≡ Some r → Fits n o args r
    go true e = at_sort n o args (Bits k) r e h
    go false e = cc

pub extract-fits : (n i j w : ℕ) (a : List Lit) (r : Sort) → IsWord w n a → bits_between i j w ≡ Some r → Fits n (Extract i j) (a ∷ []) r
unfolding op_circuit
extract-fits n i j w a r f e = go (nat_lt i w && nat_le j i) refl e
  where
    go : (b : Truth) → (nat_lt i w && nat_le j i) ≡ b → cond b (Some (Bits (i - j + 1))) None ≡ Some r → Fits n (Extract i j) (a ∷ []) r
    go false is e = cc
    go true is e =
        let parts = and_parts (nat_lt i w) (nat_le j i) is in
        let below : i < w = ltb-true i w parts.0 in
        let inside : i - j + 1 ≤ w - j = omega (arith, below, leb-true j i parts.1) in
        at_sort n (Extract i j) (a ∷ []) (Bits (i - j + 1)) r e
        (done-gives (take (i - j + 1) (drop j a)) (take-word (i - j + 1) inside (drop-word j f)))

pub repeat-fits : (n k w : ℕ) (a : List Lit) (r : Sort) → IsWord w n a → bits_repeated k w ≡ Some r → Fits n (Repeat k) (a ∷ []) r
unfolding op_circuit
repeat-fits n k w a r f e = go (nat_le 1 k) e
  where
    go : (b : Truth) → cond b (bits_of (k * w)) None ≡ Some r → Fits n (Repeat k) (a ∷ []) r
    go false e = cc
    go true e = some-bits n (k * w) (Repeat k) (a ∷ []) r e (done-gives (copies k a) (copies-word k a f))

pub concat-fits : (n : ℕ) (ss : List Sort) (r : Sort) (args : List (List Lit)) → HasWords n args ss → result_sort Concat ss ≡ Some r → Fits n Concat args r
unfolding op_circuit
concat-fits n ss r args words e = go (joined_width ss) refl e
  where
    go : (p : Option ℕ) → joined_width ss ≡ p → option_and_then bits_of p ≡ Some r → Fits n Concat args r
    go None is e = cc
    go (Some k) is e =
        let parts = joined_width-parts ss k is in
        let found = two_words n args (Bits parts.0) (Bits parts.1) (subst (HasWords n args) parts.2 words) in
        let whole : parts.1 + parts.0 ≡ k = omega (arith, parts.3) in
        rw found.2 (some-bits n k Concat (found.0 ∷ found.1 ∷ []) r e (done-gives (found.1 ++ found.0) (word-of whole (append-word found.4 found.3))))

bit-of-word : (n : ℕ) (c a b : List Lit) (w : ℕ) (r : Sort) → 2 ≤ n → w ≡ width_of r → IsWord 1 n c → IsWord w n a → IsWord w n b → Fits n Ite (c ∷ a ∷ b ∷ []) r
unfolding op_circuit
bit-of-word n [] a b w r lo e h f g = absurd (let none : 0 ≡ 1 = h.bit_count in omega (arith, none))
bit-of-word n (c ∷ []) a b w r lo e h f g = sel-gives c a b lo h.earlier.0 (word-of e f) (word-of e g)
bit-of-word n (c ∷ d ∷ cs) a b w r lo e h f g = absurd (let many : suc (suc (length cs)) ≡ 1 = h.bit_count in omega (arith, many))

pub ite-fits : (n : ℕ) (ss : List Sort) (r : Sort) (args : List (List Lit)) → 2 ≤ n → HasWords n args ss → result_sort Ite ss ≡ Some r → Fits n Ite args r
ite-fits n ss r args lo words e =
    let shape = choice-parts ss r e in
    let k = three_words n args Bool r r (subst (HasWords n args) shape words) in
    rw k.3 (bit-of-word n k.0 k.1 k.2 (width_of r) r lo refl k.4 k.5 k.6)

pub equal-fits : (n : ℕ) (ss : List Sort) (r : Sort) (args : List (List Lit)) → 2 ≤ n → HasWords n args ss → result_sort Equal ss ≡ Some r → Fits n Equal args r
unfolding op_circuit
equal-fits n ss r args lo words e = go (two_alike ss) refl e
  where
    go : (p : Option Sort) → two_alike ss ≡ p → option_map (λ _. Bool) p ≡ Some r → Fits n Equal args r
    go None is e = cc
    go (Some s) is e =
        let k = two_words n args s s (subst (HasWords n args) (two_alike-parts ss s is) words) in
        rw k.2 (at_sort n Equal (k.0 ∷ k.1 ∷ []) Bool r e (one-gives (equal-gives k.0 k.1 lo k.3 k.4)))
