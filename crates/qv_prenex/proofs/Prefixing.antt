-- The places of a prefix, block by block, and where the blocks begin.
use Rattle.std.proofs.Common.{◌≡◌, ℕ, zero, suc, ◌+◌, ◌<◌, List, [], ◌∷◌, ◌++◌, length, get_or, map, take, drop, refl, sym, ap, ◌∙◌, arith, append_assoc}
use Rattle.std.specs.Prelude.{Vec, sum}
use Rattle.std.specs.declared.alloc.Global.{Global}
use Rattle.std.proofs.lemmas.List.{drop_more, map-append}
use Rattle.std.proofs.lemmas.List.Sums.{sum_by-cons}
use Rattle.qv_words.specs.declared.sort.Sort.{Sort}
use Rattle.qv_words.specs.Problem.{places_of, other}
use Rattle.qv_words.specs.Problem.{Place as PlainPlace}
use Rattle.qv_store.specs.declared.problem.Quant.{Quant}
use Rattle.qv_store.specs.declared.problem.Quant.TheVariants.{Exists, Forall}
use Rattle.qv_store.specs.declared.problem.Place.{Place}
use Rattle.qv_store.specs.Problems.{place_of, quantifier_of}
use Rattle.qv_prenex.specs.Blocks.{sorts_in}
use Rattle.qv_prenex.specs.Prefixes.{place_with, other_quant, starts_from}

other-turned : (q : Quant) → quantifier_of (other_quant q) ≡ other (quantifier_of q)
other-turned Exists = refl
other-turned Forall = refl

places-with : (q : Quant) (b : List Sort) → map place_of (map (place_with q) b) ≡ map (λ s. record { quantifier = quantifier_of q; sort = s }) b
places-with q [] = refl
places-with q (s ∷ b) = ap (λ xs. record { quantifier = quantifier_of q; sort = s } ∷ xs) (places-with q b)

-- one block more
pub prefix-more : (whole : List PlainPlace) (pre new : List Place) (q : Quant) (bs : List (Vec Sort Global)) (i : ℕ) (b : Vec Sort Global) →
    i < length bs → b ≡ get_or bs i b → new ≡ pre ++ map (place_with q) b.items →
    map place_of pre ++ places_of (quantifier_of q) (sorts_in (drop i bs)) ≡ whole →
    map place_of new ++ places_of (quantifier_of (other_quant q)) (sorts_in (drop (i + 1) bs)) ≡ whole
prefix-more whole pre new q bs i b lt here made before =
    let rest = drop (i + 1) bs in
    let next : drop i bs ≡ b ∷ rest = drop_more bs i b lt ∙ ap (λ (v : Vec Sort Global). v ∷ rest) (sym here) in
    let own = map (λ s. record { quantifier = quantifier_of q; sort = s }) b.items in
    let places : map place_of new ≡ map place_of pre ++ map (λ s. record { quantifier = quantifier_of q; sort = s }) b.items =
    ap (map place_of) made ∙ map-append place_of pre (map (place_with q) b.items) ∙ ap (λ xs. map place_of pre ++ xs) (places-with q b.items) in
    ap (λ xs. xs ++ places_of (quantifier_of (other_quant q)) (sorts_in rest)) places
    ∙ ap (λ o. (map place_of pre ++ own) ++ places_of o (sorts_in rest)) (other-turned q)
    ∙ append_assoc (map place_of pre) own (places_of (other (quantifier_of q)) (sorts_in rest))
    ∙ sym (ap (λ (xs : List (Vec Sort Global)). map place_of pre ++ places_of (quantifier_of q) (sorts_in xs)) next)
    ∙ before

-- where a block begins
pub starts-at : (n : ℕ) (ks : List ℕ) (i : ℕ) → get_or (starts_from n ks) i (n + sum ks) ≡ n + sum (take i ks)
starts-at n [] zero = refl
starts-at n [] (suc i) = refl
starts-at n (k ∷ ks) zero = omega arith
starts-at n (k ∷ ks) (suc i) =
    let more : n + sum (k ∷ ks) ≡ n + k + sum ks = omega (arith, sum_by-cons (λ m. m) k ks) in
    let last : n + k + sum (take i ks) ≡ n + sum (take (suc i) (k ∷ ks)) = omega (arith, sum_by-cons (λ m. m) k (take i ks)) in
    ap (λ d. get_or (starts_from (n + k) ks) i d) more ∙ starts-at (n + k) ks i ∙ last

-- one block more
pub starts-more : (whole : List ℕ) (n : ℕ) (pre new : List ℕ) (bs : List (Vec Sort Global)) (i : ℕ) (b : Vec Sort Global) →
    i < length bs → b ≡ get_or bs i b → new ≡ pre ++ n ∷ [] →
    pre ++ starts_from n (map (λ c. length c) (sorts_in (drop i bs))) ≡ whole →
    new ++ starts_from (n + length b.items) (map (λ c. length c) (sorts_in (drop (i + 1) bs))) ≡ whole
starts-more whole n pre new bs i b lt here made before =
    let rest = drop (i + 1) bs in
    let next : drop i bs ≡ b ∷ rest = drop_more bs i b lt ∙ ap (λ (v : Vec Sort Global). v ∷ rest) (sym here) in
    ap (λ xs. xs ++ starts_from (n + length b.items) (map (λ c. length c) (sorts_in rest))) made
    ∙ append_assoc pre (n ∷ []) (starts_from (n + length b.items) (map (λ c. length c) (sorts_in rest)))
    ∙ sym (ap (λ (xs : List (Vec Sort Global)). pre ++ starts_from n (map (λ c. length c) (sorts_in xs))) next)
    ∙ before

pub total-more : (n : ℕ) (bs : List (Vec Sort Global)) (i : ℕ) (b : Vec Sort Global) → i < length bs → b ≡ get_or bs i b →
    n + sum (map (λ c. length c) (sorts_in (drop i bs))) ≡ n + length b.items + sum (map (λ c. length c) (sorts_in (drop (i + 1) bs)))
total-more n bs i b lt here =
    let rest = drop (i + 1) bs in
    let next : drop i bs ≡ b ∷ rest = drop_more bs i b lt ∙ ap (λ (v : Vec Sort Global). v ∷ rest) (sym here) in
    let whole = ap (λ (xs : List (Vec Sort Global)). sum (map (λ c. length c) (sorts_in xs))) next in
    omega (arith, whole, sum_by-cons (λ m. m) (length b.items) (map (λ c. length c) (sorts_in rest)))
