-- Points over the places before a block, and the places of a block.
use Rattle.std.proofs.Common.{◌≡◌, ℕ, zero, suc, ◌+◌, ◌-◌, ◌<◌, ◌≤◌, Some, List, [], ◌∷◌, ◌++◌, map, refl, sym, ap, ◌∙◌, subst, append_assoc, slice_get, take, drop, length, arith}
use Rattle.std.proofs.lemmas.List.{length-append, length-map}
use Rattle.std.proofs.lemmas.List.Sums.{sum_by-cons}
use Rattle.std.specs.Prelude.{sum}
use Rattle.std.specs.List.{flat_map, AllZip}
use Rattle.std.proofs.lemmas.Option.{slice_get_within}
use Rattle.qv_words.specs.declared.sort.Sort.{Sort}
use Rattle.qv_words.specs.Sort.{IsValueOf}
use Rattle.qv_words.specs.Problem.{Place}
use Rattle.qv_words.specs.Linked.{Block, places_below}
use Rattle.qv_game_laws.proofs.Each.{places_in}
use Rattle.qv_words.proofs.Elements.{drop-front, take-front, get-behind, get-before, get-map, zip-length, zip-append, zip-at, zip-map, get-take, take-length}

-- how many places the first j blocks have
abbrev pub below : List Block → ℕ → ℕ
below bs zero = 0
below [] (suc j) = 0
below (b ∷ bs) (suc j) = length b.sorts + below bs j

below-take : (bs : List Block) (j : ℕ) → sum (map (λ b. length b.sorts) (take j bs)) ≡ below bs j
below-take bs zero = refl
below-take [] (suc j) = refl
below-take (b ∷ bs) (suc j) = sum_by-cons (λ x. x) (length b.sorts) (map (λ b. length b.sorts) (take j bs)) ∙ ap (λ n. length b.sorts + n) (below-take bs j)

pub below-is : (bs : List Block) (k j : ℕ) → k ≡ suc j → places_below bs k ≡ below bs j
below-is bs k j e =
    let index : k - 1 ≡ j = omega arith in
    ap (λ i. sum (map (λ b. length b.sorts) (take i bs))) index ∙ below-take bs j

pub below-next : (bs : List Block) (j : ℕ) (b : Block) → slice_get bs j ≡ Some b → below bs (suc j) ≡ below bs j + length b.sorts
below-next [] j b h = absurd cc
below-next (c ∷ bs) zero b h =
    let same : c ≡ b = cc in
    let e : length c.sorts ≡ length b.sorts = ap (λ (d : Block). length d.sorts) same in
    omega (arith, e)
below-next (c ∷ bs) (suc j) b h = let e = below-next bs j b h in omega (arith, e)

length-places : (b : Block) → length (places_in b) ≡ length b.sorts
length-places b = length-map b.sorts (λ s. record { quantifier = b.owner; sort = s })

pub below-last : (bs : List Block) → below bs (length bs) ≡ length (flat_map places_in bs)
below-last [] = refl
below-last (b ∷ bs) =
    let e = below-last bs in
    let a = length-append (places_in b) (flat_map places_in bs) in
    let m = length-places b in
    omega (arith, e, a, m)

-- from block j on
pub drop-block : (bs : List Block) (j : ℕ) (b : Block) → slice_get bs j ≡ Some b → drop (below bs j) (flat_map places_in bs) ≡ places_in b ++ drop (below bs (suc j)) (flat_map places_in bs)
drop-block [] j b h = absurd cc
drop-block (c ∷ bs) zero b h =
    let same : c ≡ b = cc in
    let size : length c.sorts + 0 ≡ length (places_in c) + 0 = ap (λ n. n + 0) (sym (length-places c)) in
    ap (λ rest. places_in c ++ rest) (sym (drop-front (places_in c) (flat_map places_in bs) 0 (length c.sorts + 0) size))
    ∙ ap (λ (d : Block). places_in d ++ drop (below (c ∷ bs) 1) (flat_map places_in (c ∷ bs))) same
drop-block (c ∷ bs) (suc j) b h =
    let size = length-places c in
    drop-front (places_in c) (flat_map places_in bs) (below bs j) (length c.sorts + below bs j) (omega (arith, size))
    ∙ drop-block bs j b h
    ∙ ap (λ rest. places_in b ++ rest) (sym (drop-front (places_in c) (flat_map places_in bs) (below bs (suc j)) (length c.sorts + below bs (suc j)) (omega (arith, size))))

pub take-block : (bs : List Block) (j : ℕ) (b : Block) → slice_get bs j ≡ Some b → take (below bs (suc j)) (flat_map places_in bs) ≡ take (below bs j) (flat_map places_in bs) ++ places_in b
take-block [] j b h = absurd cc
take-block (c ∷ bs) zero b h =
    let same : c ≡ b = cc in
    let size : length c.sorts + 0 ≡ length (places_in c) + 0 = ap (λ n. n + 0) (sym (length-places c)) in
    take-front (places_in c) (flat_map places_in bs) 0 (length c.sorts + 0) size ∙ only (places_in c) (flat_map places_in bs) ∙ ap places_in same
  where
    only : (xs ys : List Place) → xs ++ take 0 ys ≡ xs
    only [] ys = refl
    only (x ∷ xs) ys = ap (λ zs. x ∷ zs) (only xs ys)
take-block (c ∷ bs) (suc j) b h =
    let size = length-places c in
    take-front (places_in c) (flat_map places_in bs) (below bs (suc j)) (length c.sorts + below bs (suc j)) (omega (arith, size))
    ∙ ap (λ rest. places_in c ++ rest) (take-block bs j b h)
    ∙ sym (append_assoc (places_in c) (take (below bs j) (flat_map places_in bs)) (places_in b))
    ∙ ap (λ front. front ++ places_in b) (sym (take-front (places_in c) (flat_map places_in bs) (below bs j) (length c.sorts + below bs j) (omega (arith, size))))

place-first : (b : Block) (rest : List Place) (i : ℕ) (s : Sort) → slice_get b.sorts i ≡ Some s → slice_get (places_in b ++ rest) i ≡ Some (record { quantifier = b.owner; sort = s })
place-first b rest i s at =
    get-before (places_in b) rest i (subst (λ (n : ℕ). i < n) (sym (length-places b)) (slice_get_within b.sorts i s at))
    ∙ get-map (λ q. record { quantifier = b.owner; sort = q }) b.sorts i s at

-- the place of a block's variable
pub place-of : (bs : List Block) (j : ℕ) (b : Block) (i : ℕ) (s : Sort) → slice_get bs j ≡ Some b → slice_get b.sorts i ≡ Some s → slice_get (flat_map places_in bs) (below bs j + i) ≡ Some (record { quantifier = b.owner; sort = s })
place-of [] j b i s h k = absurd cc
place-of (c ∷ bs) zero b i s h k = at-front (omega arith) cc
  where
    at-front : 0 + i ≡ i → c ≡ b → slice_get (places_in c ++ flat_map places_in bs) (0 + i) ≡ Some (record { quantifier = b.owner; sort = s })
    at-front whole same =
        subst (λ (n : ℕ). slice_get (places_in c ++ flat_map places_in bs) n ≡ Some (record { quantifier = b.owner; sort = s })) (sym whole)
        (subst (λ (d : Block). slice_get (places_in d ++ flat_map places_in bs) i ≡ Some (record { quantifier = b.owner; sort = s })) (sym same) (place-first b (flat_map places_in bs) i s k))
place-of (c ∷ bs) (suc j) b i s h k =
    let size = length-places c in
    get-behind (places_in c) (flat_map places_in bs) (below bs j + i) (length c.sorts + below bs j + i) (omega (arith, size))
    ∙ place-of bs j b i s h k

-- a value of a place
abbrev pub IsAtPlace : ℕ → Place → Type 0
IsAtPlace v place = IsValueOf v place.sort

-- a point over the first places of a prefix
abbrev pub IsPoint : List Place → ℕ → List ℕ → Type 0
IsPoint ps n point = AllZip IsAtPlace point (take n ps)

pub point-longer : (bs : List Block) (j : ℕ) (b : Block) (point values : List ℕ) → slice_get bs j ≡ Some b → IsPoint (flat_map places_in bs) (below bs j) point → AllZip IsValueOf values b.sorts → IsPoint (flat_map places_in bs) (below bs (suc j)) (point ++ values)
point-longer bs j b point values h typed each =
    subst (AllZip IsAtPlace (point ++ values)) (sym (take-block bs j b h))
    (zip-append IsAtPlace point values (take (below bs j) (flat_map places_in bs)) (places_in b) typed (zip-map IsAtPlace (λ s. record { quantifier = b.owner; sort = s }) values b.sorts each))

pub point-at : (ps : List Place) (n : ℕ) (point : List ℕ) (l : ℕ) (place : Place) → IsPoint ps n point → l < n → slice_get ps l ≡ Some place → (v : ℕ) × (slice_get point l ≡ Some v) × IsValueOf v place.sort
point-at ps n point l place typed h e = zip-at IsAtPlace point (take n ps) l place typed (get-take ps n l place h e)

pub below-within : (bs : List Block) (j : ℕ) → below bs j ≤ length (flat_map places_in bs)
below-within bs zero = omega arith
below-within [] (suc j) = omega arith
below-within (b ∷ bs) (suc j) =
    let e = below-within bs j in
    let a = length-append (places_in b) (flat_map places_in bs) in
    let m = length-places b in
    omega (arith, e, a, m)

pub point-length : (bs : List Block) (j : ℕ) (point : List ℕ) → IsPoint (flat_map places_in bs) (below bs j) point → length point ≡ below bs j
point-length bs j point typed = zip-length IsAtPlace point (take (below bs j) (flat_map places_in bs)) typed ∙ take-length (flat_map places_in bs) (below bs j) (below-within bs j)
