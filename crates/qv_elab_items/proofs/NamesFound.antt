-- Names with what they stand for.
use Rattle.std.proofs.Common.{◌≡◌, ◌≤◌, ◌<◌, ◌+◌, ◌-◌, ℕ, zero, suc, Bool, true, false, cond, Option, Some, None, List, [], ◌∷◌, ◌++◌, length, take, drop, slice_get, get_or, refl, sym, ap, ◌∙◌, arith}
use Rattle.std.specs.Prelude.{option_map, is_some, nat_le}
use Rattle.std.specs.Str.{bytes_eq}
use Rattle.std.proofs.lemmas.Bool.Decides.{nat_tests}
use Rattle.qv_elab_defs.specs.Scopes.{Named, found}
use Rattle.qv_elab_items.specs.Places.{place_in}
use Rattle.qv_elab_items.specs.Bindings.{named_of}

pub named-none : (ids : List ℕ) → named_of [] ids ≡ []
unfolding named_of
named-none ids = refl

pub named-length : (names : List (List ℕ)) (ids : List ℕ) → length (named_of names ids) ≡ length names
unfolding named_of
named-length [] ids = refl
named-length (n ∷ names) ids = ap suc (named-length names ids)

pub place-below : (name : List ℕ) (names : List (List ℕ)) (p : ℕ) → place_in name names ≡ Some p → p < length names
place-below name [] p e = absurd (cc)
place-below name (n ∷ names) p e = go (bytes_eq n name) (λ k. place-below name names p k) e
  where
    go : (b : Bool) → (place_in name names ≡ Some p → p < length names) → cond b (Some (length names)) (place_in name names) ≡ Some p → p < suc (length names)
    go true rest k = let same : length names ≡ p = some-is (length names) p k in omega arith
      where
        some-is : (a b : ℕ) → ◌≡◌ {A = Option ℕ} (Some a) (Some b) → a ≡ b
        some-is a b h = cc
    go false rest k = let lt = rest k in omega arith

-- what is found
pub named-found : (name : List ℕ) (names : List (List ℕ)) (ids : List ℕ) → found name (named_of names ids) ≡ option_map (λ p. get_or ids p 0) (place_in name names)
unfolding named_of
named-found name [] ids = refl
named-found name (n ∷ names) ids = go (bytes_eq n name) (named-found name names ids)
  where
    go : (b : Bool) → found name (named_of names ids) ≡ option_map (λ p. get_or ids p 0) (place_in name names) → cond b (Some (get_or ids (length names) 0)) (found name (named_of names ids)) ≡ option_map (λ p. get_or ids p 0) (cond b (Some (length names)) (place_in name names))
    go true rest = refl
    go false rest = rest

-- whether it is found from a place on
pub named-has : (name : List ℕ) (from : ℕ) (names : List (List ℕ)) (ids : List ℕ) (p : ℕ) → place_in name names ≡ Some p → nat_le from p ≡ is_some (found name (take (length names - from) (named_of names ids)))
unfolding named_of
named-has name from [] ids p e = absurd (cc)
named-has name from (n ∷ names) ids p e = go (bytes_eq n name) refl (λ k. named-has name from names ids p k) e
  where
    some-is : (a b : ℕ) → ◌≡◌ {A = Option ℕ} (Some a) (Some b) → a ≡ b
    some-is a b h = cc

    none : (k : ℕ) (xs : Named ℕ) → k ≡ 0 → is_some (found name (take k xs)) ≡ false
    none k xs e = ap (λ m. is_some (found name (take m xs))) e

    first : (k : ℕ) (x : List ℕ × ℕ) (xs : Named ℕ) (m : ℕ) → k ≡ suc m → is_some (found name (take k (x ∷ xs))) ≡ is_some (cond (bytes_eq x.0 name) (Some x.1) (found name (take m xs)))
    first k x xs m e = ap (λ j. is_some (found name (take j (x ∷ xs)))) e

    go : (b : Bool) → bytes_eq n name ≡ b → (place_in name names ≡ Some p → nat_le from p ≡ is_some (found name (take (length names - from) (named_of names ids)))) → cond b (Some (length names)) (place_in name names) ≡ Some p → nat_le from p ≡ is_some (found name (take (suc (length names) - from) ((n, get_or ids (length names) 0) ∷ named_of names ids)))
    go true t rest k = by (nat_le from (length names)) refl
      where
        by : (d : Bool) → nat_le from (length names) ≡ d → nat_le from p ≡ is_some (found name (take (suc (length names) - from) ((n, get_or ids (length names) 0) ∷ named_of names ids)))
        by true f =
            let le : from ≤ length names = grind (arith, nat_tests) in
            let one : suc (length names) - from ≡ suc (length names - from) = omega arith in
            sym (ap (λ m. nat_le from m) (some-is (length names) p k)) ∙ f
            ∙ sym (first (suc (length names) - from) (n, get_or ids (length names) 0) (named_of names ids) (length names - from) one
            ∙ ap (λ b. is_some (cond b (Some (get_or ids (length names) 0)) (found name (take (length names - from) (named_of names ids))))) t)
        by false f =
            let lt : length names < from = grind (arith, nat_tests) in
            let zero : suc (length names) - from ≡ 0 = omega arith in
            sym (ap (λ m. nat_le from m) (some-is (length names) p k)) ∙ f ∙ sym (none (suc (length names) - from) ((n, get_or ids (length names) 0) ∷ named_of names ids) zero)
    go false t rest k = by (nat_le from (length names)) refl
      where
        by : (d : Bool) → nat_le from (length names) ≡ d → nat_le from p ≡ is_some (found name (take (suc (length names) - from) ((n, get_or ids (length names) 0) ∷ named_of names ids)))
        by true f =
            let le : from ≤ length names = grind (arith, nat_tests) in
            let one : suc (length names) - from ≡ suc (length names - from) = omega arith in
            rest k
            ∙ sym (first (suc (length names) - from) (n, get_or ids (length names) 0) (named_of names ids) (length names - from) one
            ∙ ap (λ b. is_some (cond b (Some (get_or ids (length names) 0)) (found name (take (length names - from) (named_of names ids))))) t)
        by false f =
            let lt : length names < from = grind (arith, nat_tests) in
            let zero : suc (length names) - from ≡ 0 = omega arith in
            let below = place-below name names p k in
            let small : nat_le from p ≡ false = grind (arith, nat_tests) in
            small ∙ sym (none (suc (length names) - from) ((n, get_or ids (length names) 0) ∷ named_of names ids) zero)

pub none-has : (name : List ℕ) (names : List (List ℕ)) (ids : List ℕ) (k : ℕ) → place_in name names ≡ None → is_some (found name (take k (named_of names ids))) ≡ false
unfolding named_of
none-has name [] ids zero e = refl
none-has name [] ids (suc k) e = refl
none-has name (n ∷ names) ids zero e = refl
none-has name (n ∷ names) ids (suc k) e = go (bytes_eq n name) (λ f. none-has name names ids k f) e
  where
    go : (b : Bool) → (place_in name names ≡ None → is_some (found name (take k (named_of names ids))) ≡ false) → cond b (Some (length names)) (place_in name names) ≡ None → is_some (cond b (Some (get_or ids (length names) 0)) (found name (take k (named_of names ids)))) ≡ false
    go true rest f = absurd (cc)
    go false rest f = rest f

-- ids that are the same below agree
pub named-same : (names : List (List ℕ)) (ids ids' : List ℕ) → ((p : ℕ) → p < length names → get_or ids p 0 ≡ get_or ids' p 0) → named_of names ids ≡ named_of names ids'
unfolding named_of
named-same [] ids ids' h = refl
named-same (n ∷ names) ids ids' h =
    ap (λ i. (n, i) ∷ named_of names ids) (h (length names) (omega arith))
    ∙ ap (λ xs. (n, get_or ids' (length names) 0) ∷ xs) (named-same names ids ids' (λ p lt. h p (omega arith)))

get-front : (xs ys : List ℕ) (p : ℕ) → p < length xs → get_or (xs ++ ys) p 0 ≡ get_or xs p 0
get-front [] ys p lt = absurd (omega arith)
get-front (x ∷ xs) ys zero lt = refl
get-front (x ∷ xs) ys (suc p) lt = get-front xs ys p (omega arith)

get-last : (xs : List ℕ) (x : ℕ) (n : ℕ) → n ≡ length xs → get_or (xs ++ x ∷ []) n 0 ≡ x
get-last xs x n e = ap (λ m. get_or (xs ++ x ∷ []) m 0) e ∙ go xs
  where
    go : (ys : List ℕ) → get_or (ys ++ x ∷ []) (length ys) 0 ≡ x
    go [] = refl
    go (y ∷ ys) = go ys

-- one more
pub named-push : (n : List ℕ) (names : List (List ℕ)) (ids : List ℕ) (id : ℕ) → length names ≡ length ids → named_of (n ∷ names) (ids ++ id ∷ []) ≡ (n, id) ∷ named_of names ids
unfolding named_of
named-push n names ids id e =
    ap (λ i. (n, i) ∷ named_of names (ids ++ id ∷ [])) (get-last ids id (length names) e)
    ∙ ap (λ xs. (n, id) ∷ xs) (named-same names (ids ++ id ∷ []) ids (λ p lt. get-front ids (id ∷ []) p (omega arith)))

-- fewer
named-drop : (k : ℕ) (names : List (List ℕ)) (ids : List ℕ) → named_of (drop k names) ids ≡ drop k (named_of names ids)
unfolding named_of
named-drop zero names ids = refl
named-drop (suc k) [] ids = refl
named-drop (suc k) (n ∷ names) ids = named-drop k names ids

get-take : (left : ℕ) (xs : List ℕ) (p : ℕ) → p < left → get_or (take left xs) p 0 ≡ get_or xs p 0
get-take zero xs p lt = absurd (omega arith)
get-take (suc left) [] p lt = refl
get-take (suc left) (x ∷ xs) zero lt = refl
get-take (suc left) (x ∷ xs) (suc p) lt = get-take left xs p (omega arith)

dropped : {A : Type 0} (k : ℕ) (xs : List A) → length (drop k xs) ≡ length xs - k
dropped zero xs = omega arith
dropped (suc k) [] = omega arith
dropped (suc k) (x ∷ xs) = dropped k xs ∙ omega arith

pub named-fewer : (left : ℕ) (names : List (List ℕ)) (ids : List ℕ) → named_of (drop (length names - left) names) (take left ids) ≡ drop (length names - left) (named_of names ids)
named-fewer left names ids =
    named-same (drop (length names - left) names) (take left ids) ids (λ p lt. get-take left ids p (omega (arith, lt, dropped (length names - left) names)))
    ∙ named-drop (length names - left) names ids

take-length : (left : ℕ) (xs : List ℕ) → left ≤ length xs → length (take left xs) ≡ left
take-length zero xs le = refl
take-length (suc left) [] le = absurd (omega arith)
take-length (suc left) (x ∷ xs) le = ap suc (take-length left xs (omega arith))

take-all : (left : ℕ) (xs : List ℕ) → length xs ≤ left → length (take left xs) ≡ length xs
take-all zero [] le = refl
take-all zero (x ∷ xs) le = absurd (omega arith)
take-all (suc left) [] le = refl
take-all (suc left) (x ∷ xs) le = ap suc (take-all left xs (omega arith))

pub fewer-ids : (left : ℕ) (names : List (List ℕ)) (ids : List ℕ) → length names ≡ length ids → length (drop (length names - left) names) ≡ length (take left ids)
fewer-ids left names ids e = dropped (length names - left) names ∙ go (nat_le left (length ids)) refl
  where
    go : (b : Bool) → nat_le left (length ids) ≡ b → length names - (length names - left) ≡ length (take left ids)
    go true t = let le : left ≤ length ids = grind (arith, nat_tests) in omega (arith, e, take-length left ids le)
    go false t = let le : length ids ≤ left = grind (arith, nat_tests) in omega (arith, e, take-all left ids le)

-- what stands at a place
pub named-at : (names : List (List ℕ)) (ids : List ℕ) (j : ℕ) (n : List ℕ) → slice_get names j ≡ Some n → slice_get (named_of names ids) j ≡ Some (n, get_or ids (length names - 1 - j) 0)
unfolding named_of
named-at [] ids j n e = absurd (cc)
named-at (m ∷ names) ids zero n e =
    let same : m ≡ n = cc in
    let at : suc (length names) - 1 - 0 ≡ length names = omega arith in
    ap (λ k. Some (k, get_or ids (length names) 0)) same ∙ ap (λ q. Some (n, get_or ids q 0)) (sym at)
named-at (m ∷ names) ids (suc j) n e =
    let at : length names - 1 - j ≡ suc (length names) - 1 - suc j = omega arith in
    named-at names ids j n e ∙ ap (λ q. Some (n, get_or ids q 0)) at

-- the next of the oldest
pub next-oldest : {A : Type 0} (xs : List A) (k from : ℕ) (x : A) → from ≤ k → k < length xs → slice_get xs (length xs - 1 - k) ≡ Some x → drop (length xs - (k + 1)) (take (length xs - from) xs) ≡ x ∷ drop (length xs - k) (take (length xs - from) xs)
next-oldest {A} xs k from x le lt e =
    let here : length xs - 1 - k ≡ length xs - (k + 1) = omega arith in
    let behind : length xs - k ≡ suc (length xs - (k + 1)) = omega arith in
    go (length xs - from) xs (length xs - (k + 1)) (omega arith) (ap (slice_get xs) (sym here) ∙ e)
    ∙ ap (λ n. x ∷ drop n (take (length xs - from) xs)) (sym behind)
  where
    go : (n : ℕ) (ys : List A) (j : ℕ) → j < n → slice_get ys j ≡ Some x → drop j (take n ys) ≡ x ∷ drop (suc j) (take n ys)
    go zero ys j lt e = absurd (omega arith)
    go (suc n) [] j lt e = absurd (cc)
    go (suc n) (y ∷ ys) zero lt e = let same : y ≡ x = cc in ap (λ z. z ∷ take n ys) same
    go (suc n) (y ∷ ys) (suc j) lt e = go n ys j (omega arith) e

pub none-oldest : {A : Type 0} (xs : List A) (from : ℕ) → drop (length xs - from) (take (length xs - from) xs) ≡ []
none-oldest {A} xs from = go (length xs - from) xs
  where
    go : (n : ℕ) (ys : List A) → drop n (take n ys) ≡ []
    go zero ys = refl
    go (suc n) [] = refl
    go (suc n) (y ∷ ys) = go n ys
