-- Closings of blocks as quantifiers of places, and what stands at the places.
use Rattle.std.proofs.Common.{◌≡◌, ℕ, zero, suc, ◌+◌, ◌<◌, inl, inr, Bool, true, false, Option, Some, List, [], ◌∷◌, ◌++◌, length, map, take, slice_get, refl, ap, ◌∙◌, subst, arith}
use Rattle.std.specs.Prelude.{IsSomeAnd, option_map}
use Rattle.std.specs.List.{AllByRecursion}
use Rattle.std.proofs.lemmas.Bool.{ne_eqb, eq-eqb}
use Rattle.std.proofs.lemmas.List.{length-map}
use Rattle.std.proofs.lemmas.List.Sums.{sum_by-cons}
use Rattle.std.proofs.lemmas.Option.{slice_get-map, slice_get_within}
use Rattle.qv_words.specs.declared.sort.Sort.{Sort}
use Rattle.qv_words.specs.Sort.{IsLawful}
use Rattle.qv_words.specs.Op.{truth}
use Rattle.qv_words.specs.Tree.{Tree}
use Rattle.qv_words.specs.Sorted.{with_level}
use Rattle.qv_words.specs.Meaning.{Means}
use Rattle.qv_words.specs.Prenex.{block_at}
use Rattle.qv_words.specs.Problem.{Quantifier, Existential, Universal, other, Place, quantified, closed_from, places_of, places_before, placed_variable}
use Rattle.qv_words.proofs.Leaves.{at_level, past_level, both}
use Rattle.qv_prenex_laws.proofs.Closing.{wants, AreOf, AreTyped, Moves, Closed, Picks, moves-to}
use Rattle.qv_prenex_laws.proofs.Forms.{row_at, VarsOk, behind, same-length}
use Rattle.qv_prenex_laws.proofs.Says.{picks-to}
use Rattle.qv_prenex_laws.proofs.Kept.{AreLawful}
use Rattle.qv_words.proofs.Elements.{in-front}

-- values for places in turn, the first of which has this number, and the number behind them
abbrev pub with_values : (ℕ → Option ℕ) → ℕ → List ℕ → ℕ → Option ℕ
with_values e n [] = e
with_values e n (x ∷ xs) = with_values (with_level e n x) (suc n) xs

abbrev pub past : {A : Type 0} → ℕ → List A → ℕ
past n [] = n
past n (x ∷ xs) = past (suc n) xs

-- values for blocks of places in turn
abbrev pub with_rows : (ℕ → Option ℕ) → ℕ → List (List ℕ) → ℕ → Option ℕ
with_rows e n [] = e
with_rows e n (w ∷ ws) = with_rows (with_values e n w) (past n w) ws

pub past-length : {A : Type 0} (n : ℕ) (xs : List A) → past n xs ≡ n + length xs
past-length n [] = omega arith
past-length n (x ∷ xs) = let k = past-length (suc n) xs in omega (arith, k)

past-same : (n : ℕ) (xs : List ℕ) (b : List Sort) → AreOf xs b → past n xs ≡ past n b
past-same n xs b h =
    let l = same-length xs b h in
    let p = past-length n xs in
    let q = past-length n b in
    omega (arith, l, p, q)

pub places-behind : (b : List Sort) (bs : List (List Sort)) (i : ℕ) → places_before (b ∷ bs) (suc i) ≡ length b + places_before bs i
places-behind b bs i = sum_by-cons (λ n. n) (length b) (map length (take i bs))

-- one quantifier
picks-mean : (e : ℕ → Option ℕ) (n : ℕ) (s : Sort) (body : Tree) (q : Quantifier) (v : Bool) →
    Picks (wants q v) s (λ u. Means [] (with_level e n u) body (truth v)) → Means [] e (quantified q n s body) (truth v)
picks-mean e n s body Existential true h = inl (refl, h)
picks-mean e n s body Existential false h = inr (refl, h)
picks-mean e n s body Universal true h = inl (refl, h)
picks-mean e n s body Universal false h = inr (refl, h)

moves-none : (m : Bool) (P : List ℕ → Type 0) → Moves m [] P → P []
moves-none true P ([], hx, p) = p
moves-none true P (x ∷ xs, hx, p) = absurd hx
moves-none false P h = h [] tt

moves-picks : (m : Bool) (s : Sort) (b : List Sort) (P : List ℕ → Type 0) → Moves m (s ∷ b) P →
    Picks m s (λ u. Moves m b (λ xs. P (u ∷ xs)))
moves-picks true s b P ([], hx, p) = absurd hx
moves-picks true s b P (x ∷ xs, hx, p) = (x, hx.0, (xs, hx.1, p))
moves-picks false s b P h = λ u hu xs hx. h (u ∷ xs) (hu, hx)

abbrev pub place_of : Quantifier → Sort → Place
place_of q s = record { quantifier = q; sort = s }

-- the quantifiers of a block
pub block-means : (q : Quantifier) (v : Bool) (b : List Sort) (rest : List Place) (m : Tree) (e : ℕ → Option ℕ) (n : ℕ) →
    Moves (wants q v) b (λ xs. Means [] (with_values e n xs) (closed_from (past n b) rest m) (truth v)) →
    Means [] e (closed_from n (map (place_of q) b ++ rest) m) (truth v)
block-means q v [] rest m e n h = moves-none (wants q v) (λ xs. Means [] (with_values e n xs) (closed_from n rest m) (truth v)) h
block-means q v (s ∷ b) rest m e n h =
    picks-mean e n s (closed_from (suc n) (map (place_of q) b ++ rest) m) q v
    (picks-to (wants q v) s
    (λ u. Moves (wants q v) b (λ xs. Means [] (with_values e n (u ∷ xs)) (closed_from (past n (s ∷ b)) rest m) (truth v)))
    (λ u. Means [] (with_level e n u) (closed_from (suc n) (map (place_of q) b ++ rest) m) (truth v))
    (λ u hu k. block-means q v b rest m (with_level e n u) (suc n) k)
    (moves-picks (wants q v) s b (λ xs. Means [] (with_values e n xs) (closed_from (past n (s ∷ b)) rest m) (truth v)) h))

-- those of all blocks
pub blocks-mean : (q : Quantifier) (v : Bool) (bs : List (List Sort)) (m : Tree) (e : ℕ → Option ℕ) (n : ℕ) (P : List (List ℕ) → Type 0) →
    ((ws : List (List ℕ)) → AreTyped ws bs → P ws → Means [] (with_rows e n ws) m (truth v)) → Closed q v bs P →
    Means [] e (closed_from n (places_of q bs) m) (truth v)
blocks-mean q v [] m e n P go h = go [] tt h
blocks-mean q v (b ∷ bs) m e n P go h =
    block-means q v b (places_of (other q) bs) m e n
    (moves-to (wants q v) b (λ xs. Closed (other q) v bs (λ ws. P (xs ∷ ws)))
    (λ xs. Means [] (with_values e n xs) (closed_from (past n b) (places_of (other q) bs) m) (truth v))
    (λ xs hx k. blocks-mean (other q) v bs m (with_values e n xs) (past n b) (λ ws. P (xs ∷ ws))
    (λ ws ht p. subst (λ (l : ℕ). Means [] (with_rows (with_values e n xs) l ws) m (truth v)) (past-same n xs b hx)
    (go (xs ∷ ws) (hx, ht) p)) k) h)

-- what values there are
pub values-before : (e : ℕ → Option ℕ) (n : ℕ) (xs : List ℕ) (l : ℕ) → l < n → with_values e n xs l ≡ e l
values-before e n [] l lt = refl
values-before e n (x ∷ xs) l lt =
    values-before (with_level e n x) (suc n) xs l (omega (arith, lt)) ∙ past_level e n x l (ne_eqb l n (λ k. omega (arith, k, lt)))

pub values-at : (e : ℕ → Option ℕ) (n : ℕ) (xs : List ℕ) (j u : ℕ) → slice_get xs j ≡ Some u → with_values e n xs (n + j) ≡ Some u
values-at e n [] j u h = cc
values-at e n (x ∷ xs) zero u h =
    let here : n + 0 ≡ n = omega arith in
    ap (with_values (with_level e n x) (suc n) xs) here ∙ values-before (with_level e n x) (suc n) xs n (omega arith)
    ∙ at_level e n x n (eq-eqb n n refl) ∙ h
values-at e n (x ∷ xs) (suc j) u h =
    let next : n + suc j ≡ suc n + j = omega arith in
    ap (with_values (with_level e n x) (suc n) xs) next ∙ values-at (with_level e n x) (suc n) xs j u h

pub rows-before : (e : ℕ → Option ℕ) (n : ℕ) (ws : List (List ℕ)) (l : ℕ) → l < n → with_rows e n ws l ≡ e l
rows-before e n [] l lt = refl
rows-before e n (w ∷ ws) l lt =
    let p = past-length n w in
    rows-before (with_values e n w) (past n w) ws l (omega (arith, p, lt)) ∙ values-before e n w l lt

pub rows-at : (e : ℕ → Option ℕ) (n : ℕ) (ws : List (List ℕ)) (bs : List (List Sort)) (i j u : ℕ) → AreTyped ws bs →
    slice_get (row_at ws i) j ≡ Some u → with_rows e n ws (n + places_before bs i + j) ≡ Some u
rows-at e n [] bs i j u typed h = cc
rows-at e n (w ∷ ws) [] i j u typed h = absurd typed
rows-at e n (w ∷ ws) (b ∷ bs) zero j u typed h =
    let here : n + 0 + j ≡ n + j = omega arith in
    let within = slice_get_within w j u h in
    let p = past-length n w in
    ap (with_rows (with_values e n w) (past n w) ws) here
    ∙ rows-before (with_values e n w) (past n w) ws (n + j) (omega (arith, p, within)) ∙ values-at e n w j u h
rows-at e n (w ∷ ws) (b ∷ bs) (suc i) j u typed h =
    let l = same-length w b typed.0 in
    let p = past-length n w in
    let q = places-behind b bs i in
    let next : n + places_before (b ∷ bs) (suc i) + j ≡ past n w + places_before bs i + j = omega (arith, l, p, q) in
    ap (with_rows (with_values e n w) (past n w) ws) next ∙ rows-at (with_values e n w) (past n w) ws bs i j u typed.1 h

-- the variables of a form at its places have these values
pub placed-vars : (c : List ℕ) (e : ℕ → Option ℕ) (k : ℕ) (bs : List (List Sort)) (ws : List (List ℕ)) → AreTyped ws bs →
    VarsOk c (with_rows e k ws) (placed_variable k bs) bs ws
placed-vars c e k bs ws typed i j s u hs hu = (rw hs refl, rows-at e k ws bs i j u typed hu)

-- the place of a variable
pub place-at : (q : Quantifier) (bs : List (List Sort)) (i j : ℕ) (s : Sort) → slice_get (block_at bs i) j ≡ Some s →
    IsSomeAnd (slice_get (places_of q bs) (places_before bs i + j)) (λ place. place.sort ≡ s)
place-at q [] i j s h = cc
place-at q (b ∷ bs) zero j s h =
    let here : 0 + j ≡ j = omega arith in
    let there : slice_get (map (place_of q) b) j ≡ Some (place_of q s) = slice_get-map (place_of q) b j ∙ ap (option_map (place_of q)) h in
    rw (here, in-front (map (place_of q) b) (places_of (other q) bs) j (place_of q s) there) refl
place-at q (b ∷ bs) (suc i) j s h =
    let l = length-map b (place_of q) in
    let p = places-behind b bs i in
    let next : places_before (b ∷ bs) (suc i) + j ≡ length (map (place_of q) b) + (places_before bs i + j) = omega (arith, l, p) in
    rw (next, behind (map (place_of q) b) (places_of (other q) bs) (places_before bs i + j)) (place-at (other q) bs i j s h)

-- it is lawful
one-lawful : (b : List Sort) (j : ℕ) (s : Sort) → AllByRecursion IsLawful b → slice_get b j ≡ Some s → IsLawful s
one-lawful [] j s h e = cc
one-lawful (r ∷ b) zero s h e = let same : r ≡ s = cc in subst IsLawful same h.0
one-lawful (r ∷ b) (suc j) s h e = one-lawful b j s h.1 e

pub variable-lawful : (bs : List (List Sort)) (i j : ℕ) (s : Sort) → AreLawful bs → slice_get (block_at bs i) j ≡ Some s → IsLawful s
variable-lawful [] i j s h e = cc
variable-lawful (b ∷ bs) zero j s h e = one-lawful b j s h.0 e
variable-lawful (b ∷ bs) (suc i) j s h e = variable-lawful bs i j s h.1 e

pub places-lawful : (q : Quantifier) (bs : List (List Sort)) → AreLawful bs → AllByRecursion (λ place. IsLawful place.sort) (places_of q bs)
places-lawful q [] h = tt
places-lawful q (b ∷ bs) h =
    both (λ place. IsLawful place.sort) (map (place_of q) b) (places_of (other q) bs) (each b h.0) (places-lawful (other q) bs h.1)
  where
    each : (b : List Sort) → AllByRecursion IsLawful b → AllByRecursion (λ place. IsLawful place.sort) (map (place_of q) b)
    each [] k = tt
    each (s ∷ b) k = (k.0, each b k.1)
