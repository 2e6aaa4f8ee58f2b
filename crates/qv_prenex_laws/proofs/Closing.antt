-- Blocks of quantifiers, closed over what holds of their values.
use Rattle.std.proofs.Common.{◌≡◌, ℕ, Bool, true, false, List, [], ◌∷◌, ◌++◌, refl, sym, ap, subst}
use Rattle.std.specs.List.{AllZip}
use Rattle.std.proofs.lemmas.Nat.{pow_pos}
use Rattle.qv_words.specs.declared.sort.Sort.{Sort}
use Rattle.qv_words.specs.Sort.{IsValueOf, width_of}
use Rattle.qv_words.specs.Prenex.{joined_blocks, with_first}
use Rattle.qv_words.specs.Problem.{Quantifier, Existential, Universal, other}

-- whether a player wants this truth value
abbrev pub wants : Quantifier → Bool → Bool
wants Existential v = v
wants Universal true = false
wants Universal false = true

abbrev pub AreOf : List ℕ → List Sort → Type 0
AreOf xs sorts = AllZip IsValueOf xs sorts

-- some values, or all
abbrev pub Moves : Bool → List Sort → (List ℕ → Type 0) → Type 0
Moves true b P = (xs : List ℕ) × AreOf xs b × P xs
Moves false b P = (xs : List ℕ) → AreOf xs b → P xs

-- the blocks, the first of which is of q, closed for the truth value v
abbrev pub Closed : Quantifier → Bool → List (List Sort) → (List (List ℕ) → Type 0) → Type 0
Closed q v [] P = P []
Closed q v (b ∷ bs) P = Moves (wants q v) b (λ xs. Closed (other q) v bs (λ rest. P (xs ∷ rest)))

abbrev pub AreTyped : List (List ℕ) → List (List Sort) → Type 0
AreTyped values blocks = AllZip AreOf values blocks

-- moves with other aims
pub moves-to : (m : Bool) (b : List Sort) (P R : List ℕ → Type 0) → ((xs : List ℕ) → AreOf xs b → P xs → R xs) → Moves m b P → Moves m b R
moves-to true b P R go (xs, hx, p) = (xs, hx, go xs hx p)
moves-to false b P R go h = λ xs hx. go xs hx (h xs hx)

-- what holds of the values may be weakened
pub weaker : (q : Quantifier) (v : Bool) (bs : List (List Sort)) (P R : List (List ℕ) → Type 0) → ((ws : List (List ℕ)) → AreTyped ws bs → P ws → R ws) → Closed q v bs P → Closed q v bs R
weaker q v [] P R go h = go [] tt h
weaker q v (b ∷ bs) P R go h =
    moves-to (wants q v) b (λ xs. Closed (other q) v bs (λ ws. P (xs ∷ ws))) (λ xs. Closed (other q) v bs (λ ws. R (xs ∷ ws)))
    (λ xs hx. weaker (other q) v bs (λ ws. P (xs ∷ ws)) (λ ws. R (xs ∷ ws)) (λ ws ht p. go (xs ∷ ws) (hx, ht) p)) h

-- values of two lists of blocks, block by block
abbrev pub joined_values : List (List ℕ) → List (List ℕ) → List (List ℕ)
joined_values [] ys = ys
joined_values (x ∷ xs) [] = x ∷ xs
joined_values (x ∷ xs) (y ∷ ys) = (x ++ y) ∷ joined_values xs ys

values-append : (xs ys : List ℕ) (a b : List Sort) → AreOf xs a → AreOf ys b → AreOf (xs ++ ys) (a ++ b)
values-append [] ys [] b hx hy = hy
values-append (x ∷ xs) ys (s ∷ a) b hx hy = (hx.0, values-append xs ys a b hx.1 hy)
values-append [] ys (s ∷ a) b hx hy = absurd hx
values-append (x ∷ xs) ys [] b hx hy = absurd hx

-- values of two blocks together, cut in two
values-cut : (zs : List ℕ) (a b : List Sort) → AreOf zs (a ++ b) → (xs : List ℕ) × (ys : List ℕ) × AreOf xs a × AreOf ys b × (xs ++ ys ≡ zs)
values-cut zs [] b h = ([], zs, tt, h, refl)
values-cut [] (s ∷ a) b h = absurd h
values-cut (z ∷ zs) (s ∷ a) b h =
    let r = values-cut zs a b h.1 in
    (z ∷ r.0, r.1, (h.0, r.2), r.3, ap (λ t. z ∷ t) r.4)

joined-nothing : (xs : List (List ℕ)) → xs ≡ joined_values xs []
joined-nothing [] = refl
joined-nothing (x ∷ xs) = refl

moves-both : (m : Bool) (a b : List Sort) (P Q R : List ℕ → Type 0) → ((xs ys : List ℕ) → AreOf xs a → AreOf ys b → P xs → Q ys → R (xs ++ ys)) → Moves m a P → Moves m b Q → Moves m (a ++ b) R
moves-both true a b P Q R go (xs, hx, p) (ys, hy, s) = (xs ++ ys, values-append xs ys a b hx hy, go xs ys hx hy p s)
moves-both false a b P Q R go p s = λ zs hz.
    let c = values-cut zs a b hz in
    subst R c.4 (go c.0 c.1 c.2 c.3 (p c.0 c.2) (s c.1 c.3))

-- two closings for one truth value give the closing of both
pub both-closed : (q : Quantifier) (v : Bool) (as' bs : List (List Sort)) (P Q R : List (List ℕ) → Type 0) →
    ((ws us : List (List ℕ)) → AreTyped ws as' → AreTyped us bs → P ws → Q us → R (joined_values ws us)) →
    Closed q v as' P → Closed q v bs Q → Closed q v (joined_blocks as' bs) R
both-closed q v [] bs P Q R go h k = weaker q v bs Q R (λ us hu s. go [] us tt hu h s) k
both-closed q v (a ∷ as') [] P Q R go h k =
    weaker q v (a ∷ as') P R (λ ws hw p. subst R (sym (joined-nothing ws)) (go ws [] hw tt p k)) h
both-closed q v (a ∷ as') (b ∷ bs) P Q R go h k =
    moves-both (wants q v) a b (λ xs. Closed (other q) v as' (λ ws. P (xs ∷ ws))) (λ ys. Closed (other q) v bs (λ us. Q (ys ∷ us))) (λ zs. Closed (other q) v (joined_blocks as' bs) (λ rest. R (zs ∷ rest)))
    (λ xs ys hx hy. both-closed (other q) v as' bs (λ ws. P (xs ∷ ws)) (λ us. Q (ys ∷ us)) (λ zs. R ((xs ++ ys) ∷ zs)) (λ ws us hw hu p s. go (xs ∷ ws) (ys ∷ us) (hx, hw) (hy, hu) p s))
    h k

-- the least values
zeros : (sorts : List Sort) → (xs : List ℕ) × AreOf xs sorts
zeros [] = ([], tt)
zeros (s ∷ sorts) = let r = zeros sorts in (0 ∷ r.0, (pow_pos (width_of s), r.1))

moves-always : (m : Bool) (b : List Sort) (P : List ℕ → Type 0) → ((xs : List ℕ) → AreOf xs b → P xs) → Moves m b P
moves-always true b P h = let z = zeros b in (z.0, z.1, h z.0 z.1)
moves-always false b P h = h

-- what holds of all values holds closed
pub always : (q : Quantifier) (v : Bool) (bs : List (List Sort)) (P : List (List ℕ) → Type 0) → ((ws : List (List ℕ)) → AreTyped ws bs → P ws) → Closed q v bs P
always q v [] P h = h [] tt
always q v (b ∷ bs) P h =
    moves-always (wants q v) b (λ xs. Closed (other q) v bs (λ ws. P (xs ∷ ws)))
    (λ xs hx. always (other q) v bs (λ ws. P (xs ∷ ws)) (λ ws ht. h (xs ∷ ws) (hx, ht)))

-- one quantifier in front of closings from each of its values: some of them or all
abbrev pub Picks : Bool → Sort → (ℕ → Type 0) → Type 0
Picks true s P = (u : ℕ) × IsValueOf u s × P u
Picks false s P = (u : ℕ) → IsValueOf u s → P u

abbrev pub with_value : ℕ → List (List ℕ) → List (List ℕ)
with_value u [] = (u ∷ []) ∷ []
with_value u (x ∷ xs) = (u ∷ x) ∷ xs

picks-moves : (m : Bool) (s : Sort) (b : List Sort) (P : List ℕ → Type 0) → Picks m s (λ u. Moves m b (λ xs. P (u ∷ xs))) → Moves m (s ∷ b) P
picks-moves true s b P (u, hu, (xs, hx, p)) = (u ∷ xs, (hu, hx), p)
picks-moves false s b P h = λ zs. go zs
  where
    go : (zs : List ℕ) → AreOf zs (s ∷ b) → P zs
    go [] hz = absurd hz
    go (z ∷ zs) hz = h z hz.0 zs hz.1

pub picks-one : (m : Bool) (s : Sort) (P : List ℕ → Type 0) → Picks m s (λ u. P (u ∷ [])) → Moves m (s ∷ []) P
picks-one true s P (u, hu, p) = (u ∷ [], (hu, tt), p)
picks-one false s P h = λ zs. go zs
  where
    go : (zs : List ℕ) → AreOf zs (s ∷ []) → P zs
    go [] hz = absurd hz
    go (z ∷ []) hz = h z hz.0
    go (z ∷ y ∷ zs) hz = absurd hz.1

-- rule 8: one more variable at the front of the first block
pub closed-first : (q : Quantifier) (v : Bool) (s : Sort) (bs : List (List Sort)) (P : List (List ℕ) → Type 0) →
    Picks (wants q v) s (λ u. Closed q v bs (λ ws. P (with_value u ws))) → Closed q v (with_first s bs) P
closed-first q v s [] P h = picks-one (wants q v) s (λ xs. P (xs ∷ [])) h
closed-first q v s (b ∷ bs) P h = picks-moves (wants q v) s b (λ xs. Closed (other q) v bs (λ ws. P (xs ∷ ws))) h

-- a block without variables
pub closed-empty : (q : Quantifier) (v : Bool) (bs : List (List Sort)) (P : List (List ℕ) → Type 0) → Closed (other q) v bs (λ ws. P ([] ∷ ws)) → Closed q v ([] ∷ bs) P
closed-empty q v bs P h = go (wants q v)
  where
    go : (m : Bool) → Moves m [] (λ xs. Closed (other q) v bs (λ ws. P (xs ∷ ws)))
    go true = ([], tt, h)
    go false = λ zs. nothing zs
      where
        nothing : (zs : List ℕ) → AreOf zs [] → Closed (other q) v bs (λ ws. P (zs ∷ ws))
        nothing [] hz = h
        nothing (z ∷ zs) hz = absurd hz
