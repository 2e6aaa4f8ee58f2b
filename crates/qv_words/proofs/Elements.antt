-- Elements of lists by their places, lists side by side, what holds of each element, and values that may be there.
use Rattle.std.proofs.Common.{Bool, true, false, cond, ◌≡◌, ℕ, zero, suc, ◌<◌, ◌≤◌, ◌⊎◌, Option, Some, None, List, [], ◌∷◌, ◌++◌, length, drop, slice_get, refl, sym, ap, subst, inl, inr, arith, ◌+◌, map, ◌∙◌, take}
use Rattle.std.specs.Prelude.{IfSome, IsSomeAnd}
use Rattle.std.specs.List.{AllByRecursion, AllZip}

-- the value that is there
pub some-and : {A : Type 0} (o : Option A) (P : A → Type 0) → IsSomeAnd o P → (x : A) × (o ≡ Some x) × P x
some-and None P h = absurd h
some-and (Some x) P h = (x, refl, h)

-- what holds of it
pub of-some : {A : Type 0} (o : Option A) (P : A → Type 0) (x : A) → o ≡ Some x → IsSomeAnd o P → P x
of-some o P x e h = subst (λ (q : Option _). IsSomeAnd q P) e h

pub of-if_some : {A : Type 0} (o : Option A) (P : A → Type 0) (x : A) → o ≡ Some x → IfSome o P → P x
of-if_some o P x e h = subst (λ (q : Option _). IfSome q P) e h

pub to-some : {A : Type 0} (o : Option A) (P : A → Type 0) (x : A) → o ≡ Some x → P x → IsSomeAnd o P
to-some o P x e h = subst (λ (q : Option _). IsSomeAnd q P) (sym e) h

-- what holds of the value if there is one
pub to-if_some : {A : Type 0} (o : Option A) (P : A → Type 0) → ((x : A) → o ≡ Some x → P x) → IfSome o P
to-if_some None P h = tt
to-if_some (Some x) P h = h x refl

-- nothing is there, or something
pub none-or_some : {A : Type 0} (o : Option A) → (o ≡ None) ⊎ ((x : A) × (o ≡ Some x))
none-or_some None = inl refl
none-or_some (Some x) = inr (x, refl)

-- what holds of each element
pub all-of : {X : Type 0} (P : X → Type 0) (xs : List X) → ((x : X) → P x) → AllByRecursion P xs
all-of P [] h = tt
all-of P (x ∷ xs) h = (h x, all-of P xs h)

pub all-weaker : {X : Type 0} (P Q : X → Type 0) (xs : List X) → ((x : X) → P x → Q x) → AllByRecursion P xs → AllByRecursion Q xs
all-weaker P Q [] go h = tt
all-weaker P Q (x ∷ xs) go h = (go x h.0, all-weaker P Q xs go h.1)

pub all-both_weaker : {X : Type 0} (P Q R : X → Type 0) (xs : List X) → ((x : X) → P x → Q x → R x) → AllByRecursion P xs → AllByRecursion Q xs → AllByRecursion R xs
all-both_weaker P Q R [] go g h = tt
all-both_weaker P Q R (x ∷ xs) go g h = (go x g.0 h.0, all-both_weaker P Q R xs go g.1 h.1)

pub all-none : {X : Type 0} (P : X → Type 0) (xs : List X) → xs ≡ [] → AllByRecursion P xs
all-none P xs e = subst (AllByRecursion P) (sym e) tt

pub all-at : {X : Type 0} (P : X → Type 0) (xs : List X) (n : ℕ) (x : X) → AllByRecursion P xs → slice_get xs n ≡ Some x → P x
all-at P [] n x h e = absurd (cc)
all-at P (y ∷ xs) zero x h e = let same : y ≡ x = cc in subst P same h.0
all-at P (y ∷ xs) (suc n) x h e = all-at P xs n x h.1 e

-- an element of a list is below its length, and each place below it has one
pub found-at : {X : Type 0} (xs : List X) (n : ℕ) → n < length xs → (x : X) × (slice_get xs n ≡ Some x)
found-at [] n h = absurd (omega (arith, h))
found-at (x ∷ xs) zero h = (x, refl)
found-at (x ∷ xs) (suc n) h = found-at xs n (omega (arith, h))

-- one more element behind a list
pub pushed-last : {X : Type 0} (xs : List X) (y : X) → slice_get (xs ++ y ∷ []) (length xs) ≡ Some y
pushed-last [] y = refl
pushed-last (z ∷ xs) y = pushed-last xs y

pub pushed-other : {X : Type 0} (xs : List X) (y : X) (n : ℕ) → (n ≡ length xs → ⊥) → slice_get (xs ++ y ∷ []) n ≡ slice_get xs n
pushed-other [] y zero other = absurd (other refl)
pushed-other [] y (suc n) other = refl
pushed-other (z ∷ xs) y zero other = refl
pushed-other (z ∷ xs) y (suc n) other = pushed-other xs y n (λ e. other (ap suc e))

pub pushed-cases : {X : Type 0} (xs : List X) (y : X) (n : ℕ) (x : X) → slice_get (xs ++ y ∷ []) n ≡ Some x → (slice_get xs n ≡ Some x) ⊎ ((n ≡ length xs) × (y ≡ x))
pushed-cases [] y zero x e = inr (refl, (cc))
pushed-cases [] y (suc n) x e = absurd (cc)
pushed-cases (z ∷ xs) y zero x e = inl e
pushed-cases (z ∷ xs) y (suc n) x e = elim (pushed-cases xs y n x e) [ inl a ↦ inl a | inr b ↦ inr (ap suc b.0, b.1) ]

pub length-pushed : {X : Type 0} (xs : List X) (y : X) → length (xs ++ y ∷ []) ≡ suc (length xs)
length-pushed [] y = refl
length-pushed (z ∷ xs) y = ap suc (length-pushed xs y)

-- the elements from a place on
pub dropped-first : {X : Type 0} (xs : List X) (n : ℕ) (y : X) (ys : List X) → drop n xs ≡ y ∷ ys → (slice_get xs n ≡ Some y) × (drop (suc n) xs ≡ ys)
dropped-first [] zero y ys e = absurd (cc)
dropped-first [] (suc n) y ys e = absurd (cc)
dropped-first (x ∷ xs) zero y ys e = ((cc), (cc))
dropped-first (x ∷ xs) (suc n) y ys e = dropped-first xs n y ys e

pub dropped-at : {X : Type 0} (xs : List X) (n : ℕ) (y : X) → slice_get xs n ≡ Some y → drop n xs ≡ y ∷ drop (suc n) xs
dropped-at [] n y e = absurd (cc)
dropped-at (x ∷ xs) zero y e = cc
dropped-at (x ∷ xs) (suc n) y e = dropped-at xs n y e

pub dropped-all : {X : Type 0} (xs : List X) (n : ℕ) → drop n xs ≡ [] → length xs ≤ n
dropped-all [] n e = omega arith
dropped-all (x ∷ xs) zero e = absurd (cc)
dropped-all (x ∷ xs) (suc n) e = omega (arith, dropped-all xs n e)

pub dropped-none : {X : Type 0} (xs : List X) (n : ℕ) → length xs ≤ n → drop n xs ≡ []
dropped-none [] zero h = refl
dropped-none [] (suc n) h = refl
dropped-none (x ∷ xs) zero h = absurd (omega (arith, h))
dropped-none (x ∷ xs) (suc n) h = dropped-none xs n (omega (arith, h))

-- lists that begin with a list
pub drop-front : {A : Type 0} (xs ys : List A) (n m : ℕ) → m ≡ length xs + n → drop m (xs ++ ys) ≡ drop n ys
drop-front [] ys n m e = let k : m ≡ n = omega (arith, e) in ap (λ i. drop i ys) k
drop-front (x ∷ xs) ys n zero e = absurd (omega (arith, e))
drop-front (x ∷ xs) ys n (suc m) e = drop-front xs ys n m (omega (arith, e))

pub take-front : {A : Type 0} (xs ys : List A) (n m : ℕ) → m ≡ length xs + n → take m (xs ++ ys) ≡ xs ++ take n ys
take-front [] ys n m e = let k : m ≡ n = omega (arith, e) in ap (λ i. take i ys) k
take-front (x ∷ xs) ys n zero e = absurd (omega (arith, e))
take-front (x ∷ xs) ys n (suc m) e = ap (λ zs. x ∷ zs) (take-front xs ys n m (omega (arith, e)))

-- a list at a place behind a list
pub get-behind : {A : Type 0} (xs ys : List A) (n m : ℕ) → m ≡ length xs + n → slice_get (xs ++ ys) m ≡ slice_get ys n
get-behind [] ys n m e = let k : m ≡ n = omega (arith, e) in ap (slice_get ys) k
get-behind (x ∷ xs) ys n zero e = absurd (omega (arith, e))
get-behind (x ∷ xs) ys n (suc m) e = get-behind xs ys n m (omega (arith, e))

pub get-before : {A : Type 0} (xs ys : List A) (n : ℕ) → n < length xs → slice_get (xs ++ ys) n ≡ slice_get xs n
get-before [] ys n h = absurd (omega (arith, h))
get-before (x ∷ xs) ys zero h = refl
get-before (x ∷ xs) ys (suc n) h = get-before xs ys n (omega (arith, h))

pub get-map : {A B : Type 0} (f : A → B) (xs : List A) (n : ℕ) (x : A) → slice_get xs n ≡ Some x → slice_get (map f xs) n ≡ Some (f x)
get-map f [] n x h = absurd cc
get-map f (y ∷ xs) zero x h = let same : y ≡ x = cc in ap (λ z. Some (f z)) same
get-map f (y ∷ xs) (suc n) x h = get-map f xs n x h

-- elements side by side
pub zip-length : {A B : Type 0} (R : A → B → Type 0) (xs : List A) (ys : List B) → AllZip R xs ys → length xs ≡ length ys
zip-length R [] [] h = refl
zip-length R (x ∷ xs) (y ∷ ys) h = let k = zip-length R xs ys h.1 in omega (arith, k)
zip-length R [] (y ∷ ys) h = absurd h
zip-length R (x ∷ xs) [] h = absurd h

pub zip-append : {A B : Type 0} (R : A → B → Type 0) (xs us : List A) (ys vs : List B) → AllZip R xs ys → AllZip R us vs → AllZip R (xs ++ us) (ys ++ vs)
zip-append R [] us [] vs h k = k
zip-append R (x ∷ xs) us (y ∷ ys) vs h k = (h.0, zip-append R xs us ys vs h.1 k)
zip-append R [] us (y ∷ ys) vs h k = absurd h
zip-append R (x ∷ xs) us [] vs h k = absurd h

-- the element beside one
pub zip-at : {A B : Type 0} (R : A → B → Type 0) (xs : List A) (ys : List B) (i : ℕ) (y : B) → AllZip R xs ys → slice_get ys i ≡ Some y → (x : A) × (slice_get xs i ≡ Some x) × R x y
zip-at R [] [] i y h e = absurd cc
zip-at R (x ∷ xs) (z ∷ ys) zero y h e = let same : z ≡ y = cc in (x, refl, subst (R x) same h.0)
zip-at R (x ∷ xs) (z ∷ ys) (suc i) y h e = zip-at R xs ys i y h.1 e
zip-at R [] (z ∷ ys) i y h e = absurd h
zip-at R (x ∷ xs) [] i y h e = absurd h

pub zip-map : {A B C : Type 0} (R : A → C → Type 0) (f : B → C) (xs : List A) (ys : List B) → AllZip (λ x y. R x (f y)) xs ys → AllZip R xs (map f ys)
zip-map R f [] [] h = tt
zip-map R f (x ∷ xs) (y ∷ ys) h = (h.0, zip-map R f xs ys h.1)
zip-map R f [] (y ∷ ys) h = absurd h
zip-map R f (x ∷ xs) [] h = absurd h

pub get-take : {A : Type 0} (xs : List A) (n l : ℕ) (x : A) → l < n → slice_get xs l ≡ Some x → slice_get (take n xs) l ≡ Some x
get-take [] n l x h e = absurd cc
get-take (y ∷ xs) zero l x h e = absurd (omega (arith, h))
get-take (y ∷ xs) (suc n) zero x h e = e
get-take (y ∷ xs) (suc n) (suc l) x h e = get-take xs n l x (omega (arith, h)) e

pub take-length : {A : Type 0} (xs : List A) (n : ℕ) → n ≤ length xs → length (take n xs) ≡ n
take-length xs zero h = refl
take-length [] (suc n) h = absurd (omega (arith, h))
take-length (x ∷ xs) (suc n) h = let k = take-length xs n (omega (arith, h)) in omega (arith, k)

pub get-taken : {A : Type 0} (xs : List A) (n l : ℕ) (x : A) → slice_get (take n xs) l ≡ Some x → slice_get xs l ≡ Some x
get-taken [] n l x e = absurd (nothing n e)
  where
    nothing : {A : Type 0} {x : A} (n : ℕ) → slice_get (take n []) l ≡ Some x → ⊥
    nothing zero k = cc
    nothing (suc n) k = cc
get-taken (y ∷ xs) zero l x e = absurd cc
get-taken (y ∷ xs) (suc n) zero x e = e
get-taken (y ∷ xs) (suc n) (suc l) x e = get-taken xs n l x e

pub zip-more : {A B : Type 0} (R S : A → B → Type 0) → ((a : A) (b : B) → R a b → S a b) → (xs : List A) (ys : List B) → AllZip R xs ys → AllZip S xs ys
zip-more R S more [] [] h = tt
zip-more R S more (x ∷ xs) (y ∷ ys) h = (more x y h.0, zip-more R S more xs ys h.1)
zip-more R S more [] (y ∷ ys) h = absurd h
zip-more R S more (x ∷ xs) [] h = absurd h

pub in-front : {A : Type 0} (xs ys : List A) (j : ℕ) (x : A) → slice_get xs j ≡ Some x → slice_get (xs ++ ys) j ≡ Some x
in-front [] ys j x h = absurd cc
in-front (y ∷ xs) ys zero x h = h
in-front (y ∷ xs) ys (suc j) x h = in-front xs ys j x h

pub take-one : {A : Type 0} (xs : List A) (n : ℕ) (x : A) → slice_get xs n ≡ Some x → take (suc n) xs ≡ take n xs ++ x ∷ []
take-one [] n x h = absurd cc
take-one (y ∷ xs) zero x h = let same : y ≡ x = cc in ap (λ z. z ∷ []) same ∙ refl
take-one (y ∷ xs) (suc n) x h = ap (λ ys. y ∷ ys) (take-one xs n x h)

-- what holds of each element, twice
pub all-both : {X : Type 0} (P Q : X → Type 0) (xs : List X) → AllByRecursion P xs → AllByRecursion Q xs → AllByRecursion (λ x. P x × Q x) xs
all-both P Q [] g h = tt
all-both P Q (x ∷ xs) g h = ((g.0, h.0), all-both P Q xs g.1 h.1)

-- what holds of both of a choice
pub either : {X : Type 0} (P : X → Type 0) (b : Bool) (x y : X) → P x → P y → P (cond b x y)
either P true x y h k = h
either P false x y h k = k
