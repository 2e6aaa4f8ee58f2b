-- Steps of loops that put elements behind a list, and first places of lists.
use Rattle.std.proofs.Common.{◌≡◌, ℕ, zero, suc, ◌+◌, ◌<◌, ◌≤◌, Bool, true, false, cond, not, Option, Some, None, List, [], ◌∷◌, ◌++◌, map, length, get_or, take, drop, refl, ap, sym, ◌∙◌, subst, arith}
use Rattle.std.specs.Prelude.{unwrap_or, option_map}
use Rattle.std.specs.List.{insert}
use Rattle.std.proofs.lemmas.List.{drop_more, drop_all, map-append, append_assoc, append-nil}
use Rattle.qv_words.specs.Sums.{put_in}
use Rattle.qv_rewrite_sums.specs.Held.{first_place, place_or_end}

-- what a function makes of what is left of a list, where it puts at most one element in front of
-- what it makes of the others
pub some-step : {B X : Type 0} (F : List X → List B) (part new : List B) (b : Bool) (y : B) (xs : List X) (k : ℕ) (x : X) → k < length xs → x ≡ get_or xs k x → new ≡ part ++ cond b (y ∷ []) [] → F (x ∷ drop (k + 1) xs) ≡ cond b (y ∷ F (drop (k + 1) xs)) (F (drop (k + 1) xs)) → new ++ F (drop (k + 1) xs) ≡ part ++ F (drop k xs)
some-step {B} {X} F part new b y xs k x low at is one = go b is one
  where
    rest : List X
    rest = drop (k + 1) xs

    whole : F (x ∷ rest) ≡ F (drop k xs)
    whole = ap (λ (z : X). F (z ∷ rest)) at ∙ sym (ap F (drop_more xs k x low))

    go : (b : Bool) → new ≡ part ++ cond b (y ∷ []) [] → F (x ∷ rest) ≡ cond b (y ∷ F rest) (F rest) → new ++ F rest ≡ part ++ F (drop k xs)
    go true is one = ap (λ (l : List B). l ++ F rest) is ∙ append_assoc part (y ∷ []) (F rest) ∙ ap (λ (l : List B). part ++ l) (sym one ∙ whole)
    go false is one = ap (λ (l : List B). l ++ F rest) (is ∙ append-nil part) ∙ ap (λ (l : List B). part ++ l) (sym one ∙ whole)

-- one element more of a list that is mapped
pub pushed : {A B X : Type 0} (g : A → B) (h : X → B) (part : List A) (y : A) (xs : List X) (k : ℕ) (x : X) → k < length xs → x ≡ get_or xs k x → g y ≡ h x → map g (part ++ y ∷ []) ++ map h (drop (k + 1) xs) ≡ map g part ++ map h (drop k xs)
pushed {A} {B} {X} g h part y xs k x low at e =
    some-step (map h) (map g part) (map g (part ++ y ∷ [])) true (h x) xs k x low at
    (map-append g part (y ∷ []) ∙ ap (λ (b : B). map g part ++ b ∷ []) e) refl

-- the first place that passes a test
unmapped : (q : Option ℕ) → option_map suc q ≡ None → q ≡ None
unmapped None h = refl
unmapped (Some n) h = absurd (cc)

pub place-found : {X : Type 0} (test : X → Bool) (xs : List X) (k : ℕ) (d : X) → first_place test (take k xs) ≡ None → k < length xs → test (get_or xs k d) ≡ true → first_place test xs ≡ Some k
place-found test [] k d none low is = absurd (omega (arith, low))
place-found test (x ∷ xs) zero d none low is = ap (λ (b : Bool). cond b (Some 0) (option_map suc (first_place test xs))) is
place-found {X} test (x ∷ xs) (suc k) d none low is = go (test x) none (λ h. place-found test xs k d h (omega (arith, low)) is)
  where
    go : (b : Bool) → cond b (Some 0) (option_map suc (first_place test (take k xs))) ≡ None → (first_place test (take k xs) ≡ None → first_place test xs ≡ Some k) → cond b (Some 0) (option_map suc (first_place test xs)) ≡ Some (suc k)
    go true h inner = absurd (cc)
    go false h inner = ap (option_map suc) (inner (unmapped (first_place test (take k xs)) h))

place-steps : {X : Type 0} (test : X → Bool) (ys : List X) (j : ℕ) (d : X) → first_place test (take j ys) ≡ None → j < length ys → test (get_or ys j d) ≡ false → first_place test (take (suc j) ys) ≡ None
place-steps test [] j d h low other = refl
place-steps test (y ∷ ys) zero d h low other = ap (λ (b : Bool). cond b (Some 0) None) other
place-steps {X} test (y ∷ ys) (suc j) d h low other = go (test y) h (λ e. place-steps test ys j d e (omega (arith, low)) other)
  where
    go : (b : Bool) → cond b (Some 0) (option_map suc (first_place test (take j ys))) ≡ None → (first_place test (take j ys) ≡ None → first_place test (take (suc j) ys) ≡ None) → cond b (Some 0) (option_map suc (first_place test (take (suc j) ys))) ≡ None
    go true e inner = absurd (cc)
    go false e inner = ap (option_map suc) (inner (unmapped (first_place test (take j ys)) e))

pub place-more : {X : Type 0} (test : X → Bool) (xs : List X) (k : ℕ) (d : X) → first_place test (take k xs) ≡ None → k < length xs → test (get_or xs k d) ≡ false → first_place test (take (k + 1) xs) ≡ None
place-more test xs k d none low other =
    subst (λ (n : ℕ). first_place test (take n xs) ≡ None) (let one : suc k ≡ k + 1 = omega arith in one) (place-steps test xs k d none low other)

-- an element put in at its place
pub put-at_place : {X Y : Type 0} (before : Y → Y → Bool) (g : X → Y) (x : X) (xs : List X) → map g (insert xs (place_or_end (λ z. not (before (g z) (g x))) xs) x) ≡ put_in before (g x) (map g xs)
put-at_place before g x [] = refl
put-at_place {X} {Y} before g x (y ∷ ys) = go (before (g y) (g x)) (put-at_place before g x ys)
  where
    test : X → Bool
    test = λ z. not (before (g z) (g x))

    over : (q : Option ℕ) → unwrap_or (option_map suc q) (suc (length ys)) ≡ suc (unwrap_or q (length ys))
    over None = refl
    over (Some n) = refl

    go : (b : Bool) → map g (insert ys (place_or_end test ys) x) ≡ put_in before (g x) (map g ys) → map g (insert (y ∷ ys) (unwrap_or (cond (not b) (Some 0) (option_map suc (first_place test ys))) (suc (length ys))) x) ≡ cond b (g y ∷ put_in before (g x) (map g ys)) (g x ∷ g y ∷ map g ys)
    go true h = ap (λ (n : ℕ). map g (insert (y ∷ ys) n x)) (over (first_place test ys)) ∙ ap (λ (l : List Y). g y ∷ l) h
    go false h = refl

-- what is made of a whole list, when nothing is left
pub all-made : {B X : Type 0} (F : List X → List B) (part whole : List B) (xs : List X) (k : ℕ) → length xs ≤ k → F [] ≡ [] → part ++ F (drop k xs) ≡ whole → part ≡ whole
all-made {B} F part whole xs k past none h = sym (append-nil part) ∙ ap (λ (l : List B). part ++ l) (sym (ap F (drop_all k xs past) ∙ none)) ∙ h

-- a list mapped that begins with an element or doesn't
pub map-some : {A B : Type 0} (f : A → B) (b : Bool) (x : A) (xs : List A) → map f (cond b (x ∷ xs) xs) ≡ cond b (f x ∷ map f xs) (map f xs)
map-some f true x xs = refl
map-some f false x xs = refl
