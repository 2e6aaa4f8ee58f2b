-- The literals of the first variables, one after the other.
use Rattle.std.proofs.Common.{◌≡◌, ◌+◌, ◌<◌, ℕ, zero, suc, Bool, false, Some, List, [], ◌∷◌, ◌++◌, flat_map, get_or, length, take, slice_get, refl, sym, ap, ◌∙◌, arith}
use Rattle.std.proofs.lemmas.Option.{slice_get-get_or}
use Rattle.std.proofs.lemmas.Grind.{flat_map-append}
use Rattle.std.proofs.lemmas.List.{append-nil}
use Rattle.qv_qdimacs.specs.Outer.{given}
use Rattle.qv_shell_qdimacs.specs.Texts.{literal_text, literals_text}

-- one more variable with its value
given-more : (vs : List ℕ) (bs : List Bool) (i v : ℕ) (b : Bool) → slice_get vs i ≡ Some v → slice_get bs i ≡ Some b → given (take (suc i) vs) (take (suc i) bs) ≡ given (take i vs) (take i bs) ++ (v, b) ∷ []
given-more [] bs i v b e f = absurd cc
given-more (w ∷ vs) [] i v b e f = absurd cc
given-more (w ∷ vs) (x ∷ bs) zero v b e f =
    let same : w ≡ v = cc in
    let also : x ≡ b = cc in
    ap (λ (u : ℕ). (u, x) ∷ []) same ∙ ap (λ (y : Bool). (v, y) ∷ []) also
given-more (w ∷ vs) (x ∷ bs) (suc i) v b e f = ap (λ (xs : List (ℕ × Bool)). (w, x) ∷ xs) (given-more vs bs i v b e f)

literals-next : (vs : List ℕ) (bs : List Bool) (i v : ℕ) (b : Bool) → slice_get vs i ≡ Some v → slice_get bs i ≡ Some b
    → literals_text (given (take (suc i) vs) (take (suc i) bs)) ≡ literals_text (given (take i vs) (take i bs)) ++ 32 ∷ literal_text v b
literals-next vs bs i v b e f =
    let text = λ (x : ℕ × Bool). 32 ∷ literal_text x.0 x.1 in
    ap literals_text (given-more vs bs i v b e f) ∙ flat_map-append text (given (take i vs) (take i bs)) ((v, b) ∷ [])
    ∙ ap (λ (xs : List ℕ). literals_text (given (take i vs) (take i bs)) ++ xs) (append-nil (32 ∷ literal_text v b))

pub literals-more : (vs : List ℕ) (bs : List Bool) (i : ℕ) → i < length vs → length bs ≡ length vs
    → literals_text (given (take (i + 1) vs) (take (i + 1) bs)) ≡ literals_text (given (take i vs) (take i bs)) ++ 32 ∷ literal_text (get_or vs i 0) (get_or bs i false)
literals-more vs bs i less same =
    let next : i + 1 ≡ suc i = omega arith in
    ap (λ (n : ℕ). literals_text (given (take n vs) (take n bs))) next
    ∙ literals-next vs bs i (get_or vs i 0) (get_or bs i false) (slice_get-get_or vs i 0 less) (slice_get-get_or bs i false (omega (arith, less, same)))
