-- The regions of a level and a winner, entry by entry.
use Rattle.std.proofs.Common.{◌≡◌, ℕ, suc, zero, ◌+◌, ◌<◌, Bool, true, false, cond, List, [], ◌∷◌, ◌++◌, length, map, take, get_or, Some, refl, ap, sym, subst, ◌∙◌}
use Rattle.std.specs.Prelude.{All, filter}
use Rattle.std.specs.List.{AllByRecursion, slice_get}
use Rattle.std.proofs.lemmas.List.{take_more, map-append}
use Rattle.std.proofs.lemmas.List.Elements.{recursion_from_All}
use Rattle.std.proofs.lemmas.Option.{slice_get-get_or}
use Rattle.qv_words.specs.Problem.{Quantifier}
use Rattle.qv_words.proofs.Elements.{get-map}
use Rattle.qv_entries.specs.declared.entry.Entry.{Entry}
use Rattle.qv_entries.specs.Rows.{Row, is_row_of, regions_of, row_of}

one-region : (b : Bool) (r : Row) → map (λ (x : Row). x.region) (cond b (r ∷ []) []) ≡ cond b (r.region ∷ []) []
one-region true r = refl
one-region false r = refl

more-regions : (b : Bool) (x : Row) (long short : List Row) (behind : List ℕ) → map (λ (y : Row). y.region) long ≡ map (λ (y : Row). y.region) short ++ behind →
    map (λ (y : Row). y.region) (cond b (x ∷ long) long) ≡ map (λ (y : Row). y.region) (cond b (x ∷ short) short) ++ behind
more-regions true x long short behind rest = ap (λ (ns : List ℕ). x.region ∷ ns) rest
more-regions false x long short behind rest = rest

-- one row more
pub regions-push : (level : ℕ) (winner : Quantifier) (rows : List Row) (r : Row) → regions_of level winner (rows ++ r ∷ []) ≡ regions_of level winner rows ++ cond (is_row_of level winner r) (r.region ∷ []) []
regions-push level winner [] r = one-region (is_row_of level winner r) r
regions-push level winner (x ∷ xs) r =
    more-regions (is_row_of level winner x) x (filter (is_row_of level winner) (xs ++ r ∷ [])) (filter (is_row_of level winner) xs)
    (cond (is_row_of level winner r) (r.region ∷ []) []) (regions-push level winner xs r)

-- one entry more of a list
pub regions-more : (level : ℕ) (winner : Quantifier) (es : List Entry) (k : ℕ) (e : Entry) → k < length es → e ≡ get_or es k e →
    regions_of level winner (map row_of (take (k + 1) es)) ≡ regions_of level winner (map row_of (take k es)) ++ cond (is_row_of level winner (row_of e)) (e.region ∷ []) []
regions-more level winner es k e low at =
    ap (λ (xs : List Entry). regions_of level winner (map row_of xs)) (take_more es k e low ∙ ap (λ (x : Entry). take k es ++ x ∷ []) (sym at))
    ∙ ap (regions_of level winner) (map-append row_of (take k es) (e ∷ []))
    ∙ regions-push level winner (map row_of (take k es)) (row_of e)

-- what holds of each of the regions holds of an entry's that is of the level and the winner
here : (P : ℕ → Type 0) (b : Bool) (x : Row) (rest : List Row) → b ≡ true → AllByRecursion P (map (λ (y : Row). y.region) (cond b (x ∷ rest) rest)) → P x.region
here P true x rest is h = h.0
here P false x rest is h = absurd (cc)

behind : (P : ℕ → Type 0) (b : Bool) (x : Row) (rest : List Row) → AllByRecursion P (map (λ (y : Row). y.region) (cond b (x ∷ rest) rest)) → AllByRecursion P (map (λ (y : Row). y.region) rest)
behind P true x rest h = h.1
behind P false x rest h = h

row-region : (P : ℕ → Type 0) (level : ℕ) (winner : Quantifier) (rows : List Row) (k : ℕ) (r : Row) → AllByRecursion P (regions_of level winner rows) → slice_get rows k ≡ Some r → is_row_of level winner r ≡ true → P r.region
row-region P level winner [] k r h at is = absurd (cc)
row-region P level winner (x ∷ xs) zero r h at is =
    let same : x ≡ r = cc in
    let own : is_row_of level winner x ≡ true = ap (is_row_of level winner) same ∙ is in
    subst (λ (y : Row). P y.region) same (here P (is_row_of level winner x) x (filter (is_row_of level winner) xs) own h)
row-region P level winner (x ∷ xs) (suc k) r h at is =
    row-region P level winner xs k r (behind P (is_row_of level winner x) x (filter (is_row_of level winner) xs) h) at is

pub entry-region : (P : ℕ → Type 0) (level : ℕ) (winner : Quantifier) (es : List Entry) (k : ℕ) (e : Entry) → All P (regions_of level winner (map row_of es)) → k < length es → e ≡ get_or es k e →
    is_row_of level winner (row_of e) ≡ true → P e.region
entry-region P level winner es k e h low at is =
    let there : slice_get es k ≡ Some e = slice_get-get_or es k e low ∙ ap Some (sym at) in
    row-region P level winner (map row_of es) k (row_of e) (recursion_from_All P (regions_of level winner (map row_of es)) h) (get-map row_of es k e there) is
