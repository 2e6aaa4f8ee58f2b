-- The variables of places, and how many bits they have.
use Rattle.std.proofs.Common.{◌≡◌, ℕ, zero, suc, ◌+◌, ◌<◌, ◌^◌, Option, Some, None, List, [], ◌∷◌, length, slice_get, refl, sym, ap, ◌∙◌, subst, arith}
use Rattle.std.specs.List.{All}
use Rattle.std.specs.Prelude.{unwrap_or}
use Rattle.std.proofs.lemmas.List.Elements.{recursion_from_All}
use Rattle.qv_words.specs.declared.sort.Sort.{Sort}
use Rattle.qv_words.specs.declared.sort.Sort.TheVariants.{Bool as BoolSort}
use Rattle.qv_words.specs.Sort.{width_of}
use Rattle.qv_words.specs.Tree.{Tree, Variable}
use Rattle.qv_words.specs.PassLaws.{IsPlain}
use Rattle.qv_words.specs.Skolem.{IsTermOf}
use Rattle.qv_words.specs.Gate.{Lit}
use Rattle.qv_words.specs.Clauses.{Blasted, bits_of, first_blasting}
use Rattle.qv_words.proofs.Elements.{all-weaker}
use Rattle.qv_circuits_laws.specs.ClauseLaws.{blasted, standing}
use Rattle.qv_circuits_laws.specs.Standing.{Placed, Stands}
use Rattle.qv_circuits_laws.proofs.Formed.{circuits-formed}
use Rattle.qv_circuits_laws.proofs.Grounds.{trees-have_sorts}
use Rattle.qv_circuits_laws.proofs.Listed.{formulas-stand}
use Rattle.qv_circuits_laws.proofs.Standing.{bits-found, first-stands}
use Rattle.qv_game_entry_laws.specs.Fixings.{bits_found}
use Rattle.qv_game_entry_laws.specs.PointLaws.{places_from, IsTyped}

-- a place's variable
pub record IsPlaceAt (place : ℕ) (sorts : List Sort) (k : ℕ) (t : Tree) : Type 0 where
  pub sort : Sort
  pub sort_is : slice_get sorts k ≡ Some sort
  pub is : t ≡ Variable (place + k) sort

pub place-at : (place : ℕ) (sorts : List Sort) (k : ℕ) (t : Tree) → slice_get (places_from place sorts) k ≡ Some t → IsPlaceAt place sorts k t
place-at place [] k t e = absurd (cc)
place-at place (s ∷ ss) zero t e =
    let same : t ≡ Variable place s = cc in
    let here : place ≡ place + 0 = omega arith in
    record { sort = s; sort_is = refl; is = same ∙ ap (λ (n : ℕ). Variable n s) here }
place-at place (s ∷ ss) (suc k) t e =
    let more = place-at (suc place) ss k t e in
    let there : suc place + k ≡ place + suc k = omega arith in
    record { sort = more.sort; sort_is = more.sort_is; is = more.is ∙ ap (λ (n : ℕ). Variable n more.sort) there }

pub at-place : (place : ℕ) (sorts : List Sort) (k : ℕ) (s : Sort) → slice_get sorts k ≡ Some s → slice_get (places_from place sorts) k ≡ Some (Variable (place + k) s)
at-place place [] k s e = absurd (cc)
at-place place (r ∷ ss) zero s e =
    let same : r ≡ s = cc in
    let here : place ≡ place + 0 = omega arith in
    ap (λ (u : Sort). Some (Variable place u)) same ∙ ap (λ (n : ℕ). Some (Variable n s)) here
at-place place (r ∷ ss) (suc k) s e =
    let there : suc place + k ≡ place + suc k = omega arith in
    at-place (suc place) ss k s e ∙ ap (λ (n : ℕ). Some (Variable n s)) there

-- a variable has as many bits as its sort
pub bit-count : (formulas : List Tree) → All (λ t. IsTermOf t BoolSort) formulas → (place : ℕ) (s : Sort) (bits : List Lit) → bits_of (blasted formulas) (Variable place s) ≡ Some bits → length bits ≡ width_of s
bit-count formulas terms place s bits e =
    let each = recursion_from_All (λ t. IsTermOf t BoolSort) formulas terms in
    let plain = all-weaker (λ t. IsTermOf t BoolSort) IsPlain formulas (λ t h. record { sorted = h.sorted; free = h.quantifier_free }) each in
    let stands : Stands (standing formulas) = formulas-stand circuits-formed trees-have_sorts first_blasting formulas plain first-stands in
    let k = bits-found (Placed (standing formulas).next) (blasted formulas) (Variable place s) bits stands.known e in
    let same : k.sort ≡ s = let two : Some k.sort ≡ Some s = sym k.is in cc in
    k.word.bit_count ∙ ap width_of same

-- a term that has bits
pub found-bits : (known : List Blasted) (t : Tree) → 0 < length (bits_found known t) → bits_of known t ≡ Some (bits_found known t)
found-bits known t h = go (bits_of known t) h
  where
    go : (o : Option (List Lit)) → 0 < length (unwrap_or o []) → o ≡ Some (unwrap_or o [])
    go None h = absurd (omega (arith, h))
    go (Some x) h = refl

-- the point's values are within the bits of their places
abbrev pub Fit : List Blasted → List Tree → List ℕ → Type 0
Fit known [] values = Unit {0}
Fit known (t ∷ ts) [] = Unit {0}
Fit known (t ∷ ts) (v ∷ vs) = ((x : List Lit) → bits_of known t ≡ Some x → v < 2 ^ length x) × Fit known ts vs

pub typed-fit : (known : List Blasted) → ((place : ℕ) (s : Sort) (bits : List Lit) → bits_of known (Variable place s) ≡ Some bits → length bits ≡ width_of s) → (place : ℕ) (sorts : List Sort) (point : List ℕ) → IsTyped sorts point → Fit known (places_from place sorts) point
typed-fit known count place [] point h = tt
typed-fit known count place (s ∷ ss) [] h = tt
typed-fit known count place (s ∷ ss) (v ∷ vs) h =
    ((λ x e. subst (λ (k : ℕ). v < 2 ^ k) (sym (count place s x e)) h.0), typed-fit known count (suc place) ss vs h.1)
