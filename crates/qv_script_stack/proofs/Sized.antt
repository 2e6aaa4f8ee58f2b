-- Levels, and how much they have.
use Rattle.std.proofs.Common.{◌≡◌, ◌≤◌, ◌<◌, ◌-◌, ℕ, zero, suc, Some, List, [], ◌∷◌, ◌++◌, map, length, take, drop, replicate, slice_get, refl, sym, ap, ◌∙◌, append_assoc, length-append, arith}
use Rattle.std.specs.Prelude.{flat_map, reverse}
use Rattle.std.proofs.lemmas.List.{append-nil, reverse-append, take_all}
use Rattle.qv_words.specs.declared.sort.Sort.{Sort}
use Rattle.qv_elab_defs.specs.Scopes.{Entry, Named, Scope, if_constant, constants_of}
use Rattle.qv_script_stack.specs.declared.held.Level.{Level as Start}
use Rattle.qv_script_defs.specs.State.{Assertion, Level, State, levels, in_force, changed_at, in_front}
use Rattle.qv_script_defs.specs.State.{empty as empty_level}
use Rattle.qv_script_stack.specs.Held.{asserted, scope_within, name_at, names_from, size_of, sizes_around, names_around}
use Rattle.qv_script_defs.proofs.Steady.{on_first}

-- assertions in the order in which they were made
flat-append : (xs ys : List Level) → flat_map (λ level. level.assertions) (xs ++ ys) ≡ flat_map (λ level. level.assertions) xs ++ flat_map (λ level. level.assertions) ys
flat-append [] ys = refl
flat-append (x ∷ xs) ys = ap (λ qs. x.assertions ++ qs) (flat-append xs ys) ∙ sym (append_assoc x.assertions (flat_map (λ level. level.assertions) xs) (flat_map (λ level. level.assertions) ys))

pub in-order : (ls : List Level) → flat_map (λ level. level.assertions) (reverse ls) ≡ asserted ls
in-order [] = refl
in-order (l ∷ ls) =
    ap (λ xs. flat_map (λ level. level.assertions) xs) (reverse-append (l ∷ []) ls)
    ∙ flat-append (reverse ls) (l ∷ [])
    ∙ ap (λ xs. xs ++ flat_map (λ level. level.assertions) (l ∷ [])) (in-order ls)
    ∙ ap (λ xs. asserted ls ++ xs) (append-nil l.assertions)

pub in-force : (s : State) → in_force s ≡ map (λ a. a.tree) (asserted (levels s))
in-force s = ap (λ xs. map (λ a. a.tree) xs) (in-order (levels s))

-- an entry more in the innermost level
abbrev pub with_front : List ℕ × Entry → Level → Level
with_front x level = record level { scope = x ∷ level.scope }

pub front-scope : (x : List ℕ × Entry) (o : List Level) (b : Level) → scope_within (on_first (with_front x) (o ++ b ∷ [])) ≡ x ∷ scope_within (o ++ b ∷ [])
front-scope x [] b = refl
front-scope x (l ∷ o) b = refl

pub front-asserted : (x : List ℕ × Entry) (o : List Level) (b : Level) → asserted (on_first (with_front x) (o ++ b ∷ [])) ≡ asserted (o ++ b ∷ [])
front-asserted x [] b = refl
front-asserted x (l ∷ o) b = refl

-- a change of the innermost level leaves those around it
pub changed-names : (change : Level → Level) (s : State) (o : List Level) → s.opened ≡ o → names_around (changed_at change s o).opened (changed_at change s o).bottom ≡ names_around s.opened s.bottom
changed-names change s [] e = ap (λ os. names_around os (change s.bottom)) e ∙ sym (ap (λ os. names_around os s.bottom) e)
changed-names change s (l ∷ o) e = sym (ap (λ os. names_around os s.bottom) e)

pub changed-sizes : (change : Level → Level) (s : State) (o : List Level) → s.opened ≡ o → sizes_around (changed_at change s o).opened (changed_at change s o).bottom ≡ sizes_around s.opened s.bottom
changed-sizes change s [] e = ap (λ os. sizes_around os (change s.bottom)) e ∙ sym (ap (λ os. sizes_around os s.bottom) e)
changed-sizes change s (l ∷ o) e = sym (ap (λ os. sizes_around os s.bottom) e)

pub changed-logic : (change : Level → Level) (s : State) (o : List Level) → (changed_at change s o).logic ≡ s.logic
changed-logic change s [] = refl
changed-logic change s (l ∷ o) = refl

pub changed-success : (change : Level → Level) (s : State) (o : List Level) → (changed_at change s o).success ≡ s.success
changed-success change s [] = refl
changed-success change s (l ∷ o) = refl

pub changed-nested : (change : Level → Level) (s : State) (o : List Level) → (changed_at change s o).nested ≡ s.nested
changed-nested change s [] = refl
changed-nested change s (l ∷ o) = refl

pub changed-begun : (change : Level → Level) (s : State) (o : List Level) → (changed_at change s o).begun ≡ s.begun
changed-begun change s [] = refl
changed-begun change s (l ∷ o) = refl

pub changed-global : (change : Level → Level) (s : State) (o : List Level) → (changed_at change s o).global ≡ s.global
changed-global change s [] = refl
changed-global change s (l ∷ o) = refl

pub changed-options : (change : Level → Level) (s : State) (o : List Level) → (changed_at change s o).options ≡ s.options
changed-options change s [] = refl
changed-options change s (l ∷ o) = refl

pub changed-counts : (change : Level → Level) (s : State) (o : List Level) → (changed_at change s o).counts ≡ s.counts
changed-counts change s [] = refl
changed-counts change s (l ∷ o) = refl

pub changed-last : (change : Level → Level) (s : State) (o : List Level) → (changed_at change s o).last ≡ s.last
changed-last change s [] = refl
changed-last change s (l ∷ o) = refl

pub changed-assumed : (change : Level → Level) (s : State) (o : List Level) → (changed_at change s o).assumed ≡ s.assumed
changed-assumed change s [] = refl
changed-assumed change s (l ∷ o) = refl

pub changed-terms : (change : Level → Level) (s : State) (o : List Level) → (changed_at change s o).terms ≡ s.terms
changed-terms change s [] = refl
changed-terms change s (l ∷ o) = refl

-- entries in front of those of the innermost level
pub fronts-scope : (front : Scope) (o : List Level) (b : Level) → scope_within (on_first (in_front front) (o ++ b ∷ [])) ≡ front ++ scope_within (o ++ b ∷ [])
fronts-scope front [] b = append_assoc front b.scope []
fronts-scope front (l ∷ o) b = append_assoc front l.scope (scope_within (o ++ b ∷ []))

pub fronts-asserted : (front : Scope) (o : List Level) (b : Level) → asserted (on_first (in_front front) (o ++ b ∷ [])) ≡ asserted (o ++ b ∷ [])
fronts-asserted front [] b = refl
fronts-asserted front (l ∷ o) b = refl

-- empty levels more
pub replicate-last : {A : Type 0} (n : ℕ) (x : A) → replicate n x ++ x ∷ [] ≡ x ∷ replicate n x
replicate-last zero x = refl
replicate-last (suc n) x = ap (λ xs. x ∷ xs) (replicate-last n x)

module _ (o : List Level) (b : Level) where
  abbrev more : ℕ → List Level
  more n = (replicate n empty_level ++ o) ++ b ∷ []

  pub more-scope : (n : ℕ) → scope_within (more n) ≡ scope_within (o ++ b ∷ [])
  more-scope zero = refl
  more-scope (suc n) = more-scope n

  pub more-asserted : (n : ℕ) → asserted (more n) ≡ asserted (o ++ b ∷ [])
  more-asserted zero = refl
  more-asserted (suc n) = append-nil (asserted (more n)) ∙ more-asserted n

  more-size : (n : ℕ) → size_of (more n) ≡ size_of (o ++ b ∷ [])
  more-size n = go (asserted (more n)) (asserted (o ++ b ∷ [])) (scope_within (more n)) (scope_within (o ++ b ∷ [])) (more-asserted n) (more-scope n)
    where
      go : (ps qs : List Assertion) (xs ys : Scope) → ps ≡ qs → xs ≡ ys → ◌≡◌ {A = Start} (record { assertions = length ps; named = length (names_from 0 ps); constants = length (constants_of xs) }) (record { assertions = length qs; named = length (names_from 0 qs); constants = length (constants_of ys) })
      go ps qs xs ys e f = cc

  pub more-names : (n : ℕ) → names_around (replicate n empty_level ++ o) b ≡ names_around o b ++ replicate n (length (scope_within (o ++ b ∷ [])))
  more-names zero = sym (append-nil (names_around o b))
  more-names (suc n) =
      let L = length (scope_within (o ++ b ∷ [])) in
      ap (λ ns. ns ++ length (scope_within (more n)) ∷ []) (more-names n)
      ∙ ap (λ xs. (names_around o b ++ replicate n L) ++ length xs ∷ []) (more-scope n)
      ∙ append_assoc (names_around o b) (replicate n L) (L ∷ [])
      ∙ ap (λ ns. names_around o b ++ ns) (replicate-last n L)

  pub more-sizes : (n : ℕ) → sizes_around (replicate n empty_level ++ o) b ≡ sizes_around o b ++ replicate n (size_of (o ++ b ∷ []))
  more-sizes zero = sym (append-nil (sizes_around o b))
  more-sizes (suc n) =
      let S = size_of (o ++ b ∷ []) in
      ap (λ ns. ns ++ size_of (more n) ∷ []) (more-sizes n)
      ∙ ap (λ x. (sizes_around o b ++ replicate n S) ++ x ∷ []) (more-size n)
      ∙ append_assoc (sizes_around o b) (replicate n S) (S ∷ [])
      ∙ ap (λ ns. sizes_around o b ++ ns) (replicate-last n S)

-- how many levels there are
pub names-count : (o : List Level) (b : Level) → length (names_around o b) ≡ length o
names-count [] b = refl
names-count (l ∷ o) b = let rest = names-count o b in let more = length-append (names_around o b) (length (scope_within (o ++ b ∷ [])) ∷ []) in omega arith

pub sizes-count : (o : List Level) (b : Level) → length (sizes_around o b) ≡ length o
sizes-count [] b = refl
sizes-count (l ∷ o) b = let rest = sizes-count o b in let more = length-append (sizes_around o b) (size_of (o ++ b ∷ []) ∷ []) in omega arith

-- what is left below the innermost levels
take-front : {A : Type 0} (xs ys : List A) (n : ℕ) → n ≤ length xs → take n (xs ++ ys) ≡ take n xs
take-front xs ys zero le = refl
take-front [] ys (suc n) le = absurd (omega (arith, le))
take-front (x ∷ xs) ys (suc n) le = ap (λ zs. x ∷ zs) (take-front xs ys n (omega (arith, le)))

get-front : {A : Type 0} (xs ys : List A) (n : ℕ) → n < length xs → slice_get (xs ++ ys) n ≡ slice_get xs n
get-front [] ys n lt = absurd (omega (arith, lt))
get-front (x ∷ xs) ys zero lt = refl
get-front (x ∷ xs) ys (suc n) lt = get-front xs ys n (omega (arith, lt))

get-last : {A : Type 0} (xs : List A) (x : A) (n : ℕ) → n ≡ length xs → slice_get (xs ++ x ∷ []) n ≡ Some x
get-last [] x zero e = refl
get-last [] x (suc n) e = absurd (omega (arith, e))
get-last (y ∷ xs) x zero e = absurd (omega (arith, e))
get-last (y ∷ xs) x (suc n) e = get-last xs x n (omega (arith, e))

module _ (b : Level) where
  pub left-names : (n : ℕ) (o : List Level) → n ≤ length o → names_around (drop n o) b ≡ take (length o - n) (names_around o b)
  left-names zero o le = sym (take_all (length o - 0) (names_around o b) (omega (arith, names-count o b)))
  left-names (suc n) [] le = absurd (omega (arith, le))
  left-names (suc n) (l ∷ o) le =
      left-names n o (omega (arith, le))
      ∙ sym (take-front (names_around o b) (length (scope_within (o ++ b ∷ [])) ∷ []) (length o - n) (omega (arith, names-count o b)))
      ∙ ap (λ m. take m (names_around (l ∷ o) b)) (let e : length o - n ≡ length (l ∷ o) - suc n = omega arith in e)

  pub left-sizes : (n : ℕ) (o : List Level) → n ≤ length o → sizes_around (drop n o) b ≡ take (length o - n) (sizes_around o b)
  left-sizes zero o le = sym (take_all (length o - 0) (sizes_around o b) (omega (arith, sizes-count o b)))
  left-sizes (suc n) [] le = absurd (omega (arith, le))
  left-sizes (suc n) (l ∷ o) le =
      left-sizes n o (omega (arith, le))
      ∙ sym (take-front (sizes_around o b) (size_of (o ++ b ∷ []) ∷ []) (length o - n) (omega (arith, sizes-count o b)))
      ∙ ap (λ m. take m (sizes_around (l ∷ o) b)) (let e : length o - n ≡ length (l ∷ o) - suc n = omega arith in e)

  pub names-at : (n : ℕ) (o : List Level) → suc n ≤ length o → slice_get (names_around o b) (length o - suc n) ≡ Some (length (scope_within (drop (suc n) o ++ b ∷ [])))
  names-at n [] le = absurd (omega (arith, le))
  names-at zero (l ∷ o) le = get-last (names_around o b) (length (scope_within (o ++ b ∷ []))) (length (l ∷ o) - 1) (omega (arith, names-count o b))
  names-at (suc n) (l ∷ o) le =
      ap (λ m. slice_get (names_around (l ∷ o) b) m) (let e : length (l ∷ o) - suc (suc n) ≡ length o - suc n = omega arith in e)
      ∙ get-front (names_around o b) (length (scope_within (o ++ b ∷ [])) ∷ []) (length o - suc n) (omega (arith, le, names-count o b))
      ∙ names-at n o (omega (arith, le))

  pub sizes-at : (n : ℕ) (o : List Level) → suc n ≤ length o → slice_get (sizes_around o b) (length o - suc n) ≡ Some (size_of (drop (suc n) o ++ b ∷ []))
  sizes-at n [] le = absurd (omega (arith, le))
  sizes-at zero (l ∷ o) le = get-last (sizes_around o b) (size_of (o ++ b ∷ [])) (length (l ∷ o) - 1) (omega (arith, sizes-count o b))
  sizes-at (suc n) (l ∷ o) le =
      ap (λ m. slice_get (sizes_around (l ∷ o) b) m) (let e : length (l ∷ o) - suc (suc n) ≡ length o - suc n = omega arith in e)
      ∙ get-front (sizes_around o b) (size_of (o ++ b ∷ []) ∷ []) (length o - suc n) (omega (arith, le, sizes-count o b))
      ∙ sizes-at n o (omega (arith, le))

  -- what the innermost levels have stands behind, and in scopes in front of, what is left
  pub asserted-left : (n : ℕ) (o : List Level) → (rest : List Assertion) × (asserted (o ++ b ∷ []) ≡ asserted (drop n o ++ b ∷ []) ++ rest)
  asserted-left zero o = ([], sym (append-nil (asserted (o ++ b ∷ []))))
  asserted-left (suc n) [] = ([], sym (append-nil (asserted (b ∷ []))))
  asserted-left (suc n) (l ∷ o) =
      let h = asserted-left n o in
      (h.0 ++ l.assertions, ap (λ qs. qs ++ l.assertions) h.1 ∙ append_assoc (asserted (drop n o ++ b ∷ [])) h.0 l.assertions)

  pub scope-left : (n : ℕ) (o : List Level) → (front : Scope) × (scope_within (o ++ b ∷ []) ≡ front ++ scope_within (drop n o ++ b ∷ []))
  scope-left zero o = ([], refl)
  scope-left (suc n) [] = ([], refl)
  scope-left (suc n) (l ∷ o) =
      let h = scope-left n o in
      (l.scope ++ h.0, ap (λ xs. l.scope ++ xs) h.1 ∙ sym (append_assoc l.scope h.0 (scope_within (drop n o ++ b ∷ []))))

-- names of assertions, and constants, of what is left
pub names-left : (n : ℕ) (xs ys : List Assertion) → (rest : List (List ℕ × ℕ)) × (names_from n (xs ++ ys) ≡ names_from n xs ++ rest)
names-left n [] ys = (names_from n ys, refl)
names-left n (x ∷ xs) ys =
    let h = names-left (suc n) xs ys in
    (h.0, ap (λ qs. name_at n x.name ++ qs) h.1 ∙ sym (append_assoc (name_at n x.name) (names_from (suc n) xs) h.0))

pub constants-left : (xs ys : Scope) → (rest : Named Sort) × (constants_of (xs ++ ys) ≡ constants_of ys ++ rest)
constants-left [] ys = ([], sym (append-nil (constants_of ys)))
constants-left (x ∷ xs) ys =
    let h = constants-left xs ys in
    (h.0 ++ if_constant x.0 x.1, ap (λ qs. qs ++ if_constant x.0 x.1) h.1 ∙ append_assoc (constants_of ys) h.0 (if_constant x.0 x.1))
