-- The way down to the term at hand, in a loop that does each term once behind those that it needs:
-- terms on the way wait, each for a smaller one, and none of them is done.
use Rattle.std.proofs.Common.{◌≡◌, ◌≢◌, ℕ, zero, suc, ◌+◌, ◌*◌, ◌<◌, ◌≤◌, inl, inr, Bool, true, false, List, [], ◌∷◌, ◌++◌, nat_eq, cond, refl, sym, ap, ◌∙◌, subst, arith}
use Rattle.std.specs.List.{AllByRecursion}
use Rattle.std.proofs.lemmas.Bool.{cases_lt, ne_eqb}

-- one more term is done
pub record IsDoneNext (done next : ℕ → Bool) (id : ℕ) : Type 0 where
  pub here : next id ≡ true
  pub others : (q : ℕ) → nat_eq id q ≡ false → next q ≡ done q

elsewhere : (done next : ℕ → Bool) (id q : ℕ) → IsDoneNext done next id → q ≢ id → next q ≡ done q
elsewhere done next id q u h = u.others q (ne_eqb id q (λ e. h (sym e)))

-- a term that isn't done, of which P holds
pub record IsOpen (P : ℕ → Type 0) (done : ℕ → Bool) (n id : ℕ) : Type 0 where
  pub below : id < n
  pub holds : P id
  pub missing : done id ≡ false

abbrev pub AreOpen : (ℕ → Type 0) → (ℕ → Bool) → ℕ → List ℕ → Type 0
AreOpen P done n [] = Unit {0}
AreOpen P done n (x ∷ xs) = IsOpen P done n x × AllByRecursion (λ y. y < x) xs × AreOpen P done n xs

abbrev pub first_of : List ℕ → ℕ → ℕ
first_of [] id = id
first_of (x ∷ xs) id = x

pub record IsDown (P : ℕ → Type 0) (done : ℕ → Bool) (n : ℕ) (waiting : List ℕ) (id root : ℕ) : Type 0 where
  pub from_root : first_of waiting id ≡ root
  pub open_ones : AreOpen P done n (waiting ++ id ∷ [])

first-push : (xs : List ℕ) (id kid : ℕ) → first_of (xs ++ id ∷ []) kid ≡ first_of xs id
first-push [] id kid = refl
first-push (x ∷ xs) id kid = refl

last-below : (x : ℕ) (xs : List ℕ) (id : ℕ) → AllByRecursion (λ y. y < x) (xs ++ id ∷ []) → id < x
last-below x [] id h = h.0
last-below x (y ∷ xs) id h = last-below x xs id h.1

all-push : (x : ℕ) (xs : List ℕ) (kid : ℕ) → AllByRecursion (λ y. y < x) xs → kid < x → AllByRecursion (λ y. y < x) (xs ++ kid ∷ [])
all-push x [] kid h k = (k, tt)
all-push x (y ∷ xs) kid h k = (h.0, all-push x xs kid h.1 k)

all-pop : (x : ℕ) (xs : List ℕ) (id : ℕ) → AllByRecursion (λ y. y < x) (xs ++ id ∷ []) → AllByRecursion (λ y. y < x) xs
all-pop x [] id h = tt
all-pop x (y ∷ xs) id h = (h.0, all-pop x xs id h.1)

below-each : (x y kid : ℕ) → kid < y → y < x → kid < x
below-each x y kid h k = omega (arith, h, k)

module _ (P : ℕ → Type 0) (n : ℕ) where
  way-push : (done : ℕ → Bool) (xs : List ℕ) (id kid : ℕ) → AreOpen P done n (xs ++ id ∷ []) → kid < id → IsOpen P done n kid → AreOpen P done n ((xs ++ id ∷ []) ++ kid ∷ [])
  way-push done [] id kid h less new = (h.0, (less, tt), (new, tt, tt))
  way-push done (x ∷ xs) id kid h less new =
      (h.0, all-push x (xs ++ id ∷ []) kid h.1 (below-each x id kid less (last-below x xs id h.1)), way-push done xs id kid h.2 less new)

  way-last : (done : ℕ → Bool) (xs : List ℕ) (id : ℕ) → AreOpen P done n (xs ++ id ∷ []) → IsOpen P done n id
  way-last done [] id h = h.0
  way-last done (x ∷ xs) id h = way-last done xs id h.2

  way-pop : (done next : ℕ → Bool) (xs : List ℕ) (id : ℕ) → IsDoneNext done next id → AreOpen P done n (xs ++ id ∷ []) → AreOpen P next n xs
  way-pop done next [] id u h = tt
  way-pop done next (x ∷ xs) id u h =
      let less = last-below x xs id h.1 in
      let other : x ≢ id = λ e. omega (arith, less, e) in
      (record { below = h.0.below; holds = h.0.holds; missing = elsewhere done next id x u other ∙ h.0.missing }, all-pop x xs id h.1, way-pop done next xs id u h.2)

  pub down-at : (done : ℕ → Bool) (waiting : List ℕ) (id root : ℕ) → IsDown P done n waiting id root → IsOpen P done n id
  down-at done waiting id root d = way-last done waiting id d.open_ones

  pub down-start : (done : ℕ → Bool) (waiting : List ℕ) (root : ℕ) → waiting ≡ [] → IsOpen P done n root → IsDown P done n waiting root root
  down-start done waiting root e new =
      subst (λ (xs : List ℕ). IsDown P done n xs root root) (sym e) (record { from_root = refl; open_ones = (new, tt, tt) })

  pub down-push : (done : ℕ → Bool) (waiting longer : List ℕ) (id kid root : ℕ) → longer ≡ waiting ++ id ∷ [] → IsDown P done n waiting id root → kid < id → P kid → done kid ≡ false → IsDown P done n longer kid root
  down-push done waiting longer id kid root e d less holds missing =
      let at = down-at done waiting id root d in
      let inside : kid < n = omega (arith, less, at.below) in
      subst (λ (xs : List ℕ). IsDown P done n xs kid root) (sym e) (record {
        from_root = first-push waiting id kid ∙ d.from_root;
        open_ones = way-push done waiting id kid d.open_ones less (record { below = inside; holds = holds; missing = missing });
      })

  pub down-pop : (done next : ℕ → Bool) (waiting rest : List ℕ) (id parent root : ℕ) → waiting ≡ rest ++ parent ∷ [] → IsDoneNext done next id → IsDown P done n waiting id root → IsDown P next n rest parent root
  down-pop done next waiting rest id parent root e u d = record {
    from_root = sym (first-push rest parent id) ∙ ap (λ (xs : List ℕ). first_of xs id) (sym e) ∙ d.from_root;
    open_ones = subst (AreOpen P next n) e (way-pop done next waiting id u d.open_ones);
  }

  pub down-end : (done : ℕ → Bool) (waiting : List ℕ) (id root : ℕ) → waiting ≡ [] → IsDown P done n waiting id root → id ≡ root
  down-end done waiting id root e d = ap (λ (xs : List ℕ). first_of xs id) (sym e) ∙ d.from_root

-- how many of the first numbers aren't done
unfoldable pub undone : (ℕ → Bool) → ℕ → ℕ
undone done zero = 0
undone done (suc n) = undone done n + cond (done n) 0 1

undone-below : (done next : ℕ → Bool) (id n : ℕ) → IsDoneNext done next id → n ≤ id → undone next n ≡ undone done n
unfolding undone
undone-below done next id zero u h = refl
undone-below done next id (suc n) u h =
    let other : n ≢ id = λ e. omega (arith, h, e) in
    let below = undone-below done next id n u (omega (arith, h)) in
    ap (λ x. x + cond (next n) 0 1) below ∙ ap (λ (b : Bool). undone done n + cond b 0 1) (elsewhere done next id n u other)

undone-less : (done next : ℕ → Bool) (id n : ℕ) → IsDoneNext done next id → done id ≡ false → id < n → undone done n ≡ suc (undone next n)
unfolding undone
undone-less done next id zero u none h = absurd (omega (arith, h))
undone-less done next id (suc n) u none h = elim (cases_lt id n) [
  | inl less ↦
      let other : n ≢ id = λ e. omega (arith, less, e) in
      let fewer = undone-less done next id n u none less in
      let same : ◌≡◌ {A = ℕ} (cond (next n) 0 1) (cond (done n) 0 1) = ap (λ (b : Bool). cond b 0 1) (elsewhere done next id n u other) in
      omega (arith, fewer, same)
  | inr more ↦
      let last : n ≡ id = omega (arith, more, h) in
      let below = undone-below done next id n u (omega (arith, last)) in
      let old : ◌≡◌ {A = ℕ} (cond (done n) 0 1) 1 = ap (λ (b : Bool). cond b 0 1) (ap done last ∙ none) in
      let new : ◌≡◌ {A = ℕ} (cond (next n) 0 1) 0 = ap (λ (b : Bool). cond b 0 1) (ap next last ∙ u.here) in
      omega (arith, below, old, new)
]

-- the work that is left
abbrev pub work : (ℕ → Bool) → ℕ → ℕ → ℕ
work done n id = undone done n * (n + 1) + id

pub work-up : (done next : ℕ → Bool) (n id parent : ℕ) → IsDoneNext done next id → done id ≡ false → id < n → parent < n → work next n parent < work done n id
work-up done next n id parent u none inside above =
    let fewer : undone done n ≡ suc (undone next n) = undone-less done next id n u none inside in
    rw fewer (more (undone next n))
  where
    more : (k : ℕ) → k * (n + 1) + parent < suc k * (n + 1) + id
    more k = omega (arith, above)
