-- The values of a block put into the closed matrix.
use Rattle.std.proofs.Common.{◌≡◌, ℕ, zero, suc, ◌==◌, false, cond, Some, None, List, [], ◌∷◌, ◌++◌, map, inl, inr, refl, sym, ap, ◌∙◌, subst, append_assoc, slice_get, length, arith}
use Rattle.std.proofs.lemmas.List.{append-nil, length-append}
use Rattle.std.specs.List.{AllZip}
use Rattle.std.proofs.Math.Dec.{eqb-suc-suc}
use Rattle.qv_words.specs.declared.sort.Sort.{Sort}
use Rattle.qv_words.specs.Sort.{IsValueOf}
use Rattle.qv_words.specs.Tree.{Tree}
use Rattle.qv_words.specs.Sorted.{with_level}
use Rattle.qv_words.specs.Meaning.{Means}
use Rattle.qv_words.specs.Problem.{Place, Quantifier, Existential, Universal, other, closed_from}
use Rattle.qv_words.specs.GameLaws.{winning_value}
use Rattle.qv_words.proofs.Winning.{under-same}

-- one more value at the end of a point
not-zero : (l : ℕ) → (suc l == 0) ≡ false
not-zero l = grind arith

zero-not : (l : ℕ) → (0 == suc l) ≡ false
zero-not l = grind arith

both-more : (k l : ℕ) → (suc k == suc l) ≡ (k == l)
both-more k l = eqb-suc-suc k l

one-more : (point : List ℕ) (v l : ℕ) → slice_get (point ++ v ∷ []) l ≡ with_level (slice_get point) (length point) v l
one-more [] v zero = refl
one-more [] v (suc l) = ap (λ b. cond b (Some v) None) (sym (not-zero l))
one-more (x ∷ point) v zero = ap (λ b. cond b (Some v) (Some x)) (sym (zero-not (length point)))
one-more (x ∷ point) v (suc l) = one-more point v l ∙ ap (λ b. cond b (Some v) (slice_get point l)) (sym (both-more l (length point)))

abbrev places : Quantifier → List Sort → List Place
places q sorts = map (λ s. record { quantifier = q; sort = s }) sorts

-- the matrix closed from a point on
abbrev pub ClosedAt : List ℕ → List Place → Tree → ℕ → Type 0
ClosedAt point rest matrix v = Means [] (slice_get point) (closed_from (length point) rest matrix) v

-- a value for the place at a point's end
step : (point : List ℕ) (v w : ℕ) (rest : List Place) (matrix : Tree) → ClosedAt (point ++ v ∷ []) rest matrix w → Means [] (with_level (slice_get point) (length point) v) (closed_from (suc (length point)) rest matrix) w
step point v w rest matrix h =
    let longer : length (point ++ v ∷ []) ≡ suc (length point) = length-append point (v ∷ []) ∙ omega arith in
    under-same (closed_from (suc (length point)) rest matrix) (slice_get (point ++ v ∷ [])) (with_level (slice_get point) (length point) v) w (one-more point v)
    (subst (λ (n : ℕ). Means [] (slice_get (point ++ v ∷ [])) (closed_from n rest matrix) w) longer h)

-- the owner of a block wins by some values of it
pub wins-by : (q : Quantifier) (sorts : List Sort) (values point : List ℕ) (rest : List Place) (matrix : Tree) → AllZip IsValueOf values sorts → ClosedAt (point ++ values) rest matrix (winning_value q) → ClosedAt point (places q sorts ++ rest) matrix (winning_value q)
wins-by q [] [] point rest matrix typed h = subst (λ (ps : List ℕ). ClosedAt ps rest matrix (winning_value q)) (append-nil point) h
wins-by q [] (v ∷ values) point rest matrix typed h = absurd typed
wins-by q (s ∷ sorts) [] point rest matrix typed h = absurd typed
wins-by Existential (s ∷ sorts) (v ∷ values) point rest matrix typed h =
    let longer = subst (λ (ps : List ℕ). ClosedAt ps rest matrix 1) (sym (append_assoc point (v ∷ []) values)) h in
    inl (refl, (v, typed.0, step point v 1 (places Existential sorts ++ rest) matrix (wins-by Existential sorts values (point ++ v ∷ []) rest matrix typed.1 longer)))
wins-by Universal (s ∷ sorts) (v ∷ values) point rest matrix typed h =
    let longer = subst (λ (ps : List ℕ). ClosedAt ps rest matrix 0) (sym (append_assoc point (v ∷ []) values)) h in
    inr (refl, (v, typed.0, step point v 0 (places Universal sorts ++ rest) matrix (wins-by Universal sorts values (point ++ v ∷ []) rest matrix typed.1 longer)))

-- the other player wins against all values of it
pub wins-against : (q : Quantifier) (sorts : List Sort) (point : List ℕ) (rest : List Place) (matrix : Tree) → ((values : List ℕ) → AllZip IsValueOf values sorts → ClosedAt (point ++ values) rest matrix (winning_value q)) → ClosedAt point (places (other q) sorts ++ rest) matrix (winning_value q)
wins-against q [] point rest matrix h = subst (λ (ps : List ℕ). ClosedAt ps rest matrix (winning_value q)) (append-nil point) (h [] tt)
wins-against Existential (s ∷ sorts) point rest matrix h =
    inl (
      refl,
      λ u hu. step point u 1 (places Universal sorts ++ rest) matrix (wins-against Existential sorts (point ++ u ∷ []) rest matrix (λ values typed.
          subst (λ (ps : List ℕ). ClosedAt ps rest matrix 1) (sym (append_assoc point (u ∷ []) values)) (h (u ∷ values) (hu, typed)))),
    )
wins-against Universal (s ∷ sorts) point rest matrix h =
    inr (
      refl,
      λ u hu. step point u 0 (places Existential sorts ++ rest) matrix (wins-against Universal sorts (point ++ u ∷ []) rest matrix (λ values typed.
          subst (λ (ps : List ℕ). ClosedAt ps rest matrix 0) (sym (append_assoc point (u ∷ []) values)) (h (u ∷ values) (hu, typed)))),
    )
