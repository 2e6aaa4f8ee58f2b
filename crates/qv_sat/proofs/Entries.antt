-- The entries of a trail, at their places.
use Rattle.std.proofs.Common.{◌≡◌, ◌≢◌, ℕ, zero, suc, ◌<◌, true, List, [], ◌∷◌, length, take, get_or, Option, Some, None, refl, sym, ◌∙◌, ap, subst, arith, inl, inr}
use Rattle.std.specs.List.{slice_get}
use Rattle.std.proofs.lemmas.Bool.{or_cases}
use Rattle.std.proofs.lemmas.Option.{none-some, same_Some}
use Rattle.qv_cnf.specs.Literal.{Literal}
use Rattle.qv_cnf.specs.Refutation.{among, same_literal}
use Rattle.qv_watch.specs.Entries.{Entry, trues, entry_at, reason_of}
use Rattle.qv_watch.specs.Table.{HasNoTwice}
use Rattle.qv_watch.proofs.Entering.{entry_at-tail, same_literal-itself, same_literal-true, same_literal-variables}

-- a literal that is true has an entry
pub among_at : (es : List Entry) (l : Literal) → among (trues es) l ≡ true → (k : ℕ) × (e : Entry) × (slice_get es k ≡ Some e) × (e.lit ≡ l)
among_at [] l h = cc
among_at (x ∷ xs) l h = elim (or_cases (same_literal l x.lit) (among (trues xs) l) h) [
  | inl s ↦ (0, x, refl, sym (same_literal-true l x.lit s))
  | inr r ↦ let p = among_at xs l r in (suc p.0, p.1, p.2, p.3)
]

-- the entry of a literal of the order
pub entry_there : (es : List Entry) (k : ℕ) (l : Literal) → k < length (trues es) → l ≡ get_or (trues es) k l → (e : Entry) × (slice_get es k ≡ Some e) × (e.lit ≡ l)
entry_there [] k l h at = absurd (omega arith)
entry_there (x ∷ xs) zero l h at = (x, refl, sym at)
entry_there (x ∷ xs) (suc k) l h at = entry_there xs k l (omega arith) at

-- an entry of the front is one of the whole
pub get_take : {X : Type 0} (xs : List X) (n k : ℕ) (x : X) → slice_get (take n xs) k ≡ Some x → (k < n) × (slice_get xs k ≡ Some x)
get_take [] zero k x h = absurd (none-some x h)
get_take [] (suc n) k x h = absurd (none-some x h)
get_take (y ∷ ys) zero k x h = absurd (none-some x h)
get_take (y ∷ ys) (suc n) zero x h = (omega arith, h)
get_take (y ∷ ys) (suc n) (suc k) x h = let p = get_take ys n k x h in (omega (arith, p.0), p.1)

-- no entry is of a variable without an entry
pub entry_at-none_all : (v : ℕ) (es : List Entry) (k : ℕ) (e : Entry) → entry_at v es ≡ None → slice_get es k ≡ Some e → e.lit.variable ≢ v
entry_at-none_all v [] k e h there = absurd (none-some e there)
entry_at-none_all v (x ∷ xs) zero e h there = let same : x ≡ e = same_Some x e there in subst (λ (y : Entry). y.lit.variable ≢ v) same (entry_at-tail v x xs h).0
entry_at-none_all v (x ∷ xs) (suc k) e h there = entry_at-none_all v xs k e (entry_at-tail v x xs h).1 there

-- the reason of an entry's literal
pub reason_at : (es : List Entry) (k : ℕ) (e : Entry) → HasNoTwice es → slice_get es k ≡ Some e → reason_of es e.lit ≡ e.reason
reason_at [] k e once h = absurd (none-some e h)
reason_at (x ∷ xs) zero e once h =
    let same : x ≡ e = same_Some x e h in
    subst (λ (y : Entry). reason_of (y ∷ xs) e.lit ≡ e.reason) (sym same) (rw (same_literal-itself e.lit) refl)
reason_at (x ∷ xs) (suc k) e once h =
    rw (same_literal-variables e.lit x.lit (entry_at-none_all x.lit.variable xs k e once.0 h)) (reason_at xs k e once.1 h)

-- the entry at a place of the order, and its reason
pub entry_in_order : (es : List Entry) (order : List Literal) (k : ℕ) (l : Literal) → order ≡ trues es → k < length order → l ≡ get_or order k l → (e : Entry) × (slice_get es k ≡ Some e) × (e.lit ≡ l)
entry_in_order es order k l is h at = entry_there es k l (subst (λ (xs : List Literal). k < length xs) is h) (subst (λ (xs : List Literal). l ≡ get_or xs k l) is at)

pub reason_in_order : (es : List Entry) (k : ℕ) (e : Entry) (l : Literal) (reason : Option ℕ) → HasNoTwice es → slice_get es k ≡ Some e → e.lit ≡ l → reason ≡ reason_of es l → e.reason ≡ reason
reason_in_order es k e l reason once there is r = sym (reason_at es k e once there) ∙ ap (reason_of es) is ∙ sym r
