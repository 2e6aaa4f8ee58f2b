-- Which literals were assumed.
use Rattle.std.proofs.Common.{◌≡◌, ◌≢◌, ◌⊎◌, ℕ, zero, suc, ℤ, ◌+◌, ◌<◌, ◌≤◌, Bool, true, false, List, [], ◌∷◌, ◌++◌, length, take, Option, Some, None, All, refl, sym, ◌∙◌, ap, subst, arith, inl, inr}
use Rattle.std.specs.Prelude.{IsSome}
use Rattle.std.specs.List.{slice_get, list_all, AllByRecursion}
use Rattle.std.proofs.lemmas.Bool.{and_parts, and_from, or_cases, or_left, or_right, false≢true}
use Rattle.std.proofs.lemmas.List.Elements.{recursion_from_All, All-weaker}
use Rattle.std.proofs.lemmas.Option.{none-some, same_Some}
use Rattle.qv_cnf.specs.Listing.{Numbered}
use Rattle.qv_cnf.specs.Literal.{Literal}
use Rattle.qv_cnf.specs.Refutation.{among, same_literal, IsRup}
use Rattle.qv_watch.specs.Entries.{Entry, trues, value_of}
use Rattle.qv_watch.specs.TrailState.{Continues, TrailState}
use Rattle.qv_watch.specs.declared.propagation.Propagated.{Propagated}
use Rattle.qv_watch.proofs.Entering.{same_literal-true}
use Rattle.qv_sat.specs.Deciding.{AllWithin, AssumedFirst, IsDue, IsFailedOn, MayDecide, NoModelWith}
use Rattle.qv_sat.specs.Marking.{IsDecision}
use Rattle.qv_sat.proofs.Entries.{get_take}

-- an element of two lists is one of the first, or of the second
pub get_append : {X : Type 0} (xs ys : List X) (k : ℕ) (x : X) → slice_get (xs ++ ys) k ≡ Some x → (slice_get xs k ≡ Some x) ⊎ ((length xs ≤ k) × (j : ℕ) × (slice_get ys j ≡ Some x))
get_append [] ys k x h = inr (omega arith, k, h)
get_append (y ∷ xs) ys zero x h = inl h
get_append (y ∷ xs) ys (suc k) x h = elim (get_append xs ys k x h) [
  | inl old ↦ inl old
  | inr new ↦ inr (omega (arith, new.0), new.1, new.2)
]

-- the front of the first list
pub take_append : {X : Type 0} (xs ys : List X) (k : ℕ) (x : X) → slice_get xs k ≡ Some x → take k (xs ++ ys) ≡ take k xs
take_append [] ys k x h = absurd (none-some x h)
take_append (y ∷ xs) ys zero x h = refl
take_append {X = X} (y ∷ xs) ys (suc k) x h = ap (λ (zs : List X). y ∷ zs) (take_append xs ys k x h)

-- what holds of each element holds of the one at a place
pub get_all : {X : Type 0} (P : X → Type 0) (xs : List X) (k : ℕ) (x : X) → AllByRecursion P xs → slice_get xs k ≡ Some x → P x
get_all P [] k x all h = absurd (none-some x h)
get_all P (y ∷ ys) zero x all h = subst P (same_Some y x h) all.0
get_all P (y ∷ ys) (suc k) x all h = get_all P ys k x all.1 h

-- derived literals
pub AssumedFirst-derived : (level : ℕ) (assumptions : List Literal) (old new : List Entry) → Continues level old new → AssumedFirst assumptions old → AssumedFirst assumptions new
AssumedFirst-derived level assumptions old new c first k e there assumed =
    let at : slice_get (old ++ c.more) k ≡ Some e = ap (λ (es : List Entry). slice_get es k) (sym c.behind) ∙ there in
    elim (get_append old c.more k e at) [
      | inl before ↦
          let front : take k new ≡ take k old = ap (take k) c.behind ∙ take_append old c.more k e before in
          subst (λ (es : List Entry). IsDue assumptions es e) (sym front) (first k e before assumed)
      | inr later ↦
          let derived = get_all (λ (x : Entry). (x.level ≡ level) × IsSome x.reason) c.more later.1 e (recursion_from_All (λ (x : Entry). (x.level ≡ level) × IsSome x.reason) c.more c.each) later.2 in
          absurd (let no : IsSome {T = ℕ} None = subst (λ (o : Option ℕ). IsSome o) assumed derived.1 in false≢true no)
    ]

-- a literal is assumed that is an assumption, or all assumptions are true
pub AssumedFirst-push : (assumptions : List Literal) (es : List Entry) (e : Entry) → AssumedFirst assumptions es → IsDue assumptions es e → AssumedFirst assumptions (es ++ e ∷ [])
AssumedFirst-push assumptions es e first may k x there assumed =
    elim (get_append es (e ∷ []) k x there) [
      | inl before ↦
          subst (λ (ys : List Entry). IsDue assumptions ys x) (sym (take_append es (e ∷ []) k x before)) (first k x before assumed)
      | inr later ↦ last es e k x there later.0 may
    ]
  where
    last_here : {X : Type 0} (xs : List X) (y : X) (k : ℕ) (x : X) → slice_get (xs ++ y ∷ []) k ≡ Some x → length xs ≤ k → (y ≡ x) × (take k (xs ++ y ∷ []) ≡ xs)
    last_here [] y zero x h low = (same_Some y x h, refl)
    last_here [] y (suc k) x h low = absurd (none-some x h)
    last_here (z ∷ xs) y zero x h low = absurd (omega arith)
    last_here (z ∷ xs) y (suc k) x h low = let r = last_here xs y k x h (omega arith) in (r.0, ap (λ zs. z ∷ zs) r.1)

    last : (es : List Entry) (e : Entry) (k : ℕ) (x : Entry) → slice_get (es ++ e ∷ []) k ≡ Some x → length es ≤ k → IsDue assumptions es e → IsDue assumptions (take k (es ++ e ∷ [])) x
    last es e k x there low may =
        let r = last_here es e k x there low in
        subst (λ (ys : List Entry). IsDue assumptions ys x) (sym r.1)
        (subst (λ (y : Entry). IsDue assumptions es y) r.0 may)

-- the first entries
pub AssumedFirst-front : (assumptions : List Literal) (es : List Entry) (n : ℕ) → AssumedFirst assumptions es → AssumedFirst assumptions (take n es)
AssumedFirst-front assumptions es n first k e there assumed =
    let at = get_take es n k e there in
    subst (λ (ys : List Entry). IsDue assumptions ys e) (sym (front es n k at.0)) (first k e at.1 assumed)
  where
    front : {X : Type 0} (xs : List X) (n k : ℕ) → k < n → take k (take n xs) ≡ take k xs
    front xs zero k h = absurd (omega arith)
    front [] (suc n) zero h = refl
    front [] (suc n) (suc k) h = refl
    front (x ∷ xs) (suc n) zero h = refl
    front (x ∷ xs) (suc n) (suc k) h = ap (λ zs. x ∷ zs) (front xs n k (omega arith))

-- the room and the clauses stay
decides_on : (old new : TrailState) (assumptions : List Literal) (variables : ℕ) → MayDecide old assumptions variables → new.room ≡ old.room → new.clauses ≡ old.clauses → AssumedFirst assumptions new.entries → MayDecide new assumptions variables
decides_on old new assumptions variables d room clauses first = record {
  room = room ∙ d.room;
  most = d.most;
  clauses = subst (AllWithin variables) (sym clauses) d.clauses;
  within = d.within;
  first = first;
}

-- after a decision
pub MayDecide-assume : (old new : TrailState) (assumptions : List Literal) (variables : ℕ) (e : Entry) → MayDecide old assumptions variables → new ≡ record { room = old.room; clauses = old.clauses; entries = old.entries ++ e ∷ []; level = old.level + 1; answer = None } → IsDue assumptions old.entries e → MayDecide new assumptions variables
MayDecide-assume old new assumptions variables e d is may =
    let first : AssumedFirst assumptions new.entries = subst (λ (t : TrailState). AssumedFirst assumptions t.entries) (sym is) (AssumedFirst-push assumptions old.entries e d.first may) in
    decides_on old new assumptions variables d (ap (λ (t : TrailState). t.room) is) (ap (λ (t : TrailState). t.clauses) is) first

-- after propagation
pub MayDecide-derived : (old new : TrailState) (assumptions : List Literal) (variables : ℕ) (answer : Option Propagated) → MayDecide old assumptions variables → new ≡ record { room = old.room; clauses = old.clauses; entries = new.entries; level = old.level; answer = answer } → Continues old.level old.entries new.entries → MayDecide new assumptions variables
MayDecide-derived old new assumptions variables answer d is goes_on =
    decides_on old new assumptions variables d (ap (λ (t : TrailState). t.room) is) (ap (λ (t : TrailState). t.clauses) is) (AssumedFirst-derived old.level assumptions old.entries new.entries goes_on d.first)

-- one of literals that are all true
all_at : (p : Literal → Bool) (lits : List Literal) (l : Literal) → list_all p lits ≡ true → among lits l ≡ true → p l ≡ true
all_at p [] l all h = cc
all_at p (x ∷ xs) l all h =
    let parts = and_parts (p x) (list_all p xs) all in
    elim (or_cases (same_literal l x) (among xs l) h) [
      | inl s ↦ ap p (same_literal-true l x s) ∙ parts.0
      | inr r ↦ all_at p xs l parts.1 r
    ]

pub list_all-from : {X : Type 0} (p : X → Bool) (xs : List X) → AllByRecursion (λ x. p x ≡ true) xs → list_all p xs ≡ true
list_all-from p [] h = refl
list_all-from p (x ∷ xs) h = and_from (p x) (list_all p xs) h.0 (list_all-from p xs h.1)

-- the literals that were assumed before a false assumption are assumptions
decided : (assumptions : List Literal) (es : List Entry) (failed l : Literal) → AssumedFirst assumptions es → among assumptions failed ≡ true → value_of es failed ≡ Some false → (l ≡ failed) ⊎ IsDecision es l → among assumptions l ≡ true
decided assumptions es failed l first among_them f (inl is) = ap (among assumptions) is ∙ among_them
decided assumptions es failed l first among_them f (inr d) =
    elim (first d.0 d.1 d.2 d.3) [
      | inl own ↦ subst (λ (x : Literal). among assumptions x ≡ true) d.4 own.0
      | inr all ↦
          let before : among (trues (take d.0 es)) failed ≡ true = all_at (among (trues (take d.0 es))) assumptions failed all among_them in
          let now : among (trues es) failed ≡ true = front_true es d.0 failed before in
          absurd (let t : value_of es failed ≡ Some true = rw now in let no : Some true ≡ Some false = sym t ∙ f in cc)
    ]
  where
    front_true : (es : List Entry) (n : ℕ) (l : Literal) → among (trues (take n es)) l ≡ true → among (trues es) l ≡ true
    front_true es zero l h = cc
    front_true [] (suc n) l h = cc
    front_true (x ∷ xs) (suc n) l h = elim (or_cases (same_literal l x.lit) (among (trues (take n xs)) l) h) [
      | inl s ↦ or_left (same_literal l x.lit) (among (trues xs) l) s
      | inr r ↦ or_right (same_literal l x.lit) (among (trues xs) l) (front_true xs n l r)
    ]

pub IsFailedOn-core : (clauses : List Numbered) (assumptions core : List Literal) (es : List Entry) (failed : Literal) → AssumedFirst assumptions es → among assumptions failed ≡ true → value_of es failed ≡ Some false → NoModelWith clauses core → All (λ l. (l ≡ failed) ⊎ IsDecision es l) core → core ≢ [] → ((hints : List ℤ) → IsRup clauses [] hints → ⊥) → IsFailedOn clauses assumptions core
IsFailedOn-core clauses assumptions core es failed first among_them f none decisions some no_conflict = record {
  among_assumptions = list_all-from (among assumptions) core (recursion_from_All (λ l. among assumptions l ≡ true) core (All-weaker (λ l. (l ≡ failed) ⊎ IsDecision es l) (λ l. among assumptions l ≡ true) (λ l d. decided assumptions es failed l first among_them f d) core decisions));
  no_model = none;
  some = some;
  no_conflict = no_conflict;
}

-- what holds of each literal holds of one among them
pub among_all : (P : Literal → Type 0) (lits : List Literal) (l : Literal) → AllByRecursion P lits → among lits l ≡ true → P l
among_all P [] l all h = absurd (false≢true h)
among_all P (x ∷ xs) l all h = elim (or_cases (same_literal l x) (among xs l) h) [
  | inl s ↦ subst P (sym (same_literal-true l x s)) all.0
  | inr r ↦ among_all P xs l all.1 r
]
