-- What a clause says where the literals of a set are true.
use Rattle.std.proofs.Common.{◌≡◌, ℕ, Bool, true, not, cond, ◌&&◌, List, [], ◌∷◌, ◌++◌, Some, None, All, refl, sym, ◌∙◌, ap, subst, inl, inr, ◌⊎◌}
use Rattle.std.specs.List.{list_all}
use Rattle.std.proofs.lemmas.Bool.{cases_Bool, and_parts, or_cases, or_left, or_right, false≢true}
use Rattle.std.proofs.lemmas.List.Elements.{All-cons, All-head, All-nil, All-tail}
use Rattle.std.proofs.lemmas.List.Folds.{list_any-append}
use Rattle.qv_cnf.specs.Literal.{Literal, negated}
use Rattle.qv_cnf.specs.Listing.{Numbered, clause_named}
use Rattle.qv_cnf.specs.Refutation.{among, hint_reading, same_literal, open_literals, reading_of}
use Rattle.qv_cnf.specs.declared.readings.Reading.TheVariants.{Falsified, Forced, Useless}
use Rattle.qv_watch.proofs.Resting.{all_same, among_cases, among_first, among_later, open_among}

-- a set with one more literal at the end
pub among-push_old : (xs : List Literal) (x l : Literal) → among xs l ≡ true → among (xs ++ x ∷ []) l ≡ true
among-push_old xs x l h = list_any-append (same_literal l) xs (x ∷ []) ∙ or_left (among xs l) (among (x ∷ []) l) h

pub among-push_new : (xs : List Literal) (x : Literal) → among (xs ++ x ∷ []) x ≡ true
among-push_new xs x = list_any-append (same_literal x) xs (x ∷ []) ∙ or_right (among xs x) (among (x ∷ []) x) (among_first x [])

pub among-push_cases : (xs : List Literal) (x l : Literal) → among (xs ++ x ∷ []) l ≡ true → (among xs l ≡ true) ⊎ (l ≡ x)
among-push_cases xs x l h = elim (or_cases (among xs l) (among (x ∷ []) l) (sym (list_any-append (same_literal l) xs (x ∷ [])) ∙ h)) [
  | inl old ↦ inl old
  | inr new ↦ elim (among_cases x [] l new) [ inl same ↦ inr same | inr none ↦ absurd (false≢true none) ]
]

-- where the open literals force one, each of them is that
pub opens_forced : (set opens : List Literal) (x l : Literal) → reading_of set opens ≡ Forced x → among opens l ≡ true → l ≡ x
opens_forced set [] x l h there = absurd (false≢true there)
opens_forced set (y ∷ ys) x l h there = elim (cases_Bool (list_all (same_literal y) ys && not (among set y))) [
  | inl t ↦
      let parts = and_parts (list_all (same_literal y) ys) (not (among set y)) t in
      let g : Forced y ≡ Forced x = rw t at h in
      let is : y ≡ x = cc in
      elim (among_cases y ys l there) [ inl same ↦ same ∙ is | inr rest ↦ all_same y ys l parts.0 rest ∙ is ]
  | inr f ↦ absurd (let g : Useless ≡ Forced x = rw f at h in cc)
]

pub opens_falsified : (set opens : List Literal) (l : Literal) → reading_of set opens ≡ Falsified → among opens l ≡ true → ⊥
opens_falsified set [] l h there = false≢true there
opens_falsified set (y ∷ ys) l h there = elim (cases_Bool (list_all (same_literal y) ys && not (among set y))) [
  | inl t ↦ let g : Forced y ≡ Falsified = rw t at h in cc
  | inr f ↦ let g : Useless ≡ Falsified = rw f at h in cc
]

-- each literal of a clause that forces one is that, or false
pub forced_others : (set lits : List Literal) (x : Literal) → reading_of set (open_literals set lits) ≡ Forced x → (l : Literal) → among lits l ≡ true → (l ≡ x) ⊎ (among set (negated l) ≡ true)
forced_others set lits x h l there = elim (cases_Bool (among set (negated l))) [
  | inl t ↦ inr t
  | inr f ↦ inl (opens_forced set (open_literals set lits) x l h (open_among set lits l there f))
]

-- each literal of a false clause is false
pub falsified_all : (set lits : List Literal) → reading_of set (open_literals set lits) ≡ Falsified → (l : Literal) → among lits l ≡ true → among set (negated l) ≡ true
falsified_all set lits h l there = elim (cases_Bool (among set (negated l))) [
  | inl t ↦ t
  | inr f ↦ absurd (opens_falsified set (open_literals set lits) l h (open_among set lits l there f))
]

-- and back
pub all_falsified : (set lits : List Literal) → ((l : Literal) → among lits l ≡ true → among set (negated l) ≡ true) → reading_of set (open_literals set lits) ≡ Falsified
all_falsified set [] h = refl
all_falsified set (x ∷ xs) h = rw (h x (among_first x xs)) (all_falsified set xs (λ l there. h l (among_later x xs l there)))

-- two sets have the same of a clause's literals and their negations
abbrev pub Agree : List Literal → List Literal → List Literal → Type 0
Agree a b lits = (l : Literal) → among lits l ≡ true → (among a l ≡ among b l) × (among a (negated l) ≡ among b (negated l))

opens_agree : (a b lits : List Literal) → Agree a b lits → open_literals a lits ≡ open_literals b lits
opens_agree a b [] h = refl
opens_agree a b (x ∷ xs) h =
    let rest = opens_agree a b xs (λ l there. h l (among_later x xs l there)) in
    let first : among a (negated x) ≡ among b (negated x) = (h x (among_first x xs)).1 in
    elim (cases_Bool (among b (negated x))) [
      | inl t ↦ rw (first ∙ t, t) rest
      | inr f ↦ rw (first ∙ f, f) (ap (λ (ys : List Literal). x ∷ ys) rest)
    ]

pub opens_among : (set lits : List Literal) (l : Literal) → among (open_literals set lits) l ≡ true → among lits l ≡ true
opens_among set [] l h = h
opens_among set (x ∷ xs) l h = elim (cases_Bool (among set (negated x))) [
  | inl t ↦ among_later x xs l (opens_among set xs l (rw t at h))
  | inr f ↦ elim (among_cases x (open_literals set xs) l (rw f at h)) [
    | inl same ↦ subst (λ (y : Literal). among (x ∷ xs) y ≡ true) (sym same) (among_first x xs)
    | inr rest ↦ among_later x xs l (opens_among set xs l rest)
  ]
]

opens_read : (a b lits opens : List Literal) → Agree a b lits → ((l : Literal) → among opens l ≡ true → among lits l ≡ true) → reading_of a opens ≡ reading_of b opens
opens_read a b lits [] h within = refl
opens_read a b lits (x ∷ xs) h within =
    let same : among a x ≡ among b x = (h x (within x (among_first x xs))).0 in
    ap (λ (t : Bool). cond (list_all (same_literal x) xs && not t) (Forced x) Useless) same

-- such sets read the clause alike
pub read_alike : (a b lits : List Literal) → Agree a b lits → reading_of a (open_literals a lits) ≡ reading_of b (open_literals b lits)
read_alike a b lits h =
    ap (reading_of a) (opens_agree a b lits h) ∙ opens_read a b lits (open_literals b lits) h (λ l there. opens_among b lits l there)

-- a clause that forces a literal is attached
pub forces_named : (set : List Literal) (clauses : List Numbered) (id : ℕ) (x : Literal) → hint_reading set (clause_named id clauses) ≡ Forced x → (lits : List Literal) × (clause_named id clauses ≡ Some lits) × (reading_of set (open_literals set lits) ≡ Forced x)
forces_named set clauses id x h =
    elim (clause_named id clauses) as (λ o. clause_named id clauses ≡ o → hint_reading set o ≡ Forced x → (lits : List Literal) × (clause_named id clauses ≡ Some lits) × (reading_of set (open_literals set lits) ≡ Forced x)) [
      | None ↦ λ _ g. absurd (let e : Useless ≡ Forced x = g in cc)
      | Some lits ↦ λ is g. (lits, is, g)
    ] refl h

-- a false clause is attached
pub false_named : (set : List Literal) (clauses : List Numbered) (id : ℕ) → hint_reading set (clause_named id clauses) ≡ Falsified → (lits : List Literal) × (clause_named id clauses ≡ Some lits) × (reading_of set (open_literals set lits) ≡ Falsified)
false_named set clauses id h =
    elim (clause_named id clauses) as (λ o. clause_named id clauses ≡ o → hint_reading set o ≡ Falsified → (lits : List Literal) × (clause_named id clauses ≡ Some lits) × (reading_of set (open_literals set lits) ≡ Falsified)) [
      | None ↦ λ _ g. absurd (let e : Useless ≡ Falsified = g in cc)
      | Some lits ↦ λ is g. (lits, is, g)
    ] refl h

-- what holds of each literal holds of one that is there
pub all_among : (P : Literal → Type 0) (xs : List Literal) (l : Literal) → All P xs → among xs l ≡ true → P l
all_among P [] l all h = absurd (false≢true h)
all_among P (x ∷ xs) l all h = elim (among_cases x xs l h) [
  | inl same ↦ subst P (sym same) (All-head P x xs all)
  | inr rest ↦ all_among P xs l (All-tail P x xs all) rest
]

-- and what holds of each that is there holds of all
pub from_among : (P : Literal → Type 0) (xs : List Literal) → ((l : Literal) → among xs l ≡ true → P l) → All P xs
from_among P [] h = All-nil P
from_among P (x ∷ xs) h = All-cons P x xs (h x (among_first x xs)) (from_among P xs (λ l there. h l (among_later x xs l there)))
