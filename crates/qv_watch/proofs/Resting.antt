-- Clauses with a true literal, with two that aren't false, with one, and with none.
use Rattle.std.proofs.Common.{◌≡◌, ◌≢◌, ℕ, Bool, true, false, not, ◌&&◌, List, [], ◌∷◌, Some, None, ◌⊎◌, refl, sym, ◌∙◌, ap, subst, inl, inr}
use Rattle.std.specs.List.{list_all}
use Rattle.std.proofs.lemmas.Bool.{cases_Bool, false≢true, not-true, and_parts, and_from, or_left, or_right, or_cases}
use Rattle.std.proofs.lemmas.Option.{none-some}
use Rattle.qv_cnf.specs.Literal.{Literal, negated}
use Rattle.qv_cnf.specs.Refutation.{among, same_literal, open_literals, reading_of}
use Rattle.qv_cnf.specs.declared.readings.Reading.TheVariants.{Falsified, Forced, Useless}
use Rattle.qv_watch.specs.Entries.{Entry, trues, value_of, reading_on}
use Rattle.qv_watch.specs.Table.{HasNoTwice}
use Rattle.qv_watch.proofs.Entering.{same_literal-itself, same_literal-true}
use Rattle.qv_watch.proofs.Readings.{consistent, value_of-false, value_of-true, not_true}

-- one of a longer list is the first or one of the others
pub among_cases : (x : Literal) (xs : List Literal) (l : Literal) → among (x ∷ xs) l ≡ true → (l ≡ x) ⊎ (among xs l ≡ true)
among_cases x xs l h = elim (or_cases (same_literal l x) (among xs l) h) [
  | inl same ↦ inl (same_literal-true l x same)
  | inr later ↦ inr later
]

pub among_first : (x : Literal) (xs : List Literal) → among (x ∷ xs) x ≡ true
among_first x xs = or_left (same_literal x x) (among xs x) (same_literal-itself x)

pub among_later : (x : Literal) (xs : List Literal) (l : Literal) → among xs l ≡ true → among (x ∷ xs) l ≡ true
among_later x xs l h = or_right (same_literal l x) (among xs l) h

-- a literal that isn't false is among the open ones
pub open_among : (set lits : List Literal) (l : Literal) → among lits l ≡ true → among set (negated l) ≡ false → among (open_literals set lits) l ≡ true
open_among set [] l h n = absurd (false≢true h)
open_among set (x ∷ xs) l h n = elim (cases_Bool (among set (negated x))) [
  | inl t ↦ rw t (elim (among_cases x xs l h) [
    | inl same ↦ absurd (false≢true (sym n ∙ ap (λ y. among set (negated y)) same ∙ t))
    | inr later ↦ open_among set xs l later n
  ])
  | inr f ↦ rw f (elim (among_cases x xs l h) [
    | inl same ↦ subst (λ y. among (x ∷ open_literals set xs) y ≡ true) (sym same) (among_first x (open_literals set xs))
    | inr later ↦ among_later x (open_literals set xs) l (open_among set xs l later n)
  ])
]

pub all_same : (x : Literal) (xs : List Literal) (l : Literal) → list_all (same_literal x) xs ≡ true → among xs l ≡ true → l ≡ x
all_same x [] l all h = absurd (false≢true h)
all_same x (y ∷ ys) l all h =
    let parts = and_parts (same_literal x y) (list_all (same_literal x) ys) all in
    elim (among_cases y ys l h) [
      | inl same ↦ same ∙ sym (same_literal-true x y parts.0)
      | inr later ↦ all_same x ys l parts.1 later
    ]

all_one : (x : Literal) (xs : List Literal) (l : Literal) → list_all (same_literal x) xs ≡ true → among (x ∷ xs) l ≡ true → l ≡ x
all_one x xs l all h = elim (among_cases x xs l h) [ inl same ↦ same | inr later ↦ all_same x xs l all later ]

useless-true : (set opens : List Literal) (a : Literal) → among opens a ≡ true → among set a ≡ true → reading_of set opens ≡ Useless
useless-true set [] a h t = absurd (false≢true h)
useless-true set (x ∷ xs) a h t = elim (cases_Bool (list_all (same_literal x) xs && not (among set x))) [
  | inl test ↦
      let parts = and_parts (list_all (same_literal x) xs) (not (among set x)) test in
      let is : a ≡ x = all_one x xs a parts.0 h in
      absurd (false≢true (sym (not-true (among set x) parts.1) ∙ ap (among set) (sym is) ∙ t))
  | inr f ↦ rw f refl
]

useless-two : (set opens : List Literal) (a b : Literal) → among opens a ≡ true → among opens b ≡ true → a ≢ b → reading_of set opens ≡ Useless
useless-two set [] a b h k apart = absurd (false≢true h)
useless-two set (x ∷ xs) a b h k apart = elim (cases_Bool (list_all (same_literal x) xs && not (among set x))) [
  | inl test ↦
      let parts = and_parts (list_all (same_literal x) xs) (not (among set x)) test in
      absurd (apart (all_one x xs a parts.0 h ∙ sym (all_one x xs b parts.0 k)))
  | inr f ↦ rw f refl
]

pub value-false : (es : List Entry) (l : Literal) → value_of es l ≡ Some false → among (trues es) (negated l) ≡ true
value-false es l h = elim (cases_Bool (among (trues es) l)) [
  | inl t ↦ absurd (let e : Some true ≡ Some false = sym (value_of-true es l t) ∙ h in cc)
  | inr f ↦ elim (cases_Bool (among (trues es) (negated l))) [
    | inl n ↦ n
    | inr o ↦ absurd (none-some false (rw (f, o) at h))
  ]
]

pub value-true : (es : List Entry) (l : Literal) → value_of es l ≡ Some true → among (trues es) l ≡ true
value-true es l h = elim (cases_Bool (among (trues es) l)) [
  | inl t ↦ t
  | inr f ↦ elim (cases_Bool (among (trues es) (negated l))) [
    | inl n ↦ absurd (let e : Some false ≡ Some true = sym (value_of-false es l f n) ∙ h in cc)
    | inr o ↦ absurd (none-some true (rw (f, o) at h))
  ]
]

at_sign : (v : ℕ) (b : Bool) → ◌≡◌ {A = Literal} record { variable = v; positive = not (not b) } record { variable = v; positive = b }
at_sign v true = refl
at_sign v false = refl

pub twice_negated : (l : Literal) → negated (negated l) ≡ l
twice_negated l = at_sign l.variable l.positive

-- a true literal isn't false
pub not_both : (es : List Entry) (l : Literal) → HasNoTwice es → among (trues es) (negated l) ≡ true → value_of es l ≡ Some false
not_both es l once n =
    let f : among (trues es) l ≡ false = ap (among (trues es)) (sym (twice_negated l)) ∙ consistent es (negated l) once n in
    value_of-false es l f n

pub not-false : (es : List Entry) (l : Literal) → HasNoTwice es → value_of es l ≢ Some false → among (trues es) (negated l) ≡ false
not-false es l once h = elim (cases_Bool (among (trues es) (negated l))) [ inl n ↦ absurd (h (not_both es l once n)) | inr f ↦ f ]

-- a clause with a true literal is at rest
pub rests-true : (es : List Entry) (lits : List Literal) (l : Literal) → HasNoTwice es → among lits l ≡ true → among (trues es) l ≡ true → reading_on es lits ≡ Useless
rests-true es lits l once own t = useless-true (trues es) (open_literals (trues es) lits) l (open_among (trues es) lits l own (consistent es l once t)) t

-- and so is one with two literals that aren't false
pub rests-two : (es : List Entry) (lits : List Literal) (a b : Literal) → among lits a ≡ true → among lits b ≡ true → a ≢ b → among (trues es) (negated a) ≡ false → among (trues es) (negated b) ≡ false → reading_on es lits ≡ Useless
rests-two es lits a b ours theirs apart f g = useless-two (trues es) (open_literals (trues es) lits) a b (open_among (trues es) lits a ours f) (open_among (trues es) lits b theirs g) apart

none_open : (set lits : List Literal) → ((l : Literal) → among lits l ≡ true → among set (negated l) ≡ true) → open_literals set lits ≡ []
none_open set [] h = refl
none_open set (x ∷ xs) h = rw (h x (among_first x xs)) (none_open set xs (λ l own. h l (among_later x xs l own)))

-- a clause of false literals is false
pub fails : (es : List Entry) (lits : List Literal) → ((l : Literal) → among lits l ≡ true → value_of es l ≡ Some false) → reading_on es lits ≡ Falsified
fails es lits h = ap (reading_of (trues es)) (none_open (trues es) lits (λ l own. value-false es l (h l own)))

-- each literal is this one or isn't open
only_open : (set lits : List Literal) (o : Literal) → among set (negated o) ≡ false → ((l : Literal) → among lits l ≡ true → (l ≡ o) ⊎ (among set (negated l) ≡ true)) → list_all (same_literal o) (open_literals set lits) ≡ true
only_open set [] o unset h = refl
only_open set (x ∷ xs) o unset h =
    let rest = only_open set xs o unset (λ l own. h l (among_later x xs l own)) in
    elim (h x (among_first x xs)) [
      | inl same ↦
          let f : among set (negated x) ≡ false = ap (λ y. among set (negated y)) same ∙ unset in
          rw f (and_from (same_literal o x) (list_all (same_literal o) (open_literals set xs)) (ap (same_literal o) same ∙ same_literal-itself o) rest)
      | inr t ↦ rw t rest
    ]

forced_by : (set opens : List Literal) (o : Literal) → among opens o ≡ true → list_all (same_literal o) opens ≡ true → among set o ≡ false → reading_of set opens ≡ Forced o
forced_by set [] o h all f = absurd (false≢true h)
forced_by set (x ∷ xs) o h all f =
    let parts = and_parts (same_literal o x) (list_all (same_literal o) xs) all in
    let is : o ≡ x = same_literal-true o x parts.0 in
    let rest : list_all (same_literal x) xs ≡ true = subst (λ y. list_all (same_literal y) xs ≡ true) is parts.1 in
    let nor : among set x ≡ false = ap (among set) (sym is) ∙ f in
    rw (rest, nor) (ap Forced (sym is))

-- a clause of literals that aren't open but for one forces that
pub forces_alone : (set lits : List Literal) (o : Literal) → among lits o ≡ true → among set o ≡ false → among set (negated o) ≡ false → ((l : Literal) → among lits l ≡ true → (l ≡ o) ⊎ (among set (negated l) ≡ true)) → reading_of set (open_literals set lits) ≡ Forced o
forces_alone set lits o own f unset h = forced_by set (open_literals set lits) o (open_among set lits o own unset) (only_open set lits o unset h) f

-- and so does one of false literals but for one without a value
pub forces : (es : List Entry) (lits : List Literal) (o : Literal) → HasNoTwice es → among lits o ≡ true → value_of es o ≡ None → ((l : Literal) → among lits l ≡ true → (l ≡ o) ⊎ (value_of es l ≡ Some false)) → reading_on es lits ≡ Forced o
forces es lits o once own none h =
    forces_alone (trues es) lits o own (not_true es o none) (not-false es o once (λ e. none-some false (sym none ∙ e)))
    (λ l its. elim (h l its) [ inl same ↦ inl same | inr f ↦ inr (value-false es l f) ])
