-- The values of a settled trail that has a value for each variable.
use Rattle.std.proofs.Common.{◌≡◌, ◌≢◌, ℕ, ◌≤◌, Bool, true, false, not, List, [], ◌∷◌, length, Some, None, All, refl, sym, ◌∙◌, ap, inl, inr}
use Rattle.std.specs.List.{list_all, list_any, AllByRecursion}
use Rattle.std.proofs.lemmas.Bool.{cases_Bool, and_parts, and_from, or_left, or_right}
use Rattle.std.proofs.lemmas.List.Elements.{recursion_from_All}
use Rattle.qv_cnf.specs.Listing.{Numbered, clause_named}
use Rattle.qv_cnf.specs.Literal.{Literal, negated}
use Rattle.qv_cnf.specs.Refutation.{among, hint_reading}
use Rattle.qv_cnf.specs.declared.readings.Reading.TheVariants.{Useless}
use Rattle.qv_cnf.specs.Truth.{literal_value}
use Rattle.qv_watch.specs.Entries.{Entry, trues, value_of, reading_on, IsSettled}
use Rattle.qv_watch.specs.Table.{HasNoTwice}
use Rattle.qv_watch.proofs.Readings.{consistent, value_of-open}
use Rattle.qv_sat.specs.Answering.{assignment}
use Rattle.qv_sat.specs.Deciding.{AllWithin, IsFoundOn, IsWithin}

-- the values of the variables up to the last
abbrev pub ValuesAre : List Entry → ℕ → List Bool → Type 0
ValuesAre es variables values = (v : ℕ) → 1 ≤ v → v ≤ variables → assignment values v ≡ among (trues es) record { variable = v; positive = true }

-- a literal that is true has that value
by_sign : (es : List Entry) (values : List Bool) (v : ℕ) (sign : Bool) → HasNoTwice es → assignment values v ≡ among (trues es) record { variable = v; positive = true } → among (trues es) record { variable = v; positive = sign } ≡ true → literal_value (assignment values) record { variable = v; positive = sign } ≡ true
by_sign es values v true once is h = is ∙ h
by_sign es values v false once is h = ap not (is ∙ consistent es record { variable = v; positive = false } once h)

pub true_value : (es : List Entry) (variables : ℕ) (values : List Bool) (l : Literal) → HasNoTwice es → ValuesAre es variables values → 1 ≤ l.variable → l.variable ≤ variables → among (trues es) l ≡ true → literal_value (assignment values) l ≡ true
true_value es variables values l once are from to h = by_sign es values l.variable l.positive once (are l.variable from to) h

-- each variable has a value
abbrev pub AllValued : List Entry → ℕ → Type 0
AllValued es variables = (v : ℕ) → 1 ≤ v → v ≤ variables → value_of es record { variable = v; positive = false } ≢ None

valued_sign : (es : List Entry) (v : ℕ) (sign : Bool) → value_of es record { variable = v; positive = false } ≢ None → among (trues es) record { variable = v; positive = not sign } ≡ false → among (trues es) record { variable = v; positive = sign } ≡ true
valued_sign es v true h n = elim (cases_Bool (among (trues es) record { variable = v; positive = true })) [
  | inl t ↦ t
  | inr f ↦ absurd (h (value_of-open es record { variable = v; positive = false } n f))
]
valued_sign es v false h n = elim (cases_Bool (among (trues es) record { variable = v; positive = false })) [
  | inl t ↦ t
  | inr f ↦ absurd (h (value_of-open es record { variable = v; positive = false } f n))
]

-- a literal of a variable with a value is true where it isn't false
pub valued_true : (es : List Entry) (l : Literal) → value_of es record { variable = l.variable; positive = false } ≢ None → among (trues es) (negated l) ≡ false → among (trues es) l ≡ true
valued_true es l h n = valued_sign es l.variable l.positive h n

-- a clause that isn't false has a true literal
rests_true : (es : List Entry) (lits : List Literal) (p : Literal → Bool) → AllByRecursion (λ x. value_of es record { variable = x.variable; positive = false } ≢ None) lits → AllByRecursion (λ x. among (trues es) x ≡ true → p x ≡ true) lits → reading_on es lits ≡ Useless → list_any p lits ≡ true
rests_true es [] p valued each r = cc
rests_true es (l ∷ ls) p valued each r = elim (cases_Bool (among (trues es) (negated l))) [
  | inl t ↦
      let same : reading_on es (l ∷ ls) ≡ reading_on es ls = rw (ap not t) refl in
      or_right (p l) (list_any p ls) (rests_true es ls p valued.1 each.1 (sym same ∙ r))
  | inr f ↦ or_left (p l) (list_any p ls) (each.0 (valued_true es l valued.0 f))
]

named_rests : (clauses : List Numbered) (es : List Entry) (id : ℕ) (lits : List Literal) → IsSettled clauses es → clause_named id clauses ≡ Some lits → reading_on es lits ≡ Useless
named_rests clauses es id lits s named = sym (ap (hint_reading (trues es)) named) ∙ s id

all_made : (v : ℕ → Bool) (es : List Entry) (assumptions : List Literal) → AllByRecursion (λ l. among (trues es) l ≡ true → literal_value v l ≡ true) assumptions → list_all (among (trues es)) assumptions ≡ true → list_all (literal_value v) assumptions ≡ true
all_made v es [] each h = refl
all_made v es (l ∷ ls) each h =
    let parts = and_parts (among (trues es) l) (list_all (among (trues es)) ls) h in
    and_from (literal_value v l) (list_all (literal_value v) ls) (each.0 parts.0) (all_made v es ls each.1 parts.1)

pub IsFoundOn-values : (clauses : List Numbered) (es : List Entry) (assumptions : List Literal) (variables : ℕ) (values : List Bool) → HasNoTwice es → IsSettled clauses es → AllWithin variables clauses → AllValued es variables → ValuesAre es variables values → All (IsWithin variables) assumptions → list_all (among (trues es)) assumptions ≡ true → length values ≡ variables → IsFoundOn clauses assumptions variables values
IsFoundOn-values clauses es assumptions variables values once settled rooms valued are room all long = record {
  model = λ id lits named.
      let within = rooms id lits named in
      rests_true es lits (literal_value (assignment values))
      (recursion_from_All (λ x. value_of es record { variable = x.variable; positive = false } ≢ None) lits (λ k d h. let w = within k d h in valued _ w.0 w.1))
      (recursion_from_All (λ x. among (trues es) x ≡ true → literal_value (assignment values) x ≡ true) lits (λ k d h t. let w = within k d h in true_value es variables values _ once are w.0 w.1 t))
      (named_rests clauses es id lits settled named);
  assumed = all_made (assignment values) es assumptions (recursion_from_All (λ x. among (trues es) x ≡ true → literal_value (assignment values) x ≡ true) assumptions (λ k d h t. let w = room k d h in true_value es variables values _ once are w.0 w.1 t)) all;
  long = long;
}
