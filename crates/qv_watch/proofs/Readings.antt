-- What a clause says, literal by literal.
use Rattle.std.proofs.Common.{◌≡◌, ◌≢◌, ℕ, ◌+◌, ◌<◌, Bool, true, false, not, cond, ◌&&◌, List, [], ◌∷◌, length, get_or, drop, Option, Some, None, refl, sym, ◌∙◌, ap, inl, inr}
use Rattle.std.specs.Prelude.{if◌then◌else◌}
use Rattle.std.specs.List.{list_all}
use Rattle.std.proofs.lemmas.Bool.{cases_Bool, false≢true}
use Rattle.std.proofs.lemmas.List.{drop_more}
use Rattle.std.proofs.lemmas.Option.{none-some}
use Rattle.qv_cnf.specs.Literal.{Literal, negated}
use Rattle.qv_cnf.specs.Refutation.{among, same_literal, open_literals, reading_of}
use Rattle.qv_cnf.specs.declared.readings.Reading.{Reading}
use Rattle.qv_cnf.specs.declared.readings.Reading.TheVariants.{Falsified, Forced, Useless}
use Rattle.qv_watch.specs.Entries.{Entry, trues, value_of, entry_at, reading_on}
use Rattle.qv_watch.specs.Table.{HasNoTwice}
use Rattle.qv_watch.proofs.Entering.{among-none, among-sign, same_literal-true}

-- a literal is looked at, where this one had no value either
abbrev pub at_value : Option Bool → Option Literal → Literal → (Option Literal → Reading) → Reading
at_value (Some true) free x rest = Useless
at_value (Some false) free x rest = rest free
at_value None None x rest = rest (Some x)
at_value None (Some l) x rest = if same_literal l x then rest (Some l) else Useless

-- the literals are looked at one after the other
abbrev pub scan : List Entry → List Literal → Option Literal → Reading
scan es [] None = Falsified
scan es [] (Some l) = Forced l
scan es (x ∷ xs) free = at_value (value_of es x) free x (scan es xs)

opposite : (p q : Bool) → cond p q (not q) ≡ true → cond (not p) q (not q) ≡ false
opposite true true h = refl
opposite true false h = sym h
opposite false true h = sym h
opposite false false h = refl

-- no literal is true with its negation
pub consistent : (es : List Entry) (l : Literal) → HasNoTwice es → among (trues es) l ≡ true → among (trues es) (negated l) ≡ false
consistent es l once h =
    elim (entry_at l.variable es) as (λ o. entry_at l.variable es ≡ o → among (trues es) (negated l) ≡ false) [
      | None ↦ λ none. absurd (false≢true (sym (among-none es l none) ∙ h))
      | Some e ↦ λ found. among-sign es (negated l) e once found ∙ opposite l.positive e.lit.positive (sym (among-sign es l e once found) ∙ h)
    ] refl

pub value_of-true : (es : List Entry) (l : Literal) → among (trues es) l ≡ true → value_of es l ≡ Some true
value_of-true es l h = rw h

pub value_of-false : (es : List Entry) (l : Literal) → among (trues es) l ≡ false → among (trues es) (negated l) ≡ true → value_of es l ≡ Some false
value_of-false es l h n = rw (h, n)

pub value_of-open : (es : List Entry) (l : Literal) → among (trues es) l ≡ false → among (trues es) (negated l) ≡ false → value_of es l ≡ None
value_of-open es l h n = rw (h, n)

pub not_true : (es : List Entry) (l : Literal) → value_of es l ≡ None → among (trues es) l ≡ false
not_true es l h = elim (cases_Bool (among (trues es) l)) [
  | inl t ↦ absurd (none-some true (sym h ∙ value_of-true es l t))
  | inr f ↦ f
]

apart_false : (es : List Entry) (l x : Literal) → among (trues es) l ≡ false → among (trues es) x ≡ true → same_literal l x ≡ false
apart_false es l x f t = elim (cases_Bool (same_literal l x)) [
  | inl same ↦ absurd (false≢true (sym f ∙ ap (among (trues es)) (same_literal-true l x same) ∙ t))
  | inr other ↦ other
]

scan-some : (es : List Entry) (l : Literal) (xs : List Literal) → HasNoTwice es → among (trues es) l ≡ false → scan es xs (Some l) ≡ reading_of (trues es) (l ∷ open_literals (trues es) xs)
scan-some es l [] once f = sym (rw f refl)
scan-some es l (x ∷ xs) once f = elim (cases_Bool (among (trues es) x)) [
  | inl t ↦
      let n = consistent es x once t in
      rw (value_of-true es x t, n, apart_false es l x f t) refl
  | inr nt ↦ elim (cases_Bool (among (trues es) (negated x))) [
    | inl n ↦ rw (value_of-false es x nt n, n) (scan-some es l xs once f)
    | inr o ↦ elim (cases_Bool (same_literal l x)) [
      | inl same ↦ rw (value_of-open es x nt o, o, same) (scan-some es l xs once f)
      | inr other ↦ rw (value_of-open es x nt o, o, other) refl
    ]
  ]
]

and_false : (b : Bool) → (b && false) ≡ false
and_false true = refl
and_false false = refl

-- what the look finds is what the clause says
pub scan-reading : (es : List Entry) (xs : List Literal) → HasNoTwice es → scan es xs None ≡ reading_on es xs
scan-reading es [] once = refl
scan-reading es (x ∷ xs) once = elim (cases_Bool (among (trues es) x)) [
  | inl t ↦
      let n = consistent es x once t in
      rw (value_of-true es x t, n, t, and_false (list_all (same_literal x) (open_literals (trues es) xs))) refl
  | inr nt ↦ elim (cases_Bool (among (trues es) (negated x))) [
    | inl n ↦ rw (value_of-false es x nt n, n) (scan-reading es xs once)
    | inr o ↦ rw (value_of-open es x nt o, o) (scan-some es x xs once nt)
  ]
]

-- one step of the look
pub scan_step : (es : List Entry) (xs : List Literal) (i : ℕ) (x : Literal) (free : Option Literal) (r : Reading) → i < length xs → x ≡ get_or xs i x → at_value (value_of es x) free x (scan es (drop (i + 1) xs)) ≡ r → scan es (drop i xs) free ≡ r
scan_step es xs i x free r h is e = ap (λ (ys : List Literal). scan es ys free) (drop_more xs i x h ∙ ap (λ (y : Literal). y ∷ drop (i + 1) xs) (sym is)) ∙ e

-- literals that differ
pub same_literal-differ : (a b : Literal) → a ≢ b → same_literal a b ≡ false
same_literal-differ a b h = elim (cases_Bool (same_literal a b)) [ inl t ↦ absurd (h (same_literal-true a b t)) | inr f ↦ f ]
