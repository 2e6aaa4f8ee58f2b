-- The numbers of entries, one after the other.
use Rattle.std.proofs.Common.{◌≡◌, ℕ, suc, ◌+◌, ◌≤◌, ◌<◌, true, false, Some, List, [], ◌∷◌, ◌++◌, length, drop, slice_get, refl, sym, ap, ◌∙◌, arith, append_assoc, append-nil, inl, inr}
use Rattle.std.specs.List.{AllByRecursion}
use Rattle.std.proofs.lemmas.Bool.{cases_Bool}
use Rattle.qv_words.specs.Tree.{Tree}
use Rattle.qv_words.specs.Problem.{Quantifier}
use Rattle.qv_words.specs.Linked.{Entry, is_of}
use Rattle.qv_words.proofs.Elements.{all-weaker, dropped-at, dropped-none}
use Rattle.qv_entries.specs.Rows.{Row, entries_in, is_row_of}
use Rattle.qv_meter.specs.Queries.{numbers_from}

next-numbers : (trees : List Tree) (rows : List Row) (k level : ℕ) (w : Quantifier) (row : Row) → slice_get rows k ≡ Some row → numbers_from k level w (entries_in trees (drop k rows)) ≡ numbers_from k level w (entries_in trees (row ∷ drop (suc k) rows))
next-numbers trees rows k level w row at = ap (λ (rs : List Row). numbers_from k level w (entries_in trees rs)) (dropped-at rows k row at)

pub number-taken : (trees : List Tree) (rows : List Row) (k level : ℕ) (w : Quantifier) (row : Row) (numbers new all : List ℕ) → slice_get rows k ≡ Some row → is_row_of level w row ≡ true → new ≡ numbers ++ k ∷ [] → numbers ++ numbers_from k level w (entries_in trees (drop k rows)) ≡ all → new ++ numbers_from (k + 1) level w (entries_in trees (drop (k + 1) rows)) ≡ all
number-taken trees rows k level w row numbers new all at of is before =
    let next : k + 1 ≡ suc k = omega arith in
    let rest = numbers_from (suc k) level w (entries_in trees (drop (suc k) rows)) in
    let one : numbers_from k level w (entries_in trees (row ∷ drop (suc k) rows)) ≡ k ∷ rest = rw of refl in
    ap (λ (n : ℕ). new ++ numbers_from n level w (entries_in trees (drop n rows))) next
    ∙ ap (λ (ns : List ℕ). ns ++ rest) is ∙ append_assoc numbers (k ∷ []) rest
    ∙ ap (λ (ns : List ℕ). numbers ++ ns) (sym (next-numbers trees rows k level w row at ∙ one)) ∙ before

pub number-passed : (trees : List Tree) (rows : List Row) (k level : ℕ) (w : Quantifier) (row : Row) (numbers new all : List ℕ) → slice_get rows k ≡ Some row → is_row_of level w row ≡ false → new ≡ numbers → numbers ++ numbers_from k level w (entries_in trees (drop k rows)) ≡ all → new ++ numbers_from (k + 1) level w (entries_in trees (drop (k + 1) rows)) ≡ all
number-passed trees rows k level w row numbers new all at of is before =
    let next : k + 1 ≡ suc k = omega arith in
    let rest = numbers_from (suc k) level w (entries_in trees (drop (suc k) rows)) in
    let one : numbers_from k level w (entries_in trees (row ∷ drop (suc k) rows)) ≡ rest = rw of refl in
    ap (λ (n : ℕ). new ++ numbers_from n level w (entries_in trees (drop n rows))) next
    ∙ ap (λ (ns : List ℕ). ns ++ rest) is
    ∙ ap (λ (ns : List ℕ). numbers ++ ns) (sym (next-numbers trees rows k level w row at ∙ one)) ∙ before

pub numbers-all : (trees : List Tree) (rows : List Row) (k level : ℕ) (w : Quantifier) (numbers all : List ℕ) → length rows ≤ k → numbers ++ numbers_from k level w (entries_in trees (drop k rows)) ≡ all → numbers ≡ all
numbers-all trees rows k level w numbers all end before =
    sym (append-nil numbers) ∙ ap (λ (rs : List Row). numbers ++ numbers_from k level w (entries_in trees rs)) (sym (dropped-none rows k end)) ∙ before

-- each is an entry's
pub numbers-below : (n level : ℕ) (w : Quantifier) (es : List Entry) → AllByRecursion (λ k. k < n + length es) (numbers_from n level w es)
numbers-below n level w [] = tt
numbers-below n level w (e ∷ es) =
    let rest : AllByRecursion (λ k. k < n + suc (length es)) (numbers_from (suc n) level w es) = all-weaker (λ k. k < suc n + length es) (λ k. k < n + suc (length es)) (numbers_from (suc n) level w es) (λ k h. omega (arith, h)) (numbers-below (suc n) level w es) in
    elim (cases_Bool (is_of level w e)) [
      | inl y ↦ rw y (omega arith, rest)
      | inr o ↦ rw o rest
    ]
