-- Marks of sets of literals.
use Rattle.std.proofs.Common.{◌≡◌, ℕ, suc, ◌+◌, ◌-◌, ◌*◌, ◌<◌, ◌≤◌, Bool, true, false, not, cond, ◌&&◌, ◌||◌, List, [], ◌∷◌, ◌++◌, length, drop, reverse, eqb, refl, sym, ◌∙◌, ap, subst, inl, inr, arith}
use Rattle.std.specs.HashSet.{HashSet}
use Rattle.std.specs.declared.hash.FoldHasher.{FoldHasher}
use Rattle.std.specs.declared.hash.BuildHasherDefault.{BuildHasherDefault}
use Rattle.std.proofs.lemmas.Bool.{cases_Bool, eqb-true, not-false, not-true}
use Rattle.std.proofs.lemmas.Bool.Decides.{nat_tests}
use Rattle.std.proofs.lemmas.List.{drop_all, length-map, length-reverse, nil_from_length, reverse-append}
use Rattle.qv_cnf.specs.Literal.{Literal, index_of, literal_at, index_of-literal_at, literal_at-index_of}
use Rattle.qv_cnf.specs.Refutation.{among, same_literal}
use Rattle.qv_rup.specs.Marking.{mark_at, literals_of, AreFresh, AreMarked}
use Rattle.qv_rup.specs.declared.marks.Marked.{Marked}

-- literals are the same where their places are
same_place : (m n : ℕ) (p q : Bool) → ((eqb m n) && cond p q (not q)) ≡ eqb (2 * n + cond q 0 1) (2 * m + cond p 0 1)
same_place m n true true = grind (arith, nat_tests)
same_place m n true false = grind (arith, nat_tests)
same_place m n false true = grind (arith, nat_tests)
same_place m n false false = grind (arith, nat_tests)

pub same_literal-index : (a b : Literal) → same_literal a b ≡ eqb (index_of b) (index_of a)
same_literal-index a b = same_place a.variable b.variable a.positive b.positive

eqb_flip : (m n : ℕ) → eqb m n ≡ eqb n m
eqb_flip m n = grind (arith, nat_tests)

pub same_literal-apart : (a b : Literal) → eqb (index_of a) (index_of b) ≡ false → same_literal a b ≡ false
same_literal-apart a b h = same_literal-index a b ∙ eqb_flip (index_of b) (index_of a) ∙ h

or_is_cond : (b x : Bool) → (b || x) ≡ cond b true x
or_is_cond true x = refl
or_is_cond false x = refl

-- one more literal
pub AreMarked-insert : (t t' : List Bool) (o o' : HashSet ℕ (BuildHasherDefault FoldHasher)) (set : List Literal) (lit : Literal) → AreMarked t o set → ((k : ℕ) → mark_at t' o' k ≡ cond (eqb (index_of lit) k) true (mark_at t o k)) → AreMarked t' o' (lit ∷ set)
AreMarked-insert t t' o o' set lit m h l =
    h (index_of l) ∙ ap (cond (eqb (index_of lit) (index_of l)) true) (m l)
    ∙ sym (ap (λ (b : Bool). b || among set l) (same_literal-index l lit) ∙ or_is_cond (eqb (index_of lit) (index_of l)) (among set l))

-- every place is unmarked where the set is empty
pub none_marked : (t : List Bool) (o : HashSet ℕ (BuildHasherDefault FoldHasher)) → AreMarked t o [] → (k : ℕ) → mark_at t o k ≡ false
none_marked t o m k = ap (mark_at t o) (sym (index_of-literal_at k)) ∙ m (literal_at k)

-- ---- the literals that were inserted

pub literals-push : (xs : List Marked) (m : Marked) → literals_of (reverse (xs ++ m ∷ [])) ≡ m.lit ∷ literals_of (reverse xs)
literals-push xs m = ap literals_of (reverse-append xs (m ∷ []))

pub literals-length : (xs : List Marked) → length (literals_of (reverse xs)) ≡ length xs
literals-length xs = length-map (reverse xs) (λ (m : Marked). m.lit) ∙ length-reverse xs

pub literals-none : (xs : List Marked) → length xs ≡ 0 → literals_of (reverse xs) ≡ []
literals-none xs h = ap (λ (ms : List Marked). literals_of (reverse ms)) (nil_from_length xs h)

-- ---- taking the last literal away

pub same-from_test : (a b : Literal) → same_literal a b ≡ true → a ≡ b
same-from_test a b h =
    sym (literal_at-index_of a) ∙ ap literal_at (sym (eqb-true (index_of b) (index_of a) (sym (same_literal-index a b) ∙ h))) ∙ literal_at-index_of b

-- one that was fresh: its place is no longer marked
marked-fresh : (t t' : List Bool) (o o' : HashSet ℕ (BuildHasherDefault FoldHasher)) (m : Marked) (ms : List Marked) → AreFresh (m ∷ ms) → m.fresh ≡ true → AreMarked t o (literals_of (m ∷ ms))
    → ((k : ℕ) → mark_at t' o' k ≡ cond (eqb (index_of m.lit) k) false (mark_at t o k)) → AreMarked t' o' (literals_of ms)
marked-fresh t t' o o' m ms f fresh a h l =
    elim (cases_Bool (eqb (index_of m.lit) (index_of l))) [
      | inl e ↦
          let same : l ≡ m.lit = same-from_test l m.lit (same_literal-index l m.lit ∙ e) in
          let none : among (literals_of ms) m.lit ≡ false = not-true (among (literals_of ms) m.lit) (sym f.0 ∙ fresh) in
          h (index_of l) ∙ ap (λ (b : Bool). cond b false (mark_at t o (index_of l))) e ∙ sym (ap (among (literals_of ms)) same ∙ none)
      | inr e ↦
          let other : same_literal l m.lit ≡ false = same_literal-index l m.lit ∙ e in
          h (index_of l) ∙ ap (λ (b : Bool). cond b false (mark_at t o (index_of l))) e ∙ a l ∙ ap (λ (b : Bool). b || among (literals_of ms) l) other
    ]

-- one that wasn't: nothing changes
marked-again : (t : List Bool) (o : HashSet ℕ (BuildHasherDefault FoldHasher)) (m : Marked) (ms : List Marked) → AreFresh (m ∷ ms) → m.fresh ≡ false → AreMarked t o (literals_of (m ∷ ms)) → AreMarked t o (literals_of ms)
marked-again t o m ms f fresh a l =
    elim (cases_Bool (same_literal l m.lit)) [
      | inl e ↦
          let some : among (literals_of ms) m.lit ≡ true = not-false (among (literals_of ms) m.lit) (sym f.0 ∙ fresh) in
          a l ∙ ap (λ (b : Bool). b || among (literals_of ms) l) e ∙ sym (ap (among (literals_of ms)) (same-from_test l m.lit e) ∙ some)
      | inr e ↦ a l ∙ ap (λ (b : Bool). b || among (literals_of ms) l) e
    ]

-- either way the rest of the marks is of the rest of the literals
pub marked-pop : (t t' : List Bool) (o o' : HashSet ℕ (BuildHasherDefault FoldHasher)) (set rest : List Marked) (m : Marked) → set ≡ rest ++ m ∷ [] → AreFresh (reverse set) → AreMarked t o (literals_of (reverse set))
    → ((k : ℕ) → mark_at t' o' k ≡ cond (m.fresh && eqb (index_of m.lit) k) false (mark_at t o k)) → AreFresh (reverse rest) × AreMarked t' o' (literals_of (reverse rest))
marked-pop t t' o o' set rest m is f a h =
    let back : reverse set ≡ m ∷ reverse rest = ap reverse is ∙ reverse-append rest (m ∷ []) in
    let fresh : AreFresh (m ∷ reverse rest) = subst AreFresh back f in
    let marked : AreMarked t o (literals_of (m ∷ reverse rest)) = subst (λ (ms : List Marked). AreMarked t o (literals_of ms)) back a in (
      fresh.1,
      elim (cases_Bool m.fresh) [
        | inl e ↦ marked-fresh t t' o o' m (reverse rest) fresh e marked (λ k. h k ∙ ap (λ (b : Bool). cond (b && eqb (index_of m.lit) k) false (mark_at t o k)) e)
        | inr e ↦ λ l. h (index_of l) ∙ ap (λ (b : Bool). cond (b && eqb (index_of m.lit) (index_of l)) false (mark_at t o (index_of l))) e ∙ marked-again t o m (reverse rest) fresh e marked l
      ],
    )

-- ---- all but the first literals

pub fewer : (xs : List Literal) (kept : ℕ) → kept < length xs → length (drop 1 xs) < length xs
fewer [] kept h = absurd (omega (arith, h))
fewer (x ∷ xs) kept h = omega arith

pub same-left : (xs : List Literal) (kept : ℕ) → kept < length xs → drop (length (drop 1 xs) - kept) (drop 1 xs) ≡ drop (length xs - kept) xs
same-left [] kept h = absurd (omega (arith, h))
same-left (x ∷ xs) kept h =
    let one : suc (length xs) - kept ≡ suc (length xs - kept) = omega (arith, h) in
    sym (ap (λ (n : ℕ). drop n (x ∷ xs)) one)

pub all-left : (xs : List Literal) (kept : ℕ) → length xs ≤ kept → drop (length xs - kept) xs ≡ xs
all-left xs kept h = let none : length xs - kept ≡ 0 = omega arith in ap (λ (n : ℕ). drop n xs) none

pub none-left : (xs : List Literal) → drop (length xs - 0) xs ≡ []
none-left xs = drop_all (length xs - 0) xs (omega arith)
