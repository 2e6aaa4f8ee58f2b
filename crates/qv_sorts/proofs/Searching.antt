-- Operators by their names and indices.
use Rattle.std.proofs.Common.{◌≡◌, ℕ, Bool, true, false, cond, Option, Some, None, List, [], ◌∷◌, refl, ap, sym, subst, ◌∙◌}
use Rattle.std.specs.Prelude.{option_and_then, find, codes}
use Rattle.std.specs.Str.{bytes_eq}
use Rattle.std.proofs.lemmas.Slice.Eq.{bytes_eq-Decides}
use Rattle.qv_words.specs.declared.op.Op.{Op}
use Rattle.qv_words.specs.declared.op.Op.TheVariants.{Not, Extract, Repeat, ZeroExtend, SignExtend, RotateLeft, RotateRight}
use Rattle.qv_sorts.specs.Names.{name_of, indices_of, IsNamed}
use Rattle.qv_sorts.specs.Search.{operators, operator_named, without_indices, one_index, two_indices, with_indices, indexed_operator, OperatorsAreFound}

-- each operator is found by its own name and indices
pub own : (o : Op) → indexed_operator (name_of o) (indices_of o) ≡ Some o
unfolding operator_named
own Not = refl
own _ = refl

-- what is found passes the test
found-first : (test : Op → Bool) (x o : Op) (others : Option Op) (b : Bool) → test x ≡ b → (others ≡ Some o → test o ≡ true) → cond b (Some x) others ≡ Some o → test o ≡ true
found-first test x o others true passes behind is = let same : x ≡ o = cc in ap test (sym same) ∙ passes
found-first test x o others false passes behind is = behind is

found-in : (test : Op → Bool) (os : List Op) (o : Op) → find test os ≡ Some o → test o ≡ true
found-in test [] o e = absurd cc
found-in test (x ∷ xs) o e = found-first test x o (find test xs) (test x) refl (λ is. found-in test xs o is) e

name-of : (name : List ℕ) (p : Op) → operator_named name ≡ Some p → name_of p ≡ name
unfolding operator_named
name-of name p e = (bytes_eq-Decides (name_of p) name).0 (found-in (λ o. bytes_eq (name_of o) name) operators p e)

-- an operator with other indices keeps its name, and has them
abbrev HasBoth : List ℕ → List ℕ → Op → Type 0
HasBoth name indices o = (name_of o ≡ name) × (indices_of o ≡ indices)

has-none : (p : Op) (ns : List ℕ) (o : Op) → indices_of p ≡ [] → without_indices p ns ≡ Some o → HasBoth (name_of p) ns o
has-none p [] o none e = let same : p ≡ o = cc in (ap name_of (sym same), ap indices_of (sym same) ∙ none)
has-none p (n ∷ ns) o none e = absurd cc

has-one : (make : ℕ → Op) (name : List ℕ) → ((k : ℕ) → HasBoth name (k ∷ []) (make k)) → (ns : List ℕ) (o : Op) → one_index make ns ≡ Some o → HasBoth name ns o
has-one make name has [] o e = absurd cc
has-one make name has (k ∷ []) o e = let same : make k ≡ o = cc in subst (HasBoth name (k ∷ [])) same (has k)
has-one make name has (k ∷ l ∷ ns) o e = absurd cc

has-two : (make : ℕ → ℕ → Op) (name : List ℕ) → ((i j : ℕ) → HasBoth name (i ∷ j ∷ []) (make i j)) → (ns : List ℕ) (o : Op) → two_indices make ns ≡ Some o → HasBoth name ns o
has-two make name has [] o e = absurd cc
has-two make name has (i ∷ []) o e = absurd cc
has-two make name has (i ∷ j ∷ []) o e = let same : make i j ≡ o = cc in subst (HasBoth name (i ∷ j ∷ [])) same (has i j)
has-two make name has (i ∷ j ∷ k ∷ ns) o e = absurd cc

has-both : (p : Op) (ns : List ℕ) (o : Op) → with_indices p ns ≡ Some o → HasBoth (name_of p) ns o
has-both (Extract i j) ns o e = has-two Extract (codes "extract") (λ i j. (refl, refl)) ns o e
has-both (Repeat k) ns o e = has-one Repeat (codes "repeat") (λ k. (refl, refl)) ns o e
has-both (ZeroExtend k) ns o e = has-one ZeroExtend (codes "zero_extend") (λ k. (refl, refl)) ns o e
has-both (SignExtend k) ns o e = has-one SignExtend (codes "sign_extend") (λ k. (refl, refl)) ns o e
has-both (RotateLeft k) ns o e = has-one RotateLeft (codes "rotate_left") (λ k. (refl, refl)) ns o e
has-both (RotateRight k) ns o e = has-one RotateRight (codes "rotate_right") (λ k. (refl, refl)) ns o e
has-both p ns o e = has-none p ns o refl e

-- what is found has the name and the indices
found-by : (name indices : List ℕ) (o : Op) (r : Option Op) → operator_named name ≡ r → option_and_then (λ p. with_indices p indices) r ≡ Some o → IsNamed name indices o
found-by name indices o None is e = absurd cc
found-by name indices o (Some p) is e =
    let both = has-both p indices o e in
    record { name = both.0 ∙ name-of name p is; indices = both.1 }

named : (name indices : List ℕ) (o : Op) → IsNamed name indices o → indexed_operator name indices ≡ Some o
named name indices o h =
    subst (λ (n : List ℕ). indexed_operator n indices ≡ Some o) h.name (subst (λ (is : List ℕ). indexed_operator (name_of o) is ≡ Some o) h.indices (own o))

pub operators-are-found : OperatorsAreFound
operators-are-found name indices o = (found-by name indices o (operator_named name) refl, named name indices o)
