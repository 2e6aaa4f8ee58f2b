-- What pins the later definitions down.
use Rattle.std.specs.Prelude.{◌≡◌, ℕ, true, false, Some, IsSomeAnd, List, [], ◌∷◌, ◌++◌, slice_get}
use Rattle.qv_words.specs.Tree.{Tree, IsQuantifierFree}
use Rattle.qv_words.specs.Equality.{tree_eq}
use Rattle.qv_words.specs.Sorted.{constants_of}
use Rattle.qv_words.specs.Prenex.{is_quantified}
use Rattle.qv_words.specs.Problem.{Problem, Place, Existential, problem_of}
use Rattle.qv_words.specs.Skolem.{SkolemTerm, SkolemOk, IsTermOf, term_of}
use Rattle.qv_words.specs.Expansion.{ExpansionLine, IsExpansion}
use Rattle.qv_words.specs.Linked.{Entry, IsEntry, IsLinked}

-- trees are the same exactly where the test says so
abbrev pub TreeEqDecides : Type 0
TreeEqDecides = (a b : Tree) → (tree_eq a b ≡ true → a ≡ b) × (a ≡ b → tree_eq a b ≡ true)

-- no quantifier stands in a tree exactly where the test finds none
abbrev pub QuantifierTestDecides : Type 0
QuantifierTestDecides = (t : Tree) → (IsQuantifierFree t → is_quantified t ≡ false) × (is_quantified t ≡ false → IsQuantifierFree t)

-- an expansion list with its last line dropped is one
abbrev pub ExpansionWithoutLast : Type 0
ExpansionWithoutLast = (p : Problem) (lines : List ExpansionLine) (line : ExpansionLine) → IsExpansion p (lines ++ line ∷ []) → IsExpansion p lines

-- a linked list with its last entry dropped is linked
abbrev pub LinkedWithoutLast : Type 0
LinkedWithoutLast = (p : Problem) (entries : List Entry) (e : Entry) → IsLinked p (entries ++ e ∷ []) → IsLinked p entries

-- a list with one more entry is linked exactly where the list is and the entry may come behind it
abbrev pub LinkedByOneMore : Type 0
LinkedByOneMore =
    (p : Problem) (entries : List Entry) (e : Entry) →
    (IsLinked p (entries ++ e ∷ []) → IsLinked p entries × IsEntry p entries e)
    × (IsLinked p entries × IsEntry p entries e → IsLinked p (entries ++ e ∷ []))

-- a formula without quantifiers and constants is its own prenex problem, over no places
abbrev pub UnquantifiedIsMatrix : Type 0
UnquantifiedIsMatrix = (t : Tree) → is_quantified t ≡ false → constants_of t ≡ [] → problem_of (t ∷ []) ≡ record { prefix = []; matrix = t }

-- in a Skolem section each existential place has a term of its sort
abbrev pub SectionsHaveTerms : Type 0
SectionsHaveTerms =
    (p : Problem) (terms : List SkolemTerm) (j : ℕ) (place : Place) →
    SkolemOk p terms → slice_get p.prefix j ≡ Some place → place.quantifier ≡ Existential →
    IsSomeAnd (term_of terms j) (λ t. IsTermOf t place.sort)
