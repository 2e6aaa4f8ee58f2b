-- The choice by the conjuncts in which a place stands is the choice by the region.
use Rattle.std.proofs.Common.{◌≡◌, ℕ, zero, suc, ◌⊎◌, inl, inr, List, ◌∷◌, map, sym, subst, ◌∙◌}
use Rattle.std.specs.List.{AllByRecursion}
use Rattle.std.proofs.lemmas.List.Elements.{recursion_from_All, All-from_recursion}
use Rattle.qv_words.specs.declared.sort.Sort.{Sort}
use Rattle.qv_words.specs.declared.sort.Sort.TheVariants.{Bool as BoolSort}
use Rattle.qv_words.specs.Tree.{Tree}
use Rattle.qv_words.specs.Choice.{candidates, with_term, IsTrueAt, IsFirst, IsPointLiteral, IsChosen}
use Rattle.qv_words.proofs.Leaves.{front, back}
use Rattle.qv_words.proofs.Elements.{all-both_weaker}
use Rattle.qv_game_laws.proofs.Terms.{OfVariable, IsOf, HasSort}
use Rattle.qv_game_laws.proofs.Candidates.{IsCandidate, candidates-over}
use Rattle.qv_game_laws.proofs.ChosenTerms.{IsLeafOf, over-itself, sort-at}
use Rattle.qv_choose.specs.Conjuncts.{AreConjuncts, LeavesOut, ConjunctsDecideChoices}
use Rattle.qv_choose.proofs.Giving.{same-candidates}
use Rattle.qv_choose.proofs.Parts.{conjuncts-take, parts-hold, whole-holds, parts-of, whole-of, all-next, sorts-of, of-left, all-hold, left-hold}

-- a term with which a region doesn't stay true
abbrev Fails : List ℕ → Tree → ℕ → Tree → Type 0
Fails point region x u = IsTrueAt point (with_term x u region) → ⊥

module _ (P : OfVariable) (first end : ℕ) (point : List ℕ) (region part : Tree) (conjuncts parts : List Tree) (x : ℕ) (s : Sort) (own : HasSort P x s)
    (are : AllByRecursion (IsOf P BoolSort) conjuncts) (hold : AllByRecursion (IsTrueAt point) conjuncts)
    (of_region : AreConjuncts region conjuncts) (of_part : AreConjuncts part parts) (out : LeavesOut x conjuncts parts) where
  -- with a term that keeps the part true the region stays true, and the other way round
  there : (u : Tree) → IsOf P s u → IsTrueAt point (with_term x u part) → IsTrueAt point (with_term x u region)
  there u hu m =
      (whole-holds point (with_term x u region) (map (with_term x u) conjuncts) (conjuncts-take region conjuncts x u of_region)
      (sorts-of P (map (with_term x u) conjuncts) (all-next P x s u own hu conjuncts are))
      (all-hold point x u conjuncts parts out hold (parts-hold point (with_term x u part) (map (with_term x u) parts) (conjuncts-take part parts x u of_part) m))).0

  again : (u : Tree) → IsOf P s u → IsTrueAt point (with_term x u region) → IsTrueAt point (with_term x u part)
  again u hu m =
      (whole-holds point (with_term x u part) (map (with_term x u) parts) (conjuncts-take part parts x u of_part)
      (sorts-of P (map (with_term x u) parts) (all-next P x s u own hu parts (of-left (IsOf P BoolSort) x conjuncts parts out are)))
      (left-hold point x u conjuncts parts out (parts-hold point (with_term x u region) (map (with_term x u) conjuncts) (conjuncts-take region conjuncts x u of_region) m))).0

  same : candidates first end region x ≡ candidates first end part x
  same = same-candidates first end x region part conjuncts parts of_region of_part out

  each : AllByRecursion (IsCandidate P first end s) (candidates first end part x)
  each = candidates-over P first end part x s own (whole-of P part parts of_part (of-left (IsOf P BoolSort) x conjuncts parts out are)).0

  fail : (us : List Tree) → AllByRecursion (IsCandidate P first end s) us → AllByRecursion (Fails point part x) us → AllByRecursion (Fails point region x) us
  fail us k h = all-both_weaker (IsCandidate P first end s) (Fails point part x) (Fails point region x) us (λ u c none m. none (again u c.0 m)) k h

  abbrev IsTried : Tree → Tree → Type 0
  IsTried r t = IsFirst point r x (candidates first end r x) t ⊎ IsPointLiteral point r x s (candidates first end r x) t

  tried-whole : (t : Tree) → IsTried part t → IsTried region t
  tried-whole t (inl c) =
      let all = subst (AllByRecursion (IsCandidate P first end s)) c.stands each in
      inl (record {
        before = c.before;
        behind = c.behind;
        stands = same ∙ c.stands;
        holds = there t (back (IsCandidate P first end s) c.before (t ∷ c.behind) all).0.0 c.holds;
        others = All-from_recursion (Fails point region x) c.before
            (fail c.before (front (IsCandidate P first end s) c.before (t ∷ c.behind) all) (recursion_from_All (Fails point part x) c.before c.others));
      })
  tried-whole t (inr c) =
      inr (record {
        none = All-from_recursion (Fails point region x) (candidates first end region x)
            (subst (AllByRecursion (Fails point region x)) (sym same)
            (fail (candidates first end part x) each (recursion_from_All (Fails point part x) (candidates first end part x) c.none)));
        value = c.value;
      })

pub chosen-whole : (P : OfVariable) (first end : ℕ) (point : List ℕ) (region part : Tree) (conjuncts parts : List Tree) (x : ℕ) (s : Sort) → HasSort P x s
    → AllByRecursion (IsOf P BoolSort) conjuncts → AllByRecursion (IsTrueAt point) conjuncts
    → AreConjuncts region conjuncts → AreConjuncts part parts → LeavesOut x conjuncts parts
    → (t : Tree) → IsChosen first end point part x s t → IsChosen first end point region x s t
chosen-whole P zero end point region part conjuncts parts x s own are hold of_region of_part out t c = c
chosen-whole P (suc before) end point region part conjuncts parts x s own are hold of_region of_part out t c =
    tried-whole P (suc before) end point region part conjuncts parts x s own are hold of_region of_part out t c

pub conjuncts-decide : ConjunctsDecideChoices
conjuncts-decide first end point region conjuncts x s part parts t formula sort holds of_region of_part out chosen =
    let P = IsLeafOf region in
    chosen-whole P first end point region part conjuncts parts x s (sort-at region x s sort)
    (parts-of P region conjuncts of_region (over-itself region BoolSort formula)) (parts-hold point region conjuncts of_region holds)
    of_region of_part out t chosen
