-- Skolem sections by one more term, and their goals.
use Rattle.std.proofs.Common.{◌≡◌, ◌≢◌, ℕ, ◌==◌, Bool, true, false, cond, Option, Some, None, List, [], ◌∷◌, ◌++◌, length, get_or, slice_get, AllPairs, refl, sym, ap, ◌∙◌, inl, inr, subst, arith}
use Rattle.std.specs.Prelude.{MatchOption}
use Rattle.std.specs.List.{AllByRecursion}
use Rattle.std.proofs.lemmas.Bool.Decides.{nat_tests}
use Rattle.std.proofs.lemmas.List.{get_or_append_left, get_or_push, length_push}
use Rattle.std.proofs.lemmas.List.Elements.{All-from_recursion, recursion_from_All, All-push}
use Rattle.std.proofs.lemmas.List.Quantifiers.{all_pairs_push}
use Rattle.qv_words.specs.declared.sort.Sort.{Sort}
use Rattle.qv_words.specs.declared.sort.Sort.TheVariants.{Bool as BoolSort}
use Rattle.qv_words.specs.Tree.{Tree}
use Rattle.qv_words.specs.Sorted.{with_level, free_levels}
use Rattle.qv_words.specs.Replacement.{replaced}
use Rattle.qv_words.specs.Problem.{Problem, Place, Quantifier, Existential, Universal}
use Rattle.qv_words.specs.Skolem.{SkolemTerm, SkolemOk, IsSkolemTerm, IsTermOf, IsEarlierUniversal, term_of, goal_of}
use Rattle.qv_words.specs.Linked.{IsPlaceBelow}
use Rattle.qv_cert_section_laws.specs.ByLine.{GoalsAreTerms, SkolemSoFar, SkolemByOneMore}
use Rattle.qv_words.proofs.Equals.{eq-from_test}
use Rattle.qv_words.proofs.Leaves.{back, both}
use Rattle.qv_words.proofs.Ranks.{found}
use Rattle.qv_cert_section_laws.proofs.SkolemSound.{section-term}
use Rattle.qv_words.proofs.Elements.{some-and, of-some, to-some, none-or_some, all-weaker}
use Rattle.qv_cert_section_laws.proofs.PutTerms.{IsTermThere, term-put, negation-term}

-- what is put in at a variable of the matrix, or the universal place that stays there
goal-leaf : (p : Problem) (terms : List SkolemTerm) → SkolemOk p terms → (leaf : ℕ × Sort) → IsPlaceBelow p (length p.prefix) leaf → IsTermThere (IsEarlierUniversal p (length p.prefix)) (term_of terms) leaf
goal-leaf p terms ok leaf below =
    elim (none-or_some (term_of terms leaf.0)) [
      | inl none ↦ subst (λ (o : Option Tree). MatchOption o (IsEarlierUniversal p (length p.prefix) leaf) (λ put. IsTermOf put leaf.1 × AllByRecursion (IsEarlierUniversal p (length p.prefix)) (free_levels put))) (sym none) (stays none)
      | inr some ↦ subst (λ (o : Option Tree). MatchOption o (IsEarlierUniversal p (length p.prefix) leaf) (λ put. IsTermOf put leaf.1 × AllByRecursion (IsEarlierUniversal p (length p.prefix)) (free_levels put))) (sym some.1) (put some.0 some.1)
    ]
  where
    place : (q : Place) × (slice_get p.prefix leaf.0 ≡ Some q) × (q.sort ≡ leaf.1)
    place = some-and (slice_get p.prefix leaf.0) (λ q. q.sort ≡ leaf.1) below.1

    stays : term_of terms leaf.0 ≡ None → IsEarlierUniversal p (length p.prefix) leaf
    stays none = (below.0, to-some (slice_get p.prefix leaf.0) (λ q. (q.quantifier ≡ Universal) × (q.sort ≡ leaf.1)) place.0 place.1 (universal place.0.quantifier refl, place.2))
      where
        universal : (q : Quantifier) → place.0.quantifier ≡ q → q ≡ Universal
        universal Universal is = refl
        universal Existential is =
            let some = found (term_of terms leaf.0) (ok.all leaf.0 (to-some (slice_get p.prefix leaf.0) (λ q. q.quantifier ≡ Existential) place.0 place.1 is)) in
            absurd (cc (none, some.1))

    put : (t : Tree) → term_of terms leaf.0 ≡ Some t → IsTermOf t leaf.1 × AllByRecursion (IsEarlierUniversal p (length p.prefix)) (free_levels t)
    put t is =
        let good = section-term p terms leaf.0 t (recursion_from_All (IsSkolemTerm p) terms ok.each) is in
        let own = of-some (slice_get p.prefix leaf.0) (λ q. (q.quantifier ≡ Existential) × IsTermOf t q.sort) place.0 place.1 good.0 in (
          subst (IsTermOf t) place.2 own.1,
          all-weaker (IsEarlierUniversal p leaf.0) (IsEarlierUniversal p (length p.prefix)) (free_levels t) (λ x h. (omega (arith, h.0, below.0), h.1)) (recursion_from_All (IsEarlierUniversal p leaf.0) (free_levels t) good.1),
        )

pub goals-are_terms : GoalsAreTerms
goals-are_terms p terms problem ok =
    let both-parts =
    term-put (IsEarlierUniversal p (length p.prefix)) (term_of terms) p.matrix BoolSort problem.matrix
    (all-weaker (IsPlaceBelow p (length p.prefix)) (IsTermThere (IsEarlierUniversal p (length p.prefix)) (term_of terms)) (free_levels p.matrix) (goal-leaf p terms ok)
    (recursion_from_All (IsPlaceBelow p (length p.prefix)) (free_levels p.matrix) problem.variables))
    in (
      negation-term (replaced (term_of terms) p.matrix) both-parts.0,
      All-from_recursion (IsEarlierUniversal p (length p.prefix)) (free_levels (goal_of p terms))
          (both (IsEarlierUniversal p (length p.prefix)) (free_levels (replaced (term_of terms) p.matrix)) [] both-parts.1 tt),
    )

-- a place has no term exactly where none is for it
test-first : (x j : ℕ) (t : Tree) (rest : Option Tree) → cond (x == j) (Some t) rest ≡ None → ((x == j) ≡ false) × (rest ≡ None)
test-first x j t rest h = go (x == j) refl h
  where
    go : (b : Bool) → (x == j) ≡ b → cond b (Some t) rest ≡ None → ((x == j) ≡ false) × (rest ≡ None)
    go true is h = absurd (cc)
    go false is h = (is, h)

others-elsewhere : (terms : List SkolemTerm) (j : ℕ) → term_of terms j ≡ None → AllByRecursion (λ t. t.place ≢ j) terms
others-elsewhere [] j h = tt
others-elsewhere (t ∷ terms) j h =
    let parts = test-first t.place j t.term (term_of terms j) h in
    let apart : (t.place == j) ≡ false = parts.0 in
    let other : t.place ≢ j = grind (arith, nat_tests) in
    (other, others-elsewhere terms j parts.1)

no-term : (terms : List SkolemTerm) (j : ℕ) → AllByRecursion (λ t. t.place ≢ j) terms → term_of terms j ≡ None
no-term [] j h = refl
no-term (t ∷ terms) j h =
    let other : t.place ≢ j = h.0 in
    let apart : (t.place == j) ≡ false = grind (arith, nat_tests) in
    ap (λ b. cond b (Some t.term) (term_of terms j)) apart ∙ no-term terms j h.1

-- with one more term
term-pushed : (terms : List SkolemTerm) (s : SkolemTerm) (j : ℕ) → term_of terms s.place ≡ None → term_of (terms ++ s ∷ []) j ≡ with_level (term_of terms) s.place s.term j
term-pushed [] s j none = ap (λ b. cond b (Some s.term) None) (turned s.place j)
  where
    turned : (a b : ℕ) → (a == b) ≡ (b == a)
    turned a b = grind (arith, nat_tests)
term-pushed (t ∷ terms) s j none =
    let parts = test-first t.place s.place t.term (term_of terms s.place) none in
    ap (λ o. cond (t.place == j) (Some t.term) o) (term-pushed terms s j parts.1) ∙ go parts.0 (t.place == j) refl (j == s.place) refl
  where
    go : (t.place == s.place) ≡ false → (b : Bool) → (t.place == j) ≡ b → (d : Bool) → (j == s.place) ≡ d → cond b (Some t.term) (cond d (Some s.term) (term_of terms j)) ≡ cond d (Some s.term) (cond b (Some t.term) (term_of terms j))
    go apart true first true last =
        let one = eq-from_test t.place j first in
        let two = eq-from_test j s.place last in
        let same : (t.place == s.place) ≡ true = grind (arith, nat_tests) in
        absurd (cc)
    go apart true first false last = refl
    go apart false first d last = refl

soon : (p : Problem) (terms : List SkolemTerm) (s : SkolemTerm) → SkolemSoFar p terms → IsSkolemTerm p s → term_of terms s.place ≡ None → SkolemSoFar p (terms ++ s ∷ [])
soon p terms s h good none = record {
  each = All-push (IsSkolemTerm p) terms s h.each good;
  once = all_pairs_push (λ a b. a.place ≢ b.place) terms s h.once (All-from_recursion (λ t. t.place ≢ s.place) terms (others-elsewhere terms s.place none));
}

-- in front of the last one, all places are others
pairs-last : (terms : List SkolemTerm) (s : SkolemTerm) → AllPairs (λ a b. a.place ≢ b.place) (terms ++ s ∷ []) → AllByRecursion (λ t. t.place ≢ s.place) terms
pairs-last terms s h =
    recursion_from_All (λ t. t.place ≢ s.place) terms (λ k d less.
    let all = h k (length terms) d less (omega (arith, length_push terms s)) in
    let last : get_or (terms ++ s ∷ []) (length terms) d ≡ s = get_or_push terms s d (length terms) refl in
    let first : get_or (terms ++ s ∷ []) k d ≡ get_or terms k d = get_or_append_left terms (s ∷ []) d k less in
    subst (λ (x : SkolemTerm). x.place ≢ s.place) first (subst (λ (x : SkolemTerm). (get_or (terms ++ s ∷ []) k d).place ≢ x.place) last all))

pub skolem-by-one-more : SkolemByOneMore
skolem-by-one-more p terms s h = (
  λ good none. soon p terms s h good none,
  λ more.
      let each = recursion_from_All (IsSkolemTerm p) (terms ++ s ∷ []) more.each in
      ((back (IsSkolemTerm p) terms (s ∷ []) each).0, no-term terms s.place (pairs-last terms s more.once)),
  λ none j. term-pushed terms s j none,
)
