-- A problem holds where the goal of a Skolem section is true for no values: the terms win every play.
use Rattle.std.proofs.Common.{◌≡◌, ℕ, suc, ◌<◌, ◌≤◌, ◌==◌, ◌⊎◌, Bool, true, false, cond, Option, Some, List, [], ◌∷◌, length, drop, slice_get, refl, sym, ap, ◌∙◌, inl, inr, subst, arith}
use Rattle.std.specs.Prelude.{IfSome, IsSomeAnd, option_and_then, option_map}
use Rattle.std.specs.List.{AllByRecursion}
use Rattle.std.proofs.lemmas.Bool.{cases_eq}
use Rattle.std.proofs.lemmas.Bool.Decides.{nat_tests}
use Rattle.std.proofs.lemmas.List.Elements.{All-from_recursion, recursion_from_All}
use Rattle.qv_words.specs.declared.sort.Sort.{Sort}
use Rattle.qv_words.specs.declared.sort.Sort.TheVariants.{Bool as BoolSort}
use Rattle.qv_words.specs.Sort.{IsValueOf}
use Rattle.qv_words.specs.Tree.{Tree, Nil, Cons, tree_sorts}
use Rattle.qv_words.specs.Sorted.{HasValues, with_level, no_levels, constants_of, free_levels}
use Rattle.qv_words.specs.Meaning.{Means}
use Rattle.qv_words.specs.Replacement.{replaced}
use Rattle.qv_words.specs.Problem.{Problem, Place, Quantifier, Existential, Universal, quantified, closed_from}
use Rattle.qv_words.specs.Skolem.{SkolemTerm, SkolemOk, IsSkolemTerm, IsTermOf, IsEarlierUniversal, term_of, goal_of}
use Rattle.qv_words.specs.Linked.{IsPlaceBelow}
use Rattle.qv_words.specs.GameLaws.{IsProblem}
use Rattle.qv_cert_section_laws.specs.SectionLaws.{FirstTermsWin, IsLedTo, SkolemSoundness, SkolemTermsWin}
use Rattle.qv_words.proofs.Equals.{eq-from_test}
use Rattle.qv_words.proofs.Leaves.{HasValue, Agree, both, at_level, past_level}
use Rattle.qv_words.proofs.Agreeing.{SameConstant, same_meaning}
use Rattle.qv_words.proofs.Existing.{HasConstant, some_meaning, one_or_zero}
use Rattle.qv_words.proofs.Sections.{section-has-term}
use Rattle.qv_words.proofs.Elements.{found-at, some-and, of-some, of-if_some, to-some, to-if_some, none-or_some, all-of, all-weaker, all-none, dropped-first, dropped-all}
use Rattle.qv_cert_section_laws.proofs.PutIn.{IsFit, IsWhole, fit-free, fit-put, whole}

-- the term of a place is one of the section's
pub section-term : (p : Problem) (terms : List SkolemTerm) (j : ℕ) (t : Tree) → AllByRecursion (IsSkolemTerm p) terms → term_of terms j ≡ Some t → IsSkolemTerm p (record { place = j; term = t })
section-term p [] j t each e = absurd (cc)
section-term p (s ∷ rest) j t each e = go (s.place == j) refl e (section-term p rest j t each.1)
  where
    go : (b : Bool) → (s.place == j) ≡ b → cond b (Some s.term) (term_of rest j) ≡ Some t → (term_of rest j ≡ Some t → IsSkolemTerm p (record { place = j; term = t })) → IsSkolemTerm p (record { place = j; term = t })
    go true same is others =
        let term : s.term ≡ t = cc in
        let moved = subst (λ (u : Tree). IsSkolemTerm p (record { place = s.place; term = u })) term each.0 in
        subst (λ (k : ℕ). IsSkolemTerm p (record { place = k; term = t })) (eq-from_test s.place j same) moved
    go false same is others = others is

-- a play f has a value of the place j, that of its term where it has one
abbrev IsPlayed : Problem → List SkolemTerm → (ℕ → Option ℕ) → ℕ → Type 0
IsPlayed p terms f j =
    IsSomeAnd (slice_get p.prefix j) (λ place. IsSomeAnd (f j) (λ v. IsValueOf v place.sort × IfSome (term_of terms j) (λ t. Means [] f t v)))

abbrev ArePlayed : Problem → List SkolemTerm → (ℕ → Option ℕ) → ℕ → Type 0
ArePlayed p terms f n = (j : ℕ) → j < n → IsPlayed p terms f j

-- the parts of that
played-parts : (p : Problem) (terms : List SkolemTerm) (f : ℕ → Option ℕ) (j : ℕ) → IsPlayed p terms f j →
    (place : Place) × (v : ℕ) × (slice_get p.prefix j ≡ Some place) × (f j ≡ Some v) × IsValueOf v place.sort × IfSome (term_of terms j) (λ t. Means [] f t v)
played-parts p terms f j h =
    let a = some-and (slice_get p.prefix j) (λ place. IsSomeAnd (f j) (λ v. IsValueOf v place.sort × IfSome (term_of terms j) (λ t. Means [] f t v))) h in
    let b = some-and (f j) (λ v. IsValueOf v a.0.sort × IfSome (term_of terms j) (λ t. Means [] f t v)) a.2 in
    (a.0, b.0, a.1, b.1, b.2.0, b.2.1)

-- a play has values for the variables of a term
play-values : (p : Problem) (terms : List SkolemTerm) (f : ℕ → Option ℕ) (n j : ℕ) (xs : List (ℕ × Sort)) → j ≤ n → ArePlayed p terms f n → AllByRecursion (IsEarlierUniversal p j) xs → AllByRecursion (HasValue f) xs
play-values p terms f n j xs before played h = all-weaker (IsEarlierUniversal p j) (HasValue f) xs go h
  where
    go : (leaf : ℕ × Sort) → IsEarlierUniversal p j leaf → HasValue f leaf
    go leaf k =
        let parts = played-parts p terms f leaf.0 (played leaf.0 (omega (arith, k.0, before))) in
        let own = of-some (slice_get p.prefix leaf.0) (λ place. (place.quantifier ≡ Universal) × (place.sort ≡ leaf.1)) parts.0 parts.2 k.1 in
        to-some (f leaf.0) (λ v. IsValueOf v leaf.1) parts.1 parts.3 (subst (IsValueOf parts.1) own.1 parts.4)

-- a term of a place keeps its meaning where a later place gets its value
later-place : (p : Problem) (j n u : ℕ) (f : ℕ → Option ℕ) (t : Tree) (v : ℕ) → j ≤ n → AllByRecursion (IsEarlierUniversal p j) (free_levels t) → Means [] f t v → Means [] (with_level f n u) t v
later-place p j n u f t v before h m =
    same_meaning t [] [] f (with_level f n u) v (all-of (SameConstant [] []) (constants_of t) (λ leaf. refl))
    (all-weaker (IsEarlierUniversal p j) (Agree f (with_level f n u)) (free_levels t) (λ leaf k. sym (past_level f n u leaf.0 (other leaf.0 k.0))) h) m
  where
    other : (k : ℕ) → k < j → (k == n) ≡ false
    other k less = let below : k < n = omega (arith, less, before) in grind (arith, nat_tests)

-- the next place gets its value
played-more : (p : Problem) (terms : List SkolemTerm) (f : ℕ → Option ℕ) (n u : ℕ) (place : Place) → AllByRecursion (IsSkolemTerm p) terms → ArePlayed p terms f n → slice_get p.prefix n ≡ Some place → IsValueOf u place.sort → IfSome (term_of terms n) (λ t. Means [] f t u) → ArePlayed p terms (with_level f n u) (suc n)
played-more p terms f n u place each played at fits own j less = go (cases_eq j n)
  where
    g : ℕ → Option ℕ
    g = with_level f n u

    kept : (k v : ℕ) → k ≤ n → IfSome (term_of terms k) (λ t. Means [] f t v) → IfSome (term_of terms k) (λ t. Means [] (with_level f n u) t v)
    kept k v before h = to-if_some (term_of terms k) (λ t. Means [] (with_level f n u) t v) (λ t is.
        let good = section-term p terms k t each is in
        later-place p k n u f t v before (recursion_from_All (IsEarlierUniversal p k) (free_levels t) good.1) (of-if_some (term_of terms k) (λ x. Means [] f x v) t is h))

    here : IsPlayed p terms (with_level f n u) n
    here =
        to-some (slice_get p.prefix n) (λ q. IsSomeAnd (with_level f n u n) (λ v. IsValueOf v q.sort × IfSome (term_of terms n) (λ t. Means [] (with_level f n u) t v))) place at
        (to-some (with_level f n u n) (λ v. IsValueOf v place.sort × IfSome (term_of terms n) (λ t. Means [] (with_level f n u) t v)) u (at_level f n u n (grind (arith, nat_tests))) (fits, kept n u (omega arith) own))

    go : (j ≡ n) ⊎ ((j ≡ n) → ⊥) → IsPlayed p terms (with_level f n u) j
    go (inl same) = subst (IsPlayed p terms (with_level f n u)) (sym same) here
    go (inr other) =
        let below : j < n = omega (arith, less, other) in
        let parts = played-parts p terms f j (played j below) in
        let apart : (j == n) ≡ false = grind (arith, nat_tests) in
        to-some (slice_get p.prefix j) (λ q. IsSomeAnd (with_level f n u j) (λ v. IsValueOf v q.sort × IfSome (term_of terms j) (λ t. Means [] (with_level f n u) t v))) parts.0 parts.2
        (to-some (with_level f n u j) (λ v. IsValueOf v parts.0.sort × IfSome (term_of terms j) (λ t. Means [] (with_level f n u) t v)) parts.1 (past_level f n u j apart ∙ parts.3) (parts.4, kept j parts.1 (omega (arith, below)) parts.5))

-- at the end of a play the terms fit in the matrix
matrix-fits : (p : Problem) (terms : List SkolemTerm) (f : ℕ → Option ℕ) (n : ℕ) → AllByRecursion (IsSkolemTerm p) terms → length p.prefix ≤ n → ArePlayed p terms f n → (leaf : ℕ × Sort) → IsPlaceBelow p (length p.prefix) leaf → IsFit (term_of terms) f f leaf
matrix-fits p terms f n each long played leaf below =
    elim (none-or_some (term_of terms leaf.0)) [
      | inl none ↦ fit-free (term_of terms) f f leaf none refl value
      | inr some ↦ fitted some.0 some.1
    ]
  where
    less : leaf.0 < n
    less = omega (arith, below.0, long)

    value : HasValue f leaf
    value =
        let parts = played-parts p terms f leaf.0 (played leaf.0 less) in
        let own = of-some (slice_get p.prefix leaf.0) (λ place. place.sort ≡ leaf.1) parts.0 parts.2 below.1 in
        to-some (f leaf.0) (λ v. IsValueOf v leaf.1) parts.1 parts.3 (subst (IsValueOf parts.1) own parts.4)

    fitted : (t : Tree) → term_of terms leaf.0 ≡ Some t → IsFit (term_of terms) f f leaf
    fitted t is =
        let parts = played-parts p terms f leaf.0 (played leaf.0 less) in
        let own = of-some (slice_get p.prefix leaf.0) (λ place. place.sort ≡ leaf.1) parts.0 parts.2 below.1 in
        let good = section-term p terms leaf.0 t each is in
        let place = of-some (slice_get p.prefix leaf.0) (λ q. (q.quantifier ≡ Existential) × IsTermOf t q.sort) parts.0 parts.2 good.0 in
        let known = recursion_from_All (IsEarlierUniversal p leaf.0) (free_levels t) good.1 in
        fit-put (term_of terms) f f leaf t parts.1 is (subst (IsTermOf t) own place.1) parts.3
        (of-if_some (term_of terms leaf.0) (λ x. Means [] f x parts.1) t is parts.5)
        (play-values p terms f n leaf.0 (free_levels t) (omega (arith, less)) played known)

-- a goal is false for all values
abbrev IsNever : Tree → Type 0
IsNever goal = (e : ℕ → Option ℕ) → HasValues [] e goal → Means [] e goal 1 → ⊥

-- at the end of a play the matrix is true
play-won : (p : Problem) (terms : List SkolemTerm) (f : ℕ → Option ℕ) (n : ℕ) → IsProblem p → AllByRecursion (IsSkolemTerm p) terms → IsNever (goal_of p terms) → length p.prefix ≤ n → ArePlayed p terms f n → Means [] f p.matrix 1
play-won p terms f n problem each never long played =
    elim (one_or_zero (Means [] f (replaced (term_of terms) p.matrix)) some.0 some.1 some.2) [
      | inl one ↦ all.back 1 one
      | inr none ↦ absurd (never f values (BoolSort ∷ [], 0 ∷ [], sorts, (0, [], none, refl, refl), refl))
    ]
  where
    all : IsWhole (term_of terms) f f p.matrix BoolSort
    all =
        whole (term_of terms) f f p.matrix BoolSort problem.matrix
        (all-weaker (IsPlaceBelow p (length p.prefix)) (IsFit (term_of terms) f f) (free_levels p.matrix) (matrix-fits p terms f n each long played)
        (recursion_from_All (IsPlaceBelow p (length p.prefix)) (free_levels p.matrix) problem.variables))

    some : (v : ℕ) × IsValueOf v BoolSort × Means [] f (replaced (term_of terms) p.matrix) v
    some = some_meaning (replaced (term_of terms) p.matrix) no_levels [] f BoolSort all.sorted all.constants all.levels all.sort

    sorts : tree_sorts (Cons (replaced (term_of terms) p.matrix) Nil) ≡ Some (BoolSort ∷ [])
    sorts = ap (option_and_then (λ s. option_map (λ rest. s ∷ rest) (tree_sorts Nil))) all.sort

    values : HasValues [] f (goal_of p terms)
    values = record {
      constants = All-from_recursion (HasConstant []) (constants_of (goal_of p terms)) (both (HasConstant []) (constants_of (replaced (term_of terms) p.matrix)) [] all.constants tt);
      levels = All-from_recursion (HasValue f) (free_levels (goal_of p terms)) (both (HasValue f) (free_levels (replaced (term_of terms) p.matrix)) [] all.levels tt);
    }

-- from each place on the terms win
wins-from : (p : Problem) (terms : List SkolemTerm) → IsProblem p → SkolemOk p terms → IsNever (goal_of p terms) → (places : List Place) (n : ℕ) (f : ℕ → Option ℕ) → drop n p.prefix ≡ places → ArePlayed p terms f n → Means [] f (closed_from n places p.matrix) 1
wins-from p terms problem ok never [] n f behind played =
    play-won p terms f n problem (recursion_from_All (IsSkolemTerm p) terms ok.each) never (dropped-all p.prefix n behind) played
wins-from p terms problem ok never (place ∷ places) n f behind played =
    go place.quantifier refl (λ u next. wins-from p terms problem ok never places (suc n) (with_level f n u) parts.1 next)
  where
    each : AllByRecursion (IsSkolemTerm p) terms
    each = recursion_from_All (IsSkolemTerm p) terms ok.each

    parts : (slice_get p.prefix n ≡ Some place) × (drop (suc n) p.prefix ≡ places)
    parts = dropped-first p.prefix n place places behind

    go : (q : Quantifier) → place.quantifier ≡ q → ((u : ℕ) → ArePlayed p terms (with_level f n u) (suc n) → Means [] (with_level f n u) (closed_from (suc n) places p.matrix) 1) → Means [] f (quantified q n place.sort (closed_from (suc n) places p.matrix)) 1
    go Universal is rest =
        inl (
          refl,
          λ u fits. rest u (played-more p terms f n u place each played parts.0 fits (to-if_some (term_of terms n) (λ t. Means [] f t u) (λ t found.
              let good = section-term p terms n t each found in
              let own = of-some (slice_get p.prefix n) (λ q. (q.quantifier ≡ Existential) × IsTermOf t q.sort) place parts.0 good.0 in
              let wrong : Existential ≡ Universal = sym own.0 ∙ is in
              absurd (cc)))),
        )
    go Existential is rest =
        let found = some-and (term_of terms n) (λ t. IsTermOf t place.sort) (section-has-term p terms n place ok parts.0 is) in
        let t = found.0 in
        let good = section-term p terms n t each found.1 in
        let known = recursion_from_All (IsEarlierUniversal p n) (free_levels t) good.1 in
        let value = some_meaning t no_levels [] f place.sort found.2.sorted (all-none (HasConstant []) (constants_of t) found.2.constant_free) (play-values p terms f n n (free_levels t) (omega arith) played known) found.2.sort in
        let own : IfSome (term_of terms n) (λ x. Means [] f x value.0) = subst (λ (o : Option Tree). IfSome o (λ x. Means [] f x value.0)) (sym found.1) value.2 in
        inl (refl, (value.0, value.1, rest value.0 (played-more p terms f n value.0 place each played parts.0 value.1 own)))

pub skolem-soundness : SkolemSoundness
skolem-soundness p terms problem ok never =
    wins-from p terms problem ok never p.prefix 0 no_levels refl (λ j less. absurd (omega (arith, less)))

pub skolem-terms_win : SkolemTermsWin
skolem-terms_win p terms point problem ok never led = wins-from p terms problem ok never (drop (length point) p.prefix) (length point) (slice_get point) refl led

-- the terms of the first places have no variables, since no universal place is before them
pub first-terms_win : FirstTermsWin
first-terms_win p terms values problem ok never each = skolem-terms_win p terms values problem ok never led
  where
    no-universal : (j l : ℕ) (s : Sort) → j < length values → IsEarlierUniversal p j (l, s) → ⊥
    no-universal j l s less h =
        let at = found-at values l (omega (arith, less, h.0)) in
        let place = some-and (slice_get p.prefix l) (λ q. (q.quantifier ≡ Universal) × (q.sort ≡ s)) h.1 in
        let own = of-some (slice_get p.prefix l) (λ q. (q.quantifier ≡ Existential) × IsValueOf at.0 q.sort) place.0 place.1 (each l at.0 at.1).0 in
        let wrong : Existential ≡ Universal = sym own.0 ∙ place.2.0 in
        absurd (cc)

    led : IsLedTo p terms values
    led j less =
        let at = found-at values j less in
        let own = each j at.0 at.1 in
        let place = some-and (slice_get p.prefix j) (λ q. (q.quantifier ≡ Existential) × IsValueOf at.0 q.sort) own.0 in
        let term = some-and (term_of terms j) (λ t. Means [] no_levels t at.0) own.1 in
        let good = section-term p terms j term.0 (recursion_from_All (IsSkolemTerm p) terms ok.each) term.1 in
        let means : Means [] (slice_get values) term.0 at.0 =
        same_meaning term.0 [] [] no_levels (slice_get values) at.0 (all-of (SameConstant [] []) (constants_of term.0) (λ leaf. refl))
        (all-weaker (IsEarlierUniversal p j) (Agree no_levels (slice_get values)) (free_levels term.0) (λ leaf k. absurd (no-universal j leaf.0 leaf.1 less k)) (recursion_from_All (IsEarlierUniversal p j) (free_levels term.0) good.1)) term.2 in
        to-some (slice_get p.prefix j) (λ q. IsSomeAnd (slice_get values j) (λ v. IsValueOf v q.sort × IfSome (term_of terms j) (λ t. Means [] (slice_get values) t v))) place.0 place.1
        (to-some (slice_get values j) (λ v. IsValueOf v place.0.sort × IfSome (term_of terms j) (λ t. Means [] (slice_get values) t v)) at.0 at.1
        (place.2.1, subst (λ (o : Option Tree). IfSome o (λ t. Means [] (slice_get values) t at.0)) (sym term.1) means))
