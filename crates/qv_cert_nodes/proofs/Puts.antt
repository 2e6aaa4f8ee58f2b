-- The terms of places, and the matrix with them put in.
use Rattle.std.proofs.Common.{◌≡◌, ℕ, zero, suc, ◌<◌, ◌==◌, ◌&&◌, ◌||◌, Bool, true, false, not, cond, Option, Some, None, List, [], ◌∷◌, length, map, drop, set, slice_get, unwrap_or, refl, sym, ap, subst, ◌∙◌, arith}
use Rattle.std.specs.Prelude.{is_some, All, IfSome, MatchOption, option_map}
use Rattle.std.specs.List.{AllByRecursion}
use Rattle.std.proofs.lemmas.Bool.{eqb-true, eqb-false}
use Rattle.std.proofs.lemmas.List.{length-map}
use Rattle.std.proofs.lemmas.Option.{slice_get_within}
use Rattle.std.proofs.lemmas.List.Elements.{All-from_recursion, recursion_from_All}
use Rattle.qv_words.specs.declared.sort.Sort.{Sort}
use Rattle.qv_words.specs.declared.sort.Sort.TheVariants.{Bool as BoolSort}
use Rattle.qv_words.specs.Tree.{Tree, Trees, Constant, Variable, Literal, Apply, ForAll, Exists, Nil, Cons, tree_sort, IsQuantifierFree}
use Rattle.qv_words.specs.Sorted.{free_levels}
use Rattle.qv_words.specs.Problem.{Problem, Existential}
use Rattle.qv_words.specs.Prenex.{negation}
use Rattle.qv_words.specs.Replacement.{replaced, replaced_each, HasTheirSorts}
use Rattle.qv_words.specs.Skolem.{SkolemTerm, IsSkolemTerm, IsTermOf, term_of, goal_of}
use Rattle.qv_words.specs.Linked.{IsPlaceBelow}
use Rattle.qv_words.specs.GameLaws.{IsProblem}
use Rattle.qv_words.proofs.Elements.{all-weaker, all-of, dropped-at, some-and, of-some}
use Rattle.qv_words.proofs.Replaced.{same-put}
use Rattle.qv_cert_section_laws.proofs.PutTerms.{IsTermThere, term-put, negation-term}
use Rattle.qv_store.specs.declared.problem.Place.{Place}
use Rattle.qv_store.specs.declared.problem.Problem.{Problem as StoreProblem}
use Rattle.qv_store.specs.Nodes.{tree_at}
use Rattle.qv_store.specs.Stores.{StandsAt}
use Rattle.qv_store.specs.Problems.{place_of, problem_in, quantifier_of}
use Rattle.qv_store.specs.Replacing.{put_by_level, term_of_level, AreTermsOf}
use Rattle.qv_cert.specs.Listed.{Listed as PlainListed}
use Rattle.qv_cert.specs.Faults.{is_existential, lacks_from}
use Rattle.qv_cert_nodes.specs.declared.listed.Term.{Term}
use Rattle.qv_cert_nodes.specs.Lists.{term_in}
use Rattle.qv_cert_nodes.specs.Putting.{term_given, lacks_in}

-- ---- terms by place

set-there : (xs : List (Option ℕ)) (x : ℕ) (v : Option ℕ) → x < length xs → term_of_level (set xs x v) x ≡ v
set-there [] x v h = absurd (omega (arith, h))
set-there (y ∷ ys) zero v h = refl
set-there (y ∷ ys) (suc x) v h = set-there ys x v (omega (arith, h))

set-others : (xs : List (Option ℕ)) (x l : ℕ) (v : Option ℕ) → (x ≡ l → ⊥) → term_of_level (set xs x v) l ≡ term_of_level xs l
set-others [] x l v h = refl
set-others (y ∷ ys) zero zero v h = absurd (h refl)
set-others (y ∷ ys) zero (suc l) v h = refl
set-others (y ∷ ys) (suc x) zero v h = refl
set-others (y ∷ ys) (suc x) (suc l) v h = set-others ys x l v (λ e. h (ap suc e))

term-set : (xs : List (Option ℕ)) (x id j : ℕ) → x < length xs → term_of_level (set xs x (Some id)) j ≡ cond (x == j) (Some id) (term_of_level xs j)
term-set xs x id j h = go (x == j) refl
  where
    go : (b : Bool) → (x == j) ≡ b → term_of_level (set xs x (Some id)) j ≡ cond b (Some id) (term_of_level xs j)
    go true e = ap (λ k. term_of_level (set xs x (Some id)) k) (sym (eqb-true x j e)) ∙ set-there xs x (Some id) h
    go false e = set-others xs x j (Some id) (eqb-false x j e)

-- one more of the last terms
pub one-given : (terms : List Term) (put new : List (Option ℕ)) (left : ℕ) (t : Term) → slice_get terms left ≡ Some t → new ≡ set put t.place (Some t.id) → t.place < length put
    → ((j : ℕ) → term_of_level put j ≡ term_given (drop (suc left) terms) j) → (j : ℕ) → term_of_level new j ≡ term_given (drop left terms) j
one-given terms put new left t at e within h j =
    ap (λ (xs : List (Option ℕ)). term_of_level xs j) e
    ∙ term-set put t.place t.id j within
    ∙ ap (cond (t.place == j) (Some t.id)) (h j)
    ∙ sym (ap (λ (ts : List Term). term_given ts j) (dropped-at terms left t at))

-- what they stand for
pub given-stands : (trees : List Tree) (ts : List Term) (j : ℕ) → option_map (tree_at trees) (term_given ts j) ≡ term_of (map (term_in trees) ts) j
given-stands trees [] j = refl
given-stands trees (t ∷ ts) j = go (t.place == j) (given-stands trees ts j)
  where
    go : (b : Bool) → option_map (tree_at trees) (term_given ts j) ≡ term_of (map (term_in trees) ts) j
        → option_map (tree_at trees) (cond b (Some t.id) (term_given ts j)) ≡ cond b (Some (tree_at trees t.id)) (term_of (map (term_in trees) ts) j)
    go true e = refl
    go false e = e

pub put-stands : (trees : List Tree) (ts : List Term) (put : List (Option ℕ)) → ((j : ℕ) → term_of_level put j ≡ term_given ts j) → (j : ℕ) → put_by_level trees put j ≡ term_of (map (term_in trees) ts) j
put-stands trees ts put h j = ap (option_map (tree_at trees)) (h j) ∙ given-stands trees ts j

mapped-some : {A B : Type 0} (f : A → B) (o : Option A) → is_some (option_map f o) ≡ is_some o
mapped-some f None = refl
mapped-some f (Some x) = refl

-- where a place has none
pub lacks-same : (l : PlainListed) (put : List (Option ℕ)) (j : ℕ) (places : List Place) → ((k : ℕ) → is_some (term_of_level put k) ≡ is_some (term_of l.terms k)) → lacks_in put j places ≡ lacks_from l j (map place_of places)
lacks-same l put j [] h = refl
lacks-same l put j (place ∷ places) h =
    ap (λ (b : Bool). (is_existential (quantifier_of place.quant) && not b) || lacks_in put (suc j) places) (h j)
    ∙ ap (λ (b : Bool). (is_existential (quantifier_of place.quant) && not (is_some (term_of l.terms j))) || b) (lacks-same l put (suc j) places h)

pub put-some : (trees : List Tree) (ts : List Term) (put : List (Option ℕ)) → ((j : ℕ) → term_of_level put j ≡ term_given ts j) → (k : ℕ) → is_some (term_of_level put k) ≡ is_some (term_of (map (term_in trees) ts) k)
put-some trees ts put h k = sym (mapped-some (tree_at trees) (term_of_level put k)) ∙ ap (λ (o : Option Tree). is_some o) (put-stands trees ts put h k)

-- ---- they are Skolem terms

pub terms-within : (trees : List Tree) (p : StoreProblem) (ts : List Term) → AllByRecursion (IsSkolemTerm (problem_in trees p)) (map (term_in trees) ts) → AllByRecursion (λ t. t.place < length p.prefix.items) ts
terms-within trees p [] h = tt
terms-within trees p (t ∷ ts) h =
    let found = some-and (slice_get (problem_in trees p).prefix t.place) (λ q. (q.quantifier ≡ Existential) × IsTermOf (tree_at trees t.id) q.sort) h.0.0 in
    (omega (arith, slice_get_within (problem_in trees p).prefix t.place found.0 found.1, length-map p.prefix.items place_of), terms-within trees p ts h.1)

skolem-there : (p : Problem) (ss : List SkolemTerm) (j : ℕ) (u : Tree) → AllByRecursion (IsSkolemTerm p) ss → term_of ss j ≡ Some u → IsSkolemTerm p (record { place = j; term = u })
skolem-there p [] j u h e = absurd cc
skolem-there p (s ∷ ss) j u h e = go (s.place == j) refl e (λ is. skolem-there p ss j u h.1 is)
  where
    go : (b : Bool) → (s.place == j) ≡ b → cond b (Some s.term) (term_of ss j) ≡ Some u → (term_of ss j ≡ Some u → IsSkolemTerm p (record { place = j; term = u })) → IsSkolemTerm p (record { place = j; term = u })
    go true at is others =
        let same : s.term ≡ u = cc in
        subst (λ (t : Tree). IsSkolemTerm p (record { place = j; term = t })) same
        (subst (λ k. IsSkolemTerm p (record { place = k; term = s.term })) (eqb-true s.place j at) h.0)
    go false at is others = others is

-- whatever variables they have
abbrev pub Any : ℕ × Sort → Type 0
Any leaf = Unit {0}

any-each : (xs : List (ℕ × Sort)) → AllByRecursion Any xs
any-each xs = all-of Any xs (λ x. tt)

leaf-there : (p : Problem) (ss : List SkolemTerm) (leaf : ℕ × Sort) → AllByRecursion (IsSkolemTerm p) ss → IsPlaceBelow p (length p.prefix) leaf → IsTermThere Any (term_of ss) leaf
leaf-there p ss leaf h below = go (term_of ss leaf.0) (λ u e. skolem-there p ss leaf.0 u h e)
  where
    go : (o : Option Tree) → ((u : Tree) → o ≡ Some u → IsSkolemTerm p (record { place = leaf.0; term = u }))
        → MatchOption o (Any leaf) (λ put. IsTermOf put leaf.1 × AllByRecursion Any (free_levels put))
    go None k = tt
    go (Some u) k =
        let s = k u refl in
        let found = some-and (slice_get p.prefix leaf.0) (λ q. (q.quantifier ≡ Existential) × IsTermOf u q.sort) s.0 in
        let own = of-some (slice_get p.prefix leaf.0) (λ q. q.sort ≡ leaf.1) found.0 found.1 below.1 in
        (subst (IsTermOf u) own found.2.1, any-each (free_levels u))

pub leaves-there : (p : Problem) (ss : List SkolemTerm) (b : ℕ → Option Tree) → IsProblem p → AllByRecursion (IsSkolemTerm p) ss → ((j : ℕ) → b j ≡ term_of ss j) → AllByRecursion (IsTermThere Any b) (free_levels p.matrix)
leaves-there p ss b problem h same =
    all-weaker (IsPlaceBelow p (length p.prefix)) (IsTermThere Any b) (free_levels p.matrix)
    (λ leaf below. subst (λ (o : Option Tree). MatchOption o (Any leaf) (λ put. IsTermOf put leaf.1 × AllByRecursion Any (free_levels put))) (sym (same leaf.0)) (leaf-there p ss leaf h below))
    (recursion_from_All (IsPlaceBelow p (length p.prefix)) (free_levels p.matrix) problem.variables)

-- ---- the matrix with terms put in

sort-put : (P : ℕ × Sort → Type 0) (o : Option Tree) (leaf : ℕ × Sort) → MatchOption o (P leaf) (λ put. IsTermOf put leaf.1 × AllByRecursion P (free_levels put)) → IfSome o (λ put. tree_sort put ≡ Some leaf.1)
sort-put P None leaf h = tt
sort-put P (Some put) leaf h = h.0.sort

pub sorts-put : (P : ℕ × Sort → Type 0) (b : ℕ → Option Tree) (t : Tree) → AllByRecursion (IsTermThere P b) (free_levels t) → HasTheirSorts b t
sorts-put P b t h =
    All-from_recursion (λ leaf. IfSome (b leaf.0) (λ put. tree_sort put ≡ Some leaf.1)) (free_levels t)
    (all-weaker (IsTermThere P b) (λ leaf. IfSome (b leaf.0) (λ put. tree_sort put ≡ Some leaf.1)) (free_levels t) (λ leaf k. sort-put P (b leaf.0) leaf k) h)

-- ---- the goal

pub given-terms : (trees : List Tree) (ts : List Term) (put : List (Option ℕ)) → AllByRecursion (λ t. t.id < length trees) ts → ((j : ℕ) → term_of_level put j ≡ term_given ts j) → AreTermsOf trees put
given-terms trees ts put h same l n e = go ts h (sym (same l) ∙ e)
  where
    go : (us : List Term) → AllByRecursion (λ t. t.id < length trees) us → term_given us l ≡ Some n → n < length trees
    go [] k is = absurd cc
    go (u ∷ us) k is = pick (u.place == l) is (λ h. go us k.1 h)
      where
        pick : (b : Bool) → cond b (Some u.id) (term_given us l) ≡ Some n → (term_given us l ≡ Some n → n < length trees) → n < length trees
        pick true e others = let same : u.id ≡ n = cc in omega (arith, k.0, same)
        pick false e others = others e

pub goal-term : (trees : List Tree) (p : StoreProblem) (ts : List Term) (put : List (Option ℕ)) → IsProblem (problem_in trees p) → All (IsSkolemTerm (problem_in trees p)) (map (term_in trees) ts)
    → ((j : ℕ) → term_of_level put j ≡ term_given ts j) → IsTermOf (replaced (put_by_level trees put) (problem_in trees p).matrix) BoolSort
goal-term trees p ts put problem skolem same =
    (term-put Any (put_by_level trees put) (problem_in trees p).matrix BoolSort problem.matrix
    (leaves-there (problem_in trees p) (map (term_in trees) ts) (put_by_level trees put) problem (recursion_from_All (IsSkolemTerm (problem_in trees p)) (map (term_in trees) ts) skolem) (put-stands trees ts put same))).0

pub goal-sorts : (trees : List Tree) (p : StoreProblem) (ts : List Term) (put : List (Option ℕ)) → IsProblem (problem_in trees p) → All (IsSkolemTerm (problem_in trees p)) (map (term_in trees) ts)
    → ((j : ℕ) → term_of_level put j ≡ term_given ts j) → HasTheirSorts (put_by_level trees put) (problem_in trees p).matrix
goal-sorts trees p ts put problem skolem same =
    sorts-put Any (put_by_level trees put) (problem_in trees p).matrix
    (leaves-there (problem_in trees p) (map (term_in trees) ts) (put_by_level trees put) problem (recursion_from_All (IsSkolemTerm (problem_in trees p)) (map (term_in trees) ts) skolem) (put-stands trees ts put same))

pub goal-stands : (trees mid new : List Tree) (p : StoreProblem) (ts : List Term) (put : List (Option ℕ)) (matrix id : ℕ) → ((j : ℕ) → term_of_level put j ≡ term_given ts j)
    → StandsAt mid matrix (replaced (put_by_level trees put) (problem_in trees p).matrix) → StandsAt new id (negation (tree_at mid matrix)) → StandsAt new id (goal_of (problem_in trees p) (map (term_in trees) ts))
goal-stands trees mid new p ts put matrix id same m s = record {
  below = s.below;
  tree = s.tree ∙ ap negation (m.tree ∙ same-put (put_by_level trees put) (term_of (map (term_in trees) ts)) (put-stands trees ts put same) (problem_in trees p).matrix);
}

pub goal-free : (mid new : List Tree) (matrix id : ℕ) → IsTermOf (tree_at mid matrix) BoolSort → StandsAt new id (negation (tree_at mid matrix)) → IsQuantifierFree (tree_at new id)
goal-free mid new matrix id term s = subst IsQuantifierFree (sym s.tree) (negation-term (tree_at mid matrix) term).quantifier_free
