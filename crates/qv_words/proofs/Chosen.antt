-- With the chosen terms put in, a region stays true at its point.
use Rattle.std.proofs.Common.{◌≡◌, ℕ, zero, suc, ◌+◌, ◌-◌, ◌≤◌, ◌<◌, ◌==◌, ◌&&◌, ◌||◌, ◌⊎◌, nat_le, nat_lt, arith, inl, inr, Bool, true, false, cond, not, Option, Some, None, List, [], ◌∷◌, ◌++◌, length, map, filter, refl, sym, ap, ◌∙◌, subst, slice_get}
use Rattle.std.specs.Prelude.{IfSome, IsSomeAnd, MatchOption, unwrap_or, option_map, option_and_then}
use Rattle.std.specs.List.{AllByRecursion, list_any, flat_map}
use Rattle.std.specs.Option.{option_to_list}
use Rattle.std.proofs.lemmas.Bool.{eqb-true, eqb-false, lt-ltb, le-ltb, le-leb, ltb-true, ltb-false}
use Rattle.std.proofs.lemmas.Option.{slice_get_past}
use Rattle.std.proofs.lemmas.List.Elements.{recursion_from_All, All-from_recursion, All-filter, filter_passes}
use Rattle.qv_words.specs.declared.sort.Sort.{Sort}
use Rattle.qv_words.specs.declared.sort.Sort.TheVariants.{Bits, Bool as BoolSort}
use Rattle.qv_words.specs.declared.op.Op.{Op}
use Rattle.qv_words.specs.declared.op.Op.TheVariants.{And}
use Rattle.qv_words.specs.Tree.{Tree, Trees, Constant, Variable, Literal, Apply, ForAll, Exists, Nil, Cons, tree_sort, tree_sorts, IsQuantifierFree, AreQuantifierFree}
use Rattle.qv_words.specs.Sorted.{no_levels, with_level, free_levels, free_levels_of_all}
use Rattle.qv_words.specs.Meaning.{Means}
use Rattle.qv_words.specs.Replacement.{replaced, replaced_each}
use Rattle.qv_words.specs.Clauses.{is_among, nodes}
use Rattle.qv_words.specs.Prenex.{binary, is_bool}
use Rattle.qv_words.specs.Problem.{conjunction_with}
use Rattle.qv_words.specs.Passes.{truth_literal}
use Rattle.qv_words.specs.Inverse.{inverse_term}
use Rattle.qv_words.specs.Choice.{occurrences, is_in, is_below_ite, literal_value, put_in_row, next_target, descend, targets_around, is_comparison, is_equation, targets, candidates_down, candidates_of_sides, candidates_of, is_outside, is_and, joined, is_implication, implications, together, definitions, candidates, with_term, IsTrueAt, IsChosen, AreChosen}
use Rattle.qv_words.specs.Linked.{terms_from, with_terms}
use Rattle.qv_words.specs.ChoiceLaws.{HasSortAt, HasSortsFrom, ChosenTermsStandOutside, ChosenTermsKeepTruth, ChosenBlocksKeepTruth, OneChoice}
use Rattle.qv_words.proofs.Leaves.{front, back, both}
use Rattle.qv_words.proofs.NewNodes.{tree-new}
use Rattle.qv_words.proofs.Replacing.{HasItsSort, TakesItsMeaning, same_value}
use Rattle.qv_words.proofs.Replaced.{IsPlainPut, HoldsPut, stays-plain, variables-put}
use Rattle.qv_words.proofs.InverseFree.{inverse-free}
use Rattle.qv_words.proofs.Elements.{all-of, all-weaker, all-both, either}

-- no quantifier in any of some trees
abbrev Free : List Tree → Type 0
Free = AllByRecursion IsQuantifierFree

-- a tree without quantifiers stays so where such trees are put in
replaced-free : (b : ℕ → Option Tree) (t : Tree) → ((l : ℕ) → IfSome (b l) IsQuantifierFree) → IsQuantifierFree t → IsQuantifierFree (replaced b t)
replaced-free b t g h = stays-plain t b h (all-of (IsPlainPut b) (free_levels t) (λ leaf. g leaf.0))

level-free : (P : Tree → Type 0) (b : ℕ → Option Tree) (x : ℕ) (t : Tree) → ((l : ℕ) → IfSome (b l) P) → P t → (l : ℕ) → IfSome (with_level b x t l) P
level-free P b x t g h l = go (l == x)
  where
    go : (at : Bool) → IfSome (cond at (Some t) (b l)) P
    go true = h
    go false = g l

-- targets and candidates have no quantifiers
pub next-free : (o : Op) (position : ℕ) (sorts : Option (List Sort)) (s t : Tree) → IsQuantifierFree s → IsQuantifierFree t → IfSome (next_target o position sorts s t) IsQuantifierFree
next-free o position None s t g h = tt
next-free o position (Some sorts) s t g h = go (inverse_term o position sorts (literal_value s)) (inverse-free o position sorts (literal_value s))
  where
    put : (l : ℕ) → IfSome (with_level (with_level no_levels 0 s) 1 t l) IsQuantifierFree
    put = level-free IsQuantifierFree (with_level no_levels 0 s) 1 t (level-free IsQuantifierFree no_levels 0 s (λ l. tt) g) h

    go : (row : Option Tree) → IfSome row IsQuantifierFree → IfSome (option_map (put_in_row s t) row) IsQuantifierFree
    go None k = tt
    go (Some row) k = replaced-free (with_level (with_level no_levels 0 s) 1 t) row put k

pub then-free : (p : Option Tree) (f : Tree → Option Tree) → IfSome p IsQuantifierFree → ((t : Tree) → IsQuantifierFree t → IfSome (f t) IsQuantifierFree) → IfSome (option_and_then f p) IsQuantifierFree
then-free None f h k = tt
then-free (Some t) f h k = k t h

pub descend-free : (x : ℕ) (side t : Tree) → IsQuantifierFree side → IsQuantifierFree t → IfSome (descend x side t) IsQuantifierFree
descend-free x (Variable l s) t g h = either (λ o. IfSome o IsQuantifierFree) (l == x) (Some t) None h tt
descend-free x (Apply o (Cons a Nil)) t g h =
    then-free (next_target o 0 (tree_sorts (Cons a Nil)) t t) (descend x a) (next-free o 0 (tree_sorts (Cons a Nil)) t t h h) (λ u k. descend-free x a u g.0 k)
descend-free x (Apply o (Cons a (Cons b Nil))) t g h =
    either (λ p. IfSome p IsQuantifierFree) (is_in x a)
    (option_and_then (λ next. descend x a next) (next_target o 0 (tree_sorts (Cons a (Cons b Nil))) b t))
    (option_and_then (λ next. descend x b next) (next_target o 1 (tree_sorts (Cons a (Cons b Nil))) a t))
    (then-free (next_target o 0 (tree_sorts (Cons a (Cons b Nil))) b t) (descend x a) (next-free o 0 (tree_sorts (Cons a (Cons b Nil))) b t g.1.0 h) (λ u k. descend-free x a u g.0 k))
    (then-free (next_target o 1 (tree_sorts (Cons a (Cons b Nil))) a t) (descend x b) (next-free o 1 (tree_sorts (Cons a (Cons b Nil))) a t g.0 h) (λ u k. descend-free x b u g.1.0 k))
descend-free x (Constant i s) t g h = tt
descend-free x (Literal s n) t g h = tt
descend-free x (ForAll l s body) t g h = tt
descend-free x (Exists l s body) t g h = tt
descend-free x (Apply o Nil) t g h = tt
descend-free x (Apply o (Cons a (Cons b (Cons c rest)))) t g h = tt

all-flat : (f : Tree → List Tree) (ts : List Tree) → ((t : Tree) → IsQuantifierFree t → Free (f t)) → Free ts → Free (flat_map f ts)
all-flat f [] each h = tt
all-flat f (t ∷ ts) each h = both IsQuantifierFree (f t) (flat_map f ts) (each t h.0) (all-flat f ts each h.1)

list-free : (o : Option Tree) → IfSome o IsQuantifierFree → Free (option_to_list o)
list-free None h = tt
list-free (Some t) h = (h, tt)

down-free : (x : ℕ) (side : Tree) (ts : List Tree) → IsQuantifierFree side → Free ts → Free (candidates_down x side ts)
down-free x side ts g h = all-flat (λ t. option_to_list (descend x side t)) ts (λ t k. list-free (descend x side t) (descend-free x side t g k)) h

around-free : (b : Tree) (s : Option Sort) → IsQuantifierFree b → Free (targets_around b s)
around-free b (Some (Bits w)) h = ((h, (tt, tt)), ((h, (tt, tt)), (h, (tt, (tt, tt)))))
around-free b (Some BoolSort) h = tt
around-free b None h = tt

targets-free : (o : Op) (b : Tree) → IsQuantifierFree b → Free (targets o b)
targets-free o b h = either Free (is_equation o) (b ∷ []) (targets_around b (tree_sort b)) (h, tt) (around-free b (tree_sort b) h)

sides-free : (x : ℕ) (o : Op) (a b : Tree) → IsQuantifierFree a → IsQuantifierFree b → Free (candidates_of_sides x o a b)
sides-free x o a b g h =
    either Free
    ((is_equation o || is_comparison o) && not (is_bool (tree_sort a)) && (occurrences x a + occurrences x b) == 1 && not (is_below_ite x a || is_below_ite x b))
    (cond (is_in x a) (candidates_down x a (targets o b)) (candidates_down x b (targets o a))) []
    (either Free (is_in x a) (candidates_down x a (targets o b)) (candidates_down x b (targets o a))
    (down-free x a (targets o b) g (targets-free o b h)) (down-free x b (targets o a) h (targets-free o a g)))
    tt

of-free : (x : ℕ) (t : Tree) → IsQuantifierFree t → Free (candidates_of x t)
of-free x (Variable l BoolSort) h = go (l == x)
  where
    go : (b : Bool) → Free (cond b (Literal BoolSort 1 ∷ Literal BoolSort 0 ∷ []) [])
    go true = (tt, (tt, tt))
    go false = tt
of-free x (Variable l (Bits w)) h = tt
of-free x (Constant i s) h = tt
of-free x (Literal s n) h = tt
of-free x (ForAll l s body) h = tt
of-free x (Exists l s body) h = tt
of-free x (Apply o Nil) h = tt
of-free x (Apply o (Cons a Nil)) h = tt
of-free x (Apply o (Cons a (Cons b Nil))) h = sides-free x o a b h.0 h.1.0
of-free x (Apply o (Cons a (Cons b (Cons c rest)))) h = tt

nodes-free : (region : Tree) → IsQuantifierFree region → Free (nodes (region ∷ []))
nodes-free region h = let new = tree-new [] region h in subst Free (sym new.1) new.2

-- so have definitions
conjunction-free : (t : Tree) (ts : List Tree) → IsQuantifierFree t → Free ts → IsQuantifierFree (conjunction_with t ts)
conjunction-free t [] h k = h
conjunction-free t (u ∷ us) h k = conjunction-free (binary And t u) us (h, (k.0, tt)) k.1

together-free : (ts : List Tree) → Free ts → Free (together ts)
together-free [] h = tt
together-free (t ∷ ts) h = (conjunction-free t ts h.0 h.1, tt)

with-free : (x : ℕ) (u : Tree) (ts : List Tree) → IsQuantifierFree u → Free ts → Free (map (with_term x u) ts)
with-free x u [] g h = tt
with-free x u (t ∷ ts) g h = (replaced-free (with_level no_levels x u) t (level-free IsQuantifierFree no_levels x u (λ l. tt) g) h.0, with-free x u ts g h.1)

definitions-free : (first end : ℕ) (region : Tree) (x : ℕ) → IsQuantifierFree region → Free (definitions first end region x)
definitions-free first end region x h =
    let says : Tree → Bool = λ c. is_implication first end x c && is_among (joined is_and region) c in
    let all : List Tree = nodes (region ∷ []) in
    let free = recursion_from_All IsQuantifierFree (filter says all) (All-filter says IsQuantifierFree all (All-from_recursion IsQuantifierFree all (nodes-free region h))) in
    together-free (map (with_term x (truth_literal true)) (implications first end region x)) (with-free x (truth_literal true) (filter says all) tt free)

-- a term without quantifiers and without places of the block
abbrev StandsOutside : ℕ → ℕ → Tree → Type 0
StandsOutside first end t = IsQuantifierFree t × (is_outside first end t ≡ true)

candidates-outside : (first end : ℕ) (region : Tree) (x : ℕ) → IsQuantifierFree region → AllByRecursion (StandsOutside first end) (candidates first end region x)
unfolding candidates
candidates-outside first end region x h =
    let literal : List Tree = flat_map (candidates_of x) (nodes (region ∷ [])) in
    let found : List Tree = definitions first end region x ++ literal in
    let free = All-from_recursion IsQuantifierFree found
    (both IsQuantifierFree (definitions first end region x) literal (definitions-free first end region x h) (all-flat (candidates_of x) (nodes (region ∷ [])) (of-free x) (nodes-free region h))) in
    let kept : List Tree = filter (is_outside first end) found in
    all-both IsQuantifierFree (λ t. is_outside first end t ≡ true) kept
    (recursion_from_All IsQuantifierFree kept (All-filter (is_outside first end) IsQuantifierFree found free))
    (recursion_from_All (λ t. is_outside first end t ≡ true) kept (filter_passes (is_outside first end) found))

-- the point's literal
literal-at : (s : Sort) (t : Tree) (o : Option ℕ) → IsSomeAnd o (λ n. t ≡ Literal s n) → (n : ℕ) × (o ≡ Some n) × (t ≡ Literal s n)
literal-at s t None h = absurd h
literal-at s t (Some n) h = (n, refl, h)

pub terms-outside : ChosenTermsStandOutside
terms-outside zero end point region x s t free h =
    let at = literal-at s t (slice_get point x) h in
    subst (StandsOutside zero end) (sym at.2) (tt, refl)
terms-outside (suc before) end point region x s t free (inl h) =
    let first = suc before in
    let each = candidates-outside first end region x free in
    let parts = subst (AllByRecursion (StandsOutside first end)) h.stands each in
    (back (StandsOutside first end) h.before (t ∷ h.behind) parts).0
terms-outside (suc before) end point region x s t free (inr h) =
    let at = literal-at s t (slice_get point x) h.value in
    subst (StandsOutside (suc before) end) (sym at.2) (tt, refl)

-- the literal has the sort of the places for which it stands
literal-sorts : (x n : ℕ) (s : Sort) (leaves : List (ℕ × Sort)) → AllByRecursion (λ leaf. leaf.0 ≡ x → leaf.1 ≡ s) leaves → AllByRecursion (HasItsSort (with_level no_levels x (Literal s n))) leaves
literal-sorts x n s [] h = tt
literal-sorts x n s (leaf ∷ leaves) h = (go (leaf.0 == x) refl, literal-sorts x n s leaves h.1)
  where
    go : (b : Bool) → (leaf.0 == x) ≡ b → IfSome (cond b (Some (Literal s n)) None) (λ put. tree_sort put ≡ Some leaf.1)
    go true is = ap (λ (q : Sort). Some q) (sym (h.0 (eqb-true leaf.0 x is)))
    go false is = tt

literal-meaning : (point : List ℕ) (x n : ℕ) (s : Sort) → slice_get point x ≡ Some n → (leaf : ℕ × Sort) → TakesItsMeaning [] (with_level no_levels x (Literal s n)) (slice_get point) (slice_get point) leaf
literal-meaning point x n s at leaf = go (leaf.0 == x) refl
  where
    go : (b : Bool) → (leaf.0 == x) ≡ b → MatchOption (cond b (Some (Literal s n)) None) (slice_get point leaf.0 ≡ slice_get point leaf.0) (λ put. IsSomeAnd (slice_get point leaf.0) (λ v. Means [] (slice_get point) put v))
    go true is =
        let there : slice_get point leaf.0 ≡ Some n = ap (slice_get point) (eqb-true leaf.0 x is) ∙ at in
        subst (λ (o : Option ℕ). IsSomeAnd o (λ v. v ≡ n)) (sym there) refl
    go false is = refl

each-meaning : (point : List ℕ) (x n : ℕ) (s : Sort) → slice_get point x ≡ Some n → (leaves : List (ℕ × Sort)) → AllByRecursion (TakesItsMeaning [] (with_level no_levels x (Literal s n)) (slice_get point) (slice_get point)) leaves
each-meaning point x n s at [] = tt
each-meaning point x n s at (leaf ∷ leaves) = (literal-meaning point x n s at leaf, each-meaning point x n s at leaves)

literal-keeps : (point : List ℕ) (region : Tree) (x n : ℕ) (s : Sort) → IsQuantifierFree region → HasSortAt x s region → IsTrueAt point region → slice_get point x ≡ Some n → IsTrueAt point (with_term x (Literal s n) region)
literal-keeps point region x n s free sort holds at =
    same_value region [] (with_level no_levels x (Literal s n)) (slice_get point) (slice_get point) 1 free
    (literal-sorts x n s (free_levels region) (recursion_from_All (λ leaf. leaf.0 ≡ x → leaf.1 ≡ s) (free_levels region) sort))
    (each-meaning point x n s at (free_levels region)) holds

literal-holds : (point : List ℕ) (region : Tree) (x : ℕ) (s : Sort) (t : Tree) → IsQuantifierFree region → HasSortAt x s region → IsTrueAt point region → IsSomeAnd (slice_get point x) (λ n. t ≡ Literal s n) → IsTrueAt point (with_term x t region)
literal-holds point region x s t free sort holds h =
    let at = literal-at s t (slice_get point x) h in
    subst (λ (u : Tree). IsTrueAt point (with_term x u region)) (sym at.2) (literal-keeps point region x at.0 s free sort holds at.1)

pub terms-keep_truth : ChosenTermsKeepTruth
terms-keep_truth zero end point region x s t free sort holds h = literal-holds point region x s t free sort holds h
terms-keep_truth (suc before) end point region x s t free sort holds (inl h) = h.holds
terms-keep_truth (suc before) end point region x s t free sort holds (inr h) = literal-holds point region x s t free sort holds h.value

-- what holds of the leaves of a tree and of what is put in holds of the new leaves
leaves-put : (P : ℕ × Sort → Type 0) (o : Option Tree) (leaf : ℕ × Sort) → P leaf → IfSome o (λ put. AllByRecursion P (free_levels put)) → MatchOption o (P leaf) (λ put. AllByRecursion P (free_levels put))
leaves-put P None leaf h k = h
leaves-put P (Some t) leaf h k = k

new-leaves : (P : ℕ × Sort → Type 0) (b : ℕ → Option Tree) (t : Tree) → IsQuantifierFree t → ((l : ℕ) → IfSome (b l) (λ put. AllByRecursion P (free_levels put))) → AllByRecursion P (free_levels t) → AllByRecursion P (free_levels (replaced b t))
new-leaves P b t free k h = variables-put P t b free (all-weaker P (HoldsPut P b) (free_levels t) (λ leaf own. leaves-put P (b leaf.0) leaf own (k leaf.0)) h)

-- the places of an outside term are before the block or behind it
abbrev Apart : ℕ → ℕ → ℕ × Sort → Type 0
Apart first end leaf = (leaf.0 < first) ⊎ (end ≤ leaf.0)

apart-one : (first end l : ℕ) → (nat_le first l && nat_lt l end) ≡ false → (l < first) ⊎ (end ≤ l)
apart-one first end l h = go (nat_lt l first) refl
  where
    go : (b : Bool) → nat_lt l first ≡ b → (l < first) ⊎ (end ≤ l)
    go true is = inl (ltb-true l first is)
    go false is = inr (ltb-false l end (ap (λ b. b && nat_lt l end) (sym (le-leb first l (ltb-false l first is))) ∙ h))

apart-leaves : (first end : ℕ) (leaves : List (ℕ × Sort)) → not (list_any (λ leaf. nat_le first leaf.0 && nat_lt leaf.0 end) leaves) ≡ true → AllByRecursion (Apart first end) leaves
apart-leaves first end [] h = tt
apart-leaves first end (leaf ∷ leaves) h = go (nat_le first leaf.0 && nat_lt leaf.0 end) refl h (apart-leaves first end leaves)
  where
    go : (b : Bool) → (nat_le first leaf.0 && nat_lt leaf.0 end) ≡ b → not (b || list_any (λ leaf. nat_le first leaf.0 && nat_lt leaf.0 end) leaves) ≡ true → (not (list_any (λ leaf. nat_le first leaf.0 && nat_lt leaf.0 end) leaves) ≡ true → AllByRecursion (Apart first end) leaves) → AllByRecursion (Apart first end) (leaf ∷ leaves)
    go true is k rest = absurd (cc)
    go false is k rest = (apart-one first end leaf.0 is, rest k)

-- so such a term changes no later place's sort
other-places : (first end y : ℕ) (s : Sort) (leaves : List (ℕ × Sort)) → first ≤ y → y < end → AllByRecursion (Apart first end) leaves → AllByRecursion (λ leaf. leaf.0 ≡ y → leaf.1 ≡ s) leaves
other-places first end y s [] low high h = tt
other-places first end y s (leaf ∷ leaves) low high h = (λ at. absurd (clash h.0 at), other-places first end y s leaves low high h.1)
  where
    clash : Apart first end leaf → leaf.0 ≡ y → ⊥
    clash (inl before) at = omega (arith, before, at, low)
    clash (inr behind) at = omega (arith, behind, at, high)

sort-stays : (first end x y : ℕ) (s : Sort) (t region : Tree) → first ≤ y → y < end → IsQuantifierFree region → AllByRecursion (Apart first end) (free_levels t) → HasSortAt y s region → HasSortAt y s (with_term x t region)
sort-stays first end x y s t region low high free apart h =
    All-from_recursion (λ leaf. leaf.0 ≡ y → leaf.1 ≡ s) (free_levels (with_term x t region))
    (new-leaves (λ leaf. leaf.0 ≡ y → leaf.1 ≡ s) (with_level no_levels x t) region free
    (level-free (λ put. AllByRecursion (λ leaf. leaf.0 ≡ y → leaf.1 ≡ s) (free_levels put)) no_levels x t (λ l. tt) (other-places first end y s (free_levels t) low high apart))
    (recursion_from_All (λ leaf. leaf.0 ≡ y → leaf.1 ≡ s) (free_levels region) h))

sorts-stay : (first end x y : ℕ) (sorts : List Sort) (t region : Tree) → first ≤ y → y + length sorts ≤ end → IsQuantifierFree region → AllByRecursion (Apart first end) (free_levels t) → HasSortsFrom y sorts region → HasSortsFrom y sorts (with_term x t region)
sorts-stay first end x y [] t region low high free apart h = tt
sorts-stay first end x y (s ∷ sorts) t region low high free apart h = (
  sort-stays first end x y s t region low (omega (arith, high)) free apart h.0,
  sorts-stay first end x (suc y) sorts t region (omega (arith, low)) (omega (arith, high)) free apart h.1,
)

-- the terms from a place on, at a place before, at it and behind
terms-before : (x l : ℕ) (ts : List Tree) → l < x → terms_from x ts l ≡ None
terms-before x l ts h = ap (λ b. cond b None (slice_get ts (l - x))) (lt-ltb l x h)

terms-from_there : (x l : ℕ) (ts : List Tree) → x ≤ l → terms_from x ts l ≡ slice_get ts (l - x)
terms-from_there x l ts h = ap (λ b. cond b None (slice_get ts (l - x))) (le-ltb l x h)

terms-at : (x l : ℕ) (t : Tree) (ts : List Tree) → l ≡ x → terms_from x (t ∷ ts) l ≡ Some t
terms-at x l t ts h =
    let none : l - x ≡ 0 = omega (arith, h) in
    terms-from_there x l (t ∷ ts) (omega (arith, h)) ∙ ap (slice_get (t ∷ ts)) none

terms-behind : (x l : ℕ) (t : Tree) (ts : List Tree) → x < l → terms_from x (t ∷ ts) l ≡ terms_from (suc x) ts l
terms-behind x l t ts h =
    let one : l - x ≡ suc (l - suc x) = omega (arith, h) in
    terms-from_there x l (t ∷ ts) (omega (arith, h)) ∙ ap (slice_get (t ∷ ts)) one ∙ sym (terms-from_there (suc x) l ts (omega (arith, h)))

-- past the last term there is none
terms-past : (x l : ℕ) (ts : List Tree) → x + length ts ≤ l → terms_from x ts l ≡ None
terms-past x l ts h = terms-from_there x l ts (omega (arith, h)) ∙ slice_get_past ts (l - x) (omega (arith, h))

-- a tree at whose variables nothing is put in stays
mutual
  stays : (b : ℕ → Option Tree) (t : Tree) → IsQuantifierFree t → AllByRecursion (λ leaf. b leaf.0 ≡ None) (free_levels t) → replaced b t ≡ t
  stays b (Constant i s) free h = refl
  stays b (Variable l s) free h = ap (λ o. unwrap_or o (Variable l s)) h.0
  stays b (Literal s n) free h = refl
  stays b (Apply o args) free h = ap (Apply o) (each-stays b args free h)
  stays b (ForAll l s body) free h = absurd free
  stays b (Exists l s body) free h = absurd free

  each-stays : (b : ℕ → Option Tree) (ts : Trees) → AreQuantifierFree ts → AllByRecursion (λ leaf. b leaf.0 ≡ None) (free_levels_of_all ts) → replaced_each b ts ≡ ts
  each-stays b Nil free h = refl
  each-stays b (Cons t ts) free h =
      ap (λ u. Cons u (replaced_each b ts)) (stays b t free.0 (front (λ leaf. b leaf.0 ≡ None) (free_levels t) (free_levels_of_all ts) h))
      ∙ ap (Cons t) (each-stays b ts free.1 (back (λ leaf. b leaf.0 ≡ None) (free_levels t) (free_levels_of_all ts) h))

nothing-put : (first end x : ℕ) (ts : List Tree) (leaves : List (ℕ × Sort)) → first ≤ x → x + length ts ≤ end → AllByRecursion (Apart first end) leaves → AllByRecursion (λ leaf. terms_from x ts leaf.0 ≡ None) leaves
nothing-put first end x ts [] low high h = tt
nothing-put first end x ts (leaf ∷ leaves) low high h = (go h.0, nothing-put first end x ts leaves low high h.1)
  where
    go : Apart first end leaf → terms_from x ts leaf.0 ≡ None
    go (inl before) = terms-before x leaf.0 ts (omega (arith, before, low))
    go (inr behind) = terms-past x leaf.0 ts (omega (arith, behind, high))

-- to put the first term in and then the others is to put all in
one-then-others : (x l : ℕ) (s : Sort) (t : Tree) (ts : List Tree) → replaced (terms_from (suc x) ts) t ≡ t → replaced (terms_from (suc x) ts) (unwrap_or (with_level no_levels x t l) (Variable l s)) ≡ unwrap_or (terms_from x (t ∷ ts) l) (Variable l s)
one-then-others x l s t ts same = go (l == x) refl
  where
    after : (b : Bool) → nat_lt l x ≡ b → (l ≡ x → ⊥) → terms_from (suc x) ts l ≡ terms_from x (t ∷ ts) l
    after true is other =
        let before : l < x = ltb-true l x is in
        terms-before (suc x) l ts (omega (arith, before)) ∙ sym (terms-before x l (t ∷ ts) before)
    after false is other =
        let from : x ≤ l = ltb-false l x is in
        sym (terms-behind x l t ts (omega (arith, from, other)))

    go : (b : Bool) → (l == x) ≡ b → replaced (terms_from (suc x) ts) (unwrap_or (cond b (Some t) None) (Variable l s)) ≡ unwrap_or (terms_from x (t ∷ ts) l) (Variable l s)
    go true is = same ∙ ap (λ o. unwrap_or o (Variable l s)) (sym (terms-at x l t ts (eqb-true l x is)))
    go false is = ap (λ o. unwrap_or o (Variable l s)) (after (nat_lt l x) refl (eqb-false l x is))

mutual
  all-put : (x : ℕ) (t : Tree) (ts : List Tree) → replaced (terms_from (suc x) ts) t ≡ t → (region : Tree) → IsQuantifierFree region → with_terms (suc x) ts (with_term x t region) ≡ with_terms x (t ∷ ts) region
  all-put x t ts same (Constant i s) free = refl
  all-put x t ts same (Variable l s) free = one-then-others x l s t ts same
  all-put x t ts same (Literal s n) free = refl
  all-put x t ts same (Apply o args) free = ap (Apply o) (all-put_each x t ts same args free)
  all-put x t ts same (ForAll l s body) free = absurd free
  all-put x t ts same (Exists l s body) free = absurd free

  all-put_each : (x : ℕ) (t : Tree) (ts : List Tree) → replaced (terms_from (suc x) ts) t ≡ t → (us : Trees) → AreQuantifierFree us → replaced_each (terms_from (suc x) ts) (replaced_each (with_level no_levels x t) us) ≡ replaced_each (terms_from x (t ∷ ts)) us
  all-put_each x t ts same Nil free = refl
  all-put_each x t ts same (Cons u us) free =
      ap (λ v. Cons v (replaced_each (terms_from (suc x) ts) (replaced_each (with_level no_levels x t) us))) (all-put x t ts same u free.0)
      ∙ ap (Cons (with_terms x (t ∷ ts) u)) (all-put_each x t ts same us free.1)

-- no terms at all
none-put : (x l : ℕ) → terms_from x [] l ≡ None
none-put x l = go (nat_lt l x) (slice_get [] (l - x)) (slice_get_past [] (l - x) (omega arith))
  where
    go : (b : Bool) (o : Option Tree) → o ≡ None → cond b None o ≡ None
    go true o e = refl
    go false o e = e

all-none : (x : ℕ) (leaves : List (ℕ × Sort)) → AllByRecursion (λ leaf. terms_from x [] leaf.0 ≡ None) leaves
all-none x [] = tt
all-none x (leaf ∷ leaves) = (none-put x leaf.0, all-none x leaves)

-- as many terms as places
chosen-length : (first end : ℕ) (point : List ℕ) (region : Tree) (x : ℕ) (sorts : List Sort) (terms : List Tree) → AreChosen first end point region x sorts terms → length terms ≡ length sorts
chosen-length first end point region x [] terms h = ap length h
chosen-length first end point region x (s ∷ sorts) [] h = absurd h
chosen-length first end point region x (s ∷ sorts) (t ∷ terms) h = ap suc (chosen-length first end point (with_term x t region) (suc x) sorts terms h.1)

pub blocks-keep_truth : ChosenBlocksKeepTruth
blocks-keep_truth first end point region x [] terms low high free sorted holds h =
    let same : with_terms x [] region ≡ region = stays (terms_from x []) region free (all-none x (free_levels region)) in
    subst (λ (ts : List Tree). IsTrueAt point (with_terms x ts region)) (sym h) (subst (IsTrueAt point) (sym same) holds)
blocks-keep_truth first end point region x (s ∷ sorts) [] low high free sorted holds h = absurd h
blocks-keep_truth first end point region x (s ∷ sorts) (t ∷ terms) low high free sorted holds h =
    let outside = terms-outside first end point region x s t free h.0 in
    let apart = apart-leaves first end (free_levels t) outside.1 in
    let count = chosen-length first end point (with_term x t region) (suc x) sorts terms h.1 in
    let next = replaced-free (with_level no_levels x t) region (level-free IsQuantifierFree no_levels x t (λ l. tt) outside.0) free in
    let kept = terms-keep_truth first end point region x s t free sorted.0 holds h.0 in
    let same : replaced (terms_from (suc x) terms) t ≡ t = stays (terms_from (suc x) terms) t outside.0 (nothing-put first end (suc x) terms (free_levels t) (omega (arith, low)) (omega (arith, high, count)) apart) in
    subst (IsTrueAt point) (all-put x t terms same region free)
    (blocks-keep_truth first end point (with_term x t region) (suc x) sorts terms (omega (arith, low)) (omega (arith, high)) next
    (sorts-stay first end x (suc x) sorts t region (omega (arith, low)) (omega (arith, high)) free apart sorted.1) kept h.1)

-- of two first elements of a list that pass a test, one is the other
abbrev Fails : (Tree → Type 0) → Tree → Type 0
Fails P t = P t → ⊥

first-same : (P : Tree → Type 0) (before behind others rest : List Tree) (t u : Tree) → before ++ t ∷ behind ≡ others ++ u ∷ rest → AllByRecursion (Fails P) before → AllByRecursion (Fails P) others → P t → P u → t ≡ u
first-same P [] behind [] rest t u e g h p q = cc
first-same P [] behind (y ∷ others) rest t u e g h p q = let same : t ≡ y = cc in absurd (h.0 (subst P same p))
first-same P (z ∷ before) behind [] rest t u e g h p q = let same : z ≡ u = cc in absurd (g.0 (subst P (sym same) q))
first-same P (z ∷ before) behind (y ∷ others) rest t u e g h p q =
    let tails : before ++ t ∷ behind ≡ others ++ u ∷ rest = cc in
    first-same P before behind others rest t u tails g.1 h.1 p q

-- an element that passes is not in a list in which none does
none-passes : (P : Tree → Type 0) (all before behind : List Tree) (t : Tree) → all ≡ before ++ t ∷ behind → AllByRecursion (Fails P) all → P t → ⊥
none-passes P all before behind t e h p = (back (Fails P) before (t ∷ behind) (subst (AllByRecursion (Fails P)) e h)).0 p

one-literal : (point : List ℕ) (x : ℕ) (s : Sort) (t u : Tree) → IsSomeAnd (slice_get point x) (λ n. t ≡ Literal s n) → IsSomeAnd (slice_get point x) (λ n. u ≡ Literal s n) → t ≡ u
one-literal point x s t u g h =
    let one = literal-at s t (slice_get point x) g in
    let two = literal-at s u (slice_get point x) h in
    let same : one.0 ≡ two.0 = some-same one.0 two.0 (sym one.1 ∙ two.1) in
    one.2 ∙ ap (Literal s) same ∙ sym two.2
  where
    some-same : (n m : ℕ) → Some n ≡ Some m → n ≡ m
    some-same n m e = cc

one-term : (first end : ℕ) (point : List ℕ) (region : Tree) (x : ℕ) (s : Sort) (t u : Tree) → IsChosen first end point region x s t → IsChosen first end point region x s u → t ≡ u
one-term zero end point region x s t u g h = one-literal point x s t u g h
one-term (suc first) end point region x s t u (inl g) (inl h) =
    let test : Tree → Type 0 = λ v. IsTrueAt point (with_term x v region) in
    first-same test g.before g.behind h.before h.behind t u (sym g.stands ∙ h.stands)
    (recursion_from_All (Fails test) g.before g.others) (recursion_from_All (Fails test) h.before h.others) g.holds h.holds
one-term (suc first) end point region x s t u (inl g) (inr h) =
    let test : Tree → Type 0 = λ v. IsTrueAt point (with_term x v region) in
    absurd (none-passes test (candidates (suc first) end region x) g.before g.behind t g.stands (recursion_from_All (Fails test) (candidates (suc first) end region x) h.none) g.holds)
one-term (suc first) end point region x s t u (inr g) (inl h) =
    let test : Tree → Type 0 = λ v. IsTrueAt point (with_term x v region) in
    absurd (none-passes test (candidates (suc first) end region x) h.before h.behind u h.stands (recursion_from_All (Fails test) (candidates (suc first) end region x) g.none) h.holds)
one-term (suc first) end point region x s t u (inr g) (inr h) = one-literal point x s t u g.value h.value

pub one-choice : OneChoice
one-choice first end point region x [] terms others g h = g ∙ sym h
one-choice first end point region x (s ∷ sorts) [] others g h = absurd g
one-choice first end point region x (s ∷ sorts) (t ∷ terms) [] g h = absurd h
one-choice first end point region x (s ∷ sorts) (t ∷ terms) (u ∷ others) g h =
    let same = one-term first end point region x s t u g.0 h.0 in
    let next = subst (λ (v : Tree). AreChosen first end point (with_term x v region) (suc x) sorts others) (sym same) h.1 in
    let rest = one-choice first end point (with_term x t region) (suc x) sorts terms others g.1 next in
    ap (λ v. v ∷ terms) same ∙ ap (λ vs. u ∷ vs) rest
