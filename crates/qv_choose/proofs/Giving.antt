-- The candidates of a region are those of its conjuncts in which the place stands.
use Rattle.std.proofs.Common.{◌≡◌, ℕ, ◌+◌, ◌==◌, ◌&&◌, ◌||◌, Bool, true, false, cond, not, List, [], ◌∷◌, ◌++◌, map, filter, refl, sym, ap, ◌∙◌, subst, arith}
use Rattle.std.specs.List.{AllByRecursion, list_any, list_all, flat_map}
use Rattle.std.proofs.lemmas.Bool.{eqb-true, eqb-false}
use Rattle.std.proofs.lemmas.List.{append-nil}
use Rattle.std.proofs.lemmas.List.Elements.{filter-append}
use Rattle.std.proofs.lemmas.List.Folds.{list_any-append}
use Rattle.std.proofs.lemmas.Grind.{flat_map-append}
use Rattle.qv_words.specs.declared.sort.Sort.TheVariants.{Bits, Bool as BoolSort}
use Rattle.qv_words.specs.declared.op.Op.{Op}
use Rattle.qv_words.specs.declared.op.Op.TheVariants.{And}
use Rattle.qv_words.specs.Tree.{Tree, Trees, Constant, Variable, Literal, Apply, ForAll, Exists, Nil, Cons, tree_sort}
use Rattle.qv_words.specs.Prenex.{binary, is_bool}
use Rattle.qv_words.specs.Equality.{tree_eq}
use Rattle.qv_words.specs.Clauses.{is_among, nodes}
use Rattle.qv_words.specs.Passes.{truth_literal}
use Rattle.qv_words.specs.Choice.{occurrences, occurrences_in_each, is_in, is_below_ite, is_equation, is_comparison, targets, candidates_down, candidates_of_sides, candidates_of, is_and, is_or, joined, opposite, is_apart, is_implication, implications, together, definitions, with_term, candidates, is_outside}
use Rattle.qv_words.proofs.Equals.{tree_eq-is}
use Rattle.qv_words.proofs.Leaves.{both}
use Rattle.qv_words.proofs.Elements.{either}
use Rattle.qv_circuits_laws.specs.ClauseLaws.{post_order, post_order_each, first_appearances}
use Rattle.qv_circuits_laws.proofs.Nodes.{one_more, of-formulas}
use Rattle.qv_choose.specs.Conjuncts.{AreConjuncts, of_true, alone, of_both, LeavesOut, nothing, kept, left_out}

-- whether a subtree gives candidates
abbrev has_some : List Tree → Bool
has_some [] = false
has_some (t ∷ ts) = true

abbrev gives : ℕ → Tree → Bool
gives x t = has_some (candidates_of x t)

flat-gives : (x : ℕ) (ts : List Tree) → flat_map (candidates_of x) ts ≡ flat_map (candidates_of x) (filter (gives x) ts)
flat-gives x [] = refl
flat-gives x (t ∷ ts) = go (flat-gives x ts) (candidates_of x t) refl
  where
    go : flat_map (candidates_of x) ts ≡ flat_map (candidates_of x) (filter (gives x) ts) → (c : List Tree) → candidates_of x t ≡ c → c ++ flat_map (candidates_of x) ts ≡ flat_map (candidates_of x) (cond (has_some c) (t ∷ filter (gives x) ts) (filter (gives x) ts))
    go rest [] e = rest
    go rest (u ∷ us) e = ap (λ c. c ++ flat_map (candidates_of x) ts) (sym e) ∙ ap (λ c. candidates_of x t ++ c) rest

-- the first appearances of those that pass a test
among-kept : (q : Tree → Bool) (seen : List Tree) (t : Tree) → q t ≡ true → is_among (filter q seen) t ≡ is_among seen t
among-kept q [] t h = refl
among-kept q (s ∷ seen) t h = go (among-kept q seen t h) (q s) refl (tree_eq t s) refl
  where
    go : is_among (filter q seen) t ≡ is_among seen t → (b : Bool) → q s ≡ b → (e : Bool) → tree_eq t s ≡ e → is_among (cond b (s ∷ filter q seen) (filter q seen)) t ≡ (e || is_among seen t)
    go rest true is e at = ap (λ k. k || is_among (filter q seen) t) at ∙ ap (λ k. e || k) rest
    go rest false is true at = let both : true ≡ false = sym h ∙ ap q (tree_eq-is t s at) ∙ is in absurd (cc)
    go rest false is false at = rest

only-one : (q : Tree → Bool) (t : Tree) (b : Bool) → q t ≡ b → filter q (t ∷ []) ≡ cond b (t ∷ []) []
only-one q t b e = ap (λ k. cond k (t ∷ []) []) e

more-kept : (q : Tree → Bool) (seen : List Tree) (t : Tree) → q t ≡ true → filter q (one_more seen t) ≡ one_more (filter q seen) t
more-kept q seen t h = go (is_among seen t) refl
  where
    go : (a : Bool) → is_among seen t ≡ a → filter q (cond a seen (seen ++ t ∷ [])) ≡ one_more (filter q seen) t
    go true is = sym (ap (λ k. cond k (filter q seen) (filter q seen ++ t ∷ [])) (among-kept q seen t h ∙ is))
    go false is =
        filter-append q seen (t ∷ []) ∙ ap (λ ts. filter q seen ++ ts) (only-one q t true h)
        ∙ sym (ap (λ k. cond k (filter q seen) (filter q seen ++ t ∷ [])) (among-kept q seen t h ∙ is))

more-dropped : (q : Tree → Bool) (seen : List Tree) (t : Tree) → q t ≡ false → filter q (one_more seen t) ≡ filter q seen
more-dropped q seen t h = go (is_among seen t)
  where
    go : (a : Bool) → filter q (cond a seen (seen ++ t ∷ [])) ≡ filter q seen
    go true = refl
    go false = filter-append q seen (t ∷ []) ∙ ap (λ ts. filter q seen ++ ts) (only-one q t false h) ∙ append-nil (filter q seen)

filter-firsts : (q : Tree → Bool) (seen ts : List Tree) → filter q (first_appearances seen ts) ≡ first_appearances (filter q seen) (filter q ts)
filter-firsts q seen [] = refl
filter-firsts q seen (t ∷ ts) = filter-firsts q (one_more seen t) ts ∙ go (q t) refl
  where
    go : (b : Bool) → q t ≡ b → first_appearances (filter q (one_more seen t)) (filter q ts) ≡ first_appearances (filter q seen) (cond b (t ∷ filter q ts) (filter q ts))
    go true is = ap (λ us. first_appearances us (filter q ts)) (more-kept q seen t is)
    go false is = ap (λ us. first_appearances us (filter q ts)) (more-dropped q seen t is)

-- the subtrees of a tree that pass a test
abbrev passing : (Tree → Bool) → Tree → List Tree
passing q t = filter q (post_order t)

-- a test that no conjunction passes, and no tree in which the variable doesn't stand
record IsOwn (x : ℕ) (q : Tree → Bool) : Type 0 where
  pub both_fail : (a b : Tree) → q (binary And a b) ≡ false
  pub absent_fails : (t : Tree) → occurrences x t ≡ 0 → q t ≡ false

pub never-in : (x : ℕ) (t : Tree) → is_in x t ≡ false → occurrences x t ≡ 0
never-in x t h = go (occurrences x t == 0) refl h
  where
    go : (b : Bool) → (occurrences x t == 0) ≡ b → not b ≡ false → occurrences x t ≡ 0
    go true is k = eqb-true (occurrences x t) 0 is
    go false is k = absurd (cc)

module _ (x : ℕ) (q : Tree → Bool) (own : IsOwn x q) where
  fails-one : (t : Tree) → occurrences x t ≡ 0 → filter q (t ∷ []) ≡ []
  fails-one t h = only-one q t false (own.absent_fails t h)

  mutual
    absent : (t : Tree) → occurrences x t ≡ 0 → passing q t ≡ []
    absent (Constant i s) h = fails-one (Constant i s) h
    absent (Variable l s) h = fails-one (Variable l s) h
    absent (Literal s n) h = fails-one (Literal s n) h
    absent (ForAll l s body) h = fails-one (ForAll l s body) h
    absent (Exists l s body) h = fails-one (Exists l s body) h
    absent (Apply o args) h =
        filter-append q (post_order_each args) (Apply o args ∷ [])
        ∙ ap (λ us. us ++ filter q (Apply o args ∷ [])) (absent-each args h) ∙ fails-one (Apply o args) h

    absent-each : (ts : Trees) → occurrences_in_each x ts ≡ 0 → filter q (post_order_each ts) ≡ []
    absent-each Nil h = refl
    absent-each (Cons t ts) h =
        let first : occurrences x t ≡ 0 = omega (arith, h) in
        let rest : occurrences_in_each x ts ≡ 0 = omega (arith, h) in
        filter-append q (post_order t) (post_order_each ts)
        ∙ ap (λ us. us ++ filter q (post_order_each ts)) (absent t first) ∙ absent-each ts rest

  of-conjuncts : (region : Tree) (conjuncts : List Tree) → AreConjuncts region conjuncts → passing q region ≡ flat_map (passing q) conjuncts
  of-conjuncts region conjuncts of_true = fails-one (Literal BoolSort 1) refl
  of-conjuncts region conjuncts (alone t) = sym (append-nil (passing q t))
  of-conjuncts region conjuncts (of_both a b ks ls h k) =
      filter-append q (post_order a ++ (post_order b ++ [])) (binary And a b ∷ [])
      ∙ ap (λ us. filter q (post_order a ++ (post_order b ++ [])) ++ us) (only-one q (binary And a b) false (own.both_fail a b))
      ∙ append-nil (filter q (post_order a ++ (post_order b ++ [])))
      ∙ ap (λ us. filter q (post_order a ++ us)) (append-nil (post_order b))
      ∙ filter-append q (post_order a) (post_order b)
      ∙ ap (λ us. us ++ passing q b) (of-conjuncts a ks h)
      ∙ ap (λ us. flat_map (passing q) ks ++ us) (of-conjuncts b ls k)
      ∙ sym (flat_map-append (passing q) ks ls)

  without : (ts left : List Tree) → LeavesOut x ts left → flat_map (passing q) ts ≡ flat_map (passing q) left
  without ts left nothing = refl
  without ts left (kept t us rest h) = ap (λ vs. passing q t ++ vs) (without us rest h)
  without ts left (left_out t us rest none h) =
      ap (λ vs. vs ++ flat_map (passing q) us) (absent t (never-in x t none)) ∙ without us rest h

  -- the nodes of a region that pass are those of its conjuncts with the variable
  nodes-passing : (region : Tree) → filter q (nodes (region ∷ [])) ≡ first_appearances [] (passing q region)
  nodes-passing region =
      ap (filter q) (of-formulas [] (region ∷ []) (λ u y k _. k) ∙ ap (first_appearances []) (append-nil (post_order region)))
      ∙ filter-firsts q [] (post_order region)

  same-nodes : (region part : Tree) (conjuncts parts : List Tree) → AreConjuncts region conjuncts → AreConjuncts part parts → LeavesOut x conjuncts parts → filter q (nodes (region ∷ [])) ≡ filter q (nodes (part ∷ []))
  same-nodes region part conjuncts parts h k without_some =
      nodes-passing region
      ∙ ap (first_appearances []) (of-conjuncts region conjuncts h ∙ without conjuncts parts without_some ∙ sym (of-conjuncts part parts k))
      ∙ sym (nodes-passing part)

-- ---- what gives candidates

-- a tree in which the variable doesn't stand gives none
none-then : (a b k d : Bool) (us : List Tree) → k ≡ false → cond (a && b && k && d) us [] ≡ []
none-then true true true d us h = absurd (cc)
none-then true true false d us h = refl
none-then true false k d us h = refl
none-then false b k d us h = refl

sides-none : (x : ℕ) (o : Op) (a b : Tree) → occurrences x a + (occurrences x b + 0) ≡ 0 → candidates_of_sides x o a b ≡ []
sides-none x o a b h =
    let none : occurrences x a + occurrences x b ≡ 0 = omega (arith, h) in
    none-then (is_equation o || is_comparison o) (not (is_bool (tree_sort a))) ((occurrences x a + occurrences x b) == 1) (not (is_below_ite x a || is_below_ite x b))
    (cond (is_in x a) (candidates_down x a (targets o b)) (candidates_down x b (targets o a))) (ap (λ n. n == 1) none)

gives-none : (x : ℕ) (t : Tree) → occurrences x t ≡ 0 → gives x t ≡ false
gives-none x (Variable l BoolSort) h = go (l == x) h
  where
    go : (b : Bool) → ◌≡◌ {A = ℕ} (cond b 1 0) 0 → has_some (cond b (truth_literal true ∷ truth_literal false ∷ []) []) ≡ false
    go true e = absurd (cc)
    go false e = refl
gives-none x (Variable l (Bits w)) h = refl
gives-none x (Constant i s) h = refl
gives-none x (Literal s n) h = refl
gives-none x (ForAll l s body) h = refl
gives-none x (Exists l s body) h = refl
gives-none x (Apply o Nil) h = refl
gives-none x (Apply o (Cons a Nil)) h = refl
gives-none x (Apply o (Cons a (Cons b Nil))) h = ap has_some (sides-none x o a b h)
gives-none x (Apply o (Cons a (Cons b (Cons c rest)))) h = refl

gives-own : (x : ℕ) → IsOwn x (gives x)
gives-own x = record { both_fail = λ a b. refl; absent_fails = gives-none x }

same-given : (x : ℕ) (region part : Tree) (conjuncts parts : List Tree) → AreConjuncts region conjuncts → AreConjuncts part parts → LeavesOut x conjuncts parts → flat_map (candidates_of x) (nodes (region ∷ [])) ≡ flat_map (candidates_of x) (nodes (part ∷ []))
same-given x region part conjuncts parts h k without_some =
    flat-gives x (nodes (region ∷ []))
    ∙ ap (flat_map (candidates_of x)) (same-nodes x (gives x) (gives-own x) region part conjuncts parts h k without_some)
    ∙ sym (flat-gives x (nodes (part ∷ [])))

-- ---- what says what a truth value implies

-- where a variable doesn't stand in a tree, it stands in none of those that an operator joins there
none-joined : (joins : Op → Bool) (x : ℕ) (t : Tree) → occurrences x t ≡ 0 → AllByRecursion (λ c. occurrences x c ≡ 0) (joined joins t)
none-joined joins x (Constant i s) h = (h, tt)
none-joined joins x (Variable l s) h = (h, tt)
none-joined joins x (Literal s n) h = (h, tt)
none-joined joins x (ForAll l s body) h = (h, tt)
none-joined joins x (Exists l s body) h = (h, tt)
none-joined joins x (Apply o Nil) h = (h, tt)
none-joined joins x (Apply o (Cons a Nil)) h = (h, tt)
none-joined joins x (Apply o (Cons a (Cons b (Cons c rest)))) h = (h, tt)
none-joined joins x (Apply o (Cons a (Cons b Nil))) h =
    let first : occurrences x a ≡ 0 = omega (arith, h) in
    let second : occurrences x b ≡ 0 = omega (arith, h) in
    either (AllByRecursion (λ c. occurrences x c ≡ 0)) (joins o) (joined joins a ++ joined joins b) (Apply o (Cons a (Cons b Nil)) ∷ [])
    (both (λ c. occurrences x c ≡ 0) (joined joins a) (joined joins b) (none-joined joins x a first) (none-joined joins x b second)) (h, tt)

all-among : (Q : Tree → Type 0) (ts : List Tree) (c : Tree) → AllByRecursion Q ts → is_among ts c ≡ true → Q c
all-among Q [] c h k = absurd (cc)
all-among Q (t ∷ ts) c h k = go (tree_eq c t) refl k (all-among Q ts c h.1)
  where
    go : (b : Bool) → tree_eq c t ≡ b → (b || is_among ts c) ≡ true → (is_among ts c ≡ true → Q c) → Q c
    go true is j rest = subst Q (sym (tree_eq-is c t is)) h.0
    go false is j rest = rest j

-- in a conjunct of a tree the variable stands only where it does in the tree
not-among : (joins : Op → Bool) (x : ℕ) (t c : Tree) → occurrences x t ≡ 0 → (occurrences x c ≡ 0 → ⊥) → is_among (joined joins t) c ≡ false
not-among joins x t c h there = go (is_among (joined joins t) c) refl
  where
    go : (b : Bool) → is_among (joined joins t) c ≡ b → b ≡ false
    go false is = refl
    go true is = absurd (there (all-among (λ d. occurrences x d ≡ 0) (joined joins t) c (none-joined joins x t h) is))

stands-once : (x : ℕ) → occurrences x (opposite x) ≡ 0 → ⊥
stands-once x h = go (x == x) refl h
  where
    go : (b : Bool) → (x == x) ≡ b → cond b 1 0 + 0 ≡ 0 → ⊥
    go true is e = omega (arith, e)
    go false is e = eqb-false x x is refl

abbrev has_opposite : ℕ → Tree → Bool
has_opposite x c = is_among (joined is_or c) (opposite x)

opposite-own : (x : ℕ) → IsOwn x (has_opposite x)
opposite-own x = record { both_fail = λ a b. refl; absent_fails = λ t h. not-among is_or x t (opposite x) h (stands-once x) }

opposite-stands : (x : ℕ) (c : Tree) → has_opposite x c ≡ true → occurrences x c ≡ 0 → ⊥
opposite-stands x c h none = let gone : true ≡ false = sym h ∙ not-among is_or x c (opposite x) none (stands-once x) in cc

-- a conjunct of a region in which the variable stands is one of its conjuncts with the variable
abbrev among_some : Tree → List Tree → Bool
among_some c ts = list_any (λ t. is_among (joined is_and t) c) ts

or-nothing : (b : Bool) → b ≡ (b || false)
or-nothing true = refl
or-nothing false = refl

among-conjuncts : (x : ℕ) (c : Tree) → (occurrences x c ≡ 0 → ⊥) → (region : Tree) (conjuncts : List Tree) → AreConjuncts region conjuncts → is_among (joined is_and region) c ≡ among_some c conjuncts
among-conjuncts x c there region conjuncts of_true = not-among is_and x (Literal BoolSort 1) c refl there
among-conjuncts x c there region conjuncts (alone t) = or-nothing (is_among (joined is_and t) c)
among-conjuncts x c there region conjuncts (of_both a b ks ls h k) =
    list_any-append (tree_eq c) (joined is_and a) (joined is_and b)
    ∙ ap (λ p. p || is_among (joined is_and b) c) (among-conjuncts x c there a ks h)
    ∙ ap (λ p. among_some c ks || p) (among-conjuncts x c there b ls k)
    ∙ sym (list_any-append (λ t. is_among (joined is_and t) c) ks ls)

among-left : (x : ℕ) (c : Tree) → (occurrences x c ≡ 0 → ⊥) → (ts left : List Tree) → LeavesOut x ts left → among_some c ts ≡ among_some c left
among-left x c there ts left nothing = refl
among-left x c there ts left (kept t us rest h) = ap (λ p. is_among (joined is_and t) c || p) (among-left x c there us rest h)
among-left x c there ts left (left_out t us rest none h) =
    ap (λ p. p || among_some c us) (not-among is_and x t c (never-in x t none) there) ∙ among-left x c there us rest h

-- lists that are filtered twice, and by tests that are the same
filter-twice : (p q : Tree → Bool) → ((t : Tree) → q t ≡ false → p t ≡ false) → (ts : List Tree) → filter p ts ≡ filter p (filter q ts)
filter-twice p q h [] = refl
filter-twice p q h (t ∷ ts) = go (q t) refl (filter-twice p q h ts)
  where
    go : (b : Bool) → q t ≡ b → filter p ts ≡ filter p (filter q ts) → filter p (t ∷ ts) ≡ filter p (cond b (t ∷ filter q ts) (filter q ts))
    go true is rest = ap (λ us. cond (p t) (t ∷ us) us) rest
    go false is rest = ap (λ k. cond k (t ∷ filter p ts) (filter p ts)) (h t is) ∙ rest

filter-same : (p q : Tree → Bool) → ((t : Tree) → p t ≡ q t) → (ts : List Tree) → filter p ts ≡ filter q ts
filter-same p q h [] = refl
filter-same p q h (t ∷ ts) =
    ap (λ k. cond k (t ∷ filter p ts) (filter p ts)) (h t) ∙ ap (λ us. cond (q t) (t ∷ us) us) (filter-same p q h ts)

module _ (first end x : ℕ) (region part : Tree) (conjuncts parts : List Tree) (h : AreConjuncts region conjuncts) (k : AreConjuncts part parts) (out : LeavesOut x conjuncts parts) where
  abbrev Says : Tree → Tree → Bool
  Says r c = is_implication first end x c && is_among (joined is_and r) c

  says-none : (r c : Tree) → has_opposite x c ≡ false → Says r c ≡ false
  says-none r c none = ap (λ p. (p && list_all (λ d. tree_eq d (opposite x) || is_apart first end x d) (joined is_or c)) && is_among (joined is_and r) c) none

  says-same : (c : Tree) → Says region c ≡ Says part c
  says-same c = go (has_opposite x c) refl
    where
      go : (b : Bool) → has_opposite x c ≡ b → Says region c ≡ Says part c
      go false is = says-none region c is ∙ sym (says-none part c is)
      go true is =
          let there = opposite-stands x c is in
          ap (λ p. is_implication first end x c && p)
          (among-conjuncts x c there region conjuncts h ∙ among-left x c there conjuncts parts out ∙ sym (among-conjuncts x c there part parts k))

  same-implications : implications first end region x ≡ implications first end part x
  same-implications =
      filter-twice (Says region) (has_opposite x) (says-none region) (nodes (region ∷ []))
      ∙ ap (filter (Says region)) (same-nodes x (has_opposite x) (opposite-own x) region part conjuncts parts h k out)
      ∙ sym (filter-twice (Says region) (has_opposite x) (says-none region) (nodes (part ∷ [])))
      ∙ filter-same (Says region) (Says part) says-same (nodes (part ∷ []))

pub same-candidates : (first end x : ℕ) (region part : Tree) (conjuncts parts : List Tree) → AreConjuncts region conjuncts → AreConjuncts part parts → LeavesOut x conjuncts parts → candidates first end region x ≡ candidates first end part x
unfolding candidates
same-candidates first end x region part conjuncts parts h k without_some =
    ap (λ cs. filter (is_outside first end) (together (map (with_term x (truth_literal true)) cs) ++ flat_map (candidates_of x) (nodes (region ∷ [])))) (same-implications first end x region part conjuncts parts h k without_some)
    ∙ ap (λ ts. filter (is_outside first end) (definitions first end part x ++ ts)) (same-given x region part conjuncts parts h k without_some)
