-- Constants put in order, one after another, and those of the terms below formulas.
use Rattle.std.proofs.Common.{◌≡◌, ◌⊎◌, inl, inr, ℕ, zero, suc, ◌+◌, ◌<◌, ◌≤◌, ◌==◌, Bool as Truth, true, false, if◌then◌else◌, nat_lt, List, [], ◌∷◌, ◌++◌, length, map, take, drop, get_or, Contains, refl, sym, ap, subst, ◌∙◌, arith, append_assoc}
use Rattle.std.specs.Prelude.{AllPairs}
use Rattle.std.specs.List.{AllByRecursion}
use Rattle.std.proofs.lemmas.Bool.{ltb-true, ltb-false, eqb-false}
use Rattle.std.proofs.lemmas.List.{take_more, drop_more, drop_all, take-append-drop, map-append, length-map}
use Rattle.std.proofs.lemmas.List.Elements.{recursion_from_All}
use Rattle.qv_words.specs.declared.sort.Sort.{Sort}
use Rattle.qv_words.specs.Tree.{Tree, Trees, Constant, Variable, Literal, Apply, ForAll, Exists, Nil, Cons}
use Rattle.qv_words.specs.Sorted.{constants_of, constants_of_all}
use Rattle.qv_words.specs.Problem.{with_constant, in_order}
use Rattle.qv_words.specs.Truth.{HaveOneSort, constants_of_each}
use Rattle.qv_words.proofs.Equals.{eq-from_test}
use Rattle.qv_store.specs.Nodes.{tree_at}
use Rattle.qv_store.specs.Stores.{StandsAt, AreBelow, AreShared, children_of}
use Rattle.qv_store.specs.Walks.{named, with_subtrees, IsWalk, IsBehind}
use Rattle.qv_store.proofs.Sharing.{stands-before}
use Rattle.qv_store.proofs.Passes.{EachTree, each-subtree, named-at, contains-earlier}
use Rattle.qv_prenex_laws.proofs.InOrder.{AreRising, in_order-rising}
use Rattle.qv_prenex.specs.declared.constants.Constant.{Constant as Kept}
use Rattle.qv_prenex.specs.Constants.{pair_of, AreInOrder, own_constants, with_own, leaves, Has, HasSameConstants}

abbrev Pair : Type 0
Pair = ℕ × Sort

-- from either of two
pub either : {A B C : Type 0} → (A → C) → (B → C) → A ⊎ B → C
either f g (inl a) = f a
either f g (inr b) = g b

-- membership
has-first : (c d : Pair) (ds : List Pair) → c ≡ d → Has c (d ∷ ds)
unfolding Has
has-first c d ds e = inl e

has-more : (c d : Pair) (ds : List Pair) → Has c ds → Has c (d ∷ ds)
unfolding Has
has-more c d ds h = inr h

has-parts : (c d : Pair) (ds : List Pair) → Has c (d ∷ ds) → (c ≡ d) ⊎ Has c ds
unfolding Has
has-parts c d ds h = h

has-none : (c : Pair) → Has c [] → ⊥
unfolding Has
has-none c h = h

pub has-left : (c : Pair) (xs ys : List Pair) → Has c xs → Has c (xs ++ ys)
has-left c [] ys h = absurd (has-none c h)
has-left c (x ∷ xs) ys h =
    either (λ e. has-first c x (xs ++ ys) e) (λ k. has-more c x (xs ++ ys) (has-left c xs ys k)) (has-parts c x xs h)

pub has-right : (c : Pair) (xs ys : List Pair) → Has c ys → Has c (xs ++ ys)
has-right c [] ys h = h
has-right c (x ∷ xs) ys h = has-more c x (xs ++ ys) (has-right c xs ys h)

pub has-either : (c : Pair) (xs ys : List Pair) → Has c (xs ++ ys) → Has c xs ⊎ Has c ys
has-either c [] ys h = inr h
has-either c (x ∷ xs) ys h =
    either (λ e. inl (has-first c x xs e)) (λ k. either (λ j. inl (has-more c x xs j)) (λ j. inr j) (has-either c xs ys k))
    (has-parts c x (xs ++ ys) h)

-- a constant put among others, by the two tests
by-tests : (P : List Pair → Type 0) (c d : Pair) (ds : List Pair) → (c.0 ≡ d.0 → P (d ∷ ds)) →
    (c.0 < d.0 → P (c ∷ d ∷ ds)) → (d.0 < c.0 → P (d ∷ with_constant c ds)) → P (with_constant c (d ∷ ds))
by-tests P c d ds same before after = go (c.0 == d.0) (nat_lt c.0 d.0) refl refl
  where
    go : (b k : Truth) → (c.0 == d.0) ≡ b → nat_lt c.0 d.0 ≡ k →
        P (if b then d ∷ ds else (if k then c ∷ d ∷ ds else d ∷ with_constant c ds))
    go true k e f = same (eq-from_test c.0 d.0 e)
    go false true e f = before (ltb-true c.0 d.0 f)
    go false false e f = let differs = eqb-false c.0 d.0 e in let le = ltb-false c.0 d.0 f in after (omega (arith, differs, le))

-- what it is at each of them
pub with-same : (c d : Pair) (ds : List Pair) → c.0 ≡ d.0 → with_constant c (d ∷ ds) ≡ d ∷ ds
with-same c d ds e =
    by-tests (λ xs. xs ≡ d ∷ ds) c d ds (λ f. refl) (λ lt. absurd (omega (arith, e, lt))) (λ lt. absurd (omega (arith, e, lt)))

pub with-before : (c d : Pair) (ds : List Pair) → c.0 < d.0 → with_constant c (d ∷ ds) ≡ c ∷ d ∷ ds
with-before c d ds lt =
    by-tests (λ xs. xs ≡ c ∷ d ∷ ds) c d ds (λ e. absurd (omega (arith, e, lt))) (λ f. refl) (λ f. absurd (omega (arith, f, lt)))

pub with-after : (c d : Pair) (ds : List Pair) → d.0 < c.0 → with_constant c (d ∷ ds) ≡ d ∷ with_constant c ds
with-after c d ds lt =
    by-tests (λ xs. xs ≡ d ∷ with_constant c ds) c d ds (λ e. absurd (omega (arith, e, lt))) (λ f. absurd (omega (arith, f, lt))) (λ f. refl)

-- those that were there stay
with-old : (e c : Pair) (ds : List Pair) → Has e ds → Has e (with_constant c ds)
with-old e c [] h = absurd (has-none e h)
with-old e c (d ∷ ds) h =
    by-tests (Has e) c d ds (λ f. h) (λ lt. has-more e c (d ∷ ds) h)
    (λ lt. either (λ f. has-first e d (with_constant c ds) f) (λ k. has-more e d (with_constant c ds) (with-old e c ds k)) (has-parts e d ds h))

-- nothing else comes
with-only : (e c : Pair) (ds : List Pair) → Has e (with_constant c ds) → Has e (c ∷ ds)
with-only e c [] = λ h. h
with-only e c (d ∷ ds) =
    by-tests (λ xs. Has e xs → Has e (c ∷ d ∷ ds)) c d ds (λ f h. has-more e c (d ∷ ds) h) (λ lt h. h)
    (λ lt h. either (λ f. has-more e c (d ∷ ds) (has-first e d ds f))
    (λ k. either (λ f. has-first e c (d ∷ ds) f) (λ j. has-more e c (d ∷ ds) (has-more e d ds j)) (has-parts e c ds (with-only e c ds k)))
    (has-parts e d (with_constant c ds) h))

-- the new one comes, where one index has one sort
with-new : (c : Pair) (ds : List Pair) → ((d : Pair) → Has d ds → c.0 ≡ d.0 → c ≡ d) → Has c (with_constant c ds)
with-new c [] one = has-first c c [] refl
with-new c (d ∷ ds) one =
    by-tests (Has c) c d ds (λ e. has-first c d ds (one d (has-first d d ds refl) e)) (λ lt. has-first c c (d ∷ ds) refl)
    (λ lt. has-more c d (with_constant c ds) (with-new c ds (λ e h. one e (has-more e d ds h))))

order-only : (e : Pair) (cs : List Pair) → Has e (in_order cs) → Has e cs
order-only e [] h = h
order-only e (c ∷ cs) h =
    either (λ f. has-first e c cs f) (λ k. has-more e c cs (order-only e cs k)) (has-parts e c (in_order cs) (with-only e c (in_order cs) h))

-- one index has one sort
abbrev pub AreOne : List Pair → Type 0
AreOne cs = (c d : Pair) → Has c cs → Has d cs → c.0 ≡ d.0 → c ≡ d

order-all : (e : Pair) (cs : List Pair) → AreOne cs → Has e cs → Has e (in_order cs)
order-all e [] one h = h
order-all e (c ∷ cs) one h =
    either
    (λ f. subst (λ (x : Pair). Has x (with_constant c (in_order cs))) (sym f)
    (with-new c (in_order cs) (λ d k. one c d (has-first c c cs refl) (has-more d c cs (order-only d cs k)))))
    (λ k. with-old e c (in_order cs) (order-all e cs (λ x y hx hy. one x y (has-more x c cs hx) (has-more y c cs hy)) k))
    (has-parts e c cs h)

-- lists in order with the same constants are one
above : (n : ℕ) (ds : List Pair) (c : Pair) → AllByRecursion (λ d. n < d.0) ds → Has c ds → n < c.0
above n [] c h k = absurd (has-none c k)
above n (d ∷ ds) c h k =
    either (λ e. subst (λ (x : Pair). n < x.0) (sym e) h.0) (λ j. above n ds c h.1 j) (has-parts c d ds k)

rising-same : (xs ys : List Pair) → AreRising xs → AreRising ys → ((c : Pair) → Has c xs → Has c ys) → ((c : Pair) → Has c ys → Has c xs) → xs ≡ ys
rising-same [] [] h k f g = refl
rising-same [] (y ∷ ys) h k f g = absurd (has-none y (g y (has-first y y ys refl)))
rising-same (x ∷ xs) [] h k f g = absurd (has-none x (f x (has-first x x xs refl)))
rising-same (x ∷ xs) (y ∷ ys) h k f g =
    let first : x ≡ y = same (has-parts x y ys (f x (has-first x x xs refl))) (has-parts y x xs (g y (has-first y y ys refl))) in
    let rest : xs ≡ ys = rising-same xs ys h.1 k.1 (down first) (up first) in
    cc
  where
    same : (x ≡ y) ⊎ Has x ys → (y ≡ x) ⊎ Has y xs → x ≡ y
    same (inl e) b = e
    same (inr a) (inl e) = sym e
    same (inr a) (inr b) = let lo = above y.0 ys x k.0 a in let hi = above x.0 xs y h.0 b in absurd (omega (arith, lo, hi))

    down : x ≡ y → (c : Pair) → Has c xs → Has c ys
    down e c j = by (has-parts c y ys (f c (has-more c x xs j)))
      where
        by : (c ≡ y) ⊎ Has c ys → Has c ys
        by (inl i) = let lo = above x.0 xs c h.0 j in let here = ap (λ (p : Pair). p.0) (i ∙ sym e) in absurd (omega (arith, lo, here))
        by (inr i) = i

    up : x ≡ y → (c : Pair) → Has c ys → Has c xs
    up e c j = by (has-parts c x xs (g c (has-more c y ys j)))
      where
        by : (c ≡ x) ⊎ Has c xs → Has c xs
        by (inl i) = let lo = above y.0 ys c k.0 j in let here = ap (λ (p : Pair). p.0) (i ∙ e) in absurd (omega (arith, lo, here))
        by (inr i) = i

pub order-same : (xs ys : List Pair) → AreOne ys → ((c : Pair) → Has c xs → Has c ys) → ((c : Pair) → Has c ys → Has c xs) → in_order xs ≡ in_order ys
order-same xs ys one f g =
    rising-same (in_order xs) (in_order ys) (in_order-rising xs) (in_order-rising ys)
    (λ c h. order-all c ys one (f c (order-only c xs h)))
    (λ c h. order-all c xs (λ x y hx hy. one x y (f x hx) (f y hy)) (g c (order-only c ys h)))

-- more constants take no fewer places
longer-with : (c : Pair) (ds : List Pair) → length ds ≤ length (with_constant c ds)
longer-with c [] = omega arith
longer-with c (d ∷ ds) =
    by-tests (λ xs. length (d ∷ ds) ≤ length xs) c d ds (λ e. omega arith) (λ lt. omega arith) (λ lt. omega (arith, longer-with c ds))

pub longer-order : (xs ys : List Pair) → length (in_order ys) ≤ length (in_order (xs ++ ys))
longer-order [] ys = omega arith
longer-order (x ∷ xs) ys = omega (arith, longer-with x (in_order (xs ++ ys)), longer-order xs ys)

-- one sort for each index, from all pairs
pair-same : (a b : Pair) → a.0 ≡ b.0 → a.1 ≡ b.1 → a ≡ b
pair-same a b f g = ap (λ n. (n, a.1)) f ∙ ap (λ s. (b.0, s)) g

one-first : (x : Pair) (ds : List Pair) → AllByRecursion (λ y. x.0 ≡ y.0 → x.1 ≡ y.1) ds → (y : Pair) → Has y ds → x.0 ≡ y.0 → x ≡ y
one-first x [] all y k f = absurd (has-none y k)
one-first x (z ∷ ds) all y k f =
    either
    (λ i. let index : x.0 ≡ z.0 = f ∙ ap (λ (p : Pair). p.0) i in pair-same x z index (all.0 index) ∙ sym i)
    (λ j. one-first x ds all.1 y j f)
    (has-parts y z ds k)

pub one-sort : (cs : List Pair) → AllPairs (λ a b. a.0 ≡ b.0 → a.1 ≡ b.1) cs → AreOne cs
one-sort [] h c d hc hd e = absurd (has-none c hc)
one-sort (x ∷ cs) h c d hc hd e =
    let firsts : AllByRecursion (λ y. x.0 ≡ y.0 → x.1 ≡ y.1) cs =
    recursion_from_All (λ y. x.0 ≡ y.0 → x.1 ≡ y.1) cs (λ j y lt. h zero (suc j) y (omega arith) (omega (arith, lt))) in
    let index : (a b : Pair) → a ≡ b → a.0 ≡ b.0 = λ a b f. ap (λ (p : Pair). p.0) f in
    either
    (λ i. either (λ j. i ∙ sym j) (λ j. i ∙ one-first x cs firsts d j (sym (index c x i) ∙ e)) (has-parts d x cs hd))
    (λ i. either (λ j. sym (j ∙ one-first x cs firsts c i (sym (index d x j) ∙ sym e)))
    (λ j. one-sort cs (λ a b y lt within. h (suc a) (suc b) y (omega (arith, lt)) (omega (arith, within))) c d i j e) (has-parts d x cs hd))
    (has-parts c x cs hc)

-- those of a list of trees
pub leaves-append : (ts us : List Tree) → leaves (ts ++ us) ≡ leaves ts ++ leaves us
unfolding leaves
leaves-append [] us = refl
leaves-append (t ∷ ts) us = ap (λ xs. own_constants t ++ xs) (leaves-append ts us) ∙ sym (append_assoc (own_constants t) (leaves ts) (leaves us))

-- the constants of a tree are among some
abbrev pub IsWithin : List Pair → Tree → Type 0
IsWithin cs t = (c : Pair) → Has c (constants_of t) → Has c cs

kids-within : (cs : List Pair) (ts : Trees) → ((c : Pair) → Has c (constants_of_all ts) → Has c cs) → EachTree (IsWithin cs) ts
kids-within cs Nil h = tt
kids-within cs (Cons t ts) h =
    (λ c k. h c (has-left c (constants_of t) (constants_of_all ts) k), kids-within cs ts (λ c k. h c (has-right c (constants_of t) (constants_of_all ts) k)))

inherit-within : (cs : List Pair) (t : Tree) → IsWithin cs t → EachTree (IsWithin cs) (children_of t)
inherit-within cs (Constant i s) h = tt
inherit-within cs (Variable l s) h = tt
inherit-within cs (Literal s n) h = tt
inherit-within cs (Apply o args) h = kids-within cs args h
inherit-within cs (ForAll l s body) h = (h, tt)
inherit-within cs (Exists l s body) h = (h, tt)

pub subtrees-within : (cs : List Pair) (seen : List Tree) (t : Tree) → AllByRecursion (IsWithin cs) seen → IsWithin cs t →
    AllByRecursion (IsWithin cs) (with_subtrees seen t)
subtrees-within cs seen t h k = each-subtree (IsWithin cs) (inherit-within cs) seen t h k

own-within : (c : Pair) (t : Tree) → Has c (own_constants t) → Has c (constants_of t)
own-within c (Constant i s) h = h
own-within c (Variable l s) h = h
own-within c (Literal s n) h = h
own-within c (Apply o args) h = absurd (has-none c h)
own-within c (ForAll l s body) h = absurd (has-none c h)
own-within c (Exists l s body) h = absurd (has-none c h)

pub leaves-within : (cs : List Pair) (ts : List Tree) → AllByRecursion (IsWithin cs) ts → (c : Pair) → Has c (leaves ts) → Has c cs
unfolding leaves
leaves-within cs [] h c k = absurd (has-none c k)
leaves-within cs (t ∷ ts) h c k =
    either (λ j. h.0 c (own-within c t j)) (λ j. leaves-within cs ts h.1 c j) (has-either c (own_constants t) (leaves ts) k)

-- each formula's constants are among those of all
pub formulas-within : (ts : List Tree) → AllByRecursion (IsWithin (constants_of_each ts)) ts
formulas-within [] = tt
formulas-within (t ∷ ts) = (
  λ c h. has-left c (constants_of t) (constants_of_each ts) h,
  more ts (formulas-within ts),
)
  where
    more : (us : List Tree) → AllByRecursion (IsWithin (constants_of_each ts)) us → AllByRecursion (IsWithin (constants_of t ++ constants_of_each ts)) us
    more [] h = tt
    more (u ∷ us) h = (λ c k. has-right c (constants_of t) (constants_of_each ts) (h.0 c k), more us h.1)

-- a tree that stands among shared ones has its constants there
own-stands : (ts : List Tree) (t : Tree) (n : ℕ) → StandsAt ts n t → (c : Pair) → Has c (own_constants t) → Has c (leaves ts)
unfolding leaves
own-stands [] t n at c h = absurd (omega (arith, at.below))
own-stands (u ∷ ts) t zero at c h = has-left c (own_constants u) (leaves ts) (subst (λ (x : Tree). Has c (own_constants x)) (sym at.tree) h)
own-stands (u ∷ ts) t (suc n) at c h =
    has-right c (own_constants u) (leaves ts) (own-stands ts t n (record { below = omega (arith, at.below); tree = at.tree }) c h)

module _ (ts : List Tree) (shared : AreShared ts) where
  kids-of : (t : Tree) (n : ℕ) → StandsAt ts n t → AreBelow ts n (children_of t)
  kids-of t n at = subst (λ (x : Tree). AreBelow ts n (children_of x)) at.tree (shared.children n at.below)

  mutual
    pub tree-leaves : (t : Tree) (n : ℕ) → StandsAt ts n t → (c : Pair) → Has c (constants_of t) → Has c (leaves ts)
    tree-leaves (Constant i s) n at c h = own-stands ts (Constant i s) n at c h
    tree-leaves (Variable l s) n at c h = absurd (has-none c h)
    tree-leaves (Literal s m) n at c h = absurd (has-none c h)
    tree-leaves (Apply o args) n at c h = trees-leaves args n (kids-of (Apply o args) n at) c h
    tree-leaves (ForAll l s body) n at c h = let kid = (kids-of (ForAll l s body) n at).0 in tree-leaves body kid.0 kid.2 c h
    tree-leaves (Exists l s body) n at c h = let kid = (kids-of (Exists l s body) n at).0 in tree-leaves body kid.0 kid.2 c h

    trees-leaves : (us : Trees) (n : ℕ) → AreBelow ts n us → (c : Pair) → Has c (constants_of_all us) → Has c (leaves ts)
    trees-leaves Nil n low c h = absurd (has-none c h)
    trees-leaves (Cons t us) n low c h =
        either (λ k. tree-leaves t low.0.0 low.0.2 c k) (λ k. trees-leaves us n low.1 c k)
        (has-either c (constants_of t) (constants_of_all us) h)

-- formulas that stand among trees
abbrev pub AllStand : List Tree → List Tree → Type 0
AllStand ts = AllByRecursion (λ t. (n : ℕ) × StandsAt ts n t)

pub all-leaves : (ts : List Tree) → AreShared ts → (us : List Tree) → AllStand ts us → (c : Pair) → Has c (constants_of_each us) → Has c (leaves ts)
all-leaves ts shared [] h c k = absurd (has-none c k)
all-leaves ts shared (u ∷ us) h c k =
    either (λ j. tree-leaves ts shared u h.0.0 h.0.1 c j) (λ j. all-leaves ts shared us h.1 c j)
    (has-either c (constants_of u) (constants_of_each us) k)

pub stand-more : (xs ys us : List Tree) → AllStand xs us → AllStand (xs ++ ys) us
stand-more xs ys [] h = tt
stand-more xs ys (u ∷ us) h = ((h.0.0, stands-before xs ys h.0.0 u h.0.1), stand-more xs ys us h.1)

-- a tree's own constant put among those in order
pub own-order : (t : Tree) (cs : List Pair) → with_own t (in_order cs) ≡ in_order (own_constants t ++ cs)
own-order (Constant i s) cs = refl
own-order (Variable l s) cs = refl
own-order (Literal s n) cs = refl
own-order (Apply o args) cs = refl
own-order (ForAll l s body) cs = refl
own-order (Exists l s body) cs = refl

-- walks through formulas
pub walk-none : (trees : List Tree) → IsWalk trees []
walk-none trees = record {
  within = λ k d h. absurd (omega (arith, h));
  shared = record {
    sorted = λ n h. absurd (omega (arith, h));
    once = λ m n h k e. absurd (omega (arith, h));
    children = λ n h. absurd (omega (arith, h));
  };
}

within-at : (trees : List Tree) (cs : List Pair) (fs : List ℕ) (i id : ℕ) → AllByRecursion (IsWithin cs) (map (tree_at trees) fs) →
    i < length fs → id ≡ get_or fs i id → IsWithin cs (tree_at trees id)
within-at trees cs [] i id h lt e = absurd (omega (arith, lt))
within-at trees cs (f ∷ fs) zero id h lt e = subst (λ n. IsWithin cs (tree_at trees n)) (sym e) h.0
within-at trees cs (f ∷ fs) (suc i) id h lt e = within-at trees cs fs i id h.1 (omega (arith, lt)) e

pub walk-formula : (trees : List Tree) (old new fs : List ℕ) (i id : ℕ) → i < length fs → id ≡ get_or fs i id →
    named trees new ≡ with_subtrees (named trees old) (tree_at trees id) →
    AllByRecursion (IsWithin (constants_of_each (map (tree_at trees) fs))) (named trees old) →
    AllByRecursion (IsWithin (constants_of_each (map (tree_at trees) fs))) (named trees new)
walk-formula trees old new fs i id lt e order h =
    let cs = constants_of_each (map (tree_at trees) fs) in
    subst (AllByRecursion (IsWithin cs)) (sym order)
    (subtrees-within cs (named trees old) (tree_at trees id) h (within-at trees cs fs i id (formulas-within (map (tree_at trees) fs)) lt e))

stand-both : (ts us vs : List Tree) → AllStand ts us → AllStand ts vs → AllStand ts (us ++ vs)
stand-both ts [] vs h k = k
stand-both ts (u ∷ us) vs h k = (h.0, stand-both ts us vs h.1 k)

pub walk-stand : (trees : List Tree) (old new fs : List ℕ) (i id : ℕ) → i < length fs → id ≡ get_or fs i id → IsBehind old new →
    Contains new id → AllStand (named trees old) (map (tree_at trees) (take i fs)) → AllStand (named trees new) (map (tree_at trees) (take (i + 1) fs))
walk-stand trees old new fs i id lt e behind has h =
    let more : named trees new ≡ named trees old ++ named trees behind.more =
    ap (map (tree_at trees)) behind.behind ∙ map-append (tree_at trees) old behind.more in
    let at = contains-earlier new id has in
    let here : StandsAt (named trees new) at.place (tree_at trees id) =
    record { below = omega (arith, at.before, length-map new (tree_at trees)); tree = named-at trees new at.place id at.at } in
    let before : AllStand (named trees new) (map (tree_at trees) (take i fs)) =
    subst (λ ts. AllStand ts (map (tree_at trees) (take i fs))) (sym more) (stand-more (named trees old) (named trees behind.more) (map (tree_at trees) (take i fs)) h) in
    let longer : map (tree_at trees) (take (i + 1) fs) ≡ map (tree_at trees) (take i fs) ++ tree_at trees id ∷ [] =
    ap (map (tree_at trees)) (take_more fs i id lt ∙ ap (λ n. take i fs ++ n ∷ []) (sym e)) ∙ map-append (tree_at trees) (take i fs) (id ∷ []) in
    subst (AllStand (named trees new)) (sym longer)
    (stand-both (named trees new) (map (tree_at trees) (take i fs)) (tree_at trees id ∷ []) before ((at.place, here), tt))

-- constants that are kept in order
kept-above : (n : ℕ) (ks : List Kept) → AllByRecursion (λ p. n < p.0) (map pair_of ks) → (j : ℕ) (d : Kept) → j < length ks → n < (get_or ks j d).index
kept-above n [] h j d lt = absurd (omega (arith, lt))
kept-above n (k ∷ ks) h zero d lt = h.0
kept-above n (k ∷ ks) h (suc j) d lt = kept-above n ks h.1 j d (omega (arith, lt))

kept-rising : (ks : List Kept) → AreRising (map pair_of ks) → AreInOrder ks
kept-rising [] h i j d lt within = absurd (omega (arith, within))
kept-rising (k ∷ ks) h i zero d lt within = absurd (omega (arith, lt))
kept-rising (k ∷ ks) h zero (suc j) d lt within = kept-above k.index ks h.0 j d (omega (arith, within))
kept-rising (k ∷ ks) h (suc i) (suc j) d lt within = kept-rising ks h.1 i j d (omega (arith, lt)) (omega (arith, within))

pub kept-in-order : (ks : List Kept) (cs : List Pair) → map pair_of ks ≡ in_order cs → AreInOrder ks
kept-in-order ks cs e = kept-rising ks (subst AreRising (sym e) (in_order-rising cs))

-- a constant's place is behind all those up to one with a smaller index
pub place-behind : (c : Pair) (ks : List Kept) (at : ℕ) (d : Kept) → AreInOrder ks → at < length ks → (get_or ks at d).index < c.0 →
    with_constant c (map pair_of ks) ≡ take (at + 1) (map pair_of ks) ++ with_constant c (drop (at + 1) (map pair_of ks))
place-behind c [] at d rising lt less = absurd (omega (arith, lt))
place-behind c (k ∷ ks) zero d rising lt less = with-after c (pair_of k) (map pair_of ks) less
place-behind c (k ∷ ks) (suc at) d rising lt less =
    let first : k.index < (get_or ks at d).index = rising zero (suc at) d (omega arith) lt in
    let further : suc (at + 1) ≡ suc at + 1 = omega arith in
    with-after c (pair_of k) (map pair_of ks) (omega (arith, first, less))
    ∙ ap (λ xs. pair_of k ∷ xs)
    (place-behind c ks at d (λ i j e l within. rising (suc i) (suc j) e (omega (arith, l)) (omega (arith, within))) (omega (arith, lt)) less)
    ∙ ap (λ n. take n (map pair_of (k ∷ ks)) ++ with_constant c (drop n (map pair_of (k ∷ ks)))) further

-- a place among constants
module _ (c : Pair) (ps : List Pair) (at : ℕ) (front : with_constant c ps ≡ take at ps ++ with_constant c (drop at ps)) where
  -- it is there
  pub place-there : at < length ps → (get_or ps at c).0 ≡ c.0 → ps ≡ with_constant c ps
  place-there lt same =
      sym (front ∙ ap (λ xs. take at ps ++ with_constant c xs) (drop_more ps at c lt)
      ∙ ap (λ xs. take at ps ++ xs) (with-same c (get_or ps at c) (drop (at + 1) ps) (sym same))
      ∙ ap (λ xs. take at ps ++ xs) (sym (drop_more ps at c lt)) ∙ take-append-drop at ps)

  -- it goes there
  pub place-before : at < length ps → c.0 < (get_or ps at c).0 → take at ps ++ c ∷ drop at ps ≡ with_constant c ps
  place-before lt less =
      sym (front ∙ ap (λ xs. take at ps ++ with_constant c xs) (drop_more ps at c lt)
      ∙ ap (λ xs. take at ps ++ xs) (with-before c (get_or ps at c) (drop (at + 1) ps) less)
      ∙ ap (λ xs. take at ps ++ c ∷ xs) (sym (drop_more ps at c lt)))

  pub place-last : length ps ≤ at → take at ps ++ c ∷ drop at ps ≡ with_constant c ps
  place-last le =
      let none : drop at ps ≡ [] = drop_all at ps le in
      ap (λ xs. take at ps ++ c ∷ xs) none ∙ sym (front ∙ ap (λ xs. take at ps ++ with_constant c xs) none)

-- constants of trees one after another, the newest first
unfoldable pub heaped : List Tree → List Pair → List Pair
heaped [] cs = cs
heaped (t ∷ ts) cs = heaped ts (own_constants t ++ cs)

heaped-append : (ts us : List Tree) (cs : List Pair) → heaped (ts ++ us) cs ≡ heaped us (heaped ts cs)
unfolding heaped
heaped-append [] us cs = refl
heaped-append (t ∷ ts) us cs = heaped-append ts us (own_constants t ++ cs)

pub heaped-none : heaped [] [] ≡ []
unfolding heaped
heaped-none = refl

pub heaped-push : (ts : List Tree) (t : Tree) (cs : List Pair) → heaped (ts ++ t ∷ []) cs ≡ own_constants t ++ heaped ts cs
unfolding heaped
heaped-push [] t cs = refl
heaped-push (u ∷ ts) t cs = heaped-push ts t (own_constants u ++ cs)

longer-heaped : (us : List Tree) (cs : List Pair) → length (in_order cs) ≤ length (in_order (heaped us cs))
unfolding heaped
longer-heaped [] cs = omega arith
longer-heaped (u ∷ us) cs = omega (arith, longer-order (own_constants u) cs, longer-heaped us (own_constants u ++ cs))

pub longer-behind : (ts us : List Tree) → length (in_order (heaped ts [])) ≤ length (in_order (heaped (ts ++ us) []))
longer-behind ts us = omega (arith, longer-heaped us (heaped ts []), ap (λ cs. length (in_order cs)) (heaped-append ts us []))

heaped-has : (c : Pair) (ts : List Tree) (cs : List Pair) → Has c (heaped ts cs) → Has c (leaves ts) ⊎ Has c cs
unfolding heaped leaves
heaped-has c [] cs h = inr h
heaped-has c (t ∷ ts) cs h =
    either (λ k. inl (has-right c (own_constants t) (leaves ts) k))
    (λ k. either (λ j. inl (has-left c (own_constants t) (leaves ts) j)) (λ j. inr j) (has-either c (own_constants t) cs k))
    (heaped-has c ts (own_constants t ++ cs) h)

heaped-old : (c : Pair) (ts : List Tree) (cs : List Pair) → Has c cs → Has c (heaped ts cs)
unfolding heaped
heaped-old c [] cs h = h
heaped-old c (t ∷ ts) cs h = heaped-old c ts (own_constants t ++ cs) (has-right c (own_constants t) cs h)

heaped-leaves : (c : Pair) (ts : List Tree) (cs : List Pair) → Has c (leaves ts) → Has c (heaped ts cs)
unfolding heaped leaves
heaped-leaves c [] cs h = absurd (has-none c h)
heaped-leaves c (t ∷ ts) cs h =
    either (λ k. heaped-old c ts (own_constants t ++ cs) (has-left c (own_constants t) cs k)) (λ k. heaped-leaves c ts (own_constants t ++ cs) k)
    (has-either c (own_constants t) (leaves ts) h)

pub heaped-order : (ts formulas : List Tree) → HasSameConstants ts formulas → HaveOneSort formulas →
    in_order (heaped ts []) ≡ in_order (constants_of_each formulas)
heaped-order ts formulas same one =
    order-same (heaped ts []) (constants_of_each formulas) (one-sort (constants_of_each formulas) one)
    (λ c h. either (λ k. same.from c k) (λ k. absurd (has-none c k)) (heaped-has c ts [] h))
    (λ c h. heaped-leaves c ts [] (same.all c h))

-- one tree more of a walk
pub order-more : (trees : List Tree) (ids : List ℕ) (i id : ℕ) (cs new : List Pair) → i < length ids → id ≡ get_or ids i id →
    cs ≡ in_order (heaped (named trees (take i ids)) []) → new ≡ with_own (tree_at trees id) cs →
    new ≡ in_order (heaped (named trees (take (i + 1) ids)) [])
order-more trees ids i id cs new lt e order put =
    let longer : named trees (take (i + 1) ids) ≡ named trees (take i ids) ++ tree_at trees id ∷ [] =
    ap (map (tree_at trees)) (take_more ids i id lt ∙ ap (λ n. take i ids ++ n ∷ []) (sym e)) ∙ map-append (tree_at trees) (take i ids) (id ∷ []) in
    put ∙ ap (with_own (tree_at trees id)) order ∙ own-order (tree_at trees id) (heaped (named trees (take i ids)) [])
    ∙ ap in_order (sym (ap (λ ts. heaped ts []) longer ∙ heaped-push (named trees (take i ids)) (tree_at trees id) []))

-- those of some of the terms are no more than those of all
pub order-fewer : (trees : List Tree) (ids : List ℕ) (i : ℕ) → length (in_order (heaped (named trees (take i ids)) [])) ≤ length (in_order (heaped (named trees ids) []))
order-fewer trees ids i =
    let whole : named trees (take i ids) ++ named trees (drop i ids) ≡ named trees ids =
    sym (map-append (tree_at trees) (take i ids) (drop i ids)) ∙ ap (map (tree_at trees)) (take-append-drop i ids) in
    omega (arith, longer-behind (named trees (take i ids)) (named trees (drop i ids)), ap (λ ts. length (in_order (heaped ts []))) whole)
