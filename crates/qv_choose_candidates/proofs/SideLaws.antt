-- The candidates of an equation or a comparison.
use Rattle.std.proofs.Common.{◌≡◌, ℕ, zero, suc, ◌+◌, ◌==◌, ◌&&◌, ◌||◌, arith, Bool, true, false, cond, not, Option, Some, None, is_some, List, [], ◌∷◌, ◌++◌, filter, length, map, refl, sym, ap, ◌∙◌, subst}
use Rattle.std.specs.Prelude.{IfSome, option_map}
use Rattle.std.specs.List.{AllByRecursion}
use Rattle.std.specs.Option.{option_to_list}
use Rattle.std.proofs.lemmas.Bool.{eqb-true, and_parts}
use Rattle.std.proofs.lemmas.Nat.{pow_below}
use Rattle.qv_words.specs.Rank.{result_sort, two_widths, two_alike}
use Rattle.qv_words.specs.declared.op.Op.TheVariants.{Equal, BvUlt, BvUle, BvUgt, BvUge, BvSlt, BvSle, BvSgt, BvSge}
use Rattle.qv_words.proofs.InSort.{two_widths-parts, two_alike-parts}
use Rattle.qv_words.proofs.InverseTrees.{same_width}
use Rattle.std.proofs.lemmas.List.Elements.{filter-append}
use Rattle.qv_words.specs.declared.sort.Sort.{Sort}
use Rattle.qv_words.specs.declared.sort.Sort.TheVariants.{Bits, Bool as BoolSort}
use Rattle.qv_words.specs.declared.op.Op.{Op}
use Rattle.qv_words.specs.Sort.{IsLawful}
use Rattle.qv_words.specs.Tree.{Tree, Variable, tree_sort, IsQuantifierFree}
use Rattle.qv_words.specs.Sorted.{IsSorted}
use Rattle.qv_words.specs.Prenex.{is_bool}
use Rattle.qv_words.specs.InverseLaws.{IsOver as IsRowOver}
use Rattle.qv_words.specs.Choice.{occurrences, is_in, is_below_ite, put_in_row, descend, targets_around, is_comparison, is_equation, targets, candidates_down, candidates_of_sides, is_outside}
use Rattle.qv_words.proofs.Elements.{either}
use Rattle.qv_choose_paths.specs.declared.ways.Place.{Place}
use Rattle.qv_choose_paths.specs.declared.ways.Way.{Way}
use Rattle.qv_choose_paths.specs.declared.ways.Way.TheVariants.{Absent, Hidden, Open}
use Rattle.qv_choose_candidates.specs.declared.offers.Side.TheVariants.{First, Second, Neither}
use Rattle.qv_choose_candidates.specs.declared.offers.Target.{Target}
use Rattle.qv_choose_candidates.specs.declared.offers.Target.TheVariants.{Less, More, Same, Least, Greatest}
use Rattle.qv_choose_paths.specs.Looks.{has_inside}
use Rattle.qv_choose_candidates.specs.Targets.{target_tree, has_other, targets_by, targets_of}
use Rattle.qv_choose_candidates.specs.Offers.{open_side}
use Rattle.qv_choose_paths.proofs.Insides.{outside-is, absent-below}
use Rattle.qv_choose_paths.proofs.WayLaws.{Stands, IsOpen, in-one, in-none}
use Rattle.qv_words.proofs.Chosen.{descend-free}

if-some : (Q : Tree → Type 0) (o : Option Tree) (u : Tree) → o ≡ Some u → IfSome o Q → Q u
if-some Q None u e h = absurd (cc)
if-some Q (Some v) u e h = let same : v ≡ u = cc in subst Q same h

-- targets
and-true : (a : Bool) → a ≡ (a && true)
and-true true = refl
and-true false = refl

or-and_true : (a : Bool) → (a || (false || false)) ≡ (a && true)
or-and_true true = refl
or-and_true false = refl

and-false_right : (a : Bool) → false ≡ (a && false)
and-false_right true = refl
and-false_right false = refl

target-inside : (p : Place) (k : Target) (s : Sort) (b : Tree) → has_inside p (target_tree k s b) ≡ (has_inside p b && has_other k)
target-inside p Less s b = or-and_true (has_inside p b)
target-inside p More s b = or-and_true (has_inside p b)
target-inside p Same s b = and-true (has_inside p b)
target-inside p Least s b = and-false_right (has_inside p b)
target-inside p Greatest s b = and-false_right (has_inside p b)

target-free : (k : Target) (s : Sort) (b : Tree) → IsQuantifierFree b → IsQuantifierFree (target_tree k s b)
target-free Less s b h = (h, (tt, tt))
target-free More s b h = (h, (tt, tt))
target-free Same s b h = h
target-free Least s b h = tt
target-free Greatest s b h = tt

-- as a row over the other side
pub target-put : (k : Target) (s : Sort) (t u : Tree) → put_in_row t u (target_tree k s (Variable 0 s)) ≡ target_tree k s t
target-put Less s t u = refl
target-put More s t u = refl
target-put Same s t u = refl
target-put Least s t u = refl
target-put Greatest s t u = refl

pub target-over : (k : Target) (s r : Sort) → IsRowOver s r (target_tree k s (Variable 0 s))
target-over Less s r = (refl, (tt, tt))
target-over More s r = (refl, (tt, tt))
target-over Same s r = refl
target-over Least s r = tt
target-over Greatest s r = tt

-- what a target leads to stands outside where the target has no place of the block
leads-outside : (p : Place) (side b : Tree) (k : Target) (s : Sort) (u : Tree) → IsQuantifierFree side → IsQuantifierFree b → IsOpen p side → descend p.level side (target_tree k s b) ≡ Some u
    → is_outside p.first p.end u ≡ not (has_inside p b && has_other k)
leads-outside p side b k s u g h way e =
    let leads = way.leads (target_tree k s b) in
    let both : Some leads.term ≡ Some u = sym leads.is ∙ e in
    let same : leads.term ≡ u = cc in
    let free = if-some IsQuantifierFree (descend p.level side (target_tree k s b)) u e (descend-free p.level side (target_tree k s b) g (target-free k s b h)) in
    outside-is p u free ∙ ap not (ap (has_inside p) (sym same) ∙ leads.inside ∙ target-inside p k s b)

-- what a target gives is passed over where a place of the block stands in it, and is offered where
-- none does
pub down-passed : (p : Place) (side b : Tree) (k : Target) (s : Sort) → IsQuantifierFree side → IsQuantifierFree b → IsOpen p side → (has_inside p b && has_other k) ≡ true
    → filter (is_outside p.first p.end) (option_to_list (descend p.level side (target_tree k s b))) ≡ []
down-passed p side b k s g h way e =
    let leads = way.leads (target_tree k s b) in
    ap (λ o. filter (is_outside p.first p.end) (option_to_list o)) leads.is
    ∙ ap (λ c. cond c (leads.term ∷ []) []) (leads-outside p side b k s leads.term g h way leads.is ∙ ap not e)

pub down-offered : (p : Place) (side b : Tree) (k : Target) (s : Sort) → IsQuantifierFree side → IsQuantifierFree b → IsOpen p side → (has_inside p b && has_other k) ≡ false
    → descend p.level side (target_tree k s b) ∷ [] ≡ map Some (filter (is_outside p.first p.end) (option_to_list (descend p.level side (target_tree k s b))))
down-offered p side b k s g h way e =
    let leads = way.leads (target_tree k s b) in
    let kept : filter (is_outside p.first p.end) (option_to_list (descend p.level side (target_tree k s b))) ≡ leads.term ∷ [] =
    ap (λ o. filter (is_outside p.first p.end) (option_to_list o)) leads.is
    ∙ ap (λ c. cond c (leads.term ∷ []) []) (leads-outside p side b k s leads.term g h way leads.is ∙ ap not e) in
    ap (λ o. o ∷ []) leads.is ∙ ap (map Some) (sym kept)

-- the targets of the definition
pub targets-are : (o : Op) (b : Tree) (w : ℕ) → tree_sort b ≡ Some (Bits w) → (is_equation o || is_comparison o) ≡ true → targets o b ≡ map (λ k. target_tree k (Bits w) b) (targets_of o)
targets-are o b w sort is = go (is_equation o) (is_comparison o) is
  where
    go : (e c : Bool) → (e || c) ≡ true → cond e (b ∷ []) (targets_around b (tree_sort b)) ≡ map (λ k. target_tree k (Bits w) b) (targets_by e c)
    go true c is = refl
    go false true is = ap (targets_around b) sort
    go false false is = absurd (cc)

-- where a side and the other side stand so, the candidates are those down the side
condition-parts : (A B D E : Bool) → (A && B && D && E) ≡ true → (A ≡ true) × (B ≡ true) × (D ≡ true) × (E ≡ true)
condition-parts A B D E e =
    let one = and_parts (A && B && D) E e in
    let two = and_parts (A && B) D one.0 in
    let three = and_parts A B two.0 in
    (three.0, three.1, two.1, one.1)

condition-holds : (A B D E : Bool) → A ≡ true → B ≡ true → D ≡ true → E ≡ true → (A && B && D && E) ≡ true
condition-holds true true true true a b d e = refl
condition-holds true true true false a b d e = absurd (cc)
condition-holds true true false E a b d e = absurd (cc)
condition-holds true false D E a b d e = absurd (cc)
condition-holds false B D E a b d e = absurd (cc)

abbrev Condition : ℕ → Op → Tree → Tree → Bool
Condition x o a b = (is_equation o || is_comparison o) && not (is_bool (tree_sort a)) && (occurrences x a + occurrences x b) == 1 && not (is_below_ite x a || is_below_ite x b)

by-condition : (x : ℕ) (o : Op) (a b : Tree) (c d : Bool) → Condition x o a b ≡ c → is_in x a ≡ d → candidates_of_sides x o a b ≡ cond c (cond d (candidates_down x a (targets o b)) (candidates_down x b (targets o a))) []
by-condition x o a b c d e f =
    ap (λ k. cond k (cond (is_in x a) (candidates_down x a (targets o b)) (candidates_down x b (targets o a))) []) e
    ∙ ap (λ k. cond c (cond k (candidates_down x a (targets o b)) (candidates_down x b (targets o a))) []) f

pub first-sides : (p : Place) (o : Op) (a b : Tree) → (is_equation o || is_comparison o) ≡ true → is_bool (tree_sort a) ≡ false → IsOpen p a → occurrences p.level b ≡ 0
    → candidates_of_sides p.level o a b ≡ candidates_down p.level a (targets o b)
first-sides p o a b is bits g h =
    by-condition p.level o a b true true
    (condition-holds (is_equation o || is_comparison o) (not (is_bool (tree_sort a))) ((occurrences p.level a + occurrences p.level b) == 1) (not (is_below_ite p.level a || is_below_ite p.level b)) is (ap not bits)
    (ap (λ m. (m + occurrences p.level b) == 1) g.once ∙ ap (λ n. (1 + n) == 1) h)
    (ap (λ c. not (c || is_below_ite p.level b)) g.above ∙ ap not (absent-below p.level b h)))
    (in-one p.level a g.once)

pub second-sides : (p : Place) (o : Op) (a b : Tree) → (is_equation o || is_comparison o) ≡ true → is_bool (tree_sort a) ≡ false → occurrences p.level a ≡ 0 → IsOpen p b
    → candidates_of_sides p.level o a b ≡ candidates_down p.level b (targets o a)
second-sides p o a b is bits g h =
    by-condition p.level o a b true false
    (condition-holds (is_equation o || is_comparison o) (not (is_bool (tree_sort a))) ((occurrences p.level a + occurrences p.level b) == 1) (not (is_below_ite p.level a || is_below_ite p.level b)) is (ap not bits)
    (ap (λ m. (m + occurrences p.level b) == 1) g ∙ ap (λ n. (0 + n) == 1) h.once)
    (ap (λ c. not (c || is_below_ite p.level b)) (absent-below p.level a g) ∙ ap not h.above))
    (in-none p.level a g)

-- where the way is open to neither, all are passed over
around-free : (b : Tree) (s : Option Sort) → IsQuantifierFree b → AllByRecursion IsQuantifierFree (targets_around b s)
around-free b (Some (Bits w)) h = ((h, (tt, tt)), ((h, (tt, tt)), (h, (tt, (tt, tt)))))
around-free b (Some BoolSort) h = tt
around-free b None h = tt

targets-free : (o : Op) (b : Tree) → IsQuantifierFree b → AllByRecursion IsQuantifierFree (targets o b)
targets-free o b h = either (AllByRecursion IsQuantifierFree) (is_equation o) (b ∷ []) (targets_around b (tree_sort b)) (h, tt) (around-free b (tree_sort b) h)

down-hidden : (p : Place) (side : Tree) (ts : List Tree) → IsQuantifierFree side → AllByRecursion IsQuantifierFree ts → ((t : Tree) → IfSome (descend p.level side t) (λ u. has_inside p u ≡ true))
    → filter (is_outside p.first p.end) (candidates_down p.level side ts) ≡ []
down-hidden p side [] g h k = refl
down-hidden p side (t ∷ ts) g h k =
    filter-append (is_outside p.first p.end) (option_to_list (descend p.level side t)) (candidates_down p.level side ts)
    ∙ ap (λ us. us ++ filter (is_outside p.first p.end) (candidates_down p.level side ts)) (one (descend p.level side t) (k t) (descend-free p.level side t g h.0))
    ∙ down-hidden p side ts g h.1 k
  where
    one : (o : Option Tree) → IfSome o (λ u. has_inside p u ≡ true) → IfSome o IsQuantifierFree → filter (is_outside p.first p.end) (option_to_list o) ≡ []
    one None e f = refl
    one (Some u) e f = ap (λ c. cond c (u ∷ []) []) (outside-is p u f ∙ ap not e)

or-none : (a b : Bool) → not (a || b) ≡ true → (a ≡ false) × (b ≡ false)
or-none true b e = absurd (cc)
or-none false true e = absurd (cc)
or-none false false e = (refl, refl)

pub neither-sides : (p : Place) (o : Op) (a b : Tree) (v w : Way) → IsQuantifierFree a → IsQuantifierFree b → Stands p a v → Stands p b w → open_side v w ≡ Neither
    → filter (is_outside p.first p.end) (candidates_of_sides p.level o a b) ≡ []
neither-sides p o a b v w fa fb sa sb none = go (Condition p.level o a b) refl
  where
    known : Condition p.level o a b ≡ true → (occurrences p.level a + occurrences p.level b ≡ 1) × (is_below_ite p.level a ≡ false) × (is_below_ite p.level b ≡ false)
    known e =
        let parts = condition-parts (is_equation o || is_comparison o) (not (is_bool (tree_sort a))) ((occurrences p.level a + occurrences p.level b) == 1) (not (is_below_ite p.level a || is_below_ite p.level b)) e in
        let below = or-none (is_below_ite p.level a) (is_below_ite p.level b) parts.3 in
        (eqb-true (occurrences p.level a + occurrences p.level b) 1 parts.2, below.0, below.1)

    to-first : Condition p.level o a b ≡ true → is_in p.level a ≡ true → ((t : Tree) → IfSome (descend p.level a t) (λ u. has_inside p u ≡ true)) → filter (is_outside p.first p.end) (candidates_of_sides p.level o a b) ≡ []
    to-first e f h = ap (filter (is_outside p.first p.end)) (by-condition p.level o a b true true e f) ∙ down-hidden p a (targets o b) fa (targets-free o b fb) h

    to-second : Condition p.level o a b ≡ true → is_in p.level a ≡ false → ((t : Tree) → IfSome (descend p.level b t) (λ u. has_inside p u ≡ true)) → filter (is_outside p.first p.end) (candidates_of_sides p.level o a b) ≡ []
    to-second e f h = ap (filter (is_outside p.first p.end)) (by-condition p.level o a b true false e f) ∙ down-hidden p b (targets o a) fb (targets-free o a fa) h

    two : (m n : ℕ) → (m ≡ 0 → ⊥) → (n ≡ 0 → ⊥) → m + n ≡ 1 → ⊥
    two zero n g h e = g refl
    two (suc m) zero g h e = h refl
    two (suc m) (suc n) g h e = omega (arith, e)

    cases : (v w : Way) → Stands p a v → Stands p b w → open_side v w ≡ Neither → Condition p.level o a b ≡ true → filter (is_outside p.first p.end) (candidates_of_sides p.level o a b) ≡ []
    cases Absent Absent g h n e = let k = known e in absurd (omega (arith, k.0, g, h))
    cases Absent Hidden g h n e = let k = known e in to-second e (in-none p.level a g) (h.none (omega (arith, k.0, g)) k.2)
    cases Absent Open g h n e = absurd (cc)
    cases Hidden Absent g h n e = let k = known e in let one : occurrences p.level a ≡ 1 = omega (arith, k.0, h) in to-first e (in-one p.level a one) (g.none one k.1)
    cases Open Absent g h n e = absurd (cc)
    cases Hidden Hidden g h n e = let k = known e in absurd (two (occurrences p.level a) (occurrences p.level b) g.there h.there k.0)
    cases Hidden Open g h n e = let k = known e in absurd (g.there (omega (arith, k.0, h.once)))
    cases Open Hidden g h n e = let k = known e in absurd (h.there (omega (arith, k.0, g.once)))
    cases Open Open g h n e = let k = known e in absurd (omega (arith, k.0, g.once, h.once))

    go : (c : Bool) → Condition p.level o a b ≡ c → filter (is_outside p.first p.end) (candidates_of_sides p.level o a b) ≡ []
    go true e = cases v w sa sb none e
    go false e = ap (filter (is_outside p.first p.end)) (by-condition p.level o a b false (is_in p.level a) e refl)

-- other operators, and truth values, have none
pub no-targets : (x : ℕ) (o : Op) (a b : Tree) → targets_of o ≡ [] → candidates_of_sides x o a b ≡ []
no-targets x o a b none = by-condition x o a b false (is_in x a) (ap (λ c. c && not (is_bool (tree_sort a)) && (occurrences x a + occurrences x b) == 1 && not (is_below_ite x a || is_below_ite x b)) (go (is_equation o) (is_comparison o) none)) refl
  where
    go : (e c : Bool) → targets_by e c ≡ [] → (e || c) ≡ false
    go true c n = absurd (cc)
    go false true n = absurd (cc)
    go false false n = refl

pub truth-sides : (x : ℕ) (o : Op) (a b : Tree) → is_bool (tree_sort a) ≡ true → candidates_of_sides x o a b ≡ []
truth-sides x o a b is = by-condition x o a b false (is_in x a) (go (is_equation o || is_comparison o)) refl
  where
    go : (c : Bool) → (c && not (is_bool (tree_sort a)) && (occurrences x a + occurrences x b) == 1 && not (is_below_ite x a || is_below_ite x b)) ≡ false
    go false = refl
    go true = ap (λ d. true && not d && (occurrences x a + occurrences x b) == 1 && not (is_below_ite x a || is_below_ite x b)) is

-- a target is a sorted row of the sides' sort
pub target-sorted : (k : Target) (w : ℕ) → IsLawful (Bits w) → IsSorted (target_tree k (Bits w) (Variable 0 (Bits w)))
target-sorted Less w h = (((h, tt), ((h, pow_below 0 w h.0), tt)), ap is_some (ap (option_map Bits) (same_width w)))
target-sorted More w h = (((h, tt), ((h, pow_below 0 w h.0), tt)), ap is_some (ap (option_map Bits) (same_width w)))
target-sorted Same w h = (h, tt)
target-sorted Least w h = (h, omega (arith, pow_below 0 w h.0))
target-sorted Greatest w h = (h, omega (arith, pow_below 0 w h.0))

-- the sides of an equation or a comparison have one sort
comparison-sorts : (o : Op) (ss : List Sort) (r : Sort) → is_comparison o ≡ true → result_sort o ss ≡ Some r → (w : ℕ) × (ss ≡ Bits w ∷ Bits w ∷ [])
comparison-sorts o ss r is e = go (two_widths ss) refl (sym (rank o is) ∙ e)
  where
    rank : (o : Op) → is_comparison o ≡ true → result_sort o ss ≡ option_map (λ _. BoolSort) (two_widths ss)
    rank BvUlt h = refl
    rank BvUle h = refl
    rank BvUgt h = refl
    rank BvUge h = refl
    rank BvSlt h = refl
    rank BvSle h = refl
    rank BvSgt h = refl
    rank BvSge h = refl
    rank o h = absurd (cc)

    go : (p : Option ℕ) → two_widths ss ≡ p → option_map (λ _. BoolSort) p ≡ Some r → (w : ℕ) × (ss ≡ Bits w ∷ Bits w ∷ [])
    go None e h = absurd (cc)
    go (Some w) e h = (w, two_widths-parts ss w e)

equation-sorts : (o : Op) (ss : List Sort) (r : Sort) → is_equation o ≡ true → result_sort o ss ≡ Some r → (s : Sort) × (ss ≡ s ∷ s ∷ [])
equation-sorts Equal ss r is e = go (two_alike ss) refl e
  where
    go : (p : Option Sort) → two_alike ss ≡ p → option_map (λ _. BoolSort) p ≡ Some r → (s : Sort) × (ss ≡ s ∷ s ∷ [])
    go None e h = absurd (cc)
    go (Some s) e h = (s, two_alike-parts ss s e)
equation-sorts o ss r is e = absurd (cc)

pub one-sort : (o : Op) (left right r : Sort) → (is_equation o || is_comparison o) ≡ true → result_sort o (left ∷ right ∷ []) ≡ Some r → left ≡ right
one-sort o left right r is rank = go (is_equation o) refl is
  where
    go : (k : Bool) → is_equation o ≡ k → (k || is_comparison o) ≡ true → left ≡ right
    go true e h = let parts = equation-sorts o (left ∷ right ∷ []) r e rank in cc
    go false e h = let parts = comparison-sorts o (left ∷ right ∷ []) r h rank in cc

-- which targets there are
pub some-targets : (o : Op) → (length (targets_of o) == 0) ≡ false → (is_equation o || is_comparison o) ≡ true
some-targets o h = go (is_equation o) (is_comparison o) h
  where
    go : (e c : Bool) → (length (targets_by e c) == 0) ≡ false → (e || c) ≡ true
    go true c k = refl
    go false true k = refl
    go false false k = absurd (cc)

pub nothing-there : {A : Type 0} (xs : List A) → (length xs == 0) ≡ true → xs ≡ []
nothing-there [] h = refl
nothing-there (x ∷ xs) h = let none : length (x ∷ xs) ≡ 0 = eqb-true (length (x ∷ xs)) 0 h in absurd (omega (arith, none))

pub first-ways : (v w : Way) → open_side v w ≡ First → (v ≡ Open) × (w ≡ Absent)
first-ways Open Absent e = (refl, refl)
first-ways Open Hidden e = absurd (cc)
first-ways Open Open e = absurd (cc)
first-ways Absent Open e = absurd (cc)
first-ways Absent Absent e = absurd (cc)
first-ways Absent Hidden e = absurd (cc)
first-ways Hidden w e = absurd (cc)

pub second-ways : (v w : Way) → open_side v w ≡ Second → (v ≡ Absent) × (w ≡ Open)
second-ways Open Absent e = absurd (cc)
second-ways Open Hidden e = absurd (cc)
second-ways Open Open e = absurd (cc)
second-ways Absent Open e = (refl, refl)
second-ways Absent Absent e = absurd (cc)
second-ways Absent Hidden e = absurd (cc)
second-ways Hidden w e = absurd (cc)
