-- The faults of lines, and lines without any.
use Rattle.std.proofs.Common.{◌≡◌, ℕ, zero, suc, ◌<◌, Bool, true, false, not, cond, ◌&&◌, ◌==◌, Option, Some, None, List, [], ◌∷◌, length, slice_get, unwrap_or, refl, ap, sym, subst, ◌∙◌, arith}
use Rattle.std.specs.Prelude.{is_some, nat_lt, IsSomeAnd, All}
use Rattle.std.proofs.lemmas.Bool.{eqb-true, not_from_true}
use Rattle.std.proofs.lemmas.Bool.Decides.{nat_tests}
use Rattle.std.specs.List.{list_all}
use Rattle.std.specs.Option.{option_map_or}
use Rattle.std.proofs.lemmas.List.Elements.{All-nil, All-cons, All-head, All-tail}
use Rattle.qv_words.specs.declared.sort.Sort.{Sort}
use Rattle.qv_words.specs.declared.sort.Sort.TheVariants.{Bool as BoolSort}
use Rattle.qv_words.specs.Rank.{sort_eq}
use Rattle.qv_words.specs.Tree.{Tree, Literal, tree_sort}
use Rattle.qv_words.specs.Sorted.{free_levels}
use Rattle.qv_words.specs.Problem.{Problem, Place, Quantifier, Existential, Universal}
use Rattle.qv_words.specs.Skolem.{term_of}
use Rattle.qv_words.specs.Expansion.{Grown}
use Rattle.qv_words.proofs.Equals.{sort_eq-is, eq-from_test, sort_eq-refl}
use Rattle.qv_cert.specs.declared.kind.RefusalKind.{RefusalKind}
use Rattle.qv_cert.specs.Line.{Header, Check, VariableNode, EigenNode, LiteralNode, OperatorNode, Skolem, Instance, Eigen, Rewrite, Lrat, Step, End}
use Rattle.qv_cert.specs.Listed.{Listed, node_numbered, tree_of_node, grown_line}
use Rattle.qv_cert.specs.Faults.{Fault, first_fit, faults_of, is_universal, is_existential, is_place, is_node, has_sort_at, depends_before, depth_of, is_parent}
use Rattle.qv_cert.specs.FaultLaws.{FaultsAreInOrder, IsTermLine, TermLinesHaveNoFault, IsInstanceLine, InstanceLinesHaveNoFault, IsEigenLine, EigenLinesHaveNoFault}

pub faults-are-in-order : FaultsAreInOrder
faults-are-in-order p l (VariableNode node place) = (omega arith, (omega arith, tt))
faults-are-in-order p l (EigenNode node line) = (omega arith, (omega arith, tt))
faults-are-in-order p l (LiteralNode node s value) = (omega arith, tt)
faults-are-in-order p l (OperatorNode node o children) = (omega arith, (omega arith, (omega arith, tt)))
faults-are-in-order p l (Skolem place node) = (omega arith, (omega arith, (omega arith, (omega arith, (omega arith, tt)))))
faults-are-in-order p l (Instance line parent node) = (omega arith, (omega arith, (omega arith, (omega arith, (omega arith, tt)))))
faults-are-in-order p l (Eigen line parent) = (omega arith, (omega arith, (omega arith, tt)))
faults-are-in-order p l (Header version) = tt
faults-are-in-order p l (Check number answer) = tt
faults-are-in-order p l (Rewrite q) = tt
faults-are-in-order p l Lrat = tt
faults-are-in-order p l (Step line) = tt
faults-are-in-order p l End = tt

-- ---- the tests one by one

-- no kind fits
abbrev pub Clear : List Fault → Type 0
Clear [] = Unit {0}
Clear (f ∷ fs) = (f.1 ≡ false) × Clear fs

clear-by : (k : RefusalKind) (b : Bool) (others : Option RefusalKind) → cond b (Some k) others ≡ None → (b ≡ false) × (others ≡ None)
clear-by k true others e = absurd cc
clear-by k false others e = (refl, e)

pub clear : (fs : List Fault) → first_fit fs ≡ None → Clear fs
clear [] e = tt
clear (f ∷ fs) e = let both = clear-by f.0 f.1 (first_fit fs) e in (both.0, clear fs both.1)

pub cleared : (fs : List Fault) → Clear fs → first_fit fs ≡ None
cleared [] h = refl
cleared (f ∷ fs) h = ap (λ b. cond b (Some f.0) (first_fit fs)) h.0 ∙ cleared fs h.1

pub passes : (b : Bool) → not b ≡ false → b ≡ true
passes true e = refl
passes false e = absurd cc

pub there : {A : Type 0} (o : Option A) → is_some o ≡ true → (x : A) × (o ≡ Some x)
there None e = absurd cc
there (Some x) e = (x, refl)

absent : {A : Type 0} (o : Option A) → is_some o ≡ false → o ≡ None
absent None e = refl
absent (Some x) e = absurd cc

-- a quantifier's test, for either quantifier
abbrev pub test_for : Quantifier → Quantifier → Bool
test_for Existential = is_existential
test_for Universal = is_universal

test-is : (q r : Quantifier) → test_for q r ≡ true → r ≡ q
test-is Existential Existential e = refl
test-is Existential Universal e = absurd cc
test-is Universal Existential e = absurd cc
test-is Universal Universal e = refl

test-same : (q : Quantifier) → test_for q q ≡ true
test-same Existential = refl
test-same Universal = refl

-- a place with this quantifier, and the sort of a tree
abbrev pub quantifier_at : Quantifier → Option Place → Bool
quantifier_at q o = option_map_or (λ place. test_for q place.quantifier) o false

abbrev sort_at_place : Tree → Option Place → Bool
sort_at_place t o = option_map_or (λ place. option_map_or (λ s. sort_eq s place.sort) (tree_sort t) false) o false

pub is-quantified : (q : Quantifier) (o : Option Place) → quantifier_at q o ≡ true → IsSomeAnd o (λ place. place.quantifier ≡ q)
is-quantified q None e = absurd cc
is-quantified q (Some place) e = test-is q place.quantifier e

quantified : (q : Quantifier) (o : Option Place) → IsSomeAnd o (λ place. place.quantifier ≡ q) → quantifier_at q o ≡ true
quantified q None h = absurd h
quantified q (Some place) h = ap (test_for q) h ∙ test-same q

same-sort : (o : Option Sort) (s : Sort) → option_map_or (λ t. sort_eq t s) o false ≡ true → o ≡ Some s
same-sort None s e = absurd cc
same-sort (Some t) s e = ap Some (sort_eq-is t s e)

is-sorted-there : (q : Quantifier) (t : Tree) (o : Option Place) → quantifier_at q o ≡ true → sort_at_place t o ≡ true
    → IsSomeAnd o (λ place. (place.quantifier ≡ q) × (tree_sort t ≡ Some place.sort))
is-sorted-there q t None e f = absurd cc
is-sorted-there q t (Some place) e f = (test-is q place.quantifier e, same-sort (tree_sort t) place.sort f)

sorted-there : (q : Quantifier) (t : Tree) (o : Option Place) → IsSomeAnd o (λ place. (place.quantifier ≡ q) × (tree_sort t ≡ Some place.sort))
    → (quantifier_at q o ≡ true) × (sort_at_place t o ≡ true)
sorted-there q t None h = absurd h
sorted-there q t (Some place) h =
    (ap (test_for q) h.0 ∙ test-same q, ap (λ (s : Option Sort). option_map_or (λ t. sort_eq t place.sort) s false) h.1 ∙ sort_eq-refl place.sort)

pub less : (a b : ℕ) → nat_lt a b ≡ true → a < b
less a b e = grind (arith, nat_tests)

pub less-test : (a b : ℕ) → a < b → nat_lt a b ≡ true
less-test a b e = grind (arith, nat_tests)

all-before : (j : ℕ) (leaves : List (ℕ × Sort)) → list_all (λ leaf. nat_lt leaf.0 j) leaves ≡ true → All (λ leaf. leaf.0 < j) leaves
all-before j [] e = All-nil (λ leaf. leaf.0 < j)
all-before j (leaf ∷ leaves) e =
    let both = and_both (nat_lt leaf.0 j) (list_all (λ l. nat_lt l.0 j) leaves) e in
    All-cons (λ l. l.0 < j) leaf leaves (less leaf.0 j both.0) (all-before j leaves both.1)
  where
    and_both : (a b : Bool) → (a && b) ≡ true → (a ≡ true) × (b ≡ true)
    and_both true true e = (refl, refl)
    and_both true false e = absurd cc
    and_both false b e = absurd cc

before-all : (j : ℕ) (leaves : List (ℕ × Sort)) → All (λ leaf. leaf.0 < j) leaves → list_all (λ leaf. nat_lt leaf.0 j) leaves ≡ true
before-all j [] h = refl
before-all j (leaf ∷ leaves) h =
    rw (less-test leaf.0 j (All-head (λ l. l.0 < j) leaf leaves h), before-all j leaves (All-tail (λ l. l.0 < j) leaf leaves h)) refl

-- ---- lines of terms

pub term-line : (p : Problem) (l : Listed) (place node : ℕ) → first_fit (faults_of p l (Skolem place node)) ≡ None → IsTermLine p l place node
term-line p l place node e =
    let c = clear (faults_of p l (Skolem place node)) e in
    let found = there (node_numbered l node) (passes (is_node l node) c.0) in
    let same : tree_of_node l node ≡ found.0 = ap (λ (o : Option Tree). unwrap_or o (Literal BoolSort 0)) found.1 in
    let stands = is-sorted-there Existential (tree_of_node l node) (slice_get p.prefix place) (passes (is_place is_existential p place) c.1.0) (passes (has_sort_at p place (tree_of_node l node)) c.1.1.1.0) in
    record {
      term = found.0;
      node_is = found.1;
      place_is = subst (λ (t : Tree). IsSomeAnd (slice_get p.prefix place) (λ q. (q.quantifier ≡ Existential) × (tree_sort t ≡ Some q.sort))) same stands;
      first = absent (term_of l.terms place) c.1.1.0;
      before = subst (λ (t : Tree). All (λ leaf. leaf.0 < place) (free_levels t)) same (all-before place (free_levels (tree_of_node l node)) (passes (depends_before place (tree_of_node l node)) c.1.1.1.1.0));
    }

line-of-term : (p : Problem) (l : Listed) (place node : ℕ) → IsTermLine p l place node → first_fit (faults_of p l (Skolem place node)) ≡ None
line-of-term p l place node h =
    let same : h.term ≡ tree_of_node l node = sym (ap (λ (o : Option Tree). unwrap_or o (Literal BoolSort 0)) h.node_is) in
    let stands = sorted-there Existential h.term (slice_get p.prefix place) h.place_is in
    let known : is_node l node ≡ true = ap (λ (o : Option Tree). is_some o) h.node_is in
    let new : is_some (term_of l.terms place) ≡ false = ap (λ (o : Option Tree). is_some o) h.first in
    let sorted : has_sort_at p place (tree_of_node l node) ≡ true = subst (λ (t : Tree). has_sort_at p place t ≡ true) same stands.1 in
    let earlier : depends_before place (tree_of_node l node) ≡ true = subst (λ (t : Tree). depends_before place t ≡ true) same (before-all place (free_levels h.term) h.before) in
    cleared (faults_of p l (Skolem place node)) (
      not_from_true (is_node l node) known,
      (
        not_from_true (is_place is_existential p place) stands.0,
        (
          new,
          (
            not_from_true (has_sort_at p place (tree_of_node l node)) sorted,
            (not_from_true (depends_before place (tree_of_node l node)) earlier, tt),
          ),
        ),
      ),
    )

pub term-lines-have-no-fault : TermLinesHaveNoFault
term-lines-have-no-fault p l place node = (term-line p l place node, line-of-term p l place node)

-- ---- lines of expansion lists

-- a parent that is no leaf, with what is known of it
below : (p : Problem) (n : ℕ) (o : Option Grown) → (is_some o && not (option_map_or (λ g. length g.path) o 0 == n)) ≡ true → (g : Grown) × (o ≡ Some g)
below p n None e = absurd cc
below p n (Some g) e = (g, refl)

-- where a quantifier stands behind a path, the path is no leaf's
open-path : (q : Quantifier) (prefix : List Place) (n : ℕ) → quantifier_at q (slice_get prefix n) ≡ true → (n == length prefix) ≡ false
open-path q prefix n e = go (n == length prefix) refl
  where
    outside : (ps : List Place) (k : ℕ) → k ≡ length ps → slice_get ps k ≡ None
    outside [] k same = refl
    outside (place ∷ ps) zero same = absurd (omega arith)
    outside (place ∷ ps) (suc k) same = outside ps k (omega arith)

    go : (b : Bool) → (n == length prefix) ≡ b → (n == length prefix) ≡ false
    go false same = same
    go true same =
        let none : quantifier_at q (slice_get prefix n) ≡ false = ap (quantifier_at q) (outside prefix n (eqb-true n (length prefix) same)) in
        absurd cc

pub number-same : (a b : ℕ) → a ≡ b → (a == b) ≡ true
number-same a b e = grind (arith, nat_tests)

depth-is : (p : Problem) (l : Listed) (parent : ℕ) (g : Grown) → grown_line p l parent ≡ Some g → depth_of p l parent ≡ length g.path
depth-is p l parent g e = ap (λ (o : Option Grown). option_map_or (λ g. length g.path) o 0) e

is-parent : (q : Quantifier) (p : Problem) (l : Listed) (parent : ℕ) (g : Grown) → grown_line p l parent ≡ Some g
    → quantifier_at q (slice_get p.prefix (depth_of p l parent)) ≡ true → is_parent p l parent ≡ true
is-parent q p l parent g e stands =
    let known : is_some (grown_line p l parent) ≡ true = ap (λ (o : Option Grown). is_some o) e in
    let inner : (depth_of p l parent == length p.prefix) ≡ false = open-path q p.prefix (depth_of p l parent) stands in
    rw (known, inner) refl

pub instance-line : (p : Problem) (l : Listed) (line parent node : ℕ) → first_fit (faults_of p l (Instance line parent node)) ≡ None → IsInstanceLine p l line parent node
instance-line p l line parent node e =
    let c = clear (faults_of p l (Instance line parent node)) e in
    let found = there (node_numbered l node) (passes (is_node l node) c.1.0) in
    let above = below p (length p.prefix) (grown_line p l parent) (passes (is_parent p l parent) c.1.1.0) in
    let same : tree_of_node l node ≡ found.0 = ap (λ (o : Option Tree). unwrap_or o (Literal BoolSort 0)) found.1 in
    let depth : depth_of p l parent ≡ length above.0.path = depth-is p l parent above.0 above.1 in
    let stands = is-sorted-there Universal (tree_of_node l node) (slice_get p.prefix (depth_of p l parent)) (passes (is_place is_universal p (depth_of p l parent)) c.1.1.1.0) (passes (has_sort_at p (depth_of p l parent) (tree_of_node l node)) c.1.1.1.1.0) in
    let at_term = subst (λ (t : Tree). IsSomeAnd (slice_get p.prefix (depth_of p l parent)) (λ q. (q.quantifier ≡ Universal) × (tree_sort t ≡ Some q.sort))) same stands in
    record {
      term = found.0;
      above = above.0;
      next = eq-from_test line (suc (length l.lines)) (passes (line == suc (length l.lines)) c.0);
      node_is = found.1;
      parent_is = above.1;
      place_is = subst (λ (k : ℕ). IsSomeAnd (slice_get p.prefix k) (λ q. (q.quantifier ≡ Universal) × (tree_sort found.0 ≡ Some q.sort))) depth at_term;
    }

line-of-instance : (p : Problem) (l : Listed) (line parent node : ℕ) → IsInstanceLine p l line parent node → first_fit (faults_of p l (Instance line parent node)) ≡ None
line-of-instance p l line parent node h =
    let same : h.term ≡ tree_of_node l node = sym (ap (λ (o : Option Tree). unwrap_or o (Literal BoolSort 0)) h.node_is) in
    let depth : length h.above.path ≡ depth_of p l parent = sym (depth-is p l parent h.above h.parent_is) in
    let here = subst (λ (k : ℕ). IsSomeAnd (slice_get p.prefix k) (λ q. (q.quantifier ≡ Universal) × (tree_sort h.term ≡ Some q.sort))) depth h.place_is in
    let stands = sorted-there Universal h.term (slice_get p.prefix (depth_of p l parent)) here in
    let known : is_node l node ≡ true = ap (λ (o : Option Tree). is_some o) h.node_is in
    let sorted : has_sort_at p (depth_of p l parent) (tree_of_node l node) ≡ true = subst (λ (t : Tree). has_sort_at p (depth_of p l parent) t ≡ true) same stands.1 in
    cleared (faults_of p l (Instance line parent node)) (
      not_from_true (line == suc (length l.lines)) (number-same line (suc (length l.lines)) h.next),
      (
        not_from_true (is_node l node) known,
        (
          not_from_true (is_parent p l parent) (is-parent Universal p l parent h.above h.parent_is stands.0),
          (
            not_from_true (is_place is_universal p (depth_of p l parent)) stands.0,
            (not_from_true (has_sort_at p (depth_of p l parent) (tree_of_node l node)) sorted, tt),
          ),
        ),
      ),
    )

pub instance-lines-have-no-fault : InstanceLinesHaveNoFault
instance-lines-have-no-fault p l line parent node = (instance-line p l line parent node, line-of-instance p l line parent node)

pub eigen-line : (p : Problem) (l : Listed) (line parent : ℕ) → first_fit (faults_of p l (Eigen line parent)) ≡ None → IsEigenLine p l line parent
eigen-line p l line parent e =
    let c = clear (faults_of p l (Eigen line parent)) e in
    let above = below p (length p.prefix) (grown_line p l parent) (passes (is_parent p l parent) c.1.0) in
    let depth : depth_of p l parent ≡ length above.0.path = depth-is p l parent above.0 above.1 in
    let stands = is-quantified Existential (slice_get p.prefix (depth_of p l parent)) (passes (is_place is_existential p (depth_of p l parent)) c.1.1.0) in
    record {
      above = above.0;
      next = eq-from_test line (suc (length l.lines)) (passes (line == suc (length l.lines)) c.0);
      parent_is = above.1;
      place_is = subst (λ (k : ℕ). IsSomeAnd (slice_get p.prefix k) (λ q. q.quantifier ≡ Existential)) depth stands;
    }

line-of-eigen : (p : Problem) (l : Listed) (line parent : ℕ) → IsEigenLine p l line parent → first_fit (faults_of p l (Eigen line parent)) ≡ None
line-of-eigen p l line parent h =
    let depth : length h.above.path ≡ depth_of p l parent = sym (depth-is p l parent h.above h.parent_is) in
    let here = subst (λ (k : ℕ). IsSomeAnd (slice_get p.prefix k) (λ q. q.quantifier ≡ Existential)) depth h.place_is in
    let stands = quantified Existential (slice_get p.prefix (depth_of p l parent)) here in
    cleared (faults_of p l (Eigen line parent)) (
      not_from_true (line == suc (length l.lines)) (number-same line (suc (length l.lines)) h.next),
      (
        not_from_true (is_parent p l parent) (is-parent Existential p l parent h.above h.parent_is stands),
        (not_from_true (is_place is_existential p (depth_of p l parent)) stands, tt),
      ),
    )

pub eigen-lines-have-no-fault : EigenLinesHaveNoFault
eigen-lines-have-no-fault p l line parent = (eigen-line p l line parent, line-of-eigen p l line parent)
