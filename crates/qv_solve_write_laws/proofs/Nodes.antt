-- The lines of a tree's nodes list them, and have no fault.
use Rattle.std.proofs.Common.{◌≡◌, ℕ, suc, ◌==◌, Bool, true, false, not, cond, ◌||◌, Option, Some, None, List, [], ◌∷◌, ◌++◌, length, drop, slice_get, refl, sym, ap, subst, ◌∙◌, append_assoc, arith}
use Rattle.std.specs.Prelude.{is_some, unwrap_or, IsSome}
use Rattle.std.specs.List.{AllByRecursion, list_all}
use Rattle.std.proofs.lemmas.Bool.{false≢true, or_right, and_from}
use Rattle.std.proofs.lemmas.List.{append-nil}
use Rattle.std.proofs.lemmas.List.Folds.{list_any-append}
use Rattle.qv_words.specs.declared.sort.Sort.{Sort}
use Rattle.qv_words.specs.declared.sort.Sort.TheVariants.{Bool as BoolSort}
use Rattle.qv_words.specs.declared.op.Op.{Op}
use Rattle.qv_words.specs.declared.op.Answer.{Answer}
use Rattle.qv_words.specs.Tree.{Tree, Trees, Constant, Variable, Literal, Apply, ForAll, Exists, Nil, Cons, IsQuantifierFree, AreQuantifierFree, tree_sort}
use Rattle.qv_words.specs.Equality.{tree_eq}
use Rattle.qv_words.specs.Sorted.{IsSorted, AreSortedBelow, constants_of, constants_of_all, free_levels, free_levels_of_all, no_levels}
use Rattle.qv_words.specs.Clauses.{is_among, with_nodes, with_nodes_of}
use Rattle.qv_words.specs.Problem.{Problem}
use Rattle.qv_words.specs.Skolem.{SkolemTerm}
use Rattle.qv_words.specs.Expansion.{ExpansionLine}
use Rattle.qv_words.proofs.Elements.{drop-front}
use Rattle.qv_words.proofs.Equals.{tree_eq-is, tree_eq-refl, test-refl}
use Rattle.qv_cert.specs.Line.{CertLine, LiteralNode, OperatorNode}
use Rattle.qv_cert.specs.Listed.{Listed, listed_behind, listing, trees_of_nodes}
use Rattle.qv_cert.specs.Faults.{belongs, faults_of, first_fit, has_rank, is_node}
use Rattle.qv_cert.specs.Shown.{HaveNoFault}
use Rattle.qv_cert.proofs.Pinned.{cleared}
use Rattle.qv_solve_write_laws.specs.Writing.{node_line, node_lines, number_of, numbers_of, place_of, tree_lines}

-- ---- where trees stand

abbrev pub Among : List Tree → Tree → Type 0
Among nodes t = is_among nodes t ≡ true

abbrev pub AmongAll : List Tree → Trees → Type 0
AmongAll nodes Nil = Unit {0}
AmongAll nodes (Cons t ts) = Among nodes t × AmongAll nodes ts

pub place-found : (us : List Tree) (t : Tree) → Among us t → slice_get us (place_of us t) ≡ Some t
place-found [] t h = absurd (false≢true h)
place-found (u ∷ us) t h = go (tree_eq t u) refl h (λ k. place-found us t k)
  where
    go : (b : Bool) → tree_eq t u ≡ b → (b || is_among us t) ≡ true → (Among us t → slice_get us (place_of us t) ≡ Some t) → slice_get (u ∷ us) (cond b 0 (suc (place_of us t))) ≡ Some t
    go true is k later = ap (λ (x : Tree). Some x) (sym (tree_eq-is t u is))
    go false is k later = later k

among-front : (us xs : List Tree) (t : Tree) → Among us t → Among (us ++ xs) t
among-front us xs t h = list_any-append (tree_eq t) us xs ∙ ap (λ b. b || is_among xs t) h

among-last : (us : List Tree) (t : Tree) → Among (us ++ t ∷ []) t
among-last [] t = ap (λ b. b || false) (tree_eq-refl t)
among-last (u ∷ us) t = or_right (tree_eq t u) (is_among (us ++ t ∷ []) t) (among-last us t)

-- ---- one node

-- what is listed beside nodes
pub record Setting : Type 0 where
  pub problem : Problem
  pub answer : Answer
  pub terms : List SkolemTerm
  pub lines : List ExpansionLine

abbrev pub at : Setting → List Tree → Listed
at c nodes = record { nodes = nodes; terms = c.terms; lines = c.lines }

pub record Fits (c : Setting) (nodes : List Tree) (t : Tree) : Type 0 where
  pub clean : first_fit (faults_of c.problem (at c nodes) (node_line c.answer nodes t)) ≡ None
  pub lists : listing c.problem (at c nodes) (node_line c.answer nodes t) ≡ at c (nodes ++ t ∷ [])
  pub stands : belongs c.answer (node_line c.answer nodes t) ≡ true

-- what the answer allows, and variables that fit
pub record Ready (c : Setting) (Good : ℕ × Sort → Type 0) : Type 0 where
  pub variables : (nodes : List Tree) (level : ℕ) (s : Sort) → Good (level, s) → Fits c nodes (Variable level s)
  pub literals : (node : ℕ) (s : Sort) (value : ℕ) → belongs c.answer (LiteralNode node s value) ≡ true
  pub operators : (node : ℕ) (o : Op) (children : List ℕ) → belongs c.answer (OperatorNode node o children) ≡ true

pub in-order : (n : ℕ) → not (suc n == suc n) ≡ false
in-order n = ap not (test-refl (suc n))

literal-fits : (c : Setting) (Good : ℕ × Sort → Type 0) (nodes : List Tree) (s : Sort) (value : ℕ) → Ready c Good → Fits c nodes (Literal s value)
literal-fits c Good nodes s value ready = record {
  clean = cleared (faults_of c.problem (at c nodes) (LiteralNode (suc (length nodes)) s value)) (in-order (length nodes), tt);
  lists = refl;
  stands = ready.literals (suc (length nodes)) s value;
}

are-nodes : (c : Setting) (nodes : List Tree) (ts : Trees) → AmongAll nodes ts → list_all (is_node (at c nodes)) (numbers_of nodes ts) ≡ true
are-nodes c nodes Nil h = refl
are-nodes c nodes (Cons t ts) h =
    and_from (is_node (at c nodes) (number_of nodes t)) (list_all (is_node (at c nodes)) (numbers_of nodes ts))
    (ap (λ (o : Option Tree). is_some o) (place-found nodes t h.0)) (are-nodes c nodes ts h.1)

trees-are : (c : Setting) (nodes : List Tree) (ts : Trees) → AmongAll nodes ts → trees_of_nodes (at c nodes) (numbers_of nodes ts) ≡ ts
trees-are c nodes Nil h = refl
trees-are c nodes (Cons t ts) h =
    ap (λ (o : Option Tree). Cons (unwrap_or o (Literal BoolSort 0)) (trees_of_nodes (at c nodes) (numbers_of nodes ts))) (place-found nodes t h.0)
    ∙ ap (Cons t) (trees-are c nodes ts h.1)

some-sort : (o : Option Sort) → IsSome o → is_some o ≡ true
some-sort o h = h

operator-fits : (c : Setting) (Good : ℕ × Sort → Type 0) (nodes : List Tree) (o : Op) (ts : Trees) → Ready c Good → AmongAll nodes ts → IsSome (tree_sort (Apply o ts)) → Fits c nodes (Apply o ts)
operator-fits c Good nodes o ts ready h sorted =
    let are : trees_of_nodes (at c nodes) (numbers_of nodes ts) ≡ ts = trees-are c nodes ts h in
    record {
      clean = cleared (faults_of c.problem (at c nodes) (OperatorNode (suc (length nodes)) o (numbers_of nodes ts))) (
        in-order (length nodes),
        (ap not (are-nodes c nodes ts h), (ap (λ (us : Trees). not (has_rank (Apply o us))) are ∙ ap not (some-sort (tree_sort (Apply o ts)) sorted), tt)),
      );
      lists = ap (λ (us : Trees). at c (nodes ++ Apply o us ∷ [])) are;
      stands = ready.operators (suc (length nodes)) o (numbers_of nodes ts);
    }

-- ---- all new nodes of a tree

abbrev pub FitEach : Setting → List Tree → List Tree → Type 0
FitEach c nodes [] = Unit {0}
FitEach c nodes (t ∷ ts) = Fits c nodes t × FitEach c (nodes ++ t ∷ []) ts

each-append : (c : Setting) (seen xs ys : List Tree) → FitEach c seen xs → FitEach c (seen ++ xs) ys → FitEach c seen (xs ++ ys)
each-append c seen [] ys f g = subst (λ (s : List Tree). FitEach c s ys) (append-nil seen) g
each-append c seen (x ∷ xs) ys f g = (f.0, each-append c (seen ++ x ∷ []) xs ys f.1 (subst (λ (s : List Tree). FitEach c s ys) (sym (append_assoc seen (x ∷ []) xs)) g))

abbrev New : Setting → List Tree → List Tree → Type 0
New c seen found = (rest : List Tree) × (found ≡ seen ++ rest) × FitEach c seen rest

nothing-new : (c : Setting) (seen : List Tree) → New c seen seen
nothing-new c seen = ([], sym (append-nil seen), tt)

one-new : (c : Setting) (seen found : List Tree) (t : Tree) → New c seen found → Fits c found t → New c seen (cond (is_among seen t) seen (found ++ t ∷ [])) × Among (cond (is_among seen t) seen (found ++ t ∷ [])) t
one-new c seen found t new fits = go (is_among seen t) refl
  where
    go : (b : Bool) → is_among seen t ≡ b → New c seen (cond b seen (found ++ t ∷ [])) × Among (cond b seen (found ++ t ∷ [])) t
    go true is = (nothing-new c seen, is)
    go false is = (
      (
        new.0 ++ t ∷ [],
        ap (λ (us : List Tree). us ++ t ∷ []) new.1 ∙ append_assoc seen new.0 (t ∷ []),
        each-append c seen new.0 (t ∷ []) new.2 (subst (λ (us : List Tree). Fits c us t) new.1 fits, tt),
      ),
      among-last found t,
    )

-- a tree that can be written
pub record Plain (Good : ℕ × Sort → Type 0) (t : Tree) : Type 0 where
  pub sorted : IsSorted t
  pub free : IsQuantifierFree t
  pub constant_free : constants_of t ≡ []
  pub leaves : AllByRecursion Good (free_levels t)

record PlainAll (Good : ℕ × Sort → Type 0) (ts : Trees) : Type 0 where
  sorted : AreSortedBelow no_levels ts
  free : AreQuantifierFree ts
  constant_free : constants_of_all ts ≡ []
  leaves : AllByRecursion Good (free_levels_of_all ts)

both-empty : (xs ys : List (ℕ × Sort)) → xs ++ ys ≡ [] → (xs ≡ []) × (ys ≡ [])
both-empty [] ys h = (refl, h)
both-empty (x ∷ xs) ys h = absurd cc

both-good : (Good : ℕ × Sort → Type 0) (xs ys : List (ℕ × Sort)) → AllByRecursion Good (xs ++ ys) → AllByRecursion Good xs × AllByRecursion Good ys
both-good Good [] ys h = (tt, h)
both-good Good (x ∷ xs) ys h = let rest = both-good Good xs ys h.1 in ((h.0, rest.0), rest.1)

module _ (c : Setting) (Good : ℕ × Sort → Type 0) (ready : Ready c Good) where
  mutual
    tree-new : (seen : List Tree) (t : Tree) → Plain Good t → New c seen (with_nodes seen t) × Among (with_nodes seen t) t
    tree-new seen (Constant i s) h = absurd (let none : (i, s) ∷ [] ≡ [] = h.constant_free in cc)
    tree-new seen (Variable l s) h = one-new c seen seen (Variable l s) (nothing-new c seen) (ready.variables seen l s h.leaves.0)
    tree-new seen (Literal s n) h = one-new c seen seen (Literal s n) (nothing-new c seen) (literal-fits c Good seen s n ready)
    tree-new seen (Apply o ts) h =
        let each = each-new seen ts (record { sorted = h.sorted.0; free = h.free; constant_free = h.constant_free; leaves = h.leaves }) in
        one-new c seen (with_nodes_of seen ts) (Apply o ts) each.0 (operator-fits c Good (with_nodes_of seen ts) o ts ready each.1 h.sorted.1)
    tree-new seen (ForAll l s t) h = absurd h.free
    tree-new seen (Exists l s t) h = absurd h.free

    each-new : (seen : List Tree) (ts : Trees) → PlainAll Good ts → New c seen (with_nodes_of seen ts) × AmongAll (with_nodes_of seen ts) ts
    each-new seen Nil h = (nothing-new c seen, tt)
    each-new seen (Cons t ts) h =
        let none = both-empty (constants_of t) (constants_of_all ts) h.constant_free in
        let leaves = both-good Good (free_levels t) (free_levels_of_all ts) h.leaves in
        let first = tree-new seen t (record { sorted = h.sorted.0; free = h.free.0; constant_free = none.0; leaves = leaves.0 }) in
        let others = each-new (with_nodes seen t) ts (record { sorted = h.sorted.1; free = h.free.1; constant_free = none.1; leaves = leaves.1 }) in
        let news = first.0 in
        let more = others.0 in (
          (
            news.0 ++ more.0,
            more.1 ∙ ap (λ (us : List Tree). us ++ more.0) news.1 ∙ append_assoc seen news.0 more.0,
            each-append c seen news.0 more.0 news.2 (subst (λ (us : List Tree). FitEach c us more.0) news.1 more.2),
          ),
          (subst (λ (us : List Tree). Among us t) (sym more.1) (among-front (with_nodes seen t) more.0 t first.1), others.1),
        )

-- ---- their lines

-- lines without fault that lead from one list to another
pub record Leads (p : Problem) (answer : Answer) (l : Listed) (lines : List CertLine) (m : Listed) : Type 0 where
  pub clean : HaveNoFault p l lines
  pub lists : listed_behind p l lines ≡ m
  pub stand : AllByRecursion (λ line. belongs answer line ≡ true) lines

pub leads-append : (p : Problem) (answer : Answer) (l m n : Listed) (xs ys : List CertLine) → Leads p answer l xs m → Leads p answer m ys n → Leads p answer l (xs ++ ys) n
leads-append p answer l m n [] ys f g = subst (λ (k : Listed). Leads p answer k ys n) (sym f.lists) g
leads-append p answer l m n (x ∷ xs) ys f g =
    let rest = leads-append p answer (listing p l x) m n xs ys (record { clean = f.clean.1; lists = f.lists; stand = f.stand.1 }) g in
    record { clean = (f.clean.0, rest.clean); lists = rest.lists; stand = (f.stand.0, rest.stand) }

-- one line
pub leads-by : (p : Problem) (answer : Answer) (l m n : Listed) (x : CertLine) (xs : List CertLine) → first_fit (faults_of p l x) ≡ None → listing p l x ≡ m → belongs answer x ≡ true → Leads p answer m xs n → Leads p answer l (x ∷ xs) n
leads-by p answer l m n x xs clean lists stands g =
    let own = subst (λ (k : Listed). Leads p answer k xs n) (sym lists) g in
    record { clean = (clean, own.clean); lists = own.lists; stand = (stands, own.stand) }

nodes-lead : (c : Setting) (nodes ts : List Tree) → FitEach c nodes ts → Leads c.problem c.answer (at c nodes) (node_lines c.answer nodes ts) (at c (nodes ++ ts))
nodes-lead c nodes [] h = record { clean = tt; lists = ap (at c) (sym (append-nil nodes)); stand = tt }
nodes-lead c nodes (t ∷ ts) h =
    let rest = nodes-lead c (nodes ++ t ∷ []) ts h.1 in
    leads-by c.problem c.answer (at c nodes) (at c (nodes ++ t ∷ [])) (at c (nodes ++ t ∷ ts)) (node_line c.answer nodes t) (node_lines c.answer (nodes ++ t ∷ []) ts) h.0.clean h.0.lists h.0.stands
    (subst (λ (us : List Tree). Leads c.problem c.answer (at c (nodes ++ t ∷ [])) (node_lines c.answer (nodes ++ t ∷ []) ts) (at c us)) (append_assoc nodes (t ∷ []) ts) rest)

pub tree-leads : (c : Setting) (Good : ℕ × Sort → Type 0) → Ready c Good → (nodes : List Tree) (t : Tree) → Plain Good t → Leads c.problem c.answer (at c nodes) (tree_lines c.answer nodes t) (at c (with_nodes nodes t)) × Among (with_nodes nodes t) t
tree-leads c Good ready nodes t h =
    let new = tree-new c Good ready nodes t h in
    let found = new.0 in
    let dropped : drop (length nodes) (with_nodes nodes t) ≡ found.0 = ap (drop (length nodes)) found.1 ∙ drop-front nodes found.0 0 (length nodes) (omega arith) in
    let led = nodes-lead c nodes found.0 found.2 in (
      subst (λ (us : List Tree). Leads c.problem c.answer (at c nodes) (node_lines c.answer nodes us) (at c (with_nodes nodes t))) (sym dropped)
          (subst (λ (us : List Tree). Leads c.problem c.answer (at c nodes) (node_lines c.answer nodes found.0) (at c us)) (sym found.1) led),
      new.1,
    )
