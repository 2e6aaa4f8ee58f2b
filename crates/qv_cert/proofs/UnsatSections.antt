-- The expansion list that accepted lines list.
use Rattle.std.proofs.Common.{◌≡◌, ℕ, zero, suc, ◌<◌, Option, Some, None, List, [], ◌∷◌, ◌++◌, length, get_or, slice_get, unwrap_or, refl, ap, sym, subst, ◌∙◌, arith}
use Rattle.std.specs.Prelude.{is_some, IsSomeAnd, All, IsTrue}
use Rattle.std.specs.List.{list_all, AllByRecursion}
use Rattle.std.specs.Option.{option_and_then}
use Rattle.std.proofs.lemmas.Option.{slice_get_within, slice_get-get_or, get_or_from_slice_get}
use Rattle.std.proofs.lemmas.List.{get_or_append_left, length_push}
use Rattle.std.proofs.lemmas.List.Elements.{All-nil, All-push, All-weaker, All-from_recursion}
use Rattle.qv_words.specs.declared.sort.Sort.{Sort}
use Rattle.qv_words.specs.declared.sort.Sort.TheVariants.{Bool as BoolSort}
use Rattle.qv_words.specs.declared.op.Answer.TheVariants.{Unsat}
use Rattle.qv_words.specs.Sort.{IsLawful}
use Rattle.qv_words.specs.Tree.{Tree, Variable, Literal, Apply, tree_sort}
use Rattle.qv_words.specs.Sorted.{free_levels}
use Rattle.qv_words.specs.Problem.{Problem, Existential, Universal}
use Rattle.qv_words.specs.GameLaws.{IsProblem}
use Rattle.qv_words.specs.Skolem.{IsTermOf}
use Rattle.qv_words.specs.Expansion.{ExpansionLine, Grown, line_numbered, path_of, sort_at, grow, IsEarlierEigen, StandsAt, IsLine, IsExpansion}
use Rattle.qv_words.specs.Expansion.{Instance as InstanceOf, Eigen as EigenOf}
use Rattle.qv_cert.specs.Line.{CertLine, Header, Check, VariableNode, EigenNode, LiteralNode, OperatorNode, Skolem, Instance, Eigen, Rewrite, Lrat, Step, End}
use Rattle.qv_cert.specs.Listed.{Listed, nothing, tree_of_node, trees_of_nodes, eigen_sort, listing, listed_behind}
use Rattle.qv_cert.specs.Faults.{first_fit, faults_of, belongs, is_node, has_rank}
use Rattle.qv_cert.specs.FaultLaws.{IsInstanceLine, IsEigenLine}
use Rattle.qv_cert.specs.Shown.{HaveNoFault}
use Rattle.qv_cert.specs.SoFar.{IsNodeTree, IsLawfulEigen, IsUnsatSoFar}
use Rattle.qv_cert.proofs.Pinned.{clear, passes, there, instance-line, eigen-line}
use Rattle.qv_cert.proofs.Ranges.{HasValue}
use Rattle.qv_cert.proofs.SatSections.{nth, node-found, application-node, variable-node, sort-there, place-found, place-back}
use Rattle.qv_words.proofs.Shorter.{grown-longer as grown-more, lines-longer}

-- ---- one more line

-- a line stays where it was
stays : (grown : List Grown) (g : Grown) (n : ℕ) (x : Grown) → line_numbered grown n ≡ Some x → line_numbered (grown ++ g ∷ []) n ≡ Some x
stays grown g zero x e = e
stays grown g (suc n) x e =
    let within : n < length grown = slice_get_within grown n x e in
    let longer : n < length (grown ++ g ∷ []) = omega (arith, within, length_push grown g) in
    let value : get_or (grown ++ g ∷ []) n x ≡ x = get_or_append_left grown (g ∷ []) x n within ∙ get_or_from_slice_get grown n x x e in
    slice_get-get_or (grown ++ g ∷ []) n x longer ∙ ap Some value

grown-found : (P : Grown → Type 0) (o : Option Grown) → IsSomeAnd o P → (g : Grown) × (o ≡ Some g) × P g
grown-found P None h = absurd h
grown-found P (Some g) h = (g, refl, h)

grown-back : (P : Grown → Type 0) (o : Option Grown) (g : Grown) → o ≡ Some g → P g → IsSomeAnd o P
grown-back P o g e h = subst (λ (x : Option Grown). IsSomeAnd x P) (sym e) h

-- an eigenvariable of an earlier line stays one
eigen-stays : (grown : List Grown) (g : Grown) (leaf : ℕ × Sort) → IsEarlierEigen grown leaf → IsEarlierEigen (grown ++ g ∷ []) leaf
eigen-stays grown g leaf h =
    let found = grown-found (λ x. x.eigen ≡ Some leaf.1) (line_numbered grown leaf.0) h.1 in
    (h.0, grown-back (λ x. x.eigen ≡ Some leaf.1) (line_numbered (grown ++ g ∷ []) leaf.0) found.0 (stays grown g leaf.0 found.0 found.1) found.2)

all-stay : (grown : List Grown) (g : Grown) (leaves : List (ℕ × Sort)) → AllByRecursion (IsEarlierEigen grown) leaves → AllByRecursion (IsEarlierEigen (grown ++ g ∷ [])) leaves
all-stay grown g [] h = tt
all-stay grown g (leaf ∷ leaves) h = (eigen-stays grown g leaf h.0, all-stay grown g leaves h.1)

node-stays : (grown : List Grown) (g : Grown) (t : Tree) → IsNodeTree (IsEarlierEigen grown) t → IsNodeTree (IsEarlierEigen (grown ++ g ∷ [])) t
node-stays grown g t h = record { sorted = h.sorted; quantifier_free = h.quantifier_free; constant_free = h.constant_free; free = all-stay grown g (free_levels t) h.free }

-- ---- unsat sections

with-a-node : (p : Problem) (l : Listed) (grown : List Grown) (t : Tree) → IsUnsatSoFar p l grown → IsNodeTree (IsEarlierEigen grown) t
    → IsUnsatSoFar p (record { nodes = l.nodes ++ t ∷ []; terms = l.terms; lines = l.lines }) grown
with-a-node p l grown t h node = record { grown_is = h.grown_is; nodes = All-push (IsNodeTree (IsEarlierEigen grown)) l.nodes t h.nodes node; lines = h.lines; lawful = h.lawful }

with-a-line : (p : Problem) (l : Listed) (grown : List Grown) (line : ExpansionLine) → IsUnsatSoFar p l grown → IsLine p grown line → IsLawfulEigen (grow p grown line)
    → IsUnsatSoFar p (record { nodes = l.nodes; terms = l.terms; lines = l.lines ++ line ∷ [] }) (grown ++ grow p grown line ∷ [])
with-a-line p l grown line h may lawful = record {
  grown_is = grown-more p [] l.lines line ∙ ap (λ (gs : List Grown). gs ++ grow p gs line ∷ []) h.grown_is;
  nodes = All-weaker (IsNodeTree (IsEarlierEigen grown)) (IsNodeTree (IsEarlierEigen (grown ++ grow p grown line ∷ []))) (λ t k. node-stays grown (grow p grown line) t k) l.nodes h.nodes;
  lines = lines-longer p [] l.lines line h.lines (subst (λ (gs : List Grown). IsLine p gs line) (sym h.grown_is) may);
  lawful = All-push IsLawfulEigen grown (grow p grown line) h.lawful lawful;
}

-- the eigenvariable of a line that has one
eigen-there : (grown : List Grown) (n : ℕ) (s : Sort) → option_and_then (λ g. g.eigen) (line_numbered grown n) ≡ Some s → IsEarlierEigen grown (n, s)
eigen-there grown zero s e = absurd cc
eigen-there grown (suc n) s e = (omega arith, go (slice_get grown n) e)
  where
    go : (o : Option Grown) → option_and_then (λ g. g.eigen) o ≡ Some s → IsSomeAnd o (λ g. g.eigen ≡ Some s)
    go None is = absurd cc
    go (Some g) is = is

eigen-lawful : (grown : List Grown) (n : ℕ) (s : Sort) → All IsLawfulEigen grown → IsEarlierEigen grown (n, s) → IsLawful s
eigen-lawful grown zero s h e = absurd (omega (arith, e.0))
eigen-lawful grown (suc n) s h e =
    let found = grown-found (λ g. g.eigen ≡ Some s) (slice_get grown n) e.1 in
    nth IsLawfulEigen grown n found.0 h found.1 s found.2

-- a line that may come
instance-may : (p : Problem) (l : Listed) (grown : List Grown) (line parent node : ℕ) → IsUnsatSoFar p l grown → IsInstanceLine p l line parent node → IsLine p grown (InstanceOf parent (tree_of_node l node))
instance-may p l grown line parent node h facts =
    let own = node-found (IsEarlierEigen grown) l node facts.term h.nodes facts.node_is in
    let same : facts.term ≡ tree_of_node l node = sym (ap (λ (o : Option Tree). unwrap_or o (Literal BoolSort 0)) facts.node_is) in
    let above : line_numbered grown parent ≡ Some facts.above = ap (λ (gs : List Grown). line_numbered gs parent) (sym h.grown_is) ∙ facts.parent_is in
    let found = place-found (λ q. (q.quantifier ≡ Universal) × (tree_sort facts.term ≡ Some q.sort)) (slice_get p.prefix (length facts.above.path)) facts.place_is in
    let term : IsTermOf facts.term found.0.sort = record { sorted = own.sorted; sort = found.2.1; quantifier_free = own.quantifier_free; constant_free = own.constant_free } in
    let stands : StandsAt p Universal facts.above.path (IsTermOf facts.term) = place-back (λ q. (q.quantifier ≡ Universal) × IsTermOf facts.term q.sort) (slice_get p.prefix (length facts.above.path)) found.0 found.1 (found.2.0, term) in
    subst (λ (t : Tree). IsLine p grown (InstanceOf parent t)) same (
      grown-back (λ g. StandsAt p Universal g.path (IsTermOf facts.term)) (line_numbered grown parent) facts.above above stands,
      All-from_recursion (IsEarlierEigen grown) (free_levels facts.term) own.free,
    )

eigen-may : (p : Problem) (l : Listed) (grown : List Grown) (line parent : ℕ) → IsUnsatSoFar p l grown → IsEigenLine p l line parent → IsLine p grown (EigenOf parent)
eigen-may p l grown line parent h facts =
    let above : line_numbered grown parent ≡ Some facts.above = ap (λ (gs : List Grown). line_numbered gs parent) (sym h.grown_is) ∙ facts.parent_is in
    let found = place-found (λ q. q.quantifier ≡ Existential) (slice_get p.prefix (length facts.above.path)) facts.place_is in
    let stands : StandsAt p Existential facts.above.path (λ s. Unit {0}) = place-back (λ q. (q.quantifier ≡ Existential) × Unit {0}) (slice_get p.prefix (length facts.above.path)) found.0 found.1 (found.2, tt) in
    grown-back (λ g. StandsAt p Existential g.path (λ s. Unit {0})) (line_numbered grown parent) facts.above above stands

from-some : (x y : Sort) → Some x ≡ Some y → x ≡ y
from-some x y e = cc

-- the sort of its eigenvariable
eigen-grows : (p : Problem) (l : Listed) (grown : List Grown) (line parent : ℕ) → IsProblem p → IsUnsatSoFar p l grown → IsEigenLine p l line parent → IsLawfulEigen (grow p grown (EigenOf parent))
eigen-grows p l grown line parent problem h facts s e =
    let above : line_numbered grown parent ≡ Some facts.above = ap (λ (gs : List Grown). line_numbered gs parent) (sym h.grown_is) ∙ facts.parent_is in
    let path : path_of (line_numbered grown parent) ≡ facts.above.path = ap path_of above in
    let found = place-found (λ q. q.quantifier ≡ Existential) (slice_get p.prefix (length facts.above.path)) facts.place_is in
    let sort : sort_at p (length facts.above.path) ≡ found.0.sort = sort-there p (length facts.above.path) found.0 found.1 in
    let here : sort_at p (length (path_of (line_numbered grown parent))) ≡ s = from-some (sort_at p (length (path_of (line_numbered grown parent)))) s e in
    let same : found.0.sort ≡ s = sym (ap (λ (xs : List Tree). sort_at p (length xs)) path ∙ sort) ∙ here in
    subst IsLawful same (nth (λ q. IsLawful q.sort) p.prefix (length facts.above.path) found.0 problem.sorts found.1)

pub unsat-line : (p : Problem) (l : Listed) (grown : List Grown) (line : CertLine) → IsProblem p → IsUnsatSoFar p l grown → IsTrue (belongs Unsat line) → HasValue line → first_fit (faults_of p l line) ≡ None
    → (more : List Grown) × IsUnsatSoFar p (listing p l line) more
unsat-line p l grown (EigenNode node line) problem h belong value e =
    let c = clear (faults_of p l (EigenNode node line)) e in
    let found = there (eigen_sort p l line) (passes (is_some (eigen_sort p l line)) c.1.0) in
    let at_grown : option_and_then (λ g. g.eigen) (line_numbered grown line) ≡ Some found.0 = ap (λ (gs : List Grown). option_and_then (λ (g : Grown). g.eigen) (line_numbered gs line)) (sym h.grown_is) ∙ found.1 in
    let eigen = eigen-there grown line found.0 at_grown in
    let same : found.0 ≡ unwrap_or (eigen_sort p l line) BoolSort = sym (ap (λ (o : Option Sort). unwrap_or o BoolSort) found.1) in (
      grown,
      with-a-node p l grown (Variable line (unwrap_or (eigen_sort p l line) BoolSort)) h
          (subst (λ (s : Sort). IsNodeTree (IsEarlierEigen grown) (Variable line s)) same
          (variable-node (IsEarlierEigen grown) line found.0 (eigen-lawful grown line found.0 h.lawful eigen) eigen)),
    )
unsat-line p l grown (LiteralNode node s n) problem h belong value e =
    (grown, with-a-node p l grown (Literal s n) h (record { sorted = value; quantifier_free = tt; constant_free = refl; free = tt }))
unsat-line p l grown (OperatorNode node o children) problem h belong value e =
    let c = clear (faults_of p l (OperatorNode node o children)) e in (
      grown,
      with-a-node p l grown (Apply o (trees_of_nodes l children)) h
          (application-node (IsEarlierEigen grown) l o children h.nodes (passes (list_all (is_node l) children) c.1.0) (passes (has_rank (Apply o (trees_of_nodes l children))) c.1.1.0)),
    )
unsat-line p l grown (Instance line parent node) problem h belong value e =
    let facts = instance-line p l line parent node e in (
      grown ++ grow p grown (InstanceOf parent (tree_of_node l node)) ∷ [],
      with-a-line p l grown (InstanceOf parent (tree_of_node l node)) h (instance-may p l grown line parent node h facts) (λ s is. absurd cc),
    )
unsat-line p l grown (Eigen line parent) problem h belong value e =
    let facts = eigen-line p l line parent e in (
      grown ++ grow p grown (EigenOf parent) ∷ [],
      with-a-line p l grown (EigenOf parent) h (eigen-may p l grown line parent h facts) (eigen-grows p l grown line parent problem h facts),
    )
unsat-line p l grown (VariableNode node place) problem h belong value e = absurd cc
unsat-line p l grown (Skolem place node) problem h belong value e = absurd cc
unsat-line p l grown (Header version) problem h belong value e = (grown, h)
unsat-line p l grown (Check number answer) problem h belong value e = (grown, h)
unsat-line p l grown (Rewrite q) problem h belong value e = (grown, h)
unsat-line p l grown Lrat problem h belong value e = (grown, h)
unsat-line p l grown (Step line) problem h belong value e = (grown, h)
unsat-line p l grown End problem h belong value e = (grown, h)

unsat-lines : (p : Problem) (l : Listed) (grown : List Grown) (given : List CertLine) → IsProblem p → IsUnsatSoFar p l grown → AllByRecursion (λ line. IsTrue (belongs Unsat line)) given → AllByRecursion HasValue given
    → HaveNoFault p l given → IsExpansion p (listed_behind p l given).lines
unsat-lines p l grown [] problem h belong values clean = h.lines
unsat-lines p l grown (line ∷ given) problem h belong values clean =
    let next = unsat-line p l grown line problem h belong.0 values.0 clean.0 in
    unsat-lines p (listing p l line) next.0 given problem next.1 belong.1 values.1 clean.1

pub unsat-start : (p : Problem) → IsUnsatSoFar p nothing []
unsat-start p = record { grown_is = refl; nodes = All-nil (IsNodeTree (IsEarlierEigen [])); lines = tt; lawful = All-nil IsLawfulEigen }

pub unsat-section : (p : Problem) (given : List CertLine) → IsProblem p → AllByRecursion (λ line. IsTrue (belongs Unsat line)) given → AllByRecursion HasValue given → HaveNoFault p nothing given
    → IsExpansion p (listed_behind p nothing given).lines
unsat-section p given problem belong values clean = unsat-lines p nothing [] given problem (unsat-start p) belong values clean
