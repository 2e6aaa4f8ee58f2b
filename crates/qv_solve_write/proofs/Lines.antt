-- The line of a walk's node.
use Rattle.std.proofs.Common.{◌≡◌, ℕ, suc, ◌<◌, Some, List, [], ◌∷◌, length, take, slice_get, sym, ap, subst, ◌∙◌, arith}
use Rattle.std.specs.Prelude.{All, Contains, slice_index}
use Rattle.std.specs.List.{AllByRecursion, AllZip}
use Rattle.std.proofs.lemmas.List.{length-map}
use Rattle.std.proofs.lemmas.List.Elements.{All-from_recursion}
use Rattle.std.proofs.lemmas.Option.{get_or_from_slice_get, slice_get_within}
use Rattle.qv_words.specs.declared.op.Answer.{Answer}
use Rattle.qv_words.specs.declared.op.Op.{Op}
use Rattle.qv_words.specs.declared.sort.Sort.{Sort}
use Rattle.qv_words.specs.Tree.{Tree, Variable, Literal, Apply}
use Rattle.qv_words.proofs.Elements.{all-weaker, get-map, take-length}
use Rattle.qv_store.specs.declared.node.Node.{Node}
use Rattle.qv_store.specs.Nodes.{children, node_tree, tree_at, trees_at, HasChildrenBelow}
use Rattle.qv_store.specs.Stores.{AreShared}
use Rattle.qv_store.specs.Walks.{IsEarlier, IsWalk, named}
use Rattle.qv_store.proofs.Passes.{earlier-contains, earlier-in, walk-kids}
use Rattle.qv_cert.specs.Line.{CertLine, LiteralNode, OperatorNode, IsNumber}
use Rattle.qv_solve_write_laws.specs.Writing.{node_line, variable_line}
use Rattle.qv_solve_write.specs.Places.{IsNumbered}
use Rattle.qv_solve_write.specs.Ranges.{IsInRange}
use Rattle.qv_solve_write.proofs.Standing.{numbered-before, stands-once}

pub small-each : (ids kids numbers : List ℕ) → AllZip (IsNumbered ids) kids numbers → AllByRecursion IsNumber numbers
small-each ids [] [] h = tt
small-each ids [] (n ∷ ns) h = absurd h
small-each ids (k ∷ ks) [] h = absurd h
small-each ids (k ∷ ks) (n ∷ ns) h = (h.0.small, small-each ids ks ns h.1)

pub level-low : (level : ℕ) (s : Sort) (t : Tree) → Variable level s ≡ t → IsInRange t → IsNumber level
level-low level s t e h =
    let own : IsInRange (Variable level s) = subst IsInRange (sym e) h in
    own.levels 0 (level, s) (omega arith)

module _ (trees : List Tree) (ids : List ℕ) (walk : IsWalk trees ids) (place id number : ℕ) (at : slice_get ids place ≡ Some id) (own : IsNumbered ids id number) where
  number-there : number ≡ suc (length (take place (named trees ids)))
  number-there =
      let t = tree_at trees id in
      let same : own.place ≡ place = stands-once trees ids walk own.place place t (get-map (tree_at trees) ids own.place id own.at) (get-map (tree_at trees) ids place id at) in
      let within = slice_get_within ids place id at in
      let long : length (take place (named trees ids)) ≡ place = take-length (named trees ids) place (omega (arith, within, length-map ids (tree_at trees))) in
      omega (arith, own.number_is, same, long)

  pub tree-there : tree_at trees id ≡ tree_at trees (slice_index ids place)
  tree-there = ap (tree_at trees) (sym (get_or_from_slice_get ids place id 0 at))

  pub variable-there : (answer : Answer) (level : ℕ) (s : Sort) (line : CertLine) → Variable level s ≡ tree_at trees id → line ≡ variable_line answer number level →
      line ≡ node_line answer (take place (named trees ids)) (tree_at trees (slice_index ids place))
  variable-there answer level s line v e =
      e ∙ ap (λ n. variable_line answer n level) number-there ∙ ap (node_line answer (take place (named trees ids))) (v ∙ tree-there)

  pub literal-there : (answer : Answer) (s : Sort) (value : ℕ) → Literal s value ≡ tree_at trees id →
      LiteralNode number s value ≡ node_line answer (take place (named trees ids)) (tree_at trees (slice_index ids place))
  literal-there answer s value v =
      ap (λ n. LiteralNode n s value) number-there ∙ ap (node_line answer (take place (named trees ids))) (v ∙ tree-there)

  pub operator-there : (answer : Answer) (o : Op) (kids numbers : List ℕ) (line : CertLine) → Apply o (trees_at trees kids) ≡ tree_at trees id → AllByRecursion (IsEarlier ids place) kids → AllZip (IsNumbered ids) kids numbers →
      line ≡ OperatorNode number o numbers → line ≡ node_line answer (take place (named trees ids)) (tree_at trees (slice_index ids place))
  operator-there answer o kids numbers line v earlier each e =
      e ∙ ap (λ n. OperatorNode n o numbers) number-there
      ∙ ap (OperatorNode (suc (length (take place (named trees ids)))) o) (numbered-before trees ids walk place kids numbers earlier each)
      ∙ ap (node_line answer (take place (named trees ids))) (v ∙ tree-there)

-- the children of a walk's node
pub kids-before : (trees : List Tree) (ids : List ℕ) (place id : ℕ) (node : Node) (kids : List ℕ) → AreShared trees → IsWalk trees ids → slice_get ids place ≡ Some id → node_tree trees node ≡ tree_at trees id → HasChildrenBelow id node →
    children node ≡ kids → AllByRecursion (IsEarlier ids place) kids
kids-before trees ids place id node kids shared walk at tree below e =
    subst (AllByRecursion (IsEarlier ids place)) e (walk-kids trees ids shared walk place id node at tree below)

pub kids-there : (ids : List ℕ) (place : ℕ) (kids : List ℕ) → place < length ids → AllByRecursion (IsEarlier ids place) kids → All (Contains ids) kids
kids-there ids place kids h earlier =
    All-from_recursion (Contains ids) kids (all-weaker (IsEarlier ids place) (Contains ids) kids (λ kid k. earlier-contains ids kid (earlier-in ids place (length ids) kid (omega (arith, h)) k)) earlier)
