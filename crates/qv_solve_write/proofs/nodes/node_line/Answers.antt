use Rattle.std.proofs.Common.{◌≡◌, ℕ, Some, List, get_or, sym, ap, ◌∙◌, slice_get}
use Rattle.std.specs.Prelude.{slice_index}
use Rattle.std.proofs.lemmas.List.Elements.{All-from_recursion}
use Rattle.qv_words.specs.Tree.{Apply}
use Rattle.qv_words.specs.Word.{word_sort, word_value}
use Rattle.qv_store.specs.Nodes.{children, node_tree, tree_at, trees_at}
use Rattle.qv_cert.specs.Line.{IsNumber}
use Rattle.qv_cert.specs.LineView.{cert_line_of}
use Rattle.qv_cert_nodes.proofs.Kept.{found-there}
use Rattle.qv_solve_write.proofs.Lines.{kids-before, kids-there, level-low, literal-there, operator-there, small-each, tree-there, variable-there}
use Rattle.qv_solve_write.proofs.nodes.node_line.Goals as goal

pub number_of-node-requires-clause-has : goal.number_of-node-requires-clause-has
number_of-node-requires-clause-has c =
    let ids = c.args.walk.now in
    let is : c.index-ids-place.result ≡ get_or ids c.args.place c.index-ids-place.result = c.index-ids-place.is ∙ ap (λ (xs : List ℕ). get_or xs c.args.place c.index-ids-place.result) c.ids.ensures in
    (c.args.place, c.requires.place, sym is)

pub variable_line-requires-clause-node : goal.variable_line-requires-clause-node
variable_line-requires-clause-node c = c.number_of-node.ensures.numbered.small

pub variable_line-requires-clause-level : goal.variable_line-requires-clause-level
variable_line-requires-clause-level c =
    let trees = c.args.store.now in
    let ids = c.args.walk.now in
    let id = c.index-ids-place.result in
    let is : id ≡ get_or ids c.args.place id = c.index-ids-place.is ∙ ap (λ (xs : List ℕ). get_or xs c.args.place id) c.ids.ensures in
    let at : slice_get ids c.args.place ≡ Some id = found-there ids c.args.place id c.requires.place is in
    level-low c.in-Var.level c.in-Var.sort (tree_at trees (slice_index ids c.args.place))
    (sym (ap (node_tree trees) c.in-Var.is) ∙ c.node.ensures.tree ∙ tree-there trees ids c.requires.walk c.args.place id c.number_of-node.result at c.number_of-node.ensures.numbered) c.requires.range

pub returns-in-Var-clause-line : goal.returns-in-Var-clause-line
returns-in-Var-clause-line c =
    let trees = c.args.store.now in
    let ids = c.args.walk.now in
    let id = c.index-ids-place.result in
    let is : id ≡ get_or ids c.args.place id = c.index-ids-place.is ∙ ap (λ (xs : List ℕ). get_or xs c.args.place id) c.ids.ensures in
    let at : slice_get ids c.args.place ≡ Some id = found-there ids c.args.place id c.requires.place is in
    variable-there trees ids c.requires.walk c.args.place id c.number_of-node.result at c.number_of-node.ensures.numbered c.args.answer c.in-Var.level c.in-Var.sort (cert_line_of c.variable_line.result)
    (sym (ap (node_tree trees) c.in-Var.is) ∙ c.node.ensures.tree) c.variable_line.ensures.line

pub returns-in-Lit-clause-line : goal.returns-in-Lit-clause-line
returns-in-Lit-clause-line c =
    let trees = c.args.store.now in
    let ids = c.args.walk.now in
    let id = c.index-ids-place.result in
    let is : id ≡ get_or ids c.args.place id = c.index-ids-place.is ∙ ap (λ (xs : List ℕ). get_or xs c.args.place id) c.ids.ensures in
    let at : slice_get ids c.args.place ≡ Some id = found-there ids c.args.place id c.requires.place is in
    literal-there trees ids c.requires.walk c.args.place id c.number_of-node.result at c.number_of-node.ensures.numbered c.args.answer (word_sort c.in-Lit.word) (word_value c.in-Lit.word)
    (sym (ap (node_tree trees) c.in-Lit.is) ∙ c.node.ensures.tree)

pub returns-in-Lit-clause-form : goal.returns-in-Lit-clause-form
returns-in-Lit-clause-form c = (c.number_of-node.ensures.numbered.small, c.in-Lit.word.lawful, c.in-Lit.word.in_range)

pub numbers_of-requires-clause-has : goal.numbers_of-requires-clause-has
numbers_of-requires-clause-has c =
    let trees = c.args.store.now in
    let ids = c.args.walk.now in
    let id = c.index-ids-place.result in
    let is : id ≡ get_or ids c.args.place id = c.index-ids-place.is ∙ ap (λ (xs : List ℕ). get_or xs c.args.place id) c.ids.ensures in
    let at : slice_get ids c.args.place ≡ Some id = found-there ids c.args.place id c.requires.place is in
    let kids : children c.node.result.now ≡ c.as_slice.result.now = ap children c.in-App.is ∙ sym c.as_slice.ensures in
    kids-there ids c.args.place c.as_slice.result.now c.requires.place
    (kids-before trees ids c.args.place id c.node.result.now c.as_slice.result.now c.node.ensures.shared c.requires.walk at c.node.ensures.tree c.node.ensures.children kids)

pub operator_line-requires-clause-node : goal.operator_line-requires-clause-node
operator_line-requires-clause-node c = c.number_of-node.ensures.numbered.small

pub operator_line-requires-clause-kids : goal.operator_line-requires-clause-kids
operator_line-requires-clause-kids c =
    All-from_recursion IsNumber c.in_ok-kids-in-App.kids.items (small-each c.args.walk.now c.as_slice.result.now c.in_ok-kids-in-App.kids.items c.in_ok-kids-in-App.ensures)

pub returns-in_ok-kids-in-App-clause-line : goal.returns-in_ok-kids-in-App-clause-line
returns-in_ok-kids-in-App-clause-line c =
    let trees = c.args.store.now in
    let ids = c.args.walk.now in
    let id = c.index-ids-place.result in
    let is : id ≡ get_or ids c.args.place id = c.index-ids-place.is ∙ ap (λ (xs : List ℕ). get_or xs c.args.place id) c.ids.ensures in
    let at : slice_get ids c.args.place ≡ Some id = found-there ids c.args.place id c.requires.place is in
    let kids : children c.node.result.now ≡ c.as_slice.result.now = ap children c.in-App.is ∙ sym c.as_slice.ensures in
    let tree : Apply c.in-App.op (trees_at trees c.as_slice.result.now) ≡ tree_at trees id =
    ap (λ (ks : List ℕ). Apply c.in-App.op (trees_at trees ks)) c.as_slice.ensures ∙ sym (ap (node_tree trees) c.in-App.is) ∙ c.node.ensures.tree in
    operator-there trees ids c.requires.walk c.args.place id c.number_of-node.result at c.number_of-node.ensures.numbered c.args.answer c.in-App.op c.as_slice.result.now c.in_ok-kids-in-App.kids.items (cert_line_of c.operator_line.result)
    tree (kids-before trees ids c.args.place id c.node.result.now c.as_slice.result.now c.node.ensures.shared c.requires.walk at c.node.ensures.tree c.node.ensures.children kids) c.in_ok-kids-in-App.ensures c.operator_line.ensures.line
