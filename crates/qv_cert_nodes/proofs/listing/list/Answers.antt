use Rattle.std.proofs.Common.{◌≡◌, ◌<◌, None, ℕ, List, length, subst, sym, ap, ◌∙◌, arith}
use Rattle.std.specs.Prelude.{OnOk, is_some}
use Rattle.std.specs.List.{list_all}
use Rattle.qv_words.specs.Tree.{Apply}
use Rattle.qv_store.specs.Problems.{problem_in}
use Rattle.qv_cert.specs.declared.line.Line.{Line}
use Rattle.qv_cert.specs.Line.{VariableNode, EigenNode, OperatorNode, Skolem, Instance, Eigen}
use Rattle.qv_cert.specs.LineView.{cert_line_of}
use Rattle.qv_cert.specs.Listed.{listing, trees_of_nodes, with_node, eigen_sort}
use Rattle.qv_cert.specs.Faults.{first_fit, faults_of, is_place, is_universal, is_existential, is_node, is_parent, depth_of, has_rank}
use Rattle.qv_cert.proofs.Pinned.{clear, passes}
use Rattle.qv_cert_nodes.specs.Lists.{listed_in, depth_in}
use Rattle.qv_cert_nodes.specs.Pushing.{Lists}
use Rattle.qv_cert_nodes.proofs.Clean.{place-there, eigen-line, nodes-of, node-of, parent-there, place-below, place-within}
use Rattle.qv_cert_nodes.proofs.listing.list.Goals as goal

pub list_variable-requires : goal.list_variable-requires
list_variable-requires c =
    let p = problem_in c.args.store.now c.args.problem.now in
    let l = listed_in c.args.store.now c.args.listed.now in
    let clean : first_fit (faults_of p l (VariableNode c.in-VarNode.node c.in-VarNode.place)) ≡ None =
    subst (λ (x : Line). first_fit (faults_of p l (cert_line_of x)) ≡ None) c.in-VarNode.is c.requires.clean in
    let f = clear (faults_of p l (VariableNode c.in-VarNode.node c.in-VarNode.place)) clean in
    place-there c.args.store.now c.args.problem.now is_universal c.in-VarNode.place c.requires.posed.problem (passes (is_place is_universal p c.in-VarNode.place) f.1.0)

pub list_eigen_node-requires : goal.list_eigen_node-requires
list_eigen_node-requires c =
    let p = problem_in c.args.store.now c.args.problem.now in
    let l = listed_in c.args.store.now c.args.listed.now in
    let clean : first_fit (faults_of p l (EigenNode c.in-EigenNode.node c.in-EigenNode.line)) ≡ None =
    subst (λ (x : Line). first_fit (faults_of p l (cert_line_of x)) ≡ None) c.in-EigenNode.is c.requires.clean in
    let f = clear (faults_of p l (EigenNode c.in-EigenNode.node c.in-EigenNode.line)) clean in
    eigen-line c.args.store.now p c.args.listed.now c.in-EigenNode.line c.requires.kept (passes (is_some (eigen_sort p l c.in-EigenNode.line)) f.1.0)

pub list_operator-requires-clause-there : goal.list_operator-requires-clause-there
list_operator-requires-clause-there c =
    let p = problem_in c.args.store.now c.args.problem.now in
    let l = listed_in c.args.store.now c.args.listed.now in
    let line = OperatorNode c.in-OpNode.node c.in-OpNode.op c.in-OpNode.kids.items in
    let clean : first_fit (faults_of p l line) ≡ None =
    subst (λ (x : Line). first_fit (faults_of p l (cert_line_of x)) ≡ None) c.in-OpNode.is c.requires.clean in
    let f = clear (faults_of p l line) clean in
    nodes-of c.args.store.now c.args.listed.now c.deref.result.now
    (ap (λ (ks : List ℕ). list_all (is_node l) ks) c.deref.ensures.value ∙ passes (list_all (is_node l) c.in-OpNode.kids.items) f.1.0)

pub list_operator-requires-clause-rank : goal.list_operator-requires-clause-rank
list_operator-requires-clause-rank c =
    let p = problem_in c.args.store.now c.args.problem.now in
    let l = listed_in c.args.store.now c.args.listed.now in
    let line = OperatorNode c.in-OpNode.node c.in-OpNode.op c.in-OpNode.kids.items in
    let clean : first_fit (faults_of p l line) ≡ None =
    subst (λ (x : Line). first_fit (faults_of p l (cert_line_of x)) ≡ None) c.in-OpNode.is c.requires.clean in
    let f = clear (faults_of p l line) clean in
    ap (λ (ks : List ℕ). has_rank (Apply c.in-OpNode.op (trees_of_nodes l ks))) c.deref.ensures.value
    ∙ passes (has_rank (Apply c.in-OpNode.op (trees_of_nodes l c.in-OpNode.kids.items))) f.1.1.0

pub list_term-requires-clause-node : goal.list_term-requires-clause-node
list_term-requires-clause-node c =
    let p = problem_in c.args.store.now c.args.problem.now in
    let l = listed_in c.args.store.now c.args.listed.now in
    let line = Skolem c.in-Skolem.place c.in-Skolem.node in
    let clean : first_fit (faults_of p l line) ≡ None =
    subst (λ (x : Line). first_fit (faults_of p l (cert_line_of x)) ≡ None) c.in-Skolem.is c.requires.clean in
    let f = clear (faults_of p l line) clean in
    node-of c.args.store.now c.args.listed.now c.in-Skolem.node (passes (is_node l c.in-Skolem.node) f.0)

pub list_term-requires-clause-place : goal.list_term-requires-clause-place
list_term-requires-clause-place c =
    let p = problem_in c.args.store.now c.args.problem.now in
    let l = listed_in c.args.store.now c.args.listed.now in
    let line = Skolem c.in-Skolem.place c.in-Skolem.node in
    let clean : first_fit (faults_of p l line) ≡ None =
    subst (λ (x : Line). first_fit (faults_of p l (cert_line_of x)) ≡ None) c.in-Skolem.is c.requires.clean in
    let f = clear (faults_of p l line) clean in
    let place = place-there c.args.store.now c.args.problem.now is_existential c.in-Skolem.place c.requires.posed.problem (passes (is_place is_existential p c.in-Skolem.place) f.1.0) in
    let within : c.in-Skolem.place < length c.args.problem.now.prefix.items = place-within c.args.problem.now c.in-Skolem.place place in
    omega (arith, within)

pub list_instance-requires-clause-node : goal.list_instance-requires-clause-node
list_instance-requires-clause-node c =
    let p = problem_in c.args.store.now c.args.problem.now in
    let l = listed_in c.args.store.now c.args.listed.now in
    let line = Instance c.in-Instance.line c.in-Instance.parent c.in-Instance.node in
    let clean : first_fit (faults_of p l line) ≡ None =
    subst (λ (x : Line). first_fit (faults_of p l (cert_line_of x)) ≡ None) c.in-Instance.is c.requires.clean in
    let f = clear (faults_of p l line) clean in
    node-of c.args.store.now c.args.listed.now c.in-Instance.node (passes (is_node l c.in-Instance.node) f.1.0)

pub list_instance-requires-clause-parent : goal.list_instance-requires-clause-parent
list_instance-requires-clause-parent c =
    let p = problem_in c.args.store.now c.args.problem.now in
    let l = listed_in c.args.store.now c.args.listed.now in
    let line = Instance c.in-Instance.line c.in-Instance.parent c.in-Instance.node in
    let clean : first_fit (faults_of p l line) ≡ None =
    subst (λ (x : Line). first_fit (faults_of p l (cert_line_of x)) ≡ None) c.in-Instance.is c.requires.clean in
    let f = clear (faults_of p l line) clean in
    parent-there c.args.store.now p c.args.listed.now c.in-Instance.parent (passes (is_parent p l c.in-Instance.parent) f.1.1.0)

pub list_instance-requires-clause-depth : goal.list_instance-requires-clause-depth
list_instance-requires-clause-depth c =
    let p = problem_in c.args.store.now c.args.problem.now in
    let l = listed_in c.args.store.now c.args.listed.now in
    let parent = c.in-Instance.parent in
    let line = Instance c.in-Instance.line parent c.in-Instance.node in
    let clean : first_fit (faults_of p l line) ≡ None =
    subst (λ (x : Line). first_fit (faults_of p l (cert_line_of x)) ≡ None) c.in-Instance.is c.requires.clean in
    let f = clear (faults_of p l line) clean in
    let place = place-below c.args.store.now c.args.problem.now c.args.listed.now is_universal parent c.requires.posed.problem c.requires.kept (passes (is_place is_universal p (depth_of p l parent)) f.1.1.1.0) in
    let within : depth_in c.args.listed.now parent < length c.args.problem.now.prefix.items = place-within c.args.problem.now (depth_in c.args.listed.now parent) place in
    omega (arith, within)

pub list_eigen-requires-clause-parent : goal.list_eigen-requires-clause-parent
list_eigen-requires-clause-parent c =
    let p = problem_in c.args.store.now c.args.problem.now in
    let l = listed_in c.args.store.now c.args.listed.now in
    let line = Eigen c.in-Eigen.line c.in-Eigen.parent in
    let clean : first_fit (faults_of p l line) ≡ None =
    subst (λ (x : Line). first_fit (faults_of p l (cert_line_of x)) ≡ None) c.in-Eigen.is c.requires.clean in
    let f = clear (faults_of p l line) clean in
    parent-there c.args.store.now p c.args.listed.now c.in-Eigen.parent (passes (is_parent p l c.in-Eigen.parent) f.1.0)

pub list_eigen-requires-clause-place : goal.list_eigen-requires-clause-place
list_eigen-requires-clause-place c =
    let p = problem_in c.args.store.now c.args.problem.now in
    let l = listed_in c.args.store.now c.args.listed.now in
    let parent = c.in-Eigen.parent in
    let line = Eigen c.in-Eigen.line parent in
    let clean : first_fit (faults_of p l line) ≡ None =
    subst (λ (x : Line). first_fit (faults_of p l (cert_line_of x)) ≡ None) c.in-Eigen.is c.requires.clean in
    let f = clear (faults_of p l line) clean in
    place-below c.args.store.now c.args.problem.now c.args.listed.now is_existential parent c.requires.posed.problem c.requires.kept (passes (is_place is_existential p (depth_of p l parent)) f.1.1.0)

pub returns-in-VarNode-clause-lists : goal.returns-in-VarNode-clause-lists
returns-in-VarNode-clause-lists c =
    let p = problem_in c.args.store.now c.args.problem.now in
    let l = listed_in c.args.store.now c.args.listed.now in
    subst (λ (x : Line). OnOk c.list_variable.result (Lists c.list_variable.new.store p c.list_variable.new.listed (listing p l (cert_line_of x)))) (sym c.in-VarNode.is)
    (c.list_variable.ensures.lists p c.requires.kept)

pub returns-in-EigenNode-clause-lists : goal.returns-in-EigenNode-clause-lists
returns-in-EigenNode-clause-lists c =
    let p = problem_in c.args.store.now c.args.problem.now in
    let l = listed_in c.args.store.now c.args.listed.now in
    subst (λ (x : Line). OnOk c.list_eigen_node.result (Lists c.args.store.now p c.list_eigen_node.new.listed (listing p l (cert_line_of x)))) (sym c.in-EigenNode.is)
    (c.list_eigen_node.ensures c.args.store.now p c.requires.kept)

pub returns-in-LitNode-clause-lists : goal.returns-in-LitNode-clause-lists
returns-in-LitNode-clause-lists c =
    let p = problem_in c.args.store.now c.args.problem.now in
    let l = listed_in c.args.store.now c.args.listed.now in
    subst (λ (x : Line). OnOk c.list_literal.result (Lists c.list_literal.new.store p c.list_literal.new.listed (listing p l (cert_line_of x)))) (sym c.in-LitNode.is)
    (c.list_literal.ensures.lists p c.requires.kept)

pub returns-in-OpNode-clause-lists : goal.returns-in-OpNode-clause-lists
returns-in-OpNode-clause-lists c =
    let p = problem_in c.args.store.now c.args.problem.now in
    let l = listed_in c.args.store.now c.args.listed.now in
    subst (λ (x : Line). OnOk c.list_operator.result (Lists c.list_operator.new.store p c.list_operator.new.listed (listing p l (cert_line_of x)))) (sym c.in-OpNode.is)
    (subst (λ (ks : List ℕ). OnOk c.list_operator.result (Lists c.list_operator.new.store p c.list_operator.new.listed (with_node (Apply c.in-OpNode.op (trees_of_nodes l ks)) l))) c.deref.ensures.value
    (c.list_operator.ensures.lists p c.requires.kept))

pub returns-in-Skolem-clause-lists : goal.returns-in-Skolem-clause-lists
returns-in-Skolem-clause-lists c =
    let p = problem_in c.args.store.now c.args.problem.now in
    let l = listed_in c.args.store.now c.args.listed.now in
    subst (λ (x : Line). OnOk c.list_term.result (Lists c.args.store.now p c.list_term.new.listed (listing p l (cert_line_of x)))) (sym c.in-Skolem.is)
    (c.list_term.ensures c.args.store.now p c.requires.kept)
