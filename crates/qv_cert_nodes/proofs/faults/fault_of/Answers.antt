use Rattle.std.proofs.Common.{ℕ, List, ◌∙◌, ap, sym}
use Rattle.qv_words.specs.Word.{word_sort, word_value}
use Rattle.qv_store.specs.Problems.{problem_in}
use Rattle.qv_cert.specs.declared.line.Line.{Line}
use Rattle.qv_cert.specs.Line.{OperatorNode}
use Rattle.qv_cert.specs.LineView.{cert_line_of}
use Rattle.qv_cert.specs.Faults.{first_fit, faults_of}
use Rattle.qv_cert_nodes.specs.Lists.{listed_in}
use Rattle.qv_cert_nodes.proofs.faults.fault_of.Goals as goal

pub returns-in-LitNode : goal.returns-in-LitNode
returns-in-LitNode c =
    let p = problem_in c.args.store.now c.args.problem.now in
    let l = listed_in c.args.store.now c.args.listed.now in
    c.literal_fault.ensures c.args.store.now p (word_sort c.in-LitNode.word) (word_value c.in-LitNode.word)
    ∙ ap (λ (x : Line). first_fit (faults_of p l (cert_line_of x))) (sym c.in-LitNode.is)

pub returns-in-OpNode : goal.returns-in-OpNode
returns-in-OpNode c =
    let p = problem_in c.args.store.now c.args.problem.now in
    let l = listed_in c.args.store.now c.args.listed.now in
    c.operator_fault.ensures p
    ∙ ap (λ (ks : List ℕ). first_fit (faults_of p l (OperatorNode c.in-OpNode.node c.in-OpNode.op ks))) c.deref.ensures.value
    ∙ ap (λ (x : Line). first_fit (faults_of p l (cert_line_of x))) (sym c.in-OpNode.is)
