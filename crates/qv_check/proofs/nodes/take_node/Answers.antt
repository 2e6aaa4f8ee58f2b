use Rattle.std.proofs.Common.{◌≡◌, true, false, Some, None, refl}
use Rattle.qv_store.specs.Problems.{problem_in}
use Rattle.qv_cert.specs.LineView.{cert_line_of}
use Rattle.qv_cert.specs.Faults.{first_fit, faults_of, belongs}
use Rattle.qv_cert_nodes.specs.Lists.{listed_in}
use Rattle.qv_check.proofs.ListedLines.{node_out, node_faulty, node_listed, far_on, kept_on}
use Rattle.qv_check.proofs.nodes.take_node.Goals as goal

pub returns-then-not-belongs-clause-given : goal.returns-then-not-belongs-clause-given
returns-then-not-belongs-clause-given c task e =
    let out : belongs c.args.answer (cert_line_of c.args.next.now.line) ≡ false = cc in
    (refl, node_out task c.args.answer (listed_in c.args.store.now c.args.listed.now) (cert_line_of c.args.next.now.line) c.requires.node out)

pub returns-in-Some-clause-given : goal.returns-in-Some-clause-given
returns-in-Some-clause-given c task e =
    let p = problem_in c.args.store.now c.args.problem.now in
    let l = listed_in c.args.store.now c.args.listed.now in
    let belong : belongs c.args.answer (cert_line_of c.args.next.now.line) ≡ true = cc in
    let fits : first_fit (faults_of p l (cert_line_of c.args.next.now.line)) ≡ Some c.in-Some.kind = cc in
    (refl, node_faulty task p c.args.answer l (cert_line_of c.args.next.now.line) c.in-Some.kind e c.requires.node belong fits)

pub returns-in-Ok-clause-given : goal.returns-in-Ok-clause-given
returns-in-Ok-clause-given c task e =
    let p = problem_in c.args.store.now c.args.problem.now in
    let l = listed_in c.args.store.now c.args.listed.now in
    let belong : belongs c.args.answer (cert_line_of c.args.next.now.line) ≡ true = cc in
    let clean : first_fit (faults_of p l (cert_line_of c.args.next.now.line)) ≡ None = cc in
    node_listed task p c.args.answer l (listed_in c.list.new.store c.list.new.listed) (cert_line_of c.args.next.now.line) e c.requires.node belong clean c.in-Ok.ensures.lists.listed

pub returns-in-Ok-clause-kept : goal.returns-in-Ok-clause-kept
returns-in-Ok-clause-kept c =
    let p = problem_in c.args.store.now c.args.problem.now in
    kept_on c.args.store.now c.list.new.store c.args.problem.now c.list.new.listed _ c.in-Ok.ensures.grows c.requires.posed c.in-Ok.ensures.lists

pub returns-in-Ok-clause-far : goal.returns-in-Ok-clause-far
returns-in-Ok-clause-far c =
    let p = problem_in c.args.store.now c.args.problem.now in
    let l = listed_in c.args.store.now c.args.listed.now in
    let belong : belongs c.args.answer (cert_line_of c.args.next.now.line) ≡ true = cc in
    let clean : first_fit (faults_of p l (cert_line_of c.args.next.now.line)) ≡ None = cc in
    far_on c.args.store.now c.list.new.store c.args.problem.now c.args.answer c.args.listed.now c.list.new.listed (cert_line_of c.args.next.now.line) c.in-Ok.ensures.grows c.requires.posed c.requires.far c.requires.read
    belong clean c.in-Ok.ensures.lists
