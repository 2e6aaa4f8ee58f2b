use Rattle.qv_store.proofs.Replacement.{grows-more}
use Rattle.std.proofs.Common.{◌≡◌, ◌≤◌, ◌+◌, suc, length, ap, arith, rules}
use Rattle.qv_cert_nodes.specs.Lists.{depth_in}
use Rattle.qv_cert_nodes.proofs.Gathering.{listed-moved, expansion-moved, posed-stays, gather-start, gather-one, gather-none, same-test, other-test, gathered-as, gathered, gathered-free, gathered-below}
use Rattle.qv_cert_nodes.proofs.formulas.leaves_of.Goals as goal
use Rattle.qv_cert_nodes.proofs.formulas.leaves_of.Goals.{then-depth-len+in_ok-leaf+in_ok-push, else-depth-len}

pub lines-init : goal.lines-init
lines-init c = gather-start c.args.store.now c.args.problem.now c.args.listed.now c.new-leaves.result.items c.new-leaves.ensures.items

pub put_leaf-requires-clause-kept : goal.put_leaf-requires-clause-kept
put_leaf-requires-clause-kept c = listed-moved c.args.store.now c.lines.store c.args.problem.now c.args.listed.now c.lines.invariant.grows c.requires.posed c.requires.kept

pub put_leaf-requires-clause-posed : goal.put_leaf-requires-clause-posed
put_leaf-requires-clause-posed c = posed-stays c.args.store.now c.lines.store c.args.problem.now c.lines.invariant.grows c.requires.posed

pub put_leaf-requires-clause-lines : goal.put_leaf-requires-clause-lines
put_leaf-requires-clause-lines c = expansion-moved c.args.store.now c.lines.store c.args.problem.now c.args.listed.now c.lines.invariant.grows c.requires.posed c.requires.kept c.requires.lines

pub lines-preserved : goal.lines-preserved
lines-preserved c =
    let trees = c.args.store.now in
    let problem = c.args.problem.now in
    let a = c.args.listed.now in
    let many : length c.branches.result.now ≡ length a.branches.items = ap length c.branches.ensures in
    let places : c.len.result ≡ length problem.prefix.items = search rules in
    let within : c.lines.line ≤ length a.branches.items = omega (arith, many, c.lines-test.true) in
    let next : suc c.lines.line ≡ c.lines.line + 1 = omega arith in
    elim c.if-depth-len.branch [
      | then-depth-len+in_ok-leaf+in_ok-push w ↦
          let test = same-test c.depth.result c.len.result (depth_in a c.lines.line) (length problem.prefix.items) c.depth.ensures.kept places w.if-depth-len.true in
          gathered-as trees w.put_leaf.new.store c.if-depth-len.store problem a w.push.new.self.items c.if-depth-len.leaves.items c.lines.line (c.lines.line + 1) w.store-is (cc w.leaves-is) next
          (gather-one trees c.lines.store w.put_leaf.new.store problem a c.lines.leaves.items w.push.new.self.items c.lines.line w.in_ok-leaf.leaf c.requires.posed c.requires.kept within test w.put_leaf.ensures.grows w.in_ok-push.ensures.items w.in_ok-leaf.ensures.leaf c.lines.invariant)
      | else-depth-len w ↦
          let test = other-test c.depth.result c.len.result (depth_in a c.lines.line) (length problem.prefix.items) c.depth.ensures.kept places w.if-depth-len.false in
          gathered-as trees c.lines.store c.if-depth-len.store problem a c.lines.leaves.items c.if-depth-len.leaves.items c.lines.line (c.lines.line + 1) w.store-is (cc w.leaves-is) next
          (gather-none trees c.lines.store problem a c.lines.leaves.items c.lines.line c.requires.kept within test c.lines.invariant)
    ]

pub returns-clause-leaves : goal.returns-clause-leaves
returns-clause-leaves c =
    let many : length c.branches.result.now ≡ length c.args.listed.now.branches.items = ap length c.branches.ensures in
    gathered c.args.store.now c.lines.store c.args.problem.now c.args.listed.now c.lines.leaves.items c.lines.line (omega (arith, many, c.lines-test.false)) c.lines.invariant

pub returns-clause-below : goal.returns-clause-below
returns-clause-below c = gathered-below c.args.store.now c.lines.store c.args.problem.now c.args.listed.now c.lines.leaves.items c.lines.line c.lines.invariant

pub returns-clause-free : goal.returns-clause-free
returns-clause-free c =
    let many : length c.branches.result.now ≡ length c.args.listed.now.branches.items = ap length c.branches.ensures in
    gathered-free c.args.store.now c.lines.store c.args.problem.now c.args.listed.now c.lines.leaves.items c.lines.line (omega (arith, many, c.lines-test.false)) c.requires.posed c.requires.lines c.lines.invariant

pub returns-in_err-leaf-clause-grows : goal.returns-in_err-leaf-clause-grows
returns-in_err-leaf-clause-grows c = grows-more c.args.store.now c.lines.store c.put_leaf.new.store c.lines.invariant.grows c.put_leaf.ensures.grows

pub returns-in_err-push-clause-grows : goal.returns-in_err-push-clause-grows
returns-in_err-push-clause-grows c = grows-more c.args.store.now c.lines.store c.put_leaf.new.store c.lines.invariant.grows c.put_leaf.ensures.grows
