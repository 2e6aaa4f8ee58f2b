use Rattle.std.proofs.Common.{◌≡◌, ℕ, ◌+◌, ◌<◌, ◌≤◌, ◌++◌, List, Contains, length, get_or, take, refl, sym, ap, subst, ◌∙◌, arith}
use Rattle.std.specs.List.{AllByRecursion}
use Rattle.qv_store.specs.Nodes.{tree_at}
use Rattle.qv_store.specs.Walks.{IsWalk, named}
use Rattle.qv_cert.specs.Line.{CertLine}
use Rattle.qv_cert.specs.LineView.{cert_line_of}
use Rattle.qv_solve_write_laws.specs.Writing.{node_line}
use Rattle.qv_solve_write.specs.Ranges.{IsInRange}
use Rattle.qv_solve_write.specs.Writers.{lines_of}
use Rattle.qv_solve_write.proofs.Behind.{new-lines}
use Rattle.qv_solve_write.proofs.Ranged.{ranged-at, walk-ranged}
use Rattle.qv_solve_write.proofs.Written.{noding-end, noding-next}
use Rattle.qv_solve_write.proofs.writer.Writer.write_nodes.Goals as goal

pub nodes-init : goal.nodes-init
nodes-init c = (refl, record { lines_are = refl; form = c.requires.writing.form })

pub node_line-requires-clause-walk : goal.node_line-requires-clause-walk
node_line-requires-clause-walk c = subst (IsWalk c.args.store.now) (sym c.nodes.invariant.0) c.visit.ensures.walk

pub node_line-requires-clause-place : goal.node_line-requires-clause-place
node_line-requires-clause-place c =
    let same : length c.nodes.self.walk ≡ length c.visit.new.self = ap length c.nodes.invariant.0 in
    let within : c.nodes.place < length c.nodes.self.walk = omega (arith, same, c.nodes-test.true, c.len-place-end.ensures) in
    within

pub node_line-requires-clause-range : goal.node_line-requires-clause-range
node_line-requires-clause-range c =
    let trees = c.args.store.now in
    let ids = c.visit.new.self in
    let all = walk-ranged trees c.args.self.now.walk ids (tree_at trees c.args.id) c.requires.writing.nodes c.requires.range c.in_ok-visit.ensures.order in
    let within : c.nodes.place < length ids = omega (arith, c.nodes-test.true, c.len-place-end.ensures) in
    subst (λ (ns : List ℕ). IsInRange (tree_at trees (get_or ns c.nodes.place 0))) (sym c.nodes.invariant.0) (ranged-at trees ids c.nodes.place all within)

pub nodes-preserved : goal.nodes-preserved
nodes-preserved c =
    let trees = c.args.store.now in
    let ids = c.visit.new.self in
    let all = named trees ids in
    let line = c.in_ok-line.line in
    let within : c.nodes.place < length ids = omega (arith, c.nodes-test.true, c.len-place-end.ensures) in
    let is : cert_line_of line ≡ node_line c.args.answer (take c.nodes.place all) (tree_at trees (get_or ids c.nodes.place 0)) =
    subst (λ (ns : List ℕ). cert_line_of line ≡ node_line c.args.answer (take c.nodes.place (named trees ns)) (tree_at trees (get_or ns c.nodes.place 0))) c.nodes.invariant.0 c.in_ok-line.ensures.line in (
      c.nodes.invariant.0,
      noding-next c.args.answer trees ids c.nodes.place (c.nodes.place + 1) line c.nodes.self.lines.items c.push.new.self.items _ within refl is c.in_ok-line.ensures.form c.in_ok-push.ensures.items c.nodes.invariant.1,
    )

pub returns-clause-nodes : goal.returns-clause-nodes
returns-clause-nodes c = ap (named c.args.store.now) c.nodes.invariant.0 ∙ c.in_ok-visit.ensures.nodes c.requires.range.free

pub returns-clause-lines : goal.returns-clause-lines
returns-clause-lines c =
    let trees = c.args.store.now in
    let ids = c.visit.new.self in
    let old = c.args.self.now in
    let end : length ids ≤ c.nodes.place = omega (arith, c.nodes-test.false, c.len-place-end.ensures) in
    noding-end c.args.answer trees ids c.nodes.place c.nodes.self.lines.items _ end c.nodes.invariant.1
    ∙ ap (λ (ls : List CertLine). lines_of old ++ ls)
    (new-lines c.args.answer trees old.walk ids (tree_at trees c.args.id) c.len-known.result c.len-known.ensures c.visit.ensures.behind (c.in_ok-visit.ensures.nodes c.requires.range.free))

pub returns-clause-has : goal.returns-clause-has
returns-clause-has c = subst (λ (ns : List ℕ). Contains ns c.args.id) (sym c.nodes.invariant.0) c.in_ok-visit.ensures.has

pub returns-clause-writing : goal.returns-clause-writing
returns-clause-writing c =
    let trees = c.args.store.now in
    let ids = c.visit.new.self in
    let all = walk-ranged trees c.args.self.now.walk ids (tree_at trees c.args.id) c.requires.writing.nodes c.requires.range c.in_ok-visit.ensures.order in
    record {
      walk = subst (IsWalk trees) (sym c.nodes.invariant.0) c.visit.ensures.walk;
      nodes = subst (λ (ns : List ℕ). AllByRecursion IsInRange (named trees ns)) (sym c.nodes.invariant.0) all;
      form = c.nodes.invariant.1.form;
    }
