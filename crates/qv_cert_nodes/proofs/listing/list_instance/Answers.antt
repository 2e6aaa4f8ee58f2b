use Rattle.std.proofs.Common.{◌+◌, false, arith, subst}
use Rattle.std.specs.Prelude.{OnOk}
use Rattle.qv_words.specs.Tree.{Tree}
use Rattle.qv_words.specs.Expansion.{Instance}
use Rattle.qv_store.proofs.Visiting.{on-ok}
use Rattle.qv_cert.specs.Listed.{with_line}
use Rattle.qv_cert_nodes.specs.declared.listed.Branch.{Branch}
use Rattle.qv_cert_nodes.specs.Lists.{listed_in}
use Rattle.qv_cert_nodes.specs.Pushing.{Lists}
use Rattle.qv_cert_nodes.proofs.Grown.{branch-listed, same-store, MayStand}
use Rattle.qv_cert_nodes.proofs.listing.list_instance.Goals as goal

pub returns : goal.returns
returns c trees p h =
    let a = c.args.listed.now in
    let b : Branch = record { parent = c.args.parent; id = c.node-id.result; depth = c.depth-depth.result + 1; is_eigen = false } in
    let may : MayStand trees p a b =
    record {
      below = c.node-id.ensures.below trees h.nodes;
      parent = c.requires.parent;
      depth = omega (arith, c.depth-depth.ensures.kept);
      own = λ e. absurd cc;
    } in
    subst (λ (t : Tree). OnOk c.push_branch.result (Lists trees p c.push_branch.new.self (with_line (Instance c.args.parent t) (listed_in trees a)))) (c.node-id.ensures.tree trees)
    (on-ok c.push_branch.result (λ w. branch-listed trees trees p a c.push_branch.new.self b h (same-store trees) w may) c.push_branch.ensures)
