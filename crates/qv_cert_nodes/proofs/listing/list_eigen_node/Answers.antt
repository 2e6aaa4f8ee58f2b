use Rattle.std.proofs.Common.{◌<◌, ◌+◌, ◌-◌, unwrap_or, arith}
use Rattle.qv_words.specs.declared.sort.Sort.TheVariants.{Bool as BoolSort}
use Rattle.qv_words.specs.Tree.{Variable}
use Rattle.qv_store.proofs.Visiting.{on-ok}
use Rattle.qv_cert.specs.Listed.{eigen_sort}
use Rattle.qv_cert_nodes.specs.Lists.{listed_in}
use Rattle.qv_cert_nodes.proofs.Grown.{node-listed, same-store}
use Rattle.qv_cert_nodes.proofs.Clean.{eigen-stands, eigen-some-line}
use Rattle.qv_cert_nodes.proofs.listing.list_eigen_node.Goals as goal

pub returns : goal.returns
returns c trees p h =
    let line = c.args.line in
    let a = c.args.listed.now in
    let some : 0 < line = eigen-some-line a line c.requires in
    let t = Variable line (unwrap_or (eigen_sort p (listed_in trees a) line) BoolSort) in
    on-ok c.push_node.result
    (λ w. node-listed trees trees p a c.push_node.new.self c.index.result.now.id (line + 1) t h (same-store trees) w
    (eigen-stands trees p a (line - 1) line c.index.result.now (omega (arith, some)) h c.requires c.index.ensures) (omega arith))
    c.push_node.ensures
