use Rattle.std.proofs.Common.{◌≡◌, ap, ◌∙◌, nat_le, length, rules}
use Rattle.qv_cert_nodes.proofs.Kept.{line-there}
use Rattle.qv_cert_nodes.proofs.listed.Listed.is_line.Goals as goal

pub returns : goal.returns
returns c trees p =
    let many : c.len.result ≡ length c.args.self.now.branches.items = search rules in
    ap (λ n. nat_le c.args.line n) many ∙ line-there trees p c.args.self.now c.args.line
