use Rattle.std.proofs.Common.{◌<◌, ◌-◌, length, sym, ◌∙◌, arith}
use Rattle.std.proofs.lemmas.Option.{get_or_from_slice_get}
use Rattle.qv_cert_nodes.proofs.Kept.{node-reach, found-there}
use Rattle.qv_cert_nodes.proofs.listed.Listed.reach.Goals as goal

pub returns-clause-reach : goal.returns-clause-reach
returns-clause-reach c trees p h =
    let reaches = c.args.self.now.reaches.items in
    let within : c.args.node - 1 < length reaches = omega (arith, c.requires.there.some, c.requires.there.there, c.requires.beside) in
    sym (get_or_from_slice_get reaches (c.args.node - 1) c.index.result.now 0 (found-there reaches (c.args.node - 1) c.index.result.now within c.index.ensures))
    ∙ node-reach trees p c.args.self.now (c.args.node - 1) c.args.node h (omega (arith, c.requires.there.some)) (omega (arith, c.requires.there.some, c.requires.there.there))
