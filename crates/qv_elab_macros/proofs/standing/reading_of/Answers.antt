use Rattle.std.proofs.Common.{refl}
use Rattle.qv_elab_macros.proofs.Limited.{is-reading}
use Rattle.qv_elab_macros.proofs.standing.reading_of.Goals as goal

pub returns : goal.returns
returns c scope names s e h p w count r =
    is-reading c.args.store.now scope names s e c.args.id c.args.parameters c.args.checks.now _ h p w count r refl c.in_ok-depths.ensures.count c.in_ok-depths.ensures.depths
