use Rattle.qv_solve_offer.proofs.Parts.{part-none}
use Rattle.qv_solve_offer.proofs.offering.unneeded.Goals as goal

pub returns : goal.returns
returns c = rw c.new.ensures.items (part-none c.args.named.now)
