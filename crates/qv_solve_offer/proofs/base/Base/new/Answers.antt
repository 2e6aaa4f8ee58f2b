use Rattle.qv_solve_offer.proofs.base.Base.new.Goals as goal

pub returns : goal.returns
returns c trees shared = record {
  blaster = c.in_ok-blaster.ensures.blaster trees shared;
  top = c.in_ok-last.ensures.top;
  few = c.in_ok-last.ensures.few;
}
