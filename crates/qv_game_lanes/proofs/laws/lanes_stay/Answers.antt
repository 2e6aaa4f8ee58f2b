use Rattle.qv_blast.proofs.Staying.{formulas-stay}
use Rattle.qv_game_lanes.proofs.laws.lanes_stay.Goals as goal

pub returns : goal.returns
returns _ old new formulas l grows h = record {
  terms = h.terms;
  blaster = formulas-stay old new formulas l.blaster grows h.blaster;
  core = h.core;
  few = h.few;
  learnt = h.learnt;
  top = h.top;
  closed = h.closed;
}
