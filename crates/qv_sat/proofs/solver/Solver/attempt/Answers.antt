use Rattle.std.proofs.Common.{sym, ◌∙◌}
use Rattle.qv_cnf.specs.LratLine.{lines_of}
use Rattle.qv_sat.proofs.Holdings.{within_attached, IsHeld-trail}
use Rattle.qv_sat.proofs.solver.Solver.attempt.Goals as goal

pub descend-requires-clause-ready : goal.descend-requires-clause-ready
descend-requires-clause-ready c = record {
  room = c.requires.held.room;
  most = c.requires.held.most;
  clauses = let s = c.args.self.now in within_attached s.base (lines_of s.steps.items) s.trail s.top s.variables s.refuted s.aside c.requires.held;
  within = c.requires.within;
  first = c.requires.first;
}

pub backtrack-requires-clause-held : goal.backtrack-requires-clause-held
backtrack-requires-clause-held c =
    let s = c.args.self.now in
    IsHeld-trail s.base (lines_of s.steps.items) s.trail c.descend.new.trail s.top s.variables s.refuted s.aside c.requires.held (c.descend.ensures.ready.room ∙ sym c.requires.held.room) c.descend.ensures.clauses
