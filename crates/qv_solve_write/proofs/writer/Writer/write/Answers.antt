use Rattle.qv_solve_write.proofs.Written.{writing-more}
use Rattle.std.proofs.Common.{refl}
use Rattle.qv_solve_write.proofs.writer.Writer.write.Goals as goal

pub returns-clause-writing : goal.returns-clause-writing
returns-clause-writing c trees h =
    writing-more trees c.args.self.now (record { walk = c.args.self.now.walk; lines = c.push.new.self }) c.args.line refl c.in_ok-push.ensures.items c.requires h
