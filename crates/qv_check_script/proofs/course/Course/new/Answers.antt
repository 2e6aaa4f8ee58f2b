use Rattle.qv_script_defs.specs.StateLaws.{opens}
use Rattle.qv_script_stack.proofs.Holding.{held-nothing}
use Rattle.qv_check_script.proofs.course.Course.new.Goals as goal

pub returns-clause-stands : goal.returns-clause-stands
returns-clause-stands c = rw c.new-2.ensures record { script = held-nothing c.new.result; reached = opens }
