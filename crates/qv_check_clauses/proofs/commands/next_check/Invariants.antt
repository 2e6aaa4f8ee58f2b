-- commands were done, and the script is the same from here on
use Rattle.std.proofs.Common.{◌≡◌, ℕ, Some}
use Rattle.qv_sexpr.specs.Reader.{to_read}
use Rattle.qv_sexpr.specs.Script.{Script as Commands}
use Rattle.qv_script_defs.specs.State.{State}
use Rattle.qv_check_script.specs.Turns.{Stands}
use Rattle.qv_check_clauses.specs.Following.{IsPast}
use Rattle.qv_check_clauses.proofs.commands.next_check.Given as goal

abbrev pub invariant-commands : goal.invariant-commands
invariant-commands l =
    (places : ℕ) (s : State) (c : Commands) → Stands l.fn.course s → to_read l.fn.commands (Some l.fn.script.left.now) ≡ Some c →
    IsPast places s c l.course (to_read l.commands (Some l.script.left.now))
