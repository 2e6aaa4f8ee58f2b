use Rattle.std.proofs.Common.{Some, option_map, sym, ◌∙◌}
use Rattle.qv_sexpr.specs.Reader.{to_read}
use Rattle.qv_check_script.proofs.Leading.{ok-weaker}
use Rattle.qv_check_clauses.proofs.Followed.{one-more}
use Rattle.qv_check_clauses.proofs.commands.next_command.Goals as goal

pub do_command-requires-clause-expr : goal.do_command-requires-clause-expr
do_command-requires-clause-expr c = let next = c.in-Command.ensures.next in (next.0, next.1)

pub returns-in-Command : goal.returns-in-Command
returns-in-Command c =
    let next = c.in-Command.ensures.next in
    ok-weaker c.do_command.result _ _ c.do_command.ensures
    (λ found go places s script standing told.
    one-more places s next.0 script (to_read c.next_command.new.self (Some c.next_command.new.source.left.now)) (option_map (λ ids. ids.items) found) c.do_command.new.course (sym told ∙ next.2) (go s next.0 standing next.1))
