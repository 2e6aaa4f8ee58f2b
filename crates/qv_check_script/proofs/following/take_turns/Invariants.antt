use Rattle.std.proofs.Common.{◌≡◌, ◌+◌, ◌-◌, ◌<◌, ◌≤◌, None}
use Rattle.qv_text.specs.Progress.{fed}
use Rattle.qv_sexpr.specs.Limits.{piece_size, read_limit}
use Rattle.qv_sexpr.specs.Reader.{to_read}
use Rattle.qv_cert.specs.CertReader.{to_give}
use Rattle.qv_script_defs.specs.State.{State}
use Rattle.qv_cert.specs.Took.{TookLines}
use Rattle.qv_check_defs.specs.Limits.{Takes}
use Rattle.qv_check_script.specs.Turns.{Stands, to_come, BetweenCommands}
use Rattle.qv_check_script.proofs.following.take_turns.Given as goal

-- What was written is the front of what comes from the first state on, and what is to come the rest,
-- behind the commands that were read.
abbrev pub invariant-turns : goal.invariant-turns
invariant-turns g l =
    let script = g.S.Source in
    let cert = g.C.Source in
    let sink = g.O.Sink in
    record {
      between : (s : State) → Stands l.fn.course s → BetweenCommands l.places script.read_gives s l.fn.commands.lexer l.fn.script (to_read l.fn.commands (script.left l.fn.script)) l.commands.lexer l.script
          (to_come l.places l.fn.reader.version l.fn.course.checks s (to_read l.fn.commands (script.left l.fn.script)) l.fn.reader.given (to_give l.fn.reader.rest (cert.left l.fn.cert)))
          l.reader.version l.reader.given l.course (to_read l.commands (script.left l.script)) (to_give l.reader.rest (cert.left l.cert)) (sink.held l.fn.out) (sink.held l.out);
      reading : l.commands.stopped ≡ None;
      begun : 0 < l.reader.given;
      reads : l.reader.stopped ≡ None;
      small : fed l.commands.lexer < read_limit + piece_size;
      room : l.course.checks ≤ l.commands.lexer.place;
      script_takes : Takes script.read_gives script.left (fed l.fn.commands.lexer) l.fn.script (fed l.commands.lexer) l.script;
      cert_takes : TookLines cert.read_gives cert.left l.fn.reader l.fn.cert l.reader.given l.reader.rest l.reader.taken l.cert;
      script_count : script.faults l.fn.script ≤ script.faults l.script;
      cert_count : cert.faults l.fn.cert ≤ cert.faults l.cert;
      out_count : sink.faults l.fn.out ≤ sink.faults l.out;
    }

-- each command takes bytes
abbrev pub decreases-turns : goal.decreases-turns
decreases-turns g l = (read_limit + piece_size) - l.commands.lexer.place
