use Rattle.std.proofs.Common.{◌≡◌, ◌+◌, ◌-◌, ◌<◌, ◌≤◌, None, option_map}
use Rattle.qv_text.specs.Progress.{fed}
use Rattle.qv_sexpr.specs.Limits.{piece_size, read_limit}
use Rattle.qv_sexpr.specs.Script.{reads}
use Rattle.qv_sexpr.specs.Reader.{to_read, FedGiven}
use Rattle.qv_meter.specs.Records.{records_of}
use Rattle.qv_meter.specs.Views.{limits_of}
use Rattle.qv_solve_offer.specs.Sharing.{IsShared}
use Rattle.qv_shell_follow.specs.Between.{Between, fresh}
use Rattle.qv_shell_follow.proofs.following.follow.Given as goal

-- What was read was followed; what it prints, and the sections of its checks, were written; each check
-- took bytes.
abbrev pub invariant-commands : goal.invariant-commands
invariant-commands g l =
    let source = g.S.Source in
    let out = g.O.Sink in
    let cert = g.P.Sink in
    record {
      between : Between l.places source.read_gives (limits_of l.limits) l.fn.script (option_map reads (source.left l.fn.script)) (out.held l.fn.out) (cert.held l.fn.cert) (records_of l.fn.meter)
          l.course l.reader.lexer l.script (to_read l.reader (source.left l.script)) (out.held l.out) (cert.held l.cert) (records_of l.meter);
      shared : IsShared l.course.store l.course.shared;
      room : l.course.tally.checks ≤ l.reader.lexer.place;
      reading : l.reader.stopped ≡ None;
      small : fed l.reader.lexer < read_limit + piece_size;
      given : FedGiven (source.left l.fn.script) fresh.lexer (source.left l.script) l.reader.lexer;
      script_count : source.faults l.fn.script ≤ source.faults l.script;
      out_count : out.faults l.fn.out ≤ out.faults l.out;
      cert_count : cert.faults l.fn.cert ≤ cert.faults l.cert;
    }

-- each command takes bytes
abbrev pub decreases-commands : goal.decreases-commands
decreases-commands g l = (read_limit + piece_size) - l.reader.lexer.place
