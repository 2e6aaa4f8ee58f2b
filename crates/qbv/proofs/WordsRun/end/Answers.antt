use Rattle.std.proofs.Common.{map, string_bytes}
use Rattle.qv_shell.specs.Host.{request_in}
use Rattle.qv_shell.proofs.Hosting.{reading-of, writing-of}
use Rattle.qbv.proofs.WordsRun.end.Goals as goal

pub returns-clause-reading : goal.returns-clause-reading
returns-clause-reading g c =
    reading-of (request_in (map string_bytes c.args.self.now.words.now)) _ _ _ _ c.run-status.result c.run-status.ensures.read c.run-status.ensures.cert_read

pub returns-clause-writing : goal.returns-clause-writing
returns-clause-writing g c =
    writing-of (request_in (map string_bytes c.args.self.now.words.now)) _ _ c.run-status.result c.run-status.ensures.write c.run-status.ensures.cert_write
