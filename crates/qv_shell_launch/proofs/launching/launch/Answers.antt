use Rattle.qv_shell.proofs.Hosting.{reading-on, says-short}
use Rattle.qv_shell_launch.proofs.launching.launch.Goals as goal

pub returns-clause-reading : goal.returns-clause-reading
returns-clause-reading g c =
    let behind = c.end-status.new in
    reading-on (g.T.Run.request c.args.run.now) _ _ _ _ c.end-status.result
    (says-short g.R.Read.remaining c.new-script.result behind.script _ _ c.new-script.ensures.faults c.error.ensures.failed c.given.ensures)
    (says-short g.C.Read.remaining c.new-cert.result behind.cert_in _ _ c.new-cert.ensures.faults c.error-2.ensures.failed c.given-2.ensures)
    c.end-status.ensures.reading
