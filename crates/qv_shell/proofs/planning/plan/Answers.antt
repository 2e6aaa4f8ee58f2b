use Rattle.std.proofs.Common.{◌≡◌, Some, None, map, string_bytes}
use Rattle.qv_shell_args.specs.Call.{request_in, request_of}
use Rattle.qv_shell.proofs.planning.plan.Goals as goal

pub returns-in-Ok : goal.returns-in-Ok
returns-in-Ok c =
    let asked : request_in (map string_bytes c.args.words.now) ≡ Some (request_of c.in-Ok.call) = c.in-Ok.ensures.call in
    rw asked c.opened.ensures

pub returns-in-Err-Refused : goal.returns-in-Err-Refused
returns-in-Err-Refused c =
    let asked : request_in (map string_bytes c.args.words.now) ≡ None = c.call_of.ensures.refused cc in
    asked
