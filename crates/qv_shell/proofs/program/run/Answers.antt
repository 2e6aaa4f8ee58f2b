use Rattle.std.proofs.Common.{◌≡◌, ◌≤◌, Some, None, map, string_bytes, inl, refl, arith}
use Rattle.qv_shell_args.specs.Call.{request_in, request_of}
use Rattle.qv_meter.specs.Records.{records_of}
use Rattle.qv_shell.proofs.Asked.{if-bench, if-check, if-checks, if-clauses, if-gen, if-lrat, if-page, if-qcheck, if-qsolve, if-reads, if-refused, if-solve, if-solves, if-trim, if-writes, printed, unbenched, unchecked, ungenerated, unless-metered, unless-reads, unless-script, unless-writes, unprinted, unrefused, unsolved}
use Rattle.qv_shell.proofs.Quantified.{unanswered, unjudged}
use Rattle.qv_shell.proofs.Proved.{unproved}
use Rattle.qv_shell.proofs.Trimmings.{untrimmed}
use Rattle.qv_shell.proofs.Listings.{unlisted}
use Rattle.qv_shell.proofs.Wrote.{ended-text, unread-text, unwritten-text}
use Rattle.qv_shell.proofs.program.run.Goals as goal

-- ---- the words are a call, and what holds of it holds of them

pub returns-in-Ok-clause-solves : goal.returns-in-Ok-clause-solves
returns-in-Ok-clause-solves g c =
    let asked : request_in (map string_bytes c.args.words.now) ≡ Some (request_of c.in-Ok.call) = c.in-Ok.ensures.call in
    rw asked c.perform.ensures.solves

pub returns-in-Ok-clause-checks : goal.returns-in-Ok-clause-checks
returns-in-Ok-clause-checks g c =
    let asked : request_in (map string_bytes c.args.words.now) ≡ Some (request_of c.in-Ok.call) = c.in-Ok.ensures.call in
    rw asked c.perform.ensures.checks

pub returns-in-Ok-clause-proves : goal.returns-in-Ok-clause-proves
returns-in-Ok-clause-proves g c =
    let asked : request_in (map string_bytes c.args.words.now) ≡ Some (request_of c.in-Ok.call) = c.in-Ok.ensures.call in
    rw asked c.perform.ensures.proves

pub returns-in-Ok-clause-trims : goal.returns-in-Ok-clause-trims
returns-in-Ok-clause-trims g c =
    let asked : request_in (map string_bytes c.args.words.now) ≡ Some (request_of c.in-Ok.call) = c.in-Ok.ensures.call in
    rw asked c.perform.ensures.trims

pub returns-in-Ok-clause-lists : goal.returns-in-Ok-clause-lists
returns-in-Ok-clause-lists g c =
    let asked : request_in (map string_bytes c.args.words.now) ≡ Some (request_of c.in-Ok.call) = c.in-Ok.ensures.call in
    rw asked c.perform.ensures.lists

pub returns-in-Ok-clause-qsolves : goal.returns-in-Ok-clause-qsolves
returns-in-Ok-clause-qsolves g c =
    let asked : request_in (map string_bytes c.args.words.now) ≡ Some (request_of c.in-Ok.call) = c.in-Ok.ensures.call in
    rw asked c.perform.ensures.qsolves

pub returns-in-Ok-clause-qchecks : goal.returns-in-Ok-clause-qchecks
returns-in-Ok-clause-qchecks g c =
    let asked : request_in (map string_bytes c.args.words.now) ≡ Some (request_of c.in-Ok.call) = c.in-Ok.ensures.call in
    rw asked c.perform.ensures.qchecks

pub returns-in-Ok-clause-generates : goal.returns-in-Ok-clause-generates
returns-in-Ok-clause-generates g c =
    let asked : request_in (map string_bytes c.args.words.now) ≡ Some (request_of c.in-Ok.call) = c.in-Ok.ensures.call in
    rw asked c.perform.ensures.generates

pub returns-in-Ok-clause-benches : goal.returns-in-Ok-clause-benches
returns-in-Ok-clause-benches g c =
    let asked : request_in (map string_bytes c.args.words.now) ≡ Some (request_of c.in-Ok.call) = c.in-Ok.ensures.call in
    rw asked c.perform.ensures.benches

pub returns-in-Ok-clause-pages : goal.returns-in-Ok-clause-pages
returns-in-Ok-clause-pages g c =
    let asked : request_in (map string_bytes c.args.words.now) ≡ Some (request_of c.in-Ok.call) = c.in-Ok.ensures.call in
    rw asked (printed (request_of c.in-Ok.call) (g.O.Sink.held c.args.out.now) (g.O.Sink.held c.perform.new.out) c.perform.result c.perform.ensures.pages)

pub returns-in-Ok-clause-refuses : goal.returns-in-Ok-clause-refuses
returns-in-Ok-clause-refuses g c =
    let asked : request_in (map string_bytes c.args.words.now) ≡ Some (request_of c.in-Ok.call) = c.in-Ok.ensures.call in
    rw asked tt

pub returns-in-Ok-clause-read : goal.returns-in-Ok-clause-read
returns-in-Ok-clause-read g c =
    let asked : request_in (map string_bytes c.args.words.now) ≡ Some (request_of c.in-Ok.call) = c.in-Ok.ensures.call in
    rw asked c.perform.ensures.read

pub returns-in-Ok-clause-cert_read : goal.returns-in-Ok-clause-cert_read
returns-in-Ok-clause-cert_read g c =
    let asked : request_in (map string_bytes c.args.words.now) ≡ Some (request_of c.in-Ok.call) = c.in-Ok.ensures.call in
    rw asked c.perform.ensures.cert_read

pub returns-in-Ok-clause-write : goal.returns-in-Ok-clause-write
returns-in-Ok-clause-write g c =
    let asked : request_in (map string_bytes c.args.words.now) ≡ Some (request_of c.in-Ok.call) = c.in-Ok.ensures.call in
    rw asked c.perform.ensures.write

pub returns-in-Ok-clause-cert_write : goal.returns-in-Ok-clause-cert_write
returns-in-Ok-clause-cert_write g c =
    let asked : request_in (map string_bytes c.args.words.now) ≡ Some (request_of c.in-Ok.call) = c.in-Ok.ensures.call in
    rw asked c.perform.ensures.cert_write

pub returns-in-Ok-clause-solve_ends : goal.returns-in-Ok-clause-solve_ends
returns-in-Ok-clause-solve_ends g c =
    let asked : request_in (map string_bytes c.args.words.now) ≡ Some (request_of c.in-Ok.call) = c.in-Ok.ensures.call in
    rw asked c.perform.ensures.solve_ends

pub returns-in-Ok-clause-check_ends : goal.returns-in-Ok-clause-check_ends
returns-in-Ok-clause-check_ends g c =
    let asked : request_in (map string_bytes c.args.words.now) ≡ Some (request_of c.in-Ok.call) = c.in-Ok.ensures.call in
    rw asked c.perform.ensures.check_ends

pub returns-in-Ok-clause-trim_ends : goal.returns-in-Ok-clause-trim_ends
returns-in-Ok-clause-trim_ends g c =
    let asked : request_in (map string_bytes c.args.words.now) ≡ Some (request_of c.in-Ok.call) = c.in-Ok.ensures.call in
    rw asked c.perform.ensures.trim_ends

pub returns-in-Ok-clause-ends : goal.returns-in-Ok-clause-ends
returns-in-Ok-clause-ends g c =
    let asked : request_in (map string_bytes c.args.words.now) ≡ Some (request_of c.in-Ok.call) = c.in-Ok.ensures.call in
    rw asked c.perform.ensures.ends

pub returns-in-Ok-clause-script : goal.returns-in-Ok-clause-script
returns-in-Ok-clause-script g c =
    let asked : request_in (map string_bytes c.args.words.now) ≡ Some (request_of c.in-Ok.call) = c.in-Ok.ensures.call in
    rw asked c.perform.ensures.script

pub returns-in-Ok-clause-cert_in : goal.returns-in-Ok-clause-cert_in
returns-in-Ok-clause-cert_in g c =
    let asked : request_in (map string_bytes c.args.words.now) ≡ Some (request_of c.in-Ok.call) = c.in-Ok.ensures.call in
    rw asked c.perform.ensures.cert_in

pub returns-in-Ok-clause-cert_out : goal.returns-in-Ok-clause-cert_out
returns-in-Ok-clause-cert_out g c =
    let asked : request_in (map string_bytes c.args.words.now) ≡ Some (request_of c.in-Ok.call) = c.in-Ok.ensures.call in
    rw asked c.perform.ensures.cert_out

pub returns-in-Ok-clause-meter : goal.returns-in-Ok-clause-meter
returns-in-Ok-clause-meter g c =
    let asked : request_in (map string_bytes c.args.words.now) ≡ Some (request_of c.in-Ok.call) = c.in-Ok.ensures.call in
    rw asked c.perform.ensures.meter

-- ---- the words are none

pub returns-in-Err-Refused-clause-solves : goal.returns-in-Err-Refused-clause-solves
returns-in-Err-Refused-clause-solves g c =
    let asked : request_in (map string_bytes c.args.words.now) ≡ None = c.call_of.ensures.refused cc in
    rw asked tt

pub returns-in-Err-Refused-clause-checks : goal.returns-in-Err-Refused-clause-checks
returns-in-Err-Refused-clause-checks g c =
    let asked : request_in (map string_bytes c.args.words.now) ≡ None = c.call_of.ensures.refused cc in
    rw asked tt

pub returns-in-Err-Refused-clause-proves : goal.returns-in-Err-Refused-clause-proves
returns-in-Err-Refused-clause-proves g c =
    let asked : request_in (map string_bytes c.args.words.now) ≡ None = c.call_of.ensures.refused cc in
    rw asked tt

pub returns-in-Err-Refused-clause-trims : goal.returns-in-Err-Refused-clause-trims
returns-in-Err-Refused-clause-trims g c =
    let asked : request_in (map string_bytes c.args.words.now) ≡ None = c.call_of.ensures.refused cc in
    rw asked tt

pub returns-in-Err-Refused-clause-lists : goal.returns-in-Err-Refused-clause-lists
returns-in-Err-Refused-clause-lists g c =
    let asked : request_in (map string_bytes c.args.words.now) ≡ None = c.call_of.ensures.refused cc in
    rw asked tt

pub returns-in-Err-Refused-clause-qsolves : goal.returns-in-Err-Refused-clause-qsolves
returns-in-Err-Refused-clause-qsolves g c =
    let asked : request_in (map string_bytes c.args.words.now) ≡ None = c.call_of.ensures.refused cc in
    rw asked tt

pub returns-in-Err-Refused-clause-qchecks : goal.returns-in-Err-Refused-clause-qchecks
returns-in-Err-Refused-clause-qchecks g c =
    let asked : request_in (map string_bytes c.args.words.now) ≡ None = c.call_of.ensures.refused cc in
    rw asked tt

pub returns-in-Err-Refused-clause-generates : goal.returns-in-Err-Refused-clause-generates
returns-in-Err-Refused-clause-generates g c =
    let asked : request_in (map string_bytes c.args.words.now) ≡ None = c.call_of.ensures.refused cc in
    rw asked tt

pub returns-in-Err-Refused-clause-benches : goal.returns-in-Err-Refused-clause-benches
returns-in-Err-Refused-clause-benches g c =
    let asked : request_in (map string_bytes c.args.words.now) ≡ None = c.call_of.ensures.refused cc in
    rw asked tt

pub returns-in-Err-Refused-clause-pages : goal.returns-in-Err-Refused-clause-pages
returns-in-Err-Refused-clause-pages g c =
    let asked : request_in (map string_bytes c.args.words.now) ≡ None = c.call_of.ensures.refused cc in
    rw asked tt

pub returns-in-Err-Refused-clause-refuses : goal.returns-in-Err-Refused-clause-refuses
returns-in-Err-Refused-clause-refuses g c =
    let asked : request_in (map string_bytes c.args.words.now) ≡ None = c.call_of.ensures.refused cc in
    rw asked (inl c.write_text.ensures.run)

pub returns-in-Err-Refused-clause-read : goal.returns-in-Err-Refused-clause-read
returns-in-Err-Refused-clause-read g c =
    let asked : request_in (map string_bytes c.args.words.now) ≡ None = c.call_of.ensures.refused cc in
    rw asked (λ three. absurd (unread-text c.write_text.ensures.write three))

pub returns-in-Err-Refused-clause-cert_read : goal.returns-in-Err-Refused-clause-cert_read
returns-in-Err-Refused-clause-cert_read g c =
    let asked : request_in (map string_bytes c.args.words.now) ≡ None = c.call_of.ensures.refused cc in
    rw asked tt

pub returns-in-Err-Refused-clause-write : goal.returns-in-Err-Refused-clause-write
returns-in-Err-Refused-clause-write g c =
    let asked : request_in (map string_bytes c.args.words.now) ≡ None = c.call_of.ensures.refused cc in
    rw asked (λ four. unwritten-text c.write_text.ensures.write four)

pub returns-in-Err-Refused-clause-cert_write : goal.returns-in-Err-Refused-clause-cert_write
returns-in-Err-Refused-clause-cert_write g c =
    let asked : request_in (map string_bytes c.args.words.now) ≡ None = c.call_of.ensures.refused cc in
    rw asked tt

pub returns-in-Err-Refused-clause-solve_ends : goal.returns-in-Err-Refused-clause-solve_ends
returns-in-Err-Refused-clause-solve_ends g c =
    let asked : request_in (map string_bytes c.args.words.now) ≡ None = c.call_of.ensures.refused cc in
    rw asked tt

pub returns-in-Err-Refused-clause-check_ends : goal.returns-in-Err-Refused-clause-check_ends
returns-in-Err-Refused-clause-check_ends g c =
    let asked : request_in (map string_bytes c.args.words.now) ≡ None = c.call_of.ensures.refused cc in
    rw asked tt

pub returns-in-Err-Refused-clause-trim_ends : goal.returns-in-Err-Refused-clause-trim_ends
returns-in-Err-Refused-clause-trim_ends g c =
    let asked : request_in (map string_bytes c.args.words.now) ≡ None = c.call_of.ensures.refused cc in
    rw asked tt

pub returns-in-Err-Refused-clause-ends : goal.returns-in-Err-Refused-clause-ends
returns-in-Err-Refused-clause-ends g c =
    let asked : request_in (map string_bytes c.args.words.now) ≡ None = c.call_of.ensures.refused cc in
    rw asked (λ unwritten memory. ended-text c.write_text.ensures.write unwritten)

pub returns-in-Err-Refused-clause-script : goal.returns-in-Err-Refused-clause-script
returns-in-Err-Refused-clause-script g c =
    let asked : request_in (map string_bytes c.args.words.now) ≡ None = c.call_of.ensures.refused cc in
    rw asked refl

pub returns-in-Err-Refused-clause-cert_in : goal.returns-in-Err-Refused-clause-cert_in
returns-in-Err-Refused-clause-cert_in g c =
    let asked : request_in (map string_bytes c.args.words.now) ≡ None = c.call_of.ensures.refused cc in
    rw asked refl

pub returns-in-Err-Refused-clause-cert_out : goal.returns-in-Err-Refused-clause-cert_out
returns-in-Err-Refused-clause-cert_out g c =
    let asked : request_in (map string_bytes c.args.words.now) ≡ None = c.call_of.ensures.refused cc in
    rw asked refl

pub returns-in-Err-Refused-clause-meter : goal.returns-in-Err-Refused-clause-meter
returns-in-Err-Refused-clause-meter g c =
    let asked : request_in (map string_bytes c.args.words.now) ≡ None = c.call_of.ensures.refused cc in
    rw asked refl

-- ---- whether they are isn't known

pub returns-in-Err-NoMemory-clause-solves : goal.returns-in-Err-NoMemory-clause-solves
returns-in-Err-NoMemory-clause-solves g c =
    if-solve (request_in (map string_bytes c.args.words.now)) (unsolved g.S.Source.read_gives (g.S.Source.left c.args.script.now) c.args.script.now (g.O.Sink.held c.args.out.now) (g.P.Sink.held c.args.cert_out.now) (records_of c.args.meter.now))

pub returns-in-Err-NoMemory-clause-checks : goal.returns-in-Err-NoMemory-clause-checks
returns-in-Err-NoMemory-clause-checks g c =
    if-check (request_in (map string_bytes c.args.words.now)) (λ places. unchecked g.S.Source.read_gives _ (g.S.Source.left c.args.script.now) (g.C.Source.left c.args.cert_in.now) c.args.script.now (g.O.Sink.held c.args.out.now) places)

pub returns-in-Err-NoMemory-clause-proves : goal.returns-in-Err-NoMemory-clause-proves
returns-in-Err-NoMemory-clause-proves g c =
    if-lrat (request_in (map string_bytes c.args.words.now)) (unproved _ (g.S.Source.left c.args.script.now) (g.C.Source.left c.args.cert_in.now) (g.O.Sink.held c.args.out.now))

pub returns-in-Err-NoMemory-clause-trims : goal.returns-in-Err-NoMemory-clause-trims
returns-in-Err-NoMemory-clause-trims g c =
    if-trim (request_in (map string_bytes c.args.words.now)) (untrimmed c.trimmed_are_accepted.ensures (g.S.Source.left c.args.script.now) (g.C.Source.left c.args.cert_in.now) (g.O.Sink.held c.args.out.now) (g.P.Sink.held c.args.cert_out.now))

pub returns-in-Err-NoMemory-clause-lists : goal.returns-in-Err-NoMemory-clause-lists
returns-in-Err-NoMemory-clause-lists g c =
    if-clauses (request_in (map string_bytes c.args.words.now)) (unlisted (g.S.Source.left c.args.script.now) (g.C.Source.left c.args.cert_in.now) (g.O.Sink.held c.args.out.now))

pub returns-in-Err-NoMemory-clause-qsolves : goal.returns-in-Err-NoMemory-clause-qsolves
returns-in-Err-NoMemory-clause-qsolves g c =
    if-qsolve (request_in (map string_bytes c.args.words.now)) (unanswered g.S.Source.read_gives g.S.Source.left c.args.script.now (g.O.Sink.held c.args.out.now) (g.P.Sink.held c.args.cert_out.now) (records_of c.args.meter.now))

pub returns-in-Err-NoMemory-clause-qchecks : goal.returns-in-Err-NoMemory-clause-qchecks
returns-in-Err-NoMemory-clause-qchecks g c =
    if-qcheck (request_in (map string_bytes c.args.words.now)) (unjudged c.file_answers_are_true.ensures c.solved_files_are_accepted.ensures (g.S.Source.left c.args.script.now) (g.C.Source.left c.args.cert_in.now) (g.O.Sink.held c.args.out.now))

pub returns-in-Err-NoMemory-clause-generates : goal.returns-in-Err-NoMemory-clause-generates
returns-in-Err-NoMemory-clause-generates g c =
    if-gen (request_in (map string_bytes c.args.words.now)) (ungenerated (g.O.Sink.held c.args.out.now))

pub returns-in-Err-NoMemory-clause-benches : goal.returns-in-Err-NoMemory-clause-benches
returns-in-Err-NoMemory-clause-benches g c =
    if-bench (request_in (map string_bytes c.args.words.now)) (unbenched (g.O.Sink.held c.args.out.now) (records_of c.args.meter.now))

pub returns-in-Err-NoMemory-clause-pages : goal.returns-in-Err-NoMemory-clause-pages
returns-in-Err-NoMemory-clause-pages g c =
    if-page (request_in (map string_bytes c.args.words.now)) (unprinted (g.O.Sink.held c.args.out.now))

pub returns-in-Err-NoMemory-clause-refuses : goal.returns-in-Err-NoMemory-clause-refuses
returns-in-Err-NoMemory-clause-refuses g c =
    if-refused (request_in (map string_bytes c.args.words.now)) (unrefused (g.O.Sink.held c.args.out.now))

pub returns-in-Err-NoMemory-clause-read : goal.returns-in-Err-NoMemory-clause-read
returns-in-Err-NoMemory-clause-read g c =
    unless-reads (request_in (map string_bytes c.args.words.now)) (λ three. absurd (omega (arith, three)))

pub returns-in-Err-NoMemory-clause-cert_read : goal.returns-in-Err-NoMemory-clause-cert_read
returns-in-Err-NoMemory-clause-cert_read g c =
    if-reads (request_in (map string_bytes c.args.words.now)) (λ three. absurd (omega (arith, three)))

pub returns-in-Err-NoMemory-clause-write : goal.returns-in-Err-NoMemory-clause-write
returns-in-Err-NoMemory-clause-write g c =
    unless-writes (request_in (map string_bytes c.args.words.now)) (λ four. absurd (omega (arith, four)))

pub returns-in-Err-NoMemory-clause-cert_write : goal.returns-in-Err-NoMemory-clause-cert_write
returns-in-Err-NoMemory-clause-cert_write g c =
    if-writes (request_in (map string_bytes c.args.words.now)) (λ four. absurd (omega (arith, four)))

pub returns-in-Err-NoMemory-clause-solve_ends : goal.returns-in-Err-NoMemory-clause-solve_ends
returns-in-Err-NoMemory-clause-solve_ends g c =
    if-solves (request_in (map string_bytes c.args.words.now)) (λ _ _ _ _ memory. absurd (memory refl))

pub returns-in-Err-NoMemory-clause-check_ends : goal.returns-in-Err-NoMemory-clause-check_ends
returns-in-Err-NoMemory-clause-check_ends g c =
    if-checks (request_in (map string_bytes c.args.words.now)) (λ _ _ _ _ _ memory. absurd (memory refl))

pub returns-in-Err-NoMemory-clause-trim_ends : goal.returns-in-Err-NoMemory-clause-trim_ends
returns-in-Err-NoMemory-clause-trim_ends g c =
    if-trim (request_in (map string_bytes c.args.words.now)) (λ _ _ _ _ _ _ _ memory. absurd (memory refl))

pub returns-in-Err-NoMemory-clause-ends : goal.returns-in-Err-NoMemory-clause-ends
returns-in-Err-NoMemory-clause-ends g c =
    unless-script (request_in (map string_bytes c.args.words.now)) (λ _ memory. absurd (memory refl))

pub returns-in-Err-NoMemory-clause-script : goal.returns-in-Err-NoMemory-clause-script
returns-in-Err-NoMemory-clause-script g c =
    unless-script (request_in (map string_bytes c.args.words.now)) refl

pub returns-in-Err-NoMemory-clause-cert_in : goal.returns-in-Err-NoMemory-clause-cert_in
returns-in-Err-NoMemory-clause-cert_in g c =
    unless-reads (request_in (map string_bytes c.args.words.now)) refl

pub returns-in-Err-NoMemory-clause-cert_out : goal.returns-in-Err-NoMemory-clause-cert_out
returns-in-Err-NoMemory-clause-cert_out g c =
    unless-writes (request_in (map string_bytes c.args.words.now)) refl

pub returns-in-Err-NoMemory-clause-meter : goal.returns-in-Err-NoMemory-clause-meter
returns-in-Err-NoMemory-clause-meter g c =
    unless-metered (request_in (map string_bytes c.args.words.now)) refl
