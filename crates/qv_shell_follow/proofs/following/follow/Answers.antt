use Rattle.std.proofs.Common.{◌≡◌, ◌∙◌, ◌+◌, ◌^◌, ◌<◌, ◌≤◌, ℕ, [], inl, inr, refl, sym, ap, subst, Option, Some, None, option_map, Err, arith}
use Rattle.qv_sexpr.specs.Script.{reads}
use Rattle.qv_sexpr.specs.Reader.{to_read, stop_of}
use Rattle.qv_sexpr.specs.declared.answers.Stop.{Stop}
use Rattle.qv_sexpr.specs.declared.answers.Stop.TheVariants as stop
use Rattle.qv_sexpr.specs.Calls.{ReadsOnDemand}
use Rattle.qv_sexpr.proofs.Taking.{given_start, given_later}
use Rattle.qv_meter.specs.Records.{records_of}
use Rattle.qv_meter.specs.Views.{limits_of}
use Rattle.qv_script_transcript.specs.Certificates.{checks_of, certificate}
use Rattle.qv_shell_command.specs.declared.ending.Halt.TheVariants as halt
use Rattle.qv_shell_command.specs.declared.moves.After.TheVariants.{More, Ended}
use Rattle.qv_shell_command.specs.declared.tallies.Tally.{Tally}
use Rattle.qv_shell_command.specs.Moves.{GoesOn}
use Rattle.qv_shell_command.specs.Ending.{halt_status}
use Rattle.qv_shell_follow.specs.Solved.{IsSolved}
use Rattle.qv_shell_follow.specs.Between.{fresh}
use Rattle.qv_shell_follow.specs.Ending.{run_status}
use Rattle.qv_shell_follow.proofs.Sections.{tally-small}
use Rattle.qv_shell_follow.proofs.ReadOn.{err-run, err-tallied, err-same, end-of, more-of, met-limit}
use Rattle.qv_shell_follow.proofs.Solving.{nothing-solved, starts-between, goes-between, goes-room, run-ended, run-halted, run-broken, run-small}
use Rattle.qv_shell_follow.proofs.following.follow.Goals as goal
use Rattle.qv_sexpr.proofs.Commands.{rose_later}
use Rattle.qv_check_defs.proofs.Pieces.{small-later}

-- the first line of the certificate is cut
pub returns-in_err-put_all-clause-run : goal.returns-in_err-put_all-clause-run
returns-in_err-put_all-clause-run g c =
    let left = g.S.Source.left in
    let r = c.from_residual.result in
    let is = c.from_residual.ensures.1 in
    let part = c.in_err-put_all.ensures.part in
    let status : run_status r ≡ 4 = err-run r halt.Write is in
    let run = nothing-solved c.args.places g.row.S.Denot g.S.Source.read_gives (limits_of c.args.limits) c.args.script.now (left c.args.script.now) (g.O.Sink.held c.args.out.now) (g.P.Sink.held c.args.cert.now) (records_of c.args.meter.now)
    (g.P.Sink.held c.put_all.new.sink) part.0 (run_status r) part.2 (inr (status, part.1)) in
    (run, err-tallied r halt.Write (checks_of run.checks) is)

pub commands-init : goal.commands-init
commands-init g c =
    let left = g.S.Source.left in
    let none : c.args.course.now.tally.checks ≡ 0 = ap (λ (t : Tally). t.checks) c.requires.tally in
    rw c.requires.fresh record {
      between = starts-between c.args.places g.row.S.Denot g.S.Source.read_gives (limits_of c.args.limits) c.args.script.now (left c.args.script.now) (g.O.Sink.held c.args.out.now) (g.P.Sink.held c.args.cert.now) (records_of c.args.meter.now)
          c.args.course.now (g.P.Sink.held c.put_all.new.sink) c.requires.stands c.requires.tally c.in_ok-put_all.ensures.ok;
      shared = c.requires.shared;
      room = omega (arith, none);
      reading = refl;
      small = omega arith;
      given = given_start (left c.args.script.now) fresh.lexer;
      script_count = omega arith;
      out_count = omega arith;
      cert_count = c.put_all.ensures.count;
    }

pub next_move-requires-clause-tally : goal.next_move-requires-clause-tally
next_move-requires-clause-tally g c =
    let i = c.commands.invariant in
    tally-small (checks_of i.between.checks) c.commands.course.tally i.between.counted (omega (arith, i.room, i.small))

-- the reader or the memory gave out
pub returns-in_err-made-clause-run : goal.returns-in_err-made-clause-run
returns-in_err-made-clause-run g c =
    let left = g.S.Source.left in
    let held = g.O.Sink.held in
    let kept = g.P.Sink.held in
    let i = c.commands.invariant in
    let next = c.next_command-next in
    let calls = subst (λ (s : Option Stop). ReadsOnDemand g.S.Source.read_gives c.commands.reader.lexer c.commands.script s next.new.self.lexer next.new.source) next.ensures.stopped (next.ensures.calls i.reading) in
    let r = c.from_residual-in_err-made.result in
    let h = c.in_err-made.field-0.0 in
    let is = c.from_residual-in_err-made.ensures.1 in
    let run = run-halted c.args.places g.row.S.Denot g.S.Source.read_gives (limits_of c.args.limits) c.args.script.now (left c.args.script.now) (held c.args.out.now) (kept c.args.cert.now) (records_of c.args.meter.now)
    c.commands.course c.commands.reader.lexer c.commands.script (to_read c.commands.reader (left c.commands.script)) (held c.commands.out) (kept c.commands.cert) (records_of c.commands.meter)
    i.between next.result next.new.self.lexer next.new.source (to_read next.new.self (left next.new.source)) next.ensures.next calls
    h (records_of c.next_move.new.meter) c.in_err-made.ensures.begun c.in_err-made.ensures.unrecorded (λ read. c.in_err-made.ensures.read (ap Err read)) (λ u. let same = c.in_err-made.ensures.unread u in cc) (λ w. c.in_err-made.ensures.no_write (ap Err w)) in
    let solved = subst (λ (n : ℕ). IsSolved c.args.places g.S.Source.read_gives (limits_of c.args.limits) (left c.args.script.now) c.args.script.now next.new.source (held c.args.out.now) (held c.commands.out) (kept c.args.cert.now) (kept c.commands.cert) (records_of c.args.meter.now) (records_of c.next_move.new.meter) n)
    (sym (err-run r h is)) run in
    (solved, err-tallied r h (checks_of solved.checks) is)

pub returns-in_err-made-clause-read : goal.returns-in_err-made-clause-read
returns-in_err-made-clause-read g c read =
    let left = g.S.Source.left in
    let i = c.commands.invariant in
    let next = c.next_command-next in
    let r = c.from_residual-in_err-made.result in
    elim (c.in_err-made.ensures.read (ap Err (err-same r c.in_err-made.field-0.0 c.from_residual-in_err-made.ensures.1 read))) [
      | inl fault ↦ inl (rose_later _ _ _ i.script_count next.ensures.count (next.ensures.failed i.reading (next.ensures.stopped ∙ fault)).0)
      | inr limit ↦
          let stopped : next.new.self.stopped ≡ Some stop.ReadLimit = next.ensures.stopped ∙ limit in
          let last = subst (λ (s : Option Stop). ReadsOnDemand g.S.Source.read_gives c.commands.reader.lexer c.commands.script s next.new.self.lexer next.new.source) stopped (next.ensures.calls i.reading) in
          inr (met-limit c.args.places g.row.S.Denot g.S.Source.read_gives next.new.self.lexer (left c.args.script.now) (left next.new.source) i.between.followed last
          (given_later (left c.args.script.now) (left c.commands.script) (left next.new.source) fresh.lexer c.commands.reader.lexer c.commands.reader.lexer next.new.self.lexer refl i.given (next.ensures.given i.reading (inr stopped)))
          (next.ensures.limit i.reading stopped).0)
    ]

-- a sink failed
pub returns-in_err-ending-clause-run : goal.returns-in_err-ending-clause-run
returns-in_err-ending-clause-run g c =
    let left = g.S.Source.left in
    let held = g.O.Sink.held in
    let kept = g.P.Sink.held in
    let i = c.commands.invariant in
    let next = c.next_command-next in
    let calls = subst (λ (s : Option Stop). ReadsOnDemand g.S.Source.read_gives c.commands.reader.lexer c.commands.script s next.new.self.lexer next.new.source) next.ensures.stopped (next.ensures.calls i.reading) in
    let r = c.from_residual-in_err-ending.result in
    let h = c.in_err-ending.field-0.0 in
    let is = c.from_residual-in_err-ending.ensures.1 in
    let write : h ≡ halt.Write = let same = c.in_err-ending.ensures.write.0 in cc in
    let status : run_status r ≡ 4 = err-run r h is ∙ ap halt_status write in
    let run = run-broken c.args.places g.row.S.Denot g.S.Source.read_gives (limits_of c.args.limits) c.args.script.now (left c.args.script.now) (held c.args.out.now) (kept c.args.cert.now) (records_of c.args.meter.now)
    c.commands.course c.commands.reader.lexer c.commands.script (to_read c.commands.reader (left c.commands.script)) (held c.commands.out) (kept c.commands.cert) (records_of c.commands.meter)
    i.between next.result next.new.self.lexer next.new.source (to_read next.new.self (left next.new.source)) next.ensures.next calls
    c.in_ok-made.made c.next_move.new.course (held c.write_move.new.out) (kept c.write_move.new.cert) (records_of c.next_move.new.meter)
    (c.in_ok-made.ensures.moves i.between.state i.between.stands) c.in_err-ending.ensures.cut in
    let solved = subst (λ (n : ℕ). IsSolved c.args.places g.S.Source.read_gives (limits_of c.args.limits) (left c.args.script.now) c.args.script.now next.new.source (held c.args.out.now) (held c.write_move.new.out) (kept c.args.cert.now) (kept c.write_move.new.cert) (records_of c.args.meter.now) (records_of c.next_move.new.meter) n)
    (sym status) run in
    (solved, err-tallied r h (checks_of solved.checks) is)

-- the script has ended
pub returns-in-Some-clause-run : goal.returns-in-Some-clause-run
returns-in-Some-clause-run g c =
    let left = g.S.Source.left in
    let held = g.O.Sink.held in
    let kept = g.P.Sink.held in
    let i = c.commands.invariant in
    let next = c.next_command-next in
    let calls = subst (λ (s : Option Stop). ReadsOnDemand g.S.Source.read_gives c.commands.reader.lexer c.commands.script s next.new.self.lexer next.new.source) next.ensures.stopped (next.ensures.calls i.reading) in
    let at : c.in_ok-made.made.after ≡ Ended c.in-Some.ending = end-of c.in_ok-made.made.after c.in-Some.ending (sym c.in-Some.is ∙ c.in_ok-ending.ensures.ending) in
    run-ended c.args.places g.row.S.Denot g.S.Source.read_gives (limits_of c.args.limits) c.args.script.now (left c.args.script.now) (held c.args.out.now) (kept c.args.cert.now) (records_of c.args.meter.now)
    c.commands.course c.commands.reader.lexer c.commands.script (to_read c.commands.reader (left c.commands.script)) (held c.commands.out) (kept c.commands.cert) (records_of c.commands.meter)
    i.between next.result next.new.self.lexer next.new.source (to_read next.new.self (left next.new.source)) next.ensures.next calls
    c.in_ok-made.made c.in-Some.ending c.next_move.new.course (held c.write_move.new.out) (kept c.write_move.new.cert) (records_of c.next_move.new.meter)
    at (c.in_ok-made.ensures.moves i.between.state i.between.stands) c.in_ok-ending.ensures.section c.in_ok-ending.ensures.text

pub returns-in-Some-clause-ends : goal.returns-in-Some-clause-ends
returns-in-Some-clause-ends g c =
    let left = g.S.Source.left in
    let i = c.commands.invariant in
    let next = c.next_command-next in
    let calls = subst (λ (s : Option Stop). ReadsOnDemand g.S.Source.read_gives c.commands.reader.lexer c.commands.script s next.new.self.lexer next.new.source) next.ensures.stopped (next.ensures.calls i.reading) in
    run-small c.args.places g.row.S.Denot g.S.Source.read_gives (limits_of c.args.limits) c.args.script.now (left c.args.script.now) (g.O.Sink.held c.args.out.now) (g.P.Sink.held c.args.cert.now) (records_of c.args.meter.now)
    c.commands.course c.commands.reader.lexer c.commands.script (to_read c.commands.reader (left c.commands.script)) (g.O.Sink.held c.commands.out) (g.P.Sink.held c.commands.cert) (records_of c.commands.meter)
    i.between next.result next.new.self.lexer next.new.source (to_read next.new.self (left next.new.source)) next.ensures.next calls
    c.in_ok-made.made c.in-Some.ending c.next_move.new.course (records_of c.next_move.new.meter)
    (end-of c.in_ok-made.made.after c.in-Some.ending (sym c.in-Some.is ∙ c.in_ok-ending.ensures.ending)) (c.in_ok-made.ensures.moves i.between.state i.between.stands)

pub commands-preserved : goal.commands-preserved
commands-preserved g c =
    let left = g.S.Source.left in
    let held = g.O.Sink.held in
    let kept = g.P.Sink.held in
    let i = c.commands.invariant in
    let next = c.next_command-next in
    let calls = subst (λ (s : Option Stop). ReadsOnDemand g.S.Source.read_gives c.commands.reader.lexer c.commands.script s next.new.self.lexer next.new.source) next.ensures.stopped (next.ensures.calls i.reading) in
    let more : c.in_ok-made.made.after ≡ More = more-of c.in_ok-made.made.after (sym c.in-None.is ∙ c.in_ok-ending.ensures.ending) in
    let on : stop_of next.result ≡ None = c.in_ok-made.ensures.goes_on (subst GoesOn (sym more) tt) in
    let reading : next.new.self.stopped ≡ None = next.ensures.stopped ∙ on in
    let one = goes-room c.args.places g.row.S.Denot g.S.Source.read_gives (limits_of c.args.limits) c.args.script.now (left c.args.script.now) (held c.args.out.now) (kept c.args.cert.now) (records_of c.args.meter.now)
    c.commands.course c.commands.reader.lexer c.commands.script (to_read c.commands.reader (left c.commands.script)) (held c.commands.out) (kept c.commands.cert) (records_of c.commands.meter)
    i.between next.result next.new.self.lexer next.new.source (to_read next.new.self (left next.new.source)) next.ensures.next calls
    c.in_ok-made.made c.next_move.new.course (records_of c.next_move.new.meter) more (c.in_ok-made.ensures.moves i.between.state i.between.stands) in
    record {
      between = goes-between c.args.places g.row.S.Denot g.S.Source.read_gives (limits_of c.args.limits) c.args.script.now (left c.args.script.now) (held c.args.out.now) (kept c.args.cert.now) (records_of c.args.meter.now)
          c.commands.course c.commands.reader.lexer c.commands.script (to_read c.commands.reader (left c.commands.script)) (held c.commands.out) (kept c.commands.cert) (records_of c.commands.meter)
          i.between next.result next.new.self.lexer next.new.source (to_read next.new.self (left next.new.source)) next.ensures.next calls
          c.in_ok-made.made c.next_move.new.course (held c.write_move.new.out) (kept c.write_move.new.cert) (records_of c.next_move.new.meter)
          more (c.in_ok-made.ensures.moves i.between.state i.between.stands) c.in_ok-ending.ensures.section c.in_ok-ending.ensures.text;
      shared = c.in_ok-made.ensures.shared;
      room = omega (arith, one, i.room, next.ensures.forward reading);
      reading = reading;
      small = small-later c.commands.reader.lexer next.new.self.lexer next.ensures.below i.small;
      given = given_later (left c.args.script.now) (left c.commands.script) (left next.new.source) fresh.lexer c.commands.reader.lexer c.commands.reader.lexer next.new.self.lexer refl i.given (next.ensures.given i.reading (inl reading));
      script_count = omega (arith, i.script_count, next.ensures.count);
      out_count = omega (arith, i.out_count, c.write_move.ensures.out_count);
      cert_count = omega (arith, i.cert_count, c.write_move.ensures.cert_count);
    }
