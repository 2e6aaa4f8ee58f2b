use Rattle.std.proofs.Common.{◌≡◌, ◌∙◌, ◌⊎◌, inl, inr, sym, ap, subst, Option, Some, None, Err, ℕ, [], take, arith}
use Rattle.std.specs.Prelude.{flat_map}
use Rattle.qv_cert.specs.CertReader.{to_give}
use Rattle.qv_text.specs.Progress.{fed}
use Rattle.qv_sexpr.specs.declared.answers.Stop.{Stop}
use Rattle.qv_sexpr.specs.declared.answers.Stop.TheVariants as stop
use Rattle.qv_sexpr.specs.Calls.{ReadsOnDemand}
use Rattle.qv_sexpr.specs.Reader.{to_read, stop_of}
use Rattle.qv_check_script.specs.Ending.{status_of, halt_status, run_status}
use Rattle.qv_io.specs.Count.{Rose}
use Rattle.qv_check_script.specs.Turns.{to_come, BetweenCommands, StopsWanting, said, ending_of}
use Rattle.qv_check_defs.specs.Outcome.{answer_line}
use Rattle.qv_check_script.specs.Reading.{IsUnread, EndsAt, ReadsFrom}
use Rattle.qv_check_script.specs.declared.ending.Halt.TheVariants as halt
use Rattle.qv_cert.proofs.Took.{lines-on}
use Rattle.qv_check_lines.proofs.TakenBy.{nothing-took}
use Rattle.qv_check_script.proofs.Limits.{takes-none, takes-on, takes-command, limit-on, limit-command}
use Rattle.qv_check_script.proofs.Wanting.{wants-on}
use Rattle.qv_check_defs.proofs.Pieces.{small-later}
use Rattle.qv_check_script.proofs.Unfinished.{comes-some, short-here}
use Rattle.qv_check_script.proofs.Whole.{cut-here, done-here, cut-within, between-start, between-on, turn-front, turn-ends, turn-on, on-err, err-same, reads-so, ends-done, ends-halted, err-run}
use Rattle.qv_io.proofs.SinkLemmas.{Appends-nothing}
use Rattle.qv_check_script.proofs.following.take_turns.Goals as goal
use Rattle.qv_sexpr.proofs.Commands.{rose_later}

pub turns-init : goal.turns-init
turns-init g c = record {
  between = λ s stands. between-start c.args.places g.S.Source.read_gives c.args.commands.now.lexer c.args.script.now c.args.reader.now.version c.args.course.now s (to_read c.args.commands.now (g.S.Source.left c.args.script.now)) c.args.reader.now.given (to_give c.args.reader.now.rest (g.C.Source.left c.args.cert.now)) (g.O.Sink.held c.args.out.now) stands;
  reading = c.requires.reading;
  begun = c.requires.begun;
  reads = c.requires.reads;
  small = c.requires.small;
  room = c.requires.room;
  script_takes = takes-none g.S.Source.read_gives g.S.Source.left (fed c.args.commands.now.lexer) c.args.script.now;
  cert_takes = nothing-took g.C.Source.read_gives g.C.Source.left c.args.reader.now c.args.cert.now;
  script_count = omega arith;
  cert_count = omega arith;
  out_count = omega arith;
}

pub next_turn-requires-clause-given : goal.next_turn-requires-clause-given
next_turn-requires-clause-given g c =
    (to_read c.turns.commands (g.S.Source.left c.turns.script), to_read c.next_command-next.new.self (g.S.Source.left c.next_command-next.new.source), c.next_command-next.ensures.next)

pub next_turn-requires-clause-stands : goal.next_turn-requires-clause-stands
next_turn-requires-clause-stands g c = let b = (c.turns.invariant.between c.requires.stands.0 c.requires.stands.1).between in (b.state, b.stands)

pub next_turn-requires-clause-room : goal.next_turn-requires-clause-room
next_turn-requires-clause-room g c = omega (arith, c.turns.invariant.room, c.turns.invariant.small)

-- a turn failed: nothing more was written
pub returns-in_err-turn-clause-cut : goal.returns-in_err-turn-clause-cut
returns-in_err-turn-clause-cut g c =
    on-err c.from_residual.result _
    (λ s stands.
    let b = (c.turns.invariant.between s stands).between in
    let whole = to_come c.args.places c.args.reader.now.version c.args.course.now.checks s (to_read c.args.commands.now (g.S.Source.left c.args.script.now)) c.args.reader.now.given (to_give c.args.reader.now.rest (g.C.Source.left c.args.cert.now)) in
    let before = to_come c.args.places c.turns.reader.version c.turns.course.checks b.state (to_read c.turns.commands (g.S.Source.left c.turns.script)) c.turns.reader.given (to_give c.turns.reader.rest (g.C.Source.left c.turns.cert)) in
    cut-here (g.O.Sink.held c.args.out.now) (g.O.Sink.held c.turns.out) (flat_map answer_line b.answers) b.appends whole before b.leads)

pub returns-in_err-turn-clause-read : goal.returns-in_err-turn-clause-read
returns-in_err-turn-clause-read g c read =
    let i = c.turns.invariant in
    let next = c.next_command-next in
    let r = c.from_residual.result in
    elim (c.in_err-turn.ensures.read (ap Err (err-same r c.in_err-turn.field-0.0 c.from_residual.ensures.1 read))) [
      | inl fault ↦ inl (rose_later _ _ _ i.script_count next.ensures.count (next.ensures.failed i.reading (next.ensures.stopped ∙ fault)).0)
      | inr rose ↦ inr (rose_later _ _ _ i.cert_count c.next_turn.ensures.count rose)
    ]

pub returns-in_err-turn-clause-short : goal.returns-in_err-turn-clause-short
returns-in_err-turn-clause-short g c _ s stands =
    let b = (c.turns.invariant.between s stands).between in
    let script = to_read c.turns.commands (g.S.Source.left c.turns.script) in
    let text = to_give c.turns.reader.rest (g.C.Source.left c.turns.cert) in
    let whole = to_come c.args.places c.args.reader.now.version c.args.course.now.checks s (to_read c.args.commands.now (g.S.Source.left c.args.script.now)) c.args.reader.now.given (to_give c.args.reader.now.rest (g.C.Source.left c.args.cert.now)) in
    let before = to_come c.args.places c.turns.reader.version c.turns.course.checks b.state script c.turns.reader.given text in
    short-here (g.O.Sink.held c.args.out.now) (g.O.Sink.held c.turns.out) (flat_map answer_line b.answers) b.appends whole before b.leads
    (comes-some c.args.places c.turns.reader.version c.turns.course.checks b.state script c.turns.reader.given text)

-- the sink failed within a text
pub returns-in_err-ending-clause-cut : goal.returns-in_err-ending-clause-cut
returns-in_err-ending-clause-cut g c =
    let left = g.S.Source.left in
    let rest = g.C.Source.left in
    let held = g.O.Sink.held in
    let next = c.next_command-next in
    let turn = c.next_turn.new in
    let old = to_read c.turns.commands (left c.turns.script) in
    let new = to_read next.new.self (left next.new.source) in
    on-err c.from_residual-in_err-ending.result _
    (λ s stands.
    let b = (c.turns.invariant.between s stands).between in
    let whole = to_come c.args.places c.args.reader.now.version c.args.course.now.checks s (to_read c.args.commands.now (g.S.Source.left c.args.script.now)) c.args.reader.now.given (to_give c.args.reader.now.rest (g.C.Source.left c.args.cert.now)) in
    let before = to_come c.args.places c.turns.reader.version c.turns.course.checks b.state old c.turns.reader.given (to_give c.turns.reader.rest (rest c.turns.cert)) in
    cut-within (held c.args.out.now) (held c.turns.out) (flat_map answer_line b.answers) b.appends whole before b.leads (held c.write_turn.new.out) (said c.in_ok-turn.turn) c.in_err-ending.ensures.cut
    (turn-front c.args.places c.in_ok-turn.turn turn.course b.state old new (stop_of next.result) before _ (c.in_ok-turn.ensures.turns b.state old new b.stands next.ensures.next)))

pub returns-in_err-ending-clause-short : goal.returns-in_err-ending-clause-short
returns-in_err-ending-clause-short g c five =
    let memory = err-same c.from_residual-in_err-ending.result c.in_err-ending.field-0.0 c.from_residual-in_err-ending.ensures.1 five in
    let write = c.in_err-ending.ensures.write.0 in
    absurd cc

-- the check has ended
pub returns-in-Some-clause-done : goal.returns-in-Some-clause-done
returns-in-Some-clause-done g c =
    let left = g.S.Source.left in
    let rest = g.C.Source.left in
    let held = g.O.Sink.held in
    let next = c.next_command-next in
    let turn = c.next_turn.new in
    let old = to_read c.turns.commands (left c.turns.script) in
    let new = to_read next.new.self (left next.new.source) in
    let ends : ending_of c.in_ok-turn.turn ≡ Some c.in-Some.ending = sym c.in_ok-ending.ensures.ending ∙ c.in-Some.is in
    λ s stands.
    let b = (c.turns.invariant.between s stands).between in
    let whole = to_come c.args.places c.args.reader.now.version c.args.course.now.checks s (to_read c.args.commands.now (g.S.Source.left c.args.script.now)) c.args.reader.now.given (to_give c.args.reader.now.rest (g.C.Source.left c.args.cert.now)) in
    let before = to_come c.args.places c.turns.reader.version c.turns.course.checks b.state old c.turns.reader.given (to_give c.turns.reader.rest (rest c.turns.cert)) in
    done-here (held c.args.out.now) (held c.turns.out) (flat_map answer_line b.answers) b.appends whole before b.leads (held c.write_turn.new.out) (said c.in_ok-turn.turn) (status_of c.in-Some.ending) c.in_ok-ending.ensures.done
    (turn-ends c.args.places c.in_ok-turn.turn c.in-Some.ending turn.course b.state old new (stop_of next.result) before _ ends (c.in_ok-turn.ensures.turns b.state old new b.stands next.ensures.next)).1

pub turns-preserved-in-None : goal.turns-preserved-in-None
turns-preserved-in-None g c =
    let left = g.S.Source.left in
    let rest = g.C.Source.left in
    let held = g.O.Sink.held in
    let i = c.turns.invariant in
    let next = c.next_command-next in
    let turn = c.next_turn.new in
    let t = c.in_ok-turn.turn in
    let version = c.turns.reader.version in
    let old = to_read c.turns.commands (left c.turns.script) in
    let new = to_read next.new.self (left next.new.source) in
    let text = to_give c.turns.reader.rest (rest c.turns.cert) in
    let text' = to_give turn.reader.rest (rest turn.cert) in
    let goes : ending_of t ≡ None = sym c.in_ok-ending.ensures.ending ∙ c.in-None.is in
    let on : stop_of next.result ≡ None = c.in_ok-turn.ensures.commands (turn-on t goes) in
    let reader_on = c.in_ok-turn.ensures.goes_on (turn-on t goes) in
    let reading : next.new.self.stopped ≡ None = next.ensures.stopped ∙ on in
    record {
      between = λ s stands.
          let b = i.between s stands in
          let whole = to_come c.args.places c.args.reader.now.version c.args.course.now.checks s (to_read c.args.commands.now (g.S.Source.left c.args.script.now)) c.args.reader.now.given (to_give c.args.reader.now.rest (g.C.Source.left c.args.cert.now)) in
          let start = c.args.commands.now in
          subst
          (λ v. BetweenCommands c.args.places g.S.Source.read_gives s start.lexer c.args.script.now (to_read start (left c.args.script.now)) next.new.self.lexer next.new.source whole v turn.reader.given turn.course new text' (held c.args.out.now) (held c.write_turn.new.out))
          (sym c.next_turn.ensures.version)
          (between-on c.args.places g.S.Source.read_gives s start.lexer c.args.script.now (to_read start (left c.args.script.now)) c.turns.commands.lexer c.turns.script whole version c.turns.reader.given c.turns.course old text (held c.args.out.now) (held c.turns.out) b
          turn.reader.given turn.course new text' (held c.write_turn.new.out) t (stop_of next.result) next.new.self.lexer next.new.source goes
          (c.in_ok-turn.ensures.turns b.between.state old new b.between.stands next.ensures.next) c.in_ok-ending.ensures.done
          (subst (λ (o : Option Stop). ReadsOnDemand g.S.Source.read_gives c.turns.commands.lexer c.turns.script o next.new.self.lexer next.new.source) next.ensures.stopped (next.ensures.calls i.reading)));
      reading = reading;
      begun = reader_on.0;
      reads = reader_on.1;
      small = small-later c.turns.commands.lexer next.new.self.lexer next.ensures.below i.small;
      room = omega (arith, i.room, next.ensures.forward reading, c.next_turn.ensures.checks);
      script_takes = takes-on g.S.Source.read_gives left _ _ _ _ _ _ i.script_takes
          (takes-command g.S.Source.read_gives left c.turns.commands.lexer next.new.self.lexer c.turns.script next.new.source
          (subst (λ (s : Option Stop). ReadsOnDemand g.S.Source.read_gives c.turns.commands.lexer c.turns.script s next.new.self.lexer next.new.source) reading (next.ensures.calls i.reading))
          (next.ensures.given i.reading (inl reading)));
      cert_takes = lines-on g.C.Source.read_gives rest c.args.reader.now c.turns.reader c.args.cert.now c.turns.cert turn.cert turn.reader.given turn.reader.rest turn.reader.taken i.cert_takes (c.in_ok-turn.ensures.takes (turn-on t goes));
      script_count = omega (arith, i.script_count, next.ensures.count);
      cert_count = omega (arith, i.cert_count, c.next_turn.ensures.count);
      out_count = omega (arith, i.out_count, c.write_turn.ensures.out_count);
    }

-- the limit was met
pub returns-in_err-turn-clause-limit : goal.returns-in_err-turn-clause-limit
returns-in_err-turn-clause-limit g c met =
    let left = g.S.Source.left in
    let i = c.turns.invariant in
    let next = c.next_command-next in
    let r = c.from_residual.result in
    elim (c.in_err-turn.ensures.limit (ap Err (err-same r c.in_err-turn.field-0.0 c.from_residual.ensures.1 met))) [
      | inl limit ↦
          let stopped : next.new.self.stopped ≡ Some stop.ReadLimit = next.ensures.stopped ∙ limit in
          inl (limit-on g.S.Source.read_gives left _ _ _ _ _ i.script_takes
          (limit-command g.S.Source.read_gives left c.turns.commands.lexer next.new.self.lexer c.turns.script next.new.source
          (subst (λ (s : Option Stop). ReadsOnDemand g.S.Source.read_gives c.turns.commands.lexer c.turns.script s next.new.self.lexer next.new.source) stopped (next.ensures.calls i.reading))
          (next.ensures.given i.reading (inr stopped)) (next.ensures.limit i.reading stopped).0))
      | inr limit ↦ inr (λ s stands.
          let b = (i.between s stands).between in
          let old = to_read c.turns.commands (left c.turns.script) in
          let new = to_read next.new.self (left next.new.source) in
          let whole = to_come c.args.places c.args.reader.now.version c.args.course.now.checks s (to_read c.args.commands.now (left c.args.script.now)) c.args.reader.now.given (to_give c.args.reader.now.rest (g.C.Source.left c.args.cert.now)) in
          let before = to_come c.args.places c.turns.reader.version c.turns.course.checks b.state old c.turns.reader.given (to_give c.turns.reader.rest (g.C.Source.left c.turns.cert)) in
          wants-on c.args.places g.C.Source.read_gives g.C.Source.left c.args.reader.now c.turns.reader c.next_turn.new.reader c.args.cert.now c.turns.cert c.next_turn.new.cert whole before (flat_map answer_line b.answers) i.cert_takes b.leads
          (limit b.state old new b.stands next.ensures.next))
    ]

-- how far the script was read
pub returns-in_err-turn-clause-reading : goal.returns-in_err-turn-clause-reading
returns-in_err-turn-clause-reading g c s stands =
    let left = g.S.Source.left in
    let held = g.O.Sink.held in
    let i = c.turns.invariant in
    let b = i.between s stands in
    let next = c.next_command-next in
    let r = c.from_residual.result in
    let h = c.in_err-turn.field-0.0 in
    let is = c.from_residual.ensures.1 in
    let start = c.args.commands.now in
    let old = to_read c.turns.commands (left c.turns.script) in
    let text = to_give c.turns.reader.rest (g.C.Source.left c.turns.cert) in
    let whole = to_come c.args.places c.args.reader.now.version c.args.course.now.checks s (to_read start (left c.args.script.now)) c.args.reader.now.given (to_give c.args.reader.now.rest (g.C.Source.left c.args.cert.now)) in
    let unread : Type 0 = Rose (g.C.Source.faults c.args.cert.now) (g.C.Source.faults c.next_turn.new.cert) ⊎ StopsWanting g.C.Source.read_gives g.C.Source.left c.args.reader.now c.args.cert.now c.next_turn.new.reader c.next_turn.new.cert whole in
    let read : h ≡ halt.Read → IsUnread (stop_of next.result) ⊎ unread = λ k.
    elim (c.in_err-turn.ensures.read (ap Err k)) [
      | inl fault ↦ inl (inl fault)
      | inr rose ↦ inr (inl (rose_later _ _ _ i.cert_count c.next_turn.ensures.count rose))
    ] in
    let limit : h ≡ halt.ReadLimit → IsUnread (stop_of next.result) ⊎ unread = λ k.
    elim (c.in_err-turn.ensures.limit (ap Err k)) [
      | inl limit ↦ inl (inr limit)
      | inr limit ↦ inr (inr (wants-on c.args.places g.C.Source.read_gives g.C.Source.left c.args.reader.now c.turns.reader c.next_turn.new.reader c.args.cert.now c.turns.cert c.next_turn.new.cert whole
          (to_come c.args.places c.turns.reader.version c.turns.course.checks b.between.state old c.turns.reader.given text) (flat_map answer_line b.between.answers) i.cert_takes b.between.leads
          (limit b.between.state old (to_read next.new.self (left next.new.source)) b.between.stands next.ensures.next)))
    ] in
    let ends : EndsAt c.args.places unread b.between.state old (stop_of next.result) (halt_status h) = ends-halted c.args.places unread b.between.state old (stop_of next.result) h read limit
    (λ u. elim (c.in_err-turn.ensures.unread u) [ inl k ↦ inl cc | inr k ↦ inr cc ]) in
    subst (λ n. ReadsFrom c.args.places g.S.Source.read_gives unread s start.lexer c.args.script.now (to_read start (left c.args.script.now)) (held c.args.out.now) (held c.turns.out) n next.new.source) (sym (err-run r h is))
    (reads-so c.args.places g.S.Source.read_gives s start.lexer c.args.script.now (to_read start (left c.args.script.now)) c.turns.commands.lexer c.turns.script whole c.turns.reader.version c.turns.reader.given c.turns.course old text (held c.args.out.now) (held c.turns.out) b
    unread [] (held c.turns.out) (stop_of next.result) next.new.self.lexer next.new.source (halt_status h) (Appends-nothing (held c.turns.out))
    (subst (λ (o : Option Stop). ReadsOnDemand g.S.Source.read_gives c.turns.commands.lexer c.turns.script o next.new.self.lexer next.new.source) next.ensures.stopped (next.ensures.calls i.reading)) ends)

pub returns-in_err-ending-clause-reading : goal.returns-in_err-ending-clause-reading
returns-in_err-ending-clause-reading g c s stands =
    let left = g.S.Source.left in
    let held = g.O.Sink.held in
    let i = c.turns.invariant in
    let b = i.between s stands in
    let next = c.next_command-next in
    let r = c.from_residual-in_err-ending.result in
    let h = c.in_err-ending.field-0.0 in
    let is = c.from_residual-in_err-ending.ensures.1 in
    let start = c.args.commands.now in
    let old = to_read c.turns.commands (left c.turns.script) in
    let text = to_give c.turns.reader.rest (g.C.Source.left c.turns.cert) in
    let whole = to_come c.args.places c.args.reader.now.version c.args.course.now.checks s (to_read start (left c.args.script.now)) c.args.reader.now.given (to_give c.args.reader.now.rest (g.C.Source.left c.args.cert.now)) in
    let unread : Type 0 = Rose (g.C.Source.faults c.args.cert.now) (g.C.Source.faults c.next_turn.new.cert) ⊎ StopsWanting g.C.Source.read_gives g.C.Source.left c.args.reader.now c.args.cert.now c.next_turn.new.reader c.next_turn.new.cert whole in
    let write : h ≡ halt.Write = let same = c.in_err-ending.ensures.write.0 in cc in
    let part = c.in_err-ending.ensures.cut in
    let ends : EndsAt c.args.places unread b.between.state old (stop_of next.result) (halt_status h) = ends-halted c.args.places unread b.between.state old (stop_of next.result) h (λ k. absurd cc) (λ k. absurd cc)
    (λ u. elim (c.in_ok-turn.ensures.unread u) [ inl k ↦ absurd cc | inr k ↦ absurd cc ]) in
    subst (λ n. ReadsFrom c.args.places g.S.Source.read_gives unread s start.lexer c.args.script.now (to_read start (left c.args.script.now)) (held c.args.out.now) (held c.write_turn.new.out) n next.new.source) (sym (err-run r h is))
    (reads-so c.args.places g.S.Source.read_gives s start.lexer c.args.script.now (to_read start (left c.args.script.now)) c.turns.commands.lexer c.turns.script whole c.turns.reader.version c.turns.reader.given c.turns.course old text (held c.args.out.now) (held c.turns.out) b
    unread (take part.0 (said c.in_ok-turn.turn)) (held c.write_turn.new.out) (stop_of next.result) next.new.self.lexer next.new.source (halt_status h) part.2
    (subst (λ (o : Option Stop). ReadsOnDemand g.S.Source.read_gives c.turns.commands.lexer c.turns.script o next.new.self.lexer next.new.source) next.ensures.stopped (next.ensures.calls i.reading)) ends)

pub returns-in-Some-clause-reading : goal.returns-in-Some-clause-reading
returns-in-Some-clause-reading g c s stands =
    let left = g.S.Source.left in
    let held = g.O.Sink.held in
    let i = c.turns.invariant in
    let b = i.between s stands in
    let next = c.next_command-next in
    let turn = c.next_turn.new in
    let start = c.args.commands.now in
    let old = to_read c.turns.commands (left c.turns.script) in
    let new = to_read next.new.self (left next.new.source) in
    let text = to_give c.turns.reader.rest (g.C.Source.left c.turns.cert) in
    let whole = to_come c.args.places c.args.reader.now.version c.args.course.now.checks s (to_read start (left c.args.script.now)) c.args.reader.now.given (to_give c.args.reader.now.rest (g.C.Source.left c.args.cert.now)) in
    let unread : Type 0 = Rose (g.C.Source.faults c.args.cert.now) (g.C.Source.faults c.next_turn.new.cert) ⊎ StopsWanting g.C.Source.read_gives g.C.Source.left c.args.reader.now c.args.cert.now c.next_turn.new.reader c.next_turn.new.cert whole in
    let at : ending_of c.in_ok-turn.turn ≡ Some c.in-Some.ending = sym c.in_ok-ending.ensures.ending ∙ c.in-Some.is in
    let shows = (turn-ends c.args.places c.in_ok-turn.turn c.in-Some.ending turn.course b.between.state old new (stop_of next.result) _ _ at (c.in_ok-turn.ensures.turns b.between.state old new b.between.stands next.ensures.next)).0 in
    reads-so c.args.places g.S.Source.read_gives s start.lexer c.args.script.now (to_read start (left c.args.script.now)) c.turns.commands.lexer c.turns.script whole c.turns.reader.version c.turns.reader.given c.turns.course old text (held c.args.out.now) (held c.turns.out) b
    unread (said c.in_ok-turn.turn) (held c.write_turn.new.out) (stop_of next.result) next.new.self.lexer next.new.source (status_of c.in-Some.ending) c.in_ok-ending.ensures.done
    (subst (λ (o : Option Stop). ReadsOnDemand g.S.Source.read_gives c.turns.commands.lexer c.turns.script o next.new.self.lexer next.new.source) next.ensures.stopped (next.ensures.calls i.reading))
    (ends-done c.args.places unread b.between.state old (stop_of next.result) c.in-Some.ending shows (λ u. elim (c.in_ok-turn.ensures.unread u) [ inl k ↦ cc | inr k ↦ cc ]))
