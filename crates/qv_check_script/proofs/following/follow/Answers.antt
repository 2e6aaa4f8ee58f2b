use Rattle.std.proofs.Common.{◌≡◌, ◌⊎◌, inl, inr, Some, [], option_map, sym, subst}
use Rattle.qv_io.specs.Count.{Rose}
use Rattle.qv_sexpr.specs.Calls.{nothing}
use Rattle.qv_sexpr.specs.declared.answers.Stop.TheVariants as stop
use Rattle.qv_check_script.specs.declared.ending.Halt.TheVariants as halt
use Rattle.qv_check_script.specs.Reading.{ReadsFrom, at_start, unfed}
use Rattle.qv_io.proofs.SinkLemmas.{Appends-nothing}
use Rattle.qv_cert.specs.CertReader.{to_give}
use Rattle.qv_sexpr.specs.Script.{reads}
use Rattle.qv_script_defs.specs.State.{opening}
use Rattle.qv_check_script.specs.Turns.{to_come, StopsWanting}
use Rattle.qv_check_script.proofs.Leading.{ok-weaker}
use Rattle.qv_check_script.proofs.Unfinished.{comes-some, short-here}
use Rattle.qv_check_script.proofs.Whole.{cut-here, nothing-front, on-err, err-weaker, ends-halted, err-run}
use Rattle.qv_check_script.proofs.following.follow.Goals as goal

pub returns-in_err-commands-clause-cut : goal.returns-in_err-commands-clause-cut
returns-in_err-commands-clause-cut g c =
    let held = g.O.Sink.held c.args.out.now in
    let whole = to_come c.args.places c.args.reader.now.version 0 opening (option_map reads (g.S.Source.left c.args.script.now)) c.args.reader.now.given (to_give c.args.reader.now.rest (g.C.Source.left c.args.cert.now)) in
    on-err c.from_residual.result _ (cut-here held held [] (Appends-nothing held) whole whole (nothing-front whole))

pub returns-in_err-commands-clause-short : goal.returns-in_err-commands-clause-short
returns-in_err-commands-clause-short g c _ =
    let held = g.O.Sink.held c.args.out.now in
    let script = option_map reads (g.S.Source.left c.args.script.now) in
    let text = to_give c.args.reader.now.rest (g.C.Source.left c.args.cert.now) in
    let whole = to_come c.args.places c.args.reader.now.version 0 opening script c.args.reader.now.given text in
    short-here held held [] (Appends-nothing held) whole whole (nothing-front whole) (comes-some c.args.places c.args.reader.now.version 0 opening script c.args.reader.now.given text)

pub take_turns-requires-clause-stands : goal.take_turns-requires-clause-stands
take_turns-requires-clause-stands g c = (opening, c.new-course.ensures.stands)

pub returns-clause-done : goal.returns-clause-done
returns-clause-done g c = ok-weaker c.take_turns.result _ _ c.take_turns.ensures.done (λ ending go. rw (c.in_ok-commands.ensures, c.new-course.ensures.checks) at (go opening c.new-course.ensures.stands))

pub returns-clause-cut : goal.returns-clause-cut
returns-clause-cut g c = err-weaker c.take_turns.result _ _ c.take_turns.ensures.cut (λ go. rw (c.in_ok-commands.ensures, c.new-course.ensures.checks) at (go opening c.new-course.ensures.stands))

pub returns-clause-short : goal.returns-clause-short
returns-clause-short g c five = rw (c.in_ok-commands.ensures, c.new-course.ensures.checks) at (c.take_turns.ensures.short five opening c.new-course.ensures.stands)

pub returns-clause-limit : goal.returns-clause-limit
returns-clause-limit g c = λ met.
    elim (c.take_turns.ensures.limit met) [
      | inl limit ↦ inl (rw c.in_ok-commands.ensures at limit)
      | inr limit ↦ inr (rw (c.in_ok-commands.ensures, c.new-course.ensures.checks) at (limit opening c.new-course.ensures.stands))
    ]

-- nothing was read
pub returns-in_err-commands-clause-reading : goal.returns-in_err-commands-clause-reading
returns-in_err-commands-clause-reading g c =
    let held = g.O.Sink.held c.args.out.now in
    let script = option_map reads (g.S.Source.left c.args.script.now) in
    let r = c.from_residual.result in
    let is = c.from_residual.ensures.1 in
    let unread : Type 0 = Rose (g.C.Source.faults c.args.cert.now) (g.C.Source.faults c.args.cert.now) ⊎ StopsWanting g.C.Source.read_gives g.C.Source.left c.args.reader.now c.args.cert.now c.args.reader.now c.args.cert.now (to_come c.args.places c.args.reader.now.version 0 opening script c.args.reader.now.given (to_give c.args.reader.now.rest (g.C.Source.left c.args.cert.now))) in
    subst (λ n. ReadsFrom c.args.places g.S.Source.read_gives unread opening unfed c.args.script.now script held held n c.args.script.now) (sym (err-run r halt.NoMemory is))
    (record {
      answers = [];
      part = [];
      prints = Appends-nothing held;
      old = unfed;
      now = c.args.script.now;
      still = script;
      state = opening;
      passed = at_start;
      stop = Some stop.NoMemory;
      new = unfed;
      last = inl nothing;
      ends = ends-halted c.args.places unread opening script (Some stop.NoMemory) halt.NoMemory (λ k. absurd cc) (λ k. absurd cc) (λ u. elim u [ inl k ↦ absurd cc | inr k ↦ absurd cc ]);
    })

pub returns-clause-reading : goal.returns-clause-reading
returns-clause-reading g c = rw (c.in_ok-commands.ensures, c.new-course.ensures.checks) at (c.take_turns.ensures.reading opening c.new-course.ensures.stands)
