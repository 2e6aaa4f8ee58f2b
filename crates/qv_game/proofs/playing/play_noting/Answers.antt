use Rattle.std.proofs.Common.{refl, ap, map}
use Rattle.qv_store.specs.Problems.{place_of, problem_in}
use Rattle.qv_store.proofs.Replacement.{grows-more}
use Rattle.qv_game_state.proofs.Counting.{same-transitive}
use Rattle.qv_game_state.proofs.Entered.{grows-none}
use Rattle.qv_game.proofs.Rounds.{charged-none, decided-charged, decided-played, decided-rows, decided-unspent, decided-won, may-play, none-there, some-there}
use Rattle.qv_game.proofs.Kept.{kept-none, won-by}
use Rattle.qv_game.proofs.playing.play_noting.Goals as goal

pub returns-then-is_empty-clause-played : goal.returns-then-is_empty-clause-played
returns-then-is_empty-clause-played c =
    let p = problem_in c.args.store.now c.args.problem.now in
    decided-played c.args.store.now p c.decide.result (record { none = c.decide.ensures.none; won = c.decide.ensures.won })

pub returns-then-is_empty-clause-won : goal.returns-then-is_empty-clause-won
returns-then-is_empty-clause-won c =
    let p = problem_in c.args.store.now c.args.problem.now in
    decided-won c.args.store.now p c.decide.result (record { none = c.decide.ensures.none; won = c.decide.ensures.won })

pub returns-then-is_empty-clause-rows : goal.returns-then-is_empty-clause-rows
returns-then-is_empty-clause-rows c =
    let p = problem_in c.args.store.now c.args.problem.now in
    decided-rows c.args.store.now p c.decide.result (record { none = c.decide.ensures.none; won = c.decide.ensures.won })

pub returns-then-is_empty-clause-charged : goal.returns-then-is_empty-clause-charged
returns-then-is_empty-clause-charged c =
    let p = problem_in c.args.store.now c.args.problem.now in
    let prefix = c.args.problem.now.prefix in
    let none = none-there prefix.items _ c.is_empty.result prefix.ok.0 c.is_empty.ensures c.if-is_empty.true in
    decided-charged p c.decide.result c.args.meter.now (record { none = c.decide.ensures.none; won = c.decide.ensures.won })
    (charged-none p c.args.meter.now (ap (map place_of) none) c.requires.«record» c.newest-record.ensures.metering)

pub returns-then-is_empty-clause-kept : goal.returns-then-is_empty-clause-kept
returns-then-is_empty-clause-kept c =
    let prefix = c.args.problem.now.prefix in
    let none = none-there prefix.items _ c.is_empty.result prefix.ok.0 c.is_empty.ensures c.if-is_empty.true in
    kept-none c.args.store.now (problem_in c.args.store.now c.args.problem.now) c.decide.result c.args.meter.now (ap (map place_of) none) c.decide.ensures.lane

pub returns-then-is_empty-clause-counts : goal.returns-then-is_empty-clause-counts
returns-then-is_empty-clause-counts c = refl

pub returns-then-is_empty-clause-spent : goal.returns-then-is_empty-clause-spent
returns-then-is_empty-clause-spent c = decided-unspent c.decide.result c.args.meter.now c.decide.ensures.unspent

pub returns-then-is_empty-clause-grows : goal.returns-then-is_empty-clause-grows
returns-then-is_empty-clause-grows c = grows-none c.args.store.now

pub take_turns-requires : goal.take_turns-requires
take_turns-requires c =
    let given = c.in_ok-game.ensures.game in
    let prefix = c.args.problem.now.prefix in
    let some = some-there prefix.items _ c.is_empty.result prefix.ok.0 c.is_empty.ensures c.if-is_empty.false in (
      problem_in c.args.store.now c.args.problem.now,
      given.0,
      may-play c.args.store.now c.start.new.store c.args.problem.now given.0 c.in_ok-game.game c.start.new.meter c.requires.posed c.start.ensures.grows some given.1 c.in_ok-game.ensures.none,
    )

pub returns-in_err-winner-clause-counts : goal.returns-in_err-winner-clause-counts
returns-in_err-winner-clause-counts c = same-transitive c.args.meter.now c.start.new.meter c.take_turns.new.meter c.start.ensures.counts c.take_turns.ensures.counts

pub returns-in_err-winner-clause-grows : goal.returns-in_err-winner-clause-grows
returns-in_err-winner-clause-grows c = grows-more c.args.store.now c.start.new.store c.take_turns.new.store c.start.ensures.grows c.take_turns.ensures.grows

pub returns-clause-played : goal.returns-clause-played
returns-clause-played c =
    let p = problem_in c.args.store.now c.args.problem.now in
    let given = c.in_ok-game.ensures.game in
    let prefix = c.args.problem.now.prefix in
    let some = some-there prefix.items _ c.is_empty.result prefix.ok.0 c.is_empty.ensures c.if-is_empty.false in
    let may = may-play c.args.store.now c.start.new.store c.args.problem.now given.0 c.in_ok-game.game c.start.new.meter c.requires.posed c.start.ensures.grows some given.1 c.in_ok-game.ensures.none in
    let over = c.in_ok-winner.ensures.won p given.0 may in
    (won-by c.take_turns.new.store p given.0 c.take_turns.new.game c.take_turns.new.meter c.in_ok-winner.winner c.played_of.result over c.played_of.ensures.winner c.played_of.ensures.entries c.played_of.ensures.lane).played

pub returns-clause-won : goal.returns-clause-won
returns-clause-won c =
    let p = problem_in c.args.store.now c.args.problem.now in
    let given = c.in_ok-game.ensures.game in
    let prefix = c.args.problem.now.prefix in
    let some = some-there prefix.items _ c.is_empty.result prefix.ok.0 c.is_empty.ensures c.if-is_empty.false in
    let may = may-play c.args.store.now c.start.new.store c.args.problem.now given.0 c.in_ok-game.game c.start.new.meter c.requires.posed c.start.ensures.grows some given.1 c.in_ok-game.ensures.none in
    let over = c.in_ok-winner.ensures.won p given.0 may in
    (won-by c.take_turns.new.store p given.0 c.take_turns.new.game c.take_turns.new.meter c.in_ok-winner.winner c.played_of.result over c.played_of.ensures.winner c.played_of.ensures.entries c.played_of.ensures.lane).won

pub returns-clause-rows : goal.returns-clause-rows
returns-clause-rows c =
    let p = problem_in c.args.store.now c.args.problem.now in
    let given = c.in_ok-game.ensures.game in
    let prefix = c.args.problem.now.prefix in
    let some = some-there prefix.items _ c.is_empty.result prefix.ok.0 c.is_empty.ensures c.if-is_empty.false in
    let may = may-play c.args.store.now c.start.new.store c.args.problem.now given.0 c.in_ok-game.game c.start.new.meter c.requires.posed c.start.ensures.grows some given.1 c.in_ok-game.ensures.none in
    let over = c.in_ok-winner.ensures.won p given.0 may in
    (won-by c.take_turns.new.store p given.0 c.take_turns.new.game c.take_turns.new.meter c.in_ok-winner.winner c.played_of.result over c.played_of.ensures.winner c.played_of.ensures.entries c.played_of.ensures.lane).rows

pub returns-clause-charged : goal.returns-clause-charged
returns-clause-charged c =
    let p = problem_in c.args.store.now c.args.problem.now in
    let given = c.in_ok-game.ensures.game in
    let prefix = c.args.problem.now.prefix in
    let some = some-there prefix.items _ c.is_empty.result prefix.ok.0 c.is_empty.ensures c.if-is_empty.false in
    let may = may-play c.args.store.now c.start.new.store c.args.problem.now given.0 c.in_ok-game.game c.start.new.meter c.requires.posed c.start.ensures.grows some given.1 c.in_ok-game.ensures.none in
    let over = c.in_ok-winner.ensures.won p given.0 may in
    (won-by c.take_turns.new.store p given.0 c.take_turns.new.game c.take_turns.new.meter c.in_ok-winner.winner c.played_of.result over c.played_of.ensures.winner c.played_of.ensures.entries c.played_of.ensures.lane).charged

pub returns-clause-kept : goal.returns-clause-kept
returns-clause-kept c =
    let p = problem_in c.args.store.now c.args.problem.now in
    let given = c.in_ok-game.ensures.game in
    let prefix = c.args.problem.now.prefix in
    let some = some-there prefix.items _ c.is_empty.result prefix.ok.0 c.is_empty.ensures c.if-is_empty.false in
    let may = may-play c.args.store.now c.start.new.store c.args.problem.now given.0 c.in_ok-game.game c.start.new.meter c.requires.posed c.start.ensures.grows some given.1 c.in_ok-game.ensures.none in
    let over = c.in_ok-winner.ensures.won p given.0 may in
    (won-by c.take_turns.new.store p given.0 c.take_turns.new.game c.take_turns.new.meter c.in_ok-winner.winner c.played_of.result over c.played_of.ensures.winner c.played_of.ensures.entries c.played_of.ensures.lane).kept

pub returns-clause-counts : goal.returns-clause-counts
returns-clause-counts c = same-transitive c.args.meter.now c.start.new.meter c.take_turns.new.meter c.start.ensures.counts c.take_turns.ensures.counts

pub returns-clause-grows : goal.returns-clause-grows
returns-clause-grows c = grows-more c.args.store.now c.start.new.store c.take_turns.new.store c.start.ensures.grows c.take_turns.ensures.grows
