use Rattle.std.proofs.Common.{length, sym, subst}
use Rattle.qv_words.specs.Problem.{Problem}
use Rattle.qv_words.specs.GameLaws.{HasWon}
use Rattle.qv_store.specs.Problems.{quantifier_of}
use Rattle.qv_store.proofs.Replacement.{grows-more, if-ok}
use Rattle.qv_entries.specs.Rows.{entries_in}
use Rattle.qv_meter.specs.Played.{IsPlayed}
use Rattle.qv_expand.proofs.OneLine.{posed-grown, problem-grown}
use Rattle.qv_game.specs.Starting.{HasCharged}
use Rattle.qv_game.proofs.Counting.{same-transitive}
use Rattle.qv_solve_draw.specs.Values.{AreExistential}
use Rattle.qv_solve.specs.Answering.{IsSolution}
use Rattle.qv_solve.proofs.answering.answer.Goals as goal

pub answer_won-requires-clause-posed : goal.answer_won-requires-clause-posed
answer_won-requires-clause-posed c = posed-grown c.args.store.now c.play_noting.new.store c.play_noting.ensures.grows c.args.problem.now c.requires.posed

pub answer_won-requires-clause-first : goal.answer_won-requires-clause-first
answer_won-requires-clause-first c =
    let same = problem-grown c.args.store.now c.play_noting.new.store c.play_noting.ensures.grows c.args.problem.now c.requires.posed in
    subst (λ (p : Problem). AreExistential p (length c.args.problem.now.constants.items)) (sym same) c.requires.first

pub answer_won-requires-clause-played : goal.answer_won-requires-clause-played
answer_won-requires-clause-played c =
    let same = problem-grown c.args.store.now c.play_noting.new.store c.play_noting.ensures.grows c.args.problem.now c.requires.posed in
    subst (λ (p : Problem). IsPlayed p (entries_in c.play_noting.new.store c.in_ok-played.played.won.entries)) (sym same) c.in_ok-played.ensures.played

pub answer_won-requires-clause-won : goal.answer_won-requires-clause-won
answer_won-requires-clause-won c =
    let same = problem-grown c.args.store.now c.play_noting.new.store c.play_noting.ensures.grows c.args.problem.now c.requires.posed in
    subst (λ (p : Problem). HasWon p (quantifier_of c.in_ok-played.played.won.winner) (entries_in c.play_noting.new.store c.in_ok-played.played.won.entries)) (sym same) c.in_ok-played.ensures.won

pub answer_won-requires-clause-record : goal.answer_won-requires-clause-record
answer_won-requires-clause-record c =
    let same = problem-grown c.args.store.now c.play_noting.new.store c.play_noting.ensures.grows c.args.problem.now c.requires.posed in
    subst (λ (p : Problem). HasCharged p (length c.in_ok-played.played.won.entries) c.play_noting.new.meter) (sym same) c.in_ok-played.ensures.charged

pub returns-clause-solution : goal.returns-clause-solution
returns-clause-solution c =
    let same = problem-grown c.args.store.now c.play_noting.new.store c.play_noting.ensures.grows c.args.problem.now c.requires.posed in
    if-ok c.answer_won.result (λ s h. subst (λ (p : Problem). IsSolution p c.args.number c.args.problem.now.constants.items c.answer_won.new.meter s) same h) c.answer_won.ensures.solution

pub returns-clause-counts : goal.returns-clause-counts
returns-clause-counts c = same-transitive c.args.meter.now c.play_noting.new.meter c.answer_won.new.meter c.play_noting.ensures.counts c.answer_won.ensures.counts

pub returns-clause-grows : goal.returns-clause-grows
returns-clause-grows c = grows-more c.args.store.now c.play_noting.new.store c.answer_won.new.store c.play_noting.ensures.grows c.answer_won.ensures.grows
