use Rattle.std.proofs.Common.{subst}
use Rattle.qv_words.specs.GameLaws.{HasWon}
use Rattle.qv_store.specs.declared.problem.Quant.{Quant}
use Rattle.qv_store.specs.Problems.{problem_in, quantifier_of}
use Rattle.qv_entries.specs.Rows.{entries_in}
use Rattle.qv_solve.proofs.answering.answer_won.Goals as goal

pub answer_sat-requires-clause-won : goal.answer_sat-requires-clause-won
answer_sat-requires-clause-won c =
    subst (λ (q : Quant). HasWon (problem_in c.args.store.now c.args.problem.now) (quantifier_of q) (entries_in c.args.store.now c.args.played.now.won.entries)) c.in-Exists.is c.requires.won

pub answer_unsat-requires-clause-won : goal.answer_unsat-requires-clause-won
answer_unsat-requires-clause-won c =
    subst (λ (q : Quant). HasWon (problem_in c.args.store.now c.args.problem.now) (quantifier_of q) (entries_in c.args.store.now c.args.played.now.won.entries)) c.in-Forall.is c.requires.won
