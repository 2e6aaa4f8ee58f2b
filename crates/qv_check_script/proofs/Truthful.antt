-- What is accepted beside a script is true.
use Rattle.std.proofs.Common.{◌≡◌, Bool, true, false, refl, Option, Some, None, List, [], ◌∷◌, ℕ, codes}
use Rattle.std.specs.Prelude.{Ok, Err, nat_lt, length, if◌then◌else◌}
use Rattle.qv_words.specs.declared.op.Answer.{Answer}
use Rattle.qv_words.specs.declared.op.Answer.TheVariants.{Sat, Unsat, Unknown}
use Rattle.qv_words.specs.Tree.{Tree}
use Rattle.qv_words.specs.Problem.{problem_of}
use Rattle.qv_words.specs.Truth.{IsAssertion, HaveOneSort}
use Rattle.std.specs.Prelude.{All}
use Rattle.qv_prenex_laws.proofs.LawfulProblems.{problems-are-lawful}
use Rattle.qv_prenex_laws.proofs.PrenexRight.{prenex-theorem}
use Rattle.qv_sexpr.specs.Script.{reads, stops}
use Rattle.qv_sexpr.specs.Script.{Script as Commands, Tree as Expr, command as stands}
use Rattle.qv_elab_defs.specs.Tokens.{place_of}
use Rattle.qv_elab_defs.specs.Written.{HasTokens}
use Rattle.qv_script_defs.specs.Faults.{refusal}
use Rattle.qv_script_defs.specs.State.{State, opening, answered, no_counts}
use Rattle.qv_script_defs.specs.StateLaws.{IsReached, opens, moves, answers}
use Rattle.qv_script_defs.specs.Moves.{Quiet, Text, Check, Values, Whole, Core, Exit, Move}
use Rattle.qv_script_defs.specs.Commands.{after}
use Rattle.qv_script_defs.proofs.Commanding.{checks-are_lawful}
use Rattle.qv_script_texts.specs.EndLines.{fault_at_end}
use Rattle.qv_check_laws.specs.Verdict.{Script, Asks, Stops, answers_of, verdict}
use Rattle.qv_check_laws.specs.VerdictLaws.{AsksOfProblems}
use Rattle.qv_check_laws.specs.AnswerLaws.{IsTrueOf, AreTrueFor}
use Rattle.qv_check_laws.proofs.Answers.{verdicts-are-true}
use Rattle.qv_check_defs.specs.Beside.{last_of, behind, at_end, beside}
use Rattle.qv_check_script.specs.BesideLaws.{IsTrueAnswer, AreTrueBehind, AreTrueAnswers, AnswersAreTrue}
use Rattle.qv_check_defs.proofs.Tokens.{IsWritten, reads-written}

either-asks : (b : Bool) (x y : Script (List ℕ)) → AsksOfProblems x → AsksOfProblems y → AsksOfProblems (if b then x else y)
either-asks true x y h k = h
either-asks false x y h k = k

end-asks : (o : Option (List ℕ)) → AsksOfProblems (at_end o)
end-asks None = tt
end-asks (Some fault) = tt

-- beside a script whose atoms are tokens lawful problems alone are asked for
module _ (places : ℕ) (rest : Commands) (again : (t : State) → IsReached t → AsksOfProblems (beside places t rest)) (s : State) (e : Expr) (h : IsReached s) (w : HasTokens e) where
  behind-asks : (m : Move) → after s e ≡ m → AsksOfProblems (behind places (λ t. beside places t rest) e m)
  behind-asks (Err fault) is = tt
  behind-asks (Ok (now, Quiet)) is = again now (moves s now e Quiet h w is)
  behind-asks (Ok (now, Text words)) is = again now (moves s now e (Text words) h w is)
  behind-asks (Ok (now, Values terms)) is = again now (moves s now e (Values terms) h w is)
  behind-asks (Ok (now, Whole)) is = again now (moves s now e Whole h w is)
  behind-asks (Ok (now, Core trees named)) is = again now (moves s now e (Core trees named) h w is)
  behind-asks (Ok (now, Exit)) is = tt
  behind-asks (Ok (now, Check trees)) is =
      let lawful = checks-are_lawful s now e trees h w is in
      either-asks (nat_lt places (length (problem_of trees).prefix)) (Stops (refusal (place_of e) (codes "prefix limit"))) (Asks (problem_of trees) (λ answer. beside places (answered (last_of now answer) no_counts now) rest)) tt
      (problems-are-lawful trees lawful.0 lawful.1, λ answer. again (answered (last_of now answer) no_counts now) (answers now (last_of now answer) no_counts (moves s now e (Check trees) h w is)))

asks-of : (places : ℕ) (script : Commands) → IsWritten script → (s : State) → IsReached s → AsksOfProblems (beside places s script)
unfolding beside
asks-of places (stops end) w s h = end-asks (fault_at_end end)
asks-of places (stands e rest) w s h = behind-asks places rest (λ t k. asks-of places rest w.1 t k) s e h w.0 (after s e) refl

-- what is true of a check's problem is true of its trees
of-trees : (trees : List Tree) (a : Answer) → All IsAssertion trees × HaveOneSort trees → IsTrueOf (problem_of trees) a → IsTrueAnswer trees a
of-trees trees Sat lawful h = (prenex-theorem trees lawful.0 lawful.1).0 h
of-trees trees Unsat lawful h = λ holds. h ((prenex-theorem trees lawful.0 lawful.1).1 holds)
of-trees trees Unknown lawful h = tt

either-true : (b : Bool) (fault : List ℕ) (x : Script (List ℕ)) (a : Answer) (later : List Answer) → AreTrueFor (if b then Stops fault else x) (a ∷ later) → AreTrueFor x (a ∷ later)
either-true true fault x a later h = absurd h
either-true false fault x a later h = h

module _ (places : ℕ) (rest : Commands) (again : (t : State) → IsReached t → (given : List Answer) → AreTrueFor (beside places t rest) given → AreTrueAnswers t rest given) (s : State) (e : Expr) (h : IsReached s) (w : HasTokens e) where
  behind-true : (a : Answer) (given : List Answer) (m : Move) → after s e ≡ m → AreTrueFor (behind places (λ t. beside places t rest) e m) (a ∷ given) → AreTrueBehind (λ t later. AreTrueAnswers t rest later) m a given
  behind-true a given (Err fault) is k = absurd k
  behind-true a given (Ok (now, Quiet)) is k = again now (moves s now e Quiet h w is) (a ∷ given) k
  behind-true a given (Ok (now, Text words)) is k = again now (moves s now e (Text words) h w is) (a ∷ given) k
  behind-true a given (Ok (now, Values terms)) is k = again now (moves s now e (Values terms) h w is) (a ∷ given) k
  behind-true a given (Ok (now, Whole)) is k = again now (moves s now e Whole h w is) (a ∷ given) k
  behind-true a given (Ok (now, Core trees named)) is k = again now (moves s now e (Core trees named) h w is) (a ∷ given) k
  behind-true a given (Ok (now, Exit)) is k = absurd k
  behind-true a given (Ok (now, Check trees)) is k =
      let asked = either-true (nat_lt places (length (problem_of trees).prefix)) (refusal (place_of e) (codes "prefix limit")) (Asks (problem_of trees) (λ answer. beside places (answered (last_of now answer) no_counts now) rest)) a given k in
      (of-trees trees a (checks-are_lawful s now e trees h w is) asked.0, again (answered (last_of now a) no_counts now) (answers now (last_of now a) no_counts (moves s now e (Check trees) h w is)) given asked.1)

true-beside : (places : ℕ) (script : Commands) → IsWritten script → (s : State) → IsReached s → (given : List Answer) → AreTrueFor (beside places s script) given → AreTrueAnswers s script given
unfolding beside
true-beside places script w s h [] k = tt
true-beside places (stops end) w s h (a ∷ given) k = absurd (none (fault_at_end end) k)
  where
    none : (o : Option (List ℕ)) → AreTrueFor (at_end o) (a ∷ given) → ⊥
    none None k = k
    none (Some fault) k = k
true-beside places (stands e rest) w s h (a ∷ given) k = behind-true places rest (λ t j more is. true-beside places rest w.1 t j more is) s e h w.0 a given (after s e) refl k

pub answers-are_true : AnswersAreTrue
answers-are_true places script cert =
    let written = reads-written script in
    true-beside places (reads script) written opening opens (answers_of (verdict (beside places opening (reads script)) cert))
    (verdicts-are-true (List ℕ) (beside places opening (reads script)) cert (asks-of places (reads script) written opening opens))
