-- A script asks about lawful problems alone.
use Rattle.std.proofs.Common.{◌≡◌, Bool, true, false, refl, Option, Some, None, List, ℕ, codes}
use Rattle.std.specs.Prelude.{Ok, Err, nat_lt, length, if◌then◌else◌}
use Rattle.qv_words.specs.Problem.{problem_of}
use Rattle.qv_prenex_laws.proofs.LawfulProblems.{problems-are-lawful}
use Rattle.qv_sexpr.specs.Script.{reads, stops}
use Rattle.qv_sexpr.specs.Script.{Script as Commands, Tree as Expr, command as stands}
use Rattle.qv_elab_defs.specs.Tokens.{place_of}
use Rattle.qv_elab_defs.specs.Written.{HasTokens}
use Rattle.qv_script_defs.specs.Faults.{refusal}
use Rattle.qv_script_defs.specs.State.{State, opening, answered, no_counts}
use Rattle.qv_script_defs.specs.StateLaws.{IsReached, opens, moves, answers}
use Rattle.qv_script_defs.specs.Moves.{Quiet, Text, Check, Values, Whole, Core, Exit, Move}
use Rattle.qv_script_defs.specs.Commands.{after}
use Rattle.qv_script_defs.proofs.Commanding.{checks-are_lawful}
use Rattle.qv_script_texts.specs.EndLines.{fault_at_end}
use Rattle.qv_check_laws.specs.Verdict.{Script, Asks, Stops}
use Rattle.qv_check_laws.specs.VerdictLaws.{AsksOfProblems}
use Rattle.qv_check_defs.specs.Beside.{last_of, behind, at_end, beside}
use Rattle.qv_check_defs.proofs.Tokens.{IsWritten, reads-written}

either-asks : (b : Bool) (x y : Script (List ℕ)) → AsksOfProblems x → AsksOfProblems y → AsksOfProblems (if b then x else y)
either-asks true x y h k = h
either-asks false x y h k = k

end-asks : (o : Option (List ℕ)) → AsksOfProblems (at_end o)
end-asks None = tt
end-asks (Some fault) = tt

module _ (places : ℕ) (rest : Commands) (again : (t : State) → IsReached t → AsksOfProblems (beside places t rest)) (s : State) (e : Expr) (h : IsReached s) (w : HasTokens e) where
  behind-asks : (m : Move) → after s e ≡ m → AsksOfProblems (behind places (λ t. beside places t rest) e m)
  behind-asks (Err fault) is = tt
  behind-asks (Ok (now, Quiet)) is = again now (moves s now e Quiet h w is)
  behind-asks (Ok (now, Text words)) is = again now (moves s now e (Text words) h w is)
  behind-asks (Ok (now, Values terms)) is = again now (moves s now e (Values terms) h w is)
  behind-asks (Ok (now, Whole)) is = again now (moves s now e Whole h w is)
  behind-asks (Ok (now, Core trees named)) is = again now (moves s now e (Core trees named) h w is)
  behind-asks (Ok (now, Exit)) is = tt
  behind-asks (Ok (now, Check trees)) is =
      let lawful = checks-are_lawful s now e trees h w is in
      either-asks (nat_lt places (length (problem_of trees).prefix)) (Stops (refusal (place_of e) (codes "prefix limit"))) (Asks (problem_of trees) (λ answer. beside places (answered (last_of now answer) no_counts now) rest)) tt
      (problems-are-lawful trees lawful.0 lawful.1, λ answer. again (answered (last_of now answer) no_counts now) (answers now (last_of now answer) no_counts (moves s now e (Check trees) h w is)))

asks-of : (places : ℕ) (script : Commands) → IsWritten script → (s : State) → IsReached s → AsksOfProblems (beside places s script)
unfolding beside
asks-of places (stops end) w s h = end-asks (fault_at_end end)
asks-of places (stands e rest) w s h = behind-asks places rest (λ t k. asks-of places rest w.1 t k) s e h w.0 (after s e) refl

pub asks-lawfully : (places : ℕ) (script : List ℕ) → AsksOfProblems (beside places opening (reads script))
asks-lawfully places script = asks-of places (reads script) (reads-written script) opening opens
