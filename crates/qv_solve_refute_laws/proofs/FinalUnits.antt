-- Final lists as units of work.
use Rattle.std.proofs.Common.{◌≡◌, ◌≤◌, List, [], ◌∷◌, ◌++◌, refl, sym, ap, subst, append_assoc, arith}
use Rattle.std.proofs.lemmas.List.{append-nil}
use Rattle.qv_words.specs.Tree.{Tree}
use Rattle.qv_words.specs.Clauses.{cnf_variables}
use Rattle.qv_circuits_laws.proofs.Growing.{one-more}
use Rattle.qv_meter.specs.Units.{Final}
use Rattle.qv_solve_refute_laws.specs.FinalLaws.{FinalListsMayBeCharged, LongerListsTakeMore, OverLargeFinalLists}

pub may-be-charged : FinalListsMayBeCharged
may-be-charged p winner entries formulas base played won list clauses = record {
  entries = entries;
  formulas = formulas;
  list = record { winner = winner; played = played; won = won; counted = refl; list = list };
  clauses = clauses;
  charged = refl;
}

pub longer-lists : LongerListsTakeMore
longer-lists formulas [] = subst (λ (fs : List Tree). cnf_variables formulas ≤ cnf_variables fs) (sym (append-nil formulas)) (omega arith)
longer-lists formulas (f ∷ more) =
    let one = (one-more formulas f).1 in
    let rest = longer-lists (formulas ++ f ∷ []) more in
    let same : cnf_variables ((formulas ++ f ∷ []) ++ more) ≡ cnf_variables (formulas ++ f ∷ more) = ap cnf_variables (append_assoc formulas (f ∷ []) more) in
    omega (arith, one, rest, same)

pub over-large : OverLargeFinalLists
over-large p winner entries limit formulas more played won list over =
    let longer = longer-lists formulas more in
    record {
      lane = Final;
      list = record { winner = winner; played = played; won = won; counted = refl; list = list };
      over = omega (arith, over, longer);
    }
