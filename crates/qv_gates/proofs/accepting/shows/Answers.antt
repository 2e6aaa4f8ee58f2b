use Rattle.std.proofs.Common.{◌≡◌, Some, [], ◌∷◌, length, slice_get, refl}
use Rattle.std.proofs.lemmas.Bool.{OnTrue_at, OnTrue_from}
use Rattle.std.proofs.lemmas.Option.{slice_get_read}
use Rattle.qv_cnf.specs.LratLine.{lines_of}
use Rattle.qv_gates.specs.Closing.{IsAdded}
use Rattle.qv_gates.proofs.Following.{IsAdded-at}
use Rattle.qv_gates.proofs.accepting.shows.Goals as goal

pub returns-in-Some : goal.returns-in-Some
returns-in-Some c =
    let steps = c.args.steps.now in
    let found = c.in-Some.ensures.lookup in
    let at : slice_get steps c.args.place ≡ Some c.in-Some.step.now = slice_get_read steps (length steps) c.args.place c.in-Some.step.now refl found.3.0 found.1 in
    OnTrue_from c.adds.result (IsAdded (lines_of steps) (c.args.a ∷ c.args.b ∷ []))
    (λ yes. IsAdded-at steps c.args.place c.in-Some.step.now (c.args.a ∷ c.args.b ∷ []) at (OnTrue_at yes c.adds.ensures))
