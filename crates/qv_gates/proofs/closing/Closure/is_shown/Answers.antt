use Rattle.std.proofs.lemmas.Bool.{OnTrue_at, OnTrue_from}
use Rattle.qv_gates.specs.Closing.{IsShown}
use Rattle.qv_gates.proofs.closing.Closure.is_shown.Goals as goal
use Rattle.std.proofs.Common.{rules}

pub returns-then-shows : goal.returns-then-shows
returns-then-shows c = OnTrue_from c.shows-then-shows.result (IsShown c.args.self.now.steps c.args.x c.args.y) (λ yes. record {
  forth = search rules;
  back = search rules;
})
