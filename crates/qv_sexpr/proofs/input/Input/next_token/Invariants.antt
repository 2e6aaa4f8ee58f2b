use Rattle.std.proofs.Common.{ℕ, List, ◌≡◌, option_map, ◌+◌, ◌-◌, if◌then◌else◌}
use Rattle.qv_sexpr.specs.Limits.{read_limit}
use Rattle.qv_text.specs.Progress.{fed}
use Rattle.qv_sexpr.specs.Calls.{OnDemand}
use Rattle.qv_sexpr.specs.Reader.{coming, FedGiven}
use Rattle.qv_sexpr.specs.Input.{Leaves, Along, IsFrom, IsNear}
use Rattle.qv_sexpr.proofs.input.Input.next_token.Given as goal

-- the same tokens are still to be read
abbrev pub invariant-pieces : goal.invariant-pieces
invariant-pieces g l =
    let source = g.S.Source in
    let old = l.fn.self.lexer in
    let new = l.self.lexer in
    record {
      told : option_map (coming old) (source.left l.fn.source) ≡ option_map (coming new) (source.left l.source);
      from : IsFrom old.place new;
      near : IsNear old → IsNear new;
      given : FedGiven (source.left l.fn.source) old (source.left l.source) new;
      leaves : Leaves source.left source.faults old l.fn.source new l.source;
      calls : OnDemand source.read_gives old l.fn.source new l.source;
      along : (bytes : List ℕ) × Along source.read_gives old l.fn.source bytes new l.source;
    }

-- a piece is taken below the limit, or the end is met once
abbrev pub decreases-pieces : goal.decreases-pieces
decreases-pieces g l = (read_limit - fed l.self.lexer) + (if l.self.lexer.finished then 0 else 1)
