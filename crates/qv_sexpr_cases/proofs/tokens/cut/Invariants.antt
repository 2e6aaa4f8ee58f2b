use Rattle.std.proofs.Common.{◌≡◌, ◌≤◌, ◌++◌, length}
use Rattle.std.specs.List.{flat_map}
use Rattle.qv_sexpr_cases.proofs.tokens.cut.Given as goal

-- the pieces and the rest are the text
abbrev pub invariant-loop-rest : goal.invariant-loop-rest
invariant-loop-rest l = (flat_map (λ piece. piece.items) l.pieces.items ++ l.rest ≡ l.text) × (1 ≤ l.size)

abbrev pub decreases-loop-rest : goal.decreases-loop-rest
decreases-loop-rest l = length l.rest
