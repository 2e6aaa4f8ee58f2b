use Rattle.std.proofs.Common.{◌≡◌, ◌/◌, ◌<◌, ◌≤◌, ℕ, get_or}
use Rattle.qv_sat_order.proofs.orders.divide.Given as goal

-- those so far are divided, and the others as they were
abbrev pub invariant-loop-one : goal.invariant-loop-one
invariant-loop-one l = record {
  divided : (k : ℕ) → k < l.one-index → get_or l.activity k 0 ≡ get_or l.fn.activity k 0 / 274877906944;
  rest : (k : ℕ) → l.one-index ≤ k → get_or l.activity k 0 ≡ get_or l.fn.activity k 0;
}
