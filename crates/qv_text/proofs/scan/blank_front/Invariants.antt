use Rattle.std.proofs.Common.{◌≡◌, ◌+◌, ◌++◌, List, ℕ, drop, true}
use Rattle.qv_text.specs.Scanning.{tokens_in}
use Rattle.qv_text.proofs.scan.blank_front.Given as goal

-- the bytes so far are white space and comments
abbrev pub invariant-loop-at : goal.invariant-loop-at
invariant-loop-at l = record {
  reads : (place : ℕ) (more : List ℕ) → tokens_in l.comment (place + l.at) (drop l.at l.bytes ++ more) ≡ tokens_in l.fn.comment place (l.bytes ++ more);
  opened : l.comment ≡ true → l.at ≡ 0 → l.fn.comment ≡ true;
}
