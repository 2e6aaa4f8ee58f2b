-- no choice is in the terms so far
use Rattle.std.proofs.Common.{◌≡◌, drop}
use Rattle.qv_words.specs.Prenex.{first_choice_of}
use Rattle.qv_store.specs.Nodes.{trees_at}
use Rattle.qv_prenex_splits.proofs.splitting.first_kid.Given as goal

abbrev pub invariant-loop-kid : goal.invariant-loop-kid
invariant-loop-kid l = first_choice_of (trees_at l.store l.kids) ≡ first_choice_of (trees_at l.store (drop l.kid-index l.kids))
