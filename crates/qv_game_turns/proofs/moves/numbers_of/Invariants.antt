use Rattle.std.proofs.Common.{◌≡◌, ◌++◌, List, drop}
use Rattle.qv_words.specs.Tree.{Tree}
use Rattle.qv_store.specs.Problems.{quantifier_of}
use Rattle.qv_entries.specs.Rows.{entries_in}
use Rattle.qv_meter.specs.Queries.{numbers_from}
use Rattle.qv_game_turns.proofs.moves.numbers_of.Given as goal

abbrev pub invariant-entries : goal.invariant-entries
invariant-entries l =
    (trees : List Tree) → l.numbers.items ++ numbers_from l.number l.level (quantifier_of l.winner) (entries_in trees (drop l.number l.entries))
    ≡ numbers_from 0 l.level (quantifier_of l.winner) (entries_in trees l.entries)
