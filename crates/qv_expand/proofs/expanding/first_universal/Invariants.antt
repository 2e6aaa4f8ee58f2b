-- none of the first entries is such
use Rattle.std.proofs.Common.{◌≡◌, List, drop}
use Rattle.qv_words.specs.Tree.{Tree}
use Rattle.qv_words.specs.Linked.{first_universal}
use Rattle.qv_entries.specs.Rows.{entries_in}
use Rattle.qv_expand.proofs.expanding.first_universal.Given as goal

abbrev pub invariant-entries : goal.invariant-entries
invariant-entries l = (trees : List Tree) → first_universal 0 (entries_in trees l.entries) ≡ first_universal l.number (drop l.number (entries_in trees l.entries))
