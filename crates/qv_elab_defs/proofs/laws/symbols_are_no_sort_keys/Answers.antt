use Rattle.qv_elab_defs.proofs.SortKeys.{symbols-are_no-sort_keys}
use Rattle.qv_elab_defs.proofs.laws.symbols_are_no_sort_keys.Goals as goal

pub returns : goal.returns
returns _ = symbols-are_no-sort_keys
