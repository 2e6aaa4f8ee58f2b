use Rattle.std.proofs.Common.{◌≡◌, ◌<◌, ◌++◌, map, drop}
use Rattle.std.specs.Prelude.{IfSome}
use Rattle.qv_circuits.specs.Adding.{lits_of}
use Rattle.qv_game_entry_laws.specs.Fixings.{fixed, named_in, runs_from}
use Rattle.qv_game_state.specs.Naming.{is_marked_in}
use Rattle.qv_game_regions.specs.Runs.{run_of}
use Rattle.qv_game_state.proofs.runs.add_runs.Given as goal

abbrev pub invariant-bits : goal.invariant-bits
invariant-bits l = record {
  index_is : l.index ≡ l.bit-index;
  begun : IfSome l.low (λ n. n < l.index);
  runs : map run_of l.runs.items ++ runs_from l.place l.index l.low (map (is_marked_in l.marks) (fixed l.rest (lits_of (drop l.bit-index l.bits))))
      ≡ map run_of l.initial.runs.items ++ named_in (is_marked_in l.marks) l.place l.initial.rest (lits_of l.bits);
}
