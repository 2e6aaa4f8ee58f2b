use Rattle.std.proofs.Common.{◌≡◌, ◌++◌, drop}
use Rattle.qv_core.specs.Without.{without, without_from}
use Rattle.qv_solve_cores.specs.Marks.{gone, kept_but}
use Rattle.qv_solve_cores.proofs.Marks.{IsNext}
use Rattle.qv_solve_cores.proofs.lists.list_without.Given as goal

-- what is listed, and what stays behind it; the item is the next that has a name
abbrev pub invariant-places : goal.invariant-places
invariant-places l = record {
  listed : l.list.items ++ without_from (gone l.named (kept_but l.out l.search.kept)) l.place (drop l.place l.assertions) ≡ without (gone l.named (kept_but l.out l.search.kept)) l.assertions;
  next : IsNext l.place l.named (kept_but l.out l.search.kept) l.item;
}
