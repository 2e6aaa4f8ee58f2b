-- the place is true in the clauses so far
use Rattle.std.proofs.Common.{◌≡◌, true, map, take}
use Rattle.std.specs.List.{AllByRecursion}
use Rattle.qv_words.specs.Passes.{truth_literal}
use Rattle.qv_words.specs.Choice.{with_term}
use Rattle.qv_store.specs.Stores.{Grows}
use Rattle.qv_store.specs.Walks.{named}
use Rattle.qv_choose_clauses.specs.Defining.{IsTruth}
use Rattle.qv_choose_clauses.proofs.defining.put_each.Given as goal

abbrev pub invariant-clauses : goal.invariant-clauses
invariant-clauses l = record {
  grows : Grows l.fn.store l.store;
  put : l.put ≡ l.fn.put;
  made : named l.store l.made.items ≡ map (with_term l.place.level (truth_literal true)) (named l.fn.store (take l.clause-index l.clauses));
  truths : AllByRecursion (IsTruth l.store) l.made.items;
}
