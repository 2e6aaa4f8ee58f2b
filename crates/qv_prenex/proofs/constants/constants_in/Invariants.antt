-- the constants of the terms so far are in order, and there is room for them
use Rattle.std.proofs.Common.{◌≡◌, ◌≤◌, [], length, map, take}
use Rattle.qv_words.specs.Problem.{in_order}
use Rattle.qv_store.specs.Walks.{named}
use Rattle.qv_prenex.specs.Constants.{pair_of}
use Rattle.qv_prenex.proofs.Leaves.{heaped}
use Rattle.qv_prenex.proofs.constants.constants_in.Given as goal

abbrev pub invariant-terms : goal.invariant-terms
invariant-terms l = record {
  order : map pair_of l.constants.items ≡ in_order (heaped (named l.store (take l.id-index l.id-items)) []);
  within : length l.constants.items ≤ l.room;
}
