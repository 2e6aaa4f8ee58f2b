-- those in front have smaller indices, and those behind no smaller ones
use Rattle.std.proofs.Common.{◌≡◌, ◌<◌, ◌≤◌, ◌-◌, ◌++◌, length, map, take, drop, get_or}
use Rattle.qv_words.specs.declared.sort.Sort.{Sort}
use Rattle.qv_words.specs.Problem.{with_constant}
use Rattle.qv_prenex.specs.declared.constants.Constant.{Constant}
use Rattle.qv_prenex.specs.Constants.{pair_of}
use Rattle.qv_prenex.proofs.constants.place_for.Given as goal

abbrev pub invariant-halves : goal.invariant-halves
invariant-halves l = record {
  order : l.low ≤ l.high;
  within : l.high ≤ length l.constants;
  front : (sort : Sort) → with_constant (l.index, sort) (map pair_of l.constants) ≡ take l.low (map pair_of l.constants) ++ with_constant (l.index, sort) (drop l.low (map pair_of l.constants));
  least : (d : Constant) → l.high < length l.constants → l.index ≤ (get_or l.constants l.high d).index;
}

abbrev pub decreases-halves : goal.decreases-halves
decreases-halves l = l.high - l.low
