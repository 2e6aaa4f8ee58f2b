-- the parts so far
use Rattle.std.proofs.Common.{◌≡◌, ◌≤◌, ◌-◌, None, length}
use Rattle.qv_qdimacs.specs.Text.{parts_from}
use Rattle.qv_qdimacs.specs.Ahead.{words_at}
use Rattle.qv_qdimacs.specs.Answers.{AreSeen}
use Rattle.qv_qdimacs.proofs.parts.read_parts.Given as goal

abbrev pub invariant-parts : goal.invariant-parts
invariant-parts l = record {
  within : l.end ≤ length l.text;
  seen : AreSeen l.seen l.prefix.items;
  says : parts_from l.fn.prefix.items None (words_at l.text l.fn.at) ≡ parts_from l.prefix.items None (words_at l.text l.end);
}

abbrev pub decreases-parts : goal.decreases-parts
decreases-parts l = length l.text - l.end
