-- the variables so far
use Rattle.std.proofs.Common.{◌≡◌, ◌≤◌, ◌-◌, length}
use Rattle.qv_qdimacs.specs.Text.{parts_from}
use Rattle.qv_qdimacs.specs.Ahead.{words_at}
use Rattle.qv_qdimacs.specs.Answers.{AreSeen, part_of}
use Rattle.qv_qdimacs.proofs.parts.read_part.Given as goal

abbrev pub invariant-words : goal.invariant-words
invariant-words l = record {
  within : l.end ≤ length l.text;
  further : l.fn.at ≤ l.end;
  seen : AreSeen l.seen l.prefix.items;
  says : parts_from l.fn.prefix.items (part_of l.quant l.begin) (words_at l.text l.fn.at) ≡ parts_from l.prefix.items (part_of l.quant l.begin) (words_at l.text l.end);
}

abbrev pub decreases-words : goal.decreases-words
decreases-words l = length l.text - l.end
