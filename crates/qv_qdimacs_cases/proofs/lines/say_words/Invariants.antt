use Rattle.std.proofs.Common.{length}
use Rattle.qv_qdimacs_cases.proofs.lines.say_words.Given as goal

abbrev pub decreases-loop-word : goal.decreases-loop-word
decreases-loop-word l = length l.rest
