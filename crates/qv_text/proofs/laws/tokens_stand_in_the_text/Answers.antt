use Rattle.std.proofs.Common.{false}
use Rattle.qv_text.proofs.Standing.{stands}
use Rattle.qv_text.proofs.laws.tokens_stand_in_the_text.Goals as goal

pub returns : goal.returns
returns c = stands false
