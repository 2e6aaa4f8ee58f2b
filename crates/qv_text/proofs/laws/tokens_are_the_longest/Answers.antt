use Rattle.qv_text.proofs.Longest.{longest}
use Rattle.qv_text.proofs.laws.tokens_are_the_longest.Goals as goal

pub returns : goal.returns
returns c = longest
