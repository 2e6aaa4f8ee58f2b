use Rattle.std.proofs.Common.{refl}
use Rattle.qv_shell.proofs.pages.text_of.Goals as goal

pub returns-in-Help : goal.returns-in-Help
returns-in-Help c = rw c.in-Help.is refl
