-- a half is shorter
use Rattle.std.proofs.Common.{length}
use Rattle.qv_qdimacs.proofs.joining.+put_joined.Given as goal

abbrev pub decreases-put_joined : goal.decreases-put_joined
decreases-put_joined l = length l.ids.now
