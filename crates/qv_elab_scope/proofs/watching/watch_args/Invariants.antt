-- the first arguments are watched
use Rattle.std.proofs.Common.{◌≡◌, ◌++◌, drop}
use Rattle.qv_elab_scope.specs.Watching.{watched_args}
use Rattle.qv_elab_scope.proofs.watching.watch_args.Given as goal

abbrev pub invariant-each : goal.invariant-each
invariant-each l =
    l.watched.items ++ watched_args (drop l.place l.args) (drop l.place l.depths) ≡ l.initial.watched.items ++ watched_args l.args l.depths
