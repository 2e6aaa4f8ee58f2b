use Rattle.std.specs.Prelude.{◌≡◌, map, take, string_bytes}
use Rattle.qv_shell_args.specs.Call.{unkept}
use Rattle.qv_shell_args.proofs.reading.unkept.Given as goal

abbrev pub invariant-words : goal.invariant-words
invariant-words l = map (λ s. s.now) l.all.items ≡ unkept l.script (map string_bytes (take l.word-index l.words))
