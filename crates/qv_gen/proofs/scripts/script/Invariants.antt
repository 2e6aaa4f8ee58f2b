use Rattle.std.proofs.Common.{◌≡◌, ◌++◌, ◌-◌}
use Rattle.qv_gen.specs.Text.{blocks_text, script_text}
use Rattle.qv_gen.proofs.scripts.script.Given as goal

-- the blocks that are left make the script of what there is
abbrev pub invariant-loop-i : goal.invariant-loop-i
invariant-loop-i l = script_text l.number ≡ l.text.items ++ blocks_text (l.number - l.i) l.state
