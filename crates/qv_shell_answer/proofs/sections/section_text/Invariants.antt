use Rattle.std.proofs.Common.{◌≡◌, take}
use Rattle.std.specs.List.{flat_map}
use Rattle.qv_cert.specs.Spelling.{cert_text}
use Rattle.qv_solve_write.specs.Said.{lines_said}
use Rattle.qv_shell_answer.proofs.sections.section_text.Given as goal

abbrev pub invariant-printed : goal.invariant-printed
invariant-printed l = l.text.items ≡ flat_map cert_text (lines_said (take l.line-index l.lines))
