-- Which line of a certificate a verdict needs last, and where more was wanted than the limit allows.
use Rattle.std.specs.Prelude.{ℕ, suc, ◌+◌, ◌<◌, Option, IfSome, List, length, flat_map}
use Rattle.qv_sexpr.specs.Script.{reads}
use Rattle.qv_script_defs.specs.State.{opening}
use Rattle.qv_cert.specs.Text.{text_of}
use Rattle.qv_check_laws.specs.Verdict.{Verdict, Ending, IsAccepted, ScriptFault, IsRefused, verdict}
use Rattle.qv_check_defs.specs.Beside.{beside}
use Rattle.qv_check_defs.specs.Limits.{MetLimit}

-- the number of the line that shows how a verdict ends, whose sections end behind so many lines: the
-- refused one, or the one that would stand behind them all; a fault of the script needs no further one
abbrev pub shown_at : {F : Type 0} → ℕ → Ending F → ℕ
shown_at behind IsAccepted = suc behind
shown_at behind (ScriptFault fault) = behind
shown_at behind (IsRefused line k) = line

-- the last line that a verdict needs, whose sections begin behind so many lines
abbrev pub last_line : {F : Type 0} → ℕ → Verdict F → ℕ
last_line given v = shown_at (given + length (flat_map (λ s. s.lines) v.sections)) v.ending

-- The limit was met by what was taken of a certificate, and more was wanted: where both texts are told,
-- the verdict needs a line that isn't whole in those bytes.
pub record WantsMore (places : ℕ) {S : Type 0} (call : S → ℕ → Option (List ℕ) → S → Type 0) (script left : Option (List ℕ)) (source source' : S) : Type 0 where
  pub met : MetLimit call left source source'
  pub wanted : IfSome script (λ text. IfSome left (λ bytes. length (text_of met.taken).lines < last_line 1 (verdict (beside places opening (reads text)) bytes)))
