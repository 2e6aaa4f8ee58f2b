-- what was added so far, and what is still to be, are the whole
use Rattle.std.proofs.Common.{◌≡◌, ◌++◌, ◌<◌, ◌≤◌, ℕ, None, Some, List, drop, length}
use Rattle.qv_sexpr.specs.Reader.{to_read}
use Rattle.qv_cert.specs.Text.{text_of}
use Rattle.qv_check_clauses.specs.Following.{Between, Comes}
use Rattle.qv_check_clauses.proofs.following.add_each.Given as goal

abbrev pub invariant-sections : goal.invariant-sections
invariant-sections l = record {
  within : l.at ≤ length l.printed;
  begun : 0 < l.reader.given;
  reads : l.reader.stopped ≡ None;
  between : (written : List ℕ) → Comes l.places l.fn.reader.version 1 (to_read l.fn.commands (Some l.fn.script.left.now)) l.fn.course l.fn.reader.given (text_of (l.fn.reader.rest ++ l.fn.cert.left.now)) l.printed written →
      Between l.places l.reader.version l.number (to_read l.commands (Some l.script.left.now)) l.course l.reader.given (text_of (l.reader.rest ++ l.cert.left.now)) (drop l.at l.printed) written l.fn.out.items l.out.items;
}
