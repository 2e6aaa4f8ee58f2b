use Rattle.std.proofs.Common.{get_or}
use Rattle.qv_cnf.specs.LratLine.{line_of}
use Rattle.qv_trim.specs.declared.entries.Entry.{Entry}
use Rattle.qv_trim.proofs.Marked.{names-line, get-there}
use Rattle.qv_trim.proofs.marking.follow.Goals as goal

abbrev no_entry : Entry
no_entry = record { id = 0; start = 0 }

pub returns : goal.returns
returns c =
    let found = rw c.in-Some.is at c.in_ok-found.ensures in
    names-line c.args.text.now c.args.entries.now c.args.at (get_or c.args.entries.now c.args.at no_entry) (get-there c.args.entries.now c.args.at no_entry c.requires.place) (line_of c.in-Some.found.step) c.in-Some.found.behind
    c.args.marks.now c.mark_named-again.new.marks c.mark_named-again.result found.0 c.mark_named-again.ensures
