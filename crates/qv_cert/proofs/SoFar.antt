-- What is known of the lines of a section stays so.
use Rattle.std.proofs.Common.{[]}
use Rattle.qv_words.specs.declared.op.Answer.TheVariants.{Sat, Unsat, Unknown}
use Rattle.qv_cert.specs.SoFar.{SectionsBegin, SectionsGoOn}
use Rattle.qv_cert.proofs.Ranges.{has-value}
use Rattle.qv_cert.proofs.SatSections.{sat-start, sat-line}
use Rattle.qv_cert.proofs.UnsatSections.{unsat-start, unsat-line}

pub sections-begin : SectionsBegin
sections-begin p Sat = sat-start p
sections-begin p Unsat = ([], unsat-start p)
sections-begin p Unknown = tt

pub sections-go-on : SectionsGoOn
sections-go-on p Sat l line problem h read belong clean = sat-line p l line problem h belong (has-value line read) clean
sections-go-on p Unsat l line problem h read belong clean = unsat-line p l h.0 line problem h.1 belong (has-value line read) clean
sections-go-on p Unknown l line problem h read belong clean = tt
