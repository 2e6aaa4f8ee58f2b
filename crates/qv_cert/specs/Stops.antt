-- Why a reader stops at a fault of a line.
use Rattle.qv_cert.specs.declared.kind.RefusalKind.TheVariants as kind
use Rattle.qv_cert.specs.declared.fault.CertLineFault.{CertLineFault}
use Rattle.qv_cert.specs.declared.fault.CertLineFault.TheVariants as fault
use Rattle.qv_cert.specs.declared.answers.Stop.{Stop}
use Rattle.qv_cert.specs.declared.answers.Stop.TheVariants as stop

abbrev pub stop_for : CertLineFault → Stop
stop_for fault.Header = stop.Fault kind.Header
stop_for fault.Form = stop.Fault kind.Form
stop_for fault.Operator = stop.Fault kind.Operator
stop_for fault.Rule = stop.Fault kind.Rule
stop_for fault.Literal = stop.Fault kind.Literal
stop_for fault.NoMemory = stop.NoMemory
