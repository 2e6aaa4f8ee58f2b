-- Why nothing is answered.
use Rattle.qv_prenex.specs.declared.faults.PrenexFault.{PrenexFault}
use Rattle.qv_prenex.specs.declared.faults.PrenexFault.TheVariants as prenex
use Rattle.qv_solve.specs.declared.fault.SolveFault.{SolveFault}
use Rattle.qv_solve.specs.declared.fault.SolveFault.TheVariants.{PrefixLimit, NoMemory}

abbrev pub fault_of : PrenexFault → SolveFault
fault_of prenex.PrefixLimit = PrefixLimit
fault_of prenex.NoMemory = NoMemory
