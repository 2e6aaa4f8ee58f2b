-- What becomes of a circuit's fault.
use Rattle.qv_circuits.specs.declared.faults.CircuitFault.{CircuitFault}
use Rattle.qv_circuits.specs.declared.faults.CircuitFault.TheVariants.{TooManyVariables, NoMemory}
use Rattle.qv_blast.specs.declared.faults.BlastFault.{BlastFault}
use Rattle.qv_blast.specs.declared.faults.BlastFault.TheVariants.{TooManyVariables as TooMany, NoMemory as Memory}

abbrev pub fault_of : CircuitFault → BlastFault
fault_of TooManyVariables = TooMany
fault_of NoMemory = Memory
