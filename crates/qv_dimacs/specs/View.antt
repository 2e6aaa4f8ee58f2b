-- What a reader's state is, and what its calls make of it. No public contract cites this.
use Rattle.std.specs.Prelude.{◌≡◌, ℕ, List, ◌++◌, Result, Ok, Err}
use Rattle.qv_dimacs.specs.declared.faults.DimacsFault.TheVariants.{At, ReadFault, ReadLimit, NoMemory}
use Rattle.qv_dimacs.specs.declared.faults.Halt.{Halt}
use Rattle.qv_dimacs.specs.declared.faults.Halt.TheVariants.{Done, Fault}
use Rattle.qv_dimacs.specs.declared.machine.Machine as declared
use Rattle.qv_dimacs.specs.Clauses.{Said, Clauses, Faulty}
use Rattle.qv_dimacs.specs.Machine.{State, Moved, Goes, Stops, run}

abbrev pub state_of : declared.Machine → State
state_of m = record { stage = m.stage; at = m.at; place = m.place; start = m.start; lits = m.lits.items; done = m.clauses }

-- reading stopped for this, where a text says so; of want of memory that says nothing
abbrev pub Halts : Halt → State → Said → Type 0
Halts Done new said = said ≡ Clauses new.done
Halts (Fault (At place kind)) new said = said ≡ Faulty place kind
Halts (Fault NoMemory) new said = Unit {0}
Halts (Fault ReadFault) new said = ⊥
Halts (Fault ReadLimit) new said = ⊥

abbrev pub HaltsAt : Halt → State → Moved → Type 0
HaltsAt Done new moved = moved ≡ Stops (Clauses new.done)
HaltsAt (Fault (At place kind)) new moved = moved ≡ Stops (Faulty place kind)
HaltsAt (Fault NoMemory) new moved = Unit {0}
HaltsAt (Fault ReadFault) new moved = ⊥
HaltsAt (Fault ReadLimit) new moved = ⊥

-- a call moved a reader so
abbrev pub Takes : Moved → Result Unit Halt → State → Type 0
Takes moved (Ok done) new = moved ≡ Goes new
Takes moved (Err halt) new = HaltsAt halt new moved

-- a call took a piece
abbrev pub TakesAll : State → List ℕ → Result Unit Halt → State → Type 0
TakesAll old piece (Ok done) new = (text : List ℕ) → run old (piece ++ text) ≡ run new text
TakesAll old piece (Err halt) new = (text : List ℕ) → Halts halt new (run old (piece ++ text))

-- a call ended the text
abbrev pub Finishes : Said → Result Unit Halt → State → Type 0
Finishes said (Ok done) new = said ≡ Clauses new.done
Finishes said (Err halt) new = Halts halt new said
