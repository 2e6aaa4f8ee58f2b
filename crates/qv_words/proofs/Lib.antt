pub mod Powers
pub mod TwosComplement
pub mod Unique
pub mod Elements
pub mod Leaves
pub mod Agreeing
pub mod Bounds
pub mod InSort
pub mod Ranks
pub mod Existing
pub mod Replacing
pub mod Replaced
pub mod Equals
pub mod Shorter
pub mod Passing
pub mod PassRules
pub mod RuleParts
pub mod PassLeaves
pub mod Passed
pub mod Simplest
pub mod FixedFormulas
pub mod Sections
pub mod MovedBits
pub mod InverseTrees
pub mod InverseCases
pub mod InverseRows
pub mod InverseFits
pub mod InverseValues
pub mod InverseSolves
pub mod InverseDivision
pub mod InverseShifts
pub mod InverseProducts
pub mod InverseThere
pub mod InverseOver
pub mod Together
pub mod Conjunctions
pub mod InverseFree
pub mod NewNodes
pub mod Chosen
pub mod Winning
mod OperatorsExample
mod RanksExample
mod PrenexExample
mod ProblemsExample
mod SiblingsExample
mod GatesExample
mod CircuitsExample
mod ArithmeticExample
mod SectionsExample
mod PassesExample
mod RowsExample
mod CandidatesExample
pub mod ComplementExample
mod LinkedExample
mod NoEntryExample
mod DrawnExample
mod WorkedExamples
