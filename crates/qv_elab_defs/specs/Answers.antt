-- What calls answer of terms and sorts.
use Rattle.std.specs.Prelude.{◌≡◌, ℕ, List, Result, Ok, Err}
use Rattle.qv_words.specs.declared.word.Word.{Word}
use Rattle.qv_words.specs.declared.sort.Sort.{Sort}
use Rattle.qv_words.specs.Word.{word_sort, word_value}
use Rattle.qv_words.specs.Tree.{Tree, Literal}
use Rattle.qv_store.specs.Stores.{StandsAt}
use Rattle.qv_elab_defs.specs.declared.faults.ElabFault.{ElabFault}
use Rattle.qv_elab_defs.specs.declared.faults.ElabFault.TheVariants.{At, NoMemory}
use Rattle.qv_elab_defs.specs.Faults.{Fault}

-- what there is, or its fault
abbrev pub answered : {A : Type 0} → Result A Fault → Result A ElabFault
answered (Ok x) = Ok x
answered (Err fault) = Err (At fault.place fault.kind)

-- the literal of a word, or the fault; no memory is wanted
abbrev pub Writes : Result Tree Fault → Result Word ElabFault → Type 0
Writes given (Ok word) = given ≡ Ok (Literal (word_sort word) (word_value word))
Writes given (Err (At place kind)) = given ≡ Err (record { place = place; kind = kind })
Writes given (Err NoMemory) = ⊥

-- the sort that is read, or its fault; no memory is wanted
abbrev pub ReadsSort : Result Sort Fault → Result Sort ElabFault → Type 0
ReadsSort given (Ok s) = given ≡ Ok s
ReadsSort given (Err (At place kind)) = given ≡ Err (record { place = place; kind = kind })
ReadsSort given (Err NoMemory) = ⊥

-- the tree of what is answered, or the first fault; want of memory says nothing
abbrev pub Answers : List Tree → Result Tree Fault → Result ℕ ElabFault → Type 0
Answers trees given (Ok id) = (t : Tree) × (given ≡ Ok t) × StandsAt trees id t
Answers trees given (Err (At place kind)) = given ≡ Err (record { place = place; kind = kind })
Answers trees given (Err NoMemory) = Unit {0}
