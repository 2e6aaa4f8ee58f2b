-- What pins down how what a script holds changes.
use Rattle.std.specs.Prelude.{◌≤◌, ℕ, None, List, length}
use Rattle.qv_words.specs.declared.sort.Sort.{Sort}
use Rattle.qv_words.specs.Sort.{IsLawful}
use Rattle.qv_elab_defs.specs.Scopes.{Synonym, sort_key}
use Rattle.qv_words.specs.Tree.{Tree}
use Rattle.qv_store.specs.Stores.{StandsAt, Grows}
use Rattle.qv_script_stack.specs.declared.held.Declared.{Declared}
use Rattle.qv_script_defs.specs.State.{State, opening, pushed, popped}
use Rattle.qv_script_defs.specs.State.{with_constant as declared, with_assertion as asserting, emptied as without_levels, with_entry}
use Rattle.qv_script_stack.specs.Held.{Held, IsScriptIn, nothing}
use Rattle.qv_script_stack.specs.Changes.{with_constant, with_sort, with_assertion, more_levels, fewer_levels, emptied}

abbrev pub NothingIsOpening : Type 0
NothingIsOpening = (trees : List Tree) → IsScriptIn trees nothing opening

-- a constant more is held
abbrev pub ConstantsAreHeld : Type 0
ConstantsAreHeld = (trees : List Tree) (held : Held) (s : State) (own : Declared) → IsLawful own.sort → IsScriptIn trees held s → IsScriptIn trees (with_constant own held) (declared own.name.items own.sort s)

-- a sort more is held
abbrev pub SortsAreHeld : Type 0
SortsAreHeld = (trees : List Tree) (held : Held) (s : State) (name : List ℕ) (sort : Sort) → IsLawful sort → IsScriptIn trees held s → IsScriptIn trees (with_sort name sort held) (with_entry (sort_key name) (Synonym sort) s)

-- an assertion more is held, without a name
abbrev pub AssertionsAreHeld : Type 0
AssertionsAreHeld = (trees : List Tree) (held : Held) (s : State) (id : ℕ) (t : Tree) → StandsAt trees id t → IsScriptIn trees held s → IsScriptIn trees (with_assertion id held) (asserting (record { tree = t; name = None }) s)

-- what is held in a store is held as it grows
abbrev pub ScriptsStayHeld : Type 0
ScriptsStayHeld = (old new : List Tree) (held : Held) (s : State) → Grows old new → IsScriptIn old held s → IsScriptIn new held s

-- levels more, and fewer
abbrev pub OpenedLevelsAreHeld : Type 0
OpenedLevelsAreHeld = (trees : List Tree) (held : Held) (s : State) (n : ℕ) → IsScriptIn trees held s → IsScriptIn trees (more_levels n held) (pushed n s)

abbrev pub ClosedLevelsAreHeld : Type 0
ClosedLevelsAreHeld = (trees : List Tree) (held : Held) (s : State) (n : ℕ) → n ≤ length s.opened → IsScriptIn trees held s → IsScriptIn trees (fewer_levels n held) (popped n s)

abbrev pub EmptiedScriptsAreHeld : Type 0
EmptiedScriptsAreHeld = (trees : List Tree) (held : Held) (s : State) → IsScriptIn trees held s → IsScriptIn trees (emptied held) (without_levels s)
