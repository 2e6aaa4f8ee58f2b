-- The commands and the keys of `get-info` as the code tells them. No public contract cites this.
use Rattle.std.specs.Prelude.{ℕ, Bool, true, false, List, codes}
use Rattle.qv_script_parts.specs.declared.command.Command.{Command as Told}
use Rattle.qv_script_parts.specs.declared.command.Command.TheVariants as code
use Rattle.qv_script_parts.specs.declared.texts.Info.{Info as ToldInfo}
use Rattle.qv_script_parts.specs.declared.texts.Info.TheVariants as info
use Rattle.qv_script_defs.specs.Texts.{Info, Fixed, Levels, ReasonUnknown, AllStatistics}
use Rattle.qv_script_defs.specs.Commands.{Command, SetLogic, SetOption, SetInfo, DeclareConst, DeclareFun, DefineFun, DefineConst, DefineSort, Assert, Push, Pop, CheckSat, CheckSatAssuming, GetValue, GetModel, GetUnsatCore, GetUnsatAssumptions, GetInfo, GetOption, Echo, ResetAssertions, Reset, Leave, Unsupported}

abbrev pub meant : Told → Command
meant code.SetLogic = SetLogic
meant code.SetOption = SetOption
meant code.SetInfo = SetInfo
meant code.DeclareConst = DeclareConst
meant code.DeclareFun = DeclareFun
meant code.DefineFun = DefineFun
meant code.DefineConst = DefineConst
meant code.DefineSort = DefineSort
meant code.Assert = Assert
meant code.Push = Push
meant code.Pop = Pop
meant code.CheckSat = CheckSat
meant code.CheckSatAssuming = CheckSatAssuming
meant code.GetValue = GetValue
meant code.GetModel = GetModel
meant code.GetInfo = GetInfo
meant code.GetOption = GetOption
meant code.Echo = Echo
meant code.ResetAssertions = ResetAssertions
meant code.Reset = Reset
meant code.Exit = Leave
meant code.DefineFunRec = Unsupported
meant code.DefineFunsRec = Unsupported
meant code.DeclareSort = Unsupported
meant code.DeclareSortParameter = Unsupported
meant code.DeclareDatatype = Unsupported
meant code.DeclareDatatypes = Unsupported
meant code.GetProof = Unsupported
meant code.GetAssertions = Unsupported
meant code.GetAssignment = Unsupported
meant code.GetUnsatAssumptions = GetUnsatAssumptions
meant code.GetUnsatCore = GetUnsatCore

abbrev pub name_of : Told → List ℕ
name_of code.SetLogic = codes "set-logic"
name_of code.SetOption = codes "set-option"
name_of code.SetInfo = codes "set-info"
name_of code.DeclareConst = codes "declare-const"
name_of code.DeclareFun = codes "declare-fun"
name_of code.DefineFun = codes "define-fun"
name_of code.DefineConst = codes "define-const"
name_of code.DefineSort = codes "define-sort"
name_of code.Assert = codes "assert"
name_of code.Push = codes "push"
name_of code.Pop = codes "pop"
name_of code.CheckSat = codes "check-sat"
name_of code.CheckSatAssuming = codes "check-sat-assuming"
name_of code.GetValue = codes "get-value"
name_of code.GetModel = codes "get-model"
name_of code.GetInfo = codes "get-info"
name_of code.Echo = codes "echo"
name_of code.ResetAssertions = codes "reset-assertions"
name_of code.Reset = codes "reset"
name_of code.Exit = codes "exit"
name_of code.DefineFunRec = codes "define-fun-rec"
name_of code.DefineFunsRec = codes "define-funs-rec"
name_of code.DeclareSort = codes "declare-sort"
name_of code.DeclareSortParameter = codes "declare-sort-parameter"
name_of code.DeclareDatatype = codes "declare-datatype"
name_of code.DeclareDatatypes = codes "declare-datatypes"
name_of code.GetProof = codes "get-proof"
name_of code.GetAssertions = codes "get-assertions"
name_of code.GetAssignment = codes "get-assignment"
name_of code.GetOption = codes "get-option"
name_of code.GetUnsatAssumptions = codes "get-unsat-assumptions"
name_of code.GetUnsatCore = codes "get-unsat-core"

-- what get-info knows
abbrev pub meant_info : ToldInfo → Info
meant_info info.Name = Fixed (codes "\"qbv\"")
meant_info info.Version = Fixed (codes "\"1\"")
meant_info info.Authors = Fixed (codes "\"qbv\"")
meant_info info.ErrorBehavior = Fixed (codes "immediate-exit")
meant_info info.Levels = Levels
meant_info info.ReasonUnknown = ReasonUnknown
meant_info info.AllStatistics = AllStatistics

abbrev pub key_of : ToldInfo → List ℕ
key_of info.Name = codes ":name"
key_of info.Version = codes ":version"
key_of info.Authors = codes ":authors"
key_of info.ErrorBehavior = codes ":error-behavior"
key_of info.Levels = codes ":assertion-stack-levels"
key_of info.ReasonUnknown = codes ":reason-unknown"
key_of info.AllStatistics = codes ":all-statistics"

-- groups of commands
abbrev pub is_setting : Told → Bool
is_setting code.SetLogic = true
is_setting code.SetOption = true
is_setting code.SetInfo = true
is_setting code.GetInfo = true
is_setting code.GetOption = true
is_setting code.Echo = true
is_setting _ = false

abbrev pub is_level : Told → Bool
is_level code.Push = true
is_level code.Pop = true
is_level code.ResetAssertions = true
is_level code.Reset = true
is_level code.Exit = true
is_level _ = false

abbrev pub is_declaration : Told → Bool
is_declaration code.DeclareConst = true
is_declaration code.DeclareFun = true
is_declaration code.DefineSort = true
is_declaration _ = false

abbrev pub is_definition : Told → Bool
is_definition code.DefineConst = true
is_definition code.DefineFun = true
is_definition _ = false

abbrev pub is_check : Told → Bool
is_check code.Assert = true
is_check code.CheckSat = true
is_check code.CheckSatAssuming = true
is_check _ = false

abbrev pub is_question : Told → Bool
is_question code.GetValue = true
is_question code.GetModel = true
is_question code.GetUnsatCore = true
is_question code.GetUnsatAssumptions = true
is_question _ = false
