-- The options as the code tells them. No public contract cites this.
use Rattle.std.specs.Prelude.{ℕ, List, codes}
use Rattle.qv_script_parts.specs.declared.settings.Key.{Key}
use Rattle.qv_script_parts.specs.declared.settings.Key.TheVariants as key
use Rattle.qv_script_defs.specs.declared.settings.Setting.{Setting}
use Rattle.qv_script_defs.specs.declared.settings.Setting.TheVariants.{Success, Global, Truth, Numeral, Answers, Diagnostics, Foreign}

abbrev pub key_of : Key → List ℕ
key_of key.PrintSuccess = codes ":print-success"
key_of key.GlobalDeclarations = codes ":global-declarations"
key_of key.ProduceModels = codes ":produce-models"
key_of key.ProduceUnsatCores = codes ":produce-unsat-cores"
key_of key.ProduceUnsatAssumptions = codes ":produce-unsat-assumptions"
key_of key.ProduceAssignments = codes ":produce-assignments"
key_of key.ProduceAssertions = codes ":produce-assertions"
key_of key.InteractiveMode = codes ":interactive-mode"
key_of key.Verbosity = codes ":verbosity"
key_of key.RandomSeed = codes ":random-seed"
key_of key.ReproducibleResourceLimit = codes ":reproducible-resource-limit"
key_of key.RegularOutputChannel = codes ":regular-output-channel"
key_of key.DiagnosticOutputChannel = codes ":diagnostic-output-channel"
key_of key.AutoConfig = codes ":auto_config"
key_of key.MemoryMaxSize = codes ":memory_max_size"
key_of key.Model = codes ":model"
key_of key.ModelValidate = codes ":model_validate"
key_of key.Proof = codes ":proof"
key_of key.Rlimit = codes ":rlimit"
key_of key.Smtlib2Compliant = codes ":smtlib2_compliant"
key_of key.Stats = codes ":stats"
key_of key.Timeout = codes ":timeout"
key_of key.Trace = codes ":trace"
key_of key.TypeCheck = codes ":type_check"
key_of key.UnsatCore = codes ":unsat_core"
key_of key.Verbose = codes ":verbose"
key_of key.Warning = codes ":warning"
key_of key.WellSortedCheck = codes ":well_sorted_check"
key_of key.BvSolver = codes ":bv-solver"
key_of key.FmfBound = codes ":fmf-bound"
key_of key.Incremental = codes ":incremental"
key_of key.RlimitPer = codes ":rlimit-per"
key_of key.SatSolver = codes ":sat-solver"
key_of key.Seed = codes ":seed"
key_of key.StringsExp = codes ":strings-exp"
key_of key.TimeLimitPer = codes ":time-limit-per"
key_of key.Tlimit = codes ":tlimit"
key_of key.TlimitPer = codes ":tlimit-per"
key_of key.YicesEfMaxIters = codes ":yices-ef-max-iters"

abbrev pub meant_key : Key → Setting
meant_key key.PrintSuccess = Success
meant_key key.GlobalDeclarations = Global
meant_key key.ProduceModels = Truth
meant_key key.ProduceUnsatCores = Truth
meant_key key.ProduceUnsatAssumptions = Truth
meant_key key.ProduceAssignments = Truth
meant_key key.ProduceAssertions = Truth
meant_key key.InteractiveMode = Truth
meant_key key.Verbosity = Numeral
meant_key key.RandomSeed = Numeral
meant_key key.ReproducibleResourceLimit = Numeral
meant_key key.RegularOutputChannel = Answers
meant_key key.DiagnosticOutputChannel = Diagnostics
meant_key _ = Foreign
