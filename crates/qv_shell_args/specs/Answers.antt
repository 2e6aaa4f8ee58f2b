-- What the functions answer that read a part of the words.
use Rattle.std.specs.Prelude.{◌≡◌, ℕ, Option, Some, None, Result, Ok, Err, String, string_bytes}
use Rattle.std.specs.declared.alloc.Global.{Global}
use Rattle.clap.specs.Words.{Text}
use Rattle.qv_shell_args.specs.declared.calls.Settings.{Settings}
use Rattle.qv_shell_args.specs.declared.calls.CallFault.{CallFault}
use Rattle.qv_shell_args.specs.declared.calls.CallFault.TheVariants.{Refused, NoMemory}

-- the answer stands for what is there, or refuses where nothing is, unless memory ran out
abbrev pub Answers : {T X : Type 0} → (T → X) → Option X → Result T CallFault → Type 0
Answers meaning there (Ok answer) = there ≡ Some (meaning answer)
Answers meaning there (Err Refused) = there ≡ None
Answers meaning there (Err NoMemory) = Unit {0}

-- texts by their bytes, alone, beside settings and beside the prefix limit
abbrev pub pair_texts : String Global × String Global → Text × Text
pair_texts files = (string_bytes files.0, string_bytes files.1)

abbrev pub solving_texts : (String Global × String Global) × Settings → (Text × Text) × Settings
solving_texts solving = (pair_texts solving.0, solving.1)

abbrev pub checking_texts : (String Global × String Global) × ℕ → (Text × Text) × ℕ
checking_texts checking = (pair_texts checking.0, checking.1)
