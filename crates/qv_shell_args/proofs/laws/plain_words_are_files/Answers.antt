use Rattle.qv_shell_args.proofs.PlainWords.{plain-check}
use Rattle.qv_shell_args.proofs.laws.plain_words_are_files.Goals as goal

pub returns : goal.returns
returns c = plain-check
