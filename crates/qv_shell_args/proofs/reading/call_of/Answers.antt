use Rattle.std.proofs.Common.{◌∙◌, ap, map, drop, take, length, ◌-◌}
use Rattle.std.specs.Prelude.{string_bytes}
use Rattle.std.proofs.lemmas.List.{take_rest}
use Rattle.qv_shell_args.specs.Call.{request_behind}
use Rattle.qv_shell_args.proofs.Calling.{no-words, one-word, call-from, refused-from}
use Rattle.qv_shell_args.proofs.reading.call_of.Goals as goal

pub returns-in-empty-clause-refused : goal.returns-in-empty-clause-refused
returns-in-empty-clause-refused c = λ e. no-words string_bytes c.args.words.now c.in-empty.len_below

pub returns-in-len1-up-clause-call : goal.returns-in-len1-up-clause-call
returns-in-len1-up-clause-call c =
    let words = c.args.words.now in
    call-from (map string_bytes words) (request_behind c.as_str.result.now (map string_bytes (take (length words - 1) (drop 1 words)))) c.call_behind.result
    (one-word string_bytes words (take (length words - 1) (drop 1 words)) c.name-item.result c.as_str.result.now c.in-len1-up.len_at_least
    (c.as_str.ensures.value ∙ ap string_bytes c.name-item.is) (take_rest words 1)) c.call_behind.ensures.call

pub returns-in-len1-up-clause-refused : goal.returns-in-len1-up-clause-refused
returns-in-len1-up-clause-refused c =
    let words = c.args.words.now in
    refused-from (map string_bytes words) (request_behind c.as_str.result.now (map string_bytes (take (length words - 1) (drop 1 words)))) c.call_behind.result
    (one-word string_bytes words (take (length words - 1) (drop 1 words)) c.name-item.result c.as_str.result.now c.in-len1-up.len_at_least
    (c.as_str.ensures.value ∙ ap string_bytes c.name-item.is) (take_rest words 1)) c.call_behind.ensures.call
