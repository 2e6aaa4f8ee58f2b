-- From what a command's name and the words behind it ask for to what all words ask for.
use Rattle.std.proofs.Common.{◌≡◌, ◌∙◌, ap, ap₂, sym, refl, ◌<◌, ◌≤◌, List, [], ◌∷◌, length, get_or, map, drop, Option, arith}
use Rattle.std.specs.Prelude.{Result, Ok, Err, IfOk}
use Rattle.clap.specs.Words.{Text}
use Rattle.qv_shell_args.specs.Answers.{Answers}
use Rattle.qv_shell_args.specs.Call.{IsCall, IsRefusedCall, Request, request_behind, request_in, request_of}
use Rattle.qv_shell_args.specs.declared.calls.Call.{Call}
use Rattle.qv_shell_args.specs.declared.calls.CallFault.{CallFault}
use Rattle.qv_shell_args.specs.declared.calls.CallFault.TheVariants.{Refused}

pub no-words : {X : Type 0} (f : X → Text) (words : List X) → length words < 1 → IsRefusedCall (map f words)
unfolding request_in
no-words f [] h = refl
no-words f (word ∷ words) h = absurd (omega (arith, h))

pub one-word : {X : Type 0} (f : X → Text) (words rest : List X) (d : X) (name : Text) → 1 ≤ length words → name ≡ f (get_or words 0 d) → rest ≡ drop 1 words
    → request_in (map f words) ≡ request_behind name (map f rest)
unfolding request_in
one-word f [] rest d name h first behind = absurd (omega (arith, h))
one-word f (word ∷ words) rest d name h first behind = ap₂ request_behind (sym first) (sym (ap (map f) behind))

pub call-from : (words : List Text) (there : Option Request) (r : Result Call CallFault) → request_in words ≡ there → Answers request_of there r → IfOk r (IsCall words)
call-from words there (Ok call) is h = is ∙ h
call-from words there (Err fault) is h = tt

pub refused-from : (words : List Text) (there : Option Request) (r : Result Call CallFault) → request_in words ≡ there → Answers request_of there r → r ≡ Err Refused
    → IsRefusedCall words
refused-from words there r is h e = is ∙ (rw e at h)
