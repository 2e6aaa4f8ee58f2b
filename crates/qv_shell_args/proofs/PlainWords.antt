-- Words that don't begin with `-` go to the places.
use Rattle.std.proofs.Common.{◌≡◌, refl, sym, Bool, true, false, not, eqb, [], ◌∷◌}
use Rattle.clap.proofs.OnLiterals.{clap_on_literals}
use Rattle.qv_shell_args.specs.Call.{PlainWordsCheck, checking_in, places_of, request_in}
use Rattle.qv_shell_args.specs.Commands.{matched}
use Rattle.std.proofs.lemmas.Bool.{true≢false}

not-true : (b : Bool) → not b ≡ true → b ≡ false
not-true true h = absurd (true≢false (sym h))
not-true false h = refl

pub plain-check : PlainWordsCheck
unfolding clap_on_literals request_in checking_in places_of matched
plain-check [] [] p q = refl
plain-check [] (d ∷ ds) p q =
    let e : eqb d 45 ≡ false = not-true _ q in
    rw e (rw e refl)
plain-check (c ∷ cs) [] p q =
    let e : eqb c 45 ≡ false = not-true _ p in
    rw e (rw e refl)
plain-check (c ∷ cs) (d ∷ ds) p q =
    let e : eqb c 45 ≡ false = not-true _ p in
    let f : eqb d 45 ≡ false = not-true _ q in
    rw e (rw e (rw f (rw f refl)))
