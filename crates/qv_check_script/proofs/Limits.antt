-- What is taken of a source, one call after another.
use Rattle.std.proofs.Common.{◌≡◌, ◌∙◌, ℕ, ◌+◌, ◌≤◌, Option, Some, None, List, [], ◌++◌, length, length-append, append_assoc, sym, subst, arith}
use Rattle.std.specs.Prelude.{IfSome, IsSomeAnd}
use Rattle.std.proofs.lemmas.List.{append-nil}
use Rattle.qv_io.specs.Source.{Gives}
use Rattle.qv_text.specs.Progress.{Progress, fed}
use Rattle.qv_sexpr.specs.Limits.{read_limit}
use Rattle.qv_sexpr.specs.Reader.{FedGiven}
use Rattle.qv_sexpr.specs.declared.answers.Stop.TheVariants as stop
use Rattle.qv_sexpr.specs.Calls.{OnDemand, nothing, asked, called, ReadsOnDemand}
use Rattle.qv_sexpr.specs.Causes.{Gave, no_call, one_more}
use Rattle.qv_cert.specs.Took as cert
use Rattle.qv_check_defs.specs.Limits.{MetLimit, Takes, TakesToLimit}
use Rattle.qv_sexpr.proofs.Along.{fed_more}

-- what a source had, where it tells its bytes
abbrev Had : (left left' : Option (List ℕ)) → List ℕ → Type 0
Had left left' bytes = IfSome left (λ text. IsSomeAnd left' (λ rest. length bytes + length rest ≤ length text))

had-none : (left : Option (List ℕ)) → Had left left []
had-none None = tt
had-none (Some text) = omega arith

had-on : (a b c : Option (List ℕ)) (xs ys : List ℕ) → Had a b xs → Had b c ys → Had a c (xs ++ ys)
had-on None b c xs ys h k = tt
had-on (Some text) None c xs ys h k = absurd h
had-on (Some text) (Some mid) None xs ys h k = absurd k
had-on (Some text) (Some mid) (Some rest) xs ys h k = rw length-append (omega (arith, h, k))

pub had-given : (a b : Option (List ℕ)) (xs : List ℕ) → Gives a b xs → Had a b xs
had-given None b xs h = tt
had-given (Some text) None xs h = absurd cc
had-given (Some text) (Some rest) xs h = let same : text ≡ xs ++ rest = cc in rw (same, length-append) (omega arith)

had-fed : (a b : Option (List ℕ)) (old new : Progress) (xs : List ℕ) → FedGiven a old b new → fed new ≡ fed old + length xs → Had a b xs
had-fed None b old new xs h k = tt
had-fed (Some text) None old new xs h k = absurd h
had-fed (Some text) (Some rest) old new xs h k = omega (arith, h, k)

pub had-limit : (a b : Option (List ℕ)) (xs : List ℕ) → Had a b xs → read_limit ≤ length xs → IfSome a (λ text. read_limit ≤ length text)
had-limit None b xs h k = tt
had-limit (Some text) None xs h k = absurd h
had-limit (Some text) (Some rest) xs h k = omega (arith, h, k)

module _ {S : Type 0} (call : S → ℕ → Option (List ℕ) → S → Type 0) (left : S → Option (List ℕ)) where
  pub gave-on : {s t u : S} {xs ys : List ℕ} → Gave call s xs t → Gave call t ys u → Gave call s (xs ++ ys) u
  gave-on {s} {t} {u} {xs} h no_call = subst (λ (zs : List ℕ). Gave call s zs t) (sym (append-nil xs)) h
  gave-on {s} {t} {u} {xs} h (one_more bytes now more later k c) = subst (λ (zs : List ℕ). Gave call s zs later) (append_assoc xs bytes more) (one_more (xs ++ bytes) now more later (gave-on h k) c)

  pub gave-as : {s u : S} {xs : List ℕ} → cert.Gave call s xs u → Gave call s xs u
  gave-as cert.gave_none = no_call
  gave-as (cert.gave_more bytes now more later h c) = one_more bytes now more later (gave-as h) c

  pub takes-none : (taken : ℕ) (source : S) → Takes call left taken source taken source
  takes-none taken source = record { bytes = []; gave = no_call; counted = omega arith; told = had-none (left source) }

  pub takes-on : (a b c : ℕ) (s t u : S) → Takes call left a s b t → Takes call left b t c u → Takes call left a s c u
  takes-on a b c s t u h k = record {
    bytes = h.bytes ++ k.bytes;
    gave = gave-on h.gave k.gave;
    counted = rw length-append (omega (arith, h.counted, k.counted));
    told = had-on (left s) (left t) (left u) h.bytes k.bytes h.told k.told;
  }

  pub limit-on : (a b : ℕ) (s t u : S) → Takes call left a s b t → TakesToLimit call left b t u → TakesToLimit call left a s u
  limit-on a b s t u h k = (k.0, takes-on a b k.0 s t u h k.1, k.2)

  -- bytes of a script
  fed-later : (old : Progress) (source : S) {lexer : Progress} {later : S} → OnDemand call old source lexer later → (bytes : List ℕ) × Gave call source bytes later × (fed lexer ≡ fed old + length bytes)
  fed-later old source nothing = ([], no_call, omega arith)
  fed-later old source (asked lexer now answer new h q) = let t = fed-later old source h in (t.0, t.1, q.fed ∙ t.2)
  fed-later old source (called lexer now new bytes later h q r) =
      let t = fed-later old source h in
      (t.0 ++ bytes, one_more t.0 now bytes later t.1 r, rw (length-append, fed_more) (omega (arith, t.2, q.fed)))

  pub takes-fed : (old lexer new : Progress) (source later : S) → OnDemand call old source lexer later → fed new ≡ fed lexer → FedGiven (left source) old (left later) new → Takes call left (fed old) source (fed new) later
  takes-fed old lexer new source later h same given =
      let t = fed-later old source h in
      let counted : fed new ≡ fed old + length t.0 = same ∙ t.2 in
      record { bytes = t.0; gave = t.1; counted = counted; told = had-fed (left source) (left later) old new t.0 given counted }

  -- a command, and the limit where one was wanted
  pub takes-command : (old new : Progress) (source later : S) → ReadsOnDemand call old source None new later → FedGiven (left source) old (left later) new → Takes call left (fed old) source (fed new) later
  takes-command old new source later h given = takes-fed old h.1.0 new source later h.1.1 h.1.2.fed given

  pub limit-command : (old new : Progress) (source later : S) → ReadsOnDemand call old source (Some stop.ReadLimit) new later → FedGiven (left source) old (left later) new → read_limit ≤ fed new → TakesToLimit call left (fed old) source later
  limit-command old new source later h given limit = (fed new, takes-fed old h.0 new source later h.1 h.2.fed given, limit)

  -- from the start of a source
  pub met-limit : (source later : S) → TakesToLimit call left 0 source later → MetLimit call (left source) source later
  met-limit source later h =
      let limit : read_limit ≤ length h.1.bytes = omega (arith, h.1.counted, h.2) in
      record { taken = h.1.bytes; gave = h.1.gave; limit = limit; told = had-limit (left source) (left later) h.1.bytes h.1.told limit }
