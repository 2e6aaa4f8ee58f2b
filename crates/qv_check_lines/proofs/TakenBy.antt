-- What was taken up to a verdict.
use Rattle.std.proofs.Common.{◌≡◌, ℕ, Option, List, refl, sym, subst, ◌∙◌}
use Rattle.std.specs.Prelude.{Result, Ok, Err, IfErr}
use Rattle.qv_cert.specs.declared.kind.RefusalKind.{RefusalKind}
use Rattle.qv_cert.specs.declared.kind.RefusalKind.TheVariants as kind
use Rattle.qv_cert.specs.CertReader.{Position, MeetsLimit}
use Rattle.qv_cert.specs.Took.{TookLines, TookSome, TookToLine}
use Rattle.qv_cert.proofs.Took.{took_none, no-lines, lines-on}
use Rattle.qv_check_lines.specs.declared.verdict.Verdict.{Verdict}
use Rattle.qv_check_lines.specs.declared.verdict.Verdict.TheVariants.{Accepted, Refused, PrefixLimit, ReadFault, ReadLimit, NoMemory}
use Rattle.qv_check_lines.specs.Ending.{TookBy, TookWith}
use Rattle.qv_check_lines.proofs.Ended.{StopsAt}

module _ {S : Type 0} (call : S → ℕ → Option (List ℕ) → S → Type 0) (left : S → Option (List ℕ)) where
  -- nothing was taken
  pub nothing-took : (reader : Position) (source : S) → TookLines call left reader source reader.given reader.rest reader.taken source
  nothing-took reader source = no-lines call left reader source reader.rest reader.taken source (took_none call left reader.rest reader.taken source)

  -- behind whole lines
  pub took-on : (old mid new : Position) (s t u : S) (v : Verdict) → TookLines call left old s mid.given mid.rest mid.taken t → TookBy call left mid t v new u → TookBy call left old s v new u
  took-on old mid new s t u (Accepted answer) h k = lines-on call left old mid s t u new.given new.rest new.taken h k
  took-on old mid new s t u (Refused line found) h k =
      ((k.0.0, lines-on call left old mid s t u new.given k.0.0 new.taken h k.0.1), λ other. lines-on call left old mid s t u line new.rest new.taken h (k.1 other))
  took-on old mid new s t u PrefixLimit h k = lines-on call left old mid s t u new.given new.rest new.taken h k
  took-on old mid new s t u ReadFault h k = (k.0, (k.1.0, lines-on call left old mid s t k.0 new.given k.1.0 new.taken h k.1.1), k.2)
  took-on old mid new s t u ReadLimit h k = record {
    rest = k.rest;
    taken = k.taken;
    now = k.now;
    lines = lines-on call left old mid s t k.now new.given k.rest k.taken h k.lines;
    limit = k.limit;
    took = (k.took.0, lines-on call left old mid s t u new.given k.took.0 new.taken h k.took.1);
  }
  took-on old mid new s t u NoMemory h k = tt

  pub all-took-on : {T : Type 0} (old mid new : Position) (s t u : S) (r : Result T Verdict) → TookLines call left old s mid.given mid.rest mid.taken t → TookWith call left mid t r new u → TookWith call left old s r new u
  all-took-on old mid new s t u (Ok value) h k = lines-on call left old mid s t u new.given new.rest new.taken h k
  all-took-on old mid new s t u (Err v) h k = took-on old mid new s t u v h k

  -- ---- at a line that was read

  pub refused-took : (old : Position) (s : S) (number line : ℕ) (found : RefusalKind) (new : Position) (t : S) → number ≡ new.given → line ≡ number → TookLines call left old s new.given new.rest new.taken t → TookToLine call left old s line found new t
  refused-took old s number line found new t is at h = ((new.rest, h), λ other. subst (λ n. TookLines call left old s n new.rest new.taken t) (sym (at ∙ is)) h)

  pub stops-took : (old : Position) (s : S) (number : ℕ) (v : Verdict) (new : Position) (t : S) → number ≡ new.given → TookLines call left old s new.given new.rest new.taken t → StopsAt number v → TookBy call left old s v new t
  stops-took old s number (Refused line found) new t is h k = refused-took old s number line found new t is k h
  stops-took old s number (Accepted answer) new t is h k = absurd k
  stops-took old s number PrefixLimit new t is h k = absurd k
  stops-took old s number ReadFault new t is h k = absurd k
  stops-took old s number ReadLimit new t is h k = absurd k
  stops-took old s number NoMemory new t is h k = tt

  pub all-stops-took : {T : Type 0} (old : Position) (s : S) (number : ℕ) (r : Result T Verdict) (new : Position) (t : S) → number ≡ new.given → TookLines call left old s new.given new.rest new.taken t → IfErr r (StopsAt number)
      → TookWith call left old s r new t
  all-stops-took old s number (Ok value) new t is h k = h
  all-stops-took old s number (Err v) new t is h k = stops-took old s number v new t is h k

  -- ---- where no line was read

  pub limit-took : (old : Position) (s : S) (new : Position) (t : S) → new.given ≡ old.given → MeetsLimit call old.rest old.taken s new.taken t → TookSome call left old s new.given new.taken t → TookBy call left old s ReadLimit new t
  limit-took old s new t is limit h = record {
    rest = old.rest;
    taken = old.taken;
    now = s;
    lines = subst (λ n. TookLines call left old s n old.rest old.taken s) (sym is) (nothing-took old s);
    limit = limit;
    took = h;
  }

  pub cut-took : (old : Position) (s : S) (number : ℕ) (new : Position) (t : S) → TookSome call left old s new.given new.taken t → TookBy call left old s (Refused number kind.Truncated) new t
  cut-took old s number new t h = (h, λ other. absurd (other refl))

  pub fault-took : (old : Position) (s : S) (number : ℕ) (k found : RefusalKind) (new : Position) (t : S) → (k ≡ kind.Truncated → found ≡ kind.Truncated) → TookToLine call left old s number k new t → TookBy call left old s (Refused number found) new t
  fault-took old s number k found new t cut h = (h.0, λ other. h.1 (λ e. other (cut e)))
