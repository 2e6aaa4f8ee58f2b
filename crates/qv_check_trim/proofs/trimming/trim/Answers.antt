use Rattle.std.proofs.Common.{ℕ, List, [], take, drop, sym, subst, take-append-drop}
use Rattle.std.proofs.lemmas.List.{append-nil}
use Rattle.qv_io.specs.Sink.{Appends, AppendsPart}
use Rattle.qv_check_script.proofs.Unfinished.{nothing-short}
use Rattle.qv_check_script.proofs.Whole.{on-err}
use Rattle.qv_check_trim.specs.Printing.{IsChecked, IsFrontOfOutcome}
use Rattle.qv_check_trim.specs.Sections.{WroteCertFront, WroteKept}
use Rattle.qv_check_trim.proofs.Checks.{nothing-cut, nothing-front, unwritten-front, printed-front, printed-cut, printed-done, printed-short, written-whole}
use Rattle.qv_check_trim.proofs.trimming.trim.Goals as goal

-- the certificate wasn't taken
pub returns-in_err-bytes-clause-cut : goal.returns-in_err-bytes-clause-cut
returns-in_err-bytes-clause-cut g c = on-err c.from_residual.result _ (nothing-cut c.args.places (g.S.Source.left c.args.script.now) (g.C.Source.left c.args.cert.now) (g.O.Sink.held c.args.out.now))

pub returns-in_err-bytes-clause-short : goal.returns-in_err-bytes-clause-short
returns-in_err-bytes-clause-short g c _ = nothing-short c.args.places (g.S.Source.left c.args.script.now) (g.C.Source.left c.args.cert.now) (g.O.Sink.held c.args.out.now)

pub returns-in_err-bytes-clause-front : goal.returns-in_err-bytes-clause-front
returns-in_err-bytes-clause-front g c = on-err c.from_residual.result _ (nothing-front c.args.places (g.S.Source.left c.args.script.now) (g.C.Source.left c.args.cert.now) (g.O.Sink.held c.args.out.now) (g.P.Sink.held c.args.cert_out.now))

-- it wasn't checked
pub returns-in_err-checked-clause-cut : goal.returns-in_err-checked-clause-cut
returns-in_err-checked-clause-cut g c = on-err c.from_residual-in_err-checked.result _ (nothing-cut c.args.places (g.S.Source.left c.args.script.now) (g.C.Source.left c.args.cert.now) (g.O.Sink.held c.args.out.now))

pub returns-in_err-checked-clause-short : goal.returns-in_err-checked-clause-short
returns-in_err-checked-clause-short g c _ = nothing-short c.args.places (g.S.Source.left c.args.script.now) (g.C.Source.left c.args.cert.now) (g.O.Sink.held c.args.out.now)

pub returns-in_err-checked-clause-front : goal.returns-in_err-checked-clause-front
returns-in_err-checked-clause-front g c = on-err c.from_residual-in_err-checked.result _ (nothing-front c.args.places (g.S.Source.left c.args.script.now) (g.C.Source.left c.args.cert.now) (g.O.Sink.held c.args.out.now) (g.P.Sink.held c.args.cert_out.now))

-- not all was written
pub returns-in_err-write_kept-clause-cut : goal.returns-in_err-write_kept-clause-cut
returns-in_err-write_kept-clause-cut g c = on-err c.from_residual-in_err-write_kept.result _ (nothing-cut c.args.places (g.S.Source.left c.args.script.now) (g.C.Source.left c.args.cert.now) (g.O.Sink.held c.args.out.now))

pub returns-in_err-write_kept-clause-short : goal.returns-in_err-write_kept-clause-short
returns-in_err-write_kept-clause-short g c _ = nothing-short c.args.places (g.S.Source.left c.args.script.now) (g.C.Source.left c.args.cert.now) (g.O.Sink.held c.args.out.now)

pub returns-in_err-write_kept-clause-front : goal.returns-in_err-write_kept-clause-front
returns-in_err-write_kept-clause-front g c =
    let script = g.S.Source.left c.args.script.now in
    let cert = g.C.Source.left c.args.cert.now in
    let bytes = c.in_ok-bytes.bytes.items in
    let ended = c.in_ok-checked.checked.ended in
    let printed = c.in_ok-checked.checked.printed.items in
    let held = g.O.Sink.held c.args.out.now in
    let old = g.P.Sink.held c.args.cert_out.now in
    let new = g.P.Sink.held c.write_kept.new.out in
    let is : IsChecked c.args.places script bytes ended printed = subst (λ (b : List ℕ). IsChecked c.args.places script b ended printed) c.deref.ensures.value c.in_ok-checked.ensures.checked in
    let wrote : (text : List ℕ) → IsFrontOfOutcome c.args.places text bytes printed → WroteCertFront c.args.places text bytes old new =
    subst (λ (b : List ℕ). (text : List ℕ) → IsFrontOfOutcome c.args.places text b printed → WroteCertFront c.args.places text b old new) c.deref-2.ensures.value
    (subst (λ (p : List ℕ). (text : List ℕ) → IsFrontOfOutcome c.args.places text c.deref-2.result.now p → WroteCertFront c.args.places text c.deref-2.result.now old new) c.deref-3.ensures.value (c.in_err-write_kept.ensures.err c.args.places)) in
    on-err c.from_residual-in_err-write_kept.result _ (unwritten-front c.args.places bytes cert c.in_ok-bytes.ensures.all script ended printed is held old new wrote)

-- not all was printed
pub returns-in_err-put_all-clause-cut : goal.returns-in_err-put_all-clause-cut
returns-in_err-put_all-clause-cut g c =
    let script = g.S.Source.left c.args.script.now in
    let cert = g.C.Source.left c.args.cert.now in
    let bytes = c.in_ok-bytes.bytes.items in
    let ended = c.in_ok-checked.checked.ended in
    let printed = c.in_ok-checked.checked.printed.items in
    let held = g.O.Sink.held c.args.out.now in
    let old = g.P.Sink.held c.args.cert_out.now in
    let new = g.P.Sink.held c.write_kept.new.out in
    let is : IsChecked c.args.places script bytes ended printed = subst (λ (b : List ℕ). IsChecked c.args.places script b ended printed) c.deref.ensures.value c.in_ok-checked.ensures.checked in
    let wrote : (text : List ℕ) → IsFrontOfOutcome c.args.places text bytes printed → WroteKept c.args.places text bytes printed old new =
    subst (λ (b : List ℕ). (text : List ℕ) → IsFrontOfOutcome c.args.places text b printed → WroteKept c.args.places text b printed old new) c.deref-2.ensures.value
    (subst (λ (p : List ℕ). (text : List ℕ) → IsFrontOfOutcome c.args.places text c.deref-2.result.now p → WroteKept c.args.places text c.deref-2.result.now p old new) c.deref-3.ensures.value (c.in_ok-write_kept.ensures.ok c.args.places)) in
    let held' = g.O.Sink.held c.put_all.new.sink in
    let part : AppendsPart held held' printed = subst (λ (p : List ℕ). AppendsPart held held' p) c.deref-4.ensures.value c.in_err-put_all.ensures.part in
    on-err c.from_residual-in_err-put_all.result _ (printed-cut c.args.places bytes cert c.in_ok-bytes.ensures.all script ended printed is held old new wrote held' (take part.0 printed) (drop part.0 printed) (sym (take-append-drop part.0 printed)) part.2)

pub returns-in_err-put_all-clause-front : goal.returns-in_err-put_all-clause-front
returns-in_err-put_all-clause-front g c =
    let script = g.S.Source.left c.args.script.now in
    let cert = g.C.Source.left c.args.cert.now in
    let bytes = c.in_ok-bytes.bytes.items in
    let ended = c.in_ok-checked.checked.ended in
    let printed = c.in_ok-checked.checked.printed.items in
    let held = g.O.Sink.held c.args.out.now in
    let old = g.P.Sink.held c.args.cert_out.now in
    let new = g.P.Sink.held c.write_kept.new.out in
    let is : IsChecked c.args.places script bytes ended printed = subst (λ (b : List ℕ). IsChecked c.args.places script b ended printed) c.deref.ensures.value c.in_ok-checked.ensures.checked in
    let wrote : (text : List ℕ) → IsFrontOfOutcome c.args.places text bytes printed → WroteKept c.args.places text bytes printed old new =
    subst (λ (b : List ℕ). (text : List ℕ) → IsFrontOfOutcome c.args.places text b printed → WroteKept c.args.places text b printed old new) c.deref-2.ensures.value
    (subst (λ (p : List ℕ). (text : List ℕ) → IsFrontOfOutcome c.args.places text c.deref-2.result.now p → WroteKept c.args.places text c.deref-2.result.now p old new) c.deref-3.ensures.value (c.in_ok-write_kept.ensures.ok c.args.places)) in
    let held' = g.O.Sink.held c.put_all.new.sink in
    let part : AppendsPart held held' printed = subst (λ (p : List ℕ). AppendsPart held held' p) c.deref-4.ensures.value c.in_err-put_all.ensures.part in
    on-err c.from_residual-in_err-put_all.result _ (printed-front c.args.places bytes cert c.in_ok-bytes.ensures.all script ended printed is held old new wrote held' (take part.0 printed) (drop part.0 printed) (sym (take-append-drop part.0 printed)) part.2)

-- all was
pub returns-clause-done : goal.returns-clause-done
returns-clause-done g c =
    let script = g.S.Source.left c.args.script.now in
    let cert = g.C.Source.left c.args.cert.now in
    let bytes = c.in_ok-bytes.bytes.items in
    let ended = c.in_ok-checked.checked.ended in
    let printed = c.in_ok-checked.checked.printed.items in
    let held = g.O.Sink.held c.args.out.now in
    let old = g.P.Sink.held c.args.cert_out.now in
    let new = g.P.Sink.held c.write_kept.new.out in
    let is : IsChecked c.args.places script bytes ended printed = subst (λ (b : List ℕ). IsChecked c.args.places script b ended printed) c.deref.ensures.value c.in_ok-checked.ensures.checked in
    let wrote : (text : List ℕ) → IsFrontOfOutcome c.args.places text bytes printed → WroteKept c.args.places text bytes printed old new =
    subst (λ (b : List ℕ). (text : List ℕ) → IsFrontOfOutcome c.args.places text b printed → WroteKept c.args.places text b printed old new) c.deref-2.ensures.value
    (subst (λ (p : List ℕ). (text : List ℕ) → IsFrontOfOutcome c.args.places text c.deref-2.result.now p → WroteKept c.args.places text c.deref-2.result.now p old new) c.deref-3.ensures.value (c.in_ok-write_kept.ensures.ok c.args.places)) in
    let held' = g.O.Sink.held c.put_all.new.sink in
    let prints : Appends held held' printed = subst (λ (p : List ℕ). Appends held held' p) c.deref-4.ensures.value c.in_ok-put_all.ensures.ok in
    printed-done c.args.places bytes cert c.in_ok-bytes.ensures.all script ended printed is held old new wrote held' prints

pub returns-clause-cut : goal.returns-clause-cut
returns-clause-cut g c =
    let script = g.S.Source.left c.args.script.now in
    let cert = g.C.Source.left c.args.cert.now in
    let bytes = c.in_ok-bytes.bytes.items in
    let ended = c.in_ok-checked.checked.ended in
    let printed = c.in_ok-checked.checked.printed.items in
    let held = g.O.Sink.held c.args.out.now in
    let old = g.P.Sink.held c.args.cert_out.now in
    let new = g.P.Sink.held c.write_kept.new.out in
    let is : IsChecked c.args.places script bytes ended printed = subst (λ (b : List ℕ). IsChecked c.args.places script b ended printed) c.deref.ensures.value c.in_ok-checked.ensures.checked in
    let wrote : (text : List ℕ) → IsFrontOfOutcome c.args.places text bytes printed → WroteKept c.args.places text bytes printed old new =
    subst (λ (b : List ℕ). (text : List ℕ) → IsFrontOfOutcome c.args.places text b printed → WroteKept c.args.places text b printed old new) c.deref-2.ensures.value
    (subst (λ (p : List ℕ). (text : List ℕ) → IsFrontOfOutcome c.args.places text c.deref-2.result.now p → WroteKept c.args.places text c.deref-2.result.now p old new) c.deref-3.ensures.value (c.in_ok-write_kept.ensures.ok c.args.places)) in
    let held' = g.O.Sink.held c.put_all.new.sink in
    let prints : Appends held held' printed = subst (λ (p : List ℕ). Appends held held' p) c.deref-4.ensures.value c.in_ok-put_all.ensures.ok in
    on-err ended _ (printed-cut c.args.places bytes cert c.in_ok-bytes.ensures.all script ended printed is held old new wrote held' printed [] (sym (append-nil printed)) prints)

pub returns-clause-short : goal.returns-clause-short
returns-clause-short g c =
    let script = g.S.Source.left c.args.script.now in
    let cert = g.C.Source.left c.args.cert.now in
    let bytes = c.in_ok-bytes.bytes.items in
    let ended = c.in_ok-checked.checked.ended in
    let printed = c.in_ok-checked.checked.printed.items in
    let held = g.O.Sink.held c.args.out.now in
    let old = g.P.Sink.held c.args.cert_out.now in
    let new = g.P.Sink.held c.write_kept.new.out in
    let is : IsChecked c.args.places script bytes ended printed = subst (λ (b : List ℕ). IsChecked c.args.places script b ended printed) c.deref.ensures.value c.in_ok-checked.ensures.checked in
    let wrote : (text : List ℕ) → IsFrontOfOutcome c.args.places text bytes printed → WroteKept c.args.places text bytes printed old new =
    subst (λ (b : List ℕ). (text : List ℕ) → IsFrontOfOutcome c.args.places text b printed → WroteKept c.args.places text b printed old new) c.deref-2.ensures.value
    (subst (λ (p : List ℕ). (text : List ℕ) → IsFrontOfOutcome c.args.places text c.deref-2.result.now p → WroteKept c.args.places text c.deref-2.result.now p old new) c.deref-3.ensures.value (c.in_ok-write_kept.ensures.ok c.args.places)) in
    let held' = g.O.Sink.held c.put_all.new.sink in
    let prints : Appends held held' printed = subst (λ (p : List ℕ). Appends held held' p) c.deref-4.ensures.value c.in_ok-put_all.ensures.ok in
    printed-short c.args.places bytes cert c.in_ok-bytes.ensures.all script ended printed is held old new wrote held' prints

pub returns-clause-trimmed : goal.returns-clause-trimmed
returns-clause-trimmed g c =
    let script = g.S.Source.left c.args.script.now in
    let cert = g.C.Source.left c.args.cert.now in
    let bytes = c.in_ok-bytes.bytes.items in
    let ended = c.in_ok-checked.checked.ended in
    let printed = c.in_ok-checked.checked.printed.items in
    let held = g.O.Sink.held c.args.out.now in
    let old = g.P.Sink.held c.args.cert_out.now in
    let new = g.P.Sink.held c.write_kept.new.out in
    let is : IsChecked c.args.places script bytes ended printed = subst (λ (b : List ℕ). IsChecked c.args.places script b ended printed) c.deref.ensures.value c.in_ok-checked.ensures.checked in
    let wrote : (text : List ℕ) → IsFrontOfOutcome c.args.places text bytes printed → WroteKept c.args.places text bytes printed old new =
    subst (λ (b : List ℕ). (text : List ℕ) → IsFrontOfOutcome c.args.places text b printed → WroteKept c.args.places text b printed old new) c.deref-2.ensures.value
    (subst (λ (p : List ℕ). (text : List ℕ) → IsFrontOfOutcome c.args.places text c.deref-2.result.now p → WroteKept c.args.places text c.deref-2.result.now p old new) c.deref-3.ensures.value (c.in_ok-write_kept.ensures.ok c.args.places)) in
    written-whole c.args.places bytes cert c.in_ok-bytes.ensures.all script ended printed is held old new wrote

pub returns-clause-front : goal.returns-clause-front
returns-clause-front g c =
    let script = g.S.Source.left c.args.script.now in
    let cert = g.C.Source.left c.args.cert.now in
    let bytes = c.in_ok-bytes.bytes.items in
    let ended = c.in_ok-checked.checked.ended in
    let printed = c.in_ok-checked.checked.printed.items in
    let held = g.O.Sink.held c.args.out.now in
    let old = g.P.Sink.held c.args.cert_out.now in
    let new = g.P.Sink.held c.write_kept.new.out in
    let is : IsChecked c.args.places script bytes ended printed = subst (λ (b : List ℕ). IsChecked c.args.places script b ended printed) c.deref.ensures.value c.in_ok-checked.ensures.checked in
    let wrote : (text : List ℕ) → IsFrontOfOutcome c.args.places text bytes printed → WroteKept c.args.places text bytes printed old new =
    subst (λ (b : List ℕ). (text : List ℕ) → IsFrontOfOutcome c.args.places text b printed → WroteKept c.args.places text b printed old new) c.deref-2.ensures.value
    (subst (λ (p : List ℕ). (text : List ℕ) → IsFrontOfOutcome c.args.places text c.deref-2.result.now p → WroteKept c.args.places text c.deref-2.result.now p old new) c.deref-3.ensures.value (c.in_ok-write_kept.ensures.ok c.args.places)) in
    let held' = g.O.Sink.held c.put_all.new.sink in
    let prints : Appends held held' printed = subst (λ (p : List ℕ). Appends held held' p) c.deref-4.ensures.value c.in_ok-put_all.ensures.ok in
    on-err ended _ (printed-front c.args.places bytes cert c.in_ok-bytes.ensures.all script ended printed is held old new wrote held' printed [] (sym (append-nil printed)) prints)
