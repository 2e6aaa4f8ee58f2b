use Rattle.std.proofs.Common.{◌≡◌, ◌++◌, ℕ, List, take, drop, sym, subst, take-append-drop, ◌∙◌}
use Rattle.qv_io.specs.Sink.{Appends, AppendsPart}
use Rattle.qv_check_script.proofs.Whole.{on-err}
use Rattle.qv_check_defs.specs.Outcome.{outcome}
use Rattle.qv_check_script.specs.Ending.{status_of}
use Rattle.qv_check_clauses.specs.Clauses.{clauses_text}
use Rattle.qv_check_clauses.specs.Following.{IsListing}
use Rattle.qv_check_clauses.proofs.Listed.{nothing-cut, nothing-short, told}
use Rattle.qv_check_clauses.proofs.listing.clauses.Goals as goal

pub returns-in_err-text-clause-cut : goal.returns-in_err-text-clause-cut
returns-in_err-text-clause-cut g c = on-err c.from_residual.result _ (nothing-cut c.args.places (g.S.Source.left c.args.script.now) (g.C.Source.left c.args.cert.now) (g.O.Sink.held c.args.out.now))

pub returns-in_err-text-clause-short : goal.returns-in_err-text-clause-short
returns-in_err-text-clause-short g c _ = nothing-short c.args.places (g.S.Source.left c.args.script.now) (g.C.Source.left c.args.cert.now) (g.O.Sink.held c.args.out.now)

pub returns-in_err-bytes-clause-cut : goal.returns-in_err-bytes-clause-cut
returns-in_err-bytes-clause-cut g c = on-err c.from_residual-in_err-bytes.result _ (nothing-cut c.args.places (g.S.Source.left c.args.script.now) (g.C.Source.left c.args.cert.now) (g.O.Sink.held c.args.out.now))

pub returns-in_err-bytes-clause-short : goal.returns-in_err-bytes-clause-short
returns-in_err-bytes-clause-short g c _ = nothing-short c.args.places (g.S.Source.left c.args.script.now) (g.C.Source.left c.args.cert.now) (g.O.Sink.held c.args.out.now)

pub returns-in_err-listing-clause-cut : goal.returns-in_err-listing-clause-cut
returns-in_err-listing-clause-cut g c = on-err c.from_residual-in_err-listing.result _ (nothing-cut c.args.places (g.S.Source.left c.args.script.now) (g.C.Source.left c.args.cert.now) (g.O.Sink.held c.args.out.now))

pub returns-in_err-listing-clause-short : goal.returns-in_err-listing-clause-short
returns-in_err-listing-clause-short g c _ = nothing-short c.args.places (g.S.Source.left c.args.script.now) (g.C.Source.left c.args.cert.now) (g.O.Sink.held c.args.out.now)

pub returns-in_err-put_all-clause-cut : goal.returns-in_err-put_all-clause-cut
returns-in_err-put_all-clause-cut g c =
    let text = c.in_ok-text.text.items in
    let bytes = c.in_ok-bytes.bytes.items in
    let whole = c.in_ok-listing.listing.text.items in
    let held = g.O.Sink.held c.args.out.now in
    let held' = g.O.Sink.held c.put_all.new.sink in
    let is : whole ≡ clauses_text c.args.places text bytes = subst (λ (t : List ℕ). whole ≡ clauses_text c.args.places t bytes) c.deref.ensures.value (subst (λ (b : List ℕ). whole ≡ clauses_text c.args.places c.deref.result.now b) c.deref-2.ensures.value c.in_ok-listing.ensures.1) in
    let part : AppendsPart held held' whole = subst (λ (p : List ℕ). AppendsPart held held' p) c.deref-3.ensures.value c.in_err-put_all.ensures.part in
    on-err c.from_residual-in_err-put_all.result _
    (told text bytes (g.S.Source.left c.args.script.now) (g.C.Source.left c.args.cert.now) c.in_ok-text.ensures.all c.in_ok-bytes.ensures.all
    (λ s b. (written : List ℕ) × (rest : List ℕ) × (clauses_text c.args.places s b ≡ written ++ rest) × Appends held held' written)
    (take part.0 whole, drop part.0 whole, sym is ∙ sym (take-append-drop part.0 whole), part.2))

pub returns-clause-done : goal.returns-clause-done
returns-clause-done g c =
    let text = c.in_ok-text.text.items in
    let bytes = c.in_ok-bytes.bytes.items in
    let whole = c.in_ok-listing.listing.text.items in
    let ending = c.in_ok-listing.listing.ending in
    let held = g.O.Sink.held c.args.out.now in
    let held' = g.O.Sink.held c.put_all.new.sink in
    let is : IsListing c.args.places text bytes ending whole = subst (λ (t : List ℕ). IsListing c.args.places t bytes ending whole) c.deref.ensures.value (subst (λ (b : List ℕ). IsListing c.args.places c.deref.result.now b ending whole) c.deref-2.ensures.value c.in_ok-listing.ensures) in
    let prints : Appends held held' whole = subst (λ (p : List ℕ). Appends held held' p) c.deref-3.ensures.value c.in_ok-put_all.ensures.ok in
    told text bytes (g.S.Source.left c.args.script.now) (g.C.Source.left c.args.cert.now) c.in_ok-text.ensures.all c.in_ok-bytes.ensures.all
    (λ s b. (status_of ending ≡ (outcome c.args.places s b).status) × Appends held held' (clauses_text c.args.places s b))
    (is.0, subst (λ (t : List ℕ). Appends held held' t) is.1 prints)
