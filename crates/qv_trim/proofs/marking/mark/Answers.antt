use Rattle.std.proofs.Common.{◌<◌, true, false, not, leb, [], ◌∷◌, length, length-set, get_or, sym, ◌∙◌, arith}
use Rattle.std.proofs.lemmas.Bool.{leb-false}
use Rattle.qv_trim.specs.Marking.{HasId}
use Rattle.qv_trim.proofs.Marked.{marks-none, marks-one, some-below, some-one, get-there, none-some}
use Rattle.qv_trim.proofs.marking.mark.Goals as goal

pub returns-in_default : goal.returns-in_default
returns-in_default c =
    marks-none c.args.entries.now _ c.args.at c.args.marks.now (λ r k h. none-some k (sym c.in_default.is ∙ c.find.ensures.exact r k h))

pub bounds-marks-place : goal.bounds-marks-place
bounds-marks-place c =
    let found = rw c.in-Some.is at c.find.ensures.found in
    omega (arith, some-below c.args.entries.now c.in-Some.place found.entry found.stands, c.requires)

pub bounds-marks-place-2 : goal.bounds-marks-place-2
bounds-marks-place-2 c =
    let found = rw c.in-Some.is at c.find.ensures.found in
    omega (arith, some-below c.args.entries.now c.in-Some.place found.entry found.stands, c.requires)

pub returns-then-not-was : goal.returns-then-not-was
returns-then-not-was c =
    let found = rw c.in-Some.is at c.find.ensures.found in
    let marks = c.args.marks.now in
    let place = c.in-Some.place in
    let below : place < length marks = omega (arith, some-below c.args.entries.now place found.entry found.stands, c.requires) in
    marks-one c.args.entries.now (HasId c.args.entries.now (c.args.id ∷ [])) c.args.at place marks (get_or marks place false) (leb c.args.at place) below (get-there marks place false below) found
    (λ r k h. some-one place k (sym c.in-Some.is ∙ c.find.ensures.exact r k h)) (length-set marks place true) (λ e l. absurd (omega (arith, l, leb-false c.args.at place e)))

pub returns-else-not-was : goal.returns-else-not-was
returns-else-not-was c =
    let found = rw c.in-Some.is at c.find.ensures.found in
    let marks = c.args.marks.now in
    let place = c.in-Some.place in
    let below : place < length marks = omega (arith, some-below c.args.entries.now place found.entry found.stands, c.requires) in
    marks-one c.args.entries.now (HasId c.args.entries.now (c.args.id ∷ [])) c.args.at place marks (get_or marks place false) (not (get_or marks place false)) below (get-there marks place false below) found
    (λ r k h. some-one place k (sym c.in-Some.is ∙ c.find.ensures.exact r k h)) (length-set marks place true) (λ e l. c.if-not-was.false)
