use Rattle.std.proofs.Common.{◌≡◌, ℕ, ◌+◌, ◌-◌, ◌/◌, ◌<◌, get_or, length, Some, ap, sym, ◌∙◌, arith}
use Rattle.qv_trim.specs.declared.entries.Entry.{Entry}
use Rattle.qv_trim.proofs.Marked.{below-more, from-more, from-higher, found-place, get-there, some-below, some-one}
use Rattle.qv_trim.proofs.marking.find.Goals.{else-low-entries-via-then-low-entries+else-entries-low, else-low-entries-via-else-low-entries}
use Rattle.qv_trim.proofs.marking.find.Goals as goal

abbrev no_entry : Entry
no_entry = record { id = 0; start = 0 }

pub halves-preserved-then-entries-middle : goal.halves-preserved-then-entries-middle
halves-preserved-then-entries-middle c =
    let es = c.args.entries.now in
    let middle : ℕ = c.halves.low + (c.halves.high - c.halves.low) / 2 in
    let inside : middle < length es = omega (arith, c.halves-test.true, c.halves.invariant.within) in
    record {
      order = omega (arith, c.halves-test.true);
      within = c.halves.invariant.within;
      below = below-more es c.args.id c.halves.low middle (get_or es middle no_entry) c.halves.invariant.below (get-there es middle no_entry inside) c.if-entries-middle.true;
      from = c.halves.invariant.from;
    }

pub halves-preserved : goal.halves-preserved
halves-preserved c =
    let es = c.args.entries.now in
    let middle : ℕ = c.halves.low + (c.halves.high - c.halves.low) / 2 in
    let inside : middle < length es = omega (arith, c.halves-test.true, c.halves.invariant.within) in
    record {
      order = omega (arith, c.halves-test.true);
      within = omega (arith, inside);
      below = c.halves.invariant.below;
      from = from-more es c.args.id c.halves.high middle (get_or es middle no_entry) c.halves.invariant.from (get-there es middle no_entry inside) c.if-entries-middle.false;
    }

pub returns-then-entries-low-clause-found : goal.returns-then-entries-low-clause-found
returns-then-entries-low-clause-found c =
    record { entry = get_or c.args.entries.now c.halves.low no_entry; stands = get-there c.args.entries.now c.halves.low no_entry c.if-low-entries.true; among = (0, omega arith, sym c.if-entries-low.true) }

pub returns-then-entries-low-clause-exact : goal.returns-then-entries-low-clause-exact
returns-then-entries-low-clause-exact c r k h =
    let from = from-higher c.args.entries.now c.args.id c.halves.high c.halves.low c.halves-test.false c.halves.invariant.from in
    ap (λ (n : ℕ). Some n) (found-place c.args.entries.now c.args.id c.halves.low k r c.halves.invariant.below from h).0

pub returns-else-low-entries-clause-exact : goal.returns-else-low-entries-clause-exact
returns-else-low-entries-clause-exact c r k h =
    let es = c.args.entries.now in
    let from = from-higher es c.args.id c.halves.high c.halves.low c.halves-test.false c.halves.invariant.from in
    let there = found-place es c.args.id c.halves.low k r c.halves.invariant.below from h in
    let (e, is, own) = there.1 in
    elim c.else-low-entries.branch [
      | else-low-entries-via-then-low-entries+else-entries-low w ↦
          let here : e ≡ get_or es c.halves.low no_entry = some-one e (get_or es c.halves.low no_entry) (sym is ∙ get-there es c.halves.low no_entry w.if-low-entries.true) in
          absurd (w.if-entries-low.false (ap (λ (x : Entry). x.id) (sym here) ∙ own))
      | else-low-entries-via-else-low-entries w ↦ absurd (omega (arith, w.if-low-entries.false, some-below es c.halves.low e is))
    ]
