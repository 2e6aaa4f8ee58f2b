use Rattle.std.proofs.Common.{◌≡◌, ◌<◌, ◌≤◌, true, false, length, map, take, refl, sym, subst, arith}
use Rattle.std.specs.Prelude.{All, IsSomeAnd}
use Rattle.std.specs.List.{slice_get}
use Rattle.std.proofs.lemmas.List.{take_all, take-map}
use Rattle.qv_words.specs.Word.{values_of}
use Rattle.qv_words.specs.Linked.{Entry}
use Rattle.qv_store.specs.Problems.{quantifier_of}
use Rattle.qv_entries.specs.declared.entry.Entry.{Entry as Kept}
use Rattle.qv_entries.specs.Rows.{entry_in, row_of}
use Rattle.qv_entries.specs.Holding.{HoldsAt, IsAskable}
use Rattle.qv_entries.proofs.Covering.{entry-region}
use Rattle.qv_entries.proofs.Firsts.{entries-kept, first-here, none-more}
use Rattle.qv_entries.proofs.holding.first_holding.Goals as goal

pub holds-requires-clause-askable : goal.holds-requires-clause-askable
holds-requires-clause-askable c = λ is.
    let items = c.args.entries.now in
    let low : c.entries.number < length items = omega (arith, c.entries-test.true) in
    entry-region (IsAskable c.args.store.now c.args.point.now) c.args.level (quantifier_of c.args.winner) items c.entries.number c.index-entries-number.result
    c.requires.askable low c.index-entries-number.is is

pub returns-then-branch : goal.returns-then-branch
returns-then-branch c =
    let items = c.args.entries.now in
    let s = c.args.store.now in
    let P : Entry → Type 0 = HoldsAt c.args.level (quantifier_of c.args.winner) (values_of c.args.point.now) in
    let low : c.entries.number < length items = omega (arith, c.entries-test.true) in
    let same = entries-kept s items (map row_of items) refl in
    let f : Kept → Entry = λ e. entry_in s (row_of e) in (
      subst (λ es. IsSomeAnd (slice_get es c.entries.number) P) same (first-here f P items c.entries.number c.index-entries-number.result low c.index-entries-number.is (c.in_ok-holds.ensures.there.0 c.if-branch.true)),
      subst (λ es. All (λ e. P e → ⊥) (take c.entries.number es)) same (subst (λ es. All (λ e. P e → ⊥) es) (sym (take-map f c.entries.number items)) c.entries.invariant.none),
    )

pub entries-preserved : goal.entries-preserved
entries-preserved c =
    let items = c.args.entries.now in
    let P : Entry → Type 0 = HoldsAt c.args.level (quantifier_of c.args.winner) (values_of c.args.point.now) in
    let low : c.entries.number < length items = omega (arith, c.entries-test.true) in
    let not : P (entry_in c.args.store.now (row_of c.index-entries-number.result)) → ⊥ = λ holds. let yes : c.in_ok-holds.field-0 ≡ true = c.in_ok-holds.ensures.there.1 holds in let no : c.in_ok-holds.field-0 ≡ false = c.if-branch.false in absurd (cc) in
    record {
      table = c.in_ok-holds.ensures.table;
      none = none-more (λ e. entry_in c.args.store.now (row_of e)) P items c.entries.number c.index-entries-number.result low c.index-entries-number.is not c.entries.invariant.none;
    }

pub returns : goal.returns
returns c =
    let items = c.args.entries.now in
    let s = c.args.store.now in
    let P : Entry → Type 0 = HoldsAt c.args.level (quantifier_of c.args.winner) (values_of c.args.point.now) in
    let high : length items ≤ c.entries.number = omega (arith, c.entries-test.false) in
    let same = entries-kept s items (map row_of items) refl in
    subst (λ es. All (λ e. P e → ⊥) es) same (subst (λ es. All (λ e. P e → ⊥) (map (λ e. entry_in s (row_of e)) es)) (take_all c.entries.number items high) c.entries.invariant.none)
