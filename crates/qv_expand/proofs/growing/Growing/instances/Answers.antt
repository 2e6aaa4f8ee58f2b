use Rattle.std.proofs.Common.{◌≡◌, ℕ, ◌+◌, Some, List, [], ◌∷◌, refl, sym, ap, ◌∙◌, length, take, slice_get, arith}
use Rattle.std.proofs.lemmas.List.{append-nil, length-append, take_all}
use Rattle.std.proofs.lemmas.Option.{slice_get-get_or}
use Rattle.qv_words.specs.Linked.{paths_of, with_instances}
use Rattle.qv_store.specs.Problems.{problem_in}
use Rattle.qv_store.specs.Walks.{named}
use Rattle.qv_store.proofs.Replacement.{grows-more}
use Rattle.qv_entries.specs.Rows.{entries_in, row_of}
use Rattle.qv_expand.specs.Growth.{drawn_in}
use Rattle.qv_expand.proofs.Instances.{instance-drawn, instance-expanding, instance-unit, term-below, term-ready, terms-drawn}
use Rattle.qv_expand.proofs.NextLine.{none-counted, one-counted}
use Rattle.qv_expand.proofs.growing.Growing.instances.Goals as goal

pub terms-init : goal.terms-init
terms-init c = record {
  grows = record { more = []; behind = sym (append-nil c.args.store.now) };
  only = none-counted c.args.meter.now;
  expanding = c.requires.expanding;
  deep = omega arith;
  drawn = refl;
}

pub instance-requires : goal.instance-requires
instance-requires c =
    let old = c.args.store.now in
    let row = row_of c.entry.result.now in
    let p = problem_in old c.args._problem.now in
    let es = entries_in old c.args.entries.now in
    let start = drawn_in old (paths_of p es) c.args.self.now in
    let i = c.terms.invariant in
    let same = c.deref-term-items.ensures.value in
    let has : slice_get row.terms c.terms.term-index ≡ Some c.term-item.result =
    ap (λ (xs : List ℕ). slice_get xs c.terms.term-index) (sym same) ∙ slice_get-get_or c.deref-term-items.result.now c.terms.term-index c.term-item.result c.terms-test.true ∙ ap (λ (x : ℕ). Some x) (sym c.term-item.is) in
    let drawn = i.drawn ∙ ap (λ (xs : List ℕ). with_instances c.args.number start (named old (take c.terms.term-index xs))) same in
    record {
      unit = instance-unit old c.args._problem.now c.args.entries.now c.args.meter.now c.args.self.now c.args.number row c.requires.expanding c.requires.may c.requires.owner c.entry.ensures
          c.terms.store c.terms.meter c.terms.self c.terms.term-index c.term-item.result i.grows i.expanding i.deep drawn has;
      rows = i.expanding.within;
      term = term-below old c.args._problem.now c.args.entries.now c.args.meter.now c.args.self.now c.args.number row c.requires.expanding c.requires.may c.requires.owner c.entry.ensures
          c.terms.store c.terms.meter c.terms.self c.terms.term-index c.term-item.result i.grows i.expanding i.deep drawn has;
      there = i.expanding.growing.there;
      ready = term-ready old c.args._problem.now c.args.entries.now c.args.meter.now c.args.self.now c.args.number row c.requires.expanding c.requires.may c.requires.owner c.entry.ensures
          c.terms.store c.terms.meter c.terms.self c.terms.term-index c.term-item.result i.grows i.expanding i.deep drawn has;
    }

pub terms-preserved : goal.terms-preserved
terms-preserved c =
    let old = c.args.store.now in
    let row = row_of c.entry.result.now in
    let p = problem_in old c.args._problem.now in
    let es = entries_in old c.args.entries.now in
    let start = drawn_in old (paths_of p es) c.args.self.now in
    let i = c.terms.invariant in
    let same = c.deref-term-items.ensures.value in
    let has : slice_get row.terms c.terms.term-index ≡ Some c.term-item.result =
    ap (λ (xs : List ℕ). slice_get xs c.terms.term-index) (sym same) ∙ slice_get-get_or c.deref-term-items.result.now c.terms.term-index c.term-item.result c.terms-test.true ∙ ap (λ (x : ℕ). Some x) (sym c.term-item.is) in
    let drawn = i.drawn ∙ ap (λ (xs : List ℕ). with_instances c.args.number start (named old (take c.terms.term-index xs))) same in
    let line = c.in_ok-instance.ensures.line in
    let new = c.instance.new.store in
    let longer : length c.instance.new.self.path.items ≡ length c.terms.self.path.items + 1 = ap length line.path ∙ length-append c.terms.self.path.items (Some line.id ∷ []) in
    let deep = i.deep in
    record {
      grows = grows-more old c.terms.store new i.grows c.instance.ensures.grows;
      only = one-counted c.args.meter.now c.terms.meter c.instance.new.meter i.only c.in_ok-instance.ensures.ok;
      expanding = instance-expanding old c.args._problem.now c.args.entries.now c.args.meter.now c.args.self.now c.args.number row c.requires.expanding c.requires.may c.requires.owner c.entry.ensures
          c.terms.store c.terms.meter c.terms.self c.terms.term-index c.term-item.result i.grows i.expanding i.deep drawn has
          new c.instance.new.meter c.instance.new.self c.instance.ensures.grows line c.in_ok-instance.ensures.ok;
      deep = omega (arith, longer, deep);
      drawn =
          instance-drawn old c.args._problem.now c.args.entries.now c.args.meter.now c.args.self.now c.args.number row c.requires.expanding c.requires.may c.requires.owner c.entry.ensures
          c.terms.store c.terms.meter c.terms.self c.terms.term-index c.term-item.result i.grows i.expanding i.deep drawn has
          new c.instance.new.meter c.instance.new.self c.instance.ensures.grows line c.in_ok-instance.ensures.ok
          ∙ ap (λ (xs : List ℕ). with_instances c.args.number start (named old (take (c.terms.term-index + 1) xs))) (sym same);
    }

pub returns-clause-drawn : goal.returns-clause-drawn
returns-clause-drawn c =
    let old = c.args.store.now in
    let row = row_of c.entry.result.now in
    let p = problem_in old c.args._problem.now in
    let es = entries_in old c.args.entries.now in
    let start = drawn_in old (paths_of p es) c.args.self.now in
    let i = c.terms.invariant in
    let same = c.deref-term-items.ensures.value in
    let all : take c.terms.term-index c.deref-term-items.result.now ≡ row.terms = take_all c.terms.term-index c.deref-term-items.result.now c.terms-test.false ∙ same in
    i.drawn ∙ ap (λ (xs : List ℕ). with_instances c.args.number start (named old xs)) all
    ∙ sym (terms-drawn old c.args._problem.now c.args.entries.now c.args.meter.now c.args.self.now c.args.number row c.requires.expanding c.requires.may c.requires.owner c.entry.ensures)
