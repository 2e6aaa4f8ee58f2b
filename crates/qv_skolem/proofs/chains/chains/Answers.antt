use Rattle.std.proofs.Common.{◌≡◌, ℕ, ◌-◌, List, length, map, drop, replicate, take, ◌++◌, sym, ap, ◌∙◌, subst, arith}
use Rattle.std.proofs.lemmas.List.{length-map}
use Rattle.std.proofs.lemmas.List.Elements.{recursion_from_All}
use Rattle.qv_words.specs.declared.sort.Sort.{Sort}
use Rattle.qv_words.specs.declared.sort.Sort.TheVariants.{Bool as BoolSort}
use Rattle.qv_words.specs.Word.{word_sort}
use Rattle.qv_words.specs.Tree.{Literal}
use Rattle.qv_words.specs.Problem.{Existential}
use Rattle.qv_store.specs.Stores.{StandsAt}
use Rattle.qv_words.specs.Linked.{Entry, entries_of}
use Rattle.qv_words.proofs.Elements.{all-at}
use Rattle.qv_store.specs.Problems.{place_of}
use Rattle.qv_store.specs.Replacing.{put_by_level}
use Rattle.qv_store.proofs.Replacement.{grows-more}
use Rattle.qv_entries.specs.Rows.{entries_in, entry_in, row_of, IsRowIn}
use Rattle.qv_skolem.specs.Blocks.{sorts_of}
use Rattle.qv_skolem.specs.Chains.{AreChains, AreLed, MayLead}
use Rattle.qv_skolem.proofs.Leading.{some_entries}
use Rattle.qv_skolem.proofs.GrownEntries.{row-grown}
use Rattle.qv_skolem.proofs.OneLed.{there-grown}
use Rattle.qv_skolem.proofs.AllLed.{chains-none, may-lead, more-chains, no-entries, other-chains, written}
use Rattle.qv_skolem.proofs.chains.chains.Goals as goal

pub entries-init : goal.entries-init
entries-init c =
    let old = c.args.store.now in
    let es = entries_in old c.args.entries.now in
    let all : c.len-number.result ≡ length es = c.len-number.ensures ∙ sym (length-map c.args.entries.now (entry_in old)) in
    let none = no-entries c.args.level Existential es c.len-number.result all in
    let false-stands : StandsAt c.put.new.self c.in_ok-none.none (Literal BoolSort 0) =
    subst (λ (s : Sort). StandsAt c.put.new.self c.in_ok-none.none (Literal s 0)) c.truth.ensures.sort
    (subst (λ (v : ℕ). StandsAt c.put.new.self c.in_ok-none.none (Literal (word_sort c.truth.result) v)) c.truth.ensures.value c.in_ok-none.ensures.id) in
    let are : c.in_ok-chains.chains.items ≡ replicate (length c.args.block.now) c.in_ok-none.none = c.in_ok-chains.ensures.items_if_clones_equal (λ y h. h) in
    record {
      grows = c.put.ensures.grows;
      chains = chains-none c.put.new.self (put_by_level old c.args.slots.now) c.in_ok-none.none (length c.args.block.now) (entries_of c.args.level Existential (drop c.len-number.result es)) c.in_ok-chains.chains.items none false-stands are;
      behind = sym (ap some_entries none);
    }

pub lead-requires-clause-row : goal.lead-requires-clause-row
lead-requires-clause-row c =
    let rows = c.args.entries.now in
    row-grown c.args.store.now c.entries.store c.entries.invariant.grows (row_of c.entry-entry.result.now)
    (all-at (IsRowIn c.args.store.now) rows (c.entries.number - 1) (row_of c.entry-entry.result.now) (recursion_from_All (IsRowIn c.args.store.now) rows c.requires.rows) c.entry-entry.ensures)

pub lead-requires-clause-slots : goal.lead-requires-clause-slots
lead-requires-clause-slots c = there-grown c.args.store.now c.entries.store c.args.slots.now c.entries.invariant.grows c.requires.slots

pub lead-requires-clause-may : goal.lead-requires-clause-may
lead-requires-clause-may c =
    let i = c.entries.invariant in
    let sorts = sorts_of (map place_of c.args.block.now) in
    let many : length c.args.block.now ≡ length sorts = sym (length-map (map place_of c.args.block.now) (λ p. p.sort) ∙ length-map c.args.block.now place_of) in
    subst (MayLead c.entries.store (put_by_level c.entries.store c.args.slots.now) c.entries.behind (entry_in c.entries.store (row_of c.entry-entry.result.now))) (sym c.deref_mut.ensures.value)
    (may-lead c.args.store.now c.entries.store c.args.slots.now c.args.entries.now c.args.level c.entries.number (length c.args.block.now) (row_of c.entry-entry.result.now) c.entries.behind c.entries.chains.items sorts i.grows c.requires.rows c.requires.slots c.requires.each many c.entries-test.true c.entry-entry.ensures i.chains i.behind (sym c.is_own.ensures ∙ c.if-is_own.true))

pub entries-preserved-then-is_own : goal.entries-preserved-then-is_own
entries-preserved-then-is_own c =
    let i = c.entries.invariant in
    let sorts = sorts_of (map place_of c.args.block.now) in
    let many : length c.args.block.now ≡ length sorts = sym (length-map (map place_of c.args.block.now) (λ p. p.sort) ∙ length-map c.args.block.now place_of) in
    let led : AreLed c.entries.store c.lead.new.store (put_by_level c.entries.store c.args.slots.now) c.entries.behind (entry_in c.entries.store (row_of c.entry-entry.result.now)) c.entries.chains.items c.lead.new.chains =
    subst (λ (xs : List ℕ). AreLed c.entries.store c.lead.new.store (put_by_level c.entries.store c.args.slots.now) c.entries.behind (entry_in c.entries.store (row_of c.entry-entry.result.now)) xs c.lead.new.chains) c.deref_mut.ensures.value c.in_ok-lead.ensures.led in
    let more = more-chains c.args.store.now c.entries.store c.args.slots.now c.args.entries.now c.args.level c.entries.number (length c.args.block.now) (row_of c.entry-entry.result.now) c.entries.behind c.entries.chains.items sorts i.grows c.requires.rows c.requires.slots c.requires.each many c.entries-test.true c.entry-entry.ensures i.chains i.behind
    c.lead.new.store c.lead.new.chains (sym c.is_own.ensures ∙ c.if-is_own.true) led in
    let back : take c.entries.chains.len (c.lead.new.chains ++ drop (length c.lead.new.chains) c.entries.chains.items) ≡ c.lead.new.chains = written c.entries.chains.items c.lead.new.chains c.entries.chains.len led.many (omega (arith, c.entries.chains.ok)) in
    record {
      grows = grows-more c.args.store.now c.entries.store c.lead.new.store i.grows c.lead.ensures.grows;
      chains = subst (AreChains c.lead.new.store (put_by_level c.args.store.now c.args.slots.now) (entries_of c.args.level Existential (drop (c.entries.number - 1) (entries_in c.args.store.now c.args.entries.now))) (length c.args.block.now)) (sym back) more.0;
      behind = more.1;
    }

pub entries-preserved : goal.entries-preserved
entries-preserved c =
    let i = c.entries.invariant in
    let sorts = sorts_of (map place_of c.args.block.now) in
    let many : length c.args.block.now ≡ length sorts = sym (length-map (map place_of c.args.block.now) (λ p. p.sort) ∙ length-map c.args.block.now place_of) in
    let same = other-chains c.args.store.now c.entries.store c.args.slots.now c.args.entries.now c.args.level c.entries.number (length c.args.block.now) (row_of c.entry-entry.result.now) c.entries.behind c.entries.chains.items sorts i.grows c.requires.rows c.requires.slots c.requires.each many c.entries-test.true c.entry-entry.ensures i.chains i.behind (sym c.is_own.ensures ∙ c.if-is_own.false) in
    record {
      grows = i.grows;
      chains = subst (λ (es : List Entry). AreChains c.entries.store (put_by_level c.args.store.now c.args.slots.now) es (length c.args.block.now) c.entries.chains.items) (sym same) i.chains;
      behind = i.behind ∙ ap some_entries (sym same);
    }

pub returns-clause-chains : goal.returns-clause-chains
returns-clause-chains c =
    let none : c.entries.number ≡ 0 = omega (arith, c.entries-test.false) in
    subst (λ (n : ℕ). AreChains c.entries.store (put_by_level c.args.store.now c.args.slots.now) (entries_of c.args.level Existential (drop n (entries_in c.args.store.now c.args.entries.now))) (length c.args.block.now) c.entries.chains.items) none c.entries.invariant.chains
