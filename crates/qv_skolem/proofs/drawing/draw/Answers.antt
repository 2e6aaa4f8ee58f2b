use Rattle.std.proofs.Common.{◌≡◌, ℕ, ◌+◌, ◌-◌, ◌<◌, ◌≤◌, Some, Option, List, [], ◌++◌, length, map, take, drop, replicate, None, refl, sym, ap, ◌∙◌, subst, arith}
use Rattle.std.specs.Prelude.{All}
use Rattle.std.proofs.lemmas.List.{append-nil, length-map}
use Rattle.qv_words.specs.Tree.{Tree}
use Rattle.qv_words.specs.Problem.{Place, Existential, Universal}
use Rattle.qv_words.specs.Linked.{Entry, entries_of}
use Rattle.qv_store.specs.declared.problem.Quant.TheVariants.{Exists, Forall}
use Rattle.qv_store.specs.Problems.{place_of, problem_in}
use Rattle.qv_store.specs.Stores.{Grows}
use Rattle.qv_store.specs.Replacing.{put_by_level}
use Rattle.qv_store.proofs.Replacement.{grows-more}
use Rattle.qv_entries.specs.Rows.{entries_in}
use Rattle.qv_skolem.specs.Blocks.{run_length, sorts_of}
use Rattle.qv_skolem.specs.Chains.{AreChains, IsPuttable}
use Rattle.qv_skolem.proofs.FirstBlocks.{block-read}
use Rattle.qv_skolem.proofs.GrownEntries.{entries-grown}
use Rattle.qv_skolem.proofs.Rounds.{block-here, drawn-all, drawn-none, existential-drawn, puttable, universal-drawn, IsDrawnTo}
use Rattle.qv_skolem.proofs.drawing.draw.Goals as goal
use Rattle.qv_skolem.proofs.drawing.draw.Goals.{in-Exists+in_ok-chains-in-Exists+in_ok-push_terms-in-Exists, in-Forall+in_ok-push_none-in-Forall}

pub levels-init : goal.levels-init
levels-init c = record {
  grows = record { more = []; behind = sym (append-nil c.args.store.now) };
  drawn =
      let p = problem_in c.args.store.now c.args.problem.now in
      let es = entries_in c.args.store.now c.args.entries.now in
      subst (IsDrawnTo p es c.args.store.now 1) (sym c.new-slots.ensures.items) (drawn-none p es c.args.store.now);
}

pub chains-requires-clause-each : goal.chains-requires-clause-each
chains-requires-clause-each c =
    let old = c.args.store.now in
    let mid = c.levels.store in
    let p = problem_in old c.args.problem.now in
    let es = entries_in old c.args.entries.now in
    let i = c.levels.invariant in
    let slots = c.levels.slots.items in
    let f : c.len-in-levels-2.result ≡ length slots = omega (arith, c.len-in-levels-2.ensures, c.levels.slots.ok) in
    let low : length slots < length c.args.problem.now.prefix.items = omega (arith, c.levels-test.true, c.len.ensures, c.len-in-levels.ensures, c.levels.slots.ok, c.args.problem.now.prefix.ok) in
    let read = block-read c.args.problem.now.prefix.items c.deref.result.now c.len-in-levels-2.result (length slots) c.run_length.result _ Exists c.deref.ensures.value f low c.run_length.ensures.length c.in-Exists.is in
    let all = puttable p es mid c.levels.level slots c.requires.posed.problem c.requires.linked c.requires.won i.drawn _ refl (block-here p es mid c.levels.level slots i.drawn Existential read.run) in
    let same : entries_in mid c.args.entries.now ≡ es = entries-grown old mid i.grows c.args.entries.now c.requires.rows in
    subst (λ (s : List (Option ℕ)). All (IsPuttable (put_by_level mid s) (sorts_of (map place_of (take c.run_length.result (take (length c.deref.result.now - c.len-in-levels-2.result) (drop c.len-in-levels-2.result c.deref.result.now)))))) (entries_of c.levels.level Existential (entries_in mid c.args.entries.now))) (sym c.deref-in-Exists.ensures.value)
    (subst (λ (fs : List Entry). All (IsPuttable (put_by_level mid slots) (sorts_of (map place_of (take c.run_length.result (take (length c.deref.result.now - c.len-in-levels-2.result) (drop c.len-in-levels-2.result c.deref.result.now)))))) (entries_of c.levels.level Existential fs)) (sym same)
    (subst (λ (ps : List Place). All (IsPuttable (put_by_level mid slots) (sorts_of ps)) (entries_of c.levels.level Existential es)) (sym read.places) all))

pub levels-preserved : goal.levels-preserved
levels-preserved c =
    let old = c.args.store.now in
    let mid = c.levels.store in
    let p = problem_in old c.args.problem.now in
    let es = entries_in old c.args.entries.now in
    let i = c.levels.invariant in
    let slots = c.levels.slots.items in
    let f : c.len-in-levels-2.result ≡ length slots = omega (arith, c.len-in-levels-2.ensures, c.levels.slots.ok) in
    let low : length slots < length c.args.problem.now.prefix.items = omega (arith, c.levels-test.true, c.len.ensures, c.len-in-levels.ensures, c.levels.slots.ok, c.args.problem.now.prefix.ok) in
    elim c.match-quant-offset0.branch [
      | in-Exists+in_ok-chains-in-Exists+in_ok-push_terms-in-Exists w ↦
          let new = w.chains.new.store in
          let read = block-read c.args.problem.now.prefix.items c.deref.result.now c.len-in-levels-2.result (length slots) c.run_length.result _ Exists c.deref.ensures.value f low c.run_length.ensures.length w.in-Exists.is in
          let same : entries_in mid c.args.entries.now ≡ es = entries-grown old mid i.grows c.args.entries.now c.requires.rows in
          let n : ℕ = length (take c.run_length.result (take (length c.deref.result.now - c.len-in-levels-2.result) (drop c.len-in-levels-2.result c.deref.result.now))) in
          let made : AreChains new (put_by_level mid slots) (entries_of c.levels.level Existential es) (run_length Existential (drop (length slots) p.prefix)) w.in_ok-chains-in-Exists.chains.items =
          subst (λ (n : ℕ). AreChains new (put_by_level mid slots) (entries_of c.levels.level Existential es) n w.in_ok-chains-in-Exists.chains.items) (read.long ∙ read.many)
          (subst (λ (fs : List Entry). AreChains new (put_by_level mid slots) (entries_of c.levels.level Existential fs) n w.in_ok-chains-in-Exists.chains.items) same
          (subst (λ (s : List (Option ℕ)). AreChains new (put_by_level mid s) (entries_of c.levels.level Existential (entries_in mid c.args.entries.now)) n w.in_ok-chains-in-Exists.chains.items) w.deref-in-Exists.ensures.value w.in_ok-chains-in-Exists.ensures.chains)) in
          let drawn = existential-drawn p es mid c.levels.level slots i.drawn Existential read.run new w.in_ok-chains-in-Exists.chains.items refl w.chains.ensures.grows made in
          let now : c.match-quant-offset0.slots.items ≡ slots ++ map Some w.in_ok-chains-in-Exists.chains.items =
          ap (λ v. v.items) w.slots-is ∙ w.in_ok-push_terms-in-Exists.ensures ∙ ap (λ (xs : List ℕ). slots ++ map Some xs) w.deref-in-Exists-2.ensures.value in
          record {
            grows = subst (Grows old) (sym w.store-is) (grows-more old mid new i.grows w.chains.ensures.grows);
            drawn = subst (λ (trees : List Tree). IsDrawnTo p es trees (c.levels.level + 1) c.match-quant-offset0.slots.items) (sym w.store-is)
                (subst (IsDrawnTo p es new (c.levels.level + 1)) (sym now) drawn);
          }
      | in-Forall+in_ok-push_none-in-Forall w ↦
          let read = block-read c.args.problem.now.prefix.items c.deref.result.now c.len-in-levels-2.result (length slots) c.run_length.result _ Forall c.deref.ensures.value f low c.run_length.ensures.length w.in-Forall.is in
          let drawn = universal-drawn p es mid c.levels.level slots i.drawn Universal read.run refl in
          let now : c.match-quant-offset0.slots.items ≡ slots ++ replicate (run_length Universal (drop (length slots) p.prefix)) None =
          ap (λ v. v.items) w.slots-is ∙ w.in_ok-push_none-in-Forall.ensures ∙ ap (λ (n : ℕ). slots ++ replicate n None) (read.long ∙ read.many) in
          record {
            grows = subst (Grows old) (sym w.store-is) i.grows;
            drawn = subst (λ (trees : List Tree). IsDrawnTo p es trees (c.levels.level + 1) c.match-quant-offset0.slots.items) (sym w.store-is)
                (subst (IsDrawnTo p es mid (c.levels.level + 1)) (sym now) drawn);
          }
    ]

pub returns-clause-chain : goal.returns-clause-chain
returns-clause-chain c =
    let p = problem_in c.args.store.now c.args.problem.now in
    let es = entries_in c.args.store.now c.args.entries.now in
    let slots = c.levels.slots.items in
    let most : length c.args.problem.now.prefix.items ≤ length slots = omega (arith, c.levels-test.false, c.len.ensures, c.len-in-levels.ensures, c.levels.slots.ok, c.args.problem.now.prefix.ok) in
    let all : length p.prefix ≤ length slots = omega (arith, most, length-map c.args.problem.now.prefix.items place_of) in
    drawn-all p es c.levels.store c.levels.level slots c.levels.invariant.drawn all
