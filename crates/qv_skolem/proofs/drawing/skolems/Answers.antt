use Rattle.std.proofs.Common.{List, sym, ap, ◌∙◌, subst}
use Rattle.qv_words.specs.Skolem.{SkolemTerm, SkolemOk, goal_of}
use Rattle.qv_game_laws.proofs.ChainTheorem.{chain-theorem}
use Rattle.qv_store.specs.Problems.{problem_in}
use Rattle.qv_store.specs.Replacing.{AreTermsOf}
use Rattle.qv_store.proofs.Replacement.{if-ok}
use Rattle.qv_entries.specs.Rows.{entries_in}
use Rattle.qv_skolem.specs.Skolems.{IsNeverTrue}
use Rattle.qv_skolem.specs.Slots.{slot_terms}
use Rattle.qv_skolem.proofs.drawing.skolems.Goals as goal

pub returns-clause-terms : goal.returns-clause-terms
returns-clause-terms c =
    let there : AreTermsOf c.draw.new.store c.deref.result.now = subst (AreTermsOf c.draw.new.store) (sym c.deref.ensures.value) c.in_ok-slots.ensures.there in
    if-ok c.gather.result (λ drawn h. h c.draw.new.store there) c.gather.ensures.there

pub returns-clause-chain : goal.returns-clause-chain
returns-clause-chain c =
    if-ok c.gather.result (λ drawn h. h c.draw.new.store ∙ ap (slot_terms c.draw.new.store 0) c.deref.ensures.value ∙ c.in_ok-slots.ensures.chain) c.gather.ensures.terms

pub returns-clause-section : goal.returns-clause-section
returns-clause-section c =
    let p = problem_in c.args.store.now c.args.problem.now in
    let es = entries_in c.args.store.now c.args.entries.now in
    if-ok c.gather.result
    (λ drawn h. subst (SkolemOk p) (sym (h c.draw.new.store ∙ ap (slot_terms c.draw.new.store 0) c.deref.ensures.value ∙ c.in_ok-slots.ensures.chain)) (chain-theorem p es c.requires.posed.problem c.requires.linked c.requires.won).0)
    c.gather.ensures.terms

pub returns-clause-goal : goal.returns-clause-goal
returns-clause-goal c =
    let p = problem_in c.args.store.now c.args.problem.now in
    let es = entries_in c.args.store.now c.args.entries.now in
    if-ok c.gather.result
    (λ drawn h. subst (λ (ts : List SkolemTerm). IsNeverTrue (goal_of p ts)) (sym (h c.draw.new.store ∙ ap (slot_terms c.draw.new.store 0) c.deref.ensures.value ∙ c.in_ok-slots.ensures.chain)) (chain-theorem p es c.requires.posed.problem c.requires.linked c.requires.won).1)
    c.gather.ensures.terms
