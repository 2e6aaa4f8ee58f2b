use Rattle.std.proofs.Common.{◌≡◌, ◌+◌, ◌∷◌, ◌++◌, [], List, take, sym, ap, subst, ◌∙◌}
use Rattle.std.proofs.lemmas.List.{take_more}
use Rattle.qv_words.specs.Word.{values_of}
use Rattle.qv_script_defs.specs.declared.effects.ValueTerm.{ValueTerm as Asked}
use Rattle.qv_script_texts.proofs.Shown.{AreShown, next-shown, gap-there}
use Rattle.qv_script_texts.proofs.models.values_text.Goals as goal

pub terms-preserved : goal.terms-preserved
terms-preserved c =
    let terms = c.args.terms.now in
    let i = c.terms.i in
    let term = c.index-terms-i.result in
    let more : take (i + 1) terms ≡ take i terms ++ term ∷ [] = take_more terms i term c.terms-test.true ∙ ap (λ (t : Asked). take i terms ++ t ∷ []) (sym c.index-terms-i.is) in
    let gap = c.in_ok-push_gap.ensures ∙ ap (λ g. c.terms.text.items ++ g) (gap-there terms i c.terms-test.true) in
    subst (λ (ts : List Asked). AreShown c.args.store.now (values_of c.args.consts.now) ts c.push_pair.new.text.items) (sym more)
    (next-shown c.args.store.now (values_of c.args.consts.now) (take i terms) term c.terms.text.items c.push_gap.new.text.items c.push_pair.new.text.items c.terms.invariant gap c.in_ok-push_pair.ensures)
