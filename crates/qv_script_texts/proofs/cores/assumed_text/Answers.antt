use Rattle.std.proofs.Common.{◌≡◌, ◌<◌, ℕ, ◌+◌, ◌∷◌, ◌++◌, [], List, Vec, Global, Bor, map, length, take, get_or, sym, ap, subst, ◌∙◌, arith}
use Rattle.std.proofs.lemmas.List.{length-map, get_or-map, take_all}
use Rattle.qv_elab_defs.specs.Scopes.{Named}
use Rattle.qv_script_defs.specs.State.{placed}
use Rattle.qv_script_texts.specs.Printing.{core_text}
use Rattle.qv_script_texts.proofs.CoreTexts.{AreTold, next-left, next-kept, all-told, placed-more}
use Rattle.qv_script_texts.proofs.cores.assumed_text.Goals as goal
use Rattle.qv_script_texts.proofs.cores.assumed_text.Goals.{then-contains+in_ok-extend_from_slice+in_ok-extend_from_slice-2, else-contains}

abbrev texts_in : List (Vec ℕ Global) → List (List ℕ)
texts_in terms = map (λ t. t.items) terms

pub assumed-preserved : goal.assumed-preserved
assumed-preserved c =
    let kept = c.args.kept.now in
    let terms = c.terms-terms.result.now in
    let first = length c.assertions-first.result.now in
    let i = c.assumed.i in
    let before : Named ℕ = placed first (take i (texts_in terms)) in
    let last : List ℕ × ℕ = (get_or (texts_in terms) i [], first + i) in
    let count = length-map terms (λ (t : Vec ℕ Global). t.items) in
    let within : i < length (texts_in terms) = omega (arith, count, c.assumed-test.true) in
    subst (λ (xs : Named ℕ). AreTold kept xs c.if-contains.text.items c.if-contains.gap.now) (sym (placed-more first (texts_in terms) i [] within))
    (elim c.if-contains.branch [
      | then-contains+in_ok-extend_from_slice+in_ok-extend_from_slice-2 w ↦
          let own = w.index-terms-i.result in
          let among = sym c.contains.ensures.value ∙ w.if-contains.true in
          let text : get_or (texts_in terms) i [] ≡ own.items = get_or-map (λ (t : Vec ℕ Global). t.items) terms i own [] c.assumed-test.true ∙ ap (λ (t : Vec ℕ Global). t.items) (sym w.index-terms-i.is) in
          let added = w.in_ok-extend_from_slice-2.ensures.items ∙ ap (λ (xs : List ℕ). w.extend_from_slice.new.self.items ++ xs) (w.deref.ensures.value ∙ sym text) in
          let next = next-kept kept before last c.assumed.text.items c.assumed.gap.now w.extend_from_slice.new.self.items w.extend_from_slice-then-contains.new.self.items among c.assumed.invariant w.in_ok-extend_from_slice.ensures.items added in
          subst (λ (t : Vec ℕ Global). AreTold kept (before ++ last ∷ []) t.items c.if-contains.gap.now) (sym w.text-is)
          (subst (λ (g : Bor (List ℕ)). AreTold kept (before ++ last ∷ []) w.extend_from_slice-then-contains.new.self.items g.now) (sym w.gap-is) next)
      | else-contains w ↦
          let next = next-left kept before last c.assumed.text.items c.assumed.gap.now (sym c.contains.ensures.value ∙ w.if-contains.false) c.assumed.invariant in
          subst (λ (t : Vec ℕ Global). AreTold kept (before ++ last ∷ []) t.items c.if-contains.gap.now) (sym w.text-is)
          (subst (λ (g : Bor (List ℕ)). AreTold kept (before ++ last ∷ []) c.assumed.text.items g.now) (sym w.gap-is) next)
    ])

pub returns : goal.returns
returns c =
    let kept = c.args.kept.now in
    let terms = c.terms-terms.result.now in
    let first = length c.assertions-first.result.now in
    let count = length-map terms (λ (t : Vec ℕ Global). t.items) in
    let all = take_all c.assumed.i (texts_in terms) (omega (arith, count, c.assumed-test.false)) in
    let told = subst (λ (xs : List (List ℕ)). AreTold kept (placed first xs) c.assumed.text.items c.assumed.gap.now) all c.assumed.invariant in
    all-told kept (placed first (texts_in terms)) c.assumed.text.items c.assumed.gap.now c.extend_from_slice-2.new.self.items told c.in_ok-extend_from_slice-3.ensures.items
    ∙ ap (λ n. core_text kept (placed n (texts_in terms))) (ap length c.assertions-first.ensures)
    ∙ ap (λ (ts : List (Vec ℕ Global)). core_text kept (placed (length c.args.script.now.assertions) (texts_in ts))) c.terms-terms.ensures
