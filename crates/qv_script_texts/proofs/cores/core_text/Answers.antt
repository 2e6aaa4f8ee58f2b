use Rattle.std.proofs.Common.{◌≡◌, ℕ, ◌+◌, ◌∷◌, ◌++◌, [], List, Vec, Global, Bor, take, sym, ap, subst, ◌∙◌, arith}
use Rattle.std.proofs.lemmas.List.{take_more}
use Rattle.qv_elab_defs.specs.Scopes.{Named}
use Rattle.qv_script_defs.specs.Moves.{symbols_of}
use Rattle.qv_script_stack.specs.declared.held.Named.{Named as NamedAssertion}
use Rattle.qv_script_stack.specs.Held.{named_of}
use Rattle.qv_script_values.specs.SymbolText.{symbol_text}
use Rattle.qv_script_texts.proofs.CoreTexts.{AreTold, next-left, next-kept, symbols-more}
use Rattle.qv_script_texts.proofs.cores.core_text.Goals as goal
use Rattle.qv_script_texts.proofs.cores.core_text.Goals.{then-contains+in_ok-extend_from_slice+in_ok-push_symbol, else-contains}

pub named-preserved : goal.named-preserved
named-preserved c =
    let kept = c.args.kept.now in
    let named = c.args.named.now in
    let i = c.named.own-index in
    let own = c.own-item.result in
    let before : Named ℕ = symbols_of (named_of (take i named)) in
    let last : List ℕ × ℕ = (symbol_text own.name.items, own.assertion) in
    let taken : take (i + 1) named ≡ take i named ++ own ∷ [] = take_more named i own c.named-test.true ∙ ap (λ (o : NamedAssertion). take i named ++ o ∷ []) (sym c.own-item.is) in
    let more : symbols_of (named_of (take (i + 1) named)) ≡ before ++ last ∷ [] = ap (λ (xs : List NamedAssertion). symbols_of (named_of xs)) taken ∙ symbols-more (take i named) own in
    subst (λ (xs : Named ℕ). AreTold kept xs c.if-contains.text.items c.if-contains.gap.now) (sym more)
    (elim c.if-contains.branch [
      | then-contains+in_ok-extend_from_slice+in_ok-push_symbol w ↦
          let among = sym c.contains.ensures.value ∙ w.if-contains.true in
          let spaced = w.in_ok-extend_from_slice.ensures.items in
          let added : w.push_symbol.new.out.items ≡ w.extend_from_slice.new.self.items ++ symbol_text own.name.items = grind (arith, w.in_ok-push_symbol.ensures.ok, w.deref.ensures.value) in
          let next = next-kept kept before last c.named.text.items c.named.gap.now w.extend_from_slice.new.self.items w.push_symbol.new.out.items among c.named.invariant spaced added in
          subst (λ (t : Vec ℕ Global). AreTold kept (before ++ last ∷ []) t.items c.if-contains.gap.now) (sym w.text-is)
          (subst (λ (g : Bor (List ℕ)). AreTold kept (before ++ last ∷ []) w.push_symbol.new.out.items g.now) (sym w.gap-is) next)
      | else-contains w ↦
          let next = next-left kept before last c.named.text.items c.named.gap.now (sym c.contains.ensures.value ∙ w.if-contains.false) c.named.invariant in
          subst (λ (t : Vec ℕ Global). AreTold kept (before ++ last ∷ []) t.items c.if-contains.gap.now) (sym w.text-is)
          (subst (λ (g : Bor (List ℕ)). AreTold kept (before ++ last ∷ []) c.named.text.items g.now) (sym w.gap-is) next)
    ])
