use Rattle.std.proofs.Common.{◌≡◌, ℕ, suc, ◌-◌, ◌+◌, ◌<◌, ◌≤◌, List, ◌++◌, codes, append_assoc, append-nil, arith, sym, ap, ◌∙◌, subst}
use Rattle.qv_gen.specs.Text.{state_after, block_text, blocks_text, script_text}
use Rattle.qv_gen.proofs.scripts.script.Goals as goal

-- before the first block
none_yet : (n : ℕ) (t : List ℕ) → t ≡ codes "(set-logic BV)\n" → script_text n ≡ t ++ blocks_text (n - 0) n
unfolding script_text
none_yet n t e =
    let whole : n ≡ n - 0 = omega arith in
    ap (λ k. codes "(set-logic BV)\n" ++ blocks_text k n) whole ∙ ap (λ front. front ++ blocks_text (n - 0) n) (sym e)

-- with one more block
one_more : (n i state : ℕ) (all t : List ℕ) → i < n → all ≡ t ++ blocks_text (n - i) state → all ≡ (t ++ block_text (state_after state)) ++ blocks_text (n - (i + 1)) (state_after state)
unfolding blocks_text
one_more n i state all t h e =
    let left : n - i ≡ suc (n - (i + 1)) = omega arith in
    let split : all ≡ t ++ (block_text (state_after state) ++ blocks_text (n - (i + 1)) (state_after state)) =
    subst (λ k. all ≡ t ++ blocks_text k state) left e in
    split ∙ sym (append_assoc t (block_text (state_after state)) (blocks_text (n - (i + 1)) (state_after state)))

-- with all
none_left : (n i state : ℕ) (all t : List ℕ) → n ≤ i → all ≡ t ++ blocks_text (n - i) state → t ≡ all
unfolding blocks_text
none_left n i state all t h e =
    let left : n - i ≡ 0 = omega arith in sym (subst (λ k. all ≡ t ++ blocks_text k state) left e ∙ append-nil t)

pub loop-i-init : goal.loop-i-init
loop-i-init c = none_yet c.args.number c.in_ok-text.text.items c.in_ok-text.ensures.items

pub loop-i-preserved : goal.loop-i-preserved
loop-i-preserved c =
    let more = one_more c.args.number c.loop-i.i c.loop-i.state (script_text c.args.number) c.loop-i.text.items c.loop-i-test.true c.loop-i.invariant in
    rw (c.in_ok-push_block.ensures, c.next_state-state.ensures) more

pub returns : goal.returns
returns c =
    none_left c.args.number c.loop-i.i c.loop-i.state (script_text c.args.number) c.loop-i.text.items c.loop-i-test.false c.loop-i.invariant
