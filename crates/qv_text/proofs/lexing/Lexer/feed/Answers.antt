use Rattle.std.proofs.Common.{◌≡◌, ℕ, ◌+◌, ◌^◌, ◌<◌, ◌≤◌, List, ◌++◌, length, drop, None, refl, sym, ap, ◌∙◌, arith, length-append, length-drop}
use Rattle.std.proofs.lemmas.List.{drop-append-le}
use Rattle.qv_text.specs.Progress.{Progress, fed}
use Rattle.qv_text.specs.Inside.{shown}
use Rattle.qv_text.proofs.Ahead.{shown_fed}
use Rattle.qv_text.proofs.Feeding.{consistent_fed, shown_after, on_err}
use Rattle.qv_text.proofs.lexing.Lexer.feed.Goals as goal
use Rattle.qv_text.proofs.lexing.Lexer.feed.Goals.{In_ok-extend_from_slice, After-drop_front}

pub returns-in_err-extend_from_slice-clause-err : goal.returns-in_err-extend_from_slice-clause-err
returns-in_err-extend_from_slice-clause-err c =
    let i = c.self.inside in
    on_err c.from_residual.result _ (ap (λ (xs : List ℕ). shown i.base i.start xs i.comment i.finished i.last) c.in_err-extend_from_slice.ensures.items ∙ c.self.view_is)

-- the buffer with the new bytes
left : (c : In_ok-extend_from_slice) → drop c.self.inside.start c.extend_from_slice.new.self.items ≡ drop c.self.inside.start c.self.inside.buffer.items ++ c.args.bytes.now
left c =
    let i = c.self.inside in
    ap (drop i.start) c.in_ok-extend_from_slice.ensures.items
    ∙ drop-append-le i.start i.buffer.items c.args.bytes.now (omega (arith, c.self.invariant.in_buffer))

size : (c : In_ok-extend_from_slice) → length c.extend_from_slice.new.self.items ≡ length c.self.inside.buffer.items + length c.args.bytes.now
size c = ap length c.in_ok-extend_from_slice.ensures.items ∙ length-append c.self.inside.buffer.items c.args.bytes.now

-- there are places for all bytes
room : (c : In_ok-extend_from_slice) → c.self.inside.base + length c.self.inside.buffer.items + length c.args.bytes.now < 2 ^ 62
room c =
    let i = c.self.inside in
    let all : i.base + length i.buffer.items ≡ fed c.args.self.now =
    sym (shown_fed i.base i.start i.buffer.items i.comment i.finished i.last (omega (arith, c.self.invariant.in_buffer)) c.self.invariant.opened) ∙ ap fed c.self.view_is in
    omega (arith, all, c.requires.room)

-- the same where what was given is dropped
size_dropped : (c : After-drop_front) → c.self.inside.start ≤ length c.extend_from_slice.new.self.items → (c.self.inside.base + c.self.inside.start) + length c.drop_front.new.bytes.items ≡ c.self.inside.base + length c.extend_from_slice.new.self.items
size_dropped c h = omega (arith, ap length c.drop_front.ensures, length-drop c.self.inside.start c.extend_from_slice.new.self.items)

pub invariant_of-self-then-self-len : goal.invariant_of-self-then-self-len
invariant_of-self-then-self-len c =
    let i = c.self.inside in
    let b = (goal.at.invariant_of-self-then-self-len c).In_ok-extend_from_slice in
    consistent_fed i.base i.start i.scanned i.buffer.items i.mode i.comment i.last c.self.invariant c.args.bytes.now (i.base + i.start) 0 c.drop_front.new.bytes.items
    (omega arith) (c.drop_front.ensures ∙ left b)
    (size_dropped (goal.at.invariant_of-self-then-self-len c).After-drop_front (omega (arith, size b, c.self.invariant.in_buffer)) ∙ ap (λ n. i.base + n) (size b))
    (omega arith) (room b)

pub returns-then-self-len-clause-ok : goal.returns-then-self-len-clause-ok
returns-then-self-len-clause-ok c =
    let i = c.self.inside in
    let b = (goal.at.returns-then-self-len-clause-ok c).In_ok-extend_from_slice in
    shown_after i.base i.start i.scanned i.buffer.items i.mode i.comment i.last c.self.invariant c.args.bytes.now (i.base + i.start) 0 c.drop_front.new.bytes.items
    (omega arith) (c.drop_front.ensures ∙ left b)
    (size_dropped (goal.at.returns-then-self-len-clause-ok c).After-drop_front (omega (arith, size b, c.self.invariant.in_buffer)) ∙ ap (λ n. i.base + n) (size b))
    (omega arith) i.finished
    ∙ ap (λ (o : Progress). record o { rest = o.rest ++ c.args.bytes.now; last = None }) c.self.view_is

pub invariant_of-self-else-self-len : goal.invariant_of-self-else-self-len
invariant_of-self-else-self-len c =
    let i = c.self.inside in
    let b = (goal.at.invariant_of-self-else-self-len c).In_ok-extend_from_slice in
    consistent_fed i.base i.start i.scanned i.buffer.items i.mode i.comment i.last c.self.invariant c.args.bytes.now i.base i.start c.extend_from_slice.new.self.items
    refl (left b) (ap (λ n. i.base + n) (size b)) (omega arith) (room b)

pub returns-else-self-len-clause-ok : goal.returns-else-self-len-clause-ok
returns-else-self-len-clause-ok c =
    let i = c.self.inside in
    let b = (goal.at.returns-else-self-len-clause-ok c).In_ok-extend_from_slice in
    shown_after i.base i.start i.scanned i.buffer.items i.mode i.comment i.last c.self.invariant c.args.bytes.now i.base i.start c.extend_from_slice.new.self.items
    refl (left b) (ap (λ n. i.base + n) (size b)) (omega arith) i.finished
    ∙ ap (λ (o : Progress). record o { rest = o.rest ++ c.args.bytes.now; last = None }) c.self.view_is
