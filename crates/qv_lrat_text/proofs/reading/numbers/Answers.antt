use Rattle.std.proofs.Common.{◌≡◌, true, false, sym, ◌∙◌}
use Rattle.qv_lrat_text.specs.Words.{words, is_byte_word}
use Rattle.qv_lrat_text.proofs.Numbers.{goes_on, ends, refuses, runs_out}
use Rattle.qv_lrat_text.proofs.reading.numbers.Goals as goal

pub returns-then-is_byte_word : goal.returns-then-is_byte_word
returns-then-is_byte_word g c =
    let l = c.loop-word in
    let zero : is_byte_word 48 c.in-Some.word.now ≡ true = sym c.is_byte_word.ensures ∙ c.if-is_byte_word.true in
    ends g.T.Number.meaning l.numbers.items (words l.rest.now) c.in-Some.word.now (words c.in-Some.after.now) _
    c.in-Some.ensures.split zero l.invariant

pub returns-in_default-read : goal.returns-in_default-read
returns-in_default-read g c =
    let l = c.loop-word in
    let more : is_byte_word 48 c.in-Some.word.now ≡ false = sym c.is_byte_word.ensures ∙ c.if-is_byte_word.false in
    refuses g.T.Number.meaning l.numbers.items (words l.rest.now) c.in-Some.word.now (words c.in-Some.after.now) _
    c.in-Some.ensures.split more (sym c.in_default-read.ensures) l.invariant

pub loop-word-preserved : goal.loop-word-preserved
loop-word-preserved g c =
    let l = c.loop-word in
    let more : is_byte_word 48 c.in-Some.word.now ≡ false = sym c.is_byte_word.ensures ∙ c.if-is_byte_word.false in
    rw c.in_ok-push.ensures.items
    (goes_on g.T.Number.meaning l.numbers.items (words l.rest.now) c.in-Some.word.now (words c.in-Some.after.now) c.in-Some-read.number _
    c.in-Some.ensures.split more (sym c.in-Some-read.ensures) l.invariant)

pub returns : goal.returns
returns g c =
    let l = c.loop-word in
    runs_out g.T.Number.meaning l.numbers.items (words l.rest.now) _ c.in_default.ensures.split l.invariant
