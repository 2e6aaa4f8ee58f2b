use Rattle.std.proofs.Common.{◌≡◌, ◌∙◌, ◌++◌, ap, length, take, drop, arith}
use Rattle.std.proofs.lemmas.List.{take_at}
use Rattle.std.proofs.lemmas.Grind.{common_steps}
use Rattle.qv_io.proofs.SourceLemmas.{Reads-told, drop-split}
use Rattle.qv_io.proofs.mem_source.MemSourceSource.read.Goals as goal

pub returns-clause-reads : goal.returns-clause-reads
returns-clause-reads c =
    let fields = c.self.inside in
    let left : drop fields.given fields.bytes.items ≡ c.args.self.now.left = ap (λ s. s.left) c.self.view_is in
    let front : take c.min-n.result (drop fields.given fields.bytes.items) ≡ c.copy_from_slice.new.self = grind (arith, common_steps) in
    Reads-told _ _ _ _ _
    (rw (← left) (rw (← front) (drop-split fields.bytes.items fields.given c.min-n.result)))
    (grind (arith, common_steps))
    (grind (arith, common_steps))
    (λ none room. rw (← left) (grind (arith, common_steps)))

pub returns-clause-call : goal.returns-clause-call
returns-clause-call c =
    let fields = c.self.inside in
    let left : drop fields.given fields.bytes.items ≡ c.args.self.now.left = ap (λ s. s.left) c.self.view_is in
    let front : take c.min-n.result (drop fields.given fields.bytes.items) ≡ c.copy_from_slice.new.self = grind (arith, common_steps) in
    let n : length c.copy_from_slice.new.self ≡ c.min-n.result = grind (arith, common_steps) in
    let given : take c.min-n.result (c.copy_from_slice.new.self ++ drop c.min-n.result c.args.buf.now) ≡ c.copy_from_slice.new.self = take_at _ _ _ n in (
      grind (arith, common_steps),
      rw given (n ∙ grind (arith, common_steps)),
      rw given (rw (← left) (rw (← front) (drop-split fields.bytes.items fields.given c.min-n.result))),
      grind (arith, common_steps),
    )
