use Rattle.std.proofs.Common.{ℕ, List, Bor}
use Rattle.std.specs.Prelude.{option_map}
use Rattle.qv_script_parts.proofs.Attributes.{front-none, front-some}
use Rattle.qv_script_parts.proofs.annotated.symbol_in_front.Goals as goal

pub returns-then-to-at : goal.returns-then-to-at
returns-then-to-at c = λ es h. front-none c.args.items.now c.args.text.now c.args.at c.args.to c.if-to-at.true es h

pub returns : goal.returns
returns c = λ es h.
    let a = c.args in
    front-some a.items.now a.text.now a.at a.to c.if-to-at.false (option_map (λ (m : Bor (List ℕ)). m.now) c.name_in.result) c.name_in.ensures es h
