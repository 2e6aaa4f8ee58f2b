use Rattle.std.proofs.Common.{◌≤◌, length, ap, subst, ◌∙◌}
use Rattle.std.specs.List.{AllByRecursion}
use Rattle.qv_script_stack.specs.Held.{Held}
use Rattle.qv_script_stack.proofs.stack.Stack.mark.Goals as goal

pub returns : goal.returns
returns c = record {
  names = c.len.ensures.names ∙ ap (λ (k : Held). length k.force.names) c.self.view_is;
  kept = c.len.ensures.kept ∙ ap (λ (k : Held). length k.force.kept) c.self.view_is;
  levels = subst (λ (k : Held). AllByRecursion (λ n. n ≤ c.len.result) k.force.starts) c.self.view_is c.len.ensures.levels;
  begun = ap (λ (k : Held). k.begun) c.self.view_is;
}
