-- Formulas rebuilt by the rule of a pass, or by all rules at once.
use Rattle.std.specs.Prelude.{Option, None, unwrap_or, List, [], ◌∷◌}
use Rattle.std.specs.Option.{option_or}
use Rattle.qv_words.specs.declared.op.Op.{Op}
use Rattle.qv_words.specs.declared.rule.Rule.{Rule}
use Rattle.qv_words.specs.Tree.{Tree, Trees, Constant, Variable, Literal, Apply, ForAll, Exists, Nil, Cons}
use Rattle.qv_words.specs.Passes.{rules_in_order, rewritten}
use Rattle.qv_rewrite.specs.declared.rewriting.Rewriting.{Rewriting}
use Rattle.qv_rewrite.specs.declared.rewriting.Rewriting.TheVariants.{Pass, Simplify}
use Rattle.qv_rewrite.specs.FurtherRules.{further}

-- the right form of the first rule that fits an application
abbrev pub first_rewritten : List Rule → Op → Trees → Option Tree
first_rewritten [] o args = None
first_rewritten (r ∷ rs) o args = option_or (rewritten r o args) (first_rewritten rs o args)

-- what an application is rewritten to, where a rule fits
abbrev pub remade : Rewriting → Op → Trees → Option Tree
remade (Pass r) o args = rewritten r o args
remade Simplify o args = option_or (first_rewritten rules_in_order o args) (further o args)

-- each application of a formula rebuilt from its leaves up, and rewritten once where a rule fits
abbrev mutual
  pub swept : Rewriting → Tree → Tree
  swept w (Constant i s) = Constant i s
  swept w (Variable l s) = Variable l s
  swept w (Literal s n) = Literal s n
  swept w (Apply o args) = unwrap_or (remade w o (swept_each w args)) (Apply o (swept_each w args))
  swept w (ForAll l s body) = ForAll l s body
  swept w (Exists l s body) = Exists l s body

  pub swept_each : Rewriting → Trees → Trees
  swept_each w Nil = Nil
  swept_each w (Cons t ts) = Cons (swept w t) (swept_each w ts)
