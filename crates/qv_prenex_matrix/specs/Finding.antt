-- What is found of a term's rule before anything is put into the store for it.
use Rattle.std.specs.Prelude.{◌≡◌, ℕ, ◌<◌, Bool, List, length, if◌then◌else◌}
use Rattle.qv_words.specs.declared.op.Op.TheVariants.{And, Or}
use Rattle.qv_words.specs.Tree.{Tree}
use Rattle.qv_words.specs.Prenex.{first_choice, negation}
use Rattle.qv_store.specs.Nodes.{tree_at}
use Rattle.qv_prenex_laws.specs.RuleLaws.{split_rule}
use Rattle.qv_prenex_laws.specs.RuleLaws.{Rule as PlainRule, Joined as JoinedBy}
use Rattle.qv_prenex_matrix.specs.declared.rules.Found.{Found}
use Rattle.qv_prenex_matrix.specs.declared.rules.Found.TheVariants.{Known, Implied, Other}
use Rattle.qv_prenex_matrix.specs.declared.rules.Rule.{Rule}
use Rattle.qv_prenex_matrix.specs.Rules.{rule_in, IsRuleBelow}

-- a rule of the store is this one
pub record IsRuleOf (trees : List Tree) (right : PlainRule) (rule : Rule) : Type 0 where
  pub is : rule_in trees rule ≡ right
  pub below : IsRuleBelow (length trees) rule

-- an implication, of which the negation of the left side isn't there yet
pub record IsImplied (trees : List Tree) (plus : Bool) (right : PlainRule) (a b : ℕ) : Type 0 where
  pub is : JoinedBy (if plus then Or else And) (negation (tree_at trees a)) (tree_at trees b) ≡ right
  pub left : a < length trees
  pub below : b < length trees

-- what is found of the rule of a term
abbrev pub FindsRule : List Tree → Bool → Tree → PlainRule → Found → Type 0
FindsRule trees plus t right (Known rule) = IsRuleOf trees right rule
FindsRule trees plus t right (Implied a b) = IsImplied trees plus right a b
FindsRule trees plus t right Other = split_rule plus t (first_choice t) ≡ right
