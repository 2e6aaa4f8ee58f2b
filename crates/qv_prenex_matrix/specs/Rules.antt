-- Parts and rules over a store's trees.
use Rattle.std.specs.Prelude.{ℕ, ◌<◌, Bool, true, false, not, List, [], ◌∷◌}
use Rattle.qv_words.specs.Tree.{Tree}
use Rattle.qv_store.specs.Nodes.{tree_at}
use Rattle.qv_prenex_laws.specs.RuleLaws.{Part as PlainPart, Rule as PlainRule, Plain as PlainIs, Turned as TurnedInto, Joined as JoinedBy, Crossed as CrossedFrom, Bound as BoundBy}
use Rattle.qv_prenex_matrix.specs.declared.rules.Part.{Part}
use Rattle.qv_prenex_matrix.specs.declared.rules.Rule.{Rule}
use Rattle.qv_prenex_matrix.specs.declared.rules.Rule.TheVariants.{Plain, Turned, Joined, Crossed, Bound}

-- the tree under its sign
abbrev pub part_in : List Tree → Part → PlainPart
part_in trees p = record { plus = p.plus; tree = tree_at trees p.term }

-- the rule over trees
abbrev pub rule_in : List Tree → Rule → PlainRule
rule_in trees Plain = PlainIs
rule_in trees (Turned a) = TurnedInto (tree_at trees a)
rule_in trees (Joined o a b) = JoinedBy o (tree_at trees a) (tree_at trees b)
rule_in trees (Crossed a b c d) = CrossedFrom (part_in trees a) (part_in trees b) (part_in trees c) (part_in trees d)
rule_in trees (Bound existential l s body) = BoundBy existential l s (tree_at trees body)

-- its terms stand below this number
abbrev pub IsRuleBelow : ℕ → Rule → Type 0
IsRuleBelow n Plain = Unit {0}
IsRuleBelow n (Turned a) = a < n
IsRuleBelow n (Joined o a b) = (a < n) × (b < n)
IsRuleBelow n (Crossed a b c d) = (a.term < n) × (b.term < n) × (c.term < n) × (d.term < n)
IsRuleBelow n (Bound existential l s body) = body < n

-- the parts that it names under a sign, in order
abbrev pub parts_over : Bool → Rule → List Part
parts_over plus Plain = []
parts_over plus (Turned a) = record { plus = not plus; term = a } ∷ []
parts_over plus (Joined o a b) = record { plus = plus; term = a } ∷ record { plus = plus; term = b } ∷ []
parts_over plus (Crossed a b c d) = a ∷ b ∷ c ∷ d ∷ []
parts_over plus (Bound existential l s body) = record { plus = plus; term = body } ∷ []

-- whether a quantifier stands at the top
abbrev pub is_bound : Rule → Bool
is_bound Plain = false
is_bound (Turned a) = false
is_bound (Joined o a b) = false
is_bound (Crossed a b c d) = false
is_bound (Bound existential l s body) = true

-- whether it is an existential one
abbrev pub binds_existential : Rule → Bool
binds_existential Plain = false
binds_existential (Turned a) = false
binds_existential (Joined o a b) = false
binds_existential (Crossed a b c d) = false
binds_existential (Bound existential l s body) = existential
