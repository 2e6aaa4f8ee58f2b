-- Passes by their names, and what they make of lists of formulas.
use Rattle.std.proofs.Common.{◌≡◌, Some, None, [], ◌∷◌, map, refl}
use Rattle.std.specs.Prelude.{codes}
use Rattle.qv_words.specs.declared.sort.Sort.TheVariants.{Bool, Bits}
use Rattle.qv_words.specs.declared.op.Op.TheVariants.{Equal, BvAdd, BvXor}
use Rattle.qv_words.specs.declared.rule.Rule.TheVariants.{Fold, Same, MulZero}
use Rattle.qv_words.specs.Tree.{Tree, Variable, Literal}
use Rattle.qv_words.specs.Prenex.{binary}
use Rattle.qv_words.specs.Rules.{rule_named}
use Rattle.qv_rewrite_passes.specs.declared.pass.Pass.TheVariants.{By, Sum, Xor, Simp}
use Rattle.qv_rewrite_passes.specs.Passes.{behind, behind_all}
use Rattle.qv_rewrite_passes.specs.Names.{name_of_pass, pass_named}

named : map pass_named (codes "sum" ∷ codes "fold" ∷ codes "same" ∷ codes "mul-zero" ∷ codes "xor" ∷ codes "simp" ∷ codes "xo" ∷ codes "sim" ∷ codes "su" ∷ codes "summ" ∷ codes "Sum" ∷ codes "" ∷ []) ≡ Some Sum ∷ Some (By Fold) ∷ Some (By Same) ∷ Some (By MulZero) ∷ Some Xor ∷ Some Simp ∷ None ∷ None ∷ None ∷ None ∷ None ∷ None ∷ []
unfolding rule_named
named = refl

names : map name_of_pass (Sum ∷ Xor ∷ Simp ∷ By Fold ∷ By MulZero ∷ []) ≡ codes "sum" ∷ codes "xor" ∷ codes "simp" ∷ codes "fold" ∷ codes "mul-zero" ∷ []
names = refl

abbrev x : Tree
x = Variable 0 (Bits 2)

abbrev y : Tree
y = Variable 1 (Bits 2)

-- x + y = y + x
abbrev turned : Tree
turned = binary Equal (binary BvAdd x y) (binary BvAdd y x)

-- x + y = x + y
abbrev alike : Tree
alike = binary Equal (binary BvAdd x y) (binary BvAdd x y)

abbrev yes : Tree
yes = Literal Bool 1

-- the pass of sums sees through an order, the rules don't
one : behind Sum (turned ∷ alike ∷ []) ≡ yes ∷ yes ∷ []
unfolding lib.Count.ones
one = refl

-- and that of exclusive or through another
abbrev flipped : Tree
flipped = binary Equal (binary BvXor x y) (binary BvXor y x)

by-xor : behind Xor (flipped ∷ alike ∷ []) ≡ binary Equal (binary BvXor x y) (binary BvXor x y) ∷ alike ∷ []
by-xor = refl

xor-in-turn : behind_all (Xor ∷ By Same ∷ []) (flipped ∷ []) ≡ yes ∷ []
xor-in-turn = refl

by-rule : behind (By Same) (turned ∷ alike ∷ []) ≡ turned ∷ yes ∷ []
by-rule = refl

-- none, and one after the other
none : behind_all [] (turned ∷ []) ≡ turned ∷ []
none = refl

in-turn : behind_all (By Same ∷ By Fold ∷ Sum ∷ []) (binary Equal alike turned ∷ []) ≡ binary Equal yes yes ∷ []
unfolding lib.Count.ones
in-turn = refl

in-other-turn : behind_all (Sum ∷ By Same ∷ []) (binary Equal alike turned ∷ []) ≡ yes ∷ []
unfolding lib.Count.ones
in-other-turn = refl
