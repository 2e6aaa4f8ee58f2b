-- The subtrees of no trees, and of some that share theirs.
use Rattle.std.proofs.Common.{◌≡◌, [], ◌∷◌, refl}
use Rattle.qv_words.specs.declared.sort.Sort.TheVariants.{Bits}
use Rattle.qv_words.specs.declared.op.Op.TheVariants.{Equal, Not}
use Rattle.qv_words.specs.Tree.{Tree, Constant, Variable, Apply, ForAll, Nil, Cons}
use Rattle.qv_trees.specs.Subtrees.{subtrees_of}

x : Tree
x = Variable 0 (Bits 8)

c : Tree
c = Constant 1 (Bits 8)

same : Tree
same = Apply Equal (Cons x (Cons c Nil))

each : Tree
each = ForAll 0 (Bits 8) same

none : subtrees_of [] ≡ []
none = refl

-- what is shared is there once, below a quantifier too, and so is a term that is named twice
shared : subtrees_of (Apply Not (Cons same Nil) ∷ each ∷ same ∷ each ∷ []) ≡ x ∷ c ∷ same ∷ Apply Not (Cons same Nil) ∷ each ∷ []
unfolding x c same each
shared = refl
