-- Conjunctions have their formulas as conjuncts.
use Rattle.std.proofs.Common.{◌≡◌, List, [], ◌∷◌, ◌++◌, sym, subst, append_assoc, append-nil}
use Rattle.qv_words.specs.declared.op.Op.TheVariants.{And}
use Rattle.qv_words.specs.Tree.{Tree}
use Rattle.qv_words.specs.Prenex.{binary}
use Rattle.qv_words.specs.Problem.{conjunction, conjunction_with}
use Rattle.qv_choose.specs.Conjuncts.{AreConjuncts, of_true, alone, of_both}

with-joined : (t : Tree) (ks ts : List Tree) → AreConjuncts t ks → AreConjuncts (conjunction_with t ts) (ks ++ ts)
with-joined t ks [] h = subst (AreConjuncts t) (sym (append-nil ks)) h
with-joined t ks (u ∷ us) h =
    subst (AreConjuncts (conjunction_with (binary And t u) us)) (append_assoc ks (u ∷ []) us)
    (with-joined (binary And t u) (ks ++ u ∷ []) us (of_both t u ks (u ∷ []) h (alone u)))

pub are-joined : (ts : List Tree) → AreConjuncts (conjunction ts) ts
are-joined [] = of_true
are-joined (t ∷ ts) = with-joined t (t ∷ []) ts (alone t)
