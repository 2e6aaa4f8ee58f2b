-- A tree that isn't quantified has no quantifier.
use Rattle.std.proofs.Common.{◌≡◌, Bool, true, false}
use Rattle.std.specs.Bool.{OnFalse}
use Rattle.qv_words.specs.Tree.{Tree, Trees, Constant, Variable, Literal, Apply, ForAll, Exists, Nil, Cons, IsQuantifierFree, AreQuantifierFree}
use Rattle.qv_words.specs.Prenex.{is_quantified, is_some_quantified}
use Rattle.std.proofs.lemmas.Bool.{or_parts}

mutual
  pub free-of : (t : Tree) → is_quantified t ≡ false → IsQuantifierFree t
  free-of (Constant i s) h = tt
  free-of (Variable l s) h = tt
  free-of (Literal s n) h = tt
  free-of (Apply o args) h = free-of_all args h
  free-of (ForAll l s body) h = absurd (cc)
  free-of (Exists l s body) h = absurd (cc)

  free-of_all : (ts : Trees) → is_some_quantified ts ≡ false → AreQuantifierFree ts
  free-of_all Nil h = tt
  free-of_all (Cons t ts) h =
      let parts = or_parts (is_quantified t) (is_some_quantified ts) h in
      (free-of t parts.0, free-of_all ts parts.1)

pub free-on_false : (b : Bool) (t : Tree) → b ≡ is_quantified t → OnFalse b (IsQuantifierFree t)
free-on_false true t e = tt
free-on_false false t e = free-of t (let back : is_quantified t ≡ false = cc in back)
