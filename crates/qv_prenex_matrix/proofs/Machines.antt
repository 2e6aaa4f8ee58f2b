-- Steps of the machine that builds a matrix.
use Rattle.std.proofs.Common.{◌≡◌, ℕ, zero, suc, ◌*◌, ◌<◌, ◌≤◌, ◌==◌, Bool, true, false, not, if◌then◌else◌, Option, Some, List, ◌∷◌, refl, sym, ap, ◌∙◌, arith}
use Rattle.std.proofs.Math.Path.{fun_ext}
use Rattle.qv_words.specs.declared.sort.Sort.{Sort}
use Rattle.qv_words.specs.declared.op.Op.{Op}
use Rattle.qv_words.specs.declared.op.Op.TheVariants.{And, Or}
use Rattle.qv_words.specs.Tree.{Tree, Variable}
use Rattle.qv_words.proofs.Equals.{eq-from_test}
use Rattle.qv_words.specs.Sorted.{with_level}
use Rattle.qv_prenex_laws.specs.FormLaws.{lengths_under, joined_lengths}
use Rattle.qv_prenex_laws.specs.MatrixLaws.{Cursor, matrix_under, advanced, plain_built, quantifier_cursor}
use Rattle.qv_prenex_laws.specs.RuleLaws.{Part, Rule, Plain, Turned, Joined, Crossed, Bound, rule_at, matrix_by_rule, lengths_by_rule}
use Rattle.qv_prenex_laws.proofs.Rules.{lengths-by-rule, matrix-by-rule}
use Rattle.qv_prenex_laws.proofs.Advancing.{joined-advances, quantifier-advances}
use Rattle.qv_prenex_matrix.specs.Matrix.{PlainTask, Building, Joining, Leaving, restored, cursor_at, built, eightfold}

-- what is restored behind a quantifier
pub restored-same : (outer : ℕ → Option Tree) (l : ℕ) (x : Tree) → restored (with_level outer l x) l (outer l) ≡ outer
restored-same outer l x = fun_ext (λ k. go k (k == l) refl)
  where
    go : (k : ℕ) (b : Bool) → (k == l) ≡ b → (if b then outer l else (if b then Some x else outer k)) ≡ outer k
    go k true e = ap outer (sym (eq-from_test k l e))
    go k false e = refl

module _ (place : ℕ → ℕ) (plus : Bool) (t : Tree) (k : ℕ) (todo : List PlainTask) (results : List Tree) (outer : ℕ → Option Tree) (next : ℕ → ℕ) where
  abbrev at : Cursor
  at = cursor_at outer next k

  -- a part by its rule
  by-rule : (r : Rule) → rule_at plus t ≡ r → built place (Building plus t k ∷ todo) results outer next ≡
      built place todo (matrix_by_rule place plus t r at ∷ results) outer (advanced next k (lengths_by_rule plus r))
  unfolding built
  by-rule r e =
      ap (λ m. built place todo (m ∷ results) outer (advanced next k (lengths_under plus t))) (matrix-by-rule place plus t at ∙ ap (λ s. matrix_by_rule place plus t s at) e)
      ∙ ap (λ ls. built place todo (matrix_by_rule place plus t r at ∷ results) outer (advanced next k ls)) (lengths-by-rule plus t ∙ ap (lengths_by_rule plus) e)

  pub plain-next : rule_at plus t ≡ Plain → built place (Building plus t k ∷ todo) results outer next ≡ built place todo (plain_built place plus t at ∷ results) outer next
  plain-next e = by-rule Plain e

  pub turned-next : (a : Tree) → rule_at plus t ≡ Turned a → built place (Building plus t k ∷ todo) results outer next ≡ built place (Building (not plus) a k ∷ todo) results outer next
  unfolding built
  turned-next a e = by-rule (Turned a) e

  pub joined-next : (o : Op) (a b : Tree) → rule_at plus t ≡ Joined o a b → built place (Building plus t k ∷ todo) results outer next ≡
      built place (Building plus a k ∷ Building plus b k ∷ Joining o ∷ todo) results outer next
  unfolding built
  joined-next o a b e =
      by-rule (Joined o a b) e
      ∙ ap (λ n. built place todo (matrix_by_rule place plus t (Joined o a b) at ∷ results) outer n) (sym (joined-advances next k (lengths_under plus a) (lengths_under plus b)))

  pub crossed-next : (a b c d : Part) → rule_at plus t ≡ Crossed a b c d → built place (Building plus t k ∷ todo) results outer next ≡
      built place (Building a.plus a.tree k ∷ Building b.plus b.tree k ∷ Joining And ∷ Building c.plus c.tree k ∷ Building d.plus d.tree k ∷ Joining And ∷ Joining Or ∷ todo) results outer next
  unfolding built
  crossed-next a b c d e =
      let la = lengths_under a.plus a.tree in
      let lb = lengths_under b.plus b.tree in
      let lc = lengths_under c.plus c.tree in
      let ld = lengths_under d.plus d.tree in
      by-rule (Crossed a b c d) e
      ∙ ap (λ n. built place todo (matrix_by_rule place plus t (Crossed a b c d) at ∷ results) outer n)
      (sym (joined-advances (advanced (advanced next k la) k lb) k lc ld
      ∙ ap (λ n. advanced n k (joined_lengths lc ld)) (joined-advances next k la lb)
      ∙ joined-advances next k (joined_lengths la lb) (joined_lengths lc ld)))

  pub bound-next : (existential : Bool) (l : ℕ) (s : Sort) (body : Tree) → rule_at plus t ≡ Bound existential l s body → built place (Building plus t k ∷ todo) results outer next ≡
      (let inner = quantifier_cursor existential l s (lengths_under plus body) at in
      built place (Building plus body inner.block ∷ Leaving l (outer l) ∷ todo) results inner.outer inner.next)
  unfolding built
  bound-next existential l s body e =
      let inner = quantifier_cursor existential l s (lengths_under plus body) at in
      by-rule (Bound existential l s body) e
      ∙ ap (λ n. built place todo (matrix_under place plus body inner ∷ results) outer n) (sym (quantifier-advances existential l s (lengths_under plus body) at))
      ∙ ap (λ o. built place todo (matrix_under place plus body inner ∷ results) o (advanced inner.next inner.block (lengths_under plus body))) (sym (back existential))
    where
      back : (ex : Bool) → restored (quantifier_cursor ex l s (lengths_under plus body) at).outer l (outer l) ≡ outer
      back true = restored-same outer l (Variable (next k) s)
      back false = restored-same outer l (Variable (next (suc k)) s)

-- there is less to be done
eightfold-le : (a n : ℕ) → a ≤ n → eightfold a ≤ eightfold n
unfolding eightfold
eightfold-le zero zero h = omega arith
eightfold-le zero (suc n) h = let e = eightfold-le zero n (omega arith) in omega (arith, e)
eightfold-le (suc a) zero h = absurd (omega (arith, h))
eightfold-le (suc a) (suc n) h = let e = eightfold-le a n (omega (arith, h)) in omega (arith, e)

eightfold-some : (n : ℕ) → 1 ≤ eightfold n
unfolding eightfold
eightfold-some zero = omega arith
eightfold-some (suc n) = let e = eightfold-some n in omega (arith, e)

pub eightfold-less : (a n : ℕ) → a < n → (8 * eightfold a ≤ eightfold n) × (1 ≤ eightfold a)
unfolding eightfold
eightfold-less a zero h = absurd (omega (arith, h))
eightfold-less a (suc n) h = let e = eightfold-le a n (omega (arith, h)) in (omega (arith, e), eightfold-some a)
