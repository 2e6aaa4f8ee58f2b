-- How the next levels of the blocks move on, form by form.
use Rattle.std.proofs.Common.{◌≡◌, ℕ, zero, suc, ◌+◌, ◌==◌, Bool, true, false, List, [], ◌∷◌, refl, sym, ap, ◌∙◌, arith}
use Rattle.std.proofs.Math.Path.{fun_ext}
use Rattle.qv_prenex_laws.specs.FormLaws.{one_first}
use Rattle.qv_prenex_laws.specs.MatrixLaws.{raised, advanced, JoinedAdvances, QuantifierAdvances}
use Rattle.std.proofs.lemmas.Bool.{ne_eqb}

-- a level raised twice, in either order
raised-twice : (next : ℕ → ℕ) (k n m : ℕ) → raised (raised next k n) k m ≡ raised next k (n + m)
raised-twice next k n m = fun_ext (λ i. go i (i == k) refl)
  where
    go : (i : ℕ) (b : Bool) → (i == k) ≡ b → raised (raised next k n) k m i ≡ raised next k (n + m) i
    go i true e = rw e (omega arith)
    go i false e = rw e refl

raised-turned : (next : ℕ → ℕ) (k l n m : ℕ) → raised (raised next k n) l m ≡ raised (raised next l m) k n
raised-turned next k l n m = fun_ext (λ i. go i (i == k) (i == l) refl refl)
  where
    go : (i : ℕ) (b d : Bool) → (i == k) ≡ b → (i == l) ≡ d → raised (raised next k n) l m i ≡ raised (raised next l m) k n i
    go i true true e f = rw (e, f) (omega arith)
    go i true false e f = rw (e, f) refl
    go i false true e f = rw (e, f) refl
    go i false false e f = rw (e, f) refl

raised-nothing : (next : ℕ → ℕ) (k : ℕ) → raised next k 0 ≡ next
raised-nothing next k = fun_ext (λ i. go i (i == k) refl)
  where
    go : (i : ℕ) (b : Bool) → (i == k) ≡ b → raised next k 0 i ≡ next i
    go i true e = rw e (omega arith)
    go i false e = rw e refl

advanced-raised : (next : ℕ → ℕ) (k l n : ℕ) (ms : List ℕ) → raised (advanced next l ms) k n ≡ advanced (raised next k n) l ms
advanced-raised next k l n [] = refl
advanced-raised next k l n (m ∷ ms) =
    advanced-raised (raised next l m) k (suc l) n ms ∙ ap (λ f. advanced f (suc l) ms) (raised-turned next l k m n)

pub joined-advances : JoinedAdvances
joined-advances next k [] ms = refl
joined-advances next k (n ∷ ns) [] = refl
joined-advances next k (n ∷ ns) (m ∷ ms) =
    ap (λ f. advanced f (suc k) ms)
    (advanced-raised (raised next k n) k (suc k) m ns ∙ ap (λ f. advanced f (suc k) ns) (raised-twice next k n m))
    ∙ joined-advances (raised next k (n + m)) (suc k) ns ms

first-advances : (next : ℕ → ℕ) (k : ℕ) (ns : List ℕ) → advanced (raised next k 1) k ns ≡ advanced next k (one_first ns)
first-advances next k [] = refl
first-advances next k (n ∷ ns) = ap (λ f. advanced f (suc k) ns) (raised-twice next k 1 n ∙ ap (raised next k) one)
  where
    one : 1 + n ≡ suc n
    one = omega arith

empty-advances : (next : ℕ → ℕ) (k : ℕ) (ns : List ℕ) → advanced next k (0 ∷ ns) ≡ advanced next (suc k) ns
empty-advances next k ns = ap (λ f. advanced f (suc k) ns) (raised-nothing next k)

pub quantifier-advances : QuantifierAdvances
quantifier-advances true l s body at = first-advances at.next at.block body
quantifier-advances false l s [] at = sym (empty-advances at.next at.block (1 ∷ []))
quantifier-advances false l s (zero ∷ ns) at =
    empty-advances (raised at.next (suc at.block) 1) at.block ns ∙ first-advances at.next (suc at.block) ns
    ∙ sym (empty-advances at.next at.block (one_first ns))
quantifier-advances false l s (suc n ∷ ns) at = rw (ne_eqb (suc n) 0 (λ e. omega (arith, e)))
    (ap (λ k. advanced (raised at.next (suc at.block) 1) k (suc n ∷ ns)) two ∙ sym (empty-advances at.next at.block (1 ∷ suc n ∷ ns)))
  where
    two : at.block + 2 ≡ suc (suc at.block)
    two = omega arith
