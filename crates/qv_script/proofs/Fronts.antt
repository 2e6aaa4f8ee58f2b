-- The first parts of a command, and that further ones change nothing.
use Rattle.std.proofs.Common.{◌≡◌, ◌≤◌, ◌<◌, ◌+◌, ℕ, zero, suc, Option, Some, List, [], ◌∷◌, ◌++◌, length, take, get_or, refl, sym, ap, subst, ◌∙◌, arith}
use Rattle.std.specs.Prelude.{slice_set}
use Rattle.std.proofs.lemmas.List.{append-nil}
use Rattle.qv_sexpr.specs.declared.items.Item.{Item}
use Rattle.qv_sexpr.specs.declared.items.ItemKind.TheVariants.{Open}
use Rattle.qv_sexpr.specs.declared.items.Expr.{Expr}
use Rattle.qv_sexpr.specs.Script.{atom, list}
use Rattle.qv_sexpr.specs.Script.{Tree as Written, Trees as Writtens}
use Rattle.qv_sexpr.specs.Items.{StandAll, IsExprOf, IsExpr, Begins}
use Rattle.qv_elab_defs.specs.Tokens.{items}
use Rattle.qv_elab_items.proofs.Slices.{paren_of, read-item}
use Rattle.qv_script_parts.specs.Parted.{AreParts, inside_of}
use Rattle.qv_script_parts.proofs.Parting.{PartsFor, PartsLeft, nothing-left, part-list, are-parts}

-- a list that is written at one place behind its front
pub next-count : (n : ℕ) → n + 1 ≡ suc n
next-count n = omega (arith)

pub take-set : (xs : List ℕ) (n v : ℕ) → n < length xs → take (suc n) (slice_set xs n v) ≡ take n xs ++ v ∷ []
take-set [] n v lt = absurd (omega (arith, lt))
take-set (x ∷ xs) zero v lt = refl
take-set (x ∷ xs) (suc n) v lt = ap (λ ys. x ∷ ys) (take-set xs n v (omega (arith, lt)))

take-all : {A : Type 0} (n : ℕ) (xs : List A) → length xs ≤ n → take n xs ≡ xs
take-all zero [] le = refl
take-all (suc n) [] le = refl
take-all zero (x ∷ xs) le = absurd (omega (arith, le))
take-all (suc n) (x ∷ xs) le = ap (λ ys. x ∷ ys) (take-all n xs (omega (arith, le)))

take-own : {A : Type 0} (n : ℕ) (xs ys : List A) → length xs ≡ n → take n (xs ++ ys) ≡ xs
take-own zero [] ys e = refl
take-own (suc n) [] ys e = absurd (omega (arith, e))
take-own zero (x ∷ xs) ys e = absurd (omega (arith, e))
take-own (suc n) (x ∷ xs) ys e = ap (λ zs. x ∷ zs) (take-own n xs ys (omega (arith, e)))

pub take-length : (n : ℕ) (xs : List ℕ) → n ≤ length xs → length (take n xs) ≡ n
take-length zero xs le = refl
take-length (suc n) [] le = absurd (omega (arith, le))
take-length (suc n) (x ∷ xs) le = ap suc (take-length n xs (omega (arith, le)))

pub set-length : (xs : List ℕ) (n v : ℕ) → length (slice_set xs n v) ≡ length xs
set-length [] n v = refl
set-length (x ∷ xs) zero v = refl
set-length (x ∷ xs) (suc n) v = ap suc (set-length xs n v)

module _ (its : List Item) (text : List ℕ) where
  parts-for-count : (ats : List ℕ) (es : List Written) → PartsFor its text ats es → length ats ≡ length es
  parts-for-count [] [] h = refl
  parts-for-count [] (e ∷ es) h = absurd h
  parts-for-count (a ∷ ats) [] h = absurd h
  parts-for-count (a ∷ ats) (e ∷ es) h = ap suc (parts-for-count ats es h.1)

  -- all there are, where those are few
  pub front-all : (from at to : ℕ) (ats : List ℕ) → PartsLeft its text from at to ats → length ats ≤ 6 → to ≤ at → (within : Writtens) → StandAll its text from within to → PartsFor its text ats (take 6 (items within))
  front-all from at to ats left few le within h =
      let l = left within h in
      let none_left = nothing-left its text at to l.1 l.4 le in
      let whole = l.2 ∙ ap (λ (q : Writtens). l.0 ++ items q) none_left ∙ append-nil l.0 in
      let count = parts-for-count ats l.0 l.3 in
      subst (λ (es : List Written). PartsFor its text ats es) (sym (ap (take 6) whole ∙ take-all 6 l.0 (omega (arith, count, few)))) l.3

  -- so many, where there may be more
  pub front-some : (from at to : ℕ) (ats : List ℕ) → PartsLeft its text from at to ats → length ats ≡ 6 → (within : Writtens) → StandAll its text from within to → PartsFor its text ats (take 6 (items within))
  front-some from at to ats left many within h =
      let l = left within h in
      let count = parts-for-count ats l.0 l.3 in
      subst (λ (es : List Written). PartsFor its text ats es) (sym (ap (take 6) l.2 ∙ take-own 6 l.0 (items l.1) (sym count ∙ many))) l.3

-- further arguments change nothing
pub five-alike : {X : Type 0} (P : List Written → X) → ((a b c d e f : Written) (es : List Written) → P (a ∷ b ∷ c ∷ d ∷ e ∷ []) ≡ P (a ∷ b ∷ c ∷ d ∷ e ∷ f ∷ es)) → (es : List Written) → P (take 5 es) ≡ P es
five-alike P more [] = refl
five-alike P more (a ∷ []) = refl
five-alike P more (a ∷ b ∷ []) = refl
five-alike P more (a ∷ b ∷ c ∷ []) = refl
five-alike P more (a ∷ b ∷ c ∷ d ∷ []) = refl
five-alike P more (a ∷ b ∷ c ∷ d ∷ e ∷ []) = refl
five-alike P more (a ∷ b ∷ c ∷ d ∷ e ∷ f ∷ es) = more a b c d e f es

-- the parts of the expression that begins with this item
module _ (expr : Expr) (close : ℕ) (item : Item) (is_expr : IsExpr expr) (begins : Begins expr 0) (d : item ≡ get_or expr.items.items 0 item) (k : item.kind ≡ Open close) where
  pub front-whole : (next : ℕ) (ats : List ℕ) → PartsLeft expr.items.items expr.text.items 1 next close ats → length ats ≤ 6 → close ≤ next → (e : Written) → IsExprOf e expr → AreParts expr ats (take 6 (inside_of e))
  front-whole next ats left few le e p =
      let l = part-list expr 0 close item is_expr begins d k e (length expr.items.items) p in
      are-parts expr ats (take 6 (inside_of e)) (subst (λ (x : Written). PartsFor expr.items.items expr.text.items ats (take 6 (inside_of x))) (sym l.2) (front-all expr.items.items expr.text.items 1 next close ats left few le l.0 l.3))

  pub front-cut : (next : ℕ) (ats : List ℕ) → PartsLeft expr.items.items expr.text.items 1 next close ats → length ats ≡ 6 → (e : Written) → IsExprOf e expr → AreParts expr ats (take 6 (inside_of e))
  front-cut next ats left many e p =
      let l = part-list expr 0 close item is_expr begins d k e (length expr.items.items) p in
      are-parts expr ats (take 6 (inside_of e)) (subst (λ (x : Written). PartsFor expr.items.items expr.text.items ats (take 6 (inside_of x))) (sym l.2) (front-some expr.items.items expr.text.items 1 next close ats left many l.0 l.3))

-- an expression that is no list has none
pub no-front : (expr : Expr) (item : Item) (begins : Begins expr 0) → item ≡ get_or expr.items.items 0 item → ((n : ℕ) → item.kind ≡ Open n → ⊥) → (e : Written) → IsExprOf e expr → AreParts expr [] (take 6 (inside_of e))
no-front expr item begins d other (atom l) p = tt
no-front expr item begins d other (list place inside close) p =
    let there = read-item expr.items.items 0 begins.0 item begins.1 d in
    let same = some-is (paren_of (Open p.0) place p.1.0) item (sym p.1.1 ∙ there) in
    absurd (other p.0 (sym (ap (λ (y : Item). y.kind) same)))
  where
    some-is : (a b : Item) → ◌≡◌ {A = Option Item} (Some a) (Some b) → a ≡ b
    some-is a b h = cc
