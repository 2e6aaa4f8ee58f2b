-- The bound of the recursion is enough: a greater one gives the same form.
use Rattle.std.proofs.Common.{◌≡◌, ℕ, zero, suc, ◌+◌, ◌<◌, ◌≤◌, ◌⊎◌, inl, inr, Bool, true, false, not, ◌&&◌, if◌then◌else◌, Option, Some, None, refl, sym, ap, ◌∙◌, subst, arith}
use Rattle.qv_words.specs.declared.op.Op.{Op}
use Rattle.qv_words.specs.declared.op.Op.TheVariants.{Not, And, Or, Xor, Implies, Equal, Ite}
use Rattle.qv_words.specs.Tree.{Tree, Trees, Constant, Variable, Literal, Apply, ForAll, Exists, Nil, Cons, tree_sort}
use Rattle.qv_words.specs.Equality.{tree_eq}
use Rattle.qv_words.specs.Prenex.{Form, Choice, is_bool, is_quantified, tree_size, trees_size, own_choice, or_else, first_choice, first_choice_of, ite, put_for, put_for_each, negation, binary, joined, with_quantifier, unquantified, alike, unlike, chosen, split, split_at, form_of_application, form_of_quantified, form_within}
use Rattle.qv_prenex_laws.specs.FormLaws.{form_under}
use Rattle.qv_words.proofs.Equals.{tree_eq-is, tree_eq-refl}

pub some-size : (t : Tree) → 1 ≤ tree_size t
some-size (Constant i s) = omega arith
some-size (Variable l s) = omega arith
some-size (Literal s n) = omega arith
some-size (Apply o args) = omega arith
some-size (ForAll l s body) = omega arith
some-size (Exists l s body) = omega arith

-- what is put for a larger target leaves no larger tree
put-here : (target put : Tree) (o : Op) (args : Trees) (b : Bool) → tree_eq (Apply o args) target ≡ b → tree_size put < tree_size target →
    trees_size (put_for_each target put args) ≤ trees_size args → tree_size (put_for target put (Apply o args)) ≤ 1 + trees_size args
put-here target put o args true e lt h =
    let same : 1 + trees_size args ≡ tree_size target = ap tree_size (tree_eq-is (Apply o args) target e) in
    rw e (omega (arith, same, lt))
put-here target put o args false e lt h = rw e (omega (arith, h))

mutual
  put-size : (target put t : Tree) → tree_size put < tree_size target → tree_size (put_for target put t) ≤ tree_size t
  put-size target put (Constant i s) lt = omega arith
  put-size target put (Variable l s) lt = omega arith
  put-size target put (Literal s n) lt = omega arith
  put-size target put (Apply o args) lt = put-here target put o args (tree_eq (Apply o args) target) refl lt (put-sizes target put args lt)
  put-size target put (ForAll l s body) lt = omega arith
  put-size target put (Exists l s body) lt = omega arith

  put-sizes : (target put : Tree) (ts : Trees) → tree_size put < tree_size target → trees_size (put_for_each target put ts) ≤ trees_size ts
  put-sizes target put Nil lt = omega arith
  put-sizes target put (Cons t ts) lt =
      let a = put-size target put t lt in
      let b = put-sizes target put ts lt in
      omega (arith, a, b)

abbrev pub target_of : Choice → Tree
target_of c = ite c.condition c.yes c.no

-- a choice that is found is smaller, and so is the tree without it
pub record Shrinks (t : Tree) (c : Choice) : Type 0 where
  pub condition : tree_size c.condition < tree_size t
  pub putting : (put : Tree) → tree_size put < tree_size (target_of c) → tree_size (put_for (target_of c) put t) < tree_size t

record AllShrink (ts : Trees) (c : Choice) : Type 0 where
  condition : tree_size c.condition < trees_size ts
  putting : (put : Tree) → tree_size put < tree_size (target_of c) → trees_size (put_for_each (target_of c) put ts) < trees_size ts

own-made : (c a b : Tree) (d : Choice) (test : Bool) → (if test then Some (record { condition = c; yes = a; no = b }) else None) ≡ Some d → ite c a b ≡ target_of d
own-made c a b d true h =
    let same : record { condition = c; yes = a; no = b } ≡ d = cc in
    ap target_of same
own-made c a b d false h = cc

pub own-is : (o : Op) (args : Trees) (c : Choice) → own_choice o args ≡ Some c → Apply o args ≡ target_of c
own-is Ite (Cons c (Cons a (Cons b Nil))) d h = own-made c a b d (is_quantified c && not (is_bool (tree_sort a))) h
own-is o args c h = cc

pub of-two : (x y : Option Choice) (c : Choice) → or_else x y ≡ Some c → (x ≡ Some c) ⊎ (y ≡ Some c)
of-two (Some d) y c h = inl h
of-two None y c h = inr h

at-target : (c : Choice) → Shrinks (target_of c) c
at-target c = record {
  condition = let a = some-size c.yes in omega (arith, a);
  putting = λ put lt. rw (tree_eq-refl (target_of c)) lt;
}

put-below : (target put : Tree) (o : Op) (args : Trees) (b : Bool) → tree_eq (Apply o args) target ≡ b → tree_size put < tree_size target →
    trees_size (put_for_each target put args) < trees_size args → tree_size (put_for target put (Apply o args)) < 1 + trees_size args
put-below target put o args true e lt h =
    let same : 1 + trees_size args ≡ tree_size target = ap tree_size (tree_eq-is (Apply o args) target e) in
    rw e (omega (arith, same, lt))
put-below target put o args false e lt h = rw e (omega (arith, h))

in-args : (o : Op) (args : Trees) (c : Choice) → AllShrink args c → Shrinks (Apply o args) c
in-args o args c s = record {
  condition = let a = s.condition in omega (arith, a);
  putting = λ put lt. put-below (target_of c) put o args (tree_eq (Apply o args) (target_of c)) refl lt (s.putting put lt);
}

here-or-in : (o : Op) (args : Trees) (c : Choice) → (first_choice_of args ≡ Some c → AllShrink args c) → (own_choice o args ≡ Some c) ⊎ (first_choice_of args ≡ Some c) → Shrinks (Apply o args) c
here-or-in o args c go (inl own) = subst (λ (t : Tree). Shrinks t c) (sym (own-is o args c own)) (at-target c)
here-or-in o args c go (inr below) = in-args o args c (go below)

first-or-rest : (t : Tree) (ts : Trees) (c : Choice) → (first_choice t ≡ Some c → Shrinks t c) → (first_choice_of ts ≡ Some c → AllShrink ts c) →
    (first_choice t ≡ Some c) ⊎ (first_choice_of ts ≡ Some c) → AllShrink (Cons t ts) c
first-or-rest t ts c one rest (inl e) = record {
  condition = let a = (one e).condition in omega (arith, a);
  putting = λ put lt.
      let a = (one e).putting put lt in
      let b = put-sizes (target_of c) put ts lt in
      omega (arith, a, b);
}
first-or-rest t ts c one rest (inr e) = record {
  condition = let a = (rest e).condition in omega (arith, a);
  putting = λ put lt.
      let a = put-size (target_of c) put t lt in
      let b = (rest e).putting put lt in
      omega (arith, a, b);
}

mutual
  pub shrinks : (t : Tree) (c : Choice) → first_choice t ≡ Some c → Shrinks t c
  shrinks (Apply o args) c h = here-or-in o args c (λ e. all-shrink args c e) (of-two (own_choice o args) (first_choice_of args) c h)
  shrinks _ c h = cc

  all-shrink : (ts : Trees) (c : Choice) → first_choice_of ts ≡ Some c → AllShrink ts c
  all-shrink Nil c h = cc
  all-shrink (Cons t ts) c h = first-or-rest t ts c (λ e. shrinks t c e) (λ e. all-shrink ts c e) (of-two (first_choice t) (first_choice_of ts) c h)

-- two ways to make forms that are the same on smaller trees
abbrev AreAlike : (Bool → Tree → Form) → (Bool → Tree → Form) → ℕ → Type 0
AreAlike f g n = (plus : Bool) (u : Tree) → tree_size u < n → f plus u ≡ g plus u

four-same : (join : Form → Form → Form → Form → Form) (a b c d p q r s : Form) → a ≡ p → b ≡ q → c ≡ r → d ≡ s → join a b c d ≡ join p q r s
four-same join a b c d p q r s e f g h = ap (λ x. join x b c d) e ∙ ap (λ x. join p x c d) f ∙ ap (λ x. join p q x d) g ∙ ap (λ x. join p q r x) h

two-same : (join : Form → Form → Form) (a b p q : Form) → a ≡ p → b ≡ q → join a b ≡ join p q
two-same join a b p q e f = ap (λ x. join x b) e ∙ ap (λ x. join p x) f

abbrev pub crossed : Form → Form → Form → Form → Form
crossed a b c d = joined Or (joined And a b) (joined And c d)

same-crossed : (f g : Bool → Tree → Form) (n : ℕ) (p q r s : Bool) (a b c d : Tree) → AreAlike f g n → tree_size a < n → tree_size b < n → tree_size c < n → tree_size d < n →
    crossed (f p a) (f q b) (f r c) (f s d) ≡ crossed (g p a) (g q b) (g r c) (g s d)
same-crossed f g n p q r s a b c d h la lb lc ld = four-same crossed (f p a) (f q b) (f r c) (f s d) (g p a) (g q b) (g r c) (g s d) (h p a la) (h q b lb) (h r c lc) (h s d ld)

same-split_at : (f g : Bool → Tree → Form) (plus : Bool) (t : Tree) (o : Option Choice) → first_choice t ≡ o → AreAlike f g (tree_size t) → split_at f plus t o ≡ split_at g plus t o
same-split_at f g plus t None e h = refl
same-split_at f g plus t (Some c) e h =
    let s = shrinks t c e in
    same-crossed f g (tree_size t) true plus false plus c.condition (put_for (target_of c) c.yes t) c.condition (put_for (target_of c) c.no t) h
    s.condition (s.putting c.yes (omega arith)) s.condition (s.putting c.no (omega arith))

same-split : (f g : Bool → Tree → Form) (plus : Bool) (t : Tree) → AreAlike f g (tree_size t) → split f plus t ≡ split g plus t
same-split f g plus t h = same-split_at f g plus t (first_choice t) refl h

same-either : (test : Bool) (a b c d : Form) → a ≡ c → b ≡ d → (if test then a else b) ≡ (if test then c else d)
same-either true a b c d e h = e
same-either false a b c d e h = h

same-alike : (f g : Bool → Tree → Form) (a b : Tree) (n : ℕ) → AreAlike f g n → tree_size a < n → tree_size b < n → alike f a b ≡ alike g a b
same-alike f g a b n h la lb = same-crossed f g n true true false false a b a b h la lb la lb

same-unlike : (f g : Bool → Tree → Form) (a b : Tree) (n : ℕ) → AreAlike f g n → tree_size a < n → tree_size b < n → unlike f a b ≡ unlike g a b
same-unlike f g a b n h la lb = same-crossed f g n true false false true a b a b h la lb la lb

same-application : (f g : Bool → Tree → Form) (plus : Bool) (o : Op) (args : Trees) → AreAlike f g (1 + trees_size args) → form_of_application f plus o args ≡ form_of_application g plus o args
same-application f g plus Not (Cons a Nil) h = h (not plus) a (omega arith)
same-application f g plus And (Cons a (Cons b Nil)) h =
    let la = some-size a in let lb = some-size b in
    two-same (joined (if plus then And else Or)) (f plus a) (f plus b) (g plus a) (g plus b) (h plus a (omega (arith, lb))) (h plus b (omega (arith, la)))
same-application f g plus Or (Cons a (Cons b Nil)) h =
    let la = some-size a in let lb = some-size b in
    two-same (joined (if plus then Or else And)) (f plus a) (f plus b) (g plus a) (g plus b) (h plus a (omega (arith, lb))) (h plus b (omega (arith, la)))
same-application f g plus Implies (Cons a (Cons b Nil)) h =
    let la = some-size a in let lb = some-size b in
    two-same (joined (if plus then Or else And)) (f plus (negation a)) (f plus b) (g plus (negation a)) (g plus b) (h plus (negation a) (omega (arith, lb))) (h plus b (omega (arith, la)))
same-application f g plus Xor (Cons a (Cons b Nil)) h =
    let la = some-size a in let lb = some-size b in
    same-either plus (unlike f a b) (alike f a b) (unlike g a b) (alike g a b)
    (same-unlike f g a b (1 + (tree_size a + (tree_size b + 0))) h (omega (arith, lb)) (omega (arith, la)))
    (same-alike f g a b (1 + (tree_size a + (tree_size b + 0))) h (omega (arith, lb)) (omega (arith, la)))
same-application f g plus Equal (Cons a (Cons b Nil)) h =
    let la = some-size a in let lb = some-size b in
    same-either (is_bool (tree_sort a)) (if plus then alike f a b else unlike f a b) (split f plus (binary Equal a b)) (if plus then alike g a b else unlike g a b) (split g plus (binary Equal a b))
    (same-either plus (alike f a b) (unlike f a b) (alike g a b) (unlike g a b)
    (same-alike f g a b (1 + (tree_size a + (tree_size b + 0))) h (omega (arith, lb)) (omega (arith, la)))
    (same-unlike f g a b (1 + (tree_size a + (tree_size b + 0))) h (omega (arith, lb)) (omega (arith, la))))
    (same-split f g plus (binary Equal a b) h)
same-application f g plus Ite (Cons c (Cons a (Cons b Nil))) h =
    let la = some-size a in let lb = some-size b in let lc = some-size c in
    same-either (is_bool (tree_sort a)) (chosen f plus c a b) (split f plus (ite c a b)) (chosen g plus c a b) (split g plus (ite c a b))
    (same-crossed f g (1 + (tree_size c + (tree_size a + (tree_size b + 0)))) true plus false plus c a c b h (omega (arith, la, lb)) (omega (arith, lc, lb)) (omega (arith, la, lb)) (omega (arith, lc, la)))
    (same-split f g plus (ite c a b) h)
same-application f g plus o args h = same-split f g plus (Apply o args) h

same-quantified : (f g : Bool → Tree → Form) (plus : Bool) (t : Tree) → AreAlike f g (tree_size t) → form_of_quantified f plus t ≡ form_of_quantified g plus t
same-quantified f g plus (ForAll l s body) h = ap (with_quantifier (not plus) l s) (h plus body (omega arith))
same-quantified f g plus (Exists l s body) h = ap (with_quantifier plus l s) (h plus body (omega arith))
same-quantified f g plus (Apply o args) h = same-application f g plus o args h
same-quantified f g plus (Constant i s) h = refl
same-quantified f g plus (Variable l s) h = refl
same-quantified f g plus (Literal s n) h = refl

none-below : (t : Tree) → tree_size t ≤ 0 → ⊥
none-below t h = let s = some-size t in omega (arith, s, h)

-- any two bounds that are enough give the same form
pub bounds-agree : (n m : ℕ) (plus : Bool) (t : Tree) → tree_size t ≤ n → tree_size t ≤ m → form_within n plus t ≡ form_within m plus t
unfolding form_within
bounds-agree zero m plus t a b = absurd (none-below t a)
bounds-agree (suc n) zero plus t a b = absurd (none-below t b)
bounds-agree (suc n) (suc m) plus t a b =
    same-either (is_quantified t)
    (form_of_quantified (λ sign u. form_within n sign u) plus t) (unquantified plus t)
    (form_of_quantified (λ sign u. form_within m sign u) plus t) (unquantified plus t)
    (same-quantified (λ sign u. form_within n sign u) (λ sign u. form_within m sign u) plus t
    (λ sign u lt. bounds-agree n m sign u (omega (arith, lt, a)) (omega (arith, lt, b))))
    refl

-- the recursion without a bound
at-size : (plus : Bool) (t : Tree) (n : ℕ) → tree_size t ≡ n → form_within n plus t ≡ (if is_quantified t then form_of_quantified form_under plus t else unquantified plus t)
unfolding form_within
at-size plus t zero e = absurd (none-below t (omega (arith, e)))
at-size plus t (suc n) e =
    same-either (is_quantified t)
    (form_of_quantified (λ sign u. form_within n sign u) plus t) (unquantified plus t)
    (form_of_quantified form_under plus t) (unquantified plus t)
    (same-quantified (λ sign u. form_within n sign u) form_under plus t
    (λ sign u lt. bounds-agree n (tree_size u) sign u (omega (arith, lt, e)) (omega arith)))
    refl

pub form-rule : (plus : Bool) (t : Tree) → form_under plus t ≡ (if is_quantified t then form_of_quantified form_under plus t else unquantified plus t)
form-rule plus t = at-size plus t (tree_size t) refl
