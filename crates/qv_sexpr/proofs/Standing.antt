-- Items that stand for an expression.
use Rattle.std.proofs.Common.{ℕ, zero, suc, ◌≡◌, ◌≢◌, ◌+◌, ◌-◌, ◌<◌, ◌≤◌, List, [], ◌∷◌, ◌++◌, length, take, drop, set, Some, refl, sym, ap, subst, ◌∙◌, arith, length-drop}
use Rattle.std.specs.List.{slice_get, slice_range}
use Rattle.std.proofs.lemmas.List.{take-append-le, drop-append-le}
use Rattle.qv_text.specs.declared.kinds.TokenKind.{TokenKind}
use Rattle.qv_text.specs.Reading.{Lexeme}
use Rattle.qv_sexpr.specs.declared.items.Item.{Item}
use Rattle.qv_sexpr.specs.declared.items.ItemKind.{ItemKind}
use Rattle.qv_sexpr.specs.declared.items.ItemKind.TheVariants.{Atom, Open, Close}
use Rattle.qv_sexpr.specs.Script.{Tree, Trees, atom, list, none, also}
use Rattle.qv_sexpr.specs.Items.{IsAtomAt, IsParenAt, Stands, StandAll}

-- what stands in a list also stands in a longer one
pub get_front : {X : Type 0} (xs ys : List X) (i : ℕ) (x : X) → slice_get xs i ≡ Some x → slice_get (xs ++ ys) i ≡ Some x
get_front [] ys i x h = cc
get_front (y ∷ xs) ys zero x h = h
get_front (y ∷ xs) ys (suc i) x h = get_front xs ys i x h

pub get_last : {X : Type 0} (xs : List X) (x : X) → slice_get (xs ++ x ∷ []) (length xs) ≡ Some x
get_last [] x = refl
get_last (y ∷ xs) x = get_last xs x

pub get_set_other : {X : Type 0} (xs : List X) (i j : ℕ) (y : X) → i ≢ j → slice_get (set xs j y) i ≡ slice_get xs i
get_set_other [] i j y h = refl
get_set_other (x ∷ xs) zero zero y h = absurd (h refl)
get_set_other (x ∷ xs) zero (suc j) y h = refl
get_set_other (x ∷ xs) (suc i) zero y h = refl
get_set_other (x ∷ xs) (suc i) (suc j) y h = get_set_other xs i j y (λ e. h (ap suc e))

pub get_set_same : {X : Type 0} (xs : List X) (i : ℕ) (x y : X) → slice_get xs i ≡ Some x → slice_get (set xs i y) i ≡ Some y
get_set_same [] i x y h = cc
get_set_same (z ∷ xs) zero x y h = refl
get_set_same (z ∷ xs) (suc i) x y h = get_set_same xs i x y h

pub range_front : (xs ys : List ℕ) (i j : ℕ) → i ≤ j → j ≤ length xs → slice_range (xs ++ ys) i j ≡ slice_range xs i j
range_front xs ys i j h k =
    ap (take (j - i)) (drop-append-le i xs ys (omega arith))
    ∙ take-append-le (j - i) (drop i xs) ys (omega (arith, length-drop i xs))

-- an expression has an item at least
mutual
  pub stands_lt : (items : List Item) (text : List ℕ) (i : ℕ) (e : Tree) (j : ℕ) → Stands items text i e j → i < j
  stands_lt items text i (atom l) j h = omega (arith, h.1)
  stands_lt items text i (list place inside close) j h = omega (arith, h.4, stand_all_le items text (i + 1) inside h.0 h.2)

  pub stand_all_le : (items : List Item) (text : List ℕ) (i : ℕ) (es : Trees) (j : ℕ) → StandAll items text i es j → i ≤ j
  stand_all_le items text i none j h = omega (arith, h)
  stand_all_le items text i (also e es) j h = omega (arith, stands_lt items text i e h.0 h.1, stand_all_le items text h.0 es j h.2)

-- items and texts of one list that are also in another, from a number on and before another
pub record Keeps (items : List Item) (text : List ℕ) (items' : List Item) (text' : List ℕ) (from to : ℕ) : Type 0 where
  pub kept : (i : ℕ) (x : Item) → from ≤ i → i < to → slice_get items i ≡ Some x → slice_get items' i ≡ Some x
  pub longer : length text ≤ length text'
  pub texts : (i j : ℕ) → i ≤ j → j ≤ length text → slice_range text' i j ≡ slice_range text i j

pub keeps_part : (items : List Item) (text : List ℕ) (items' : List Item) (text' : List ℕ) (from to from' to' : ℕ) → from ≤ from' → to' ≤ to → Keeps items text items' text' from to → Keeps items text items' text' from' to'
keeps_part items text items' text' from to from' to' h k keeps = record {
  kept = λ i x low high e. keeps.kept i x (omega arith) (omega arith) e;
  longer = keeps.longer;
  texts = keeps.texts;
}

atom_kept : (items : List Item) (text : List ℕ) (items' : List Item) (text' : List ℕ) (from to i : ℕ) (l : Lexeme) → Keeps items text items' text' from to → from ≤ i → i < to → IsAtomAt items text i l → IsAtomAt items' text' i l
atom_kept items text items' text' from to i l keeps low high a = record {
  start = a.start;
  end = a.end;
  item = keeps.kept i _ low high a.item;
  ordered = a.ordered;
  within = omega (arith, a.within, keeps.longer);
  text_is = keeps.texts a.start a.end a.ordered a.within ∙ a.text_is;
  token = a.token;
}

pub paren_kept : (items : List Item) (text : List ℕ) (items' : List Item) (text' : List ℕ) (from to i : ℕ) (kind : ItemKind) (place : ℕ) → Keeps items text items' text' from to → from ≤ i → i < to → IsParenAt items i kind place → IsParenAt items' i kind place
paren_kept items text items' text' from to i kind place keeps low high p = (p.0, keeps.kept i _ low high p.1)

-- an expression whose items are kept still stands
mutual
  pub stands_kept : (items : List Item) (text : List ℕ) (items' : List Item) (text' : List ℕ) (i : ℕ) (e : Tree) (j : ℕ) → Keeps items text items' text' i j → Stands items text i e j → Stands items' text' i e j
  stands_kept items text items' text' i (atom l) j keeps h = (atom_kept items text items' text' i j i l keeps (omega arith) (omega (arith, h.1)) h.0, h.1)
  stands_kept items text items' text' i (list place inside close) j keeps h =
      let le : i + 1 ≤ h.0 = stand_all_le items text (i + 1) inside h.0 h.2 in
      let last : j ≡ h.0 + 1 = h.4 in (
        h.0,
        paren_kept items text items' text' i j i (Open h.0) place keeps (omega arith) (omega arith) h.1,
        stand_all_kept items text items' text' (i + 1) inside h.0 (keeps_part items text items' text' i j (i + 1) h.0 (omega arith) (omega arith) keeps) h.2,
        paren_kept items text items' text' i j h.0 Close close keeps (omega arith) (omega arith) h.3,
        h.4,
      )

  pub stand_all_kept : (items : List Item) (text : List ℕ) (items' : List Item) (text' : List ℕ) (i : ℕ) (es : Trees) (j : ℕ) → Keeps items text items' text' i j → StandAll items text i es j → StandAll items' text' i es j
  stand_all_kept items text items' text' i none j keeps h = h
  stand_all_kept items text items' text' i (also e es) j keeps h =
      let first : i < h.0 = stands_lt items text i e h.0 h.1 in
      let others : h.0 ≤ j = stand_all_le items text h.0 es j h.2 in (
        h.0,
        stands_kept items text items' text' i e h.0 (keeps_part items text items' text' i j i h.0 (omega arith) (omega arith) keeps) h.1,
        stand_all_kept items text items' text' h.0 es j (keeps_part items text items' text' i j h.0 j (omega arith) (omega arith) keeps) h.2,
      )

-- one more expression behind others
unfoldable pub snoc : Trees → Tree → Trees
snoc none e = also e none
snoc (also first es) e = also first (snoc es e)

pub stand_all_snoc : (items : List Item) (text : List ℕ) (i : ℕ) (es : Trees) (m : ℕ) (e : Tree) (j : ℕ) → StandAll items text i es m → Stands items text m e j → StandAll items text i (snoc es e) j
unfolding snoc
stand_all_snoc items text i none m e j h k = (j, subst (λ n. Stands items text n e j) h k, refl)
stand_all_snoc items text i (also first es) m e j h k = (h.0, h.1, stand_all_snoc items text h.0 es m e j h.2 k)

-- an item that is there twice is one
some_same : (x y : Item) → Some x ≡ Some y → x ≡ y
some_same x y e = cc

atom_open : (kind : TokenKind) (n : ℕ) → Atom kind ≡ Open n → ⊥
atom_open kind n e = cc

not_both : (x y : Item) (kind : TokenKind) (n : ℕ) → Some x ≡ Some y → x.kind ≡ Atom kind → y.kind ≡ Open n → ⊥
not_both x y kind n e f g = atom_open kind n (sym f ∙ ap (λ (z : Item). z.kind) (some_same x y e) ∙ g)

paren_same : (items : List Item) (i k : ℕ) (kind kind' : ItemKind) (place place' : ℕ) → k ≡ i → IsParenAt items i kind place → IsParenAt items k kind' place' → (kind ≡ kind') × (place ≡ place')
paren_same items i k kind kind' place place' e h g =
    let same = some_same _ _ (sym h.1 ∙ ap (slice_get items) (sym e) ∙ g.1) in
    (ap (λ (z : Item). z.kind) same, ap (λ (z : Item). z.place) same)

open_same : (n m : ℕ) → Open n ≡ Open m → n ≡ m
open_same n m e = cc

atom_same : (k l : TokenKind) → Atom k ≡ Atom l → k ≡ l
atom_same k l e = cc

list_same : (place place' close close' : ℕ) (es fs : Trees) → place ≡ place' → es ≡ fs → close ≡ close' → list place es close ≡ list place' fs close'
list_same place place' close close' es fs e f g = cc

-- an atom with its place and bytes
abbrev lexeme : TokenKind → ℕ → List ℕ → Lexeme
lexeme kind place text = record { kind = kind; place = place; text = text }

one_atom : (items : List Item) (text : List ℕ) (i : ℕ) (l m : Lexeme) → IsAtomAt items text i l → IsAtomAt items text i m → l ≡ m
one_atom items text i l m h g =
    let same = some_same (record { kind = Atom l.kind; place = l.place; start = h.start; end = h.end }) (record { kind = Atom m.kind; place = m.place; start = g.start; end = g.end }) (sym h.item ∙ g.item) in
    let bytes : l.text ≡ m.text = sym h.text_is ∙ ap (λ (z : Item). slice_range text z.start z.end) same ∙ g.text_is in
    ap (λ k. lexeme k l.place l.text) (atom_same l.kind m.kind (ap (λ (z : Item). z.kind) same)) ∙ ap (λ (z : Item). lexeme m.kind z.place l.text) same ∙ ap (λ (t : List ℕ). lexeme m.kind m.place t) bytes

-- One expression stands at a number.
mutual
  pub one_tree : (items : List Item) (text : List ℕ) (i : ℕ) (e f : Tree) (j k : ℕ) → Stands items text i e j → Stands items text i f k → (e ≡ f) × (j ≡ k)
  one_tree items text i (atom l) (atom m) j k h g = (ap atom (one_atom items text i l m h.0 g.0), omega (arith, h.1, g.1))
  one_tree items text i (atom l) (list place inside close) j k h g = absurd (not_both _ _ l.kind g.0 (sym h.0.item ∙ g.1.1) refl refl)
  one_tree items text i (list place inside close) (atom l) j k h g = absurd (not_both _ _ l.kind h.0 (sym g.0.item ∙ h.1.1) refl refl)
  one_tree items text i (list place inside close) (list place' inside' close') j k h g =
      let here = paren_same items i i (Open h.0) (Open g.0) place place' refl h.1 g.1 in
      let last : h.0 ≡ g.0 = open_same h.0 g.0 here.0 in
      let there = paren_same items h.0 g.0 Close Close close close' (sym last) h.3 g.3 in (
        list_same place place' close close' inside inside' here.1 (one_list items text (i + 1) inside inside' h.0 h.2 (subst (λ n. StandAll items text (i + 1) inside' n) (sym last) g.2)) there.1,
        omega (arith, h.4, g.4, last),
      )

  pub one_list : (items : List Item) (text : List ℕ) (i : ℕ) (es fs : Trees) (j : ℕ) → StandAll items text i es j → StandAll items text i fs j → es ≡ fs
  one_list items text i none none j h g = refl
  one_list items text i none (also f fs) j h g = absurd (omega (arith, h, stands_lt items text i f g.0 g.1, stand_all_le items text g.0 fs j g.2))
  one_list items text i (also e es) none j h g = absurd (omega (arith, g, stands_lt items text i e h.0 h.1, stand_all_le items text h.0 es j h.2))
  one_list items text i (also e es) (also f fs) j h g =
      let first = one_tree items text i e f h.0 g.0 h.1 g.1 in
      let others : es ≡ fs = one_list items text h.0 es fs j h.2 (subst (λ n. StandAll items text n fs j) (sym first.1) g.2) in
      ap (λ x. also x es) first.0 ∙ ap (also f) others
