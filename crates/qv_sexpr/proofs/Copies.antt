-- Expressions within expressions, and copies of them.
use Rattle.std.proofs.Common.{ℕ, ◌≡◌, ◌≢◌, ◌+◌, ◌-◌, ◌<◌, ◌≤◌, inl, inr, List, [], ◌∷◌, ◌++◌, length, drop, get_or, Some, refl, sym, ap, subst, ◌∙◌, arith, length-append, length-take, length-drop}
use Rattle.std.specs.List.{slice_get, slice_range}
use Rattle.std.proofs.lemmas.Bool.{cases_lt, cases_eq}
use Rattle.std.proofs.lemmas.List.{length_push, drop_at, take_all, get_or-take, get_or-drop, get_or_default, length-take-le}
use Rattle.std.proofs.lemmas.Option.{slice_get_within, slice_get-get_or}
use Rattle.qv_text.specs.Reading.{Lexeme}
use Rattle.qv_sexpr.specs.declared.items.Item.{Item}
use Rattle.qv_sexpr.specs.declared.items.ItemKind.{ItemKind}
use Rattle.qv_sexpr.specs.declared.items.ItemKind.TheVariants.{Atom, Open, Close}
use Rattle.qv_sexpr.specs.Script.{Tree, Trees, atom, list, none, also}
use Rattle.qv_sexpr.specs.declared.items.Expr.{Expr}
use Rattle.qv_sexpr.specs.Items.{IsAtomAt, IsParenAt, Stands, StandAll, IsExpr, Begins}
use Rattle.qv_sexpr.specs.Copying.{moved, own_text, CanCopy, EndsAt, EndsBefore, IsCopyAt, AreCopied}
use Rattle.qv_sexpr.proofs.Standing.{get_front, get_last, range_front, stands_lt, stand_all_le}

-- an item that is there is the one that is there
same_item : (items : List Item) (i k : ℕ) (x y : Item) → k ≡ i → slice_get items i ≡ Some x → slice_get items k ≡ Some y → y ≡ x
same_item items i k x y e h g =
    let there : Some y ≡ Some x = sym g ∙ ap (slice_get items) e ∙ h in
    cc

-- where an expression ends
pub stands_before : (items : List Item) (text : List ℕ) (i : ℕ) (e : Tree) (j : ℕ) → Stands items text i e j → (j ≤ length items) × EndsBefore items i j
stands_before items text i (atom l) j h = (omega (arith, h.1, slice_get_within items i _ h.0.item), (_, h.0.item, h.1))
stands_before items text i (list place inside close) j h = (omega (arith, h.4, slice_get_within items h.0 _ h.3.1), (_, h.1.1, h.4))

ends_same : (kind : ItemKind) (i j k : ℕ) → EndsAt kind i j → EndsAt kind i k → j ≡ k
ends_same (Atom kind) i j k h g = omega (arith, h, g)
ends_same (Open close) i j k h g = omega (arith, h, g)
ends_same Close i j k h g = omega (arith, h, g)

pub ends_once : (items : List Item) (i j k : ℕ) → EndsBefore items i j → EndsBefore items i k → j ≡ k
ends_once items i j k h g = ends_same h.0.kind i j k h.2 (subst (λ (x : Item). EndsAt x.kind i k) (same_item items i i h.0 g.0 refl h.1 g.1) g.2)

-- an expression that begins within another one ends within it
abbrev pub Inner : List Item → List ℕ → ℕ → ℕ → Type 0
Inner items text k j = (tree : Tree) × (end : ℕ) × Stands items text k tree end × (end ≤ j)

inner_later : (items : List Item) (text : List ℕ) (k j j' : ℕ) → j ≤ j' → Inner items text k j → Inner items text k j'
inner_later items text k j j' le h = (h.0, h.1, h.2, omega (arith, h.3, le))

-- An item that is no close begins an expression.
mutual
  pub inner : (items : List Item) (text : List ℕ) (i : ℕ) (e : Tree) (j k : ℕ) (x : Item) → Stands items text i e j → i ≤ k → k < j → slice_get items k ≡ Some x → x.kind ≢ Close → Inner items text k j
  inner items text i (atom l) j k x h low high g ne =
      let here : i ≡ k = omega (arith, h.1) in
      subst (λ n. Inner items text n j) here (atom l, j, h, omega arith)
  inner items text i (list place inside close) j k x h low high g ne =
      let last : j ≡ h.0 + 1 = h.4 in
      elim (cases_eq i k) [
        | inl here ↦ subst (λ n. Inner items text n j) here (list place inside close, j, h, omega arith)
        | inr other ↦ elim (cases_lt k h.0) [
          | inl within ↦ inner_later items text k h.0 j (omega arith) (inner_all items text (i + 1) inside h.0 k x h.2 (omega (arith, other)) within g ne)
          | inr behind ↦ absurd (ne (ap (λ (y : Item). y.kind) (same_item items h.0 k _ x (omega arith) h.3.1 g)))
        ]
      ]

  pub inner_all : (items : List Item) (text : List ℕ) (i : ℕ) (es : Trees) (j k : ℕ) (x : Item) → StandAll items text i es j → i ≤ k → k < j → slice_get items k ≡ Some x → x.kind ≢ Close → Inner items text k j
  inner_all items text i none j k x h low high g ne = absurd (omega (arith, h))
  inner_all items text i (also e es) j k x h low high g ne =
      let le : h.0 ≤ j = stand_all_le items text h.0 es j h.2 in
      elim (cases_lt k h.0) [
        | inl first ↦ inner_later items text k h.0 j le (inner items text i e h.0 k x h.1 low first g ne)
        | inr later ↦ inner_all items text h.0 es j k x h.2 later high g ne
      ]

-- each item of an expression can be copied
mutual
  pub can_copy : (items : List Item) (text : List ℕ) (i : ℕ) (e : Tree) (j k first : ℕ) (x : Item) → Stands items text i e j → first ≤ i → i ≤ k → k < j → slice_get items k ≡ Some x → CanCopy x text first
  can_copy items text i (atom l) j k first x h from low high g =
      subst (λ y. CanCopy y text first) (sym (same_item items i k _ x (omega (arith, h.1)) h.0.item g)) (h.0.ordered, h.0.within)
  can_copy items text i (list place inside close) j k first x h from low high g =
      let last : j ≡ h.0 + 1 = h.4 in
      let le : i + 1 ≤ h.0 = stand_all_le items text (i + 1) inside h.0 h.2 in
      elim (cases_eq k i) [
        | inl here ↦ subst (λ y. CanCopy y text first) (sym (same_item items i k _ x here h.1.1 g)) (omega arith)
        | inr other ↦ elim (cases_lt k h.0) [
          | inl within ↦ can_copy_all items text (i + 1) inside h.0 k first x h.2 (omega arith) (omega (arith, other)) within g
          | inr behind ↦ subst (λ y. CanCopy y text first) (sym (same_item items h.0 k _ x (omega arith) h.3.1 g)) tt
        ]
      ]

  pub can_copy_all : (items : List Item) (text : List ℕ) (i : ℕ) (es : Trees) (j k first : ℕ) (x : Item) → StandAll items text i es j → first ≤ i → i ≤ k → k < j → slice_get items k ≡ Some x → CanCopy x text first
  can_copy_all items text i none j k first x h from low high g = absurd (omega (arith, h))
  can_copy_all items text i (also e es) j k first x h from low high g =
      let lt : i < h.0 = stands_lt items text i e h.0 h.1 in
      elim (cases_lt k h.0) [
        | inl here ↦ can_copy items text i e h.0 k first x h.1 from low here g
        | inr later ↦ can_copy_all items text h.0 es j k first x h.2 (omega arith) later high g
      ]

-- no bytes stand between two numbers that are one
no_range : (text : List ℕ) (i j : ℕ) → i ≤ j → j ≤ length text → slice_range text i j ≡ [] → j ≡ i
no_range text i j h k e = omega (arith, ap length e, length-take-le (j - i) (drop i text) (omega (arith, length-drop i text)), length-drop i text)

-- The items from number first on were copied, and number i stands for i' there.
module _ (old : List Item) (old_text : List ℕ) (first : ℕ) (items : List Item) (text : List ℕ) (n : ℕ) (copied : AreCopied old old_text first items text n) where
  paren_copied : (i i' : ℕ) (kind : ItemKind) (place : ℕ) → i ≡ first + i' → i' < n → ((x : Item) → own_text kind x old_text ≡ []) → IsParenAt old i kind place → IsParenAt items i' (moved first kind) place
  paren_copied i i' kind place e lt empty h =
      let item : Item = record { kind = kind; place = place; start = h.0; end = h.0 } in
      let c = copied.each i' item lt (subst (λ k. slice_get old k ≡ Some item) e h.1) in
      let same : c.end ≡ c.start = no_range text c.start c.end c.ordered c.within (c.text_is ∙ empty item) in
      (c.start, c.item_is ∙ ap (λ z. Some (record { kind = moved first kind; place = place; start = c.start; end = z })) same)

  atom_copied : (i i' : ℕ) (l : Lexeme) → i ≡ first + i' → i' < n → IsAtomAt old old_text i l → IsAtomAt items text i' l
  atom_copied i i' l e lt h =
      let item : Item = record { kind = Atom l.kind; place = l.place; start = h.start; end = h.end } in
      let c = copied.each i' item lt (subst (λ k. slice_get old k ≡ Some item) e h.item) in
      record { start = c.start; end = c.end; item = c.item_is; ordered = c.ordered; within = c.within; text_is = c.text_is ∙ h.text_is; token = h.token }

  mutual
    pub stands_copied : (i i' : ℕ) (e : Tree) (j j' : ℕ) → i ≡ first + i' → j ≡ first + j' → j' ≤ n → Stands old old_text i e j → Stands items text i' e j'
    stands_copied i i' (atom l) j j' from to le h = (atom_copied i i' l from (omega (arith, h.1)) h.0, omega (arith, h.1))
    stands_copied i i' (list place inside close) j j' from to le h =
        let low : i + 1 ≤ h.0 = stand_all_le old old_text (i + 1) inside h.0 h.2 in
        let last : j ≡ h.0 + 1 = h.4 in
        let at : h.0 ≡ first + (h.0 - first) = omega arith in (
          h.0 - first,
          paren_copied i i' (Open h.0) place from (omega arith) (λ x. refl) h.1,
          stand_all_copied (i + 1) (i' + 1) inside h.0 (h.0 - first) (omega arith) at (omega arith) h.2,
          paren_copied h.0 (h.0 - first) Close close at (omega arith) (λ x. refl) h.3,
          omega arith,
        )

    pub stand_all_copied : (i i' : ℕ) (es : Trees) (j j' : ℕ) → i ≡ first + i' → j ≡ first + j' → j' ≤ n → StandAll old old_text i es j → StandAll items text i' es j'
    stand_all_copied i i' none j j' from to le h = omega (arith, h)
    stand_all_copied i i' (also e es) j j' from to le h =
        let low : i < h.0 = stands_lt old old_text i e h.0 h.1 in
        let high : h.0 ≤ j = stand_all_le old old_text h.0 es j h.2 in
        let at : h.0 ≡ first + (h.0 - first) = omega arith in (
          h.0 - first,
          stands_copied i i' e h.0 (h.0 - first) from at (omega arith) h.1,
          stand_all_copied h.0 (h.0 - first) es j j' at to le h.2,
        )

-- a copy stays where more is added
copy_kept : (items : List Item) (text : List ℕ) (i first : ℕ) (item : Item) (old_text : List ℕ) (x : Item) (bytes : List ℕ) → IsCopyAt items text i first item old_text → IsCopyAt (items ++ x ∷ []) (text ++ bytes) i first item old_text
copy_kept items text i first item old_text x bytes c = record {
  start = c.start;
  end = c.end;
  item_is = get_front items (x ∷ []) i _ c.item_is;
  ordered = c.ordered;
  within = omega (arith, c.within, length-append text bytes);
  text_is = range_front text bytes c.start c.end c.ordered c.within ∙ c.text_is;
}

last_range : (text bytes : List ℕ) → slice_range (text ++ bytes) (length text) (length (text ++ bytes)) ≡ bytes
last_range text bytes =
    take_all _ (drop (length text) (text ++ bytes)) (omega (arith, length-append text bytes, length-drop (length text) (text ++ bytes))) ∙ drop_at text bytes (length text) refl

-- one more item is copied
pub copied_more : (old : List Item) (old_text : List ℕ) (first : ℕ) (items : List Item) (text : List ℕ) (n : ℕ) (item : Item) (items' : List Item) (text' : List ℕ) → AreCopied old old_text first items text n →
    slice_get old (first + n) ≡ Some item → text' ≡ text ++ own_text item.kind item old_text →
    items' ≡ items ++ (record { kind = moved first item.kind; place = item.place; start = length text; end = length text' }) ∷ [] → AreCopied old old_text first items' text' (n + 1)
copied_more old old_text first items text n item items' text' copied is e f =
    let own = own_text item.kind item old_text in
    let added : Item = record { kind = moved first item.kind; place = item.place; start = length text; end = length (text ++ own) } in
    let now : items' ≡ items ++ added ∷ [] = f ∙ ap (λ (t : List ℕ). items ++ (record { kind = moved first item.kind; place = item.place; start = length text; end = length t }) ∷ []) e in
    let size : length items ≡ n = copied.count in
    subst (λ (is : List Item). AreCopied old old_text first is text' (n + 1)) (sym now)
    (subst (λ (t : List ℕ). AreCopied old old_text first (items ++ added ∷ []) t (n + 1)) (sym e)
    (record {
      count = length_push items added ∙ ap (λ k. k + 1) size;
      each = λ i x lt g. elim (cases_eq i n) [
        | inl here ↦
            subst (λ (y : Item). IsCopyAt (items ++ added ∷ []) (text ++ own) i first y old_text) (sym (same_item old (first + n) (first + i) item x (ap (λ k. first + k) here) is g))
            (record {
              start = length text;
              end = length (text ++ own);
              item_is = subst (λ k. slice_get (items ++ added ∷ []) k ≡ Some added) (size ∙ sym here) (get_last items added);
              ordered = omega (arith, length-append text own);
              within = omega arith;
              text_is = last_range text own;
            })
        | inr other ↦ copy_kept items text i first x old_text added own (copied.each i x (omega (arith, other)) g)
      ];
    }))

-- an item of a part of a list
pub in_part : (items : List Item) (from to k : ℕ) (x : Item) → to ≤ length items → k < length (slice_range items from to) → x ≡ get_or (slice_range items from to) k x → slice_get items (from + k) ≡ Some x
in_part items from to k x le lt e =
    let size = length-take (to - from) (drop from items) in
    let behind = length-drop from items in
    slice_get-get_or items (from + k) x (omega (arith, lt, size, behind))
    ∙ ap Some (sym (e ∙ get_or-take (to - from) (drop from items) k x (omega (arith, lt, size)) ∙ get_or-drop from items k x))

-- the expression that begins at a number
pub begun : (expr : Expr) (at : ℕ) → IsExpr expr → Begins expr at → Inner expr.items.items expr.text.items at (length expr.items.items)
begun expr at h b = inner expr.items.items expr.text.items 0 h.0 (length expr.items.items) at b.0 h.1 (omega arith) (slice_get_within expr.items.items at b.0 b.1) b.1 b.2

pub begun_ends : (expr : Expr) (at : ℕ) (xs : List Item) → IsExpr expr → Begins expr at → xs ≡ expr.items.items → (to : ℕ) × (at < to) × (to ≤ length xs) × EndsBefore xs at to
begun_ends expr at xs h b e =
    let i = begun expr at h b in
    subst (λ (is : List Item). (to : ℕ) × (at < to) × (to ≤ length is) × EndsBefore is at to) (sym e)
    (i.1, stands_lt expr.items.items expr.text.items at i.0 i.1 i.2, i.3, (stands_before expr.items.items expr.text.items at i.0 i.1 i.2).1)

-- an item of that expression
pub part_item : (expr : Expr) (at to k : ℕ) (xs : List Item) (d : Item) → IsExpr expr → Begins expr at → xs ≡ expr.items.items → EndsBefore xs at to → k < length (slice_range xs at to) →
    (slice_get expr.items.items (at + k) ≡ Some (get_or (slice_range xs at to) k d)) × CanCopy (get_or (slice_range xs at to) k d) expr.text.items at
part_item expr at to k xs d h b e end lt =
    let i = begun expr at h b in
    let x = get_or (slice_range xs at to) k d in
    let ends : i.1 ≡ to = ends_once expr.items.items at i.1 to (stands_before expr.items.items expr.text.items at i.0 i.1 i.2).1 (subst (λ (is : List Item). EndsBefore is at to) e end) in
    let size : length xs ≡ length expr.items.items = ap length e in
    let there : slice_get xs (at + k) ≡ Some x = in_part xs at to k x (omega (arith, i.3)) lt (get_or_default (slice_range xs at to) k d x lt) in
    let is : slice_get expr.items.items (at + k) ≡ Some x = subst (λ (is : List Item). slice_get is (at + k) ≡ Some x) e there in (
      is,
      can_copy expr.items.items expr.text.items at i.0 i.1 (at + k) at x i.2 (omega arith) (omega arith) (omega (arith, lt, length-take (to - at) (drop at xs))) is,
    )

-- all of it was copied
pub whole_copy : (expr copy : Expr) (at to n : ℕ) (tree : Tree) (end : ℕ) → EndsBefore expr.items.items at to → at < to → n ≡ to - at → AreCopied expr.items.items expr.text.items at copy.items.items copy.text.items n →
    Stands expr.items.items expr.text.items at tree end → Stands copy.items.items copy.text.items 0 tree (length copy.items.items)
whole_copy expr copy at to n tree end ends lt e copied h =
    let same : end ≡ to = ends_once expr.items.items at end to (stands_before expr.items.items expr.text.items at tree end h).1 ends in
    let size : length copy.items.items ≡ n = copied.count in
    subst (λ j. Stands copy.items.items copy.text.items 0 tree j) (sym size)
    (stands_copied expr.items.items expr.text.items at copy.items.items copy.text.items n copied at 0 tree end n (omega arith) (omega arith) (omega arith) h)
