-- The text of an expression, item by item.
use Rattle.std.proofs.Common.{◌≡◌, ◌+◌, ◌-◌, ◌<◌, ◌≤◌, ℕ, suc, Bool, true, false, Option, Some, List, [], ◌++◌, length, drop, slice_get, get_or, refl, sym, ap, subst, ◌∙◌, append_assoc, arith, length-drop}
use Rattle.std.specs.Prelude.{unwrap_or, codes}
use Rattle.std.specs.List.{slice_range}
use Rattle.std.proofs.lemmas.List.{append-nil, length-take-le}
use Rattle.qv_sexpr.specs.declared.items.Expr.{Expr}
use Rattle.qv_sexpr.specs.declared.items.Item.{Item}
use Rattle.qv_sexpr.specs.declared.items.ItemKind.TheVariants.{Open, Close}
use Rattle.qv_sexpr.specs.Copying.{EndsBefore}
use Rattle.qv_sexpr.specs.Script.{atom, list, none, also}
use Rattle.qv_sexpr.specs.Script.{Tree as Written, Trees as Writtens}
use Rattle.qv_sexpr.specs.Items.{IsExpr, Begins, Stands, StandAll}
use Rattle.qv_sexpr.proofs.Copies.{stands_before, ends_once, part_item}
use Rattle.qv_elab_items.proofs.Slices.{item_of, paren_of, text-of}
use Rattle.qv_script_defs.specs.Parts.{spaced, spaced_all}
use Rattle.qv_script_parts.specs.Parted.{IsPart}
use Rattle.qv_script_parts.specs.Spelling.{gap, is_edge, spelled, spelled_if, edge_behind, spell}

module _ (its : List Item) (text : List ℕ) where
  -- the first of some items
  spell-first : (edge : Bool) (i m n : ℕ) (x : Item) → slice_get its i ≡ Some x → m ≡ suc n → spell its text edge i m ≡ spelled text edge x ++ spell its text (is_edge x.kind) (i + 1) n
  spell-first edge i m n x e k =
      let one : suc i ≡ i + 1 = omega arith in
      ap (λ c. spell its text edge i c) k
      ∙ ap (λ (o : Option Item). spelled_if text edge o ++ spell its text (edge_behind o) (suc i) n) e
      ∙ ap (λ j. spelled text edge x ++ spell its text (is_edge x.kind) j n) one

  -- what stands before the first of these, and whether they end at an edge
  abbrev lead : Bool → Writtens → List ℕ
  lead edge none = []
  lead edge (also e es) = gap edge

  abbrev edge-after : Bool → Writtens → Bool
  edge-after edge none = edge
  edge-after edge (also e es) = false

  lead-none : (es : Writtens) → lead true es ≡ []
  lead-none none = refl
  lead-none (also e es) = refl

  -- an expression whose items are these is spelled with one space between neighbours
  abbrev pub Spells : ℕ → ℕ → List ℕ → Type 0
  Spells i j bytes = (k : ℕ) × (j ≡ i + k) × ((edge : Bool) (m n : ℕ) → m ≡ k + n → spell its text edge i m ≡ gap edge ++ (bytes ++ spell its text false j n))

  abbrev SpellsAll : ℕ → ℕ → Writtens → Type 0
  SpellsAll i j es = (k : ℕ) × (j ≡ i + k) × ((edge : Bool) (m n : ℕ) → m ≡ k + n → spell its text edge i m ≡ lead edge es ++ (spaced_all es ++ spell its text (edge-after edge es) j n))

  -- an expression and others behind it
  joined : (edge : Bool) (e : Written) (es : Writtens) (rest : List ℕ) → gap edge ++ (spaced e ++ (lead false es ++ (spaced_all es ++ rest))) ≡ gap edge ++ (spaced_all (also e es) ++ rest)
  joined edge e none rest = refl
  joined edge e (also f fs) rest =
      ap (λ q. gap edge ++ (spaced e ++ q)) (sym (append_assoc (codes " ") (spaced_all (also f fs)) rest))
      ∙ ap (λ q. gap edge ++ q) (sym (append_assoc (spaced e) (codes " " ++ spaced_all (also f fs)) rest))

  after-false : (es : Writtens) → edge-after false es ≡ false
  after-false none = refl
  after-false (also e es) = refl

  mutual
    pub spells : (i : ℕ) (e : Written) (j : ℕ) → Stands its text i e j → Spells i j (spaced e)
    spells i (atom l) j h = (
      1,
      h.1,
      λ edge m n k.
          let x = item_of l h.0.start h.0.end in
          let one : m ≡ suc n = omega (arith, k) in
          let own : spelled text edge x ≡ gap edge ++ l.text = ap (λ (o : Option (List ℕ)). gap edge ++ unwrap_or o []) (text-of its text i l h.0) in
          spell-first edge i m n x h.0.item one
          ∙ ap (λ q. q ++ spell its text false (i + 1) n) own
          ∙ append_assoc (gap edge) l.text (spell its text false (i + 1) n)
          ∙ ap (λ c. gap edge ++ (l.text ++ spell its text false c n)) (sym h.1),
    )
    spells i (list place within close) j h =
        let c = h.0 in
        let inner = spells-all (i + 1) within c h.2 in
        let end : j ≡ c + 1 = h.4 in (
          inner.0 + 2,
          omega (arith, inner.1, end),
          λ edge m n k.
              let open_ = paren_of (Open c) place h.1.0 in
              let shut = paren_of Close close h.3.0 in
              let first : m ≡ suc (inner.0 + suc n) = omega (arith, k) in
              let more : inner.0 + suc n ≡ inner.0 + suc n = refl in
              let rest = spell its text false j n in
              let last : spell its text (edge-after true within) c (suc n) ≡ codes ")" ++ rest =
              spell-first (edge-after true within) c (suc n) n shut h.3.1 refl
              ∙ ap (λ d. codes ")" ++ spell its text false d n) (sym end) in
              let inside : spell its text true (i + 1) (inner.0 + suc n) ≡ spaced_all within ++ (codes ")" ++ rest) =
              inner.2 true (inner.0 + suc n) (suc n) more
              ∙ ap (λ q. q ++ (spaced_all within ++ spell its text (edge-after true within) c (suc n))) (lead-none within)
              ∙ ap (λ q. spaced_all within ++ q) last in
              spell-first edge i m (inner.0 + suc n) open_ h.1.1 first
              ∙ ap (λ q. (gap edge ++ codes "(") ++ q) inside
              ∙ append_assoc (gap edge) (codes "(") (spaced_all within ++ (codes ")" ++ rest))
              ∙ ap (λ q. gap edge ++ (codes "(" ++ q)) (sym (append_assoc (spaced_all within) (codes ")") rest))
              ∙ ap (λ q. gap edge ++ q) (sym (append_assoc (codes "(") (spaced_all within ++ codes ")") rest)),
        )

    spells-all : (i : ℕ) (es : Writtens) (j : ℕ) → StandAll its text i es j → SpellsAll i j es
    spells-all i none j h = (
      0,
      omega (arith, h),
      λ edge m n k.
          let same : m ≡ n = omega (arith, k) in
          ap (λ c. spell its text edge i c) same ∙ ap (λ d. spell its text edge d n) (sym h),
    )
    spells-all i (also e es) j h =
        let one = spells i e h.0 h.1 in
        let rest = spells-all h.0 es j h.2 in (
          one.0 + rest.0,
          omega (arith, one.1, rest.1),
          λ edge m n k.
              let all : m ≡ one.0 + (rest.0 + n) = omega (arith, k) in
              one.2 edge m (rest.0 + n) all
              ∙ ap (λ q. gap edge ++ (spaced e ++ q)) (rest.2 false (rest.0 + n) n refl)
              ∙ ap (λ b. gap edge ++ (spaced e ++ (lead false es ++ (spaced_all es ++ spell its text b j n)))) (after-false es)
              ∙ joined edge e es (spell its text false j n),
        )

  -- where a loop over the items from a number on is, behind so many of them
  abbrev pub Spelled : ℕ → ℕ → Bool → List ℕ → Type 0
  Spelled at n edge bytes = (rest : ℕ) → bytes ++ spell its text edge (at + n) rest ≡ spell its text true at (n + rest)

  pub spelled-here : (at : ℕ) → Spelled at 0 true []
  spelled-here at rest =
      let a : at + 0 ≡ at = omega arith in
      let b : rest ≡ 0 + rest = omega arith in
      ap (λ d. spell its text true d rest) a ∙ ap (λ m. spell its text true at m) b

  pub spelled-more : (at n : ℕ) (edge : Bool) (bytes : List ℕ) (x : Item) (new : List ℕ) → Spelled at n edge bytes → slice_get its (at + n) ≡ Some x → new ≡ bytes ++ spelled text edge x → Spelled at (n + 1) (is_edge x.kind) new
  spelled-more at n edge bytes x new so item is rest =
      let a : at + (n + 1) ≡ (at + n) + 1 = omega arith in
      let b : n + suc rest ≡ (n + 1) + rest = omega arith in
      ap (λ q. q ++ spell its text (is_edge x.kind) (at + (n + 1)) rest) is
      ∙ ap (λ d. (bytes ++ spelled text edge x) ++ spell its text (is_edge x.kind) d rest) a
      ∙ append_assoc bytes (spelled text edge x) (spell its text (is_edge x.kind) ((at + n) + 1) rest)
      ∙ ap (λ q. bytes ++ q) (sym (spell-first edge (at + n) (suc rest) rest x item refl))
      ∙ so (suc rest)
      ∙ ap (λ m. spell its text true at m) b

  pub spelled-end : (at n : ℕ) (edge : Bool) (bytes : List ℕ) (e : Written) (j : ℕ) → Spelled at n edge bytes → Stands its text at e j → j ≡ at + n → bytes ≡ spaced e
  spelled-end at n edge bytes e j so h end =
      let s = spells at e j h in
      let m : n + 0 ≡ s.0 + 0 = omega (arith, s.1, end) in
      sym (append-nil bytes) ∙ so 0 ∙ s.2 true (n + 0) 0 m ∙ append-nil (spaced e)

-- what the loop asks
module _ (expr : Expr) (at to : ℕ) (xs : List Item) (is_expr : IsExpr expr) (begins : Begins expr at) (same : xs ≡ expr.items.items) (ends : EndsBefore xs at to) where
  pub spaced-more : (n : ℕ) (d : Item) (edge now_edge : Bool) (bytes new text : List ℕ) → n < length (slice_range xs at to) → Spelled expr.items.items expr.text.items at n edge bytes → text ≡ expr.text.items → new ≡ bytes ++ spelled text edge (get_or (slice_range xs at to) n d) → now_edge ≡ is_edge (get_or (slice_range xs at to) n d).kind → Spelled expr.items.items expr.text.items at (n + 1) now_edge new
  spaced-more n d edge now_edge bytes new text lt so texts is now_is =
      let x = get_or (slice_range xs at to) n d in
      let item = part_item expr at to n xs d is_expr begins same ends lt in
      subst (λ b. Spelled expr.items.items expr.text.items at (n + 1) b new) (sym now_is)
      (spelled-more expr.items.items expr.text.items at n edge bytes x new so item.0 (is ∙ ap (λ (t : List ℕ). bytes ++ spelled t edge x) texts))

  pub spaced-end : (n : ℕ) (edge : Bool) (bytes : List ℕ) → at < to → to ≤ length xs → length (slice_range xs at to) ≤ n → n ≤ length (slice_range xs at to) → Spelled expr.items.items expr.text.items at n edge bytes → (e : Written) → IsPart expr at e → bytes ≡ spaced e
  spaced-end n edge bytes lt within le ge so e p =
      let here : p.0 ≡ to = ends_once expr.items.items at p.0 to (stands_before expr.items.items expr.text.items at e p.0 p.1).1 (subst (λ (is : List Item). EndsBefore is at to) same ends) in
      let size : length (slice_range xs at to) ≡ to - at = length-take-le (to - at) (drop at xs) (omega (arith, within, length-drop at xs)) in
      spelled-end expr.items.items expr.text.items at n edge bytes e p.0 so p.1 (omega (arith, here, size, le, ge, lt))
