-- Attributes by their items.
use Rattle.std.proofs.Common.{◌≡◌, ◌≤◌, ◌<◌, ◌&&◌, ◌||◌, ℕ, Bool, true, false, cond, Option, Some, None, List, [], ◌∷◌, length, refl, sym, ap, subst, ◌∙◌, arith}
use Rattle.std.specs.Prelude.{is_some, unwrap_or, codes}
use Rattle.std.specs.Str.{bytes_eq}
use Rattle.qv_text.specs.declared.kinds.TokenKind.{TokenKind}
use Rattle.qv_text.specs.declared.kinds.TokenKind.TheVariants.{Keyword}
use Rattle.qv_sexpr.specs.declared.items.Item.{Item}
use Rattle.qv_sexpr.specs.declared.items.ItemKind.TheVariants.{Open}
use Rattle.qv_sexpr.specs.Script.{atom, list, none, also}
use Rattle.qv_sexpr.specs.Script.{Tree as Expr, Trees as Exprs}
use Rattle.qv_sexpr.specs.Items.{Stands, StandAll}
use Rattle.qv_sexpr.specs.Copying.{EndsBefore}
use Rattle.qv_sexpr.proofs.Standing.{stands_lt, stand_all_le}
use Rattle.qv_sexpr.proofs.Copies.{stands_before, ends_once}
use Rattle.qv_elab_items.specs.declared.inside.Naming.{Naming as Told}
use Rattle.qv_elab_items.specs.declared.inside.Naming.TheVariants as code
use Rattle.qv_elab_defs.specs.Tokens.{items, name_of_token, keyword_text, keyword_of, symbol_of, is_keyword}
use Rattle.qv_elab_items.specs.Flat.{name_in, keyword_of_kind, keyword_in}
use Rattle.qv_elab_defs.specs.Shapes.{are_values_behind_keys, are_attributes, value_in_front, behind_named, naming_by, naming}
use Rattle.qv_elab_items.specs.Inside.{told, is_named, told_by, told_in_front, named_also, with_more}
use Rattle.qv_elab_items.proofs.Slices.{item_of, paren_of, text-of, name-stands}
use Rattle.qv_elab_items.proofs.Pairing.{some-item, begins-within, next-of}
use Rattle.qv_elab_items.proofs.Within.{read-at, here}

pub kinds : (k : TokenKind) (t : List ℕ) → keyword_of_kind k (Some t) ≡ keyword_text k t
kinds Keyword t = refl
kinds _ t = refl

module _ (its : List Item) (text : List ℕ) where
  pub keyword-stands : (at : ℕ) (e : Expr) (to : ℕ) → Stands its text at e to → keyword_in text (read-at its at) ≡ keyword_of e
  keyword-stands at (atom l) to h =
      let same : item_of l h.0.start h.0.end ≡ read-at its at = some-item (item_of l h.0.start h.0.end) (read-at its at) (sym h.0.item ∙ here its at (begins-within its text at (atom l) to h)) in
      ap (keyword_in text) (sym same) ∙ ap (keyword_of_kind l.kind) (text-of its text at l h.0) ∙ kinds l.kind l.text
  keyword-stands at (list p inside q) to h =
      let same : paren_of (Open h.0) p h.1.0 ≡ read-at its at = some-item (paren_of (Open h.0) p h.1.0) (read-at its at) (sym h.1.1 ∙ here its at (begins-within its text at (list p inside q) to h)) in
      ap (keyword_in text) (sym same)

  pub symbol-stands : (at : ℕ) (e : Expr) (to : ℕ) → Stands its text at e to → name_in text (read-at its at) ≡ symbol_of e
  symbol-stands at (atom l) to h =
      let same : item_of l h.0.start h.0.end ≡ read-at its at = some-item (item_of l h.0.start h.0.end) (read-at its at) (sym h.0.item ∙ here its at (begins-within its text at (atom l) to h)) in
      ap (name_in text) (sym same) ∙ name-stands its text at l h.0
  symbol-stands at (list p inside q) to h =
      let same : paren_of (Open h.0) p h.1.0 ≡ read-at its at = some-item (paren_of (Open h.0) p h.1.0) (read-at its at) (sym h.1.1 ∙ here its at (begins-within its text at (list p inside q) to h)) in
      ap (name_in text) (sym same)

  pub next-before : (at to : ℕ) (rest : Exprs) → StandAll its text at rest to → at < to → (m : ℕ) × (m ≤ length its) × (at < m) × EndsBefore its at m
  next-before at to rest h lt =
      let n = next-of its text at to rest h lt in
      let b = stands_before its text at n.0 n.2 n.4 in
      (n.2, b.0, stands_lt its text at n.0 n.2 n.4, b.1)

  -- where the next of these is, and that it stands there
  pub next-at : (at to : ℕ) (rest : Exprs) → StandAll its text at rest to → at < to → (next : ℕ) → EndsBefore its at next → (e : Expr) × (es : Exprs) × (rest ≡ also e es) × Stands its text at e next × StandAll its text next es to × (at < next) × (next ≤ to)
  next-at at to rest h lt next ends =
      let n = next-of its text at to rest h lt in
      let same : n.2 ≡ next = ends_once its at n.2 next (stands_before its text at n.0 n.2 n.4).1 ends in
      let up = stands_lt its text at n.0 n.2 n.4 in
      let le = stand_all_le its text n.2 n.1 to n.5 in
      (n.0, n.1, n.3, subst (λ m. Stands its text at n.0 m) same n.4, subst (λ m. StandAll its text m n.1 to) same n.5, omega (arith, same, up), omega (arith, same, le))

  nothing-left : (at to : ℕ) (rest : Exprs) → StandAll its text at rest to → to ≤ at → rest ≡ none
  nothing-left at to none h le = refl
  nothing-left at to (also f fs) h le =
      let lt = stands_lt its text at f h.0 h.1 in
      let up = stand_all_le its text h.0 fs to h.2 in
      absurd (omega (arith, lt, up, le))

  -- where a loop over attributes is
  abbrev pub AttributesLeft : ℕ → ℕ → ℕ → Bool → Type 0
  AttributesLeft from at to b = (es : Exprs) → StandAll its text from es to → (rest : Exprs) × StandAll its text at rest to × (are_values_behind_keys false (items es) ≡ are_values_behind_keys b (items rest))

  pub attributes-here : (from to : ℕ) → AttributesLeft from from to false
  attributes-here from to es h = (es, h, refl)

  pub attributes-onward : (from at to : ℕ) (b : Bool) → AttributesLeft from at to b → at < to → (key : Bool) → key ≡ is_some (keyword_in text (read-at its at)) → (key || b) ≡ true → (next : ℕ) → EndsBefore its at next → AttributesLeft from next to key
  attributes-onward from at to b left lt key k ok next ends es h =
      let l = left es h in
      let n = next-at at to l.0 l.1 lt next ends in
      let is : key ≡ is_keyword n.0 = k ∙ ap is_some (keyword-stands at n.0 next n.3) in (
        n.1,
        n.4,
        l.2 ∙ ap (λ (q : Exprs). are_values_behind_keys b (items q)) n.2
            ∙ ap (λ i. (i || b) && are_values_behind_keys i (items n.1)) (sym is)
            ∙ ap (λ i. i && are_values_behind_keys key (items n.1)) ok,
      )

  pub no-attribute : (from at to : ℕ) (b : Bool) → AttributesLeft from at to b → at < to → b ≡ false → false ≡ is_some (keyword_in text (read-at its at)) → (es : Exprs) → StandAll its text from es to → false ≡ are_attributes es
  no-attribute from at to b left lt f k none h = refl
  no-attribute from at to b left lt f k (also e es) h =
      let l = left (also e es) h in
      let n = next-of its text at to l.0 l.1 lt in
      let is : false ≡ is_keyword n.0 = k ∙ ap is_some (keyword-stands at n.0 n.2 n.4) in
      sym (l.2 ∙ ap (λ (q : Exprs). are_values_behind_keys b (items q)) n.3
      ∙ ap (λ i. (i || b) && are_values_behind_keys i (items n.1)) (sym is)
      ∙ ap (λ i. i && are_values_behind_keys false (items n.1)) f)

  pub attributes-end : (from at to : ℕ) (b : Bool) → AttributesLeft from at to b → to ≤ at → (r : Bool) → (from < to → r ≡ true) → (to ≤ from → r ≡ false) → (es : Exprs) → StandAll its text from es to → r ≡ are_attributes es
  attributes-end from at to b left le r some nothing none h = nothing (omega (arith, h))
  attributes-end from at to b left le r some nothing (also e es) h =
      let l = left (also e es) h in
      let lt = stands_lt its text from e h.0 h.1 in
      let up = stand_all_le its text h.0 es to h.2 in
      some (omega (arith, lt, up)) ∙ sym (l.2 ∙ ap (λ (q : Exprs). are_values_behind_keys b (items q)) (nothing-left at to l.0 l.1 le))

  -- what names so far
  abbrev pub NamingLeft : ℕ → ℕ → ℕ → Told → Type 0
  NamingLeft from at to v = (es : Exprs) → StandAll its text from es to → (rest : Exprs) × StandAll its text at rest to × (told (naming es) ≡ with_more v (behind_named (items rest)))

  pub naming-here : (from to : ℕ) → NamingLeft from from to code.Unnamed
  naming-here from to es h = (es, h, refl)

  with-one : (o : Option (List ℕ)) → told (naming_by o) ≡ with_more (told (naming_by o)) []
  with-one (Some n) = refl
  with-one None = refl

  with-two : (o : Option (List ℕ)) (x : Option Expr) (xs : List (Option Expr)) → code.Misnamed ≡ with_more (told (naming_by o)) (x ∷ xs)
  with-two (Some n) x xs = refl
  with-two None x xs = refl

  with-also : (v : Told) (x : Option Expr) (xs : List (Option Expr)) → with_more v (x ∷ xs) ≡ with_more (named_also v (told_by x)) xs
  with-also code.Unnamed None xs = refl
  with-also code.Unnamed (Some e) [] = with-one (symbol_of e)
  with-also code.Unnamed (Some e) (y ∷ ys) = with-two (symbol_of e) y ys
  with-also code.Named x xs = refl
  with-also code.Misnamed x xs = refl

  with-next : (v : Told) (b : Bool) (es : Exprs) → with_more v (cond b (value_in_front (items es) ∷ behind_named (items es)) (behind_named (items es))) ≡ with_more (cond b (named_also v (told_in_front es)) v) (behind_named (items es))
  with-next v true es = with-also v (value_in_front (items es)) (behind_named (items es))
  with-next v false es = refl

  pub naming-onward : (from at to : ℕ) (v : Told) → NamingLeft from at to v → at < to → (next : ℕ) → EndsBefore its at next → (v' : Told) → ((es : Exprs) → StandAll its text next es to → v' ≡ cond (is_named text (read-at its at)) (named_also v (told_in_front es)) v) → NamingLeft from next to v'
  naming-onward from at to v left lt next ends v' is es h =
      let l = left es h in
      let n = next-at at to l.0 l.1 lt next ends in
      let test : bytes_eq (unwrap_or (keyword_of n.0) []) (codes ":named") ≡ is_named text (read-at its at) = ap (λ o. bytes_eq (unwrap_or o []) (codes ":named")) (sym (keyword-stands at n.0 next n.3)) in (
        n.1,
        n.4,
        l.2 ∙ ap (λ (q : Exprs). with_more v (behind_named (items q))) n.2
            ∙ ap (λ b. with_more v (cond b (value_in_front (items n.1) ∷ behind_named (items n.1)) (behind_named (items n.1)))) test
            ∙ with-next v (is_named text (read-at its at)) n.1
            ∙ ap (λ (u : Told). with_more u (behind_named (items n.1))) (sym (is n.1 n.4)),
      )

  pub naming-end : (from at to : ℕ) (v : Told) → NamingLeft from at to v → to ≤ at → (es : Exprs) → StandAll its text from es to → told (naming es) ≡ v
  naming-end from at to v left le es h =
      let l = left es h in
      l.2 ∙ ap (λ (q : Exprs). with_more v (behind_named (items q))) (nothing-left at to l.0 l.1 le) ∙ go v
    where
      go : (u : Told) → with_more u [] ≡ u
      go code.Unnamed = refl
      go code.Named = refl
      go code.Misnamed = refl

  -- a symbol is no keyword
  kind-value : (k : TokenKind) (t : List ℕ) (e : Expr) → symbol_of e ≡ name_of_token k t → told_by (cond (is_some (keyword_text k t)) None (Some e)) ≡ told (naming_by (name_of_token k t))
  kind-value Keyword t e h = refl
  kind-value _ t e h = ap (λ o. told (naming_by o)) h

  symbol-is-value : (e : Expr) → told_by (cond (is_keyword e) None (Some e)) ≡ told (naming_by (symbol_of e))
  symbol-is-value (list p inside q) = refl
  symbol-is-value (atom l) = kind-value l.kind l.text (atom l) refl

  pub front-none : (at to : ℕ) → to ≤ at → (es : Exprs) → StandAll its text at es to → code.Misnamed ≡ told_in_front es
  front-none at to le es h = ap told_in_front (sym (nothing-left at to es h le))

  pub front-some : (at to : ℕ) → at < to → (o : Option (List ℕ)) → o ≡ name_in text (read-at its at) → (es : Exprs) → StandAll its text at es to → told (naming_by o) ≡ told_in_front es
  front-some at to lt o k es h =
      let n = next-of its text at to es h lt in
      ap (λ p. told (naming_by p)) (k ∙ symbol-stands at n.0 n.2 n.4) ∙ sym (symbol-is-value n.0) ∙ ap told_in_front (sym n.3)
