-- Pairs of symbols and expressions by their items.
use Rattle.std.proofs.Common.{◌≡◌, ◌≤◌, ◌<◌, ◌+◌, ◌&&◌, ℕ, Bool, true, false, cond, Option, Some, None, List, length, refl, sym, ap, subst, ◌∙◌, slice_get, arith}
use Rattle.std.specs.Prelude.{is_some}
use Rattle.std.proofs.lemmas.Option.{slice_get_within}
use Rattle.qv_text.specs.declared.kinds.TokenKind.{TokenKind}
use Rattle.qv_sexpr.specs.declared.items.Item.{Item}
use Rattle.qv_sexpr.specs.declared.items.ItemKind.{ItemKind}
use Rattle.qv_sexpr.specs.declared.items.ItemKind.TheVariants.{Atom, Open}
use Rattle.qv_sexpr.specs.Script.{atom, list, none, also}
use Rattle.qv_sexpr.specs.Script.{Tree as Expr, Trees as Exprs}
use Rattle.qv_sexpr.specs.Items.{Stands, StandAll}
use Rattle.qv_sexpr.proofs.Standing.{stands_lt, stand_all_le}
use Rattle.qv_elab_defs.specs.Tokens.{name_of_token}
use Rattle.qv_elab_defs.specs.Shapes.{Pair, with_pair, pairs_of, some_pairs}
use Rattle.qv_elab_items.specs.Inside.{is_pair}
use Rattle.qv_elab_items.proofs.Slices.{item_of, paren_of}

pub some-item : (a b : Item) → ◌≡◌ {A = Option Item} (Some a) (Some b) → a ≡ b
some-item a b h = cc

-- pairs and others
some-pair : (place : ℕ) (o : Option (List ℕ)) (e : Expr) (ps : Option (List Pair)) → is_some (with_pair place o e ps) ≡ (is_some o && is_some ps)
some-pair place (Some n) e (Some ps) = refl
some-pair place (Some n) e None = refl
some-pair place None e (Some ps) = refl
some-pair place None e None = refl

pub pairs-of : (e : Expr) (es : Exprs) → is_some (pairs_of (also e es)) ≡ (is_pair e && is_some (pairs_of es))
pairs-of (list p (also (atom l) (also e none)) q) es = some-pair l.place (name_of_token l.kind l.text) e (pairs_of es)
pairs-of (atom l) es = refl
pairs-of (list p none q) es = refl
pairs-of (list p (also (list r i s) rest) q) es = refl
pairs-of (list p (also (atom l) none) q) es = refl
pairs-of (list p (also (atom l) (also e (also f rest))) q) es = refl

-- no pair is none
with-some : (place : ℕ) (o : Option (List ℕ)) (e : Expr) (ps : Option (List Pair)) → is_some (with_pair place o e ps) ≡ is_some (some_pairs (with_pair place o e ps))
with-some place (Some n) e (Some ps) = refl
with-some place (Some n) e None = refl
with-some place None e (Some ps) = refl
with-some place None e None = refl

pub some-of : (e : Expr) (es : Exprs) → is_some (pairs_of (also e es)) ≡ is_some (some_pairs (pairs_of (also e es)))
some-of (list p (also (atom l) (also e none)) q) es = with-some l.place (name_of_token l.kind l.text) e (pairs_of es)
some-of (atom l) es = refl
some-of (list p none q) es = refl
some-of (list p (also (list r i s) rest) q) es = refl
some-of (list p (also (atom l) none) q) es = refl
some-of (list p (also (atom l) (also e (also f rest))) q) es = refl

-- where a loop over pairs is
abbrev pub Left : List Item → List ℕ → ℕ → ℕ → ℕ → Type 0
Left items text from at to = (pairs : Exprs) → StandAll items text from pairs to → (rest : Exprs) × StandAll items text at rest to × (is_some (pairs_of pairs) ≡ is_some (pairs_of rest))

pub left-here : (items : List Item) (text : List ℕ) (from to : ℕ) → Left items text from from to
left-here items text from to pairs h = (pairs, h, refl)

-- the next expression of a list that goes on
pub next-of : (items : List Item) (text : List ℕ) (at to : ℕ) (rest : Exprs) → StandAll items text at rest to → at < to → (e : Expr) × (es : Exprs) × (m : ℕ) × (rest ≡ also e es) × Stands items text at e m × StandAll items text m es to
next-of items text at to none h lt = absurd (omega (arith, h))
next-of items text at to (also e es) h lt = (e, es, h.0, refl, h.1, h.2)

pub no-pair : (items : List Item) (text : List ℕ) (from at to : ℕ) (pairs : Exprs) → Left items text from at to → StandAll items text from pairs to → at < to → ((e : Expr) (m : ℕ) → Stands items text at e m → None ≡ cond (is_pair e) (Some m) None) → false ≡ is_some (some_pairs (pairs_of pairs))
no-pair items text from at to pairs left h lt none-there = go pairs h refl
  where
    is-not : (b : Bool) (m : ℕ) → None ≡ cond b (Some m) None → b ≡ false
    is-not true m e = absurd (cc)
    is-not false m e = refl

    go : (ps : Exprs) → StandAll items text from ps to → pairs ≡ ps → false ≡ is_some (some_pairs (pairs_of pairs))
    go none k e = ap (λ (q : Exprs). is_some (some_pairs (pairs_of q))) (sym e)
    go (also f fs) k e =
        let l = left (also f fs) k in
        let n = next-of items text at to l.0 l.1 lt in
        let not = is-not (is_pair n.0) n.2 (none-there n.0 n.2 n.4) in
        let nothing : is_some (pairs_of l.0) ≡ false = ap (λ (q : Exprs). is_some (pairs_of q)) n.3 ∙ pairs-of n.0 n.1 ∙ ap (λ b. b && is_some (pairs_of n.1)) not in
        sym (ap (λ (q : Exprs). is_some (some_pairs (pairs_of q))) e ∙ sym (some-of f fs) ∙ l.2 ∙ nothing)

pub one-pair : (items : List Item) (text : List ℕ) (from at next to : ℕ) → Left items text from at to → at < to → ((e : Expr) (m : ℕ) → Stands items text at e m → Some next ≡ cond (is_pair e) (Some m) None) → Left items text from next to
one-pair items text from at next to left lt there pairs h =
    let l = left pairs h in
    let n = next-of items text at to l.0 l.1 lt in
    let is = is-pair (is_pair n.0) n.2 (there n.0 n.2 n.4) in
    (n.1, subst (λ m. StandAll items text m n.1 to) (sym is.1) n.5, l.2 ∙ ap (λ (q : Exprs). is_some (pairs_of q)) n.3 ∙ pairs-of n.0 n.1 ∙ ap (λ b. b && is_some (pairs_of n.1)) is.0)
  where
    some-is : (a b : ℕ) → ◌≡◌ {A = Option ℕ} (Some a) (Some b) → a ≡ b
    some-is a b h = cc

    is-pair : (b : Bool) (m : ℕ) → Some next ≡ cond b (Some m) None → (b ≡ true) × (next ≡ m)
    is-pair true m e = (refl, some-is next m e)
    is-pair false m e = absurd (cc)

pub pair-onward : (items : List Item) (text : List ℕ) (from at next to : ℕ) (pairs : Exprs) → StandAll items text from pairs to → Left items text from at to → at < to → ((e : Expr) (m : ℕ) → Stands items text at e m → Some next ≡ cond (is_pair e) (Some m) None) → (at < next) × (next ≤ to)
pair-onward items text from at next to pairs h left lt there =
    let l = left pairs h in
    let n = next-of items text at to l.0 l.1 lt in
    let is = is-pair (is_pair n.0) n.2 (there n.0 n.2 n.4) in
    let up = stands_lt items text at n.0 n.2 n.4 in
    let le = stand_all_le items text n.2 n.1 to n.5 in
    (omega (arith, up, is), omega (arith, le, is))
  where
    some-is : (a b : ℕ) → ◌≡◌ {A = Option ℕ} (Some a) (Some b) → a ≡ b
    some-is a b h = cc

    is-pair : (b : Bool) (m : ℕ) → Some next ≡ cond b (Some m) None → next ≡ m
    is-pair true m e = some-is next m e
    is-pair false m e = absurd (cc)

pub pairs-end : (items : List Item) (text : List ℕ) (from at to : ℕ) (pairs : Exprs) (b : Bool) → Left items text from at to → StandAll items text from pairs to → to ≤ at → (from < to → b ≡ true) → (to ≤ from → b ≡ false) → b ≡ is_some (some_pairs (pairs_of pairs))
pairs-end items text from at to none b left h le some nothing = nothing (omega (arith, h))
pairs-end items text from at to (also e es) b left h le some nothing =
    let l = left (also e es) h in
    let lt = stands_lt items text from e h.0 h.1 in
    let up = stand_all_le items text h.0 es to h.2 in
    some (omega (arith, lt, up)) ∙ sym (sym (some-of e es) ∙ l.2 ∙ empty l.0 l.1)
  where
    empty : (rest : Exprs) → StandAll items text at rest to → is_some (pairs_of rest) ≡ true
    empty none k = refl
    empty (also f fs) k =
        let lt = stands_lt items text at f k.0 k.1 in
        let up = stand_all_le items text k.0 fs to k.2 in
        absurd (omega (arith, lt, up, le))

-- one pair by its items
module _ (items : List Item) (text : List ℕ) (at : ℕ) where
  pub begins-within : (e : Expr) (to : ℕ) → Stands items text at e to → at < length items
  begins-within (atom l) to h = slice_get_within items at _ h.0.item
  begins-within (list p inside q) to h = slice_get_within items at _ h.1.1

  module _ (x : Item) (there : slice_get items at ≡ Some x) where
    open-close : (a b : ℕ) → ◌≡◌ {A = ItemKind} (Open a) (Open b) → a ≡ b
    open-close a b e = cc

    atom-open : (k : TokenKind) (n : ℕ) → ◌≡◌ {A = ItemKind} (Atom k) (Open n) → ⊥
    atom-open k n e = cc

    -- an atom is no pair
    pub not-list : ((n : ℕ) → x.kind ≡ Open n → ⊥) → (e : Expr) (to : ℕ) → Stands items text at e to → None ≡ cond (is_pair e) (Some to) None
    not-list other (atom l) to h = refl
    not-list other (list p inside q) to h =
        let same : paren_of (Open h.0) p h.1.0 ≡ x = some-item (paren_of (Open h.0) p h.1.0) x (sym h.1.1 ∙ there) in
        absurd (other h.0 (sym (ap (λ (y : Item). y.kind) same)))

    -- a list, and what stands in it
    pub in-list : (close : ℕ) → x.kind ≡ Open close → (e : Expr) (to : ℕ) → Stands items text at e to → (p : ℕ) × (inside : Exprs) × (q : ℕ) × (e ≡ list p inside q) × StandAll items text (at + 1) inside close × (close < length items) × (to ≡ close + 1)
    in-list close k (atom l) to h =
        let same : item_of l h.0.start h.0.end ≡ x = some-item (item_of l h.0.start h.0.end) x (sym h.0.item ∙ there) in
        absurd (atom-open l.kind close (ap (λ (y : Item). y.kind) same ∙ k))
    in-list close k (list p inside q) to h =
        let same : paren_of (Open h.0) p h.1.0 ≡ x = some-item (paren_of (Open h.0) p h.1.0) x (sym h.1.1 ∙ there) in
        let is : h.0 ≡ close = open-close h.0 close (ap (λ (y : Item). y.kind) same ∙ k) in
        (p, inside, q, refl, subst (λ n. StandAll items text (at + 1) inside n) is h.2, subst (λ n. n < length items) is (slice_get_within items h.0 _ h.3.1), h.4 ∙ ap (λ n. n + 1) is)
