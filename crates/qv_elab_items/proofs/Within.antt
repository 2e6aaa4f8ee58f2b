-- What stands up to the end of a list, by its items.
use Rattle.std.proofs.Common.{◌≡◌, ◌≢◌, ◌≤◌, ◌<◌, ◌+◌, ◌==◌, ℕ, Bool, true, false, cond, Option, Some, None, List, length, refl, sym, ap, subst, ◌∙◌, slice_get, get_or, arith}
use Rattle.std.specs.Prelude.{is_some}
use Rattle.std.proofs.lemmas.Bool.Decides.{nat_tests}
use Rattle.std.proofs.lemmas.Option.{slice_get_within, slice_get-get_or}
use Rattle.qv_text.specs.declared.kinds.TokenKind.{TokenKind}
use Rattle.qv_text.specs.declared.kinds.TokenKind.TheVariants.{LeftParen}
use Rattle.qv_text.specs.Reading.{Lexeme}
use Rattle.qv_sexpr.specs.declared.items.Item.{Item}
use Rattle.qv_sexpr.specs.declared.items.ItemKind.{ItemKind}
use Rattle.qv_sexpr.specs.declared.items.ItemKind.TheVariants.{Atom, Open, Close}
use Rattle.qv_sexpr.specs.Script.{atom, list, none, also}
use Rattle.qv_sexpr.specs.Script.{Tree as Expr, Trees as Exprs}
use Rattle.qv_sexpr.specs.Items.{IsParenAt, Stands, StandAll}
use Rattle.qv_sexpr.specs.Copying.{EndsBefore}
use Rattle.qv_sexpr.proofs.Standing.{stands_lt, stand_all_le}
use Rattle.qv_sexpr.proofs.Copies.{stands_before, ends_once}
use Rattle.qv_elab_defs.specs.Tokens.{name_of_token}
use Rattle.qv_elab_items.specs.Flat.{name_in}
use Rattle.qv_elab_defs.specs.Shapes.{Pair, pairs_of, some_pairs}
use Rattle.qv_elab_items.specs.Inside.{is_pair_of, is_pair, binding_of, IsBoundBy}
use Rattle.qv_elab_items.proofs.Slices.{item_of, paren_of, name-stands}
use Rattle.qv_elab_items.proofs.Pairing.{some-item}

atom-open : (k : TokenKind) (n : ℕ) → ◌≡◌ {A = ItemKind} (Atom k) (Open n) → ⊥
atom-open k n e = cc

close-open : (n : ℕ) → ◌≡◌ {A = ItemKind} Close (Open n) → ⊥
close-open n e = cc

open-same : (a b : ℕ) → ◌≡◌ {A = ItemKind} (Open a) (Open b) → a ≡ b
open-same a b e = cc

some-none : {A : Type 0} (a : A) → Some a ≡ None → ⊥
some-none a e = cc

equal : (a b : ℕ) → a ≡ b → (a == b) ≡ true
equal a b h = grind (arith, nat_tests)

unequal : (a b : ℕ) → a < b → (a == b) ≡ false
unequal a b h = grind (arith, nat_tests)

-- the item that is read
pub item-at : (its : List Item) (at : ℕ) (x : Item) → at < length its → x ≡ get_or its at x → slice_get its at ≡ Some x
item-at its at x lt e = slice_get-get_or its at x lt ∙ ap Some (sym e)

-- what is read behind the end of a list of items
abbrev pub no-item : Item
no-item = record { kind = Atom LeftParen; place = 0; start = 0; end = 0 }

abbrev pub read-at : List Item → ℕ → Item
read-at items at = get_or items at no-item

pub here : (items : List Item) (at : ℕ) → at < length items → slice_get items at ≡ Some (read-at items at)
here items at lt = slice_get-get_or items at no-item lt

-- a symbol and an expression behind it, and what follows
pub record IsSecond (items : List Item) (text : List ℕ) (at close : ℕ) (name : List ℕ) (inside : Exprs) : Type 0 where
  pub l : Lexeme
  pub e : Expr
  pub es : Exprs
  pub m : ℕ
  pub inside_is : inside ≡ also (atom l) (also e es)
  pub stands : Stands items text (at + 1) e m
  pub rest : StandAll items text m es close
  pub name_is : name_of_token l.kind l.text ≡ Some name

module _ (items : List Item) (text : List ℕ) (at close place : ℕ) (closed : IsParenAt items close Close place) where
  pub list-begins : (inside : Exprs) → StandAll items text at inside close → (at ≤ close) × (close < length items)
  list-begins inside h = (stand_all_le items text at inside close h, slice_get_within items close _ closed.1)

  module _ (x : Item) (there : slice_get items at ≡ Some x) where
    pub no-symbol : None ≡ name_in text x → (inside : Exprs) → StandAll items text at inside close → false ≡ is_pair_of inside
    no-symbol n none h = refl
    no-symbol n (also (list p i q) es) h = refl
    no-symbol n (also (atom l) none) h = refl
    no-symbol n (also (atom l) (also e (also f fs))) h = refl
    no-symbol n (also (atom l) (also e none)) h =
        let same : item_of l h.1.0.start h.1.0.end ≡ x = some-item (item_of l h.1.0.start h.1.0.end) x (sym h.1.0.item ∙ there) in
        ap is_some (n ∙ sym (ap (name_in text) same) ∙ name-stands items text at l h.1.0)

    pub no-second : close ≤ at + 1 → (inside : Exprs) → StandAll items text at inside close → false ≡ is_pair_of inside
    no-second le none h = refl
    no-second le (also (list p i q) es) h = refl
    no-second le (also (atom l) none) h = refl
    no-second le (also (atom l) (also e (also f fs))) h = refl
    no-second le (also (atom l) (also e none)) h =
        let up = stands_lt items text h.0 e h.2.0 h.2.1 in
        absurd (omega (arith, up, le, h.1.1, h.2.2))

    pub second-of : (name : List ℕ) → Some name ≡ name_in text x → at + 1 < close → (inside : Exprs) → StandAll items text at inside close → IsSecond items text at close name inside
    second-of name n lt none h = absurd (omega (arith, lt, h))
    second-of name n lt (also (list p i q) es) h =
        let same : paren_of (Open h.1.0) p h.1.1.0 ≡ x = some-item (paren_of (Open h.1.0) p h.1.1.0) x (sym h.1.1.1 ∙ there) in
        absurd (some-none name (n ∙ sym (ap (name_in text) same)))
    second-of name n lt (also (atom l) none) h = absurd (omega (arith, lt, h.1.1, h.2))
    second-of name n lt (also (atom l) (also e es)) h =
        let same : item_of l h.1.0.start h.1.0.end ≡ x = some-item (item_of l h.1.0.start h.1.0.end) x (sym h.1.0.item ∙ there) in
        record {
          l = l;
          e = e;
          es = es;
          m = h.2.0;
          inside_is = refl;
          stands = subst (λ i. Stands items text i e h.2.0) h.1.1 h.2.1;
          rest = h.2.2;
          name_is = sym (n ∙ sym (ap (name_in text) same) ∙ name-stands items text at l h.1.0);
        }

    pub second-before : (name : List ℕ) (inside : Exprs) → IsSecond items text at close name inside → (to : ℕ) × (to ≤ length items) × (at + 1 < to) × EndsBefore items (at + 1) to
    second-before name inside s =
        let b = stands_before items text (at + 1) s.e s.m s.stands in
        (s.m, b.0, stands_lt items text (at + 1) s.e s.m s.stands, b.1)

    pub pair-tells : (name : List ℕ) (inside : Exprs) (n : ℕ) → EndsBefore items (at + 1) n → IsSecond items text at close name inside → (n == close) ≡ is_pair_of inside
    pair-tells name inside n ends s =
        let b = stands_before items text (at + 1) s.e s.m s.stands in
        let same : s.m ≡ n = ends_once items (at + 1) s.m n b.1 ends in
        go s.es s.rest same ∙ ap is_pair_of (sym s.inside_is)
      where
        go : (es : Exprs) → StandAll items text s.m es close → s.m ≡ n → (n == close) ≡ is_pair_of (also (atom s.l) (also s.e es))
        go none r e = equal n close (sym e ∙ sym r) ∙ sym (ap is_some s.name_is)
        go (also f fs) r e =
            let up = stands_lt items text s.m f r.0 r.1 in
            let le = stand_all_le items text r.0 fs close r.2 in
            unequal n close (omega (arith, up, le, e))

-- a pair is told by what stands in it
module _ (items : List Item) (text : List ℕ) (at close : ℕ) (lt : at < length items) (k : (read-at items at).kind ≡ Open close) where
  pub inside-of : (e : Expr) (to : ℕ) → Stands items text at e to → (p : ℕ) × (inside : Exprs) × (q : ℕ) × (e ≡ list p inside q) × StandAll items text (at + 1) inside close × IsParenAt items close Close q × (to ≡ close + 1)
  inside-of (atom l) to h =
      let same : item_of l h.0.start h.0.end ≡ read-at items at = some-item (item_of l h.0.start h.0.end) (read-at items at) (sym h.0.item ∙ here items at lt) in
      absurd (atom-open l.kind close (ap (λ (y : Item). y.kind) same ∙ k))
  inside-of (list p inside q) to h =
      let same : paren_of (Open h.0) p h.1.0 ≡ read-at items at = some-item (paren_of (Open h.0) p h.1.0) (read-at items at) (sym h.1.1 ∙ here items at lt) in
      let is : h.0 ≡ close = open-same h.0 close (ap (λ (y : Item). y.kind) same ∙ k) in
      (p, inside, q, refl, subst (λ n. StandAll items text (at + 1) inside n) is h.2, subst (λ n. IsParenAt items n Close q) is h.3, h.4 ∙ ap (λ n. n + 1) is)

  pub inside-within : (e : Expr) (to : ℕ) → Stands items text at e to → (at + 1 ≤ close) × (close < length items)
  inside-within e to h =
      let i = inside-of e to h in
      (stand_all_le items text (at + 1) i.1 close i.4, slice_get_within items close _ i.5.1)

  pub is-told : (b : Bool) → ((inside : Exprs) → StandAll items text (at + 1) inside close → b ≡ is_pair_of inside) → (e : Expr) (to : ℕ) → Stands items text at e to → cond b (Some (close + 1)) None ≡ cond (is_pair e) (Some to) None
  is-told b tells e to h =
      let i = inside-of e to h in
      ap (λ c. cond c (Some (close + 1)) None) (tells i.1 i.4 ∙ sym (ap is_pair i.3)) ∙ ap (λ n. cond (is_pair e) (Some n) None) (sym i.6)

-- a list and what stands behind it
pub record IsListThen (items : List Item) (text : List ℕ) (at end close : ℕ) (rest : Exprs) : Type 0 where
  pub p : ℕ
  pub pairs : Exprs
  pub q : ℕ
  pub es : Exprs
  pub rest_is : rest ≡ also (list p pairs q) es
  pub stand : StandAll items text (at + 1) pairs end
  pub closed : IsParenAt items end Close q
  pub behind : StandAll items text (end + 1) es close

module _ (items : List Item) (text : List ℕ) (at close place : ℕ) (closed : IsParenAt items close Close place) (x : Item) (there : slice_get items at ≡ Some x) where
  pub list-then : (end : ℕ) → x.kind ≡ Open end → (rest : Exprs) → StandAll items text at rest close → IsListThen items text at end close rest
  list-then end k none h =
      let same : paren_of Close place closed.0 ≡ x = some-item (paren_of Close place closed.0) x (sym closed.1 ∙ ap (slice_get items) h ∙ there) in
      absurd (close-open end (ap (λ (y : Item). y.kind) same ∙ k))
  list-then end k (also (atom l) es) h =
      let same : item_of l h.1.0.start h.1.0.end ≡ x = some-item (item_of l h.1.0.start h.1.0.end) x (sym h.1.0.item ∙ there) in
      absurd (atom-open l.kind end (ap (λ (y : Item). y.kind) same ∙ k))
  list-then end k (also (list p pairs q) es) h =
      let same : paren_of (Open h.1.0) p h.1.1.0 ≡ x = some-item (paren_of (Open h.1.0) p h.1.1.0) x (sym h.1.1.1 ∙ there) in
      let is : h.1.0 ≡ end = open-same h.1.0 end (ap (λ (y : Item). y.kind) same ∙ k) in
      record {
        p = p;
        pairs = pairs;
        q = q;
        es = es;
        rest_is = refl;
        stand = subst (λ n. StandAll items text (at + 1) pairs n) is h.1.2;
        closed = subst (λ n. IsParenAt items n Close q) is h.1.3;
        behind = subst (λ n. StandAll items text n es close) (h.1.4 ∙ ap (λ n. n + 1) is) h.2;
      }

  pub no-list : ((n : ℕ) → x.kind ≡ Open n → ⊥) → (rest : Exprs) → StandAll items text at rest close → binding_of rest ≡ None
  no-list other none h = refl
  no-list other (also (atom l) es) h = refl
  no-list other (also (list p pairs q) es) h =
      let same : paren_of (Open h.1.0) p h.1.1.0 ≡ x = some-item (paren_of (Open h.1.0) p h.1.1.0) x (sym h.1.1.1 ∙ there) in
      absurd (other h.1.0 (sym (ap (λ (y : Item). y.kind) same)))

module _ (items : List Item) (text : List ℕ) (at end close : ℕ) (rest : Exprs) (t : IsListThen items text at end close rest) where
  pub list-within : (at + 1 ≤ end) × (end < length items)
  list-within = (stand_all_le items text (at + 1) t.pairs end t.stand, slice_get_within items end _ t.closed.1)

  pub no-body : close ≤ end + 1 → binding_of rest ≡ None
  no-body le = ap binding_of t.rest_is ∙ go t.es t.behind
    where
      go : (es : Exprs) → StandAll items text (end + 1) es close → binding_of (also (list t.p t.pairs t.q) es) ≡ None
      go none h = refl
      go (also b (also f fs)) h = refl
      go (also b none) h =
          let up = stands_lt items text (end + 1) b h.0 h.1 in
          absurd (omega (arith, up, le, h.2))

  pub body-before : end + 1 < close → (to : ℕ) × (to ≤ length items) × (end + 1 < to) × EndsBefore items (end + 1) to
  body-before lt = go t.es t.behind
    where
      go : (es : Exprs) → StandAll items text (end + 1) es close → (to : ℕ) × (to ≤ length items) × (end + 1 < to) × EndsBefore items (end + 1) to
      go none h = absurd (omega (arith, lt, h))
      go (also b bs) h =
          let k = stands_before items text (end + 1) b h.0 h.1 in
          (h.0, k.0, stands_lt items text (end + 1) b h.0 h.1, k.1)

  pub other-end : (n : ℕ) → EndsBefore items (end + 1) n → n ≢ close → binding_of rest ≡ None
  other-end n ends ne = ap binding_of t.rest_is ∙ go t.es t.behind
    where
      go : (es : Exprs) → StandAll items text (end + 1) es close → binding_of (also (list t.p t.pairs t.q) es) ≡ None
      go none h = refl
      go (also b (also f fs)) h = refl
      go (also b none) h =
          let k = stands_before items text (end + 1) b h.0 h.1 in
          absurd (ne (sym (ends_once items (end + 1) h.0 n k.1 ends) ∙ sym h.2))

  pub no-pairs : false ≡ is_some (some_pairs (pairs_of t.pairs)) → binding_of rest ≡ None
  no-pairs nothing = ap binding_of t.rest_is ∙ go t.es
    where
      is-none : (o : Option (List Pair)) → false ≡ is_some o → o ≡ None
      is-none None e = refl
      is-none (Some x) e = absurd (cc)

      go : (es : Exprs) → binding_of (also (list t.p t.pairs t.q) es) ≡ None
      go none = refl
      go (also b (also f fs)) = refl
      go (also b none) = is-none (some_pairs (pairs_of t.pairs)) nothing

  pub is-bound : end + 1 < close → EndsBefore items (end + 1) close → true ≡ is_some (some_pairs (pairs_of t.pairs)) → IsBoundBy items text at rest close end
  is-bound lt ends some-pair = go t.es t.behind t.rest_is (some-pairs (some_pairs (pairs_of t.pairs)) refl some-pair)
    where
      some-pairs : (o : Option (List Pair)) → some_pairs (pairs_of t.pairs) ≡ o → true ≡ is_some o → (ps : List Pair) × (some_pairs (pairs_of t.pairs) ≡ Some ps)
      some-pairs None e f = absurd (cc)
      some-pairs (Some ps) e f = (ps, e)

      go : (es : Exprs) → StandAll items text (end + 1) es close → rest ≡ also (list t.p t.pairs t.q) es → (ps : List Pair) × (some_pairs (pairs_of t.pairs) ≡ Some ps) → IsBoundBy items text at rest close end
      go none h r s = absurd (omega (arith, lt, h))
      go (also b (also f fs)) h r s =
          let k = stands_before items text (end + 1) b h.0 h.1 in
          let same = ends_once items (end + 1) h.0 close k.1 ends in
          let up = stands_lt items text h.0 f h.2.0 h.2.1 in
          let le = stand_all_le items text h.2.0 fs close h.2.2 in
          absurd (omega (arith, same, up, le))
      go (also b none) h r s = record {
        place = t.p;
        pairs = t.pairs;
        close_place = t.q;
        body = b;
        some = s.0;
        rest_is = r;
        pairs_are = s.1;
        stand = t.stand;
        closed = t.closed;
        body_stands = subst (λ n. Stands items text (end + 1) b n) (sym h.2) h.1;
      }
