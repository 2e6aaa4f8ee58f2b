-- The pairs of a `let`.
use Rattle.std.proofs.Common.{◌≡◌, ◌≤◌, ◌<◌, ◌+◌, ◌-◌, ℕ, suc, Bool, true, false, cond, Option, Some, None, List, [], ◌∷◌, ◌++◌, length, take, drop, refl, sym, ap, subst, ◌∙◌, Ok, slice_get, get_or, arith, length-append}
use Rattle.std.specs.Prelude.{Result, is_some, option_and_then}
use Rattle.std.specs.Str.{bytes_eq}
use Rattle.std.proofs.lemmas.Option.{slice_get_within, slice_get-get_or, get_or_from_slice_get}
use Rattle.std.specs.List.{AllByRecursion}
use Rattle.qv_sexpr.specs.declared.items.Item.{Item}
use Rattle.qv_text.specs.Reading.{Lexeme}
use Rattle.qv_text.specs.declared.kinds.TokenKind.{TokenKind}
use Rattle.qv_text.specs.declared.kinds.TokenKind.TheVariants.{Symbol}
use Rattle.qv_sexpr.specs.declared.items.ItemKind.TheVariants.{Close}
use Rattle.qv_sexpr.specs.Script.{atom, list, none, also}
use Rattle.qv_sexpr.specs.Script.{Tree as Expr, Trees as Exprs}
use Rattle.qv_sexpr.specs.Items.{IsAtomAt, IsParenAt, Stands, StandAll}
use Rattle.qv_words.specs.Tree.{Tree}
use Rattle.qv_elab_frames.specs.declared.elaborator.Open.{Open as Opened}
use Rattle.qv_elab_frames.specs.declared.elaborator.Open.TheVariants as opened
use Rattle.qv_elab_defs.specs.declared.faults.ElabKind.TheVariants.{Form, RepeatedName}
use Rattle.qv_elab_defs.specs.Faults.{Fault, refuse, formed}
use Rattle.qv_elab_defs.specs.Tokens.{unquoted, name_of_token}
use Rattle.qv_elab_defs.specs.Shapes.{Let, Pair, with_pair, pairs_of, some_pairs}
use Rattle.qv_elab_items.specs.Flat.{name_in}
use Rattle.qv_elab_defs.specs.Scopes.{Named, Context, found}
use Rattle.qv_elab_items.specs.Inside.{binding_of, IsBoundBy}
use Rattle.qv_elab_defs.specs.Looking.{Look, Seen, still, ◌▷◌, looks_of_list}
use Rattle.qv_elab_frames.specs.Frames.{Frame, Binding, Passing, resume}
use Rattle.qv_elab_defs.specs.OpenTrees.{IsGood}
use Rattle.qv_elab_scope.specs.Headed.{name_at}
use Rattle.qv_elab_scope.specs.Ids.{AreNamedAt}
use Rattle.qv_elab_frames.specs.Loop.{Source, State, with_open, sorts_of, EndsIn, IsLet, Holds, bound_looks, IsReading, IsMade, IsInList, IsAtPair}
use Rattle.qv_sexpr.specs.Copying.{EndsBefore}
use Rattle.qv_sexpr.proofs.Copies.{stands_before, ends_once}
use Rattle.qv_sexpr.proofs.Standing.{stands_lt, stand_all_le}
use Rattle.qv_elab_defs.proofs.OpenElaborated.{with-bound}
use Rattle.qv_elab_frames.proofs.Departing.{begins-open}
use Rattle.qv_elab_items.proofs.Slices.{item_of, name-stands}
use Rattle.qv_elab_frames.proofs.Resuming.{into-let, next-pair, repeated-name, into-body}

-- a name is among ids exactly where it is among trees
same-found : (trees : List Tree) (name : List ℕ) (xs : Named ℕ) (ys : Named Tree) → AreNamedAt trees xs ys → is_some (found name xs) ≡ is_some (found name ys)
same-found trees name [] [] h = refl
same-found trees name (x ∷ xs) (y ∷ ys) h = go (bytes_eq x.0 name) (bytes_eq y.0 name) (ap (λ n. bytes_eq n name) h.0) (same-found trees name xs ys h.2)
  where
    go : (a b : Bool) → b ≡ a → is_some (found name xs) ≡ is_some (found name ys) → is_some (cond a (Some x.1) (found name xs)) ≡ is_some (cond b (Some y.1) (found name ys))
    go true true e k = refl
    go false false e k = k
    go true false e k = absurd (cc)
    go false true e k = absurd (cc)
same-found trees name [] (y ∷ ys) h = absurd h
same-found trees name (x ∷ xs) [] h = absurd h

-- the names of the innermost `let`
own-taken : (all own before : Named ℕ) (start : ℕ) → all ≡ own ++ before → start ≡ length before → take (length all - start) all ≡ own
own-taken all own before start e f =
    ap (λ (xs : Named ℕ). take (length xs - start) xs) e ∙ ap (λ n. take (length (own ++ before) - n) (own ++ before)) f ∙ go own before
  where
    front : (xs ys : Named ℕ) → take (length xs) (xs ++ ys) ≡ xs
    front [] ys = refl
    front (x ∷ xs) ys = ap (λ zs. x ∷ zs) (front xs ys)

    go : (xs ys : Named ℕ) → take (length (xs ++ ys) - length ys) (xs ++ ys) ≡ xs
    go xs ys =
        let n : length (xs ++ ys) - length ys ≡ length xs = omega (arith, length-append xs ys) in
        ap (λ m. take m (xs ++ ys)) n ∙ front xs ys

module _ (w : Source) (trees : List Tree) (s : State) (at start : ℕ) (given : Result Seen Fault) (h : IsAtPair w trees s at start given) where
  pub pair-name : name_at w.items.text.items w.items.items.items at ≡ Some (unquoted h.lexeme.text)
  pair-name =
      ap (option_and_then (name_in w.items.text.items)) h.name_stands.item
      ∙ name-stands w.items.items.items w.items.text.items at h.lexeme h.name_stands
      ∙ h.name_is

  has-it : (b : Bool) → b ≡ is_some (found (unquoted h.lexeme.text) (take (length s.pending - start) s.pending)) → is_some (found (unquoted h.lexeme.text) h.names) ≡ b
  has-it b e =
      sym (e ∙ ap (λ (xs : Named ℕ). is_some (found (unquoted h.lexeme.text) xs)) (own-taken s.pending h.own h.before start h.pending_are h.start_is)
      ∙ same-found trees (unquoted h.lexeme.text) h.own h.names h.own_are)

  -- it is repeated
  pub pair-repeated : true ≡ is_some (found (unquoted h.lexeme.text) (take (length s.pending - start) s.pending)) → given ≡ refuse h.lexeme.place RepeatedName
  pair-repeated e =
      h.gives ∙ repeated-name h.frames h.names h.list_place h.place h.lexeme h.expr h.body h.pairs h.c h.looks (record { place = h.lexeme.place; kind = RepeatedName })
      (ap (λ b. cond b (refuse h.lexeme.place RepeatedName) (Ok (unquoted h.lexeme.text))) (has-it true e))

  -- its term
  pub into-pair : false ≡ is_some (found (unquoted h.lexeme.text) (take (length s.pending - start) s.pending)) → IsReading w trees (with_open (opened.Let at start) s) (at + 1) given
  into-pair e = record {
    expr = h.expr;
    behind = h.expr_end;
    c = h.c;
    M = h.M;
    frames = Binding h.names (unquoted h.lexeme.text) h.pairs h.body h.c ∷ h.frames;
    stands = h.expr_stands;
    around = record {
      scope_is = h.scope_is;
      good = h.good;
      bound_are = h.bound_are;
      binders_are = h.binders_are;
      holds = (
        record {
          names = h.names;
          name = unquoted h.lexeme.text;
          pairs = h.pairs;
          some = h.some;
          body = h.body;
          outer = h.frames;
          before = h.before;
          own = h.own;
          frames_are = refl;
          name_is = pair-name;
          place = h.place;
          closed = h.closed;
          ends = h.ends;
          pairs_are = h.pairs_are;
          body_end = h.body_end;
          body_stands = h.body_stands;
          close_place = h.close_place;
          body_closed = h.body_closed;
          pending_are = h.pending_are;
          start_is = h.start_is;
          own_are = h.own_are;
          good = h.good_names;
        },
        h.holds,
      );
      looks = h.looks;
      looked = h.looked;
    };
    gives = h.gives ∙ next-pair h.frames h.names h.list_place h.place h.lexeme h.expr h.body h.pairs h.c h.looks (unquoted h.lexeme.text)
        (ap (λ b. cond b (refuse h.lexeme.place RepeatedName) (Ok (unquoted h.lexeme.text))) (has-it false e));
  }

some-item : (a b : Item) → ◌≡◌ {A = Option Item} (Some a) (Some b) → a ≡ b
some-item a b h = cc

-- the item of a name
module _ (w : Source) (trees : List Tree) (s : State) (at start : ℕ) (given : Result Seen Fault) (h : IsAtPair w trees s at start given) where
  pub pair-within : at < length w.items.items.items
  pair-within = slice_get_within w.items.items.items at _ h.name_stands.item

  pub pair-has : (x : Item) → x ≡ get_or w.items.items.items at x → name_in w.items.text.items x ≡ Some (unquoted h.lexeme.text)
  pair-has x read =
      let there : slice_get w.items.items.items at ≡ Some x = slice_get-get_or w.items.items.items at x pair-within ∙ ap Some (sym read) in
      sym (ap (option_and_then (name_in w.items.text.items)) there) ∙ pair-name w trees s at start given h

  module _ (x : Item) (read : x ≡ get_or w.items.items.items at x) (name : List ℕ) (is : Some name ≡ name_in w.items.text.items x) where
    there : slice_get w.items.items.items at ≡ Some x
    there = slice_get-get_or w.items.items.items at x pair-within ∙ ap Some (sym read)

    pub name-same : name ≡ unquoted h.lexeme.text
    name-same = go (name_in w.items.text.items x) is (sym (ap (option_and_then (name_in w.items.text.items)) there) ∙ pair-name w trees s at start given h)
      where
        go : (o : Option (List ℕ)) → Some name ≡ o → o ≡ Some (unquoted h.lexeme.text) → name ≡ unquoted h.lexeme.text
        go o e f = let g : Some name ≡ Some (unquoted h.lexeme.text) = e ∙ f in cc

    pub place-same : h.lexeme.place ≡ x.place
    place-same = ap (λ (y : Item). y.place) (some-item (item_of h.lexeme h.name_stands.start h.name_stands.end) x (sym h.name_stands.item ∙ there))

-- behind the term of a name
pub one-more : (trees : List Tree) (xs : Named ℕ) (ys : Named Tree) (us : Named ℕ) (vs : Named Tree) → AreNamedAt trees xs ys → AreNamedAt trees us vs → AreNamedAt trees (xs ++ us) (ys ++ vs)
one-more trees [] [] us vs h k = k
one-more trees (x ∷ xs) (y ∷ ys) us vs h k = (h.0, h.1, one-more trees xs ys us vs h.2 k)
one-more trees [] (y ∷ ys) us vs h k = absurd h
one-more trees (x ∷ xs) [] us vs h k = absurd h

same-length : (trees : List Tree) (xs : Named ℕ) (ys : Named Tree) → AreNamedAt trees xs ys → length xs ≡ length ys
same-length trees [] [] h = refl
same-length trees (x ∷ xs) (y ∷ ys) h = ap suc (same-length trees xs ys h.2)
same-length trees [] (y ∷ ys) h = absurd h
same-length trees (x ∷ xs) [] h = absurd h

left-behind : (all own before : Named ℕ) (start : ℕ) → all ≡ own ++ before → start ≡ length before → drop (length all - start) all ≡ before
left-behind all own before start e f =
    ap (λ (xs : Named ℕ). drop (length xs - start) xs) e ∙ ap (λ n. drop (length (own ++ before) - n) (own ++ before)) f ∙ go own before
  where
    behind : (xs ys : Named ℕ) → drop (length xs) (xs ++ ys) ≡ ys
    behind [] ys = refl
    behind (x ∷ xs) ys = behind xs ys

    go : (xs ys : Named ℕ) → drop (length (xs ++ ys) - length ys) (xs ++ ys) ≡ ys
    go xs ys =
        let n : length (xs ++ ys) - length ys ≡ length xs = omega (arith, length-append xs ys) in
        ap (λ m. drop m (xs ++ ys)) n ∙ behind xs ys

module _ (w : Source) (trees : List Tree) (s : State) (name_at start id at : ℕ) (given : Result Seen Fault) (h : IsMade w trees (with_open (opened.Let name_at start) s) id at given) where
  abbrev pub open-let : IsLet w trees h.M name_at start h.frames at h.c s.pending
  open-let = h.around.holds.0

  abbrev named : Named ℕ
  named = (open-let.name, id) ∷ s.pending

  named-are : named ≡ ((open-let.name, id) ∷ open-let.own) ++ open-let.before
  named-are = ap (λ (xs : Named ℕ). (open-let.name, id) ∷ xs) open-let.pending_are

  -- the last of them
  pub into-last : open-let.pairs ≡ none → open-let.ends.close ≡ at + 1 → IsReading w trees (record {
    stack = opened.Passing open-let.body_end (length s.bound) ∷ s.stack;
    done = s.done;
    bound = take (length named - start) named ++ s.bound;
    pending = drop (length named - start) named;
    binders = s.binders;
    watched = s.watched;
  }) (at + 2) given
  into-last e f =
      let names : Named Tree = (open-let.name, h.tree) ∷ open-let.names in
      let good : AllByRecursion (λ x. IsGood (sorts_of w) 0 h.M x.1) names = (h.good_tree, open-let.good) in
      let own = own-taken named ((open-let.name, id) ∷ open-let.own) open-let.before start named-are open-let.start_is in
      let left = left-behind named ((open-let.name, id) ∷ open-let.own) open-let.before start named-are open-let.start_is in
      record {
        expr = open-let.body;
        behind = open-let.body_end;
        c = record h.c { bound = names ++ h.c.bound };
        M = h.M;
        frames = Passing none ∷ open-let.outer;
        stands = let at-body : open-let.ends.close + 1 ≡ at + 2 = omega (arith, f) in subst (λ n. Stands w.items.items.items w.items.text.items n open-let.body open-let.body_end) at-body open-let.body_stands;
        around = record {
          scope_is = h.around.scope_is;
          good = with-bound (sorts_of w) 0 h.M h.c names h.around.good good;
          bound_are = subst (λ (xs : Named ℕ). AreNamedAt trees (xs ++ s.bound) (names ++ h.c.bound)) (sym own) (one-more trees ((open-let.name, id) ∷ open-let.own) names s.bound h.c.bound (refl, h.stands, open-let.own_are) h.around.bound_are);
          binders_are = h.around.binders_are;
          holds = (
            record {
              rest = none;
              outer = open-let.outer;
              own = names;
              around = h.c.bound;
              frames_are = refl;
              ends = record { close = open-let.body_end; place = open-let.close_place; stand = refl; closed = open-let.body_closed };
              close_is = refl;
              bound_are = refl;
              bound_is = same-length trees s.bound h.c.bound h.around.bound_are;
              good = h.around.good;
            },
            subst (λ (xs : Named ℕ). Holds w trees s.stack open-let.outer (open-let.body_end + 1) h.c h.M s.done xs) (sym left) h.around.holds.1,
          );
          looks = h.around.looks;
          looked = h.around.looked;
        };
        gives = h.gives
            ∙ ap (λ (fs : List Frame). resume fs (Ok (h.tree, h.around.looks))) (open-let.frames_are ∙ ap (λ (ps : Exprs). Binding open-let.names open-let.name ps open-let.body h.c ∷ open-let.outer) e)
            ∙ into-body open-let.outer names open-let.body h.c h.around.looks;
      }

-- the next pair
record IsPairThen (e : Expr) (es : Exprs) : Type 0 where
  p : ℕ
  l : Lexeme
  inner : Expr
  q : ℕ
  some : List Pair
  e_is : e ≡ list p (also (atom l) (also inner none)) q
  name_is : name_of_token l.kind l.text ≡ Some (unquoted l.text)
  rest_is : pairs_of es ≡ Some some

token-name : (kind : TokenKind) (text name : List ℕ) → name_of_token kind text ≡ Some name → name_of_token kind text ≡ Some (unquoted text)
token-name Symbol text name e = refl
token-name _ text name e = absurd (cc)

pair-then : (e : Expr) (es : Exprs) (some : List Pair) → pairs_of (also e es) ≡ Some some → IsPairThen e es
pair-then (list p (also (atom l) (also e none)) q) es some h = go (name_of_token l.kind l.text) refl (pairs_of es) refl h
  where
    go : (o : Option (List ℕ)) → name_of_token l.kind l.text ≡ o → (ps : Option (List Pair)) → pairs_of es ≡ ps → with_pair l.place o e ps ≡ Some some → IsPairThen (list p (also (atom l) (also e none)) q) es
    go (Some n) f (Some ps) g k = record { p = p; l = l; inner = e; q = q; some = ps; e_is = refl; name_is = token-name l.kind l.text n f; rest_is = g }
    go (Some n) f None g k = absurd (cc)
    go None f ps g k = absurd (cc)
pair-then (atom l) es some h = absurd (cc)
pair-then (list p none q) es some h = absurd (cc)
pair-then (list p (also (list r i s) rest) q) es some h = absurd (cc)
pair-then (list p (also (atom l) none) q) es some h = absurd (cc)
pair-then (list p (also (atom l) (also e (also f rest))) q) es some h = absurd (cc)

module _ (w : Source) (trees : List Tree) (s : State) (name_at start id at : ℕ) (given : Result Seen Fault) (h : IsMade w trees (with_open (opened.Let name_at start) s) id at given) where
  -- it is there
  pub into-next : (e : Expr) (es : Exprs) → (open-let w trees s name_at start id at given h).pairs ≡ also e es → IsAtPair w trees (record s { pending = ((open-let w trees s name_at start id at given h).name, id) ∷ s.pending }) (at + 2) start given
  into-next e es f =
      let o = open-let w trees s name_at start id at given h in
      let pair = pair-then e es o.some (ap pairs_of (sym f) ∙ o.pairs_are) in
      let stand = subst (λ (ps : Exprs). StandAll w.items.items.items w.items.text.items (at + 1) ps o.ends.close) f o.ends.stand in
      let first = subst (λ (t : Expr). Stands w.items.items.items w.items.text.items (at + 1) t stand.0) pair.e_is stand.1 in
      let two : at + 1 + 1 ≡ at + 2 = omega arith in
      let three : first.2.0 ≡ at + 2 + 1 = first.2.1.1 ∙ omega arith in
      let end : first.2.2.0 ≡ first.0 = sym first.2.2.2 in
      let behind : stand.0 ≡ first.2.2.0 + 1 = first.4 ∙ ap (λ n. n + 1) (sym end) in
      record {
        names = (o.name, h.tree) ∷ o.names;
        lexeme = pair.l;
        expr = pair.inner;
        expr_end = first.2.2.0;
        pairs = es;
        some = pair.some;
        body = o.body;
        c = h.c;
        M = h.M;
        frames = o.outer;
        before = o.before;
        own = (o.name, id) ∷ o.own;
        name_stands = subst (λ n. IsAtomAt w.items.items.items w.items.text.items n pair.l) two first.2.1.0;
        name_is = pair.name_is;
        expr_stands = subst (λ n. Stands w.items.items.items w.items.text.items n pair.inner first.2.2.0) three first.2.2.1;
        list_place = pair.p;
        place = pair.q;
        closed = subst (λ n. IsParenAt w.items.items.items n Close pair.q) (sym end) first.3;
        ends = record { close = o.ends.close; place = o.ends.place; stand = subst (λ n. StandAll w.items.items.items w.items.text.items n es o.ends.close) behind stand.2; closed = o.ends.closed };
        pairs_are = pair.rest_is;
        body_end = o.body_end;
        body_stands = o.body_stands;
        close_place = o.close_place;
        body_closed = o.body_closed;
        pending_are = ap (λ (xs : Named ℕ). (o.name, id) ∷ xs) o.pending_are;
        start_is = o.start_is;
        own_are = (refl, h.stands, o.own_are);
        good_names = (h.good_tree, o.good);
        scope_is = h.around.scope_is;
        good = h.around.good;
        bound_are = h.around.bound_are;
        binders_are = h.around.binders_are;
        holds = h.around.holds.1;
        looks = h.around.looks;
        looked = h.around.looked;
        gives = h.gives
            ∙ ap (λ (fs : List Frame). resume fs (Ok (h.tree, h.around.looks))) (o.frames_are ∙ ap (λ (ps : Exprs). Binding o.names o.name ps o.body h.c ∷ o.outer) f)
            ∙ ap (λ (t : Expr). resume o.outer (bound_looks (also t es) ((o.name, h.tree) ∷ o.names) o.body h.c h.around.looks)) pair.e_is;
      }

-- what stands behind a term of a `let`
module _ (w : Source) (trees : List Tree) (s : State) (name_at start id at : ℕ) (given : Result Seen Fault) (h : IsMade w trees (with_open (opened.Let name_at start) s) id at given) where
  abbrev o : IsLet w trees h.M name_at start h.frames at h.c s.pending
  o = open-let w trees s name_at start id at given h

  pub let-within : (at + 1 ≤ o.ends.close) × (o.ends.close + 1 < length w.items.items.items) × (o.body_end < length w.items.items.items) × (o.ends.close + 1 < o.body_end)
  let-within = (
    stand_all_le w.items.items.items w.items.text.items (at + 1) o.pairs o.ends.close o.ends.stand,
    begins w.items.items.items w.items.text.items (o.ends.close + 1) o.body o.body_end o.body_stands,
    slice_get_within w.items.items.items o.body_end _ o.body_closed.1,
    stands_lt w.items.items.items w.items.text.items (o.ends.close + 1) o.body o.body_end o.body_stands,
  )
    where
      begins : (items : List Item) (text : List ℕ) (i : ℕ) (e : Expr) (to : ℕ) → Stands items text i e to → i < length items
      begins items text i (atom l) to k = slice_get_within items i _ k.0.item
      begins items text i (list p inside q) to k = slice_get_within items i _ k.1.1

  module _ (x : Item) (there : slice_get w.items.items.items (at + 1) ≡ Some x) where
    pub no-more : x.kind ≡ Close → (o.pairs ≡ none) × (o.ends.close ≡ at + 1)
    no-more k = go o.pairs o.ends
      where
        go : (ps : Exprs) (ends : EndsIn w (at + 1) ps) → (ps ≡ none) × (ends.close ≡ at + 1)
        go none ends = (refl, ends.stand)
        go (also e es) ends = absurd (begins-open w (at + 1) ends.stand.0 e x ends.stand.1 there k)

    pub one-more-pair : (x.kind ≡ Close → ⊥) → (e : Expr) × (es : Exprs) × (o.pairs ≡ also e es)
    one-more-pair ne = go o.pairs o.ends
      where
        go : (ps : Exprs) (ends : EndsIn w (at + 1) ps) → (e : Expr) × (es : Exprs) × (ps ≡ also e es)
        go none ends = absurd (ne (ap (λ (y : Item). y.kind) (some-item x _ (sym there ∙ ap (slice_get w.items.items.items) (sym ends.stand) ∙ ends.closed.1))))
        go (also e es) ends = (e, es, refl)

  -- the name that is read
  pub let-has : (x : Item) → x ≡ get_or w.items.items.items name_at x → name_in w.items.text.items x ≡ Some o.name
  let-has x e = go (slice_get w.items.items.items name_at) refl o.name_is
    where
      go : (i : Option Item) → slice_get w.items.items.items name_at ≡ i → option_and_then (name_in w.items.text.items) i ≡ Some o.name → name_in w.items.text.items x ≡ Some o.name
      go None f g = absurd (cc)
      go (Some y) f g =
          let same : x ≡ y = e ∙ get_or_from_slice_get w.items.items.items name_at y x f in
          ap (name_in w.items.text.items) same ∙ g

  pub let-name : (x : Item) → x ≡ get_or w.items.items.items name_at x → (name : List ℕ) → Some name ≡ name_in w.items.text.items x → name ≡ o.name
  let-name x e name is = go (slice_get w.items.items.items name_at) refl o.name_is
    where
      go : (i : Option Item) → slice_get w.items.items.items name_at ≡ i → option_and_then (name_in w.items.text.items) i ≡ Some o.name → name ≡ o.name
      go None f g = absurd (cc)
      go (Some y) f g =
          let same : x ≡ y = e ∙ get_or_from_slice_get w.items.items.items name_at y x f in
          let k : Some name ≡ Some o.name = is ∙ ap (name_in w.items.text.items) same ∙ g in
          cc

  pub next-state : (e : Expr) (es : Exprs) → o.pairs ≡ also e es → (name : List ℕ) → name ≡ o.name → (pending : Named ℕ) → pending ≡ (name, id) ∷ s.pending → IsAtPair w trees (record s { pending = pending }) (at + 1 + 1) start given
  next-state e es f name n pending p =
      let two : at + 2 ≡ at + 1 + 1 = omega arith in
      let all : (o.name, id) ∷ s.pending ≡ pending = ap (λ (m : List ℕ). (m, id) ∷ s.pending) (sym n) ∙ sym p in
      subst (λ (xs : Named ℕ). IsAtPair w trees (record s { pending = xs }) (at + 1 + 1) start given) all
      (subst (λ m. IsAtPair w trees (record s { pending = (o.name, id) ∷ s.pending }) m start given) two (into-next w trees s name_at start id at given h e es f))

  pub body-ends : o.ends.close ≡ at + 1 → (o.body_end ≤ length w.items.items.items) × EndsBefore w.items.items.items (at + 1 + 1) o.body_end
  body-ends f =
      let b = stands_before w.items.items.items w.items.text.items (o.ends.close + 1) o.body o.body_end o.body_stands in
      (b.0, subst (λ n. EndsBefore w.items.items.items (n + 1) o.body_end) f b.1)

  pub last-state : (o.pairs ≡ none) × (o.ends.close ≡ at + 1) → (name : List ℕ) → name ≡ o.name → (stack : List Opened) (bound pending left : Named ℕ) (close count : ℕ) → pending ≡ (name, id) ∷ s.pending → EndsBefore w.items.items.items (at + 1 + 1) close → count ≡ length s.bound → opened.Passing close count ∷ s.stack ≡ stack → bound ≡ take (length pending - start) pending ++ s.bound → left ≡ drop (length pending - start) pending → IsReading w trees (record { stack = stack; done = s.done; bound = bound; pending = left; binders = s.binders; watched = s.watched }) (at + 1 + 1) given
  last-state k name n stack bound pending left close count p ends c st b l =
      let two : at + 2 ≡ at + 1 + 1 = omega arith in
      let all : (o.name, id) ∷ s.pending ≡ pending = ap (λ (m : List ℕ). (m, id) ∷ s.pending) (sym n) ∙ sym p in
      let is-close : o.body_end ≡ close = ends_once w.items.items.items (at + 1 + 1) o.body_end close (body-ends k.1).1 ends in
      let whole : opened.Passing o.body_end (length s.bound) ∷ s.stack ≡ stack = ap (λ m. opened.Passing m (length s.bound) ∷ s.stack) is-close ∙ ap (λ m. opened.Passing close m ∷ s.stack) (sym c) ∙ st in
      let last = into-last w trees s name_at start id at given h k.0 k.1 in
      let last = subst (λ (os : List Opened). IsReading w trees (record { stack = os; done = s.done; bound = take (length ((o.name, id) ∷ s.pending) - start) ((o.name, id) ∷ s.pending) ++ s.bound; pending = drop (length ((o.name, id) ∷ s.pending) - start) ((o.name, id) ∷ s.pending); binders = s.binders; watched = s.watched }) (at + 2) given) whole last in
      let last = subst (λ (xs : Named ℕ). IsReading w trees (record { stack = stack; done = s.done; bound = take (length xs - start) xs ++ s.bound; pending = drop (length xs - start) xs; binders = s.binders; watched = s.watched }) (at + 2) given) all last in
      let last = subst (λ (xs : Named ℕ). IsReading w trees (record { stack = stack; done = s.done; bound = xs; pending = drop (length pending - start) pending; binders = s.binders; watched = s.watched }) (at + 2) given) (sym b) last in
      let last = subst (λ (xs : Named ℕ). IsReading w trees (record { stack = stack; done = s.done; bound = bound; pending = xs; binders = s.binders; watched = s.watched }) (at + 2) given) (sym l) last in
      subst (λ m. IsReading w trees (record { stack = stack; done = s.done; bound = bound; pending = left; binders = s.binders; watched = s.watched }) m given) two last

-- a `let` that has not its shape
pub let-refused : (place : ℕ) (first : Expr) (rest : Exprs) (c : Context) (looks : List Look) → binding_of rest ≡ None → looks_of_list Let place first rest c looks ≡ refuse place Form
let-refused place first (also (list p pairs q) (also body none)) c looks e = ap (λ (o : Option (List Pair)). (still (formed place o) ▷ λ _. bound_looks pairs [] body c) looks) e
let-refused place first none c looks e = refl
let-refused place first (also (atom l) es) c looks e = refl
let-refused place first (also (list p pairs q) none) c looks e = refl
let-refused place first (also (list p pairs q) (also body (also f fs))) c looks e = refl

some-first : (pairs : Exprs) (some : List Pair) → some_pairs (pairs_of pairs) ≡ Some some → (e : Expr) × (es : Exprs) × (ps : List Pair) × (pairs ≡ also e es) × (pairs_of pairs ≡ Some ps)
some-first none some h = absurd (cc)
some-first (also e es) some h = go (pairs_of (also e es)) refl h
  where
    go : (o : Option (List Pair)) → pairs_of (also e es) ≡ o → some_pairs o ≡ Some some → (f : Expr) × (fs : Exprs) × (ps : List Pair) × (also e es ≡ also f fs) × (pairs_of (also e es) ≡ Some ps)
    go (Some ps) f g = (e, es, ps, refl, f)
    go None f g = absurd (cc)

-- its first pair
pub into-first : (w : Source) (trees : List Tree) (s : State) (at close place end : ℕ) (given : Result Seen Fault) (h : IsInList w trees s at close place Let given) → IsBoundBy w.items.items.items w.items.text.items h.second h.rest close end → IsAtPair w trees s (h.second + 2) (length s.pending) given
into-first w trees s at close place end given h b =
    let some = some-first b.pairs b.some b.pairs_are in
    let pair = pair-then some.0 some.1 some.2 (ap pairs_of (sym some.3) ∙ some.4) in
    let stand = subst (λ (ps : Exprs). StandAll w.items.items.items w.items.text.items (h.second + 1) ps end) some.3 b.stand in
    let first = subst (λ (t : Expr). Stands w.items.items.items w.items.text.items (h.second + 1) t stand.0) pair.e_is stand.1 in
    let two : h.second + 1 + 1 ≡ h.second + 2 = omega arith in
    let three : first.2.0 ≡ h.second + 2 + 1 = first.2.1.1 ∙ omega arith in
    let same : first.2.2.0 ≡ first.0 = sym first.2.2.2 in
    let behind : stand.0 ≡ first.2.2.0 + 1 = first.4 ∙ ap (λ n. n + 1) (sym same) in
    record {
      names = [];
      lexeme = pair.l;
      expr = pair.inner;
      expr_end = first.2.2.0;
      pairs = some.1;
      some = pair.some;
      body = b.body;
      c = h.c;
      M = h.M;
      frames = h.frames;
      before = s.pending;
      own = [];
      name_stands = subst (λ n. IsAtomAt w.items.items.items w.items.text.items n pair.l) two first.2.1.0;
      name_is = pair.name_is;
      expr_stands = subst (λ n. Stands w.items.items.items w.items.text.items n pair.inner first.2.2.0) three first.2.2.1;
      list_place = pair.p;
      place = pair.q;
      closed = subst (λ n. IsParenAt w.items.items.items n Close pair.q) (sym same) first.3;
      ends = record { close = end; place = b.close_place; stand = subst (λ n. StandAll w.items.items.items w.items.text.items n some.1 end) behind stand.2; closed = b.closed };
      pairs_are = pair.rest_is;
      body_end = close;
      body_stands = b.body_stands;
      close_place = h.close_place;
      body_closed = h.closed;
      pending_are = refl;
      start_is = refl;
      own_are = tt;
      good_names = tt;
      scope_is = h.around.scope_is;
      good = h.around.good;
      bound_are = h.around.bound_are;
      binders_are = h.around.binders_are;
      holds = h.around.holds;
      looks = h.around.looks;
      looked = h.around.looked;
      gives = h.gives
          ∙ ap (λ (es : Exprs). resume h.frames (looks_of_list Let place h.first es h.c h.around.looks)) b.rest_is
          ∙ into-let h.frames place b.place b.close_place h.first b.body b.pairs h.c h.around.looks b.some b.pairs_are
          ∙ ap (λ (ps : Exprs). resume h.frames (bound_looks ps [] b.body h.c h.around.looks)) (some.3 ∙ ap (λ (t : Expr). also t some.1) pair.e_is);
    }
