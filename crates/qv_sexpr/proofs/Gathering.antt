-- The items of open lists, as tokens come.
use Rattle.std.proofs.Common.{ℕ, ◌==◌, ◌≡◌, ◌≢◌, ◌+◌, ◌<◌, ◌≤◌, Bool, true, false, List, [], ◌∷◌, ◌++◌, length, take, drop, set, get_or, Option, None, Some, Ok, refl, sym, ap, subst, ◌∙◌, arith, length-append, length-drop, length-set}
use Rattle.std.specs.List.{slice_get}
use Rattle.std.proofs.lemmas.List.{length_push, same_from_push, drop_at, take_all, take_at}
use Rattle.std.proofs.lemmas.Bool.{ne_eqb}
use Rattle.std.proofs.lemmas.Option.{slice_get_within, get_or_from_slice_get}
use Rattle.qv_text.specs.declared.kinds.TokenKind.TheVariants.{RightParen}
use Rattle.qv_text.specs.Reading.{Lexeme, ends}
use Rattle.qv_sexpr.specs.declared.answers.ParseKind.TheVariants.{Unfinished}
use Rattle.qv_sexpr.specs.declared.building.Builder.{Builder}
use Rattle.qv_sexpr.specs.declared.items.Item.{Item}
use Rattle.qv_sexpr.specs.declared.items.ItemKind.{ItemKind}
use Rattle.qv_sexpr.specs.declared.items.ItemKind.TheVariants.{Atom, Open, Close}
use Rattle.qv_sexpr.specs.Script.{Trees, all_read, parsing, atom, list, none, stops}
use Rattle.qv_sexpr.specs.Items.{IsToken, IsAtomAt, IsParenAt, Stands, StandAll}
use Rattle.qv_sexpr.specs.Building.{Levels, Opened, Builds, TakenAt, outermost, resumes}
use Rattle.qv_sexpr.proofs.Standing.{get_front, get_last, get_set_other, get_set_same, range_front, stand_all_le, Keeps, stand_all_kept, paren_kept, keeps_part, snoc, stand_all_snoc}
use Rattle.qv_sexpr.proofs.Levels.{resumes_close, resumes_complete, resumes_end, resumes_unfinished}

pub opened_lengths : (items : List Item) (text : List ℕ) (unclosed : List ℕ) (lists : Levels) (j : ℕ) → Opened items text unclosed lists j → length unclosed ≡ length lists
opened_lengths items text unclosed [] j h = ap length h.0
opened_lengths items text unclosed (level ∷ outer) j h =
    ap length h.3 ∙ length_push h.0 h.1 ∙ omega (arith, opened_lengths items text h.0 outer h.1 h.6)

pub opened_kept : (items : List Item) (text : List ℕ) (items' : List Item) (text' : List ℕ) (unclosed : List ℕ) (lists : Levels) (j : ℕ) → Keeps items text items' text' 0 j →
    Opened items text unclosed lists j → Opened items' text' unclosed lists j
opened_kept items text items' text' unclosed [] j keeps h = h
opened_kept items text items' text' unclosed (level ∷ outer) j keeps h =
    let le : h.1 + 1 ≤ j = stand_all_le items text (h.1 + 1) level.1 j h.5 in (
      h.0,
      h.1,
      h.2,
      h.3,
      paren_kept items text items' text' 0 j h.1 (Open h.2) level.0 keeps (omega arith) (omega arith) h.4,
      stand_all_kept items text items' text' (h.1 + 1) level.1 j (keeps_part items text items' text' 0 j (h.1 + 1) j (omega arith) (omega arith) keeps) h.5,
      opened_kept items text items' text' h.0 outer h.1 (keeps_part items text items' text' 0 j 0 h.1 (omega arith) (omega arith) keeps) h.6,
    )

-- items and bytes that are added keep what is there
keeps_added : (items more : List Item) (text bytes : List ℕ) (from to : ℕ) → Keeps items text (items ++ more) (text ++ bytes) from to
keeps_added items more text bytes from to = record {
  kept = λ i x low high e. get_front items more i x e;
  longer = omega (arith, length-append text bytes);
  texts = λ i j le within. range_front text bytes i j le within;
}

keeps_items : (items more : List Item) (text : List ℕ) (from to : ℕ) → Keeps items text (items ++ more) text from to
keeps_items items more text from to = record {
  kept = λ i x low high e. get_front items more i x e;
  longer = omega arith;
  texts = λ i j le within. refl;
}

-- the same fact of other names of these lists
opened_as : (items items' : List Item) (text text' : List ℕ) (unclosed unclosed' : List ℕ) (lists : Levels) → items' ≡ items → text' ≡ text → unclosed' ≡ unclosed →
    Opened items text unclosed lists (length items) → Opened items' text' unclosed' lists (length items')
opened_as items items' text text' unclosed unclosed' lists e f g h =
    subst (λ (is : List Item). Opened is text' unclosed' lists (length is)) (sym e)
    (subst (λ (t : List ℕ). Opened items t unclosed' lists (length items)) (sym f)
    (subst (λ (u : List ℕ). Opened items text u lists (length items)) (sym g) h))

-- a list is opened
pub taken_open : (old new : Builder) (place at n number : ℕ) (lists : Levels) → Builds old lists → number ≡ length old.items.items →
    new.items.items ≡ old.items.items ++ (record { kind = Open n; place = place; start = at; end = at }) ∷ [] → new.text.items ≡ old.text.items →
    new.unclosed.items ≡ old.unclosed.items ++ number ∷ [] → Builds new ((place, none) ∷ lists)
taken_open old new place at n number lists h is e f g =
    let items = old.items.items in
    let item : Item = record { kind = Open n; place = place; start = at; end = at } in
    opened_as (items ++ item ∷ []) new.items.items old.text.items new.text.items (old.unclosed.items ++ length items ∷ []) new.unclosed.items ((place, none) ∷ lists) e f (g ∙ ap (λ i. old.unclosed.items ++ i ∷ []) is) (
      old.unclosed.items,
      length items,
      n,
      refl,
      (at, get_last items item),
      length_push items item,
      opened_kept items old.text.items (items ++ item ∷ []) old.text.items old.unclosed.items lists (length items) (keeps_items items (item ∷ []) old.text.items 0 (length items)) h,
    )

-- an atom is added
atom_added : (items : List Item) (text : List ℕ) (l : Lexeme) → IsToken l.kind l.text →
    IsAtomAt (items ++ (record { kind = Atom l.kind; place = l.place; start = length text; end = length (text ++ l.text) }) ∷ []) (text ++ l.text) (length items) l
atom_added items text l token = record {
  start = length text;
  end = length (text ++ l.text);
  item = get_last items _;
  ordered = omega (arith, length-append text l.text);
  within = omega arith;
  text_is = take_all _ (drop (length text) (text ++ l.text)) (omega (arith, length-append text l.text, length-drop (length text) (text ++ l.text))) ∙ drop_at text l.text (length text) refl;
  token = token;
}

pub taken_atom : (old new : Builder) (l : Lexeme) (start from to : ℕ) (es : Trees) (outer : Levels) → Builds old ((start, es) ∷ outer) → IsToken l.kind l.text →
    from ≡ length old.text.items → to ≡ length new.text.items →
    new.items.items ≡ old.items.items ++ (record { kind = Atom l.kind; place = l.place; start = from; end = to }) ∷ [] →
    new.text.items ≡ old.text.items ++ l.text → new.unclosed.items ≡ old.unclosed.items → Builds new ((start, snoc es (atom l)) ∷ outer)
taken_atom old new l start from to es outer h token low high e f g =
    let items = old.items.items in
    let text = old.text.items in
    let item : Item = record { kind = Atom l.kind; place = l.place; start = length text; end = length (text ++ l.text) } in
    let same : ◌≡◌ {A = Item} (record { kind = Atom l.kind; place = l.place; start = from; end = to }) item = cc (low, high ∙ ap length f) in
    let kept : Opened (items ++ item ∷ []) (text ++ l.text) old.unclosed.items ((start, es) ∷ outer) (length items) =
    opened_kept items text (items ++ item ∷ []) (text ++ l.text) old.unclosed.items ((start, es) ∷ outer) (length items) (keeps_added items (item ∷ []) text l.text 0 (length items)) h in
    opened_as (items ++ item ∷ []) new.items.items (text ++ l.text) new.text.items old.unclosed.items new.unclosed.items ((start, snoc es (atom l)) ∷ outer) (e ∙ ap (λ (x : Item). items ++ x ∷ []) same) f g (
      kept.0,
      kept.1,
      kept.2,
      kept.3,
      kept.4,
      stand_all_snoc (items ++ item ∷ []) (text ++ l.text) (kept.1 + 1) es (length items) (atom l) (length (items ++ item ∷ [])) kept.5 (atom_added items text l token, length_push items item),
      kept.6,
    )

-- the number of the innermost open parenthesis
pub innermost : (items : List Item) (text : List ℕ) (others : List ℕ) (number : ℕ) (lists : Levels) (j : ℕ) → Opened items text (others ++ number ∷ []) lists j →
    (level : ℕ × Trees) × (outer : Levels) × (n : ℕ) × (lists ≡ level ∷ outer) × IsParenAt items number (Open n) level.0 × StandAll items text (number + 1) level.1 j × Opened items text others outer number
innermost items text others number [] j h = absurd (omega (arith, ap length h.0, length_push others number))
innermost items text others number (level ∷ outer) j h =
    let same = same_from_push others h.0 number h.1 h.3 in (
      level,
      outer,
      h.2,
      refl,
      subst (λ i. IsParenAt items i (Open h.2) level.0) (sym same.1) h.4,
      subst (λ i. StandAll items text (i + 1) level.1 j) (sym same.1) h.5,
      subst (λ (u : List ℕ). Opened items text u outer number) (sym same.0) (subst (λ i. Opened items text h.0 outer i) (sym same.1) h.6),
    )

-- a closed list, where it is the whole command or stands in another one
closed : (new : Builder) (level : ℕ × Trees) (outer : Levels) (number place : ℕ) (text : List ℕ) (complete : Bool) →
    Stands new.items.items new.text.items number (list level.0 level.1 place) (length new.items.items) →
    Opened new.items.items new.text.items new.unclosed.items outer number → complete ≡ (length new.unclosed.items == 0) →
    TakenAt (level ∷ outer) (record { kind = RightParen; place = place; text = text }) (Ok complete) new
closed new level [] number place text complete stands opened e =
    let whole : complete ≡ true = e ∙ ap (λ (u : List ℕ). length u == 0) opened.0 in
    subst (λ b. TakenAt (level ∷ []) (record { kind = RightParen; place = place; text = text }) (Ok b) new) (sym whole) (
      list level.0 level.1 place,
      subst (λ i. Stands new.items.items new.text.items i (list level.0 level.1 place) (length new.items.items)) opened.1 stands,
      λ ts. resumes_complete level.0 level.1 place text ts,
      refl,
    )
closed new level (next ∷ outer) number place text complete stands opened e =
    let part : complete ≡ false = e ∙ ne_eqb (length new.unclosed.items) 0 (λ z. absurd (omega (arith, ap length opened.3, length_push opened.0 opened.1))) in
    subst (λ b. TakenAt (level ∷ next ∷ outer) (record { kind = RightParen; place = place; text = text }) (Ok b) new) (sym part) (
      (next.0, snoc next.1 (list level.0 level.1 place)) ∷ outer,
      (
        opened.0,
        opened.1,
        opened.2,
        opened.3,
        opened.4,
        stand_all_snoc new.items.items new.text.items (opened.1 + 1) next.1 number (list level.0 level.1 place) (length new.items.items) opened.5 stands,
        opened.6,
      ),
      λ ts. resumes_close level.0 level.1 next.0 next.1 outer place text ts,
    )

-- the items with the number of a close, and that close at the end
abbrev closed_items : List Item → ℕ → Item → Item → List Item
closed_items items number first last = set items number first ++ last ∷ []

keeps_closed : (items : List Item) (text : List ℕ) (number : ℕ) (first last : Item) (from to : ℕ) → ((i : ℕ) → from ≤ i → i < to → i ≢ number) → Keeps items text (closed_items items number first last) text from to
keeps_closed items text number first last from to other = record {
  kept = λ i x low high e. get_front (set items number first) (last ∷ []) i x (get_set_other items i number first (other i low high) ∙ e);
  longer = omega arith;
  texts = λ i j le within. refl;
}

-- a list is closed
pub taken_close : (old new : Builder) (lists : Levels) (others : List ℕ) (number place at close : ℕ) (text : List ℕ) (complete : Bool) → Builds old lists → close ≡ length old.items.items →
    old.unclosed.items ≡ others ++ number ∷ [] → new.unclosed.items ≡ others → new.text.items ≡ old.text.items →
    ((item : Item) → new.items.items ≡ closed_items old.items.items number (record (get_or old.items.items number item) { kind = Open close }) (record { kind = Close; place = place; start = at; end = at })) →
    complete ≡ (length new.unclosed.items == 0) → TakenAt lists (record { kind = RightParen; place = place; text = text }) (Ok complete) new
taken_close old new lists others number place at close text complete h is u g f e whole =
    let items = old.items.items in
    let bytes = old.text.items in
    let inner = innermost items bytes others number lists (length items) (subst (λ (xs : List ℕ). Opened items bytes xs lists (length items)) u h) in
    let level = inner.0 in
    let outer = inner.1 in
    let was : Item = record { kind = Open inner.2; place = level.0; start = inner.4.0; end = inner.4.0 } in
    let first : Item = record { kind = Open (length items); place = level.0; start = inner.4.0; end = inner.4.0 } in
    let last : Item = record { kind = Close; place = place; start = at; end = at } in
    let now = closed_items items number first last in
    let is_now : new.items.items ≡ now = e was ∙ ap (λ (x : Item). closed_items items number (record x { kind = Open close }) last) (get_or_from_slice_get items number was was inner.4.1) ∙ ap (λ n. closed_items items number (record was { kind = Open n }) last) is in
    let size : length (set items number first) ≡ length items = length-set items number first in
    let stands : Stands now bytes number (list level.0 level.1 place) (length now) = (
      length items,
      (inner.4.0, get_front (set items number first) (last ∷ []) number first (get_set_same items number was first inner.4.1)),
      stand_all_kept items bytes now bytes (number + 1) level.1 (length items) (keeps_closed items bytes number first last (number + 1) (length items) (λ i low high same. absurd (omega (arith, low, same)))) inner.5,
      (at, subst (λ i. slice_get now i ≡ Some last) size (get_last (set items number first) last)),
      length_push (set items number first) last ∙ ap (λ n. n + 1) size,
    ) in
    let opened : Opened now bytes others outer number =
    opened_kept items bytes now bytes others outer number (keeps_closed items bytes number first last 0 number (λ i low high same. absurd (omega (arith, high, same)))) inner.6 in
    subst (λ (ls : Levels). TakenAt ls (record { kind = RightParen; place = place; text = text }) (Ok complete) new) (sym inner.3)
    (closed new level outer number place text complete
    (subst (λ (is : List Item). Stands is new.text.items number (list level.0 level.1 place) (length is)) (sym is_now) (subst (λ (t : List ℕ). Stands now t number (list level.0 level.1 place) (length now)) (sym f) stands))
    (subst (λ (is : List Item). Opened is new.text.items new.unclosed.items outer number) (sym is_now)
    (subst (λ (t : List ℕ). Opened now t new.unclosed.items outer number) (sym f) (subst (λ (xs : List ℕ). Opened now bytes xs outer number) (sym g) opened)))
    whole)

-- a slice of all items, written through
pub written : (items slice after : List Item) (number len : ℕ) (kind : ItemKind) (item : Item) (last : List Item) → slice ≡ items → len ≡ length items →
    after ≡ set slice number (record (get_or slice number item) { kind = kind }) →
    take len (after ++ drop (length after) items) ++ last ≡ set items number (record (get_or items number item) { kind = kind }) ++ last
written items slice after number len kind item last e size h =
    let is : after ≡ set items number (record (get_or items number item) { kind = kind }) = h ∙ ap (λ (xs : List Item). set xs number (record (get_or xs number item) { kind = kind })) e in
    ap (λ (xs : List Item). xs ++ last)
    (take_at after (drop (length after) items) len (ap length is ∙ length-set items number (record (get_or items number item) { kind = kind }) ∙ sym size) ∙ is)

-- only where no list is open no parenthesis is
pub none_open : (items : List Item) (text unclosed : List ℕ) (lists : Levels) (j : ℕ) → Opened items text unclosed lists j → unclosed ≡ [] → lists ≡ []
none_open items text unclosed [] j h e = refl
none_open items text unclosed (level ∷ outer) j h e = absurd (omega (arith, ap length e, ap length h.3, length_push h.0 h.1))

pub some_open : (items : List Item) (text unclosed : List ℕ) (lists : Levels) (j : ℕ) → Opened items text unclosed lists j → 0 < length unclosed → (level : ℕ × Trees) × (outer : Levels) × (lists ≡ level ∷ outer)
some_open items text unclosed [] j h some = absurd (omega (arith, ap length h.0))
some_open items text unclosed (level ∷ outer) j h some = (level, outer, refl)

-- the first item is the outermost parenthesis
pub first_item : (items : List Item) (text unclosed : List ℕ) (level : ℕ × Trees) (outer : Levels) (j : ℕ) → Opened items text unclosed (level ∷ outer) j →
    (n : ℕ) × IsParenAt items 0 (Open n) (outermost level.0 outer)
first_item items text unclosed level [] j h = (h.2, subst (λ i. IsParenAt items i (Open h.2) level.0) h.6.1 h.4)
first_item items text unclosed level (next ∷ outer) j h = first_item items text h.0 next outer h.1 h.6

-- the place of an item, where there is one
abbrev place_of : Item → Option Item → ℕ
place_of x None = x.place
place_of x (Some y) = y.place

-- why reading stops where the text ends
pub ends_outside : (items : List Item) (text unclosed : List ℕ) (lists : Levels) → Opened items text unclosed lists (length items) → slice_get items 0 ≡ None → resumes lists ends ≡ stops all_read
ends_outside items text unclosed [] h e = resumes_end
ends_outside items text unclosed (level ∷ outer) h e = cc (e, (first_item items text unclosed level outer (length items) h).1.1)

pub ends_inside : (items : List Item) (text unclosed : List ℕ) (lists : Levels) (x : Item) → Opened items text unclosed lists (length items) → slice_get items 0 ≡ Some x →
    resumes lists ends ≡ stops (parsing (record { place = x.place; kind = Unfinished }))
ends_inside items text unclosed [] x h e = absurd (omega (arith, slice_get_within items 0 x e, h.1))
ends_inside items text unclosed (level ∷ outer) x h e =
    let first = first_item items text unclosed level outer (length items) h in
    let same : x.place ≡ outermost level.0 outer = ap (λ (y : Option Item). place_of x y) (sym e ∙ first.1.1) in
    resumes_unfinished level outer ∙ ap (λ p. stops (parsing (record { place = p; kind = Unfinished }))) (sym same)
