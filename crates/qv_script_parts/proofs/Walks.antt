-- The walk for terms with names: what each of its steps leaves.
use Rattle.std.proofs.Common.{◌≡◌, ◌≤◌, ◌<◌, ◌+◌, ◌-◌, ◌&&◌, ◌||◌, not, ℕ, suc, Bool, true, false, cond, Option, Some, None, List, [], ◌∷◌, ◌++◌, length, drop, reverse, Bor, refl, sym, ap, subst, ◌∙◌, append_assoc, slice_get, Ok, Err, arith}
use Rattle.std.proofs.lemmas.Bool.Decides.{nat_tests}
use Rattle.std.proofs.lemmas.List.{reverse-append}
use Rattle.std.proofs.lemmas.Option.{slice_get_within}
use Rattle.std.proofs.Math.ListN.{length-append}
use Rattle.std.specs.Prelude.{Result, IfOk, is_some, nat_lt, option_map}
use Rattle.std.specs.Str.{bytes_eq}
use Rattle.qv_text.specs.declared.kinds.TokenKind.{TokenKind}
use Rattle.qv_sexpr.specs.declared.items.Expr.{Expr}
use Rattle.qv_sexpr.specs.declared.items.Item.{Item}
use Rattle.qv_sexpr.specs.declared.items.ItemKind.{ItemKind}
use Rattle.qv_sexpr.specs.declared.items.ItemKind.TheVariants.{Atom, Open, Close}
use Rattle.qv_sexpr.specs.Script.{atom, list, none, also}
use Rattle.qv_sexpr.specs.Script.{Tree as Written, Trees as Writtens}
use Rattle.qv_sexpr.specs.Items.{IsAtomAt, IsParenAt, Stands, StandAll}
use Rattle.qv_text.specs.Reading.{Lexeme}
use Rattle.qv_sexpr.proofs.Copies.{stands_before, ends_once}
use Rattle.qv_sexpr.specs.Copying.{EndsAt, EndsBefore}
use Rattle.qv_sexpr.proofs.Standing.{stands_lt, stand_all_le}
use Rattle.qv_elab_defs.specs.Faults.{◌>>=◌}
use Rattle.qv_elab_defs.specs.Tokens.{name_of_token}
use Rattle.qv_elab_defs.specs.Shapes.{Construct, Let, Quantified, Quantifier, Annotated, Indexed, Qualified, Unsupported, Application, construct_of, Pair, with_pair, pairs_of, some_pairs, are_attributes, Naming, Unnamed, Named as NamedBy, Misnamed, naming}
use Rattle.qv_elab_items.specs.Flat.{name_in, construct_in}
use Rattle.qv_elab_items.specs.Inside.{binding_of, IsBoundBy}
use Rattle.qv_elab_items.specs.Places.{place_in}
use Rattle.qv_elab_items.specs.Listed.{meant}
use Rattle.qv_elab_items.specs.declared.shapes.Shape.{Shape}
use Rattle.qv_elab_items.specs.declared.shapes.Shape.TheVariants as shape
use Rattle.qv_elab_items.proofs.Attributed.{next-at}
use Rattle.qv_elab_items.proofs.Pairing.{some-item}
use Rattle.qv_elab_items.proofs.Slices.{item_of, paren_of, construct-stands}
use Rattle.qv_script_defs.specs.declared.faults.ScriptFault.{ScriptFault}
use Rattle.qv_script_defs.specs.declared.faults.ScriptFault.TheVariants.{At, NoMemory}
use Rattle.qv_script_defs.specs.declared.faults.ScriptKind.TheVariants.{NotSupported}
use Rattle.qv_script_defs.specs.Faults.{Fault, refuse}
use Rattle.qv_script_defs.specs.Parts.{Asserted, asserted_of, asserted_by, asserted_with}
use Rattle.qv_script_defs.specs.Labels.{Label, Around, nothing, below, within, is_among, is_outside, unless_outside, name_by, name_of, with_label, if_pairs, labels_in, labels_listed, labels_all}
use Rattle.qv_script_parts.specs.declared.labels.Around.{Around as Told}
use Rattle.qv_script_parts.specs.declared.labels.Task.{Task}
use Rattle.qv_script_parts.specs.declared.labels.Task.TheVariants as task
use Rattle.qv_script_parts.specs.Parted.{IsPart}
use Rattle.qv_script_parts.specs.Walking.{IsLabel, AreLabels, Due, Each, Below, Named, gives, names_in, IsAround, ArePairsAt, AreDue, IsOpen, LeadsTo, TellsLabels, IsAt, IsAtName, IsOpenAt, IsWithin, is_below, is_name_outside, pushed_all}
use Rattle.qv_script_parts.proofs.Parting.{part-name, nothing-left}

-- what comes first is the last of the stack
pub pushed : {A : Type 0} (xs ys : List A) (x : A) → ys ≡ xs ++ x ∷ [] → reverse ys ≡ x ∷ reverse xs
pushed xs ys x e = ap reverse e ∙ reverse-append xs (x ∷ [])

-- one after another
pub bind-again : {A B C F : Type 0} (r : Result A F) (f : A → Result B F) (g : B → Result C F) → ((r >>= f) >>= g) ≡ (r >>= λ a. f a >>= g)
bind-again (Ok a) f g = refl
bind-again (Err e) f g = refl

bind-same : {A B F : Type 0} (r : Result A F) (f g : A → Result B F) → ((a : A) → f a ≡ g a) → (r >>= f) ≡ (r >>= g)
bind-same (Ok a) f g h = h a
bind-same (Err e) f g h = refl

bind-end : {A F : Type 0} (r : Result A F) → (r >>= λ a. Ok a) ≡ r
bind-end (Ok a) = refl
bind-end (Err e) = refl

-- the places of names
among-below : (name : List ℕ) (ns : List (List ℕ)) (k : ℕ) → length ns ≤ k → is_below k (place_in name ns) ≡ is_among name ns
among-below name [] k le = refl
among-below name (n ∷ ns) k le = go (bytes_eq n name) (among-below name ns k (omega (arith, le)))
  where
    go : (b : Bool) → is_below k (place_in name ns) ≡ is_among name ns → is_below k (cond b (Some (length ns)) (place_in name ns)) ≡ (b || is_among name ns)
    go true h = let test : nat_lt (length ns) k ≡ true = grind (arith, nat_tests) in test
    go false h = h

among-outer : (name : List ℕ) (inner outer : List (List ℕ)) → is_below (length outer) (place_in name (inner ++ outer)) ≡ (not (is_among name inner) && is_among name outer)
among-outer name [] outer = among-below name outer (length outer) (omega arith)
among-outer name (n ∷ inner) outer = go (bytes_eq n name) (among-outer name inner outer)
  where
    go : (b : Bool) → is_below (length outer) (place_in name (inner ++ outer)) ≡ (not (is_among name inner) && is_among name outer) →
        is_below (length outer) (cond b (Some (length (inner ++ outer))) (place_in name (inner ++ outer))) ≡ (not (b || is_among name inner) && is_among name outer)
    go true h =
        let longer = length-append inner outer in
        let test : nat_lt (length (inner ++ outer)) (length outer) ≡ false = grind (arith, nat_tests) in
        test
    go false h = h

pub outside-is : (name : List ℕ) (a : Around) → is_name_outside (length a.outer) (Some name) (names_in a) ≡ is_outside name a
outside-is name a = among-outer name a.inner a.outer

-- what was bound behind
drop-front : (front ns : List (List ℕ)) → drop (length (front ++ ns) - length ns) (front ++ ns) ≡ ns
drop-front [] ns = let none : length ns - length ns ≡ 0 = omega arith in ap (λ n. drop n ns) none
drop-front (x ∷ front) ns =
    let longer = length-append front ns in
    let more : length (x ∷ front ++ ns) - length ns ≡ suc (length (front ++ ns) - length ns) = omega (arith, longer) in
    ap (λ n. drop n (x ∷ front ++ ns)) more ∙ drop-front front ns

pub truncated : (names : List (List ℕ)) (t : Told) (a : Around) → IsAround names t a → drop (length names - t.bound) names ≡ names_in a
truncated names t a h =
    ap (λ n. drop (length names - n) names) h.bound
    ∙ ap (λ (ns : List (List ℕ)). drop (length ns - length (names_in a)) ns) h.names_are
    ∙ drop-front h.front (names_in a)

pub around-itself : (names : List (List ℕ)) (t : Told) (a : Around) → IsAround names t a → IsAround (names_in a) t a
around-itself names t a h = record { front = []; names_are = refl; bound = h.bound; outside = h.outside; place = h.place }

around-longer : (front names : List (List ℕ)) (t : Told) (a : Around) → IsAround names t a → IsAround (front ++ names) t a
around-longer front names t a h = record {
  front = front ++ h.front;
  names_are = ap (λ ns. front ++ ns) h.names_are ∙ sym (append_assoc front h.front (names_in a));
  bound = h.bound;
  outside = h.outside;
  place = h.place;
}

-- the names of pairs
below-names : (ps : List Pair) (a : Around) → names_in (below ps a) ≡ pushed_all ps (names_in a)
below-names [] a = refl
below-names (p ∷ ps) a = below-names ps (record a { inner = p.name ∷ a.inner })

below-outer : (ps : List Pair) (a : Around) → (below ps a).outer ≡ a.outer
below-outer [] a = refl
below-outer (p ∷ ps) a = below-outer ps (record a { inner = p.name ∷ a.inner })

below-place : (ps : List Pair) (a : Around) → (below ps a).place ≡ a.place
below-place [] a = refl
below-place (p ∷ ps) a = below-place ps (record a { inner = p.name ∷ a.inner })

pushed-front : (ps : List Pair) (ns : List (List ℕ)) → (front : List (List ℕ)) × (pushed_all ps ns ≡ front ++ ns)
pushed-front [] ns = ([], refl)
pushed-front (p ∷ ps) ns =
    let more = pushed-front ps (p.name ∷ ns) in
    (more.0 ++ p.name ∷ [], more.1 ∙ sym (append_assoc more.0 (p.name ∷ []) ns))

pairs-some : (o : Option (List Pair)) (ps : List Pair) → some_pairs o ≡ Some ps → o ≡ Some ps
pairs-some (Some (q ∷ qs)) ps e = e
pairs-some (Some []) ps e = absurd (cc)
pairs-some None ps e = absurd (cc)

atom-open : (kind : TokenKind) (n : ℕ) → ◌≡◌ {A = ItemKind} (Atom kind) (Open n) → ⊥
atom-open kind n h = cc

open-same : (m n : ℕ) → ◌≡◌ {A = ItemKind} (Open m) (Open n) → m ≡ n
open-same m n h = cc

module _ (expr : Expr) where
  -- what is left stays so where more is bound
  due-longer : (ts : List Task) (front names : List (List ℕ)) (ds : List Due) → AreDue expr ts names ds → AreDue expr ts (front ++ names) ds
  due-longer [] front names [] h = tt
  due-longer (task.Each from to t ∷ ts) front names (Each es a ∷ ds) h = (h.0, h.1, around-longer front names t a h.2, h.3)
  due-longer (task.Below at from to t ∷ ts) front names (Below ps body a ∷ ds) h = (h.0, h.1, h.2, around-longer front names t a h.3, h.4)
  due-longer (task.Named at ∷ ts) front names (Named l ∷ ds) h = (h.0, due-longer ts front names ds h.1)
  due-longer [] front names (d ∷ ds) h = absurd h
  due-longer (task.Each from to t ∷ ts) front names [] h = absurd h
  due-longer (task.Each from to t ∷ ts) front names (Below ps body a ∷ ds) h = absurd h
  due-longer (task.Each from to t ∷ ts) front names (Named l ∷ ds) h = absurd h
  due-longer (task.Below at from to t ∷ ts) front names [] h = absurd h
  due-longer (task.Below at from to t ∷ ts) front names (Each es a ∷ ds) h = absurd h
  due-longer (task.Below at from to t ∷ ts) front names (Named l ∷ ds) h = absurd h
  due-longer (task.Named at ∷ ts) front names [] h = absurd h
  due-longer (task.Named at ∷ ts) front names (Each es a ∷ ds) h = absurd h
  due-longer (task.Named at ∷ ts) front names (Below ps body a ∷ ds) h = absurd h

  due-around : (ts : List Task) (names : List (List ℕ)) (t : Told) (a : Around) (ds : List Due) → IsAround names t a → AreDue expr ts (names_in a) ds → AreDue expr ts names ds
  due-around ts names t a ds h d = subst (λ (ns : List (List ℕ)). AreDue expr ts ns ds) (sym h.names_are) (due-longer ts h.front (names_in a) ds d)

  labels-more : (ats : List ℕ) (ls : List Label) (at : ℕ) (l : Label) → IsLabel expr at l → AreLabels expr ats ls → AreLabels expr (ats ++ at ∷ []) (ls ++ l ∷ [])
  labels-more [] [] at l is h = (is, tt)
  labels-more [] (m ∷ ls) at l is h = absurd h
  labels-more (b ∷ ats) [] at l is h = absurd h
  labels-more (b ∷ ats) (m ∷ ls) at l is h = (h.0, labels-more ats ls at l is h.1)

  -- nothing is left of some expressions
  module _ (from to : ℕ) (t : Told) (ts : List Task) (names : List (List ℕ)) (found : List ℕ) (given : Result (List Label) Fault) where
    pub none-left : to ≤ from → IsOpen expr (task.Each from to t ∷ ts) names found given → IsOpen expr ts names found given
    none-left le h = go h.dues h.due h.given_is
      where
        go : (ds : List Due) → AreDue expr (task.Each from to t ∷ ts) names ds → given ≡ gives ds h.labels → IsOpen expr ts names found given
        go [] d e = absurd d
        go (Below ps body a ∷ ds) d e = absurd d
        go (Named l ∷ ds) d e = absurd d
        go (Each es a ∷ ds) d e =
            let empty = nothing-left expr.items.items expr.text.items from to es d.0 le in
            record { dues = ds; labels = h.labels; due = due-around ts names t a ds d.2 d.3; found_are = h.found_are; given_is = e ∙ ap (λ (xs : Writtens). labels_all xs a h.labels >>= gives ds) empty }

    -- where the next of them ends
    pub each-begins : from < to → IsOpen expr (task.Each from to t ∷ ts) names found given → (es : Writtens) × StandAll expr.items.items expr.text.items from es to × (to ≤ length expr.items.items)
    each-begins lt h = go h.dues h.due
      where
        go : (ds : List Due) → AreDue expr (task.Each from to t ∷ ts) names ds → (es : Writtens) × StandAll expr.items.items expr.text.items from es to × (to ≤ length expr.items.items)
        go [] d = absurd d
        go (Below ps body a ∷ ds) d = absurd d
        go (Named l ∷ ds) d = absurd d
        go (Each es a ∷ ds) d = (es, d.0, d.1)

    pub each-entered : from < to → (next : ℕ) → EndsBefore expr.items.items from next → IsOpen expr (task.Each from to t ∷ ts) names found given → IsAt expr from t (task.Each next to t ∷ ts) names found given
    each-entered lt next ends h = go h.dues h.due h.given_is
      where
        go : (ds : List Due) → AreDue expr (task.Each from to t ∷ ts) names ds → given ≡ gives ds h.labels → IsAt expr from t (task.Each next to t ∷ ts) names found given
        go [] d e = absurd d
        go (Below ps body a ∷ ds) d e = absurd d
        go (Named l ∷ ds) d e = absurd d
        go (Each es a ∷ ds) d e =
            let n = next-at expr.items.items expr.text.items from to es d.0 lt next ends in
            record {
              e = n.0;
              to = next;
              a = a;
              dues = Each n.1 a ∷ ds;
              labels = h.labels;
              stands = n.3;
              around = d.2;
              due = (n.4, d.1, around-itself names t a d.2, d.3);
              found_are = h.found_are;
              given_is = e ∙ ap (λ (xs : Writtens). labels_all xs a h.labels >>= gives ds) n.2 ∙ bind-again (labels_in n.0 a h.labels) (labels_all n.1 a) (gives ds);
            }

  -- an atom
  module _ (at : ℕ) (t : Told) (ts : List Task) (names : List (List ℕ)) (found : List ℕ) (given : Result (List Label) Fault) where
    pub atom-named : (x : Item) → slice_get expr.items.items at ≡ Some x → ((n : ℕ) → x.kind ≡ Open n → ⊥) → IsAt expr at t ts names found given → IsAtName expr (name_in expr.text.items x) t ts names found given
    atom-named x there other h = go h.e h.stands h.given_is
      where
        go : (e : Written) → Stands expr.items.items expr.text.items at e h.to → given ≡ (labels_in e h.a h.labels >>= gives h.dues) → IsAtName expr (name_in expr.text.items x) t ts names found given
        go (list p inside q) s k =
            let same : paren_of (Open s.0) p s.1.0 ≡ x = some-item (paren_of (Open s.0) p s.1.0) x (sym s.1.1 ∙ there) in
            absurd (other s.0 (ap (λ (y : Item). y.kind) (sym same)))
        go (atom l) s k = record {
          a = h.a;
          dues = h.dues;
          labels = h.labels;
          around = h.around;
          due = h.due;
          found_are = h.found_are;
          given_is = k ∙ ap (λ (o : Option (List ℕ)). unless_outside o h.a h.labels >>= gives h.dues) (sym (part-name expr.items.items expr.text.items at (atom l) h.to x s there));
        }

  -- a name
  module _ (name : Option (List ℕ)) (t : Told) (ts : List Task) (names : List (List ℕ)) (found : List ℕ) (given : Result (List Label) Fault) (bound : List (List ℕ)) (cut : bound ≡ drop (length names - t.bound) names) where
    name-tested : (x : List ℕ) (a : Around) → IsAround names t a → is_name_outside t.outside (Some x) bound ≡ is_outside x a
    name-tested x a h =
        ap (λ n. is_name_outside n (Some x) bound) h.outside
        ∙ ap (λ (ns : List (List ℕ)). is_name_outside (length a.outer) (Some x) ns) (cut ∙ truncated names t a h)
        ∙ outside-is x a

    pub name-refused : IsAtName expr name t ts names found given → true ≡ is_name_outside t.outside name bound → given ≡ refuse t.place NotSupported
    name-refused h test = go name h.given_is test
      where
        go : (o : Option (List ℕ)) → given ≡ (unless_outside o h.a h.labels >>= gives h.dues) → true ≡ is_name_outside t.outside o bound → given ≡ refuse t.place NotSupported
        go None e k = absurd (cc)
        go (Some x) e k =
            e ∙ ap (λ b. cond b (refuse h.a.place NotSupported) (Ok h.labels) >>= gives h.dues) (sym (name-tested x h.a h.around) ∙ sym k)
            ∙ ap (λ n. refuse n NotSupported) (sym h.around.place)

    pub name-passed : IsAtName expr name t ts names found given → false ≡ is_name_outside t.outside name bound → IsOpen expr ts bound found given
    name-passed h test = record {
      dues = h.dues;
      labels = h.labels;
      due = subst (λ (ns : List (List ℕ)). AreDue expr ts ns h.dues) (sym (cut ∙ truncated names t h.a h.around)) h.due;
      found_are = h.found_are;
      given_is = go name h.given_is test;
    }
      where
        go : (o : Option (List ℕ)) → given ≡ (unless_outside o h.a h.labels >>= gives h.dues) → false ≡ is_name_outside t.outside o bound → given ≡ gives h.dues h.labels
        go None e k = e
        go (Some x) e k = e ∙ ap (λ b. cond b (refuse h.a.place NotSupported) (Ok h.labels) >>= gives h.dues) (sym (name-tested x h.a h.around) ∙ sym k)

  -- where a list is entered
  pub open-here : (at close : ℕ) (t : Told) (ts : List Task) (names : List (List ℕ)) (found : List ℕ) (given : Result (List Label) Fault) (x : Item) → slice_get expr.items.items at ≡ Some x → x.kind ≡ Open close → IsAt expr at t ts names found given → IsOpenAt expr at close
  open-here at close t ts names found given x there kind h = go h.e h.stands
    where
      go : (e : Written) → Stands expr.items.items expr.text.items at e h.to → IsOpenAt expr at close
      go (atom l) s =
          let same : item_of l s.0.start s.0.end ≡ x = some-item (item_of l s.0.start s.0.end) x (sym s.0.item ∙ there) in
          absurd (atom-open l.kind close (ap (λ (y : Item). y.kind) same ∙ kind))
      go (list p inside q) s =
          let same : paren_of (Open s.0) p s.1.0 ≡ x = some-item (paren_of (Open s.0) p s.1.0) x (sym s.1.1 ∙ there) in
          let number : s.0 ≡ close = open-same s.0 close (ap (λ (y : Item). y.kind) same ∙ kind) in
          (p, subst (λ n. IsParenAt expr.items.items at (Open n) p) number s.1)

  -- what a list is by its first item
  first-construct : (i : ℕ) (e : Written) (j : ℕ) (x : Item) → Stands expr.items.items expr.text.items i e j → slice_get expr.items.items i ≡ Some x → construct_in expr.text.items x ≡ construct_of e
  first-construct i (atom l) j x s there =
      let same : item_of l s.0.start s.0.end ≡ x = some-item (item_of l s.0.start s.0.end) x (sym s.0.item ∙ there) in
      ap (construct_in expr.text.items) (sym same) ∙ construct-stands expr.items.items expr.text.items i l s.0
  first-construct i (list p inside q) j x s there =
      let same : paren_of (Open s.0) p s.1.0 ≡ x = some-item (paren_of (Open s.0) p s.1.0) x (sym s.1.1 ∙ there) in
      ap (construct_in expr.text.items) (sym same)

  pub within-is : (at second close : ℕ) (con : Construct) (t : Told) (ts : List Task) (names : List (List ℕ)) (found : List ℕ) (given : Result (List Label) Fault) (x : Item) → slice_get expr.items.items (at + 1) ≡ Some x → (h : IsWithin expr at second close con t ts names found given) →
      (other : Construct) → construct_in expr.text.items x ≡ other → IsWithin expr at second close other t ts names found given
  within-is at second close con t ts names found given x there h other e =
      subst (λ c. IsWithin expr at second close c t ts names found given) (sym h.con_is ∙ sym (first-construct (at + 1) h.first second x h.first_stands there) ∙ e) h

  -- a list
  module _ (at close : ℕ) (t : Told) (ts : List Task) (names : List (List ℕ)) (found : List ℕ) (given : Result (List Label) Fault) (opens : IsOpenAt expr at close) where
    abbrev IsWithinSome : ℕ → Type 0
    IsWithinSome second = (con : Construct) × IsWithin expr at second close con t ts names found given

    -- what stands in it
    pub list-here : (h : IsAt expr at t ts names found given) → (inside : Writtens) × (q : ℕ) × StandAll expr.items.items expr.text.items (at + 1) inside close × IsParenAt expr.items.items close Close q × (given ≡ (labels_in (list opens.0 inside q) h.a h.labels >>= gives h.dues))
    list-here h = go h.e h.stands h.given_is
      where
        go : (e : Written) → Stands expr.items.items expr.text.items at e h.to → given ≡ (labels_in e h.a h.labels >>= gives h.dues) →
            (inside : Writtens) × (q : ℕ) × StandAll expr.items.items expr.text.items (at + 1) inside close × IsParenAt expr.items.items close Close q × (given ≡ (labels_in (list opens.0 inside q) h.a h.labels >>= gives h.dues))
        go (atom l) s k =
            let same : item_of l s.0.start s.0.end ≡ paren_of (Open close) opens.0 opens.1.0 = some-item (item_of l s.0.start s.0.end) (paren_of (Open close) opens.0 opens.1.0) (sym s.0.item ∙ opens.1.1) in
            absurd (atom-open l.kind close (ap (λ (y : Item). y.kind) same))
        go (list p inside q) s k =
            let same : paren_of (Open s.0) p s.1.0 ≡ paren_of (Open close) opens.0 opens.1.0 = some-item (paren_of (Open s.0) p s.1.0) (paren_of (Open close) opens.0 opens.1.0) (sym s.1.1 ∙ opens.1.1) in
            let number : s.0 ≡ close = open-same s.0 close (ap (λ (y : Item). y.kind) same) in (
              inside,
              q,
              subst (λ n. StandAll expr.items.items expr.text.items (at + 1) inside n) number s.2,
              subst (λ n. IsParenAt expr.items.items n Close q) number s.3,
              k ∙ ap (λ n. labels_in (list n inside q) h.a h.labels >>= gives h.dues) (ap (λ (y : Item). y.place) same),
            )

    pub empty-list : close ≤ at + 1 → IsAt expr at t ts names found given → IsOpen expr ts names found given
    empty-list le h =
        let l = list-here h in
        let empty = nothing-left expr.items.items expr.text.items (at + 1) close l.0 l.2 le in
        record {
          dues = h.dues;
          labels = h.labels;
          due = due-around ts names t h.a h.dues h.around h.due;
          found_are = h.found_are;
          given_is = l.4 ∙ ap (λ (xs : Writtens). labels_in (list opens.0 xs l.1) h.a h.labels >>= gives h.dues) empty;
        }

    pub list-begins : IsAt expr at t ts names found given → (es : Writtens) × StandAll expr.items.items expr.text.items (at + 1) es close × (close < length expr.items.items)
    list-begins h = let l = list-here h in (l.0, l.2, slice_get_within expr.items.items close _ l.3.1)

    pub list-entered : at + 1 < close → (second : ℕ) → EndsBefore expr.items.items (at + 1) second → IsAt expr at t ts names found given → IsWithinSome second
    list-entered lt second ends h =
        let l = list-here h in
        let n = next-at expr.items.items expr.text.items (at + 1) close l.0 l.2 lt second ends in (
          construct_of n.0,
          record {
            place = opens.0;
            first = n.0;
            rest = n.1;
            close_place = l.1;
            a = h.a;
            dues = h.dues;
            labels = h.labels;
            opens = opens.1;
            first_stands = n.3;
            con_is = refl;
            rest_stand = n.4;
            closed = l.3;
            around = h.around;
            due = h.due;
            found_are = h.found_are;
            given_is = l.4 ∙ ap (λ (xs : Writtens). labels_in (list opens.0 xs l.1) h.a h.labels >>= gives h.dues) n.2;
          },
        )

  -- in a list
  module _ (at second close : ℕ) (t : Told) (ts : List Task) (names : List (List ℕ)) (found : List ℕ) (given : Result (List Label) Fault) where
    pub within-bounds : (con : Construct) → IsWithin expr at second close con t ts names found given → (at + 1 < second) × (second ≤ close) × (close < length expr.items.items) × (at < length expr.items.items)
    within-bounds con h = (
      stands_lt expr.items.items expr.text.items (at + 1) h.first second h.first_stands,
      stand_all_le expr.items.items expr.text.items second h.rest close h.rest_stand,
      slice_get_within expr.items.items close _ h.closed.1,
      slice_get_within expr.items.items at _ h.opens.1,
    )

    -- nothing in it has a name
    pub nothing-within : (con : Construct) (h : IsWithin expr at second close con t ts names found given) → labels_listed con h.place h.rest h.a h.labels ≡ Ok h.labels → IsOpen expr ts names found given
    nothing-within con h e = record {
      dues = h.dues;
      labels = h.labels;
      due = due-around ts names t h.a h.dues h.around h.due;
      found_are = h.found_are;
      given_is = h.given_is ∙ ap (λ (r : Result (List Label) Fault). r >>= gives h.dues) e;
    }

    applied-all : (place : ℕ) (rest : Writtens) (a : Around) (ls : List Label) → labels_listed Application place rest a ls ≡ labels_all rest a ls
    applied-all place none a ls = refl
    applied-all place (also e es) a ls = refl

    pub applied-within : close ≤ length expr.items.items → IsWithin expr at second close Application t ts names found given → IsOpen expr (task.Each second close t ∷ ts) names found given
    applied-within le h = record {
      dues = Each h.rest h.a ∷ h.dues;
      labels = h.labels;
      due = (h.rest_stand, le, h.around, h.due);
      found_are = h.found_are;
      given_is = h.given_is ∙ ap (λ (r : Result (List Label) Fault). r >>= gives h.dues) (applied-all h.place h.rest h.a h.labels);
    }

    -- other lists
    pub other-within : (sh : Shape) → (sh ≡ shape.Let → ⊥) → (sh ≡ shape.Universal → ⊥) → (sh ≡ shape.Existential → ⊥) → (sh ≡ shape.Annotated → ⊥) → (sh ≡ shape.Application → ⊥) → IsWithin expr at second close (meant sh) t ts names found given → IsOpen expr ts names found given
    other-within shape.Let n0 n1 n2 n3 n4 h = absurd (n0 refl)
    other-within shape.Universal n0 n1 n2 n3 n4 h = absurd (n1 refl)
    other-within shape.Existential n0 n1 n2 n3 n4 h = absurd (n2 refl)
    other-within shape.Annotated n0 n1 n2 n3 n4 h = absurd (n3 refl)
    other-within shape.Application n0 n1 n2 n3 n4 h = absurd (n4 refl)
    other-within shape.Indexed n0 n1 n2 n3 n4 h = nothing-within Indexed h refl
    other-within shape.Qualified n0 n1 n2 n3 n4 h = nothing-within Qualified h refl
    other-within shape.Unsupported n0 n1 n2 n3 n4 h = nothing-within Unsupported h refl

    -- binders without pairs
    unbound-let : (place : ℕ) (rest : Writtens) (a : Around) (ls : List Label) → binding_of rest ≡ None → labels_listed Let place rest a ls ≡ Ok ls
    unbound-let place none a ls e = refl
    unbound-let place (also (atom l) es) a ls e = refl
    unbound-let place (also (list p pairs q) none) a ls e = refl
    unbound-let place (also (list p pairs q) (also body none)) a ls e = ap (λ (o : Option (List Pair)). if_pairs o ls (λ ps. labels_all pairs a ls >>= labels_in body (below ps a))) e
    unbound-let place (also (list p pairs q) (also body (also f fs))) a ls e = refl

    unbound-quantifier : (q : Quantifier) (place : ℕ) (rest : Writtens) (a : Around) (ls : List Label) → binding_of rest ≡ None → labels_listed (Quantified q) place rest a ls ≡ Ok ls
    unbound-quantifier q place none a ls e = refl
    unbound-quantifier q place (also (atom l) es) a ls e = refl
    unbound-quantifier q place (also (list p pairs r) none) a ls e = refl
    unbound-quantifier q place (also (list p pairs r) (also body none)) a ls e = ap (λ (o : Option (List Pair)). if_pairs o ls (λ ps. labels_in body (below ps a) ls)) e
    unbound-quantifier q place (also (list p pairs r) (also body (also f fs))) a ls e = refl

    pub no-let : (h : IsWithin expr at second close Let t ts names found given) → binding_of h.rest ≡ None → IsOpen expr ts names found given
    no-let h e = nothing-within Let h (unbound-let h.place h.rest h.a h.labels e)

    pub no-quantifier : (q : Quantifier) (h : IsWithin expr at second close (Quantified q) t ts names found given) → binding_of h.rest ≡ None → IsOpen expr ts names found given
    no-quantifier q h e = nothing-within (Quantified q) h (unbound-quantifier q h.place h.rest h.a h.labels e)

    -- a body alone
    alone : (body : Written) (a : Around) (ds : List Due) (ls : List Label) → (labels_in body a ls >>= gives ds) ≡ (labels_all (also body none) a ls >>= gives ds)
    alone body a ds ls = ap (λ (r : Result (List Label) Fault). r >>= gives ds) (sym (bind-end (labels_in body a ls)))

    pairs-here : (con : Construct) (h : IsWithin expr at second close con t ts names found given) (end : ℕ) (b : IsBoundBy expr.items.items expr.text.items second h.rest close end) → ArePairsAt expr second b.some
    pairs-here con h end b =
        let stand = subst (λ (xs : Writtens). StandAll expr.items.items expr.text.items second xs close) b.rest_is h.rest_stand in
        (b.place, b.pairs, b.close_place, stand.0, stand.1, pairs-some (pairs_of b.pairs) b.some b.pairs_are)

    pub let-bound : close ≤ length expr.items.items → (h : IsWithin expr at second close Let t ts names found given) (end : ℕ) (b : IsBoundBy expr.items.items expr.text.items second h.rest close end) → end ≤ length expr.items.items →
        IsOpen expr (task.Each (second + 1) end t ∷ task.Below second (end + 1) close t ∷ ts) names found given
    let-bound le h end b inside =
        let behind : List Due = Below b.some (also b.body none) h.a ∷ h.dues in
        record {
          dues = Each b.pairs h.a ∷ behind;
          labels = h.labels;
          due = (b.stand, inside, h.around, (pairs-here Let h end b, (close, b.body_stands, refl), le, around-itself names t h.a h.around, h.due));
          found_are = h.found_are;
          given_is = h.given_is
              ∙ ap (λ (xs : Writtens). labels_listed Let h.place xs h.a h.labels >>= gives h.dues) b.rest_is
              ∙ ap (λ (o : Option (List Pair)). if_pairs o h.labels (λ ps. labels_all b.pairs h.a h.labels >>= labels_in b.body (below ps h.a)) >>= gives h.dues) b.pairs_are
              ∙ bind-again (labels_all b.pairs h.a h.labels) (labels_in b.body (below b.some h.a)) (gives h.dues)
              ∙ bind-same (labels_all b.pairs h.a h.labels) (λ ls. labels_in b.body (below b.some h.a) ls >>= gives h.dues) (gives behind) (λ ls. alone b.body (below b.some h.a) h.dues ls);
        }

    pub quantifier-bound : close ≤ length expr.items.items → (q : Quantifier) (h : IsWithin expr at second close (Quantified q) t ts names found given) (end : ℕ) (b : IsBoundBy expr.items.items expr.text.items second h.rest close end) →
        IsOpen expr (task.Below second (end + 1) close t ∷ ts) names found given
    quantifier-bound le q h end b = record {
      dues = Below b.some (also b.body none) h.a ∷ h.dues;
      labels = h.labels;
      due = (pairs-here (Quantified q) h end b, (close, b.body_stands, refl), le, h.around, h.due);
      found_are = h.found_are;
      given_is = h.given_is
          ∙ ap (λ (xs : Writtens). labels_listed (Quantified q) h.place xs h.a h.labels >>= gives h.dues) b.rest_is
          ∙ ap (λ (o : Option (List Pair)). if_pairs o h.labels (λ ps. labels_in b.body (below ps h.a) h.labels) >>= gives h.dues) b.pairs_are
          ∙ alone b.body (below b.some h.a) h.dues h.labels;
    }

    -- an annotated term
    no-term : (place : ℕ) (rest : Writtens) (a : Around) (ls : List Label) → rest ≡ none → labels_listed Annotated place rest a ls ≡ Ok ls
    no-term place rest a ls e = ap (λ (xs : Writtens). labels_listed Annotated place xs a ls) e

    pub bare-annotated : close ≤ second → IsWithin expr at second close Annotated t ts names found given → IsOpen expr ts names found given
    bare-annotated le h =
        nothing-within Annotated h (no-term h.place h.rest h.a h.labels (nothing-left expr.items.items expr.text.items second close h.rest h.rest_stand le))

    pub whole : (h : IsWithin expr at second close Annotated t ts names found given) → IsPart expr at (list h.place (also h.first h.rest) h.close_place)
    whole h = (close + 1, (close, h.opens, (second, h.first_stands, h.rest_stand), h.closed, refl))

    -- a name of an asserted term is that of its attributes
    named-by : (w term : Written) (b : Bool) (n : Naming) (name : List ℕ) → (asserted_with w term b n).name ≡ Some name → (name_by b n ≡ Some name) × (asserted_with w term b n ≡ record { term = term; name = Some name })
    named-by w term true (NamedBy m) name e =
        let same : m ≡ name = cc in
        (e, ap (λ k. record { term = term; name = Some k }) same)
    named-by w term true Unnamed name e = absurd (cc)
    named-by w term true Misnamed name e = absurd (cc)
    named-by w term false n name e = absurd (cc)

    unnamed-by : (w term : Written) (b : Bool) (n : Naming) → (asserted_with w term b n).name ≡ None → name_by b n ≡ None
    unnamed-by w term true (NamedBy m) e = absurd (cc)
    unnamed-by w term true Unnamed e = refl
    unnamed-by w term true Misnamed e = refl
    unnamed-by w term false n e = refl

    asserted-is : (w first term : Written) (place q : ℕ) (attributes : Writtens) → construct_of first ≡ Annotated → asserted_of (list place (also first (also term attributes)) q) ≡ asserted_with (list place (also first (also term attributes)) q) term (are_attributes attributes) (naming attributes)
    asserted-is w first term place q attributes e = ap (λ c. asserted_by c (list place (also first (also term attributes)) q) (also term attributes)) e

    module _ (h : IsWithin expr at second close Annotated t ts names found given) (to : ℕ) (term : Written) (attributes : Writtens) (rest_is : h.rest ≡ also term attributes) (stands : Stands expr.items.items expr.text.items second term to) (le : to ≤ length expr.items.items) where
      abbrev e : Written
      e = list h.place (also h.first h.rest) h.close_place

      by-attributes : asserted_of e ≡ asserted_with (list h.place (also h.first (also term attributes)) h.close_place) term (are_attributes attributes) (naming attributes)
      by-attributes = ap (λ (xs : Writtens). asserted_of (list h.place (also h.first xs) h.close_place)) rest_is ∙ asserted-is e h.first term h.place h.close_place attributes h.con_is

      given-by : (o : Option (List ℕ)) → name_of attributes ≡ o → given ≡ ((labels_in term (within o h.place h.a) h.labels >>= λ own. Ok (with_label o term own)) >>= gives h.dues)
      given-by o k =
          h.given_is
          ∙ ap (λ (xs : Writtens). labels_listed Annotated h.place xs h.a h.labels >>= gives h.dues) rest_is
          ∙ ap (λ (p : Option (List ℕ)). (labels_in term (within p h.place h.a) h.labels >>= λ own. Ok (with_label p term own)) >>= gives h.dues) k

      pub annotated-unnamed : (asserted_of e).name ≡ None → IsOpen expr (task.Each second to t ∷ ts) names found given
      annotated-unnamed n =
          let none-given = unnamed-by (list h.place (also h.first (also term attributes)) h.close_place) term (are_attributes attributes) (naming attributes) (sym (ap (λ (x : Asserted). x.name) by-attributes) ∙ n) in
          record {
            dues = Each (also term none) h.a ∷ h.dues;
            labels = h.labels;
            due = ((to, stands, refl), le, h.around, h.due);
            found_are = h.found_are;
            given_is = given-by None none-given;
          }

      pub annotated-named : (t' : Told) → t'.bound ≡ t.bound → t'.outside ≡ t.bound → t'.place ≡ h.place → (name : List ℕ) → (asserted_of e).name ≡ Some name → IsOpen expr (task.Each second to t' ∷ task.Named at ∷ ts) names found given
      annotated-named t' b o p name n =
          let by = named-by (list h.place (also h.first (also term attributes)) h.close_place) term (are_attributes attributes) (naming attributes) name (sym (ap (λ (x : Asserted). x.name) by-attributes) ∙ n) in
          let l : Label = record { name = name; term = term } in
          let a' : Around = within (Some name) h.place h.a in
          let around : IsAround names t' a' = record { front = h.around.front; names_are = h.around.names_are; bound = b ∙ h.around.bound; outside = o ∙ h.around.bound; place = p } in
          record {
            dues = Each (also term none) a' ∷ Named l ∷ h.dues;
            labels = h.labels;
            due = ((to, stands, refl), le, around, ((e, whole h, by-attributes ∙ by.1), h.due));
            found_are = h.found_are;
            given_is = given-by (Some name) by.0 ∙ bind-again (labels_in term a' h.labels) (λ own. Ok (with_label (Some name) term own)) (gives h.dues)
                ∙ sym (bind-again (labels_in term a' h.labels) (λ own. Ok own) (λ own. gives (Named l ∷ h.dues) own));
          }

  -- below the names of pairs
  module _ (at from to : ℕ) (t : Told) (ts : List Task) (names : List (List ℕ)) (found : List ℕ) (given : Result (List Label) Fault) where
    pub below-pairs : IsOpen expr (task.Below at from to t ∷ ts) names found given → (ps : List Pair) × ArePairsAt expr at ps
    below-pairs h = go h.dues h.due
      where
        go : (ds : List Due) → AreDue expr (task.Below at from to t ∷ ts) names ds → (ps : List Pair) × ArePairsAt expr at ps
        go [] d = absurd d
        go (Each es a ∷ ds) d = absurd d
        go (Named l ∷ ds) d = absurd d
        go (Below ps body a ∷ ds) d = (ps, d.0)

    pub below-bound : (bound now : List (List ℕ)) (t' : Told) → bound ≡ drop (length names - t.bound) names → ((ps : List Pair) → ArePairsAt expr at ps → now ≡ pushed_all ps bound) → t'.bound ≡ length now → t'.outside ≡ t.outside → t'.place ≡ t.place →
        IsOpen expr (task.Below at from to t ∷ ts) names found given → IsOpen expr (task.Each from to t' ∷ ts) now found given
    below-bound bound now t' cut push b o p h = go h.dues h.due h.given_is
      where
        go : (ds : List Due) → AreDue expr (task.Below at from to t ∷ ts) names ds → given ≡ gives ds h.labels → IsOpen expr (task.Each from to t' ∷ ts) now found given
        go [] d e = absurd d
        go (Each es a ∷ ds) d e = absurd d
        go (Named l ∷ ds) d e = absurd d
        go (Below ps body a ∷ ds) d e =
            let here : bound ≡ names_in a = cut ∙ truncated names t a d.3 in
            let all : now ≡ names_in (below ps a) = push ps d.0 ∙ ap (λ (ns : List (List ℕ)). pushed_all ps ns) here ∙ sym (below-names ps a) in
            let front = pushed-front ps (names_in a) in
            record {
              dues = Each body (below ps a) ∷ ds;
              labels = h.labels;
              due = (
                d.1,
                d.2,
                record { front = []; names_are = all; bound = b ∙ ap (λ (ns : List (List ℕ)). length ns) all; outside = o ∙ d.3.outside ∙ ap (λ (ns : List (List ℕ)). length ns) (sym (below-outer ps a)); place = p ∙ d.3.place ∙ sym (below-place ps a) },
                subst (λ (ns : List (List ℕ)). AreDue expr ts ns ds) (sym (below-names ps a ∙ front.1)) (due-longer ts front.0 (names_in a) ds d.4),
              );
              found_are = h.found_are;
              given_is = e;
            }

  -- a term with a name ended
  module _ (at : ℕ) (ts : List Task) (names : List (List ℕ)) (found : List ℕ) (given : Result (List Label) Fault) where
    pub name-ends : (now : List ℕ) → now ≡ found ++ at ∷ [] → IsOpen expr (task.Named at ∷ ts) names found given → IsOpen expr ts names now given
    name-ends now more h = subst (λ (ats : List ℕ). IsOpen expr ts names ats given) (sym more) (go h.dues h.due h.given_is)
      where
        go : (ds : List Due) → AreDue expr (task.Named at ∷ ts) names ds → given ≡ gives ds h.labels → IsOpen expr ts names (found ++ at ∷ []) given
        go [] d e = absurd d
        go (Each es a ∷ ds) d e = absurd d
        go (Below ps body a ∷ ds) d e = absurd d
        go (Named l ∷ ds) d e = record { dues = ds; labels = h.labels ++ l ∷ []; due = d.1; found_are = labels-more found h.labels at l d.0 h.found_are; given_is = e }

  -- all was read
  pub all-found : (names : List (List ℕ)) (found : List ℕ) (given : Result (List Label) Fault) → IsOpen expr [] names found given → (ls : List Label) × (given ≡ Ok ls) × AreLabels expr found ls
  all-found names found given h = go h.dues h.due h.given_is
    where
      go : (ds : List Due) → AreDue expr [] names ds → given ≡ gives ds h.labels → (ls : List Label) × (given ≡ Ok ls) × AreLabels expr found ls
      go [] d e = (h.labels, e, h.found_are)
      go (d ∷ ds) k e = absurd k

  -- where a walk begins
  pub begin-each : (es : Writtens) (from to : ℕ) (t : Told) → StandAll expr.items.items expr.text.items from es to → to ≤ length expr.items.items → IsAround [] t nothing → IsOpen expr (task.Each from to t ∷ []) [] [] (labels_all es nothing [])
  begin-each es from to t stand le around = record {
    dues = Each es nothing ∷ [];
    labels = [];
    due = (stand, le, around, tt);
    found_are = tt;
    given_is = sym (bind-end (labels_all es nothing []));
  }

  pub begin-one : (e : Written) (from to : ℕ) (t : Told) → Stands expr.items.items expr.text.items from e to → to ≤ length expr.items.items → IsAround [] t nothing → IsOpen expr (task.Each from to t ∷ []) [] [] (labels_in e nothing [])
  begin-one e from to t stands le around = record {
    dues = Each (also e none) nothing ∷ [];
    labels = [];
    due = ((to, stands, refl), le, around, tt);
    found_are = tt;
    given_is = sym (bind-end (labels_all (also e none) nothing []) ∙ bind-end (labels_in e nothing []));
  }

  pub begin-below : (ps : List Pair) (body : Written) (at from to : ℕ) (t : Told) → ArePairsAt expr at ps → Stands expr.items.items expr.text.items from body to → to ≤ length expr.items.items → IsAround [] t nothing → IsOpen expr (task.Below at from to t ∷ []) [] [] (labels_in body (below ps nothing) [])
  begin-below ps body at from to t pairs stands le around = record {
    dues = Below ps (also body none) nothing ∷ [];
    labels = [];
    due = (pairs, (to, stands, refl), le, around, tt);
    found_are = tt;
    given_is = sym (bind-end (labels_all (also body none) (below ps nothing) []) ∙ bind-end (labels_in body (below ps nothing) []));
  }

-- the names of a list of pairs, one after another
module _ (its : List Item) (text : List ℕ) (close : ℕ) (ps : List Pair) (names : List (List ℕ)) where
  pub record AreLeft (at : ℕ) (now : List (List ℕ)) : Type 0 where
    pub rest : Writtens
    pub left : List Pair
    pub stand : StandAll its text at rest close
    pub pairs : pairs_of rest ≡ Some left
    pub pushed_are : pushed_all ps names ≡ pushed_all left now

  pub record IsNextPair (at : ℕ) (now : List (List ℕ)) : Type 0 where
    pub p : Pair
    pub lexeme : Lexeme
    pub behind : ℕ
    pub name_stands : IsAtomAt its text (at + 1) lexeme
    pub name_is : name_of_token lexeme.kind lexeme.text ≡ Some p.name
    pub ends : EndsBefore its at behind
    pub rises : at < behind
    pub within : behind ≤ close
    pub after : AreLeft behind (p.name ∷ now)

  some-pair : (place : ℕ) (o : Option (List ℕ)) (e : Written) (more : Option (List Pair)) (left : List Pair) → with_pair place o e more ≡ Some left →
      (name : List ℕ) × (rest : List Pair) × (o ≡ Some name) × (more ≡ Some rest) × (left ≡ record { place = place; name = name; beside = e } ∷ rest)
  some-pair place (Some name) e (Some rest) left h = (name, rest, refl, refl, let same : record { place = place; name = name; beside = e } ∷ rest ≡ left = cc in sym same)
  some-pair place (Some name) e None left h = absurd (cc)
  some-pair place None e more left h = absurd (cc)

  pub next-pair : (at : ℕ) (now : List (List ℕ)) → AreLeft at now → at < close → IsNextPair at now
  next-pair at now h lt = go h.rest h.stand h.pairs
    where
      go : (rest : Writtens) → StandAll its text at rest close → pairs_of rest ≡ Some h.left → IsNextPair at now
      go none s e = absurd (omega (arith, s, lt))
      go (also (list p (also (atom l) (also e none)) q) es) s k =
          let inner = s.1 in
          let some = some-pair l.place (name_of_token l.kind l.text) e (pairs_of es) h.left k in
          let up = stands_lt its text at (list p (also (atom l) (also e none)) q) s.0 s.1 in
          let le = stand_all_le its text s.0 es close s.2 in
          record {
            p = record { place = l.place; name = some.0; beside = e };
            lexeme = l;
            behind = s.0;
            name_stands = inner.2.1.0;
            name_is = some.2;
            ends = (stands_before its text at (list p (also (atom l) (also e none)) q) s.0 s.1).1;
            rises = up;
            within = le;
            after = record { rest = es; left = some.1; stand = s.2; pairs = some.3; pushed_are = h.pushed_are ∙ ap (λ (qs : List Pair). pushed_all qs now) some.4 };
          }
      go (also (atom l) es) s k = absurd (cc)
      go (also (list p none q) es) s k = absurd (cc)
      go (also (list p (also (list p2 i2 q2) more) q) es) s k = absurd (cc)
      go (also (list p (also (atom l) none) q) es) s k = absurd (cc)
      go (also (list p (also (atom l) (also e (also f fs))) q) es) s k = absurd (cc)

  pub none-pairs : (at : ℕ) (now : List (List ℕ)) → AreLeft at now → close ≤ at → now ≡ pushed_all ps names
  none-pairs at now h le = go h.rest h.stand h.pairs
    where
      ends : (left : List Pair) → ◌≡◌ {A = Option (List Pair)} (Some []) (Some left) → pushed_all left now ≡ now
      ends left k = let same : [] ≡ left = cc in ap (λ (qs : List Pair). pushed_all qs now) (sym same)

      go : (rest : Writtens) → StandAll its text at rest close → pairs_of rest ≡ Some h.left → now ≡ pushed_all ps names
      go none s k = sym (h.pushed_are ∙ ends h.left k)
      go (also e es) s k =
          let up = stands_lt its text at e s.0 s.1 in
          let more = stand_all_le its text s.0 es close s.2 in
          absurd (omega (arith, up, more, le))

-- the pairs of a list that begins at an item
pub pairs-begin : (expr : Expr) (at close : ℕ) (ps : List Pair) (names : List (List ℕ)) (x : Item) → slice_get expr.items.items at ≡ Some x → x.kind ≡ Open close → ArePairsAt expr at ps → AreLeft expr.items.items expr.text.items close ps names (at + 1) names
pairs-begin expr at close ps names x there kind h =
    let s = h.4 in
    let same : paren_of (Open s.0) h.0 s.1.0 ≡ x = some-item (paren_of (Open s.0) h.0 s.1.0) x (sym s.1.1 ∙ there) in
    let number : s.0 ≡ close = open-same s.0 close (ap (λ (y : Item). y.kind) same ∙ kind) in
    record { rest = h.1; left = ps; stand = subst (λ n. StandAll expr.items.items expr.text.items (at + 1) h.1 n) number s.2; pairs = h.5; pushed_are = refl }

-- such a list has an item, and no other kind
pub pairs-open : (expr : Expr) (at : ℕ) (ps : List Pair) (x : Item) → slice_get expr.items.items at ≡ Some x → ((n : ℕ) → x.kind ≡ Open n → ⊥) → ArePairsAt expr at ps → ⊥
pairs-open expr at ps x there other h =
    let s = h.4 in
    let same : paren_of (Open s.0) h.0 s.1.0 ≡ x = some-item (paren_of (Open s.0) h.0 s.1.0) x (sym s.1.1 ∙ there) in
    other s.0 (ap (λ (y : Item). y.kind) (sym same))

pub pairs-within : (expr : Expr) (at : ℕ) (ps : List Pair) → ArePairsAt expr at ps → at < length expr.items.items
pairs-within expr at ps h = slice_get_within expr.items.items at _ h.4.1.1

-- the name in front of a pair
pub name-of-pair : (its : List Item) (text : List ℕ) (close : ℕ) (ps : List Pair) (names : List (List ℕ)) (at : ℕ) (now : List (List ℕ)) (n : IsNextPair its text close ps names at now) (x : Item) → slice_get its (at + 1) ≡ Some x → name_in text x ≡ Some n.p.name
name-of-pair its text close ps names at now n x there = part-name its text (at + 1) (atom n.lexeme) (at + 1 + 1) x (n.name_stands, refl) there ∙ n.name_is

-- where a list ends
pub ends-open : (its : List Item) (at close to : ℕ) (x : Item) → slice_get its at ≡ Some x → x.kind ≡ Open close → EndsBefore its at to → to ≡ close + 1
ends-open its at close to x there kind h =
    let same : h.0 ≡ x = some-item h.0 x (sym h.1 ∙ there) in
    subst (λ k. EndsAt k at to) (ap (λ (y : Item). y.kind) same ∙ kind) h.2

-- where an answer is there, so little is left
pub ok-less : {A F : Type 0} (r : Result A F) (n m k : ℕ) → IfOk r (λ _. n ≤ m) → m < k → IfOk r (λ _. n < k)
ok-less (Ok a) n m k h lt = omega (arith, h, lt)
ok-less (Err f) n m k h lt = tt

pub ok-any : {A F : Type 0} {P : Type 0} (r : Result A F) → P → IfOk r (λ _. P)
ok-any (Ok a) h = h
ok-any (Err f) h = tt

-- an expression ends where its items do
pub ends-same : (expr : Expr) (at : ℕ) (e : Written) (to n : ℕ) → Stands expr.items.items expr.text.items at e to → EndsBefore expr.items.items at n → Stands expr.items.items expr.text.items at e n × (n ≤ length expr.items.items)
ends-same expr at e to n stands ends =
    let b = stands_before expr.items.items expr.text.items at e to stands in
    let same : to ≡ n = ends_once expr.items.items at to n b.1 ends in
    (subst (λ m. Stands expr.items.items expr.text.items at e m) same stands, subst (λ m. m ≤ length expr.items.items) same b.0)

-- a fault of a step is that of the whole
pub tells-fault : (expr : Expr) (ts : List Task) (names : List (List ℕ)) (found : List ℕ) (given : Result (List Label) Fault) (f : ScriptFault) → LeadsTo expr ts names found given (Err f) → TellsLabels expr given (Err f)
tells-fault expr ts names found given (At p kind) h = h
tells-fault expr ts names found given NoMemory h = tt

-- something that stands there, and no pairs or some
module _ (its : List Item) (text : List ℕ) (at close : ℕ) where
  some-pairs-there : (inside : Writtens) → StandAll its text at inside close → at < close → pairs_of inside ≡ Some [] → ⊥
  some-pairs-there none s lt k = omega (arith, s, lt)
  some-pairs-there (also (list p (also (atom l) (also e none)) q) es) s lt k = let some = some-pair its text close [] [] l.place (name_of_token l.kind l.text) e (pairs_of es) [] k in absurd (let no : [] ≡ record { place = l.place; name = some.0; beside = e } ∷ some.1 = some.4 in cc)
  some-pairs-there (also (atom l) es) s lt k = absurd (cc)
  some-pairs-there (also (list p none q) es) s lt k = absurd (cc)
  some-pairs-there (also (list p (also (list p2 i2 q2) more) q) es) s lt k = absurd (cc)
  some-pairs-there (also (list p (also (atom l) none) q) es) s lt k = absurd (cc)
  some-pairs-there (also (list p (also (atom l) (also e (also f fs))) q) es) s lt k = absurd (cc)

  -- none are parameters as well
  pub no-parameters : (inside : Writtens) → StandAll its text at inside close → close ≤ at → true ≡ is_some (pairs_of inside)
  no-parameters none s le = refl
  no-parameters (also x xs) s le =
      let up = stands_lt its text at x s.0 s.1 in
      let more = stand_all_le its text s.0 xs close s.2 in
      absurd (omega (arith, up, more, le))

  pub some-parameters : (inside : Writtens) → StandAll its text at inside close → at < close → (r : Bool) → r ≡ is_some (some_pairs (pairs_of inside)) → r ≡ is_some (pairs_of inside)
  some-parameters inside s lt r e = go (pairs_of inside) refl e
    where
      go : (o : Option (List Pair)) → pairs_of inside ≡ o → r ≡ is_some (some_pairs o) → r ≡ is_some (pairs_of inside)
      go None k n = n ∙ ap is_some (sym k)
      go (Some []) k n = absurd (some-pairs-there inside s lt k)
      go (Some (p ∷ ps)) k n = n ∙ ap is_some (sym k)

pub the-pairs : (o : Option (List Pair)) → is_some o ≡ true → (ps : List Pair) × (o ≡ Some ps)
the-pairs None e = absurd (cc)
the-pairs (Some ps) e = (ps, refl)

pub not-pairs : (o : Option (List Pair)) → is_some o ≡ false → o ≡ None
not-pairs None e = refl
not-pairs (Some ps) e = absurd (cc)

-- a name that is told
pub named-some : (o : Option (Bor (List ℕ))) (m : Bor (List ℕ)) (x : List ℕ) → option_map (λ (n : Bor (List ℕ)). n.now) o ≡ Some x → o ≡ Some m → m.now ≡ x
named-some o m x e k = let same : Some m.now ≡ Some x = sym (ap (option_map (λ (n : Bor (List ℕ)). n.now)) k) ∙ e in cc

pub named-none : (o : Option (Bor (List ℕ))) (x : List ℕ) → option_map (λ (n : Bor (List ℕ)). n.now) o ≡ Some x → ((m : Bor (List ℕ)) → o ≡ Some m → ⊥) → ⊥
named-none None x e k = absurd (cc)
named-none (Some m) x e k = k m refl

-- where a list of pairs is closed
pub open-item : (expr : Expr) (at close : ℕ) (x : Item) → slice_get expr.items.items at ≡ Some x → x.kind ≡ Open close → (ps : List Pair) → ArePairsAt expr at ps → close < length expr.items.items
open-item expr at close x there kind ps h =
    let s = h.4 in
    let same : paren_of (Open s.0) h.0 s.1.0 ≡ x = some-item (paren_of (Open s.0) h.0 s.1.0) x (sym s.1.1 ∙ there) in
    let number : s.0 ≡ close = open-same s.0 close (ap (λ (y : Item). y.kind) same ∙ kind) in
    let last = slice_get_within expr.items.items s.0 _ s.3.1 in
    omega (arith, number, last)
