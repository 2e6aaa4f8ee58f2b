-- What an expression does at its beginning.
use Rattle.std.proofs.Common.{◌≡◌, ◌≤◌, ◌<◌, ◌+◌, ℕ, Option, Some, List, [], ◌∷◌, length, take, refl, sym, ap, subst, ◌∙◌, Ok, slice_get, get_or, arith}
use Rattle.std.specs.Prelude.{Result}
use Rattle.std.proofs.lemmas.Option.{slice_get_within, slice_get-get_or}
use Rattle.qv_text.specs.declared.kinds.TokenKind.{TokenKind}
use Rattle.qv_text.specs.Reading.{Found, kind_of}
use Rattle.qv_text.specs.Grammar.{IsWhole, IsLongest}
use Rattle.qv_text.proofs.Longest.{longest}
use Rattle.qv_sexpr.proofs.Standing.{stands_lt, stand_all_le}
use Rattle.qv_sexpr.specs.declared.items.Item.{Item}
use Rattle.qv_sexpr.specs.declared.items.ItemKind.{ItemKind}
use Rattle.qv_sexpr.specs.declared.items.ItemKind.TheVariants.{Atom, Open, Close}
use Rattle.qv_sexpr.specs.Script.{atom, list, none, also}
use Rattle.qv_sexpr.specs.Script.{Tree as Expr, Trees as Exprs}
use Rattle.qv_sexpr.specs.Items.{IsToken, IsParenAt, Stands, StandAll}
use Rattle.qv_words.specs.Tree.{Tree}
use Rattle.qv_store.specs.Stores.{Grows}
use Rattle.qv_elab_defs.specs.declared.faults.ElabFault.{ElabFault}
use Rattle.qv_elab_frames.specs.declared.elaborator.Next.{Next}
use Rattle.qv_elab_frames.specs.declared.elaborator.Next.TheVariants.{Made}
use Rattle.qv_elab_defs.specs.declared.faults.ElabKind.TheVariants.{Form}
use Rattle.qv_elab_defs.specs.Faults.{Fault, refuse}
use Rattle.qv_elab_defs.specs.Scopes.{Scope, Context}
use Rattle.qv_elab_defs.specs.Beginnings.{Begins, beginning, list_beginning, looked}
use Rattle.qv_elab_defs.proofs.Beginning.{begins-of, looked-ok}
use Rattle.std.specs.List.{slice_range}
use Rattle.qv_elab_defs.specs.Tokens.{items}
use Rattle.qv_elab_defs.specs.Leaves.{token_tree, indexed_literal}
use Rattle.qv_elab_items.specs.Flat.{text_in, construct_in, indexed_in}
use Rattle.qv_elab_defs.specs.Shapes.{Construct, Indexed, construct_of, indexed_name}
use Rattle.qv_elab_defs.specs.Answers.{Answers}
use Rattle.qv_elab_defs.specs.Looking.{Seen, still, token_looks, looks_of, looks_of_list}
use Rattle.qv_elab_scope.specs.Force.{Force}
use Rattle.qv_elab_scope.specs.Kept.{IsScopeIn}
use Rattle.qv_elab_frames.specs.Frames.{resume}
use Rattle.qv_elab_defs.specs.OpenTrees.{IsGood}
use Rattle.qv_elab_frames.specs.Loop.{Source, State, sorts_of, Holds, IsListAt, IsReading, IsInList, IsNext}
use Rattle.qv_elab_items.proofs.Slices.{item_of, paren_of, text-of, construct-stands, indexed-stands}
use Rattle.qv_elab_defs.proofs.OpenElaborated.{ok-token, ok-indexed}
use Rattle.qv_elab_frames.proofs.Resuming.{resume-fault}
use Rattle.qv_elab_scope.proofs.Growing.{scope-grows, looked-grows}
use Rattle.qv_elab_defs.proofs.Looked.{ma-still, ma-token}
use Rattle.qv_elab_scope.proofs.Seeing.{ok-seen, still-seen, token-seen}
use Rattle.qv_elab_frames.proofs.Departing.{Outcome, ended}

all-taken : (xs : List ℕ) → take (length xs) xs ≡ xs
all-taken [] = refl
all-taken (x ∷ xs) = ap (λ ys. x ∷ ys) (all-taken xs)

-- a token is one of its kind
pub whole-token : (kind : TokenKind) (text : List ℕ) → IsToken kind text → IsWhole kind text
whole-token kind text h =
    let found = subst (λ (r : Found). IsLongest text r) h.1 (longest text) in
    let all : take (length text) text ≡ text = all-taken text in
    subst (λ (k : TokenKind). IsWhole k text) h.2
    (subst (λ (t : List ℕ). IsWhole (kind_of h.0 t) t) all found.0)

-- an outcome as what comes next
pub made-next : (w : Source) (trees : List Tree) (s : State) (at : ℕ) (given : Result Seen Fault) (r : Result ℕ ElabFault) (n : ℕ) → Outcome w trees s at given r → r ≡ Ok n → IsNext w trees s given (Ok (Made n at))
made-next w trees s at given r n h e = subst (λ (q : Result ℕ ElabFault). Outcome w trees s at given q) e h

some-item : (a b : Item) → ◌≡◌ {A = Option Item} (Some a) (Some b) → a ≡ b
some-item a b h = cc

atom-kind : (a b : TokenKind) → ◌≡◌ {A = ItemKind} (Atom a) (Atom b) → a ≡ b
atom-kind a b h = cc

open-atom : (n : ℕ) (k : TokenKind) → ◌≡◌ {A = ItemKind} (Open n) (Atom k) → ⊥
open-atom n k h = cc

-- the expression at an atom
pub record IsAtom (w : Source) (at behind : ℕ) (e : Expr) (x : Item) (kind : TokenKind) : Type 0 where
  pub text : List ℕ
  pub expr_is : e ≡ atom (record { kind = kind; place = x.place; text = text })
  pub text_is : text_in w.items.text.items x ≡ Some text
  pub whole : IsWhole kind text
  pub behind_is : behind ≡ at + 1

pub at-atom : (w : Source) (at behind : ℕ) (e : Expr) (x : Item) (kind : TokenKind) → Stands w.items.items.items w.items.text.items at e behind → slice_get w.items.items.items at ≡ Some x → x.kind ≡ Atom kind → IsAtom w at behind e x kind
at-atom w at behind (atom l) x kind h there k =
    let same : item_of l h.0.start h.0.end ≡ x = some-item (item_of l h.0.start h.0.end) x (sym h.0.item ∙ there) in
    let kinds : l.kind ≡ kind = atom-kind l.kind kind (ap (λ (y : Item). y.kind) same ∙ k) in
    record {
      text = l.text;
      expr_is = ap (λ (q : TokenKind). atom (record { kind = q; place = l.place; text = l.text })) kinds ∙ ap (λ (y : Item). atom (record { kind = kind; place = y.place; text = l.text })) same;
      text_is = ap (text_in w.items.text.items) (sym same) ∙ text-of w.items.items.items w.items.text.items at l h.0;
      whole = subst (λ (q : TokenKind). IsWhole q l.text) kinds (whole-token l.kind l.text h.0.token);
      behind_is = h.1;
    }
at-atom w at behind (list p inside q) x kind h there k =
    let same : paren_of (Open h.0) p h.1.0 ≡ x = some-item (paren_of (Open h.0) p h.1.0) x (sym h.1.1 ∙ there) in
    absurd (open-atom h.0 kind (ap (λ (y : Item). y.kind) same ∙ k))

pub reading-within : (w : Source) (trees : List Tree) (s : State) (at : ℕ) (given : Result Seen Fault) → IsReading w trees s at given → at < length w.items.items.items
reading-within w trees s at given h = go h.expr h.stands
  where
    go : (e : Expr) → Stands w.items.items.items w.items.text.items at e h.behind → at < length w.items.items.items
    go (atom l) k = slice_get_within w.items.items.items at _ k.0.item
    go (list p inside q) k = slice_get_within w.items.items.items at _ k.1.1

-- a token
pub read-token : (w : Source) (trees trees' : List Tree) (force : Force) (s : State) (at : ℕ) (given : Result Seen Fault) (h : IsReading w trees s at given) (x : Item) (kind : TokenKind) (i : IsAtom w at h.behind h.expr x kind) → IsScopeIn trees force w.defs → Grows trees trees' → (r : Result ℕ ElabFault) → Answers trees' (token_tree kind x.place i.text h.c) r → Outcome w trees' s (at + 1) given r
read-token w trees trees' force s at given h x kind i in_force g r a =
    let scope = subst (λ (sc : Scope). IsScopeIn trees' force sc) (sym h.around.scope_is) (scope-grows trees trees' g force w.defs in_force) in
    let looked = looked-grows trees trees' g s.watched h.around.looks h.around.looked in
    subst (λ n. Outcome w trees' s n given r) i.behind_is
    (ended w trees trees' s h.behind h.c h.M h.frames given (token_looks kind x.place i.text h.c h.around.looks) h.around
    (ok-seen (token_looks kind x.place i.text h.c) (token_tree kind x.place i.text h.c) (IsGood (sorts_of w) 0 h.M) h.around.looks (ma-token kind x.place i.text h.c) (ok-token (sorts_of w) 0 h.M kind x.place i.text h.c h.around.good i.whole))
    (h.gives ∙ ap (λ (e : Expr). resume h.frames (looks_of e h.c h.around.looks)) i.expr_is) g s.watched r
    (token-seen trees' force s.watched kind x.place i.text h.c h.around.looks scope looked r a))

-- an atom is looked at whole
pub atom-begins : (w : Source) (at behind : ℕ) (e : Expr) (x : Item) (kind : TokenKind) (i : IsAtom w at behind e x kind) (c : Context) (r : Result ℕ ElabFault) → Begins (token_tree kind x.place i.text c) r → Begins (beginning e c) r
atom-begins w at behind e x kind i c r k =
    subst (λ (t : Expr). Begins (beginning t c) r) (sym i.expr_is)
    (begins-of (token_tree kind x.place i.text c) (looked (token_tree kind x.place i.text c)) r (looked-ok (token_tree kind x.place i.text c)) k)

-- no close begins an expression
pub no-close : (w : Source) (at behind : ℕ) (e : Expr) (x : Item) → Stands w.items.items.items w.items.text.items at e behind → slice_get w.items.items.items at ≡ Some x → x.kind ≡ Close → ⊥
no-close w at behind (atom l) x h there k =
    let same : item_of l h.0.start h.0.end ≡ x = some-item (item_of l h.0.start h.0.end) x (sym h.0.item ∙ there) in
    atoms l.kind (ap (λ (y : Item). y.kind) same ∙ k)
  where
    atoms : (k : TokenKind) → ◌≡◌ {A = ItemKind} (Atom k) Close → ⊥
    atoms k e = cc
no-close w at behind (list p inside q) x h there k =
    let same : paren_of (Open h.0) p h.1.0 ≡ x = some-item (paren_of (Open h.0) p h.1.0) x (sym h.1.1 ∙ there) in
    opens h.0 (ap (λ (y : Item). y.kind) same ∙ k)
  where
    opens : (n : ℕ) → ◌≡◌ {A = ItemKind} (Open n) Close → ⊥
    opens n e = cc

-- a list by its items
pub record IsList (w : Source) (at behind close : ℕ) (e : Expr) (x : Item) : Type 0 where
  pub inside : Exprs
  pub close_place : ℕ
  pub expr_is : e ≡ list x.place inside close_place
  pub stand : StandAll w.items.items.items w.items.text.items (at + 1) inside close
  pub closed : IsParenAt w.items.items.items close Close close_place
  pub behind_is : behind ≡ close + 1

open-same : (a b : ℕ) → ◌≡◌ {A = ItemKind} (Open a) (Open b) → a ≡ b
open-same a b h = cc

atom-open : (k : TokenKind) (n : ℕ) → ◌≡◌ {A = ItemKind} (Atom k) (Open n) → ⊥
atom-open k n h = cc

pub at-list : (w : Source) (at behind close : ℕ) (e : Expr) (x : Item) → Stands w.items.items.items w.items.text.items at e behind → slice_get w.items.items.items at ≡ Some x → x.kind ≡ Open close → IsList w at behind close e x
at-list w at behind close (atom l) x h there k =
    let same : item_of l h.0.start h.0.end ≡ x = some-item (item_of l h.0.start h.0.end) x (sym h.0.item ∙ there) in
    absurd (atom-open l.kind close (ap (λ (y : Item). y.kind) same ∙ k))
at-list w at behind close (list p inside q) x h there k =
    let same : paren_of (Open h.0) p h.1.0 ≡ x = some-item (paren_of (Open h.0) p h.1.0) x (sym h.1.1 ∙ there) in
    let number : h.0 ≡ close = open-same h.0 close (ap (λ (y : Item). y.kind) same ∙ k) in
    record {
      inside = inside;
      close_place = q;
      expr_is = ap (λ (y : Item). list y.place inside q) same;
      stand = subst (λ n. StandAll w.items.items.items w.items.text.items (at + 1) inside n) number h.2;
      closed = subst (λ n. IsParenAt w.items.items.items n Close q) number h.3;
      behind_is = h.4 ∙ ap (λ n. n + 1) number;
    }

-- what a list begins with
pub construct-of : (w : Source) (at m : ℕ) (e : Expr) (x : Item) → Stands w.items.items.items w.items.text.items at e m → slice_get w.items.items.items at ≡ Some x → construct_in w.items.text.items x ≡ construct_of e
construct-of w at m (atom l) x h there =
    let same : item_of l h.0.start h.0.end ≡ x = some-item (item_of l h.0.start h.0.end) x (sym h.0.item ∙ there) in
    ap (construct_in w.items.text.items) (sym same) ∙ construct-stands w.items.items.items w.items.text.items at l h.0
construct-of w at m (list p inside q) x h there =
    let same : paren_of (Open h.0) p h.1.0 ≡ x = some-item (paren_of (Open h.0) p h.1.0) x (sym h.1.1 ∙ there) in
    ap (construct_in w.items.text.items) (sym same)

-- an empty list
pub empty-list : (w : Source) (trees : List Tree) (s : State) (at close : ℕ) (given : Result Seen Fault) (h : IsReading w trees s at given) (x : Item) (l : IsList w at h.behind close h.expr x) → at + 1 ≡ close → given ≡ refuse x.place Form
empty-list w trees s at close given h x l e = go l.inside l.stand refl
  where
    go : (es : Exprs) → StandAll w.items.items.items w.items.text.items (at + 1) es close → l.inside ≡ es → given ≡ refuse x.place Form
    go none k f =
        h.gives ∙ ap (λ (t : Expr). resume h.frames (looks_of t h.c h.around.looks)) (l.expr_is ∙ ap (λ (ts : Exprs). list x.place ts l.close_place) f)
        ∙ resume-fault h.frames (record { place = x.place; kind = Form })
    go (also t ts) k f =
        let lt = stands_lt w.items.items.items w.items.text.items (at + 1) t k.0 k.1 in
        let le = stand_all_le w.items.items.items w.items.text.items k.0 ts close k.2 in
        absurd (omega (arith, lt, le, e))

-- another list by its first expression
pub in-list-at : (w : Source) (trees : List Tree) (s : State) (at close : ℕ) (given : Result Seen Fault) (h : IsReading w trees s at given) (x y : Item) (l : IsList w at h.behind close h.expr x) (con : Construct) → (at + 1 ≡ close → ⊥) → slice_get w.items.items.items (at + 1) ≡ Some y → con ≡ construct_in w.items.text.items y →
    (i : IsInList w trees s at close x.place con given) × (h.expr ≡ list x.place (also i.first i.rest) l.close_place) × (construct_of i.first ≡ con)
in-list-at w trees s at close given h x y l con ne there e = go l.inside l.stand refl
  where
    go : (es : Exprs) → StandAll w.items.items.items w.items.text.items (at + 1) es close → l.inside ≡ es →
        (i : IsInList w trees s at close x.place con given) × (h.expr ≡ list x.place (also i.first i.rest) l.close_place) × (construct_of i.first ≡ con)
    go none k f = absurd (ne (sym k))
    go (also t ts) k f =
        let is : construct_of t ≡ con = sym (construct-of w (at + 1) k.0 t y k.1 there) ∙ sym e in
        let expr : h.expr ≡ list x.place (also t ts) l.close_place = l.expr_is ∙ ap (λ (es : Exprs). list x.place es l.close_place) f in (
          record {
            first = t;
            rest = ts;
            second = k.0;
            close_place = l.close_place;
            c = h.c;
            M = h.M;
            frames = h.frames;
            first_stands = k.1;
            rest_stand = k.2;
            closed = l.closed;
            around = record {
              scope_is = h.around.scope_is;
              good = h.around.good;
              bound_are = h.around.bound_are;
              binders_are = h.around.binders_are;
              holds = subst (λ n. Holds w trees s.stack h.frames n h.c h.M s.done s.pending) l.behind_is h.around.holds;
              looks = h.around.looks;
              looked = h.around.looked;
            };
            gives = h.gives ∙ ap (λ (t : Expr). resume h.frames (looks_of t h.c h.around.looks)) expr
                ∙ ap (λ (q : Construct). resume h.frames (looks_of_list q x.place t ts h.c h.around.looks)) is;
          },
          expr,
          is,
        )

pub in-list : (w : Source) (trees : List Tree) (s : State) (at close : ℕ) (given : Result Seen Fault) (h : IsReading w trees s at given) (x y : Item) (l : IsList w at h.behind close h.expr x) (con : Construct) → (at + 1 ≡ close → ⊥) → slice_get w.items.items.items (at + 1) ≡ Some y → con ≡ construct_in w.items.text.items y → IsInList w trees s at close x.place con given
in-list w trees s at close given h x y l con ne there e = (in-list-at w trees s at close given h x y l con ne there e).0

-- what is looked at first is that of the list
pub list-begins : (w : Source) (trees : List Tree) (s : State) (at close : ℕ) (given : Result Seen Fault) (h : IsReading w trees s at given) (x y : Item) (l : IsList w at h.behind close h.expr x) (con : Construct) (ne : at + 1 ≡ close → ⊥) (there : slice_get w.items.items.items (at + 1) ≡ Some y) (e : con ≡ construct_in w.items.text.items y) (r : Result Next ElabFault) →
    Begins (list_beginning con x.place (in-list-at w trees s at close given h x y l con ne there e).0.first (in-list-at w trees s at close given h x y l con ne there e).0.rest w.defs) r → Begins (beginning h.expr h.c) r
list-begins w trees s at close given h x y l con ne there e r k =
    let p = in-list-at w trees s at close given h x y l con ne there e in
    subst (λ (t : Expr). Begins (beginning t h.c) r) (sym p.1)
    (subst (λ (d : Scope). Begins (list_beginning (construct_of p.0.first) x.place p.0.first p.0.rest d) r) (sym h.around.scope_is)
    (subst (λ (q : Construct). Begins (list_beginning q x.place p.0.first p.0.rest w.defs) r) (sym p.2) k))

-- the open parenthesis
pub is-open : (w : Source) (at close : ℕ) (x : Item) → IsListAt w.items at close → x ≡ get_or w.items.items.items at x → (slice_get w.items.items.items at ≡ Some x) × (x.kind ≡ Open close)
is-open w at close x h e =
    let lt = slice_get_within w.items.items.items at _ h.1.1 in
    let there = slice_get-get_or w.items.items.items at x lt ∙ ap Some (sym e) in
    (there, ap (λ (y : Item). y.kind) (some-item x (paren_of (Open close) h.0 h.1.0) (sym there ∙ h.1.1)))

pub list-next : (w : Source) (at behind close : ℕ) (e : Expr) (x : Item) (l : IsList w at behind close e x) → (at + 1 ≤ close) × (close < length w.items.items.items)
list-next w at behind close e x l = (stand_all_le w.items.items.items w.items.text.items (at + 1) l.inside close l.stand, slice_get_within w.items.items.items close _ l.closed.1)

-- a literal of a value and a width
pub read-indexed : (w : Source) (trees trees' : List Tree) (s : State) (at close place : ℕ) (given : Result Seen Fault) (h : IsInList w trees s at close place Indexed given) → Grows trees trees' → (r : Result ℕ ElabFault) → Answers trees' (indexed_literal place (indexed_in w.items.text.items (slice_range w.items.items.items h.second close))) r → Outcome w trees' s (close + 1) given r
read-indexed w trees trees' s at close place given h g r a =
    let is = indexed-stands w.items.items.items w.items.text.items h.second h.rest close h.rest_stand in
    ended w trees trees' s (close + 1) h.c h.M h.frames given (still (indexed_literal place (indexed_name (items h.rest))) h.around.looks) h.around
    (ok-seen (still (indexed_literal place (indexed_name (items h.rest)))) (indexed_literal place (indexed_name (items h.rest))) (IsGood (sorts_of w) 0 h.M) h.around.looks (ma-still (indexed_literal place (indexed_name (items h.rest)))) (ok-indexed (sorts_of w) 0 h.M place (indexed_name (items h.rest)))) h.gives g s.watched r
    (still-seen trees' s.watched (indexed_literal place (indexed_name (items h.rest))) h.around.looks (looked-grows trees trees' g s.watched h.around.looks h.around.looked) r
    (subst (λ o. Answers trees' (indexed_literal place o) r) (sym is) a))

pub indexed-begins : (w : Source) (trees : List Tree) (s : State) (at close place : ℕ) (given : Result Seen Fault) (h : IsInList w trees s at close place Indexed given) (r : Result ℕ ElabFault) → Begins (indexed_literal place (indexed_in w.items.text.items (slice_range w.items.items.items h.second close))) r → Begins (list_beginning Indexed place h.first h.rest w.defs) r
indexed-begins w trees s at close place given h r k =
    let is = indexed-stands w.items.items.items w.items.text.items h.second h.rest close h.rest_stand in
    begins-of (indexed_literal place (indexed_name (items h.rest))) (list_beginning Indexed place h.first h.rest w.defs) r (looked-ok (indexed_literal place (indexed_name (items h.rest))))
    (subst (λ o. Begins (indexed_literal place o) r) (sym is) k)
