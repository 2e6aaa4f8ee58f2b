-- What is open goes on behind its part.
use Rattle.std.proofs.Common.{◌≡◌, ◌≤◌, ◌<◌, ◌+◌, ◌-◌, ℕ, zero, suc, Option, Some, List, [], ◌∷◌, ◌++◌, length, take, drop, refl, sym, ap, subst, ◌∙◌, Ok, Err, slice_get, arith, append_assoc, length-append, get_or, reverse}
use Rattle.std.specs.Prelude.{Result, IfOk, IfSome}
use Rattle.std.specs.List.{AllByRecursion}
use Rattle.std.proofs.lemmas.Option.{slice_get_within}
use Rattle.qv_sexpr.specs.declared.items.Item.{Item}
use Rattle.qv_sexpr.specs.declared.items.ItemKind.{ItemKind}
use Rattle.qv_sexpr.specs.declared.items.ItemKind.TheVariants.{Atom, Open, Close}
use Rattle.qv_sexpr.specs.Script.{atom, list, none, also, Tree as Expr, Trees as Exprs}
use Rattle.qv_sexpr.specs.Items.{IsParenAt, Stands}
use Rattle.qv_sexpr.proofs.Standing.{stand_all_le}
use Rattle.qv_words.specs.declared.sort.Sort.{Sort}
use Rattle.qv_words.specs.Tree.{Tree}
use Rattle.qv_store.specs.Stores.{StandsAt, Grows}
use Rattle.std.proofs.lemmas.List.{reverse-append}
use Rattle.qv_elab_frames.specs.declared.elaborator.Open.{Open as Opened}
use Rattle.qv_elab_frames.specs.declared.elaborator.Next.{Next}
use Rattle.qv_elab_scope.specs.declared.heads.Head.{Head as Told}
use Rattle.qv_elab_scope.specs.declared.heads.Head.TheVariants as told
use Rattle.qv_elab_defs.specs.declared.faults.ElabFault.{ElabFault}
use Rattle.qv_elab_defs.specs.declared.faults.ElabFault.TheVariants.{At, NoMemory}
use Rattle.qv_elab_frames.specs.declared.elaborator.Open.TheVariants as opened
use Rattle.qv_elab_defs.specs.Faults.{Fault, ◌>>=◌}
use Rattle.qv_elab_macros.specs.declared.standing.Watched.{Watched}
use Rattle.qv_elab_defs.specs.Looking.{Look, Seen, applied_looks}
use Rattle.qv_elab_macros.specs.Checked.{Sees}
use Rattle.qv_elab_defs.specs.Scopes.{Named, Entry, Scope, Context}
use Rattle.qv_elab_defs.specs.Heads.{Head}
use Rattle.qv_elab_defs.specs.Applying.{apply, shallow}
use Rattle.qv_elab_scope.specs.Headed.{IsHead, name_at}
use Rattle.qv_elab_defs.specs.OpenTrees.{IsOpen, IsGood, IsGoodBody, IsGoodEntry}
use Rattle.qv_elab_frames.specs.Frames.{Frame, Applying, resume}
use Rattle.qv_elab_scope.specs.Ids.{applied_at, AreNamedAt, AreAt}
use Rattle.qv_elab_frames.specs.Loop.{Source, State, with_open, sorts_of, EndsIn, IsApplication, Holds, IsReading, IsMade, IsNext, IsAround}
use Rattle.qv_elab_defs.proofs.OpenApplied.{ok-bind, ok-shallow}
use Rattle.qv_elab_defs.proofs.OpenElaborated.{IfMacro, found-all, ok-apply}
use Rattle.qv_elab_defs.proofs.Looked.{applied-makes}
use Rattle.qv_elab_frames.proofs.Resuming.{resume-fault, next-argument}
use Rattle.qv_elab_scope.proofs.Growing.{named-grows}
use Rattle.qv_elab_scope.proofs.IdTrees.{named-length}
use Rattle.qv_elab_frames.proofs.Holding.{holds-grows, around-grows}

-- names with ids, some of them left
named-behind : (trees : List Tree) (xs : Named ℕ) (own ys : Named Tree) → AreNamedAt trees xs (own ++ ys) → AreNamedAt trees (drop (length own) xs) ys
named-behind trees xs [] ys h = h
named-behind trees [] (o ∷ own) ys h = absurd h
named-behind trees (x ∷ xs) (o ∷ own) ys h = named-behind trees xs own ys h.2

lengths : (own ys : Named Tree) → length (own ++ ys) ≡ length own + length ys
lengths [] ys = omega arith
lengths (o ∷ own) ys = ap suc (lengths own ys) ∙ omega arith

pub named-left : (trees : List Tree) (xs : Named ℕ) (all own ys : Named Tree) (n : ℕ) → AreNamedAt trees xs all → all ≡ own ++ ys → n ≡ length ys → AreNamedAt trees (drop (length xs - n) xs) ys
named-left trees xs all own ys n h e k =
    let there = subst (λ zs. AreNamedAt trees xs zs) e h in
    let count = named-length trees xs (own ++ ys) there in
    let at : length own ≡ length xs - n = omega (arith, count, lengths own ys, k) in
    subst (λ m. AreNamedAt trees (drop m xs) ys) at (named-behind trees xs own ys there)

pub paren-within : (w : Source) (i : ℕ) (kind : ItemKind) (place : ℕ) → IsParenAt w.items.items.items i kind place → i < length w.items.items.items
paren-within w i kind place h = slice_get_within w.items.items.items i _ h.1

pub end-within : (w : Source) (i : ℕ) (rest : Exprs) (h : EndsIn w i rest) → (i ≤ h.close) × (h.close < length w.items.items.items)
end-within w i rest h = (stand_all_le w.items.items.items w.items.text.items i rest h.close h.stand, slice_get_within w.items.items.items h.close _ h.closed.1)

-- behind what is its part's own tree
pub passes : (w : Source) (trees : List Tree) (s : State) (close bound id at : ℕ) (given : Result Seen Fault) → IsMade w trees (with_open (opened.Passing close bound) s) id at given → IsMade w trees (record s { bound = drop (length s.bound - bound) s.bound }) id (close + 1) given
passes w trees s close bound id at given h =
    let p = h.around.holds.0 in
    record {
      tree = h.tree;
      c = record h.c { bound = p.around };
      M = h.M;
      frames = p.outer;
      stands = h.stands;
      good_tree = h.good_tree;
      around = record {
        scope_is = h.around.scope_is;
        good = p.good;
        bound_are = named-left trees s.bound h.c.bound p.own p.around bound h.around.bound_are p.bound_are p.bound_is;
        binders_are = h.around.binders_are;
        holds = h.around.holds.1;
        looks = h.around.looks;
        looked = h.around.looked;
      };
      gives = h.gives ∙ ap (λ (fs : List Frame). resume fs (Ok (h.tree, h.around.looks))) p.frames_are;
    }

pub passing-within : (w : Source) (trees : List Tree) (s : State) (close bound id at : ℕ) (given : Result Seen Fault) → IsMade w trees (with_open (opened.Passing close bound) s) id at given → (at ≤ close) × (close < length w.items.items.items)
passing-within w trees s close bound id at given h =
    let p = h.around.holds.0 in
    let inside = end-within w at p.rest p.ends in
    (omega (arith, inside.0, p.close_is), omega (arith, inside.1, p.close_is))

-- one more argument
at-snoc : (trees : List Tree) (ns : List ℕ) (ts : List Tree) (n : ℕ) (t : Tree) → AreAt trees ns ts → StandsAt trees n t → AreAt trees (ns ++ n ∷ []) (ts ++ t ∷ [])
at-snoc trees [] [] n t h k = (k, tt)
at-snoc trees (m ∷ ns) (u ∷ ts) n t h k = (h.0, at-snoc trees ns ts n t h.1 k)
at-snoc trees [] (u ∷ ts) n t h k = absurd h
at-snoc trees (m ∷ ns) [] n t h k = absurd h

good-snoc : (P : Tree → Type 0) (ts : List Tree) (t : Tree) → AllByRecursion P ts → P t → AllByRecursion P (ts ++ t ∷ [])
good-snoc P [] t h k = (k, tt)
good-snoc P (u ∷ ts) t h k = (h.0, good-snoc P ts t h.1 k)

-- the item behind an argument is the close, or begins the next one
same-item : (its : List Item) (i : ℕ) (x y : Item) → slice_get its i ≡ Some x → slice_get its i ≡ Some y → x ≡ y
same-item its i x y e f = let g : Some x ≡ Some y = sym e ∙ f in cc

pub begins-open : (w : Source) (i j : ℕ) (e : Expr) (x : Item) → Stands w.items.items.items w.items.text.items i e j → slice_get w.items.items.items i ≡ Some x → x.kind ≡ Close → ⊥
begins-open w i j (atom l) x h e k = atoms (ap (λ (y : Item). y.kind) (same-item w.items.items.items i x _ e h.0.item))
  where
    atoms : x.kind ≡ Atom l.kind → ⊥
    atoms f = let g : Close ≡ Atom l.kind = sym k ∙ f in cc
begins-open w i j (list p inside q) x h e k = opens (ap (λ (y : Item). y.kind) (same-item w.items.items.items i x _ e h.1.1))
  where
    opens : x.kind ≡ Open h.0 → ⊥
    opens f = let g : Close ≡ Open h.0 = sym k ∙ f in cc

-- a head that is a definition is a good one
pub macro-good : (K : List Sort) (low : ℕ) (defs : Scope) (name : Option (List ℕ)) (head : Told) (meant : Head) → AllByRecursion (λ x. IsGoodEntry K low x.1) defs → IsHead defs name head meant → IfMacro (IsGoodBody K low) meant
macro-good K low defs name told.Macro meant g h =
    subst (λ (m : Head). IfMacro (IsGoodBody K low) m) (sym h.5)
    (subst (λ (o : Option Entry). IfSome o (IsGoodEntry K low)) h.4 (found-all (IsGoodEntry K low) h.0 defs g))
macro-good K low defs name told.Distinct meant g h = subst (λ (m : Head). IfMacro (IsGoodBody K low) m) (sym h) tt
macro-good K low defs name (told.Operator o) meant g h = subst (λ (m : Head). IfMacro (IsGoodBody K low) m) (sym h) tt

-- the arguments are the last that are done
pub own-args : (done before own : List ℕ) (id first : ℕ) → done ≡ before ++ own → first ≡ length before → take (length (done ++ id ∷ []) - first) (drop first (done ++ id ∷ [])) ≡ own ++ id ∷ []
own-args done before own id first e f =
    let whole : done ++ id ∷ [] ≡ before ++ (own ++ id ∷ []) = ap (λ ns. ns ++ id ∷ []) e ∙ append_assoc before own (id ∷ []) in
    ap (λ ns. take (length ns - first) (drop first ns)) whole
    ∙ ap (λ n. take (length (before ++ (own ++ id ∷ [])) - n) (drop n (before ++ (own ++ id ∷ [])))) f
    ∙ go before (own ++ id ∷ [])
  where
    all : (xs : List ℕ) → take (length xs) xs ≡ xs
    all [] = refl
    all (x ∷ xs) = ap (λ ys. x ∷ ys) (all xs)

    drops : (bs xs : List ℕ) → drop (length bs) (bs ++ xs) ≡ xs
    drops [] xs = refl
    drops (b ∷ bs) xs = drops bs xs

    left : (bs xs : List ℕ) → length (bs ++ xs) - length bs ≡ length xs
    left bs xs = omega (arith, length-append bs xs)

    go : (bs xs : List ℕ) → take (length (bs ++ xs) - length bs) (drop (length bs) (bs ++ xs)) ≡ xs
    go bs xs = ap (λ n. take n (drop (length bs) (bs ++ xs))) (left bs xs) ∙ ap (take (length xs)) (drops bs xs) ∙ all xs

pub kept-done : (done before own : List ℕ) (id first : ℕ) → done ≡ before ++ own → first ≡ length before → take first (done ++ id ∷ []) ≡ before
kept-done done before own id first e f =
    let whole : done ++ id ∷ [] ≡ before ++ (own ++ id ∷ []) = ap (λ ns. ns ++ id ∷ []) e ∙ append_assoc before own (id ∷ []) in
    ap (take first) whole ∙ ap (λ n. take n (before ++ (own ++ id ∷ []))) f ∙ go before (own ++ id ∷ [])
  where
    go : (bs xs : List ℕ) → take (length bs) (bs ++ xs) ≡ bs
    go [] xs = refl
    go (b ∷ bs) xs = ap (λ ys. b ∷ ys) (go bs xs)

-- what the whole gives, behind a term or a fault
abbrev pub Outcome : Source → List Tree → State → ℕ → Result Seen Fault → Result ℕ ElabFault → Type 0
Outcome w trees s at given (Ok id) = IsMade w trees s id at given
Outcome w trees s at given (Err (At place kind)) = given ≡ Err (record { place = place; kind = kind })
Outcome w trees s at given (Err NoMemory) = Unit {0}

module _ (w : Source) (trees : List Tree) (s : State) (place : ℕ) (head : Told) (head_at first id at : ℕ) (given : Result Seen Fault) (h : IsMade w trees (with_open (opened.Application place head head_at first) s) id at given) where
  abbrev pub app : IsApplication w trees h.M place head head_at first h.frames at h.c s.done
  app = h.around.holds.0

  abbrev pub args : List Tree
  args = app.args ++ h.tree ∷ []

  pub args-at : AreAt trees (app.own ++ id ∷ []) args
  args-at = at-snoc trees app.own app.args id h.tree app.own_are h.stands

  pub args-good : AllByRecursion (IsGood (sorts_of w) 0 h.M) args
  args-good = good-snoc (IsGood (sorts_of w) 0 h.M) app.args h.tree app.good h.good_tree

  pub within : at < length w.items.items.items
  within = let inside = end-within w at app.rest app.ends in omega (arith, inside.0, inside.1)

  module _ (x : Item) (there : slice_get w.items.items.items at ≡ Some x) where
    -- another argument
    pub another : (x.kind ≡ Close → ⊥) → IsReading w trees (record s { stack = opened.Application place head head_at first ∷ s.stack; done = s.done ++ id ∷ [] }) at given
    another ne = go app.rest refl app.ends refl
      where
        go : (rest : Exprs) → app.rest ≡ rest → (ends : EndsIn w at rest) → app.ends.close ≡ ends.close → IsReading w trees (record s { stack = opened.Application place head head_at first ∷ s.stack; done = s.done ++ id ∷ [] }) at given
        go none f ends k = absurd (ne (ap (λ (y : Item). y.kind) (same-item w.items.items.items at x _ there (ap (slice_get w.items.items.items) (sym ends.stand) ∙ ends.closed.1))))
        go (also e es) f ends k = record {
          expr = e;
          behind = ends.stand.0;
          c = h.c;
          M = h.M;
          frames = Applying place app.meant args es h.c ∷ app.outer;
          stands = ends.stand.1;
          around = record {
            scope_is = h.around.scope_is;
            good = h.around.good;
            bound_are = h.around.bound_are;
            binders_are = h.around.binders_are;
            holds = (
              record {
                meant = app.meant;
                args = args;
                rest = es;
                outer = app.outer;
                before = app.before;
                own = app.own ++ id ∷ [];
                frames_are = refl;
                ends = record { close = ends.close; place = ends.place; stand = ends.stand.2; closed = ends.closed };
                is_head = app.is_head;
                done_are = ap (λ ns. ns ++ id ∷ []) app.done_are ∙ append_assoc app.before app.own (id ∷ []);
                first_is = app.first_is;
                own_are = args-at;
                good = args-good;
              },
              subst (λ n. Holds w trees s.stack app.outer (n + 1) h.c h.M app.before s.pending) k h.around.holds.1,
            );
            looks = h.around.looks;
            looked = h.around.looked;
          };
          gives = h.gives
              ∙ ap (λ (fs : List Frame). resume fs (Ok (h.tree, h.around.looks))) (app.frames_are ∙ ap (λ (r : Exprs). Applying place app.meant app.args r h.c ∷ app.outer) f)
              ∙ next-argument app.outer place app.meant app.args h.tree e es h.c h.around.looks;
        }

    -- the last argument
    pub last : x.kind ≡ Close → (app.rest ≡ none) × (app.ends.close ≡ at)
    last k = go app.rest app.ends
      where
        go : (rest : Exprs) (ends : EndsIn w at rest) → (rest ≡ none) × (ends.close ≡ at)
        go none ends = (refl, ends.stand)
        go (also e es) ends = absurd (begins-open w at ends.stand.0 e x ends.stand.1 there k)

    -- what is made of the arguments
    pub made-of : (k : x.kind ≡ Close) (trees' : List Tree) (watched : List Watched) → Grows trees trees' → (r : Result ℕ ElabFault) → Sees trees' watched (applied_looks place h.c.binders app.meant args h.around.looks) r → Outcome w trees' (record s { done = app.before; watched = watched }) (at + 1) given r
    made-of k trees' watched g r a = go r a
      where
        whole : given ≡ resume app.outer (applied_looks place h.c.binders app.meant args h.around.looks)
        whole = h.gives ∙ ap (λ (fs : List Frame). resume fs (Ok (h.tree, h.around.looks))) (app.frames_are ∙ ap (λ (r : Exprs). Applying place app.meant app.args r h.c ∷ app.outer) (last k).0)

        good : IfOk (applied_at place h.c.binders app.meant args) (IsGood (sorts_of w) 0 h.M)
        good = ok-bind (apply place h.c.binders app.meant args) (λ tree. shallow place tree) (IsOpen (sorts_of w) 0 h.M) (IsGood (sorts_of w) 0 h.M)
            (ok-apply (sorts_of w) 0 h.M place h.c.binders app.meant args (macro-good (sorts_of w) 0 w.defs (name_at w.items.text.items w.items.items.items head_at) head app.meant (subst (λ (sc : Scope). AllByRecursion (λ x. IsGoodEntry (sorts_of w) 0 x.1) sc) h.around.scope_is h.around.good.scope) app.is_head) h.around.good.ends h.around.good.from args-good)
            (λ tree o. ok-shallow (sorts_of w) 0 h.M place tree o)

        made : (t : Tree) (looks : List Look) → applied_looks place h.c.binders app.meant args h.around.looks ≡ Ok (t, looks) → applied_at place h.c.binders app.meant args ≡ Ok t
        made t looks e = sym (applied-makes place h.c.binders app.meant args h.around.looks) ∙ ap (λ (r : Result Seen Fault). r >>= λ x. Ok x.0) e

        go : (r : Result ℕ ElabFault) → Sees trees' watched (applied_looks place h.c.binders app.meant args h.around.looks) r → Outcome w trees' (record s { done = app.before; watched = watched }) (at + 1) given r
        go (Ok n) a = record {
          tree = a.0;
          c = h.c;
          M = h.M;
          frames = app.outer;
          stands = a.3;
          good_tree = subst (λ (q : Result Tree Fault). IfOk q (IsGood (sorts_of w) 0 h.M)) (made a.0 a.1 a.2) good;
          around = record {
            scope_is = h.around.scope_is;
            good = h.around.good;
            bound_are = named-grows trees trees' g s.bound h.c.bound h.around.bound_are;
            binders_are = h.around.binders_are;
            holds = holds-grows trees trees' g w s.stack app.outer (at + 1) h.c h.M app.before s.pending (subst (λ n. Holds w trees s.stack app.outer (n + 1) h.c h.M app.before s.pending) (last k).1 h.around.holds.1);
            looks = a.1;
            looked = a.4;
          };
          gives = whole ∙ ap (resume app.outer) a.2;
        }
        go (Err (At p kind)) a = whole ∙ ap (resume app.outer) a ∙ resume-fault app.outer (record { place = p; kind = kind })
        go (Err NoMemory) a = tt

-- the same state
pub reading-at : (w : Source) (trees : List Tree) (os os' : List Opened) (ds ds' : List ℕ) (bound pending : Named ℕ) (binders : ℕ) (watched : List Watched) (at : ℕ) (given : Result Seen Fault) → os ≡ os' → ds ≡ ds' → IsReading w trees (record { stack = os; done = ds; bound = bound; pending = pending; binders = binders; watched = watched }) at given → IsReading w trees (record { stack = os'; done = ds'; bound = bound; pending = pending; binders = binders; watched = watched }) at given
reading-at w trees os os' ds ds' bound pending binders watched at given e f h =
    subst (λ (ps : List Opened). IsReading w trees (record { stack = ps; done = ds'; bound = bound; pending = pending; binders = binders; watched = watched }) at given) e
    (subst (λ (is : List ℕ). IsReading w trees (record { stack = os; done = is; bound = bound; pending = pending; binders = binders; watched = watched }) at given) f h)

pub made-at : (w : Source) (trees : List Tree) (os : List Opened) (ds ds' : List ℕ) (bound pending : Named ℕ) (binders : ℕ) (watched : List Watched) (id at : ℕ) (given : Result Seen Fault) → ds ≡ ds' → IsMade w trees (record { stack = os; done = ds; bound = bound; pending = pending; binders = binders; watched = watched }) id at given → IsMade w trees (record { stack = os; done = ds'; bound = bound; pending = pending; binders = binders; watched = watched }) id at given
made-at w trees os ds ds' bound pending binders watched id at given f h =
    subst (λ (is : List ℕ). IsMade w trees (record { stack = os; done = is; bound = bound; pending = pending; binders = binders; watched = watched }) id at given) f h

pub pushed : (os os' : List Opened) (o : Opened) → os' ≡ os ++ o ∷ [] → o ∷ reverse os ≡ reverse os'
pushed os os' o e = sym (ap reverse e ∙ reverse-append os (o ∷ []))

-- each is one of the store
pub at-below : (trees : List Tree) (ns : List ℕ) (ts : List Tree) → AreAt trees ns ts → (k d : ℕ) → k < length ns → get_or ns k d < length trees
at-below trees [] [] h k d lt = absurd (omega arith)
at-below trees (n ∷ ns) (t ∷ ts) h zero d lt = h.0.below
at-below trees (n ∷ ns) (t ∷ ts) h (suc k) d lt = at-below trees ns ts h.1 k d (omega arith)
at-below trees [] (t ∷ ts) h k d lt = absurd h
at-below trees (n ∷ ns) [] h k d lt = absurd h

-- a fault goes out
pub out : (w : Source) (trees : List Tree) (s s' : State) (at : ℕ) (given : Result Seen Fault) (r : Result ℕ ElabFault) (fault left : ElabFault) (exit : Result Next ElabFault) → Outcome w trees s at given r → r ≡ Err fault → exit ≡ Err left → left ≡ fault → IsNext w trees s' given exit
out w trees s s' at given r fault left exit h e f g =
    subst (λ (x : Result Next ElabFault). IsNext w trees s' given x) (sym (f ∙ ap Err g)) (go fault (subst (λ (x : Result ℕ ElabFault). Outcome w trees s at given x) e h))
  where
    go : (fault : ElabFault) → Outcome w trees s at given (Err fault) → IsNext w trees s' given (Err fault)
    go (At p kind) k = k
    go NoMemory k = tt

-- a part that ended
pub ended : (w : Source) (trees trees' : List Tree) (s : State) (i : ℕ) (c : Context) (M : ℕ → Option Sort) (frames : List Frame) (given part : Result Seen Fault) → IsAround w trees s i c M frames → IfOk part (λ x. IsGood (sorts_of w) 0 M x.0) → given ≡ resume frames part → Grows trees trees' → (watched : List Watched) (r : Result ℕ ElabFault) → Sees trees' watched part r → Outcome w trees' (record s { watched = watched }) i given r
ended w trees trees' s i c M frames given part h good e g watched (Ok n) a =
    let now = around-grows trees trees' g w s i c M frames h in
    record {
      tree = a.0;
      c = c;
      M = M;
      frames = frames;
      stands = a.3;
      good_tree = subst (λ (q : Result Seen Fault). IfOk q (λ x. IsGood (sorts_of w) 0 M x.0)) a.2 good;
      around = record {
        scope_is = now.scope_is;
        good = now.good;
        bound_are = now.bound_are;
        binders_are = now.binders_are;
        holds = now.holds;
        looks = a.1;
        looked = a.4;
      };
      gives = e ∙ ap (resume frames) a.2;
    }
ended w trees trees' s i c M frames given part h good e g watched (Err (At p kind)) a = e ∙ ap (resume frames) a ∙ resume-fault frames (record { place = p; kind = kind })
ended w trees trees' s i c M frames given part h good e g watched (Err NoMemory) a = tt
