-- In a list that is entered.
use Rattle.std.proofs.Common.{◌≡◌, ◌≤◌, ◌<◌, ◌+◌, ℕ, List, [], ◌∷◌, length, refl, sym, ap, subst, ◌∙◌, Ok, Err, arith}
use Rattle.std.specs.Prelude.{Result}
use Rattle.std.proofs.lemmas.Option.{slice_get_within}
use Rattle.std.proofs.lemmas.List.{append-nil}
use Rattle.qv_text.specs.declared.kinds.TokenKind.{TokenKind}
use Rattle.qv_sexpr.proofs.Standing.{stands_lt, stand_all_le}
use Rattle.qv_sexpr.specs.declared.items.ItemKind.{ItemKind}
use Rattle.qv_sexpr.specs.declared.items.ItemKind.TheVariants.{Atom, Open, Close}
use Rattle.qv_sexpr.specs.Script.{atom, list, none, also}
use Rattle.qv_sexpr.specs.Script.{Tree as Expr, Trees as Exprs}
use Rattle.qv_sexpr.specs.Items.{Stands, StandAll, Begins}
use Rattle.qv_sexpr.specs.Copying.{EndsBefore}
use Rattle.qv_sexpr.proofs.Copies.{stands_before, ends_once}
use Rattle.qv_words.specs.Tree.{Tree}
use Rattle.qv_elab_defs.specs.declared.faults.ElabFault.{ElabFault}
use Rattle.qv_elab_defs.specs.declared.faults.ElabFault.TheVariants.{At, NoMemory}
use Rattle.qv_elab_frames.specs.declared.elaborator.Next.{Next}
use Rattle.qv_elab_defs.specs.declared.faults.ElabKind.{ElabKind}
use Rattle.qv_elab_defs.specs.declared.faults.ElabKind.TheVariants.{Form}
use Rattle.qv_elab_defs.specs.Faults.{Fault, refuse}
use Rattle.qv_elab_defs.specs.Scopes.{Scope}
use Rattle.qv_elab_defs.specs.Shapes.{Construct, Application}
use Rattle.qv_elab_defs.specs.Looking.{Seen, looks_of_list}
use Rattle.qv_elab_frames.specs.Frames.{Applying, resume}
use Rattle.qv_elab_scope.specs.declared.heads.Head.{Head as Told}
use Rattle.qv_elab_frames.specs.declared.elaborator.Open.TheVariants as opened
use Rattle.qv_elab_defs.specs.Heads.{Head, head_of}
use Rattle.qv_elab_scope.specs.Headed.{IsHead, IsTold, name_at}
use Rattle.qv_elab_frames.specs.Loop.{Source, State, IsReading, IsInList, IsNext}
use Rattle.qv_elab_items.proofs.Slices.{item_of, paren_of}
use Rattle.qv_elab_frames.proofs.Resuming.{resume-fault, no-head, into-application}

-- lists that are refused
pub refused : (w : Source) (trees : List Tree) (s : State) (at close place : ℕ) (con : Construct) (given : Result Seen Fault) (h : IsInList w trees s at close place con given) (kind : ElabKind) → looks_of_list con place h.first h.rest h.c h.around.looks ≡ refuse place kind → given ≡ refuse place kind
refused w trees s at close place con given h kind e = h.gives ∙ ap (resume h.frames) e ∙ resume-fault h.frames (record { place = place; kind = kind })

-- an application
pub list-within : (w : Source) (trees : List Tree) (s : State) (at close place : ℕ) (con : Construct) (given : Result Seen Fault) (h : IsInList w trees s at close place con given) → (at + 1 < h.second) × (h.second ≤ close) × (close < length w.items.items.items)
list-within w trees s at close place con given h = (
  stands_lt w.items.items.items w.items.text.items (at + 1) h.first h.second h.first_stands,
  stand_all_le w.items.items.items w.items.text.items h.second h.rest close h.rest_stand,
  slice_get_within w.items.items.items close _ h.closed.1,
)

-- nothing is behind the first
pub nothing-behind : (w : Source) (trees : List Tree) (s : State) (at close place : ℕ) (con : Construct) (given : Result Seen Fault) (h : IsInList w trees s at close place con given) → h.second ≡ close → h.rest ≡ none
nothing-behind w trees s at close place con given h e = go h.rest h.rest_stand
  where
    go : (es : Exprs) → StandAll w.items.items.items w.items.text.items h.second es close → es ≡ none
    go none k = refl
    go (also t ts) k =
        let lt = stands_lt w.items.items.items w.items.text.items h.second t k.0 k.1 in
        let le = stand_all_le w.items.items.items w.items.text.items k.0 ts close k.2 in
        absurd (omega (arith, lt, le, e))

pub some-behind : (w : Source) (trees : List Tree) (s : State) (at close place : ℕ) (con : Construct) (given : Result Seen Fault) (h : IsInList w trees s at close place con given) → (h.second ≡ close → ⊥) → (t : Expr) × (ts : Exprs) × (m : ℕ) × (h.rest ≡ also t ts) × Stands w.items.items.items w.items.text.items h.second t m × StandAll w.items.items.items w.items.text.items m ts close
some-behind w trees s at close place con given h ne = go h.rest h.rest_stand
  where
    go : (es : Exprs) → StandAll w.items.items.items w.items.text.items h.second es close → (t : Expr) × (ts : Exprs) × (m : ℕ) × (es ≡ also t ts) × Stands w.items.items.items w.items.text.items h.second t m × StandAll w.items.items.items w.items.text.items m ts close
    go none k = absurd (ne (sym k))
    go (also t ts) k = (t, ts, k.0, refl, k.1, k.2)

-- an application is entered
module _ (w : Source) (trees : List Tree) (s : State) (at close place : ℕ) (given : Result Seen Fault) (h : IsInList w trees s at close place Application given) where
  pub first-ends : (h.second ≤ length w.items.items.items) × EndsBefore w.items.items.items (at + 1) h.second
  first-ends = stands_before w.items.items.items w.items.text.items (at + 1) h.first h.second h.first_stands

  pub second-is : (n : ℕ) → EndsBefore w.items.items.items (at + 1) n → n ≡ h.second
  second-is n k = ends_once w.items.items.items (at + 1) n h.second k first-ends.1

  pub no-arguments : h.second ≡ close → given ≡ refuse place Form
  no-arguments e = refused w trees s at close place Application given h Form (ap (λ (es : Exprs). looks_of_list Application place h.first es h.c h.around.looks) (nothing-behind w trees s at close place Application given h e))

  pub first-begins : Begins w.items (at + 1)
  first-begins = go h.first h.first_stands
    where
      go : (e : Expr) → Stands w.items.items.items w.items.text.items (at + 1) e h.second → Begins w.items (at + 1)
      go (atom l) k = (item_of l k.0.start k.0.end, k.0.item, atoms l.kind)
        where
          atoms : (q : TokenKind) → ◌≡◌ {A = ItemKind} (Atom q) Close → ⊥
          atoms q e = cc
      go (list p inside q) k = (paren_of (Open k.0) p k.1.0, k.1.1, opens k.0)
        where
          opens : (n : ℕ) → ◌≡◌ {A = ItemKind} (Open n) Close → ⊥
          opens n e = cc

  -- the head has a fault
  pub head-fails : (fault : Fault) → (h.second ≡ close → ⊥) → head_of h.c.scope place h.first ≡ Err fault → given ≡ Err fault
  head-fails fault ne e =
      let b = some-behind w trees s at close place Application given h ne in
      h.gives ∙ ap (λ (es : Exprs). resume h.frames (looks_of_list Application place h.first es h.c h.around.looks)) b.3 ∙ no-head h.frames place h.first b.0 b.1 h.c h.around.looks fault e

  -- its first argument
  pub into : (head : Told) (meant : Head) (first : ℕ) → (h.second ≡ close → ⊥) → head_of h.c.scope place h.first ≡ Ok meant → IsHead w.defs (name_at w.items.text.items w.items.items.items (at + 1)) head meant → first ≡ length s.done → IsReading w trees (record s { stack = opened.Application place head (at + 1) first ∷ s.stack }) h.second given
  into head meant first ne e k f =
      let b = some-behind w trees s at close place Application given h ne in
      record {
        expr = b.0;
        behind = b.2;
        c = h.c;
        M = h.M;
        frames = Applying place meant [] b.1 h.c ∷ h.frames;
        stands = b.4;
        around = record {
          scope_is = h.around.scope_is;
          good = h.around.good;
          bound_are = h.around.bound_are;
          binders_are = h.around.binders_are;
          holds = (
            record {
              meant = meant;
              args = [];
              rest = b.1;
              outer = h.frames;
              before = s.done;
              own = [];
              frames_are = refl;
              ends = record { close = close; place = h.close_place; stand = b.5; closed = h.closed };
              is_head = k;
              done_are = sym (append-nil s.done);
              first_is = f;
              own_are = tt;
              good = tt;
            },
            h.around.holds,
          );
          looks = h.around.looks;
          looked = h.around.looked;
        };
        gives = h.gives ∙ ap (λ (es : Exprs). resume h.frames (looks_of_list Application place h.first es h.c h.around.looks)) b.3 ∙ into-application h.frames place h.first b.0 b.1 h.c h.around.looks meant e;
      }

-- as the code tells the head
pub told-fails : (w : Source) (trees : List Tree) (s : State) (at close place : ℕ) (given : Result Seen Fault) (h : IsInList w trees s at close place Application given) → (h.second ≡ close → ⊥) → (r : Result Told ElabFault) (fault left : ElabFault) (exit : Result Next ElabFault) → IsTold w.defs (name_at w.items.text.items w.items.items.items (at + 1)) (head_of w.defs place h.first) r → r ≡ Err fault → exit ≡ Err left → left ≡ fault → IsNext w trees s given exit
told-fails w trees s at close place given h ne r fault left exit t e f g =
    subst (λ (x : Result Next ElabFault). IsNext w trees s given x) (sym (f ∙ ap Err g))
    (go fault (subst (λ (q : Result Told ElabFault). IsTold w.defs (name_at w.items.text.items w.items.items.items (at + 1)) (head_of w.defs place h.first) q) e t))
  where
    go : (fault : ElabFault) → IsTold w.defs (name_at w.items.text.items w.items.items.items (at + 1)) (head_of w.defs place h.first) (Err fault) → IsNext w trees s given (Err fault)
    go (At p kind) k = head-fails w trees s at close place given h (record { place = p; kind = kind }) ne (ap (λ (sc : Scope). head_of sc place h.first) h.around.scope_is ∙ k)
    go NoMemory k = tt

pub told-into : (w : Source) (trees : List Tree) (s : State) (at close place : ℕ) (given : Result Seen Fault) (h : IsInList w trees s at close place Application given) → (h.second ≡ close → ⊥) → (r : Result Told ElabFault) (head : Told) (first : ℕ) → IsTold w.defs (name_at w.items.text.items w.items.items.items (at + 1)) (head_of w.defs place h.first) r → r ≡ Ok head → first ≡ length s.done → IsReading w trees (record s { stack = opened.Application place head (at + 1) first ∷ s.stack }) h.second given
told-into w trees s at close place given h ne r head first t e f =
    let k = subst (λ (q : Result Told ElabFault). IsTold w.defs (name_at w.items.text.items w.items.items.items (at + 1)) (head_of w.defs place h.first) q) e t in
    into w trees s at close place given h head k.0 first ne (ap (λ (sc : Scope). head_of sc place h.first) h.around.scope_is ∙ k.1) k.2 f

-- where the second expression of a list begins
module _ (w : Source) (trees : List Tree) (s : State) (at close place : ℕ) (con : Construct) (given : Result Seen Fault) (h : IsInList w trees s at close place con given) where
  pub ends-first : (h.second ≤ length w.items.items.items) × EndsBefore w.items.items.items (at + 1) h.second
  ends-first = stands_before w.items.items.items w.items.text.items (at + 1) h.first h.second h.first_stands

  pub is-second : (n : ℕ) → EndsBefore w.items.items.items (at + 1) n → n ≡ h.second
  is-second n k = ends_once w.items.items.items (at + 1) n h.second k ends-first.1
