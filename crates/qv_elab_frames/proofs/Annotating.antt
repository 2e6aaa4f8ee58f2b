-- Annotated terms are entered.
use Rattle.std.proofs.Common.{◌≡◌, ◌⊎◌, inl, inr, ◌∷◌, [], ℕ, true, false, cond, List, length, refl, sym, ap, subst, ◌∙◌}
use Rattle.std.specs.Prelude.{Result}
use Rattle.qv_sexpr.specs.declared.items.Item.{Item}
use Rattle.qv_sexpr.specs.Script.{also}
use Rattle.qv_sexpr.specs.Script.{Tree as Expr, Trees as Exprs}
use Rattle.qv_sexpr.specs.Items.{Stands, StandAll}
use Rattle.qv_words.specs.Tree.{Tree}
use Rattle.qv_elab_defs.specs.declared.faults.ElabKind.TheVariants.{Form}
use Rattle.qv_elab_items.specs.declared.inside.Naming.{Naming as Told}
use Rattle.qv_elab_items.specs.declared.inside.Naming.TheVariants as code
use Rattle.qv_elab_frames.specs.declared.elaborator.Open.TheVariants as opened
use Rattle.qv_elab_defs.specs.Faults.{Fault, refuse}
use Rattle.qv_elab_defs.specs.Shapes.{Annotated, are_attributes, Naming, Unnamed, Named, Misnamed, naming}
use Rattle.qv_elab_items.specs.Inside.{told}
use Rattle.qv_elab_defs.specs.Looking.{Look, Seen, Looking, still, unless_misnamed_looks, looks_of, looks_of_list}
use Rattle.qv_elab_frames.specs.Frames.{Passing, resume}
use Rattle.qv_elab_frames.specs.Loop.{Source, State, IsInList, IsReading}
use Rattle.qv_elab_scope.proofs.IdTrees.{named-length}
use Rattle.qv_elab_frames.proofs.Inside.{refused, nothing-behind}
use Rattle.qv_elab_frames.proofs.Resuming.{into-annotated}

-- the same items
pub stand-moved : (its its' : List Item) (text text' : List ℕ) (n n' to : ℕ) (es : Exprs) → its ≡ its' → text ≡ text' → n ≡ n' → StandAll its' text' n' es to → StandAll its text n es to
stand-moved its its' text text' n n' to es e f g h =
    subst (λ (m : ℕ). StandAll its text m es to) (sym g)
    (subst (λ (t : List ℕ). StandAll its t n' es to) (sym f)
    (subst (λ (xs : List Item). StandAll xs text' n' es to) (sym e) h))

-- not named wrongly
abbrev pub IsRight : Told → Type 0
IsRight n = (n ≡ code.Unnamed) ⊎ (n ≡ code.Named)

pub right-told : (a b : Told) → a ≡ b → IsRight b → IsRight a
right-told a b e (inl h) = inl (e ∙ h)
right-told a b e (inr h) = inr (e ∙ h)

when-right : (place : ℕ) (n : Naming) (x : Looking Tree) → IsRight (told n) → unless_misnamed_looks place n x ≡ x
when-right place Unnamed x h = refl
when-right place (Named m) x h = refl
when-right place Misnamed x (inl h) = absurd (cc)
when-right place Misnamed x (inr h) = absurd (cc)

when-misnamed : (place : ℕ) (n : Naming) (x : Looking Tree) (looks : List Look) → told n ≡ code.Misnamed → unless_misnamed_looks place n x looks ≡ refuse place Form
when-misnamed place Unnamed x looks h = absurd (cc)
when-misnamed place (Named m) x looks h = absurd (cc)
when-misnamed place Misnamed x looks h = refl

module _ (w : Source) (trees : List Tree) (s : State) (at close place : ℕ) (given : Result Seen Fault) (h : IsInList w trees s at close place Annotated given) where
  pub no-term : h.second ≡ close → given ≡ refuse place Form
  no-term e = refused w trees s at close place Annotated given h Form (ap (λ (es : Exprs). looks_of_list Annotated place h.first es h.c h.around.looks) (nothing-behind w trees s at close place Annotated given h e))

  module _ (e : Expr) (es : Exprs) (is : h.rest ≡ also e es) where
    pub attributes-refused : false ≡ are_attributes es → given ≡ refuse place Form
    attributes-refused k =
        refused w trees s at close place Annotated given h Form
        (ap (λ (q : Exprs). looks_of_list Annotated place h.first q h.c h.around.looks) is ∙ ap (λ b. let x : Looking Tree = cond b (unless_misnamed_looks place (naming es) (looks_of e h.c)) (still (refuse place Form)) in x h.around.looks) (sym k))

    pub misnamed-refused : true ≡ are_attributes es → told (naming es) ≡ code.Misnamed → given ≡ refuse place Form
    misnamed-refused k n =
        refused w trees s at close place Annotated given h Form
        (ap (λ (q : Exprs). looks_of_list Annotated place h.first q h.c h.around.looks) is ∙ ap (λ b. let x : Looking Tree = cond b (unless_misnamed_looks place (naming es) (looks_of e h.c)) (still (refuse place Form)) in x h.around.looks) (sym k) ∙ when-misnamed place (naming es) (looks_of e h.c) h.around.looks n)

    pub annotated-into : true ≡ are_attributes es → IsRight (told (naming es)) → (from : ℕ) → Stands w.items.items.items w.items.text.items h.second e from → StandAll w.items.items.items w.items.text.items from es close → (bound : ℕ) → bound ≡ length s.bound → IsReading w trees (record s { stack = opened.Passing close bound ∷ s.stack }) h.second given
    annotated-into k n from stands rest bound b = record {
      expr = e;
      behind = from;
      c = h.c;
      M = h.M;
      frames = Passing es ∷ h.frames;
      stands = stands;
      around = record {
        scope_is = h.around.scope_is;
        good = h.around.good;
        bound_are = h.around.bound_are;
        binders_are = h.around.binders_are;
        holds = (
          record {
            rest = es;
            outer = h.frames;
            own = [];
            around = h.c.bound;
            frames_are = refl;
            ends = record { close = close; place = h.close_place; stand = rest; closed = h.closed };
            close_is = refl;
            bound_are = refl;
            bound_is = b ∙ named-length trees s.bound h.c.bound h.around.bound_are;
            good = h.around.good;
          },
          h.around.holds,
        );
        looks = h.around.looks;
        looked = h.around.looked;
      };
      gives = h.gives ∙ ap (λ (q : Exprs). resume h.frames (looks_of_list Annotated place h.first q h.c h.around.looks)) is
          ∙ into-annotated h.frames place h.first e es h.c h.around.looks (sym k) (λ x. when-right place (naming es) x n);
    }

  -- the same by items and text that were passed on
  module _ (its : List Item) (text : List ℕ) (f : its ≡ w.items.items.items) (g : text ≡ w.items.text.items) (n : ℕ) (same : n ≡ h.second) where
    pub term-stands : StandAll its text n h.rest close
    term-stands = stand-moved its w.items.items.items text w.items.text.items n h.second close h.rest f g same h.rest_stand

    pub moved-back : (e : Expr) (es : Exprs) (from : ℕ) → Stands its text n e from → StandAll its text from es close → Stands w.items.items.items w.items.text.items h.second e from × StandAll w.items.items.items w.items.text.items from es close
    moved-back e es from a b = (
      subst (λ (m : ℕ). Stands w.items.items.items w.items.text.items m e from) same
          (subst (λ (t : List ℕ). Stands w.items.items.items t n e from) g (subst (λ (xs : List Item). Stands xs text n e from) f a)),
      subst (λ (t : List ℕ). StandAll w.items.items.items t from es close) g (subst (λ (xs : List Item). StandAll xs text from es close) f b),
    )
