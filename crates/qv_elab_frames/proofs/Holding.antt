-- What is open still holds when the store grows.
use Rattle.std.proofs.Common.{◌+◌, ℕ, List, [], ◌∷◌}
use Rattle.qv_words.specs.Tree.{Tree}
use Rattle.qv_words.specs.declared.sort.Sort.{Sort}
use Rattle.qv_store.specs.Stores.{Grows}
use Rattle.qv_elab_frames.specs.declared.elaborator.Open.{Open}
use Rattle.qv_elab_frames.specs.declared.elaborator.Open.TheVariants as opened
use Rattle.qv_elab_scope.specs.declared.heads.Head.{Head as Told}
use Rattle.qv_elab_defs.specs.Scopes.{Named, Context}
use Rattle.qv_elab_frames.specs.Frames.{Frame}
use Rattle.qv_elab_frames.specs.Loop.{Source, State, IsApplication, IsLet, Holds, IsAround}
use Rattle.qv_elab_scope.proofs.Growing.{at-grows, named-grows, looked-grows}
use Rattle.std.specs.Prelude.{Option}

module _ (old new : List Tree) (g : Grows old new) where
  abbrev application-grows : (w : Source) (M : ℕ → Option Sort) (place : ℕ) (head : Told) (head_at first : ℕ) (frames : List Frame) (i : ℕ) (c : Context) (done : List ℕ) → IsApplication w old M place head head_at first frames i c done → IsApplication w new M place head head_at first frames i c done
  application-grows w M place head head_at first frames i c done h = record {
    meant = h.meant;
    args = h.args;
    rest = h.rest;
    outer = h.outer;
    before = h.before;
    own = h.own;
    frames_are = h.frames_are;
    ends = h.ends;
    is_head = h.is_head;
    done_are = h.done_are;
    first_is = h.first_is;
    own_are = at-grows old new g h.own h.args h.own_are;
    good = h.good;
  }

  abbrev let-grows : (w : Source) (M : ℕ → Option Sort) (at start : ℕ) (frames : List Frame) (i : ℕ) (c : Context) (pending : Named ℕ) → IsLet w old M at start frames i c pending → IsLet w new M at start frames i c pending
  let-grows w M at start frames i c pending h = record {
    names = h.names;
    name = h.name;
    pairs = h.pairs;
    some = h.some;
    body = h.body;
    outer = h.outer;
    before = h.before;
    own = h.own;
    frames_are = h.frames_are;
    name_is = h.name_is;
    place = h.place;
    closed = h.closed;
    ends = h.ends;
    pairs_are = h.pairs_are;
    body_end = h.body_end;
    body_stands = h.body_stands;
    close_place = h.close_place;
    body_closed = h.body_closed;
    pending_are = h.pending_are;
    start_is = h.start_is;
    own_are = named-grows old new g h.own h.names h.own_are;
    good = h.good;
  }

  pub holds-grows : (w : Source) (os : List Open) (frames : List Frame) (i : ℕ) (c : Context) (M : ℕ → Option Sort) (done : List ℕ) (pending : Named ℕ) → Holds w old os frames i c M done pending → Holds w new os frames i c M done pending
  holds-grows w [] frames i c M done pending h = h
  holds-grows w (opened.Application place head head_at first ∷ os) frames i c M done pending h =
      (application-grows w M place head head_at first frames i c done h.0, holds-grows w os h.0.outer (h.0.ends.close + 1) c M h.0.before pending h.1)
  holds-grows w (opened.Let at start ∷ os) frames i c M done pending h =
      (let-grows w M at start frames i c pending h.0, holds-grows w os h.0.outer (h.0.body_end + 1) c M done h.0.before h.1)
  holds-grows w (opened.Quantifier place inner is_universal bound ∷ os) frames i c M done pending h =
      (h.0, holds-grows w os h.0.outer (i + 1) h.0.around h.0.levels done pending h.1)
  holds-grows w (opened.Passing close bound ∷ os) frames i c M done pending h =
      (h.0, holds-grows w os h.0.outer (close + 1) (record c { bound = h.0.around }) M done pending h.1)

  pub around-grows : (w : Source) (s : State) (i : ℕ) (c : Context) (M : ℕ → Option Sort) (frames : List Frame) → IsAround w old s i c M frames → IsAround w new s i c M frames
  around-grows w s i c M frames h = record {
    scope_is = h.scope_is;
    good = h.good;
    bound_are = named-grows old new g s.bound c.bound h.bound_are;
    binders_are = h.binders_are;
    holds = holds-grows w s.stack frames i c M s.done s.pending h.holds;
    looks = h.looks;
    looked = looked-grows old new g s.watched h.looks h.looked;
  }
