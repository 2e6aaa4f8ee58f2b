-- Definitions that are taken away again.
use Rattle.std.proofs.Common.{◌≡◌, ◌≤◌, ◌+◌, ◌-◌, ℕ, suc, List, [], ◌∷◌, ◌++◌, length, take, drop, true, refl, sym, ap, subst, ◌∙◌, append_assoc, arith}
use Rattle.std.specs.List.{AllByRecursion}
use Rattle.std.proofs.lemmas.List.{append-nil}
use Rattle.std.proofs.Math.ListN.{length-append}
use Rattle.std.specs.Prelude.{Vec}
use Rattle.std.specs.declared.alloc.Global.{Global}
use Rattle.qv_words.specs.declared.sort.Sort.{Sort}
use Rattle.qv_elab_macros.specs.declared.body.Body.{Body}
use Rattle.qv_elab_scope.specs.declared.scope.Kept.{Kept}
use Rattle.qv_elab_scope.specs.declared.scope.Kept.TheVariants as kept
use Rattle.qv_elab_scope.specs.Force.{Force, constants_in, with_name, shortened}
use Rattle.qv_script_stack.specs.declared.held.Mark.{Mark}
use Rattle.qv_script_stack.specs.Held.{Held}
use Rattle.qv_script_stack.specs.Changes.{with_definition, IsLonger, IsMarkOf}

take-front : {A : Type 0} (xs ys : List A) → take (length xs) (xs ++ ys) ≡ xs
take-front [] ys = refl
take-front (x ∷ xs) ys = ap (λ zs. x ∷ zs) (take-front xs ys)

drop-front : {A : Type 0} (xs ys : List A) → drop (length (xs ++ ys) - length ys) (xs ++ ys) ≡ ys
drop-front [] ys = let none : length ys - length ys ≡ 0 = omega arith in ap (λ n. drop n ys) none
drop-front (x ∷ xs) ys =
    let longer = length-append xs ys in
    let more : length (x ∷ xs ++ ys) - length ys ≡ suc (length (xs ++ ys) - length ys) = omega (arith, longer) in
    ap (λ n. drop n (x ∷ xs ++ ys)) more ∙ drop-front xs ys

constants-append : (xs ys : List Kept) → constants_in (xs ++ ys) ≡ constants_in xs + constants_in ys
constants-append [] ys = let same : constants_in ys ≡ 0 + constants_in ys = omega arith in same
constants-append (x ∷ xs) ys = let rest = constants-append xs ys in omega (arith, rest)

-- nothing was defined
pub longer-itself : (h : Held) → IsLonger h h
longer-itself h = record {
  names = [];
  kept = [];
  no_constants = refl;
  force = ap (λ (ks : List Kept). record { names = h.force.names; kept = ks; starts = h.force.starts }) (sym (append-nil h.force.kept));
  held = refl;
}

-- one definition more
pub longer-more : (h k : Held) (name : List ℕ) (sorts : Vec Sort Global) (body : Body) → IsLonger h k → IsLonger h (with_definition name sorts body k)
longer-more h k name sorts body l =
    let d : Kept = kept.Definition sorts body in
    let last = constants-append l.kept (d ∷ []) in
    let none = l.no_constants in
    record {
      names = name ∷ l.names;
      kept = l.kept ++ d ∷ [];
      no_constants = omega (arith, last, none);
      force = ap (with_name name d) l.force
          ∙ ap (λ (ks : List Kept). record { names = name ∷ l.names ++ h.force.names; kept = ks; starts = h.force.starts }) (append_assoc h.force.kept l.kept (d ∷ []));
      held = ap (λ (x : Held). record x { force = with_name name d k.force; begun = true }) l.held;
    }

module _ (old new : Held) (mark : Mark) (m : IsMarkOf mark old) (l : IsLonger old new) where
  kept-is : take mark.names new.force.kept ≡ old.force.kept
  kept-is =
      ap (λ n. take n new.force.kept) m.kept ∙ ap (λ (f : Force). take (length old.force.kept) f.kept) l.force ∙ take-front old.force.kept l.kept

  names-are : drop (length new.force.names - mark.names) new.force.names ≡ old.force.names
  names-are =
      ap (λ n. drop (length new.force.names - n) new.force.names) m.names
      ∙ ap (λ (f : Force). drop (length f.names - length old.force.names) f.names) l.force
      ∙ drop-front l.names old.force.names

  pub few-left : mark.names ≤ length new.force.kept
  few-left =
      let count = ap (λ (f : Force). length f.kept) l.force in
      let longer = length-append old.force.kept l.kept in
      let here = m.kept in
      omega (arith, count, longer, here)

  pub same-constants : constants_in (take mark.names new.force.kept) ≡ constants_in new.force.kept
  same-constants =
      let all = ap (λ (f : Force). constants_in f.kept) l.force in
      let split = constants-append old.force.kept l.kept in
      let none = l.no_constants in
      let first = ap constants_in kept-is in
      omega (arith, all, split, none, first)

  pub same-starts : AllByRecursion (λ n. n ≤ mark.names) new.force.starts
  same-starts = subst (λ (f : Force). AllByRecursion (λ n. n ≤ mark.names) f.starts) (sym l.force) m.levels

  forced : shortened mark.names new.force ≡ old.force
  forced =
      ap (λ (ns : List (List ℕ)). record new.force { names = ns; kept = take mark.names new.force.kept }) names-are
      ∙ ap (λ (ks : List Kept). record new.force { names = old.force.names; kept = ks }) kept-is
      ∙ ap (λ (f : Force). record f { names = old.force.names; kept = old.force.kept }) l.force

  pub undefined : record new { force = shortened mark.names new.force; begun = mark.begun } ≡ old
  undefined =
      ap (λ (x : Held). record x { force = shortened mark.names new.force; begun = mark.begun }) l.held
      ∙ ap (λ (f : Force). record old { force = f; begun = mark.begun }) forced
      ∙ ap (λ b. record old { begun = b }) m.begun
