-- A core that deletes clauses.
use Rattle.std.proofs.Common.{◌≡◌, ◌≢◌, ℕ, ◌+◌, ◌<◌, Bool, true, false, ◌||◌, List, [], ◌∷◌, ◌++◌, Option, All, refl, sym, ◌∙◌, ap, subst, arith}
use Rattle.std.specs.Prelude.{IsSome}
use Rattle.std.specs.List.{list_any, AllByRecursion}
use Rattle.std.proofs.lemmas.Bool.{or_left}
use Rattle.std.proofs.lemmas.List.Elements.{All-filter, All-weaker, recursion_from_All}
use Rattle.std.proofs.lemmas.List.Folds.{list_any-append}
use Rattle.qv_cnf.specs.Derivation.{Deriving, IsDerivation, after_step, has_id, no_steps}
use Rattle.qv_cnf.specs.Listing.{Listing, Numbered, clause_named, without}
use Rattle.qv_cnf.specs.Literal.{Literal}
use Rattle.qv_cnf.specs.LratLine.{LratLine, Deletion}
use Rattle.qv_cnf.specs.Refutation.{adds_none, has_none}
use Rattle.qv_watch.specs.TrailState.{TrailState}
use Rattle.qv_sat.specs.CoreState.{after_steps, live_after}
use Rattle.qv_sat.specs.Reducing.{AreIdle, IsIdle}
use Rattle.qv_sat.specs.Deciding.{AllWithin}
use Rattle.qv_sat.specs.Holding.{IsHeld}
use Rattle.qv_sat.specs.Naming.{AllBelow, AreAttached}
use Rattle.qv_sat.proofs.LeftAside.{attached_same}
use Rattle.qv_sat.proofs.Decisions.{list_all-from}
use Rattle.qv_sat.proofs.Deleting.{absent_all, named_behind, named_has, without-append, AllWithin-without, AreAttached-without}
use Rattle.qv_sat.proofs.Ordered.{IsOrdered-numbered}
use Rattle.qv_sat.proofs.Steps.{after_steps-push, DerivesFrom-push, EachHinted-push}
use Rattle.qv_sat.specs.declared.aside.Aside.{Aside}

module _ (base : Listing) (steps : List LratLine) (t : TrailState) (top variables : ℕ) (refuted : Bool) (aside : Aside) (h : IsHeld base steps t top variables refuted aside) where
  abbrev d : Deriving
  d = after_steps no_steps steps

  is_added : (id : ℕ) → IsIdle base.live t id → has_id d.added id ≡ true
  is_added id i =
      let live : IsSome (clause_named id (live_after base.live steps)) = subst (λ (o : Option (List Literal)). IsSome o) (attached_same aside.ids.items (live_after base.live steps) t.clauses id h.attached i.attached) i.attached in
      named_has id d.added (subst (λ (o : Option (List Literal)). IsSome o) (named_behind id base.live d.added i.learnt) live)

  are_added : (ids : List ℕ) → AreIdle base.live t ids → AllByRecursion (λ id. has_id d.added id ≡ true) ids
  are_added ids a = recursion_from_All (λ id. has_id d.added id ≡ true) ids (All-weaker (IsIdle base.live t) (λ id. has_id d.added id ≡ true) is_added ids a.each)

  -- idle clauses may be deleted
  pub reduce_derivation : (ids : List ℕ) → AreIdle base.live t ids → ids ≢ [] → IsDerivation base.live (steps ++ Deletion top ids ∷ [])
  reduce_derivation ids a some =
      DerivesFrom-push base.live no_steps steps (Deletion top ids) h.core.derivation record {
        live = list_all-from (has_id d.added) ids (are_added ids a);
        some = some;
      }

  absent : (ids : List ℕ) → AreIdle base.live t ids → without ids base.live ≡ base.live
  absent ids a = absent_all ids base.live (recursion_from_All (λ id. has_id base.live id ≡ false) ids (All-weaker (IsIdle base.live t) (λ id. has_id base.live id ≡ false) (λ id i. i.learnt) ids a.each))

  after : (ids : List ℕ) → after_steps no_steps (steps ++ Deletion top ids ∷ []) ≡ after_step d (Deletion top ids)
  after ids = after_steps-push no_steps steps (Deletion top ids)

  live : (ids : List ℕ) → AreIdle base.live t ids → live_after base.live (steps ++ Deletion top ids ∷ []) ≡ without ids (live_after base.live steps)
  live ids a =
      ap (λ (x : Deriving). base.live ++ x.added) (after ids)
      ∙ ap (λ (xs : List Numbered). xs ++ without ids d.added) (sym (absent ids a))
      ∙ sym (without-append ids base.live d.added)

  pub IsHeld-reduce : (t' : TrailState) (ids : List ℕ) → AreIdle base.live t ids → IsDerivation base.live (steps ++ Deletion top ids ∷ []) → t'.room ≡ t.room → t'.clauses ≡ without ids t.clauses → IsHeld base (steps ++ Deletion top ids ∷ []) t' top variables refuted aside
  IsHeld-reduce t' ids a derivation room clauses =
      let step : LratLine = Deletion top ids in
      let now = live ids a in
      record {
        ordered = IsOrdered-numbered base.live steps (step ∷ []) top top h.ordered (refl, refl);
        room = room ∙ h.room;
        most = h.most;
        core = record { derivation = derivation; hinted = EachHinted-push base.live no_steps steps step h.core.hinted tt };
        next_base = h.next_base;
        next_step = let e : (after_steps no_steps (steps ++ step ∷ [])).next ≡ d.next = ap (λ (x : Deriving). x.next) (after ids) in let n = h.next_step in omega arith;
        few = h.few;
        below = subst (AllBelow (top + 1)) (sym now) (All-filter _ (λ c. c.id < top + 1) (live_after base.live steps) h.below);
        attached = subst (λ (xs : List Numbered). AreAttached aside.ids.items xs t'.clauses) (sym now) (subst (AreAttached aside.ids.items (without ids (live_after base.live steps))) (sym clauses) (AreAttached-without ids aside.ids.items (live_after base.live steps) t.clauses h.attached));
        are_aside = h.are_aside;
        literals = subst (AllWithin variables) (sym now) (AllWithin-without variables ids (live_after base.live steps) h.literals);
        filled = λ going. subst (All (λ (c : Numbered). has_none c.lits ≡ false)) (sym now) (All-filter _ (λ c. has_none c.lits ≡ false) (live_after base.live steps) (h.filled going));
        refutes = λ is. list_any-append adds_none steps (step ∷ []) ∙ or_left (list_any adds_none steps) (false || false) (h.refutes is);
      }
