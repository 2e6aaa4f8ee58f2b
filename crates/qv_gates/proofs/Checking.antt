-- What a closure keeps as clauses and steps come.
use Rattle.std.proofs.Common.{◌≡◌, ℕ, List, [], ◌∷◌, ◌++◌, map, refl, sym, ◌∙◌, ap, subst}
use Rattle.std.proofs.lemmas.List.{map-append, append-nil, append_assoc}
use Rattle.qv_cnf.specs.Listing.{Listing, Numbered, with_clause}
use Rattle.qv_cnf.specs.Literal.{Literal}
use Rattle.qv_cnf.specs.LratLine.{LratLine}
use Rattle.qv_cnf.specs.Refutation.{Accepted, Standing, after_line, judged_rup, standing_at}
use Rattle.qv_gates.specs.Checked.{IsAddition, IsChecked, after_lines}
use Rattle.qv_gates.specs.Closing.{Adds, Closing, GoesOn}
use Rattle.qv_gates.proofs.Following.{after_lines-push, Adds-push}

-- one more step
pub IsChecked-push : (base : Listing) (old new : Standing) (steps more : List LratLine) (line : LratLine) → IsAddition line → judged_rup old line ≡ Accepted → new ≡ after_line old line → more ≡ steps ++ line ∷ [] → IsChecked base old steps → IsChecked base new more
IsChecked-push base old new steps more line i j n e k =
    let s : Standing = standing_at base.live in
    let at : judged_rup (after_lines s steps) line ≡ Accepted = ap (λ (x : Standing). judged_rup x line) (sym k.reached) ∙ j in
    record {
      whole = k.whole;
      adds = subst (Adds s) (sym e) (Adds-push s steps line k.adds i at);
      reached = n ∙ ap (λ (x : Standing). after_line x line) k.reached ∙ sym (after_lines-push s steps line) ∙ ap (after_lines s) (sym e);
    }

-- one more clause, where no step came
pub IsChecked-add : (base new : Listing) (old checker : Standing) (id : ℕ) (lits : List Literal) → new ≡ with_clause base id lits → checker ≡ standing_at (base.live ++ record { id = id; lits = lits } ∷ []) → IsChecked base old [] → IsChecked new checker []
IsChecked-add base new old checker id lits e c k =
    let one : Numbered = record { id = id; lits = lits } in
    let live : new.live ≡ base.live ++ one ∷ [] = ap (λ (x : Listing). x.live) e in
    let given : new.given ≡ base.given ++ id ∷ [] = ap (λ (x : Listing). x.given) e in
    record {
      whole = given ∙ ap (λ (ids : List ℕ). ids ++ id ∷ []) k.whole ∙ sym (map-append (λ (x : Numbered). x.id) base.live (one ∷ [])) ∙ ap (map (λ (x : Numbered). x.id)) (sym live);
      adds = tt;
      reached = c ∙ ap standing_at (sym live);
    }

-- going on
pub GoesOn-itself : (old new : Closing) → new ≡ old → GoesOn old new
GoesOn-itself old new e = record { base = ap (λ (x : Closing). x.base) e; more = []; steps = ap (λ (x : Closing). x.steps) e ∙ sym (append-nil old.steps) }

pub GoesOn-on : (a b c : Closing) → GoesOn a b → GoesOn b c → GoesOn a c
GoesOn-on a b c g h = record { base = h.base ∙ g.base; more = g.more ++ h.more; steps = h.steps ∙ ap (λ (x : List LratLine). x ++ h.more) g.steps ∙ append_assoc a.steps g.more h.more }
