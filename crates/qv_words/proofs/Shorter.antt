-- Lists that stay what they are where their last item is dropped, and what makes a longer one.
use Rattle.std.proofs.Common.{◌≡◌, refl, List, [], ◌∷◌, ◌++◌, sym, subst, append_assoc}
use Rattle.std.proofs.lemmas.List.{append-nil}
use Rattle.qv_words.specs.Problem.{Problem}
use Rattle.qv_words.specs.Expansion.{ExpansionLine, Grown, AreLines, IsLine, grow, grown_behind}
use Rattle.qv_words.specs.Linked.{Entry, IsEntry, AreEntries}

pub lines-shorter : (p : Problem) (grown : List Grown) (lines : List ExpansionLine) (line : ExpansionLine) → AreLines p grown (lines ++ line ∷ []) → AreLines p grown lines
lines-shorter p grown [] line h = tt
lines-shorter p grown (l ∷ lines) line h = (h.0, lines-shorter p (grown ++ grow p grown l ∷ []) lines line h.1)

pub last-line : (p : Problem) (grown : List Grown) (lines : List ExpansionLine) (line : ExpansionLine) → AreLines p grown (lines ++ line ∷ []) → IsLine p (grown_behind p grown lines) line
last-line p grown [] line h = h.0
last-line p grown (l ∷ lines) line h = last-line p (grown ++ grow p grown l ∷ []) lines line h.1

pub lines-longer : (p : Problem) (grown : List Grown) (lines : List ExpansionLine) (line : ExpansionLine) → AreLines p grown lines → IsLine p (grown_behind p grown lines) line → AreLines p grown (lines ++ line ∷ [])
lines-longer p grown [] line h next = (next, tt)
lines-longer p grown (l ∷ lines) line h next = (h.0, lines-longer p (grown ++ grow p grown l ∷ []) lines line h.1 next)

-- what stands behind one more line
pub grown-longer : (p : Problem) (grown : List Grown) (lines : List ExpansionLine) (line : ExpansionLine) → grown_behind p grown (lines ++ line ∷ []) ≡ grown_behind p grown lines ++ grow p (grown_behind p grown lines) line ∷ []
grown-longer p grown [] line = refl
grown-longer p grown (l ∷ lines) line = grown-longer p (grown ++ grow p grown l ∷ []) lines line

pub entries-shorter : (p : Problem) (earlier entries : List Entry) (e : Entry) → AreEntries p earlier (entries ++ e ∷ []) → AreEntries p earlier entries
entries-shorter p earlier [] e h = tt
entries-shorter p earlier (f ∷ entries) e h = (h.0, entries-shorter p (earlier ++ f ∷ []) entries e h.1)

pub last-entry : (p : Problem) (earlier entries : List Entry) (e : Entry) → AreEntries p earlier (entries ++ e ∷ []) → IsEntry p (earlier ++ entries) e
last-entry p earlier [] e h = subst (λ (es : List Entry). IsEntry p es e) (sym (append-nil earlier)) h.0
last-entry p earlier (f ∷ entries) e h =
    subst (λ (es : List Entry). IsEntry p es e) (append_assoc earlier (f ∷ []) entries) (last-entry p (earlier ++ f ∷ []) entries e h.1)

pub entries-longer : (p : Problem) (earlier entries : List Entry) (e : Entry) → AreEntries p earlier entries → IsEntry p (earlier ++ entries) e → AreEntries p earlier (entries ++ e ∷ [])
entries-longer p earlier [] e h next = (subst (λ (es : List Entry). IsEntry p es e) (append-nil earlier) next, tt)
entries-longer p earlier (f ∷ entries) e h next =
    (h.0, entries-longer p (earlier ++ f ∷ []) entries e h.1 (subst (λ (es : List Entry). IsEntry p es e) (sym (append_assoc earlier (f ∷ []) entries)) next))
