-- Linked lists of fresh entries, entry by entry.
use Rattle.std.proofs.Common.{◌≡◌, ℕ, zero, suc, List, [], ◌∷◌, ◌++◌, Some, take, refl, sym, subst, append_assoc}
use Rattle.std.specs.List.{slice_get}
use Rattle.std.proofs.lemmas.List.{append-nil}
use Rattle.std.proofs.lemmas.Option.{none-some, same_Some}
use Rattle.qv_words.specs.Problem.{Problem}
use Rattle.qv_words.specs.Linked.{Entry, IsEntry, AreEntries}
use Rattle.qv_meter.specs.Played.{IsFresh, AreFreshEntries}

pub shorter : (p : Problem) (earlier entries : List Entry) (e : Entry) → AreFreshEntries p earlier (entries ++ e ∷ []) → AreFreshEntries p earlier entries
shorter p earlier [] e h = tt
shorter p earlier (f ∷ entries) e h = (h.0, h.1, shorter p (earlier ++ f ∷ []) entries e h.2)

pub last-entry : (p : Problem) (earlier entries : List Entry) (e : Entry) → AreFreshEntries p earlier (entries ++ e ∷ []) → IsEntry p (earlier ++ entries) e × IsFresh p (earlier ++ entries) e
last-entry p earlier [] e h = subst (λ (es : List Entry). IsEntry p es e × IsFresh p es e) (sym (append-nil earlier)) (h.0, h.1)
last-entry p earlier (f ∷ entries) e h =
    subst (λ (es : List Entry). IsEntry p es e × IsFresh p es e) (append_assoc earlier (f ∷ []) entries) (last-entry p (earlier ++ f ∷ []) entries e h.2)

pub longer : (p : Problem) (earlier entries : List Entry) (e : Entry) → AreFreshEntries p earlier entries → IsEntry p (earlier ++ entries) e × IsFresh p (earlier ++ entries) e → AreFreshEntries p earlier (entries ++ e ∷ [])
longer p earlier [] e h next =
    let here : IsEntry p earlier e × IsFresh p earlier e = subst (λ (es : List Entry). IsEntry p es e × IsFresh p es e) (append-nil earlier) next in
    (here.0, here.1, tt)
longer p earlier (f ∷ entries) e h next =
    (h.0, h.1, longer p (earlier ++ f ∷ []) entries e h.2 (subst (λ (es : List Entry). IsEntry p es e × IsFresh p es e) (sym (append_assoc earlier (f ∷ []) entries)) next))

pub linked : (p : Problem) (earlier entries : List Entry) → AreFreshEntries p earlier entries → AreEntries p earlier entries
linked p earlier [] h = tt
linked p earlier (f ∷ entries) h = (h.0, linked p (earlier ++ f ∷ []) entries h.2)

pub fresh : (p : Problem) (earlier entries : List Entry) → AreFreshEntries p earlier entries → (n : ℕ) (e : Entry) → slice_get entries n ≡ Some e → IsFresh p (earlier ++ take n entries) e
fresh p earlier [] h n e at = absurd (none-some e at)
fresh p earlier (f ∷ entries) h zero e at =
    subst (λ (x : Entry). IsFresh p (earlier ++ []) x) (same_Some f e at) (subst (λ (es : List Entry). IsFresh p es f) (sym (append-nil earlier)) h.1)
fresh p earlier (f ∷ entries) h (suc n) e at =
    subst (λ (es : List Entry). IsFresh p es e) (append_assoc earlier (f ∷ []) (take n entries)) (fresh p (earlier ++ f ∷ []) entries h.2 n e at)

pub played : (p : Problem) (earlier entries : List Entry) → AreEntries p earlier entries → ((n : ℕ) (e : Entry) → slice_get entries n ≡ Some e → IsFresh p (earlier ++ take n entries) e) → AreFreshEntries p earlier entries
played p earlier [] h each = tt
played p earlier (f ∷ entries) h each = (
  h.0,
  subst (λ (es : List Entry). IsFresh p es f) (append-nil earlier) (each 0 f refl),
  played p (earlier ++ f ∷ []) entries h.1
      (λ n e at. subst (λ (es : List Entry). IsFresh p es e) (sym (append_assoc earlier (f ∷ []) (take n entries))) (each (suc n) e at)),
)
