-- The clauses of a checker, one after the other.
use Rattle.std.proofs.Common.{◌≡◌, ◌∙◌, ◌++◌, ◌+◌, ◌<◌, ℕ, Some, None, List, [], ◌∷◌, length, take, get_or, sym, ap, arith, append_assoc, length-append}
use Rattle.std.specs.Prelude.{flat_map, max}
use Rattle.std.proofs.lemmas.List.Concat.{flat_map-append}
use Rattle.std.proofs.lemmas.List.{append-nil, map-append, take_more}
use Rattle.qv_cnf.specs.Literal.{Literal}
use Rattle.qv_cnf.specs.Listing.{Numbered, clause_named, clauses_of}
use Rattle.qv_rup.specs.Shelving.{picked, picked_in}
use Rattle.qv_rup.proofs.Shelved.{taken}
use Rattle.qv_check_clauses.specs.Clauses.{clause_text, greatest, greatest_in}

module _ (ids : List ℕ) (i : ℕ) (live : List Numbered) (h : i < length ids) where
  -- one that is no longer there
  pub clauses-none : clause_named (get_or ids i 0) live ≡ None → clauses_of (picked (take (i + 1) ids) live) ≡ clauses_of (picked (take i ids) live)
  clauses-none none =
      ap clauses_of (taken ids i live h ∙ (ap (λ o. picked (take i ids) live ++ picked_in (get_or ids i 0) o []) none ∙ append-nil (picked (take i ids) live)))

  -- one more
  pub clauses-one : (lits : List Literal) → clause_named (get_or ids i 0) live ≡ Some lits → clauses_of (picked (take (i + 1) ids) live) ≡ clauses_of (picked (take i ids) live) ++ lits ∷ []
  clauses-one lits named =
      let c : Numbered = record { id = get_or ids i 0; lits = lits } in
      ap clauses_of (taken ids i live h ∙ ap (λ o. picked (take i ids) live ++ picked_in (get_or ids i 0) o []) named)
      ∙ map-append (λ (x : Numbered). x.lits) (picked (take i ids) live) (c ∷ [])

-- ---- the greatest variable

pub greatest_in-push : (lits : List Literal) (l : Literal) → greatest_in (lits ++ l ∷ []) ≡ max (greatest_in lits) l.variable
greatest_in-push [] l = omega arith
greatest_in-push (x ∷ xs) l = let rest = greatest_in-push xs l in omega (arith, rest)

pub greatest-push : (clauses : List (List Literal)) (lits : List Literal) → greatest (clauses ++ lits ∷ []) ≡ max (greatest clauses) (greatest_in lits)
greatest-push [] lits = omega arith
greatest-push (c ∷ cs) lits = let rest = greatest-push cs lits in omega (arith, rest)

-- ---- their number

pub count-push : (clauses : List (List Literal)) (lits : List Literal) → length (clauses ++ lits ∷ []) ≡ length clauses + 1
count-push clauses lits = length-append clauses (lits ∷ [])

-- ---- one more literal

pub greatest-step : (lits : List Literal) (i : ℕ) (l : Literal) (now v new : ℕ) → i < length lits → l ≡ get_or lits i l → now ≡ greatest_in (take i lits) → v ≡ l.variable → new ≡ max now v → new ≡ greatest_in (take (i + 1) lits)
greatest-step lits i l now v new h is before own more =
    more
    ∙ (ap (λ n. max n v) before ∙ (ap (λ n. max (greatest_in (take i lits)) n) (own ∙ ap (λ (x : Literal). x.variable) is)
    ∙ (sym (greatest_in-push (take i lits) (get_or lits i l)) ∙ ap greatest_in (sym (take_more lits i l h)))))

-- ---- one more clause, or none

module _ (ids : List ℕ) (i : ℕ) (live : List Numbered) (h : i < length ids) where
  pub greatest-none : (now : ℕ) → clause_named (get_or ids i 0) live ≡ None → now ≡ greatest (clauses_of (picked (take i ids) live)) → now ≡ greatest (clauses_of (picked (take (i + 1) ids) live))
  greatest-none now none before = before ∙ sym (ap greatest (clauses-none ids i live h none))

  pub greatest-one : (lits : List Literal) (now own new : ℕ) → clause_named (get_or ids i 0) live ≡ Some lits → now ≡ greatest (clauses_of (picked (take i ids) live)) → own ≡ greatest_in lits → new ≡ max now own
      → new ≡ greatest (clauses_of (picked (take (i + 1) ids) live))
  greatest-one lits now own new named before is more =
      more ∙ (ap (λ n. max n own) before ∙ (ap (λ n. max (greatest (clauses_of (picked (take i ids) live))) n) is
      ∙ (sym (greatest-push (clauses_of (picked (take i ids) live)) lits) ∙ sym (ap greatest (clauses-one ids i live h lits named)))))

  pub count-none : (now : ℕ) → clause_named (get_or ids i 0) live ≡ None → now ≡ length (clauses_of (picked (take i ids) live)) → now ≡ length (clauses_of (picked (take (i + 1) ids) live))
  count-none now none before = before ∙ sym (ap length (clauses-none ids i live h none))

  pub count-one : (lits : List Literal) (now : ℕ) → clause_named (get_or ids i 0) live ≡ Some lits → now ≡ length (clauses_of (picked (take i ids) live)) → now + 1 ≡ length (clauses_of (picked (take (i + 1) ids) live))
  count-one lits now named before = ap (λ n. n + 1) before ∙ (sym (count-push (clauses_of (picked (take i ids) live)) lits) ∙ sym (ap length (clauses-one ids i live h lits named)))

  pub text-none : (start now : List ℕ) → clause_named (get_or ids i 0) live ≡ None → now ≡ start ++ flat_map clause_text (clauses_of (picked (take i ids) live)) → now ≡ start ++ flat_map clause_text (clauses_of (picked (take (i + 1) ids) live))
  text-none start now none before = before ∙ sym (ap (λ (cs : List (List Literal)). start ++ flat_map clause_text cs) (clauses-none ids i live h none))

  pub text-one : (lits : List Literal) (start now new : List ℕ) → clause_named (get_or ids i 0) live ≡ Some lits → now ≡ start ++ flat_map clause_text (clauses_of (picked (take i ids) live)) → new ≡ now ++ clause_text lits
      → new ≡ start ++ flat_map clause_text (clauses_of (picked (take (i + 1) ids) live))
  text-one lits start now new named before more =
      let cs = clauses_of (picked (take i ids) live) in
      more ∙ (ap (λ (t : List ℕ). t ++ clause_text lits) before ∙ (append_assoc start (flat_map clause_text cs) (clause_text lits)
      ∙ (ap (λ (t : List ℕ). start ++ (flat_map clause_text cs ++ t)) (sym (append-nil (clause_text lits)))
      ∙ (ap (λ (t : List ℕ). start ++ t) (sym (flat_map-append clause_text cs (lits ∷ [])))
      ∙ sym (ap (λ (ds : List (List Literal)). start ++ flat_map clause_text ds) (clauses-one ids i live h lits named))))))
