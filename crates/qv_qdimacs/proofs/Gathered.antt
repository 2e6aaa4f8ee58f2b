-- The outer variables, one more at a time.
use Rattle.std.proofs.Common.{◌≡◌, ℕ, ◌+◌, ◌-◌, ◌<◌, ◌≤◌, Bool, true, false, cond, not, List, [], ◌∷◌, ◌++◌, length, take, drop, slice_get, Some, sym, ap, subst, ◌∙◌, arith}
use Rattle.std.specs.Ordering.{nat_cmp}
use Rattle.std.specs.BTreeSet.{insert_key}
use Rattle.std.proofs.lemmas.List.{map-append, append_assoc, append-nil, drop_all, take_all, length-drop}
use Rattle.std.proofs.lemmas.List.Sums.{fold-append}
use Rattle.std.proofs.lemmas.List.Concat.{flat_map-append}
use Rattle.std.proofs.lemmas.List.Elements.{filter-append}
use Rattle.qv_cnf.specs.Literal.{Literal}
use Rattle.qv_qdimacs.specs.declared.files.Quantified.{Quantified}
use Rattle.qv_qdimacs.specs.Outer.{is_existential, leading, rest_of, variables_of, clause_variables, occurring, left_by, put_among}
use Rattle.qv_qdimacs.proofs.Standing.{take-next}

-- ---- variables of clauses

put-append : (others xs ys : List ℕ) → put_among others (xs ++ ys) ≡ put_among (put_among others xs) ys
put-append others xs ys = fold-append (insert_key nat_cmp) others xs ys

lits-more : (test : ℕ → Bool) (begin : List ℕ) (clause : List Literal) (i : ℕ) (l : Literal) → slice_get clause i ≡ Some l
    → put_among begin (left_by test (clause_variables (take (i + 1) clause))) ≡ put_among (put_among begin (left_by test (clause_variables (take i clause)))) (left_by test (l.variable ∷ []))
lits-more test begin clause i l is =
    ap (λ (ls : List Literal). put_among begin (left_by test (clause_variables ls))) (take-next clause i l is)
    ∙ ap (λ (vs : List ℕ). put_among begin (left_by test vs)) (map-append (λ (k : Literal). k.variable) (take i clause) (l ∷ []))
    ∙ ap (put_among begin) (filter-append (λ (v : ℕ). not (test v)) (clause_variables (take i clause)) (l.variable ∷ []))
    ∙ put-append begin (left_by test (clause_variables (take i clause))) (left_by test (l.variable ∷ []))

-- one that the test takes away, and one that it leaves
pub kept-more : (test : ℕ → Bool) (begin keys : List ℕ) (clause : List Literal) (i : ℕ) (l : Literal) → keys ≡ put_among begin (left_by test (clause_variables (take i clause)))
    → slice_get clause i ≡ Some l → test l.variable ≡ true → keys ≡ put_among begin (left_by test (clause_variables (take (i + 1) clause)))
kept-more test begin keys clause i l h is tested =
    h ∙ sym (lits-more test begin clause i l is
    ∙ ap (λ (t : Bool). put_among (put_among begin (left_by test (clause_variables (take i clause)))) (cond (not t) (l.variable ∷ []) [])) tested)

pub put-more : (test : ℕ → Bool) (begin keys : List ℕ) (clause : List Literal) (i : ℕ) (l : Literal) → keys ≡ put_among begin (left_by test (clause_variables (take i clause)))
    → slice_get clause i ≡ Some l → test l.variable ≡ false → insert_key nat_cmp keys l.variable ≡ put_among begin (left_by test (clause_variables (take (i + 1) clause)))
put-more test begin keys clause i l h is tested =
    ap (λ (ks : List ℕ). insert_key nat_cmp ks l.variable) h
    ∙ sym (lits-more test begin clause i l is
    ∙ ap (λ (t : Bool). put_among (put_among begin (left_by test (clause_variables (take i clause)))) (cond (not t) (l.variable ∷ []) [])) tested)

pub clauses-more : (test : ℕ → Bool) (begin keys new : List ℕ) (clauses : List (List Literal)) (i : ℕ) (clause : List Literal) → keys ≡ put_among begin (left_by test (occurring (take i clauses)))
    → slice_get clauses i ≡ Some clause → new ≡ put_among keys (left_by test (clause_variables clause)) → new ≡ put_among begin (left_by test (occurring (take (i + 1) clauses)))
clauses-more test begin keys new clauses i clause h is made =
    made
    ∙ ap (λ (ks : List ℕ). put_among ks (left_by test (clause_variables clause))) h
    ∙ sym (ap (λ (cs : List (List Literal)). put_among begin (left_by test (occurring cs))) (take-next clauses i clause is)
    ∙ ap (λ (vs : List ℕ). put_among begin (left_by test vs)) (flat_map-append (λ (c : List Literal). clause_variables c) (take i clauses) (clause ∷ []) ∙ ap (λ (vs : List ℕ). occurring (take i clauses) ++ vs) (append-nil (clause_variables clause)))
    ∙ ap (put_among begin) (filter-append (λ (v : ℕ). not (test v)) (occurring (take i clauses)) (clause_variables clause))
    ∙ put-append begin (left_by test (occurring (take i clauses))) (left_by test (clause_variables clause)))

-- ---- the leading part of a prefix

-- the first n quantifiers are existential
pub record IsLeading (prefix : List Quantified) (n : ℕ) : Type 0 where
  pub within : n ≤ length prefix
  pub variables : leading prefix ≡ variables_of (take n prefix) ++ leading (drop n prefix)
  pub rest : rest_of prefix ≡ rest_of (drop n prefix)

pub leading-more : (prefix : List Quantified) (n : ℕ) (q : Quantified) → IsLeading prefix n → slice_get prefix n ≡ Some q → n < length prefix → drop n prefix ≡ q ∷ drop (n + 1) prefix
    → is_existential q.quant ≡ true → IsLeading prefix (n + 1)
leading-more prefix n q h is less split first = record {
  within = omega (arith, less);
  variables = h.variables
      ∙ ap (λ (qs : List Quantified). variables_of (take n prefix) ++ leading qs) split
      ∙ ap (λ (t : Bool). variables_of (take n prefix) ++ cond t (q.variable ∷ leading (drop (n + 1) prefix)) []) first
      ∙ sym (append_assoc (variables_of (take n prefix)) (q.variable ∷ []) (leading (drop (n + 1) prefix)))
      ∙ ap (λ (vs : List ℕ). vs ++ leading (drop (n + 1) prefix)) (sym (ap variables_of (take-next prefix n q is) ∙ map-append (λ (p : Quantified). p.variable) (take n prefix) (q ∷ [])));
  rest = h.rest ∙ ap rest_of split ∙ ap (λ (t : Bool). cond t (rest_of (drop (n + 1) prefix)) (q ∷ drop (n + 1) prefix)) first;
}

pub rest-slice : (prefix : List Quantified) (n : ℕ) → drop n prefix ≡ rest_of prefix → take (length prefix - n) (drop n prefix) ≡ rest_of prefix
rest-slice prefix n is = take_all (length prefix - n) (drop n prefix) (omega (arith, length-drop n prefix)) ∙ is

-- behind them comes none, or a universal one
pub record IsWhole (prefix : List Quantified) (n : ℕ) : Type 0 where
  pub variables : variables_of (take n prefix) ≡ leading prefix
  pub rest : drop n prefix ≡ rest_of prefix

pub leading-end : (prefix : List Quantified) (n : ℕ) → IsLeading prefix n → length prefix ≤ n → IsWhole prefix (length prefix)
leading-end prefix n h end = subst (IsWhole prefix) same own
  where
    same : n ≡ length prefix
    same = omega (arith, h.within, end)

    none : drop n prefix ≡ []
    none = drop_all n prefix end

    own : IsWhole prefix n
    own = record {
      variables = sym (h.variables ∙ ap (λ (qs : List Quantified). variables_of (take n prefix) ++ leading qs) none ∙ append-nil (variables_of (take n prefix)));
      rest = none ∙ sym (h.rest ∙ ap rest_of none);
    }

pub leading-stop : (prefix : List Quantified) (n : ℕ) (q : Quantified) → IsLeading prefix n → drop n prefix ≡ q ∷ drop (n + 1) prefix → is_existential q.quant ≡ false → IsWhole prefix n
leading-stop prefix n q h split first = record {
  variables = sym (h.variables
      ∙ ap (λ (qs : List Quantified). variables_of (take n prefix) ++ leading qs) split
      ∙ ap (λ (t : Bool). variables_of (take n prefix) ++ cond t (q.variable ∷ leading (drop (n + 1) prefix)) []) first
      ∙ append-nil (variables_of (take n prefix)));
  rest = split ∙ sym (h.rest ∙ ap rest_of split ∙ ap (λ (t : Bool). cond t (rest_of (drop (n + 1) prefix)) (q ∷ drop (n + 1) prefix)) first);
}
