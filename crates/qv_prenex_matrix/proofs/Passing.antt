-- One step of a pass over parts that wait: the first one makes way for what its rule names.
use Rattle.std.proofs.Common.{◌≡◌, ℕ, zero, suc, ◌+◌, ◌*◌, ◌<◌, ◌≤◌, ◌==◌, Bool, true, false, not, ◌&&◌, if◌then◌else◌, List, [], ◌∷◌, ◌++◌, length, map, refl, sym, ap, ◌∙◌, arith, zero-add}
use Rattle.std.specs.Prelude.{sum}
use Rattle.std.specs.List.{AllByRecursion}
use Rattle.std.proofs.lemmas.Bool.{ne_eqb}
use Rattle.std.proofs.lemmas.List.Elements.{recursion_from_All}
use Rattle.qv_words.specs.Tree.{Tree}
use Rattle.qv_words.specs.Prenex.{tree_size}
use Rattle.qv_store.specs.Nodes.{tree_at}
use Rattle.qv_store.specs.Stores.{Grows}
use Rattle.qv_prenex_laws.specs.FormLaws.{lengths_under, joined_lengths, quantifier_lengths, one_first, all_lengths}
use Rattle.qv_prenex_laws.specs.MatrixLaws.{starts_empty}
use Rattle.qv_prenex_laws.specs.RuleLaws.{rule_at, parts_of, lengths_by_rule}
use Rattle.qv_prenex_laws.specs.RuleLaws.{Part as PlainPart, Rule as PlainRule, Plain as PlainIs, Turned as TurnedInto, Joined as JoinedBy, Crossed as CrossedFrom, Bound as BoundBy}
use Rattle.qv_prenex_laws.proofs.FormLengths.{joined-total, quantifier-total}
use Rattle.qv_prenex_laws.proofs.Rules.{lengths-by-rule}
use Rattle.qv_prenex_laws.proofs.RuleBlocks.{parts-shrink}
use Rattle.qv_prenex_matrix.specs.declared.rules.Part.{Part}
use Rattle.qv_prenex_matrix.specs.declared.rules.Rule.{Rule}
use Rattle.qv_prenex_matrix.specs.declared.rules.Rule.TheVariants.{Plain, Turned, Joined, Crossed, Bound}
use Rattle.qv_prenex_matrix.specs.Rules.{part_in, rule_in, parts_over, is_bound, binds_existential, IsRuleBelow}
use Rattle.qv_prenex_matrix.specs.Waiting.{parts_in, under_plus, variables_of, number_of, all_start_empty, weight, work, AreBelow}
use Rattle.qv_prenex_matrix.proofs.Trees.{parts-grow, parts-below, length-grows}

-- smaller trees make less work
weight-more : (n m : ℕ) → n ≤ m → weight n ≤ weight m
unfolding weight
weight-more zero zero le = omega arith
weight-more zero (suc m) le = omega (arith, weight-more zero m (omega arith))
weight-more (suc n) zero le = absurd (omega arith)
weight-more (suc n) (suc m) le = omega (arith, weight-more n m (omega (arith, le)))

weight-some : (n : ℕ) → 1 ≤ weight n
unfolding weight
weight-some zero = omega arith
weight-some (suc n) = omega (arith, weight-some n)

weight-smaller : (n m : ℕ) → n < m → 5 * weight n ≤ weight m
unfolding weight
weight-smaller n zero lt = absurd (omega arith)
weight-smaller n (suc m) lt = omega (arith, weight-more n m (omega (arith, lt)))

-- the work of parts that are smaller than a tree
abbrev AreSmaller : ℕ → List PlainPart → Type 0
AreSmaller n = AllByRecursion (λ p. tree_size p.tree < n)

pub work-smaller : (n : ℕ) (qs ps : List PlainPart) → AreSmaller n qs → length qs ≤ 4 → work (qs ++ ps) < weight n + work ps
unfolding work
work-smaller n [] ps h few = omega (arith, weight-some n)
work-smaller n (a ∷ []) ps h few =
    let ha = weight-smaller (tree_size a.tree) n h.0 in
    omega (arith, ha, weight-some (tree_size a.tree))
work-smaller n (a ∷ b ∷ []) ps h few =
    let ha = weight-smaller (tree_size a.tree) n h.0 in
    let hb = weight-smaller (tree_size b.tree) n h.1.0 in
    omega (arith, ha, hb, weight-some (tree_size a.tree), weight-some (tree_size b.tree))
work-smaller n (a ∷ b ∷ c ∷ []) ps h few =
    let ha = weight-smaller (tree_size a.tree) n h.0 in
    let hb = weight-smaller (tree_size b.tree) n h.1.0 in
    let hc = weight-smaller (tree_size c.tree) n h.1.1.0 in
    omega (arith, ha, hb, hc, weight-some (tree_size a.tree), weight-some (tree_size b.tree), weight-some (tree_size c.tree))
work-smaller n (a ∷ b ∷ c ∷ d ∷ []) ps h few =
    let ha = weight-smaller (tree_size a.tree) n h.0 in
    let hb = weight-smaller (tree_size b.tree) n h.1.0 in
    let hc = weight-smaller (tree_size c.tree) n h.1.1.0 in
    let hd = weight-smaller (tree_size d.tree) n h.1.1.1.0 in
    omega (arith, ha, hb, hc, hd, weight-some (tree_size a.tree), weight-some (tree_size b.tree), weight-some (tree_size c.tree), weight-some (tree_size d.tree))
work-smaller n (a ∷ b ∷ c ∷ d ∷ e ∷ qs) ps h few = absurd (omega (arith, few))

few-parts : (plus : Bool) (r : PlainRule) → length (parts_of plus r) ≤ 4
few-parts plus PlainIs = omega arith
few-parts plus (TurnedInto a) = omega arith
few-parts plus (JoinedBy o a b) = omega arith
few-parts plus (CrossedFrom a b c d) = omega arith
few-parts plus (BoundBy existential l s body) = omega arith

pub work-step : (p : PlainPart) (ps : List PlainPart) → work (parts_of p.plus (rule_at p.plus p.tree) ++ ps) < work (p ∷ ps)
unfolding work
work-step p ps =
    work-smaller (tree_size p.tree) (parts_of p.plus (rule_at p.plus p.tree)) ps
    (recursion_from_All _ (parts_of p.plus (rule_at p.plus p.tree)) (parts-shrink p.plus p.tree))
    (few-parts p.plus (rule_at p.plus p.tree))

-- whether a rule has a variable of its own
abbrev pub has_own : PlainRule → Bool
has_own PlainIs = false
has_own (TurnedInto a) = false
has_own (JoinedBy o a b) = false
has_own (CrossedFrom a b c d) = false
has_own (BoundBy existential l s body) = true

bound-own : (trees : List Tree) (r : Rule) → has_own (rule_in trees r) ≡ is_bound r
bound-own trees Plain = refl
bound-own trees (Turned a) = refl
bound-own trees (Joined o a b) = refl
bound-own trees (Crossed a b c d) = refl
bound-own trees (Bound existential l s body) = refl

-- the variables of a form are those of its parts, and perhaps its own
variables-rule : (plus : Bool) (r : PlainRule) (ps : List PlainPart) →
    sum (lengths_by_rule plus r) + variables_of ps ≡ number_of (has_own r) + variables_of (parts_of plus r ++ ps)
unfolding variables_of
variables-rule plus PlainIs ps = omega arith
variables-rule plus (TurnedInto a) ps = omega arith
variables-rule plus (JoinedBy o a b) ps = omega (arith, joined-total (lengths_under plus a) (lengths_under plus b))
variables-rule plus (CrossedFrom a b c d) ps =
    let la = lengths_under a.plus a.tree in
    let lb = lengths_under b.plus b.tree in
    let lc = lengths_under c.plus c.tree in
    let ld = lengths_under d.plus d.tree in
    omega (arith, joined-total (joined_lengths la lb) (joined_lengths lc ld), joined-total la lb, joined-total lc ld)
variables-rule plus (BoundBy existential l s body) ps = omega (arith, quantifier-total existential (lengths_under plus body))

pub variables-step : (p : PlainPart) (ps : List PlainPart) →
    variables_of (p ∷ ps)
    ≡ number_of (has_own (rule_at p.plus p.tree)) + variables_of (parts_of p.plus (rule_at p.plus p.tree) ++ ps)
unfolding variables_of
variables-step p ps =
    ap (λ ns. sum ns + variables_of ps) (lengths-by-rule p.plus p.tree)
    ∙ variables-rule p.plus (rule_at p.plus p.tree) ps

-- the first block of a form
sum-empty : (n m : ℕ) → (n + m == 0) ≡ ((n == 0) && (m == 0))
sum-empty zero m = ap (λ k. k == 0) (zero-add m)
sum-empty (suc n) m =
    ne_eqb (suc n + m) 0 (λ e. omega (arith, e)) ∙ sym (ap (λ b. b && (m == 0)) (ne_eqb (suc n) 0 (λ e. omega (arith, e))))

and-true : (b : Bool) → (b && true) ≡ b
and-true true = refl
and-true false = refl

joined-empty : (ns ms : List ℕ) → starts_empty (joined_lengths ns ms) ≡ (starts_empty ns && starts_empty ms)
joined-empty [] ms = refl
joined-empty (n ∷ ns) [] = sym (and-true (n == 0))
joined-empty (n ∷ ns) (m ∷ ms) = sum-empty n m

quantifier-empty : (existential : Bool) (ns : List ℕ) → starts_empty (quantifier_lengths existential ns) ≡ not existential
quantifier-empty true [] = refl
quantifier-empty true (n ∷ ns) = ne_eqb (suc n) 0 (λ e. omega (arith, e))
quantifier-empty false [] = refl
quantifier-empty false (n ∷ ns) = either-way (n == 0)
  where
    either-way : (b : Bool) → starts_empty (if b then 0 ∷ one_first ns else 0 ∷ 1 ∷ n ∷ ns) ≡ true
    either-way true = refl
    either-way false = refl

and-assoc : (a b c : Bool) → ((a && b) && c) ≡ (a && (b && c))
and-assoc true b c = refl
and-assoc false b c = refl

-- what a rule says of its first block
abbrev pub starts_by : Bool → PlainRule → List PlainPart → Bool
starts_by plus (BoundBy existential l s body) ps = not existential && all_start_empty ps
starts_by plus r ps = all_start_empty (parts_of plus r ++ ps)

starts-rule : (plus : Bool) (r : PlainRule) (ps : List PlainPart) →
    (starts_empty (lengths_by_rule plus r) && all_start_empty ps) ≡ starts_by plus r ps
unfolding all_start_empty
starts-rule plus PlainIs ps = refl
starts-rule plus (TurnedInto a) ps = refl
starts-rule plus (JoinedBy o a b) ps =
    let la = lengths_under plus a in
    let lb = lengths_under plus b in
    ap (λ x. x && all_start_empty ps) (joined-empty la lb) ∙ and-assoc (starts_empty la) (starts_empty lb) (all_start_empty ps)
starts-rule plus (CrossedFrom a b c d) ps =
    let la = lengths_under a.plus a.tree in
    let lb = lengths_under b.plus b.tree in
    let lc = lengths_under c.plus c.tree in
    let ld = lengths_under d.plus d.tree in
    ap (λ x. x && all_start_empty ps) (joined-empty (joined_lengths la lb) (joined_lengths lc ld))
    ∙ ap (λ x. (x && starts_empty (joined_lengths lc ld)) && all_start_empty ps) (joined-empty la lb)
    ∙ ap (λ x. ((starts_empty la && starts_empty lb) && x) && all_start_empty ps) (joined-empty lc ld)
    ∙ four (starts_empty la) (starts_empty lb) (starts_empty lc) (starts_empty ld) (all_start_empty ps)
  where
    four : (a b c d e : Bool) → (((a && b) && (c && d)) && e) ≡ (a && (b && (c && (d && e))))
    four false b c d e = refl
    four true false c d e = refl
    four true true false d e = refl
    four true true true d e = refl
starts-rule plus (BoundBy existential l s body) ps = ap (λ x. x && all_start_empty ps) (quantifier-empty existential (lengths_under plus body))

pub starts-step : (p : PlainPart) (ps : List PlainPart) →
    all_start_empty (p ∷ ps) ≡ starts_by p.plus (rule_at p.plus p.tree) ps
unfolding all_start_empty
starts-step p ps =
    ap (λ ns. starts_empty ns && all_start_empty ps) (lengths-by-rule p.plus p.tree)
    ∙ starts-rule p.plus (rule_at p.plus p.tree) ps

-- the parts of a rule over ids are those of the rule over trees
pub parts-of-rule : (trees : List Tree) (plus : Bool) (r : Rule) → parts_in trees (parts_over plus r) ≡ parts_of plus (rule_in trees r)
parts-of-rule trees plus Plain = refl
parts-of-rule trees plus (Turned a) = refl
parts-of-rule trees plus (Joined o a b) = refl
parts-of-rule trees plus (Crossed a b c d) = refl
parts-of-rule trees plus (Bound existential l s body) = refl

parts-append : (trees : List Tree) (qs ps : List Part) → parts_in trees (qs ++ ps) ≡ parts_in trees qs ++ parts_in trees ps
parts-append trees [] ps = refl
parts-append trees (q ∷ qs) ps = ap (λ xs. part_in trees q ∷ xs) (parts-append trees qs ps)

below-append : (n : ℕ) (qs ps : List Part) → AreBelow n qs → AreBelow n ps → AreBelow n (qs ++ ps)
below-append n [] ps h k = k
below-append n (q ∷ qs) ps h k = (h.0, below-append n qs ps h.1 k)

rule-below : (n : ℕ) (plus : Bool) (r : Rule) → IsRuleBelow n r → AreBelow n (parts_over plus r)
rule-below n plus Plain h = tt
rule-below n plus (Turned a) h = (h, tt)
rule-below n plus (Joined o a b) h = (h.0, (h.1, tt))
rule-below n plus (Crossed a b c d) h = (h.0, (h.1, (h.2, (h.3, tt))))
rule-below n plus (Bound existential l s body) h = (h, tt)

-- the first part makes way for what its rule names
pub record IsRuleOf (old new : List Tree) (p : Part) (r : Rule) : Type 0 where
  pub rule : rule_in new r ≡ rule_at p.plus (tree_at old p.term)
  pub below : IsRuleBelow (length new) r
  pub grows : Grows old new

pub step-below : (old new : List Tree) (p : Part) (r : Rule) (ps : List Part) → IsRuleOf old new p r → AreBelow (length old) ps →
    AreBelow (length new) (parts_over p.plus r ++ ps)
step-below old new p r ps h low =
    below-append (length new) (parts_over p.plus r) ps (rule-below (length new) p.plus r h.below)
    (parts-below (length old) (length new) ps (length-grows old new h.grows) low)

pub step-parts : (old new : List Tree) (p : Part) (r : Rule) (ps : List Part) → IsRuleOf old new p r → AreBelow (length old) ps →
    parts_in new (parts_over p.plus r ++ ps) ≡ parts_of p.plus (rule_at p.plus (tree_at old p.term)) ++ parts_in old ps
step-parts old new p r ps h low =
    parts-append new (parts_over p.plus r) ps
    ∙ ap (λ xs. xs ++ parts_in new ps) (parts-of-rule new p.plus r ∙ ap (parts_of p.plus) h.rule)
    ∙ ap (λ xs. parts_of p.plus (rule_at p.plus (tree_at old p.term)) ++ xs) (parts-grow old new ps h.grows low)

pub step-work : (old new : List Tree) (p : Part) (r : Rule) (ps : List Part) → IsRuleOf old new p r → AreBelow (length old) ps →
    work (parts_in new (parts_over p.plus r ++ ps)) < work (parts_in old (p ∷ ps))
step-work old new p r ps h low =
    let same = ap work (step-parts old new p r ps h low) in
    omega (arith, same, work-step (part_in old p) (parts_in old ps))

pub step-variables : (old new : List Tree) (p : Part) (r : Rule) (ps : List Part) → IsRuleOf old new p r → AreBelow (length old) ps →
    variables_of (parts_in old (p ∷ ps)) ≡ number_of (is_bound r) + variables_of (parts_in new (parts_over p.plus r ++ ps))
step-variables old new p r ps h low =
    let rule = rule_at p.plus (tree_at old p.term) in
    variables-step (part_in old p) (parts_in old ps)
    ∙ ap (λ (b : Bool). number_of b + variables_of (parts_of p.plus rule ++ parts_in old ps)) (sym (ap has_own h.rule) ∙ bound-own new r)
    ∙ ap (λ xs. number_of (is_bound r) + variables_of xs) (sym (step-parts old new p r ps h low))

-- what a rule over ids says of its first block
abbrev pub opens_by : List Tree → Bool → Rule → List Part → Bool
opens_by new plus r ps =
    if is_bound r then not (binds_existential r) && all_start_empty (parts_in new ps)
    else all_start_empty (parts_in new (parts_over plus r ++ ps))

opens-starts : (old new : List Tree) (plus : Bool) (r : Rule) (ps : List Part) → parts_in new ps ≡ parts_in old ps →
    starts_by plus (rule_in new r) (parts_in old ps) ≡ opens_by new plus r ps
opens-starts old new plus Plain ps same = ap all_start_empty (sym same)
opens-starts old new plus (Turned a) ps same =
    ap (λ xs. all_start_empty (parts_of plus (rule_in new (Turned a)) ++ xs)) (sym same)
opens-starts old new plus (Joined o a b) ps same =
    ap (λ xs. all_start_empty (parts_of plus (rule_in new (Joined o a b)) ++ xs)) (sym same)
opens-starts old new plus (Crossed a b c d) ps same =
    ap (λ xs. all_start_empty (parts_of plus (rule_in new (Crossed a b c d)) ++ xs)) (sym same)
opens-starts old new plus (Bound existential l s body) ps same = ap (λ xs. not existential && all_start_empty xs) (sym same)

pub step-starts : (old new : List Tree) (p : Part) (r : Rule) (ps : List Part) → IsRuleOf old new p r → AreBelow (length old) ps →
    all_start_empty (parts_in old (p ∷ ps)) ≡ opens_by new p.plus r ps
step-starts old new p r ps h low =
    starts-step (part_in old p) (parts_in old ps)
    ∙ ap (λ x. starts_by p.plus x (parts_in old ps)) (sym h.rule)
    ∙ opens-starts old new p.plus r ps (parts-grow old new ps h.grows low)

-- where a part is taken away
pub without-work : (old new : List Tree) (p : Part) (ps : List Part) → Grows old new → AreBelow (length old) ps →
    work (parts_in new ps) < work (parts_in old (p ∷ ps))
unfolding work
without-work old new p ps g low =
    omega (arith, ap work (parts-grow old new ps g low), weight-some (tree_size (tree_at old p.term)))

pub none-starts : all_start_empty [] ≡ true
unfolding all_start_empty
none-starts = refl

pub one-starts : (p : PlainPart) → all_start_empty (p ∷ []) ≡ starts_empty (lengths_under p.plus p.tree)
unfolding all_start_empty
one-starts p = and-true (starts_empty (lengths_under p.plus p.tree))

pub none-variables : variables_of [] ≡ 0
unfolding variables_of
none-variables = refl

-- the variables of asserted formulas
pub variables-first : (trees : List Tree) (ns : List ℕ) →
    variables_of (parts_in trees (map under_plus ns)) ≡ sum (all_lengths (map (tree_at trees) ns))
unfolding variables_of
variables-first trees [] = refl
variables-first trees (n ∷ ns) =
    omega (arith, variables-first trees ns, joined-total (lengths_under true (tree_at trees n)) (all_lengths (map (tree_at trees) ns)))

pub first-below : (n : ℕ) (ns : List ℕ) → AllByRecursion (λ k. k < n) ns → AreBelow n (map under_plus ns)
first-below n [] h = tt
first-below n (k ∷ ns) h = (h.0, first-below n ns h.1)
