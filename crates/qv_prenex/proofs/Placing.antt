-- Where the variables of a form go among blocks that there are.
use Rattle.std.proofs.Common.{◌≡◌, ℕ, zero, suc, ◌+◌, ◌<◌, ◌≤◌, ◌==◌, Bool, true, false, if◌then◌else◌, List, [], ◌∷◌, ◌++◌, length, get_or, set, map, refl, sym, ap, ◌∙◌, arith, append_assoc, add-one, true≢false}
use Rattle.std.specs.Prelude.{Vec}
use Rattle.std.specs.List.{AllByRecursion}
use Rattle.std.specs.declared.alloc.Global.{Global}
use Rattle.std.proofs.lemmas.Bool.{ne_eqb}
use Rattle.qv_words.specs.declared.sort.Sort.{Sort}
use Rattle.qv_words.specs.declared.sort.Sort.TheVariants.{Bool as BoolSort}
use Rattle.qv_words.specs.declared.op.Op.TheVariants.{And}
use Rattle.qv_words.specs.Tree.{Tree, Literal}
use Rattle.qv_words.specs.Prenex.{Form, joined, joined_blocks, with_first, behind_first, tree_size, form_of}
use Rattle.qv_words.specs.Problem.{conjunction}
use Rattle.qv_store.specs.Nodes.{tree_at}
use Rattle.qv_store.specs.Stores.{Grows}
use Rattle.qv_prenex_laws.specs.FormLaws.{lengths_of, joined_forms}
use Rattle.qv_prenex_laws.specs.MatrixLaws.{starts_empty}
use Rattle.qv_prenex_laws.specs.RuleLaws.{rule_at, parts_of, blocks_under, universal_blocks, quantifier_blocks, blocks_by_rule}
use Rattle.qv_prenex_laws.specs.RuleLaws.{Part as PlainPart, Rule as PlainRule, Plain as PlainIs, Turned as TurnedInto, Joined as JoinedBy, Crossed as CrossedFrom, Bound as BoundBy}
use Rattle.qv_prenex_laws.proofs.FormLengths.{conjunction-form}
use Rattle.qv_prenex_laws.proofs.RuleBlocks.{blocks-by-rule}
use Rattle.qv_prenex_matrix.specs.declared.rules.Part.{Part}
use Rattle.qv_prenex_matrix.specs.declared.rules.Rule.{Rule}
use Rattle.qv_prenex_matrix.specs.declared.rules.Rule.TheVariants.{Plain, Turned, Joined, Crossed, Bound}
use Rattle.qv_prenex.specs.declared.blocks.Task.{Task}
use Rattle.qv_prenex_matrix.specs.Rules.{part_in, rule_in, parts_over, IsRuleBelow}
use Rattle.qv_prenex_matrix.specs.Waiting.{weight, work, parts_in}
use Rattle.qv_prenex.specs.Blocks.{sorts_in, behind, PlainTask, task_in, tasks_in, at_block, first_task, blocks_after, AreTasks, tasks_work}
use Rattle.qv_prenex_matrix.proofs.Trees.{part-grows, length-grows}
use Rattle.qv_prenex_matrix.proofs.Passing.{IsRuleOf, work-step, parts-of-rule}

-- joining
pub joined-nil : (a : List (List Sort)) → joined_blocks a [] ≡ a
joined-nil [] = refl
joined-nil (a ∷ as') = refl

pub joined-assoc : (a b c : List (List Sort)) → joined_blocks (joined_blocks a b) c ≡ joined_blocks a (joined_blocks b c)
joined-assoc [] b c = refl
joined-assoc (x ∷ a) [] c = refl
joined-assoc (x ∷ a) (y ∷ b) [] = refl
joined-assoc (x ∷ a) (y ∷ b) (z ∷ c) =
    let here = append_assoc x y z in
    let rest = joined-assoc a b c in
    cc

pub behind-nil : (k : ℕ) → behind k [] ≡ []
behind-nil zero = refl
behind-nil (suc k) = refl

pub behind-joined : (k : ℕ) (a b : List (List Sort)) → behind k (joined_blocks a b) ≡ joined_blocks (behind k a) (behind k b)
behind-joined zero a b = refl
behind-joined (suc k) [] b = refl
behind-joined (suc k) (x ∷ a) [] = refl
behind-joined (suc k) (x ∷ a) (y ∷ b) = ap (λ bs. [] ∷ bs) (behind-joined k (x ∷ a) (y ∷ b))

-- behind an empty block
behind-empty : (k : ℕ) (b : List Sort) (bs : List (List Sort)) → behind k ([] ∷ b ∷ bs) ≡ [] ∷ behind k (b ∷ bs)
behind-empty zero b bs = refl
behind-empty (suc k) b bs = ap (λ xs. [] ∷ xs) (behind-empty k b bs)

pub behind-one : (k : ℕ) (b : List Sort) (bs : List (List Sort)) → behind (k + 1) (b ∷ bs) ≡ behind k ([] ∷ b ∷ bs)
behind-one k b bs = ap (λ n. behind n (b ∷ bs)) (add-one k) ∙ sym (behind-empty k b bs)

pub behind-two : (k : ℕ) (b : List Sort) (bs : List (List Sort)) → behind (k + 2) (b ∷ bs) ≡ behind k ([] ∷ [] ∷ b ∷ bs)
behind-two k b bs =
    let more : k + 2 ≡ (k + 1) + 1 = omega arith in
    ap (λ n. behind n (b ∷ bs)) more ∙ behind-one (k + 1) b bs ∙ behind-one k [] (b ∷ bs)

-- one form behind another
pub joined-two : (st : List (List Sort)) (k : ℕ) (a b : List (List Sort)) →
    joined_blocks (joined_blocks st (behind k a)) (behind k b) ≡ joined_blocks st (behind k (joined_blocks a b))
joined-two st k a b = joined-assoc st (behind k a) (behind k b) ∙ ap (joined_blocks st) (sym (behind-joined k a b))

-- a variable before a form
abbrev pub alone : Sort → List (List Sort)
alone s = (s ∷ []) ∷ []

first-joined : (s : Sort) (bs : List (List Sort)) → joined_blocks (alone s) bs ≡ with_first s bs
first-joined s [] = refl
first-joined s (b ∷ bs) = refl

universal-empty : (s : Sort) (bs : List (List Sort)) → starts_empty (lengths_of bs) ≡ true →
    joined_blocks ([] ∷ alone s) bs ≡ universal_blocks s bs
universal-empty s [] e = refl
universal-empty s ([] ∷ bs) e = ap (λ xs. [] ∷ xs) (first-joined s bs)
universal-empty s ((x ∷ b) ∷ bs) e = absurd (true≢false (sym e ∙ ne_eqb (length (x ∷ b)) 0 (λ h. omega (arith, h))))

universal-some : (s : Sort) (k : ℕ) (bs : List (List Sort)) → starts_empty (lengths_of bs) ≡ false →
    joined_blocks (behind (k + 1) (alone s)) (behind (k + 2) bs) ≡ behind k (universal_blocks s bs)
universal-some s k [] e = absurd (true≢false e)
universal-some s k ([] ∷ bs) e = absurd (true≢false e)
universal-some s k ((x ∷ b) ∷ bs) e =
    ap (λ xs. joined_blocks xs (behind (k + 2) ((x ∷ b) ∷ bs))) (behind-one k (s ∷ []) [])
    ∙ ap (joined_blocks (behind k ([] ∷ alone s))) (behind-two k (x ∷ b) bs)
    ∙ sym (behind-joined k ([] ∷ alone s) ([] ∷ [] ∷ (x ∷ b) ∷ bs))
    ∙ ap (behind k) (sym (by-test (length (x ∷ b) == 0) (ne_eqb (length (x ∷ b)) 0 (λ h. omega (arith, h)))))
  where
    by-test : (t : Bool) → t ≡ false →
        (if t then [] ∷ with_first s (behind_first ((x ∷ b) ∷ bs)) else [] ∷ (s ∷ []) ∷ (x ∷ b) ∷ bs) ≡ [] ∷ (s ∷ []) ∷ (x ∷ b) ∷ bs
    by-test true f = absurd (true≢false f)
    by-test false f = refl

-- a quantifier's variable goes to its block, and the body's form behind it
pub bound-existential : (st new : List (List Sort)) (s : Sort) (k : ℕ) (inner : List (List Sort)) →
    new ≡ joined_blocks st (behind k (alone s)) →
    joined_blocks new (behind k inner) ≡ joined_blocks st (behind k (quantifier_blocks true s inner))
bound-existential st new s k inner e =
    ap (λ xs. joined_blocks xs (behind k inner)) e ∙ joined-two st k (alone s) inner
    ∙ ap (λ xs. joined_blocks st (behind k xs)) (first-joined s inner)

-- where the body's first block goes below a universal quantifier
abbrev pub next_block : Bool → ℕ → ℕ
next_block empty k = if empty then k else k + 2

pub bound-universal : (st new : List (List Sort)) (s : Sort) (k : ℕ) (empty : Bool) (inner : List (List Sort)) →
    starts_empty (lengths_of inner) ≡ empty → new ≡ joined_blocks st (behind (k + 1) (alone s)) →
    joined_blocks new (behind (next_block empty k) inner) ≡ joined_blocks st (behind k (quantifier_blocks false s inner))
bound-universal st new s k true inner h e =
    ap (λ xs. joined_blocks xs (behind k inner)) (e ∙ ap (joined_blocks st) (behind-one k (s ∷ []) []))
    ∙ joined-two st k ([] ∷ alone s) inner
    ∙ ap (λ xs. joined_blocks st (behind k xs)) (universal-empty s inner h)
bound-universal st new s k false inner h e =
    ap (λ xs. joined_blocks xs (behind (k + 2) inner)) e
    ∙ joined-assoc st (behind (k + 1) (alone s)) (behind (k + 2) inner)
    ∙ ap (joined_blocks st) (universal-some s k inner h)

-- one block more, while the last one that is wanted is behind
pub joined-more : (st x : List (List Sort)) → length st < length x → joined_blocks (st ++ [] ∷ []) x ≡ joined_blocks st x
joined-more st [] h = absurd (omega (arith, h))
joined-more [] (x ∷ xs) h = refl
joined-more (a ∷ st) (x ∷ xs) h = ap (λ bs. (a ++ x) ∷ bs) (joined-more st xs (omega (arith, h)))

pub length-alone : (k : ℕ) (s : Sort) → length (behind k (alone s)) ≡ k + 1
length-alone zero s = refl
length-alone (suc k) s = omega (arith, length-alone k s)

-- a block that is there
pub joined-at : (st : List (List Sort)) (k : ℕ) (s : Sort) → k < length st →
    joined_blocks st (behind k (alone s)) ≡ set st k (get_or st k [] ++ s ∷ [])
joined-at [] k s h = absurd (omega (arith, h))
joined-at (a ∷ st) zero s h = ap (λ bs. (a ++ s ∷ []) ∷ bs) (joined-nil st)
joined-at (a ∷ st) (suc k) s h = step st k (append-none a) (joined-at st k s (omega (arith, h)))
  where
    append-none : (xs : List Sort) → xs ++ [] ≡ xs
    append-none [] = refl
    append-none (x ∷ xs) = ap (λ ys. x ∷ ys) (append-none xs)

    step : (st : List (List Sort)) (k : ℕ) → a ++ [] ≡ a → joined_blocks st (behind k (alone s)) ≡ set st k (get_or st k [] ++ s ∷ []) →
        joined_blocks (a ∷ st) (behind (suc k) (alone s)) ≡ a ∷ set st k (get_or st k [] ++ s ∷ [])
    step st k e f = ap (λ x. x ∷ joined_blocks st (behind k (alone s))) e ∙ ap (λ bs. a ∷ bs) f

-- tasks
abbrev pub plain_at : ℕ → PlainPart → PlainTask
plain_at k p = record { part = p; block = k }

-- the parts of a rule without a quantifier at its top
pub rule-after : (st : List (List Sort)) (k : ℕ) (plus : Bool) (r : PlainRule) (ts : List PlainTask) →
    ((existential : Bool) (l : ℕ) (s : Sort) (body : Tree) → r ≡ BoundBy existential l s body → ⊥) →
    blocks_after st (map (plain_at k) (parts_of plus r) ++ ts) ≡ blocks_after (joined_blocks st (behind k (blocks_by_rule plus r))) ts
unfolding blocks_after
rule-after st k plus PlainIs ts not-bound =
    sym (ap (λ bs. blocks_after bs ts) (ap (joined_blocks st) (behind-nil k) ∙ joined-nil st))
rule-after st k plus (TurnedInto a) ts not-bound = refl
rule-after st k plus (JoinedBy o a b) ts not-bound =
    ap (λ bs. blocks_after bs ts) (joined-two st k (blocks_under plus a) (blocks_under plus b))
rule-after st k plus (CrossedFrom a b c d) ts not-bound =
    let ba = blocks_under a.plus a.tree in
    let bb = blocks_under b.plus b.tree in
    let bc = blocks_under c.plus c.tree in
    let bd = blocks_under d.plus d.tree in
    ap (λ bs. blocks_after bs ts)
    (ap (λ x. joined_blocks (joined_blocks x (behind k bc)) (behind k bd)) (joined-two st k ba bb)
    ∙ joined-assoc (joined_blocks st (behind k (joined_blocks ba bb))) (behind k bc) (behind k bd)
    ∙ ap (joined_blocks (joined_blocks st (behind k (joined_blocks ba bb)))) (sym (behind-joined k bc bd))
    ∙ joined-two st k (joined_blocks ba bb) (joined_blocks bc bd))
rule-after st k plus (BoundBy existential l s body) ts not-bound = absurd (not-bound existential l s body refl)

pub none-after : (st : List (List Sort)) → blocks_after st [] ≡ st
unfolding blocks_after
none-after st = refl

pub first-after : (st : List (List Sort)) (t : PlainTask) (ts : List PlainTask) →
    blocks_after st (t ∷ ts) ≡ blocks_after (joined_blocks st (behind t.block (blocks_under t.part.plus t.part.tree))) ts
unfolding blocks_after
first-after st t ts = refl

-- the blocks of asserted formulas
formulas-after : (trees : List Tree) (f : Form) (ns : List ℕ) →
    blocks_after f.blocks (tasks_in trees (map first_task ns)) ≡ (joined_forms f (map (tree_at trees) ns)).blocks
unfolding blocks_after
formulas-after trees f [] = refl
formulas-after trees f (n ∷ ns) = formulas-after trees (joined And f (form_of (tree_at trees n))) ns

pub conjunction-after : (trees : List Tree) (ns : List ℕ) →
    blocks_after [] (tasks_in trees (map first_task ns)) ≡ (form_of (conjunction (map (tree_at trees) ns))).blocks
unfolding blocks_after
conjunction-after trees [] = sym (blocks-by-rule true (Literal BoolSort 1))
conjunction-after trees (n ∷ ns) =
    formulas-after trees (form_of (tree_at trees n)) ns
    ∙ sym (ap (λ f. f.blocks) (conjunction-form (tree_at trees n) (map (tree_at trees) ns)))

pub first-tasks : (n : ℕ) (ns : List ℕ) → AllByRecursion (λ k. k < n) ns → AreTasks n 0 (map first_task ns)
first-tasks n [] h = tt
first-tasks n (k ∷ ns) h = ((h.0, omega arith), first-tasks n ns h.1)

-- tasks in a store that grows, among more blocks
pub tasks-grow : (old new : List Tree) (blocks : ℕ) (ts : List Task) → Grows old new → AreTasks (length old) blocks ts →
    tasks_in new ts ≡ tasks_in old ts
tasks-grow old new blocks [] g h = refl
tasks-grow old new blocks (t ∷ ts) g h =
    let here : task_in new t ≡ task_in old t = ap (λ p. record { part = p; block = t.block }) (part-grows old new t.part g h.0.0) in
    let rest = tasks-grow old new blocks ts g h.1 in
    cc

pub tasks-more : (n m j k : ℕ) (ts : List Task) → n ≤ m → j ≤ k → AreTasks n j ts → AreTasks m k ts
tasks-more n m j k [] le f h = tt
tasks-more n m j k (t ∷ ts) le f h =
    let low = h.0.0 in
    let near = h.0.1 in
    ((omega (arith, low, le), omega (arith, near, f)), tasks-more n m j k ts le f h.1)

tasks-append : (n j : ℕ) (qs ts : List Task) → AreTasks n j qs → AreTasks n j ts → AreTasks n j (qs ++ ts)
tasks-append n j [] ts h k = k
tasks-append n j (q ∷ qs) ts h k = (h.0, tasks-append n j qs ts h.1 k)

rule-tasks : (n j k : ℕ) (plus : Bool) (r : Rule) → k ≤ j → IsRuleBelow n r → AreTasks n j (map (at_block k) (parts_over plus r))
rule-tasks n j k plus Plain le h = tt
rule-tasks n j k plus (Turned a) le h = ((h, le), tt)
rule-tasks n j k plus (Joined o a b) le h = ((h.0, le), ((h.1, le), tt))
rule-tasks n j k plus (Crossed a b c d) le h = ((h.0, le), ((h.1, le), ((h.2, le), ((h.3, le), tt))))
rule-tasks n j k plus (Bound existential l s body) le h = ((h, le), tt)

-- the work of tasks is that of their parts
tasks-parts : (trees : List Tree) (ts : List Task) → tasks_work (tasks_in trees ts) ≡ work (parts_in trees (map (λ t. t.part) ts))
unfolding tasks_work work
tasks-parts trees [] = refl
tasks-parts trees (t ∷ ts) = ap (λ n. weight (tree_size (tree_at trees t.part.term)) + n) (tasks-parts trees ts)

plain-tasks : (trees : List Tree) (k : ℕ) (qs : List Part) (ts : List Task) →
    tasks_in trees (map (at_block k) qs ++ ts) ≡ map (plain_at k) (parts_in trees qs) ++ tasks_in trees ts
plain-tasks trees k [] ts = refl
plain-tasks trees k (q ∷ qs) ts = ap (λ xs. plain_at k (part_in trees q) ∷ xs) (plain-tasks trees k qs ts)

parts-work : (k : ℕ) (qs : List PlainPart) (ts : List PlainTask) (ps : List PlainPart) → tasks_work ts ≡ work ps →
    tasks_work (map (plain_at k) qs ++ ts) ≡ work (qs ++ ps)
unfolding tasks_work work
parts-work k [] ts ps e = e
parts-work k (q ∷ qs) ts ps e = ap (λ n. weight (tree_size q.tree) + n) (parts-work k qs ts ps e)

-- the first task makes way for those of its rule's parts
pub step-tasks : (old new : List Tree) (t : Task) (r : Rule) (j : ℕ) (ts : List Task) → IsRuleOf old new t.part r →
    AreTasks (length old) j (t ∷ ts) → AreTasks (length new) j (map (at_block t.block) (parts_over t.part.plus r) ++ ts)
step-tasks old new t r j ts h tasks =
    tasks-append (length new) j (map (at_block t.block) (parts_over t.part.plus r)) ts
    (rule-tasks (length new) j t.block t.part.plus r tasks.0.1 h.below)
    (tasks-more (length old) (length new) j j ts (length-grows old new h.grows) (omega arith) tasks.1)

rest-tasks : (old new : List Tree) (t : Task) (r : Rule) (j : ℕ) (ts : List Task) → IsRuleOf old new t.part r →
    AreTasks (length old) j (t ∷ ts) → tasks_in new (map (at_block t.block) (parts_over t.part.plus r) ++ ts)
    ≡ map (plain_at t.block) (parts_of t.part.plus (rule_at t.part.plus (tree_at old t.part.term))) ++ tasks_in old ts
rest-tasks old new t r j ts h tasks =
    plain-tasks new t.block (parts_over t.part.plus r) ts
    ∙ ap (λ xs. map (plain_at t.block) xs ++ tasks_in new ts) (parts-of-rule new t.part.plus r ∙ ap (parts_of t.part.plus) h.rule)
    ∙ ap (λ xs. map (plain_at t.block) (parts_of t.part.plus (rule_at t.part.plus (tree_at old t.part.term))) ++ xs)
    (tasks-grow old new j ts h.grows tasks.1)

tasks-one : (p : PlainPart) (k : ℕ) (ts : List PlainTask) (ps : List PlainPart) → tasks_work ts ≡ work ps →
    tasks_work (plain_at k p ∷ ts) ≡ work (p ∷ ps)
unfolding tasks_work work
tasks-one p k ts ps e = ap (λ n. weight (tree_size p.tree) + n) e

pub step-tasks-work : (old new : List Tree) (t : Task) (r : Rule) (j : ℕ) (ts : List Task) → IsRuleOf old new t.part r →
    AreTasks (length old) j (t ∷ ts) →
    tasks_work (tasks_in new (map (at_block t.block) (parts_over t.part.plus r) ++ ts)) < tasks_work (tasks_in old (t ∷ ts))
step-tasks-work old new t r j ts h tasks =
    let p = part_in old t.part in
    let rule = rule_at t.part.plus (tree_at old t.part.term) in
    let ps = parts_in old (map (λ (u : Task). u.part) ts) in
    let same = ap tasks_work (rest-tasks old new t r j ts h tasks) in
    let before = tasks-one p t.block (tasks_in old ts) ps (tasks-parts old ts) in
    let after = parts-work t.block (parts_of t.part.plus rule) (tasks_in old ts) ps (tasks-parts old ts) in
    omega (arith, same, before, after, work-step p ps)

-- no quantifier stands at the top
abbrev pub IsUnbound : Rule → Type 0
IsUnbound r = (existential : Bool) (l : ℕ) (s : Sort) (body : ℕ) → r ≡ Bound existential l s body → ⊥

bound-not : (new : List Tree) (r : Rule) → IsUnbound r → (existential : Bool) (l : ℕ) (s : Sort) (body : Tree) →
    rule_in new r ≡ BoundBy existential l s body → ⊥
bound-not new Plain e existential l s body h = cc
bound-not new (Turned a) e existential l s body h = cc
bound-not new (Joined o a b) e existential l s body h = cc
bound-not new (Crossed a b c d) e existential l s body h = cc
bound-not new (Bound x m t u) e existential l s body h = e x m t u refl

pub step-after : (old new : List Tree) (t : Task) (r : Rule) (j : ℕ) (st : List (List Sort)) (ts : List Task) → IsRuleOf old new t.part r →
    AreTasks (length old) j (t ∷ ts) → IsUnbound r →
    blocks_after st (tasks_in new (map (at_block t.block) (parts_over t.part.plus r) ++ ts)) ≡ blocks_after st (tasks_in old (t ∷ ts))
step-after old new t r j st ts h tasks free =
    let rule = rule_at t.part.plus (tree_at old t.part.term) in
    ap (blocks_after st) (rest-tasks old new t r j ts h tasks)
    ∙ rule-after st t.block t.part.plus rule (tasks_in old ts) (λ e l s body is. bound-not new r free e l s body (h.rule ∙ is))
    ∙ ap (λ bs. blocks_after (joined_blocks st (behind t.block bs)) (tasks_in old ts)) (sym (blocks-by-rule t.part.plus (tree_at old t.part.term)))
    ∙ sym (first-after st (task_in old t) (tasks_in old ts))

-- a quantifier makes way for its body
pub bound-after : (old new : List Tree) (t u : Task) (existential : Bool) (l : ℕ) (s : Sort) (body : Tree) (j : ℕ) (st st' : List (List Sort)) (ts : List Task) →
    Grows old new → AreTasks (length old) j (t ∷ ts) → part_in new u.part ≡ record { plus = t.part.plus; tree = body } →
    rule_at t.part.plus (tree_at old t.part.term) ≡ BoundBy existential l s body →
    joined_blocks st' (behind u.block (blocks_under t.part.plus body))
    ≡ joined_blocks st (behind t.block (quantifier_blocks existential s (blocks_under t.part.plus body))) →
    blocks_after st' (tasks_in new (u ∷ ts)) ≡ blocks_after st (tasks_in old (t ∷ ts))
bound-after old new t u existential l s body j st st' ts g tasks part rule e =
    ap (λ xs. blocks_after st' (task_in new u ∷ xs)) (tasks-grow old new j ts g tasks.1)
    ∙ first-after st' (task_in new u) (tasks_in old ts)
    ∙ ap (λ (p : PlainPart). blocks_after (joined_blocks st' (behind u.block (blocks_under p.plus p.tree))) (tasks_in old ts)) part
    ∙ ap (λ bs. blocks_after bs (tasks_in old ts)) e
    ∙ ap (λ bs. blocks_after (joined_blocks st (behind t.block bs)) (tasks_in old ts))
    (sym (blocks-by-rule t.part.plus (tree_at old t.part.term) ∙ ap (blocks_by_rule t.part.plus) rule))
    ∙ sym (first-after st (task_in old t) (tasks_in old ts))

pub bound-work : (old new : List Tree) (t u : Task) (existential : Bool) (l : ℕ) (s : Sort) (body : Tree) (j : ℕ) (ts : List Task) →
    Grows old new → AreTasks (length old) j (t ∷ ts) → part_in new u.part ≡ record { plus = t.part.plus; tree = body } →
    rule_at t.part.plus (tree_at old t.part.term) ≡ BoundBy existential l s body →
    tasks_work (tasks_in new (u ∷ ts)) < tasks_work (tasks_in old (t ∷ ts))
bound-work old new t u existential l s body j ts g tasks part rule =
    let p = part_in old t.part in
    let ps = parts_in old (map (λ (v : Task). v.part) ts) in
    let same : tasks_work (tasks_in new (u ∷ ts)) ≡ tasks_work (task_in new u ∷ tasks_in old ts) =
    ap (λ xs. tasks_work (task_in new u ∷ xs)) (tasks-grow old new j ts g tasks.1) in
    let after : tasks_work (task_in new u ∷ tasks_in old ts) ≡ work (part_in new u.part ∷ ps) =
    tasks-one (part_in new u.part) u.block (tasks_in old ts) ps (tasks-parts old ts) in
    let before : tasks_work (tasks_in old (t ∷ ts)) ≡ work (p ∷ ps) = tasks-one p t.block (tasks_in old ts) ps (tasks-parts old ts) in
    let body-part : work (part_in new u.part ∷ ps) ≡ work (parts_of t.part.plus (rule_at t.part.plus (tree_at old t.part.term)) ++ ps) =
    ap (λ (q : PlainPart). work (q ∷ ps)) part ∙ ap (λ r. work (parts_of t.part.plus r ++ ps)) (sym rule) in
    omega (arith, same, after, before, body-part, work-step p ps)

-- vectors of blocks
pub length-sorts : (bs : List (Vec Sort Global)) → length (sorts_in bs) ≡ length bs
length-sorts [] = refl
length-sorts (b ∷ bs) = omega (arith, length-sorts bs)

pub sorts-push : (bs : List (Vec Sort Global)) (v : Vec Sort Global) → v.items ≡ [] → sorts_in (bs ++ v ∷ []) ≡ sorts_in bs ++ [] ∷ []
sorts-push [] v e = ap (λ (x : List Sort). x ∷ []) e
sorts-push (b ∷ bs) v e = ap (λ xs. b.items ∷ xs) (sorts-push bs v e)

pub sorts-set : (bs : List (Vec Sort Global)) (k : ℕ) (v : Vec Sort Global) → sorts_in (set bs k v) ≡ set (sorts_in bs) k v.items
sorts-set [] k v = refl
sorts-set (b ∷ bs) zero v = refl
sorts-set (b ∷ bs) (suc k) v = ap (λ xs. b.items ∷ xs) (sorts-set bs k v)

pub sorts-at : (bs : List (Vec Sort Global)) (k : ℕ) (v : Vec Sort Global) → k < length bs → get_or bs k v ≡ v → get_or (sorts_in bs) k [] ≡ v.items
sorts-at [] k v h e = absurd (omega (arith, h))
sorts-at (b ∷ bs) zero v h e = ap (λ (x : Vec Sort Global). x.items) e
sorts-at (b ∷ bs) (suc k) v h e = sorts-at bs k v (omega (arith, h)) e
