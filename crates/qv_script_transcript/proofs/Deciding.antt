-- The answers of its checks, with what was counted for them, and what is kept of its cores decide what
-- a script prints.
use Rattle.std.proofs.Common.{◌≡◌, ℕ, ◌<◌, ◌≤◌, Some, Ok, Err, List, [], ◌∷◌, refl, ap, subst, sym, ◌∙◌, arith, codes}
use Rattle.qv_sexpr.specs.Script.{Script, TextEnd, reads}
use Rattle.qv_sexpr.specs.Script.{Tree as Expr, command as then, stops as halt}
use Rattle.qv_words.specs.Tree.{Tree}
use Rattle.qv_words.specs.Sorted.{no_levels}
use Rattle.qv_words.proofs.Unique.{one_meaning}
use Rattle.qv_elab_defs.specs.Tokens.{place_of}
use Rattle.qv_script_defs.specs.Faults.{refusal, fault_line}
use Rattle.qv_script_defs.specs.State.{State, Last, Sat, opening, answered, constants}
use Rattle.qv_script_defs.specs.Texts.{success}
use Rattle.qv_script_defs.specs.Settings.{limit_of}
use Rattle.qv_script_defs.specs.declared.counts.Counts.{Counts}
use Rattle.qv_script_defs.specs.Moves.{Effect, ValueTerm, Quiet, Text, Check, Values, Whole, Core, Exit, Move}
use Rattle.qv_script_defs.specs.Commands.{after}
use Rattle.qv_script_texts.specs.Printing.{model_text, core_text, values_text, MeanValues}
use Rattle.qv_script_transcript.specs.Lawful.{answer_line, prefix_length}
use Rattle.qv_script_transcript.specs.Following.{CheckSat, with_answer, Piece, piece, end_line, Says, Follows, stops, refuses, says, leaves, checks, exceeds}
use Rattle.qv_script_transcript.specs.FollowingLaws.{answers, kept_of, kept_in, AnswersDecide}

-- what comes of a script, by its first command
record IsEnded (end : TextEnd) (given : List CheckSat) (kept : List (List ℕ)) (pieces : List Piece) (last : List ℕ) (status : ℕ) : Type 0 where
  no_check : given ≡ []
  no_core : kept ≡ []
  none : pieces ≡ []
  line : last ≡ (end_line end).0
  code : status ≡ (end_line end).1

-- a last piece
record IsLeft (e : Expr) (text : List ℕ) (code : ℕ) (given : List CheckSat) (kept : List (List ℕ)) (pieces : List Piece) (last : List ℕ) (status : ℕ) : Type 0 where
  no_check : given ≡ []
  no_core : kept ≡ []
  one : pieces ≡ piece e text ∷ []
  line : last ≡ []
  code_is : status ≡ code

-- a piece and what comes behind it
record IsSaid (places : ℕ) (e : Expr) (rest : Script) (now : State) (effect : Effect) (given : List CheckSat) (kept : List (List ℕ)) (pieces : List Piece) (last : List ℕ) (status : ℕ) : Type 0 where
  text : List ℕ
  behind : List Piece
  said : Says now effect text
  first : pieces ≡ piece e text ∷ behind
  follows : Follows places now rest given behind last status
  kept_is : kept ≡ kept_of now effect text said (kept_in follows)

-- an answer and what comes behind it
record IsAnswered (places : ℕ) (e : Expr) (rest : Script) (now : State) (trees : List Tree) (given : List CheckSat) (kept : List (List ℕ)) (pieces : List Piece) (last : List ℕ) (status : ℕ) : Type 0 where
  answer : Last
  counts : Counts
  others : List CheckSat
  behind : List Piece
  short : prefix_length trees ≤ places
  taken : given ≡ with_answer (limit_of now) trees answer counts ∷ others
  first : pieces ≡ piece e (answer_line answer) ∷ behind
  follows : Follows places (answered answer counts now) rest others behind last status
  kept_is : kept ≡ kept_in follows

-- what comes of a check
data IsChecked (places : ℕ) (e : Expr) (rest : Script) (now : State) (trees : List Tree) (given : List CheckSat) (kept : List (List ℕ)) (pieces : List Piece) (last : List ℕ) (status : ℕ) : Type 0 where
  long : places < prefix_length trees → IsLeft e (refusal (place_of e) (codes "prefix limit")) 1 given kept pieces last status → IsChecked places e rest now trees given kept pieces last status
  answers_it : IsAnswered places e rest now trees given kept pieces last status → IsChecked places e rest now trees given kept pieces last status

abbrev Behind : (places : ℕ) → Expr → Script → List CheckSat → List (List ℕ) → List Piece → List ℕ → ℕ → Move → Type 0
Behind places e rest given kept pieces last status (Err fault) = IsLeft e (fault_line fault) 1 given kept pieces last status
Behind places e rest given kept pieces last status (Ok (now, Quiet)) = IsSaid places e rest now Quiet given kept pieces last status
Behind places e rest given kept pieces last status (Ok (now, Text text)) = IsSaid places e rest now (Text text) given kept pieces last status
Behind places e rest given kept pieces last status (Ok (now, Check trees)) = IsChecked places e rest now trees given kept pieces last status
Behind places e rest given kept pieces last status (Ok (now, Values terms)) = IsSaid places e rest now (Values terms) given kept pieces last status
Behind places e rest given kept pieces last status (Ok (now, Whole)) = IsSaid places e rest now Whole given kept pieces last status
Behind places e rest given kept pieces last status (Ok (now, Core trees named)) = IsSaid places e rest now (Core trees named) given kept pieces last status
Behind places e rest given kept pieces last status (Ok (now, Exit)) = IsLeft e (success now.success) 0 given kept pieces last status

abbrev Comes : (places : ℕ) → State → Script → List CheckSat → List (List ℕ) → List Piece → List ℕ → ℕ → Type 0
Comes places s (halt end) given kept pieces last status = IsEnded end given kept pieces last status
Comes places s (then e rest) given kept pieces last status = Behind places e rest given kept pieces last status (after s e)

says-behind : {places : ℕ} (now : State) (e : Expr) (rest : Script) (effect : Effect) (text : List ℕ) (given : List CheckSat) (behind : List Piece) (last : List ℕ) (status : ℕ) →
    (said : Says now effect text) (f : Follows places now rest given behind last status) → Behind places e rest given (kept_of now effect text said (kept_in f)) (piece e text ∷ behind) last status (Ok (now, effect))
says-behind now e rest Quiet text given behind last status h f = record { text = text; behind = behind; said = h; first = refl; follows = f; kept_is = refl }
says-behind now e rest (Text words) text given behind last status h f = record { text = text; behind = behind; said = h; first = refl; follows = f; kept_is = refl }
says-behind now e rest (Check trees) text given behind last status h f = absurd h
says-behind now e rest (Values terms) text given behind last status h f = record { text = text; behind = behind; said = h; first = refl; follows = f; kept_is = refl }
says-behind now e rest Whole text given behind last status h f = record { text = text; behind = behind; said = h; first = refl; follows = f; kept_is = refl }
says-behind now e rest (Core trees named) text given behind last status h f = record { text = text; behind = behind; said = h; first = refl; follows = f; kept_is = refl }
says-behind now e rest Exit text given behind last status h f = absurd h

comes : (places : ℕ) (s : State) (script : Script) (given : List CheckSat) (pieces : List Piece) (last : List ℕ) (status : ℕ) → (f : Follows places s script given pieces last status) → Comes places s script given (kept_in f) pieces last status
comes places _ _ _ _ _ _ (stops s end) = record { no_check = refl; no_core = refl; none = refl; line = refl; code = refl }
comes places _ _ _ _ _ _ (refuses s e rest fault is) =
    subst (Behind places e rest [] [] (piece e (fault_line fault) ∷ []) [] 1) (sym is) (record { no_check = refl; no_core = refl; one = refl; line = refl; code_is = refl })
comes places _ _ _ _ _ _ (says s now e rest effect text given pieces last status is h f) =
    subst (Behind places e rest given (kept_of now effect text h (kept_in f)) (piece e text ∷ pieces) last status) (sym is) (says-behind now e rest effect text given pieces last status h f)
comes places _ _ _ _ _ _ (leaves s now e rest is) =
    subst (Behind places e rest [] [] (piece e (success now.success) ∷ []) [] 0) (sym is) (record { no_check = refl; no_core = refl; one = refl; line = refl; code_is = refl })
comes places _ _ _ _ _ _ (checks s now e rest trees answer counts others pieces last status is short lawful f) =
    subst (Behind places e rest (with_answer (limit_of now) trees answer counts ∷ others) (kept_in f) (piece e (answer_line answer) ∷ pieces) last status) (sym is)
    (answers_it (record { answer = answer; counts = counts; others = others; behind = pieces; short = short; taken = refl; first = refl; follows = f; kept_is = refl }))
comes places _ _ _ _ _ _ (exceeds s now e rest trees is far) =
    subst (Behind places e rest [] [] (piece e (refusal (place_of e) (codes "prefix limit")) ∷ []) [] 1) (sym is)
    (long far (record { no_check = refl; no_core = refl; one = refl; line = refl; code_is = refl }))

-- one text is said
one-values : (c : List ℕ) (terms : List ValueTerm) (vs ws : List ℕ) → MeanValues c terms vs → MeanValues c terms ws → vs ≡ ws
one-values c [] vs ws a b = a ∙ sym b
one-values c (t ∷ ts) vs ws a b =
    let first = one_meaning t.tree c no_levels a.0 b.0 a.2 b.2 in
    let others = one-values c ts a.1 b.1 a.3 b.3 in
    a.4 ∙ ap (λ v. v ∷ a.1) first ∙ ap (λ xs. b.0 ∷ xs) others ∙ sym b.4

abbrev OneKept : (now : State) (effect : Effect) (x y : List ℕ) → Says now effect x → Says now effect y → Type 0
OneKept now (Core trees named) x y a b = a.0 ≡ b.0
OneKept now _ x y a b = Unit {0}

one-text : (now : State) (effect : Effect) (x y : List ℕ) (a : Says now effect x) (b : Says now effect y) → OneKept now effect x y a b → x ≡ y
one-text now Quiet x y a b k = a ∙ sym b
one-text now (Text words) x y a b k = a ∙ sym b
one-text now (Check trees) x y a b k = absurd a
one-text now (Values terms) x y a b k =
    let same : Some (Sat a.0) ≡ Some (Sat b.0) = sym a.1 ∙ b.1 in
    let values : a.0 ≡ b.0 = cc in
    let mine = subst (λ c. MeanValues c terms a.2.0) values a.2.1 in
    a.2.2 ∙ ap (values_text terms) (one-values b.0 terms a.2.0 b.2.0 mine b.2.1) ∙ sym b.2.2
one-text now Whole x y a b k =
    let same : Some (Sat a.0) ≡ Some (Sat b.0) = sym a.1 ∙ b.1 in
    let values : a.0 ≡ b.0 = cc in
    a.2 ∙ ap (model_text (constants now)) values ∙ sym b.2
one-text now (Core trees named) x y a b k = a.2 ∙ ap (λ kept. core_text kept named) k ∙ sym b.2
one-text now Exit x y a b k = absurd a

-- what is kept of the first core, and of those behind it
one-kept : (now : State) (effect : Effect) (x y : List ℕ) (a : Says now effect x) (b : Says now effect y) (k l : List (List ℕ)) → kept_of now effect x a k ≡ kept_of now effect y b l → OneKept now effect x y a b × (k ≡ l)
one-kept now Quiet x y a b k l e = (tt, e)
one-kept now (Text words) x y a b k l e = (tt, e)
one-kept now (Check trees) x y a b k l e = absurd a
one-kept now (Values terms) x y a b k l e = (tt, e)
one-kept now Whole x y a b k l e = (tt, e)
one-kept now (Core trees named) x y a b k l e =
    let first : a.0 ≡ b.0 = cc in
    let others : k ≡ l = cc in
    (first, others)
one-kept now Exit x y a b k l e = absurd a

-- two ways of which one is taken
abbrev Same : List CheckSat → List CheckSat → List Piece → List Piece → List ℕ → List ℕ → ℕ → ℕ → Type 0
Same cs ds p q l m i j = (cs ≡ ds) × (p ≡ q) × (l ≡ m) × (i ≡ j)

abbrev Decides : (places : ℕ) → Script → Type 0
Decides places script =
    (s : State) (cs ds : List CheckSat) (p q : List Piece) (l m : List ℕ) (i j : ℕ) →
    (f : Follows places s script cs p l i) (g : Follows places s script ds q m j) → answers cs ≡ answers ds → kept_in f ≡ kept_in g → Same cs ds p q l m i j

left-same : (e : Expr) (text : List ℕ) (code : ℕ) (cs ds : List CheckSat) (v w : List (List ℕ)) (p q : List Piece) (l m : List ℕ) (i j : ℕ) → IsLeft e text code cs v p l i → IsLeft e text code ds w q m j → Same cs ds p q l m i j
left-same e text code cs ds v w p q l m i j a b = (a.no_check ∙ sym b.no_check, a.one ∙ sym b.one, a.line ∙ sym b.line, a.code_is ∙ sym b.code_is)

said-same : {places : ℕ} (e : Expr) (rest : Script) (now : State) (effect : Effect) (cs ds : List CheckSat) (v w : List (List ℕ)) (p q : List Piece) (l m : List ℕ) (i j : ℕ) → Decides places rest →
    IsSaid places e rest now effect cs v p l i → IsSaid places e rest now effect ds w q m j → answers cs ≡ answers ds → v ≡ w → Same cs ds p q l m i j
said-same e rest now effect cs ds v w p q l m i j again a b same one =
    let both = one-kept now effect a.text b.text a.said b.said (kept_in a.follows) (kept_in b.follows) (sym a.kept_is ∙ one ∙ b.kept_is) in
    let others = again now cs ds a.behind b.behind l m i j a.follows b.follows same both.1 in
    let text = one-text now effect a.text b.text a.said b.said both.0 in
    (others.0, a.first ∙ ap (λ t. piece e t ∷ a.behind) text ∙ ap (λ ps. piece e b.text ∷ ps) others.1 ∙ sym b.first, others.2, others.3)

-- what follows an answer
abbrev Onward : (places : ℕ) → Script → State → List CheckSat → List CheckSat → List Piece → List Piece → List ℕ → List ℕ → ℕ → ℕ → List (List ℕ) → Last → Counts → Type 0
Onward places rest now cs ds p q l m i j w answer counts = (f : Follows places (answered answer counts now) rest cs p l i) → kept_in f ≡ w → Same cs ds p q l m i j

answered-same : (places : ℕ) (e : Expr) (rest : Script) (now : State) (trees : List Tree) (cs ds : List CheckSat) (v w : List (List ℕ)) (p q : List Piece) (l m : List ℕ) (i j : ℕ) → Decides places rest →
    IsAnswered places e rest now trees cs v p l i → IsAnswered places e rest now trees ds w q m j → answers cs ≡ answers ds → v ≡ w → Same cs ds p q l m i j
answered-same places e rest now trees cs ds v w p q l m i j again a b same one =
    let both : ◌≡◌ {A = List (Last × Counts)} ((a.answer, a.counts) ∷ answers a.others) ((b.answer, b.counts) ∷ answers b.others) = ap answers (sym a.taken) ∙ same ∙ ap answers b.taken in
    let heads : ◌≡◌ {A = Last × Counts} (a.answer, a.counts) (b.answer, b.counts) = cc in
    let first : a.answer ≡ b.answer = ap (λ (x : Last × Counts). x.0) heads in
    let charged : a.counts ≡ b.counts = ap (λ (x : Last × Counts). x.1) heads in
    let rest_same : answers a.others ≡ answers b.others = cc in
    let there : Onward places rest now a.others b.others a.behind b.behind l m i j (kept_in b.follows) b.answer b.counts =
    λ f k. again (answered b.answer b.counts now) a.others b.others a.behind b.behind l m i j f b.follows rest_same k in
    let others = subst (λ x. Onward places rest now a.others b.others a.behind b.behind l m i j (kept_in b.follows) x a.counts) (sym first)
    (subst (λ x. Onward places rest now a.others b.others a.behind b.behind l m i j (kept_in b.follows) b.answer x) (sym charged) there)
    a.follows (sym a.kept_is ∙ one ∙ b.kept_is) in (
      a.taken ∙ ap (λ x. with_answer (limit_of now) trees x a.counts ∷ a.others) first ∙ ap (λ x. with_answer (limit_of now) trees b.answer x ∷ a.others) charged ∙ ap (λ xs. with_answer (limit_of now) trees b.answer b.counts ∷ xs) others.0 ∙ sym b.taken,
      a.first ∙ ap (λ x. piece e (answer_line x) ∷ a.behind) first ∙ ap (λ ps. piece e (answer_line b.answer) ∷ ps) others.1 ∙ sym b.first,
      others.2,
      others.3,
    )

checked-same : (places : ℕ) (e : Expr) (rest : Script) (now : State) (trees : List Tree) (cs ds : List CheckSat) (v w : List (List ℕ)) (p q : List Piece) (l m : List ℕ) (i j : ℕ) → Decides places rest →
    IsChecked places e rest now trees cs v p l i → IsChecked places e rest now trees ds w q m j → answers cs ≡ answers ds → v ≡ w → Same cs ds p q l m i j
checked-same places e rest now trees cs ds v w p q l m i j again (long far a) (long also_far b) same one = left-same e _ 1 cs ds v w p q l m i j a b
checked-same places e rest now trees cs ds v w p q l m i j again (long far a) (answers_it b) same one = let short = b.short in absurd (omega (arith, far, short))
checked-same places e rest now trees cs ds v w p q l m i j again (answers_it a) (long far b) same one = let short = a.short in absurd (omega (arith, far, short))
checked-same places e rest now trees cs ds v w p q l m i j again (answers_it a) (answers_it b) same one = answered-same places e rest now trees cs ds v w p q l m i j again a b same one

behind-same : (places : ℕ) (e : Expr) (rest : Script) (cs ds : List CheckSat) (v w : List (List ℕ)) (p q : List Piece) (l m : List ℕ) (i j : ℕ) → Decides places rest → (move : Move) →
    Behind places e rest cs v p l i move → Behind places e rest ds w q m j move → answers cs ≡ answers ds → v ≡ w → Same cs ds p q l m i j
behind-same places e rest cs ds v w p q l m i j again (Err fault) a b same one = left-same e (fault_line fault) 1 cs ds v w p q l m i j a b
behind-same places e rest cs ds v w p q l m i j again (Ok (now, Quiet)) a b same one = said-same e rest now Quiet cs ds v w p q l m i j again a b same one
behind-same places e rest cs ds v w p q l m i j again (Ok (now, Text text)) a b same one = said-same e rest now (Text text) cs ds v w p q l m i j again a b same one
behind-same places e rest cs ds v w p q l m i j again (Ok (now, Check trees)) a b same one = checked-same places e rest now trees cs ds v w p q l m i j again a b same one
behind-same places e rest cs ds v w p q l m i j again (Ok (now, Values terms)) a b same one = said-same e rest now (Values terms) cs ds v w p q l m i j again a b same one
behind-same places e rest cs ds v w p q l m i j again (Ok (now, Whole)) a b same one = said-same e rest now Whole cs ds v w p q l m i j again a b same one
behind-same places e rest cs ds v w p q l m i j again (Ok (now, Core trees named)) a b same one = said-same e rest now (Core trees named) cs ds v w p q l m i j again a b same one
behind-same places e rest cs ds v w p q l m i j again (Ok (now, Exit)) a b same one = left-same e (success now.success) 0 cs ds v w p q l m i j a b

decides : (places : ℕ) (script : Script) → Decides places script
decides places (halt end) s cs ds p q l m i j f g same one =
    let a = comes places s (halt end) cs p l i f in
    let b = comes places s (halt end) ds q m j g in
    (a.no_check ∙ sym b.no_check, a.none ∙ sym b.none, a.line ∙ sym b.line, a.code ∙ sym b.code)
decides places (then e rest) s cs ds p q l m i j f g same one =
    behind-same places e rest cs ds (kept_in f) (kept_in g) p q l m i j (decides places rest) (after s e) (comes places s (then e rest) cs p l i f) (comes places s (then e rest) ds q m j g) same one

pub answers-decide : AnswersDecide
answers-decide places script cs ds p q l m i j f g same one = decides places (reads script) opening cs ds p q l m i j f g same one
