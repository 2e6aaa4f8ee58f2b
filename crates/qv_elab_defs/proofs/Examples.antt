-- Expressions and what they stand for, computed from their texts. The expected trees and faults were worked out apart
-- from the definitions.
use Rattle.std.proofs.Common.{◌≡◌, refl, ℕ, zero, suc, List, [], ◌∷◌, ◌++◌, map, Result, Ok, Err, codes, is_ok, true}
use Rattle.qv_text.specs.Bytes.{is_white, is_line_end, is_digit, is_binary, is_letter, is_hex, is_symbol, begins_symbol}
use Rattle.qv_text.specs.declared.kinds.TokenKind.TheVariants.{Symbol}
use Rattle.qv_text.specs.Reading.{run, quoted_len, text_len, literal, behind_hash, behind_colon, behind_dot, behind_digits, number, behind_zero, token_at, is_reserved, kind_of, tokens_behind}
use Rattle.qv_sexpr.specs.Script.{Script, stops, command, matched, reads, atom, list, none}
use Rattle.qv_sexpr.specs.Script.{Tree as Expr}
use Rattle.qv_words.specs.declared.sort.Sort.{Sort}
use Rattle.qv_words.specs.declared.sort.Sort.TheVariants.{Bool, Bits}
use Rattle.qv_words.specs.declared.op.Op.TheVariants.{And, Or, Implies, Equal, Ite, BvAdd, BvUlt, Extract, BvNego, BvSmulo}
use Rattle.qv_words.specs.Tree.{Tree, Constant, Variable, Literal, Apply, ForAll, Exists, Nil, Cons}
use Rattle.qv_words.specs.Prenex.{binary, negation}
use Rattle.qv_elab_defs.specs.declared.faults.ElabKind.{ElabKind}
use Rattle.qv_elab_defs.specs.declared.faults.ElabKind.TheVariants as kind
use Rattle.qv_elab_defs.specs.Faults.{Fault, ◌>>=◌}
use Rattle.qv_elab_defs.specs.Shapes.{reserved_construct}
use Rattle.qv_elab_defs.specs.Scopes.{Named, Scope, declared, with_sort, outermost}
use Rattle.qv_elab_defs.specs.Beginnings.{beginning}
use Rattle.qv_sorts.specs.Search.{operator_named}
use Rattle.qv_elab_defs.specs.Defining.{elaborate, elaborate_body, definition}
use Rattle.qv_elab_defs.specs.Putting.{put_in}
use Rattle.qv_elab_defs.specs.UseLaws.{use_of}

-- the first command of a text, as an expression
abbrev first_of : Script → Expr
first_of (stops end) = list 0 none 0
first_of (command e rest) = e

-- constants p and q of sort Bool, a and b of width 8, c of width 4; (g x) is one more than x, and (h x) says that
-- something is not x
unfoldable scope : Scope
scope =
    (codes "h", definition [] ((codes "x", Bits 4) ∷ []) (first_of (reads (codes "(exists ((y (_ BitVec 4))) (distinct y x))"))))
    ∷ (codes "g", definition [] ((codes "x", Bits 8) ∷ []) (first_of (reads (codes "(bvadd x #x01)"))))
    ∷ declared (codes "c") (Bits 4) (declared (codes "b") (Bits 8) (declared (codes "a") (Bits 8) (declared (codes "q") Bool (declared (codes "p") Bool []))))

unfoldable read : List ℕ → Result Tree Fault
unfolding scope
read text = elaborate scope (first_of (reads text))

-- each text is what stands beside it
abbrev Are : List (List ℕ × Result Tree Fault) → Type 0
Are rows = map (λ row. read row.0) rows ≡ map (λ row. row.1) rows

abbrev p : Tree
p = Constant 0 Bool

abbrev q : Tree
q = Constant 1 Bool

abbrev a : Tree
a = Constant 2 (Bits 8)

abbrev b : Tree
b = Constant 3 (Bits 8)

abbrev c : Tree
c = Constant 4 (Bits 4)

abbrev fault : ℕ → ElabKind → Result Tree Fault
fault place k = Err (record { place = place; kind = k })

-- Operators take more arguments than two to the left, `=>` to the right, and `and` takes one.
more-than-two : Are (
    (codes "(and p q p)", Ok (binary And (binary And p q) p))
    ∷ (codes "(=> p q p q)", Ok (binary Implies p (binary Implies q (binary Implies p q))))
    ∷ (codes "(bvult (bvadd a b a) b)", Ok (binary BvUlt (binary BvAdd (binary BvAdd a b) a) b))
    ∷ (codes "(and p)", Ok p)
    ∷ (codes "(= a b #x07)", Ok (binary And (binary Equal a b) (binary Equal b (Literal (Bits 8) 7))))
    ∷ (codes "(distinct a b #x07)", Ok (binary And (binary And (negation (binary Equal a b)) (negation (binary Equal a (Literal (Bits 8) 7)))) (negation (binary Equal b (Literal (Bits 8) 7)))))
    ∷ [])
unfolding read scope operator_named reserved_construct matched tokens_behind run quoted_len text_len literal behind_hash behind_colon behind_dot behind_digits number behind_zero token_at is_reserved kind_of is_white is_line_end is_digit is_binary is_letter is_hex is_symbol begins_symbol
more-than-two = refl

-- Names of `let` stand for trees, in parallel; inner names hide outer ones, and hide no head.
names-of-lets : Are (
    (codes "(let ((p q) (q p)) (and p q))", Ok (binary And q p))
    ∷ (codes "(let ((true false)) (or true p))", Ok (binary Or (Literal Bool 0) p))
    ∷ (codes "(let ((and p)) (and and q))", Ok (binary And p q))
    ∷ (codes "(let ((x p)) (let ((x (not x))) (exists ((y Bool) (x Bool)) (let ((y x)) (or x y)))))", Ok (Exists 0 Bool (Exists 1 Bool (binary Or (Variable 1 Bool) (Variable 1 Bool)))))
    ∷ (codes "(let ((f (exists ((z Bool)) z))) (forall ((x Bool)) (or x f)))", Ok (ForAll 0 Bool (binary Or (Variable 0 Bool) (Exists 0 Bool (Variable 0 Bool)))))
    ∷ [])
unfolding read scope operator_named reserved_construct matched tokens_behind run quoted_len text_len literal behind_hash behind_colon behind_dot behind_digits number behind_zero token_at is_reserved kind_of is_white is_line_end is_digit is_binary is_letter is_hex is_symbol begins_symbol
names-of-lets = refl

-- A variable has as its level the number of binders open at its binder; of two with one name the later counts.
binders : Are (
    (codes "(forall ((x Bool)) (exists ((x (_ BitVec 8)) (y Bool)) (and y (= x a))))", Ok (ForAll 0 Bool (Exists 1 (Bits 8) (Exists 2 Bool (binary And (Variable 2 Bool) (binary Equal (Variable 1 (Bits 8)) a))))))
    ∷ (codes "(forall ((x Bool) (x (_ BitVec 8))) (= x a))", Ok (ForAll 0 Bool (ForAll 1 (Bits 8) (binary Equal (Variable 1 (Bits 8)) a))))
    ∷ [])
unfolding read scope operator_named reserved_construct matched tokens_behind run quoted_len text_len literal behind_hash behind_colon behind_dot behind_digits number behind_zero token_at is_reserved kind_of is_white is_line_end is_digit is_binary is_letter is_hex is_symbol begins_symbol
binders = refl

-- The body of a definition is read at the depth of its use, so nothing of an argument is caught.
uses-of-definitions : Are (
    (codes "(h c)", Ok (Exists 0 (Bits 4) (negation (binary Equal (Variable 0 (Bits 4)) c))))
    ∷ (codes "(forall ((y (_ BitVec 4))) (h y))", Ok (ForAll 0 (Bits 4) (Exists 1 (Bits 4) (negation (binary Equal (Variable 1 (Bits 4)) (Variable 0 (Bits 4)))))))
    ∷ (codes "(= (g (g a)) b)", Ok (binary Equal (binary BvAdd (binary BvAdd a (Literal (Bits 8) 1)) (Literal (Bits 8) 1)) b))
    ∷ [])
unfolding read scope operator_named reserved_construct matched tokens_behind run quoted_len text_len literal behind_hash behind_colon behind_dot behind_digits number behind_zero token_at is_reserved kind_of is_white is_line_end is_digit is_binary is_letter is_hex is_symbol begins_symbol
uses-of-definitions = refl

-- Literals, indexed operators, annotations and overflow predicates.
other-forms : Are (
    (codes "(= (_ bv255 8) #xFf)", Ok (binary Equal (Literal (Bits 8) 255) (Literal (Bits 8) 255)))
    ∷ (codes "(= ((_ extract 3 0) a) c #b0101)", Ok (binary And (binary Equal (Apply (Extract 3 0) (Cons a Nil)) c) (binary Equal c (Literal (Bits 4) 5))))
    ∷ (codes "(! (not p) :k (v) :l)", Ok (negation p))
    ∷ (codes "(not (! p :named n))", Ok (negation p))
    ∷ (codes "(bvsmulo a b)", Ok (binary BvSmulo a b))
    ∷ (codes "(ite p (bvnego a) |q|)", Ok (Apply Ite (Cons p (Cons (Apply BvNego (Cons a Nil)) (Cons q Nil)))))
    ∷ [])
unfolding read scope operator_named reserved_construct matched tokens_behind run quoted_len text_len literal behind_hash behind_colon behind_dot behind_digits number behind_zero token_at is_reserved kind_of is_white is_line_end is_digit is_binary is_letter is_hex is_symbol begins_symbol
other-forms = refl

-- The first fault from left to right: the head, the arguments, and then the rank.
first-faults : Are (
    (codes "(zz yy)", fault 1 kind.UnknownName)
    ∷ (codes "(and p zz yy)", fault 7 kind.UnknownName)
    ∷ (codes "(or h p)", fault 4 kind.Arity)
    ∷ (codes "(bvult a)", fault 0 kind.Arity)
    ∷ (codes "(h p)", fault 0 kind.Sorts)
    ∷ (codes "(and #b1)", fault 0 kind.Sorts)
    ∷ (codes "(concat #x00000000000000000000000000000000 #b1 p)", fault 0 kind.Width)
    ∷ (codes "((_ extract 1) zz)", fault 1 kind.Index)
    ∷ (codes "((_ extract 340282366920938463463374607431768211456) zz)", fault 12 kind.Literal)
    ∷ (codes "((_ zz 340282366920938463463374607431768211456) p)", fault 4 kind.UnknownName)
    ∷ (codes "((_ h 340282366920938463463374607431768211456) c)", fault 6 kind.Literal)
    ∷ (codes "((_ distinct 340282366920938463463374607431768211456) p)", fault 13 kind.Literal)
    ∷ (codes "((_ h 1) c)", fault 1 kind.Index)
    ∷ (codes "((_ distinct 1) p)", fault 1 kind.Index)
    ∷ (codes "((_ bvadd 1) a b)", fault 1 kind.Index)
    ∷ (codes "(extract a)", fault 1 kind.Index)
    ∷ (codes "((_ repeat 0) a)", fault 0 kind.Index)
    ∷ (codes "((as p Bool) q)", fault 1 kind.NotSupported)
    ∷ (codes "((lambda p) q)", fault 0 kind.Form)
    ∷ (codes "((_ zz) q)", fault 1 kind.Form)
    ∷ (codes "(a p)", fault 1 kind.UnknownName)
    ∷ (codes "(h)", fault 0 kind.Form)
    ∷ [])
unfolding read scope operator_named reserved_construct matched tokens_behind run quoted_len text_len literal behind_hash behind_colon behind_dot behind_digits number behind_zero token_at is_reserved kind_of is_white is_line_end is_digit is_binary is_letter is_hex is_symbol begins_symbol
first-faults = refl

-- a constant of the name that a sort has, and a definition over the sort
unfoldable sorted_scope : Scope
sorted_scope =
    (codes "up", definition (with_sort (codes "byte") (Bits 8) []) ((codes "x", Bits 8) ∷ []) (first_of (reads (codes "(exists ((y |byte|)) (bvult x y))"))))
    ∷ with_sort (codes "byte") (Bits 8) (declared (codes "byte") Bool (declared (codes "a") (Bits 8) []))

unfoldable read_sorted : List ℕ → Result Tree Fault
unfolding sorted_scope
read_sorted text = elaborate sorted_scope (first_of (reads text))

-- Sorts that are defined are sorts of variables, of definitions too; terms of their names are others.
defined-sorts : map read_sorted (
    codes "(forall ((x byte) (y |byte|)) (= x y a))"
    ∷ codes "(and byte |byte|)"
    ∷ codes "(up a)"
    ∷ codes "(exists ((byte byte)) (up byte))"
    ∷ codes "(exists ((x (byte))) byte)"
    ∷ codes "(exists ((x (_ byte 8))) byte)"
    ∷ codes "(exists ((x Byte)) byte)"
    ∷ []) ≡
    Ok (ForAll 0 (Bits 8) (ForAll 1 (Bits 8) (binary And (binary Equal (Variable 0 (Bits 8)) (Variable 1 (Bits 8))) (binary Equal (Variable 1 (Bits 8)) (Constant 0 (Bits 8))))))
    ∷ Ok (binary And (Constant 1 Bool) (Constant 1 Bool))
    ∷ Ok (Exists 0 (Bits 8) (binary BvUlt (Constant 0 (Bits 8)) (Variable 0 (Bits 8))))
    ∷ Ok (Exists 0 (Bits 8) (Exists 1 (Bits 8) (binary BvUlt (Variable 0 (Bits 8)) (Variable 1 (Bits 8)))))
    ∷ fault 12 kind.Form
    ∷ fault 15 kind.UnknownName
    ∷ fault 12 kind.UnknownName
    ∷ []
unfolding read_sorted sorted_scope operator_named reserved_construct matched tokens_behind run quoted_len text_len literal behind_hash behind_colon behind_dot behind_digits number behind_zero token_at is_reserved kind_of is_white is_line_end is_digit is_binary is_letter is_hex is_symbol begins_symbol
defined-sorts = refl

-- a name of the table of sorts is no term and no head
sorts-are-no-terms : map (λ text. elaborate (with_sort (codes "byte") (Bits 8) []) (first_of (reads text))) (codes "(not byte)" ∷ codes "(byte #b1)" ∷ []) ≡ fault 5 kind.UnknownName ∷ fault 1 kind.UnknownName ∷ []
unfolding operator_named reserved_construct matched tokens_behind run quoted_len text_len literal behind_hash behind_colon behind_dot behind_digits number behind_zero token_at is_reserved kind_of is_white is_line_end is_digit is_binary is_letter is_hex is_symbol begins_symbol
sorts-are-no-terms = refl

-- In a list of bindings each name comes before what stands beside it; the shape of the whole comes first.
faults-of-binders : Are (
    (codes "(let ((x zz) (x p)) x)", fault 9 kind.UnknownName)
    ∷ (codes "(let ((x p) (x zz)) x)", fault 13 kind.RepeatedName)
    ∷ (codes "(let ((x zz) (y)) x)", fault 0 kind.Form)
    ∷ (codes "(forall ((x Foo) (y (_ BitVec 129))) zz)", fault 12 kind.UnknownName)
    ∷ (codes "(forall ((x (_ BitVec 129))) zz)", fault 12 kind.Width)
    ∷ (codes "(exists ((x (_ BitVec 8))) (! x :k))", fault 27 kind.Sorts)
    ∷ [])
unfolding read scope operator_named reserved_construct matched tokens_behind run quoted_len text_len literal behind_hash behind_colon behind_dot behind_digits number behind_zero token_at is_reserved kind_of is_white is_line_end is_digit is_binary is_letter is_hex is_symbol begins_symbol
faults-of-binders = refl

-- Literals, and forms that are refused.
faults-of-literals : Are (
    (codes "(_ bv256 8)", fault 0 kind.Literal)
    ∷ (codes "(_ bv05 8)", fault 0 kind.Form)
    ∷ (codes "(_ bv1 0)", fault 0 kind.Width)
    ∷ (codes "(and (! zz :named n) q)", fault 8 kind.UnknownName)
    ∷ (codes "(! p :named)", fault 0 kind.Form)
    ∷ (codes "(as p Bool)", fault 0 kind.NotSupported)
    ∷ (codes "(! p)", fault 0 kind.Form)
    ∷ [])
unfolding read scope operator_named reserved_construct matched tokens_behind run quoted_len text_len literal behind_hash behind_colon behind_dot behind_digits number behind_zero token_at is_reserved kind_of is_white is_line_end is_digit is_binary is_letter is_hex is_symbol begins_symbol
faults-of-literals = refl

-- n copies of a text
times : ℕ → List ℕ → List ℕ
times zero text = []
times (suc n) text = text ++ times n text

-- (q x) is x below a hundred quantifiers
deep_scope : Scope
unfolding times
deep_scope = (codes "q", definition [] ((codes "x", Bool) ∷ []) (first_of (reads (codes "(forall (" ++ (times 100 (codes "(y Bool)") ++ codes ") x)"))))) ∷ []

-- an expression with n uses of q around `true`
read_deep : ℕ → List ℕ → List ℕ → Result Tree Fault
unfolding times deep_scope
read_deep n before after = elaborate deep_scope (first_of (reads (before ++ (times n (codes "(q ") ++ (codes "true" ++ (times n (codes ")") ++ after))))))

-- the depth 10,000 is allowed, and one more is a fault of the innermost expression that is so deep, at a use of a definition
depths : read_deep 100 (codes "(or ") (codes " zz)") ≡ fault 4 kind.DepthLimit
unfolding times deep_scope read_deep scope operator_named reserved_construct matched tokens_behind run quoted_len text_len literal behind_hash behind_colon behind_dot behind_digits number behind_zero token_at is_reserved kind_of is_white is_line_end is_digit is_binary is_letter is_hex is_symbol begins_symbol
depths = refl

depth-within-limit : read_deep 99 (codes "(or " ++ times 99 (codes "(not ")) (times 99 (codes ")") ++ codes " zz)") ≡ fault 999 kind.UnknownName
unfolding times deep_scope read_deep scope operator_named reserved_construct matched tokens_behind run quoted_len text_len literal behind_hash behind_colon behind_dot behind_digits number behind_zero token_at is_reserved kind_of is_white is_line_end is_digit is_binary is_letter is_hex is_symbol begins_symbol
depth-within-limit = refl

depth-beyond-limit : read_deep 99 (codes "(or " ++ times 100 (codes "(not ")) (times 100 (codes ")") ++ codes " zz)") ≡ fault 4 kind.DepthLimit
unfolding times deep_scope read_deep scope operator_named reserved_construct matched tokens_behind run quoted_len text_len literal behind_hash behind_colon behind_dot behind_digits number behind_zero token_at is_reserved kind_of is_white is_line_end is_digit is_binary is_letter is_hex is_symbol begins_symbol
depth-beyond-limit = refl

-- of two parameters, below a quantifier and a name
body : Expr
body = first_of (reads (codes "(forall ((z Bool)) (let ((w (exists ((x Bool)) (and x y z)))) (or w (forall ((y Bool)) (xor x y w)))))"))

parameters : Named Sort
parameters = (codes "x", Bool) ∷ (codes "y", Bool) ∷ []

-- two formulas over the binders 0 to 2
args : List Tree
args = binary Or (Variable 0 Bool) (Variable 2 Bool) ∷ Exists 3 Bool (binary And (Variable 3 Bool) (Variable 1 Bool)) ∷ []

-- what is kept of the body, with the arguments put in, is what a use below three binders gives
put-in-at-a-use : (elaborate_body scope parameters Bool body >>= λ t. Ok (put_in 2 3 args t)) ≡ use_of scope parameters body 3 args
unfolding body parameters args scope operator_named reserved_construct matched tokens_behind run quoted_len text_len literal behind_hash behind_colon behind_dot behind_digits number behind_zero token_at is_reserved kind_of is_white is_line_end is_digit is_binary is_letter is_hex is_symbol begins_symbol
put-in-at-a-use = refl

-- and it is a tree
use-is-a-tree : is_ok (use_of scope parameters body 3 args) ≡ true
unfolding body parameters args scope operator_named reserved_construct matched tokens_behind run quoted_len text_len literal behind_hash behind_colon behind_dot behind_digits number behind_zero token_at is_reserved kind_of is_white is_line_end is_digit is_binary is_letter is_hex is_symbol begins_symbol
use-is-a-tree = refl

unfoldable begun : List ℕ → Result (Unit {0}) Fault
unfolding scope
begun text = beginning (first_of (reads text)) (outermost scope)

-- What is looked at first: a list's shape and its head, and no part of it.
parts-come-later : map begun (codes "(and r ())" ∷ codes "(g)" ∷ codes "(g r)" ∷ codes "(let ((x r)) x)" ∷ codes "(forall ((x r)) x)" ∷ codes "(! r :named n)" ∷ codes "(_ bv5 8)" ∷ [])
    ≡ Ok tt ∷ Err (record { place = 0; kind = kind.Form }) ∷ Ok tt ∷ Ok tt ∷ Ok tt ∷ Ok tt ∷ Ok tt ∷ []
unfolding begun scope operator_named reserved_construct matched tokens_behind run quoted_len text_len literal behind_hash behind_colon behind_dot behind_digits number behind_zero token_at is_reserved kind_of is_white is_line_end is_digit is_binary is_letter is_hex is_symbol begins_symbol
parts-come-later = refl

abbrev first_fault : ℕ → ElabKind → Result (Unit {0}) Fault
first_fault place k = Err (record { place = place; kind = k })

-- The faults that want no memory to be found.
faults-at-first : map begun (codes "()" ∷ codes "(r p)" ∷ codes "((p) q)" ∷ codes "(let () p)" ∷ codes "(exists x p)" ∷ codes "(! p)" ∷ codes "(! p :named 1)" ∷ codes "(_ bv9 3)" ∷ codes "(as p Bool)" ∷ codes "(match p)" ∷ [])
    ≡ first_fault 0 kind.Form ∷ first_fault 1 kind.UnknownName ∷ first_fault 0 kind.Form ∷ first_fault 0 kind.Form ∷ first_fault 0 kind.Form ∷ first_fault 0 kind.Form ∷ first_fault 0 kind.Form ∷ first_fault 0 kind.Literal ∷ first_fault 0 kind.NotSupported ∷ first_fault 0 kind.NotSupported ∷ []
unfolding begun scope operator_named reserved_construct matched tokens_behind run quoted_len text_len literal behind_hash behind_colon behind_dot behind_digits number behind_zero token_at is_reserved kind_of is_white is_line_end is_digit is_binary is_letter is_hex is_symbol begins_symbol
faults-at-first = refl

-- An atom is looked at whole.
atoms-at-first : map (λ text. beginning (atom (record { kind = Symbol; place = 3; text = text })) (outermost scope)) (codes "p" ∷ codes "r" ∷ codes "g" ∷ [])
    ≡ Ok tt ∷ first_fault 3 kind.UnknownName ∷ first_fault 3 kind.Arity ∷ []
unfolding scope matched tokens_behind run quoted_len text_len literal behind_hash behind_colon behind_dot behind_digits number behind_zero token_at is_reserved kind_of is_white is_line_end is_digit is_binary is_letter is_hex is_symbol begins_symbol
atoms-at-first = refl
