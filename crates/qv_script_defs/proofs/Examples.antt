-- Scripts and what becomes of their commands, computed from their texts. What is expected was worked out apart from the
-- definitions.
use Rattle.std.proofs.Common.{◌≡◌, refl, ℕ, Some, true, false, List, [], ◌∷◌, map, codes}
use Rattle.std.specs.Fmt.{digits}
use Rattle.qv_text.specs.Bytes.{is_white, is_line_end, is_digit, is_binary, is_letter, is_hex, is_symbol, begins_symbol}
use Rattle.qv_text.specs.Reading.{run, quoted_len, text_len, literal, behind_hash, behind_colon, behind_dot, behind_digits, number, behind_zero, token_at, is_reserved, kind_of, tokens_behind}
use Rattle.qv_text.specs.declared.kinds.LexKind.TheVariants.{Character, QuotedSymbol}
use Rattle.qv_text.specs.declared.kinds.LexKind.TheVariants as lex
use Rattle.qv_sexpr.specs.declared.answers.ParseKind.TheVariants as parse
use Rattle.qv_sexpr.specs.Script.{all_read, lexical, parsing, matched}
use Rattle.qv_words.specs.declared.sort.Sort.TheVariants.{Bool, Bits}
use Rattle.qv_words.specs.declared.op.Op.TheVariants.{Not, And, Or, Equal, BvNot}
use Rattle.qv_words.specs.Tree.{Constant, Variable, Literal, Apply, ForAll, Exists, Nil, Cons}
use Rattle.qv_script_defs.specs.declared.faults.ScriptKind.TheVariants as kind
use Rattle.qv_script_defs.specs.declared.faults.SpentWord.TheVariants.{Instances, Variables}
use Rattle.qv_elab_defs.specs.Shapes.{reserved_construct}
use Rattle.qv_sorts.specs.Search.{operator_named}
use Rattle.qv_script_defs.specs.State.{State, Sat, Unsat, Unknown}
use Rattle.qv_script_defs.specs.Texts.{infos, statistics_text}
use Rattle.qv_script_defs.specs.Logics.{is_logic}
use Rattle.qv_script_defs.specs.Settings.{settings, limit_of}
use Rattle.qv_script_defs.specs.Commands.{commands}
use Rattle.qv_script_defs.specs.Moves.{Quiet, Text, Check, Values, Whole, Core, Exit}
use Rattle.qv_sexpr.specs.Script.{reads}
use Rattle.qv_script_defs.specs.State.{opening, answered, with_constant, no_counts}
use Rattle.qv_script_defs.specs.Checks.{checked}
use Rattle.qv_script_defs.proofs.Running.{Did, Refused, Stopped, Go, all_of}

-- What is in force at each check: pop takes assertions and names away, and a definition keeps the names of its place.
checks : Go ((
  (Sat ([])) ∷ (Sat ([])) ∷ Unsat ∷ (Sat ([])) ∷ [],
  codes "(check-sat)(check-sat)(push 1)(assert false)(check-sat)(pop 1)(check-sat)",
  Did (Check ([])) ∷ Did (Check ([])) ∷ Did Quiet ∷ Did Quiet ∷ Did (Check ((Literal Bool 0) ∷ [])) ∷ Did Quiet ∷ Did (Check ([])) ∷ Stopped all_read ∷ [],
)
    ∷ (
      (Sat (1 ∷ [])) ∷ [],
      codes "(push)(declare-const x Bool)(pop)(declare-const x (_ BitVec 2))(assert (= x #b01))(check-sat)",
      Did Quiet ∷ Did Quiet ∷ Did Quiet ∷ Did Quiet ∷ Did Quiet ∷ Did (Check ((Apply Equal (Cons (Constant 0 (Bits 2)) (Cons (Literal (Bits 2) 1) Nil))) ∷ [])) ∷ Stopped all_read ∷ [],
    )
    ∷ (
      Unsat ∷ [],
      codes "(declare-const x Bool)(push)(declare-const y Bool)(assert y)(assert x)(pop)(declare-const z Bool)(assert z)(check-sat)",
      Did Quiet ∷ Did Quiet ∷ Did Quiet ∷ Did Quiet ∷ Did Quiet ∷ Did Quiet ∷ Did Quiet ∷ Did Quiet ∷ Did (Check ((Constant 1 Bool) ∷ [])) ∷ Stopped all_read ∷ [],
    )
    ∷ (
      Unsat ∷ (Sat (1 ∷ [])) ∷ [],
      codes "(declare-const x Bool)(assert x)(check-sat-assuming ((not x)))(check-sat)",
      Did Quiet ∷ Did Quiet ∷ Did (Check ((Constant 0 Bool) ∷ (Apply Not (Cons (Constant 0 Bool) Nil)) ∷ [])) ∷ Did (Check ((Constant 0 Bool) ∷ [])) ∷ Stopped all_read ∷ [],
    )
    ∷ (
      Unsat ∷ (Sat (1 ∷ [])) ∷ [],
      codes "(declare-const a Bool)(assert a)(check-sat-assuming ((not a)))(check-sat-assuming (a))(get-unsat-core)",
      Did Quiet ∷ Did Quiet ∷ Did (Check ((Constant 0 Bool) ∷ (Apply Not (Cons (Constant 0 Bool) Nil)) ∷ [])) ∷ Did (Check ((Constant 0 Bool) ∷ (Constant 0 Bool) ∷ [])) ∷ Refused (record { place = 86; kind = kind.NoCore }) ∷ [],
    )
    ∷ (
      Unsat ∷ [],
      codes "(assert (! (exists ((x Bool)) x) :named e))(assert (forall ((x Bool)) (or x e)))(check-sat)",
      Did Quiet ∷ Did Quiet ∷ Did (Check ((Exists 0 Bool (Variable 0 Bool)) ∷ (ForAll 0 Bool (Apply Or (Cons (Variable 0 Bool) (Cons (Exists 1 Bool (Variable 1 Bool)) Nil)))) ∷ [])) ∷ Stopped all_read ∷ [],
    )
    ∷ (
      (Sat (0 ∷ [])) ∷ [],
      codes "(declare-const x Bool)(push 2)(assert x)(reset-assertions)(declare-const x Bool)(check-sat)",
      Did Quiet ∷ Did Quiet ∷ Did Quiet ∷ Did Quiet ∷ Did Quiet ∷ Did (Check ([])) ∷ Stopped all_read ∷ [],
    )
    ∷ [])
unfolding all_of operator_named reserved_construct commands infos settings is_logic digits matched tokens_behind run quoted_len text_len literal behind_hash behind_colon behind_dot behind_digits number behind_zero token_at is_reserved kind_of is_white is_line_end is_digit is_binary is_letter is_hex is_symbol begins_symbol
checks = refl

-- What is printed as a text, and the end.
texts : Go ((
  [],
  codes "(echo \"a \"\"b\"\"\")(set-option :k v)(get-info :name)(push 12)(get-info :assertion-stack-levels)(get-info :k)(exit)(zz)",
  Did (Text (codes "\"a \"\"b\"\"\"\n")) ∷ Did (Text (codes "unsupported\n")) ∷ Did (Text (codes "(:name \"qbv\")\n")) ∷ Did Quiet ∷ Did (Text (codes "(:assertion-stack-levels 12)\n")) ∷ Did (Text (codes "unsupported\n")) ∷ Did Exit ∷ [],
)
    ∷ (
      (Unknown Instances) ∷ [],
      codes "(check-sat)(get-info :reason-unknown)(set-info :k)(get-info :reason-unknown)(push 0)(get-info :reason-unknown)",
      Did (Check ([])) ∷ Did (Text (codes "(:reason-unknown instances)\n")) ∷ Did Quiet ∷ Did (Text (codes "(:reason-unknown instances)\n")) ∷ Did Quiet ∷ Refused (record { place = 84; kind = kind.NoReason }) ∷ [],
    )
    ∷ (
      (Sat (3 ∷ [])) ∷ [],
      codes "(declare-const x (_ BitVec 4))(check-sat)(get-value (x ( bvnot   x)))(get-model)(pop 0)(get-model)",
      Did Quiet ∷ Did (Check ([])) ∷ Did (Values (record { text = (codes "x"); tree = (Constant 0 (Bits 4)) } ∷ record { text = (codes "(bvnot x)"); tree = (Apply BvNot (Cons (Constant 0 (Bits 4)) Nil)) } ∷ [])) ∷ Did Whole ∷ Did Quiet ∷ Refused (record { place = 87; kind = kind.NoModel }) ∷ [],
    )
    ∷ [])
unfolding all_of operator_named reserved_construct commands infos settings is_logic digits matched tokens_behind run quoted_len text_len literal behind_hash behind_colon behind_dot behind_digits number behind_zero token_at is_reserved kind_of is_white is_line_end is_digit is_binary is_letter is_hex is_symbol begins_symbol
texts = refl

-- Names of commands, and then shapes.
first-names : Go ((
  [],
  codes "(check-sats)",
  Refused (record { place = 0; kind = kind.Command }) ∷ [],
)
    ∷ (
      [],
      codes "()",
      Refused (record { place = 0; kind = kind.Command }) ∷ [],
    )
    ∷ (
      Unsat ∷ [],
      codes "(|check-sat|)",
      Did (Check ([])) ∷ Stopped all_read ∷ [],
    )
    ∷ (
      [],
      codes "(get-proof 1)",
      Refused (record { place = 0; kind = kind.NotSupported }) ∷ [],
    )
    ∷ (
      [],
      codes "(get-unsat-core)",
      Refused (record { place = 0; kind = kind.NoCore }) ∷ [],
    )
    ∷ (
      Unsat ∷ [],
      codes "(declare-const a Bool)(assert (! a :named p))(assert (! (not a) :named q))(assert (or a (not a)))(check-sat)(declare-const b Bool)(get-unsat-core)(assert a)(get-unsat-core)",
      Did Quiet ∷ Did Quiet ∷ Did Quiet ∷ Did Quiet
          ∷ Did (Check ((Constant 0 Bool) ∷ (Apply Not (Cons (Constant 0 Bool) Nil)) ∷ (Apply Or (Cons (Constant 0 Bool) (Cons (Apply Not (Cons (Constant 0 Bool) Nil)) Nil))) ∷ []))
          ∷ Did Quiet
          ∷ Did (Core ((Constant 0 Bool) ∷ (Apply Not (Cons (Constant 0 Bool) Nil)) ∷ (Apply Or (Cons (Constant 0 Bool) (Cons (Apply Not (Cons (Constant 0 Bool) Nil)) Nil))) ∷ []) ((codes "p", 0) ∷ (codes "q", 1) ∷ []))
          ∷ Did Quiet ∷ Refused (record { place = 156; kind = kind.NoCore }) ∷ [],
    )
    ∷ (
      Unsat ∷ [],
      codes "(assert (! false :named p))(check-sat-assuming (true))(get-unsat-core)(get-unsat-core 1)",
      Did Quiet ∷ Did (Check ((Literal Bool 0) ∷ (Literal Bool 1) ∷ [])) ∷ Did (Core ((Literal Bool 0) ∷ (Literal Bool 1) ∷ []) ((codes "p", 0) ∷ [])) ∷ Refused (record { place = 70; kind = kind.Form }) ∷ [],
    )
    ∷ (
      (Sat ([])) ∷ [],
      codes "(check-sat)(get-unsat-core)",
      Did (Check ([])) ∷ Refused (record { place = 11; kind = kind.NoCore }) ∷ [],
    )
    ∷ (
      [],
      codes "(check-sat 1)",
      Refused (record { place = 0; kind = kind.Form }) ∷ [],
    )
    ∷ (
      [],
      codes "(set-option :print-success 5)",
      Refused (record { place = 0; kind = kind.Form }) ∷ [],
    )
    ∷ (
      [],
      codes "(get-value ())",
      Refused (record { place = 0; kind = kind.Form }) ∷ [],
    )
    ∷ (
      [],
      codes "(declare-fun and (Bool) Foo)",
      Refused (record { place = 0; kind = kind.NotSupported }) ∷ [],
    )
    ∷ (
      [],
      codes "(define-fun and ((x)) Foo zz)",
      Refused (record { place = 0; kind = kind.Form }) ∷ [],
    )
    ∷ [])
unfolding all_of operator_named reserved_construct commands infos settings is_logic digits matched tokens_behind run quoted_len text_len literal behind_hash behind_colon behind_dot behind_digits number behind_zero token_at is_reserved kind_of is_white is_line_end is_digit is_binary is_letter is_hex is_symbol begins_symbol
first-names = refl

-- Then the state, and then sorts and terms.
then-states : Go ((
  [],
  codes "(set-logic BV)(set-logic BV)",
  Did Quiet ∷ Refused (record { place = 14; kind = kind.Logic }) ∷ [],
)
    ∷ (
      [],
      codes "(push)(assert true)(pop)(set-logic BV)",
      Did Quiet ∷ Did Quiet ∷ Did Quiet ∷ Refused (record { place = 24; kind = kind.Logic }) ∷ [],
    )
    ∷ (
      [],
      codes "(assert true)(reset)(set-logic BV)(pop)",
      Did Quiet ∷ Did Quiet ∷ Did Quiet ∷ Refused (record { place = 34; kind = kind.PopBelow }) ∷ [],
    )
    ∷ (
      [],
      codes "(push 1000001)",
      Refused (record { place = 0; kind = kind.LevelLimit }) ∷ [],
    )
    ∷ (
      [],
      codes "(pop 340282366920938463463374607431768211456)",
      Refused (record { place = 5; kind = kind.Literal }) ∷ [],
    )
    ∷ (
      [],
      codes "(declare-const bvsmulo Foo)",
      Refused (record { place = 0; kind = kind.NameInUse }) ∷ [],
    )
    ∷ (
      [],
      codes "(declare-const x Bool)(push)(define-const x Foo zz)",
      Did Quiet ∷ Did Quiet ∷ Refused (record { place = 28; kind = kind.NameInUse }) ∷ [],
    )
    ∷ (
      [],
      codes "(assert (! zz :named true))",
      Refused (record { place = 0; kind = kind.NameInUse }) ∷ [],
    )
    ∷ (
      [],
      codes "(get-value (zz))",
      Refused (record { place = 0; kind = kind.NoModel }) ∷ [],
    )
    ∷ (
      (Sat ([])) ∷ [],
      codes "(check-sat)(get-value ((exists ((x Bool)) x) zz))",
      Did (Check ([])) ∷ Refused (record { place = 23; kind = kind.Quantifier }) ∷ [],
    )
    ∷ (
      [],
      codes "(define-fun f ((x Foo) (x Bool)) Bool x)",
      Refused (record { place = 18; kind = kind.UnknownName }) ∷ [],
    )
    ∷ (
      [],
      codes "(define-fun f ((x Bool) (x Foo)) Bool x)",
      Refused (record { place = 25; kind = kind.RepeatedName }) ∷ [],
    )
    ∷ (
      [],
      codes "(define-fun f ((x Bool)) (_ BitVec 4) (! x :k))",
      Refused (record { place = 38; kind = kind.Sorts }) ∷ [],
    )
    ∷ (
      [],
      codes "(check-sat-assuming (true #b1 zz))",
      Refused (record { place = 26; kind = kind.Sorts }) ∷ [],
    )
    ∷ (
      [],
      codes "(assert #b1)",
      Refused (record { place = 8; kind = kind.Sorts }) ∷ [],
    )
    ∷ (
      [],
      codes "(pop 1)",
      Refused (record { place = 0; kind = kind.PopBelow }) ∷ [],
    )
    ∷ (
      [],
      codes "(declare-const a (_ BitVec 129))",
      Refused (record { place = 17; kind = kind.Width }) ∷ [],
    )
    ∷ (
      [],
      codes "(declare-const bvnego Bool)",
      Refused (record { place = 0; kind = kind.NameInUse }) ∷ [],
    )
    ∷ (
      [],
      codes "(assert (let ((a true) (a false)) a))",
      Refused (record { place = 24; kind = kind.RepeatedName }) ∷ [],
    )
    ∷ (
      [],
      codes "(declare-const a (_ BitVec 64))(declare-const b (_ BitVec 65))(assert (= (concat a b) (concat a b)))",
      Did Quiet ∷ Did Quiet ∷ Refused (record { place = 73; kind = kind.Width }) ∷ [],
    )
    ∷ [])
unfolding all_of operator_named reserved_construct commands infos settings is_logic digits matched tokens_behind run quoted_len text_len literal behind_hash behind_colon behind_dot behind_digits number behind_zero token_at is_reserved kind_of is_white is_line_end is_digit is_binary is_letter is_hex is_symbol begins_symbol
then-states = refl

-- Where the text stops.
ends : Go ((
  Unsat ∷ [],
  codes "(check-sat) x",
  Did (Check ([])) ∷ Stopped (parsing (record { place = 12; kind = parse.Atom })) ∷ [],
)
    ∷ (
      [],
      codes "(check-sat",
      Stopped (parsing (record { place = 0; kind = parse.Unfinished })) ∷ [],
    )
    ∷ (
      [],
      codes "(assert 01)",
      Stopped (lexical (record { place = 8; kind = lex.Numeral })) ∷ [],
    )
    ∷ (
      [],
      codes "",
      Stopped all_read ∷ [],
    )
    ∷ [])
unfolding all_of operator_named reserved_construct commands infos settings is_logic digits matched tokens_behind run quoted_len text_len literal behind_hash behind_colon behind_dot behind_digits number behind_zero token_at is_reserved kind_of is_white is_line_end is_digit is_binary is_letter is_hex is_symbol begins_symbol
ends = refl

-- the trees in force at each check
trees-of-checks : checked (reads (codes "(declare-const x Bool)(assert x)(push)(assert (not x))(check-sat)(pop)(check-sat-assuming (true x))(check-sat)")) (Unsat ∷ Sat (1 ∷ []) ∷ Unknown Variables ∷ []) opening ≡
    (Constant 0 Bool ∷ Apply Not (Cons (Constant 0 Bool) Nil) ∷ [])
    ∷ (Constant 0 Bool ∷ Literal Bool 1 ∷ Constant 0 Bool ∷ [])
    ∷ (Constant 0 Bool ∷ [])
    ∷ []
unfolding operator_named reserved_construct commands infos settings is_logic digits matched tokens_behind run quoted_len text_len literal behind_hash behind_colon behind_dot behind_digits number behind_zero token_at is_reserved kind_of is_white is_line_end is_digit is_binary is_letter is_hex is_symbol begins_symbol
trees-of-checks = refl

-- Logics are names made of the standard's letters in their order, with BV among them.
logics : map is_logic (codes "BV" ∷ codes "QF_BV" ∷ codes "ALL" ∷ codes "ALL_SUPPORTED" ∷ codes "QF_ABV" ∷ codes "QF_AUFBV" ∷ codes "QF_UFBV" ∷ codes "UFBV" ∷ codes "QF_AXUFBVFPDTSNIRA" ∷ codes "ABVFPLRA" ∷ codes "BVDT" ∷ codes "BVIDL" ∷ [])
    ≡ true ∷ true ∷ true ∷ true ∷ true ∷ true ∷ true ∷ true ∷ true ∷ true ∷ true ∷ true ∷ []
unfolding is_logic
logics = refl

no-logics : map is_logic (codes "" ∷ codes "bv" ∷ codes "QF_" ∷ codes "QF_UF" ∷ codes "QF_LIA" ∷ codes "QF_ALL" ∷ codes "BVUF" ∷ codes "UFABV" ∷ codes "AAXBV" ∷ codes "XBV" ∷ codes "BVBV" ∷ codes "BVLIANIA" ∷ codes "BVDTFP" ∷ codes "QF_QF_BV" ∷ codes "BV " ∷ codes "B" ∷ [])
    ≡ false ∷ false ∷ false ∷ false ∷ false ∷ false ∷ false ∷ false ∷ false ∷ false ∷ false ∷ false ∷ false ∷ false ∷ false ∷ false ∷ []
unfolding is_logic
no-logics = refl

-- Options, with what is told of them.
options : Go ((
  [],
  codes "(get-option :print-success)(set-option :smt.x (a  b))(get-option :smt.x)(get-option :rlimit)(set-option :rlimit 5)(get-option :rlimit)(get-option :k)(set-option :random-seed 7)(get-option :random-seed)(get-option :verbosity)",
  Did (Text (codes "false\n")) ∷ Did Quiet ∷ Did (Text (codes "(a b)\n")) ∷ Did (Text (codes "unsupported\n")) ∷ Did Quiet ∷ Did (Text (codes "5\n")) ∷ Did (Text (codes "unsupported\n")) ∷ Did Quiet ∷ Did (Text (codes "7\n")) ∷ Did (Text (codes "0\n")) ∷ Stopped all_read ∷ [],
)
    ∷ (
      [],
      codes "(set-option :diagnostic-output-channel \"stdout\")(get-option :diagnostic-output-channel)(set-option :diagnostic-output-channel \"f\")(get-option :diagnostic-output-channel)(set-option :regular-output-channel \"stderr\")(get-option :regular-output-channel)(set-option :regular-output-channel stdout)",
      Did Quiet ∷ Did (Text (codes "\"stdout\"\n")) ∷ Did (Text (codes "unsupported\n")) ∷ Did (Text (codes "\"stdout\"\n")) ∷ Did (Text (codes "unsupported\n")) ∷ Did (Text (codes "\"stdout\"\n")) ∷ Refused (record { place = 250; kind = kind.Form }) ∷ [],
    )
    ∷ (
      [],
      codes "(set-option :produce-models true)(get-option :produce-models)(reset)(get-option :produce-models)(set-option :verbosity -1)",
      Did Quiet ∷ Did (Text (codes "true\n")) ∷ Did Quiet ∷ Did (Text (codes "false\n")) ∷ Refused (record { place = 96; kind = kind.Form }) ∷ [],
    )
    ∷ (
      [],
      codes "(set-option :interactive-mode 0)",
      Refused (record { place = 0; kind = kind.Form }) ∷ [],
    )
    ∷ (
      [],
      codes "(get-option print-success)",
      Refused (record { place = 0; kind = kind.Form }) ∷ [],
    )
    ∷ [])
unfolding all_of operator_named reserved_construct commands infos settings is_logic digits matched tokens_behind run quoted_len text_len literal behind_hash behind_colon behind_dot behind_digits number behind_zero token_at is_reserved kind_of is_white is_line_end is_digit is_binary is_letter is_hex is_symbol begins_symbol
options = refl

-- The last answer outlives declarations and definitions. What comes later has the value 0.
lasting : Go ((
  (Sat (3 ∷ [])) ∷ [],
  codes "(declare-const x (_ BitVec 4))(check-sat)(declare-const y Bool)(define-fun z () Bool (not y))(get-value (z))(get-model)(assert y)(get-model)",
  Did Quiet ∷ Did (Check ([])) ∷ Did Quiet ∷ Did Quiet ∷ Did (Values (record { text = (codes "z"); tree = (Apply Not (Cons (Constant 1 Bool) Nil)) } ∷ [])) ∷ Did Whole ∷ Did Quiet ∷ Refused (record { place = 129; kind = kind.NoModel }) ∷ [],
)
    ∷ (
      (Unknown Instances) ∷ [],
      codes "(check-sat)(declare-const y Bool)(get-info :reason-unknown)",
      Did (Check ([])) ∷ Did Quiet ∷ Did (Text (codes "(:reason-unknown instances)\n")) ∷ Stopped all_read ∷ [],
    )
    ∷ [])
unfolding all_of operator_named reserved_construct commands infos settings is_logic digits matched tokens_behind run quoted_len text_len literal behind_hash behind_colon behind_dot behind_digits number behind_zero token_at is_reserved kind_of is_white is_line_end is_digit is_binary is_letter is_hex is_symbol begins_symbol
lasting = refl

-- What the last check was charged for stays, until `reset`.
statistics : Go ((
  Unsat ∷ [],
  codes "(get-info :all-statistics)(check-sat)(assert false)(get-info :all-statistics)(reset)(get-info :all-statistics)",
  Did (Text (codes "()\n")) ∷ Did (Check ([])) ∷ Did Quiet ∷ Did (Text (codes "(:conflicts 0 :instances 0 :variables 0)\n")) ∷ Did Quiet ∷ Did (Text (codes "()\n")) ∷ Stopped all_read ∷ [],
)
    ∷ [])
unfolding all_of operator_named reserved_construct commands infos settings is_logic digits matched tokens_behind run quoted_len text_len literal behind_hash behind_colon behind_dot behind_digits number behind_zero token_at is_reserved kind_of is_white is_line_end is_digit is_binary is_letter is_hex is_symbol begins_symbol
statistics = refl

statistics-told : statistics_text (Some (record { conflicts = 1024; instances = 7; variables = 300 })) ≡ codes "(:conflicts 1024 :instances 7 :variables 300)\n"
unfolding digits
statistics-told = refl

-- the limit of conflicts is what the option was set to last
abbrev with_limit : List ℕ → State → State
with_limit text s = record s { options = (codes ":reproducible-resource-limit", text) ∷ s.options }

limits : limit_of opening ∷ limit_of (with_limit (codes "7") (with_limit (codes "12") opening)) ∷ limit_of (with_limit (codes "0") opening) ∷ [] ≡ 0 ∷ 7 ∷ 0 ∷ []
limits = refl

values-behind : (with_constant (codes "y") Bool (answered (Sat (3 ∷ [])) no_counts opening)).last ≡ Some (Sat (3 ∷ 0 ∷ []))
values-behind = refl

-- Sorts that are defined: their names have a table of their own, which goes by levels.
sorts : Go ((
  (Sat (5 ∷ [])) ∷ Unsat ∷ [],
  codes "(define-sort |s s| () (_ BitVec 4))(define-fun f ((x |s s|)) Bool (= x #x5))(declare-fun a () |s s|)(assert (f a))(check-sat)(define-sort s () Bool)(get-value (a))(push)(define-sort t () s)(assert (forall ((x t)) x))(check-sat)(pop)(declare-const b t)",
  Did Quiet ∷ Did Quiet ∷ Did Quiet ∷ Did Quiet ∷ Did (Check (Apply Equal (Cons (Constant 0 (Bits 4)) (Cons (Literal (Bits 4) 5) Nil)) ∷ [])) ∷ Did Quiet ∷ Did (Values (record { text = (codes "a"); tree = (Constant 0 (Bits 4)) } ∷ [])) ∷ Did Quiet ∷ Did Quiet ∷ Did Quiet ∷ Did (Check (Apply Equal (Cons (Constant 0 (Bits 4)) (Cons (Literal (Bits 4) 5) Nil)) ∷ ForAll 0 Bool (Variable 0 Bool) ∷ [])) ∷ Did Quiet ∷ Refused (record { place = 249; kind = kind.UnknownName }) ∷ [],
)
    ∷ (
      [],
      codes "(define-sort s () s)",
      Refused (record { place = 18; kind = kind.UnknownName }) ∷ [],
    )
    ∷ (
      [],
      codes "(define-sort s () Bool)(define-sort s () Foo)",
      Did Quiet ∷ Refused (record { place = 23; kind = kind.NameInUse }) ∷ [],
    )
    ∷ (
      [],
      codes "(define-sort Bool () Foo)",
      Refused (record { place = 0; kind = kind.NameInUse }) ∷ [],
    )
    ∷ (
      [],
      codes "(define-sort s (X) X)",
      Refused (record { place = 0; kind = kind.NotSupported }) ∷ [],
    )
    ∷ (
      [],
      codes "(define-sort s Bool)",
      Refused (record { place = 0; kind = kind.Form }) ∷ [],
    )
    ∷ (
      (Sat (1 ∷ [])) ∷ [],
      codes "(define-sort s () Bool)(declare-const s s)(assert s)(check-sat)",
      Did Quiet ∷ Did Quiet ∷ Did Quiet ∷ Did (Check (Constant 0 Bool ∷ [])) ∷ Stopped all_read ∷ [],
    )
    ∷ (
      [],
      codes "(define-sort s () Bool)(assert s)",
      Did Quiet ∷ Refused (record { place = 31; kind = kind.UnknownName }) ∷ [],
    )
    ∷ (
      [],
      codes "(set-option :global-declarations true)(push)(define-sort s () Bool)(pop)(declare-const x s)(reset-assertions)(declare-const y s)(reset)(declare-const x s)",
      Did Quiet ∷ Did Quiet ∷ Did Quiet ∷ Did Quiet ∷ Did Quiet ∷ Did Quiet ∷ Did Quiet ∷ Did Quiet ∷ Refused (record { place = 152; kind = kind.UnknownName }) ∷ [],
    )
    ∷ (
      [],
      codes "(define-sort s () Bool)(set-logic BV)",
      Did Quiet ∷ Refused (record { place = 23; kind = kind.Logic }) ∷ [],
    )
    ∷ [])
unfolding all_of operator_named reserved_construct commands infos settings is_logic digits matched tokens_behind run quoted_len text_len literal behind_hash behind_colon behind_dot behind_digits number behind_zero token_at is_reserved kind_of is_white is_line_end is_digit is_binary is_letter is_hex is_symbol begins_symbol
sorts = refl

-- What is global stays behind pop and reset-assertions, and goes with reset.
globals : Go ((
  (Sat (0 ∷ 0 ∷ [])) ∷ Unsat ∷ [],
  codes "(set-option :global-declarations true)(declare-const x Bool)(push 2)(declare-const y Bool)(assert x)(pop)(define-fun z () Bool (and x y))(pop)(assert z)(check-sat)(reset-assertions)(declare-const v Bool)(assert (or v y))(check-sat)(reset)(assert x)",
  Did Quiet ∷ Did Quiet ∷ Did Quiet ∷ Did Quiet ∷ Did Quiet ∷ Did Quiet ∷ Did Quiet ∷ Did Quiet ∷ Did Quiet
      ∷ Did (Check (Apply And (Cons (Constant 0 Bool) (Cons (Constant 1 Bool) Nil)) ∷ []))
      ∷ Did Quiet ∷ Did Quiet ∷ Did Quiet
      ∷ Did (Check (Apply Or (Cons (Constant 2 Bool) (Cons (Constant 1 Bool) Nil)) ∷ []))
      ∷ Did Quiet ∷ Refused (record { place = 246; kind = kind.UnknownName }) ∷ [],
)
    ∷ (
      [],
      codes "(push)(pop)(set-option :global-declarations true)",
      Did Quiet ∷ Did Quiet ∷ Refused (record { place = 11; kind = kind.Form }) ∷ [],
    )
    ∷ (
      [],
      codes "(set-option :global-declarations false)(declare-const x Bool)(set-option :global-declarations false)",
      Did Quiet ∷ Did Quiet ∷ Refused (record { place = 61; kind = kind.Form }) ∷ [],
    )
    ∷ (
      [],
      codes "(set-option :global-declarations true)(push)(declare-const x Bool)(pop)(declare-const x Bool)",
      Did Quiet ∷ Did Quiet ∷ Did Quiet ∷ Did Quiet ∷ Refused (record { place = 71; kind = kind.NameInUse }) ∷ [],
    )
    ∷ [])
unfolding all_of operator_named reserved_construct commands infos settings is_logic digits matched tokens_behind run quoted_len text_len literal behind_hash behind_colon behind_dot behind_digits number behind_zero token_at is_reserved kind_of is_white is_line_end is_digit is_binary is_letter is_hex is_symbol begins_symbol
globals = refl

-- Further commands of the standard that are known and refused.
refused-names : Go ((
  [],
  codes "(get-assignment)",
  Refused (record { place = 0; kind = kind.NotSupported }) ∷ [],
)
    ∷ (
      [],
      codes "(declare-sort-parameter X)",
      Refused (record { place = 0; kind = kind.NotSupported }) ∷ [],
    )
    ∷ [])
unfolding all_of operator_named reserved_construct commands infos settings is_logic digits matched tokens_behind run quoted_len text_len literal behind_hash behind_colon behind_dot behind_digits number behind_zero token_at is_reserved kind_of is_white is_line_end is_digit is_binary is_letter is_hex is_symbol begins_symbol
refused-names = refl

-- Cores among what a check assumed: each term as it is written, with its place behind what is in force.
assumed-cores : Go ((
  Unsat ∷ [],
  codes "(declare-const a Bool)(assert a)(check-sat-assuming (true (not  a) ))(get-unsat-assumptions)",
  Did Quiet ∷ Did Quiet ∷ Did (Check ((Constant 0 Bool) ∷ (Literal Bool 1) ∷ (Apply Not (Cons (Constant 0 Bool) Nil)) ∷ [])) ∷ Did (Core ((Constant 0 Bool) ∷ (Literal Bool 1) ∷ (Apply Not (Cons (Constant 0 Bool) Nil)) ∷ []) ((codes "true", 1) ∷ (codes "(not a)", 2) ∷ [])) ∷ Stopped all_read ∷ [],
)
    ∷ (
      Unsat ∷ Unsat ∷ [],
      codes "(assert (! false :named |p q|))(check-sat-assuming ())(get-unsat-core)(get-unsat-assumptions)(check-sat)(get-unsat-assumptions)",
      Did Quiet ∷ Did (Check ((Literal Bool 0) ∷ [])) ∷ Did (Core ((Literal Bool 0) ∷ []) ((codes "|p q|", 0) ∷ [])) ∷ Did (Core ((Literal Bool 0) ∷ []) ([])) ∷ Did (Check ((Literal Bool 0) ∷ [])) ∷ Refused (record { place = 104; kind = kind.NoCore }) ∷ [],
    )
    ∷ (
      Unsat ∷ [],
      codes "(check-sat-assuming ((! false :named n) n))(declare-const b Bool)(get-unsat-assumptions)(assert n)(get-unsat-assumptions)",
      Did (Check ((Literal Bool 0) ∷ (Literal Bool 0) ∷ [])) ∷ Did Quiet ∷ Did (Core ((Literal Bool 0) ∷ (Literal Bool 0) ∷ []) ((codes "(! false :named n)", 0) ∷ (codes "n", 1) ∷ [])) ∷ Did Quiet ∷ Refused (record { place = 98; kind = kind.NoCore }) ∷ [],
    )
    ∷ (
      Unsat ∷ [],
      codes "(check-sat-assuming (false))(push)(get-unsat-assumptions)",
      Did (Check ((Literal Bool 0) ∷ [])) ∷ Did Quiet ∷ Refused (record { place = 34; kind = kind.NoCore }) ∷ [],
    )
    ∷ (
      (Sat ([])) ∷ [],
      codes "(check-sat-assuming (true))(get-unsat-assumptions)",
      Did (Check ((Literal Bool 1) ∷ [])) ∷ Refused (record { place = 27; kind = kind.NoCore }) ∷ [],
    )
    ∷ (
      (Unknown Instances) ∷ [],
      codes "(check-sat-assuming (true))(get-unsat-assumptions)",
      Did (Check ((Literal Bool 1) ∷ [])) ∷ Refused (record { place = 27; kind = kind.NoCore }) ∷ [],
    )
    ∷ (
      [],
      codes "(get-unsat-assumptions)",
      Refused (record { place = 0; kind = kind.NoCore }) ∷ [],
    )
    ∷ (
      Unsat ∷ [],
      codes "(check-sat-assuming (false))(get-unsat-assumptions 1)",
      Did (Check ((Literal Bool 0) ∷ [])) ∷ Refused (record { place = 28; kind = kind.Form }) ∷ [],
    )
    ∷ [])
unfolding all_of operator_named reserved_construct commands infos settings is_logic digits matched tokens_behind run quoted_len text_len literal behind_hash behind_colon behind_dot behind_digits number behind_zero token_at is_reserved kind_of is_white is_line_end is_digit is_binary is_letter is_hex is_symbol begins_symbol
assumed-cores = refl

-- Names of terms within terms: what each stands for, and where it is refused.
names-within : Go ((
  Unsat ∷ [],
  codes "(declare-const a Bool)(assert (or (! (not a) :named n) (! (not n) :named m)))(check-sat-assuming (m))",
  Did Quiet ∷ Did Quiet ∷ Did (Check ((Apply Or (Cons (Apply Not (Cons (Constant 0 Bool) Nil)) (Cons (Apply Not (Cons (Apply Not (Cons (Constant 0 Bool) Nil)) Nil)) Nil))) ∷ (Apply Not (Cons (Apply Not (Cons (Constant 0 Bool) Nil)) Nil)) ∷ [])) ∷ Stopped all_read ∷ [],
)
    ∷ (
      Unsat ∷ [],
      codes "(assert (forall ((x Bool)) (or x (! (exists ((y Bool)) y) :named n))))(check-sat-assuming (n))",
      Did Quiet ∷ Did (Check ((ForAll 0 Bool (Apply Or (Cons (Variable 0 Bool) (Cons (Exists 1 Bool (Variable 1 Bool)) Nil)))) ∷ (Exists 0 Bool (Variable 0 Bool)) ∷ [])) ∷ Stopped all_read ∷ [],
    )
    ∷ (
      Unsat ∷ [],
      codes "(assert (forall ((x Bool)) (! (exists ((x Bool)) x) :named n)))(check-sat)",
      Did Quiet ∷ Did (Check ((ForAll 0 Bool (Exists 1 Bool (Variable 1 Bool))) ∷ [])) ∷ Stopped all_read ∷ [],
    )
    ∷ (
      [],
      codes "(assert (forall ((x Bool)) (or x (! (not x) :named n))))",
      Refused (record { place = 33; kind = kind.NotSupported }) ∷ [],
    )
    ∷ (
      [],
      codes "(declare-const x Bool)(assert (let ((x true)) (! x :named n)))",
      Did Quiet ∷ Refused (record { place = 46; kind = kind.NotSupported }) ∷ [],
    )
    ∷ (
      [],
      codes "(define-fun f ((x Bool)) Bool (not (! x :named n)))",
      Refused (record { place = 35; kind = kind.NotSupported }) ∷ [],
    )
    ∷ (
      [],
      codes "(declare-const a Bool)(assert (not (! a :named a)))",
      Did Quiet ∷ Refused (record { place = 22; kind = kind.NameInUse }) ∷ [],
    )
    ∷ (
      [],
      codes "(declare-const a Bool)(assert (and (! a :named n) (! a :named n)))",
      Did Quiet ∷ Refused (record { place = 22; kind = kind.NameInUse }) ∷ [],
    )
    ∷ (
      (Sat (1 ∷ [])) ∷ (Sat (0 ∷ [])) ∷ [],
      codes "(declare-const a Bool)(check-sat)(get-value ((! (not a) :named n)))(assert n)(check-sat)",
      Did Quiet ∷ Did (Check ([])) ∷ Did (Values (record { text = (codes "(! (not a) :named n)"); tree = (Apply Not (Cons (Constant 0 Bool) Nil)) } ∷ [])) ∷ Did Quiet ∷ Did (Check ((Apply Not (Cons (Constant 0 Bool) Nil)) ∷ [])) ∷ Stopped all_read ∷ [],
    )
    ∷ [])
unfolding all_of operator_named reserved_construct commands infos settings is_logic digits matched tokens_behind run quoted_len text_len literal behind_hash behind_colon behind_dot behind_digits number behind_zero token_at is_reserved kind_of is_white is_line_end is_digit is_binary is_letter is_hex is_symbol begins_symbol
names-within = refl
