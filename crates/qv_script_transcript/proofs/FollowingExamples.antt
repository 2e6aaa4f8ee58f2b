-- Seven scripts and what they print, by the rules.
use Rattle.std.proofs.Common.{◌≡◌, refl, ℕ, zero, suc, Some, List, [], ◌∷◌, codes, slice_get, arith}
use Rattle.std.proofs.lemmas.List.Elements.{All-from_recursion, recursion_from_All}
use Rattle.std.specs.List.{All}
use Rattle.std.specs.Prelude.{◌≢◌}
use Rattle.std.specs.Fmt.{digits}
use Rattle.qv_text.specs.Bytes.{is_white, is_line_end, is_digit, is_binary, is_letter, is_hex, is_symbol, begins_symbol}
use Rattle.qv_text.specs.Reading.{run, quoted_len, text_len, literal, behind_hash, behind_colon, behind_dot, behind_digits, number, behind_zero, token_at, is_reserved, kind_of, tokens_behind}
use Rattle.qv_sexpr.specs.Script.{all_read, matched}
use Rattle.qv_words.specs.declared.sort.Sort.{Sort}
use Rattle.qv_words.specs.declared.sort.Sort.TheVariants.{Bool, Bits}
use Rattle.qv_words.specs.declared.op.Op.TheVariants.{Equal}
use Rattle.qv_words.specs.Sort.{IsValueOf}
use Rattle.qv_words.specs.Tree.{Literal, Constant}
use Rattle.qv_words.specs.Truth.{AreTrue}
use Rattle.qv_words.specs.Sorted.{no_levels}
use Rattle.qv_words.specs.Meaning.{Means}
use Rattle.qv_words.specs.Prenex.{form_within, binary}
use Rattle.qv_words.specs.Problem.{problem_of}
use Rattle.qv_script_defs.specs.declared.faults.SpentWord.TheVariants.{Conflicts, Instances}
use Rattle.qv_elab_defs.specs.Shapes.{reserved_construct}
use Rattle.qv_sorts.specs.Search.{operator_named}
use Rattle.qv_script_defs.specs.Texts.{infos}
use Rattle.qv_script_defs.specs.Commands.{commands}
use Rattle.qv_script_defs.specs.Settings.{settings}
use Rattle.qv_script_defs.specs.State.{Sat, Unsat, Unknown, no_counts}
use Rattle.qv_script_transcript.specs.Following.{with_answer, stops, refuses, says, checks, IsTranscriptOf}

of-levels : IsTranscriptOf 4096
    (codes "(set-option :print-success true)(push 1)(check-sat)(get-info :reason-unknown)(pop 2)")
    (with_answer 0 [] (Unknown Instances) no_counts ∷ [])
    (codes "success\nsuccess\nunknown\n(:reason-unknown instances)\n(error \"at 77: pop below the first level\")\n") 1
unfolding operator_named reserved_construct commands infos settings digits problem_of form_within matched tokens_behind run quoted_len text_len literal behind_hash behind_colon behind_dot behind_digits number behind_zero token_at is_reserved kind_of is_white is_line_end is_digit is_binary is_letter is_hex is_symbol begins_symbol
of-levels = record {
  pieces = _;
  last = [];
  follows =
      says _ _ _ _ _ _ _ _ _ _ refl refl (
      says _ _ _ _ _ _ _ _ _ _ refl refl (
      checks _ _ _ _ _ _ _ _ _ _ _ refl (omega arith) tt (
      says _ _ _ _ _ _ _ _ _ _ refl refl (
      refuses _ _ _ _ refl))));
  whole = refl;
}

-- the limit that a script sets its checks, until it is reset
of-limit : IsTranscriptOf 4096
    (codes "(set-option :reproducible-resource-limit 12)(check-sat)(reset)(check-sat)")
    (with_answer 12 [] (Unknown Conflicts) no_counts ∷ with_answer 0 [] (Unknown Conflicts) no_counts ∷ [])
    (codes "unknown\nunknown\n") 0
unfolding operator_named reserved_construct commands infos settings digits problem_of form_within matched tokens_behind run quoted_len text_len literal behind_hash behind_colon behind_dot behind_digits number behind_zero token_at is_reserved kind_of is_white is_line_end is_digit is_binary is_letter is_hex is_symbol begins_symbol
of-limit = record {
  pieces = _;
  last = [];
  follows =
      says _ _ _ _ _ _ _ _ _ _ refl refl (
      checks _ _ _ _ _ _ _ _ _ _ _ refl (omega arith) tt (
      says _ _ _ _ _ _ _ _ _ _ refl refl (
      checks _ _ _ _ _ _ _ _ _ _ _ refl (omega arith) tt (
      stops _ all_read))));
  whole = refl;
}

-- what a check was charged for
of-statistics : IsTranscriptOf 4096
    (codes "(get-info :all-statistics)(check-sat)(get-info :all-statistics)")
    (with_answer 0 [] (Unknown Instances) (record { conflicts = 12; instances = 3; variables = 0 }) ∷ [])
    (codes "()\nunknown\n(:conflicts 12 :instances 3 :variables 0)\n") 0
unfolding operator_named reserved_construct commands infos settings digits problem_of form_within matched tokens_behind run quoted_len text_len literal behind_hash behind_colon behind_dot behind_digits number behind_zero token_at is_reserved kind_of is_white is_line_end is_digit is_binary is_letter is_hex is_symbol begins_symbol
of-statistics = record {
  pieces = _;
  last = [];
  follows =
      says _ _ _ _ _ _ _ _ _ _ refl refl (
      checks _ _ _ _ _ _ _ _ _ _ _ refl (omega arith) tt (
      says _ _ _ _ _ _ _ _ _ _ refl refl (
      stops _ all_read)));
  whole = refl;
}

-- the values are 0
none-unused : (i v : ℕ) → slice_get (0 ∷ 0 ∷ []) i ≡ Some v → All {X = ℕ × Sort} (λ leaf. leaf.0 ≢ i) [] → v ≡ 0
none-unused zero v e h = cc
none-unused (suc zero) v e h = cc
none-unused (suc (suc i)) v e h = grind (arith, e)

-- values and a model
of-values : IsTranscriptOf 4096
    (codes "(declare-const a (_ BitVec 8))(declare-const p Bool)(assert (= #x2a #x2a))(check-sat)(get-value (a (bvadd a #x01) p))(get-model)")
    (with_answer 0 (binary Equal (Literal (Bits 8) 42) (Literal (Bits 8) 42) ∷ []) (Sat (0 ∷ 0 ∷ [])) no_counts ∷ [])
    (codes "sat\n((a #x00) ((bvadd a #x01) #x01) (p false))\n(\n(define-fun a () (_ BitVec 8) #x00)\n(define-fun p () Bool false)\n)\n") 0
unfolding operator_named reserved_construct commands infos digits problem_of form_within matched tokens_behind run quoted_len text_len literal behind_hash behind_colon behind_dot behind_digits number behind_zero token_at is_reserved kind_of is_white is_line_end is_digit is_binary is_letter is_hex is_symbol begins_symbol
of-values = record {
  pieces = _;
  last = [];
  follows =
      says _ _ _ _ _ _ _ _ _ _ refl refl (
      says _ _ _ _ _ _ _ _ _ _ refl refl (
      says _ _ _ _ _ _ _ _ _ _ refl refl (
      checks _ _ _ _ _ _ _ _ _ _ _ refl (omega arith) (record {
        each = refl;
        sorts = All-from_recursion {X = (List ℕ × Sort) × ℕ} (λ x. IsValueOf x.1 x.0.1) (((codes "a", Bits 8), 0) ∷ ((codes "p", Bool), 0) ∷ []) (omega arith, (omega arith, tt));
        hold = All-from_recursion (λ t. Means (0 ∷ 0 ∷ []) no_levels t 1) (binary Equal (Literal (Bits 8) 42) (Literal (Bits 8) 42) ∷ []) (
          (Bits 8 ∷ Bits 8 ∷ [], 42 ∷ 42 ∷ [], refl, (42, 42 ∷ [], refl, (42, [], refl, refl, refl), refl), refl),
          tt,
        );
        unused = none-unused;
      }) (
      says _ _ _ _ _ _ _ _ _ _ refl (
        _,
        refl,
        (
          0 ∷ 1 ∷ 0 ∷ [],
          (
            0,
            1 ∷ 0 ∷ [],
            refl,
            (
              1,
              0 ∷ [],
              (Bits 8 ∷ Bits 8 ∷ [], 0 ∷ 1 ∷ [], refl, (0, 1 ∷ [], refl, (1, [], refl, refl, refl), refl), refl),
              (0, [], refl, refl, refl),
              refl,
            ),
            refl,
          ),
          refl,
        ),
      ) (
      says _ _ _ _ _ _ _ _ _ _ refl (_, refl, refl) (
      stops _ all_read))))));
  whole = refl;
}

-- the one value is 0, where its constant occurs in nothing
one-unused : (i v : ℕ) → slice_get (0 ∷ []) i ≡ Some v → All {X = ℕ × Sort} (λ leaf. leaf.0 ≢ i) [] → v ≡ 0
one-unused zero v e h = cc
one-unused (suc i) v e h = grind (arith, e)

-- and where it is asserted each one occurs
none-unused-now : (i v : ℕ) → slice_get (1 ∷ []) i ≡ Some v → All {X = ℕ × Sort} (λ leaf. leaf.0 ≢ i) ((0, Bool) ∷ []) → v ≡ 0
none-unused-now zero v e h = absurd ((recursion_from_All (λ (leaf : ℕ × Sort). leaf.0 ≢ 0) ((0, Bool) ∷ []) h).0 refl)
none-unused-now (suc i) v e h = grind (arith, e)

-- a check before a constant is asserted, and one behind it
of-constant : IsTranscriptOf 4096 (codes "(declare-const a Bool)(check-sat)(assert a)(check-sat)(get-model)")
    (with_answer 0 [] (Sat (0 ∷ [])) no_counts ∷ with_answer 0 (Constant 0 Bool ∷ []) (Sat (1 ∷ [])) no_counts ∷ []) (codes "sat\nsat\n(\n(define-fun a () Bool true)\n)\n") 0
unfolding operator_named reserved_construct commands infos digits problem_of form_within matched tokens_behind run quoted_len text_len literal behind_hash behind_colon behind_dot behind_digits number behind_zero token_at is_reserved kind_of is_white is_line_end is_digit is_binary is_letter is_hex is_symbol begins_symbol
of-constant = record {
  pieces = _;
  last = [];
  follows =
      says _ _ _ _ _ _ _ _ _ _ refl refl (
      checks _ _ _ _ _ _ _ _ _ _ _ refl (omega arith) (record {
        each = refl;
        sorts = All-from_recursion {X = (List ℕ × Sort) × ℕ} (λ x. IsValueOf x.1 x.0.1) (((codes "a", Bool), 0) ∷ []) (omega arith, tt);
        hold = All-from_recursion (λ t. Means (0 ∷ []) no_levels t 1) [] tt;
        unused = one-unused;
      }) (
      says _ _ _ _ _ _ _ _ _ _ refl refl (
      checks _ _ _ _ _ _ _ _ _ _ _ refl (omega arith) (record {
        each = refl;
        sorts = All-from_recursion {X = (List ℕ × Sort) × ℕ} (λ x. IsValueOf x.1 x.0.1) (((codes "a", Bool), 1) ∷ []) (omega arith, tt);
        hold = All-from_recursion (λ t. Means (1 ∷ []) no_levels t 1) (Constant 0 Bool ∷ []) (refl, tt);
        unused = none-unused-now;
      }) (
      says _ _ _ _ _ _ _ _ _ _ refl (_, refl, refl) (
      stops _ all_read)))));
  whole = refl;
}

-- `false` isn't true under any values
untrue : AreTrue (Literal Bool 0 ∷ []) → ⊥
untrue h = let holds = (recursion_from_All (λ t. Means h.0 no_levels t 1) (Literal Bool 0 ∷ []) h.2).0 in absurd cc

-- a core of what has no name, and one of `false` alone, where `true` is named before it
of-no-name : IsTranscriptOf 4096 (codes "(assert false)(check-sat)(get-unsat-core)") (with_answer 0 (Literal Bool 0 ∷ []) Unsat no_counts ∷ []) (codes "unsat\n()\n") 0
unfolding operator_named reserved_construct commands infos digits problem_of form_within matched tokens_behind run quoted_len text_len literal behind_hash behind_colon behind_dot behind_digits number behind_zero token_at is_reserved kind_of is_white is_line_end is_digit is_binary is_letter is_hex is_symbol begins_symbol
of-no-name = record {
  pieces = _;
  last = [];
  follows =
      says _ _ _ _ _ _ _ _ _ _ refl refl (
      checks _ _ _ _ _ _ _ _ _ _ _ refl (omega arith) untrue (
      says _ _ _ _ _ _ _ _ _ _ refl ([], untrue, refl) (
      stops _ all_read)));
  whole = refl;
}

of-two-names : IsTranscriptOf 4096 (codes "(assert (! true :named p))(assert (! false :named |q r|))(check-sat)(get-unsat-core)")
    (with_answer 0 (Literal Bool 1 ∷ Literal Bool 0 ∷ []) Unsat no_counts ∷ []) (codes "unsat\n(|q r|)\n") 0
unfolding operator_named reserved_construct commands infos digits problem_of form_within matched tokens_behind run quoted_len text_len literal behind_hash behind_colon behind_dot behind_digits number behind_zero token_at is_reserved kind_of is_white is_line_end is_digit is_binary is_letter is_hex is_symbol begins_symbol
of-two-names = record {
  pieces = _;
  last = [];
  follows =
      says _ _ _ _ _ _ _ _ _ _ refl refl (
      says _ _ _ _ _ _ _ _ _ _ refl refl (
      checks _ _ _ _ _ _ _ _ _ _ _ refl (omega arith) (λ h. untrue (h.0, h.1, All-from_recursion (λ t. Means h.0 no_levels t 1) (Literal Bool 0 ∷ []) (recursion_from_All (λ t. Means h.0 no_levels t 1) (Literal Bool 1 ∷ Literal Bool 0 ∷ []) h.2).1)) (
      says _ _ _ _ _ _ _ _ _ _ refl (1 ∷ [], untrue, refl) (
      stops _ all_read))));
  whole = refl;
}

-- a core among what was assumed, of `false` alone, with each assertion; and one of none of it, with `false` asserted
of-assumed : IsTranscriptOf 4096 (codes "(assert (! true :named p))(check-sat-assuming (true  false))(get-unsat-assumptions)")
    (with_answer 0 (Literal Bool 1 ∷ Literal Bool 1 ∷ Literal Bool 0 ∷ []) Unsat no_counts ∷ []) (codes "unsat\n(false)\n") 0
unfolding operator_named reserved_construct commands infos digits problem_of form_within matched tokens_behind run quoted_len text_len literal behind_hash behind_colon behind_dot behind_digits number behind_zero token_at is_reserved kind_of is_white is_line_end is_digit is_binary is_letter is_hex is_symbol begins_symbol
of-assumed = record {
  pieces = _;
  last = [];
  follows =
      says _ _ _ _ _ _ _ _ _ _ refl refl (
      checks _ _ _ _ _ _ _ _ _ _ _ refl (omega arith) (λ h. untrue (h.0, h.1, All-from_recursion (λ t. Means h.0 no_levels t 1) (Literal Bool 0 ∷ []) (recursion_from_All (λ t. Means h.0 no_levels t 1) (Literal Bool 1 ∷ Literal Bool 1 ∷ Literal Bool 0 ∷ []) h.2).1.1)) (
      says _ _ _ _ _ _ _ _ _ _ refl (2 ∷ [], (λ h. untrue (h.0, h.1, All-from_recursion (λ t. Means h.0 no_levels t 1) (Literal Bool 0 ∷ []) (recursion_from_All (λ t. Means h.0 no_levels t 1) (Literal Bool 1 ∷ Literal Bool 0 ∷ []) h.2).1)), refl) (
      stops _ all_read)));
  whole = refl;
}

of-none-assumed : IsTranscriptOf 4096 (codes "(assert false)(check-sat-assuming (true))(get-unsat-assumptions)")
    (with_answer 0 (Literal Bool 0 ∷ Literal Bool 1 ∷ []) Unsat no_counts ∷ []) (codes "unsat\n()\n") 0
unfolding operator_named reserved_construct commands infos digits problem_of form_within matched tokens_behind run quoted_len text_len literal behind_hash behind_colon behind_dot behind_digits number behind_zero token_at is_reserved kind_of is_white is_line_end is_digit is_binary is_letter is_hex is_symbol begins_symbol
of-none-assumed = record {
  pieces = _;
  last = [];
  follows =
      says _ _ _ _ _ _ _ _ _ _ refl refl (
      checks _ _ _ _ _ _ _ _ _ _ _ refl (omega arith) (λ h. untrue (h.0, h.1, All-from_recursion (λ t. Means h.0 no_levels t 1) (Literal Bool 0 ∷ []) ((recursion_from_All (λ t. Means h.0 no_levels t 1) (Literal Bool 0 ∷ Literal Bool 1 ∷ []) h.2).0, tt))) (
      says _ _ _ _ _ _ _ _ _ _ refl ([], untrue, refl) (
      stops _ all_read)));
  whole = refl;
}
