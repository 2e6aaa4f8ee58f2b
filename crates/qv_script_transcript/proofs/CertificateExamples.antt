-- The certificates of no check and of an unknown one, by the rules.
use Rattle.std.proofs.Common.{◌≡◌, ◌≢◌, refl, [], ◌∷◌, codes}
use Rattle.std.specs.Fmt.{digits}
use Rattle.std.proofs.lemmas.List.Elements.{All-cons, All-nil, All-from_recursion}
use Rattle.qv_words.specs.declared.op.Answer.TheVariants as answer
use Rattle.qv_lrat_text.specs.Words.{words, is_blank}
use Rattle.qv_lrat_text.specs.Decimal.{number_from}
use Rattle.qv_cert.specs.Line.{Check, End}
use Rattle.qv_cert.specs.Grammar.{cert_line}
use Rattle.qv_cert.specs.Spelling.{cert_text}
use Rattle.qv_cert.specs.TextLaws.{HasNoLf}
use Rattle.qv_script_defs.specs.declared.faults.SpentWord.TheVariants.{Conflicts}
use Rattle.qv_script_defs.specs.State.{Unknown, no_counts}
use Rattle.qv_script_transcript.specs.Following.{with_answer}
use Rattle.qv_script_transcript.specs.Certificates.{Certified, IsCertified, certificate}
use Rattle.qv_script_transcript.specs.PrintedLines.{line_text}
use Rattle.qv_script_transcript.proofs.PrintedLines.{free}

of-nothing : certificate [] ≡ codes "qbv-cert 2\n"
of-nothing = refl

unknown : Certified
unknown = record { check = with_answer 0 [] (Unknown Conflicts) no_counts; lines = codes "check 1 unknown" ∷ codes "end" ∷ [] }

of-unknown : certificate (unknown ∷ []) ≡ codes "qbv-cert 2\ncheck 1 unknown\nend\n"
unfolding unknown
of-unknown = refl

unknown-certified : IsCertified 1 unknown
unfolding unknown cert_line words is_blank number_from
unknown-certified = record {
  section = refl;
  apart = All-cons HasNoLf (codes "check 1 unknown") (codes "end" ∷ []) (All-from_recursion (λ byte. byte ≢ 10) (codes "check 1 unknown") (free (codes "check 1 unknown") refl))
      (All-cons HasNoLf (codes "end") [] (All-from_recursion (λ byte. byte ≢ 10) (codes "end") (free (codes "end") refl)) (All-nil HasNoLf));
  counted = refl;
}

-- the lines as they are printed, without their LF
of-check : line_text (Check 1 answer.Unknown) ≡ codes "check 1 unknown"
unfolding cert_text digits
of-check = refl

of-end : line_text End ≡ codes "end"
unfolding cert_text
of-end = refl
