-- How long the lines of answers are, and what stands behind them in the text of a check.
use Rattle.std.proofs.Common.{◌≡◌, ◌∙◌, ◌+◌, ◌*◌, ◌≤◌, ℕ, List, [], ◌∷◌, ◌++◌, length, drop, map, refl, sym, ap, ap₂, arith}
use Rattle.std.specs.Prelude.{flat_map, codes}
use Rattle.std.proofs.lemmas.List.{length-append, drop_at}
use Rattle.qv_words.specs.declared.op.Answer.{Answer}
use Rattle.qv_words.specs.declared.op.Answer.TheVariants as answer
use Rattle.qv_script_defs.specs.State.{Last, Sat, Unsat, Unknown}
use Rattle.qv_check_laws.specs.Verdict.{AcceptedSection}
use Rattle.qv_check_defs.specs.Outcome.{answer_line, ending_text, outcome}
use Rattle.qv_script_transcript.specs.Certificates.{Certified, checks_of, word_of, accepted, verdict_beside, IsAcceptedBeside}
use Rattle.qv_shell_command.specs.declared.tallies.Tally.{Tally}
use Rattle.qv_shell_command.specs.Tallies.{counted, counted_all, no_checks, tally_of}
use Rattle.qv_gen.specs.declared.counts.Counts.{Counts}
use Rattle.qv_gen.specs.Counts.{counts_text}
use Rattle.qv_shell.specs.Bench.{answers_length, bench_text, counts_of}

-- the lines of the answers of checks
abbrev answer_lines : List Certified → List ℕ
answer_lines cs = flat_map (λ (s : AcceptedSection). answer_line s.answer) (map accepted cs)

sat-length : length (answer_line answer.Sat) ≡ 4
sat-length = refl

unsat-length : length (answer_line answer.Unsat) ≡ 6
unsat-length = refl

unknown-length : length (answer_line answer.Unknown) ≡ 8
unknown-length = refl

-- one more
one-length : (last : Last) (t : Tally) → answers_length (counted last t) ≡ answers_length t + length (answer_line (word_of last))
one-length (Sat values) t = omega (arith, sat-length)
one-length Unsat t = omega (arith, unsat-length)
one-length (Unknown spent) t = omega (arith, unknown-length)

-- behind those that were counted
all-length : (cs : List Certified) (t : Tally) → answers_length (counted_all (checks_of cs) t) ≡ answers_length t + length (answer_lines cs)
all-length [] t = omega arith
all-length (c ∷ cs) t =
    let one = one-length c.check.answer t in
    let others = all-length cs (counted c.check.answer t) in
    let both = length-append (answer_line (word_of c.check.answer)) (answer_lines cs) in
    omega (arith, one, others, both)

pub lines-length : (cs : List Certified) → length (answer_lines cs) ≡ answers_length (tally_of (checks_of cs))
lines-length cs = let all = all-length cs no_checks in omega (arith, all)

-- the text of an accepted certificate
pub lines-and-ending : (places : ℕ) (script cert out : List ℕ) (cs : List Certified) (status : ℕ) → IsAcceptedBeside places script cert cs out status →
    (outcome places script cert).text ≡ answer_lines cs ++ ending_text (verdict_beside places script cert).ending
lines-and-ending places script cert out cs status h =
    ap (λ (sections : List AcceptedSection). flat_map (λ (s : AcceptedSection). answer_line s.answer) sections ++ ending_text (verdict_beside places script cert).ending) h.sections_are

-- is long enough
pub text-long : (places : ℕ) (script cert out text : List ℕ) (cs : List Certified) (status : ℕ) (t : Tally) → IsAcceptedBeside places script cert cs out status →
    t ≡ tally_of (checks_of cs) → text ≡ (outcome places script cert).text → answers_length t ≤ length text
text-long places script cert out text cs status t h tallied is =
    let lines = answer_lines cs in
    let last = ending_text (verdict_beside places script cert).ending in
    let whole : text ≡ lines ++ last = is ∙ lines-and-ending places script cert out cs status h in
    let long : length text ≡ length lines + length last = ap length whole ∙ length-append lines last in
    let same : answers_length t ≡ length lines = ap answers_length tallied ∙ sym (lines-length cs) in
    omega (arith, long, same)

-- and what stands behind the answers is its last line
pub text-counted : (places : ℕ) (script cert out text : List ℕ) (cs : List Certified) (status : ℕ) (t : Tally) → IsAcceptedBeside places script cert cs out status →
    t ≡ tally_of (checks_of cs) → text ≡ (outcome places script cert).text →
    bench_text t (drop (answers_length t) text) ≡ bench_text (tally_of (checks_of cs)) (ending_text (verdict_beside places script cert).ending)
text-counted places script cert out text cs status t h tallied is =
    let lines = answer_lines cs in
    let last = ending_text (verdict_beside places script cert).ending in
    let whole : text ≡ lines ++ last = is ∙ lines-and-ending places script cert out cs status h in
    let same : length lines ≡ answers_length t = lines-length cs ∙ ap answers_length (sym tallied) in
    let behind : drop (answers_length t) text ≡ last = ap (drop (answers_length t)) whole ∙ drop_at lines last (answers_length t) same in
    ap (bench_text t) behind ∙ ap (λ (u : Tally). bench_text u last) tallied

-- what is printed of a tally and a text
pub counted-text : (t : Tally) (counts : Counts) (text behind verdict : List ℕ) → counts ≡ counts_of t → text ≡ counts_text counts ++ behind → behind ≡ drop (answers_length t) verdict →
    text ≡ bench_text t (drop (answers_length t) verdict)
counted-text t counts text behind verdict is printed last = printed ∙ ap₂ (λ (n : Counts) (b : List ℕ). counts_text n ++ b) is last
