use Rattle.std.proofs.Common.{◌≡◌, length, Option, Some, Ok, sym, ap, ◌∙◌, arith}
use Rattle.std.specs.Prelude.{option_map}
use Rattle.std.specs.Fmt.{decimal}
use Rattle.qv_elab_defs.specs.Scopes.{found}
use Rattle.qv_script_defs.specs.Texts.{Levels, AllStatistics, infos, info_line, info_text, statistics_text}
use Rattle.qv_script_defs.specs.declared.counts.Counts.{Counts}
use Rattle.qv_script_stack.specs.Held.{Held}
use Rattle.qv_script_parts.specs.Meant.{meant_info}
use Rattle.qv_script_stack.proofs.Holding.{levels-held}
use Rattle.qv_script_stack.proofs.stack.Stack.info_text.Goals as goal

pub returns-in_ok-levels_line-in-Levels-clause-text : goal.returns-in_ok-levels_line-in-Levels-clause-text
returns-in_ok-levels_line-in-Levels-clause-text c = λ trees s h.
    let known : found c.args.key.now infos ≡ Some Levels = sym c.info_named.ensures ∙ ap (option_map meant_info) (c.in-Some.is ∙ ap Some c.in-Levels.is) in
    let open_ = (levels-held trees c.args.self.now s h).0 in
    let count : length s.opened ≡ c.len.result = omega (arith, open_, ap (λ (k : Held). length k.starts) c.self.view_is) in
    ap (info_text c.args.place s c.args.key.now) known ∙ ap (λ n. Ok (info_line c.args.key.now (decimal n))) count ∙ ap Ok (sym c.in_ok-levels_line-in-Levels.ensures)

pub returns-in_ok-statistics_line-in-AllStatistics-clause-text : goal.returns-in_ok-statistics_line-in-AllStatistics-clause-text
returns-in_ok-statistics_line-in-AllStatistics-clause-text c = λ trees s h.
    let known : found c.args.key.now infos ≡ Some AllStatistics = sym c.info_named.ensures ∙ ap (option_map meant_info) (c.in-Some.is ∙ ap Some c.in-AllStatistics.is) in
    let counts : s.counts ≡ c.self.inside.counts = sym h.counts ∙ sym (ap (λ (k : Held). k.counts) c.self.view_is) in
    ap (info_text c.args.place s c.args.key.now) known ∙ ap (λ (o : Option Counts). Ok (statistics_text o)) counts ∙ ap Ok (sym c.in_ok-statistics_line-in-AllStatistics.ensures)
