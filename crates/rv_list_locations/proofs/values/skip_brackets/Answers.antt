use Rattle.std.proofs.Common.{◌≡◌, ◌==◌, ◌-◌, ◌∙◌, ◌<◌, ◌^◌, ap, arith, false, length, ne_eqb, rules, sym}
use Rattle.toml_parser.proofs.StringsLemmas.{gives_err}
use Rattle.toml_parser.specs.Lexical.{first, skip_blank}
use Rattle.rv_list_locations.specs.JobLocations.{after_brackets, depth_after}
use Rattle.rv_list_locations.proofs.JobTurns.{brackets_end, brackets_more, brackets_none, depth_after-le}
use Rattle.rv_list_locations.proofs.values.skip_brackets.Goals as goal

pub returns-in_err-rest-clause-value : goal.returns-in_err-rest-clause-value
returns-in_err-rest-clause-value c =
    let l = c.tokens in
    gives_err _ c.from_residual.result _ c.in_err-rest.field-0.0 _ c.from_residual.ensures.1 (λ y k. k) λ refused.
    l.invariant.5 ∙ brackets_none l.invariant.3 l.depth l.rest.now (c.in_err-rest.ensures.value refused)

pub returns-then-depth-eq0-clause-value : goal.returns-then-depth-eq0-clause-value
returns-then-depth-eq0-clause-value c =
    let l = c.tokens in
    let rest = l.rest.now in
    let fits : length c.args.text.now < 2 ^ 64 = omega arith in
    let shorter : length c.in_ok-rest.rest.now < length rest = c.in_ok-rest.ensures.shorter in
    let closed : depth_after l.depth (first rest) ≡ 0 =
    omega (arith, depth_after-le l.depth (first rest), ap (depth_after l.depth) c.first.ensures, c.bracket_depth_after-depth.ensures, c.if-depth-eq0.true, l.invariant.2) in
    l.invariant.5 ∙ brackets_end l.invariant.3 l.depth rest c.in_ok-rest.rest.now (omega (arith, l.invariant.4)) c.in_ok-rest.ensures.value closed

pub tokens-preserved : goal.tokens-preserved
tokens-preserved c =
    let l = c.tokens in
    let rest = l.rest.now in
    let behind = c.in_ok-rest.rest.now in
    let fits : length c.args.text.now < 2 ^ 64 = omega arith in
    let shorter : length behind < length rest = c.in_ok-rest.ensures.shorter in
    let depth : c.bracket_depth_after-depth.result ≡ depth_after l.depth (first rest) =
    omega (arith, depth_after-le l.depth (first rest), ap (depth_after l.depth) c.first.ensures, c.bracket_depth_after-depth.ensures, l.invariant.2) in
    let more : (depth_after l.depth (first rest) == 0) ≡ false = ne_eqb _ 0 (omega (arith, depth, c.if-depth-eq0.false)) in (
      search rules,
      omega (arith, l.invariant.1, c.skip_blank_lines-rest.ensures.within),
      omega (arith, depth, depth_after-le l.depth (first rest), l.invariant.2, c.skip_blank_lines-rest.ensures.within),
      l.invariant.3 - 1,
      omega (arith, l.invariant.4, c.skip_blank_lines-rest.ensures.within),
      l.invariant.5
          ∙ brackets_more l.invariant.3 l.depth rest behind (omega (arith, l.invariant.4)) c.in_ok-rest.ensures.value more
          ∙ ap (λ d. after_brackets (l.invariant.3 - 1) d (skip_blank behind)) (sym depth)
          ∙ ap (after_brackets (l.invariant.3 - 1) c.bracket_depth_after-depth.result) (sym c.skip_blank_lines-rest.ensures.rest),
    )
