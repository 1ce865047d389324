use Rattle.std.proofs.Common.{◌+◌, ◌≤◌, ◌∙◌, ap, arith, is_ok}
use Rattle.rv_list_locations.specs.LinesAndColumns.{line_at}
use Rattle.rv_list_locations.proofs.Counting.{line_later, rising_noted, within_noted}
use Rattle.rv_list_locations.proofs.lines.LineRecorder.push_line.Goals as goal

pub invariant_of-self : goal.invariant_of-self
invariant_of-self c =
    let self = c.args.self.now in
    let line = self.line + c.line_feed_count.result in
    let later : self.line ≤ line = omega arith in
    let behind : self.offset ≤ c.max-index.result = omega (arith, c.max-index.ensures) in
    record {
      within = omega (arith, self.within, c.max-index.ensures, c.saturating_sub.ensures);
      line_is = ap (λ n. n + c.line_feed_count.result) self.line_is
          ∙ ap (λ n. line_at self.offset self.text.now + n) c.line_feed_count.ensures
          ∙ line_later self.text.now self.offset c.max-index.result behind;
      within_line = within_noted (is_ok c.push.result) self.recorded.items c.push.new.self.items self.line line
          c.push.ensures.items (omega (arith, self.line_is)) later self.within_line;
      rising = rising_noted (is_ok c.push.result) self.recorded.items c.push.new.self.items self.line line
          c.push.ensures.items later self.within_line self.rising;
    }
