use Rattle.std.proofs.Common.{◌≡◌, drop}
use Rattle.rv_report.specs.Differences.{line_feed_count}
use Rattle.rv_report.proofs.read.has_line_feed.Given as goal

abbrev pub invariant-loop-b : goal.invariant-loop-b
invariant-loop-b l = line_feed_count (drop l.b-index l.text) ≡ line_feed_count l.text
