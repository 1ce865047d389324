use Rattle.std.proofs.Common.{◌≡◌, ◌∙◌, false, refl, sym}
use Rattle.std.specs.Prelude.{not}
use Rattle.std.proofs.lemmas.Bool.{not-false}
use Rattle.std.proofs.lemmas.Slice.Eq.{bytes_eq-Decides}
use Rattle.std.specs.Str.{bytes_eq}
use Rattle.rvtest_app.specs.HelpTopics.{keys_topic}
use Rattle.rvtest_app.proofs.help_topic.topic_help.Goals as goal

pub returns-clause-printed : goal.returns-clause-printed
returns-clause-printed c =
    let topic = c.args.args.topic.now in
    let alike : not (bytes_eq topic keys_topic) ≡ false = sym c.ne.ensures ∙ c.if-ne.false in (
      (bytes_eq-Decides topic keys_topic).0 (not-false (bytes_eq topic keys_topic) alike),
      (rw c.new-text.ensures.items at c.in_ok-push_text.ensures, refl),
    )
