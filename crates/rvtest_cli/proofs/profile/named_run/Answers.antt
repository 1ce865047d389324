use Rattle.rvtest_cli.proofs.profile.named_run.Goals as goal

pub returns : goal.returns
returns c = ((λ i. record (c.in_ok-run.ensures.0 i) { only = c.in_ok-only.ensures i }), c.in_ok-run.ensures.1)
