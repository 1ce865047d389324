use Rattle.rvtest_app.proofs.current_verdicts.CurrentFiles.text_at_path.Goals as goal

pub returns : goal.returns
returns g c = rw (c.as_str.ensures, c.in_ok-resolved.ensures) at c.text_at.ensures
