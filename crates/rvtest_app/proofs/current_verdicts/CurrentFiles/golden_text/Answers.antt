use Rattle.rvtest_app.proofs.current_verdicts.CurrentFiles.golden_text.Goals as goal

pub returns-in-Some : goal.returns-in-Some
returns-in-Some g c = rw c.in-Some.is c.text_at_path.ensures
