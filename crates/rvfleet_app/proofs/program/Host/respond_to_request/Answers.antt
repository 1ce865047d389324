use Rattle.std.proofs.Common.{refl}
use Rattle.rvfleet_app.proofs.Answering.{raw_answers}
use Rattle.rvfleet_app.proofs.program.Host.respond_to_request.Goals as goal

pub returns-in-Raw-clause-answers : goal.returns-in-Raw-clause-answers
returns-in-Raw-clause-answers g c =
    let run = c.respond_to_raw.ensures in
    rw c.in-Raw.is (raw_answers _ _ _ _ _ c.in-Raw.budget run.reported run.part run.range)

pub returns-in-Run-clause-untaken : goal.returns-in-Run-clause-untaken
returns-in-Run-clause-untaken g c = λ _. refl
