use Rattle.rv_list_locations.proofs.JobLaw.{lines-are}
use Rattle.rv_list_locations.proofs.law.job_lines_are_of_headers_and_elements.Goals as goal

pub returns : goal.returns
returns c = lines-are
