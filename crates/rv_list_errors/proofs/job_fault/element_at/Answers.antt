use Rattle.rv_list_errors.proofs.TomlElements.{element_got}
use Rattle.rv_list_errors.proofs.job_fault.element_at.Goals as goal

pub returns : goal.returns
returns c =
    element_got _ c.args.elements.now c.args.index c.get.result c.get.ensures.lookup.3 c.get.ensures.lookup.1
