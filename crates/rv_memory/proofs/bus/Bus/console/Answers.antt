use Rattle.rv_memory.proofs.bus.Bus.console.Goals as goal

pub returns : goal.returns
returns c = rw (← c.self.view_is) c.deref.ensures.value
