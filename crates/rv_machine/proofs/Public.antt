-- The lemmas that proofs of other crates may cite.
pub use Rattle.rv_machine.proofs.FaultNames.{every_fault, fault_named-name}
pub use Rattle.rv_machine.proofs.Narrower.{run_wider}
pub use Rattle.rv_machine.proofs.Regions.{run_keeps}
pub use Rattle.rv_machine.proofs.Loads.{byte_loaded, half_loaded, word_loaded}
pub use Rattle.rv_machine.proofs.Right.{ok_is}
pub use Rattle.rv_machine.proofs.Even.{effect_even, fetched_steady}
pub use Rattle.rv_machine.specs.StateInside.{state_code}
pub use Rattle.rv_isa.proofs.Public.{meaning16_wider, meaning32_wider}
pub use Rattle.rv_memory.proofs.Public.{among, get-tabulate}
