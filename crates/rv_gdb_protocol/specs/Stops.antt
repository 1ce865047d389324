-- The bodies of stop replies: `T` and the number of a signal, with the stop reason if gdb has a name for it.
use Rattle.std.specs.Prelude.{ℕ, List, ◌++◌, codes}
use Rattle.std.specs.Int.{w32, to_be_bytes}
use Rattle.hex.specs.Hex.{encode_lower}
use Rattle.rv_machine.specs.declared.ending.FaultKind.{FaultKind}
use Rattle.rv_machine.specs.declared.ending.FaultKind.TheVariants as fault
use Rattle.rv_gdb_protocol.specs.declared.request.WatchKind.{WatchKind}
use Rattle.rv_gdb_protocol.specs.declared.request.WatchKind.TheVariants as watch
use Rattle.rv_gdb_protocol.specs.declared.stop.Stop.{Stop}
use Rattle.rv_gdb_protocol.specs.declared.stop.Stop.TheVariants as stop

-- the body of the stop reply for a fault of this kind: SIGSEGV, SIGBUS, SIGILL, SIGABRT, SIGSYS or SIGXFSZ, in gdb's numbering
abbrev pub fault_text : FaultKind → List ℕ
fault_text fault.FetchAccess = codes "T0b"
fault_text fault.StaleCode = codes "T04"
fault_text fault.Illegal = codes "T04"
fault_text fault.Breakpoint = codes "T06"
fault_text fault.LoadMisaligned = codes "T0a"
fault_text fault.LoadAccess = codes "T0b"
fault_text fault.StoreMisaligned = codes "T0a"
fault_text fault.StoreAccess = codes "T0b"
fault_text fault.ConsoleFull = codes "T19"
fault_text fault.UnknownCall = codes "T0c"
fault_text fault.FetchMisaligned = codes "T0a"

-- the beginning of the stop reply for a watchpoint of this kind, up to the address
abbrev pub watch_text : WatchKind → List ℕ
watch_text watch.Writes = codes "T05watch:"
watch_text watch.Reads = codes "T05rwatch:"
watch_text watch.Accesses = codes "T05awatch:"

-- the body of the reply for this stop: SIGTRAP, SIGINT, SIGXCPU or the signal of a fault; never `W` or `X`, which mean that the process is
-- gone, since a run can go backwards from its end
unfoldable pub stop_text : Stop → List ℕ
stop_text stop.Trap = codes "T05"
stop_text (stop.Watch kind address) = watch_text kind ++ (encode_lower (to_be_bytes w32 address) ++ codes ";")
stop_text stop.Interrupt = codes "T02"
stop_text stop.RunStart = codes "T05replaylog:begin;"
stop_text stop.Exit = codes "T05replaylog:end;"
stop_text stop.Budget = codes "T18"
stop_text (stop.Fault kind) = fault_text kind

-- the kind of end that a stop reply shows to gdb; `NoEnding` for a stop before the end
pub data EndKind : Type 0 where
  NoEnding : EndKind
  Exited : EndKind
  UsedUp : EndKind
  SegmentFault : EndKind
  BusError : EndKind
  IllegalInstruction : EndKind
  Aborted : EndKind
  BadCall : EndKind
  FileTooLarge : EndKind

-- the kind of end that the stop reply for this fault shows
abbrev pub end_kind_of_fault : FaultKind → EndKind
end_kind_of_fault fault.FetchAccess = SegmentFault
end_kind_of_fault fault.LoadAccess = SegmentFault
end_kind_of_fault fault.StoreAccess = SegmentFault
end_kind_of_fault fault.FetchMisaligned = BusError
end_kind_of_fault fault.LoadMisaligned = BusError
end_kind_of_fault fault.StoreMisaligned = BusError
end_kind_of_fault fault.Illegal = IllegalInstruction
end_kind_of_fault fault.StaleCode = IllegalInstruction
end_kind_of_fault fault.Breakpoint = Aborted
end_kind_of_fault fault.UnknownCall = BadCall
end_kind_of_fault fault.ConsoleFull = FileTooLarge

-- the kind of end that the reply for this stop shows
abbrev pub end_kind_of_stop : Stop → EndKind
end_kind_of_stop stop.Exit = Exited
end_kind_of_stop stop.Budget = UsedUp
end_kind_of_stop (stop.Fault kind) = end_kind_of_fault kind
end_kind_of_stop stop.Trap = NoEnding
end_kind_of_stop (stop.Watch kind address) = NoEnding
end_kind_of_stop stop.Interrupt = NoEnding
end_kind_of_stop stop.RunStart = NoEnding
