-- A stop's reply tells the ending.
use Rattle.std.proofs.Common.{◌≡◌, ◌==◌, ℕ, List, ap, cond, get_or, refl, sym, ◌∙◌}
use Rattle.rv_machine.specs.declared.ending.FaultKind.{FaultKind}
use Rattle.rv_machine.specs.declared.ending.FaultKind.TheVariants as fault
use Rattle.rv_gdb_protocol.specs.Stops.{EndKind, Aborted, BadCall, BusError, Exited, FileTooLarge, IllegalInstruction, NoEnding, SegmentFault, UsedUp, fault_text, stop_text, end_kind_of_stop, end_kind_of_fault}
use Rattle.rv_gdb_protocol.specs.declared.request.WatchKind.TheVariants as watch
use Rattle.rv_gdb_protocol.specs.declared.stop.Stop.{Stop}
use Rattle.rv_gdb_protocol.specs.declared.stop.Stop.TheVariants as stop

-- the byte at a place of a reply, or 0
abbrev byte_at : List ℕ → ℕ → ℕ
byte_at text index = get_or text index 0

-- of `T05` alone, with a watch, or with the log's begin or end
abbrev of_trap : List ℕ → EndKind
of_trap text = cond (byte_at text 4 == 101) (cond (byte_at text 13 == 101) Exited NoEnding) NoEnding

-- what a reply tells, by its signal
abbrev of_zero : List ℕ → EndKind
of_zero text = cond (byte_at text 2 == 53) (of_trap text)
    (cond (byte_at text 2 == 98) SegmentFault
    (cond (byte_at text 2 == 97) BusError
    (cond (byte_at text 2 == 52) IllegalInstruction
    (cond (byte_at text 2 == 54) Aborted
    (cond (byte_at text 2 == 99) BadCall NoEnding)))))

abbrev of_reply : List ℕ → EndKind
of_reply text = cond (byte_at text 1 == 48) (of_zero text) (cond (byte_at text 2 == 56) UsedUp FileTooLarge)

fault_told : (kind : FaultKind) → of_reply (fault_text kind) ≡ end_kind_of_fault kind
fault_told fault.FetchAccess = refl
fault_told fault.LoadAccess = refl
fault_told fault.StoreAccess = refl
fault_told fault.FetchMisaligned = refl
fault_told fault.LoadMisaligned = refl
fault_told fault.StoreMisaligned = refl
fault_told fault.Illegal = refl
fault_told fault.StaleCode = refl
fault_told fault.Breakpoint = refl
fault_told fault.UnknownCall = refl
fault_told fault.ConsoleFull = refl

stop_told : (one : Stop) → of_reply (stop_text one) ≡ end_kind_of_stop one
unfolding stop_text
stop_told stop.Trap = refl
stop_told (stop.Watch watch.Writes address) = refl
stop_told (stop.Watch watch.Reads address) = refl
stop_told (stop.Watch watch.Accesses address) = refl
stop_told stop.Interrupt = refl
stop_told stop.RunStart = refl
stop_told stop.Exit = refl
stop_told stop.Budget = refl
stop_told (stop.Fault kind) = fault_told kind

pub one_reply_one_ending : (one other : Stop) → stop_text one ≡ stop_text other → end_kind_of_stop one ≡ end_kind_of_stop other
one_reply_one_ending one other same = sym (stop_told one) ∙ ap of_reply same ∙ stop_told other
