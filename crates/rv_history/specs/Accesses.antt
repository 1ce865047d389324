-- The bytes that an instruction reads or writes (ISA manual, 2.6).
use Rattle.std.specs.Prelude.{ℕ, ◌+◌, ◌&&◌, Bool, true, false, Option, Some, None, nat_lt, option_and_then, option_map}
use Rattle.rv_trace.specs.declared_instruction.Instr.{Instr}
use Rattle.rv_trace.specs.declared_instruction.Op.{Op}
use Rattle.rv_trace.specs.declared_instruction.Op.TheVariants as op
use Rattle.rv_trace.specs.Effect.{address}
use Rattle.rv_trace.specs.State.{State}
use Rattle.rv_trace.specs.Steps.{instr_at}
use Rattle.rv_history.specs.declared.access.Access.{Access}
use Rattle.rv_history.specs.declared.access.AccessKind.{AccessKind}
use Rattle.rv_history.specs.declared.stops.Watch.{Watch}

-- an access that reads this many bytes
abbrev pub read_access : ℕ → Option AccessKind
read_access count = Some (record { is_read = true; count = count })

-- an access that writes this many bytes
abbrev pub write_access : ℕ → Option AccessKind
write_access count = Some (record { is_read = false; count = count })

-- whether an instruction reads or writes, and how many bytes, or `None` if it does not access memory (ISA manual, 2.6)
abbrev pub access_kind_of : Op → Option AccessKind
access_kind_of op.Lb = read_access 1
access_kind_of op.Lbu = read_access 1
access_kind_of op.Lh = read_access 2
access_kind_of op.Lhu = read_access 2
access_kind_of op.Lw = read_access 4
access_kind_of op.Sb = write_access 1
access_kind_of op.Sh = write_access 2
access_kind_of op.Sw = write_access 4
access_kind_of _ = None

-- the bytes that the instruction `i`, executed in the state `s`, reads or writes, or `None` if it does not access memory
abbrev pub access_by : State → Instr → Option Access
access_by s i = option_map (λ kind. record { is_read = kind.is_read; address = address s i; count = kind.count }) (access_kind_of i.op)

-- the bytes that the instruction at the pc reads or writes, or `None` if it does not access memory, or if there is no instruction
abbrev pub access_at : State → Option Access
access_at s = option_and_then (access_by s) (instr_at s)

-- whether an access overlaps the range of a watchpoint
abbrev pub is_hit : Access → Watch → Bool
is_hit access watch =
    nat_lt access.address (watch.address + watch.count) && nat_lt watch.address (access.address + access.count)
