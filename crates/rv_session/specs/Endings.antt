-- What is reported to gdb about the end of the run.
use Rattle.std.specs.Prelude.{ℕ, List, []}
use Rattle.rv_history.specs.declared.outcome.MoveResult.{MoveResult}
use Rattle.rv_history.specs.declared.outcome.MoveResult.TheVariants as move_result
use Rattle.rv_history.specs.declared_ending.Ending.{Ending}
use Rattle.rv_history.specs.declared_ending.Ending.TheVariants as ending
use Rattle.rv_gdb_protocol.specs.Stops.{Aborted, BadCall, BusError, Exited, FileTooLarge, IllegalInstruction, NoEnding, SegmentFault, EndKind, UsedUp, end_kind_of_fault}

-- the kind of end that a stop shows if the run ended with this ending
abbrev pub end_kind_of_ending : Ending → EndKind
end_kind_of_ending (ending.Exit code) = Exited
end_kind_of_ending (ending.Fault kind pc value) = end_kind_of_fault kind
end_kind_of_ending ending.Budget = UsedUp

-- the kind of end that a move with this result shows; `NoEnding` if it did not reach the end of the run
abbrev pub end_kind_of_move_result : MoveResult → EndKind
end_kind_of_move_result (move_result.End ending) = end_kind_of_ending ending
end_kind_of_move_result move_result.Done = NoEnding
end_kind_of_move_result move_result.Breakpoint = NoEnding
end_kind_of_move_result move_result.WatchTriggered = NoEnding
end_kind_of_move_result move_result.RunStart = NoEnding
end_kind_of_move_result move_result.Interrupted = NoEnding

-- the text if a stop shows an end of the run; empty for `NoEnding`
abbrev pub text_at_end : EndKind → List ℕ → List ℕ
text_at_end NoEnding text = []
text_at_end Exited text = text
text_at_end UsedUp text = text
text_at_end SegmentFault text = text
text_at_end BusError text = text
text_at_end IllegalInstruction text = text
text_at_end Aborted text = text
text_at_end BadCall text = text
text_at_end FileTooLarge text = text
