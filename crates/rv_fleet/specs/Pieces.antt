-- The chunks of rows: the rows of consecutive groups of jobs.
use Rattle.std.specs.Prelude.{ℕ, List, length}
use Rattle.std.specs.Int.{div_ceil}
use Rattle.std.specs.Fork.{slice_chunk}
use Rattle.rv_rows.specs.Plans.{PlanView}
use Rattle.rv_fleet.specs.Batches.{batch_rows}
use Rattle.rv_fleet.specs.declared.piece.Piece.{Piece}
use Rattle.rv_fleet.specs.declared.pieces.Pieces.{Pieces}
use Rattle.rv_rows.specs.declared_row.Row.{Row}
use Rattle.rv_rows.specs.Rows.{rows_of}

-- the number of chunks that the rows are divided into, with `group` rows each; the last chunk may have fewer
abbrev pub piece_count_of_rows : List Row → ℕ → ℕ
piece_count_of_rows rows group = div_ceil (length rows) group

-- the chunk with the number `k`: the `group` rows that begin at the index `k` * `group`, or as many as there are
abbrev pub piece_for : List Row → ℕ → ℕ → Piece
piece_for rows group k = record { number = k; rows = slice_chunk rows group k }

-- ---- the chunks of a plan

-- the number of chunks that the jobs of a plan are divided into, with `group` jobs each; the last chunk may have fewer
abbrev pub piece_count_of_plan : PlanView → ℕ → ℕ
piece_count_of_plan plan group = div_ceil (length plan.jobs) group

-- the chunk with the number `k` of a plan's rows, with `group` rows in each chunk
abbrev pub piece_at : PlanView → ℕ → ℕ → Piece
piece_at plan group k = piece_for (rows_of plan) group k

-- ---- the chunks of a batch

-- the number of chunks that a batch is divided into
abbrev pub piece_count : Pieces → ℕ
piece_count pieces = piece_count_of_rows (batch_rows pieces.batch) pieces.group

-- the rows of the chunk with the number `k` of a batch
abbrev pub piece_rows : Pieces → ℕ → List Row
piece_rows pieces k = slice_chunk (batch_rows pieces.batch) pieces.group k

-- the chunk with the number `k` of a batch
abbrev pub numbered_piece : Pieces → ℕ → Piece
numbered_piece pieces k = piece_for (batch_rows pieces.batch) pieces.group k
