-- Rows, operations and bytes, counted.
use Rattle.std.proofs.Common.{◌≡◌, ◌∙◌, ◌<◌, ◌≤◌, ◌+◌, ℕ, zero, suc, Bool, true, false, cond, List, [], ◌∷◌, ◌++◌, length, Option, Some, None, Ok, Err, refl, sym, ap, arith}
use Rattle.std.specs.List.{count_by}
use Rattle.std.proofs.lemmas.List.Sums.{sum_by-cons}
use Rattle.rv_lines.specs.declared.header.Parameters.{Parameters}
use Rattle.rv_lines.specs.declared.operations.Operation.{Operation}
use Rattle.rv_lines.specs.declared.rows.Row.{Row}
use Rattle.rv_lines.specs.declared.rows.State.{State}
use Rattle.rv_lines.specs.Reading.{Read}
use Rattle.rv_lines.specs.Operations.{Program, operation_at, program, prepend_operation}
use Rattle.rv_lines.specs.Rows.{adds_row, ends_sequence, row_of, row_added, apply, next_state, in_front, rows_of, state_after}
use Rattle.rv_lines.proofs.Folding.{operation_shorter}

one_row : (b : Bool) (row : Row) (rows : List Row) → length (in_front (cond b (Some row) None) rows) ≡ cond b 1 0 + length rows
one_row true row rows = omega arith
one_row false row rows = omega arith

pub rows_counted : (p : Parameters) (s : State) (ops : List Operation) → length (rows_of p s ops) ≡ count_by adds_row ops
unfolding rows_of
rows_counted p s [] = refl
rows_counted p s (op ∷ ops) =
    let rest = rows_of p (next_state p op (apply p op s)) ops in
    one_row (adds_row op) (row_of (ends_sequence op) (apply p op s)) rest
    ∙ ap (λ n. cond (adds_row op) 1 0 + n) (rows_counted p (next_state p op (apply p op s)) ops)
    ∙ sym (sum_by-cons (λ x. cond (adds_row x) 1 0) op ops)

in_front_append : (row : Option Row) (xs ys : List Row) → in_front row (xs ++ ys) ≡ in_front row xs ++ ys
in_front_append None xs ys = refl
in_front_append (Some row) xs ys = refl

pub rows_in_order : (p : Parameters) (s : State) (front : List Operation) (op : Operation) (back : List Operation)
    → rows_of p s (front ++ op ∷ back)
    ≡ rows_of p s front ++ in_front (row_added op (apply p op (state_after p s front))) (rows_of p (state_after p s (front ++ op ∷ [])) back)
unfolding rows_of
rows_in_order p s [] op back = refl
rows_in_order p s (x ∷ front) op back =
    let next = next_state p x (apply p x s) in
    ap (in_front (row_added x (apply p x s))) (rows_in_order p next front op back)
    ∙ in_front_append (row_added x (apply p x s)) (rows_of p next front)
    (in_front (row_added op (apply p op (state_after p next front))) (rows_of p (state_after p next (front ++ op ∷ [])) back))

few_more : (most : ℕ) (others : List ℕ → Program) (read : Read Operation) → ((rest : List ℕ) → length (others rest).0 ≤ most) → length (prepend_operation others read).0 ≤ suc most
few_more most others (Ok x) h = let k = h x.1 in omega arith
few_more most others (Err e) h = omega arith

pub few_operations : (most opcode_base : ℕ) (lengths bytes : List ℕ) → length (program most opcode_base lengths bytes).0 ≤ most
unfolding program
few_operations zero opcode_base lengths bytes = omega arith
few_operations (suc most) opcode_base lengths [] = omega arith
few_operations (suc most) opcode_base lengths (b ∷ bytes) =
    few_more most (program most opcode_base lengths) (operation_at opcode_base lengths (b ∷ bytes)) (λ rest. few_operations most opcode_base lengths rest)

nothing_read : (opcode_base : ℕ) (lengths rest : List ℕ) (op : Operation) → operation_at opcode_base lengths [] ≡ Ok (op, rest) → ⊥
unfolding operation_at
nothing_read opcode_base lengths rest op h = cc

pub takes_a_byte : (opcode_base : ℕ) (lengths bytes rest : List ℕ) (op : Operation) → operation_at opcode_base lengths bytes ≡ Ok (op, rest) → length rest < length bytes
takes_a_byte opcode_base lengths [] rest op h = absurd (nothing_read opcode_base lengths rest op h)
takes_a_byte opcode_base lengths (b ∷ bytes) rest op h = operation_shorter opcode_base lengths (b ∷ bytes) rest op (omega arith) h
