-- Each packet of the protocol is read as what it asks.
use Rattle.std.proofs.Common.{◌≡◌, ◌∷◌, ◌+◌, ◌≤◌, ℕ, List, Option, Some, true, false, ap, arith, eqb, length, refl}
use Rattle.std.specs.List.{list_all}
use Rattle.std.proofs.lemmas.Bool.{eq-eqb, le-leb, ne_eqb}
use Rattle.rv_gdb_protocol.specs.Grammar.{IsAction, IsRequest, IsStoppointText, accesses, action_of_thread, actions, attached, choose_thread, clear_stoppoint, close_file, command, description, detach, detach_process, features, file_size, file_system, first_action, first_threads, continues_back, continues, continues_with_signal, hardware, image_path, is_alive, kill, kill_process, last_stop, more_threads, moves, no_acknowledgements, continue_with_signal, one_action, open_file, plain_move, read_file, read_memory, reads, register, registers, restart, set_stoppoint, software, stay_extended, step_with_signal, steps, steps_back, steps_with_signal, steps_within, this_thread, write_data, write_digits, write_register, write_registers, writes}
use Rattle.rv_gdb_protocol.specs.Numbers.{text_after}
use Rattle.rv_gdb_protocol.specs.Packets as packet
use Rattle.rv_gdb_protocol.specs.Requests as args
use Rattle.rv_gdb_protocol.specs.Requests.{colon, comma, equals, register_of, semicolon, parse_stoppoint, stoppoint_change, parse_watch_range, watchpoint_if_valid, data_if_complete, memory_write}
use Rattle.rv_gdb_protocol.specs.declared.request.Move.{Move}
use Rattle.rv_gdb_protocol.specs.declared.request.Range.{Range}
use Rattle.rv_gdb_protocol.specs.declared.request.Request.{Request}
use Rattle.rv_gdb_protocol.specs.declared.request.Request.TheVariants as ask
use Rattle.rv_gdb_protocol.specs.declared.request.Stoppoint.{Stoppoint}
use Rattle.rv_gdb_protocol.specs.declared.request.Stoppoint.TheVariants as trap
use Rattle.rv_gdb_protocol.specs.declared.request.WatchKind.{WatchKind}
use Rattle.rv_gdb_protocol.specs.declared.request.WatchKind.TheVariants as watch
use Rattle.rv_gdb_protocol.proofs.Marks.{before_mark, behind_mark, is_other, number_lacks, place_between, two_lack, two_numbers, until_all, until_mark, until_other}

-- ---- where to stop

watch_fits : (kind : WatchKind) (address count : ℕ) → 1 ≤ count → count ≤ 65536 → address + count ≤ 4294967296
    → watchpoint_if_valid kind (record { address = address; count = count }) ≡ Some (trap.Watch kind (record { address = address; count = count }))
watch_fits kind address count some few within =
    rw (le-leb 1 count some, le-leb count 65536 few, le-leb (address + count) 4294967296 within) refl

trap_read : (text : List ℕ) (stoppoint : Stoppoint) → IsStoppointText text stoppoint → parse_stoppoint text ≡ Some (Some stoppoint)
unfolding text_after parse_watch_range
trap_read text stoppoint (software fields address kind tells) = rw (two_numbers fields address kind tells) refl
trap_read text stoppoint (hardware fields address kind tells) = rw (two_numbers fields address kind tells) refl
trap_read text stoppoint (writes fields address count tells some few within) =
    rw (two_numbers fields address count tells)
    (ap (λ (found : Option Stoppoint). Some found) (watch_fits watch.Writes address count some few within))
trap_read text stoppoint (reads fields address count tells some few within) =
    rw (two_numbers fields address count tells)
    (ap (λ (found : Option Stoppoint). Some found) (watch_fits watch.Reads address count some few within))
trap_read text stoppoint (accesses fields address count tells some few within) =
    rw (two_numbers fields address count tells)
    (ap (λ (found : Option Stoppoint). Some found) (watch_fits watch.Accesses address count some few within))

-- ---- bytes that are written

write_of_count : (range : Range) (bytes : List ℕ) → length bytes ≡ range.count
    → memory_write range bytes ≡ Some (ask.WriteMemory range.address bytes)
write_of_count range bytes same = rw (eq-eqb (length bytes) range.count same) refl

-- ---- actions

action_read : (text : List ℕ) (step : Move) → IsAction text step → packet.action_of text ≡ Some step
unfolding packet.action_of packet.move_of_plain_action text_after
action_read text step (moves same other continues) = refl
action_read text step (moves same other steps) = refl
action_read text step (continues_with_signal signal number told) = rw told refl
action_read text step (steps_with_signal signal number told) = rw told refl
action_read text step (steps_within range low high tells) = rw (two_numbers range low high tells) refl

action_lacks_semicolon : (text : List ℕ) (step : Move) → IsAction text step → list_all (is_other semicolon) text ≡ true
action_lacks_semicolon text step (moves same other continues) = refl
action_lacks_semicolon text step (moves same other steps) = refl
action_lacks_semicolon text step (continues_with_signal signal number told) = number_lacks semicolon refl signal number told
action_lacks_semicolon text step (steps_with_signal signal number told) = number_lacks semicolon refl signal number told
action_lacks_semicolon text step (steps_within range low high tells) = two_lack semicolon refl refl range low high tells

action_lacks_colon : (text : List ℕ) (step : Move) → IsAction text step → list_all (is_other colon) text ≡ true
action_lacks_colon text step (moves same other continues) = refl
action_lacks_colon text step (moves same other steps) = refl
action_lacks_colon text step (continues_with_signal signal number told) = number_lacks colon refl signal number told
action_lacks_colon text step (steps_with_signal signal number told) = number_lacks colon refl signal number told
action_lacks_colon text step (steps_within range low high tells) = two_lack colon refl refl range low high tells

-- a text of some bytes is not empty
some_byte : (byte : ℕ) (text : List ℕ) → eqb (length (byte ∷ text)) 0 ≡ false
some_byte byte text = ne_eqb (length (byte ∷ text)) 0 (λ is. omega arith)

-- ---- each packet

pub is_read : (body : List ℕ) (request : Request) → IsRequest body request → packet.request_of body ≡ request
unfolding packet.request_of packet.request_without_bytes packet.bare_query packet.bare_command packet.query_request packet.register_or_memory_request packet.stoppoint_request packet.move_request packet.first_action packet.accepted_request packet.detach packet.is_file_call packet.request_with_bytes packet.command args.description args.register_of args.write_register args.write_registers args.write_digits args.write_data args.stoppoint_change args.plain_move args.signal_move args.read_file args.image_path args.path_to_open text_after
is_read body request (features args) = refl
is_read body request no_acknowledgements = refl
is_read body request last_stop = refl
is_read body request registers = refl
is_read body request actions = refl
is_read body request continues_back = refl
is_read body request steps_back = refl
is_read body request detach = refl
is_read body request kill = refl
is_read body request (description part offset count tells) = rw (two_numbers part offset count tells) refl
is_read body request (register digits number which told is) = rw (told, is) refl
is_read body request (write_register digits values number value which told is valued) =
    rw (
      place_between equals digits values (number_lacks equals refl digits number told),
      before_mark equals digits values,
      behind_mark equals digits values,
      told,
      is,
      valued,
    ) refl
is_read body request (write_registers digits bytes told long) = rw (told, eq-eqb (length bytes) 132 long) refl
is_read body request (read_memory range address count tells) = rw (two_numbers range address count tells) refl
is_read body request (write_digits range digits bytes address count tells told long) =
    rw (
      place_between colon range digits (two_lack colon refl refl range address count tells),
      before_mark colon range digits,
      behind_mark colon range digits,
      two_numbers range address count tells,
      told,
      eq-eqb (length bytes) count long,
    ) refl
is_read body request (write_data range data_text bytes address count tells told long) =
    rw (
      place_between colon range data_text (two_lack colon refl refl range address count tells),
      before_mark colon range data_text,
      behind_mark colon range data_text,
      two_numbers range address count tells,
      told,
      eq-eqb (length bytes) count long,
    ) refl
is_read body request (set_stoppoint text index is) = rw (trap_read text index is) refl
is_read body request (clear_stoppoint text index is) = rw (trap_read text index is) refl
is_read body request (plain_move text step continues) = refl
is_read body request (plain_move text step steps) = refl
is_read body request (continue_with_signal signal number told) = rw told refl
is_read body request (step_with_signal signal number told) = rw told refl
is_read body request (one_action text step is) =
    rw (
      until_all semicolon text (action_lacks_semicolon text step is),
      until_all colon text (action_lacks_colon text step is),
      action_read text step is,
    ) refl
is_read body request (first_action text rest step is) =
    rw (
      until_mark semicolon text rest (action_lacks_semicolon text step is),
      until_all colon text (action_lacks_colon text step is),
      action_read text step is,
    ) refl
is_read body request (action_of_thread text rest step is) =
    rw (
      until_other semicolon colon text rest (action_lacks_semicolon text step is) (action_lacks_colon text step is) refl,
      action_read text step is,
    ) refl
is_read body request (command digits text told) = rw told refl
is_read body request (detach_process process) = rw (some_byte semicolon process) refl
is_read body request (restart args) = refl
is_read body request (kill_process args) = refl
is_read body request (choose_thread args) = refl
is_read body request (is_alive args) = refl
is_read body request stay_extended = refl
is_read body request (attached args) = refl
is_read body request this_thread = refl
is_read body request first_threads = refl
is_read body request more_threads = refl
is_read body request file_system = refl
is_read body request file_size = refl
is_read body request close_file = refl
is_read body request (image_path process part offset count lacks tells) =
    rw (
      place_between colon process part lacks,
      behind_mark colon process part,
      two_numbers part offset count tells,
    ) refl
is_read body request (open_file digits path modes mode lacks told tells) =
    rw (
      place_between comma digits modes lacks,
      before_mark comma digits modes,
      behind_mark comma digits modes,
      two_numbers modes 0 mode tells,
      told,
    ) refl
is_read body request (read_file part count offset tells) = rw (two_numbers part count offset tells) refl
