-- The bodies of replies that do not depend on the session, and replies with parts of longer texts.
use Rattle.std.specs.Prelude.{ℕ, List, ◌∷◌, Option, Some, None, codes, drop, if◌then◌else◌, length, min, nat_le, take}
use Rattle.rv_gdb_protocol.specs.declared.request.Part.{Part}
use Rattle.rv_gdb_protocol.specs.declared.request.Refusal.{Refusal}
use Rattle.rv_gdb_protocol.specs.declared.request.Refusal.TheVariants as refusal
use Rattle.rv_gdb_protocol.specs.declared.request.Request.{Request}
use Rattle.rv_gdb_protocol.specs.declared.request.Request.TheVariants as gdb_request

-- the body of the reply to a refused request
abbrev pub refusal_text : Refusal → List ℕ
refusal_text refusal.Unknown = codes ""
refusal_text refusal.Failed = codes "E01"
refusal_text refusal.OtherAnnex = codes "E00"
refusal_text refusal.OtherFile = codes "F-1,2"
refusal_text refusal.Malformed = codes "E.malformed"
refusal_text refusal.WouldChange = codes "E.the run is read-only: the debugger cannot change it"
refusal_text refusal.NotReached = codes "E.the run does not reach that point"
refusal_text refusal.TooManyStoppoints = codes "E.too many breakpoints"
refusal_text refusal.TooLong = codes "E.packet too long"

-- the features that the stub reports to gdb; a packet can have 0x4000 bytes
abbrev pub features : List ℕ
features =
    codes "PacketSize=4000;QStartNoAckMode+;ReverseStep+;ReverseContinue+;qXfer:features:read+;qXfer:exec-file:read+"

-- the body of the reply to a request if it is the same in every session, or `None` if it depends on the session
abbrev pub fixed_reply : Request → Option (List ℕ)
fixed_reply gdb_request.Features = Some features
fixed_reply gdb_request.NoAcknowledgements = Some (codes "OK")
fixed_reply gdb_request.Accepted = Some (codes "OK")
fixed_reply gdb_request.Detach = Some (codes "OK")
fixed_reply gdb_request.FileSystem = Some (codes "F0")
fixed_reply gdb_request.CloseFile = Some (codes "F0")
fixed_reply gdb_request.Actions = Some (codes "vCont;c;C;s;S;r")
fixed_reply gdb_request.Thread = Some (codes "QC1")
fixed_reply gdb_request.FirstThreads = Some (codes "m1")
fixed_reply gdb_request.MoreThreads = Some (codes "l")
fixed_reply gdb_request.Attached = Some (codes "0")
fixed_reply (gdb_request.Refused refusal) = Some (refusal_text refusal)
fixed_reply request = None

-- the maximum number of bytes of a text in one reply
abbrev pub max_part : ℕ
max_part = 8184

-- `l` and the rest of a text if it has at most `count` bytes, or else `m` and its first `count` bytes
abbrev pub part_of_rest : List ℕ → ℕ → List ℕ
part_of_rest rest count = if nat_le (length rest) count then 108 ∷ rest else 109 ∷ take count rest

-- the body of the reply with a part of a text
unfoldable pub part_text : List ℕ → Part → List ℕ
part_text text part = part_of_rest (drop part.offset text) (min part.count max_part)
