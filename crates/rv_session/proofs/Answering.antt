-- Answers that change nothing.
use Rattle.std.proofs.Common.{◌≡◌, ℕ, List, refl}
use Rattle.rv_gdb_protocol.specs.declared.request.Move.{Move}
use Rattle.rv_gdb_protocol.specs.declared.request.Register.{Register}
use Rattle.rv_gdb_protocol.specs.declared.request.Request.{Request}
use Rattle.rv_gdb_protocol.specs.declared.request.Request.TheVariants as ask
use Rattle.rv_gdb_protocol.specs.declared.request.Stoppoint.{Stoppoint}
use Rattle.rv_session.specs.SessionReplies.{IsReply, read_only_reply}
use Rattle.rv_session.specs.declared.reply.Reply.{Reply}
use Rattle.rv_session.specs.declared.session.Session.{Session}

-- a request that changes nothing is none of these
pub record IsLook (request : Request) : Type 0 where
  pub no_write : (register : Register) (value : ℕ) → request ≡ ask.WriteRegister register value → ⊥
  pub no_set : (stoppoint : Stoppoint) → request ≡ ask.Set stoppoint → ⊥
  pub no_clear : (stoppoint : Stoppoint) → request ≡ ask.Clear stoppoint → ⊥
  pub no_move : (requested : Move) → request ≡ ask.Move requested → ⊥
  pub no_command : (text : List ℕ) → request ≡ ask.Command text → ⊥
  pub no_restart : request ≡ ask.Restart → ⊥
  pub no_mode : request ≡ ask.NoAcknowledgements → ⊥
  pub no_detach : request ≡ ask.Detach → ⊥
  pub no_kill : request ≡ ask.Kill → ⊥

pub looked : (session : Session) (request : Request) (reply : Reply) → IsLook request → reply ≡ read_only_reply session request
    → IsReply session request reply session
looked session (ask.WriteRegister register value) reply look is = absurd (look.no_write register value refl)
looked session (ask.Set stoppoint) reply look is = absurd (look.no_set stoppoint refl)
looked session (ask.Clear stoppoint) reply look is = absurd (look.no_clear stoppoint refl)
looked session (ask.Move requested) reply look is = absurd (look.no_move requested refl)
looked session (ask.Command text) reply look is = absurd (look.no_command text refl)
looked session ask.Restart reply look is = absurd (look.no_restart refl)
looked session ask.NoAcknowledgements reply look is = absurd (look.no_mode refl)
looked session ask.Detach reply look is = absurd (look.no_detach refl)
looked session ask.Kill reply look is = absurd (look.no_kill refl)
looked session request reply look is = (is, refl)
