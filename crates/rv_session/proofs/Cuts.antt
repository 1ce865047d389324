-- Bytes that come in two reads.
use Rattle.std.proofs.Common.{◌≡◌, ◌++◌, ◌∷◌, [], ℕ, Bool, List, None, append-nil, append_assoc, refl, subst, sym}
use Rattle.std.specs.Prelude.{◌==◌}
use Rattle.rv_session.specs.Incoming.{IsByteReceived, IsReceived, IsRequestedMoveMade, byte_first, is_interrupted, move_first, no_bytes}
use Rattle.rv_session.specs.declared.session.Session.{Session}

-- what comes next of bytes, and of those behind them
next_of_nodes : (bytes rest : List ℕ) (behind : Bool)
    → is_interrupted bytes (is_interrupted rest behind) ≡ is_interrupted (bytes ++ rest) behind
next_of_nodes [] rest behind = refl
next_of_nodes (byte ∷ more) rest behind = refl

pub fed_both : (end_text : List ℕ) (behind : Bool) (rest : List ℕ) (session between next : Session) (front out more : List ℕ)
    → IsReceived end_text (is_interrupted rest behind) session front out between → IsReceived end_text behind between rest more next
    → IsReceived end_text behind session (front ++ rest) (out ++ more) next
fed_both end_text behind rest session between next front out more (no_bytes same) second = second
fed_both end_text behind rest session between next front out more (byte_first same middle last byte later told sent going one first) second =
    subst (λ (all : List ℕ). IsReceived end_text behind session (byte ∷ (later ++ rest)) all next) (sym (append_assoc told sent more))
    (byte_first session middle next byte (later ++ rest) told (sent ++ more) going one
    (fed_both end_text behind rest middle between next later sent more first second))
fed_both end_text behind rest session between next front out more (move_first same middle last bytes told sent made first) second =
    subst (λ (all : List ℕ). IsReceived end_text behind session (front ++ rest) all next) (sym (append_assoc told sent more))
    (move_first session middle next (front ++ rest) told (sent ++ more)
    (subst (λ (may : Bool). IsRequestedMoveMade end_text may session told middle) (next_of_nodes front rest behind) made)
    (fed_both end_text behind rest middle between next front sent more first second))

one_byte : (end_text : List ℕ) (behind : Bool) (session next : Session) (byte : ℕ) (out : List ℕ) → session.requested ≡ None
    → IsByteReceived session byte out next → IsReceived end_text behind session (byte ∷ []) out next
one_byte end_text behind session next byte out going one =
    subst (λ (all : List ℕ). IsReceived end_text behind session (byte ∷ []) all next) (append-nil out)
    (byte_first session next next byte [] out [] going one (no_bytes next))

pub fed_byte : (end_text : List ℕ) (behind : Bool) (session between next : Session) (front out more : List ℕ) (byte : ℕ)
    → IsReceived end_text (byte == 3) session front out between → between.requested ≡ None → IsByteReceived between byte more next
    → IsReceived end_text behind session (front ++ byte ∷ []) (out ++ more) next
fed_byte end_text behind session between next front out more byte first going one =
    fed_both end_text behind (byte ∷ []) session between next front out more first
    (one_byte end_text behind between next byte more going one)

one_move : (end_text : List ℕ) (behind : Bool) (session next : Session) (out : List ℕ) → IsRequestedMoveMade end_text behind session out next
    → IsReceived end_text behind session [] out next
one_move end_text behind session next out made =
    subst (λ (all : List ℕ). IsReceived end_text behind session [] all next) (append-nil out)
    (move_first session next next [] out [] made (no_bytes next))

-- a move that is asked for by the last byte
pub fed_move : (end_text : List ℕ) (behind : Bool) (session between next : Session) (front out more : List ℕ)
    → IsReceived end_text behind session front out between → IsRequestedMoveMade end_text behind between more next
    → IsReceived end_text behind session front (out ++ more) next
fed_move end_text behind session between next front out more first made =
    subst (λ (bytes : List ℕ). IsReceived end_text behind session bytes (out ++ more) next) (append-nil front)
    (fed_both end_text behind [] session between next front out more first (one_move end_text behind between next more made))
