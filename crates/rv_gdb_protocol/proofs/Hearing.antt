-- What is heard in bytes that are cut.
use Rattle.std.proofs.Common.{◌≡◌, ◌++◌, ◌∷◌, ◌+◌, ◌<◌, [], ℕ, List, fold, get_or, length, refl, take, ap, append-nil, append_assoc, sym, Option, ◌∙◌}
use Rattle.std.proofs.lemmas.List.{take_more}
use Rattle.rv_gdb_protocol.proofs.Folds.{fold-take}
use Rattle.rv_gdb_protocol.specs.declared.frame.Incoming.{Incoming}
use Rattle.rv_gdb_protocol.specs.ReaderStates.{ReaderState, state_after_byte, incoming_at, incoming_in, option_list}

pub incoming_in-append : (frame : ReaderState) (front rest : List ℕ) → incoming_in frame (front ++ rest)
    ≡ incoming_in frame front ++ incoming_in (fold state_after_byte frame front) rest
unfolding incoming_in
incoming_in-append frame [] rest = refl
incoming_in-append frame (byte ∷ front) rest =
    let next : ReaderState = state_after_byte frame byte in
    cc (
      ap (λ more. option_list (incoming_at frame byte) ++ more) (incoming_in-append next front rest),
      append_assoc (option_list (incoming_at frame byte)) (incoming_in next front)
          (incoming_in (fold state_after_byte next front) rest),
    )

pub incoming_in-empty : (frame : ReaderState) → incoming_in frame [] ≡ []
unfolding incoming_in
incoming_in-empty frame = refl

-- a byte more
pub incoming_in-one : (frame : ReaderState) (front : List ℕ) (byte : ℕ) → incoming_in frame (front ++ byte ∷ [])
    ≡ incoming_in frame front ++ option_list (incoming_at (fold state_after_byte frame front) byte)
unfolding incoming_in
incoming_in-one frame front byte =
    let last : ReaderState = fold state_after_byte frame front in
    cc (incoming_in-append frame front (byte ∷ []), append-nil (option_list (incoming_at last byte)))

pub incoming_in-take : (frame : ReaderState) (bytes : List ℕ) (at : ℕ) → at < length bytes → incoming_in frame (take (at + 1) bytes)
    ≡ incoming_in frame (take at bytes) ++ option_list (incoming_at (fold state_after_byte frame (take at bytes)) (get_or bytes at 0))
incoming_in-take frame bytes at within =
    ap (λ front. incoming_in frame front) (take_more bytes at 0 within) ∙ incoming_in-one frame (take at bytes) (get_or bytes at 0)

-- nothing was heard before the last byte of a beginning: what is heard there is heard in all of it
pub heard_at_last : (frame now : ReaderState) (bytes : List ℕ) (at : ℕ) (heard : Option Incoming) → at < length bytes
    → incoming_in frame (take at bytes) ≡ [] → now ≡ fold state_after_byte frame (take at bytes)
    → heard ≡ incoming_at now (get_or bytes at 0) → incoming_in frame (take (at + 1) bytes) ≡ option_list heard
heard_at_last frame now bytes at heard within quiet here told =
    let byte : ℕ = get_or bytes at 0 in
    let before : ReaderState = fold state_after_byte frame (take at bytes) in
    incoming_in-take frame bytes at within
    ∙ ap (λ more. more ++ option_list (incoming_at before byte)) quiet
    ∙ ap (λ index. option_list (incoming_at index byte)) (sym here)
    ∙ ap option_list (sym told)

pub frame_at_last : (frame now next : ReaderState) (bytes : List ℕ) (at : ℕ) → at < length bytes
    → now ≡ fold state_after_byte frame (take at bytes) → next ≡ state_after_byte now (get_or bytes at 0)
    → next ≡ fold state_after_byte frame (take (at + 1) bytes)
frame_at_last frame now next bytes at within here behind =
    behind ∙ ap (λ index. state_after_byte index (get_or bytes at 0)) here ∙ sym (fold-take state_after_byte frame bytes at 0 within)
