-- What has gone out, piece by piece.
use Rattle.std.proofs.Common.{◌≡◌, ◌∙◌, ◌+◌, ◌<◌, ◌≤◌, ◌-◌, ℕ, zero, suc, List, [], ◌∷◌, ◌++◌, Option, ap, sym, length}
use Rattle.std.proofs.Common.{take, drop, get_or, arith, append_assoc, append-nil, take-append-drop, take_all}
use Rattle.std.proofs.Common.{length-drop, refl}
use Rattle.std.proofs.Math.Seq.{take-add}
use Rattle.std.specs.Io.KnownBytes.{Appends, Keeps}
use Rattle.std.proofs.KnownBytes.{Appends-nil, Appends-trans, Appends-kept}
use Rattle.rv_base.specs.Sinks.{AppendsPrefix, IsPartlyWritten}

rest_is : (text : List ℕ) (at : ℕ) → at ≤ length text → take (length text - at) (drop at text) ≡ drop at text
rest_is text at within = take_all (length text - at) (drop at text) (omega (arith, length-drop at text))

-- a put of the rest takes the next bytes
pub next_taken : (a b c : Option (List ℕ)) (text : List ℕ) (at count : ℕ) → at ≤ length text
    → Appends a b (take at text)
    → Appends b c (take count (take (length text - at) (drop at text))) → Appends a c (take (at + count) text)
next_taken a b c text at count within before now =
    rw (take-add at count text)
    (Appends-trans a b c (take at text) (take count (drop at text)) before (rw (rest_is text at within) at now))

-- the first bytes of a text are a beginning of it
pub first_bytes : (a b c : Option (List ℕ)) (text : List ℕ) (at : ℕ) → Appends a b (take at text) → Keeps b c
    → AppendsPrefix a c text
first_bytes a b c text at before kept = record {
  part = take at text;
  rest = drop at text;
  whole = sym (take-append-drop at text);
  appended = Appends-kept a b c (take at text) before kept;
}

-- nothing went out yet
pub nothing_under_way : (a : Option (List ℕ)) (gathered text : List ℕ) → gathered ≡ text → IsPartlyWritten a a gathered text
nothing_under_way a gathered text same = record { sent = []; appended = Appends-nil a; whole = sym same }

-- one more piece is gathered, and a part of all that was gathered goes out
pub more_under_way : (a b c : Option (List ℕ)) (gathered piece grown left text longer : List ℕ)
    → IsPartlyWritten a b gathered text → grown ≡ gathered ++ piece
    → IsPartlyWritten b c left grown → longer ≡ text ++ piece → IsPartlyWritten a c left longer
more_under_way a b c gathered piece grown left text longer before pushed now whole = record {
  sent = before.sent ++ now.sent;
  appended = Appends-trans a b c before.sent now.sent before.appended now.appended;
  whole = whole ∙ ap (λ front. front ++ piece) before.whole ∙ append_assoc before.sent gathered piece
      ∙ ap (λ more. before.sent ++ more) (sym pushed ∙ now.whole) ∙ sym (append_assoc before.sent now.sent left);
}

-- what went out is a beginning of each text that goes on from it
pub stopped_under_way : (a b : Option (List ℕ)) (gathered text rest longer : List ℕ) → IsPartlyWritten a b gathered text
    → longer ≡ text ++ rest → AppendsPrefix a b longer
stopped_under_way a b gathered text rest longer before whole = record {
  part = before.sent;
  rest = gathered ++ rest;
  whole = whole ∙ ap (λ front. front ++ rest) before.whole ∙ append_assoc before.sent gathered rest;
  appended = before.appended;
}

-- a beginning of a text is one of each text that goes on from it
pub beginning_of_longer : (a b : Option (List ℕ)) (text rest longer : List ℕ) → AppendsPrefix a b text
    → longer ≡ text ++ rest → AppendsPrefix a b longer
beginning_of_longer a b text rest longer begun whole = record {
  part = begun.part;
  rest = begun.rest ++ rest;
  whole = whole ∙ ap (λ front. front ++ rest) begun.whole ∙ append_assoc begun.part begun.rest rest;
  appended = begun.appended;
}

-- one more piece is gathered, and only a beginning of all that was gathered goes out
pub failed_under_way : (a b c : Option (List ℕ)) (gathered piece grown text longer : List ℕ)
    → IsPartlyWritten a b gathered text → grown ≡ gathered ++ piece
    → AppendsPrefix b c grown → longer ≡ text ++ piece → AppendsPrefix a c longer
failed_under_way a b c gathered piece grown text longer before pushed begun whole = record {
  part = before.sent ++ begun.part;
  rest = begun.rest;
  whole = whole ∙ ap (λ front. front ++ piece) before.whole ∙ append_assoc before.sent gathered piece
      ∙ ap (λ more. before.sent ++ more) (sym pushed ∙ begun.whole)
      ∙ sym (append_assoc before.sent begun.part begun.rest);
  appended = Appends-trans a b c before.sent begun.part before.appended begun.appended;
}

-- one more piece is gathered, and all goes out
pub ended_under_way : (a b c : Option (List ℕ)) (gathered piece grown text : List ℕ) → IsPartlyWritten a b gathered text
    → grown ≡ gathered ++ piece
    → Appends b c grown → Appends a c (text ++ piece)
ended_under_way a b c gathered piece grown text before pushed sent =
    let whole : text ++ piece ≡ before.sent ++ grown =
    ap (λ front. front ++ piece) before.whole ∙ append_assoc before.sent gathered piece
    ∙ ap (λ more. before.sent ++ more) (sym pushed) in
    rw whole (Appends-trans a b c before.sent grown before.appended sent)
