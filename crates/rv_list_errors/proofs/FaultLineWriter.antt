-- Lines that tell the faults of a list's jobs, one behind the other.
use Rattle.std.proofs.Common.{◌≡◌, ◌∙◌, ◌+◌, ◌<◌, ℕ, List, [], ◌∷◌, ◌++◌, append-nil, append_assoc, ap, arith, get_or, length, refl, subst, sym, take, Option, None, Some}
use Rattle.std.proofs.Common.{length-append}
use Rattle.std.proofs.lemmas.List.{take_more}
use Rattle.std.proofs.lemmas.List.Concat.{flat_map-append}
use Rattle.std.proofs.lemmas.List.Elements.{All-push, All-weaker}
use Rattle.std.specs.List.{All, flat_map}
use Rattle.std.specs.Prelude.{Err, Ok, OnOk, Result}
use Rattle.toml.specs.Data.{Members}
use Rattle.rv_lists.specs.JobList.{document_of}
use Rattle.rv_lists.specs.declared.error.JobError.{JobError}
use Rattle.rv_list_errors.specs.FaultHeads.{fault_head, job_names, location_in_document}
use Rattle.rv_list_errors.specs.Lines.{BeginsWith, AppendsFaultLines, EachMessageBeginsWith, printable_line}
use Rattle.rv_list_errors.specs.LocatedFaults.{IsFaultMessage, IsFaultMessageInDocument, IsFaultMessageInList, AppendsLinesOfEach, AppendsSomeLines}

-- so many lines
abbrev pub PutsSo : (List ℕ → Type 0) → ℕ → List ℕ → List ℕ → Type 0
PutsSo Is n before after = (messages : List (List ℕ)) × (length messages ≡ n) × All Is messages
    × (after ≡ before ++ flat_map printable_line messages)

pub puts_none : (Is : List ℕ → Type 0) (before : List ℕ) → PutsSo Is 0 before before
puts_none Is before = ([], refl, (λ k d low. absurd (omega (arith, low))), sym (append-nil before))

pub puts_more : (Is : List ℕ → Type 0) (n : ℕ) (before bytes after message : List ℕ) → PutsSo Is n before bytes
    → Is message → after ≡ bytes ++ printable_line message → PutsSo Is (n + 1) before after
puts_more Is n before bytes after message (messages, count, are, eq) is shows = (
  messages ++ message ∷ [],
  omega (arith, length-append messages (message ∷ []), count),
  All-push Is messages message are is,
  rw (shows, eq, flat_map-append printable_line messages (message ∷ [])) (simp (append_assoc, append-nil)),
)

pub puts_some : (Is : List ℕ → Type 0) (n : ℕ) (before after : List ℕ) → 0 < n → PutsSo Is n before after
    → AppendsSomeLines Is before after
puts_some Is n before after some (messages, count, are, eq) = (messages, omega (arith, count, some), are, eq)

-- one line
pub puts_one : (Is : List ℕ → Type 0) (before after message : List ℕ) → Is message → after ≡ before ++ printable_line message
    → AppendsSomeLines Is before after
puts_one Is before after message is shows =
    puts_some Is 1 before after (omega arith) (puts_more Is 0 before before after message (puts_none Is before) is shows)

pub puts_weaker : (Is Other : List ℕ → Type 0) (before after : List ℕ) → ((message : List ℕ) → Is message → Other message)
    → AppendsSomeLines Is before after → AppendsSomeLines Other before after
puts_weaker Is Other before after weaker (messages, some, are, eq) =
    (messages, some, All-weaker Is Other weaker messages are, eq)

-- ---- the lines of one more fault

each_snoc : (Is : JobError → List ℕ → Type 0) (faults : List JobError) (fault : JobError) (before bytes after : List ℕ)
    → AppendsLinesOfEach Is faults before bytes → AppendsSomeLines (Is fault) bytes after
    → AppendsLinesOfEach Is (faults ++ fault ∷ []) before after
each_snoc Is [] fault before bytes after same puts =
    (after, subst (λ b. AppendsSomeLines (Is fault) b after) same puts, refl)
each_snoc Is (f ∷ faults) fault before bytes after (middle, first, rest) puts =
    (middle, first, each_snoc Is faults fault middle bytes after rest puts)

pub each_more : (Is : JobError → List ℕ → Type 0) (faults : List JobError) (i : ℕ) (d : JobError) (before bytes after : List ℕ)
    → i < length faults → AppendsLinesOfEach Is (take i faults) before bytes
    → AppendsSomeLines (Is (get_or faults i d)) bytes after → AppendsLinesOfEach Is (take (i + 1) faults) before after
each_more Is faults i d before bytes after low puts more =
    rw (take_more faults i d low) (each_snoc Is (take i faults) (get_or faults i d) before bytes after puts more)

-- ---- the same in other words

each_weaker : (Is Other : JobError → List ℕ → Type 0) (faults : List JobError) (before after : List ℕ)
    → ((fault : JobError) (message : List ℕ) → Is fault message → Other fault message) → AppendsLinesOfEach Is faults before after
    → AppendsLinesOfEach Other faults before after
each_weaker Is Other [] before after weaker same = same
each_weaker Is Other (fault ∷ faults) before after weaker (middle, first, rest) = (
  middle,
  puts_weaker (Is fault) (Other fault) before middle (weaker fault) first,
  each_weaker Is Other faults middle after weaker rest,
)

-- a line for each fault
each_of_lines : (head : JobError → List ℕ) (faults : List JobError) (messages : List (List ℕ)) (before after : List ℕ)
    → EachMessageBeginsWith head faults messages → after ≡ before ++ flat_map printable_line messages
    → AppendsLinesOfEach (λ fault message. BeginsWith (head fault) message) faults before after
each_of_lines head [] [] before after told eq = eq ∙ append-nil before
each_of_lines head (fault ∷ faults) (message ∷ messages) before after told eq = (
  before ++ printable_line message,
  puts_one (BeginsWith (head fault)) before (before ++ printable_line message) message told.0 refl,
  each_of_lines head faults messages (before ++ printable_line message) after told.1
      (eq ∙ sym (append_assoc before (printable_line message) (flat_map printable_line messages))),
)
each_of_lines head [] (message ∷ messages) before after told eq = elim told [ ]
each_of_lines head (fault ∷ faults) [] before after told eq = elim told [ ]

-- in a document
pub told_in_document : {T E : Type 0} (result : Result T E) (path text : List ℕ) (ms : Members) (names : List (Option (List ℕ)))
    (faults : List JobError) (before after : List ℕ) → document_of text ≡ Some ms → names ≡ job_names ms
    → OnOk result (AppendsLinesOfEach (IsFaultMessageInList path text names) faults before after)
    → OnOk result (AppendsLinesOfEach (IsFaultMessage path text) faults before after)
told_in_document (Ok done) path text ms names faults before after parsed named puts =
    each_weaker (IsFaultMessageInList path text names) (IsFaultMessage path text) faults before after
    (λ fault message told. subst (λ document. IsFaultMessageInDocument path text document fault message) (sym parsed)
    (subst (λ these. IsFaultMessageInList path text these fault message) named told)) puts
told_in_document (Err error) path text ms names faults before after parsed named puts = tt

-- where there is none
pub told_without_document : {T E : Type 0} (result : Result T E) (path text : List ℕ) (head : JobError → List ℕ)
    (faults : List JobError) (before after : List ℕ) → document_of text ≡ None
    → ((fault : JobError) → head fault ≡ path) → OnOk result (AppendsFaultLines head faults before after)
    → OnOk result (AppendsLinesOfEach (IsFaultMessage path text) faults before after)
told_without_document (Ok done) path text head faults before after refused heads (messages, told, eq) =
    each_weaker (λ fault message. BeginsWith (head fault) message) (IsFaultMessage path text) faults before after
    (λ fault message begins. subst (λ document. IsFaultMessageInDocument path text document fault message) (sym refused)
    (subst (λ head. BeginsWith head message) (heads fault) begins))
    (each_of_lines head faults messages before after told eq)
told_without_document (Err error) path text head faults before after refused heads puts = tt

-- ---- a message

pub head_in_parts : (file place job rest : List ℕ) → (([] ++ file) ++ place) ++ job ++ rest ≡ (file ++ (place ++ job)) ++ rest
head_in_parts file place job rest = simp append_assoc

-- where there is no document a line begins with the path alone
pub head_is_path : (path text : List ℕ) → document_of text ≡ None → (fault : JobError) → fault_head path text fault ≡ path
head_is_path path text refused fault =
    ap (λ document. path ++ location_in_document text document fault.job) refused ∙ append-nil path
