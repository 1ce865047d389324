-- One line more behind those that stand there.
use Rattle.std.proofs.Common.{◌≡◌, ◌+◌, ◌<◌, ℕ, List, [], ◌∷◌, ◌++◌, append-nil, append_assoc, get_or, length, sym, take, ap, suc, refl}
use Rattle.std.proofs.lemmas.List.{take_more}
use Rattle.std.specs.Prelude.{Err, Ok, OnOk, Result}
use Rattle.std.proofs.lemmas.List.Concat.{flat_map-append}
use Rattle.rv_lists.specs.declared.error.JobError.{JobError}
use Rattle.rv_text.specs.Printable.{printable_text}
use Rattle.rv_list_errors.specs.Lines.{AppendsLineOfEach, AppendsLines, EachFaultHasMessage, printable_line}

-- no line
pub no_lines : (Is : JobError → List ℕ → Type 0) (bytes : List ℕ) → AppendsLineOfEach Is [] bytes bytes
no_lines Is bytes = ([], tt, sym (append-nil bytes))

-- one message more
one_message_more : (Is : JobError → List ℕ → Type 0) (faults : List JobError) (messages : List (List ℕ)) (fault : JobError)
    (message : List ℕ) → EachFaultHasMessage Is faults messages → Is fault message
    → EachFaultHasMessage Is (faults ++ fault ∷ []) (messages ++ message ∷ [])
one_message_more Is [] [] fault message told so = (so, tt)
one_message_more Is (f ∷ faults) (m ∷ messages) fault message told so =
    (told.0, one_message_more Is faults messages fault message told.1 so)
one_message_more Is [] (m ∷ messages) fault message told so = elim told [ ]
one_message_more Is (f ∷ faults) [] fault message told so = elim told [ ]

-- a message is shown, and its line ends
pub one_line_more : (Is : JobError → List ℕ → Type 0) (faults : List JobError) (i : ℕ) (d : JobError)
    (before bytes after message : List ℕ) → i < length faults → AppendsLineOfEach Is (take i faults) before bytes
    → Is (get_or faults i d) message → after ≡ bytes ++ (printable_text message ++ 10 ∷ [])
    → AppendsLineOfEach Is (take (i + 1) faults) before after
one_line_more Is faults i d before bytes after message low (messages, told, is) so shows =
    rw (take_more faults i d low) (
      messages ++ message ∷ [],
      one_message_more Is (take i faults) messages (get_or faults i d) message told so,
      rw (shows, is, flat_map-append printable_line messages (message ∷ [])) (simp (append_assoc, append-nil)),
    )

-- of each message something else is so too
each_so : (Is Other : JobError → List ℕ → Type 0) (faults : List JobError) (messages : List (List ℕ))
    → ((fault : JobError) (message : List ℕ) → Is fault message → Other fault message) → EachFaultHasMessage Is faults messages
    → EachFaultHasMessage Other faults messages
each_so Is Other [] [] so told = tt
each_so Is Other (fault ∷ faults) (message ∷ messages) so told =
    (so fault message told.0, each_so Is Other faults messages so told.1)
each_so Is Other [] (message ∷ messages) so told = elim told [ ]
each_so Is Other (fault ∷ faults) [] so told = elim told [ ]

pub lines_so : {T E : Type 0} (result : Result T E) (Is Other : JobError → List ℕ → Type 0) (faults : List JobError)
    (before after : List ℕ) → ((fault : JobError) (message : List ℕ) → Is fault message → Other fault message)
    → OnOk result (AppendsLineOfEach Is faults before after) → OnOk result (AppendsLineOfEach Other faults before after)
lines_so (Ok done) Is Other faults before after so (messages, told, is) =
    (messages, each_so Is Other faults messages so told, is)
lines_so (Err error) Is Other faults before after so puts = tt

-- there are as many lines as faults
line_count : (Is : JobError → List ℕ → Type 0) (faults : List JobError) (messages : List (List ℕ))
    → EachFaultHasMessage Is faults messages → length messages ≡ length faults
line_count Is [] [] told = refl
line_count Is (fault ∷ faults) (message ∷ messages) told = ap suc (line_count Is faults messages told.1)
line_count Is [] (message ∷ messages) told = elim told [ ]
line_count Is (fault ∷ faults) [] told = elim told [ ]

pub count_of_lines : {T E : Type 0} (result : Result T E) (Is : JobError → List ℕ → Type 0) (faults : List JobError)
    (before after : List ℕ) → OnOk result (AppendsLineOfEach Is faults before after)
    → OnOk result (AppendsLines (length faults) before after)
count_of_lines (Ok done) Is faults before after (messages, told, is) = (messages, line_count Is faults messages told, is)
count_of_lines (Err error) Is faults before after puts = tt
