use Rattle.std.proofs.Common.{◌≡◌, ◌∙◌, ◌++◌, ℕ, List, Global, Vec, ap, append_assoc, codes, sym}
use Rattle.std.specs.Fmt.{decimal}
use Rattle.rv_session.specs.SessionReplies.{script_bytes_consumed}
use Rattle.rv_session.proofs.session.Session.input_text.Goals as goal

four : (a b c d : List ℕ) → a ++ (b ++ (c ++ d)) ≡ ((a ++ b) ++ c) ++ d
four a b c d = sym (append_assoc a b (c ++ d)) ∙ sym (append_assoc (a ++ b) c d)

pub returns : goal.returns
returns c =
    let script = decimal c.args.self.now.script in
    let last = script ++ codes " bytes read\n" in
    let told : c.into_bytes.result.items ≡ decimal c.script_bytes_consumed-taken.result ++ (codes " of " ++ last) =
    ap (λ (bytes : Vec ℕ Global). bytes.items) c.into_bytes.ensures.value ∙ c.in_ok-text.ensures.ok in
    told ∙ ap (λ (taken : ℕ). decimal taken ++ (codes " of " ++ last)) c.script_bytes_consumed-taken.ensures
    ∙ four (decimal (script_bytes_consumed c.args.self.now)) (codes " of ") script (codes " bytes read\n")
