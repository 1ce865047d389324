use Rattle.std.proofs.Common.{◌≡◌, ◌↔◌, Bool, List, ℕ, Option, IfSome, IsTrue, bytes_eq, subst, rules}
use Rattle.std.proofs.lemmas.Slice.Eq.{bytes_eq-Decides}
use Rattle.rv_elf.specs.Rows.{accepted}
use Rattle.rv_elf.specs.Symbols.{signature_check}
use Rattle.rv_rows.specs.declared.outcome.SignatureRange.{SignatureRange}
use Rattle.rv_rows.proofs.Signatures.{IsWords, checked}
use Rattle.rv_rows.proofs.verdict.has_run_signature.Goals as goal

-- a test of equality is that of bytes
tested : (xs ys : List ℕ) (same : Bool) → IsTrue same ↔ (xs ≡ ys) → same ≡ bytes_eq xs ys
tested xs ys same says = search (rules, bytes_eq-Decides)

pub has_words-requires : goal.has_words-requires
has_words-requires c =
    let regions = c.args.run.now.bus.regions in
    let P : Option SignatureRange → Type 0 =
    λ range. IfSome range (λ there. signature_check there.begin there.end regions ≡ accepted) in
    let parts : IsWords _ _ _ = checked _ _ _ (subst P c.in-Some-Some.is-1 c.requires) in
    record { begin = parts.begins; end = parts.ends; order = parts.order; within = parts.within }

pub returns-in-Some-Some : goal.returns-in-Some-Some
returns-in-Some-Some c =
    rw (c.in-Some-Some.is-0, c.in-Some-Some.is-1) (rw c.as_slice.ensures at (tested _ _ _ c.has_words.ensures))
