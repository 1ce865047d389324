-- Bytes are below 256.
use Rattle.std.proofs.Common.{◌≡◌, ◌<◌, ℕ, List, rules, subst, sym}
use Rattle.std.specs.List.{AllByRecursion}
use Rattle.rv_counting.proofs.OfJobs.{bytes_fit}
use Rattle.rv_counting.proofs.table_of_jobs.copy_of.Goals as goal

pub returns-clause-bytes : goal.returns-clause-bytes
returns-clause-bytes c =
    let same : c.new.result ≡ c.args.bytes.now = search rules in
    subst (λ (bs : List ℕ). AllByRecursion (λ (b : ℕ). b < 256) bs) (sym same) (bytes_fit c.args.bytes.now c.type_inv.bytes)
