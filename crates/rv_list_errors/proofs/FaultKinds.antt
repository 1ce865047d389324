-- The kinds of faults, one by one.
use Rattle.std.proofs.Common.{◌≡◌, ◌+◌, ◌++◌, ℕ, suc, ap, arith, subst}
use Rattle.rv_list_errors.specs.NearNames.{Adds}
use Rattle.rv_list_errors.specs.Explanation.{first_fault_kinds_text, kind_text}
use Rattle.rv_list_errors.specs.declared.message.Message.{Message}
use Rattle.rv_list_errors.proofs.NamesTold.{adds_more}

next_kind : (place : ℕ) → first_fault_kinds_text place ++ kind_text place ≡ first_fault_kinds_text (place + 1)
unfolding first_fault_kinds_text
next_kind place =
    let next : suc place ≡ place + 1 = omega arith in
    ap first_fault_kinds_text next

pub one_kind_more : (first second third : Message) (place : ℕ) → Adds first second (first_fault_kinds_text place)
    → Adds second third (kind_text place) → Adds first third (first_fault_kinds_text (place + 1))
one_kind_more first second third place before here =
    subst (Adds first third) (next_kind place)
    (adds_more first second third (first_fault_kinds_text place) (kind_text place) before here)
