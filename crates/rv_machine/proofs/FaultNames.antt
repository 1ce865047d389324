-- Each kind of fault is found by its name, so no two have one name, and the list of the kinds has them all.
use Rattle.std.proofs.Common.{◌≡◌, arith, Bool, true, false, cond, List, [], ◌∷◌, Option, Some, None}
use Rattle.std.specs.List.{find, list_all}
use Rattle.std.specs.Str.{bytes_eq}
use Rattle.std.proofs.lemmas.Bool.{and_parts}
use Rattle.rv_machine.specs.declared.ending.FaultKind.{FaultKind}
use Rattle.rv_machine.specs.Faults.{fault_kinds, fault_name, fault_named}

pub fault_named-name : (kind : FaultKind) → fault_named (fault_name kind) ≡ Some kind
fault_named-name kind = grind arith

-- what is found in a list has what all of the list have
found_here : {X : Type 0} (test : X → Bool) (found : Bool) (y x : X) (rest : Option X) → test y ≡ true
    → (rest ≡ Some x → test x ≡ true) → cond found (Some y) rest ≡ Some x → test x ≡ true
found_here test true y x rest here behind is = cc
found_here test false y x rest here behind is = behind is

found_has : {X : Type 0} (is_it test : X → Bool) (xs : List X) (x : X) → list_all test xs ≡ true
    → find is_it xs ≡ Some x → test x ≡ true
found_has is_it test [] x all is = cc
found_has is_it test (y ∷ ys) x all is =
    let parts = and_parts (test y) (list_all test ys) all in
    found_here test (is_it y) y x (find is_it ys) parts.0 (λ e. found_has is_it test ys x parts.1 e) is

-- what a test says of all kinds of the list, it says of every kind
pub every_fault : (test : FaultKind → Bool) → list_all test fault_kinds ≡ true → (kind : FaultKind) → test kind ≡ true
every_fault test all kind =
    found_has (λ other. bytes_eq (fault_name kind) (fault_name other)) test fault_kinds kind all (fault_named-name kind)
