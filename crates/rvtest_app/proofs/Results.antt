-- Facts on results.
use Rattle.std.proofs.Common.{Ok, Err, Option, Some, None, IfSome}
use Rattle.std.specs.Prelude.{Result, IfOk, OnErr, OnOk}

pub IfOk-both : {X Y : Type 0} (r : Result X Y) (P Q R : X → Type 0) → ((x : X) → P x → Q x → R x)
    → IfOk r P → IfOk r Q → IfOk r R
IfOk-both (Ok x) P Q R both p q = both x p q
IfOk-both (Err e) P Q R both p q = tt

pub IfOk-all : {X Y : Type 0} (r : Result X Y) (P Q R S : X → Type 0) → ((x : X) → P x → Q x → R x → S x)
    → IfOk r P → IfOk r Q → IfOk r R → IfOk r S
IfOk-all (Ok x) P Q R S all p q s = all x p q s
IfOk-all (Err e) P Q R S all p q s = tt

-- a fact on what went well
pub OnOk-from : {X Y : Type 0} (r : Result X Y) (P : Type 0) → P → OnOk r P
OnOk-from (Ok x) P p = p
OnOk-from (Err e) P p = tt

pub IfOk-from : {X Y : Type 0} (r : Result X Y) (P : Type 0) → P → IfOk r (λ _. P)
IfOk-from (Ok x) P p = p
IfOk-from (Err e) P p = tt

pub OnOk-map : {X Y : Type 0} (r : Result X Y) (P Q : Type 0) → (P → Q) → OnOk r P → OnOk r Q
OnOk-map (Ok x) P Q f p = f p
OnOk-map (Err e) P Q f p = tt

-- a fact on what failed
pub OnErr-from : {X Y : Type 0} (r : Result X Y) (P : Type 0) → P → OnErr r P
OnErr-from (Ok x) P p = tt
OnErr-from (Err e) P p = p

pub OnErr-map : {X Y : Type 0} (r : Result X Y) (P Q : Type 0) → (P → Q) → OnErr r P → OnErr r Q
OnErr-map (Ok x) P Q f p = tt
OnErr-map (Err e) P Q f p = f p

-- what holds of a value, if there is one
pub IfSome-map : {X : Type 0} (o : Option X) (P Q : X → Type 0) → ((x : X) → P x → Q x) → IfSome o P → IfSome o Q
IfSome-map (Some x) P Q f p = f x p
IfSome-map None P Q f p = tt

pub IfOk-map : {X Y : Type 0} (r : Result X Y) (P Q : X → Type 0) → ((x : X) → P x → Q x) → IfOk r P → IfOk r Q
IfOk-map (Ok x) P Q f p = f x p
IfOk-map (Err e) P Q f p = tt

pub OnOk-both : {X Y : Type 0} (r : Result X Y) (P Q R : Type 0) → (P → Q → R) → OnOk r P → OnOk r Q → OnOk r R
OnOk-both (Ok x) P Q R f p q = f p q
OnOk-both (Err e) P Q R f p q = tt

-- a fact on the value, and one on what went well
pub IfOk-beside : {X Y : Type 0} (r : Result X Y) (P R : X → Type 0) (Q : Type 0) → ((x : X) → P x → Q → R x)
    → IfOk r P → OnOk r Q → IfOk r R
IfOk-beside (Ok x) P R Q beside p q = beside x p q
IfOk-beside (Err e) P R Q beside p q = tt
