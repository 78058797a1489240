-- What holds of results where there is a value.
use Rattle.std.specs.Prelude.{Result, Ok, Err, IfOk, OnOk}

-- what follows of a value
pub on_ok : {T E P Q : Type 0} (r : Result T E) → (P → Q) → OnOk r P → OnOk r Q
on_ok (Ok x) f h = f h
on_ok (Err e) f h = tt

pub on_ok_both : {T E P Q S : Type 0} (r : Result T E) → (P → Q → S) → OnOk r P → OnOk r Q → OnOk r S
on_ok_both (Ok x) f h k = f h k
on_ok_both (Err e) f h k = tt

-- what follows of each value
pub if_ok : {T E : Type 0} (P Q : T → Type 0) (r : Result T E) → ((x : T) → P x → Q x) → IfOk r P → IfOk r Q
if_ok P Q (Ok x) f h = f x h
if_ok P Q (Err e) f h = tt

-- the same, of a fact where there is a value
pub if_ok_both : {T E A : Type 0} (P Q : T → Type 0) (r : Result T E) → ((x : T) → A → P x → Q x) → OnOk r A → IfOk r P → IfOk r Q
if_ok_both P Q (Ok x) f a h = f x a h
if_ok_both P Q (Err e) f a h = tt
