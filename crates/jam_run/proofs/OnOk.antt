-- What holds where a call ended well.
use Rattle.std.proofs.Common.{◌≡◌, false, Result, Ok, Err, OnOk}
use Rattle.std.specs.Result.{is_err}

-- what follows from it
pub on_ok : {T E : Type 0} (r : Result T E) (P Q : Type 0) → (P → Q) → OnOk r P → OnOk r Q
on_ok (Ok x) P Q f h = f h
on_ok (Err e) P Q f h = tt

-- what follows from two things
pub on_ok_both : {T E : Type 0} (r : Result T E) (P Q R : Type 0) → (P → Q → R) → OnOk r P → OnOk r Q → OnOk r R
on_ok_both (Ok x) P Q R f h k = f h k
on_ok_both (Err e) P Q R f h k = tt

-- what holds where it didn't end otherwise
pub if_calm : {T E : Type 0} (r : Result T E) (P : Type 0) → is_err r ≡ false → OnOk r P → P
if_calm (Ok x) P calm h = h
if_calm (Err e) P calm h = absurd (cc)
