-- What holds of one result by another.
use Rattle.fault_runs.proofs.Words.{Result, Ok, Err, OnOk, IfErr}

pub ok-weaker : {T E : Type 0} (P Q : Type 0) (r : Result T E) → (P → Q) → OnOk r P → OnOk r Q
ok-weaker P Q (Ok x) weaker holds = weaker holds
ok-weaker P Q (Err e) weaker holds = tt

pub err-weaker : {T E : Type 0} (P Q : E → Type 0) (r : Result T E) → ((e : E) → P e → Q e) → IfErr r P → IfErr r Q
err-weaker P Q (Ok x) weaker holds = tt
err-weaker P Q (Err e) weaker holds = weaker e holds

pub ok-always : {T E : Type 0} (P : Type 0) (r : Result T E) → P → OnOk r P
ok-always P (Ok x) holds = holds
ok-always P (Err e) holds = tt
