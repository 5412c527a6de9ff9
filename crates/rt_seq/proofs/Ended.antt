-- Operations that end without a change.
use Rattle.std.proofs.Common.{◌≡◌, List, refl, sym, ap}
use Rattle.std.specs.Prelude.{Result, IfOk}
use Rattle.std.proofs.lemmas.Result.{IfOk-weaker}
use Rattle.nu_value.specs.declared.object.Object.{Object}
use Rattle.op_forms.specs.declared.end.OpEnd.{OpEnd}
use Rattle.op_forms.specs.Doing.{Did, Doing, ends}

-- what an end that is known makes of all the doing
pub ended : {E : Type 0} (r : Result OpEnd E) (x : OpEnd) → IfOk r (λ e. e ≡ x) → IfOk r (λ e. ends x ≡ ends e)
ended r x = IfOk-weaker r (λ e. e ≡ x) (λ e. ends x ≡ ends e) (λ e h. ap ends (sym h))

pub did : {E : Type 0} (r : Result OpEnd E) (x : OpEnd) (h : List Object) → IfOk r (λ e. e ≡ x) → IfOk r (λ e. Did (ends x) h h e)
did r x h = IfOk-weaker r (λ e. e ≡ x) (λ e. Did (ends x) h h e) (λ e f. (f, refl))

-- the same doing in other words
pub turned : {E : Type 0} (r : Result OpEnd E) (d d' : Doing) (h h' : List Object) → d ≡ d' → IfOk r (λ e. Did d' h h' e) → IfOk r (λ e. Did d h h' e)
turned r d d' h h' e = IfOk-weaker r (λ x. Did d' h h' x) (λ x. Did d h h' x) (λ x f. rw e f)
